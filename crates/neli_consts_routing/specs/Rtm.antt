-- The numbers of `Rtm`.
use Rattle.std.specs.Prelude.{ℕ, Bool, true, false, List, [], ◌∷◌}
use Rattle.neli_wire.specs.Constants.{first_with}
use Rattle.neli_consts_routing.specs.declared.messages.Rtm.{Rtm}
use Rattle.neli_consts_routing.specs.declared.messages.Rtm.TheVariants.{Newlink, Dellink, Getlink, Setlink, Newaddr}
use Rattle.neli_consts_routing.specs.declared.messages.Rtm.TheVariants.{Deladdr, Getaddr, Newroute, Delroute, Getroute}
use Rattle.neli_consts_routing.specs.declared.messages.Rtm.TheVariants.{Newneigh, Delneigh, Getneigh, Newrule, Delrule}
use Rattle.neli_consts_routing.specs.declared.messages.Rtm.TheVariants.{Getrule, Newqdisc, Delqdisc, Getqdisc}
use Rattle.neli_consts_routing.specs.declared.messages.Rtm.TheVariants.{Newtclass, Deltclass, Gettclass, Newtfilter}
use Rattle.neli_consts_routing.specs.declared.messages.Rtm.TheVariants.{Deltfilter, Gettfilter, Newaction, Delaction}
use Rattle.neli_consts_routing.specs.declared.messages.Rtm.TheVariants.{Getaction, Newprefix, Getmulticast, Getanycast}
use Rattle.neli_consts_routing.specs.declared.messages.Rtm.TheVariants.{Newneightbl, Getneightbl, Setneightbl}
use Rattle.neli_consts_routing.specs.declared.messages.Rtm.TheVariants.{Newnduseropt, Newaddrlabel, Deladdrlabel}
use Rattle.neli_consts_routing.specs.declared.messages.Rtm.TheVariants.{Getaddrlabel, Getdcb, Setdcb, Newnetconf}
use Rattle.neli_consts_routing.specs.declared.messages.Rtm.TheVariants.{Getnetconf, Newmdb, Delmdb, Getmdb, Newnsid}
use Rattle.neli_consts_routing.specs.declared.messages.Rtm.TheVariants.{Delnsid, Getnsid, UnrecognizedConst}

-- the number of each variant
abbrev pub rtm_number : Rtm → ℕ
rtm_number Newlink = 16
rtm_number Dellink = 17
rtm_number Getlink = 18
rtm_number Setlink = 19
rtm_number Newaddr = 20
rtm_number Deladdr = 21
rtm_number Getaddr = 22
rtm_number Newroute = 24
rtm_number Delroute = 25
rtm_number Getroute = 26
rtm_number Newneigh = 28
rtm_number Delneigh = 29
rtm_number Getneigh = 30
rtm_number Newrule = 32
rtm_number Delrule = 33
rtm_number Getrule = 34
rtm_number Newqdisc = 36
rtm_number Delqdisc = 37
rtm_number Getqdisc = 38
rtm_number Newtclass = 40
rtm_number Deltclass = 41
rtm_number Gettclass = 42
rtm_number Newtfilter = 44
rtm_number Deltfilter = 45
rtm_number Gettfilter = 46
rtm_number Newaction = 48
rtm_number Delaction = 49
rtm_number Getaction = 50
rtm_number Newprefix = 52
rtm_number Getmulticast = 58
rtm_number Getanycast = 62
rtm_number Newneightbl = 64
rtm_number Getneightbl = 66
rtm_number Setneightbl = 67
rtm_number Newnduseropt = 68
rtm_number Newaddrlabel = 72
rtm_number Deladdrlabel = 73
rtm_number Getaddrlabel = 74
rtm_number Getdcb = 78
rtm_number Setdcb = 79
rtm_number Newnetconf = 80
rtm_number Getnetconf = 82
rtm_number Newmdb = 84
rtm_number Delmdb = 85
rtm_number Getmdb = 86
rtm_number Newnsid = 88
rtm_number Delnsid = 89
rtm_number Getnsid = 90
rtm_number (UnrecognizedConst n) = n

-- the variants, in their order
abbrev pub rtm_variants : List Rtm
rtm_variants =
    Newlink ∷ Dellink ∷ Getlink ∷ Setlink ∷ Newaddr ∷ Deladdr ∷ Getaddr ∷ Newroute ∷ Delroute ∷
    Getroute ∷ Newneigh ∷ Delneigh ∷ Getneigh ∷ Newrule ∷ Delrule ∷ Getrule ∷ Newqdisc ∷ Delqdisc ∷
    Getqdisc ∷ Newtclass ∷ Deltclass ∷ Gettclass ∷ Newtfilter ∷ Deltfilter ∷ Gettfilter ∷
    Newaction ∷ Delaction ∷ Getaction ∷ Newprefix ∷ Getmulticast ∷ Getanycast ∷ Newneightbl ∷
    Getneightbl ∷ Setneightbl ∷ Newnduseropt ∷ Newaddrlabel ∷ Deladdrlabel ∷ Getaddrlabel ∷ Getdcb ∷
    Setdcb ∷ Newnetconf ∷ Getnetconf ∷ Newmdb ∷ Delmdb ∷ Getmdb ∷ Newnsid ∷ Delnsid ∷ Getnsid ∷ []

-- the first variant with a number, else the number without a name
abbrev pub rtm_of : ℕ → Rtm
rtm_of = first_with rtm_number rtm_variants UnrecognizedConst

-- whether a value is a number without a name
abbrev pub rtm_is_unrecognized : Rtm → Bool
rtm_is_unrecognized (UnrecognizedConst n) = true
rtm_is_unrecognized v = false
