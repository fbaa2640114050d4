-- The numbers of `Rtnlgrp`.
use Rattle.std.specs.Prelude.{ℕ, Bool, true, false, List, [], ◌∷◌}
use Rattle.neli_wire.specs.Constants.{first_with}
use Rattle.neli_consts_linux.specs.declared.groups.Rtnlgrp.{Rtnlgrp}
use Rattle.neli_consts_linux.specs.declared.groups.Rtnlgrp.TheVariants.{None, Link, Notify, Neigh, Tc, Ipv4Ifaddr}
use Rattle.neli_consts_linux.specs.declared.groups.Rtnlgrp.TheVariants.{Ipv4Mroute, Ipv4Route, Ipv4Rule, Ipv6Ifaddr}
use Rattle.neli_consts_linux.specs.declared.groups.Rtnlgrp.TheVariants.{Ipv6Mroute, Ipv6Route, Ipv6Ifinfo, DecnetIfaddr}
use Rattle.neli_consts_linux.specs.declared.groups.Rtnlgrp.TheVariants.{Nop2, DecnetRoute, DecnetRule, Nop4, Ipv6Prefix}
use Rattle.neli_consts_linux.specs.declared.groups.Rtnlgrp.TheVariants.{Ipv6Rule, NdUseropt, PhonetIfaddr, PhonetRoute}
use Rattle.neli_consts_linux.specs.declared.groups.Rtnlgrp.TheVariants.{Dcb, Ipv4Netconf, Ipv6Netconf, Mdb, MplsRoute}
use Rattle.neli_consts_linux.specs.declared.groups.Rtnlgrp.TheVariants.{Nsid, MplsNetconf, Ipv4MrouteR, Ipv6MrouteR}
use Rattle.neli_consts_linux.specs.declared.groups.Rtnlgrp.TheVariants.{Nexthop, Brvlan, MctpIfaddr, Tunnel, Stats}
use Rattle.neli_consts_linux.specs.declared.groups.Rtnlgrp.TheVariants.{Ipv4Mcaddr, Ipv6Mcaddr, Ipv6Acaddr}
use Rattle.neli_consts_linux.specs.declared.groups.Rtnlgrp.TheVariants.{UnrecognizedConst}

-- the number of each variant
abbrev pub rtnlgrp_number : Rtnlgrp → ℕ
rtnlgrp_number None = 0
rtnlgrp_number Link = 1
rtnlgrp_number Notify = 2
rtnlgrp_number Neigh = 3
rtnlgrp_number Tc = 4
rtnlgrp_number Ipv4Ifaddr = 5
rtnlgrp_number Ipv4Mroute = 6
rtnlgrp_number Ipv4Route = 7
rtnlgrp_number Ipv4Rule = 8
rtnlgrp_number Ipv6Ifaddr = 9
rtnlgrp_number Ipv6Mroute = 10
rtnlgrp_number Ipv6Route = 11
rtnlgrp_number Ipv6Ifinfo = 12
rtnlgrp_number DecnetIfaddr = 13
rtnlgrp_number Nop2 = 14
rtnlgrp_number DecnetRoute = 15
rtnlgrp_number DecnetRule = 16
rtnlgrp_number Nop4 = 17
rtnlgrp_number Ipv6Prefix = 18
rtnlgrp_number Ipv6Rule = 19
rtnlgrp_number NdUseropt = 20
rtnlgrp_number PhonetIfaddr = 21
rtnlgrp_number PhonetRoute = 22
rtnlgrp_number Dcb = 23
rtnlgrp_number Ipv4Netconf = 24
rtnlgrp_number Ipv6Netconf = 25
rtnlgrp_number Mdb = 26
rtnlgrp_number MplsRoute = 27
rtnlgrp_number Nsid = 28
rtnlgrp_number MplsNetconf = 29
rtnlgrp_number Ipv4MrouteR = 30
rtnlgrp_number Ipv6MrouteR = 31
rtnlgrp_number Nexthop = 32
rtnlgrp_number Brvlan = 33
rtnlgrp_number MctpIfaddr = 34
rtnlgrp_number Tunnel = 35
rtnlgrp_number Stats = 36
rtnlgrp_number Ipv4Mcaddr = 37
rtnlgrp_number Ipv6Mcaddr = 38
rtnlgrp_number Ipv6Acaddr = 39
rtnlgrp_number (UnrecognizedConst n) = n

-- the variants, in their order
abbrev pub rtnlgrp_variants : List Rtnlgrp
rtnlgrp_variants =
    None ∷ Link ∷ Notify ∷ Neigh ∷ Tc ∷ Ipv4Ifaddr ∷ Ipv4Mroute ∷ Ipv4Route ∷ Ipv4Rule ∷ Ipv6Ifaddr
    ∷ Ipv6Mroute ∷ Ipv6Route ∷ Ipv6Ifinfo ∷ DecnetIfaddr ∷ Nop2 ∷ DecnetRoute ∷ DecnetRule ∷ Nop4 ∷
    Ipv6Prefix ∷ Ipv6Rule ∷ NdUseropt ∷ PhonetIfaddr ∷ PhonetRoute ∷ Dcb ∷ Ipv4Netconf ∷ Ipv6Netconf
    ∷ Mdb ∷ MplsRoute ∷ Nsid ∷ MplsNetconf ∷ Ipv4MrouteR ∷ Ipv6MrouteR ∷ Nexthop ∷ Brvlan ∷
    MctpIfaddr ∷ Tunnel ∷ Stats ∷ Ipv4Mcaddr ∷ Ipv6Mcaddr ∷ Ipv6Acaddr ∷ []

-- the first variant with a number, else the number without a name
abbrev pub rtnlgrp_of : ℕ → Rtnlgrp
rtnlgrp_of = first_with rtnlgrp_number rtnlgrp_variants UnrecognizedConst

-- whether a value is a number without a name
abbrev pub rtnlgrp_is_unrecognized : Rtnlgrp → Bool
rtnlgrp_is_unrecognized (UnrecognizedConst n) = true
rtnlgrp_is_unrecognized v = false
