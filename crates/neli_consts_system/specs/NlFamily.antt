-- The numbers of `NlFamily`.
use Rattle.std.specs.Prelude.{ℤ, pos, Bool, true, false, List, [], ◌∷◌}
use Rattle.neli_wire.specs.Constants.{first_with_int}
use Rattle.neli_consts_system.specs.declared.socket.NlFamily.{NlFamily}
use Rattle.neli_consts_system.specs.declared.socket.NlFamily.TheVariants.{Route, Unused, Usersock, Firewall}
use Rattle.neli_consts_system.specs.declared.socket.NlFamily.TheVariants.{SockOrInetDiag, Nflog, Xfrm, Selinux}
use Rattle.neli_consts_system.specs.declared.socket.NlFamily.TheVariants.{Iscsi, Audit, FibLookup, Connector}
use Rattle.neli_consts_system.specs.declared.socket.NlFamily.TheVariants.{Netfilter, Ip6Fw, Dnrtmsg, KobjectUevent}
use Rattle.neli_consts_system.specs.declared.socket.NlFamily.TheVariants.{Generic, Scsitransport, Ecryptfs, Rdma}
use Rattle.neli_consts_system.specs.declared.socket.NlFamily.TheVariants.{Crypto, UnrecognizedConst}

-- the number of each variant
abbrev pub nl_family_number : NlFamily → ℤ
nl_family_number Route = pos 0
nl_family_number Unused = pos 1
nl_family_number Usersock = pos 2
nl_family_number Firewall = pos 3
nl_family_number SockOrInetDiag = pos 4
nl_family_number Nflog = pos 5
nl_family_number Xfrm = pos 6
nl_family_number Selinux = pos 7
nl_family_number Iscsi = pos 8
nl_family_number Audit = pos 9
nl_family_number FibLookup = pos 10
nl_family_number Connector = pos 11
nl_family_number Netfilter = pos 12
nl_family_number Ip6Fw = pos 13
nl_family_number Dnrtmsg = pos 14
nl_family_number KobjectUevent = pos 15
nl_family_number Generic = pos 16
nl_family_number Scsitransport = pos 18
nl_family_number Ecryptfs = pos 19
nl_family_number Rdma = pos 20
nl_family_number Crypto = pos 21
nl_family_number (UnrecognizedConst n) = n

-- the variants, in their order
abbrev pub nl_family_variants : List NlFamily
nl_family_variants =
    Route ∷ Unused ∷ Usersock ∷ Firewall ∷ SockOrInetDiag ∷ Nflog ∷ Xfrm ∷ Selinux ∷ Iscsi ∷ Audit ∷
    FibLookup ∷ Connector ∷ Netfilter ∷ Ip6Fw ∷ Dnrtmsg ∷ KobjectUevent ∷ Generic ∷ Scsitransport ∷
    Ecryptfs ∷ Rdma ∷ Crypto ∷ []

-- the first variant with a number, else the number without a name
abbrev pub nl_family_of : ℤ → NlFamily
nl_family_of = first_with_int nl_family_number nl_family_variants UnrecognizedConst

-- whether a value is a number without a name
abbrev pub nl_family_is_unrecognized : NlFamily → Bool
nl_family_is_unrecognized (UnrecognizedConst n) = true
nl_family_is_unrecognized v = false
