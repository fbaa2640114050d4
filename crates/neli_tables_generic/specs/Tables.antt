-- Which tables of families of generic netlink there are, and their names.
-- Written by `tables/into-crates`.
use Rattle.std.specs.Prelude.{ℕ, ◌≡◌, List, [], ◌∷◌, ◌++◌, length, take, codes}
use Rattle.std.specs.Prelude.{Option, find}
use Rattle.std.specs.Str.{bytes_eq}
use Rattle.neli_tables_generic.specs.declared.table.GenericTable.{GenericTable}
use Rattle.neli_tables_generic.specs.declared.table.GenericTable.TheVariants as table

-- all of them
unfoldable pub all : List GenericTable
all =
    table.Devlink ∷
    table.Dpll ∷
    table.Ethtool ∷
    table.Fou ∷
    table.Handshake ∷
    table.Ioam6 ∷
    table.Ipvs ∷
    table.L2tp ∷
    table.Macsec ∷
    table.MptcpPm ∷
    table.Netdev ∷
    table.Nfsd ∷
    table.Nl80211 ∷
    table.Nlctrl ∷
    table.OvsDatapath ∷
    table.OvsFlow ∷
    table.OvsVport ∷
    table.Seg6 ∷
    table.TcpMetrics ∷
    table.Team ∷
    table.Wireguard ∷
    []

-- the name of a table
abbrev pub name_of : GenericTable → List ℕ
name_of table.Devlink = codes "devlink"
name_of table.Dpll = codes "dpll"
name_of table.Ethtool = codes "ethtool"
name_of table.Fou = codes "fou"
name_of table.Handshake = codes "handshake"
name_of table.Ioam6 = codes "ioam6"
name_of table.Ipvs = codes "ipvs"
name_of table.L2tp = codes "l2tp"
name_of table.Macsec = codes "macsec"
name_of table.MptcpPm = codes "mptcp_pm"
name_of table.Netdev = codes "netdev"
name_of table.Nfsd = codes "nfsd"
name_of table.Nl80211 = codes "nl80211"
name_of table.Nlctrl = codes "nlctrl"
name_of table.OvsDatapath = codes "ovs_datapath"
name_of table.OvsFlow = codes "ovs_flow"
name_of table.OvsVport = codes "ovs_vport"
name_of table.Seg6 = codes "seg6"
name_of table.TcpMetrics = codes "tcp_metrics"
name_of table.Team = codes "team"
name_of table.Wireguard = codes "wireguard"

-- the first lines of a table's text, up to that of its family
abbrev pub heading_of : GenericTable → List ℕ
heading_of table.Devlink =
    codes "# Written by from-specs from the specification devlink.yaml of Linux 6.12 and "
    ++ codes "own/devlink.table.\n\nfamily devlink 16 version=1\n"
heading_of table.Dpll =
    codes "# Written by from-specs from the specification dpll.yaml of Linux 6.12.\n\n"
    ++ codes "family dpll 16 version=1\n"
heading_of table.Ethtool =
    codes "# Written by from-specs from the specification ethtool.yaml of Linux 6.12 and "
    ++ codes "own/ethtool.table.\n\nfamily ethtool 16 version=1\n"
heading_of table.Fou =
    codes "# Written by from-specs from the specification fou.yaml of Linux 6.12 and "
    ++ codes "own/fou.table.\n\nfamily fou 16 version=1\n"
heading_of table.Handshake =
    codes "# Written by from-specs from the specification handshake.yaml of Linux 6.12.\n\n"
    ++ codes "family handshake 16 version=1\n"
heading_of table.Ioam6 =
    codes "# Operations, administration and maintenance in IPv6 (linux/ioam6_genl.h). "
    ++ codes "Written by hand from the headers.\n\nfamily IOAM6 16 version=1\n"
heading_of table.Ipvs =
    codes "# Written by hand from the headers.\n\nfamily IPVS 16 version=1\n"
heading_of table.L2tp =
    codes "# Written by hand from the headers.\n\nfamily l2tp 16 version=1\n"
heading_of table.Macsec =
    codes "# Written by hand from the headers.\n\nfamily macsec 16 version=1\n"
heading_of table.MptcpPm =
    codes "# Written by from-specs from the specification mptcp_pm.yaml of Linux 6.12 and "
    ++ codes "own/mptcp_pm.table.\n\nfamily mptcp_pm 16 version=1\n"
heading_of table.Netdev =
    codes "# Written by from-specs from the specification netdev.yaml of Linux 6.12.\n\n"
    ++ codes "family netdev 16 version=1\n"
heading_of table.Nfsd =
    codes "# Written by from-specs from the specification nfsd.yaml of Linux 6.12.\n\n"
    ++ codes "family nfsd 16 version=1\n"
heading_of table.Nl80211 =
    codes "# Written by hand from the headers.\n\nfamily nl80211 16 version=1\n"
heading_of table.Nlctrl =
    codes "# Written by from-specs from the specification nlctrl.yaml of Linux 6.12 and "
    ++ codes "own/nlctrl.table.\n\nfamily nlctrl 16 version=1 id=16\n"
heading_of table.OvsDatapath =
    codes "# Written by from-specs from the specification ovs_datapath.yaml of Linux "
    ++ codes "6.12.\n\nfamily ovs_datapath 16 version=2\n"
heading_of table.OvsFlow =
    codes "# Written by from-specs from the specification ovs_flow.yaml of Linux 6.12 and "
    ++ codes "own/ovs_flow.table.\n\nfamily ovs_flow 16 version=1\n"
heading_of table.OvsVport =
    codes "# Written by from-specs from the specification ovs_vport.yaml of Linux 6.12 and "
    ++ codes "own/ovs_vport.table.\n\nfamily ovs_vport 16 version=2\n"
heading_of table.Seg6 =
    codes "# Segments of IPv6 routing (linux/seg6_genl.h). Written by hand from the "
    ++ codes "headers.\n\nfamily SEG6 16 version=1\n"
heading_of table.TcpMetrics =
    codes "# Written by from-specs from the specification tcp_metrics.yaml of Linux "
    ++ codes "6.12.\n\nfamily tcp_metrics 16 version=1\n"
heading_of table.Team =
    codes "# Written by from-specs from the specification team.yaml of Linux 6.12 and "
    ++ codes "own/team.table.\n\nfamily team 16 version=1\n"
heading_of table.Wireguard =
    codes "# Written by hand from the headers.\n\nfamily wireguard 16 version=1\n"

-- a text begins with these bytes
abbrev pub Begins : List ℕ → List ℕ → Type 0
Begins text heading = take (length heading) text ≡ heading

-- the table with this name
abbrev pub table_named : List ℕ → Option GenericTable
table_named name = find (λ t. bytes_eq (name_of t) name) all
