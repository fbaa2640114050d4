-- Which tables of routing and traffic control there are, and their names.
-- Written by `tables/into-crates`.
use Rattle.std.specs.Prelude.{ℕ, ◌≡◌, List, [], ◌∷◌, ◌++◌, length, take, codes}
use Rattle.std.specs.Prelude.{Option, find}
use Rattle.std.specs.Str.{bytes_eq}
use Rattle.neli_tables_routing.specs.declared.table.RoutingTable.{RoutingTable}
use Rattle.neli_tables_routing.specs.declared.table.RoutingTable.TheVariants as table

-- all of them
unfoldable pub all : List RoutingTable
all =
    table.RtAddr ∷
    table.RtAddrlabel ∷
    table.RtBridge ∷
    table.RtDcb ∷
    table.RtLink ∷
    table.RtNeigh ∷
    table.RtNetconf ∷
    table.RtNsid ∷
    table.RtPrefix ∷
    table.RtReport ∷
    table.RtRoute ∷
    table.RtRule ∷
    table.RtTunnel ∷
    table.Tc ∷
    []

-- the name of a table
abbrev pub name_of : RoutingTable → List ℕ
name_of table.RtAddr = codes "rt_addr"
name_of table.RtAddrlabel = codes "rt_addrlabel"
name_of table.RtBridge = codes "rt_bridge"
name_of table.RtDcb = codes "rt_dcb"
name_of table.RtLink = codes "rt_link"
name_of table.RtNeigh = codes "rt_neigh"
name_of table.RtNetconf = codes "rt_netconf"
name_of table.RtNsid = codes "rt_nsid"
name_of table.RtPrefix = codes "rt_prefix"
name_of table.RtReport = codes "rt_report"
name_of table.RtRoute = codes "rt_route"
name_of table.RtRule = codes "rt_rule"
name_of table.RtTunnel = codes "rt_tunnel"
name_of table.Tc = codes "tc"

-- the first lines of a table's text, up to that of its family
abbrev pub heading_of : RoutingTable → List ℕ
heading_of table.RtAddr =
    codes "# Written by from-specs from the specification rt_addr.yaml of Linux 6.12 and "
    ++ codes "own/rt_addr.table.\n\nfamily rt-addr 0\n"
heading_of table.RtAddrlabel =
    codes "# Written by hand from the headers.\n\nfamily rt-addrlabel 0\n"
heading_of table.RtBridge =
    codes "# Written by hand from the headers.\n\nfamily rt-bridge 0\n"
heading_of table.RtDcb =
    codes "# Written by hand from the headers (linux/dcbnl.h).\n\nfamily rt-dcb 0\n"
heading_of table.RtLink =
    codes "# Written by from-specs from the specification rt_link.yaml of Linux 6.12 and "
    ++ codes "own/rt_link.table.\n\nfamily rt-link 0\n"
heading_of table.RtNeigh =
    codes "# Written by hand from the headers.\n\nfamily rt-neigh 0\n"
heading_of table.RtNetconf =
    codes "# Written by hand from the headers.\n\nfamily rt-netconf 0\n"
heading_of table.RtNsid =
    codes "# Written by hand from the headers.\n\nfamily rt-nsid 0\n"
heading_of table.RtPrefix =
    codes "# Written by hand from the headers (linux/rtnetlink.h).\n\nfamily rt-prefix 0\n"
heading_of table.RtReport =
    codes "# Written by hand from the headers (linux/mroute.h, linux/mroute6.h).\n\nfamily "
    ++ codes "rt-report 0\n"
heading_of table.RtRoute =
    codes "# Written by from-specs from the specification rt_route.yaml of Linux 6.12 and "
    ++ codes "own/rt_route.table.\n\nfamily rt-route 0\n"
heading_of table.RtRule =
    codes "# Written by hand from the headers.\n\nfamily rt-rule 0\n"
heading_of table.RtTunnel =
    codes "# Written by hand from the headers (linux/if_link.h).\n\nfamily rt-tunnel 0\n"
heading_of table.Tc =
    codes "# Written by from-specs from the specification tc.yaml of Linux 6.12 and "
    ++ codes "own/tc.table.\n\nfamily tc 0\n"

-- a text begins with these bytes
abbrev pub Begins : List ℕ → List ℕ → Type 0
Begins text heading = take (length heading) text ≡ heading

-- the table with this name
abbrev pub table_named : List ℕ → Option RoutingTable
table_named name = find (λ t. bytes_eq (name_of t) name) all
