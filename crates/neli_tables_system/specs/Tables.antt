-- Which tables of filters, sockets, IPsec, processes and every protocol there are, and their names.
-- Written by `tables/into-crates`.
use Rattle.std.specs.Prelude.{ℕ, ◌≡◌, List, [], ◌∷◌, ◌++◌, length, take, codes}
use Rattle.std.specs.Prelude.{Option, find}
use Rattle.std.specs.Str.{bytes_eq}
use Rattle.neli_tables_system.specs.declared.table.SystemTable.{SystemTable}
use Rattle.neli_tables_system.specs.declared.table.SystemTable.TheVariants as table

-- all of them
unfoldable pub all : List SystemTable
all =
    table.Conntrack ∷
    table.Ipset ∷
    table.Nflog ∷
    table.Nfqueue ∷
    table.Nftables ∷
    table.Nlmsg ∷
    table.ProcEvent ∷
    table.SockDiag ∷
    table.Xfrm ∷
    []

-- the name of a table
abbrev pub name_of : SystemTable → List ℕ
name_of table.Conntrack = codes "conntrack"
name_of table.Ipset = codes "ipset"
name_of table.Nflog = codes "nflog"
name_of table.Nfqueue = codes "nfqueue"
name_of table.Nftables = codes "nftables"
name_of table.Nlmsg = codes "nlmsg"
name_of table.ProcEvent = codes "proc_event"
name_of table.SockDiag = codes "sock_diag"
name_of table.Xfrm = codes "xfrm"

-- the first lines of a table's text, up to that of its family
abbrev pub heading_of : SystemTable → List ℕ
heading_of table.Conntrack =
    codes "# Written by hand from the headers.\n\nfamily conntrack 12\n"
heading_of table.Ipset =
    codes "# Sets of addresses (linux/netfilter/ipset/ip_set.h). Written by hand from the "
    ++ codes "headers.\n\nfamily ipset 12\n"
heading_of table.Nflog =
    codes "# Written by hand from the headers.\n\nfamily nflog 12\n"
heading_of table.Nfqueue =
    codes "# Written by hand from the headers.\n\nfamily nfqueue 12\n"
heading_of table.Nftables =
    codes "# Written by from-specs from the specification nftables.yaml of Linux 6.12 and "
    ++ codes "own/nftables.table.\n\nfamily nftables 12\n"
heading_of table.Nlmsg =
    codes "# Written by hand from the headers.\n\nfamily nlmsg\n"
heading_of table.ProcEvent =
    codes "# Written by hand from the headers.\n\nfamily proc-event 11 id=1 at=20..24\n"
heading_of table.SockDiag =
    codes "# Written by hand from the headers.\n\nfamily sock-diag 4\n"
heading_of table.Xfrm =
    codes "# Written by hand from the headers.\n\nfamily xfrm 6\n"

-- a text begins with these bytes
abbrev pub Begins : List ℕ → List ℕ → Type 0
Begins text heading = take (length heading) text ≡ heading

-- the table with this name
abbrev pub table_named : List ℕ → Option SystemTable
table_named name = find (λ t. bytes_eq (name_of t) name) all
