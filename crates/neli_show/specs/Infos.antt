-- What the program says of itself.
use Rattle.std.specs.Prelude.{ℕ, ◌||◌, List, codes, bytes_eq, if◌then◌else◌, Option, Some, None}
use Rattle.neli_show.specs.declared.info.Info.{Info}
use Rattle.neli_show.specs.declared.info.Info.TheVariants as info

-- the words that ask for it
abbrev pub named_info : List ℕ → Option Info
named_info word =
    if bytes_eq word (codes "-h") || bytes_eq word (codes "--help") then Some info.Help
    else (if bytes_eq word (codes "--version") then Some info.Version else None)

-- what is printed
abbrev pub info_text : Info → List ℕ
info_text info.Help =
    codes "usage: neli_show [OPTIONS] [PROTOCOL] < FILE\nPrints netlink messages with the names of the kernel's headers.\n\nFILE is a recording (pcap, pcapng), a dump as text (xxd, hexdump -C, od -Ax -tx1,\ntcpdump, tshark -x, strace -e read=all -e write=all, plain hexadecimal), or raw bytes.\nPROTOCOL is of an input that states none: route (the default), connector,\ngeneric, generic:FAMILY=ID, or a number of linux/netlink.h.\n\n--json          a line of JSON for each message; also json\n--color[=WHEN]  names in colours: always (if WHEN is not given), auto, never; also color\n-h, --help      this text\n--version       the version\n\nEnds with 0 if all is messages, 1 if a part is none or the input or the output failed,\n2 if it is not used so, 3 if memory ran out.\n"
info_text info.Version = codes "neli_show 0.1.0\n"
