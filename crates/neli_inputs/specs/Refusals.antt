-- The printed text of a refusal.
use Rattle.std.specs.Prelude.{ℕ, List, ◌++◌, codes}
use Rattle.std.specs.Fmt.{decimal}
use Rattle.neli_inputs.specs.declared.item.Refusal.{Refusal}
use Rattle.neli_inputs.specs.declared.item.Refusal.TheVariants.{FileHeader, LinkType, RecordHeader, RecordBytes}
use Rattle.neli_inputs.specs.declared.item.Refusal.TheVariants.{ByteOrder, BlockSize, NoInterface, PacketSize, Snapped}
use Rattle.neli_inputs.specs.declared.item.Refusal.TheVariants.{NotNetlink, Gap, LeftOut, NotHex}

abbrev pub refusal_text : Refusal → List ℕ
refusal_text FileHeader = codes "the input ends inside a file's header"
refusal_text (LinkType link) = codes "a file of link type " ++ decimal link
refusal_text RecordHeader = codes "the input ends inside a record's header"
refusal_text (RecordBytes count) = codes "the input ends after " ++ (decimal count ++ codes " bytes of a record")
refusal_text ByteOrder = codes "a section without the order of its bytes"
refusal_text (BlockSize size) = codes "a block that states " ++ (decimal size ++ codes " bytes")
refusal_text (NoInterface number) =
    codes "a packet of interface " ++ (decimal number ++ codes ", which is not described")
refusal_text (PacketSize size) =
    codes "a packet that states " ++ (decimal size ++ codes " bytes, more than there are")
refusal_text (Snapped length) = codes "a packet cut short from " ++ (decimal length ++ codes " bytes")
refusal_text NotNetlink = codes "a packet that is not of netlink"
refusal_text Gap = codes "an offset that is not the number of bytes before it"
refusal_text LeftOut = codes "bytes that are left out, as by a line *"
refusal_text NotHex = codes "a line that is not hexadecimal"
