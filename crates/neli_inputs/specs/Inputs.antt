-- The kinds of inputs.
use Rattle.std.specs.Prelude.{◌≡◌, ℕ, Bool, true, false, ◌==◌, List, [], ◌∷◌, length, Option, Some, None}
use Rattle.std.specs.List.{list_any}
use Rattle.neli_inputs.specs.declared.item.Item.{Item}
use Rattle.neli_inputs.specs.declared.order.Order.{Order}
use Rattle.neli_inputs.specs.Items.{bare_item}
use Rattle.neli_inputs.specs.Pcap.{ArePcapItems, order_of}
use Rattle.neli_inputs.specs.Pcapng.{is_pcapng, pcapng_items}
use Rattle.neli_inputs.specs.Text.{IsText}

-- the item of so many raw bytes
abbrev pub raw_item : ℕ → Item
raw_item length = bare_item 0 0 length

-- the bytes that were read of an input, and its items: a pcap file in this order, or else a pcapng file, or else raw
-- bytes if one is 0, or else a text
abbrev pub IsInputBy : Option Order → Bool → Bool → List ℕ → List ℕ → List Item → Type 0
IsInputBy (Some order) has_section has_zero input bytes items = (bytes ≡ input) × ArePcapItems order input items
IsInputBy None true has_zero input bytes items = (bytes ≡ input) × (items ≡ pcapng_items input)
IsInputBy None false true input bytes items = (bytes ≡ input) × (items ≡ raw_item (length input) ∷ [])
IsInputBy None false false input bytes items = IsText input bytes items

-- the bytes that were read of an input, and its items
abbrev pub IsInput : List ℕ → List ℕ → List Item → Type 0
IsInput input bytes items =
    IsInputBy (order_of input) (is_pcapng input) (list_any (λ b. b == 0) input) input bytes items
