-- The records of a pcap file.
use Rattle.std.proofs.Common.{◌≡◌, ℕ, ◌+◌, ◌<◌, List, [], ◌∷◌, ◌++◌, length, drop, refl, subst, sym}
use Rattle.neli_inputs.specs.declared.item.Item.{Item}
use Rattle.neli_inputs.specs.declared.pcap.Records.{Records}
use Rattle.neli_inputs.specs.Pcap.{AreRecords, end_in, item_at}

-- one record more
pub AreRecords-append : (records : Records) (file : List ℕ) (place : ℕ) (items : List Item) (mid : ℕ)
    → AreRecords records file place items mid → mid < length file
    → AreRecords records file place (items ++ item_at records file mid ∷ []) (mid + end_in records.order (drop mid file))
AreRecords-append records file place [] mid e within =
    let P : ℕ → Type 0 = λ m. (m < length file) × (item_at records file mid ≡ item_at records file m)
    × (m + end_in records.order (drop m file) ≡ mid + end_in records.order (drop mid file)) in
    subst P (sym e) (within, refl, refl)
AreRecords-append records file place (item ∷ items) mid are within = (
  are.0,
  are.1,
  AreRecords-append records file
      (place + end_in records.order (drop place file)) items mid are.2 within,
)
