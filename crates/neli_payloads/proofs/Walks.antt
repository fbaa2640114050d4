-- Walks over next hops, one after the other.
use Rattle.std.proofs.Common.{◌≡◌, ◌≢◌, ◌+◌, ◌≤◌, ℕ, List, [], length, Some, None, Ok, Err, refl, ap, arith}
use Rattle.std.specs.Prelude.{option_map}
use Rattle.neli_wire.specs.declared.errors.DeError.{DeError}
use Rattle.neli_wire.specs.Frames.{frame_at}
use Rattle.neli_wire.specs.laws.Frames.{IsPlaced, number_in-take}
use Rattle.neli_wire.specs.Place.{Place, whole}
use Rattle.neli_wire.specs.Reading.{refusal_within}
use Rattle.neli_reader.specs.Cuts.{Cut, cut_of, message_before}
use Rattle.neli_reader.specs.laws.Cuts.{cut_of-end, cut_of-message, cut_of-fault, frame_at-longer}
use Rattle.neli_payloads.specs.NextHops.{HopHead, next_hop, next_hops_at}

-- the header is in the first eight bytes
next_hop-placed : IsPlaced next_hop
next_hop-placed = record {
  own = λ s le.
      let at = λ (n : ℕ) (i : ℕ) (fits : i + n ≤ 8). number_in-take n i 8 s fits le in
      let a = at 2 0 (omega arith) in
      let b = at 1 2 (omega arith) in
      let c = at 1 3 (omega arith) in
      let d = at 4 4 (omega arith) in
      rw (a, b, c, d) refl;
}

abbrev within : {A : Type 0} → ℕ → Cut A → Cut A
within n cut = (cut.0, option_map (refusal_within n) cut.1)

pub hops-end : (place : Place) → place.rest ≡ [] → next_hops_at place ≡ ([], None)
unfolding next_hops_at
hops-end place e =
    let none : cut_of next_hop place.rest ≡ ([], None) = rw e (cut_of-end next_hop next_hop-placed (omega arith)) in
    ap (within (length (whole place))) none

pub hops-hop : (place next : Place) (h : HopHead × List ℕ) → frame_at next_hop place.rest ≡ Ok (h, next.rest)
    → whole next ≡ whole place → next_hops_at place ≡ message_before h (next_hops_at next)
unfolding next_hops_at
hops-hop place next h e same =
    rw same (ap (within (length (whole place))) (cut_of-message next_hop next_hop-placed
    (omega arith) place.rest next.rest h e))

pub hops-fault : (place : Place) (e : DeError) → place.rest ≢ [] → frame_at next_hop place.rest ≡ Err e
    → next_hops_at place ≡ ([], Some (refusal_within (length (whole place)) e))
unfolding next_hops_at
hops-fault place e any is =
    ap (within (length (whole place))) (cut_of-fault next_hop next_hop-placed (omega arith) place.rest e any is)

pub hop-longer : (s r : List ℕ) (h : HopHead × List ℕ) → frame_at next_hop s ≡ Ok (h, r) → length r + 8 ≤ length s
hop-longer = frame_at-longer next_hop next_hop-placed (omega arith)
