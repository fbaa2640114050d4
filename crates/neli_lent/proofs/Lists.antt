-- The items lent one by one are those of the owned list.
use Rattle.std.proofs.Common.{◌≡◌, ◌≢◌, ◌<◌, ℕ, List, [], ◌∷◌, length, Option, Some}
use Rattle.std.proofs.Common.{None, Ok, Err, refl, sym, ap, subst, ◌∙◌, arith}
use Rattle.std.specs.Prelude.{option_map}
use Rattle.neli_wire.specs.declared.errors.DeError.{DeError}
use Rattle.neli_wire.specs.Reading.{refusal_within}
use Rattle.neli_wire.specs.laws.FrameLists.{frames-list, frames-refusal}
use Rattle.neli_attr.specs.Attributes.{Attr, attributes_in}
use Rattle.neli_attr.specs.laws.Attributes.{attribute-placed}
use Rattle.neli_reader.specs.Cuts.{Cut, Cuts, cut_of}
use Rattle.neli_reader.specs.laws.Cuts.{cut_of-Cuts, whole_frames}
use Rattle.neli_lent.specs.Attributes.{attributes_at, lent_attribute}

some-byte : (s : List ℕ) → s ≢ [] → 0 < length s
some-byte [] any = absurd (any refl)
some-byte (b ∷ s) any = omega arith

module _ {K : Type 0} (kind_of : ℕ → K) where
  abbrev Attrs : Type 0
  Attrs = List (Attr K (List ℕ))

  abbrev values : Attrs × Option DeError → Attrs
  values cut = cut.0

  abbrev fault : Attrs × Option DeError → Option DeError
  fault cut = cut.1

  abbrev within : ℕ → Attrs × Option DeError → Attrs × Option DeError
  within n cut = (cut.0, option_map (refusal_within n) cut.1)

  read_by : (s : List ℕ) (cut : Cut (Attr K (List ℕ))) (attrs : Attrs) → Cuts (lent_attribute kind_of) s cut.0 cut.1
      → within (length s) cut ≡ (attrs, None) → attributes_in kind_of s ≡ Ok attrs
  read_by s (ms, None) attrs cuts e =
      frames-list (lent_attribute kind_of) (attribute-placed kind_of _) (omega arith) s ms
      (whole_frames (lent_attribute kind_of) s ms cuts) ∙ ap (λ (x : Attrs). Ok x) (ap values e)
  read_by s (ms, Some d) attrs cuts e = let clash = ap fault e in absurd cc

  refused_by : (s : List ℕ) (cut : Cut (Attr K (List ℕ))) (attrs : Attrs) (f : DeError)
      → Cuts (lent_attribute kind_of) s cut.0 cut.1 → within (length s) cut ≡ (attrs, Some f)
      → attributes_in kind_of s ≡ Err f
  refused_by s (ms, None) attrs f cuts e = let clash = ap fault e in absurd cc
  refused_by s (ms, Some d) attrs f cuts e =
      let at = frames-refusal (lent_attribute kind_of) (attribute-placed kind_of _)
      (omega arith) cuts.0 cuts.1 ms d cuts.3 (some-byte cuts.1 cuts.4.0) cuts.4.1 in
      let here : attributes_in kind_of s ≡ Err (refusal_within (length s) d) =
      subst (λ (x : List ℕ). attributes_in kind_of x ≡ Err (refusal_within (length x) d)) (sym cuts.2) at in
      let last : refusal_within (length s) d ≡ f = let same = ap fault e in cc in
      here ∙ ap (λ (x : DeError). Err x) last

  cuts_at : (s : List ℕ) → Cuts (lent_attribute kind_of) s (cut_of (lent_attribute kind_of) s).0
      (cut_of (lent_attribute kind_of) s).1
  cuts_at = cut_of-Cuts (lent_attribute kind_of) (attribute-placed kind_of _) (omega arith)

  pub list-read : (s : List ℕ) (attrs : Attrs) → attributes_at kind_of (record { before = []; rest = s })
      ≡ (attrs, None) → attributes_in kind_of s ≡ Ok attrs
  unfolding attributes_at
  list-read s attrs e = read_by s (cut_of (lent_attribute kind_of) s) attrs (cuts_at s) e

  pub list-refused : (s : List ℕ) (attrs : Attrs) (f : DeError)
      → attributes_at kind_of (record { before = []; rest = s }) ≡ (attrs, Some f) → attributes_in kind_of s ≡ Err f
  unfolding attributes_at
  list-refused s attrs f e = refused_by s (cut_of (lent_attribute kind_of) s) attrs f (cuts_at s) e
