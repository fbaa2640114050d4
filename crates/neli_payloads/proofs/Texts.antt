-- The bytes of a text, one after the other, after those that stand already.
use Rattle.std.proofs.Common.{◌≡◌, ℕ, suc, ◌<◌, false, nat_eq, List, [], ◌∷◌, ◌++◌, drop, length, get_or, Option, Some}
use Rattle.std.proofs.Common.{None, refl, sym, ap, append_assoc, arith}
use Rattle.std.specs.Prelude.{option_map}
use Rattle.neli_payloads.specs.HardwareText.{byte_before, bytes_of_text, with_later}

abbrev pub after : List ℕ → Option (List ℕ) → Option (List ℕ)
after front o = option_map (λ bs. front ++ bs) o

fuse : (front : List ℕ) (b : ℕ) (o : Option (List ℕ)) → after front (option_map (λ bs. b ∷ bs) o)
    ≡ after (front ++ b ∷ []) o
fuse front b None = refl
fuse front b (Some bs) = ap (λ (l : List ℕ). Some l) (sym (append_assoc front (b ∷ []) bs))

with-more : (tail : List ℕ) (b : ℕ) (later : List ℕ → Option (List ℕ)) → 0 < length tail → get_or tail 0 0 ≡ 58
    → with_later (Some b) tail later ≡ option_map (λ bs. b ∷ bs) (later (drop 1 tail))
with-more [] b later l e = absurd (omega (arith, l))
with-more (c ∷ tail) b later l e = rw e refl

with-other : (tail : List ℕ) (b : ℕ) (later : List ℕ → Option (List ℕ)) → 0 < length tail
    → nat_eq (get_or tail 0 0) 58 ≡ false → with_later (Some b) tail later ≡ None
with-other [] b later l e = absurd (omega (arith, l))
with-other (c ∷ tail) b later l e = rw e refl

-- there is room for one byte more
module _ (front : List ℕ) (m n : ℕ) (room : m ≡ suc n) (s : List ℕ) where
  pub text-none : byte_before s ≡ None → after front (bytes_of_text m s) ≡ None
  unfolding bytes_of_text
  text-none e = rw (room, e) refl

  module _ (b : ℕ) (tail : List ℕ) (is : byte_before s ≡ Some b) (rest : tail ≡ drop 2 s) where
    pub text-end : tail ≡ [] → after front (bytes_of_text m s) ≡ Some (front ++ b ∷ [])
    unfolding bytes_of_text
    text-end e = rw (room, is, ← rest, e) refl

    pub text-more : 0 < length tail → get_or tail 0 0 ≡ 58
        → after front (bytes_of_text m s) ≡ after (front ++ b ∷ []) (bytes_of_text n (drop 1 tail))
    unfolding bytes_of_text
    text-more l e = rw (room, is, ← rest, with-more tail b (bytes_of_text n) l e)
        (fuse front b (bytes_of_text n (drop 1 tail)))

    pub text-other : 0 < length tail → nat_eq (get_or tail 0 0) 58 ≡ false → after front (bytes_of_text m s) ≡ None
    unfolding bytes_of_text
    text-other l e = rw (room, is, ← rest, with-other tail b (bytes_of_text n) l e) refl

pub text-full : (front s : List ℕ) (m : ℕ) → m ≡ 0 → after front (bytes_of_text m s) ≡ None
unfolding bytes_of_text
text-full front s m e = rw e refl

pub nothing : (xs : List ℕ) → length xs ≡ 0 → xs ≡ []
nothing [] e = refl
nothing (x ∷ xs) e = absurd (omega (arith, e))
