-- Bytes that are read or written one part after the other.
use Rattle.std.proofs.Common.{◌≡◌, ◌+◌, ◌≤◌, ◌<◌, ℕ, List, [], ◌++◌, length, Option, Some, None, sym, ap, ◌∙◌}
use Rattle.std.proofs.Common.{append_assoc, length-append, arith}
use Rattle.std.specs.Io.KnownBytes.{Appends, Consumes}
use Rattle.std.proofs.lemmas.List.{append-nil}
use Rattle.neli_program.specs.Inputs.{HasAtLeast}

pub appends_none : (a : Option (List ℕ)) → Appends a a []
appends_none None = tt
appends_none (Some x) = sym (append-nil x)

pub appends_more : (a b c : Option (List ℕ)) (xs ys : List ℕ) → Appends a b xs → Appends b c ys → Appends a c (xs ++ ys)
appends_more None b c xs ys p q = tt
appends_more (Some x) None c xs ys p q = absurd p
appends_more (Some x) (Some y) None xs ys p q = absurd q
appends_more (Some x) (Some y) (Some z) xs ys p q = q ∙ rw p (append_assoc x xs ys)

-- a reader that gave so many bytes had them
pub consumes_long : (a c : Option (List ℕ)) (bs : List ℕ) (n : ℕ) → Consumes a c bs → n ≤ length bs → HasAtLeast n a
consumes_long None c bs n p h = tt
consumes_long (Some x) None bs n p h = absurd p
consumes_long (Some x) (Some y) bs n p h = omega (arith, ap length p, length-append bs y, h)

-- a read that gave some bytes makes them more
pub longer : (bs xs : List ℕ) (n count : ℕ) → n ≤ length bs → 0 < count → count ≡ length xs → n + 1 ≤ length (bs ++ xs)
longer bs xs n count h some is = omega (arith, h, some, is, length-append bs xs)
