-- Laws of readings, which the impls cite.
use Rattle.std.proofs.Common.{◌≡◌, ◌≢◌, [], ℕ, ◌≤◌, ◌+◌, Bool, true, false, cond}
use Rattle.std.proofs.Common.{ltb, List, ◌++◌, length, take, drop, Result, Ok, Err, refl}
use Rattle.std.proofs.Common.{sym, ap, subst, ◌∙◌, append_assoc, arith, length-append, length-drop}
use Rattle.std.proofs.lemmas.Bool.{ltb-false, le-ltb}
use Rattle.std.proofs.lemmas.List.{take_at, drop_at, take-append-drop, length-take-le}
use Rattle.neli_wire.specs.declared.errors.DeError.{DeError}
use Rattle.neli_wire.specs.declared.errors.DeError.TheVariants.{Msg, Io, Utf8, InvalidInput, Memory}
use Rattle.byteorder.specs.Endian.{little_number}
use Rattle.neli_wire.specs.Bytes.{Reading, bytes_at, short}
use Rattle.neli_wire.specs.Refusals.{Refuses}
use Rattle.neli_wire.specs.Reading.{◌>>=◌, IsLocal, and_then, value_at, number_at}

-- the parts of a reading that gives a value
pub bind_ok : {A B : Type 0} (r : Result A DeError) (f : A → Result B DeError) (y : B) → (r >>= f) ≡ Ok y
    → (x : A) × (r ≡ Ok x) × (f x ≡ Ok y)
bind_ok (Ok x) f y e = (x, refl, e)
bind_ok (Err d) f y e = absurd cc

-- a test that is passed
pub guard_ok : {A : Type 0} (b : Bool) (d : DeError) (x : Result A DeError) (y : A) → cond b (Err d) x ≡ Ok y
    → (b ≡ false) × (x ≡ Ok y)
guard_ok true d x y e = absurd cc
guard_ok false d x y e = (refl, e)

abbrev done : {A : Type 0} → A → Result A DeError
done x = Ok x

pub ok_is : {A : Type 0} (x y : A) → done x ≡ done y → x ≡ y
ok_is x y e = cc

-- what is read of a value that takes no byte
pub done-local : {A B : Type 0} (f : A → B) (x : A) → IsLocal (λ s. Ok (f x, s))
done-local {B = B} f x s r v e =
    let P : B × List ℕ → Type 0 = λ q. (front : List ℕ) × (s ≡ front ++ q.1)
    × ((t : List ℕ) → done {A = B × List ℕ} (f x, front ++ t) ≡ Ok (q.0, t)) in
    subst P (ok_is (f x, s) (v, r) e) ([], refl, λ t. refl)

pub and_then-local : {A B : Type 0} (read : List ℕ → Reading A) (next : A → List ℕ → Reading B) → IsLocal read
    → ((x : A) → IsLocal (next x)) → IsLocal (and_then read next)
and_then-local read next first after s r v e =
    let b = bind_ok (read s) (λ p. next p.0 p.1) (v, r) e in
    let one = first s b.0.1 b.0.0 b.1 in
    let two = after b.0.0 b.0.1 r v b.2 in (
      one.0 ++ two.0,
      one.1 ∙ ap (λ (x : List ℕ). one.0 ++ x) two.1 ∙ sym (append_assoc one.0 two.0 r),
      λ t. rw (append_assoc, one.2 (two.0 ++ t)) (two.2 t),
    )

pub bytes_at-local : (n : ℕ) → IsLocal (bytes_at n)
bytes_at-local n s r v e =
    let g = guard_ok (ltb (length s) n) short (Ok (take n s, drop n s)) (v, r) e in
    let long : n ≤ length s = ltb-false _ _ g.0 in
    let len : length (take n s) ≡ n = length-take-le n s long in
    let P : List ℕ × List ℕ → Type 0 = λ q. (front : List ℕ) × (s ≡ front ++ q.1)
    × ((t : List ℕ) → bytes_at n (front ++ t) ≡ Ok (q.0, t)) in
    let again : (t : List ℕ) → bytes_at n (take n s ++ t) ≡ Ok (take n s, t) = λ t.
    let enough : ltb (length (take n s ++ t)) n ≡ false = le-ltb _ _ (omega (arith, length-append (take n s) t)) in
    rw (enough, take_at (take n s) t n len, drop_at (take n s) t n len) refl in
    subst P (ok_is (take n s, drop n s) (v, r) g.1) (take n s, sym (take-append-drop n s), again)

pub value_at-local : {V : Type 0} (n : ℕ) (value : List ℕ → V) → IsLocal (value_at n value)
value_at-local n value = and_then-local (bytes_at n) (λ bytes rest. Ok (value bytes, rest)) (bytes_at-local n)
    (λ bytes. done-local value bytes)

-- no test is refused because memory ran out
guard-no_memory : {A : Type 0} (b : Bool) (x : A) → cond b (Err short) (done x) ≢ Err Memory
guard-no_memory true x e = cc
guard-no_memory false x e = cc

pub and_then-no_memory : {A B : Type 0} (read : List ℕ → Reading A) (next : A → List ℕ → Reading B)
    → ((s : List ℕ) → read s ≢ Err Memory) → ((x : A) (s : List ℕ) → next x s ≢ Err Memory) → (s : List ℕ)
    → and_then read next s ≢ Err Memory
and_then-no_memory {A} {B} read next first after s e =
    let P : Reading A → Type 0 = λ r. r ≡ read s → (r >>= λ p. next p.0 p.1) ≡ Err Memory → ⊥ in
    (elim (read s) as P [
      | Ok p ↦ λ _ f. after p.0 p.1 f
      | Err d ↦ λ is f. first s (sym is
          ∙ ap (λ (x : DeError). Err x) cc)
    ]) refl e

pub bytes_at-no_memory : (n : ℕ) (s : List ℕ) → bytes_at n s ≢ Err Memory
bytes_at-no_memory n s e = guard-no_memory (ltb (length s) n) (take n s, drop n s) e

pub value_at-no_memory : {V : Type 0} (n : ℕ) (value : List ℕ → V) (s : List ℕ) → value_at n value s ≢ Err Memory
value_at-no_memory n value s e = and_then-no_memory (bytes_at n) (λ bytes rest. Ok (value bytes, rest))
    (bytes_at-no_memory n) (λ bytes rest f. cc) s e

pub number_at-no_memory : (n : ℕ) (s : List ℕ) → number_at n s ≢ Err Memory
number_at-no_memory n s e = value_at-no_memory n (little_number n) s e

-- a refusal of the first part is that of the whole
pub refused_first : {A B : Type 0} (read : Result A DeError) (next : A
    → Result B DeError) (memory more : Type 0) (e : DeError) → Refuses read memory e → (memory → more)
    → Refuses (read >>= next) more e
refused_first read next memory more (Msg m) h f = rw h refl
refused_first read next memory more (Io k) h f = rw h refl
refused_first read next memory more (Utf8 u) h f = rw h refl
refused_first read next memory more (InvalidInput n) h f = rw h refl
refused_first read next memory more Memory h f = f h

-- n bytes are taken
pub bytes_at-wide : (n : ℕ) (s r bytes : List ℕ) → bytes_at n s ≡ Ok (bytes, r) → length s ≡ n + length r
bytes_at-wide n s r bytes e =
    let g = guard_ok (ltb (length s) n) short (Ok (take n s, drop n s)) (bytes, r) e in
    let long : n ≤ length s = ltb-false _ _ g.0 in
    let same : drop n s ≡ r = ap (λ (p : List ℕ × List ℕ). p.1) (ok_is (take n s, drop n s) (bytes, r) g.1) in
    omega (arith, ap length same, length-drop n s)

pub value_at-wide : {V : Type 0} (n : ℕ) (value : List ℕ → V) (s r : List ℕ) (v : V) → value_at n value s ≡ Ok (v, r)
    → length s ≡ n + length r
value_at-wide {V} n value s r v e =
    let b = bind_ok (bytes_at n s) (λ p. Ok (value p.0, p.1)) (v, r) e in
    let same : b.0.1 ≡ r = ap (λ (p : V × List ℕ). p.1) (ok_is (value b.0.0, b.0.1) (v, r) b.2) in
    rw (← same) (bytes_at-wide n s b.0.1 b.0.0 b.1)

pub guard-not : {A : Type 0} (b : Bool) (e d : DeError) (r : Result A DeError) → e ≢ d → r ≢ Err d
    → cond b (Err e) r ≢ Err d
guard-not true e d r f g h = f cc
guard-not false e d r f g h = g h

pub bind-not : {A B : Type 0} (r : Result A DeError) (f : A → Result B DeError) (d : DeError) → r ≢ Err d
    → ((x : A) → f x ≢ Err d) → (r >>= f) ≢ Err d
bind-not (Ok x) f d p q e = q x e
bind-not (Err y) f d p q e = p (ap (λ (z : DeError). Err z) cc)

pub read-never_short : (s : List ℕ) → done s ≢ Err short
read-never_short s e = cc

-- ---- a value that takes no byte

pub done-no_memory : {A : Type 0} (x : A) (s : List ℕ) → done {A = A × List ℕ} (x, s) ≢ Err Memory
done-no_memory x s e = cc

pub done-wide : {A : Type 0} (x : A) (s r : List ℕ) (v : A) → done {A = A × List ℕ} (x, s) ≡ Ok (v, r)
    → length s ≡ 0 + length r
done-wide {A} x s r v e = omega (arith, ap (λ (p : A × List ℕ). length p.1) (ok_is (x, s) (v, r) e))

-- n bytes in front give their value
pub value_at-append : {V : Type 0} (n : ℕ) (value : List ℕ → V) (bytes rest : List ℕ) → length bytes ≡ n
    → value_at n value (bytes ++ rest) ≡ Ok (value bytes, rest)
value_at-append n value bytes rest len =
    let enough : ltb (length (bytes ++ rest)) n ≡ false = le-ltb _ _ (omega (arith, length-append bytes rest)) in
    rw (enough, take_at bytes rest n len, drop_at bytes rest n len) refl
