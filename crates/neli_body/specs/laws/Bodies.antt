-- Laws of bodies, from those of their headers and of what follows.
use Rattle.std.proofs.Common.{◌≡◌, ◌≢◌, ℕ, ◌+◌, ◌≤◌, false, ltb, List, ◌++◌, length}
use Rattle.std.proofs.Common.{take, drop, Result, Ok, Err, refl, ap, arith, length-append}
use Rattle.std.proofs.lemmas.Bool.{le-ltb}
use Rattle.std.proofs.lemmas.List.{take_at, drop_at}
use Rattle.neli_wire.specs.Bytes.{short}
use Rattle.neli_wire.specs.Refusals.{Refuses}
use Rattle.neli_wire.specs.declared.errors.DeError.{DeError}
use Rattle.neli_wire.specs.declared.errors.DeError.TheVariants.{InvalidInput, Memory}
use Rattle.neli_wire.specs.declared.errors.SerError.TheVariants as ser
use Rattle.neli_wire.specs.laws.Lists.{both_written, both-no_memory}
use Rattle.neli_wire.specs.laws.Reading.{bind-not, guard-not, refused_first}
use Rattle.neli_wire.specs.Reading.{exact_reading, exact_takes_memory}
use Rattle.neli_wire.specs.Sizes.{EndsInZeros}
use Rattle.neli_wire.specs.laws.Sizes.{unpadded-zeros}
use Rattle.neli_wire.specs.Writing.{Wire}
use Rattle.neli_wire.specs.laws.Writing.{written-no_memory}
use Rattle.neli_body.specs.Bodies.{body_of, body_wire}
use Rattle.neli_body.specs.RoundTrips.{ReadsBack}

-- a body takes the bytes of its header and of what follows
pub body_wire-length : (n : ℕ) (header : List ℕ) → length header ≡ n → (rest : Wire) (m : ℕ)
    → ((bytes : List ℕ) → rest ≡ Ok bytes → length bytes ≡ m) → (bytes : List ℕ) → body_wire header rest ≡ Ok bytes
    → length bytes ≡ n + m
body_wire-length n header size rest m rests bytes e =
    let p = both_written (Ok header) rest bytes e in
    let same : header ≡ p.0 = cc (p.2) in
    omega (arith, ap length p.4, length-append p.0 p.1, ap length same, rests p.1 p.3)

-- it ends in no padding of its own
pub body_wire-zeros : (n : ℕ) (header : List ℕ) → length header ≡ n → (rest : Wire) (m : ℕ)
    → ((bytes : List ℕ) → rest ≡ Ok bytes → length bytes ≡ m) → (bytes : List ℕ) → body_wire header rest ≡ Ok bytes
    → EndsInZeros (n + m) bytes
body_wire-zeros n header size rest m rests bytes e = unpadded-zeros (n + m) bytes
    (body_wire-length n header size rest m rests bytes e)

pub body_wire-no_memory : (header : List ℕ) (rest : Wire) → rest ≢ Err ser.Memory
    → body_wire header rest ≢ Err ser.Memory
body_wire-no_memory header rest none = both-no_memory (Ok header) rest (written-no_memory header) none

-- a refusal of the first n bytes is that of a reading of exactly n
pub exact_refused : {V : Type 0} (read : List ℕ → Result V DeError) (takes : List ℕ
    → Type 0) (n : ℕ) (s : List ℕ) (e : DeError) → n ≤ length s → Refuses (read (take n s)) (takes (take n s)) e
    → Refuses (exact_reading read n s) (exact_takes_memory takes n s) e
exact_refused read takes n s e le h =
    rw (le-ltb (length s) n le) (refused_first (read (take n s)) (λ v. Ok (v, drop n s)) (takes (take n s))
    (exact_takes_memory takes n s) e h (λ some. (le, some)))

module _ {H V : Type 0} (n : ℕ) (header_of : List ℕ → H) (rest_of : List ℕ → Result V DeError) where
  body_of-not : (d : DeError) → ((k : ℕ) → InvalidInput k ≢ d) → ((s : List ℕ) → rest_of s ≢ Err d) → (s : List ℕ)
      → body_of n header_of rest_of s ≢ Err d
  body_of-not d other none s = guard-not (ltb (length s) n) (InvalidInput (length s)) d _ (other (length s))
      (bind-not (rest_of (drop n s)) _ d (none (drop n s)) (λ v e. cc))

  pub body_of-no_memory : ((s : List ℕ) → rest_of s ≢ Err Memory) → (s : List ℕ)
      → body_of n header_of rest_of s ≢ Err Memory
  body_of-no_memory = body_of-not Memory (λ k e. cc)

  pub body_of-never_short : ((s : List ℕ) → rest_of s ≢ Err short) → (s : List ℕ)
      → body_of n header_of rest_of s ≢ Err short
  body_of-never_short = body_of-not short (λ k e. cc)

  -- a header that is read back, and then bytes that are read, are read as both
  pub body_of-reads_back : (header bytes : List ℕ) (h : H) (v : V) → length header ≡ n → header_of header ≡ h
      → rest_of bytes ≡ Ok v → body_of n header_of rest_of (header ++ bytes) ≡ Ok (h, v)
  body_of-reads_back header bytes h v size back read =
      let enough : ltb (length (header ++ bytes)) n ≡ false = le-ltb _ _ (omega (arith, length-append header bytes)) in
      rw (enough, take_at header bytes n size, drop_at header bytes n size, read, back) refl

  -- a header that is read back makes the whole read back
  pub reads_back : (bytes_of : H → List ℕ) (h : H) (rest : Wire) → length (bytes_of h) ≡ n → header_of (bytes_of h) ≡ h
      → ReadsBack n bytes_of header_of rest_of h rest
  reads_back bytes_of h rest size back = λ bytes value wire read. (
    rw wire refl,
    body_of-reads_back (bytes_of h) bytes h value size back read,
  )
