-- Laws of answers: no reading of one is refused as short, or by itself for lack of memory.
use Rattle.std.proofs.Common.{◌≢◌, ℕ, ◌-◌, ltb, List, length, Result, Ok, Err}
use Rattle.neli_wire.specs.declared.errors.DeError.{DeError}
use Rattle.neli_wire.specs.declared.errors.DeError.TheVariants.{InvalidInput, Memory}
use Rattle.neli_wire.specs.Bytes.{short}
use Rattle.neli_wire.specs.Frames.{frame_at}
use Rattle.neli_wire.specs.laws.Reading.{bind-not, guard-not}
use Rattle.neli_wire.specs.laws.Lists.{elements-no_memory, elements-never_short}
use Rattle.neli_consts.specs.NlmsgerrAttr.{nlmsgerr_attr_of}
use Rattle.neli_attr.specs.Attributes.{attribute, attributes_in}
use Rattle.neli_attr.specs.TypeField.{type_of}
use Rattle.neli_attr.specs.laws.Attributes.{attribute-no_memory}
use Rattle.neli_msg.specs.Answers.{ext_ack_in, after, after_echo, dump_end_in, acknowledgement_in, echoed_in}
use Rattle.neli_msg.specs.Answers.{echoed_count, echoed_length, failure_in, headed_in, tail_in}
use Rattle.neli_msg.specs.declared.kind.Tail.{Tail}
use Rattle.neli_msg.specs.declared.kind.Tail.TheVariants.{Unread, Attributes as Listed}

ext_ack_in-no_memory : (s : List ℕ) → ext_ack_in s ≢ Err Memory
ext_ack_in-no_memory s =
    bind-not (attributes_in (type_of nlmsgerr_attr_of) s) _ Memory
    (elements-no_memory (frame_at (attribute (type_of nlmsgerr_attr_of) (λ bytes. Ok bytes)))
    (attribute-no_memory (type_of nlmsgerr_attr_of) (λ bytes. Ok bytes) (λ bytes f. cc)) s)
    (λ attrs f. cc)

ext_ack_in-never_short : (s : List ℕ) → ext_ack_in s ≢ Err short
ext_ack_in-never_short s =
    bind-not (attributes_in (type_of nlmsgerr_attr_of) s) _ short
    (elements-never_short (frame_at (attribute (type_of nlmsgerr_attr_of) (λ bytes. Ok bytes))) s) (λ attrs f. cc)

-- ---- a refusal that is neither of a body nor of attributes, nor of a length

module _ (d : DeError) (lengths : (n : ℕ) → InvalidInput n ≢ d) (attributes : (s : List ℕ) → ext_ack_in s ≢ Err d) where
  after-not : (n : ℕ) (s : List ℕ) → after n s ≢ Err d
  after-not n s = guard-not (ltb (length s) n) (InvalidInput (length s)) d _ (lengths (length s)) (λ f. cc)

  echoed_in-not : (s : List ℕ) → echoed_in s ≢ Err d
  echoed_in-not s =
      guard-not (ltb (echoed_length s) 16) (InvalidInput (echoed_length s)) d _ (lengths (echoed_length s))
      (guard-not (ltb (length s - 20) (echoed_count s)) (InvalidInput (echoed_count s)) d _ (lengths (echoed_count s))
      (λ f. cc))

  dump_end_in-not : (s : List ℕ) → dump_end_in s ≢ Err d
  dump_end_in-not s = bind-not (after 4 s) _ d (after-not 4 s)
      (λ rest. bind-not (ext_ack_in rest) _ d (attributes rest) (λ attrs f. cc))

  tail_in-not : (tail : Tail) (s : List ℕ) → tail_in tail s ≢ Err d
  tail_in-not Unread s = λ f. cc
  tail_in-not Listed s = attributes s

  headed_in-not : {K : Type 0} (type_of : ℕ → K) (tail : Tail) (s : List ℕ) → headed_in type_of tail s ≢ Err d
  headed_in-not type_of tail s = bind-not (after 20 s) _ d (after-not 20 s)
      (λ rest. bind-not (tail_in tail rest) _ d (tail_in-not tail rest) (λ attrs f. cc))

  failure_in-not : {K V : Type 0} (type_of : ℕ → K) (read : List ℕ → Result V DeError) → ((s : List ℕ) → read s ≢ Err d)
      → (s : List ℕ) → failure_in type_of read s ≢ Err d
  failure_in-not type_of read bodies s =
      bind-not (after 20 s) _ d (after-not 20 s) (λ rest.
      bind-not (echoed_in s) _ d (echoed_in-not s) (λ body.
      bind-not (read body) _ d (bodies body) (λ v.
      bind-not (ext_ack_in (after_echo s)) _ d (attributes (after_echo s)) (λ attrs f. cc))))

pub dump_end_in-no_memory : (s : List ℕ) → dump_end_in s ≢ Err Memory
dump_end_in-no_memory = dump_end_in-not Memory (λ n f. cc) ext_ack_in-no_memory

pub dump_end_in-never_short : (s : List ℕ) → dump_end_in s ≢ Err short
dump_end_in-never_short = dump_end_in-not short (λ n f. cc) ext_ack_in-never_short

pub acknowledgement_in-no_memory : {K : Type 0} (type_of : ℕ → K) (s : List ℕ)
    → acknowledgement_in type_of s ≢ Err Memory
acknowledgement_in-no_memory type_of = headed_in-not Memory (λ n f. cc) ext_ack_in-no_memory type_of Unread

pub headed_in-no_memory : {K : Type 0} (type_of : ℕ → K) (tail : Tail) (s : List ℕ)
    → headed_in type_of tail s ≢ Err Memory
headed_in-no_memory = headed_in-not Memory (λ n f. cc) ext_ack_in-no_memory

pub acknowledgement_in-never_short : {K : Type 0} (type_of : ℕ → K) (s : List ℕ)
    → acknowledgement_in type_of s ≢ Err short
acknowledgement_in-never_short type_of = headed_in-not short (λ n f. cc) ext_ack_in-never_short type_of Unread

pub failure_in-no_memory : {K V : Type 0} (type_of : ℕ → K) (read : List ℕ → Result V DeError)
    → ((s : List ℕ) → read s ≢ Err Memory) → (s : List ℕ) → failure_in type_of read s ≢ Err Memory
failure_in-no_memory = failure_in-not Memory (λ n f. cc) ext_ack_in-no_memory

pub failure_in-never_short : {K V : Type 0} (type_of : ℕ → K) (read : List ℕ → Result V DeError)
    → ((s : List ℕ) → read s ≢ Err short) → (s : List ℕ) → failure_in type_of read s ≢ Err short
failure_in-never_short = failure_in-not short (λ n f. cc) ext_ack_in-never_short
