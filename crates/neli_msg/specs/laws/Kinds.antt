-- Laws of kinds.
use Rattle.std.proofs.Common.{◌≢◌, ℕ, List, Result, Err}
use Rattle.neli_wire.specs.declared.errors.DeError.{DeError}
use Rattle.neli_wire.specs.declared.errors.DeError.TheVariants.{Memory}
use Rattle.neli_wire.specs.laws.Reading.{bind-not}
use Rattle.neli_consts.specs.declared.nlm_f.NlmF.{NlmF}
use Rattle.neli_msg.specs.declared.kind.Kind.{Kind}
use Rattle.neli_msg.specs.declared.kind.Kind.TheVariants.{Body, Nothing, DumpEnd, Acknowledgement, Capped, Failure}
use Rattle.neli_msg.specs.Answers.{dump_end_in, failure_in, headed_in}
use Rattle.neli_msg.specs.laws.Answers.{dump_end_in-no_memory, failure_in-no_memory, headed_in-no_memory}
use Rattle.neli_msg.specs.Kinds.{kind_of, payload_as, payload_in}

module _ {K V : Type 0} (type_of : ℕ → K) (read : List ℕ → Result V DeError) (bodies : (s : List ℕ)
    → read s ≢ Err Memory) where
  payload_as-no_memory : (kind : Kind) (s : List ℕ) → payload_as type_of read kind s ≢ Err Memory
  payload_as-no_memory Body s = bind-not (read s) _ Memory (bodies s) (λ v f. cc)
  payload_as-no_memory Nothing s = λ f. cc
  payload_as-no_memory DumpEnd s = bind-not (dump_end_in s) _ Memory (dump_end_in-no_memory s) (λ e f. cc)
  payload_as-no_memory (Acknowledgement tail) s = bind-not (headed_in type_of tail s) _ Memory
      (headed_in-no_memory type_of tail s) (λ e f. cc)
  payload_as-no_memory (Capped tail) s = bind-not (headed_in type_of tail s) _ Memory
      (headed_in-no_memory type_of tail s) (λ e f. cc)
  payload_as-no_memory Failure s = bind-not (failure_in type_of read s) _ Memory
      (failure_in-no_memory type_of read bodies s) (λ e f. cc)

  -- no reading of a payload is by itself refused for lack of memory
  pub payload_in-no_memory : (number : ℕ) (flags : NlmF) (s : List ℕ)
      → payload_in type_of read number flags s ≢ Err Memory
  payload_in-no_memory number flags s = payload_as-no_memory (kind_of number flags s) s
