-- Payloads of plain bytes are refused for lengths and missing bytes alone, so a datagram of them has two faults only.
use Rattle.std.proofs.Common.{◌≡◌, ◌≢◌, ℕ, List, Err, Option, Some, None, sym, arith}
use Rattle.neli_wire.specs.declared.errors.DeError.{DeError}
use Rattle.neli_wire.specs.Frames.{frame_at}
use Rattle.neli_reader.specs.Agreement.{untyped_layout}
use Rattle.neli_reader.specs.Cuts.{Cuts}
use Rattle.neli_reader.specs.laws.Cuts.{cut_of-Cuts}
use Rattle.neli_reader.specs.laws.Messages.{layout_with-placed}
use Rattle.neli_reader.specs.laws.Plain.{only-message}
use Rattle.neli_program.specs.declared.line.Ending.{Ending}
use Rattle.neli_program.specs.declared.line.Ending.TheVariants.{Whole, Input, Short, Other, Tail, Memory}
use Rattle.neli_program.specs.Listing.{Raw, raw_cut, ending_of, Lists}

-- a refusal that has a line of its own
abbrev IsNamed : DeError → Type 0
IsNamed e = ending_of (Some e) ≢ Other

message-named : (s : List ℕ) (e : DeError) → frame_at untyped_layout s ≡ Err e → IsNamed e
message-named = only-message IsNamed (λ f. cc) (λ n f. cc) (λ n. n) (λ n. n)

ending-named : (b : List ℕ) (ms : List Raw) (f : Option DeError) → Cuts untyped_layout b ms f → ending_of f ≢ Other
ending-named b ms None c h = cc
ending-named b ms (Some e) c h = message-named c.1 e c.4.1 h

-- a listing ends in one of the ways that have a line
pub listed-named : (bytes lines : List ℕ) (e : Ending) → Lists bytes lines e → e ≢ Other
listed-named bytes lines Other l h = ending-named bytes (raw_cut bytes).0 (raw_cut bytes).1
    (cut_of-Cuts untyped_layout (layout_with-placed (λ n. n) _) (omega arith) bytes) (sym l.1)
listed-named bytes lines Whole l h = cc
listed-named bytes lines (Input n) l h = cc
listed-named bytes lines Short l h = cc
listed-named bytes lines Tail l h = cc
listed-named bytes lines Memory l h = cc
