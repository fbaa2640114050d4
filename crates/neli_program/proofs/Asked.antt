-- What words ask for, and that they ask for one thing.
use Rattle.std.proofs.Common.{◌≡◌, ◌≢◌, ℕ, List, [], ◌∷◌, map, codes, string_bytes, Option, Ok, Err, sym, subst}
use Rattle.std.specs.IoError.{error_kind}
use Rattle.std.specs.declared.vec.Vec.{Vec}
use Rattle.std.specs.declared.string.String.{String}
use Rattle.std.specs.declared.alloc.Global.{Global}
use Rattle.std.specs.declared.io.Error.{Error}
use Rattle.std.specs.declared.io.ErrorKind.TheVariants.{OutOfMemory}
use Rattle.neli_program.specs.declared.status.Status.{Status}
use Rattle.neli_program.specs.declared.status.Status.TheVariants as status
use Rattle.neli_program.specs.Runs.{PrintsMemory}
use Rattle.neli_program.specs.Requests.{AreWrong, AskForList, AskForReplay, AskForZero, RanOutOfMemory, Words}

pub not_both : (words : Words) → AskForList words → RanOutOfMemory words → ⊥
not_both (Ok w) list memory = memory
not_both (Err e) list memory = list

pub not_zero_too : (words : Words) → AskForZero words → RanOutOfMemory words → ⊥
not_zero_too (Ok w) zero memory = memory
not_zero_too (Err e) zero memory = zero

pub not_replay_too : (words : Words) → AskForReplay words → RanOutOfMemory words → ⊥
not_replay_too (Ok w) replay memory = memory
not_replay_too (Err e) replay memory = replay

pub list_or_zero : (words : Words) → AskForList words → AskForZero words → ⊥
list_or_zero (Ok w) list zero = absurd cc
list_or_zero (Err e) list zero = list

pub list_or_replay : (words : Words) → AskForList words → AskForReplay words → ⊥
list_or_replay (Ok w) list replay = absurd cc
list_or_replay (Err e) list replay = list

pub zero_or_replay : (words : Words) → AskForZero words → AskForReplay words → ⊥
zero_or_replay (Ok w) zero replay = absurd cc
zero_or_replay (Err e) zero replay = zero

pub list_words : (words : Words) (w : Vec (String Global) Global) → words ≡ Ok w
    → map string_bytes w.items ≡ codes "list" ∷ [] → AskForList words
list_words words w is list = subst AskForList (sym is) list

pub zero_words : (words : Words) (w : Vec (String Global) Global) → words ≡ Ok w
    → map string_bytes w.items ≡ codes "list" ∷ codes "zero" ∷ [] → AskForZero words
zero_words words w is zero = subst AskForZero (sym is) zero

pub replay_words : (words : Words) (w : Vec (String Global) Global) → words ≡ Ok w
    → map string_bytes w.items ≡ codes "replay" ∷ [] → AskForReplay words
replay_words words w is replay = subst AskForReplay (sym is) replay

pub memory_error : (words : Words) (e : Error) → words ≡ Err e → error_kind e ≡ OutOfMemory → RanOutOfMemory words
memory_error words e is memory = subst RanOutOfMemory (sym is) memory

pub other_words : (words : Words) (w : Vec (String Global) Global) → words ≡ Ok w
    → (map string_bytes w.items ≡ codes "list" ∷ [] → ⊥)
    → (map string_bytes w.items ≡ codes "list" ∷ codes "zero" ∷ [] → ⊥)
    → (map string_bytes w.items ≡ codes "replay" ∷ [] → ⊥) → AreWrong words
other_words words w is list zero replay = subst AreWrong (sym is) (list, zero, replay, λ memory. memory)

pub other_error : (words : Words) (e : Error) → words ≡ Err e → error_kind e ≢ OutOfMemory → AreWrong words
other_error words e is other = subst AreWrong (sym is) ((λ list. list), (λ zero. zero), (λ replay. replay), other)

-- out of memory is no fault of the input
pub memory_no_input : (old new : Option (List ℕ)) (s : Status) → PrintsMemory old new s → s ≡ status.NoInput → ⊥
memory_no_input old new s p is = subst (PrintsMemory old new) is p
