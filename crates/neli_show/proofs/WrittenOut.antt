-- Text on its way to a writer, and then there.
use Rattle.std.specs.Prelude.{Result, Ok, Err, OnOk}
use Rattle.std.proofs.Common.{ℕ, List, [], ◌++◌, Option, None, Some, ap, ◌∙◌, rules, append-nil}
use Rattle.std.specs.Io.KnownBytes.{Appends, append_known}

-- what was gathered after nothing is text, once it is written
pub appends_gathered : (a b c : Option (List ℕ)) (t bs : List ℕ)
    → Appends (append_known a []) (append_known b t) bs → Appends b c t → Appends a c bs
appends_gathered None b c t bs p q = search rules
appends_gathered (Some xs) None c t bs p q = search rules
appends_gathered (Some xs) (Some ys) None t bs p q = search rules
appends_gathered (Some xs) (Some ys) (Some zs) t bs p q =
    q ∙ p ∙ ap (λ l. l ++ bs) (append-nil xs)

-- what holds where a result is `Ok` may be shown from that
pub on_ok_from : {X Y : Type 0} (r : Result X Y) (P Q : Type 0) → OnOk r P → (P → Q) → OnOk r Q
on_ok_from (Ok x) P Q p f = f p
on_ok_from (Err y) P Q p f = search rules
