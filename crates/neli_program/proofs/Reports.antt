-- The lines of a report, one after the other.
use Rattle.std.proofs.Common.{◌≡◌, ◌∙◌, ℕ, ◌+◌, List, [], ◌∷◌, ◌++◌, codes, length, Ok, sym, ap, append_assoc}
use Rattle.std.proofs.Common.{arith}
use Rattle.neli_runs.specs.declared.command.Command.{Command}
use Rattle.neli_runs.specs.OpenRuns.{GoesOn}
use Rattle.neli_runs.specs.laws.Kept.{Handles, Pending}
use Rattle.neli_program.specs.Plays.{Performs, requests_in}
use Rattle.neli_program.specs.Report.{RawOutcome, outcome_text, report, sends}

-- the line of an outcome
abbrev line_with : ℕ → RawOutcome → List ℕ
line_with handle o = outcome_text handle o ++ codes "\n"

report_push : (before : ℕ) (os : List RawOutcome) (o : RawOutcome)
    → report before (os ++ o ∷ []) ≡ report before os ++ line_with (before + requests_in os + sends o) o
report_push before [] o = ap (λ n. line_with (n + sends o) o) (omega arith)
report_push before (x ∷ os) o =
    let n : before + sends x + requests_in os + sends o ≡ before + (sends x + requests_in os) + sends o =
    omega arith in
    let text = outcome_text (before + sends x) x in
    let later = report (before + sends x) os in
    ap (λ l. text ++ (codes "\n" ++ l)) (report_push (before + sends x) os o ∙ ap (λ m. later ++ line_with m o) n)
    ∙ sym (append_assoc text (codes "\n" ++ later) (line_with (before + (sends x + requests_in os) + sends o) o))

requests_push : (os : List RawOutcome) (o : RawOutcome) → requests_in (os ++ o ∷ []) ≡ requests_in os + sends o
requests_push [] o = omega arith
requests_push (x ∷ os) o = omega (arith, requests_push os o)

-- a command is performed, and the line of its outcome is written
pub performed : (port next port' next' : ℕ) (pending pending' : Pending) (handles handles' : Handles) (sent sent' : ℕ)
    (text text' : List ℕ) (c : Command ℕ (List ℕ)) (o : RawOutcome)
    → GoesOn (λ n. n) (λ n. n) (λ b. b) length (λ b. Ok b) (λ n. n) (λ b. Ok b) length port next pending handles port' next'
    pending' handles' c o
    → sent' ≡ sent + sends o → text' ≡ text ++ (outcome_text sent' o ++ codes "\n")
    → Performs c port next pending handles sent text port' next' pending' handles' sent' text'
performed port next port' next' pending pending' handles handles' sent sent' text text' c o goes counts writes pid cs
    (os, done, lines, counted) =
    let count : sent' ≡ requests_in os + sends o = counts ∙ ap (λ n. n + sends o) counted in
    let after_none : sent' ≡ 0 + requests_in os + sends o = omega (arith, count) in (
      os ++ o ∷ [],
      goes pid cs os done,
      writes ∙ ap (λ t. t ++ line_with sent' o) lines ∙ ap (λ n. report 0 os ++ line_with n o) after_none
          ∙ sym (report_push 0 os o),
      count ∙ sym (requests_push os o),
    )
