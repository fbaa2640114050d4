-- A dump's datagrams hold the messages that were put in.
use Rattle.std.proofs.Common.{◌≡◌, ℕ, ℤ, List, Ok, sym, ap, subst, ◌∙◌}
use Rattle.neli_wire.specs.Writing.{Wire}
use Rattle.neli_consts.specs.declared.nlm_f.NlmF.{NlmF}
use Rattle.neli_reader.specs.Answers.{Attributes}
use Rattle.neli_kernel.specs.Answers.{message_or_refusal}
use Rattle.neli_kernel.specs.Dumps.{Packed, all_of, datagrams_of, dump_end, finished, put_wire}
use Rattle.neli_kernel.specs.declared.request.Request.{Request}

-- the bytes of an end of this code
abbrev pub end_wire : Request → NlmF → Attributes → ℤ → Wire
end_wire asked flags attrs code = message_or_refusal {T = ℕ} {P = List ℕ} (λ n. n) (λ b. Ok b)
    (dump_end asked flags code attrs)

-- the datagrams are those of the dump that the end was put into
pub finished-put : (limit : ℕ) (asked : Request) (flags : NlmF) (attrs : Attributes) (code same : ℤ) (p q : Packed)
    (datagrams : List (List ℕ)) → same ≡ code → put_wire limit (end_wire asked flags attrs same) p ≡ Ok q
    → datagrams ≡ datagrams_of q → finished limit (end_wire asked flags attrs code) p ≡ Ok datagrams
finished-put limit asked flags attrs code same p q datagrams is put all =
    subst (λ (n : ℤ). finished limit (end_wire asked flags attrs n) p ≡ Ok datagrams) is (ap all_of put
    ∙ ap Ok (sym all))
