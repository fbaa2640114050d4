-- `neli_c_session_next` passes both references on, and returns the code.
use mathlib.Core.Path.{refl}
use mathlib.Core.List.{List, [], ◌∷◌}
use base.Logic.{SProp}
use mir.Syntax.{Fn, named, w32}
use mir.Val.{Val, vptr, vint}
use contract.Running.{tables}
use types.Kit.{raw, ◌$◌, ◌∵◌, !, qed, by}
use types.Part.{whole, sub}
use types.Run.{stop, fld, of_opd, addr, no_more, and_then, returns, enter}
use types.ByLocal.{alloc_all, pass_all, free_all, look_at, get, get_in, through, sets, lands_as}
use denote.Plain.{uint_vals, uint_Tells}
use denote.Ref.{mut_vals, mut_Tells}
use denote.Signature.{Slot, plain, named_lft}
use denote.Triple.Call.{calls_at}
use denote.Triple.Clauses.{Lasts, at_exit, lasts}
use denote.Triple.Entry.{alive}
use denote.Triple.Spec.{triple_of}
use denote.Triple.Statement.{Contract}
use denote.Triple.Walked.{Stays, walk_of}
use Rattle.std.proofs.raw_atomic.Walks.{proved, leaves}
use Rattle.core.proofs.atomic.Steps.{fm}
use Rattle.neli_c_session.specs.contracts.opaque.NeliSession as Session
use Rattle.neli_c_parts.specs.contracts.lending.NeliLent as Lent
use Rattle.neli_c.specs.contracts.session.lend_next as callee
use Rattle.neli_c.specs.contracts.session.neli_c_session_next as own
use Rattle.neli_c.specs.contracts.session.neli_c_session_next.Key.{name}
use Rattle.neli_c.proofs.LentCodes.{all-go, all_passed_on, code_of, code_word}
use Rattle.neli_c.proofs.session.lend_next.Met.{met}
use Rattle.neli_c.proofs.session.neli_c_session_next.Statement.{statement}
use Rattle.neli_c.proofs.session.neli_c_session_next.Code as code

abbrev OfSession : Slot 2
OfSession = plain (λ _. Session.the_row)

abbrev OfLent : Slot 2
OfLent = plain (λ κs. Lent.the_row (named_lft 2 0 tt κs))

abbrev stays : Stays own.ended.signature.params own.ended.kept
stays = all_passed_on own.ended.signature.params own.ended.kept

pub neli_c_session_next_spec : {M : Type 1} → statement M
neli_c_session_next_spec 𝓤 𝓛 𝓜 𝓡 wired =
    let 𝓣 = tables 𝓤 𝓛.H 𝓜 𝓡 𝓡.env in let fn : Fn = code.function in
    let c = own.clauses 𝓛 𝓜.mem 𝓡.returns in let d = callee.clauses 𝓛 𝓜.mem 𝓡.returns in
    proved 𝓛 own.ended stays c 𝓜 𝓡 (all-go 𝓛 2 own.ended.signature.params own.ended.kept) name fn
    (code.unfolded 𝓤 𝓛.H 𝓜 𝓡 wired)
    (λ κs. (mut_vals, (uint_vals w32, (uint_vals w32, (mut_vals, tt)))))
    (λ κs. (
      mut_Tells (named 0) κs.0 (OfSession.row κs),
      (
        uint_Tells w32,
        (uint_Tells w32, (mut_Tells (named 1) κs.1.0 (OfLent.row κs), tt)),
      ),
    ))
    (λ κs qs bounds a g are.
    let words : List Val × (List Val × (List Val × (List Val × Unit {0}))) =
    (mut_vals a.0, (uint_vals w32 a.1.0, (uint_vals w32 a.1.1.0, (mut_vals a.1.1.1.0, tt)))) in
    let z : (walk_of 𝓛 own.ended stays c).Ghost = ((κs, qs, bounds, a, words), g) in
    let Post : Val → SProp 𝓤 = (walk_of 𝓛 own.ended stays c).post z in
    let k : Contract 𝓤 = triple_of 𝓛 callee.signature (callee.spec 𝓛 𝓜.mem 𝓡.returns) in
    let y : k.Ghost = ((κs, qs, bounds, a, words), tt) in
    qed 𝓛 (raw (k.pre y) ∷ []) ∵
    enter ! 𝓣.C 𝓣.Λ fn (vptr a.0.ref_ptr.0 a.0.ref_ptr.1 ∷ vint w32 a.1.0 ∷ vint w32 a.1.1.0
    ∷ vptr a.1.1.1.0.ref_ptr.0 a.1.1.1.0.ref_ptr.1 ∷ []) Post $
    alloc_all ! (λ l. pass_all ! refl ((tt, tt), ((tt, record { fits = are.1.0.1 }), ((tt, record { fits = are.1.1.0.1 }), ((tt, tt), tt)))) $
    sets ! (addr ! (through ! refl (stop !))) refl (tt, tt) $
    sets ! (addr ! (through ! refl (stop !))) refl (tt, tt) $
    calls_at ! (fm 𝓛 𝓜 𝓡) k (met 𝓤 𝓛 𝓜 𝓡 (code.calls-neli_c::session::lend_next 𝓡.env wired)) y
    (and_then ! (get ! refl) (and_then ! (get ! refl) (and_then ! (get ! refl) (and_then ! (get ! refl) (no_more !))))) (λ u.
    let m = named_lft 2 0 tt κs in
    code_of ! m (alive 𝓛 callee.signature κs qs) (Lasts callee.ended κs a) (lasts callee.ended κs a)
    (λ r ls. (d κs a).ensures tt r (at_exit callee.ended κs a ls)) (λ r ls good.
    lands_as ! refl refl (tt, good) $
    sets ! (of_opd ! (get_in ! (fld ! refl (stop !)) (sub ! 0 refl (whole !)))) refl (tt, good.0) $
    returns ! (look_at ! 0 refl) $ free_all ! refl $
    by ! (leaves 𝓛 own.ended stays c z (code_word m r) r.code ls (tt, (tt, (tt, (tt, tt)))))))))
