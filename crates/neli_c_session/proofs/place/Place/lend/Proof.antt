-- `lend` lends the session, and the place follows it.
use mathlib.Core.Path.{refl, sym}
use mathlib.Core.List.{List, [], ◌∷◌}
use seplogic.Ra.Ura.{Ura}
use base.Fraction.{full_share}
use base.Fml.{Lft, GName, Share, Fml, ftrue, flft, fsep}
use base.Logic.{SProp, ent, sep}
use mir.Raw.{raw as bare}
use mir.Syntax.{Fn, named}
use mir.Val.{Val, vptr}
use contract.Monad.{fact}
use contract.Running.{tables}
use prog.Wp.{Env}
use types.Logic.{Logic, sem}
use types.Kit.{‵, raw, ◌⊛◌, some, later, at_ret, ◌$◌, ◌∵◌, !, qed, by, move, keep, use1, drop, split, join, pick, await, group}
use types.Kit.{fsplit, fsplit3, fjoin, fpack, suffices, rewrite, frame, done}
use types.Part.{whole, sub, look_in}
use types.Run.{stop, fld, load, of_opd, addr, first, blocks, exec, returns, enter}
use types.ByLocal.{alloc_all, pass_all, free_all, look_at, get, through, sets, sets_last, env}
use denote.Exit.{no}
use denote.RattleType.{RattleType, owns}
use denote.Memory.{part_at, part_of, mem, cell_at}
use denote.Ref.{MutRef, mut_vals, mut_Tells}
use denote.RawPtr.{block_ptr}
use denote.Signature.{plain, mut_ref_to}
use denote.Steps.{nothing, heard, opens}
use denote.Follow.{follows, Part, lends_Part}
use denote.Triple.Walked.{says, Stays, stay_dropped, walk_of, ends_at, Goes-spent_ref}
use Rattle.std.specs.Prelude.{◌≡◌, ℕ, Option, Some, IsSome}
use Rattle.std.proofs.raw_atomic.Walks.{proved}
use Rattle.core.proofs.alloc.Calls.{token}
use Rattle.std_alloc.proofs.VecSteps.Shapes.{after}
use Rattle.std_alloc.proofs.BoxSteps.Form.{Bx, D, τ, word, handle}
use Rattle.std_alloc.proofs.BoxSteps.Steps.{box_out, box_in}
use Rattle.neli_loose.proofs.Boxed.{boxed, some_of}
use Rattle.neli_loose.proofs.Places.{loose_owns, placed}
use Rattle.neli_c_session.proofs.SessionPlaces.{places}
use Rattle.neli_c_session.specs.Places.{with_session}
use Rattle.neli_c_session.specs.contracts.place.Place as Place
use Rattle.neli_session.specs.contracts.session.Session as Session
use Rattle.neli_c_session.specs.contracts.place.Place.lend as lending
use Rattle.neli_c_session.specs.contracts.place.Place.lend.Key.{name}
use Rattle.neli_c_session.proofs.place.Place.lend.Statement.{statement}
use Rattle.neli_c_session.proofs.place.Place.lend.Code as code

abbrev E : Bx
E = boxed places.held places.laws

abbrev P : RattleType
P = Place.the_row

abbrev R : RattleType
R = Session.the_row

abbrev stays : Stays lending.ended.signature.params lending.ended.kept
stays = (stay_dropped (mut_ref_to (0 ∷ []) tt (plain (λ _. P))) no, tt)

abbrev boxed_at : P.Denot → R.Denot → D E
boxed_at h x = record { ptr = h.at; alloc = h.alloc; value = x }

module _ {M : Type 1} {𝓤 : Ura M} (𝓛 : Logic 𝓤) (rb ro : ℕ) (h : P.Denot) (b o : ℕ) (hv : Val) where
  -- all of the place but its session
  abbrev Rest : Fml
  Rest = fsep (fsep (token E.al h.alloc (bare (τ E)) (block_ptr b o)) (handle E h.alloc hv)) (cell_at full_share P.mir (word E hv b o ∷ []) rb ro)

  back : h.at ≡ block_ptr b o → (w : R.Denot) → ent 𝓤 (sep 𝓤 (sem 𝓛 ((mem R).own_at w b o)) (sem 𝓛 Rest)) (sem 𝓛 ((mem P).own_at (with_session h w) rb ro))
  unfolding part_of
  back at_b w =
      qed 𝓛 (‵ (part_at R full_share w b o) ∷ ‵ Rest ∷ []) ∵ move ! (1 ∷ []) $ fsplit ! $ fsplit ! $ move ! (3 ∷ []) $
      box_in E ! (boxed_at h w) b o w at_b refl $
      rewrite ! 0 (λ (φ : Fml). ‵ φ) (sym (loose_owns places (boxed_at h w) (word E hv b o ∷ []))) refl $
      move ! (1 ∷ 0 ∷ []) $ fjoin ! $
      fpack ! (List Val) (λ us. fsep (cell_at full_share P.mir us rb ro) (P.own_val (with_session h w) us)) (word E hv b o ∷ []) $ done !

pub lend_spec : {M : Type 1} → statement M
lend_spec 𝓤 𝓛 𝓜 𝓡 wired =
    let H = 𝓛.H in let 𝓣 = tables 𝓤 H 𝓜 𝓡 𝓡.env in let fn : Fn = code.function in
    let c = lending.clauses 𝓛 𝓜.mem 𝓡.returns in
    proved 𝓛 lending.ended stays c 𝓜 𝓡 (Goes-spent_ref 𝓛 1 (0 ∷ []) tt (plain (λ _. P)), tt) name fn
    (code.unfolded 𝓤 H 𝓜 𝓡 wired) (λ κs. (mut_vals, tt)) (λ κs. (mut_Tells (named 0) κs.0 P, tt))
    (λ κs qs bounds a g are.
    let κ : Lft = κs.0 in let q : Share = qs.0 in let h : P.Denot = a.0.now in let γ : GName = a.0.ghost_name in
    let rb : ℕ = a.0.ref_ptr.0 in let ro : ℕ = a.0.ref_ptr.1 in
    let z : (walk_of 𝓛 lending.ended stays c).Ghost = ((κs, qs, bounds, a, (vptr rb ro ∷ [], tt)), g) in
    let Post : Val → SProp 𝓤 = (walk_of 𝓛 lending.ended stays c).post z in
    qed 𝓛 (((‵ (flft κ q) ⊛ ‵ ftrue) ⊛ ‵ (owns (MutRef (named 0) κ P ∷ []) a (vptr rb ro ∷ [], tt)))
    ∷ raw (fact 𝓤 (IsSome h.value)) ∷ []) ∵
    move ! (1 ∷ []) $ heard ! (IsSome h.value) (λ there.
    let found : (x : R.Denot) × (h.value ≡ Some x) = some_of h.value there in
    let v : D E = boxed_at h found.0 in
    split ! $
    enter ! 𝓣.C 𝓣.Λ fn (vptr rb ro ∷ []) Post $
    alloc_all ! (λ l. pass_all ! refl ((tt, tt), tt) $
    let En : Env 𝓤 H = env fn.locals l in
    move ! (1 ∷ []) $ fsplit ! $ fsplit3 ! $ drop ! $ move ! (3 ∷ []) $ split ! $ move ! (2 ∷ 3 ∷ 0 ∷ []) $
    opens ! tt P {h = h} rb ro (λ vs. move ! (1 ∷ []) $
    rewrite ! 0 (λ (φ : Fml). ‵ φ) (places.owns h vs) refl $
    rewrite ! 0 (λ (s : Option R.Denot). ‵ (placed places.held places.laws (h.at, h.alloc, s) vs)) found.1 refl $
    rewrite ! 0 (λ (φ : Fml). ‵ φ) (loose_owns places v vs) refl $
    box_out E ! v vs (λ b o hv at_b ws fits. move ! (1 ∷ 2 ∷ []) $ fjoin ! $ move ! (1 ∷ []) $
    rewrite ! 2 (λ (us : List Val). ‵ (cell_at full_share P.mir us rb ro)) ws refl $
    first ! $ blocks ! $
    sets ! (of_opd ! (load ! (through ! refl (fld ! refl (stop !))) (look_in ! 2 (sub ! 0 refl (whole !))))) refl (tt, tt) $
    sets ! (of_opd ! (get ! refl)) refl (tt, tt) $
    sets_last ! (addr ! (through ! refl (stop !))) refl (tt, tt) $
    exec ! 𝓣.C 𝓣.Λ En (after 1 fn.body) (at_ret En Post) $
    sets ! (of_opd ! (get ! refl)) refl (tt, tt) $
    move ! (1 ∷ 2 ∷ []) $ fjoin ! $ move ! (2 ∷ 3 ∷ 4 ∷ 1 ∷ 0 ∷ []) $ group ! 5 $
    let follow : R.Denot → P.Denot = with_session h in
    let rest : SProp 𝓤 = sem 𝓛 (Rest 𝓛 rb ro h b o hv) in
    let behind = back 𝓛 rb ro h b o hv at_b in
    use1 𝓛 (later (some (λ (γ' : GName). raw (Part 𝓛 P R follow (named 0) κ q rb ro b o γ rest behind found.0 γ'))))
    (lends_Part 𝓛 P R follow (named 0) κ q rb ro b o γ rest behind (P.coded.code h) (P.coded.code h) found.0) $ await ! tt $ pick ! (λ γ'.
    returns ! (look_at ! 0 refl) $ free_all ! refl $
    keep ! (0 ∷ []) $ by ! (
    qed 𝓛 (‵ ((MutRef (named 0) κ R).own_val (record { ref_ptr = (b, o); ghost_name = γ'; now = found.0 }) (vptr b o ∷ []))
    ∷ ‵ (flft κ q) ∷ ‵ (follows P R γ γ' follow) ∷ []) ∵
    suffices ! _ (ends_at 𝓛 lending.ended stays c z (vptr b o) (record { ref_ptr = (b, o); ghost_name = γ'; now = found.0 }) (tt, tt) (tt, tt)) $
    nothing ! $ nothing ! $ fjoin ! $ join ! $ nothing ! $ move ! (2 ∷ 0 ∷ []) $ join ! $ join ! $ frame ! $ says ! found.1 $ done !)))))))
