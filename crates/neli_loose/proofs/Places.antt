-- Places that C can hold: structs of a pointer and the allocator, which own a box if they have a value. An exported
-- function takes no struct with type arguments, so each is a struct of its own; what makes an empty one, and what moves
-- a box into one and out of it, is proved here for any of them.
use mathlib.Core.Path.{refl, sym, subst, ap, ◌∙◌}
use mathlib.Core.List.{List, [], ◌∷◌, ◌++◌}
use lib.Dec.{lit<}
use seplogic.Ra.Ura.{Ura}
use mir.Syntax.{Callee, Fn, Sym, w64, ty_ptr, local, value_local, place, copy, int, rv_opd, aggregate, seq, assign}
use mir.Syntax.{return}
use mir.Val.{Val, vstruct, vnil, vcons, has_ty}
use base.Fml.{Fml, ftrue, fsep}
use base.Logic.{SProp, ent, emp}
use prog.Model.{Model}
use prog.Wp.{WpFn, Closed}
use contract.Monad.{fact}
use contract.Running.{Running, MachineTables, tables}
use types.Logic.{Logic}
use types.Kit.{Item, ‵, raw, ⋆, ◌⊛◌, ◌$◌, ◌∵◌, !, qed, by, move, drop, join, split, fsplit, fjoin, fpack, feq_i}
use types.Kit.{suffices, rewrite, done}
use types.Part.{agg}
use types.Run.{lit, no_more, and_then, of_opd, returns, enter}
use types.ByLocal.{alloc_all, pass_all, free_all, look_at, get, sets}
use denote.Builtin.{RawPtr}
use denote.Exit.{Last, left, yes, no}
use denote.Param.{param}
use denote.Param.Laws.{Laws}
use denote.RattleType.{RattleType, Valss}
use denote.RawPtr.{Ptr, null_ptr, ptr_val}
use denote.Signature.{Slot, plain}
use denote.Steps.{nothing, heard}
use denote.Struct.Struct.{Struct, within}
use denote.Struct.Owning.{shape}
use denote.Triple.Clauses.{Clauses, Ended, closing}
use denote.Triple.Spec.{Meets}
use denote.Triple.Walked.{says, Stays, stay_dropped, walk_of, ends_at, Goes-dropped}
use Rattle.std.specs.Prelude.{◌≡◌, Option, Some, None, IsSome}
use Rattle.std.specs.Global.{Global}
use Rattle.std.proofs.raw_atomic.Walks.{proved_at}
use Rattle.core.proofs.alloc.Calls.{Goes-blank, α, handle_tells}
use Rattle.core.proofs.atomic.Steps.{Ptr-Good}
use Rattle.std_alloc.proofs.BoxSteps.Form.{Bx, D, B, P, owning}
use Rattle.std_alloc.proofs.ResultValues.{and_tt}
use Rattle.std_alloc.specs.Box.Ownership.{box_owns}
use Rattle.std_heap.specs.contracts.Global as Heap
use Rattle.std_heap.specs.contracts.GlobalAllocator.TheImpl.{ghosts}
use Rattle.neli_loose.specs.contracts.loose.Loose as Loose
use Rattle.neli_loose.proofs.Boxed.{boxed, FromLoose, moved, moves, pair, some_of}
use Rattle.neli_loose.specs.Places.{owned}

-- what a place with these parts owns at its machine value
abbrev pub placed : (R : RattleType) → Laws R → Ptr × Global × Option R.Denot → List Val → Fml
placed R laws x vs =
    fsep ((Struct (shape (owning (boxed R laws)))).own_val (x.0, (x.1, tt)) vs) (owned R x.1 x.0 x.2)

-- a type of places: what is held, the type, its parts, and that it owns what they own; the rest holds by `refl`
pub record Places : Type 2 where
  pub held : RattleType
  pub laws : Laws held
  pub row : RattleType
  pub parts : row.Denot → Ptr × Global × Option held.Denot
  pub made : Ptr × Global × Option held.Denot → row.Denot
  pub back : (x : Ptr × Global × Option held.Denot) → parts (made x) ≡ x
  pub owns : (d : row.Denot) (vs : List Val) → row.own_val d vs ≡ placed held laws (parts d) vs
  pub boxes : (a : Global) (p : Ptr) (x : held.Denot)
      → box_owns (ghosts.dealloc_token a) held p x ≡ box_owns (ghosts.dealloc_token a) (param 0 held) p x
  pub last : (d : row.Denot) → Last (row.exit yes) d
  pub silent : (d : row.Denot) (f : Last (row.exit yes) d) → left (row.exit yes) d f ≡ ftrue

module _ (I : Places) where
  abbrev E : Bx
  E = boxed I.held I.laws

  abbrev FromPlace : Slot 0
  FromPlace = plain (λ _. I.row)

  abbrev FromHeap : Slot 0
  FromHeap = plain (λ _. Heap.the_row)

  abbrev value_of : I.row.Denot → Option I.held.Denot
  value_of d = (I.parts d).2

  abbrev Parts : Type 0
  Parts = Ptr × Global × Option I.held.Denot

  abbrev placed_at : Parts → List Val → Fml
  placed_at = placed I.held I.laws

  abbrev Loosed : RattleType
  Loosed = Loose.the_row I.held Heap.the_row ghosts

  abbrev loose_of : D E → Loosed.Denot
  loose_of v = record { at = v.ptr; alloc = v.alloc; value = v.value }

  pub loose_owns : (v : D E) (vs : List Val) → Loosed.own_val (loose_of v) vs ≡ (B E).own_val v vs
  loose_owns v vs =
      ap (fsep ((Struct (shape (owning E))).own_val (v.ptr, (v.alloc, tt)) vs)) (I.boxes v.alloc v.ptr v.value)

  -- the code that makes an empty place of this name
  abbrev pub empties : Sym → Fn
  empties name = record {
    lifetimes = 0;
    outlives = [];
    ty_params = [];
    givens = 0;
    params = 1;
    locals = local (pair E name) value_local ∷ local (α E.al) value_local ∷ local ty_ptr value_local
        ∷ local ty_ptr value_local ∷ [];
    body = seq (assign (place 2 []) (rv_opd (int w64 0)))
        (seq (assign (place 3 []) (rv_opd (copy (place 2 []))))
        (seq (assign (place 0 []) (aggregate (copy (place 3 []) ∷ copy (place 1 []) ∷ []))) return));
  }

  abbrev empty_ended : Ended
  empty_ended = record {
    signature = record { lifetimes = 0; outlives = []; params = FromHeap ∷ []; result = FromPlace };
    kept = (yes, tt);
  }

  abbrev of_ended : Ended
  of_ended = record {
    signature = record { lifetimes = 0; outlives = []; params = FromLoose I.held ∷ []; result = FromPlace };
    kept = (no, tt);
  }

  abbrev into_ended : Ended
  into_ended = record {
    signature = record { lifetimes = 0; outlives = []; params = FromPlace ∷ []; result = FromLoose I.held };
    kept = (yes, tt);
  }

  abbrev empty_stays : Stays empty_ended.signature.params empty_ended.kept
  empty_stays = (stay_dropped FromHeap yes, tt)

  abbrev of_stays : Stays of_ended.signature.params of_ended.kept
  of_stays = (stay_dropped (FromLoose I.held) no, tt)

  abbrev into_stays : Stays into_ended.signature.params into_ended.kept
  into_stays = (stay_dropped FromPlace yes, tt)

  module _ {M : Type 1} (𝓤 : Ura M) where
    abbrev empty_clauses : Clauses 𝓤 empty_ended
    empty_clauses κs a = record {
      ghost = Unit {0};
      requires = λ _. emp 𝓤;
      ensures = λ _ r _. fact 𝓤 (value_of r ≡ None);
    }

    abbrev of_clauses : Clauses 𝓤 of_ended
    of_clauses κs a = record {
      ghost = Unit {0};
      requires = λ _. emp 𝓤;
      ensures = λ _ r _. fact 𝓤 (value_of r ≡ Some a.0.value);
    }

    abbrev into_clauses : Clauses 𝓤 into_ended
    into_clauses κs a = record {
      ghost = Unit {0};
      requires = λ _. fact 𝓤 (IsSome (value_of a.0));
      ensures = λ _ r _. fact 𝓤 (value_of a.0 ≡ Some r.value);
    }

  module _ {M : Type 1} (𝓤 : Ura M) (𝓛 : Logic 𝓤) (𝓜 : Model 𝓤 𝓛.H) (𝓡 : Running 𝓤 𝓛.H 𝓜) where
    abbrev 𝓣 : MachineTables 𝓤 𝓛.H 𝓜
    𝓣 = tables 𝓤 𝓛.H 𝓜 𝓡 𝓡.env

    -- a place of these parts owns what they own
    pub owns_made : (x : Parts) (vs : List Val) → I.row.own_val (I.made x) vs ≡ placed_at x vs
    owns_made x vs = I.owns (I.made x) vs ∙ ap (λ (y : Parts). placed_at y vs) (I.back x)

    -- `empty` makes the null pointer and keeps the allocator
    pub empty_proved : (name : Sym) (k : Callee) → Closed 𝓤 𝓛.H 𝓣.C 𝓣.Λ k (empties name)
        → Meets 𝓛 empty_ended.signature (𝓣.C k) (closing 𝓛 empty_ended (empty_clauses 𝓤))
    empty_proved name k closed =
        let c : Clauses 𝓤 empty_ended = empty_clauses 𝓤 in
        proved_at 𝓛 empty_ended empty_stays c 𝓜 𝓡 (Goes-dropped 𝓛 0 FromHeap yes (λ κs x f. refl), tt) k
        (empties name) closed (λ z are.
        let Post : Val → SProp 𝓤 = (walk_of 𝓛 empty_ended empty_stays c).post z in
        let a : Global = z.0.3.0 in
        let x : Parts = (null_ptr, a, None) in
        let made : I.row.Denot = I.made x in
        qed 𝓛 ((‵ ftrue ⊛ ‵ (fsep (Heap.the_row.own_val a z.0.4.0) ftrue)) ∷ raw (emp 𝓤) ∷ []) ∵ split ! $ drop ! $
        fsplit ! $ handle_tells E.al ! a z.0.4.0 (λ hv ws fa. move ! (1 ∷ 2 ∷ []) $ drop ! $ drop ! $
        let w : Val = vstruct (vcons (ptr_val null_ptr) (vcons hv vnil)) in
        let Γ : List (Item 𝓤) = ‵ (Heap.the_row.own_val a (hv ∷ [])) ∷ [] in
        by ! (subst (λ (us : List Val). ent 𝓤 (⋆ 𝓛 Γ) (WpFn 𝓤 𝓛.H 𝓣.C 𝓣.Λ (empties name) (us ++ []) Post)) (sym ws)
        (qed 𝓛 Γ ∵ enter ! 𝓣.C 𝓣.Λ (empties name) (hv ∷ []) _ $ alloc_all ! (λ ls. pass_all ! refl (fa, tt) $
        sets ! (of_opd ! (lit ! tt)) refl (Ptr-Good null_ptr) $
        sets ! (of_opd ! (get ! refl)) refl (Ptr-Good null_ptr) $
        sets ! (agg ! (and_then ! (get ! refl) (and_then ! (get ! refl) (no_more !)))) refl
        (and_tt (has_ty (α E.al) hv) fa.0, (record { fits = lit< tt }, (fa.1, tt))) $ returns !
        (look_at ! 0 refl) $ free_all ! refl $
        nothing ! $ move ! (1 ∷ 0 ∷ []) $ fjoin ! $ feq_i ! (List Val) (ptr_val null_ptr ∷ [])
        (ptr_val null_ptr ∷ []) refl $ fjoin ! $ feq_i ! (List Val) (w ∷ []) (w ∷ []) refl $ fjoin ! $
        fpack ! (Valss (RawPtr ∷ P E ∷ [])) (within (shape (owning E)) (null_ptr, (a, tt)) (w ∷ []))
        (ptr_val null_ptr ∷ [], (hv ∷ [], tt)) $ nothing ! $ move ! (1 ∷ 0 ∷ []) $ fjoin ! $
        rewrite ! 0 (λ (φ : Fml). ‵ φ) (sym (owns_made x (w ∷ []))) refl $
        suffices ! _ (ends_at 𝓛 empty_ended empty_stays c z w made (tt, tt) (tt, tt)) $
        says ! (ap (λ (y : Parts). y.2) (I.back x)) $
        nothing ! $ nothing ! $ fjoin ! $ join ! $ nothing ! $ join ! $ done !)))))

    -- `of` moves two fields, and what they own goes with them
    pub of_proved : (to from : Sym) (k : Callee) → Closed 𝓤 𝓛.H 𝓣.C 𝓣.Λ k (moves E to from)
        → Meets 𝓛 of_ended.signature (𝓣.C k) (closing 𝓛 of_ended (of_clauses 𝓤))
    of_proved to from k closed =
        let c : Clauses 𝓤 of_ended = of_clauses 𝓤 in
        proved_at 𝓛 of_ended of_stays c 𝓜 𝓡 (Goes-blank 𝓛 0 (FromLoose I.held) no (λ κs x f. tt), tt) k
        (moves E to from) closed (λ z are.
        let v : D E = record { ptr = z.0.3.0.at; alloc = z.0.3.0.alloc; value = z.0.3.0.value } in
        let x : Parts = (v.ptr, v.alloc, Some v.value) in
        let made : I.row.Denot = I.made x in
        qed 𝓛 ((‵ ftrue ⊛ ‵ (fsep (Loosed.own_val (loose_of v) z.0.4.0) ftrue)) ∷ raw (emp 𝓤) ∷ []) ∵ split ! $ drop ! $
        fsplit ! $ move ! (1 ∷ 2 ∷ []) $ drop ! $ drop ! $ rewrite ! 0 (λ (φ : Fml). ‵ φ) (loose_owns v z.0.4.0) refl $
        by ! (moved E 𝓛 𝓣.C 𝓣.Λ to from v z.0.4.0 ((walk_of 𝓛 of_ended of_stays c).post z)
        (λ w. qed 𝓛 (‵ ((B E).own_val v (w ∷ [])) ∷ []) ∵
        rewrite ! 0 (λ (φ : Fml). ‵ φ) (sym (loose_owns v (w ∷ []))) refl $
        rewrite ! 0 (λ (φ : Fml). ‵ φ) (sym (owns_made x (w ∷ []))) refl $
        suffices ! _ (ends_at 𝓛 of_ended of_stays c z w made (tt, tt) (tt, tt)) $
        says ! (ap (λ (y : Parts). y.2) (I.back x)) $
        nothing ! $ nothing ! $ fjoin ! $ join ! $ nothing ! $ join ! $ done !)))

    -- `into_loose` moves two fields, and what they own goes with them
    pub into_proved : (to from : Sym) (k : Callee) → Closed 𝓤 𝓛.H 𝓣.C 𝓣.Λ k (moves E to from)
        → Meets 𝓛 into_ended.signature (𝓣.C k) (closing 𝓛 into_ended (into_clauses 𝓤))
    into_proved to from k closed =
        let c : Clauses 𝓤 into_ended = into_clauses 𝓤 in
        proved_at 𝓛 into_ended into_stays c 𝓜 𝓡 (Goes-dropped 𝓛 0 FromPlace yes (λ κs. I.silent), tt) k
        (moves E to from) closed (λ z are.
        let d : I.row.Denot = z.0.3.0 in
        let x : Parts = I.parts d in
        qed 𝓛 ((‵ ftrue ⊛ ‵ (fsep (I.row.own_val d z.0.4.0) ftrue)) ∷ raw (fact 𝓤 (IsSome x.2)) ∷ []) ∵ move !
        (1 ∷ []) $ heard ! (IsSome x.2) (λ there. split ! $ drop ! $ fsplit ! $
        let found : (y : I.held.Denot) × (x.2 ≡ Some y) = some_of x.2 there in
        let v : D E = record { ptr = x.0; alloc = x.1; value = found.0 } in
        rewrite ! 0 (λ (φ : Fml). ‵ φ) (I.owns d z.0.4.0) refl $
        rewrite ! 0 (λ (o : Option I.held.Denot). ‵ (placed_at (x.0, x.1, o) z.0.4.0)) found.1 refl $
        rewrite ! 0 (λ (φ : Fml). ‵ φ) (loose_owns v z.0.4.0) refl $ move ! (1 ∷ []) $ drop ! $
        by ! (moved E 𝓛 𝓣.C 𝓣.Λ to from v z.0.4.0 ((walk_of 𝓛 into_ended into_stays c).post z)
        (λ w. qed 𝓛 (‵ ((B E).own_val v (w ∷ [])) ∷ []) ∵
        rewrite ! 0 (λ (φ : Fml). ‵ φ) (sym (loose_owns v (w ∷ []))) refl $
        suffices ! _ (ends_at 𝓛 into_ended into_stays c z w (loose_of v) (I.last d, tt) (tt, tt)) $ says ! found.1 $
        nothing ! $ nothing ! $ fjoin ! $ join ! $ nothing ! $ join ! $ done !))))
