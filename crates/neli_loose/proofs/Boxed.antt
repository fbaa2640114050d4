-- A box on the heap as its pointer and its allocator: structs that own what such a box owns move it from one to another.
use mathlib.Core.Path.{refl, sym, subst}
use mathlib.Core.List.{List, [], ◌∷◌, ◌++◌}
use mathlib.Core.Bool.{Bool, not}
use lib.Dec.{T}
use seplogic.Ra.Ura.{Ura}
use mir.Syntax.{impl, Fn, Sym, Ty, ty_struct, ty_ptr, tcons, tnil, dnil, local, value_local, place, field, copy, rv_opd}
use mir.Syntax.{aggregate, seq, assign, return}
use mir.Val.{Val}
use base.Logic.{SProp, ent}
use prog.Wp.{WpFn, Calls, Loops}
use types.Logic.{Logic}
use types.Kit.{Item, ‵, ⋆, ◌$◌, ◌∵◌, !, qed, by}
use types.Part.{whole, sub, agg}
use types.Run.{stop, fld, no_more, and_then, of_opd, returns, enter}
use types.ByLocal.{alloc_all, pass_all, free_all, look_at, get, get_in, sets}
use denote.RattleType.{RattleType}
use denote.Param.Laws.{Laws}
use denote.Signature.{Slot, plain}
use Rattle.std.specs.Prelude.{◌≡◌, Option, Some, None, IsSome}
use Rattle.core.proofs.alloc.Calls.{α}
use Rattle.std_alloc.proofs.BoxSteps.Form.{Bx, D, B, word, box_typed}
use Rattle.std_alloc.proofs.BoxSteps.Steps.{box_out, box_in}
use Rattle.std_heap.specs.contracts.Global as Heap
use Rattle.std_heap.specs.contracts.GlobalAllocator.TheImpl.{ghosts, dict}
use Rattle.std_heap.proofs.Global.TheLaws as heap
use Rattle.neli_loose.specs.contracts.loose.Loose as Loose

-- a box of such values on the heap
abbrev pub boxed : (R : RattleType) → Laws R → Bx
boxed R laws = record {
  row = R;
  laws = laws;
  al = record { row = Heap.the_row; laws = heap.the_row_laws; g = ghosts; d = dict; drops = impl [] tnil dnil };
}

-- a loose one
abbrev pub FromLoose : RattleType → Slot 0
FromLoose R = plain (λ _. Loose.the_row R Heap.the_row ghosts)

-- an option with a value is that value
pub some_of : {A : Type 0} (o : Option A) → IsSome o → (x : A) × (o ≡ Some x)
some_of (Some x) has = (x, refl)
some_of None has = absurd (subst (λ (b : Bool). T (not b)) has tt)

module _ (E : Bx) where
  -- a struct of a pointer and the allocator, of this name
  abbrev pub pair : Sym → Ty
  pair name = ty_struct name (tcons ty_ptr (tcons (α E.al) tnil))

  -- the code that makes the first of the second, field by field
  abbrev pub moves : Sym → Sym → Fn
  moves to from = record {
    lifetimes = 0;
    outlives = [];
    ty_params = [];
    givens = 0;
    params = 1;
    locals = local (pair to) value_local ∷ local (pair from) value_local ∷ local ty_ptr value_local
        ∷ local (α E.al) value_local ∷ local ty_ptr value_local ∷ [];
    body = seq (assign (place 2 []) (rv_opd (copy (place 1 (field 0 ∷ [])))))
        (seq (assign (place 3 []) (rv_opd (copy (place 1 (field 1 ∷ [])))))
        (seq (assign (place 4 []) (rv_opd (copy (place 2 []))))
        (seq (assign (place 0 []) (aggregate (copy (place 4 []) ∷ copy (place 3 []) ∷ []))) return)));
  }

  module _ {M : Type 1} {𝓤 : Ura M} (𝓛 : Logic 𝓤) (C : Calls 𝓤 𝓛.H) (Λ : Loops 𝓤 𝓛.H) where
    open 𝓛 use {H}

    -- what owns a box gets it from another such struct
    pub moved : (to from : Sym) (v : D E) (vs : List Val) (Post : Val → SProp 𝓤)
        → ((w : Val) → ent 𝓤 (⋆ 𝓛 (‵ ((B E).own_val v (w ∷ [])) ∷ [])) (Post w))
        → ent 𝓤 (⋆ 𝓛 (‵ ((B E).own_val v vs) ∷ [])) (WpFn 𝓤 H C Λ (moves to from) (vs ++ []) Post)
    moved to from v vs Post ends =
        qed 𝓛 (‵ ((B E).own_val v vs) ∷ []) ∵ box_out E ! v vs (λ b o hv e ws fa. box_in E ! v b o v.value e refl $
        let w = word E hv b o in
        let Γ : List (Item 𝓤) = ‵ ((B E).own_val v (w ∷ [])) ∷ [] in
        by ! (subst (λ (us : List Val). ent 𝓤 (⋆ 𝓛 Γ) (WpFn 𝓤 H C Λ (moves to from) (us ++ []) Post)) (sym ws)
        (qed 𝓛 Γ ∵ enter ! C Λ (moves to from) (w ∷ []) _ $ alloc_all !
        (λ ls. pass_all ! refl (box_typed E hv b o fa, tt) $
        sets ! (of_opd ! (get_in ! (fld ! refl (stop !)) (sub ! 0 refl (whole !)))) refl (tt, tt) $ sets !
        (of_opd ! (get_in ! (fld ! refl (stop !)) (sub ! 1 refl (whole !)))) refl fa $ sets !
        (of_opd ! (get ! refl)) refl (tt, tt) $
        sets ! (agg ! (and_then ! (get ! refl) (and_then ! (get ! refl) (no_more !)))) refl
        (box_typed E hv b o fa) $ returns ! (look_at ! 0 refl) $ free_all ! refl $ by ! (ends w)))))
