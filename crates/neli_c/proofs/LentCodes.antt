-- An export that passes its parameters on to a function that returns what is lent, and returns its code: what is had of
-- the parameters, and what that call leaves.
use mathlib.Core.Path.{refl, ap, ◌∙◌}
use mathlib.Core.List.{List, [], ◌∷◌, ◌++◌}
use seplogic.Ra.Ura.{Ura}
use base.Fml.{Fml}
use base.Logic.{SProp, ex, id⊢, sep}
use lib.ListN.{length}
use lib.Signed.{mag}
use mir.Syntax.{Body, Place, w32}
use mir.Val.{Val, WT, vint, vstruct, of_list, of_z, hbits}
use mir.ValLaws.{of_z_fits}
use prog.Wp.{Calls, Env, Loops}
use types.Logic.{Logic, sem}
use types.Kit.{Item, Post, Seq, lands, ‵, raw, ◌⊛◌, some, later, ◌$◌, move, use1, drop, split, pick, await}
use types.Kit.{fsplit, fjoin, fpick, feq_i, feq_l, flt_i, flt_l, regoal}
use denote.Builtin.{i32}
use denote.Exit.{Kept, left}
use denote.Ref.{NamedLft}
use denote.Signature.{Slot}
use denote.Slice.{slice_val}
use denote.Steps.{only}
use denote.Triple.End.{Kepts}
use denote.Triple.Walked.{AllGo, Stay, Stays}
use Rattle.std.specs.Prelude.{◌^◌, ℕ}
use Rattle.neli_c.specs.contracts.lending.Lending as Lending

-- ---- the parameters

-- of one that is passed on there is what the callee says of it
abbrev passed_on : {n : ℕ} (s : Slot n) (k : Kept) → Stay s k
passed_on s k = record { fit = λ κs x f. Unit {0}; has = λ κs x f vs. left ((s.row κs).exit k) x f }

abbrev pub all_passed_on : {n : ℕ} (ss : List (Slot n)) (ks : Kepts ss) → Stays ss ks
all_passed_on [] ks = tt
all_passed_on (s ∷ ss) ks = (passed_on s ks.0, all_passed_on ss ks.1)

pub all-go : {M : Type 1} {𝓤 : Ura M} (𝓛 : Logic 𝓤) (n : ℕ) (ss : List (Slot n)) (ks : Kepts ss)
    → AllGo 𝓛 n ss ks (all_passed_on ss ks)
all-go 𝓛 n [] ks = tt
all-go 𝓛 n (s ∷ ss) ks = (λ κs x f vs fits. 𝓛.laws.⇛_intro _, all-go 𝓛 n ss ks.1)

-- ---- what the call returns

module _ (m : NamedLft) (r : (Lending.the_row m).Denot) where
  abbrev pub code_word : Val
  code_word = vint w32 (of_z w32 r.code)

  abbrev pub lending_word : Val
  lending_word = vstruct (of_list (code_word ∷ slice_val r.bytes.ref_ptr (length r.bytes.now) ∷ []))

module _ {M : Type 1} {𝓤 : Ura M} {𝓛 : Logic 𝓤} {K : Type 0} {Γ : List (Item 𝓤)} where
  open 𝓛 use {H}

  -- its machine value, and of it the code's, beside what the call says
  pub code_of : K → (m : NamedLft) (tokens : SProp 𝓤) (L : Type 0) (lasts : L → Fml)
      (says : (Lending.the_row m).Denot → L → SProp 𝓤)
      {C : Calls 𝓤 H} {Λ : Loops 𝓤 H} {E : Env 𝓤 H} {d : Place} {u : Val} {rest : Body} {q : Post 𝓤 H}
      → ((r : (Lending.the_row m).Denot) (ls : L) → WT (lending_word m r)
      → Seq K 𝓛 (raw tokens ∷ ‵ (lasts ls) ∷ ‵ (i32.own_val r.code (code_word m r ∷ [])) ∷ raw (says r ls) ∷ Γ)
      (lands C Λ E d (lending_word m r) rest q))
      → Seq K 𝓛 (raw (H.⇛ (ex 𝓤 (λ (r : (Lending.the_row m).Denot).
      sep 𝓤 (sep 𝓤 tokens (sem 𝓛 ((Lending.the_row m).own_val r (u ∷ []))))
      (ex 𝓤 (λ (ls : L). sep 𝓤 (sem 𝓛 (lasts ls)) (says r ls)))))) ∷ Γ) (lands C Λ E d u rest q)
  code_of t m tokens L lasts says {C} {Λ} {E} {d} {u} {rest} {q} then =
      use1 𝓛 (later (some (λ (r : (Lending.the_row m).Denot). (raw tokens ⊛ ‵ ((Lending.the_row m).own_val r (u ∷ []))) ⊛ some
      (λ (ls : L). ‵ (lasts ls) ⊛ raw (says r ls))))) (id⊢ 𝓤 _) $
      await t tt $ pick t (λ r. split t $ move t (1 ∷ []) $ pick t (λ ls. split t $
      move t (2 ∷ []) $ split t $ move t (1 ∷ []) $
      fpick t (λ vss. fsplit t $ feq_l t (λ eu. fsplit t $ fsplit t $ feq_l t (λ ec. flt_l t (λ fits. fsplit t $ fsplit t $
      fsplit t $ feq_l t (λ eb. fsplit t $ flt_l t (λ count. drop t $ drop t $ drop t $
      regoal t (λ (v : Val). lands C Λ E d v rest q) (ap only (eu ∙ (λ j. vstruct (of_list (ec j ++ (eb j ++ []))) ∷ []))) refl $
      flt_i t (mag r.code) (2 ^ hbits w32) fits $
      feq_i t (List Val) (code_word m r ∷ []) (code_word m r ∷ []) refl $ fjoin t $ move t (1 ∷ 2 ∷ 0 ∷ 3 ∷ []) $
      then r ls (of_z_fits w32 r.code (record { sfits = fits }), ((tt, (record { fits = count }, tt)), tt))))))))))
