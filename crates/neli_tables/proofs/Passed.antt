-- Options read so far, and those to come.
use Rattle.std.proofs.Common.{Bor, get_or, ◌<◌, ◌≡◌, ◌∙◌, ℕ, ◌+◌, Bool, ◌||◌, ◌&&◌, eqb, List, ◌∷◌, length}
use Rattle.std.proofs.Common.{drop, map, Option, ap, arith}
use Rattle.std.proofs.lemmas.List.{drop_more, get_or-map, length-map}
use Rattle.neli_tables.specs.declared.kind.Kind.{Kind}
use Rattle.neli_tables.specs.declared.line.Class.{Class}
use Rattle.neli_tables.specs.declared.setting.Said.{Said}
use Rattle.neli_tables.specs.declared.setting.Setting.{Setting}
use Rattle.neli_tables.specs.declared.word.Word.{Word}
use Rattle.neli_tables.specs.Lines.{all_belong, belongs, first_kind, kind_in, kind_said}
use Rattle.neli_tables.specs.Settings.{has_slot, setting_view, slot}

abbrev Lent : Type 0
Lent = Setting (Bor (List ℕ))

-- a statement about the options from this one on
turn : {R : Type 0} (f : List (Setting (List ℕ)) → R) (whole : R) (settings : List Lent) (i : ℕ) (d : Lent)
    → whole ≡ f (drop i (map setting_view settings)) → i < length settings
    → whole ≡ f (setting_view (get_or settings i d) ∷ drop (i + 1) (map setting_view settings))
turn f whole settings i d said within =
    said ∙ ap f (drop_more (map setting_view settings) i (setting_view d)
    (omega (arith, within, length-map settings setting_view))
    ∙ ap (λ s. s ∷ drop (i + 1) (map setting_view settings)) (get_or-map setting_view settings i d (setting_view d) within))

pub kind_here : (whole : Option Kind) (settings : List Lent) (i : ℕ) (d : Lent) (o : Option Kind)
    → whole ≡ kind_in (drop i (map setting_view settings)) → i < length settings
    → kind_said (get_or settings i d).said ≡ o
    → whole ≡ first_kind o (kind_in (drop (i + 1) (map setting_view settings)))
kind_here whole settings i d o said within is =
    turn kind_in whole settings i d said within
    ∙ ap (λ k. first_kind k (kind_in (drop (i + 1) (map setting_view settings)))) is

pub belongs_here : (w : Word) (c : Class) (whole : Bool) (settings : List Lent) (i : ℕ) (d : Lent) (b : Bool)
    → whole ≡ all_belong w c (drop i (map setting_view settings)) → i < length settings
    → belongs w c (get_or settings i d).said ≡ b
    → whole ≡ (b && all_belong w c (drop (i + 1) (map setting_view settings)))
belongs_here w c whole settings i d b said within is =
    turn (all_belong w c) whole settings i d said within
    ∙ ap (λ x. x && all_belong w c (drop (i + 1) (map setting_view settings))) is

pub slot_here : (s : Said) (whole : Bool) (settings : List Lent) (i : ℕ) (d : Lent) (b : Bool)
    → whole ≡ has_slot (drop i (map setting_view settings)) s → i < length settings
    → eqb (slot (get_or settings i d).said) (slot s) ≡ b
    → whole ≡ (b || has_slot (drop (i + 1) (map setting_view settings)) s)
slot_here s whole settings i d b said within is =
    turn (λ settings. has_slot settings s) whole settings i d said within
    ∙ ap (λ x. x || has_slot (drop (i + 1) (map setting_view settings)) s) is
