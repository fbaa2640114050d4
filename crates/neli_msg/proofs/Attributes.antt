-- Attributes of answers, read as a list of generic attributes.
use Rattle.std.proofs.Common.{◌≡◌, List, [], ◌∷◌, Result, Ok, Err, refl, ap, ℕ}
use Rattle.std.specs.Prelude.{IfOk, IfErr, map}
use Rattle.std.proofs.lemmas.Result.{IfOk-weaker}
use Rattle.neli_wire.specs.declared.errors.DeError.{DeError}
use Rattle.neli_wire.specs.Refusals.{Refuses}
use Rattle.neli_wire.specs.laws.Reading.{refused_first}
use Rattle.neli_consts.specs.NlmsgerrAttr.{nlmsgerr_attr_of}
use Rattle.neli_attr.specs.Attributes.{attributes_in}
use Rattle.neli_attr.specs.Nlattr.{nlattr_view}
use Rattle.neli_attr.specs.TypeField.{type_of}
use Rattle.neli_msg.specs.Answers.{Attributes, attribute_of, ext_ack_in}

texts_of : (list : Attributes) → map attribute_of (map nlattr_view list) ≡ list
texts_of [] = refl
texts_of (a ∷ list) = ap (λ (xs : Attributes). a ∷ xs) (texts_of list)

pub attributes_value : (r : Result Attributes DeError) (s : List ℕ)
    → IfOk r (λ list. attributes_in (type_of nlmsgerr_attr_of) s ≡ Ok (map nlattr_view list))
    → IfOk r (λ list. ext_ack_in s ≡ Ok list)
attributes_value r s h = IfOk-weaker r _ _ (λ list e. rw e (ap (λ (xs : Attributes). Ok xs) (texts_of list))) h

pub attributes_refused : (r : Result Attributes DeError) (s : List ℕ) (takes : Type 0)
    → IfErr r (Refuses (attributes_in (type_of nlmsgerr_attr_of) s) takes) → IfErr r (Refuses (ext_ack_in s) takes)
attributes_refused (Ok list) s takes h = h
attributes_refused (Err e) s takes h = refused_first (attributes_in (type_of nlmsgerr_attr_of) s) _ takes takes e h
    (λ t. t)
