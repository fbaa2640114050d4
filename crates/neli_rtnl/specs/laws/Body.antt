-- Laws of bodies: where `==` is equality.
use Rattle.std.specs.Prelude.{Bool, ◌&&◌, nat_eq, refl}
use Rattle.std.specs.Ordering.{int_eq}
use Rattle.std.specs.Cmp.{signed_Decides}
use Rattle.std.specs.Cmp.Lexicographic.{pointwise}
use Rattle.neli_wire.specs.Constants.{IsEquality}
use Rattle.neli_attr.specs.laws.Equality.{pair-equality, parts-equality, routing_eq, routing_list-equality}
use Rattle.neli_rtnl.specs.declared.body.Body.{Body}

-- signed numbers
pub signed-equality : IsEquality int_eq
signed-equality = λ a b. signed_Decides a b

-- bodies, if it is equality of the fields and of the attributes' types
pub body-equality : {H A : Type 0} {p : H → H → Bool} {q : A → A → Bool} → IsEquality p → IsEquality q
    → IsEquality {T = Body H A} (λ m n. p m.header n.header
    && pointwise (routing_eq q (pointwise nat_eq)) m.rtattrs n.rtattrs)
body-equality {H} {A} h k = parts-equality (λ (m : Body H A). (m.header, m.rtattrs))
    (λ t. record { header = t.0; rtattrs = t.1 }) (λ m. refl) (pair-equality h (routing_list-equality k))
