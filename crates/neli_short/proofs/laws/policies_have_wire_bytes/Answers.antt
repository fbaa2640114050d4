use Rattle.std.proofs.Common.{◌≡◌, ℕ, List, [], ◌∷◌, Some, Ok, refl, ap}
use Rattle.neli_wire.specs.Writing.{◌+++◌}
use Rattle.neli_consts_linux.specs.NlPolicyTypeAttr.{nl_policy_type_attr_number}
use Rattle.neli_attr.specs.Nlattr.{nlattr_wire}
use Rattle.neli_short.specs.ExtAcks.{PolicyAttributes, policy_wire}
use Rattle.neli_short.proofs.laws.policies_have_wire_bytes.Goals as goal

-- one attribute after the other
has_wire : (attrs : PolicyAttributes) → (bytes : List ℕ) × (policy_wire (Some attrs) ≡ Ok bytes)
has_wire [] = ([], refl)
has_wire (a ∷ attrs) =
    (_, ap (λ wire. nlattr_wire nl_policy_type_attr_number (λ bytes. Ok bytes) a +++ wire) (has_wire attrs).1)

pub returns : goal.returns
returns c = record { written = has_wire }
