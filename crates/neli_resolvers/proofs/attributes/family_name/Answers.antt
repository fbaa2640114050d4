use Rattle.std.proofs.Common.{◌≡◌, Ok, IfErr, IfOk, string_bytes, subst}
use Rattle.neli_wire.specs.Refusals.{Refuses}
use Rattle.neli_wire.specs.Strings.{owned_text}
use Rattle.neli_attr.specs.Handles.{attrs_in}
use Rattle.neli_attr.specs.Lookup.{read_found}
use Rattle.neli_resolvers.specs.Attributes.{HasBytes}
use Rattle.neli_resolvers.proofs.Lookups.{finds_family_name}
use Rattle.neli_resolvers.proofs.attributes.family_name.Goals as goal

pub returns : goal.returns
returns c =
    let result = c.get_attr_payload_as_with_len.result in
    let found = finds_family_name (attrs_in c.args.attrs.now) in
    record {
      value = subst (λ p. IfOk result (λ name. read_found p owned_text ≡ Ok (string_bytes name))) found
          c.get_attr_payload_as_with_len.ensures.value;
      refused = subst (λ p. IfErr result (Refuses (read_found p owned_text) (HasBytes p))) found
          c.get_attr_payload_as_with_len.ensures.refused;
    }
