use Rattle.std.proofs.Common.{◌≡◌, Ok, IfErr, IfOk, map, subst}
use Rattle.neli_wire.specs.Frames.{frame_at}
use Rattle.neli_wire.specs.Refusals.{Refuses}
use Rattle.neli_consts.specs.Index.{index_of}
use Rattle.neli_attr.specs.Attributes.{attribute}
use Rattle.neli_attr.specs.Handles.{attrs_in}
use Rattle.neli_attr.specs.Lookup.{list_found}
use Rattle.neli_attr.specs.Nlattr.{nlattr_view}
use Rattle.neli_attr.specs.TypeField.{type_of}
use Rattle.neli_resolvers.specs.Attributes.{HasBytes}
use Rattle.neli_resolvers.proofs.Lookups.{finds_mcast_groups}
use Rattle.neli_resolvers.proofs.attributes.groups.Goals as goal

pub returns : goal.returns
returns c =
    let result = c.get_nested_attributes.result in
    let found = finds_mcast_groups (attrs_in c.args.attrs.now) in
    let listed = frame_at (attribute (type_of index_of) (λ bytes. Ok bytes)) in
    record {
      value = subst (λ p. IfOk result (λ all. list_found p listed ≡ Ok (map nlattr_view (attrs_in all)))) found
          c.get_nested_attributes.ensures.value;
      refused = subst (λ p. IfErr result (Refuses (list_found p listed) (HasBytes p))) found
          c.get_nested_attributes.ensures.refused;
    }
