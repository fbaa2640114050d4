use Rattle.neli_wire.specs.laws.Equality.{derived-equality}
use Rattle.std.proofs.lemmas.Bool.{eqb-true}
use Rattle.neli_consts_attrs.specs.contracts.links.Ifla.{enum as ifla}
use Rattle.neli_consts_attrs.specs.contracts.links.IflaEq.TheImpl.Laws.{laws-law as ifla-laws}
use Rattle.neli_consts_attrs.specs.contracts.link_kinds.IflaInfo.{enum as ifla_info}
use Rattle.neli_consts_attrs.specs.contracts.link_kinds.IflaInfoEq.TheImpl.Laws.{laws-law as ifla_info-laws}
use Rattle.neli_consts_attrs.specs.contracts.link_kinds.IflaVlan.{enum as ifla_vlan}
use Rattle.neli_consts_attrs.specs.contracts.link_kinds.IflaVlanEq.TheImpl.Laws.{laws-law as ifla_vlan-laws}
use Rattle.neli_consts_attrs.specs.contracts.link_kinds.IflaVlanQos.{enum as ifla_vlan_qos}
use Rattle.neli_consts_attrs.specs.contracts.link_kinds.IflaVlanQosEq.TheImpl.Laws.{laws-law as ifla_vlan_qos-laws}
use Rattle.neli_consts_attrs.specs.contracts.routes.Rta.{enum as rta}
use Rattle.neli_consts_attrs.specs.contracts.routes.RtaEq.TheImpl.Laws.{laws-law as rta-laws}
use Rattle.neli_consts_attrs.specs.contracts.queues.Tca.{enum as tca}
use Rattle.neli_consts_attrs.specs.contracts.queues.TcaEq.TheImpl.Laws.{laws-law as tca-laws}
use Rattle.neli_consts_attrs.specs.contracts.neighbours.Nda.{enum as nda}
use Rattle.neli_consts_attrs.specs.contracts.neighbours.NdaEq.TheImpl.Laws.{laws-law as nda-laws}
use Rattle.neli_consts_attrs.specs.contracts.addresses.Ifa.{enum as ifa}
use Rattle.neli_consts_attrs.specs.contracts.addresses.IfaEq.TheImpl.Laws.{laws-law as ifa-laws}
use Rattle.neli_consts_attrs.specs.contracts.rules.Frattr.{enum as frattr}
use Rattle.neli_consts_attrs.specs.contracts.rules.FrattrEq.TheImpl.Laws.{laws-law as frattr-laws}
use Rattle.neli_consts_attrs.specs.contracts.rta_type.RtaTypeWrapper.{enum as rta_type_wrapper}
use Rattle.neli_consts_attrs.specs.contracts.rta_type.RtaTypeWrapperEq.TheImpl.Laws.{laws-law as rta_type_wrapper-laws}
use Rattle.neli_consts_attrs.proofs.laws.equality.Goals as goal

pub returns-clause-ifla : goal.returns-clause-ifla
returns-clause-ifla c = derived-equality ifla _ ifla-laws (λ x y e i. (eqb-true x.0 y.0 e i, tt), tt)

pub returns-clause-ifla_info : goal.returns-clause-ifla_info
returns-clause-ifla_info c = derived-equality ifla_info _ ifla_info-laws (λ x y e i. (eqb-true x.0 y.0 e i, tt), tt)

pub returns-clause-ifla_vlan : goal.returns-clause-ifla_vlan
returns-clause-ifla_vlan c = derived-equality ifla_vlan _ ifla_vlan-laws (λ x y e i. (eqb-true x.0 y.0 e i, tt), tt)

pub returns-clause-ifla_vlan_qos : goal.returns-clause-ifla_vlan_qos
returns-clause-ifla_vlan_qos c = derived-equality ifla_vlan_qos _ ifla_vlan_qos-laws
    (λ x y e i. (eqb-true x.0 y.0 e i, tt), tt)

pub returns-clause-rta : goal.returns-clause-rta
returns-clause-rta c = derived-equality rta _ rta-laws (λ x y e i. (eqb-true x.0 y.0 e i, tt), tt)

pub returns-clause-tca : goal.returns-clause-tca
returns-clause-tca c = derived-equality tca _ tca-laws (λ x y e i. (eqb-true x.0 y.0 e i, tt), tt)

pub returns-clause-nda : goal.returns-clause-nda
returns-clause-nda c = derived-equality nda _ nda-laws (λ x y e i. (eqb-true x.0 y.0 e i, tt), tt)

pub returns-clause-ifa : goal.returns-clause-ifa
returns-clause-ifa c = derived-equality ifa _ ifa-laws (λ x y e i. (eqb-true x.0 y.0 e i, tt), tt)

pub returns-clause-frattr : goal.returns-clause-frattr
returns-clause-frattr c = derived-equality frattr _ frattr-laws (λ x y e i. (eqb-true x.0 y.0 e i, tt), tt)

pub returns-clause-rta_type_wrapper : goal.returns-clause-rta_type_wrapper
returns-clause-rta_type_wrapper c =
    derived-equality rta_type_wrapper _ rta_type_wrapper-laws (
      λ x y e i. ((returns-clause-ifla c x.0 y.0).0 e i, tt),
      (
        λ x y e i. ((returns-clause-ifa c x.0 y.0).0 e i, tt),
        (
          λ x y e i. ((returns-clause-rta c x.0 y.0).0 e i, tt),
          (
            λ x y e i. ((returns-clause-tca c x.0 y.0).0 e i, tt),
            (
              λ x y e i. ((returns-clause-nda c x.0 y.0).0 e i, tt),
              (
                λ x y e i. ((returns-clause-ifla_info c x.0 y.0).0 e i, tt),
                (
                  λ x y e i. ((returns-clause-ifla_vlan c x.0 y.0).0 e i, tt),
                  (
                    λ x y e i. ((returns-clause-ifla_vlan_qos c x.0 y.0).0 e i, tt),
                    (
                      λ x y e i. ((returns-clause-frattr c x.0 y.0).0 e i, tt),
                      (λ x y e i. (eqb-true x.0 y.0 e i, tt), tt),
                    ),
                  ),
                ),
              ),
            ),
          ),
        ),
      ),
    )
