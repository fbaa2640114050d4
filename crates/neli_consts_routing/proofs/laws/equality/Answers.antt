use Rattle.neli_wire.specs.laws.Equality.{derived-equality}
use Rattle.std.proofs.lemmas.Bool.{eqb-true}
use Rattle.neli_consts_routing.specs.contracts.addresses.Af.{enum as af}
use Rattle.neli_consts_routing.specs.contracts.addresses.AfEq.TheImpl.Laws.{laws-law as af-laws}
use Rattle.neli_consts_routing.specs.contracts.addresses.RtAddrFamily.{enum as rt_addr_family}
use Rattle.neli_consts_routing.specs.contracts.addresses.RtAddrFamilyEq.TheImpl.Laws.{laws-law as rt_addr_family-laws}
use Rattle.neli_consts_routing.specs.contracts.routes.Rtn.{enum as rtn}
use Rattle.neli_consts_routing.specs.contracts.routes.RtnEq.TheImpl.Laws.{laws-law as rtn-laws}
use Rattle.neli_consts_routing.specs.contracts.routes.Rtprot.{enum as rtprot}
use Rattle.neli_consts_routing.specs.contracts.routes.RtprotEq.TheImpl.Laws.{laws-law as rtprot-laws}
use Rattle.neli_consts_routing.specs.contracts.routes.RtScope.{enum as rt_scope}
use Rattle.neli_consts_routing.specs.contracts.routes.RtScopeEq.TheImpl.Laws.{laws-law as rt_scope-laws}
use Rattle.neli_consts_routing.specs.contracts.routes.RtTable.{enum as rt_table}
use Rattle.neli_consts_routing.specs.contracts.routes.RtTableEq.TheImpl.Laws.{laws-law as rt_table-laws}
use Rattle.neli_consts_routing.specs.contracts.links.Arphrd.{enum as arphrd}
use Rattle.neli_consts_routing.specs.contracts.links.ArphrdEq.TheImpl.Laws.{laws-law as arphrd-laws}
use Rattle.neli_consts_routing.specs.contracts.rules.FrAct.{enum as fr_act}
use Rattle.neli_consts_routing.specs.contracts.rules.FrActEq.TheImpl.Laws.{laws-law as fr_act-laws}
use Rattle.neli_consts_routing.specs.contracts.messages.Rtm.{enum as rtm}
use Rattle.neli_consts_routing.specs.contracts.messages.RtmEq.TheImpl.Laws.{laws-law as rtm-laws}
use Rattle.neli_consts_routing.proofs.laws.equality.Goals as goal

pub returns-clause-af : goal.returns-clause-af
returns-clause-af c = derived-equality af _ af-laws (λ x y e i. (eqb-true x.0 y.0 e i, tt), tt)

pub returns-clause-rt_addr_family : goal.returns-clause-rt_addr_family
returns-clause-rt_addr_family c = derived-equality rt_addr_family _ rt_addr_family-laws
    (λ x y e i. (eqb-true x.0 y.0 e i, tt), tt)

pub returns-clause-rtn : goal.returns-clause-rtn
returns-clause-rtn c = derived-equality rtn _ rtn-laws (λ x y e i. (eqb-true x.0 y.0 e i, tt), tt)

pub returns-clause-rtprot : goal.returns-clause-rtprot
returns-clause-rtprot c = derived-equality rtprot _ rtprot-laws (λ x y e i. (eqb-true x.0 y.0 e i, tt), tt)

pub returns-clause-rt_scope : goal.returns-clause-rt_scope
returns-clause-rt_scope c = derived-equality rt_scope _ rt_scope-laws (λ x y e i. (eqb-true x.0 y.0 e i, tt), tt)

pub returns-clause-rt_table : goal.returns-clause-rt_table
returns-clause-rt_table c = derived-equality rt_table _ rt_table-laws (λ x y e i. (eqb-true x.0 y.0 e i, tt), tt)

pub returns-clause-arphrd : goal.returns-clause-arphrd
returns-clause-arphrd c = derived-equality arphrd _ arphrd-laws (λ x y e i. (eqb-true x.0 y.0 e i, tt), tt)

pub returns-clause-fr_act : goal.returns-clause-fr_act
returns-clause-fr_act c = derived-equality fr_act _ fr_act-laws (λ x y e i. (eqb-true x.0 y.0 e i, tt), tt)

pub returns-clause-rtm : goal.returns-clause-rtm
returns-clause-rtm c = derived-equality rtm _ rtm-laws (λ x y e i. (eqb-true x.0 y.0 e i, tt), tt)
