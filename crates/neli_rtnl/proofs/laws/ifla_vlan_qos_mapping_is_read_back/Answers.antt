use Rattle.neli_rtnl.specs.laws.IflaVlanQosMapping.{ifla_vlan_qos_mapping-reads_back, ifla_vlan_qos_mapping-writes_back}
use Rattle.neli_rtnl.proofs.laws.ifla_vlan_qos_mapping_is_read_back.Goals as goal

pub returns-clause-back : goal.returns-clause-back
returns-clause-back c = ifla_vlan_qos_mapping-reads_back

pub returns-clause-bytes : goal.returns-clause-bytes
returns-clause-bytes c = ifla_vlan_qos_mapping-writes_back
