use Rattle.neli_rtnl.specs.laws.IflaVlanFlags.{ifla_vlan_flags-reads_back, ifla_vlan_flags-writes_back}
use Rattle.neli_rtnl.proofs.laws.ifla_vlan_flags_is_read_back.Goals as goal

pub returns-clause-back : goal.returns-clause-back
returns-clause-back c = ifla_vlan_flags-reads_back

pub returns-clause-bytes : goal.returns-clause-bytes
returns-clause-bytes c = ifla_vlan_flags-writes_back
