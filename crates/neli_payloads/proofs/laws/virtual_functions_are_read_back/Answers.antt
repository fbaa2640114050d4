use Rattle.neli_payloads.specs.laws.VfGuid.{vf_guid-reads_back, vf_guid-writes_back}
use Rattle.neli_payloads.specs.laws.VfMac.{vf_mac-reads_back, vf_mac-writes_back}
use Rattle.neli_payloads.specs.laws.VfRate.{vf_rate-reads_back, vf_rate-writes_back}
use Rattle.neli_payloads.specs.laws.VfSetting.{vf_setting-reads_back, vf_setting-writes_back}
use Rattle.neli_payloads.specs.laws.VfVlan.{vf_vlan-reads_back, vf_vlan-writes_back}
use Rattle.neli_payloads.specs.laws.VfVlanInfo.{vf_vlan_info-reads_back, vf_vlan_info-writes_back}
use Rattle.neli_payloads.proofs.laws.virtual_functions_are_read_back.Goals as goal

pub returns-clause-setting_back : goal.returns-clause-setting_back
returns-clause-setting_back c = vf_setting-reads_back

pub returns-clause-setting_bytes : goal.returns-clause-setting_bytes
returns-clause-setting_bytes c = vf_setting-writes_back

pub returns-clause-rate_back : goal.returns-clause-rate_back
returns-clause-rate_back c = vf_rate-reads_back

pub returns-clause-rate_bytes : goal.returns-clause-rate_bytes
returns-clause-rate_bytes c = vf_rate-writes_back

pub returns-clause-vlan_back : goal.returns-clause-vlan_back
returns-clause-vlan_back c = vf_vlan-reads_back

pub returns-clause-vlan_bytes : goal.returns-clause-vlan_bytes
returns-clause-vlan_bytes c = vf_vlan-writes_back

pub returns-clause-vlan_info_back : goal.returns-clause-vlan_info_back
returns-clause-vlan_info_back c = vf_vlan_info-reads_back

pub returns-clause-vlan_info_bytes : goal.returns-clause-vlan_info_bytes
returns-clause-vlan_info_bytes c = vf_vlan_info-writes_back

pub returns-clause-mac_back : goal.returns-clause-mac_back
returns-clause-mac_back c = vf_mac-reads_back

pub returns-clause-mac_bytes : goal.returns-clause-mac_bytes
returns-clause-mac_bytes c = vf_mac-writes_back

pub returns-clause-guid_back : goal.returns-clause-guid_back
returns-clause-guid_back c = vf_guid-reads_back

pub returns-clause-guid_bytes : goal.returns-clause-guid_bytes
returns-clause-guid_bytes c = vf_guid-writes_back
