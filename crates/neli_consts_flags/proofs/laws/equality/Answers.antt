use Rattle.neli_consts_flags.proofs.Sets.{sets-equality}
use Rattle.neli_consts_flags.proofs.laws.equality.Goals as goal

pub returns-clause-iff : goal.returns-clause-iff
returns-clause-iff c = sets-equality

pub returns-clause-ifa_f : goal.returns-clause-ifa_f
returns-clause-ifa_f c = sets-equality

pub returns-clause-rtm_f : goal.returns-clause-rtm_f
returns-clause-rtm_f c = sets-equality

pub returns-clause-nud : goal.returns-clause-nud
returns-clause-nud c = sets-equality

pub returns-clause-ntf : goal.returns-clause-ntf
returns-clause-ntf c = sets-equality

pub returns-clause-vlan_flags : goal.returns-clause-vlan_flags
returns-clause-vlan_flags c = sets-equality

pub returns-clause-frf : goal.returns-clause-frf
returns-clause-frf c = sets-equality
