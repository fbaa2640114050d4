use Rattle.neli_payloads.specs.laws.IfaCacheinfo.{ifa_cacheinfo-reads_back, ifa_cacheinfo-writes_back}
use Rattle.neli_payloads.proofs.laws.ifa_cacheinfo_is_read_back.Goals as goal

pub returns-clause-back : goal.returns-clause-back
returns-clause-back c = ifa_cacheinfo-reads_back

pub returns-clause-bytes : goal.returns-clause-bytes
returns-clause-bytes c = ifa_cacheinfo-writes_back
