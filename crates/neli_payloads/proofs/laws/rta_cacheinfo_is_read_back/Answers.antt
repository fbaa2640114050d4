use Rattle.neli_payloads.specs.laws.RtaCacheinfo.{rta_cacheinfo-reads_back, rta_cacheinfo-writes_back}
use Rattle.neli_payloads.proofs.laws.rta_cacheinfo_is_read_back.Goals as goal

pub returns-clause-back : goal.returns-clause-back
returns-clause-back c = rta_cacheinfo-reads_back

pub returns-clause-bytes : goal.returns-clause-bytes
returns-clause-bytes c = rta_cacheinfo-writes_back
