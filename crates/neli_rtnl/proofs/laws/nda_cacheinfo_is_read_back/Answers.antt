use Rattle.neli_rtnl.specs.laws.NdaCacheinfo.{nda_cacheinfo-reads_back, nda_cacheinfo-writes_back}
use Rattle.neli_rtnl.proofs.laws.nda_cacheinfo_is_read_back.Goals as goal

pub returns-clause-back : goal.returns-clause-back
returns-clause-back c = nda_cacheinfo-reads_back

pub returns-clause-bytes : goal.returns-clause-bytes
returns-clause-bytes c = nda_cacheinfo-writes_back
