use Rattle.neli_rtnl_linux.proofs.laws.ndtmsg_is_read_back.Goals as goal

pub returns-clause-back : goal.returns-clause-back
returns-clause-back c m = c.body_is_read_back.ensures.back m.header m.rtattrs

pub returns-clause-whole : goal.returns-clause-whole
returns-clause-whole c m = c.attributes_are_read_back.ensures.whole m.header m.rtattrs

pub returns-clause-bytes : goal.returns-clause-bytes
returns-clause-bytes c = c.body_is_read_back.ensures.bytes
