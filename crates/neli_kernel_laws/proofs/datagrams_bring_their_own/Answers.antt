use Rattle.neli_kernel_laws.proofs.Complete.{others_numbered, own_numbered, several_numbered}
use Rattle.neli_kernel_laws.proofs.datagrams_bring_their_own.Goals as goal

pub returns-clause-own : goal.returns-clause-own
returns-clause-own c = own_numbered

pub returns-clause-others : goal.returns-clause-others
returns-clause-others c = others_numbered

pub returns-clause-several : goal.returns-clause-several
returns-clause-several c = several_numbered
