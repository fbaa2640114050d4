use Rattle.neli_attr.specs.laws.Equality.{attribute-equality, bytes-equality, field-equality}
use Rattle.neli_attr.specs.laws.Equality.{lists-equality, routing-equality}
use Rattle.neli_attr.proofs.laws.equality.Goals as goal

pub returns-clause-buffer : goal.returns-clause-buffer
returns-clause-buffer g c = lists-equality bytes-equality

pub returns-clause-type_field : goal.returns-clause-type_field
returns-clause-type_field g c = λ h. field-equality h

pub returns-clause-attribute : goal.returns-clause-attribute
returns-clause-attribute g c = λ h k. attribute-equality h k

pub returns-clause-routing : goal.returns-clause-routing
returns-clause-routing g c = λ h k. routing-equality h k

pub returns-clause-list : goal.returns-clause-list
returns-clause-list g c = λ h. lists-equality h
