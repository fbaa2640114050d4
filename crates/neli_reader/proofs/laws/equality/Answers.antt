use Rattle.neli_msg.specs.contracts.payload.NlPayload.{enum}
use Rattle.neli_attr.specs.laws.Equality.{attribute-equality, bytes-equality, lists-equality}
use Rattle.neli_reader.proofs.Equality.{answer-equality, echoed-equality, enum-equality, framed-equality}
use Rattle.neli_reader.proofs.Equality.{header-equality, no-field, one-field}
use Rattle.neli_reader.proofs.laws.equality.Goals as goal

pub returns-clause-answer : goal.returns-clause-answer
returns-clause-answer g c = λ h. answer-equality h (lists-equality
    (attribute-equality c.equality.ensures.nlmsgerr_attr (lists-equality bytes-equality)))

pub returns-clause-echo : goal.returns-clause-echo
returns-clause-echo g c = λ h k. framed-equality (header-equality h) (echoed-equality k)

pub returns-clause-payload : goal.returns-clause-payload
returns-clause-payload g c = λ h k.
    let attrs = lists-equality (attribute-equality c.equality.ensures.nlmsgerr_attr (lists-equality bytes-equality)) in
    let headed = one-field (answer-equality (header-equality h) attrs) in
    let ended = one-field (answer-equality no-field attrs) in
    let failed = one-field (answer-equality (framed-equality (header-equality h) (echoed-equality k)) attrs) in
    enum-equality (enum g.row.T g.row.P) _ (headed, (headed, (ended, (failed, (one-field k, (no-field, tt))))))

pub returns-clause-message : goal.returns-clause-message
returns-clause-message g c = λ h k. framed-equality (header-equality h) (returns-clause-payload g c h k)
