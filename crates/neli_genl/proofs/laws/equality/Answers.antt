use Rattle.std.specs.Prelude.{refl}
use Rattle.neli_wire.specs.laws.Equality.{derived-equality}
use Rattle.neli_attr.specs.laws.Equality.{attribute-equality, bytes-equality, from-parts, lists-equality, pair-equality}
use Rattle.neli_attr.specs.laws.Equality.{parts-equality}
use Rattle.neli_genl.proofs.Equality.{connector-equality, generic-equality, header-equality, last-field}
use Rattle.neli_genl.proofs.Equality.{pair-of-numbers, pair-of-processes, processes}
use Rattle.neli_genl.specs.contracts.proc_event.ProcEvent.{enum as event}
use Rattle.neli_genl.specs.contracts.proc_event.ProcEventEq.TheImpl.Laws.{laws-law as event-laws}
use Rattle.neli_genl.specs.declared.proc_event_header.ProcEventHeader.{ProcEventHeader}
use Rattle.neli_genl.proofs.laws.equality.Goals as goal

pub returns-clause-user_header : goal.returns-clause-user_header
returns-clause-user_header g c = from-parts (λ a b e. refl) (λ a. refl)

pub returns-clause-generic : goal.returns-clause-generic
returns-clause-generic g c = λ h k u. generic-equality h
    (lists-equality (attribute-equality k (lists-equality bytes-equality))) u

pub returns-clause-connector : goal.returns-clause-connector
returns-clause-connector g c = λ h. connector-equality
    (header-equality c.equality.ensures.cn_msg_idx c.equality.ensures.cn_msg_val) h

-- the two process numbers of each variant come first
pub returns-clause-event : goal.returns-clause-event
returns-clause-event g c =
    let numbers = pair-equality bytes-equality (pair-equality bytes-equality pair-of-processes) in
    let name = last-field (lists-equality bytes-equality) in
    derived-equality event _ event-laws (
      λ x y. (last-field bytes-equality x y).0,
      (
        λ x y. (processes pair-of-processes x y).0,
        (
          λ x y. (pair-of-processes x y).0,
          (
            λ x y. (processes pair-of-numbers x y).0,
            (
              λ x y. (processes pair-of-numbers x y).0,
              (
                λ x y. (pair-of-processes x y).0,
                (
                  λ x y. (processes pair-of-processes x y).0,
                  (
                    λ x y. (processes name x y).0,
                    (
                      λ x y. (processes pair-of-processes x y).0,
                      (λ x y. (processes numbers x y).0, tt),
                    ),
                  ),
                ),
              ),
            ),
          ),
        ),
      ),
    )

pub returns-clause-event_with_header : goal.returns-clause-event_with_header
returns-clause-event_with_header g c =
    parts-equality (λ (h : ProcEventHeader). (h.cpu, (h.timestamp_ns, h.event)))
    (λ t. record { cpu = t.0; timestamp_ns = t.1.0; event = t.1.1 }) (λ h. refl)
    (pair-equality bytes-equality (pair-equality bytes-equality (returns-clause-event g c)))
