use Rattle.std.proofs.Common.{◌≡◌, ◌++◌, ◌∷◌, ◌∙◌, [], ap, append_assoc, length, option_map, subst, sym}
use Rattle.std.specs.Vec.Iter.{into_iter_items}
use Rattle.std.proofs.lemmas.List.{append-nil, nil_from_length}
use Rattle.neli_log.specs.Places.{HasRoom, entries_of, pending_of}
use Rattle.neli_log.specs.Routes.{items_for}
use Rattle.neli_log.specs.Staged.{HaveReaders}
use Rattle.neli_log.proofs.Entries.{gains_more, gains_none, readers_first, readers_left, room_more, room_one}
use Rattle.neli_log.proofs.handing.push_all.Goals as goal

pub push-requires-clause-trimmed : goal.push-requires-clause-trimmed
push-requires-clause-trimmed c = c.loop-entry.invariant.trimmed

pub push-requires-clause-reader : goal.push-requires-clause-reader
push-requires-clause-reader c =
    readers_first (pending_of c.loop-entry.places) c.in-Some.entry (into_iter_items c.next.new.self)
    (subst (HaveReaders (pending_of c.loop-entry.places)) c.in-Some.ensures.steps.0 c.loop-entry.invariant.readers)

pub push-requires-clause-room : goal.push-requires-clause-room
push-requires-clause-room c =
    room_one (length (into_iter_items c.next.new.self)) c.loop-entry.places
    (subst (λ es. HasRoom (length es) c.loop-entry.places) c.in-Some.ensures.steps.0 c.loop-entry.invariant.room)

pub loop-entry-preserved : goal.loop-entry-preserved
loop-entry-preserved c =
    let old = c.loop-entry.places in
    let new = c.push.new.self in
    let rest = into_iter_items c.next.new.self in
    let step = c.in-Some.ensures.steps.0 in
    record {
      can_next = tt;
      is_finite = tt;
      trimmed = c.push.ensures.trimmed;
      room = c.push.ensures.room (length rest) (room_more (length rest) old
          (subst (λ es. HasRoom (length es) old) step c.loop-entry.invariant.room));
      readers = readers_left (pending_of old) (pending_of new) c.in-Some.entry rest c.push.ensures.more
          (subst (HaveReaders (pending_of old)) step c.loop-entry.invariant.readers);
      entries = ap (λ es. es ++ rest) c.push.ensures.entries ∙ append_assoc (entries_of old) (c.in-Some.entry ∷ []) rest
          ∙ ap (λ es. entries_of old ++ es) (sym step) ∙ c.loop-entry.invariant.entries;
      more = λ w. gains_more (pending_of old) (pending_of new) c.in-Some.entry rest c.push.ensures.more w
          ∙ ap (λ es. option_map (λ xs. xs ++ items_for w es) (pending_of old w)) (sym step)
          ∙ c.loop-entry.invariant.more w;
    }

pub returns-clause-entries : goal.returns-clause-entries
returns-clause-entries c =
    let none : into_iter_items c.loop-entry.entry-iterator ≡ [] =
    nil_from_length _ (sym c.loop-entry.entry-iterator.rest.ok.0 ∙ c.in-None.ensures.steps.0) in
    sym (append-nil (entries_of c.loop-entry.places)) ∙ ap (λ es. entries_of c.loop-entry.places ++ es) (sym none)
    ∙ c.loop-entry.invariant.entries

pub returns-clause-more : goal.returns-clause-more
returns-clause-more c = λ w.
    let none : into_iter_items c.loop-entry.entry-iterator ≡ [] =
    nil_from_length _ (sym c.loop-entry.entry-iterator.rest.ok.0 ∙ c.in-None.ensures.steps.0) in
    sym (gains_none (pending_of c.loop-entry.places w))
    ∙ ap (λ es. option_map (λ xs. xs ++ items_for w es) (pending_of c.loop-entry.places w)) (sym none)
    ∙ c.loop-entry.invariant.more w
