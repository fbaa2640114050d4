use Rattle.std.proofs.Common.{◌∙◌, ap, arith, length}
use Rattle.neli_log.specs.Places.{entries_of}
use Rattle.neli_log.specs.Contents.{spans_of}
use Rattle.neli_log.proofs.Stores.{released_backed, released_names, released_pending}
use Rattle.neli_log.proofs.store.Store.trim.Goals as goal

pub release-requires : goal.release-requires
release-requires c =
    let old = c.loop-content.self in
    let new = c.pop_unawaited.new.self in
    let taken = c.in-Some.ensures.taken in (
      spans_of (entries_of new),
      released_names old.places new old.datagrams old.datagrams c.in-Some.content taken.0
          taken.1 c.in-Some.ensures.same c.loop-content.invariant.backed,
    )

pub loop-content-preserved : goal.loop-content-preserved
loop-content-preserved c =
    let old = c.loop-content.self in
    let new = c.pop_unawaited.new.self in
    let taken = c.in-Some.ensures.taken in
    record {
      port = c.loop-content.invariant.port;
      same = λ w. released_pending old.places new old.datagrams c.release.new.datagrams c.in-Some.content taken.0
          taken.1 c.in-Some.ensures.same c.loop-content.invariant.backed c.release.ensures.names
          c.release.ensures.same_bytes w
          ∙ c.loop-content.invariant.same w;
      sound = c.in-Some.ensures.sound;
      backed = released_backed old.places new old.datagrams c.release.new.datagrams c.in-Some.content taken.0 taken.1
          c.in-Some.ensures.same c.loop-content.invariant.backed c.release.ensures.names c.release.ensures.same_bytes;
      fewer = (
        (let one = ap length taken.1 in let so_far = c.loop-content.invariant.fewer.0 in omega (arith, one, so_far)),
        (let now = c.release.ensures.bytes in let so_far = c.loop-content.invariant.fewer.1 in
            omega (arith, now, so_far)),
      );
    }
