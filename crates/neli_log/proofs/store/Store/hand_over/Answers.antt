use Rattle.std.proofs.Common.{◌≡◌, ◌∙◌, ◌++◌, ◌+◌, ◌<◌, ap, length, option_map, subst, sym}
use Rattle.neli_log.specs.Routes.{items_for}
use Rattle.neli_log.specs.Spans.{bytes_of}
use Rattle.neli_log.specs.Contents.{spans_of}
use Rattle.neli_log.specs.Log.{kept_with}
use Rattle.neli_log.proofs.Stores.{handed_backed, handed_pending, handed_read}
use Rattle.neli_log.proofs.store.Store.hand_over.Goals as goal

pub returns-clause-ok : goal.returns-clause-ok
returns-clause-ok c = λ w.
    let s = c.args.self.now in
    let es = c.args.entries.items in
    let count : c.span_count-spans.result ≡ length (spans_of es) = c.span_count-spans.ensures
    ∙ ap (λ xs. length (spans_of xs)) c.deref.ensures.value in
    handed_pending s.places c.push_all.new.places s.datagrams c.keep_copy.new.datagrams c.args.bytes.now es
    (c.push_all.ensures.entries ∙ ap (λ xs. xs ++ es) c.in_ok-reserve.ensures.entries)
    (λ v. c.push_all.ensures.more v ∙ ap (option_map (λ xs. xs ++ items_for v es)) (c.in_ok-reserve.ensures.same v))
    c.requires.spans c.requires.messages c.requires.log.backed
    (λ old new h of n. c.in_ok-keep_copy.ensures.names old new h of (n
    ∙ sym count)) c.in_ok-keep_copy.ensures.same_bytes
    (λ x some is. c.in_ok-keep_copy.ensures.new_span x (subst (λ n. 0 < n) (sym count) some) is) w

pub returns-clause-log : goal.returns-clause-log
returns-clause-log c =
    let s = c.args.self.now in
    let es = c.args.entries.items in
    let count : c.span_count-spans.result ≡ length (spans_of es) = c.span_count-spans.ensures
    ∙ ap (λ xs. length (spans_of xs)) c.deref.ensures.value in
    record {
      trimmed = c.push_all.ensures.trimmed;
      backed = handed_backed s.places c.push_all.new.places s.datagrams c.keep_copy.new.datagrams c.args.bytes.now es
          (c.push_all.ensures.entries ∙ ap (λ xs. xs ++ es) c.in_ok-reserve.ensures.entries)
          (λ v. c.push_all.ensures.more v ∙ ap (option_map (λ xs. xs ++ items_for v es))
          (c.in_ok-reserve.ensures.same v))
          c.requires.spans c.requires.messages c.requires.log.backed
          (λ old new h of n. c.in_ok-keep_copy.ensures.names old new h of (n
          ∙ sym count)) c.in_ok-keep_copy.ensures.same_bytes
          (λ x some is. c.in_ok-keep_copy.ensures.new_span x (subst (λ n. 0 < n) (sym count) some) is);
    }

pub returns-clause-kept : goal.returns-clause-kept
returns-clause-kept c =
    let s = c.args.self.now in
    let es = c.args.entries.items in
    let count : c.span_count-spans.result ≡ length (spans_of es) = c.span_count-spans.ensures
    ∙ ap (λ xs. length (spans_of xs)) c.deref.ensures.value in
    record {
      entries = c.push_all.ensures.entries ∙ ap (λ xs. xs ++ es) c.in_ok-reserve.ensures.entries;
      readers = c.requires.readers;
      counted = c.in_ok-keep_copy.ensures.bytes ∙ ap (λ n. bytes_of s.datagrams + kept_with n c.args.bytes.now) count;
    }

pub returns-clause-read : goal.returns-clause-read
returns-clause-read c =
    let s = c.args.self.now in
    let es = c.args.entries.items in
    let count : c.span_count-spans.result ≡ length (spans_of es) = c.span_count-spans.ensures
    ∙ ap (λ xs. length (spans_of xs)) c.deref.ensures.value in
    handed_read s.places c.push_all.new.places s.datagrams c.keep_copy.new.datagrams c.args.bytes.now es
    (c.push_all.ensures.entries ∙ ap (λ xs. xs ++ es) c.in_ok-reserve.ensures.entries)
    (λ v. c.push_all.ensures.more v ∙ ap (option_map (λ xs. xs ++ items_for v es)) (c.in_ok-reserve.ensures.same v))
    c.requires.spans c.requires.messages c.requires.log.backed
    (λ old new h of n. c.in_ok-keep_copy.ensures.names old new h of (n
    ∙ sym count)) c.in_ok-keep_copy.ensures.same_bytes
    (λ x some is. c.in_ok-keep_copy.ensures.new_span x (subst (λ n. 0 < n) (sym count) some) is)
