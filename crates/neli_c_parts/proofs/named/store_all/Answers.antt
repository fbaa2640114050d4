use Rattle.std.proofs.Common.{◌≡◌, ◌+◌, [], ◌∷◌, length}
use Rattle.neli_c_parts.specs.NamedItems.{items_from, items_text}
use Rattle.neli_c_parts.specs.Rooms.{put_at}
use Rattle.neli_c_parts.proofs.Items.{count-all, count-more, items-all, items-more, size-all}
use Rattle.neli_c_parts.proofs.Items.{size-more, text-all, text-more}
use Rattle.neli_c_parts.proofs.named.store_all.Goals.{In_ok-stored}
use Rattle.neli_c_parts.proofs.named.store_all.Goals as goal

-- the invariant after an item that was stored, whatever the item was
abbrev Kept : In_ok-stored → Type 0
Kept c = record {
  can_next : Unit {0};
  is_finite : Unit {0};
  items : put_at c.in_ok-stored.stored.count
      (items_from c.args.table.now c.store.new.begins.items c.in_ok-stored.stored.size c.next.new.self)
      c.store.new.items
      ≡ put_at 0 (items_from c.args.table.now (c.args.start ∷ []) 0 c.args.walk) c.args.items.now;
  text : put_at c.in_ok-stored.stored.size (items_text c.args.table.now c.next.new.self) c.store.new.out
      ≡ put_at 0 (items_text c.args.table.now c.args.walk) c.args.out.now;
  count : c.in_ok-stored.stored.count
      + length (items_from c.args.table.now c.store.new.begins.items c.in_ok-stored.stored.size c.next.new.self)
      ≡ length (items_from c.args.table.now (c.args.start ∷ []) 0 c.args.walk);
  size : c.in_ok-stored.stored.size + length (items_text c.args.table.now c.next.new.self)
      ≡ length (items_text c.args.table.now c.args.walk);
}

kept : (c : In_ok-stored) → Kept c
kept c =
    let was = c.loop-item.invariant in
    let is = c.in-Some.ensures.steps in
    let did = c.in_ok-stored.ensures in
    record {
      can_next = tt;
      is_finite = tt;
      items = items-more _ _ _ _ is _ _ _ _ did.begins did.size _ _ _ _ _ did.count did.items
          was.items;
      text = text-more _ _ _ _ is _ _ did.size _ _ _ did.text was.text;
      count = count-more _ _ _ _ is _ _ _ _ did.begins did.size _ _ _ did.count was.count;
      size = size-more _ _ _ _ is _ _ did.size _ was.size;
    }

pub loop-item-preserved-in_ok-stored : goal.loop-item-preserved-in_ok-stored
loop-item-preserved-in_ok-stored c = kept (goal.at.loop-item-preserved-in_ok-stored c).In_ok-stored

pub loop-item-preserved-in_ok-stored-2 : goal.loop-item-preserved-in_ok-stored-2
loop-item-preserved-in_ok-stored-2 c = kept (goal.at.loop-item-preserved-in_ok-stored-2 c).In_ok-stored

pub loop-item-preserved-in_ok-stored-3 : goal.loop-item-preserved-in_ok-stored-3
loop-item-preserved-in_ok-stored-3 c = kept (goal.at.loop-item-preserved-in_ok-stored-3 c).In_ok-stored

pub loop-item-preserved : goal.loop-item-preserved
loop-item-preserved c = kept (goal.at.loop-item-preserved c).In_ok-stored

pub returns-clause-items : goal.returns-clause-items
returns-clause-items c =
    items-all _ _ c.in_default.ensures.steps.0 _ _ _ _ _ c.loop-item.invariant.items

pub returns-clause-text : goal.returns-clause-text
returns-clause-text c = text-all _ _ c.in_default.ensures.steps.0 _ _ _ c.loop-item.invariant.text

pub returns-clause-count : goal.returns-clause-count
returns-clause-count c =
    count-all _ _ c.in_default.ensures.steps.0 _ _ _ _ c.loop-item.invariant.count

pub returns-clause-size : goal.returns-clause-size
returns-clause-size c = size-all _ _ c.in_default.ensures.steps.0 _ _ c.loop-item.invariant.size
