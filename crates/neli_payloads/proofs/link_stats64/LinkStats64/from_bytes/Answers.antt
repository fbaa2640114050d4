use Rattle.std.proofs.Common.{refl}
use Rattle.neli_payloads.specs.LinkStats64.{link_stats64_of}
use Rattle.neli_payloads.proofs.link_stats64.LinkStats64.from_bytes.Goals as goal

-- field by field
pub returns : goal.returns
unfolding link_stats64_of
returns c =
    rw (
      c.count_at.ensures,
      c.count_at-2.ensures,
      c.count_at-3.ensures,
      c.count_at-4.ensures,
      c.count_at-5.ensures,
      c.count_at-6.ensures,
      c.count_at-7.ensures,
      c.count_at-8.ensures,
      c.count_at-9.ensures,
      c.count_at-10.ensures,
      c.count_at-11.ensures,
      c.count_at-12.ensures,
      c.count_at-13.ensures,
      c.count_at-14.ensures,
      c.count_at-15.ensures,
      c.count_at-16.ensures,
      c.count_at-17.ensures,
      c.count_at-18.ensures,
      c.count_at-19.ensures,
      c.count_at-20.ensures,
      c.count_at-21.ensures,
      c.count_at-22.ensures,
      c.count_at-23.ensures,
      c.count_at-24.ensures,
      c.count_at-25.ensures,
    ) refl
