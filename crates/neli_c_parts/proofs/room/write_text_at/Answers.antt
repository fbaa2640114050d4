use Rattle.std.proofs.Common.{refl, rules}
use Rattle.neli_c_parts.proofs.Parts.{text-end, text-put}
use Rattle.neli_c_parts.proofs.room.write_text_at.Goals as goal

pub returns-in-Ok-clause-end : goal.returns-in-Ok-clause-end
returns-in-Ok-clause-end g c = text-end _ _ _ _ refl c.in-Ok.ensures.writes

pub returns-in-Ok-clause-text : goal.returns-in-Ok-clause-text
returns-in-Ok-clause-text g c =
    text-put _ _ _ _ _ refl (λ same. search rules) c.in-Ok.ensures.writes
