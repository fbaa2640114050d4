use Rattle.neli_c_parts.proofs.Parts.{from-front}
use Rattle.neli_c_parts.proofs.room.write_text.Goals as goal

pub returns-clause-size : goal.returns-clause-size
returns-clause-size g c = from-front _ _ c.write_text_at.ensures.end
