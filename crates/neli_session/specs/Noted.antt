-- What is noted of an item that is read.
use Rattle.neli_session.specs.declared.noted.Noted.{Noted}
use Rattle.neli_session.specs.Requests.{is_marked, item_verdict}
use Rattle.neli_session.specs.Waiting.{Item}

-- the verdict by it, and whether it is marked as filtered
abbrev pub noted_of : Item → Noted
noted_of x = record { verdict = item_verdict x; is_filtered = is_marked x }
