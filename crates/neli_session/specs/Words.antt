-- Refusals and losses in words.
use Rattle.std.specs.Prelude.{ℕ, List, ◌++◌, codes, decimal, Option, Some}
use Rattle.std.specs.Fmt.{signed_decimal}
use Rattle.neli_session.specs.declared.loss.Loss.{Loss}
use Rattle.neli_session.specs.declared.loss.Loss.TheVariants as loss
use Rattle.neli_session.specs.declared.sending.SendError.{SendError}
use Rattle.neli_session.specs.declared.sending.SendError.TheVariants as refused

abbrev pub send_text : SendError → Option (List ℕ)
send_text refused.Unreadable = Some (codes "Not one or more whole messages")
send_text refused.TwoDumps = Some (codes "Several requests of a datagram are answered by dumps")
send_text (refused.InUse n) = Some (codes "Sequence number " ++ decimal n ++ codes " is in use")
send_text refused.NoNumber = Some (codes "No sequence number is free")
send_text refused.Length = Some (codes "Length does not fit its field")
send_text refused.Memory = Some (codes "Out of memory")

abbrev pub loss_text : Loss → Option (List ℕ)
loss_text (loss.Link errno) = Some (codes "The link failed: errno " ++ signed_decimal errno)
loss_text loss.Datagram = Some (codes "A datagram could not be read to its end")
loss_text (loss.Unsent errno) = Some (codes "The request was not sent: errno " ++ signed_decimal errno)
