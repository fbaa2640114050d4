-- The codes of what a session returns.
use Rattle.std.specs.Prelude.{ℤ, pos}
use Rattle.neli_session.specs.declared.loss.Loss.{Loss}
use Rattle.neli_session.specs.declared.loss.Loss.TheVariants as loss
use Rattle.neli_session.specs.declared.request.Verdict.{Verdict}
use Rattle.neli_session.specs.declared.request.Verdict.TheVariants as stands
use Rattle.neli_session.specs.declared.sending.SendError.{SendError}
use Rattle.neli_session.specs.declared.sending.SendError.TheVariants as refused
use Rattle.neli_c_parts.specs.Codes.{bad_length, in_use, interrupted, kernel_error, kind, link, memory, ok, short}
use Rattle.neli_c_parts.specs.Codes.{unended, waits}

-- why nothing is sent
abbrev pub send_code : SendError → ℤ
send_code refused.Unreadable = short
send_code refused.TwoDumps = kind
send_code (refused.InUse n) = in_use
send_code refused.NoNumber = in_use
send_code refused.Length = bad_length
send_code refused.Memory = memory

-- a loss, and its errno: 0 where no fault of the link caused it
abbrev pub loss_code : Loss → ℤ
loss_code (loss.Link errno) = link
loss_code loss.Datagram = short
loss_code (loss.Unsent errno) = link

abbrev pub loss_errno : Loss → ℤ
loss_errno (loss.Link errno) = errno
loss_errno loss.Datagram = pos 0
loss_errno (loss.Unsent errno) = errno

-- a verdict, and its error: the other side's code, or the errno of a loss
abbrev pub stands_code : Verdict → ℤ
stands_code stands.Pending = waits
stands_code stands.Complete = ok
stands_code stands.Interrupted = interrupted
stands_code (stands.Failed code) = kernel_error
stands_code (stands.Lost l) = loss_code l
stands_code stands.Unanswered = unended

abbrev pub stands_error : Verdict → ℤ
stands_error (stands.Failed code) = code
stands_error (stands.Lost l) = loss_errno l
stands_error v = pos 0
