-- The codes that calls return: from 0 on results, below 0 refusals (`enum neli_code` of include/neli.h).
use Rattle.std.specs.Prelude.{ℤ, pos, negsuc}

-- done, or the end; a message, an attribute or an item was returned; none has arrived yet
abbrev pub ok : ℤ
ok = pos 0

abbrev pub item : ℤ
item = pos 1

abbrev pub waits : ℤ
waits = pos 2

-- the kernel answered with an error
abbrev pub kernel_error : ℤ
kernel_error = pos 3

-- the listed objects changed meanwhile
abbrev pub interrupted : ℤ
interrupted = pos 4

-- the socket's buffer ran over, so messages to groups may be lost
abbrev pub overrun : ℤ
overrun = pos 5

-- an attribute is not as its row says
abbrev pub violation : ℤ
violation = pos 6

-- the bytes end too early; a length does not fit; memory ran out; the room is too small
abbrev pub short : ℤ
short = negsuc 0

abbrev pub bad_length : ℤ
bad_length = negsuc 1

abbrev pub memory : ℤ
memory = negsuc 2

abbrev pub room : ℤ
room = negsuc 3

-- the router is closed, or open already; no such handle exists
abbrev pub state : ℤ
state = negsuc 4

abbrev pub no_handle : ℤ
no_handle = negsuc 5

-- the causes in place of an item
abbrev pub in_use : ℤ
in_use = negsuc 6

abbrev pub stray : ℤ
stray = negsuc 7

abbrev pub no_ack : ℤ
no_ack = negsuc 8

abbrev pub unexpected_ack : ℤ
unexpected_ack = negsuc 9

abbrev pub link : ℤ
link = negsuc 10

abbrev pub bad_bytes : ℤ
bad_bytes = negsuc 11

-- a place is past the bytes; the message is of another kind; no zero byte ends the text; a table's line is bad
abbrev pub place : ℤ
place = negsuc 13

abbrev pub kind : ℤ
kind = negsuc 14

abbrev pub text : ℤ
text = negsuc 15

abbrev pub bad_table : ℤ
bad_table = negsuc 16

-- the reads of an answer ended before it did
abbrev pub unended : ℤ
unended = negsuc 17
