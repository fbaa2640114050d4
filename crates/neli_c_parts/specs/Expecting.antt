-- How a request is answered, as a number of `enum neli_answering` of neli.h.
use Rattle.std.specs.Prelude.{ℕ, ◌==◌, if◌then◌else◌}
use Rattle.neli_answers.specs.declared.answering.Answering.{Answering}
use Rattle.neli_answers.specs.declared.answering.Answering.TheVariants as answered

abbrev pub answering_number : Answering → ℕ
answering_number answered.Dump = 0
answering_number answered.Acknowledgement = 1
answering_number answered.Reply = 2
answering_number answered.Silence = 3

-- a number that none of them has is taken for that of an acknowledgement
abbrev pub answering_of_number : ℕ → Answering
answering_of_number number =
    if number == 0 then answered.Dump
    else (if number == 2 then answered.Reply
    else (if number == 3 then answered.Silence else answered.Acknowledgement))
