use Rattle.std.proofs.Common.{◌≡◌, drop, map, string_bytes}
use Rattle.neli_show.specs.Requests.{nothing, with_all}
use Rattle.neli_show.proofs.request.command_in.Given as goal

-- what the words so far ask for, and then those to come, is what all ask for
abbrev pub invariant-loop-word : goal.invariant-loop-word
invariant-loop-word l =
    with_all l.terminal nothing (map string_bytes l.words)
    ≡ with_all l.terminal l.asking (map string_bytes (drop l.word-index l.words))
