-- The texts of codes.
use Rattle.std.specs.Prelude.{◌≡◌, ℕ, ◌+◌, ℤ, pos, negsuc, List, codes}

-- t is the text of this code
abbrev pub IsTextOf : ℤ → List ℕ → Type 0
IsTextOf code t =
    (code ≡ pos 0 → t ≡ codes "done, or nothing more comes")
    × (code ≡ pos 1 → t ≡ codes "an item was given")
    × (code ≡ pos 2 → t ≡ codes "no item is here yet")
    × (code ≡ pos 3 → t ≡ codes "the kernel answered with an error")
    × (code ≡ pos 4 → t ≡ codes "what was listed changed meanwhile")
    × (code ≡ pos 5 → t ≡ codes "the socket's buffer ran over")
    × (code ≡ pos 6 → t ≡ codes "an attribute is not as its row says")
    × (code ≡ negsuc 0 → t ≡ codes "the bytes end too early")
    × (code ≡ negsuc 1 → t ≡ codes "a length does not fit")
    × (code ≡ negsuc 2 → t ≡ codes "memory ran out")
    × (code ≡ negsuc 3 → t ≡ codes "the room is too small")
    × (code ≡ negsuc 4 → t ≡ codes "the router is closed, or is open already")
    × (code ≡ negsuc 5 → t ≡ codes "there is no such handle, or nothing was read")
    × (code ≡ negsuc 6 → t ≡ codes "the sequence number is in use")
    × (code ≡ negsuc 7 → t ≡ codes "a message came that no request has asked for")
    × (code ≡ negsuc 8 → t ≡ codes "something came in place of an acknowledgement")
    × (code ≡ negsuc 9 → t ≡ codes "an acknowledgement came that was not asked for")
    × (code ≡ negsuc 10 → t ≡ codes "the link failed")
    × (code ≡ negsuc 11 → t ≡ codes "bytes cannot be read")
    × (code ≡ negsuc 12 → t ≡ codes "a pointer is null, or a length is too large")
    × (code ≡ negsuc 13 → t ≡ codes "a place is past the bytes")
    × (code ≡ negsuc 14 → t ≡ codes "the message is of another kind")
    × (code ≡ negsuc 15 → t ≡ codes "no zero byte ends the text")
    × (code ≡ negsuc 16 → t ≡ codes "a line of a table is bad")
    × (code ≡ negsuc 17 → t ≡ codes "the reads ended before the answer did")
    -- a number that is no code
    × ((n : ℕ) → code ≡ pos (7 + n) → t ≡ codes "not a code of this library")
    × ((n : ℕ) → code ≡ negsuc (18 + n) → t ≡ codes "not a code of this library")
