-- The meaning of a datagram: frames of messages, one after the other.
use Rattle.std.specs.Prelude.{◌≡◌, ◌≢◌, ℕ, zero, suc, List, [], ◌∷◌, ◌++◌, length, Result, Ok, Err, Option, Some, None}
use Rattle.neli_wire.specs.declared.errors.DeError.{DeError}
use Rattle.neli_wire.specs.Bytes.{Reading}
use Rattle.neli_wire.specs.Frames.{Layout, AreFrames, frame_at}
use Rattle.neli_msg.specs.declared.socket_error.SocketError.{SocketError}
use Rattle.neli_msg.specs.declared.socket_error.SocketError.TheVariants.{De, Memory}
use Rattle.neli_msg.specs.Framed.{Nlmsghdr}
use Rattle.neli_msg.specs.Messages.{Message, message_of}

-- nothing is left, or the rest has this fault
abbrev pub EndsIn : {H V : Type 0} → Layout H V → List ℕ → Option DeError → Type 0
EndsIn layout rest None = rest ≡ []
EndsIn layout rest (Some e) = (rest ≢ []) × (frame_at layout rest ≡ Err e)

-- the bytes are the frames of these messages, and then nothing, or a rest that has this fault
abbrev pub Cuts : {H V : Type 0} → Layout H V → List ℕ → List (H × V) → Option DeError → Type 0
Cuts layout b ms f = (front : List ℕ) × (rest : List ℕ) × (b ≡ front ++ rest) × AreFrames layout front ms
    × EndsIn layout rest f

-- ---- the cut of a byte list

-- messages, and the fault after them, if there is one
abbrev pub Cut : Type 0 → Type 0
Cut A = List A × Option DeError

-- a message before the others
abbrev pub message_before : {A : Type 0} → A → Cut A → Cut A
message_before m cut = (m ∷ cut.0, cut.1)

-- messages before those of a cut
abbrev pub messages_before : {A : Type 0} → List A → Cut A → Cut A
messages_before ms cut = (ms ++ cut.0, cut.1)

-- the cut of bytes that begin with this reading; `later` is the cut of a rest
abbrev pub cut_from : {A : Type 0} → Reading A → (List ℕ → Cut A) → Cut A
cut_from (Ok p) later = message_before p.0 (later p.1)
cut_from (Err e) later = ([], Some e)

-- the cut of a byte list of at most `fuel` bytes
unfoldable pub cut_by : {A : Type 0} → (List ℕ → Reading A) → ℕ → List ℕ → Cut A
cut_by read fuel [] = ([], None)
cut_by read zero (b ∷ s) = ([], None)
cut_by read (suc fuel) (b ∷ s) = cut_from (read (b ∷ s)) (cut_by read fuel)

-- the cut of a byte list: the one that `Cuts` defines
unfoldable pub cut_of : {H V : Type 0} → Layout H V → List ℕ → Cut (H × V)
cut_of layout b = cut_by (frame_at layout) (length b) b

-- ---- what a reader returns

-- the end, a message, or an error
abbrev pub Item : Type 0 → Type 0
Item A = Option (Result A SocketError)

-- an item, by the view of the body
abbrev pub item_of : {T P V : Type 0} → (P → V) → Item (Nlmsghdr T P) → Item (Message T V)
item_of view None = None
item_of view (Some (Ok m)) = Some (Ok (message_of view m))
item_of view (Some (Err e)) = Some (Err e)

-- what a reader returns that has the bytes `old` before the call and `new` after it: the end if none is left; else a
-- message, and the bytes after it are left; a fault, and nothing is left; or memory ran out, and all stays
abbrev pub IsNext : {H V : Type 0} → Layout H V → Type 0 → List ℕ → List ℕ → Item (H × V) → Type 0
IsNext layout takes old new None = (old ≡ []) × (new ≡ [])
IsNext layout takes old new (Some (Ok m)) = (old ≢ []) × (frame_at layout old ≡ Ok (m, new))
IsNext layout takes old new (Some (Err (De e))) = (old ≢ []) × (frame_at layout old ≡ Err e) × (new ≡ [])
IsNext layout takes old new (Some (Err Memory)) = (old ≢ []) × takes × (new ≡ old)
IsNext layout takes old new (Some (Err e)) = ⊥

-- the cut that an item begins, where `later` is the cut of the bytes left; running out of memory takes nothing
abbrev pub cut_with : {A : Type 0} → Item A → Cut A → Cut A
cut_with None later = ([], None)
cut_with (Some (Ok m)) later = message_before m later
cut_with (Some (Err (De e))) later = ([], Some e)
cut_with (Some (Err e)) later = later
