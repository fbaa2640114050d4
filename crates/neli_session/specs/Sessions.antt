-- A session: the requests by their numbers, and the readers of what answers none.
use Rattle.std.specs.Prelude.{◌≡◌, ℕ, Bool, true, false, not, ◌&&◌, ◌||◌, ◌==◌, if◌then◌else◌, List, [], ◌∷◌, ◌++◌}
use Rattle.std.specs.Prelude.{Option, Some, None, is_some, Ok, Err}
use Rattle.std.specs.Option.{option_map}
use Rattle.neli_answers.specs.declared.answering.Answering.{Answering}
use Rattle.neli_lent.specs.Messages.{Lent, message_view}
use Rattle.neli_session.specs.declared.change.Change.{Change}
use Rattle.neli_session.specs.declared.change.Change.TheVariants as change
use Rattle.neli_session.specs.declared.loss.Loss.TheVariants as loss
use Rattle.neli_session.specs.declared.reading.Next.{Next}
use Rattle.neli_session.specs.declared.reading.Next.TheVariants as next
use Rattle.neli_session.specs.declared.request.Request.{Request}
use Rattle.neli_session.specs.declared.request.Stage.TheVariants as stage
use Rattle.neli_session.specs.declared.request.Verdict.TheVariants as stands
use Rattle.neli_session.specs.Requests.{Held, answers, changed, first_item, heard, is_over, next_item, of_number, passed}
use Rattle.neli_session.specs.Waiting.{Item}

-- the request with a number, if it is in use
abbrev pub at : Held → ℕ → Option Request
at requests q = of_number q requests.entries

-- a request that nobody reads is forgotten once nothing comes for it
abbrev pub kept : Option Request → Option Request
kept None = None
kept (Some r) = if is_over r.stage && not r.is_open then None else Some r

-- a message for this group, or for none, is an answer to the request
abbrev pub takes : ℕ → Option Request → Bool
takes group None = false
takes group (Some r) = answers group r

-- the request after a message with its number
abbrev pub after_own : ℕ → Lent ℕ → Option Request → Option Request
after_own group m o = if takes group o then kept (option_map (heard m) o) else o

-- the request with the number q after a message: one with another number changes nothing
abbrev pub after_message : ℕ → Lent ℕ → ℕ → Option Request → Option Request
after_message group m q o = if m.0.sequence_number == q then after_own group m o else o

-- ---- a message

-- the message has the session's port: it answers one of its requests, or is the notification of its own change
abbrev pub is_own : ℕ → Lent ℕ → Bool
is_own port m = m.0.port == port

-- the request with the number q after a message from the link, by the session's port
abbrev pub after : ℕ → ℕ → Lent ℕ → ℕ → Option Request → Option Request
after port group m q o = if is_own port m then after_message group m q o else o

-- a message answers one of these requests
abbrev pub is_taken : ℕ → ℕ → (ℕ → Option Request) → Lent ℕ → Bool
is_taken port group requests m = is_own port m && takes group (requests m.0.sequence_number)

-- multicast gets a message of a group: of its own changes those of the groups that the session is in
abbrev pub is_heard : ℕ → ℕ → Bool → Lent ℕ → Bool
is_heard port group joined m = not (group == 0) && (not (is_own port m) || joined)

-- a message for no group answers no request
abbrev pub is_unasked : ℕ → ℕ → (ℕ → Option Request) → Lent ℕ → Bool
is_unasked port group requests m = (group == 0) && not (is_taken port group requests m)

-- the message, if a reader gets it
abbrev pub share : Bool → Lent ℕ → List Item
share true m = Ok m ∷ []
share false m = []

-- what waits for a reader with a share more
abbrev pub gains : List Item → Option (List Item) → Option (List Item)
gains more o = option_map (λ xs. xs ++ more) o

-- ---- a datagram: its messages in order

-- the request with the number q after these messages
abbrev pub after_all : ℕ → ℕ → List (Lent ℕ) → ℕ → Option Request → Option Request
after_all port group [] q o = o
after_all port group (m ∷ ms) q o = after_all port group ms q (after port group m q o)

-- those that multicast gets
abbrev pub heard_of : ℕ → ℕ → Bool → List (Lent ℕ) → List Item
heard_of port group joined [] = []
heard_of port group joined (m ∷ ms) = share (is_heard port group joined m) m ++ heard_of port group joined ms

-- those that answer no request, as the requests are when each comes
abbrev pub unasked_of : ℕ → ℕ → (ℕ → Option Request) → List (Lent ℕ) → List Item
unasked_of port group requests [] = []
unasked_of port group requests (m ∷ ms) =
    share (is_unasked port group requests m) m
    ++ unasked_of port group (λ q. after port group m q (requests q)) ms

-- requests and the two queues before and after these messages came, in order
pub record HaveCome (port group : ℕ) (joined : Bool) (ms : List (Lent ℕ)) (old new : ℕ → Option Request)
    (heard_before heard_now unasked_before unasked_now : Option (List Item)) : Type 0 where
  pub requests : (q : ℕ) → new q ≡ after_all port group ms q (old q)
  pub heard : heard_now ≡ gains (heard_of port group joined ms) heard_before
  pub unasked : unasked_now ≡ gains (unasked_of port group old ms) unasked_before

-- ---- what happens to several requests

-- the request with the number q, if it is one of these
abbrev pub among : List ℕ → (Option Request → Option Request) → ℕ → Option Request → Option Request
among [] f q o = o
among (n ∷ ns) f q o = among ns f q (if n == q then f o else o)

-- a request after what happens to it
abbrev pub when : Change → Option Request → Option Request
when c o = kept (option_map (changed c) o)

-- the same after these messages, and then a loss of the rest of their datagram
pub record HaveComeBeforeLoss (port group : ℕ) (joined : Bool) (ms : List (Lent ℕ)) (awaited : List ℕ) (old new : ℕ
    → Option Request) (heard_before heard_now unasked_before unasked_now : Option (List Item)) : Type 0 where
  pub requests : (q : ℕ) → new q ≡ among awaited (when (change.Lose loss.Datagram)) q (after_all port group ms q (old q))
  pub heard : heard_now ≡ gains (heard_of port group joined ms ++ Err loss.Datagram ∷ []) heard_before
  pub unasked : unasked_now ≡ gains (unasked_of port group old ms ++ Err loss.Datagram ∷ []) unasked_before

-- ---- what is read

-- no item follows: nothing more comes, or the loss was read
abbrev pub has_ended : Request → Bool
has_ended r = is_over r.stage || is_some r.loss

-- the item that a reply is, if it is one
abbrev pub item_in : Next → Option Item
item_in (next.Message m) = Some (Ok (message_view m))
item_in (next.Loss l) = Some (Err l)
item_in n = None

-- the reply to a read: the next item, or else the end or a wait
abbrev pub IsReply : Option Item → Bool → Next → Type 0
IsReply (Some x) ended n = item_in n ≡ Some x
IsReply None true n = n ≡ next.End
IsReply None false n = n ≡ next.Waits

-- where nobody reads, or may read, the reply is that
abbrev pub IsReplyOpen : Bool → Option Item → Bool → Next → Type 0
IsReplyOpen true item ended n = IsReply item ended n
IsReplyOpen false item ended n = n ≡ next.Closed

-- the reply to a read of a request
abbrev pub IsReplyOf : Option Request → Next → Type 0
IsReplyOf None n = n ≡ next.Closed
IsReplyOf (Some r) n = IsReplyOpen r.is_open (next_item r) (has_ended r) n

-- the reply to a read of a queue, which has no end
abbrev pub IsReplyOfQueue : Option (List Item) → Next → Type 0
IsReplyOfQueue None n = n ≡ next.Closed
IsReplyOfQueue (Some xs) n = IsReply (first_item xs None) false n

-- a queue without its first item
abbrev pub without_first : Option (List Item) → Option (List Item)
without_first None = None
without_first (Some []) = Some []
without_first (Some (x ∷ xs)) = Some xs

-- what was read of its answer is marked as filtered
abbrev pub filtered_at : Option Request → Bool
filtered_at None = false
filtered_at (Some r) = r.is_filtered

-- a request whose reader goes on
abbrev pub passed_at : Option Request → Option Request
passed_at o = option_map passed o

-- a request that nobody reads any more
abbrev pub closed : Request → Request
closed r = record r { is_open = false; waiting = [] }

abbrev pub closed_at : Option Request → Option Request
closed_at o = kept (option_map closed o)

-- ---- a request more

-- a request that waits to be sent: it is answered so, and its notifications are part of its answer or not
abbrev pub queued : Answering → Bool → Request
queued answering echoes = record {
  answering = answering;
  echoes = echoes;
  stage = stage.Queued;
  is_open = true;
  waiting = [];
  loss = None;
  is_told = false;
  noted = stands.Pending;
  is_filtered = false;
}

-- a queue that is kept is empty at first
abbrev pub kept_queue : Bool → Option (List Item)
kept_queue true = Some []
kept_queue false = None
