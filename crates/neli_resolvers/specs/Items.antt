-- The items of a handle: messages of the controller, and errors in place of messages.
use Rattle.std.specs.Prelude.{◌≡◌, List, [], ◌∷◌, Option, None, Some, IsOk, IsSomeAnd, Result, Ok, Err, filter_map, map}
use Rattle.std.specs.Prelude.{option_map, ◌<◌, ◌⊎◌, length}
use Rattle.std.specs.List.{cons_option, last_or}
use Rattle.std.specs.Option.{option_or}
use Rattle.std.specs.Result.{result_err, result_ok}
use Rattle.neli_consts.specs.declared.genl.CtrlAttr.{CtrlAttr}
use Rattle.neli_consts.specs.declared.genl.CtrlCmd.{CtrlCmd}
use Rattle.neli_consts.specs.declared.genl.GenlId.{GenlId}
use Rattle.neli_attr.specs.Nlattr.{nlattr_view}
use Rattle.neli_genl.specs.Genlmsghdr.{AttributesRead}
use Rattle.neli_genl.specs.declared.genlmsghdr.Genlmsghdr.{Genlmsghdr}
use Rattle.neli_genl.specs.declared.no_user_header.NoUserHeader.{NoUserHeader}
use Rattle.neli_reader.specs.Copies.{error_copy_takes_memory as copy_takes_memory}
use Rattle.neli_reader.specs.Framed.{Nlmsghdr}
use Rattle.neli_reader.specs.Retyping.{body_of}
use Rattle.neli_reader.specs.RouterError.{RouterError}
use Rattle.neli_reader.specs.RouterError.TheVariants as router

-- ---- the items

-- the payload of a message of the controller
abbrev pub Body : Type 0
Body = Genlmsghdr CtrlCmd CtrlAttr NoUserHeader

-- a message of the controller
abbrev pub Message : Type 0
Message = Nlmsghdr GenlId Body

-- the error in place of one
abbrev pub Error : Type 0
Error = RouterError GenlId Body

-- an item of the handle
abbrev pub Item : Type 0
Item = Result Message Error

-- the attributes of a message as they are read, if it has a payload
abbrev pub attributes_said : Message → Option (AttributesRead CtrlAttr)
attributes_said m = option_map (λ body. map nlattr_view body.attrs) (body_of m.payload)

-- the messages among the items
abbrev pub messages : List Item → List Message
messages items = filter_map result_ok items

-- ---- lists

-- the value of f for the first item for which it has one
abbrev pub first_found : {A B : Type 0} → (A → Option B) → List A → Option B
first_found f [] = None
first_found f (x ∷ xs) = option_or (f x) (first_found f xs)

-- the first error among the items
abbrev pub first_error : List Item → Option Error
first_error items = first_found result_err items

-- the result of f for a value; a refusal stays
abbrev pub after : {A B E : Type 0} → (A → Result B E) → Result A E → Result B E
after f (Ok x) = f x
after f (Err e) = Err e

-- all results of f for the items, or its first refusal
abbrev pub all_found : {A B E : Type 0} → (A → Result (Option B) E) → List A → Result (List B) E
all_found f [] = Ok []
all_found f (x ∷ xs) =
    after (λ here. after (λ later. Ok (cons_option here later)) (all_found f xs)) (f x)

-- the last of all results of f for the items, or its first refusal
abbrev pub last_found : {A B E : Type 0} → (A → Result (Option B) E) → List A → Result (Option B) E
last_found f xs = after (λ found. Ok (last_or None found)) (all_found f xs)

-- f is applied to the items up to its first refusal, and takes memory at one of these
abbrev pub finding_takes_memory : {A B E : Type 0} → (A → Result B E) → (A → Type 0) → List A → Type 0
finding_takes_memory f takes [] = ⊥
finding_takes_memory f takes (x ∷ xs) = takes x ⊎ (IsOk (f x) × finding_takes_memory f takes xs)

-- ---- refusals

-- e is a resolver's refusal: memory ran out, if the call takes some; or the outcome has it
abbrev pub IsRefusal : {A : Type 0} → Result A Error → Type 0 → Error → Type 0
IsRefusal outcome takes e = ((e ≡ router.Memory) × takes) ⊎ (outcome ≡ Err e)

-- copying the first error takes memory, if there is one
abbrev pub error_copy_takes_memory : List Item → Type 0
error_copy_takes_memory items =
    IsSomeAnd (first_error items) (copy_takes_memory (λ (body : Body). 0 < length body.attrs))

-- e is the first error; or copying that takes memory, which ran out
abbrev pub IsCopyOfError : List Item → Error → Type 0
IsCopyOfError items e = ((e ≡ router.Memory) × error_copy_takes_memory items) ⊎ (first_error items ≡ Some e)
