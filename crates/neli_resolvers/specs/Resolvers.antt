-- The results of the resolvers, by the whole list of items.
use Rattle.std.specs.Prelude.{ℕ, ◌==◌, ◌⊎◌, Bool, false, ◌≡◌, List, [], ◌++◌, codes, if◌then◌else◌, nat_eq, filter_map}
use Rattle.std.specs.Prelude.{Option, Some, None, Result, Ok, Err, ok_or, option_and_then, option_map}
use Rattle.std.specs.Prelude.{IsOk, IsOkAnd, IsSomeAnd}
use Rattle.std.specs.Prelude.{unwrap_or}
use Rattle.std.specs.Cmp.Lexicographic.{pointwise}
use Rattle.std.specs.List.{last_or}
use Rattle.std.specs.Option.{option_map_or}
use Rattle.std.specs.Result.{result_map_both, result_ok}
use Rattle.neli_wire.specs.declared.errors.DeError.{DeError}
use Rattle.neli_consts.specs.declared.genl.CtrlAttr.{CtrlAttr}
use Rattle.neli_consts.specs.declared.genl.CtrlAttrMcastGrp.{CtrlAttrMcastGrp}
use Rattle.neli_genl.specs.Genlmsghdr.{AttributesRead}
use Rattle.neli_reader.specs.RouterError.TheVariants.{Msg}
use Rattle.neli_reader.specs.RouterErrors.{de_of}
use Rattle.neli_resolvers.specs.Attributes.{Group, family_id, family_name, group_attrs, group_id, group_name, groups}
use Rattle.neli_resolvers.specs.Attributes.{family_name_takes_memory, groups_take_memory}
use Rattle.neli_resolvers.specs.Items.{Error, Item, Message, after, first_error, first_found, last_found, messages}
use Rattle.neli_resolvers.specs.Items.{attributes_said, error_copy_takes_memory, finding_takes_memory}

-- ---- texts, if nothing was found

-- no family has this name
abbrev pub no_family : List ℕ → List ℕ
no_family family = codes "Generic netlink family " ++ family ++ codes " was not found"

-- no group of this family has this name
abbrev pub no_group : List ℕ → List ℕ → List ℕ
no_group family name =
    codes "Failed to resolve multicast group ID for family name " ++ family
    ++ codes ", multicast group name " ++ name

-- no group has the number
abbrev pub no_number : List ℕ
no_number = codes "ID does not correspond to a multicast group"

-- ---- results

-- the first error among the items, or else this
abbrev pub unless_error : {A : Type 0} → List Item → Result A Error → Result A Error
unless_error items answer = option_map_or (λ e. Err e) (first_error items) answer

-- the result; a text if there is none
abbrev pub or_text : {A : Type 0} → List ℕ → Option A → Result A Error
or_text text found = ok_or found (Msg text)

-- a refusal to read is that of the resolver
abbrev pub as_error : {A : Type 0} → Result A DeError → Result A Error
as_error reading = result_map_both (λ x. x) de_of reading

-- ---- the number of a family

-- the family's number in a message
abbrev pub number_told : Message → Option ℕ
number_told m = option_and_then (λ attrs. result_ok (family_id attrs)) (attributes_said m)

-- the last number in the messages
abbrev pub family_answer : List ℕ → List Item → Result ℕ Error
family_answer family items =
    unless_error items
    (or_text (no_family family) (last_or None (filter_map number_told (messages items))))

-- only the text takes memory
abbrev pub family_takes_memory : List ℕ → List Item → Type 0
family_takes_memory family items = family_answer family items ≡ Err (Msg (no_family family))

-- the same for lent items: an error among them is copied
abbrev pub lent_family_takes_memory : List ℕ → List Item → Type 0
lent_family_takes_memory family items = error_copy_takes_memory items ⊎ family_takes_memory family items

-- ---- the number of a group

-- the group has this name
abbrev pub is_named : List ℕ → AttributesRead CtrlAttrMcastGrp → Bool
is_named name attrs =
    option_map_or (λ own. pointwise nat_eq own name) (result_ok (group_name attrs)) false

-- the number of the group, if it is a match: it has this name and a number
abbrev pub match_number : List ℕ → Group → Option ℕ
match_number name group =
    option_and_then (λ attrs. if is_named name attrs then result_ok (group_id attrs) else None)
    (result_ok (group_attrs group))

-- the number of the first match in a message; refused if a payload has no readable groups
abbrev pub match_in : List ℕ → Message → Result (Option ℕ) DeError
match_in name m =
    option_map_or (λ attrs. after (λ all. Ok (first_found (match_number name) all)) (groups attrs))
    (attributes_said m) (Ok None)

-- that of the last message with a match
abbrev pub group_answer : List ℕ → List ℕ → List Item → Result ℕ Error
group_answer family name items =
    unless_error items
    (after (or_text (no_group family name))
    (as_error (last_found (match_in name) (messages items))))

-- a message that has bytes for its groups takes memory
abbrev pub match_takes_memory : Message → Type 0
match_takes_memory m = IsSomeAnd (attributes_said m) groups_take_memory

-- if no item is an error, memory is taken: for the groups of a message, or for the text
abbrev pub group_takes_memory : List ℕ → List ℕ → List Item → Type 0
group_takes_memory family name items = (first_error items ≡ None)
    × (finding_takes_memory (match_in name) match_takes_memory (messages items)
    ⊎ (group_answer family name items ≡ Err (Msg (no_group family name))))

-- the same for lent items: an error among them is copied
abbrev pub lent_group_takes_memory : List ℕ → List ℕ → List Item → Type 0
lent_group_takes_memory family name items = error_copy_takes_memory items ⊎ group_takes_memory family name items

-- the numbers of both: the family's refusal comes before the group's
abbrev pub both_answer : List ℕ → List ℕ → List Item → Result (ℕ × ℕ) Error
both_answer family name items =
    after (λ f. after (λ g. Ok (f, g)) (group_answer family name items)) (family_answer family items)

-- the family's number takes memory; or the group's does, if the family has one
abbrev pub both_take_memory : List ℕ → List ℕ → List Item → Type 0
both_take_memory family name items = lent_family_takes_memory family items
    ⊎ (IsOk (family_answer family items) × lent_group_takes_memory family name items)

-- ---- the names of a group

-- the group has this number
abbrev pub has_number : ℕ → AttributesRead CtrlAttrMcastGrp → Bool
has_number id attrs = option_map_or (λ own. own == id) (result_ok (group_id attrs)) false

-- the name of the group, if it has this number
abbrev pub name_if : ℕ → Group → Result (Option (List ℕ)) DeError
name_if id group =
    after (λ attrs. if has_number id attrs
    then after (λ name. Ok (Some name)) (group_name attrs)
    else Ok None) (group_attrs group)

-- the names of a family and of its last group with this number; no groups if they cannot be read
abbrev pub names_said : ℕ → AttributesRead CtrlAttr → Result (Option (List ℕ × List ℕ)) DeError
names_said id attrs =
    after (λ family. after (λ found. Ok (option_map (λ name. (family, name)) found))
    (last_found (name_if id) (unwrap_or (result_ok (groups attrs)) []))) (family_name attrs)

-- those in a message
abbrev pub names_in : ℕ → Message → Result (Option (List ℕ × List ℕ)) DeError
names_in id m = option_map_or (names_said id) (attributes_said m) (Ok None)

-- those in an item
abbrev pub names_told : ℕ → Item → Result (Option (List ℕ × List ℕ)) Error
names_told id item = after (λ m. as_error (names_in id m)) item

-- the last ones
abbrev pub names_answer : ℕ → List Item → Result (List ℕ × List ℕ) Error
names_answer id items = after (or_text no_number) (last_found (names_told id) items)

-- a message that has bytes for the name of its family takes memory
abbrev pub message_names_take_memory : Message → Type 0
message_names_take_memory m = IsSomeAnd (attributes_said m) family_name_takes_memory

-- such a message takes memory, if no item before it is refused
abbrev pub names_take_memory : ℕ → List Item → Type 0
names_take_memory id items =
    finding_takes_memory (names_told id) (λ item. IsOkAnd item message_names_take_memory) items
