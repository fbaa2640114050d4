-- The command line's words, and their meaning.
use Rattle.std.specs.Prelude.{ℕ, Bool, ◌||◌, List, [], ◌∷◌, codes, bytes_eq, if◌then◌else◌, Option, Some, None}
use Rattle.std.specs.Prelude.{is_some, option_and_then}
use Rattle.std.specs.Option.{option_map, option_or, unwrap_or}
use Rattle.neli_show.specs.Families.{family_in}
use Rattle.neli_show.specs.Numbers.{number_in}
use Rattle.neli_show.specs.Infos.{named_info}
use Rattle.neli_show.specs.declared.info.Info.{Info}
use Rattle.neli_show.specs.declared.request.Asking.{Asking}
use Rattle.neli_show.specs.declared.request.Command.{Command}
use Rattle.neli_show.specs.declared.request.Command.TheVariants as command
use Rattle.neli_show.specs.declared.request.Output.{Output}
use Rattle.neli_show.specs.declared.request.Output.TheVariants as output

-- the output that a word names
abbrev pub named_output : List ℕ → Option Output
named_output word =
    if bytes_eq word (codes "json") then Some output.Json
    else (if bytes_eq word (codes "color") then Some output.Colour else None)

-- the protocol of netlink that a word names (`NETLINK_*` of linux/netlink.h)
abbrev pub named_protocol : List ℕ → Option ℕ
named_protocol word =
    if bytes_eq word (codes "route") then Some 0
    else (if bytes_eq word (codes "connector") then Some 11
    else (if bytes_eq word (codes "generic") then Some 16 else None))

-- a family of generic netlink is of its protocol
abbrev pub family_protocol : Option (List ℕ × ℕ) → Option ℕ
family_protocol (Some family) = Some 16
family_protocol None = None

-- a protocol, by its name, by a family of its own, or else by its number
abbrev pub protocol_in : List ℕ → Option ℕ
protocol_in word =
    option_or (named_protocol word) (option_or (family_protocol (family_in word)) (number_in word))

-- the output that an option names; whether the output is a terminal
abbrev pub named_option : Bool → List ℕ → Option Output
named_option terminal word =
    if bytes_eq word (codes "--json") then Some output.Json
    else (if bytes_eq word (codes "--color") || bytes_eq word (codes "--color=always") then Some output.Colour
    else (if bytes_eq word (codes "--color=auto") then Some (if terminal then output.Colour else output.Text)
    else (if bytes_eq word (codes "--color=never") then Some output.Text else None)))

-- ---- word by word

-- nothing is asked for
abbrev pub nothing : Asking
nothing = record { info = None; output = None; protocol = None }

-- the form is stated once
abbrev pub output_or : Option Output → Asking → Output → Option Asking
output_or (Some earlier) asking output = None
output_or None asking output =
    Some (record { info = asking.info; output = Some output; protocol = asking.protocol })

abbrev pub with_output : Asking → Output → Option Asking
with_output asking output = output_or asking.output asking output

abbrev pub with_protocol : Asking → Option ℕ → Option Asking
with_protocol asking (Some protocol) =
    Some (record { info = asking.info; output = asking.output; protocol = Some protocol })
with_protocol asking None = None

-- a word that is no option: an output, and then a protocol
abbrev pub form_or_protocol : Asking → Option Output → Option ℕ → Option Asking
form_or_protocol asking (Some output) protocol = with_output asking output
form_or_protocol asking None protocol = with_protocol asking protocol

abbrev pub with_word : Asking → List ℕ → Option Asking
with_word asking word =
    if is_some asking.protocol then None
    else form_or_protocol asking (named_output word) (protocol_in word)

-- an option, or else such a word
abbrev pub option_or_word : Asking → List ℕ → Option Info → Option Output → Option Asking
option_or_word asking word (Some info) output =
    Some (record { info = Some info; output = asking.output; protocol = asking.protocol })
option_or_word asking word None (Some output) = with_output asking output
option_or_word asking word None None = with_word asking word

abbrev pub with_any : Bool → Asking → List ℕ → Option Asking
with_any terminal asking word = option_or_word asking word (named_info word) (named_option terminal word)

-- all words, in order
abbrev pub with_all : Bool → Asking → List (List ℕ) → Option Asking
with_all terminal asking [] = Some asking
with_all terminal asking (word ∷ words) =
    option_and_then (λ more. with_all terminal more words) (with_any terminal asking word)

-- what they ask for: something about the program, or else messages, as lines of text and of routing unless stated
abbrev pub told_or : Asking → Option Info → Command
told_or asking (Some info) = command.Tell info
told_or asking None = command.Show (record {
  output = unwrap_or asking.output output.Text;
  protocol = unwrap_or asking.protocol 0;
})

abbrev pub command_of : Asking → Command
command_of asking = told_or asking asking.info

abbrev pub command_in : Bool → List (List ℕ) → Option Command
command_in terminal words = option_map command_of (with_all terminal nothing words)
