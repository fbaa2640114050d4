-- The numbers of `WirelessCommand`.
use Rattle.std.specs.Prelude.{ℕ, List, [], ◌∷◌}
use Rattle.neli.specs.wire.Constants.{first_with}
use Rattle.example_enum.specs.declared.command.WirelessCommand.{WirelessCommand}
use Rattle.example_enum.specs.declared.command.WirelessCommand.TheVariants.{GetInterface, NewInterface, GetScan}
use Rattle.example_enum.specs.declared.command.WirelessCommand.TheVariants.{TriggerScan, UnrecognizedConst}

-- the number of each variant
abbrev pub wireless_command_number : WirelessCommand → ℕ
wireless_command_number GetInterface = 5
wireless_command_number NewInterface = 7
wireless_command_number GetScan = 32
wireless_command_number TriggerScan = 33
wireless_command_number (UnrecognizedConst n) = n

-- the variants, in their order
abbrev pub wireless_command_variants : List WirelessCommand
wireless_command_variants =
    GetInterface ∷ NewInterface ∷ GetScan ∷ TriggerScan ∷ []

-- the first variant with a number, else the number without a name
abbrev pub wireless_command_of : ℕ → WirelessCommand
wireless_command_of = first_with wireless_command_number wireless_command_variants UnrecognizedConst
