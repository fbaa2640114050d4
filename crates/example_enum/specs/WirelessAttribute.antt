-- The numbers of `WirelessAttribute`.
use Rattle.std.specs.Prelude.{ℕ, List, [], ◌∷◌}
use Rattle.neli.specs.wire.Constants.{first_with}
use Rattle.example_enum.specs.declared.attribute.WirelessAttribute.{WirelessAttribute}
use Rattle.example_enum.specs.declared.attribute.WirelessAttribute.TheVariants.{Ifindex, Ifname, Mac, UnrecognizedConst}

-- the number of each variant
abbrev pub wireless_attribute_number : WirelessAttribute → ℕ
wireless_attribute_number Ifindex = 3
wireless_attribute_number Ifname = 4
wireless_attribute_number Mac = 6
wireless_attribute_number (UnrecognizedConst n) = n

-- the variants, in their order
abbrev pub wireless_attribute_variants : List WirelessAttribute
wireless_attribute_variants =
    Ifindex ∷ Ifname ∷ Mac ∷ []

-- the first variant with a number, else the number without a name
abbrev pub wireless_attribute_of : ℕ → WirelessAttribute
wireless_attribute_of = first_with wireless_attribute_number wireless_attribute_variants UnrecognizedConst
