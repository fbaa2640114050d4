-- The numbers of `NlmsgerrAttr`.
use Rattle.std.specs.Prelude.{ℕ, Bool, true, false, List, [], ◌∷◌}
use Rattle.neli_wire.specs.Constants.{first_with}
use Rattle.neli_consts.specs.declared.nlmsg.NlmsgerrAttr.{NlmsgerrAttr}
use Rattle.neli_consts.specs.declared.nlmsg.NlmsgerrAttr.TheVariants.{Unused, Msg, Offset}
use Rattle.neli_consts.specs.declared.nlmsg.NlmsgerrAttr.TheVariants.{Cookie, Policy, UnrecognizedConst}

-- the number of each variant
abbrev pub nlmsgerr_attr_number : NlmsgerrAttr → ℕ
nlmsgerr_attr_number Unused = 0
nlmsgerr_attr_number Msg = 1
nlmsgerr_attr_number Offset = 2
nlmsgerr_attr_number Cookie = 3
nlmsgerr_attr_number Policy = 4
nlmsgerr_attr_number (UnrecognizedConst n) = n

-- the variants, in their order
abbrev pub nlmsgerr_attr_variants : List NlmsgerrAttr
nlmsgerr_attr_variants =
    Unused ∷ Msg ∷ Offset ∷ Cookie ∷ Policy ∷ []

-- the first variant with a number, else the number without a name
abbrev pub nlmsgerr_attr_of : ℕ → NlmsgerrAttr
nlmsgerr_attr_of = first_with nlmsgerr_attr_number nlmsgerr_attr_variants UnrecognizedConst

-- whether a value is a number without a name
abbrev pub nlmsgerr_attr_is_unrecognized : NlmsgerrAttr → Bool
nlmsgerr_attr_is_unrecognized (UnrecognizedConst n) = true
nlmsgerr_attr_is_unrecognized v = false
