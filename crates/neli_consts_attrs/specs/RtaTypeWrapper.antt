-- The meaning of an attribute's number in routing messages: the first table that has a name for it.
use Rattle.std.specs.Prelude.{ℕ, Bool, List, [], ◌∷◌}
use Rattle.neli_wire.specs.Constants.{reading, first_recognized}
use Rattle.neli_consts_attrs.specs.Ifla.{ifla_number, ifla_of, ifla_is_unrecognized}
use Rattle.neli_consts_attrs.specs.Ifa.{ifa_number, ifa_of, ifa_is_unrecognized}
use Rattle.neli_consts_attrs.specs.Rta.{rta_number, rta_of, rta_is_unrecognized}
use Rattle.neli_consts_attrs.specs.Tca.{tca_number, tca_of, tca_is_unrecognized}
use Rattle.neli_consts_attrs.specs.Nda.{nda_number, nda_of, nda_is_unrecognized}
use Rattle.neli_consts_attrs.specs.IflaInfo.{ifla_info_number, ifla_info_of, ifla_info_is_unrecognized}
use Rattle.neli_consts_attrs.specs.IflaVlan.{ifla_vlan_number, ifla_vlan_of, ifla_vlan_is_unrecognized}
use Rattle.neli_consts_attrs.specs.IflaVlanQos.{ifla_vlan_qos_number, ifla_vlan_qos_of, ifla_vlan_qos_is_unrecognized}
use Rattle.neli_consts_attrs.specs.Frattr.{frattr_number, frattr_of, frattr_is_unrecognized}
use Rattle.neli_consts_attrs.specs.declared.rta_type.RtaTypeWrapper.{RtaTypeWrapper}
use Rattle.neli_consts_attrs.specs.declared.rta_type.RtaTypeWrapper.TheVariants.{Ifla, Ifa, Rta, Tca}
use Rattle.neli_consts_attrs.specs.declared.rta_type.RtaTypeWrapper.TheVariants.{Nda, IflaInfo, IflaVlan, IflaVlanQos}
use Rattle.neli_consts_attrs.specs.declared.rta_type.RtaTypeWrapper.TheVariants.{Frattr, UnrecognizedConst}

-- the number of each value
abbrev pub rta_type_wrapper_number : RtaTypeWrapper → ℕ
rta_type_wrapper_number (Ifla v) = ifla_number v
rta_type_wrapper_number (Ifa v) = ifa_number v
rta_type_wrapper_number (Rta v) = rta_number v
rta_type_wrapper_number (Tca v) = tca_number v
rta_type_wrapper_number (Nda v) = nda_number v
rta_type_wrapper_number (IflaInfo v) = ifla_info_number v
rta_type_wrapper_number (IflaVlan v) = ifla_vlan_number v
rta_type_wrapper_number (IflaVlanQos v) = ifla_vlan_qos_number v
rta_type_wrapper_number (Frattr v) = frattr_number v
rta_type_wrapper_number (UnrecognizedConst n) = n

-- each table's value for a number, in the order of the tables
abbrev pub rta_type_wrapper_readings : ℕ → List (Bool × RtaTypeWrapper)
rta_type_wrapper_readings n =
    reading ifla_is_unrecognized Ifla (ifla_of n)
    ∷ reading ifa_is_unrecognized Ifa (ifa_of n)
    ∷ reading rta_is_unrecognized Rta (rta_of n)
    ∷ reading tca_is_unrecognized Tca (tca_of n)
    ∷ reading nda_is_unrecognized Nda (nda_of n)
    ∷ reading ifla_info_is_unrecognized IflaInfo (ifla_info_of n)
    ∷ reading ifla_vlan_is_unrecognized IflaVlan (ifla_vlan_of n)
    ∷ reading ifla_vlan_qos_is_unrecognized IflaVlanQos (ifla_vlan_qos_of n)
    ∷ reading frattr_is_unrecognized Frattr (frattr_of n)
    ∷ []

-- the value from the first table that has a name for a number, else the number without a name
abbrev pub rta_type_wrapper_of : ℕ → RtaTypeWrapper
rta_type_wrapper_of n = first_recognized (rta_type_wrapper_readings n) (UnrecognizedConst n)
