-- The numbers of `IflaBondSlave`.
use Rattle.std.specs.Prelude.{ℕ, Bool, true, false, List, [], ◌∷◌}
use Rattle.neli_wire.specs.Constants.{first_with}
use Rattle.neli_consts_linux.specs.declared.bonds.IflaBondSlave.{IflaBondSlave}
use Rattle.neli_consts_linux.specs.declared.bonds.IflaBondSlave.TheVariants.{Unspec, State, MiiStatus, LinkFailureCount}
use Rattle.neli_consts_linux.specs.declared.bonds.IflaBondSlave.TheVariants.{PermHwaddr, QueueId, AdAggregatorId}
use Rattle.neli_consts_linux.specs.declared.bonds.IflaBondSlave.TheVariants.{AdActorOperPortState}
use Rattle.neli_consts_linux.specs.declared.bonds.IflaBondSlave.TheVariants.{AdPartnerOperPortState, Prio}
use Rattle.neli_consts_linux.specs.declared.bonds.IflaBondSlave.TheVariants.{ActorPortPrio, AdChurnActorState}
use Rattle.neli_consts_linux.specs.declared.bonds.IflaBondSlave.TheVariants.{AdChurnPartnerState, UnrecognizedConst}

-- the number of each variant
abbrev pub ifla_bond_slave_number : IflaBondSlave → ℕ
ifla_bond_slave_number Unspec = 0
ifla_bond_slave_number State = 1
ifla_bond_slave_number MiiStatus = 2
ifla_bond_slave_number LinkFailureCount = 3
ifla_bond_slave_number PermHwaddr = 4
ifla_bond_slave_number QueueId = 5
ifla_bond_slave_number AdAggregatorId = 6
ifla_bond_slave_number AdActorOperPortState = 7
ifla_bond_slave_number AdPartnerOperPortState = 8
ifla_bond_slave_number Prio = 9
ifla_bond_slave_number ActorPortPrio = 10
ifla_bond_slave_number AdChurnActorState = 11
ifla_bond_slave_number AdChurnPartnerState = 12
ifla_bond_slave_number (UnrecognizedConst n) = n

-- the variants, in their order
abbrev pub ifla_bond_slave_variants : List IflaBondSlave
ifla_bond_slave_variants =
    Unspec ∷ State ∷ MiiStatus ∷ LinkFailureCount ∷ PermHwaddr ∷ QueueId ∷ AdAggregatorId ∷
    AdActorOperPortState ∷ AdPartnerOperPortState ∷ Prio ∷ ActorPortPrio ∷ AdChurnActorState ∷
    AdChurnPartnerState ∷ []

-- the first variant with a number, else the number without a name
abbrev pub ifla_bond_slave_of : ℕ → IflaBondSlave
ifla_bond_slave_of = first_with ifla_bond_slave_number ifla_bond_slave_variants UnrecognizedConst

-- whether a value is a number without a name
abbrev pub ifla_bond_slave_is_unrecognized : IflaBondSlave → Bool
ifla_bond_slave_is_unrecognized (UnrecognizedConst n) = true
ifla_bond_slave_is_unrecognized v = false
