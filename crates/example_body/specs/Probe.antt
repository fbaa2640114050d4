-- Probes: their bytes, and the result of their builder.
use Rattle.std.specs.Prelude.{codes, unwrap_or, Ok}
use Rattle.neli.specs.wire.Numbers.{little_bytes}
use Rattle.neli.specs.wire.Writing.{Wire, ◌+++◌}
use Rattle.neli.specs.attr.Builders.{Outcome, require_field}
use Rattle.example_body.specs.declared.probe.Probe.{Probe}
use Rattle.example_body.specs.declared.probe.ProbeBuilder.{ProbeBuilder}

-- the header's fields, and then the payload
abbrev pub probe_wire : {P : Type 0} → (P → Wire) → Probe P → Wire
probe_wire wire p =
    Ok (little_bytes 1 p.hops) +++ Ok (little_bytes 1 p.kind) +++ Ok (little_bytes 2 p.port) +++ wire p.payload

-- the probe that a builder makes of its fields: 64 hops by default
abbrev pub built_probe : {P : Type 0} → ProbeBuilder P → Outcome (Probe P)
built_probe b =
    require_field (codes "kind") b.kind (λ kind.
    require_field (codes "port") b.port (λ port.
    require_field (codes "payload") b.payload (λ payload.
    Ok (record { hops = unwrap_or b.hops 64; kind = kind; port = port; payload = payload }))))
