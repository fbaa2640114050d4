-- Laws of probes, from those of their payloads.
use Rattle.std.proofs.Common.{◌≡◌, ◌≢◌, ℕ, ◌+◌, List, ◌++◌, length, Ok, Err, ap, arith, length-append}
use Rattle.neli.specs.wire.Numbers.{little_bytes}
use Rattle.neli.specs.wire.laws.Numbers.{count-unsigned}
use Rattle.neli.specs.wire.laws.Lists.{both_written, both-no_memory}
use Rattle.neli.specs.wire.Writing.{Wire}
use Rattle.neli.specs.wire.laws.Writing.{written-length, written-no_memory}
use Rattle.neli.specs.errors.SerError.TheVariants.{Memory}
use Rattle.example_body.specs.declared.probe.Probe.{Probe}
use Rattle.example_body.specs.Probe.{probe_wire}

-- the bytes of a header
abbrev header_bytes : {P : Type 0} → Probe P → List ℕ
header_bytes p = little_bytes 1 p.hops ++ little_bytes 1 p.kind ++ little_bytes 2 p.port

header_bytes-length : {P : Type 0} (p : Probe P) → length (header_bytes p) ≡ 4
header_bytes-length p =
    omega (
      arith,
      length-append (little_bytes 1 p.hops ++ little_bytes 1 p.kind) (little_bytes 2 p.port),
      length-append (little_bytes 1 p.hops) (little_bytes 1 p.kind),
      count-unsigned 1 p.hops,
      count-unsigned 1 p.kind,
      count-unsigned 2 p.port,
    )

pub probe_wire-length : {P : Type 0} (wire : P → Wire) (size : P → ℕ)
    → ((v : P) (bytes : List ℕ) → wire v ≡ Ok bytes → length bytes ≡ size v) → (p : Probe P) (bytes : List ℕ)
    → probe_wire wire p ≡ Ok bytes → length bytes ≡ 4 + size p.payload
probe_wire-length wire size length_is p bytes e =
    let parts = both_written (Ok (header_bytes p)) (wire p.payload) bytes e in
    let header : length parts.0 ≡ 4 = written-length (header_bytes p) parts.0 4 (header_bytes-length p) parts.2 in
    let payload = length_is p.payload parts.1 parts.3 in
    omega (arith, ap length parts.4, length-append parts.0 parts.1, header, payload)

pub probe_wire-no_memory : {P : Type 0} (wire : P → Wire) → ((v : P) → wire v ≢ Err Memory) → (p : Probe P)
    → probe_wire wire p ≢ Err Memory
probe_wire-no_memory wire no_memory p =
    both-no_memory (Ok (header_bytes p)) (wire p.payload) (written-no_memory (header_bytes p)) (no_memory p.payload)
