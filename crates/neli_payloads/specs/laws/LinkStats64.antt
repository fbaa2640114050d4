-- Laws of the counters of links: no bytes are refused.
use Rattle.std.proofs.Common.{◌≢◌, ℕ, List, Ok, Err}
use Rattle.neli_wire.specs.Bytes.{short}
use Rattle.neli_wire.specs.declared.errors.DeError.{DeError}
use Rattle.neli_wire.specs.declared.errors.DeError.TheVariants.{Memory}
use Rattle.neli_payloads.specs.LinkStats64.{link_stats64_of}
use Rattle.neli_payloads.specs.declared.link_stats64.LinkStats64.{LinkStats64}

read-not : (v : LinkStats64) (d : DeError) → Ok v ≢ Err d
read-not v d e = cc

pub link_stats64-no_memory : (s : List ℕ) → Ok (link_stats64_of s) ≢ Err Memory
link_stats64-no_memory s = read-not (link_stats64_of s) Memory

pub link_stats64-never_short : (s : List ℕ) → Ok (link_stats64_of s) ≢ Err short
link_stats64-never_short s = read-not (link_stats64_of s) short
