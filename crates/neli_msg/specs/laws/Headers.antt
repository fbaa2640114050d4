-- Laws of headers.
use Rattle.std.proofs.Common.{◌≡◌, ◌≢◌, ℕ, List, ◌++◌, length, Ok, Err, arith, length-append}
use Rattle.byteorder.specs.Endian.{little_bytes}
use Rattle.neli_wire.specs.declared.errors.SerError.TheVariants as ser
use Rattle.neli_wire.specs.Sizes.{EndsInZeros}
use Rattle.neli_wire.specs.laws.Sizes.{unpadded-zeros}
use Rattle.neli_wire.specs.laws.Numbers.{count-unsigned}
use Rattle.neli_wire.specs.laws.Writing.{written-length, written-no_memory}
use Rattle.neli_msg.specs.Headers.{Header, header_wire}

module _ {K : Type 0} (type_number : K → ℕ) where
  abbrev fields : Header K → List ℕ
  fields h =
      little_bytes 4 h.len ++ little_bytes 2 (type_number h.message_type) ++ little_bytes 2 h.flags.0
      ++ little_bytes 4 h.sequence_number ++ little_bytes 4 h.port

  -- a header has 16 bytes
  pub fields-length : (h : Header K) → length (fields h) ≡ 16
  fields-length h =
      let a = little_bytes 4 h.len in
      let b = little_bytes 2 (type_number h.message_type) in
      let c = little_bytes 2 h.flags.0 in
      let d = little_bytes 4 h.sequence_number in
      let e = little_bytes 4 h.port in
      omega (
        arith,
        length-append a (b ++ c ++ d ++ e),
        length-append b (c ++ d ++ e),
        length-append c (d ++ e),
        length-append d e,
        count-unsigned 4 h.len,
        count-unsigned 2 (type_number h.message_type),
        count-unsigned 2 h.flags.0,
        count-unsigned 4 h.sequence_number,
        count-unsigned 4 h.port,
      )

  pub header_wire-length : (h : Header K) (bytes : List ℕ) → header_wire type_number h ≡ Ok bytes → length bytes ≡ 16
  header_wire-length h bytes e = written-length (fields h) bytes 16 (fields-length h) e

  pub header_wire-no_memory : (h : Header K) → header_wire type_number h ≢ Err ser.Memory
  header_wire-no_memory h = written-no_memory (fields h)

  pub header_wire-zeros : (h : Header K) (bytes : List ℕ) → header_wire type_number h ≡ Ok bytes → EndsInZeros 16 bytes
  header_wire-zeros h bytes e = unpadded-zeros 16 bytes (header_wire-length h bytes e)
