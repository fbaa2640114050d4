-- Laws of the text of hardware addresses: a printed address is read back.
use Rattle.std.proofs.Common.{◌≡◌, ℕ, zero, suc, ◌<◌, ◌≤◌, ◌/◌, ◌%◌, List, [], ◌∷◌, ◌++◌, length, Some, refl, ap, arith}
use Rattle.std.specs.Char.{digit_char}
use Rattle.std.specs.List.{flat_map}
use Rattle.std.specs.Prelude.{codes}
use Rattle.neli_wire.specs.Numbers.{AreBytes}
use Rattle.neli_payloads.specs.HardwareAddress.{byte_text, hardware_text}
use Rattle.neli_payloads.specs.HardwareText.{byte_of_digits, bytes_of_text, digit_value, hardware_parsed}

-- a printed digit is read as its number
digit-back : (d : ℕ) → d < 16 → digit_value (digit_char d) ≡ Some d
digit-back zero l = refl
digit-back (suc zero) l = refl
digit-back (suc (suc zero)) l = refl
digit-back (suc (suc (suc zero))) l = refl
digit-back (suc (suc (suc (suc zero)))) l = refl
digit-back (suc (suc (suc (suc (suc zero))))) l = refl
digit-back (suc (suc (suc (suc (suc (suc zero)))))) l = refl
digit-back (suc (suc (suc (suc (suc (suc (suc zero))))))) l = refl
digit-back (suc (suc (suc (suc (suc (suc (suc (suc zero)))))))) l = refl
digit-back (suc (suc (suc (suc (suc (suc (suc (suc (suc zero))))))))) l = refl
digit-back (suc (suc (suc (suc (suc (suc (suc (suc (suc (suc zero)))))))))) l = refl
digit-back (suc (suc (suc (suc (suc (suc (suc (suc (suc (suc (suc zero))))))))))) l = refl
digit-back (suc (suc (suc (suc (suc (suc (suc (suc (suc (suc (suc (suc zero)))))))))))) l = refl
digit-back (suc (suc (suc (suc (suc (suc (suc (suc (suc (suc (suc (suc (suc zero))))))))))))) l = refl
digit-back (suc (suc (suc (suc (suc (suc (suc (suc (suc (suc (suc (suc (suc (suc zero)))))))))))))) l = refl
digit-back (suc (suc (suc (suc (suc (suc (suc (suc (suc (suc (suc (suc (suc (suc (suc zero))))))))))))))) l = refl
digit-back (suc (suc (suc (suc (suc (suc (suc (suc (suc (suc (suc (suc (suc (suc (suc (suc d)))))))))))))))) l =
    absurd (omega (arith, l))

byte-back : (b : ℕ) → b < 256 → byte_of_digits (digit_value (digit_char (b / 16))) (digit_value (digit_char (b % 16)))
    ≡ Some b
byte-back b small =
    rw (digit-back (b / 16) (omega (arith, small)), digit-back (b % 16) (omega arith))
    (ap (λ (n : ℕ). Some n) (omega arith))

abbrev later_text : List ℕ → List ℕ
later_text bytes = flat_map (λ c. codes ":" ++ byte_text c) bytes

-- a byte's text, and the texts of others after colons
text-back : (room b : ℕ) (bytes : List ℕ) → length (b ∷ bytes) ≤ room → AreBytes (b ∷ bytes)
    → bytes_of_text room (byte_text b ++ later_text bytes) ≡ Some (b ∷ bytes)
unfolding bytes_of_text
text-back zero b bytes le small = absurd (omega (arith, le))
text-back (suc room) b [] le small = rw (byte-back b (small 0)) refl
text-back (suc room) b (c ∷ bytes) le small =
    rw (byte-back b (small 0), text-back room c bytes (omega (arith, le)) (λ i. small (suc i))) refl

pub hardware_text-back : (bytes : List ℕ) → length bytes ≤ 32 → AreBytes bytes
    → hardware_parsed (hardware_text bytes) ≡ Some bytes
hardware_text-back [] le small = refl
hardware_text-back (b ∷ bytes) le small = text-back 32 b bytes le small
