-- Bytes in hexadecimal are those of the crate `hex`.
use Rattle.std.proofs.Common.{◌≡◌, ℕ, zero, suc, ◌/◌, ◌%◌, ◌<◌, ◌==◌, false, List, [], ◌∷◌, length, slice_index, refl, arith}
use Rattle.hex.specs.Hex.{IsBytes, encode_lower, encode_with, lower_digits}
use Rattle.pool_law.specs.Text.{hex, hex_digit, shown_bytes}

-- the digits of the table are those of the definition
digit_is : (d : ℕ) → d < 16 → slice_index lower_digits d ≡ hex_digit d
digit_is zero h = refl
digit_is (suc zero) h = refl
digit_is (suc (suc zero)) h = refl
digit_is (suc (suc (suc zero))) h = refl
digit_is (suc (suc (suc (suc zero)))) h = refl
digit_is (suc (suc (suc (suc (suc zero))))) h = refl
digit_is (suc (suc (suc (suc (suc (suc zero)))))) h = refl
digit_is (suc (suc (suc (suc (suc (suc (suc zero))))))) h = refl
digit_is (suc (suc (suc (suc (suc (suc (suc (suc zero)))))))) h = refl
digit_is (suc (suc (suc (suc (suc (suc (suc (suc (suc zero))))))))) h = refl
digit_is (suc (suc (suc (suc (suc (suc (suc (suc (suc (suc zero)))))))))) h = refl
digit_is (suc (suc (suc (suc (suc (suc (suc (suc (suc (suc (suc zero))))))))))) h = refl
digit_is (suc (suc (suc (suc (suc (suc (suc (suc (suc (suc (suc (suc zero)))))))))))) h = refl
digit_is (suc (suc (suc (suc (suc (suc (suc (suc (suc (suc (suc (suc (suc zero))))))))))))) h = refl
digit_is (suc (suc (suc (suc (suc (suc (suc (suc (suc (suc (suc (suc (suc (suc zero)))))))))))))) h = refl
digit_is (suc (suc (suc (suc (suc (suc (suc (suc (suc (suc (suc (suc (suc (suc (suc zero))))))))))))))) h = refl
digit_is (suc (suc (suc (suc (suc (suc (suc (suc (suc (suc (suc (suc (suc (suc (suc (suc n)))))))))))))))) h =
    absurd (omega arith)

-- so is the text of bytes
hex_is : (bytes : List ℕ) → IsBytes bytes → encode_lower bytes ≡ hex bytes
unfolding encode_with
hex_is [] small = refl
hex_is (b ∷ bytes) small =
    let first : b < 256 = small 0 in
    rw (digit_is (b / 16) (omega arith), digit_is (b % 16) (omega arith), hex_is bytes (λ i. small (suc i))) refl

-- and bytes that are shown, where there are any
pub shown_is : (bytes : List ℕ) → (length bytes == 0) ≡ false → IsBytes bytes → encode_lower bytes ≡ shown_bytes bytes
shown_is [] some small = cc
shown_is (b ∷ bytes) some small = hex_is (b ∷ bytes) small
