-- Hex digits as the reader takes them: 16 for a word of memory.
use Rattle.std.specs.Prelude.{◌≡◌, ℕ, zero, suc, ◌+◌, ◌*◌, ◌%◌, nat_le, Bool, List, [], ◌∷◌, length, take, drop, Option, Some, None, option_map}
use Rattle.std.specs.Int.{w64, from_le_bytes}
use Rattle.hex.specs.Hex.{hex_digit_value, decode_of}
use Rattle.image_grammar.specs.Forms.{whole_words, words_in_bytes}

-- the first before the others, where all are there
abbrev pub joined : Option ℕ → Option (List ℕ) → Option (List ℕ)
joined (Some x) (Some xs) = Some (x ∷ xs)
joined _ _ = None

-- the byte of two digits, the high one first
abbrev pub byte_by : Option ℕ → Option ℕ → Option ℕ
byte_by (Some high) (Some low) = Some (high * 16 + low)
byte_by _ _ = None

abbrev pub byte_in : ℕ → ℕ → Option ℕ
byte_in high low = byte_by (hex_digit_value high) (hex_digit_value low)

-- the bytes of pairs of digits
unfoldable pub bytes_in : List ℕ → Option (List ℕ)
bytes_in [] = Some []
bytes_in (digit ∷ []) = None
bytes_in (high ∷ low ∷ rest) = joined (byte_in high low) (bytes_in rest)

-- the word of 16 digits
abbrev pub word_in : List ℕ → Option ℕ
word_in digits = option_map (from_le_bytes w64) (bytes_in digits)

-- a value, or 255 where there is none
abbrev pub or_255 : Option ℕ → ℕ
or_255 (Some value) = value
or_255 None = 255

-- the value of a byte as a hex digit, or 255
abbrev pub digit_or_255 : ℕ → ℕ
digit_or_255 byte = or_255 (hex_digit_value byte)

-- 255 is no value of a digit
abbrev pub is_no_value : ℕ → Bool
is_no_value value = nat_le 128 value

-- the byte of each two values, the high one first
abbrev pub bytes_by_pairs : List ℕ → List ℕ
bytes_by_pairs [] = []
bytes_by_pairs (value ∷ []) = []
bytes_by_pairs (high ∷ low ∷ rest) = (high * 16 + low) % 256 ∷ bytes_by_pairs rest

-- so many words, each of 16 digits
unfoldable pub words_told : ℕ → List ℕ → Option (List ℕ)
words_told zero digits = Some []
words_told (suc n) digits = joined (word_in (take 16 digits)) (words_told n (drop 16 digits))

-- the words of the bytes that digits write
pub record AreWords (digits words : List ℕ) : Type 0 where
  pub bytes : List ℕ
  pub decoded : whole_words (decode_of digits) ≡ Some bytes
  pub size : length bytes ≡ 8 * length words
  pub are : words ≡ words_in_bytes bytes
