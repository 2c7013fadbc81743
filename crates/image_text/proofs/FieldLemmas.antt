-- What is written in a field is read again.
use Rattle.std.proofs.Common.{◌≡◌, ℕ, zero, suc, ◌+◌, ◌*◌, ◌/◌, ◌%◌, ◌^◌, ◌<◌, ◌≤◌, Bool, true, false, List, [], ◌∷◌, ◌++◌, length, take, drop, get_or, refl, sym, ap, ◌∙◌, subst, arith}
use Rattle.std.specs.Prelude.{⊤, if◌then◌else◌, ◌&&◌, nat_le, nat_lt, Option, Some, None, Result, Ok, Err, map, flat_map, codes, cond, ◌-◌, ◌==◌, slice_index}
use Rattle.std.specs.Int.{w64, to_le_bytes, from_le_bytes}
use Rattle.std.specs.Fmt.{digits}
use Rattle.std.specs.Char.{digit_value}
use Rattle.std.specs.Str.Parse.{AllDigits}
use Rattle.std.proofs.lemmas.Bool.Decides.{nat_tests}
use Rattle.std.proofs.lemmas.Fmt.{digits_is_IsNumeral}
use Rattle.std.proofs.Math.Nat.{pow-le-pow_left}
use Rattle.std.proofs.Math.Seq.{take-append_seam, drop-append_seam}
use Rattle.std.proofs.lemmas.Nat.{from_le_bytes-to_le_bytes_8}
use Rattle.std.proofs.lemmas.List.{length-append, append-nil, take_more}
use Rattle.std.proofs.lemmas.Grind.{flat_map-append}
use Rattle.hex.specs.Hex.{encode_lower, encode_with, lower_digits, decode_of, IsBytes}
use Rattle.hex.proofs.HexLemmas.{decode_of-encode_lower, length-encode_with}
use Rattle.image_grammar.specs.Forms.{words_in, words_in_bytes, whole_words}
use Rattle.svsm_types.specs.declared.owner.Owner.{Owner}
use Rattle.svsm_types.specs.declared.owner.Owner.TheVariants.{Guest, Module, Pool, Vmsa}
use Rattle.svsm_types.specs.declared.platform.HwState.{HwState}
use Rattle.svsm_types.specs.declared.platform.HwState.TheVariants.{Shared, Assigned, Valid}
use Rattle.svsm_text.specs.Numbers.{number, number_in}
use Rattle.svsm_text.proofs.NumberLemmas.{read_again}
use Rattle.image_grammar.specs.Words.{owner_word, state_word}
use Rattle.image_text.specs.Written.{owner_field, state_field, words_field}
use Rattle.image_text.specs.ReadsAgain.{AreOf64Bits}
use Rattle.image_text.proofs.TextLemmas.{IsPlain, IsField, plain_append}

-- WORDS

pub owner_again : (owner : Owner) → owner_word (owner_field owner) ≡ Some owner
owner_again Guest = refl
owner_again Module = refl
owner_again Pool = refl
owner_again Vmsa = refl

pub state_again : (state : HwState) → state_word (state_field state) ≡ Some state
state_again Shared = refl
state_again Assigned = refl
state_again Valid = refl

-- NUMBERS

abbrev from_48 : ℕ → ℕ
from_48 c = cond (nat_lt c 58) (c - 48) (cond (nat_lt c 65) 36 (cond (nat_lt c 91) (c - 55) (cond (nat_lt c 97) 36 (cond (nat_lt c 123) (c - 87) 36))))

mark_by : (c : ℕ) (t : Bool) → nat_lt c 48 ≡ t → digit_value c < 16 → nat_le 33 c ≡ true
mark_by c true e h = let d : digit_value c ≡ 36 = ap (λ (t : Bool). cond t 36 (from_48 c)) e in absurd (omega (arith, d, h))
mark_by c false e h = grind (arith, nat_tests)

digit_mark : (c : ℕ) → digit_value c < 16 → nat_le 33 c ≡ true
digit_mark c h = mark_by c (nat_lt c 48) refl h

digits_plain : (ds : List ℕ) → AllDigits 16 ds → IsPlain ds
digits_plain [] h = tt
digits_plain (d ∷ ds) h = (digit_mark d h.0, digits_plain ds h.1)

far : (n a b : ℕ) → n < a → a ≤ b → n < b
far n a b low high = omega arith

pub number_field : (n : ℕ) → n < 2 ^ 64 → IsField (number n)
number_field n small =
    let numeral = digits_is_IsNumeral 16 false (omega arith) (omega arith) n (far n (2 ^ 64) (16 ^ 64) small (pow-le-pow_left {n = 2} {m = 16} (omega arith) 64)) in
    (refl, (refl, digits_plain (digits 16 false n) numeral.0.1))

-- WORDS OF MEMORY

word_length : (n : ℕ) → length (to_le_bytes w64 n) ≡ 8
word_length n = refl

abbrev AllBytes : List ℕ → Type 0
AllBytes [] = ⊤
AllBytes (x ∷ xs) = (x < 256) × AllBytes xs

bytes_by : (xs : List ℕ) → AllBytes xs → IsBytes xs
bytes_by [] h i = omega arith
bytes_by (x ∷ xs) h zero = h.0
bytes_by (x ∷ xs) h (suc i) = bytes_by xs h.1 i

word_bytes : (n : ℕ) → AllBytes (to_le_bytes w64 n)
word_bytes n = (omega arith, (omega arith, (omega arith, (omega arith, (omega arith, (omega arith, (omega arith, (omega arith, tt))))))))

abbrev pub bytes_of : List ℕ → List ℕ
bytes_of words = flat_map (to_le_bytes w64) words

pub bytes_length : (words : List ℕ) → length (bytes_of words) ≡ 8 * length words
bytes_length [] = refl
bytes_length (word ∷ words) = omega (arith, length-append (to_le_bytes w64 word) (bytes_of words), word_length word, bytes_length words)

all_bytes : (a b : List ℕ) → AllBytes a → AllBytes b → AllBytes (a ++ b)
all_bytes [] b p q = q
all_bytes (x ∷ a) b p q = (p.0, all_bytes a b p.1 q)

are_bytes : (words : List ℕ) → AllBytes (bytes_of words)
are_bytes [] = tt
are_bytes (word ∷ words) = all_bytes (to_le_bytes w64 word) (bytes_of words) (word_bytes word) (are_bytes words)

words_step : (n : ℕ) (bytes : List ℕ) → words_in (suc n) bytes ≡ from_le_bytes w64 (take 8 bytes) ∷ words_in n (drop 8 bytes)
unfolding words_in
words_step n bytes = refl

words_none : (bytes : List ℕ) → words_in 0 bytes ≡ []
unfolding words_in
words_none bytes = refl

words_in_again : (words : List ℕ) → AreOf64Bits words → words_in (length words) (bytes_of words) ≡ words
words_in_again [] h = words_none []
words_in_again (word ∷ words) h =
    words_step (length words) (bytes_of (word ∷ words))
    ∙ ap (λ (l : List ℕ). from_le_bytes w64 l ∷ words_in (length words) (drop 8 (bytes_of (word ∷ words)))) (take-append_seam (to_le_bytes w64 word) (bytes_of words))
    ∙ ap (λ (l : List ℕ). from_le_bytes w64 (to_le_bytes w64 word) ∷ words_in (length words) l) (drop-append_seam (to_le_bytes w64 word) (bytes_of words))
    ∙ ap (λ (n : ℕ). n ∷ words_in (length words) (bytes_of words)) (from_le_bytes-to_le_bytes_8 word h.0)
    ∙ ap (λ (l : List ℕ). word ∷ l) (words_in_again words h.1)

pub words_again : (words : List ℕ) → AreOf64Bits words → words_in_bytes (bytes_of words) ≡ words
unfolding words_in_bytes
words_again words h =
    let e : length (bytes_of words) / 8 ≡ length words = omega (arith, bytes_length words) in
    ap (λ (n : ℕ). words_in n (bytes_of words)) e ∙ words_in_again words h

some_bytes : (m : ℕ) → 0 < m → m % 8 ≡ 0 → (nat_lt 0 m && m % 8 == 0) ≡ true
some_bytes m some whole = grind (arith, nat_tests)

whole_by : (words : List ℕ) → 0 < length words → whole_words (Ok (bytes_of words)) ≡ Some (bytes_of words)
whole_by words some =
    ap (λ (t : Bool). if t then Some (bytes_of words) else None)
    (some_bytes (length (bytes_of words)) (omega (arith, bytes_length words)) (omega (arith, bytes_length words)))

pub whole_again : (words : List ℕ) → 0 < length words → whole_words (decode_of (words_field words)) ≡ Some (bytes_of words)
whole_again words some =
    let e = decode_of-encode_lower (bytes_of words) (bytes_by (bytes_of words) (are_bytes words)) in
    ap whole_words e ∙ whole_by words some

mark_at : (xs : List ℕ) (k : ℕ) → IsPlain xs → k < length xs → nat_le 33 (slice_index xs k) ≡ true
mark_at [] k h below = absurd (omega arith)
mark_at (x ∷ xs) zero h below = h.0
mark_at (x ∷ xs) (suc k) h below = mark_at xs k h.1 (omega arith)

table_plain : IsPlain lower_digits
table_plain = (refl, (refl, (refl, (refl, (refl, (refl, (refl, (refl, (refl, (refl, (refl, (refl, (refl, (refl, (refl, (refl, tt))))))))))))))))

encode_step : (b : ℕ) (rest : List ℕ) → encode_lower (b ∷ rest) ≡ slice_index lower_digits (b / 16) ∷ slice_index lower_digits (b % 16) ∷ encode_lower rest
unfolding encode_with
encode_step b rest = refl

encode_none : encode_lower [] ≡ []
unfolding encode_with
encode_none = refl

encode_plain : (bytes : List ℕ) → AllBytes bytes → IsPlain (encode_lower bytes)
encode_plain [] h = subst IsPlain (sym encode_none) tt
encode_plain (b ∷ bytes) h =
    subst IsPlain (sym (encode_step b bytes))
    (mark_at lower_digits (b / 16) table_plain (omega (arith, h.0)), (mark_at lower_digits (b % 16) table_plain (omega arith), encode_plain bytes h.1))

field_of : (f : List ℕ) → IsPlain f → 0 < length f → IsField f
field_of [] h some = absurd (omega arith)
field_of (b ∷ bs) h some = h

pub words_are_field : (words : List ℕ) → 0 < length words → IsField (words_field words)
words_are_field words some =
    field_of (words_field words) (encode_plain (bytes_of words) (are_bytes words))
    (omega (arith, some, bytes_length words, length-encode_with lower_digits (bytes_of words)))

-- words one after another

pub no_words : words_field [] ≡ []
no_words = encode_none

encode_more : (a b : List ℕ) → encode_lower (a ++ b) ≡ encode_lower a ++ encode_lower b
encode_more [] b = ap (λ (l : List ℕ). l ++ encode_lower b) (sym encode_none)
encode_more (x ∷ a) b =
    encode_step x (a ++ b)
    ∙ ap (λ (l : List ℕ). slice_index lower_digits (x / 16) ∷ slice_index lower_digits (x % 16) ∷ l) (encode_more a b)
    ∙ ap (λ (l : List ℕ). l ++ encode_lower b) (sym (encode_step x a))

bytes_more : (a b : List ℕ) → bytes_of (a ++ b) ≡ bytes_of a ++ bytes_of b
bytes_more a b = flat_map-append (to_le_bytes w64) a b

pub words_more : (words : List ℕ) (i : ℕ) → i < length words → words_field (take (i + 1) words) ≡ words_field (take i words) ++ encode_lower (to_le_bytes w64 (get_or words i 0))
words_more words i low =
    ap words_field (take_more words i 0 low)
    ∙ ap encode_lower (bytes_more (take i words) (get_or words i 0 ∷ []))
    ∙ encode_more (bytes_of (take i words)) (bytes_of (get_or words i 0 ∷ []))
    ∙ ap (λ (l : List ℕ). words_field (take i words) ++ encode_lower l) (append-nil (to_le_bytes w64 (get_or words i 0)))
