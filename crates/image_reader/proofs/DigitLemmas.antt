-- Digits, bytes and words.
use Rattle.std.proofs.Common.{◌≡◌, ℕ, zero, suc, ◌+◌, ◌*◌, ◌/◌, ◌%◌, ◌<◌, ◌≤◌, Bool, true, false, ◌&&◌, ◌⊎◌, inl, inr, List, [], ◌∷◌, ◌++◌, length, take, drop, Result, Ok, Err, Option, Some, None, refl, sym, ap, subst, ◌∙◌, arith, append_assoc, length-drop}
use Rattle.std.specs.Prelude.{if◌then◌else◌, option_map, nat_lt, ◌==◌}
use Rattle.std.specs.Int.{w64, from_le_bytes}
use Rattle.std.proofs.lemmas.List.{append-nil, take-append-drop, length-take}
use Rattle.std.proofs.Math.Seq.{take-append_seam, drop-append_seam}
use Rattle.hex.specs.Hex.{hex_digit_value, decode_pairs, decode_of, pair_value, ◌>>=◌}
use Rattle.hex.specs.declared.error.FromHexError.{FromHexError}
use Rattle.hex.proofs.HexLemmas.{decode_of-even}
use Rattle.std.proofs.lemmas.Bool.Decides.{nat_tests}
use Rattle.image_grammar.specs.Forms.{words_in, words_in_bytes, whole_words}
use Rattle.image_reader.specs.Digits.{joined, byte_by, byte_in, bytes_in, word_in, words_told, AreWords}

-- WORDS BEFORE

-- what was read before stands in front
abbrev pub behind : List ℕ → Option (List ℕ) → Option (List ℕ)
behind front (Some rest) = Some (front ++ rest)
behind front None = None

pub behind_more : (front : List ℕ) (x : ℕ) (o : Option (List ℕ)) → behind front (joined (Some x) o) ≡ behind (front ++ x ∷ []) o
behind_more front x None = refl
behind_more front x (Some rest) = ap Some (sym (append_assoc front (x ∷ []) rest))

pub behind_nothing : (o : Option (List ℕ)) → o ≡ behind [] o
behind_nothing None = refl
behind_nothing (Some rest) = refl

-- ALL WORDS

-- one list behind another, where both are there
abbrev both : Option (List ℕ) → Option (List ℕ) → Option (List ℕ)
both (Some front) o = behind front o
both None o = None

joined_both : (o : Option ℕ) (p q : Option (List ℕ)) → joined o (both p q) ≡ both (joined o p) q
joined_both None p q = refl
joined_both (Some x) None q = refl
joined_both (Some x) (Some front) None = refl
joined_both (Some x) (Some front) (Some back) = refl

split : (k : ℕ) (front back : List ℕ) → length front ≡ 2 * k → bytes_in (front ++ back) ≡ both (bytes_in front) (bytes_in back)
unfolding bytes_in
split zero [] back is = behind_nothing (bytes_in back)
split zero (a ∷ front) back is = absurd (omega (arith, is))
split (suc k) [] back is = absurd (omega (arith, is))
split (suc k) (a ∷ []) back is = absurd (omega (arith, is))
split (suc k) (a ∷ b ∷ front) back is =
    ap (joined (byte_in a b)) (split k front back (omega (arith, is))) ∙ joined_both (byte_in a b) (bytes_in front) (bytes_in back)

half_by : (o : Option ℕ) (p : Option (List ℕ)) (bytes rest : List ℕ) → joined o p ≡ Some bytes → ((back : List ℕ) → p ≡ Some back → length rest ≡ 2 * length back) → 2 + length rest ≡ 2 * length bytes
half_by None p bytes rest is more = absurd cc
half_by (Some x) None bytes rest is more = absurd cc
half_by (Some x) (Some back) [] rest is more = absurd cc
half_by (Some x) (Some back) (byte ∷ bytes) rest is more =
    let same : back ≡ bytes = cc in
    omega (arith, more back refl, ap length same)

-- two digits a byte
pub half : (digits bytes : List ℕ) → bytes_in digits ≡ Some bytes → length digits ≡ 2 * length bytes
unfolding bytes_in
half [] [] is = refl
half [] (b ∷ bytes) is = absurd cc
half (digit ∷ []) bytes is = absurd cc
half (a ∷ b ∷ rest) bytes is = two (half_by (byte_in a b) (bytes_in rest) bytes rest is (λ back more. half rest back more))
  where
    two : 2 + length rest ≡ 2 * length bytes → length (a ∷ b ∷ rest) ≡ 2 * length bytes
    two same = omega (arith, same)

word_by : (n : ℕ) (p q : Option (List ℕ)) → ((front : List ℕ) → p ≡ Some front → length front ≡ 8)
    → joined (option_map (from_le_bytes w64) p) (option_map (words_in n) q) ≡ option_map (words_in (suc n)) (both p q)
unfolding words_in
word_by n None q long = refl
word_by n (Some front) None long = refl
word_by n (Some front) (Some back) long =
    let eight : length front ≡ 8 = long front refl in
    let first : take 8 (front ++ back) ≡ front = subst (λ (k : ℕ). take k (front ++ back) ≡ front) eight (take-append_seam front back) in
    let last : drop 8 (front ++ back) ≡ back = subst (λ (k : ℕ). drop k (front ++ back) ≡ back) eight (drop-append_seam front back) in
    sym (ap Some (ap (λ (l : List ℕ). from_le_bytes w64 l ∷ words_in n (drop 8 (front ++ back))) first ∙ ap (λ (l : List ℕ). from_le_bytes w64 front ∷ words_in n l) last))

told_words : (n : ℕ) (digits : List ℕ) → length digits ≡ 16 * n → words_told n digits ≡ option_map (words_in n) (bytes_in digits)
unfolding words_told bytes_in words_in
told_words zero [] is = refl
told_words zero (d ∷ digits) is = absurd (omega (arith, is))
told_words (suc n) digits is =
    let size : length (take 16 digits) ≡ 16 = omega (arith, is, length-take 16 digits) in
    let more : words_told n (drop 16 digits) ≡ option_map (words_in n) (bytes_in (drop 16 digits)) = told_words n (drop 16 digits) (omega (arith, is, length-drop 16 digits)) in
    let parts : bytes_in digits ≡ both (bytes_in (take 16 digits)) (bytes_in (drop 16 digits)) =
    ap bytes_in (sym (take-append-drop 16 digits)) ∙ split 8 (take 16 digits) (drop 16 digits) size in
    ap (joined (word_in (take 16 digits))) more
    ∙ word_by n (bytes_in (take 16 digits)) (bytes_in (drop 16 digits)) (λ front some. omega (arith, half (take 16 digits) front some, size))
    ∙ ap (option_map (words_in (suc n))) (sym parts)

-- WHAT `decode_of` SAYS

abbrev value_told : Result (List ℕ) FromHexError → Option (List ℕ)
value_told (Ok bytes) = Some bytes
value_told (Err e) = None

told_by : (i high low : ℕ) (a b : Option ℕ) (r : Result (List ℕ) FromHexError) (o : Option (List ℕ)) → hex_digit_value high ≡ a → hex_digit_value low ≡ b → value_told r ≡ o
    → value_told (pair_value high low i >>= (λ byte. r >>= (λ bytes. Ok (byte ∷ bytes)))) ≡ joined (byte_by a b) o
told_by i high low None b r o is_a is_b same = rw is_a refl
told_by i high low (Some x) None r o is_a is_b same = rw (is_a, is_b) refl
told_by i high low (Some x) (Some y) (Ok bytes) o is_a is_b same = rw (is_a, is_b) (ap (joined (Some (x * 16 + y))) same)
told_by i high low (Some x) (Some y) (Err e) o is_a is_b same = rw (is_a, is_b) (ap (joined (Some (x * 16 + y))) same)

pub pairs_told : (i : ℕ) (digits : List ℕ) → value_told (decode_pairs i digits) ≡ bytes_in digits
unfolding bytes_in decode_pairs
pairs_told i [] = refl
pairs_told i (digit ∷ []) = refl
pairs_told i (high ∷ low ∷ rest) =
    told_by i high low (hex_digit_value high) (hex_digit_value low) (decode_pairs (i + 2) rest) (bytes_in rest) refl refl (pairs_told (i + 2) rest)

told_bytes : (r : Result (List ℕ) FromHexError) (bytes : List ℕ) → value_told r ≡ Some bytes → r ≡ Ok bytes
told_bytes (Ok found) bytes is = cc
told_bytes (Err e) bytes is = absurd cc

whole_is : (bytes : List ℕ) (n : ℕ) → length bytes ≡ 8 * n → 0 < n → whole_words (Ok bytes) ≡ Some bytes
whole_is bytes n size some =
    let a : nat_lt 0 (length bytes) ≡ true = grind (arith, nat_tests, size) in
    let b : (length bytes % 8 == 0) ≡ true = grind (arith, nat_tests, size) in
    simp (a, b)

length_words : (n : ℕ) (bytes : List ℕ) → length (words_in n bytes) ≡ n
unfolding words_in
length_words zero bytes = refl
length_words (suc n) bytes = ap suc (length_words n (drop 8 bytes))

words_by : (o : Option (List ℕ)) (n : ℕ) (digits words : List ℕ) → bytes_in digits ≡ o → length digits ≡ 16 * n → 0 < n → option_map (words_in n) o ≡ Some words → AreWords digits words
unfolding words_in_bytes
words_by None n digits words is size some told = absurd cc
words_by (Some bytes) n digits words is size some told =
    let same : words_in n bytes ≡ words = cc in
    let eight : length bytes ≡ 8 * n = omega (arith, size, half digits bytes is) in
    let count : length bytes / 8 ≡ n = omega (arith, eight) in
    let read : decode_of digits ≡ Ok bytes = decode_of-even digits (omega (arith, size)) ∙ told_bytes (decode_pairs 0 digits) bytes (pairs_told 0 digits ∙ is) in
    record {
      bytes = bytes;
      decoded = ap whole_words read ∙ whole_is bytes n eight some;
      size = omega (arith, eight, length_words n bytes, ap length same);
      are = sym same ∙ ap (λ (k : ℕ). words_in k bytes) (sym count);
    }

-- the digits of some words
pub words_read : (n : ℕ) (digits words : List ℕ) → length digits ≡ 16 * n → 0 < n → Some words ≡ words_told n digits → AreWords digits words
words_read n digits words size some told = words_by (bytes_in digits) n digits words refl size some (sym (told ∙ told_words n digits size))

none_read : (r : Result (List ℕ) FromHexError) → value_told r ≡ None → whole_words r ≡ None
none_read (Ok bytes) is = absurd cc
none_read (Err e) is = refl

refused_by : (o : Option (List ℕ)) (n : ℕ) (digits : List ℕ) → bytes_in digits ≡ o → length digits ≡ 16 * n → option_map (words_in n) o ≡ None → whole_words (decode_of digits) ≡ None
refused_by (Some bytes) n digits is size told = absurd cc
refused_by None n digits is size told = ap whole_words (decode_of-even digits (omega (arith, size))) ∙ none_read (decode_pairs 0 digits) (pairs_told 0 digits ∙ is)

-- a byte that is no digit
pub words_refused : (n : ℕ) (digits : List ℕ) → length digits ≡ 16 * n → None ≡ words_told n digits → whole_words (decode_of digits) ≡ None
words_refused n digits size told = refused_by (bytes_in digits) n digits refl size (sym (told ∙ told_words n digits size))

short_by : (r : Result (List ℕ) FromHexError) → ((bytes : List ℕ) → r ≡ Ok bytes → (nat_lt 0 (length bytes) && length bytes % 8 == 0) ≡ false) → whole_words r ≡ None
short_by (Ok bytes) short = ap (λ (t : Bool). if t then Some bytes else None) (short bytes refl)
short_by (Err e) short = refl

not_whole : (k : ℕ) (bytes : List ℕ) → length bytes ≡ k → (k ≡ 0 ⊎ 0 < k % 8) → (nat_lt 0 (length bytes) && length bytes % 8 == 0) ≡ false
not_whole k bytes size (inl none) = grind (arith, nat_tests, size, none)
not_whole k bytes size (inr rest) = grind (arith, nat_tests, size, rest)

decoded_half : (digits bytes : List ℕ) → length digits % 2 ≡ 0 → decode_of digits ≡ Ok bytes → length digits ≡ 2 * length bytes
decoded_half digits bytes even is = half digits bytes (sym (pairs_told 0 digits) ∙ ap value_told (sym (decode_of-even digits even) ∙ is))

odd_read : (digits : List ℕ) → length digits % 2 ≡ 1 → whole_words (decode_of digits) ≡ None
odd_read digits odd =
    let t : (length digits % 2 == 1) ≡ true = grind (arith, nat_tests, odd) in
    simp t

-- digits that are no whole words
pub words_short : (digits : List ℕ) → (length digits ≡ 0 ⊎ 0 < length digits % 16) → whole_words (decode_of digits) ≡ None
words_short digits (inl none) =
    short_by (decode_of digits) (λ bytes is. not_whole (length bytes) bytes refl (inl (omega (arith, decoded_half digits bytes (omega (arith, none)) is, none))))
words_short digits (inr rest) = by (length digits % 2) refl
  where
    by : (k : ℕ) → length digits % 2 ≡ k → whole_words (decode_of digits) ≡ None
    by zero even =
        short_by (decode_of digits) (λ bytes is. not_whole (length bytes) bytes refl (inr (omega (arith, decoded_half digits bytes even is, rest))))
    by (suc zero) odd = odd_read digits odd
    by (suc (suc k)) is = absurd (omega (arith, is))

-- WORD BY WORD

word_parts : (digits : List ℕ) → 16 ≤ length digits → words_told (length digits / 16) digits ≡ joined (word_in (take 16 digits)) (words_told (length (drop 16 digits) / 16) (drop 16 digits))
unfolding words_told
word_parts digits long =
    let count : length digits / 16 ≡ suc (length (drop 16 digits) / 16) = omega (arith, length-drop 16 digits, long) in
    ap (λ (n : ℕ). words_told n digits) count

pub word_read : (before digits : List ℕ) (word : ℕ) → 16 ≤ length digits → word_in (take 16 digits) ≡ Some word
    → behind before (words_told (length digits / 16) digits) ≡ behind (before ++ word ∷ []) (words_told (length (drop 16 digits) / 16) (drop 16 digits))
word_read before digits word long is =
    let rest = words_told (length (drop 16 digits) / 16) (drop 16 digits) in
    ap (behind before) (word_parts digits long ∙ ap (λ (o : Option ℕ). joined o rest) is) ∙ behind_more before word rest

pub word_refused : (before digits : List ℕ) → 16 ≤ length digits → word_in (take 16 digits) ≡ None → behind before (words_told (length digits / 16) digits) ≡ None
word_refused before digits long is =
    ap (behind before) (word_parts digits long ∙ ap (λ (o : Option ℕ). joined o (words_told (length (drop 16 digits) / 16) (drop 16 digits))) is)

pub last_word : (before digits : List ℕ) → length digits < 16 → Some before ≡ behind before (words_told (length digits / 16) digits)
unfolding words_told
last_word before digits short =
    let none : length digits / 16 ≡ 0 = omega (arith, short) in
    sym (ap (λ (n : ℕ). behind before (words_told n digits)) none ∙ ap Some (append-nil before))
