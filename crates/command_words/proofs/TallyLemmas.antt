-- The words of a run, met one after another.
use Rattle.std.proofs.Common.{◌≡◌, ℕ, ◌+◌, Bool, true, false, not, cond, List, [], ◌∷◌, ◌++◌, refl, sym, ◌∙◌, ap, subst, length, arith, ◌<◌, get_or, map, drop, drop-cons, add-one, ◌||◌, ◌&&◌, codes}
use Rattle.std.specs.Prelude.{bytes_eq, is_some, nat_le, Option, Some}
use Rattle.command_words.specs.Words.{Text, is_flag, is_end, flags, others, brief_in, run_of, save_of}
use Rattle.command_words.specs.Scan.{are_plain}
use Rattle.command_words.proofs.RowLemmas.{same_text}

-- the next word and what follows it
pub next_word : {X : Type 0} (f : X → Text) (xs : List X) (i : ℕ) (d : X) (word : Text) → i < length xs → d ≡ get_or xs i d → word ≡ f d → map f (drop i xs) ≡ word ∷ map f (drop (i + 1) xs)
next_word f xs i d word within is text =
    let split : drop i xs ≡ get_or xs i d ∷ drop (i + 1) xs = rw add-one (drop-cons xs i d within) in
    ap (map f) split ∙ ap (λ (t : Text). t ∷ map f (drop (i + 1) xs)) (ap f (sym is) ∙ sym text)

abbrev pub one_brief : List Text
one_brief = codes "--brief" ∷ []

-- what was met of all words, and what is left
pub record Tally (all rest : List Text) (ended brief : Bool) (names : ℕ) : Type 0 where
  pub flags_are : flags all ≡ cond brief one_brief [] ++ cond ended [] (flags rest)
  pub names_are : length (others all) ≡ names + cond ended (length rest) (length (others rest))

pub no_end : (word : Text) → is_flag word ≡ false → is_end word ≡ false
no_end [] is = refl
no_end (x ∷ xs) is = simp is

pub end_flag : (word : Text) → is_end word ≡ true → is_flag word ≡ true
end_flag word is = ap is_flag (same_text word (codes "--") is)

pub flags_by : (e f : Bool) (word : Text) (rest : List Text) → is_end word ≡ e → is_flag word ≡ f → flags (word ∷ rest) ≡ cond e [] (cond f (word ∷ flags rest) (flags rest))
flags_by true f word rest end flag = simp end
flags_by false true word rest end flag = simp (end, flag)
flags_by false false word rest end flag = simp (end, flag)

pub others_by : (e f : Bool) (word : Text) (rest : List Text) → is_end word ≡ e → is_flag word ≡ f → others (word ∷ rest) ≡ cond e rest (cond f (others rest) (word ∷ others rest))
others_by true f word rest end flag = simp end
others_by false true word rest end flag = simp (end, flag)
others_by false false word rest end flag = simp (end, flag)

pub not_true : (b : Bool) → not b ≡ true → b ≡ false
not_true true is = cc
not_true false is = refl

pub not_false : (b : Bool) → not b ≡ false → b ≡ true
not_false true is = refl
not_false false is = cc

-- a name
pub name_met : (all rest : List Text) (word : Text) (ended brief : Bool) (names : ℕ) → Tally all (word ∷ rest) ended brief names
    → (ended || not (is_flag word)) ≡ true → Tally all rest ended brief (names + 1)
name_met all rest word true brief names t is = record { flags_are = t.flags_are; names_are = omega (arith, t.names_are) }
name_met all rest word false brief names t is =
    let plain : is_flag word ≡ false = not_true (is_flag word) is in
    record {
      flags_are = t.flags_are ∙ ap (λ (fs : List Text). cond brief one_brief [] ++ fs) (flags_by false false word rest (no_end word plain) plain);
      names_are = omega (arith, t.names_are, ap length (others_by false false word rest (no_end word plain) plain));
    }

-- the end of the flags
pub end_met : (all rest : List Text) (word : Text) (ended brief : Bool) (names : ℕ) → Tally all (word ∷ rest) ended brief names
    → (ended || not (is_flag word)) ≡ false → is_end word ≡ true → Tally all rest true brief names
end_met all rest word true brief names t is end = absurd cc
end_met all rest word false brief names t is end = record {
  flags_are = t.flags_are ∙ ap (λ (fs : List Text). cond brief one_brief [] ++ fs) (flags_by true true word rest end (end_flag word end));
  names_are = omega (arith, t.names_are, ap length (others_by true true word rest end (end_flag word end)));
}

-- the flag
pub brief_met : (all rest : List Text) (word : Text) (ended brief : Bool) (names : ℕ) → Tally all (word ∷ rest) ended brief names
    → (ended || not (is_flag word)) ≡ false → is_end word ≡ false → (not brief && bytes_eq word (codes "--brief")) ≡ true → Tally all rest ended true names
brief_met all rest word true brief names t is end flag = absurd cc
brief_met all rest word false true names t is end flag = absurd cc
brief_met all rest word false false names t is end flag =
    let dash : is_flag word ≡ true = not_false (is_flag word) is in
    record {
      flags_are = t.flags_are ∙ flags_by false true word rest end dash ∙ ap (λ (w : Text). w ∷ flags rest) (same_text word (codes "--brief") flag);
      names_are = t.names_are ∙ ap (λ (os : List Text). names + length os) (others_by false true word rest end dash);
    }

two_flags : (first second : Text) (more : List Text) (os : List Text) → is_some (run_of (brief_in (first ∷ second ∷ more)) os) ≡ false
two_flags first second more os = refl

other_flag : (word : Text) (more : List Text) (os : List Text) → bytes_eq word (codes "--brief") ≡ false → is_some (run_of (brief_in (word ∷ more)) os) ≡ false
other_flag word [] os is = simp is
other_flag word (second ∷ more) os is = refl

-- another flag
pub other_met : (all rest : List Text) (word : Text) (ended brief : Bool) (names : ℕ) → Tally all (word ∷ rest) ended brief names
    → (ended || not (is_flag word)) ≡ false → is_end word ≡ false → (not brief && bytes_eq word (codes "--brief")) ≡ false
    → is_some (run_of (brief_in (flags all)) (others all)) ≡ false
other_met all rest word true brief names t is end flag = absurd cc
other_met all rest word false true names t is end flag =
    let met : flags all ≡ codes "--brief" ∷ word ∷ flags rest = t.flags_are ∙ ap (λ (fs : List Text). codes "--brief" ∷ fs) (flags_by false true word rest end (not_false (is_flag word) is)) in
    ap (λ (fs : List Text). is_some (run_of (brief_in fs) (others all))) met
other_met all rest word false false names t is end flag =
    let met : flags all ≡ word ∷ flags rest = t.flags_are ∙ flags_by false true word rest end (not_false (is_flag word) is) in
    ap (λ (fs : List Text). is_some (run_of (brief_in fs) (others all))) met ∙ other_flag word (flags rest) (others all) flag

within : (brief : Bool) (os : List Text) → is_some (run_of (Some brief) os) ≡ (nat_le 2 (length os) && nat_le (length os) 65)
within brief [] = refl
within brief (image ∷ []) = refl
within brief (image ∷ script ∷ scripts) = by (nat_le (length scripts) 63) refl
  where
    by : (b : Bool) → nat_le (length scripts) 63 ≡ b → is_some (run_of (Some brief) (image ∷ script ∷ scripts)) ≡ (nat_le 2 (length (image ∷ script ∷ scripts)) && nat_le (length (image ∷ script ∷ scripts)) 65)
    by true is = simp is (grind (arith, is))
    by false is = simp is (grind (arith, is))

-- all words were met
pub all_met : (all : List Text) (ended brief : Bool) (names : ℕ) → Tally all [] ended brief names
    → (nat_le 2 names && nat_le names 65) ≡ is_some (run_of (brief_in (flags all)) (others all))
all_met all ended brief names t =
    let flags_are : brief_in (flags all) ≡ Some brief = by_flags ended brief (flags all) t.flags_are in
    let count : length (others all) ≡ names = by_names ended t.names_are in
    sym (ap (λ (b : Option Bool). is_some (run_of b (others all))) flags_are ∙ within brief (others all) ∙ ap (λ (n : ℕ). nat_le 2 n && nat_le n 65) count)
  where
    by_flags : (e b : Bool) (fs : List Text) → fs ≡ cond b one_brief [] ++ cond e [] [] → brief_in fs ≡ Some b
    by_flags true true fs is = ap brief_in is
    by_flags true false fs is = ap brief_in is
    by_flags false true fs is = ap brief_in is
    by_flags false false fs is = ap brief_in is

    by_names : (e : Bool) → length (others all) ≡ names + cond e 0 0 → length (others all) ≡ names
    by_names true is = omega (arith, is)
    by_names false is = omega (arith, is)

pub tally_at : {all rest : List Text} {e e' b b' : Bool} {n n' : ℕ} → e' ≡ e → b' ≡ b → n' ≡ n → Tally all rest e b n → Tally all rest e' b' n'
tally_at {all} {rest} {e} {e'} {b} {b'} {n} {n'} es bs ns t =
    subst (λ (x : Bool). Tally all rest x b' n') (sym es) (subst (λ (x : Bool). Tally all rest e x n') (sym bs) (subst (λ (x : ℕ). Tally all rest e b x) (sym ns) t))

-- WORDS OF A COMMAND WITHOUT FLAGS

-- a flag
pub flag_met : (least most : ℕ) (all rest : List Text) (word : Text) (ended : Bool) (names : ℕ) → Tally all (word ∷ rest) ended false names
    → (ended || not (is_flag word)) ≡ false → is_end word ≡ false → are_plain least most (flags all) (others all) ≡ false
flag_met least most all rest word true names t is end = absurd cc
flag_met least most all rest word false names t is end =
    let met : flags all ≡ word ∷ flags rest = t.flags_are ∙ flags_by false true word rest end (not_false (is_flag word) is) in
    ap (λ (fs : List Text). are_plain least most fs (others all)) met

-- all words were met
pub plain_met : (least most : ℕ) (all : List Text) (ended : Bool) (names : ℕ) → Tally all [] ended false names
    → (nat_le least names && nat_le names most) ≡ are_plain least most (flags all) (others all)
plain_met least most all ended names t =
    sym (ap (λ (fs : List Text). are_plain least most fs (others all)) (no_flag ended (flags all) t.flags_are) ∙ ap (λ (n : ℕ). nat_le least n && nat_le n most) (by_names ended t.names_are))
  where
    no_flag : (e : Bool) (fs : List Text) → fs ≡ cond e [] [] → fs ≡ []
    no_flag true fs is = is
    no_flag false fs is = is

    by_names : (e : Bool) → length (others all) ≡ names + cond e 0 0 → length (others all) ≡ names
    by_names true is = omega (arith, is)
    by_names false is = omega (arith, is)

-- a save has two names or more
pub save_within : (fs os : List Text) → are_plain 2 65 fs os ≡ is_some (save_of fs os)
save_within (flag ∷ fs) os = refl
save_within [] [] = refl
save_within [] (image ∷ []) = refl
save_within [] (image ∷ script ∷ scripts) = by (nat_le (length scripts) 63) refl
  where
    by : (b : Bool) → nat_le (length scripts) 63 ≡ b → are_plain 2 65 [] (image ∷ script ∷ scripts) ≡ is_some (save_of [] (image ∷ script ∷ scripts))
    by true is = simp is (grind (arith, is))
    by false is = simp is (grind (arith, is))
