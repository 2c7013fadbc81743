-- Lines and fields that were written are read again.
use Rattle.std.proofs.Common.{◌≡◌, ℕ, zero, suc, ◌+◌, ◌<◌, ◌≤◌, Bool, true, false, List, [], ◌∷◌, ◌++◌, length, refl, sym, ap, ◌∙◌, subst, arith, append_assoc}
use Rattle.std.specs.Prelude.{⊤, if◌then◌else◌, ◌&&◌, ◌==◌, nat_le, map, flat_map, not, filter}
use Rattle.std.specs.List.{onto_first, list_all, enumerate_from}
use Rattle.std.proofs.lemmas.List.{append-nil}
use Rattle.std.proofs.lemmas.Bool.Decides.{nat_tests}
use Rattle.svsm_text.specs.Lines.{lines, fields, is_newline, is_space, begins_with_space}
use Rattle.image_grammar.specs.Kept.{is_skipped, kept_from, Line}
use Rattle.image_text.specs.Written.{Fields, spaced, fields_text, line_text}

-- each byte is past the space
abbrev pub IsPlain : List ℕ → Type 0
IsPlain [] = ⊤
IsPlain (b ∷ bs) = (nat_le 33 b ≡ true) × IsPlain bs

pub plain_append : (a b : List ℕ) → IsPlain a → IsPlain b → IsPlain (a ++ b)
plain_append [] b p q = q
plain_append (x ∷ a) b p q = (p.0, plain_append a b p.1 q)

-- a field is plain and not empty
abbrev pub IsField : List ℕ → Type 0
IsField [] = ⊥
IsField (b ∷ bs) = IsPlain (b ∷ bs)

abbrev pub AreFields : Fields → Type 0
AreFields [] = ⊤
AreFields (field ∷ fields) = IsField field × AreFields fields

pub fields_append : (a b : Fields) → AreFields a → AreFields b → AreFields (a ++ b)
fields_append [] b p q = q
fields_append (x ∷ a) b p q = (p.0, fields_append a b p.1 q)

no_newline : (b : ℕ) → nat_le 33 b ≡ true → is_newline b ≡ false
no_newline b h = grind (arith, nat_tests)

no_space : (b : ℕ) → nat_le 33 b ≡ true → is_space b ≡ false
no_space b h = grind (arith, nat_tests)

-- FIELDS

onto_fields : (b : ℕ) (bs : List ℕ) → is_space b ≡ false → fields (b ∷ bs) ≡ onto_first b (fields bs)
onto_fields b bs h = ap (λ (t : Bool). if t then (if begins_with_space bs then fields bs else [] ∷ fields bs) else onto_first b (fields bs)) h

only_field : (b : ℕ) (bs : List ℕ) → IsPlain (b ∷ bs) → fields (b ∷ bs) ≡ (b ∷ bs) ∷ []
only_field b [] h = onto_fields b [] (no_space b h.0)
only_field b (x ∷ bs) h = onto_fields b (x ∷ bs) (no_space b h.0) ∙ ap (onto_first b) (only_field x bs h.1)

first_field : (f : List ℕ) (b : ℕ) (bs : List ℕ) → IsPlain f → is_space b ≡ false → fields (f ++ 32 ∷ b ∷ bs) ≡ f ∷ fields (b ∷ bs)
first_field [] b bs h s = ap (λ (t : Bool). if t then fields (b ∷ bs) else [] ∷ fields (b ∷ bs)) s
first_field (x ∷ f) b bs h s = onto_fields x (f ++ 32 ∷ b ∷ bs) (no_space x h.0) ∙ ap (onto_first x) (first_field f b bs h.1 s)

-- the fields of a line that was written
pub fields_again : (field : List ℕ) (more : Fields) → IsField field → AreFields more → fields (fields_text (field ∷ more)) ≡ field ∷ more
fields_again [] more f h = absurd f
fields_again (b ∷ bs) [] f h = ap fields (append-nil (b ∷ bs)) ∙ only_field b bs f
fields_again (b ∷ bs) ([] ∷ more) f h = absurd h.0
fields_again (b ∷ bs) ((x ∷ xs) ∷ more) f h =
    first_field (b ∷ bs) x (xs ++ flat_map spaced more) f (no_space x h.0.0)
    ∙ ap (λ (l : Fields). (b ∷ bs) ∷ l) (fields_again (x ∷ xs) more h.0 h.1)

-- LINES

abbrev IsLine : List ℕ → Type 0
IsLine [] = ⊤
IsLine (b ∷ bs) = (is_newline b ≡ false) × IsLine bs

line_append : (a b : List ℕ) → IsLine a → IsLine b → IsLine (a ++ b)
line_append [] b p q = q
line_append (x ∷ a) b p q = (p.0, line_append a b p.1 q)

plain_line : (f : List ℕ) → IsPlain f → IsLine f
plain_line [] h = tt
plain_line (b ∷ bs) h = (no_newline b h.0, plain_line bs h.1)

field_plain : (f : List ℕ) → IsField f → IsPlain f
field_plain [] h = absurd h
field_plain (b ∷ bs) h = h

more_line : (fs : Fields) → AreFields fs → IsLine (flat_map spaced fs)
more_line [] h = tt
more_line (f ∷ fs) h = (refl, line_append f (flat_map spaced fs) (plain_line f (field_plain f h.0)) (more_line fs h.1))

joined_line : (fs : Fields) → AreFields fs → IsLine (fields_text fs)
joined_line [] h = tt
joined_line (f ∷ fs) h = line_append f (flat_map spaced fs) (plain_line f (field_plain f h.0)) (more_line fs h.1)

onto_lines : (b : ℕ) (bs : List ℕ) → is_newline b ≡ false → lines (b ∷ bs) ≡ onto_first b (lines bs)
onto_lines b bs h = ap (λ (t : Bool). if t then [] ∷ lines bs else onto_first b (lines bs)) h

line_again : (l rest : List ℕ) → IsLine l → lines (l ++ 10 ∷ rest) ≡ l ∷ lines rest
line_again [] rest h = refl
line_again (b ∷ bs) rest h = onto_lines b (bs ++ 10 ∷ rest) h.0 ∙ ap (onto_first b) (line_again bs rest h.1)

abbrev pub AreLines : List Fields → Type 0
AreLines [] = ⊤
AreLines (fs ∷ more) = AreFields fs × AreLines more

pub lines_append : (a b : List Fields) → AreLines a → AreLines b → AreLines (a ++ b)
lines_append [] b p q = q
lines_append (x ∷ a) b p q = (p.0, lines_append a b p.1 q)

pub lines_again : (all : List Fields) → AreLines all → lines (flat_map line_text all) ≡ map fields_text all
lines_again [] h = refl
lines_again (fs ∷ all) h =
    ap lines (append_assoc (fields_text fs) (10 ∷ []) (flat_map line_text all))
    ∙ line_again (fields_text fs) (flat_map line_text all) (joined_line fs h.0)
    ∙ ap (λ (l : List (List ℕ)). fields_text fs ∷ l) (lines_again all h.1)

-- KEPT LINES

-- a line's first field begins with a letter
abbrev pub Begins : Fields → Type 0
Begins [] = ⊥
Begins ([] ∷ fs) = ⊥
Begins ((b ∷ bs) ∷ fs) = (b == 35) ≡ false

abbrev pub AllBegin : List Fields → Type 0
AllBegin [] = ⊤
AllBegin (fs ∷ more) = Begins fs × AllBegin more

pub begin_append : (a b : List Fields) → AllBegin a → AllBegin b → AllBegin (a ++ b)
begin_append [] b p q = q
begin_append (x ∷ a) b p q = (p.0, begin_append a b p.1 q)

not_skipped : (fs : Fields) → Begins fs → is_skipped (fields_text fs) ≡ false
not_skipped [] h = absurd h
not_skipped ([] ∷ fs) h = absurd h
not_skipped ((b ∷ bs) ∷ fs) h = h

-- each line with its number
abbrev pub numbered : ℕ → List Fields → List Line
numbered first [] = []
numbered first (fs ∷ more) = (first, fields_text fs) ∷ numbered (first + 1) more

pub all_kept : (first : ℕ) (all : List Fields) → AllBegin all → kept_from first (map fields_text all) ≡ numbered first all
all_kept first [] h = refl
all_kept first (fs ∷ all) h =
    ap (λ (t : Bool). if not t then (first, fields_text fs) ∷ kept_from (first + 1) (map fields_text all) else kept_from (first + 1) (map fields_text all)) (not_skipped fs h.0)
    ∙ ap (λ (l : List Line). (first, fields_text fs) ∷ l) (all_kept (first + 1) all h.1)

-- the text, line by line
pub text_again : (all : List Fields) → AreLines all → AllBegin all → kept_from 1 (lines (flat_map line_text all)) ≡ numbered 1 all
text_again all h b = ap (kept_from 1) (lines_again all h) ∙ all_kept 1 all b
