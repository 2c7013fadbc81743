-- Words of a command without flags are taken, and which values come back.
use Rattle.std.proofs.Common.{◌≡◌, inl, inr, Bool, true, false, List, [], ◌∷◌, refl, sym, ◌∙◌, ap, subst, codes, arith, map}
use Rattle.std.specs.Prelude.{Option, Some, None, bytes_eq, nat_le, if◌then◌else◌, length, option_map, IsSome}
use Rattle.std.specs.Option.{option_map_or}
use Rattle.clap.specs.Facts.{explicit_source}
use Rattle.clap.specs.Walk.{Row, Text, Held, Walk, settled, walked, walk, walk_from, nothing_held, with_default, finished, has_row, all_of}
use Rattle.clap.specs.Simple.{filled, help_rule, built, entered, subcommand_of, HasMatchesOf, subcommand_rows_of}
use Rattle.clap.specs.declared.parser.matches.ArgMatches.{ArgMatches}
use Rattle.clap.specs.Takes.{takes, level_passes, settle_passes, turn_passes, is_valid, is_given, entered_passes}
use Rattle.clap.proofs.OnLiterals.{clap_on_literals}
use Rattle.command_words.specs.App.{words_app}
use Rattle.command_words.specs.Words.{flags, others, command_by, gen_of, gen_in, save_of, save_in, audit_of, audit_in, IsPlain, IsOfForm, plain_words}
use Rattle.command_words.proofs.RowLemmas.{row_at, same_text}
use Rattle.command_words.proofs.StepLemmas.{both_hold}
use Rattle.command_words.proofs.AboveLaw.{top_rules, names_above, met, stop, taken, simple}
use Rattle.command_words.proofs.TakesLaw.{admitted_some}
use Rattle.command_words.proofs.PlainSteps.{plain_leaf, plain_rules, plain_at, words_row, PlainStands, PlainEnds, words_met}

-- AFTER THE WALK

either_way : (t : Bool) (rows : List Row) → (if t then rows else rows) ≡ rows
either_way true rows = refl
either_way false rows = refl

end_rows : (h : Held) → finished plain_rules h ≡ (settled plain_rules h).rows
end_rows h =
    let rows = (settled plain_rules h).rows in
    ap (λ (r : List Row). with_default r (filled help_rule)) (either_way (has_row (codes "words") rows) rows) ∙ either_way (has_row (codes "help") rows) rows

words_given : (h : Held) (words : List Text) → PlainStands words h → row_at (codes "words") (finished plain_rules h) ≡ words_row words
words_given h words s = ap (row_at (codes "words")) (end_rows h) ∙ s.words

given : (rows : List Row) (r : Row) → row_at (codes "words") rows ≡ Some r → explicit_source r.source ≡ true → is_given (codes "words") rows ≡ true
given rows r is from = ap (λ (o : Option Row). option_map_or (λ (x : Row). explicit_source x.source) o false) is ∙ from

all_given : (name : Text) (rows : List Row) → is_given (codes "words") rows ≡ true → is_valid (plain_leaf name) rows false ≡ true
all_given name rows one = simp one

valid : (name : Text) (h : Held) (first : Text) (rest : List Text) → PlainStands (first ∷ rest) h → is_valid (plain_leaf name) (finished plain_rules h) false ≡ true
valid name h first rest s = all_given name (finished plain_rules h) (given (finished plain_rules h) _ (words_given h (first ∷ rest) s) refl)

begins : PlainStands [] nothing_held
begins = record { settles = refl; words = refl }

level : (name first : Text) (rest words : List Text) → PlainEnds name (first ∷ rest) (plain_at nothing_held false false) words → level_passes (plain_leaf name) [] nothing_held words false ≡ true
level name first rest words e =
    let end : (walk plain_rules [] nothing_held words).held ≡ e.held = ap (λ (w : Walk). w.held) e.is in
    both_hold _ _ e.passes
    (both_hold _ _ (ap (settle_passes plain_rules false) end ∙ e.stands.settles)
    (ap (λ (h : Held). is_valid (plain_leaf name) (finished plain_rules h) false) end ∙ valid name e.held first rest e.stands))

-- THE COMMANDS

-- a command without flags: its name is met, and the words behind it are its own
pub record IsCommand (name : Text) : Type 0 where
  pub walks : walked top_rules names_above (walk_from nothing_held) name ≡ met name []
  pub turns : turn_passes (built words_app).top names_above (walk_from nothing_held) name ≡ true
  pub enters : (words : List Text) → entered_passes (built words_app) (Some (name, words)) ≡ level_passes (plain_leaf name) [] nothing_held words false
  pub rows : (words : List Text) → entered (built words_app) (Some (name, words)) ≡ Some (name, finished plain_rules (walk plain_rules [] nothing_held words).held)

gen_command : IsCommand (codes "gen")
unfolding clap_on_literals
gen_command = record { walks = refl; turns = refl; enters = λ words. refl; rows = λ words. refl }

save_command : IsCommand (codes "save")
unfolding clap_on_literals
save_command = record { walks = refl; turns = refl; enters = λ words. refl; rows = λ words. refl }

audit_command : IsCommand (codes "audit")
unfolding clap_on_literals
audit_command = record { walks = refl; turns = refl; enters = λ words. refl; rows = λ words. refl }

-- WORDS THAT ARE ADMITTED

-- there is no flag, and there are words
pub record PlainParts (fs os : List Text) : Type 0 where
  pub first : Text
  pub rest : List Text
  pub flags : fs ≡ []
  pub others : os ≡ first ∷ rest

-- a form without flags
abbrev IsPlainForm : {A : Type 0} → (List Text → List Text → Option A) → Type 0
IsPlainForm form = (fs os : List Text) → IsSome (form fs os) → PlainParts fs os

gen_form : IsPlainForm gen_of
gen_form [] [] is = absurd cc
gen_form [] (first ∷ rest) is = record { first = first; rest = rest; flags = refl; others = refl }
gen_form (flag ∷ fs) os is = absurd cc

save_form : IsPlainForm save_of
save_form [] [] is = absurd cc
save_form [] (first ∷ rest) is = record { first = first; rest = rest; flags = refl; others = refl }
save_form (flag ∷ fs) os is = absurd cc

audit_form : IsPlainForm audit_of
audit_form [] [] is = absurd cc
audit_form [] (first ∷ rest) is = record { first = first; rest = rest; flags = refl; others = refl }
audit_form (flag ∷ fs) os is = absurd cc

-- what is known of the words behind a name
pub record PlainWords (name : Text) (words : List Text) : Type 0 where
  pub tail : List Text
  pub is : words ≡ name ∷ tail
  pub parts : PlainParts (flags tail) (others tail)

behind_by : {A : Type 0} (name : Text) (form : List Text → List Text → Option A) (t : Bool) (word : Text) (words : List Text) → IsPlainForm form → bytes_eq word name ≡ t
    → IsSome (if t then form (flags words) (others words) else None) → PlainWords name (word ∷ words)
behind_by name form true word words plain is some =
    record { tail = words; is = ap (λ (w : Text). w ∷ words) (same_text word name is); parts = plain (flags words) (others words) some }
behind_by name form false word words plain is some = absurd cc

behind : {A : Type 0} (name : Text) (form : List Text → List Text → Option A) (words : List Text) → IsPlainForm form → IsSome (command_by name form words) → PlainWords name words
behind name form [] plain some = absurd cc
behind name form (word ∷ words) plain some = behind_by name form (bytes_eq word name) word words plain refl some

ends : (name : Text) (words : List Text) (p : PlainParts (flags words) (others words)) → PlainEnds name (p.first ∷ p.rest) (plain_at nothing_held false false) words
ends name words p =
    subst (λ (ws : List Text). PlainEnds name ws (plain_at nothing_held false false) words) p.others (words_met name words [] nothing_held false p.flags begins)

plain_taken : (name : Text) (words : List Text) → IsCommand name → PlainWords name words → takes words_app words ≡ true
plain_taken name words command p =
    ap (takes words_app) p.is
    ∙ taken name p.tail command.walks command.turns (command.enters p.tail ∙ level name p.parts.first p.parts.rest p.tail (ends name p.tail p.parts))

-- the values that come back
pub record PlainFound (all : List Text) : Type 0 where
  pub name : Text
  pub rows : List Row
  pub is : subcommand_of words_app all ≡ Some (name, rows)
  pub words : all_of (codes "words") rows ≡ Some (plain_words all)

all_words : (rows : List Row) (first : Text) (rest : List Text) → row_at (codes "words") rows ≡ words_row (first ∷ rest) → all_of (codes "words") rows ≡ Some (first ∷ rest)
all_words rows first rest is = ap (λ (o : Option Row). option_map (λ (r : Row). r.values) o) is

plain_found : (name : Text) (words : List Text) → IsCommand name → PlainWords name words → PlainFound words
plain_found name words command p =
    let e : PlainEnds name (p.parts.first ∷ p.parts.rest) (plain_at nothing_held false false) p.tail = ends name p.tail p.parts in
    let end : (walk plain_rules [] nothing_held p.tail).held ≡ e.held = ap (λ (w : Walk). w.held) e.is in
    record {
      name = name;
      rows = finished plain_rules e.held;
      is = ap (subcommand_of words_app) p.is ∙ ap (λ (w : Walk). entered (built words_app) w.stopped) (stop name p.tail command.walks)
          ∙ command.rows p.tail ∙ ap (λ (h : Held). Some (name, finished plain_rules h)) end;
      words = all_words (finished plain_rules e.held) p.parts.first p.parts.rest (words_given e.held (p.parts.first ∷ p.parts.rest) e.stands)
          ∙ ap Some (sym p.parts.others) ∙ ap (λ (ws : List Text). Some (plain_words ws)) (sym p.is);
    }

plain_some : (words : List Text) → IsPlain words → takes words_app words ≡ true
plain_some words (inl gen) = plain_taken (codes "gen") words gen_command (behind (codes "gen") gen_of words gen_form gen)
plain_some words (inr (inl save)) = plain_taken (codes "save") words save_command (behind (codes "save") save_of words save_form save)
plain_some words (inr (inr audit)) = plain_taken (codes "audit") words audit_command (behind (codes "audit") audit_of words audit_form audit)

found_words : (words : List Text) → IsPlain words → PlainFound words
found_words words (inl gen) = plain_found (codes "gen") words gen_command (behind (codes "gen") gen_of words gen_form gen)
found_words words (inr (inl save)) = plain_found (codes "save") words save_command (behind (codes "save") save_of words save_form save)
found_words words (inr (inr audit)) = plain_found (codes "audit") words audit_command (behind (codes "audit") audit_of words audit_form audit)

-- what a parse of these words gives
pub plain_matches : (words : List Text) (m : ArgMatches) → IsPlain words → HasMatchesOf words_app words m
    → (rows : List Row) × (name : Text) × (subcommand_rows_of m ≡ Some (name, rows)) × (all_of (codes "words") rows ≡ Some (plain_words words))
plain_matches words m plain has =
    let f = found_words words plain in
    (f.rows, f.name, (has simple).1 ∙ f.is, f.words)

-- words of a form are taken
pub all_taken : (words : List Text) → IsOfForm words → takes words_app words ≡ true
all_taken words (inl run) = admitted_some words run
all_taken words (inr plain) = plain_some words plain

-- WHAT IS ASKED FOR

form_at : {A : Type 0} (name : Text) (form : List Text → List Text → Option A) (words : List Text) → PlainWords name words → (bytes_eq name name ≡ true) → command_by name form words ≡ form [] (plain_words words)
form_at name form words p same =
    ap (command_by name form) p.is ∙ ap (λ (t : Bool). if t then form (flags p.tail) (others p.tail) else None) same
    ∙ ap (λ (fs : List Text). form fs (others p.tail)) p.parts.flags ∙ ap (λ (ws : List Text). form [] (plain_words ws)) (sym p.is)

pub gen_by : (words : List Text) → IsSome (gen_in words) → gen_in words ≡ gen_of [] (plain_words words)
gen_by words some = form_at (codes "gen") gen_of words (behind (codes "gen") gen_of words gen_form some) refl

pub save_by : (words : List Text) → IsSome (save_in words) → save_in words ≡ save_of [] (plain_words words)
save_by words some = form_at (codes "save") save_of words (behind (codes "save") save_of words save_form some) refl

pub audit_by : (words : List Text) → IsSome (audit_in words) → audit_in words ≡ audit_of [] (plain_words words)
audit_by words some = form_at (codes "audit") audit_of words (behind (codes "audit") audit_of words audit_form some) refl

-- a form that is met asks for something
pub not_none : {A : Type 0} (o : Option A) → o ≡ None → IsSome o → ⊥
not_none None is some = absurd cc
not_none (Some x) is some = absurd cc

save_by_count : (t : Bool) (image script : Text) (scripts : List Text) → nat_le (length scripts) 63 ≡ t → IsSome (save_of [] (image ∷ script ∷ scripts))
    → save_of [] (image ∷ script ∷ scripts) ≡ Some (record { image = image; scripts = script ∷ scripts })
save_by_count true image script scripts is some = ap (λ (t : Bool). if t then Some (record { image = image; scripts = script ∷ scripts }) else None) is
save_by_count false image script scripts is some =
    absurd (not_none (save_of [] (image ∷ script ∷ scripts)) (ap (λ (t : Bool). if t then Some (record { image = image; scripts = script ∷ scripts }) else None) is) some)

save_value : (image : Text) (names : List Text) → IsSome (save_of [] (image ∷ names)) → save_of [] (image ∷ names) ≡ Some (record { image = image; scripts = names })
save_value image [] some = absurd cc
save_value image (script ∷ scripts) some = save_by_count (nat_le (length scripts) 63) image script scripts refl some

-- the run to be saved of these words
pub save_is : (words : List Text) (image : Text) (names : List Text) → IsSome (save_in words) → plain_words words ≡ image ∷ names
    → save_in words ≡ Some (record { image = image; scripts = names })
save_is words image names some is =
    let form : save_in words ≡ save_of [] (image ∷ names) = save_by words some ∙ ap (save_of []) is in
    form ∙ save_value image names (subst IsSome form some)

audit_by_count : (t : Bool) (image report script : Text) (scripts : List Text) → nat_le (length scripts) 63 ≡ t
    → IsSome (audit_of [] (image ∷ report ∷ script ∷ scripts))
    → audit_of [] (image ∷ report ∷ script ∷ scripts) ≡ Some (record { image = image; report = report; scripts = script ∷ scripts })
audit_by_count true image report script scripts is some =
    ap (λ (t : Bool). if t then Some (record { image = image; report = report; scripts = script ∷ scripts }) else None) is
audit_by_count false image report script scripts is some =
    absurd (not_none (audit_of [] (image ∷ report ∷ script ∷ scripts))
    (ap (λ (t : Bool). if t then Some (record { image = image; report = report; scripts = script ∷ scripts }) else None) is) some)

audit_value : (image report : Text) (names : List Text) → IsSome (audit_of [] (image ∷ report ∷ names))
    → audit_of [] (image ∷ report ∷ names) ≡ Some (record { image = image; report = report; scripts = names })
audit_value image report [] some = absurd cc
audit_value image report (script ∷ scripts) some = audit_by_count (nat_le (length scripts) 63) image report script scripts refl some

-- the audit of these words
pub audit_is : (words : List Text) (image report : Text) (names : List Text) → IsSome (audit_in words) → plain_words words ≡ image ∷ report ∷ names
    → audit_in words ≡ Some (record { image = image; report = report; scripts = names })
audit_is words image report names some is =
    let form : audit_in words ≡ audit_of [] (image ∷ report ∷ names) = audit_by words some ∙ ap (audit_of []) is in
    form ∙ audit_value image report names (subst IsSome form some)

pub none_given : {A : Type 0} (now : A → Text) (items : List A) → length items ≡ 0 → map now items ≡ []
none_given now [] none = refl
none_given now (x ∷ xs) none = absurd (omega (arith, none))

pub one_given : {A : Type 0} (now : A → Text) (items : List A) (first : A) (rest : List A) → items ≡ first ∷ rest → length rest ≡ 0 → map now items ≡ now first ∷ []
one_given now items first rest is none = ap (map now) is ∙ ap (λ (ws : List Text). now first ∷ ws) (none_given now rest none)
