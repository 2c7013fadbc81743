-- The words of a command line, without the program's name.
use Rattle.std.specs.Prelude.{ℕ, ◌+◌, ◌*◌, ◌-◌, ◌^◌, List, [], ◌∷◌, Bool, true, false, ◌==◌, nat_le, ◌&&◌, if◌then◌else◌, length, Option, Some, None, IsSome, ◌⊎◌, bytes_eq, codes, fold}
use Rattle.std.specs.List.{list_all}
use Rattle.command_words.specs.declared.asked.GenWords.{GenWords}

-- the bytes of a word of the command line
abbrev pub Text : Type 0
Text = List ℕ

-- whether a word begins with `-`
abbrev pub is_flag : Text → Bool
is_flag [] = false
is_flag (first ∷ rest) = first == 45

-- `--` ends the flags
abbrev pub is_end : Text → Bool
is_end word = bytes_eq word (codes "--")

-- the flags: words before the first `--` that begin with `-`
abbrev pub flags : List Text → List Text
flags [] = []
flags (word ∷ words) = if is_end word then [] else if is_flag word then word ∷ flags words else flags words

-- the other words, without the first `--`
abbrev pub others : List Text → List Text
others [] = []
others (word ∷ words) = if is_end word then words else if is_flag word then others words else word ∷ others words

-- what is asked for by a command of this name, by the form of its flags and its other words
abbrev pub command_by : {A : Type 0} → Text → (List Text → List Text → Option A) → List Text → Option A
command_by name form [] = None
command_by name form (word ∷ words) = if bytes_eq word name then form (flags words) (others words) else None

-- A RUN

-- a run: whether the report is brief, the name of the image, and the names of the scripts
pub record Run : Type 0 where
  pub brief : Bool
  pub image : Text
  pub scripts : List Text

-- at most the one flag `--brief`, once
abbrev pub brief_in : List Text → Option Bool
brief_in [] = Some false
brief_in (flag ∷ []) = if bytes_eq flag (codes "--brief") then Some true else None
brief_in _ = None

-- an image and 1 to 64 scripts
abbrev pub run_of : Option Bool → List Text → Option Run
run_of (Some brief) (image ∷ (script ∷ scripts)) =
    if nat_le (length scripts) 63 then Some (record { brief = brief; image = image; scripts = script ∷ scripts }) else None
run_of _ _ = None

-- the words of `run`
abbrev pub run_in : List Text → Option Run
run_in = command_by (codes "run") (λ flags others. run_of (brief_in flags) others)

-- GENERATED SCRIPTS

-- whether a byte is a digit, 0 to 9
abbrev pub is_digit : ℕ → Bool
is_digit byte = nat_le 48 byte && nat_le byte 57

-- the value of a run of digits, of which there is at least one; leading zeros are allowed
abbrev pub value_of : Text → Option ℕ
value_of [] = None
value_of (first ∷ rest) =
    if list_all is_digit (first ∷ rest) then Some (fold (λ value digit. 10 * value + (digit - 48)) 0 (first ∷ rest)) else None

-- a value between these two, both of them allowed
abbrev pub between : ℕ → ℕ → Option ℕ → Option ℕ
between least most None = None
between least most (Some value) = if nat_le least value && nat_le value most then Some value else None

-- all three numbers, where they are there
abbrev pub gen_with : Option ℕ → Option ℕ → Option ℕ → Option GenWords
gen_with (Some cores) (Some requests) (Some number) = Some (record { cores = cores; requests = requests; number = number })
gen_with _ _ _ = None

-- no flag, and three numbers: 1 to 16 cores, 1 to 128 requests for each, and any number of 64 bits
abbrev pub gen_of : List Text → List Text → Option GenWords
gen_of [] (cores ∷ (requests ∷ (number ∷ []))) =
    gen_with (between 1 16 (value_of cores)) (between 1 128 (value_of requests)) (between 0 (2 ^ 64 - 1) (value_of number))
gen_of _ _ = None

-- the words of `gen`
abbrev pub gen_in : List Text → Option GenWords
gen_in = command_by (codes "gen") gen_of

-- A SAVED MACHINE

-- the names of the image and the scripts of the run that is saved
pub record Save : Type 0 where
  pub image : Text
  pub scripts : List Text

-- no flag, an image and 1 to 64 scripts
abbrev pub save_of : List Text → List Text → Option Save
save_of [] (image ∷ (script ∷ scripts)) = if nat_le (length scripts) 63 then Some (record { image = image; scripts = script ∷ scripts }) else None
save_of _ _ = None

-- the words of `save`
abbrev pub save_in : List Text → Option Save
save_in = command_by (codes "save") save_of

-- AN AUDIT

-- the names of an image, of a report, and of the scripts of its run
pub record Audit : Type 0 where
  pub image : Text
  pub report : Text
  pub scripts : List Text

-- no flag, an image, a report and 1 to 64 scripts
abbrev pub audit_of : List Text → List Text → Option Audit
audit_of [] (image ∷ (report ∷ (script ∷ scripts))) =
    if nat_le (length scripts) 63 then Some (record { image = image; report = report; scripts = script ∷ scripts }) else None
audit_of _ _ = None

-- the words of `audit`
abbrev pub audit_in : List Text → Option Audit
audit_in = command_by (codes "audit") audit_of

-- WORDS OF A FORM

-- words of a command without flags
abbrev pub IsPlain : List Text → Type 0
IsPlain words = IsSome (gen_in words) ⊎ (IsSome (save_in words) ⊎ IsSome (audit_in words))

abbrev pub IsOfForm : List Text → Type 0
IsOfForm words = IsSome (run_in words) ⊎ IsPlain words

-- the words of a command without flags, but for its name and the first `--`
abbrev pub plain_words : List Text → List Text
plain_words [] = []
plain_words (word ∷ words) = others words
