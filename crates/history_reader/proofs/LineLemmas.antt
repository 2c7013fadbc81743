-- The line of an entry tells it.
use Rattle.std.proofs.Common.{◌≡◌, ℕ, ◌^◌, ◌<◌, Bool, true, false, List, [], ◌∷◌, ◌++◌, refl, sym, ◌∙◌, ap}
use Rattle.std.specs.Prelude.{codes, Some, not, ◌&&◌}
use Rattle.svsm_types.specs.declared.owner.Owner.{Owner}
use Rattle.svsm_types.specs.declared.owner.Owner.TheVariants as owners
use Rattle.svsm_steps.specs.declared.step.Step.{Step}
use Rattle.svsm_steps.specs.declared.step.Step.TheVariants as steps
use Rattle.svsm_steps.specs.declared.answer.Answer.{Answer}
use Rattle.svsm_steps.specs.declared.answer.Answer.TheVariants as answers
use Rattle.svsm_steps.specs.declared.entry.Entry.{Entry}
use Rattle.svsm_text.specs.Numbers.{number}
use Rattle.svsm_text.specs.Lines.{is_space, fields}
use Rattle.report.specs.History.{size_number, on_number, owner_text, validate_text, step_fields, answer_fields}
use Rattle.history_reader.specs.Fields.{Fields, entry_in}
use Rattle.history_reader.specs.Fits.{StepFits, AnswerFits}
use Rattle.history_reader.specs.Texts.{IsEntryLine}
use Rattle.history_reader.proofs.FieldLemmas.{Plain, Solid, AreSolid, line_fields, solid_number}
use Rattle.history_reader.proofs.Rounds.{step_again, wide, wide16, wide32, small_size, small_on}

is_plain : List ℕ → Bool
is_plain [] = true
is_plain (b ∷ bs) = not (is_space b) && is_plain bs

not_space : (t : Bool) (more : Bool) → (not t && more) ≡ true → (t ≡ false) × (more ≡ true)
not_space true more is = absurd (cc)
not_space false more is = (refl, is)

plain_by : (bs : List ℕ) → is_plain bs ≡ true → Plain bs
unfolding is_plain
plain_by [] is = tt
plain_by (b ∷ bs) is = let both = not_space (is_space b) (is_plain bs) is in (both.0, plain_by bs both.1)

is_solid : List ℕ → Bool
is_solid [] = false
is_solid (b ∷ bs) = not (is_space b) && is_plain bs

solid_by : (bs : List ℕ) → is_solid bs ≡ true → Solid bs
unfolding is_solid
solid_by [] is = absurd (cc)
solid_by (b ∷ bs) is = let both = not_space (is_space b) (is_plain bs) is in (both.0, plain_by bs both.1)

abbrev Word : List ℕ → Type 0
Word w = is_solid w ≡ true

n1 : (w other : List ℕ) (x : ℕ) (rest : Fields) → is_solid w ≡ true → x < 2 ^ 64 → AreSolid rest → AreSolid (w ∷ number x ∷ rest)
n1 w other x rest is small more = (solid_by w is, (solid_number x small, more))

n2 : (w : List ℕ) (x y : ℕ) (rest : Fields) → is_solid w ≡ true → x < 2 ^ 64 → y < 2 ^ 64 → AreSolid rest → AreSolid (w ∷ number x ∷ number y ∷ rest)
n2 w x y rest is small less more = (solid_by w is, (solid_number x small, (solid_number y less, more)))

n3 : (w : List ℕ) (x y z : ℕ) (rest : Fields) → is_solid w ≡ true → x < 2 ^ 64 → y < 2 ^ 64 → z < 2 ^ 64 → AreSolid rest → AreSolid (w ∷ number x ∷ number y ∷ number z ∷ rest)
n3 w x y z rest is small less least more = (solid_by w is, (solid_number x small, (solid_number y less, (solid_number z least, more))))

validate_solid : (on : Bool) → is_solid (validate_text on) ≡ true
unfolding validate_text is_solid is_plain
validate_solid true = refl
validate_solid false = refl

step_solid : (s : Step) (rest : Fields) → StepFits s → AreSolid rest → AreSolid (step_fields s ++ rest)
unfolding is_solid is_plain
step_solid (steps.GuestWrite v g w) rest f more = n3 (codes "write") v.0 g.0 w rest refl (wide v.0 f.0) f.1 f.2 more
step_solid (steps.GuestPend v g) rest f more = n2 (codes "pend") v.0 g.0 rest refl (wide v.0 f.0) f.1 more
step_solid (steps.GuestRead v g) rest f more = n2 (codes "read") v.0 g.0 rest refl (wide v.0 f.0) f.1 more
step_solid (steps.GuestAdjust v b x m) rest f more = n3 (codes "adjust") v.0 b.0 x (number m ∷ rest) refl (wide v.0 f.0) f.1 (wide x f.2) (solid_number m (wide m f.3), more)
step_solid (steps.HostShare b) rest f more = n1 (codes "share") [] b.0 rest refl f more
step_solid (steps.HostAssign b) rest f more = n1 (codes "assign") [] b.0 rest refl f more
step_solid (steps.TakePending v g) rest f more = n2 (codes "take") v.0 g.0 rest refl (wide v.0 f.0) f.1 more
step_solid (steps.LoadWord v g) rest f more = n2 (codes "load") v.0 g.0 rest refl (wide v.0 f.0) f.1 more
step_solid (steps.StoreNext v g n) rest f more = n3 (codes "next") v.0 g.0 n rest refl (wide v.0 f.0) f.1 (wide16 n f.2) more
step_solid (steps.StoreEntry v g w) rest f more = n3 (codes "entry") v.0 g.0 w rest refl (wide v.0 f.0) f.1 f.2 more
step_solid (steps.SetAvail v g b) rest f more = n3 (codes "avail") v.0 g.0 (on_number b) rest refl (wide v.0 f.0) f.1 (small_on b) more
step_solid (steps.ClearCaa v g) rest f more = n2 (codes "caa") v.0 g.0 rest refl (wide v.0 f.0) f.1 more
step_solid (steps.Validate v b size on) rest f more = n3 (validate_text on) v.0 b.0 (size_number size) rest (validate_solid on) (wide v.0 f.0) f.1 (small_size size) more
step_solid (steps.Deposit v b size) rest f more = n3 (codes "deposit") v.0 b.0 (size_number size) rest refl (wide v.0 f.0) f.1 (small_size size) more
step_solid (steps.Release v b size) rest f more = n3 (codes "release") v.0 b.0 (size_number size) rest refl (wide v.0 f.0) f.1 (small_size size) more
step_solid (steps.VmsaTake v b w) rest f more = n3 (codes "vmsa") v.0 b.0 w rest refl (wide v.0 f.0) f.1 f.2 more
step_solid (steps.VmsaDrop v b) rest f more = n2 (codes "drop") v.0 b.0 rest refl (wide v.0 f.0) f.1 more
step_solid (steps.PoolPush b size) rest f more = n2 (codes "push") b.0 (size_number size) rest refl f (small_size size) more
step_solid (steps.PoolPop size) rest f more = n1 (codes "pop") [] (size_number size) rest refl (small_size size) more
step_solid (steps.Reserve i b g) rest f more = n3 (codes "reserve") i b.0 g.0 rest refl (wide32 i f.0) f.1 f.2 more
step_solid (steps.Commit b) rest f more = n1 (codes "commit") [] b.0 rest refl f more
step_solid (steps.Cancel b) rest f more = n1 (codes "cancel") [] b.0 rest refl f more
step_solid (steps.Retire b) rest f more = n1 (codes "retire") [] b.0 rest refl f more
step_solid (steps.Remap i g) rest f more = n2 (codes "remap") i g.0 rest refl (wide32 i f.0) f.1 more
step_solid (steps.Enter i) rest f more = n1 (codes "enter") [] i rest refl (wide32 i f) more
step_solid (steps.Leave i) rest f more = n1 (codes "leave") [] i rest refl (wide32 i f) more

owner_solid : (owner : Owner) → is_solid (owner_text owner) ≡ true
unfolding owner_text is_solid is_plain
owner_solid owners.Guest = refl
owner_solid owners.Module = refl
owner_solid owners.Pool = refl
owner_solid owners.Vmsa = refl

answer_solid : (a : Answer) → AnswerFits a → AreSolid (answer_fields a)
unfolding is_solid is_plain
answer_solid answers.Done f = (solid_by (codes "done") refl, tt)
answer_solid (answers.Word word) f = n1 (codes "word") [] word [] refl f tt
answer_solid answers.Denied f = (solid_by (codes "denied") refl, tt)
answer_solid answers.Refused f = (solid_by (codes "refused") refl, tt)
answer_solid answers.Unchanged f = (solid_by (codes "unchanged") refl, tt)
answer_solid (answers.Hw code) f = n1 (codes "hw") [] code [] refl (wide code f) tt
answer_solid answers.BadVmsa f = (solid_by (codes "badvmsa") refl, tt)
answer_solid (answers.Strange owner) f = (solid_by (codes "strange") refl, (solid_by (owner_text owner) (owner_solid owner), tt))
answer_solid (answers.Held count) f = n1 (codes "held") [] count [] refl f tt
answer_solid (answers.Block page left) f = n2 (codes "block") page.0 left [] refl f.0 f.1 tt
answer_solid (answers.Empty left) f = n1 (codes "empty") [] left [] refl f tt
answer_solid (answers.Seen page caa) f = n2 (codes "seen") page.0 caa.0 [] refl f.0 f.1 tt
answer_solid answers.Taken f = (solid_by (codes "taken") refl, tt)
answer_solid answers.Unknown f = (solid_by (codes "unknown") refl, tt)
answer_solid answers.Running f = (solid_by (codes "running") refl, tt)
answer_solid (answers.Fault done) f = n1 (codes "fault") [] done [] refl (wide done f) tt

step_word_solid : is_solid (codes "step") ≡ true
unfolding is_solid is_plain
step_word_solid = refl

arrow_solid : is_solid (codes "->") ≡ true
unfolding is_solid is_plain
arrow_solid = refl

-- the fields of an entry's line are read as that entry
pub told_by : (regions : ℕ) (bytes : List ℕ) (entry : Entry) → IsEntryLine regions bytes entry → entry_in (fields bytes) ≡ Some entry
told_by regions bytes entry is =
    let rest = step_fields entry.step ++ codes "->" ∷ answer_fields entry.answer in
    let all : AreSolid (number entry.ticket ∷ number entry.core ∷ number entry.place ∷ rest) = (
      solid_number entry.ticket is.fits.ticket,
      (
        solid_number entry.core (wide32 entry.core is.fits.core),
        (
          solid_number entry.place is.fits.place,
          step_solid entry.step (codes "->" ∷ answer_fields entry.answer) is.fits.step (solid_by (codes "->") arrow_solid, answer_solid entry.answer is.fits.answer),
        ),
      ),
    ) in
    ap entry_in (line_fields bytes (codes "step") (number entry.ticket ∷ number entry.core ∷ number entry.place ∷ rest) is.text (solid_by (codes "step") step_word_solid) all)
    ∙ step_again entry.step entry.ticket entry.core entry.place entry.answer is.fits.ticket is.fits.core is.fits.place is.fits.step is.fits.answer

-- two entries with one line are one
pub own_text : (regions : ℕ) (bytes : List ℕ) (entry other : Entry) → IsEntryLine regions bytes entry → IsEntryLine regions bytes other → entry ≡ other
own_text regions bytes entry other is also =
    let same : Some entry ≡ Some other = sym (told_by regions bytes entry is) ∙ told_by regions bytes other also in cc
