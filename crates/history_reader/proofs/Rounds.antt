-- What is printed of an entry is read as it.
use Rattle.std.proofs.Common.{◌≡◌, ℕ, ◌^◌, ◌<◌, Bool, true, false, nat_lt, List, ◌∷◌, ◌++◌, refl, ◌∙◌, ap, arith}
use Rattle.std.specs.Prelude.{codes, Option, Some, None, if◌then◌else◌}
use Rattle.std.proofs.lemmas.Bool.Decides.{nat_tests}
use Rattle.svsm_types.specs.declared.platform.Size.{Size}
use Rattle.svsm_types.specs.declared.platform.Size.TheVariants.{Small, Large}
use Rattle.svsm_types.specs.declared.owner.Owner.{Owner}
use Rattle.svsm_types.specs.declared.owner.Owner.TheVariants as owners
use Rattle.svsm_steps.specs.declared.step.Step.{Step}
use Rattle.svsm_steps.specs.declared.step.Step.TheVariants as steps
use Rattle.svsm_steps.specs.declared.answer.Answer.{Answer}
use Rattle.svsm_steps.specs.declared.answer.Answer.TheVariants as answers
use Rattle.svsm_text.specs.Numbers.{number, number_in}
use Rattle.svsm_text.proofs.NumberLemmas.{read_again}
use Rattle.report.specs.History.{size_number, on_number, owner_text, validate_text, step_fields, answer_fields}
use Rattle.history_reader.specs.declared.words.StepWord.{StepWord}
use Rattle.history_reader.specs.declared.words.StepWord.TheVariants as words
use Rattle.history_reader.specs.Then.{◌>>=◌, below}
use Rattle.history_reader.specs.Words.{step_word, owner_word}
use Rattle.history_reader.specs.Fields.{Fields, size_in, on_in, step_of_one, acts_of_two, step_of_two, acts_of_three, step_of_three, step_of_four, number_answer, numbers_answer, answer_in, answered, with_one, with_two, with_three, with_four, pair_in, numbered_entry, entry_in}
use Rattle.history_reader.specs.Fits.{StepFits, AnswerFits}

-- a value that is there is handed on
pub on : {A B : Type 0} (o : Option A) (x : A) (k : A → Option B) → o ≡ Some x → (o >>= k) ≡ k x
on o x k is = ap (λ (o : Option _). o >>= k) is

passes : (limit n : ℕ) (t : Bool) → nat_lt n limit ≡ t → n < limit → nat_lt n limit ≡ true
passes limit n true is small = is
passes limit n false is small = absurd (grind (arith, nat_tests))

pub fits_below : (limit n : ℕ) → n < limit → below limit n ≡ Some n
fits_below limit n small = ap (λ (b : Bool). if b then Some n else None) (passes limit n (nat_lt n limit) refl small)

size_again : (size : Size) → size_in (size_number size) ≡ Some size
size_again Small = refl
size_again Large = refl

on_again : (b : Bool) → on_in (on_number b) ≡ Some b
on_again true = refl
on_again false = refl

pub small_size : (size : Size) → size_number size < 2 ^ 64
small_size Small = omega arith
small_size Large = omega arith

pub small_on : (b : Bool) → on_number b < 2 ^ 64
small_on true = omega arith
small_on false = omega arith

pub wide : (n : ℕ) → n < 2 ^ 8 → n < 2 ^ 64
wide n small = omega arith

pub wide16 : (n : ℕ) → n < 2 ^ 16 → n < 2 ^ 64
wide16 n small = omega arith

pub wide32 : (n : ℕ) → n < 2 ^ 32 → n < 2 ^ 64
wide32 n small = omega arith

-- ANSWERS

one_number : (word : List ℕ) (n : ℕ) (a : Answer) → n < 2 ^ 64 → number_answer word n ≡ Some a → (number_in (number n) >>= number_answer word) ≡ Some a
one_number word n a small is = on (number_in (number n)) n (number_answer word) (read_again n small) ∙ is

two_numbers : (word : List ℕ) (m n : ℕ) (a : Answer) → m < 2 ^ 64 → n < 2 ^ 64 → numbers_answer word m n ≡ Some a
    → (number_in (number m) >>= λ m. number_in (number n) >>= λ n. numbers_answer word m n) ≡ Some a
two_numbers word m n a small less is =
    on (number_in (number m)) m (λ (m : ℕ). number_in (number n) >>= λ (n : ℕ). numbers_answer word m n) (read_again m small)
    ∙ on (number_in (number n)) n (λ (n : ℕ). numbers_answer word m n) (read_again n less) ∙ is

owner_again : (owner : Owner) → (owner_word (owner_text owner) >>= λ owner. Some (answers.Strange owner)) ≡ Some (answers.Strange owner)
unfolding owner_text
owner_again owners.Guest = refl
owner_again owners.Module = refl
owner_again owners.Pool = refl
owner_again owners.Vmsa = refl

pub answer_again : (a : Answer) → AnswerFits a → answer_in (answer_fields a) ≡ Some a
answer_again answers.Done fits = refl
answer_again (answers.Word word) fits = one_number (codes "word") word (answers.Word word) fits refl
answer_again answers.Denied fits = refl
answer_again answers.Refused fits = refl
answer_again answers.Unchanged fits = refl
answer_again (answers.Hw code) fits =
    one_number (codes "hw") code (answers.Hw code) (wide code fits) (on (below (2 ^ 8) code) code (λ (c : ℕ). Some (answers.Hw c)) (fits_below (2 ^ 8) code fits))
answer_again answers.BadVmsa fits = refl
answer_again (answers.Strange owner) fits = owner_again owner
answer_again (answers.Held count) fits = one_number (codes "held") count (answers.Held count) fits refl
answer_again (answers.Block page left) fits = two_numbers (codes "block") page.0 left (answers.Block page left) fits.0 fits.1 refl
answer_again (answers.Empty left) fits = one_number (codes "empty") left (answers.Empty left) fits refl
answer_again (answers.Seen page caa) fits = two_numbers (codes "seen") page.0 caa.0 (answers.Seen page caa) fits.0 fits.1 refl
answer_again answers.Taken fits = refl
answer_again answers.Unknown fits = refl
answer_again answers.Running fits = refl
answer_again (answers.Fault done) fits =
    one_number (codes "fault") done (answers.Fault done) (wide done fits) (on (below (2 ^ 8) done) done (λ (c : ℕ). Some (answers.Fault c)) (fits_below (2 ^ 8) done fits))

-- STEPS

abbrev Pair : Type 0
Pair = Step × Answer

arrow_again : (step : Step) (a : Answer) → AnswerFits a → answered step (codes "->") (answer_fields a) ≡ Some (step, a)
arrow_again step a fits = on (answer_in (answer_fields a)) a (λ (a : Answer). Some (step, a)) (answer_again a fits)

one : (word : StepWord) (x : ℕ) (step : Step) (a : Answer) → AnswerFits a → x < 2 ^ 64 → step_of_one word x ≡ Some step
    → with_one word (number x ∷ codes "->" ∷ answer_fields a) ≡ Some (step, a)
one word x step a fits small is =
    on (number_in (number x)) x (λ (x : ℕ). step_of_one word x >>= λ (s : Step). answered s (codes "->") (answer_fields a)) (read_again x small)
    ∙ on (step_of_one word x) step (λ (s : Step). answered s (codes "->") (answer_fields a)) is
    ∙ arrow_again step a fits

two : (word : StepWord) (x y : ℕ) (step : Step) (a : Answer) → AnswerFits a → x < 2 ^ 64 → y < 2 ^ 64 → step_of_two word x y ≡ Some step
    → with_two word (number x ∷ number y ∷ codes "->" ∷ answer_fields a) ≡ Some (step, a)
two word x y step a fits small less is =
    on (number_in (number x)) x (λ (x : ℕ). number_in (number y) >>= λ (y : ℕ). step_of_two word x y >>= λ (s : Step). answered s (codes "->") (answer_fields a)) (read_again x small)
    ∙ on (number_in (number y)) y (λ (y : ℕ). step_of_two word x y >>= λ (s : Step). answered s (codes "->") (answer_fields a)) (read_again y less)
    ∙ on (step_of_two word x y) step (λ (s : Step). answered s (codes "->") (answer_fields a)) is
    ∙ arrow_again step a fits

three : (word : StepWord) (x y z : ℕ) (step : Step) (a : Answer) → AnswerFits a → x < 2 ^ 64 → y < 2 ^ 64 → z < 2 ^ 64 → step_of_three word x y z ≡ Some step
    → with_three word (number x ∷ number y ∷ number z ∷ codes "->" ∷ answer_fields a) ≡ Some (step, a)
three word x y z step a fits small less least is =
    on (number_in (number x)) x (λ (x : ℕ). number_in (number y) >>= λ (y : ℕ). number_in (number z) >>= λ (z : ℕ). step_of_three word x y z >>= λ (s : Step). answered s (codes "->") (answer_fields a)) (read_again x small)
    ∙ on (number_in (number y)) y (λ (y : ℕ). number_in (number z) >>= λ (z : ℕ). step_of_three word x y z >>= λ (s : Step). answered s (codes "->") (answer_fields a)) (read_again y less)
    ∙ on (number_in (number z)) z (λ (z : ℕ). step_of_three word x y z >>= λ (s : Step). answered s (codes "->") (answer_fields a)) (read_again z least)
    ∙ on (step_of_three word x y z) step (λ (s : Step). answered s (codes "->") (answer_fields a)) is
    ∙ arrow_again step a fits

four : (x y z w : ℕ) (step : Step) (a : Answer) → AnswerFits a → x < 2 ^ 64 → y < 2 ^ 64 → z < 2 ^ 64 → w < 2 ^ 64 → step_of_four x y z w ≡ Some step
    → with_four (number x ∷ number y ∷ number z ∷ number w ∷ codes "->" ∷ answer_fields a) ≡ Some (step, a)
four x y z w step a fits small less least last is =
    on (number_in (number x)) x (λ (x : ℕ). number_in (number y) >>= λ (y : ℕ). number_in (number z) >>= λ (z : ℕ). number_in (number w) >>= λ (w : ℕ). step_of_four x y z w >>= λ (s : Step). answered s (codes "->") (answer_fields a)) (read_again x small)
    ∙ on (number_in (number y)) y (λ (y : ℕ). number_in (number z) >>= λ (z : ℕ). number_in (number w) >>= λ (w : ℕ). step_of_four x y z w >>= λ (s : Step). answered s (codes "->") (answer_fields a)) (read_again y less)
    ∙ on (number_in (number z)) z (λ (z : ℕ). number_in (number w) >>= λ (w : ℕ). step_of_four x y z w >>= λ (s : Step). answered s (codes "->") (answer_fields a)) (read_again z least)
    ∙ on (number_in (number w)) w (λ (w : ℕ). step_of_four x y z w >>= λ (s : Step). answered s (codes "->") (answer_fields a)) (read_again w last)
    ∙ on (step_of_four x y z w) step (λ (s : Step). answered s (codes "->") (answer_fields a)) is
    ∙ arrow_again step a fits

-- the number of an acting VMPL fits
acts2 : (word : StepWord) (v b : ℕ) → v < 2 ^ 8 → (below (2 ^ 8) v >>= λ v. acts_of_two word v b) ≡ acts_of_two word v b
acts2 word v b small = on (below (2 ^ 8) v) v (λ (v : ℕ). acts_of_two word v b) (fits_below (2 ^ 8) v small)

acts3 : (word : StepWord) (v b c : ℕ) → v < 2 ^ 8 → (below (2 ^ 8) v >>= λ v. acts_of_three word v b c) ≡ acts_of_three word v b c
acts3 word v b c small = on (below (2 ^ 8) v) v (λ (v : ℕ). acts_of_three word v b c) (fits_below (2 ^ 8) v small)

id_again : (f : ℕ → Step) (apic : ℕ) → apic < 2 ^ 32 → (below (2 ^ 32) apic >>= λ apic. Some (f apic)) ≡ Some (f apic)
id_again f apic small = on (below (2 ^ 32) apic) apic (λ (apic : ℕ). Some (f apic)) (fits_below (2 ^ 32) apic small)

sized : (f : Size → Step) (size : Size) → (size_in (size_number size) >>= λ size. Some (f size)) ≡ Some (f size)
sized f size = on (size_in (size_number size)) size (λ (size : Size). Some (f size)) (size_again size)

-- the word and the other fields of a step and an answer
abbrev Told : ℕ → ℕ → ℕ → Step → Answer → Type 0
Told t c p step a =
    entry_in (codes "step" ∷ number t ∷ number c ∷ number p ∷ (step_fields step ++ codes "->" ∷ answer_fields a))
    ≡ Some (record { ticket = t; core = c; place = p; step = step; answer = a })

told : (t c p : ℕ) (text : List ℕ) (word : StepWord) (fs : Fields) (step : Step) (a : Answer) → t < 2 ^ 64 → c < 2 ^ 32 → p < 2 ^ 64
    → step_word text ≡ Some word → pair_in word fs ≡ Some (step, a)
    → entry_in (codes "step" ∷ number t ∷ number c ∷ number p ∷ text ∷ fs) ≡ Some (record { ticket = t; core = c; place = p; step = step; answer = a })
told t c p text word fs step a small core place named is =
    on (number_in (number t)) t (λ (t : ℕ). number_in (number c) >>= λ (c : ℕ). number_in (number p) >>= λ (p : ℕ). numbered_entry t c p text fs) (read_again t small)
    ∙ on (number_in (number c)) c (λ (c : ℕ). number_in (number p) >>= λ (p : ℕ). numbered_entry t c p text fs) (read_again c (wide32 c core))
    ∙ on (number_in (number p)) p (λ (p : ℕ). numbered_entry t c p text fs) (read_again p place)
    ∙ on (below (2 ^ 32) c) c (λ (c : ℕ). step_word text >>= λ (word : StepWord). pair_in word fs >>= λ (pair : Pair). Some (record { ticket = t; core = c; place = p; step = pair.0; answer = pair.1 })) (fits_below (2 ^ 32) c core)
    ∙ on (step_word text) word (λ (word : StepWord). pair_in word fs >>= λ (pair : Pair). Some (record { ticket = t; core = c; place = p; step = pair.0; answer = pair.1 })) named
    ∙ on (pair_in word fs) (step, a) (λ (pair : Pair). Some (record { ticket = t; core = c; place = p; step = pair.0; answer = pair.1 })) is

abbrev Again : Step → Type 0
Again step = (t c p : ℕ) (a : Answer) → t < 2 ^ 64 → c < 2 ^ 32 → p < 2 ^ 64 → StepFits step → AnswerFits a → Told t c p step a

validate_again : (on : Bool) (v b : ℕ) (size : Size) → (t c p : ℕ) (a : Answer) → t < 2 ^ 64 → c < 2 ^ 32 → p < 2 ^ 64 → v < 2 ^ 8 → b < 2 ^ 64 → AnswerFits a
    → Told t c p (steps.Validate (record { 0 = v }) (record { 0 = b }) size on) a
unfolding validate_text
validate_again true v b size t c p a st sc sp sv sb fits =
    told t c p (codes "validate") words.Validate (number v ∷ number b ∷ number (size_number size) ∷ codes "->" ∷ answer_fields a) (steps.Validate (record { 0 = v }) (record { 0 = b }) size true) a st sc sp refl
    (three words.Validate v b (size_number size) (steps.Validate (record { 0 = v }) (record { 0 = b }) size true) a fits (wide v sv) sb (small_size size) (acts3 words.Validate v b (size_number size) sv ∙ sized (λ (z : Size). steps.Validate (record { 0 = v }) (record { 0 = b }) z true) size))
validate_again false v b size t c p a st sc sp sv sb fits =
    told t c p (codes "invalidate") words.Invalidate (number v ∷ number b ∷ number (size_number size) ∷ codes "->" ∷ answer_fields a) (steps.Validate (record { 0 = v }) (record { 0 = b }) size false) a st sc sp refl
    (three words.Invalidate v b (size_number size) (steps.Validate (record { 0 = v }) (record { 0 = b }) size false) a fits (wide v sv) sb (small_size size) (acts3 words.Invalidate v b (size_number size) sv ∙ sized (λ (z : Size). steps.Validate (record { 0 = v }) (record { 0 = b }) z false) size))

pub step_again : (step : Step) → Again step
step_again (steps.GuestWrite v g w) t c p a st sc sp f fits =
    told t c p (codes "write") words.Write (number v.0 ∷ number g.0 ∷ number w ∷ codes "->" ∷ answer_fields a) (steps.GuestWrite v g w) a st sc sp refl (three words.Write v.0 g.0 w (steps.GuestWrite v g w) a fits (wide v.0 f.0) f.1 f.2 (acts3 words.Write v.0 g.0 w f.0))
step_again (steps.GuestPend v g) t c p a st sc sp f fits =
    told t c p (codes "pend") words.Pend (number v.0 ∷ number g.0 ∷ codes "->" ∷ answer_fields a) (steps.GuestPend v g) a st sc sp refl (two words.Pend v.0 g.0 (steps.GuestPend v g) a fits (wide v.0 f.0) f.1 (acts2 words.Pend v.0 g.0 f.0))
step_again (steps.GuestRead v g) t c p a st sc sp f fits =
    told t c p (codes "read") words.Read (number v.0 ∷ number g.0 ∷ codes "->" ∷ answer_fields a) (steps.GuestRead v g) a st sc sp refl (two words.Read v.0 g.0 (steps.GuestRead v g) a fits (wide v.0 f.0) f.1 (acts2 words.Read v.0 g.0 f.0))
step_again (steps.GuestAdjust v b x m) t c p a st sc sp f fits =
    told t c p (codes "adjust") words.Adjust (number v.0 ∷ number b.0 ∷ number x ∷ number m ∷ codes "->" ∷ answer_fields a) (steps.GuestAdjust v b x m) a st sc sp refl
    (four v.0 b.0 x m (steps.GuestAdjust v b x m) a fits (wide v.0 f.0) f.1 (wide x f.2) (wide m f.3)
    (on (below (2 ^ 8) v.0) v.0 (λ (v : ℕ). below (2 ^ 8) x >>= λ (x : ℕ). below (2 ^ 8) m >>= λ (m : ℕ). Some (steps.GuestAdjust (record { 0 = v }) b x m)) (fits_below (2 ^ 8) v.0 f.0)
    ∙ on (below (2 ^ 8) x) x (λ (x : ℕ). below (2 ^ 8) m >>= λ (m : ℕ). Some (steps.GuestAdjust v b x m)) (fits_below (2 ^ 8) x f.2)
    ∙ on (below (2 ^ 8) m) m (λ (m : ℕ). Some (steps.GuestAdjust v b x m)) (fits_below (2 ^ 8) m f.3)))
step_again (steps.HostShare b) t c p a st sc sp f fits =
    told t c p (codes "share") words.Share (number b.0 ∷ codes "->" ∷ answer_fields a) (steps.HostShare b) a st sc sp refl (one words.Share b.0 (steps.HostShare b) a fits f refl)
step_again (steps.HostAssign b) t c p a st sc sp f fits =
    told t c p (codes "assign") words.Assign (number b.0 ∷ codes "->" ∷ answer_fields a) (steps.HostAssign b) a st sc sp refl (one words.Assign b.0 (steps.HostAssign b) a fits f refl)
step_again (steps.TakePending v g) t c p a st sc sp f fits =
    told t c p (codes "take") words.Take (number v.0 ∷ number g.0 ∷ codes "->" ∷ answer_fields a) (steps.TakePending v g) a st sc sp refl (two words.Take v.0 g.0 (steps.TakePending v g) a fits (wide v.0 f.0) f.1 (acts2 words.Take v.0 g.0 f.0))
step_again (steps.LoadWord v g) t c p a st sc sp f fits =
    told t c p (codes "load") words.Load (number v.0 ∷ number g.0 ∷ codes "->" ∷ answer_fields a) (steps.LoadWord v g) a st sc sp refl (two words.Load v.0 g.0 (steps.LoadWord v g) a fits (wide v.0 f.0) f.1 (acts2 words.Load v.0 g.0 f.0))
step_again (steps.StoreNext v g n) t c p a st sc sp f fits =
    told t c p (codes "next") words.Next (number v.0 ∷ number g.0 ∷ number n ∷ codes "->" ∷ answer_fields a) (steps.StoreNext v g n) a st sc sp refl
    (three words.Next v.0 g.0 n (steps.StoreNext v g n) a fits (wide v.0 f.0) f.1 (wide16 n f.2)
    (acts3 words.Next v.0 g.0 n f.0 ∙ on (below (2 ^ 16) n) n (λ (n : ℕ). Some (steps.StoreNext v g n)) (fits_below (2 ^ 16) n f.2)))
step_again (steps.StoreEntry v g w) t c p a st sc sp f fits =
    told t c p (codes "entry") words.Entry (number v.0 ∷ number g.0 ∷ number w ∷ codes "->" ∷ answer_fields a) (steps.StoreEntry v g w) a st sc sp refl (three words.Entry v.0 g.0 w (steps.StoreEntry v g w) a fits (wide v.0 f.0) f.1 f.2 (acts3 words.Entry v.0 g.0 w f.0))
step_again (steps.SetAvail v g b) t c p a st sc sp f fits =
    told t c p (codes "avail") words.Avail (number v.0 ∷ number g.0 ∷ number (on_number b) ∷ codes "->" ∷ answer_fields a) (steps.SetAvail v g b) a st sc sp refl
    (three words.Avail v.0 g.0 (on_number b) (steps.SetAvail v g b) a fits (wide v.0 f.0) f.1 (small_on b)
    (acts3 words.Avail v.0 g.0 (on_number b) f.0 ∙ on (on_in (on_number b)) b (λ (b : Bool). Some (steps.SetAvail v g b)) (on_again b)))
step_again (steps.ClearCaa v g) t c p a st sc sp f fits =
    told t c p (codes "caa") words.Caa (number v.0 ∷ number g.0 ∷ codes "->" ∷ answer_fields a) (steps.ClearCaa v g) a st sc sp refl (two words.Caa v.0 g.0 (steps.ClearCaa v g) a fits (wide v.0 f.0) f.1 (acts2 words.Caa v.0 g.0 f.0))
step_again (steps.Validate v b size turned) t c p a st sc sp f fits = validate_again turned v.0 b.0 size t c p a st sc sp f.0 f.1 fits
step_again (steps.Deposit v b size) t c p a st sc sp f fits =
    told t c p (codes "deposit") words.Deposit (number v.0 ∷ number b.0 ∷ number (size_number size) ∷ codes "->" ∷ answer_fields a) (steps.Deposit v b size) a st sc sp refl
    (three words.Deposit v.0 b.0 (size_number size) (steps.Deposit v b size) a fits (wide v.0 f.0) f.1 (small_size size) (acts3 words.Deposit v.0 b.0 (size_number size) f.0 ∙ sized (λ (z : Size). steps.Deposit v b z) size))
step_again (steps.Release v b size) t c p a st sc sp f fits =
    told t c p (codes "release") words.Release (number v.0 ∷ number b.0 ∷ number (size_number size) ∷ codes "->" ∷ answer_fields a) (steps.Release v b size) a st sc sp refl
    (three words.Release v.0 b.0 (size_number size) (steps.Release v b size) a fits (wide v.0 f.0) f.1 (small_size size) (acts3 words.Release v.0 b.0 (size_number size) f.0 ∙ sized (λ (z : Size). steps.Release v b z) size))
step_again (steps.VmsaTake v b w) t c p a st sc sp f fits =
    told t c p (codes "vmsa") words.Vmsa (number v.0 ∷ number b.0 ∷ number w ∷ codes "->" ∷ answer_fields a) (steps.VmsaTake v b w) a st sc sp refl (three words.Vmsa v.0 b.0 w (steps.VmsaTake v b w) a fits (wide v.0 f.0) f.1 f.2 (acts3 words.Vmsa v.0 b.0 w f.0))
step_again (steps.VmsaDrop v b) t c p a st sc sp f fits =
    told t c p (codes "drop") words.Drop (number v.0 ∷ number b.0 ∷ codes "->" ∷ answer_fields a) (steps.VmsaDrop v b) a st sc sp refl (two words.Drop v.0 b.0 (steps.VmsaDrop v b) a fits (wide v.0 f.0) f.1 (acts2 words.Drop v.0 b.0 f.0))
step_again (steps.PoolPush b size) t c p a st sc sp f fits =
    told t c p (codes "push") words.Push (number b.0 ∷ number (size_number size) ∷ codes "->" ∷ answer_fields a) (steps.PoolPush b size) a st sc sp refl (two words.Push b.0 (size_number size) (steps.PoolPush b size) a fits f (small_size size) (sized (λ (z : Size). steps.PoolPush b z) size))
step_again (steps.PoolPop size) t c p a st sc sp f fits =
    told t c p (codes "pop") words.Pop (number (size_number size) ∷ codes "->" ∷ answer_fields a) (steps.PoolPop size) a st sc sp refl (one words.Pop (size_number size) (steps.PoolPop size) a fits (small_size size) (sized (λ (z : Size). steps.PoolPop z) size))
step_again (steps.Reserve i b g) t c p a st sc sp f fits =
    told t c p (codes "reserve") words.Reserve (number i ∷ number b.0 ∷ number g.0 ∷ codes "->" ∷ answer_fields a) (steps.Reserve i b g) a st sc sp refl (three words.Reserve i b.0 g.0 (steps.Reserve i b g) a fits (wide32 i f.0) f.1 f.2 (id_again (λ (i : ℕ). steps.Reserve i b g) i f.0))
step_again (steps.Commit b) t c p a st sc sp f fits =
    told t c p (codes "commit") words.Commit (number b.0 ∷ codes "->" ∷ answer_fields a) (steps.Commit b) a st sc sp refl (one words.Commit b.0 (steps.Commit b) a fits f refl)
step_again (steps.Cancel b) t c p a st sc sp f fits =
    told t c p (codes "cancel") words.Cancel (number b.0 ∷ codes "->" ∷ answer_fields a) (steps.Cancel b) a st sc sp refl (one words.Cancel b.0 (steps.Cancel b) a fits f refl)
step_again (steps.Retire b) t c p a st sc sp f fits =
    told t c p (codes "retire") words.Retire (number b.0 ∷ codes "->" ∷ answer_fields a) (steps.Retire b) a st sc sp refl (one words.Retire b.0 (steps.Retire b) a fits f refl)
step_again (steps.Remap i g) t c p a st sc sp f fits =
    told t c p (codes "remap") words.Remap (number i ∷ number g.0 ∷ codes "->" ∷ answer_fields a) (steps.Remap i g) a st sc sp refl (two words.Remap i g.0 (steps.Remap i g) a fits (wide32 i f.0) f.1 (id_again (λ (i : ℕ). steps.Remap i g) i f.0))
step_again (steps.Enter i) t c p a st sc sp f fits =
    told t c p (codes "enter") words.Enter (number i ∷ codes "->" ∷ answer_fields a) (steps.Enter i) a st sc sp refl (one words.Enter i (steps.Enter i) a fits (wide32 i f) (id_again (λ (i : ℕ). steps.Enter i) i f))
step_again (steps.Leave i) t c p a st sc sp f fits =
    told t c p (codes "leave") words.Leave (number i ∷ codes "->" ∷ answer_fields a) (steps.Leave i) a st sc sp refl (one words.Leave i (steps.Leave i) a fits (wide32 i f) (id_again (λ (i : ℕ). steps.Leave i) i f))
