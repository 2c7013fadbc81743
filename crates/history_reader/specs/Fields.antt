-- An entry, read off the fields of its line.
use Rattle.std.specs.Prelude.{ℕ, ◌^◌, Bool, true, false, List, [], ◌∷◌, bytes_eq, codes, if◌then◌else◌, Option, Some, None, ◌==◌}
use Rattle.svsm_types.specs.declared.platform.Size.{Size}
use Rattle.svsm_types.specs.declared.platform.Size.TheVariants.{Small, Large}
use Rattle.svsm_steps.specs.declared.step.Step.{Step}
use Rattle.svsm_steps.specs.declared.step.Step.TheVariants as steps
use Rattle.svsm_steps.specs.declared.answer.Answer.{Answer}
use Rattle.svsm_steps.specs.declared.answer.Answer.TheVariants as answers
use Rattle.svsm_steps.specs.declared.entry.Entry.{Entry}
use Rattle.svsm_text.specs.Numbers.{number_in}
use Rattle.history_reader.specs.declared.words.StepWord.{StepWord}
use Rattle.history_reader.specs.declared.words.StepWord.TheVariants as words
use Rattle.history_reader.specs.Then.{◌>>=◌, below}
use Rattle.history_reader.specs.Words.{step_word, owner_word}

-- the fields of a line
abbrev pub Fields : Type 0
Fields = List (List ℕ)

-- 0 is 4K, 1 is 2M
abbrev pub size_in : ℕ → Option Size
size_in n = if n == 0 then Some Small else (if n == 1 then Some Large else None)

-- 1 is on, 0 is off
abbrev pub on_in : ℕ → Option Bool
on_in n = if n == 0 then Some false else (if n == 1 then Some true else None)

-- STEPS, by their words and numbers

-- steps of one number
abbrev pub step_of_one : StepWord → ℕ → Option Step
step_of_one words.Share a = Some (steps.HostShare (record { 0 = a }))
step_of_one words.Assign a = Some (steps.HostAssign (record { 0 = a }))
step_of_one words.Pop a = size_in a >>= λ size. Some (steps.PoolPop size)
step_of_one words.Commit a = Some (steps.Commit (record { 0 = a }))
step_of_one words.Cancel a = Some (steps.Cancel (record { 0 = a }))
step_of_one words.Retire a = Some (steps.Retire (record { 0 = a }))
step_of_one words.Enter a = below (2 ^ 32) a >>= λ apic. Some (steps.Enter apic)
step_of_one words.Leave a = below (2 ^ 32) a >>= λ apic. Some (steps.Leave apic)
step_of_one _ a = None

-- steps of a VMPL and an address or a page
abbrev pub acts_of_two : StepWord → ℕ → ℕ → Option Step
acts_of_two words.Pend v b = Some (steps.GuestPend (record { 0 = v }) (record { 0 = b }))
acts_of_two words.Read v b = Some (steps.GuestRead (record { 0 = v }) (record { 0 = b }))
acts_of_two words.Take v b = Some (steps.TakePending (record { 0 = v }) (record { 0 = b }))
acts_of_two words.Load v b = Some (steps.LoadWord (record { 0 = v }) (record { 0 = b }))
acts_of_two words.Caa v b = Some (steps.ClearCaa (record { 0 = v }) (record { 0 = b }))
acts_of_two words.Drop v b = Some (steps.VmsaDrop (record { 0 = v }) (record { 0 = b }))
acts_of_two _ v b = None

-- steps of two numbers
abbrev pub step_of_two : StepWord → ℕ → ℕ → Option Step
step_of_two words.Push a b = size_in b >>= λ size. Some (steps.PoolPush (record { 0 = a }) size)
step_of_two words.Remap a b = below (2 ^ 32) a >>= λ apic. Some (steps.Remap apic (record { 0 = b }))
step_of_two word a b = below (2 ^ 8) a >>= λ v. acts_of_two word v b

-- steps of a VMPL, an address or a page, and another number
abbrev pub acts_of_three : StepWord → ℕ → ℕ → ℕ → Option Step
acts_of_three words.Write v b c = Some (steps.GuestWrite (record { 0 = v }) (record { 0 = b }) c)
acts_of_three words.Next v b c = below (2 ^ 16) c >>= λ next. Some (steps.StoreNext (record { 0 = v }) (record { 0 = b }) next)
acts_of_three words.Entry v b c = Some (steps.StoreEntry (record { 0 = v }) (record { 0 = b }) c)
acts_of_three words.Avail v b c = on_in c >>= λ on. Some (steps.SetAvail (record { 0 = v }) (record { 0 = b }) on)
acts_of_three words.Validate v b c = size_in c >>= λ size. Some (steps.Validate (record { 0 = v }) (record { 0 = b }) size true)
acts_of_three words.Invalidate v b c = size_in c >>= λ size. Some (steps.Validate (record { 0 = v }) (record { 0 = b }) size false)
acts_of_three words.Deposit v b c = size_in c >>= λ size. Some (steps.Deposit (record { 0 = v }) (record { 0 = b }) size)
acts_of_three words.Release v b c = size_in c >>= λ size. Some (steps.Release (record { 0 = v }) (record { 0 = b }) size)
acts_of_three words.Vmsa v b c = Some (steps.VmsaTake (record { 0 = v }) (record { 0 = b }) c)
acts_of_three _ v b c = None

-- steps of three numbers
abbrev pub step_of_three : StepWord → ℕ → ℕ → ℕ → Option Step
step_of_three words.Reserve a b c = below (2 ^ 32) a >>= λ apic. Some (steps.Reserve apic (record { 0 = b }) (record { 0 = c }))
step_of_three word a b c = below (2 ^ 8) a >>= λ v. acts_of_three word v b c

-- the step of four numbers: VMPL, page, target and mask
abbrev pub step_of_four : ℕ → ℕ → ℕ → ℕ → Option Step
step_of_four a b c d =
    below (2 ^ 8) a >>= λ v. below (2 ^ 8) c >>= λ target. below (2 ^ 8) d >>= λ mask.
    Some (steps.GuestAdjust (record { 0 = v }) (record { 0 = b }) target mask)

-- ANSWERS

-- answers of a word alone
abbrev pub word_answer : List ℕ → Option Answer
word_answer word =
    if bytes_eq word (codes "done") then Some answers.Done
    else if bytes_eq word (codes "denied") then Some answers.Denied
    else if bytes_eq word (codes "refused") then Some answers.Refused
    else if bytes_eq word (codes "unchanged") then Some answers.Unchanged
    else if bytes_eq word (codes "badvmsa") then Some answers.BadVmsa
    else if bytes_eq word (codes "taken") then Some answers.Taken
    else if bytes_eq word (codes "unknown") then Some answers.Unknown
    else if bytes_eq word (codes "running") then Some answers.Running
    else None

-- answers with one number
abbrev pub number_answer : List ℕ → ℕ → Option Answer
number_answer word n =
    if bytes_eq word (codes "word") then Some (answers.Word n)
    else if bytes_eq word (codes "hw") then (below (2 ^ 8) n >>= λ code. Some (answers.Hw code))
    else if bytes_eq word (codes "held") then Some (answers.Held n)
    else if bytes_eq word (codes "empty") then Some (answers.Empty n)
    else if bytes_eq word (codes "fault") then (below (2 ^ 8) n >>= λ done. Some (answers.Fault done))
    else None

-- answers with one field
abbrev pub field_answer : List ℕ → List ℕ → Option Answer
field_answer word field =
    if bytes_eq word (codes "strange")
    then (owner_word field >>= λ owner. Some (answers.Strange owner))
    else (number_in field >>= λ n. number_answer word n)

-- answers with two numbers
abbrev pub numbers_answer : List ℕ → ℕ → ℕ → Option Answer
numbers_answer word m n =
    if bytes_eq word (codes "block") then Some (answers.Block (record { 0 = m }) n)
    else if bytes_eq word (codes "seen") then Some (answers.Seen (record { 0 = m }) (record { 0 = n }))
    else None

-- the fields of an answer
abbrev pub answer_in : Fields → Option Answer
answer_in (word ∷ []) = word_answer word
answer_in (word ∷ a ∷ []) = field_answer word a
answer_in (word ∷ a ∷ b ∷ []) = number_in a >>= λ m. number_in b >>= λ n. numbers_answer word m n
answer_in _ = None

-- A STEP AND ITS ANSWER

-- a step, the arrow and the fields of its answer
abbrev pub answered : Step → List ℕ → Fields → Option (Step × Answer)
answered step arrow fields =
    if bytes_eq arrow (codes "->") then (answer_in fields >>= λ answer. Some (step, answer)) else None

-- a step of one number, and its answer
abbrev pub with_one : StepWord → Fields → Option (Step × Answer)
with_one word (a ∷ arrow ∷ fields) = number_in a >>= λ a. step_of_one word a >>= λ step. answered step arrow fields
with_one word _ = None

-- a step of two numbers, and its answer
abbrev pub with_two : StepWord → Fields → Option (Step × Answer)
with_two word (a ∷ b ∷ arrow ∷ fields) =
    number_in a >>= λ a. number_in b >>= λ b. step_of_two word a b >>= λ step. answered step arrow fields
with_two word _ = None

-- a step of three numbers, and its answer
abbrev pub with_three : StepWord → Fields → Option (Step × Answer)
with_three word (a ∷ b ∷ c ∷ arrow ∷ fields) =
    number_in a >>= λ a. number_in b >>= λ b. number_in c >>= λ c.
    step_of_three word a b c >>= λ step. answered step arrow fields
with_three word _ = None

-- the step of four numbers, and its answer
abbrev pub with_four : Fields → Option (Step × Answer)
with_four (a ∷ b ∷ c ∷ d ∷ arrow ∷ fields) =
    number_in a >>= λ a. number_in b >>= λ b. number_in c >>= λ c. number_in d >>= λ d.
    step_of_four a b c d >>= λ step. answered step arrow fields
with_four _ = None

-- a step of this word and its answer: the word tells how many numbers there are
abbrev pub pair_in : StepWord → Fields → Option (Step × Answer)
pair_in words.Adjust fields = with_four fields
pair_in words.Share fields = with_one words.Share fields
pair_in words.Assign fields = with_one words.Assign fields
pair_in words.Pop fields = with_one words.Pop fields
pair_in words.Commit fields = with_one words.Commit fields
pair_in words.Cancel fields = with_one words.Cancel fields
pair_in words.Retire fields = with_one words.Retire fields
pair_in words.Enter fields = with_one words.Enter fields
pair_in words.Leave fields = with_one words.Leave fields
pair_in words.Push fields = with_two words.Push fields
pair_in words.Remap fields = with_two words.Remap fields
pair_in words.Pend fields = with_two words.Pend fields
pair_in words.Read fields = with_two words.Read fields
pair_in words.Take fields = with_two words.Take fields
pair_in words.Load fields = with_two words.Load fields
pair_in words.Caa fields = with_two words.Caa fields
pair_in words.Drop fields = with_two words.Drop fields
pair_in word fields = with_three word fields

-- ENTRIES

-- an entry with these numbers: its core has 32 bits
abbrev pub numbered_entry : ℕ → ℕ → ℕ → List ℕ → Fields → Option Entry
numbered_entry ticket core place word fields =
    below (2 ^ 32) core >>= λ core. step_word word >>= λ word. pair_in word fields >>= λ pair.
    Some (record { ticket = ticket; core = core; place = place; step = pair.0; answer = pair.1 })

-- the entry that the fields of a line write, whatever the form of their numbers
abbrev pub entry_in : Fields → Option Entry
entry_in (step ∷ ticket ∷ core ∷ place ∷ word ∷ fields) =
    if bytes_eq step (codes "step")
    then (number_in ticket >>= λ ticket. number_in core >>= λ core. number_in place >>= λ place.
    numbered_entry ticket core place word fields)
    else None
entry_in _ = None
