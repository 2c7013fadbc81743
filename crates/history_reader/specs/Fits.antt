-- The numbers of an entry fit their fields: an entry of the program has no others.
use Rattle.std.specs.Prelude.{◌<◌, ◌^◌, ⊤}
use Rattle.svsm_steps.specs.declared.step.Step.{Step}
use Rattle.svsm_steps.specs.declared.step.Step.TheVariants as steps
use Rattle.svsm_steps.specs.declared.answer.Answer.{Answer}
use Rattle.svsm_steps.specs.declared.answer.Answer.TheVariants as answers
use Rattle.svsm_steps.specs.declared.entry.Entry.{Entry}

-- VMPLs and rights have 8 bits, next indices 16, APIC ids 32, the others 64
abbrev pub StepFits : Step → Type 0
StepFits (steps.GuestWrite vmpl gpa word) = (vmpl.0 < 2 ^ 8) × (gpa.0 < 2 ^ 64) × (word < 2 ^ 64)
StepFits (steps.GuestPend vmpl gpa) = (vmpl.0 < 2 ^ 8) × (gpa.0 < 2 ^ 64)
StepFits (steps.GuestRead vmpl gpa) = (vmpl.0 < 2 ^ 8) × (gpa.0 < 2 ^ 64)
StepFits (steps.GuestAdjust vmpl page target mask) =
    (vmpl.0 < 2 ^ 8) × (page.0 < 2 ^ 64) × (target < 2 ^ 8) × (mask < 2 ^ 8)
StepFits (steps.HostShare page) = page.0 < 2 ^ 64
StepFits (steps.HostAssign page) = page.0 < 2 ^ 64
StepFits (steps.TakePending vmpl gpa) = (vmpl.0 < 2 ^ 8) × (gpa.0 < 2 ^ 64)
StepFits (steps.LoadWord vmpl gpa) = (vmpl.0 < 2 ^ 8) × (gpa.0 < 2 ^ 64)
StepFits (steps.StoreNext vmpl gpa next) = (vmpl.0 < 2 ^ 8) × (gpa.0 < 2 ^ 64) × (next < 2 ^ 16)
StepFits (steps.StoreEntry vmpl gpa word) = (vmpl.0 < 2 ^ 8) × (gpa.0 < 2 ^ 64) × (word < 2 ^ 64)
StepFits (steps.SetAvail vmpl gpa on) = (vmpl.0 < 2 ^ 8) × (gpa.0 < 2 ^ 64)
StepFits (steps.ClearCaa vmpl gpa) = (vmpl.0 < 2 ^ 8) × (gpa.0 < 2 ^ 64)
StepFits (steps.Validate vmpl page size on) = (vmpl.0 < 2 ^ 8) × (page.0 < 2 ^ 64)
StepFits (steps.Deposit vmpl page size) = (vmpl.0 < 2 ^ 8) × (page.0 < 2 ^ 64)
StepFits (steps.Release vmpl page size) = (vmpl.0 < 2 ^ 8) × (page.0 < 2 ^ 64)
StepFits (steps.VmsaTake vmpl page features) = (vmpl.0 < 2 ^ 8) × (page.0 < 2 ^ 64) × (features < 2 ^ 64)
StepFits (steps.VmsaDrop vmpl page) = (vmpl.0 < 2 ^ 8) × (page.0 < 2 ^ 64)
StepFits (steps.PoolPush page size) = page.0 < 2 ^ 64
StepFits (steps.PoolPop size) = ⊤
StepFits (steps.Reserve apic page caa) = (apic < 2 ^ 32) × (page.0 < 2 ^ 64) × (caa.0 < 2 ^ 64)
StepFits (steps.Commit page) = page.0 < 2 ^ 64
StepFits (steps.Cancel page) = page.0 < 2 ^ 64
StepFits (steps.Retire page) = page.0 < 2 ^ 64
StepFits (steps.Remap apic caa) = (apic < 2 ^ 32) × (caa.0 < 2 ^ 64)
StepFits (steps.Enter apic) = apic < 2 ^ 32
StepFits (steps.Leave apic) = apic < 2 ^ 32

-- codes and counts of micro-operations have 8 bits, the others 64
abbrev pub AnswerFits : Answer → Type 0
AnswerFits (answers.Word word) = word < 2 ^ 64
AnswerFits (answers.Hw code) = code < 2 ^ 8
AnswerFits (answers.Held count) = count < 2 ^ 64
AnswerFits (answers.Block page left) = (page.0 < 2 ^ 64) × (left < 2 ^ 64)
AnswerFits (answers.Empty left) = left < 2 ^ 64
AnswerFits (answers.Seen page caa) = (page.0 < 2 ^ 64) × (caa.0 < 2 ^ 64)
AnswerFits (answers.Fault done) = done < 2 ^ 8
AnswerFits _ = ⊤

-- a core has 32 bits, ticket and place have 64
pub record Fits (entry : Entry) : Type 0 where
  pub ticket : entry.ticket < 2 ^ 64
  pub core : entry.core < 2 ^ 32
  pub place : entry.place < 2 ^ 64
  pub step : StepFits entry.step
  pub answer : AnswerFits entry.answer
