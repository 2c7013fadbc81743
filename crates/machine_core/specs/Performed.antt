-- What a step gives: on a platform that faults what is due to fault, and where one micro-operation is struck by a fault.
use Rattle.std.specs.Prelude.{◌≡◌, ℕ, Option, None, Some, [], false}
use Rattle.svsm_types.specs.Numbers.{Numbers}
use Rattle.svsm_steps.specs.declared.step.Step.{Step}
use Rattle.svsm_steps.specs.declared.answer.Answer.{Answer}
use Rattle.svsm_steps.specs.declared.answer.Answer.TheVariants.{Fault}
use Rattle.svsm_steps.specs.State.{State, Constants}
use Rattle.svsm_steps.specs.Place.{place_of}
use Rattle.svsm_steps.specs.Plan.{step_row}
use Rattle.svsm_steps.specs.Region.{fault_at}
use Rattle.svsm_steps.specs.DueFaults.{due_at, numbers_after}
use Rattle.svsm_steps.specs.Machine.{Kind, region, pool, registry, kind, own_region, MayGive, next_by}
use Rattle.machine_region.specs.Micros.{hits}
use Rattle.machine_region.specs.Operations.{first_listed, Makes}
use Rattle.machine_region.specs.declared.carry.Carried.{Carried}
use Rattle.machine_core.specs.Standing.{Standing}

-- the first operation of a step that is listed, by the numbers of each region
abbrev pub listed_at : Kind → Constants → (ℕ → Numbers) → State → Step → Option ℕ
listed_at region constants numbers state step =
    first_listed 0 (numbers (place_of constants.regions step)) (step_row (own_region constants step state) step)
listed_at pool constants numbers state step = None
listed_at registry constants numbers state step = None

-- the same, by the numbers of a machine
abbrev pub listed_in : Standing → Step → Option ℕ
listed_in machine step = listed_at (kind step) machine.constants machine.numbers machine.state step

-- the step of a core gave this answer and left the state so, where at most one micro-operation is struck
pub record PerformsAs (struck : Option ℕ) (constants : Constants) (old : State) (core : ℕ) (step : Step)
    (answer : Answer) (new : State) : Type 0 where
  pub may : MayGive (kind step) constants old core step answer
  pub after : new ≡ next_by (kind step) constants old core step answer
  -- unless it was struck, a fault is the first that is due, where no operation number is listed
  pub due : (numbers : ℕ → Numbers) → ((region : ℕ) → (numbers region).faulting ≡ [])
      → hits struck (fault_at answer) ≡ false → fault_at answer ≡ due_at (kind step) constants numbers old step
  -- it is struck where the step may fault there
  pub exact : (done : ℕ) → struck ≡ Some done → MayGive (kind step) constants old core step (Fault done) → answer ≡ Fault done
  -- where it is struck at the first operation that is listed, a fault is the first that is due
  pub listed : (numbers : ℕ → Numbers) → struck ≡ listed_at (kind step) constants numbers old step
      → fault_at answer ≡ due_at (kind step) constants numbers old step

-- the machine's answer to a step of a core, where at most one micro-operation is struck
abbrev pub Answers : Option ℕ → ℕ → Step → Answer → Standing → Type 0
Answers struck core step answer machine =
    PerformsAs struck machine.constants machine.state core step answer
    (next_by (kind step) machine.constants machine.state core step answer)

-- the step of a region was carried out, whichever core it is of, and made so many operations, which are not counted yet
pub record Carries (struck : Option ℕ) (step : Step) (carried : Carried) (old new : Standing) : Type 0 where
  pub performs : (core : ℕ) → PerformsAs struck old.constants old.state core step carried.answer new.state
  pub makes : Makes (own_region old.constants step old.state) step carried.answer carried.operations
  pub numbers : new.numbers ≡ old.numbers

-- the step was carried out with this answer, where at most one micro-operation is struck, and its operations were counted
pub record SteppedAs (struck : Option ℕ) (core : ℕ) (step : Step) (answer : Answer) (old new : Standing) : Type 0 where
  pub performs : PerformsAs struck old.constants old.state core step answer new.state
  pub numbers : new.numbers ≡ numbers_after (kind step) old.constants old.numbers old.state step answer

-- a step with this answer makes so many operations of the platform, the one that faults among them; at the pool and the registry
-- it makes none
abbrev pub MakesAs : Kind → Constants → State → Step → Answer → ℕ → Type 0
MakesAs region constants state step answer count = Makes (own_region constants step state) step answer count
MakesAs pool constants state step answer count = count ≡ 0
MakesAs registry constants state step answer count = count ≡ 0

-- the step was carried out with this answer, and its operations were counted
pub record Stepped (core : ℕ) (step : Step) (answer : Answer) (old new : Standing) : Type 0 where
  -- an answer of the step relation, and the state after it
  pub may : MayGive (kind step) old.constants old.state core step answer
  pub after : new.state ≡ next_by (kind step) old.constants old.state core step answer
  -- a fault exactly where an operation is due to fault, and then at the first of them
  pub due : fault_at answer ≡ due_at (kind step) old.constants old.numbers old.state step
  pub numbers : new.numbers ≡ numbers_after (kind step) old.constants old.numbers old.state step answer
