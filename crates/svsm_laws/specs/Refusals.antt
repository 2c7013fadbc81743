-- A step that is refused changes nothing, and 4K entries never join.
use Rattle.std.specs.Prelude.{◌≡◌, ℕ, ◌<◌, ◌==◌, Bool, true, false, IsTrue, is_none, List, slice_index_or}
use Rattle.svsm_types.specs.declared.image.Image.{Image}
use Rattle.svsm_types.specs.Pages.{region_of}
use Rattle.svsm_types.specs.Hardware.{blank}
use Rattle.svsm_steps.specs.declared.step.Step.{Step}
use Rattle.svsm_steps.specs.declared.step.Step.TheVariants.{Validate}
use Rattle.svsm_steps.specs.declared.answer.Answer.{Answer}
use Rattle.svsm_steps.specs.declared.answer.Answer.TheVariants.{Done, Word, Denied, Refused, Unchanged, Hw, BadVmsa, Strange, Held, Block, Empty, Seen, Taken, Unknown, Running, Fault}
use Rattle.svsm_steps.specs.declared.entry.Entry.{Entry}
use Rattle.svsm_types.specs.declared.platform.Size.TheVariants.{Small}
use Rattle.svsm_steps.specs.Checks.{refusal}
use Rattle.svsm_steps.specs.Registry.{rows_refusal}
use Rattle.svsm_steps.specs.State.{State, Constants, RegionState, AreSized}
use Rattle.svsm_steps.specs.Image.{range_of, page_in, is_held_large, booted}
use Rattle.svsm_steps.specs.Machine.{Kind, region, pool, registry, kind, own_region, Leads, state_after}

-- the answers of a step that did not do what it was asked for
abbrev pub is_refusing : Answer → Bool
is_refusing Denied = true
is_refusing Refused = true
is_refusing Unchanged = true
is_refusing (Hw code) = true
is_refusing (Strange owner) = true
is_refusing (Empty left) = true
is_refusing Taken = true
is_refusing Unknown = true
is_refusing Running = true
is_refusing Done = false
is_refusing (Word word) = false
is_refusing BadVmsa = false
is_refusing (Held count) = false
is_refusing (Block page left) = false
is_refusing (Seen page caa) = false
is_refusing (Fault done) = false

-- a PVALIDATE in 4K may split the 2M entry of its page's region, whatever it answers; no other refusal changes anything
abbrev pub may_split : ℕ → Step → Bool
may_split number (Validate vmpl page Small on) = region_of page.0 == number
may_split number _ = false

-- a region that is the same, but for the mark of its 2M entry, where the entry may be split
pub record IsSameRegion (splits : Bool) (old new : RegionState) : Type 0 where
  pub pages : new.hw.pages ≡ old.hw.pages
  pub words : new.hw.words ≡ old.hw.words
  pub owner : new.owner ≡ old.owner
  pub recorded : new.recorded ≡ old.recorded
  pub mark : splits ≡ false → new.hw.large ≡ old.hw.large
  pub unjoined : old.hw.large ≡ false → new.hw.large ≡ false

pub record IsSameState (step : Step) (old new : State) : Type 0 where
  pub regions : (number : ℕ) → IsSameRegion (may_split number step) (old.regions number) (new.regions number)
  pub pool : new.pool ≡ old.pool
  pub rows : new.rows ≡ old.rows

-- An entry with such an answer leaves the state as it was, but that a pvalidate in 4K may have split its 2M entry.
abbrev pub RefusalsChangeNothing : Type 0
RefusalsChangeNothing =
    (constants : Constants) (old : State) (entry : Entry) (new : State) → AreSized old → Leads constants old entry new
    → IsTrue (is_refusing entry.answer) → IsSameState entry.step old new

-- whether all checks of a step hold; those of the pool have none
abbrev pub is_admitted : Kind → Constants → State → ℕ → Step → Bool
is_admitted region constants state core step = is_none (refusal (own_region constants step state) step)
is_admitted pool constants state core step = true
is_admitted registry constants state core step = is_none (rows_refusal constants.cores state.rows core step)

-- A step that is not admitted leaves the whole state as it was.
abbrev pub NotAdmittedChangesNothing : Type 0
NotAdmittedChangesNothing =
    (constants : Constants) (old : State) (entry : Entry) (new : State) → Leads constants old entry new
    → is_admitted (kind entry.step) constants old entry.core entry.step ≡ false → new ≡ old

-- No step of a core makes a region one 2M entry.
abbrev pub NoneJoins : Type 0
NoneJoins =
    (constants : Constants) (old : State) (entry : Entry) (new : State) (number : ℕ) → Leads constants old entry new
    → (old.regions number).hw.large ≡ false → (new.regions number).hw.large ≡ false

-- the 512 pages of a region that is held as one 2M entry have one state
abbrev pub IsCommon : RegionState → Type 0
IsCommon r =
    r.hw.large ≡ true → (index other : ℕ) → index < 512 → other < 512
    → slice_index_or r.hw.pages index blank ≡ slice_index_or r.hw.pages other blank

-- each region held as 2M has one state for its pages
abbrev pub AreCommon : State → Type 0
AreCommon state = (number : ℕ) → IsCommon (state.regions number)

-- The pages of each 2M entry keep one common state.
abbrev pub StaysCommon : Type 0
StaysCommon =
    (constants : Constants) (state : State) (entries : List Entry) → AreSized state → AreCommon state
    → AreCommon (state_after constants state entries)

-- the pages of each region that an image holds as one 2M entry have one state
abbrev pub HasCommonLarge : Image → Type 0
HasCommonLarge image =
    (page other : ℕ) → IsTrue (is_held_large image (region_of page)) → region_of page ≡ region_of other
    → page_in (range_of image page) ≡ page_in (range_of image other)

-- They have one state in the booted state too.
abbrev pub BootedIsCommon : Type 0
BootedIsCommon = (image : Image) → HasCommonLarge image → AreCommon (booted image)
