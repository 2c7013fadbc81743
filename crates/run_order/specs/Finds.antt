-- What stands next of a core among entries. This module's own.
use Rattle.std.specs.Prelude.{◌≡◌, ◌⊎◌, ℕ, ◌+◌, ◌<◌, ◌≤◌, All, List, [], ◌∷◌, ◌++◌, length, take, slice_get, Option, None, Some}
use Rattle.svsm_steps.specs.declared.step.Step.{Step}
use Rattle.svsm_steps.specs.declared.entry.Entry.{Entry}
use Rattle.svsm_steps.specs.declared.call.Got.TheVariants as gets
use Rattle.svsm_steps.specs.Made.{Made, made_by}
use Rattle.call_decode.specs.Goes.{IsInMap}
use Rattle.run_order.specs.declared.reader.Found.{Found}
use Rattle.run_order.specs.declared.reader.Found.TheVariants as finds
use Rattle.run_order.specs.declared.reader.Stop.{Stop}
use Rattle.run_order.specs.declared.reader.Stop.TheVariants as stops

-- each block that was popped lies in the largest map
abbrev pub AreInMap : List Entry → Type 0
AreInMap entries = All (λ (entry : Entry). IsInMap (gets.Answer entry.answer)) entries

-- what a core made among the first entries, so many
abbrev pub made_before : ℕ → List Entry → ℕ → List Made
made_before core entries at = made_by core (take at entries)

-- the next entry of the core from an index on is this one, at this index
pub record IsNextAt (core : ℕ) (entries : List Entry) (from at : ℕ) (entry : Entry) : Type 0 where
  pub rises : from ≤ at
  pub within : at < length entries
  pub there : slice_get entries at ≡ Some entry
  pub own : entry.core ≡ core
  pub first : made_before core entries at ≡ made_before core entries from

-- it stands at this index, or there is none
abbrev pub IsNext : ℕ → List Entry → ℕ → Option ℕ → Type 0
IsNext core entries from (Some at) = (entry : Entry) × IsNextAt core entries from at entry
IsNext core entries from None = made_by core entries ≡ made_before core entries from

-- why a core that asks for this step goes no further
abbrev pub StopsAt : ℕ → List Entry → ℕ → Step → Stop → Type 0
StopsAt core entries from step stops.Waits = made_by core entries ≡ made_before core entries from
StopsAt core entries from step (stops.Breaks at) = (entry : Entry) × IsNextAt core entries from at entry × (entry.step ≡ step → ⊥)

-- the entry before this index is one of the core
pub record IsBehind (core : ℕ) (entries : List Entry) (at : ℕ) : Type 0 where
  pub last : ℕ
  pub entry : Entry
  pub place : at ≡ last + 1
  pub there : slice_get entries last ≡ Some entry
  pub own : entry.core ≡ core

-- from one index to another: none was read, or the last that was read stands before it
pub record GoesOn (core : ℕ) (entries : List Entry) (old new : ℕ) : Type 0 where
  pub rises : old ≤ new
  pub behind : (new ≡ old) ⊎ IsBehind core entries new

-- what the core's next entry is to a step; it is read where it has that step
abbrev pub Finds : ℕ → List Entry → ℕ → Step → Found → ℕ → Type 0
Finds core entries old step (finds.Made ticket answer) new =
    GoesOn core entries old new
    × (made_before core entries new ≡ made_before core entries old ++ record { ticket = ticket; step = step; answer = answer } ∷ [])
    × IsInMap (gets.Answer answer)
Finds core entries old step (finds.Not stop) new = (new ≡ old) × StopsAt core entries old step stop
