-- What loads and writes do, and the causes of their faults. Nothing is said of bytes that are not told.
use Rattle.std.specs.Prelude.{◌≡◌, ◌+◌, ◌-◌, ◌⊎◌, ◌^◌, ◌<◌, ◌≤◌, ℕ, List, [], ◌∷◌, ◌++◌, length, take, min, Some, Result, Ok, Err}
use Rattle.std.specs.Io.KnownBytes.{Appends}
use Rattle.svsm_outside.specs.Views.{ShelfView, SinkView}
use Rattle.svsm_outside.specs.declared.shelf.LoadError.{LoadError}
use Rattle.svsm_outside.specs.declared.shelf.LoadError.TheVariants.{Failed, TooLong, NoMemory}

-- one more; a count stays at its greatest value once it is there
abbrev pub count_up : ℕ → ℕ
count_up before = min (before + 1) (2 ^ 64 - 1)

-- the count rose, or it stands at its greatest value
abbrev pub Rose : ℕ → ℕ → Type 0
Rose before now = count_up before ≤ now

-- no load failed
pub record Stays (before now : ShelfView) : Type 0 where
  pub faults : now.faults ≡ before.faults
  pub failed : now.failed ≡ before.failed

-- the load of this name failed: the count rose, and the name is the last that failed
pub record FailedAt (asked : List ℕ) (before now : ShelfView) : Type 0 where
  pub rose : Rose before.faults now.faults
  pub name : now.failed ≡ Some asked

-- what a load answers where these bytes stand under the name: all of them, where they are within the limit
abbrev pub Loads : {T : Type 0} → (T → List ℕ) → List ℕ → ℕ → Result T LoadError → Type 0
Loads items told limit (Ok v) = (items v ≡ told) × (length told ≤ limit)
Loads items told limit (Err TooLong) = limit < length told
Loads items told limit (Err _) = Unit {0}

-- where each answer of a load leaves the count and the last failed name
abbrev pub LoadCause : {T : Type 0} → List ℕ → ShelfView → ShelfView → Result T LoadError → Type 0
LoadCause name before now (Err Failed) = FailedAt name before now
LoadCause name before now _ = Stays before now

-- a load asks for its name, once; where it wants memory it may not have come to that
abbrev pub Asks : {T : Type 0} → List ℕ → ShelfView → ShelfView → Result T LoadError → Type 0
Asks name before now (Err NoMemory) = (now.asked ≡ before.asked) ⊎ (now.asked ≡ before.asked ++ (name ∷ []))
Asks name before now _ = now.asked ≡ before.asked ++ (name ∷ [])

-- the text stands behind what stood there, and no write failed
pub record IsWritten (before now : SinkView) (text : List ℕ) : Type 0 where
  pub bytes : Appends before.written now.written text
  pub calm : now.faults ≡ before.faults

-- a write failed: a proper front of the text stands behind what stood there
pub record IsWrittenInPart (before now : SinkView) (text : List ℕ) : Type 0 where
  pub count : ℕ
  pub proper : count < length text
  pub bytes : Appends before.written now.written (take count text)
  pub fault : Rose before.faults now.faults

-- the text was written, as far as the sink took it
abbrev pub Tells : SinkView → SinkView → List ℕ → Type 0
Tells before now text = IsWritten before now text ⊎ IsWrittenInPart before now text
