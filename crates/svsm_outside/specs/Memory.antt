-- What files in memory tell, and which of their loads fail.
use Rattle.std.specs.Prelude.{◌≡◌, ℕ, List, Option, Some, Result, Ok, Err, if◌then◌else◌, bytes_eq, map, string_bytes}
use Rattle.std.specs.Option.{option_map}
use Rattle.std.specs.BTreeMap.{get_by_text}
use Rattle.svsm_outside.specs.declared.memory_shelf.MemoryShelf.{MemoryShelf}
use Rattle.svsm_outside.specs.declared.shelf.LoadError.{LoadError}
use Rattle.svsm_outside.specs.declared.shelf.LoadError.TheVariants.{Failed, TooLong, NoMemory}
use Rattle.svsm_outside.specs.Views.{ShelfView}
use Rattle.svsm_outside.specs.Outside.{count_up}

-- the bytes of the file of this name
abbrev pub bytes_under : MemoryShelf → List ℕ → Option (List ℕ)
bytes_under shelf name = option_map (λ bytes. bytes.items) (get_by_text shelf.files name)

abbrev pub shelf_view : MemoryShelf → ShelfView
shelf_view shelf = record {
  told = bytes_under shelf;
  asked = map string_bytes shelf.asked.items;
  faults = shelf.faults;
  failed = option_map string_bytes shelf.failed;
}

-- these bytes under this name, and the others as they were
abbrev pub put_under : List ℕ → List ℕ → (List ℕ → Option (List ℕ)) → List ℕ → Option (List ℕ)
put_under name bytes told other = if bytes_eq other name then Some bytes else told other

-- a load fails exactly where this holds; want of memory is free
abbrev pub FailsExactly : {T : Type 0} → Type 0 → Result T LoadError → Type 0
FailsExactly Where (Ok v) = Where → ⊥
FailsExactly Where (Err Failed) = Where
FailsExactly Where (Err TooLong) = Where → ⊥
FailsExactly Where (Err NoMemory) = Unit {0}

-- each load has a number, but for one that wants memory
abbrev pub CountsLoad : {T : Type 0} → ℕ → ℕ → Result T LoadError → Type 0
CountsLoad before now (Err NoMemory) = now ≡ before
CountsLoad before now _ = now ≡ count_up before

-- each failed load is counted once
abbrev pub CountsFault : {T : Type 0} → ℕ → ℕ → Result T LoadError → Type 0
CountsFault before now (Err Failed) = now ≡ count_up before
CountsFault before now _ = now ≡ before
