-- The places of entries, at the indices of their tickets. This module's own.
use Rattle.std.specs.Prelude.{ℕ, List, [], ◌∷◌, map, slice_set}
use Rattle.svsm_steps.specs.declared.entry.Entry.{Entry}

-- the place of each entry
abbrev pub places_in : List Entry → List ℕ
places_in entries = map (λ (entry : Entry). entry.place) entries

-- the list after the place of each of the entries was put at the index of its ticket
abbrev pub marked : List Entry → List ℕ → List ℕ
marked [] order = order
marked (entry ∷ entries) order = marked entries (slice_set order entry.ticket entry.place)
