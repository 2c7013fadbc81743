-- Logs, and their entries in the order of their tickets.
use Rattle.std.specs.Prelude.{◌≡◌, ℕ, ◌+◌, ◌<◌, ◌==◌, List, [], ◌∷◌, Some, length, slice_get, ⊤}
use Rattle.std.specs.List.{count_by, flat_map}
use Rattle.std.specs.declared.vec.Vec.{Vec}
use Rattle.svsm_steps.specs.declared.entry.Entry.{Entry}
use Rattle.svsm_steps.specs.Histories.{HaveTicketsFrom}
use Rattle.svsm_steps.specs.Lawful.{AreBelow}
use Rattle.svsm_steps.specs.Places.{of_place}

-- how often a ticket stands in the entries
abbrev pub times : ℕ → List Entry → ℕ
times ticket entries = count_by (λ (entry : Entry). entry.ticket == ticket) entries

-- the entries of all logs, log after log
abbrev pub entries_in : {A : Type 0} → List (Vec Entry A) → List Entry
entries_in logs = flat_map (λ log. log.items) logs

-- a ticket is below those of the entries
abbrev pub IsBelow : ℕ → List Entry → Type 0
IsBelow ticket [] = ⊤
IsBelow ticket (entry ∷ entries) = (ticket < entry.ticket) × IsBelow ticket entries

-- each ticket is below those after it
abbrev pub IsRising : List Entry → Type 0
IsRising [] = ⊤
IsRising (entry ∷ entries) = IsBelow entry.ticket entries × IsRising entries

-- The logs are those of one history: its tickets are 0, 1 and so on, and the log at p is what it has of the place p, for each
-- place of the map.
pub record AreLogsOf {A : Type 0} (regions : ℕ) (history : List Entry) (logs : List (Vec Entry A)) : Type 0 where
  pub in_order : HaveTicketsFrom 0 history
  pub below : AreBelow regions history
  pub as_many : length logs ≡ regions + 2
  pub each : (place : ℕ) (log : Vec Entry A) → slice_get logs place ≡ Some log → log.items ≡ of_place place history
