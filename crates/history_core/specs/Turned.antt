-- Logs that are read from their ends. This module's own.
use Rattle.std.specs.Prelude.{◌≡◌, ℕ, ◌<◌, List, [], map, length, slice_index_or, reverse}
use Rattle.std.specs.List.{All}
use Rattle.std.specs.declared.vec.Vec.{Vec}
use Rattle.svsm_steps.specs.declared.entry.Entry.{Entry}
use Rattle.svsm_steps.specs.Histories.{HaveTicketsFrom}
use Rattle.svsm_steps.specs.Places.{of_place}
use Rattle.history_core.specs.Marked.{places_in}

-- the entries of each log
abbrev pub contents : {A : Type 0} → List (Vec Entry A) → List (List Entry)
contents logs = map (λ log. log.items) logs

-- each has what a history has of its place, the last entry first
abbrev pub AreLeft : List Entry → List (List Entry) → Type 0
AreLeft history logs = (place : ℕ) → place < length logs → slice_index_or logs place [] ≡ reverse (of_place place history)

-- the logs of a history, each with its last entry first, and the places of its entries in their order
pub record IsTurned {A : Type 0} (history : List Entry) (logs : List (Vec Entry A)) (order : List ℕ) : Type 0 where
  pub in_order : HaveTicketsFrom 0 history
  pub places : order ≡ places_in history
  pub below : All (λ place. place < length logs) order
  pub left : AreLeft history (contents logs)
