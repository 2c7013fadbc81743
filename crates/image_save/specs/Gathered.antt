-- What is gathered of the places and cores.
use Rattle.std.specs.Prelude.{ℕ, ◌+◌, ◌*◌, ◌^◌, ◌<◌, ◌==◌, Bool, ◌&&◌, ◌||◌, not, if◌then◌else◌, Option, None, Some, List, [], ◌∷◌, map}
use Rattle.std.specs.List.{range_with_len}
use Rattle.svsm_types.specs.Hardware.{same_truth}
use Rattle.svsm_types.specs.declared.address.Page.{Page}
use Rattle.svsm_types.specs.declared.owner.RmpRow.{RmpRow}
use Rattle.svsm_steps.specs.declared.outcome.CoreRun.{CoreRun}

-- the words of a page, in their order
unfoldable pub page_words : ℕ → (ℕ → ℕ) → List ℕ
page_words page words = map (λ number. words (8 * number)) (range_with_len (512 * page) 512)

-- each word of a page has 64 bits
abbrev pub PageFits : ℕ → (ℕ → ℕ) → Type 0
PageFits page words = (column : ℕ) → column < 512 → words (8 * (512 * page + column)) < 2 ^ 64

-- no image can say the page with this row
abbrev pub is_unsaid : ℕ → ℕ → RmpRow → Bool
is_unsaid ghcb page row = not (same_truth row.recorded row.state.validated) || (page == ghcb && row.state.assigned)

-- the first such page, by the rows from a first page on
abbrev pub first_unsaid : ℕ → ℕ → List RmpRow → Option Page
first_unsaid ghcb page [] = None
first_unsaid ghcb page (row ∷ rows) =
    if is_unsaid ghcb page row then Some (record { 0 = page }) else first_unsaid ghcb (page + 1) rows

-- the number of a core
abbrev pub core_number : Option CoreRun → Option ℕ
core_number None = None
core_number (Some run) = Some run.core
