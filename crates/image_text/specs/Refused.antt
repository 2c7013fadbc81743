-- What is not saved, in the order in which it is tried.
use Rattle.std.specs.Prelude.{ℕ, ◌*◌, ◌==◌, nat_lt, Bool, true, false, ◌&&◌, ◌||◌, not, if◌then◌else◌, Option, Some, None, List, find, length, Result, Ok, Err}
use Rattle.std.specs.List.{range_with_len}
use Rattle.svsm_types.specs.Hardware.{same_truth}
use Rattle.svsm_types.specs.declared.image.Image.{Image}
use Rattle.svsm_steps.specs.declared.outcome.CoreEnd.{CoreEnd}
use Rattle.svsm_steps.specs.declared.outcome.CoreEnd.TheVariants.{Done, Unstarted, Faulted, Host}
use Rattle.svsm_steps.specs.declared.outcome.CoreRun.{CoreRun}
use Rattle.svsm_steps.specs.State.{State, page_at, recorded_at}
use Rattle.image_text.specs.declared.error.SaveError.{SaveError}
use Rattle.image_text.specs.declared.error.SaveError.TheVariants as errors
use Rattle.image_text.specs.Saved.{saved}
use Rattle.image_text.specs.Written.{image_text}

-- a core ended by a fault or a wrong answer of the host
abbrev pub ended_early : CoreEnd → Bool
ended_early Done = false
ended_early Unstarted = false
ended_early (Faulted ticket) = true
ended_early (Host sent got) = true

-- a page whose record differs from its being validated, or the GHCB page where it is assigned
abbrev pub is_unsaved : Image → State → ℕ → Bool
is_unsaved image state page =
    not (same_truth (recorded_at page state) (page_at page state).validated)
    || (page == image.ghcb.0 && (page_at page state).assigned)

-- the first core that ended early
abbrev pub first_core : List CoreRun → Option CoreRun
first_core cores = find (λ (run : CoreRun). ended_early run.end) cores

-- the first page that no image can say
abbrev pub first_unsaved_page : Image → State → Option ℕ
first_unsaved_page image state = find (is_unsaved image state) (range_with_len 0 (512 * image.regions))

-- an image has at most so many bytes
abbrev pub longest : ℕ
longest = 16777216

-- the text that is saved, or why none is
abbrev pub text_if_short : List ℕ → Result (List ℕ) SaveError
text_if_short text = if nat_lt longest (length text) then Err errors.Long else Ok text

-- where all cores ended and the host refused nothing, the first page that no image can say decides
abbrev pub by_page : Option ℕ → List ℕ → Result (List ℕ) SaveError
by_page (Some page) text = Err (errors.Page (record { 0 = page }))
by_page None text = text_if_short text

-- where all cores ended, an exit that the host refused comes before the pages
abbrev pub by_host : Option (ℕ × ℕ) → Option ℕ → List ℕ → Result (List ℕ) SaveError
by_host (Some kept) page text = Err (errors.Host kept.0 kept.1)
by_host None page text = by_page page text

-- a core that ended early comes first
abbrev pub by_core : Option CoreRun → Option (ℕ × ℕ) → Option ℕ → List ℕ → Result (List ℕ) SaveError
by_core (Some run) refused page text = Err (errors.Core run.core)
by_core None refused page text = by_host refused page text

-- Core, Host, Page and Long, in this order; else the text of the saved image
abbrev pub save_told : Image → List CoreRun → Option (ℕ × ℕ) → State → Result (List ℕ) SaveError
save_told image cores refused state =
    by_core (first_core cores) refused (first_unsaved_page image state) (image_text (saved image state))
