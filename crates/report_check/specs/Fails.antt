-- How the parts of a check fail.
use Rattle.std.specs.Prelude.{◌≡◌, ◌⊎◌, ℕ, List}
use Rattle.svsm_types.specs.declared.image.Image.{Image}
use Rattle.svsm_types.specs.declared.request.Request.{Request}
use Rattle.svsm_steps.specs.declared.entry.Entry.{Entry}
use Rattle.svsm_steps.specs.Image.{constants_of, booted}
use Rattle.svsm_text.specs.Lines.{lines}
use Rattle.history_reader.specs.Texts.{HistoryFails}
use Rattle.history_play.specs.Plays.{BreaksPlay}
use Rattle.run_trees.specs.Order.{BreaksOrder}
use Rattle.report_check.specs.declared.error.CheckError.{CheckError}
use Rattle.report_check.specs.declared.error.CheckError.TheVariants as errors

-- memory was wanted, or this line of the history part is the first that fails
abbrev pub FailsReport : ℕ → List ℕ → CheckError → Type 0
FailsReport regions report error =
    (error ≡ errors.NoMemory) ⊎ ((line : ℕ) × (error ≡ errors.Report line) × HistoryFails regions 1 (lines report) line)

-- memory was wanted, or this entry is the first that the machine does not follow
abbrev pub FailsPlay : Image → List Entry → CheckError → Type 0
FailsPlay image entries error =
    (error ≡ errors.NoMemory) ⊎ ((at : ℕ) × (error ≡ errors.Play at) × BreaksPlay (constants_of image) 0 (booted image) entries at)

-- memory was wanted, or this entry is the first that breaks the order
abbrev pub FailsOrder : Image → List (List Request) → List Entry → CheckError → Type 0
FailsOrder image scripts entries error =
    (error ≡ errors.NoMemory) ⊎ ((at : ℕ) × (error ≡ errors.Order at) × BreaksOrder image scripts entries at)
