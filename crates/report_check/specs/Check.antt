-- The check of a report of an image that boots: when it is that of a run, and else the first reason why it is not.
use Rattle.std.specs.Prelude.{◌≡◌, ⊤, ℕ, false, List, Result, Ok, Err}
use Rattle.svsm_types.specs.declared.image.Image.{Image}
use Rattle.svsm_types.specs.declared.request.Request.{Request}
use Rattle.svsm_steps.specs.declared.entry.Entry.{Entry}
use Rattle.svsm_steps.specs.declared.outcome.CoreRun.{CoreRun}
use Rattle.svsm_steps.specs.State.{rmp_rows}
use Rattle.svsm_steps.specs.Machine.{IsRunFrom, state_after}
use Rattle.svsm_steps.specs.DueFaults.{FollowsPlatform}
use Rattle.svsm_steps.specs.Announced.{Announced}
use Rattle.svsm_steps.specs.Image.{constants_of, booted, booted_numbers}
use Rattle.svsm_calls.specs.Run.{IsRun}
use Rattle.svsm_text.specs.Lines.{lines}
use Rattle.report.specs.Report.{report_text}
use Rattle.ap_start.specs.Text.{told_lines}
use Rattle.history_reader.specs.Texts.{HistoryIs, HistoryFails}
use Rattle.run_trees.specs.Order.{IsOrdered, BreaksOrder}
use Rattle.report_check.specs.declared.error.CheckError.{CheckError}
use Rattle.report_check.specs.declared.error.CheckError.TheVariants as errors
use Rattle.history_play.specs.Differs.{DiffersAt}
use Rattle.history_play.specs.Plays.{BreaksPlay, BreaksDue}

-- the text of a run with its history, of its pages at the end, and of the exits by which the host was told of its vCPUs
abbrev pub text_of : Image → List Entry → List CoreRun → List Announced → List ℕ
text_of image entries cores exits =
    report_text false cores entries (rmp_rows image.regions (state_after (constants_of image) (booted image) entries)) (told_lines image exits)

-- The text of a run: the entries of the report's history part are a run of the image with these scripts, and the report is the text of
-- that run.
pub record IsRunText (image : Image) (scripts : List (List Request)) (report : List ℕ) : Type 0 where
  pub entries : List Entry
  pub cores : List CoreRun
  pub part : HistoryIs image.regions (lines report) entries
  pub run : IsRun image scripts entries cores
  pub text : report ≡ text_of image entries cores run.exits

-- the report has a history part with these entries, which are a run of the machine
pub record HasRun (image : Image) (report : List ℕ) (entries : List Entry) : Type 0 where
  pub part : HistoryIs image.regions (lines report) entries
  pub legal : IsRunFrom (constants_of image) 0 (booted image) entries

-- and fault where they are due to
pub record HasFaults (image : Image) (report : List ℕ) (entries : List Entry) : Type 0 where
  pub run : HasRun image report entries
  pub faults : FollowsPlatform (constants_of image) (booted_numbers image) (booted image) entries

-- what a check answers. The reasons are tried in this order, each over the whole list; want of memory is free
abbrev pub Checks : Image → List (List Request) → List ℕ → Result (Unit {0}) CheckError → Type 0
Checks image scripts report (Ok _) = IsRunText image scripts report
Checks image scripts report (Err (errors.Report line)) = HistoryFails image.regions 1 (lines report) line
Checks image scripts report (Err (errors.Play at)) =
    (entries : List Entry) × HistoryIs image.regions (lines report) entries × BreaksPlay (constants_of image) 0 (booted image) entries at
Checks image scripts report (Err (errors.Due at)) =
    (entries : List Entry) × HasRun image report entries
    × BreaksDue (constants_of image) 0 (booted_numbers image) (booted image) entries at
Checks image scripts report (Err (errors.Order at)) =
    (entries : List Entry) × HasFaults image report entries × BreaksOrder image scripts entries at
Checks image scripts report (Err (errors.Text at)) =
    (entries : List Entry) × (cores : List CoreRun) × HasFaults image report entries
    × (ordered : IsOrdered image scripts entries cores) × DiffersAt report (text_of image entries cores ordered.exits) at
Checks image scripts report (Err errors.NoMemory) = ⊤
