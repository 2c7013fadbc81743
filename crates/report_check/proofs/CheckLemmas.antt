-- A part that fails is the answer of the check.
use Rattle.std.proofs.Common.{◌≡◌, ℕ, false, List, refl, sym, ◌∙◌, ap, subst, ⊎_elim, Option, None, Some}
use Rattle.std.specs.Prelude.{Bool, true, [], ◌++◌, if◌then◌else◌, Err, MatchOption}
use Rattle.svsm_types.specs.declared.image.Image.{Image}
use Rattle.svsm_types.specs.declared.request.Request.{Request}
use Rattle.svsm_steps.specs.declared.entry.Entry.{Entry}
use Rattle.svsm_types.specs.declared.owner.RmpRow.{RmpRow}
use Rattle.svsm_steps.specs.declared.outcome.CoreRun.{CoreRun}
use Rattle.svsm_steps.specs.State.{State, rmp_rows}
use Rattle.svsm_steps.specs.Machine.{IsRunFrom, state_after}
use Rattle.svsm_steps.specs.DueFaults.{FollowsPlatform}
use Rattle.svsm_steps.specs.Image.{constants_of, booted, booted_numbers}
use Rattle.svsm_text.specs.Lines.{lines}
use Rattle.report.specs.Report.{report_text}
use Rattle.history_play.specs.Differs.{DiffersAt}
use Rattle.history_play.specs.Plays.{BreaksDue}
use Rattle.run_trees.specs.Order.{IsOrdered}
use Rattle.run_order.specs.declared.order.WholeOrder.{WholeOrder}
use Rattle.run_order.specs.Orders.{IsWhole}
use Rattle.svsm_steps.specs.Announced.{Announced, exits_between}
use Rattle.svsm_calls.specs.Waves.{AreWaves, none, one_more, exits_of, rows_behind}
use Rattle.ap_start.specs.declared.exits.ApExit.{ApExit}
use Rattle.ap_start.specs.Exits.{taken, refused_exit}
use Rattle.ap_start.specs.Text.{ap_text, told_lines}
use Rattle.history_reader.specs.Texts.{HistoryIs}
use Rattle.report_check.specs.declared.error.CheckError.{CheckError}
use Rattle.report_check.specs.declared.error.CheckError.TheVariants as errors
use Rattle.report_check.specs.Check.{text_of, IsRunText, HasFaults, Checks}
use Rattle.report_check.specs.Fails.{FailsReport, FailsPlay, FailsOrder}

pub report_fails : (image : Image) (scripts : List (List Request)) (report : List ℕ) (error : CheckError) → FailsReport image.regions report error → Checks image scripts report (Err error)
report_fails image scripts report error fails = ⊎_elim
    (λ memory. subst (λ (e : CheckError). Checks image scripts report (Err e)) (sym memory) tt)
    (λ line. subst (λ (e : CheckError). Checks image scripts report (Err e)) (sym line.1) line.2) fails

pub play_fails : (image : Image) (scripts : List (List Request)) (report : List ℕ) (entries : List Entry) (error : CheckError) → HistoryIs image.regions (lines report) entries
    → FailsPlay image entries error → Checks image scripts report (Err error)
play_fails image scripts report entries error part fails = ⊎_elim
    (λ memory. subst (λ (e : CheckError). Checks image scripts report (Err e)) (sym memory) tt)
    (λ at. subst (λ (e : CheckError). Checks image scripts report (Err e)) (sym at.1) (entries, part, at.2)) fails

pub order_fails : (image : Image) (scripts : List (List Request)) (report : List ℕ) (entries : List Entry) (error : CheckError) → HasFaults image report entries
    → FailsOrder image scripts entries error → Checks image scripts report (Err error)
order_fails image scripts report entries error has fails = ⊎_elim
    (λ memory. subst (λ (e : CheckError). Checks image scripts report (Err e)) (sym memory) tt)
    (λ at. subst (λ (e : CheckError). Checks image scripts report (Err e)) (sym at.1) (entries, has, at.2)) fails

-- no entry is undue
pub none_undue : (image : Image) (entries : List Entry) (undue : Option ℕ) → undue ≡ None
    → MatchOption undue (FollowsPlatform (constants_of image) (booted_numbers image) (booted image) entries) (BreaksDue (constants_of image) 0 (booted_numbers image) (booted image) entries)
    → FollowsPlatform (constants_of image) (booted_numbers image) (booted image) entries
none_undue image entries undue lacks is =
    subst (λ (o : Option ℕ). MatchOption o (FollowsPlatform (constants_of image) (booted_numbers image) (booted image) entries) (BreaksDue (constants_of image) 0 (booted_numbers image) (booted image) entries)) lacks is

-- where no vCPU is announced the waves have no exits
told_nothing : (image : Image) (entries : List Entry) (ran : List ℕ) (exits : List Announced) → AreWaves image entries ran exits
    → image.announce ≡ false → exits ≡ []
told_nothing image _ _ _ none off = refl
told_nothing image _ _ _ (one_more entries ran cores wave exits before taken next some is) off =
    ap (λ (l : List Announced). l ++ exits_of image entries wave) (told_nothing image entries ran exits before off)
    ∙ ap (λ (b : Bool). if b then exits_between (rows_behind image entries) (rows_behind image (entries ++ wave)) else []) off

-- the lines on what the host was told, of an image that announces its vCPUs or not
told_by : (image : Image) (exits : List Announced) (announce : Bool) → image.announce ≡ announce → (image.announce ≡ false → exits ≡ [])
    → ap_text (taken image exits) (refused_exit image exits) ≡ (if announce then ap_text (taken image exits) (refused_exit image exits) else [])
told_by image exits true is lacks = refl
told_by image exits false is lacks = ap (λ (l : List Announced). ap_text (taken image l) (refused_exit image l)) (lacks is)

told_is : (image : Image) (scripts : List (List Request)) (entries : List Entry) (cores : List CoreRun) (ordered : IsOrdered image scripts entries cores)
    → ap_text (taken image ordered.exits) (refused_exit image ordered.exits) ≡ told_lines image ordered.exits
told_is image scripts entries cores ordered =
    told_by image ordered.exits image.announce refl (told_nothing image entries ordered.ran ordered.exits ordered.waves)

-- the text that is made of an order is that of its run
pub text_is : (image : Image) (scripts : List (List Request)) (entries : List Entry) (order : WholeOrder) (rows : List RmpRow)
    → (whole : IsWhole image scripts entries order) → rows ≡ rmp_rows image.regions (state_after (constants_of image) (booted image) entries)
    → report_text false order.cores entries rows (ap_text order.exits order.refused) ≡ text_of image entries order.cores whole.ordered.exits
text_is image scripts entries order rows whole stand =
    ap (λ (r : List RmpRow). report_text false order.cores entries r (ap_text order.exits order.refused)) stand
    ∙ ap (λ (t : List ℕ). report_text false order.cores entries (rmp_rows image.regions (state_after (constants_of image) (booted image) entries)) t)
    (ap (λ (e : List ApExit). ap_text e order.refused) whole.exits
    ∙ ap (λ (r : Option (ℕ × ℕ)). ap_text (taken image whole.ordered.exits) r) whole.refused
    ∙ told_is image scripts entries order.cores whole.ordered)

-- what stands when all but the text was checked: an order of the entries, with the text of its run
pub record Printed (image : Image) (scripts : List (List Request)) (report : List ℕ) (entries : List Entry) (cores : List CoreRun) (text : List ℕ) : Type 0 where
  pub has : HasFaults image report entries
  pub ordered : IsOrdered image scripts entries cores
  pub is : text ≡ text_of image entries cores ordered.exits

pub printed : (image : Image) (scripts : List (List Request)) (report : List ℕ) (entries one two three : List Entry) (order : WholeOrder) (rows given : List RmpRow) (state : State) (text : List ℕ)
    → HistoryIs image.regions (lines report) entries → one ≡ entries → two ≡ entries → three ≡ entries → given ≡ rows
    → IsRunFrom (constants_of image) 0 (booted image) one → FollowsPlatform (constants_of image) (booted_numbers image) (booted image) one → state ≡ state_after (constants_of image) (booted image) one
    → IsWhole image scripts two order → rows ≡ rmp_rows image.regions state → text ≡ report_text false order.cores three given (ap_text order.exits order.refused)
    → Printed image scripts report entries order.cores text
printed image scripts report entries one two three order rows given state text part first second third gave legal faults after whole stand prints =
    let has : HasFaults image report entries = record {
      run = record { part = part; legal = subst (λ (l : List Entry). IsRunFrom (constants_of image) 0 (booted image) l) first legal };
      faults = subst (λ (l : List Entry). FollowsPlatform (constants_of image) (booted_numbers image) (booted image) l) first faults;
    } in
    let here : IsWhole image scripts entries order = subst (λ (l : List Entry). IsWhole image scripts l order) second whole in
    let pages : given ≡ rmp_rows image.regions (state_after (constants_of image) (booted image) entries) =
    gave ∙ stand ∙ ap (rmp_rows image.regions) (after ∙ ap (state_after (constants_of image) (booted image)) first) in
    record {
      has = has;
      ordered = here.ordered;
      is = prints ∙ ap (λ (l : List Entry). report_text false order.cores l given (ap_text order.exits order.refused)) third
          ∙ text_is image scripts entries order given here pages;
    }

pub text_differs : (image : Image) (scripts : List (List Request)) (report : List ℕ) (entries : List Entry) (cores : List CoreRun) (text : List ℕ) (place : Option ℕ) (at : ℕ)
    → Printed image scripts report entries cores text → MatchOption place (report ≡ text) (DiffersAt report text) → place ≡ Some at
    → Checks image scripts report (Err (errors.Text at))
text_differs image scripts report entries cores text place at prints told is = (
  entries,
  cores,
  prints.has,
  prints.ordered,
  subst (λ (t : List ℕ). DiffersAt report t at) prints.is
      (subst (λ (o : Option ℕ). MatchOption o (report ≡ text) (DiffersAt report text)) is told),
)

pub text_same : (image : Image) (scripts : List (List Request)) (report : List ℕ) (entries : List Entry) (cores : List CoreRun) (text : List ℕ) (place : Option ℕ)
    → Printed image scripts report entries cores text → MatchOption place (report ≡ text) (DiffersAt report text) → place ≡ None
    → IsRunText image scripts report
text_same image scripts report entries cores text place prints told is = record {
  entries = entries;
  cores = cores;
  part = prints.has.run.part;
  run = record {
    ran = prints.ordered.ran;
    exits = prints.ordered.exits;
    legal = prints.has.run.legal;
    faults = prints.has.faults;
    waves = prints.ordered.waves;
    over = prints.ordered.over;
    each = prints.ordered.each;
  };
  text = subst (λ (o : Option ℕ). MatchOption o (report ≡ text) (DiffersAt report text)) is told ∙ prints.is;
}
