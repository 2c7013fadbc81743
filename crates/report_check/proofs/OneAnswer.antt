-- A report of a run is refused for no reason.
use Rattle.std.proofs.Common.{◌≡◌, ℕ, ◌+◌, List, [], ◌∷◌, length, take, drop, refl, sym, ◌∙◌, ap, arith, subst, inl, inr, ◌⊎◌, ⊎_elim}
use Rattle.std.specs.Prelude.{Result, Ok, Err, slice_index}
use Rattle.std.proofs.lemmas.List.{take-append-drop}
use Rattle.svsm_types.specs.Numbers.{Numbers}
use Rattle.svsm_types.specs.declared.image.Image.{Image}
use Rattle.svsm_types.specs.declared.request.Request.{Request}
use Rattle.svsm_steps.specs.declared.entry.Entry.{Entry}
use Rattle.svsm_steps.specs.declared.outcome.CoreRun.{CoreRun}
use Rattle.svsm_steps.specs.State.{State, Constants}
use Rattle.svsm_steps.specs.Image.{constants_of, booted, booted_numbers}
use Rattle.svsm_steps.specs.Machine.{IsRunFrom, kind, next}
use Rattle.svsm_steps.specs.DueFaults.{FollowsPlatform, numbers_after}
use Rattle.svsm_calls.specs.Waves.{AreWaves}
use Rattle.svsm_calls.specs.Run.{IsRun}
use Rattle.svsm_calls.proofs.OneRun.{one_run}
use Rattle.svsm_text.specs.Lines.{lines}
use Rattle.history_reader.specs.Texts.{HistoryIs, HistoryFails}
use Rattle.history_reader.proofs.OneHistory.{one_history, is_or_fails, one_failing}
use Rattle.run_trees.specs.Order.{IsOrdered, IsFront, BreaksOrder}
use Rattle.report_check.specs.declared.error.CheckError.{CheckError}
use Rattle.report_check.specs.declared.error.CheckError.TheVariants as errors
use Rattle.history_play.specs.Differs.{DiffersAt}
use Rattle.history_play.specs.Plays.{BreaksPlay, BreaksDue}
use Rattle.report_check.proofs.OneReason.{one_play, one_due, one_break, one_difference}
use Rattle.report_check.proofs.OneWaves.{one_waves}
use Rattle.report_check.specs.Check.{text_of, IsRunText, HasRun, HasFaults, Checks}

-- no entry of a run breaks it
pub runs_play : (constants : Constants) (n : ℕ) (state : State) (entries : List Entry) (at : ℕ) → IsRunFrom constants n state entries → BreaksPlay constants n state entries at → ⊥
runs_play constants n state [] at run breaks = breaks
runs_play constants n state (entry ∷ entries) at run breaks =
    ⊎_elim (λ here. here.0 (run.0, (run.1.0, run.1.1.0))) (λ later. runs_play constants (n + 1) (next constants state entry) entries at run.1.1.1 later.1) breaks

pub follows_due : (constants : Constants) (n : ℕ) (numbers : ℕ → Numbers) (state : State) (entries : List Entry) (at : ℕ) → FollowsPlatform constants numbers state entries
    → BreaksDue constants n numbers state entries at → ⊥
follows_due constants n numbers state [] at follows breaks = breaks
follows_due constants n numbers state (entry ∷ entries) at follows breaks =
    ⊎_elim (λ here. here.0 follows.0)
    (λ later. follows_due constants (n + 1) (numbers_after (kind entry.step) constants numbers state entry.step entry.answer) (next constants state entry) entries at follows.1 later.1) breaks

-- the order of a run is not broken
pub ordered : (image : Image) (scripts : List (List Request)) (entries : List Entry) (cores : List CoreRun) → IsRun image scripts entries cores → IsOrdered image scripts entries cores
ordered image scripts entries cores run = record { ran = run.ran; exits = run.exits; waves = run.waves; over = run.over; each = run.each }

pub is_run : (image : Image) (scripts : List (List Request)) (entries : List Entry) (cores : List CoreRun) → IsRunFrom (constants_of image) 0 (booted image) entries
    → FollowsPlatform (constants_of image) (booted_numbers image) (booted image) entries → IsOrdered image scripts entries cores → IsRun image scripts entries cores
is_run image scripts entries cores legal faults order = record { ran = order.ran; exits = order.exits; legal = legal; faults = faults; waves = order.waves; over = order.over; each = order.each }

front : (image : Image) (scripts : List (List Request)) (entries : List Entry) (cores : List CoreRun) (n : ℕ) → IsOrdered image scripts entries cores → IsFront image scripts (take n entries)
front image scripts entries cores n order = record {
  more = drop n entries;
  cores = cores;
  ordered = subst (λ (l : List Entry). IsOrdered image scripts l cores) (sym (take-append-drop n entries)) order;
}

unbroken : (image : Image) (scripts : List (List Request)) (entries : List Entry) (cores : List CoreRun) (at : ℕ) → IsOrdered image scripts entries cores → BreaksOrder image scripts entries at → ⊥
unbroken image scripts entries cores at order breaks =
    ⊎_elim (λ early. early.2 (front image scripts entries cores (at + 1) order)) (λ late. late.2 cores order) breaks

-- equal texts differ nowhere
same_text : (one other : List ℕ) (at : ℕ) → one ≡ other → DiffersAt one other at → ⊥
same_text one other at is differs =
    ⊎_elim (λ here. here.2 (ap (λ (l : List ℕ). slice_index l at) is))
    (λ ends. ⊎_elim (λ first. absurd (omega (arith, ap length is, first.0, first.1))) (λ second. absurd (omega (arith, ap length is, second.0, second.1))) ends)
    differs.here

-- ONE ANSWER

-- the answers are one, or memory was wanted
abbrev pub OneOf : Result (Unit {0}) CheckError → Result (Unit {0}) CheckError → Type 0
OneOf result other = (result ≡ other) ⊎ ((result ≡ Err errors.NoMemory) ⊎ (other ≡ Err errors.NoMemory))

-- each reason excludes what comes behind it
no_report : (image : Image) (report : List ℕ) (entries : List Entry) (line : ℕ) → HistoryFails image.regions 1 (lines report) line → HistoryIs image.regions (lines report) entries → ⊥
no_report image report entries line fails part = is_or_fails image.regions 1 (lines report) entries line part fails

no_play : (image : Image) (report : List ℕ) (entries others : List Entry) (at : ℕ) → HistoryIs image.regions (lines report) entries
    → BreaksPlay (constants_of image) 0 (booted image) entries at → HasRun image report others → ⊥
no_play image report entries others at part breaks has =
    runs_play (constants_of image) 0 (booted image) others at has.legal
    (subst (λ (l : List Entry). BreaksPlay (constants_of image) 0 (booted image) l at) (one_history image.regions (lines report) entries others part has.part) breaks)

no_due : (image : Image) (report : List ℕ) (entries others : List Entry) (at : ℕ) → HasRun image report entries
    → BreaksDue (constants_of image) 0 (booted_numbers image) (booted image) entries at → HasFaults image report others → ⊥
no_due image report entries others at has breaks faults =
    follows_due (constants_of image) 0 (booted_numbers image) (booted image) others at faults.faults
    (subst (λ (l : List Entry). BreaksDue (constants_of image) 0 (booted_numbers image) (booted image) l at)
    (one_history image.regions (lines report) entries others has.part faults.run.part) breaks)

no_order : (image : Image) (scripts : List (List Request)) (report : List ℕ) (entries others : List Entry) (cores : List CoreRun) (at : ℕ) → HasFaults image report entries
    → BreaksOrder image scripts entries at → HasFaults image report others → IsOrdered image scripts others cores → ⊥
no_order image scripts report entries others cores at has breaks also order =
    unbroken image scripts others cores at order
    (subst (λ (l : List Entry). BreaksOrder image scripts l at) (one_history image.regions (lines report) entries others has.run.part also.run.part) breaks)

-- the text of a run has its parts
run_of : (image : Image) (scripts : List (List Request)) (report : List ℕ) (is : IsRunText image scripts report) → HasRun image report is.entries
run_of image scripts report is = record { part = is.part; legal = is.run.legal }

faults_of : (image : Image) (scripts : List (List Request)) (report : List ℕ) (is : IsRunText image scripts report) → HasFaults image report is.entries
faults_of image scripts report is = record { run = run_of image scripts report is; faults = is.run.faults }

order_in : (image : Image) (scripts : List (List Request)) (report : List ℕ) (is : IsRunText image scripts report) → IsOrdered image scripts is.entries is.cores
order_in image scripts report is = ordered image scripts is.entries is.cores is.run

-- two places of one reason are one
same_play : (image : Image) (report : List ℕ) (entries others : List Entry) (at other : ℕ) → HistoryIs image.regions (lines report) entries
    → BreaksPlay (constants_of image) 0 (booted image) entries at → HistoryIs image.regions (lines report) others
    → BreaksPlay (constants_of image) 0 (booted image) others other → at ≡ other
same_play image report entries others at other part breaks also too =
    one_play (constants_of image) 0 (booted image) others at other
    (subst (λ (l : List Entry). BreaksPlay (constants_of image) 0 (booted image) l at) (one_history image.regions (lines report) entries others part also) breaks) too

same_due : (image : Image) (report : List ℕ) (entries others : List Entry) (at other : ℕ) → HasRun image report entries
    → BreaksDue (constants_of image) 0 (booted_numbers image) (booted image) entries at → HasRun image report others
    → BreaksDue (constants_of image) 0 (booted_numbers image) (booted image) others other → at ≡ other
same_due image report entries others at other has breaks also too =
    one_due (constants_of image) 0 (booted_numbers image) (booted image) others at other
    (subst (λ (l : List Entry). BreaksDue (constants_of image) 0 (booted_numbers image) (booted image) l at)
    (one_history image.regions (lines report) entries others has.part also.part) breaks) too

same_break : (image : Image) (scripts : List (List Request)) (report : List ℕ) (entries others : List Entry) (at other : ℕ) → HasFaults image report entries
    → BreaksOrder image scripts entries at → HasFaults image report others → BreaksOrder image scripts others other → at ≡ other
same_break image scripts report entries others at other has breaks also too =
    one_break image scripts others at other
    (subst (λ (l : List Entry). BreaksOrder image scripts l at) (one_history image.regions (lines report) entries others has.run.part also.run.part) breaks) too

-- two orders of a run have one text
same_texts : (image : Image) (scripts : List (List Request)) (report : List ℕ) (entries others : List Entry) (cores runs : List CoreRun) → HasFaults image report entries
    → (order : IsOrdered image scripts entries cores) → HasFaults image report others → (ordering : IsOrdered image scripts others runs)
    → text_of image entries cores order.exits ≡ text_of image others runs ordering.exits
same_texts image scripts report entries others cores runs has order also ordering =
    let same : entries ≡ others = one_history image.regions (lines report) entries others has.run.part also.run.part in
    let waves : AreWaves image others order.ran order.exits = subst (λ (l : List Entry). AreWaves image l order.ran order.exits) same order.waves in
    let run : IsRun image scripts others cores =
    subst (λ (l : List Entry). IsRun image scripts l cores) same (is_run image scripts entries cores has.run.legal has.faults order) in
    let gave : cores ≡ runs = one_run image scripts others cores runs run (is_run image scripts others runs also.run.legal also.faults ordering) in
    let told : order.exits ≡ ordering.exits = (one_waves image others order.ran ordering.ran order.exits ordering.exits waves ordering.waves).1 in
    ap (λ (l : List Entry). text_of image l cores order.exits) same ∙ ap (λ (c : List CoreRun). text_of image others c order.exits) gave
    ∙ ap (text_of image others runs) told

same_difference : (image : Image) (scripts : List (List Request)) (report : List ℕ) (entries others : List Entry) (cores runs : List CoreRun) (at other : ℕ)
    → HasFaults image report entries → (order : IsOrdered image scripts entries cores) → DiffersAt report (text_of image entries cores order.exits) at
    → HasFaults image report others → (ordering : IsOrdered image scripts others runs) → DiffersAt report (text_of image others runs ordering.exits) other → at ≡ other
same_difference image scripts report entries others cores runs at other has order differs also ordering too =
    one_difference report (text_of image others runs ordering.exits) at other
    (subst (λ (t : List ℕ). DiffersAt report t at) (same_texts image scripts report entries others cores runs has order also ordering) differs) too

no_text : (image : Image) (scripts : List (List Request)) (report : List ℕ) (entries : List Entry) (cores : List CoreRun) (at : ℕ) (is : IsRunText image scripts report)
    → HasFaults image report entries → (order : IsOrdered image scripts entries cores) → DiffersAt report (text_of image entries cores order.exits) at → ⊥
unfolding order_in ordered
no_text image scripts report entries cores at is has order differs =
    same_text report (text_of image entries cores order.exits) at
    (is.text ∙ same_texts image scripts report is.entries entries is.cores cores (faults_of image scripts report is) (order_in image scripts report is) has order) differs

-- a check has one answer, want of memory aside
pub one_answer : (image : Image) (scripts : List (List Request)) (report : List ℕ) (result other : Result (Unit {0}) CheckError) → Checks image scripts report result
    → Checks image scripts report other → OneOf result other
one_answer image scripts report (Err (errors.Report at)) (Err (errors.Report to)) is also = inl (ap (λ (n : ℕ). Err (errors.Report n)) (one_failing image.regions 1 (lines report) at to is also))
one_answer image scripts report (Err (errors.Report at)) (Err (errors.Play to)) is also = absurd (no_report image report also.0 at is also.1)
one_answer image scripts report (Err (errors.Report at)) (Err (errors.Due to)) is also = absurd (no_report image report also.0 at is also.1.part)
one_answer image scripts report (Err (errors.Report at)) (Err (errors.Order to)) is also = absurd (no_report image report also.0 at is also.1.run.part)
one_answer image scripts report (Err (errors.Report at)) (Err (errors.Text to)) is also = absurd (no_report image report also.0 at is also.2.run.part)
one_answer image scripts report (Err (errors.Report at)) (Ok to) is also = absurd (no_report image report also.entries at is also.part)
one_answer image scripts report (Err (errors.Report at)) (Err errors.NoMemory) is also = inr (inr refl)
one_answer image scripts report (Err (errors.Play at)) (Err (errors.Report to)) is also = absurd (no_report image report is.0 to also is.1)
one_answer image scripts report (Err (errors.Play at)) (Err (errors.Play to)) is also = inl (ap (λ (n : ℕ). Err (errors.Play n)) (same_play image report is.0 also.0 at to is.1 is.2 also.1 also.2))
one_answer image scripts report (Err (errors.Play at)) (Err (errors.Due to)) is also = absurd (no_play image report is.0 also.0 at is.1 is.2 also.1)
one_answer image scripts report (Err (errors.Play at)) (Err (errors.Order to)) is also = absurd (no_play image report is.0 also.0 at is.1 is.2 also.1.run)
one_answer image scripts report (Err (errors.Play at)) (Err (errors.Text to)) is also = absurd (no_play image report is.0 also.0 at is.1 is.2 also.2.run)
one_answer image scripts report (Err (errors.Play at)) (Ok to) is also = absurd (no_play image report is.0 also.entries at is.1 is.2 (run_of image scripts report also))
one_answer image scripts report (Err (errors.Play at)) (Err errors.NoMemory) is also = inr (inr refl)
one_answer image scripts report (Err (errors.Due at)) (Err (errors.Report to)) is also = absurd (no_report image report is.0 to also is.1.part)
one_answer image scripts report (Err (errors.Due at)) (Err (errors.Play to)) is also = absurd (no_play image report also.0 is.0 to also.1 also.2 is.1)
one_answer image scripts report (Err (errors.Due at)) (Err (errors.Due to)) is also = inl (ap (λ (n : ℕ). Err (errors.Due n)) (same_due image report is.0 also.0 at to is.1 is.2 also.1 also.2))
one_answer image scripts report (Err (errors.Due at)) (Err (errors.Order to)) is also = absurd (no_due image report is.0 also.0 at is.1 is.2 also.1)
one_answer image scripts report (Err (errors.Due at)) (Err (errors.Text to)) is also = absurd (no_due image report is.0 also.0 at is.1 is.2 also.2)
one_answer image scripts report (Err (errors.Due at)) (Ok to) is also = absurd (no_due image report is.0 also.entries at is.1 is.2 (faults_of image scripts report also))
one_answer image scripts report (Err (errors.Due at)) (Err errors.NoMemory) is also = inr (inr refl)
one_answer image scripts report (Err (errors.Order at)) (Err (errors.Report to)) is also = absurd (no_report image report is.0 to also is.1.run.part)
one_answer image scripts report (Err (errors.Order at)) (Err (errors.Play to)) is also = absurd (no_play image report also.0 is.0 to also.1 also.2 is.1.run)
one_answer image scripts report (Err (errors.Order at)) (Err (errors.Due to)) is also = absurd (no_due image report also.0 is.0 to also.1 also.2 is.1)
one_answer image scripts report (Err (errors.Order at)) (Err (errors.Order to)) is also = inl (ap (λ (n : ℕ). Err (errors.Order n)) (same_break image scripts report is.0 also.0 at to is.1 is.2 also.1 also.2))
one_answer image scripts report (Err (errors.Order at)) (Err (errors.Text to)) is also = absurd (no_order image scripts report is.0 also.0 also.1 at is.1 is.2 also.2 also.3)
one_answer image scripts report (Err (errors.Order at)) (Ok to) is also = absurd (no_order image scripts report is.0 also.entries also.cores at is.1 is.2 (faults_of image scripts report also) (order_in image scripts report also))
one_answer image scripts report (Err (errors.Order at)) (Err errors.NoMemory) is also = inr (inr refl)
one_answer image scripts report (Err (errors.Text at)) (Err (errors.Report to)) is also = absurd (no_report image report is.0 to also is.2.run.part)
one_answer image scripts report (Err (errors.Text at)) (Err (errors.Play to)) is also = absurd (no_play image report also.0 is.0 to also.1 also.2 is.2.run)
one_answer image scripts report (Err (errors.Text at)) (Err (errors.Due to)) is also = absurd (no_due image report also.0 is.0 to also.1 also.2 is.2)
one_answer image scripts report (Err (errors.Text at)) (Err (errors.Order to)) is also = absurd (no_order image scripts report also.0 is.0 is.1 to also.1 also.2 is.2 is.3)
one_answer image scripts report (Err (errors.Text at)) (Err (errors.Text to)) is also = inl (ap (λ (n : ℕ). Err (errors.Text n)) (same_difference image scripts report is.0 also.0 is.1 also.1 at to is.2 is.3 is.4 also.2 also.3 also.4))
one_answer image scripts report (Err (errors.Text at)) (Ok to) is also = absurd (no_text image scripts report is.0 is.1 at also is.2 is.3 is.4)
one_answer image scripts report (Err (errors.Text at)) (Err errors.NoMemory) is also = inr (inr refl)
one_answer image scripts report (Ok at) (Err (errors.Report to)) is also = absurd (no_report image report is.entries to also is.part)
one_answer image scripts report (Ok at) (Err (errors.Play to)) is also = absurd (no_play image report also.0 is.entries to also.1 also.2 (run_of image scripts report is))
one_answer image scripts report (Ok at) (Err (errors.Due to)) is also = absurd (no_due image report also.0 is.entries to also.1 also.2 (faults_of image scripts report is))
one_answer image scripts report (Ok at) (Err (errors.Order to)) is also = absurd (no_order image scripts report also.0 is.entries is.cores to also.1 also.2 (faults_of image scripts report is) (order_in image scripts report is))
one_answer image scripts report (Ok at) (Err (errors.Text to)) is also = absurd (no_text image scripts report also.0 also.1 to is also.2 also.3 also.4)
one_answer image scripts report (Ok at) (Ok to) is also = inl refl
one_answer image scripts report (Ok at) (Err errors.NoMemory) is also = inr (inr refl)
one_answer image scripts report (Err errors.NoMemory) other is also = inr (inl refl)

abbrev yes : Result (Unit {0}) CheckError
yes = Ok tt

not_memory : yes ≡ Err errors.NoMemory → ⊥
not_memory same = cc

pub told_yes : (image : Image) (scripts : List (List Request)) (report : List ℕ) (result : Result (Unit {0}) CheckError) → Checks image scripts report result
    → IsRunText image scripts report → (result ≡ Ok tt) ⊎ (result ≡ Err errors.NoMemory)
told_yes image scripts report result checks is =
    ⊎_elim (λ (same : result ≡ yes). inl same)
    (λ (rest : (result ≡ Err errors.NoMemory) ⊎ (yes ≡ Err errors.NoMemory)). ⊎_elim
    (λ (memory : result ≡ Err errors.NoMemory). inr memory) (λ (same : yes ≡ Err errors.NoMemory). absurd (not_memory same)) rest)
    (one_answer image scripts report result yes checks is)
