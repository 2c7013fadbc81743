-- The laws of all runs, together; and why cores end.
use Rattle.std.proofs.Common.{◌≡◌, ℕ, zero, suc, ◌<◌, ◌≤◌, ◌+◌, Bool, true, false, Option, None, Some, List, [], ◌∷◌, ◌++◌, length, map, refl, sym, ap, ◌∙◌, subst, ⊎_elim, inl, inr, arith, length-append}
use Rattle.std.specs.Prelude.{◌⊎◌, ◌==◌, if◌then◌else◌, filter, Contains}
use Rattle.std.proofs.lemmas.Bool.{eqb-true, eq-eqb}
use Rattle.std.proofs.lemmas.List.Elements.{Contains-append_cases, Contains-append_right}
use Rattle.svsm_types.specs.declared.image.Image.{Image}
use Rattle.svsm_types.specs.declared.image.CoreLine.{CoreLine}
use Rattle.svsm_types.specs.declared.image.HostLine.{HostLine}
use Rattle.svsm_types.specs.declared.call.Regs.{Regs}
use Rattle.svsm_types.specs.declared.request.Request.{Request}
use Rattle.svsm_types.specs.declared.request.Request.TheVariants as requests
use Rattle.svsm_steps.specs.declared.step.Step.{Step}
use Rattle.svsm_steps.specs.declared.step.Step.TheVariants.{Leave}
use Rattle.svsm_steps.specs.declared.answer.Answer.{Answer}
use Rattle.svsm_steps.specs.declared.answer.Answer.TheVariants.{Fault}
use Rattle.svsm_steps.specs.declared.call.Caller.{Caller}
use Rattle.svsm_steps.specs.declared.entry.Entry.{Entry}
use Rattle.svsm_steps.specs.declared.outcome.Outcome.{Outcome}
use Rattle.svsm_steps.specs.declared.outcome.CoreEnd.{CoreEnd}
use Rattle.svsm_steps.specs.declared.outcome.CoreEnd.TheVariants as ends
use Rattle.svsm_steps.specs.declared.outcome.CoreRun.{CoreRun}
use Rattle.svsm_steps.specs.Image.{constants_of, booted}
use Rattle.svsm_steps.specs.Made.{Made, made_of, made_by}
use Rattle.svsm_steps.specs.Partition.{of_core}
use Rattle.svsm_steps.specs.Region.{fault_at}
use Rattle.svsm_steps.specs.Requests.{AreScripts}
use Rattle.svsm_calls.specs.Events.{Event, pairs_of, started, polled, sent}
use Rattle.svsm_calls.specs.World.{Scripted, fresh_world, world_after, run_answer, AreGiven}
use Rattle.svsm_calls.specs.CoreRun.{IsCoreRun, done, faulted, host, ArePieces, none, one_more, IsPiece, IsCallPiece, IsStepPiece, outside, stepped, IsRunRequest, not_due, right, IsCallCut, IsCutOff, run_value}
use Rattle.svsm_calls.specs.Waves.{is_among}
use Rattle.svsm_calls.specs.Run.{IsRun, IsStarted, IsCore, AreCores, script_of}
use Rattle.svsm_calls.proofs.Bounds.{piece_steps, cut_off_steps, core_steps}
use Rattle.svsm_calls.proofs.Success.{admitted_succeeds}
use Rattle.svsm_run_laws.specs.Accounted.{EndsFor, EndsByFault, OfOneRequest, RunsAreAccounted}
use Rattle.svsm_run_laws.specs.CutOff.{EndsInCall}
use Rattle.svsm_run_laws.proofs.Lists.{contains_head, contains_tail, contains_cases, contains_middle}
use Rattle.svsm_run_laws.proofs.Filtered.{First, filtered}
use Rattle.svsm_run_laws.proofs.Waves.{Line, of_waves, of_lines, line_of}
use Rattle.svsm_run_laws.proofs.Formed.{runs_stay_consistent}
use Rattle.svsm_run_laws.proofs.Every.{keep_partition, none_odd}
use Rattle.svsm_run_laws.proofs.OwnRowsRuns.{reserved_rows_are, cores_are_entered}
use Rattle.svsm_run_laws.proofs.Served.{runs_leave_others}
use Rattle.svsm_run_laws.proofs.Resumed.{once_in_runs, calls_are_in_order}
use Rattle.svsm_run_laws.proofs.Announced.{host_knows_pairs}
use Rattle.svsm_run_laws.proofs.CutOff.{cut_in_runs, core_cut}
use Rattle.svsm_run_laws.proofs.Alone.{cores_apart_answer_alone}
use Rattle.svsm_run_laws.proofs.Total.{bounds_the_run}
use Rattle.svsm_run_laws.proofs.Alike.{AreCalm, listed_calm, pairs_calm, pieces_calm}

-- WHAT STANDS IN A HISTORY

-- what a core made stands in the history
record IsMadeIn (trace : List Entry) (core : ℕ) (m : Made) : Type 0 where
  entry : Entry
  of_trace : Contains trace entry
  of_core : entry.core ≡ core
  is : made_of entry ≡ m

mapped : (entries : List Entry) (m : Made) → Contains (map made_of entries) m → (entry : Entry) × Contains entries entry × (made_of entry ≡ m)
mapped [] m h = absurd (let low = h.1 in omega arith)
mapped (entry ∷ entries) m h =
    ⊎_elim (λ (same : made_of entry ≡ m). (entry, contains_head entry entries, same))
    (λ (rest : Contains (map made_of entries) m).
    let found = mapped entries m rest in (found.0, contains_tail entry found.0 entries found.1, found.2))
    (contains_cases (made_of entry) m (map made_of entries) h)

made_in : (trace : List Entry) (core : ℕ) (m : Made) → Contains (made_by core trace) m → IsMadeIn trace core m
made_in trace core m h =
    let found = mapped (of_core core trace) m h in
    let first : First (λ (x : Entry). x.core == core) trace found.0 = filtered (λ (x : Entry). x.core == core) trace found.0 found.1 in
    record { entry = found.0; of_trace = first.of_it; of_core = eqb-true found.0.core core first.passes; is = found.2 }

mapped_in : (entries : List Entry) (entry : Entry) → Contains entries entry → Contains (map made_of entries) (made_of entry)
mapped_in [] entry h = absurd (let low = h.1 in omega arith)
mapped_in (one ∷ entries) entry h =
    ⊎_elim
    (λ (same : one ≡ entry).
    subst (λ (x : Entry). Contains (made_of one ∷ map made_of entries) (made_of x)) same (contains_head (made_of one) (map made_of entries)))
    (λ (rest : Contains entries entry). contains_tail (made_of one) (made_of entry) (map made_of entries) (mapped_in entries entry rest))
    (contains_cases one entry entries h)

kept_by : {A : Type 0} (test : A → Bool) (y : A) (ys : List A) (x : A) (b : Bool) → test y ≡ b → test x ≡ true
    → (Contains ys x → Contains (filter test ys) x) → (y ≡ x) ⊎ Contains ys x
    → Contains (if b then y ∷ filter test ys else filter test ys) x
kept_by test y ys x true is passes more has =
    ⊎_elim (λ (same : y ≡ x). subst (λ z. Contains (y ∷ filter test ys) z) same (contains_head y (filter test ys)))
    (λ (rest : Contains ys x). contains_tail y x (filter test ys) (more rest)) has
kept_by test y ys x false is passes more has =
    ⊎_elim (λ (same : y ≡ x). let no : test x ≡ false = ap test (sym same) ∙ is in cc) more has

kept : {A : Type 0} (test : A → Bool) (xs : List A) (x : A) → test x ≡ true → Contains xs x → Contains (filter test xs) x
kept test [] x passes h = absurd (let low = h.1 in omega arith)
kept test (y ∷ ys) x passes h = kept_by test y ys x (test y) refl passes (kept test ys x passes) (contains_cases y x ys h)

-- WHY A CORE ENDS

-- how many run requests are among events
abbrev pub sends : List Event → ℕ
sends [] = 0
sends (started number ∷ events) = sends events
sends (polled stops ∷ events) = sends events
sends (sent value got ∷ events) = suc (sends events)

sends_both : (front back : List Event) → sends (front ++ back) ≡ sends front + sends back
sends_both [] back = omega arith
sends_both (started number ∷ front) back = sends_both front back
sends_both (polled stops ∷ front) back = sends_both front back
sends_both (sent value got ∷ front) back = let rest = sends_both front back in omega arith

polls_send : (polls : List Bool) → sends (map polled polls) ≡ 0
polls_send [] = refl
polls_send (stops ∷ polls) = polls_send polls

call_sends : (pend : Bool) (caller : Caller) (regs : Regs) (number : ℕ) (made : List Made) (events : List Event) (outcome : Outcome)
    → IsCallPiece pend caller regs number made events outcome → sends events ≡ 0
call_sends pend caller regs number made events outcome is = ap sends is.asked ∙ polls_send is.polls

step_sends : (caller : Caller) (page : ℕ) (step : Step) (made : List Made) (events : List Event) (outcome : Outcome)
    → IsStepPiece caller page step made events outcome → sends events ≡ 0
step_sends caller page step _ _ _ (outside out) = refl
step_sends caller page step _ _ _ (stepped ticket answer outcome in_map listed is) = refl

-- a request's own events have no run request
piece_sends : (caller : Caller) (request : Request) (made : List Made) (events : List Event) (outcome : Outcome)
    → IsPiece caller request made events outcome → sends events ≡ 0
piece_sends caller (requests.Call regs number) made events outcome is = call_sends true caller regs number made events outcome is
piece_sends caller (requests.Exit regs number) made events outcome is = call_sends false caller regs number made events outcome is
piece_sends caller (requests.Write vmpl gpa word) made events outcome is = step_sends caller _ _ made events outcome is
piece_sends caller (requests.Read vmpl gpa) made events outcome is = step_sends caller _ _ made events outcome is
piece_sends caller (requests.Adjust vmpl page target mask) made events outcome is = step_sends caller _ _ made events outcome is
piece_sends caller (requests.Share page) made events outcome is = step_sends caller _ _ made events outcome is
piece_sends caller (requests.Assign page) made events outcome is = step_sends caller _ _ made events outcome is

runs_send : (caller : Caller) (due : Bool) (runs : List Event) → IsRunRequest caller due runs → sends runs ≤ 1
runs_send caller _ _ not_due = omega arith
runs_send caller _ _ (right got good) = omega arith

-- there is at most one run request for each request
pieces_send : (caller : Caller) (script : List Request) (made : List Made) (events : List Event) (outcomes : List Outcome) (now : Caller) (due : Bool)
    → ArePieces caller script made events outcomes now due → sends events ≤ length script
pieces_send caller _ _ _ _ _ _ none = omega arith
pieces_send caller _ _ _ _ _ _ (one_more before made events outcomes now due request steps runs asked outcome pieces run piece) =
    let few : sends events ≤ length before = pieces_send caller before made events outcomes now due pieces in
    let one : sends runs ≤ 1 = runs_send now due runs run in
    let no_more : sends asked ≡ 0 = piece_sends now request steps asked outcome piece in
    omega (arith, sends_both events (runs ++ asked), sends_both runs asked, length-append before (request ∷ []))

-- the last of some events is a run request, which was answered by the lines
given_last : (lines : List HostLine) (core : ℕ) (world : Scripted) (events : List Event) (value got : ℕ)
    → AreGiven lines core world (events ++ sent value got ∷ []) → got ≡ run_answer lines core (world.runs + sends events)
given_last lines core world [] value got h =
    let number : world.runs ≡ world.runs + 0 = omega arith in h.0 ∙ ap (λ (n : ℕ). run_answer lines core n) number
given_last lines core world (started number ∷ events) value got h = given_last lines core (world_after world (started number)) events value got h.1
given_last lines core world (polled stops ∷ events) value got h = given_last lines core (world_after world (polled stops)) events value got h.1
given_last lines core world (sent other answer ∷ events) value got h =
    let number : world.runs + 1 + sends events ≡ world.runs + suc (sends events) = omega arith in
    given_last lines core (world_after world (sent other answer)) events value got h.1 ∙ ap (λ (n : ℕ). run_answer lines core n) number

core_ends : (image : Image) (scripts : List (List Request)) (trace : List Entry) (core : ℕ) (first : Made) (caller : Caller) (script : List Request) (made : List Made)
    (events : List Event) (outcomes : List Outcome) (end : CoreEnd)
    → IsCoreRun caller script made events outcomes end → AreGiven image.host core fresh_world events → script ≡ script_of scripts core
    → made_by core trace ≡ first ∷ made → EndsFor image scripts trace core end
core_ends image scripts trace core first caller script _ _ _ _ (done made events outcomes now due ticket answer p l) given its same = tt
core_ends image scripts trace core first caller script _ _ _ _ (faulted before after request made steps events runs asked outcomes now due ticket e p r c) given its same =
    core_cut trace core ticket first caller script (made ++ steps) _ outcomes (ends.Faulted ticket)
    (faulted before after request made steps events runs asked outcomes now due ticket e p r c) refl same
core_ends image scripts trace core first caller script _ _ _ _ (host before after request made events outcomes now got e p wrong) given its same =
    let few : sends events ≤ length before = pieces_send caller before made events outcomes now true p in
    let script_is : length (script_of scripts core) ≡ length (before ++ request ∷ after) = ap (λ (s : List Request). length s) (sym its ∙ e) in
    let many : length (before ++ request ∷ after) ≡ length before + suc (length after) = length-append before (request ∷ after) in
    let number : 0 + sends events ≡ sends events = omega arith in
    (sends events, omega arith, given_last image.host core fresh_world events (run_value now) got given ∙ ap (λ (n : ℕ). run_answer image.host core n) number, wrong)

core_is : (ran : Bool) (image : Image) (scripts : List (List Request)) (trace : List Entry) (core : ℕ) (run : CoreRun)
    → IsCore ran image core (script_of scripts core) (made_by core trace) run → EndsFor image scripts trace run.core run.end
core_is true image scripts trace core run is =
    subst (λ (c : ℕ). EndsFor image scripts trace c run.end) (sym is.0)
    (core_ends image scripts trace core _ _ (script_of scripts core) is.1.rest is.1.events run.outcomes run.end is.1.run is.1.given refl is.1.begins)
core_is false image scripts trace core run is = subst (EndsFor image scripts trace run.core) (sym is.2) tt

pub cores_end : (image : Image) (scripts : List (List Request)) (trace : List Entry) (ran : List ℕ) (core : ℕ) (lines : List CoreLine) (runs : List CoreRun)
    → AreCores image scripts trace ran core lines runs → (run : CoreRun) → Contains runs run → EndsFor image scripts trace run.core run.end
cores_end image scripts trace ran core [] [] is run has = absurd (let low = has.1 in omega arith)
cores_end image scripts trace ran core [] (one ∷ runs) is run has = absurd is
cores_end image scripts trace ran core (line ∷ lines) [] is run has = absurd is
cores_end image scripts trace ran core (line ∷ lines) (one ∷ runs) is run has =
    ⊎_elim
    (λ (same : one ≡ run).
    subst (λ (r : CoreRun). EndsFor image scripts trace r.core r.end) same (core_is (is_among core ran) image scripts trace core one is.0))
    (λ (rest : Contains runs run). cores_end image scripts trace ran (core + 1) lines runs is.1 run rest)
    (contains_cases one run runs has)

-- a core that a fault ended has an entry that faulted, with the ticket that is told
pub record FaultStands (trace : List Entry) (core ticket : ℕ) : Type 0 where
  pub entry : Entry
  pub of_trace : Contains trace entry
  pub of_core : entry.core ≡ core
  pub of_ticket : entry.ticket ≡ ticket
  pub micros : ℕ
  pub faults : fault_at entry.answer ≡ Some micros

pub fault_stands : (trace : List Entry) (core ticket : ℕ) → EndsInCall trace core ticket → FaultStands trace core ticket
fault_stands trace core ticket is =
    let m : Made = record { ticket = ticket; step = is.cut_off.step; answer = Fault is.cut_off.performed } in
    let own : Contains (map made_of is.own) m =
    subst (λ (l : List Made). Contains l m) (sym is.cut_off.made_is) (contains_middle is.cut_off.before m []) in
    let found = mapped is.own m own in
    let its : Contains (of_core core trace) found.0 =
    subst (λ (l : List Entry). Contains l found.0) (sym is.last) (Contains-append_right is.before is.own found.0 found.1) in
    let first : First (λ (x : Entry). x.core == core) trace found.0 = filtered (λ (x : Entry). x.core == core) trace found.0 its in
    record {
      entry = found.0;
      of_trace = first.of_it;
      of_core = eqb-true found.0.core core first.passes;
      of_ticket = ap (λ (x : Made). x.ticket) found.2;
      micros = is.cut_off.performed;
      faults = ap (λ (x : Made). fault_at x.answer) found.2;
    }

-- EACH FAULT ENDS ITS CORE

calm_at : (made : List Made) → AreCalm made → (m : Made) → Contains made m → fault_at m.answer ≡ None
calm_at [] calm m has = absurd (let low = has.1 in omega arith)
calm_at (one ∷ made) calm m has =
    ⊎_elim (λ (same : one ≡ m). subst (λ (x : Made). fault_at x.answer ≡ None) same calm.0)
    (λ (rest : Contains made m). calm_at made calm.1 m rest)
    (contains_cases one m made has)

-- of the steps of a request that was cut off just the last faulted
cut_last : (pend : Bool) (caller : Caller) (regs : Regs) (number : ℕ) (steps : List Made) (events : List Event) (ticket : ℕ)
    → IsCallCut pend caller regs number steps events ticket → (m : Made) (micros : ℕ) → Contains steps m → fault_at m.answer ≡ Some micros
    → m.ticket ≡ ticket
cut_last pend caller regs number steps events ticket is m micros has fault =
    let its : Made = record { ticket = ticket; step = is.step; answer = Fault is.performed } in
    ⊎_elim
    (λ (front : Contains is.before m). let calm = calm_at is.before (pairs_calm is.before is.listed) m front in cc)
    (λ (last : Contains (record { ticket = ticket; step = is.step; answer = Fault is.performed } ∷ []) m).
    ⊎_elim (λ (same : record { ticket = ticket; step = is.step; answer = Fault is.performed } ≡ m). ap (λ (x : Made). x.ticket) (sym same))
    (λ (rest : Contains [] m). absurd (let low = rest.1 in omega arith))
    (contains_cases (record { ticket = ticket; step = is.step; answer = Fault is.performed }) m [] last))
    (Contains-append_cases is.before (record { ticket = ticket; step = is.step; answer = Fault is.performed } ∷ []) m
    (subst (λ (l : List Made). Contains l m) is.made_is has))

cut_off_last : (caller : Caller) (request : Request) (steps : List Made) (events : List Event) (ticket : ℕ)
    → IsCutOff caller request steps events ticket → (m : Made) (micros : ℕ) → Contains steps m → fault_at m.answer ≡ Some micros → m.ticket ≡ ticket
cut_off_last caller (requests.Call regs number) steps events ticket is = cut_last true caller regs number steps events ticket is
cut_off_last caller (requests.Exit regs number) steps events ticket is = cut_last false caller regs number steps events ticket is
cut_off_last caller (requests.Write vmpl gpa word) steps events ticket is = absurd is
cut_off_last caller (requests.Read vmpl gpa) steps events ticket is = absurd is
cut_off_last caller (requests.Adjust vmpl page target mask) steps events ticket is = absurd is
cut_off_last caller (requests.Share page) steps events ticket is = absurd is
cut_off_last caller (requests.Assign page) steps events ticket is = absurd is

fault_ends : (caller : Caller) (script : List Request) (made : List Made) (events : List Event) (outcomes : List Outcome) (end : CoreEnd)
    → IsCoreRun caller script made events outcomes end → (m : Made) (micros : ℕ) → Contains made m → fault_at m.answer ≡ Some micros
    → end ≡ ends.Faulted m.ticket
fault_ends caller script _ _ _ _ (done made events outcomes now due ticket answer p l) m micros has fault =
    let leave : Made = record { ticket = ticket; step = Leave caller.apic; answer = answer } in
    let calm : fault_at m.answer ≡ None =
    ⊎_elim (λ (front : Contains made m). calm_at made (pieces_calm caller script made events outcomes now due p) m front)
    (λ (back : Contains (leave ∷ []) m). calm_at (leave ∷ []) (listed_calm (Leave caller.apic) answer l, tt) m back)
    (Contains-append_cases made (leave ∷ []) m has) in
    cc
fault_ends caller script _ _ _ _ (faulted first after request made steps events runs asked outcomes now due ticket e p r c) m micros has fault =
    ⊎_elim
    (λ (front : Contains made m). let calm = calm_at made (pieces_calm caller first made events outcomes now due p) m front in cc)
    (λ (back : Contains steps m). ap (λ (n : ℕ). ends.Faulted n) (sym (cut_off_last now request steps asked ticket c m micros back fault)))
    (Contains-append_cases made steps m has)
fault_ends caller script _ _ _ _ (host first after request made events outcomes now got e p wrong) m micros has fault =
    let calm = calm_at made (pieces_calm caller first made events outcomes now true p) m has in cc

started_by_fault : (image : Image) (core : ℕ) (script : List Request) (made : List Made) (outcomes : List Outcome) (end : CoreEnd)
    → IsStarted image core script made outcomes end → (m : Made) (micros : ℕ) → Contains made m → fault_at m.answer ≡ Some micros
    → end ≡ ends.Faulted m.ticket
started_by_fault image core script made outcomes end is m micros has fault =
    ⊎_elim
    (λ (enters : record { ticket = is.ticket; step = _; answer = _ } ≡ m).
    let calm : fault_at m.answer ≡ None = ap (λ (x : Made). fault_at x.answer) (sym enters) in cc)
    (λ (rest : Contains is.rest m). fault_ends _ script is.rest is.events outcomes end is.run m micros rest fault)
    (contains_cases _ m is.rest (subst (λ (l : List Made). Contains l m) is.begins has))

-- what a core of a wave made
its_run : (image : Image) (scripts : List (List Request)) (trace : List Entry) (cores : List CoreRun) (run : IsRun image scripts trace cores)
    (core : ℕ) → is_among core run.ran ≡ true
    → (line : CoreRun) × Contains cores line × IsCore true image core (script_of scripts core) (made_by core trace) line
its_run image scripts trace cores run core among =
    let low : core < length image.cores = of_lines image trace run.ran run.exits run.waves core among in
    let line : Line image scripts trace run.ran cores core = line_of image scripts trace run.ran cores core run.each low in
    (line.run, line.of_run, subst (λ (b : Bool). IsCore b image core (script_of scripts core) (made_by core trace) line.run) among line.gave)

pub ends_by_fault : (image : Image) (scripts : List (List Request)) (trace : List Entry) (cores : List CoreRun) → IsRun image scripts trace cores
    → (entry : Entry) (micros : ℕ) → Contains trace entry → fault_at entry.answer ≡ Some micros → EndsByFault cores entry
ends_by_fault image scripts trace cores run entry micros has fault =
    let its = its_run image scripts trace cores run entry.core (of_waves image trace run.ran run.exits run.waves entry has) in
    let own : Contains (made_by entry.core trace) (made_of entry) =
    mapped_in (of_core entry.core trace) entry (kept (λ (x : Entry). x.core == entry.core) trace entry (eq-eqb entry.core entry.core refl) has) in
    record {
      run = its.0;
      of_run = its.1;
      of_core = its.2.0;
      ends = started_by_fault image entry.core (script_of scripts entry.core) (made_by entry.core trace) its.0.outcomes its.0.end its.2.1
          (made_of entry) micros own fault;
    }

-- HOW MANY ENTRIES THERE ARE

request_steps : (steps : List Made) → OfOneRequest steps → length steps ≤ 4097
request_steps steps (caller, request, events, inl (outcome, is)) = piece_steps caller request steps events outcome is
request_steps steps (caller, request, events, inr (ticket, is)) = cut_off_steps caller request steps events ticket is

script_is_few : (scripts : List (List Request)) (core : ℕ) → AreScripts scripts → length (script_of scripts core) ≤ 128
script_is_few [] core formed = omega arith
script_is_few (script ∷ scripts) zero formed = (formed zero [] (omega arith)).few
script_is_few (script ∷ scripts) (suc core) formed = script_is_few scripts core (λ k none low. formed (suc k) none (omega (arith, low)))

core_steps_of : (image : Image) (scripts : List (List Request)) (trace : List Entry) (cores : List CoreRun) → AreScripts scripts
    → (run : IsRun image scripts trace cores) (core : ℕ) (b : Bool) → is_among core run.ran ≡ b
    → (made : List Made) → made_by core trace ≡ made → length made ≤ 524418
core_steps_of image scripts trace cores formed run core true among made is =
    let its = its_run image scripts trace cores run core among in
    subst (λ (l : List Made). length l ≤ 524418) is
    (core_steps image core (script_of scripts core) (made_by core trace) its.0.outcomes its.0.end (script_is_few scripts core formed) its.2.1)
core_steps_of image scripts trace cores formed run core false among [] is = omega arith
core_steps_of image scripts trace cores formed run core false among (m ∷ made) is =
    let here : IsMadeIn trace core m = made_in trace core m (subst (λ (l : List Made). Contains l m) (sym is) (contains_head m made)) in
    let there : is_among core run.ran ≡ true =
    subst (λ (c : ℕ). is_among c run.ran ≡ true) here.of_core (of_waves image trace run.ran run.exits run.waves here.entry here.of_trace) in
    absurd cc

-- ALL LAWS

pub runs_are_accounted : RunsAreAccounted
runs_are_accounted image scripts trace cores sound formed run = record {
  consistent = λ front back split. runs_stay_consistent image scripts trace cores front back sound formed run split;
  partition = keep_partition image scripts trace cores sound run;
  reserved = λ front back split. reserved_rows_are image scripts trace cores front back sound run split;
  entered = λ front back split. cores_are_entered image scripts trace cores front back sound run split;
  none_odd = none_odd image scripts trace cores sound run;
  leaves_others = runs_leave_others image scripts trace cores sound run;
  once = once_in_runs (constants_of image) 0 (booted image) trace run.legal;
  in_order = calls_are_in_order (constants_of image) 0 (booted image) trace run.legal;
  cut_off = cut_in_runs (constants_of image) 0 (booted image) trace run.legal;
  alone = cores_apart_answer_alone image scripts trace cores sound formed run;
  host_knows = λ front back ran exits split waves on. host_knows_pairs image front ran exits waves on;
  few_of_requests = λ core before steps after stands is. request_steps steps is;
  few_of_cores = λ core. core_steps_of image scripts trace cores formed run core (is_among core run.ran) refl (made_by core trace) refl;
  few_in_all = bounds_the_run image scripts trace cores run;
  admitted = λ core pend caller regs steps polls end stands is quiet.
      admitted_succeeds pend caller regs (pairs_of steps) polls end stands.call is quiet;
  ends = cores_end image scripts trace run.ran 0 image.cores cores run.each;
  faults = ends_by_fault image scripts trace cores run;
}
