-- A core's run leads along the tree of its script.
use Rattle.std.proofs.Common.{◌≡◌, ℕ, Bool, true, false, List, [], ◌∷◌, ◌++◌, refl, sym, ◌∙◌, ap, subst, Option, Some, map, append_assoc}
use Rattle.std.proofs.lemmas.List.{append-nil}
use Rattle.svsm_types.specs.Pages.{page_of, is_in_map}
use Rattle.svsm_types.specs.declared.address.Gpa.{Gpa}
use Rattle.svsm_types.specs.declared.image.HostLine.{HostLine}
use Rattle.svsm_types.specs.declared.call.Regs.{Regs}
use Rattle.svsm_types.specs.declared.request.Request.{Request}
use Rattle.svsm_types.specs.declared.request.Request.TheVariants as requests
use Rattle.svsm_steps.specs.declared.step.Step.{Step}
use Rattle.svsm_steps.specs.declared.step.Step.TheVariants.{Leave, GuestWrite, GuestRead, GuestAdjust, HostShare, HostAssign}
use Rattle.svsm_steps.specs.declared.answer.Answer.TheVariants.{Fault}
use Rattle.svsm_steps.specs.declared.call.Caller.{Caller}
use Rattle.svsm_steps.specs.declared.outcome.Outcome.{Outcome}
use Rattle.svsm_steps.specs.declared.outcome.Outcome.TheVariants as outcomes
use Rattle.svsm_steps.specs.declared.outcome.CoreEnd.{CoreEnd}
use Rattle.svsm_steps.specs.declared.outcome.CoreEnd.TheVariants as ends_of
use Rattle.svsm_steps.specs.Made.{Made}
use Rattle.svsm_calls.specs.Calls.{whole_call}
use Rattle.svsm_calls.specs.Events.{Event, started, polled, sent, pairs_of}
use Rattle.svsm_calls.specs.CoreRun.{area_by, area_after, caller_after, IsCallPiece, IsStepPiece, outside, stepped, IsPiece, IsCallCut, IsCutOff, run_value, is_run_answer, IsRunRequest, not_due, right, is_call, ArePieces, none, one_more, IsCoreRun, done, faulted, host}
use Rattle.svsm_calls.specs.World.{Scripted, fresh_world, world_after, run_answer, AreGiven}
use Rattle.svsm_calls.proofs.Whole.{call_complete}
use Rattle.run_trees.specs.Tree.{Tree, ended, call_tree, plain_outcome, step_tree, request_tree, run_tree, requests_tree, Follows}
use Rattle.run_trees.specs.Laws.{RunsAreTrees}
use Rattle.run_trees.proofs.CallTrees.{worlds_after, worlds_append, whole_follows, leads_follow, fault_follows, follows_on}

abbrev More : Type 0
More = Caller → Bool → Scripted → Outcome → Tree

-- what was given is given in parts
given_parts : (lines : List HostLine) (core : ℕ) (world : Scripted) (one other : List Event) → AreGiven lines core world (one ++ other)
    → AreGiven lines core world one × AreGiven lines core (worlds_after world one) other
given_parts lines core world [] other is = (tt, is)
given_parts lines core world (event ∷ one) other is =
    let rest = given_parts lines core (world_after world event) one other is.1 in ((is.0, rest.0), rest.1)

run_follows : (lines : List HostLine) (now : Caller) (due : Bool) (world : Scripted) (given : List Outcome) (more : Scripted → Tree) (runs : List Event) → IsRunRequest now due runs
    → AreGiven lines now.core world runs → run_tree due now lines world given more ≡ more (worlds_after world runs)
run_follows lines now _ world given more _ not_due told = refl
run_follows lines now _ world given more _ (right got is) told =
    let good : is_run_answer (run_answer lines now.core world.runs) ≡ true = ap is_run_answer (sym told.0) ∙ is in simp good

call_follows : (lines : List HostLine) (pend : Bool) (now : Caller) (regs : Regs) (number : ℕ) (world : Scripted) (given : List Outcome) (more : More) (steps : List Made) (asked : List Event) (outcome : Outcome)
    → IsCallPiece pend now regs number steps asked outcome → AreGiven lines now.core world asked
    → Follows (call_tree given (whole_call pend now regs) now.caa (record { wanted = number; polls = 0; runs = world.runs }) (λ outcome area after. more (record now { caa = area }) true after outcome)) steps
    (more (caller_after now steps) true (worlds_after world asked) outcome)
call_follows lines pend now regs number world given more steps asked outcome piece told =
    let whole = call_complete pend now regs (pairs_of steps) piece.polls piece.end piece.call in
    let same : AreGiven lines now.core world (started number ∷ map polled piece.polls) = subst (λ (l : List Event). AreGiven lines now.core world l) piece.asked told in
    subst (λ (l : List Event). Follows (call_tree given (whole_call pend now regs) now.caa (record { wanted = number; polls = 0; runs = world.runs }) (λ outcome area after. more (record now { caa = area }) true after outcome)) steps
    (more (caller_after now steps) true (worlds_after world l) outcome)) (sym piece.asked)
    (whole_follows lines now.core given (whole_call pend now regs) now.caa (record { wanted = number; polls = 0; runs = world.runs }) (λ outcome area after. more (record now { caa = area }) true after outcome)
    steps piece.polls piece.end outcome whole.0 whole.1 piece.gave same.1)

plain_area : Step → Type 0
plain_area step = (area : Gpa) → area_by step area ≡ area

step_follows : (now : Caller) (page : ℕ) (step : Step) (more : Caller → Outcome → Tree) (steps : List Made) (asked : List Event) (outcome : Outcome) → plain_area step → IsStepPiece now page step steps asked outcome
    → Follows (step_tree (is_in_map now.regions page) step (more now)) steps (more (caller_after now steps) outcome) × (asked ≡ [])
unfolding plain_area
step_follows now page step more _ _ _ stays (outside is) =
    (subst (λ (b : Bool). Follows (step_tree b step (more now)) [] (more now outcomes.Denied)) (sym is) refl, refl)
step_follows now page step more _ _ _ stays (stepped ticket answer outcome is listed gave) = (
  subst (λ (b : Bool). Follows (step_tree b step (more now)) (record { ticket = ticket; step = step; answer = answer } ∷ []) (more (record now { caa = area_by step now.caa }) outcome)) (sym is)
      (refl, ap (λ (a : Gpa). more (record now { caa = a }) outcome) (stays now.caa) ∙ ap (λ (o : Option Outcome). more now (plain_outcome o)) (sym gave)),
  refl,
)

abbrev RequestFollows : List HostLine → Caller → Request → Type 0
RequestFollows lines now request =
    (world : Scripted) (given : List Outcome) (more : More) (steps : List Made) (asked : List Event) (outcome : Outcome) → IsPiece now request steps asked outcome → AreGiven lines now.core world asked
    → Follows (request_tree now world given request more) steps (more (caller_after now steps) (is_call request) (worlds_after world asked) outcome)

by_step : (now : Caller) (page : ℕ) (step : Step) (world : Scripted) (more : More) (steps : List Made) (asked : List Event) (outcome : Outcome) → plain_area step → IsStepPiece now page step steps asked outcome
    → Follows (step_tree (is_in_map now.regions page) step (λ outcome. more now false world outcome)) steps (more (caller_after now steps) false (worlds_after world asked) outcome)
by_step now page step world more steps asked outcome stays piece =
    let both = step_follows now page step (λ c outcome. more c false world outcome) steps asked outcome stays piece in
    subst (λ (l : List Event). Follows (step_tree (is_in_map now.regions page) step (λ outcome. more now false world outcome)) steps (more (caller_after now steps) false (worlds_after world l) outcome)) (sym both.1) both.0

request_follows : (lines : List HostLine) (now : Caller) (request : Request) → RequestFollows lines now request
unfolding plain_area
request_follows lines now (requests.Call regs number) world given more steps asked outcome piece told = call_follows lines true now regs number world given more steps asked outcome piece told
request_follows lines now (requests.Exit regs number) world given more steps asked outcome piece told = call_follows lines false now regs number world given more steps asked outcome piece told
request_follows lines now (requests.Write vmpl gpa word) world given more steps asked outcome piece told = by_step now (page_of gpa.0) (GuestWrite vmpl gpa word) world more steps asked outcome (λ area. refl) piece
request_follows lines now (requests.Read vmpl gpa) world given more steps asked outcome piece told = by_step now (page_of gpa.0) (GuestRead vmpl gpa) world more steps asked outcome (λ area. refl) piece
request_follows lines now (requests.Adjust vmpl page target mask) world given more steps asked outcome piece told = by_step now page.0 (GuestAdjust vmpl page target mask) world more steps asked outcome (λ area. refl) piece
request_follows lines now (requests.Share page) world given more steps asked outcome piece told = by_step now page.0 (HostShare page) world more steps asked outcome (λ area. refl) piece
request_follows lines now (requests.Assign page) world given more steps asked outcome piece told = by_step now page.0 (HostAssign page) world more steps asked outcome (λ area. refl) piece

-- pieces lead to the requests behind them
abbrev Lead : List HostLine → Caller → List Request → List Made → List Event → List Outcome → Caller → Bool → Type 0
Lead lines caller before made events outcomes now due =
    (now.core ≡ caller.core) × (now.apic ≡ caller.apic)
    × ((after : List Request) → Follows (requests_tree lines (before ++ after) caller true fresh_world []) made (requests_tree lines after now due (worlds_after fresh_world events) outcomes))

pub pieces_follow : (lines : List HostLine) (caller : Caller) (before : List Request) (made : List Made) (events : List Event) (outcomes : List Outcome) (now : Caller) (due : Bool)
    → ArePieces caller before made events outcomes now due → AreGiven lines caller.core fresh_world events → Lead lines caller before made events outcomes now due
pieces_follow lines caller _ _ _ _ _ _ none told = (refl, refl, λ after. refl)
pieces_follow lines caller _ _ _ _ _ _ (one_more requests made events outcomes now due request steps runs asked outcome pieces run piece) told =
    let parts = given_parts lines caller.core fresh_world events (runs ++ asked) told in
    let world = worlds_after fresh_world events in
    let lead = pieces_follow lines caller requests made events outcomes now due pieces parts.0 in
    let here : AreGiven lines now.core world (runs ++ asked) = subst (λ (c : ℕ). AreGiven lines c world (runs ++ asked)) (sym lead.0) parts.1 in
    let both = given_parts lines now.core world runs asked here in (
      lead.0,
      lead.1,
      λ after.
          let more : More = λ next due world outcome. requests_tree lines after next due world (outcomes ++ outcome ∷ []) in
          let one : Follows (requests_tree lines (request ∷ after) now due world outcomes) steps (more (caller_after now steps) (is_call request) (worlds_after (worlds_after world runs) asked) outcome) =
          subst (λ (t : Tree). Follows t steps (more (caller_after now steps) (is_call request) (worlds_after (worlds_after world runs) asked) outcome))
          (sym (run_follows lines now due world outcomes (λ world. request_tree now world outcomes request more) runs run both.0))
          (request_follows lines now request (worlds_after world runs) outcomes more steps asked outcome piece both.1) in
          let all : Follows (requests_tree lines (requests ++ request ∷ after) caller true fresh_world []) (made ++ steps) (more (caller_after now steps) (is_call request) (worlds_after (worlds_after world runs) asked) outcome) =
          follows_on (requests_tree lines (requests ++ request ∷ after) caller true fresh_world []) (requests_tree lines (request ∷ after) now due world outcomes)
          (more (caller_after now steps) (is_call request) (worlds_after (worlds_after world runs) asked) outcome) made steps (lead.2 (request ∷ after)) one in
          subst (λ (l : List Request). Follows (requests_tree lines l caller true fresh_world []) (made ++ steps) (more (caller_after now steps) (is_call request) (worlds_after fresh_world (events ++ (runs ++ asked))) outcome))
          (sym (append_assoc requests (request ∷ []) after))
          (subst (λ (w : Scripted). Follows (requests_tree lines (requests ++ request ∷ after) caller true fresh_world []) (made ++ steps) (more (caller_after now steps) (is_call request) w outcome))
          (sym (worlds_append fresh_world events (runs ++ asked) ∙ worlds_append world runs asked)) all),
    )

cut_follows : (lines : List HostLine) (pend : Bool) (now : Caller) (regs : Regs) (number : ℕ) (world : Scripted) (given : List Outcome) (more : More) (steps : List Made) (asked : List Event) (ticket : ℕ)
    → IsCallCut pend now regs number steps asked ticket → AreGiven lines now.core world asked
    → Follows (call_tree given (whole_call pend now regs) now.caa (record { wanted = number; polls = 0; runs = world.runs }) (λ outcome area after. more (record now { caa = area }) true after outcome)) steps (ended given (ends_of.Faulted ticket))
cut_follows lines pend now regs number world given more steps asked ticket cut told =
    let same : AreGiven lines now.core world (started number ∷ map polled cut.polls) = subst (λ (l : List Event). AreGiven lines now.core world l) cut.asked told in
    let tree = call_tree given (whole_call pend now regs) now.caa (record { wanted = number; polls = 0; runs = world.runs }) (λ outcome area after. more (record now { caa = area }) true after outcome) in
    let mid = call_tree given cut.now (area_after now.caa cut.before) (worlds_after (record { wanted = number; polls = 0; runs = world.runs }) (map polled cut.polls)) (λ outcome area after. more (record now { caa = area }) true after outcome) in
    subst (λ (l : List Made). Follows tree l (ended given (ends_of.Faulted ticket))) (sym cut.made_is)
    (follows_on tree mid (ended given (ends_of.Faulted ticket)) cut.before (record { ticket = ticket; step = cut.step; answer = Fault cut.performed } ∷ [])
    (leads_follow lines now.core given (whole_call pend now regs) now.caa (record { wanted = number; polls = 0; runs = world.runs }) (λ outcome area after. more (record now { caa = area }) true after outcome) cut.before cut.polls cut.now cut.leads cut.listed same.1)
    (fault_follows given cut.now (area_after now.caa cut.before) (worlds_after (record { wanted = number; polls = 0; runs = world.runs }) (map polled cut.polls)) (λ outcome area after. more (record now { caa = area }) true after outcome) cut.step ticket cut.performed cut.asks))

cut_off : (lines : List HostLine) (now : Caller) (request : Request) (world : Scripted) (given : List Outcome) (more : More) (steps : List Made) (asked : List Event) (ticket : ℕ)
    → IsCutOff now request steps asked ticket → AreGiven lines now.core world asked → Follows (request_tree now world given request more) steps (ended given (ends_of.Faulted ticket))
cut_off lines now (requests.Call regs number) world given more steps asked ticket cut told = cut_follows lines true now regs number world given more steps asked ticket cut told
cut_off lines now (requests.Exit regs number) world given more steps asked ticket cut told = cut_follows lines false now regs number world given more steps asked ticket cut told
cut_off lines now (requests.Write vmpl gpa word) world given more steps asked ticket cut told = absurd cut
cut_off lines now (requests.Read vmpl gpa) world given more steps asked ticket cut told = absurd cut
cut_off lines now (requests.Adjust vmpl page target mask) world given more steps asked ticket cut told = absurd cut
cut_off lines now (requests.Share page) world given more steps asked ticket cut told = absurd cut
cut_off lines now (requests.Assign page) world given more steps asked ticket cut told = absurd cut

wrong_tree : (lines : List HostLine) (now : Caller) (world : Scripted) (given : List Outcome) (more : Scripted → Tree) (got : ℕ) → is_run_answer got ≡ false → got ≡ run_answer lines now.core world.runs
    → run_tree true now lines world given more ≡ ended given (ends_of.Host (run_value now) got)
wrong_tree lines now world given more got wrong is =
    let bad : is_run_answer (run_answer lines now.core world.runs) ≡ false = ap is_run_answer (sym is) ∙ wrong in
    simp bad (ap (λ (g : ℕ). ended given (ends_of.Host (run_value now) g)) (sym is))

-- a core's run, as its world gave it, leads along the tree of its script to its end
pub run_leads : (lines : List HostLine) (caller : Caller) (script : List Request) (made : List Made) (events : List Event) (outs : List Outcome) (end : CoreEnd) → IsCoreRun caller script made events outs end
    → AreGiven lines caller.core fresh_world events → Follows (requests_tree lines script caller true fresh_world []) made (ended outs end)
run_leads lines caller script _ _ _ _ (done made events outcomes now due ticket answer pieces listed) told =
    let lead = pieces_follow lines caller script made events outcomes now due pieces told in
    let m : Made = record { ticket = ticket; step = Leave caller.apic; answer = answer } in
    let last : Follows (requests_tree lines [] now due (worlds_after fresh_world events) outcomes) (m ∷ []) (ended outcomes ends_of.Done) = (ap (λ (a : ℕ). Some (Leave a)) lead.1, refl) in
    follows_on (requests_tree lines script caller true fresh_world []) (requests_tree lines [] now due (worlds_after fresh_world events) outcomes) (ended outcomes ends_of.Done) made (m ∷ [])
    (subst (λ (l : List Request). Follows (requests_tree lines l caller true fresh_world []) made (requests_tree lines [] now due (worlds_after fresh_world events) outcomes)) (append-nil script) (lead.2 [])) last
run_leads lines caller script _ _ _ _ (faulted before after request made steps events runs asked outcomes now due ticket script_is pieces run cut) told =
    let parts = given_parts lines caller.core fresh_world events (runs ++ asked) told in
    let world = worlds_after fresh_world events in
    let lead = pieces_follow lines caller before made events outcomes now due pieces parts.0 in
    let here : AreGiven lines now.core world (runs ++ asked) = subst (λ (c : ℕ). AreGiven lines c world (runs ++ asked)) (sym lead.0) parts.1 in
    let both = given_parts lines now.core world runs asked here in
    let more : More = λ next due world outcome. requests_tree lines after next due world (outcomes ++ outcome ∷ []) in
    let one : Follows (requests_tree lines (request ∷ after) now due world outcomes) steps (ended outcomes (ends_of.Faulted ticket)) =
    subst (λ (t : Tree). Follows t steps (ended outcomes (ends_of.Faulted ticket)))
    (sym (run_follows lines now due world outcomes (λ world. request_tree now world outcomes request more) runs run both.0))
    (cut_off lines now request (worlds_after world runs) outcomes more steps asked ticket cut both.1) in
    subst (λ (l : List Request). Follows (requests_tree lines l caller true fresh_world []) (made ++ steps) (ended outcomes (ends_of.Faulted ticket))) (sym script_is)
    (follows_on (requests_tree lines (before ++ request ∷ after) caller true fresh_world []) (requests_tree lines (request ∷ after) now due world outcomes) (ended outcomes (ends_of.Faulted ticket)) made steps (lead.2 (request ∷ after)) one)
run_leads lines caller script _ _ _ _ (host before after request made events outcomes now got script_is pieces wrong) told =
    let parts = given_parts lines caller.core fresh_world events (sent (run_value now) got ∷ []) told in
    let world = worlds_after fresh_world events in
    let lead = pieces_follow lines caller before made events outcomes now true pieces parts.0 in
    let more : More = λ next due world outcome. requests_tree lines after next due world (outcomes ++ outcome ∷ []) in
    let end : requests_tree lines (request ∷ after) now true world outcomes ≡ ended outcomes (ends_of.Host (run_value now) got) =
    wrong_tree lines now world outcomes (λ world. request_tree now world outcomes request more) got wrong (parts.1.0 ∙ ap (λ (c : ℕ). run_answer lines c world.runs) (sym lead.0)) in
    subst (λ (l : List Request). Follows (requests_tree lines l caller true fresh_world []) made (ended outcomes (ends_of.Host (run_value now) got))) (sym script_is)
    (subst (λ (t : Tree). Follows (requests_tree lines (before ++ request ∷ after) caller true fresh_world []) made t) end (lead.2 (request ∷ after)))

pub run_reads : RunsAreTrees
run_reads lines caller script made outs end reads = run_leads lines caller script made reads.events outs end reads.run reads.given
