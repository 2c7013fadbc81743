-- What leads along the tree of a core's requests is its core's run.
use Rattle.std.proofs.Common.{◌≡◌, ℕ, ◌+◌, Bool, true, false, List, [], ◌∷◌, ◌++◌, refl, sym, ◌∙◌, ap, subst, inl, inr, ◌⊎◌, ⊎_elim, Option, None, Some, map, append_assoc}
use Rattle.std.specs.Prelude.{IsTrue}
use Rattle.std.proofs.lemmas.List.{append-nil}
use Rattle.svsm_types.specs.Pages.{page_of, is_in_map}
use Rattle.svsm_types.specs.declared.address.Gpa.{Gpa}
use Rattle.svsm_types.specs.declared.address.Page.{Page}
use Rattle.svsm_types.specs.declared.platform.Vmpl.{Vmpl}
use Rattle.svsm_types.specs.declared.image.HostLine.{HostLine}
use Rattle.svsm_types.specs.declared.call.Regs.{Regs}
use Rattle.svsm_types.specs.declared.request.Request.{Request}
use Rattle.svsm_types.specs.declared.request.Request.TheVariants as requests
use Rattle.svsm_steps.specs.declared.step.Step.{Step}
use Rattle.svsm_steps.specs.declared.step.Step.TheVariants.{Leave, GuestWrite, GuestRead, GuestAdjust, HostShare, HostAssign}
use Rattle.svsm_steps.specs.declared.answer.Answer.{Answer}
use Rattle.svsm_steps.specs.declared.answer.Answer.TheVariants as answers
use Rattle.svsm_steps.specs.declared.call.Caller.{Caller}
use Rattle.svsm_steps.specs.declared.outcome.Outcome.{Outcome}
use Rattle.svsm_steps.specs.declared.outcome.Outcome.TheVariants as outcomes
use Rattle.svsm_steps.specs.declared.outcome.CoreEnd.{CoreEnd}
use Rattle.svsm_steps.specs.declared.outcome.CoreEnd.TheVariants as ends_of
use Rattle.svsm_steps.specs.Formed.{is_listed, may_fault}
use Rattle.svsm_steps.specs.Region.{fault_at}
use Rattle.svsm_steps.specs.Made.{Made}
use Rattle.svsm_calls.specs.Calls.{whole_call}
use Rattle.svsm_calls.specs.Events.{Event, started, polled, sent, pairs_of}
use Rattle.svsm_calls.specs.CoreRun.{area_by, area_after, caller_after, step_outcome, IsCallPiece, IsStepPiece, outside, stepped, IsPiece, IsCallCut, IsCutOff, run_value, is_run_answer, IsRunRequest, not_due, right, is_call, ArePieces, none, one_more, IsCoreRun, done, faulted, host}
use Rattle.svsm_calls.specs.World.{Scripted, fresh_world, run_answer, AreGiven}
use Rattle.svsm_calls.proofs.Whole.{call_sound}
use Rattle.run_trees.specs.Tree.{Tree, ended, plain_outcome, step_tree, request_tree, run_tree, requests_tree, Follows}
use Rattle.run_trees.specs.Laws.{CanAnswer, AreAnswers, ReadsRun, TreesAreRuns}
use Rattle.run_trees.proofs.CallTrees.{worlds_after, CallOver, CallCut, call_reads, no_more, given_append, worlds_append}

-- A RUN REQUEST

-- it was answered right or was not due, and this follows; or it was answered wrong
pub record RunOver (lines : List HostLine) (now : Caller) (due : Bool) (world : Scripted) (more : Scripted → Tree) (steps : List Made) (end : Tree) : Type 0 where
  pub runs : List Event
  pub run : IsRunRequest now due runs
  pub given : AreGiven lines now.core world runs
  pub follows : Follows (more (worlds_after world runs)) steps end

pub record RunWrong (lines : List HostLine) (now : Caller) (due : Bool) (world : Scripted) (given : List Outcome) (steps : List Made) (outs : List Outcome) (end : CoreEnd) : Type 0 where
  pub is_due : due ≡ true
  pub wrong : is_run_answer (run_answer lines now.core world.runs) ≡ false
  pub none : steps ≡ []
  pub outs_are : outs ≡ given
  pub end_is : end ≡ ends_of.Host (run_value now) (run_answer lines now.core world.runs)

abbrev run_by : Bool → Caller → ℕ → Scripted → List Outcome → (Scripted → Tree) → Tree
run_by true now got world given more = more (record { wanted = world.wanted; polls = world.polls; runs = world.runs + 1 })
run_by false now got world given more = ended given (ends_of.Host (run_value now) got)

run_is : (lines : List HostLine) (now : Caller) (world : Scripted) (given : List Outcome) (more : Scripted → Tree) (t : Bool) → is_run_answer (run_answer lines now.core world.runs) ≡ t
    → run_tree true now lines world given more ≡ run_by t now (run_answer lines now.core world.runs) world given more
run_is lines now world given more true is = simp is
run_is lines now world given more false is = simp is

due_reads : (lines : List HostLine) (now : Caller) (world : Scripted) (given : List Outcome) (more : Scripted → Tree) (steps : List Made) (outs : List Outcome) (end : CoreEnd) (t : Bool)
    → is_run_answer (run_answer lines now.core world.runs) ≡ t → Follows (run_by t now (run_answer lines now.core world.runs) world given more) steps (ended outs end)
    → RunOver lines now true world more steps (ended outs end) ⊎ RunWrong lines now true world given steps outs end
due_reads lines now world given more steps outs end true is follows = inl (record {
  runs = sent (run_value now) (run_answer lines now.core world.runs) ∷ [];
  run = right (run_answer lines now.core world.runs) is;
  given = (refl, tt);
  follows = follows;
})
due_reads lines now world given more steps outs end false is follows =
    let over = no_more given outs (ends_of.Host (run_value now) (run_answer lines now.core world.runs)) end steps follows in
    inr (record { is_due = refl; wrong = is; none = over.0; outs_are = over.1; end_is = over.2 })

pub run_reads : (lines : List HostLine) (now : Caller) (due : Bool) (world : Scripted) (given : List Outcome) (more : Scripted → Tree) (steps : List Made) (outs : List Outcome) (end : CoreEnd)
    → Follows (run_tree due now lines world given more) steps (ended outs end)
    → RunOver lines now due world more steps (ended outs end) ⊎ RunWrong lines now due world given steps outs end
run_reads lines now false world given more steps outs end follows = inl (record { runs = []; run = not_due; given = tt; follows = follows })
run_reads lines now true world given more steps outs end follows =
    due_reads lines now world given more steps outs end (is_run_answer (run_answer lines now.core world.runs)) refl
    (subst (λ (t : Tree). Follows t steps (ended outs end)) (run_is lines now world given more (is_run_answer (run_answer lines now.core world.runs)) refl) follows)

-- A REQUEST

abbrev More : Type 0
More = Caller → Bool → Scripted → Outcome → Tree

pub record RequestOver (lines : List HostLine) (core : ℕ) (now : Caller) (request : Request) (world : Scripted) (more : More) (steps : List Made) (end : Tree) : Type 0 where
  pub first : List Made
  pub second : List Made
  pub asked : List Event
  pub outcome : Outcome
  pub split : steps ≡ first ++ second
  pub piece : IsPiece now request first asked outcome
  pub given : AreGiven lines core world asked
  pub answers : AreAnswers second
  pub follows : Follows (more (caller_after now first) (is_call request) (worlds_after world asked) outcome) second end

pub record RequestCut (lines : List HostLine) (core : ℕ) (now : Caller) (request : Request) (world : Scripted) (given : List Outcome) (steps : List Made) (outs : List Outcome) (end : CoreEnd) : Type 0 where
  pub asked : List Event
  pub ticket : ℕ
  pub cut : IsCutOff now request steps asked ticket
  pub told : AreGiven lines core world asked
  pub outs_are : outs ≡ given
  pub end_is : end ≡ ends_of.Faulted ticket

abbrev begun : Scripted → ℕ → Scripted
begun world number = record { wanted = number; polls = 0; runs = world.runs }

piece_of : (lines : List HostLine) (core : ℕ) (pend : Bool) (now : Caller) (regs : Regs) (number : ℕ) (world : Scripted) (more : Outcome → Gpa → Scripted → Tree) (steps : List Made) (end : Tree)
    → (over : CallOver lines core (whole_call pend now regs) now.caa (begun world number) more steps end)
    → IsCallPiece pend now regs number over.first (started number ∷ map polled over.polls) over.outcome
piece_of lines core pend now regs number world more steps end over = record {
  polls = over.polls;
  end = over.over;
  call = call_sound pend now regs (pairs_of over.first) over.polls over.over over.listed over.whole;
  asked = refl;
  gave = over.gave;
}

cut_of : (lines : List HostLine) (core : ℕ) (pend : Bool) (now : Caller) (regs : Regs) (number : ℕ) (world : Scripted) (given : List Outcome) (steps : List Made) (outs : List Outcome) (end : CoreEnd)
    → (cut : CallCut lines core given (whole_call pend now regs) (begun world number) steps outs end)
    → IsCallCut pend now regs number steps (started number ∷ map polled cut.polls) cut.ticket
cut_of lines core pend now regs number world given steps outs end cut = record {
  before = cut.before;
  polls = cut.polls;
  now = cut.now;
  step = cut.step;
  performed = cut.performed;
  made_is = cut.split;
  asked = refl;
  listed = cut.listed;
  leads = cut.leads;
  asks = cut.asks;
}

-- a step of a request that is no call
abbrev IsStepOver : List HostLine → ℕ → Caller → ℕ → Step → Scripted → (Outcome → Tree) → List Made → Tree → Type 0
IsStepOver lines core now page step world more steps end =
    (first : List Made) × (second : List Made) × (outcome : Outcome) × (steps ≡ first ++ second) × IsStepPiece now page step first [] outcome × AreAnswers second
    × Follows (more outcome) second end × (area_after now.caa first ≡ now.caa)

-- such a step never faults, and its listed answers are outcomes
abbrev IsPlain : Step → Type 0
IsPlain step = (may_fault step ≡ false) × ((answer : Answer) → IsTrue (is_listed step answer) → (outcome : Outcome) × (step_outcome answer ≡ Some outcome))
    × ((area : Gpa) → area_by step area ≡ area)

plain_reads : (lines : List HostLine) (core : ℕ) (now : Caller) (page : ℕ) (step : Step) (world : Scripted) (more : Outcome → Tree) (m : Made) (steps : List Made) (end : Tree) (fault : Option ℕ)
    → fault_at m.answer ≡ fault → is_in_map now.regions page ≡ true → IsPlain step → step ≡ m.step → CanAnswer fault m.step m.answer → AreAnswers steps
    → Follows (more (plain_outcome (step_outcome m.answer))) steps end
    → IsStepOver lines core now page step world more (m ∷ steps) end
plain_reads lines core now page step world more m steps end (Some k) is within plain same can answers follows =
    let no : true ≡ false = sym can ∙ ap may_fault (sym same) ∙ plain.0 in absurd (cc)
plain_reads lines core now page step world more m steps end None is within plain same can answers follows =
    let listed : IsTrue (is_listed step m.answer) = subst (λ (s : Step). IsTrue (is_listed s m.answer)) (sym same) can in
    let gave = plain.1 m.answer listed in
    let told : m ≡ record { ticket = m.ticket; step = step; answer = m.answer } = ap (λ (s : Step). record { ticket = m.ticket; step = s; answer = m.answer }) (sym same) in (
      m ∷ [],
      steps,
      gave.0,
      refl,
      subst (λ (x : Made). IsStepPiece now page step (x ∷ []) [] gave.0) (sym told) (stepped m.ticket m.answer gave.0 within listed gave.1),
      answers,
      subst (λ (o : Option Outcome). Follows (more (plain_outcome o)) steps end) gave.1 follows,
      ap (λ (s : Step). area_by s now.caa) (sym same) ∙ plain.2 now.caa,
    )

step_reads : (lines : List HostLine) (core : ℕ) (now : Caller) (page : ℕ) (step : Step) (world : Scripted) (more : Outcome → Tree) (steps : List Made) (outs : List Outcome) (end : CoreEnd) (within : Bool)
    → is_in_map now.regions page ≡ within → IsPlain step → AreAnswers steps → Follows (step_tree within step more) steps (ended outs end)
    → IsStepOver lines core now page step world more steps (ended outs end)
step_reads lines core now page step world more steps outs end false is plain answers follows =
    ([], steps, outcomes.Denied, refl, outside is, answers, follows, refl)
step_reads lines core now page step world more [] outs end true is plain answers follows = absurd (cc)
step_reads lines core now page step world more (m ∷ steps) outs end true is plain answers follows =
    let same : step ≡ m.step = let some : Some step ≡ Some m.step = follows.0 in cc in
    plain_reads lines core now page step world more m steps (ended outs end) (fault_at m.answer) refl is plain same answers.0 answers.1 follows.1

step_piece : (lines : List HostLine) (now : Caller) (request : Request) (page : ℕ) (step : Step) (world : Scripted) (given : List Outcome) (more : More) (steps : List Made) (outs : List Outcome) (end : CoreEnd)
    → ((first : List Made) (outcome : Outcome) → IsStepPiece now page step first [] outcome → IsPiece now request first [] outcome) → is_call request ≡ false
    → IsStepOver lines now.core now page step world (λ outcome. more now false world outcome) steps (ended outs end)
    → RequestOver lines now.core now request world more steps (ended outs end)
step_piece lines now request page step world given more steps outs end piece plain over = record {
  first = over.0;
  second = over.1;
  asked = [];
  outcome = over.2;
  split = over.3;
  piece = piece over.0 over.2 over.4;
  given = tt;
  answers = over.5;
  follows = subst (λ (c : Caller). Follows (more c (is_call request) world over.2) over.1 (ended outs end)) (sym (ap (λ (a : Gpa). record now { caa = a }) over.7))
      (subst (λ (b : Bool). Follows (more now b world over.2) over.1 (ended outs end)) (sym plain) over.6);
}

write_gives : (vmpl : Vmpl) (gpa : Gpa) (word : ℕ) (answer : Answer) → IsTrue (is_listed (GuestWrite vmpl gpa word) answer) → (outcome : Outcome) × (step_outcome answer ≡ Some outcome)
write_gives vmpl gpa word answers.Done is = (outcomes.Done, refl)
write_gives vmpl gpa word answers.Denied is = (outcomes.Denied, refl)
write_gives vmpl gpa word answer is = absurd (cc)

read_gives : (vmpl : Vmpl) (gpa : Gpa) (answer : Answer) → IsTrue (is_listed (GuestRead vmpl gpa) answer) → (outcome : Outcome) × (step_outcome answer ≡ Some outcome)
read_gives vmpl gpa (answers.Word word) is = (outcomes.Word word, refl)
read_gives vmpl gpa answers.Denied is = (outcomes.Denied, refl)
read_gives vmpl gpa answer is = absurd (cc)

adjust_gives : (vmpl : Vmpl) (page : Page) (target mask : ℕ) (answer : Answer) → IsTrue (is_listed (GuestAdjust vmpl page target mask) answer) → (outcome : Outcome) × (step_outcome answer ≡ Some outcome)
adjust_gives vmpl page target mask answers.Done is = (outcomes.Done, refl)
adjust_gives vmpl page target mask answers.Denied is = (outcomes.Denied, refl)
adjust_gives vmpl page target mask answer is = absurd (cc)

share_gives : (page : Page) (answer : Answer) → IsTrue (is_listed (HostShare page) answer) → (outcome : Outcome) × (step_outcome answer ≡ Some outcome)
share_gives page answers.Done is = (outcomes.Done, refl)
share_gives page answer is = absurd (cc)

assign_gives : (page : Page) (answer : Answer) → IsTrue (is_listed (HostAssign page) answer) → (outcome : Outcome) × (step_outcome answer ≡ Some outcome)
assign_gives page answers.Done is = (outcomes.Done, refl)
assign_gives page answer is = absurd (cc)

-- the steps of these requests
write_plain : (vmpl : Vmpl) (gpa : Gpa) (word : ℕ) → IsPlain (GuestWrite vmpl gpa word)
write_plain vmpl gpa word = (refl, write_gives vmpl gpa word, λ area. refl)

read_plain : (vmpl : Vmpl) (gpa : Gpa) → IsPlain (GuestRead vmpl gpa)
read_plain vmpl gpa = (refl, read_gives vmpl gpa, λ area. refl)

adjust_plain : (vmpl : Vmpl) (page : Page) (target mask : ℕ) → IsPlain (GuestAdjust vmpl page target mask)
adjust_plain vmpl page target mask = (refl, adjust_gives vmpl page target mask, λ area. refl)

share_plain : (page : Page) → IsPlain (HostShare page)
share_plain page = (refl, share_gives page, λ area. refl)

assign_plain : (page : Page) → IsPlain (HostAssign page)
assign_plain page = (refl, assign_gives page, λ area. refl)

call_case : (lines : List HostLine) (pend : Bool) (now : Caller) (regs : Regs) (number : ℕ) (request : Request) (world : Scripted) (given : List Outcome) (more : More) (steps : List Made) (outs : List Outcome) (end : CoreEnd)
    → ((first : List Made) (asked : List Event) (outcome : Outcome) → IsCallPiece pend now regs number first asked outcome → IsPiece now request first asked outcome)
    → ((asked : List Event) (ticket : ℕ) → IsCallCut pend now regs number steps asked ticket → IsCutOff now request steps asked ticket) → is_call request ≡ true
    → CallOver lines now.core (whole_call pend now regs) now.caa (begun world number) (λ outcome area after. more (record now { caa = area }) true after outcome) steps (ended outs end)
    ⊎ CallCut lines now.core given (whole_call pend now regs) (begun world number) steps outs end
    → RequestOver lines now.core now request world more steps (ended outs end) ⊎ RequestCut lines now.core now request world given steps outs end
call_case lines pend now regs number request world given more steps outs end piece cut_off calls reads = ⊎_elim
    (λ over. inl (record {
      first = over.first;
      second = over.second;
      asked = started number ∷ map polled over.polls;
      outcome = over.outcome;
      split = over.split;
      piece = piece over.first (started number ∷ map polled over.polls) over.outcome
          (piece_of lines now.core pend now regs number world (λ outcome area after. more (record now { caa = area }) true after outcome) steps (ended outs end) over);
      given = (tt, over.given);
      answers = over.answers;
      follows = subst (λ (b : Bool). Follows (more (caller_after now over.first) b (worlds_after (begun world number) (map polled over.polls)) over.outcome) over.second (ended outs end)) (sym calls) over.follows;
    }))
    (λ cut. inr (record {
      asked = started number ∷ map polled cut.polls;
      ticket = cut.ticket;
      cut = cut_off (started number ∷ map polled cut.polls) cut.ticket (cut_of lines now.core pend now regs number world given steps outs end cut);
      told = (tt, cut.told);
      outs_are = cut.outs_are;
      end_is = cut.end_is;
    }))
    reads

abbrev RequestReads : List HostLine → Caller → Request → Type 0
RequestReads lines now request =
    (world : Scripted) (given : List Outcome) (more : More) (steps : List Made) (outs : List Outcome) (end : CoreEnd) → AreAnswers steps
    → Follows (request_tree now world given request more) steps (ended outs end)
    → RequestOver lines now.core now request world more steps (ended outs end) ⊎ RequestCut lines now.core now request world given steps outs end

pub request_reads : (lines : List HostLine) (now : Caller) (request : Request) → RequestReads lines now request
request_reads lines now (requests.Call regs number) world given more steps outs end answers follows =
    call_case lines true now regs number (requests.Call regs number) world given more steps outs end (λ first asked outcome is. is) (λ asked ticket is. is) refl
    (call_reads lines now.core given (whole_call true now regs) now.caa (begun world number) (λ outcome area after. more (record now { caa = area }) true after outcome) steps outs end answers follows)
request_reads lines now (requests.Exit regs number) world given more steps outs end answers follows =
    call_case lines false now regs number (requests.Exit regs number) world given more steps outs end (λ first asked outcome is. is) (λ asked ticket is. is) refl
    (call_reads lines now.core given (whole_call false now regs) now.caa (begun world number) (λ outcome area after. more (record now { caa = area }) true after outcome) steps outs end answers follows)
request_reads lines now (requests.Write vmpl gpa word) world given more steps outs end answers follows =
    inl (step_piece lines now (requests.Write vmpl gpa word) (page_of gpa.0) (GuestWrite vmpl gpa word) world given more steps outs end (λ first outcome is. is) refl
    (step_reads lines now.core now (page_of gpa.0) (GuestWrite vmpl gpa word) world (λ outcome. more now false world outcome) steps outs end (is_in_map now.regions (page_of gpa.0)) refl (write_plain vmpl gpa word) answers follows))
request_reads lines now (requests.Read vmpl gpa) world given more steps outs end answers follows =
    inl (step_piece lines now (requests.Read vmpl gpa) (page_of gpa.0) (GuestRead vmpl gpa) world given more steps outs end (λ first outcome is. is) refl
    (step_reads lines now.core now (page_of gpa.0) (GuestRead vmpl gpa) world (λ outcome. more now false world outcome) steps outs end (is_in_map now.regions (page_of gpa.0)) refl (read_plain vmpl gpa) answers follows))
request_reads lines now (requests.Adjust vmpl page target mask) world given more steps outs end answers follows =
    inl (step_piece lines now (requests.Adjust vmpl page target mask) page.0 (GuestAdjust vmpl page target mask) world given more steps outs end (λ first outcome is. is) refl
    (step_reads lines now.core now page.0 (GuestAdjust vmpl page target mask) world (λ outcome. more now false world outcome) steps outs end (is_in_map now.regions page.0) refl (adjust_plain vmpl page target mask) answers follows))
request_reads lines now (requests.Share page) world given more steps outs end answers follows =
    inl (step_piece lines now (requests.Share page) page.0 (HostShare page) world given more steps outs end (λ first outcome is. is) refl
    (step_reads lines now.core now page.0 (HostShare page) world (λ outcome. more now false world outcome) steps outs end (is_in_map now.regions page.0) refl (share_plain page) answers follows))
request_reads lines now (requests.Assign page) world given more steps outs end answers follows =
    inl (step_piece lines now (requests.Assign page) page.0 (HostAssign page) world given more steps outs end (λ first outcome is. is) refl
    (step_reads lines now.core now page.0 (HostAssign page) world (λ outcome. more now false world outcome) steps outs end (is_in_map now.regions page.0) refl (assign_plain page) answers follows))

-- ALL REQUESTS

-- the requests before are pieces, and leave the world so
pub record Stands (lines : List HostLine) (caller : Caller) (before : List Request) (made : List Made) (outs : List Outcome) (now : Caller) (due : Bool) (world : Scripted) : Type 0 where
  pub events : List Event
  pub pieces : ArePieces caller before made events outs now due
  pub given : AreGiven lines caller.core fresh_world events
  pub world_is : worlds_after fresh_world events ≡ world
  pub core : now.core ≡ caller.core
  pub apic : now.apic ≡ caller.apic

leaves : (lines : List HostLine) (caller : Caller) (before : List Request) (made : List Made) (outcomes : List Outcome) (now : Caller) (due : Bool) (world : Scripted) (m : Made) (steps : List Made)
    (outs : List Outcome) (end : CoreEnd) (fault : Option ℕ) → fault_at m.answer ≡ fault → CanAnswer fault m.step m.answer → Stands lines caller before made outcomes now due world
    → Leave now.apic ≡ m.step → Follows (ended outcomes ends_of.Done) steps (ended outs end) → ReadsRun lines caller before (made ++ m ∷ steps) outs end
leaves lines caller before made outcomes now due world m steps outs end (Some k) is can stands same follows =
    let no : false ≡ true = ap may_fault same ∙ can in absurd (cc)
leaves lines caller before made outcomes now due world m steps outs end None is can stands same follows =
    let over = no_more outcomes outs ends_of.Done end steps follows in
    let step : m.step ≡ Leave caller.apic = sym same ∙ ap (λ (a : ℕ). Leave a) stands.apic in
    let told : m ≡ record { ticket = m.ticket; step = Leave caller.apic; answer = m.answer } = ap (λ (s : Step). record { ticket = m.ticket; step = s; answer = m.answer }) step in
    let run : IsCoreRun caller before (made ++ record { ticket = m.ticket; step = Leave caller.apic; answer = m.answer } ∷ []) stands.events outcomes ends_of.Done =
    done made stands.events outcomes now due m.ticket m.answer stands.pieces (subst (λ (s : Step). IsTrue (is_listed s m.answer)) step can) in
    record {
      events = stands.events;
      run = subst (λ (x : Made × List Made). IsCoreRun caller before (made ++ x.0 ∷ x.1) stands.events outs end) (sym (ap (λ (x : Made). (x, steps)) told ∙ ap (λ (l : List Made). (record { ticket = m.ticket; step = Leave caller.apic; answer = m.answer }, l)) over.0))
          (subst (λ (o : List Outcome). IsCoreRun caller before (made ++ record { ticket = m.ticket; step = Leave caller.apic; answer = m.answer } ∷ []) stands.events o end) (sym over.1)
          (subst (λ (e : CoreEnd). IsCoreRun caller before (made ++ record { ticket = m.ticket; step = Leave caller.apic; answer = m.answer } ∷ []) stands.events outcomes e) (sym over.2) run));
      given = stands.given;
    }

wrong_run : (lines : List HostLine) (caller : Caller) (before : List Request) (request : Request) (after : List Request) (made : List Made) (outcomes : List Outcome) (now : Caller) (due : Bool) (world : Scripted) (steps : List Made)
    (outs : List Outcome) (end : CoreEnd) → Stands lines caller before made outcomes now due world → RunWrong lines now due world outcomes steps outs end
    → ReadsRun lines caller (before ++ request ∷ after) (made ++ steps) outs end
wrong_run lines caller before request after made outcomes now due world steps outs end stands wrong =
    let got = run_answer lines now.core world.runs in
    let pieces : ArePieces caller before made stands.events outcomes now true = subst (λ (b : Bool). ArePieces caller before made stands.events outcomes now b) wrong.is_due stands.pieces in
    let run : IsCoreRun caller (before ++ request ∷ after) made (stands.events ++ sent (run_value now) got ∷ []) outcomes (ends_of.Host (run_value now) got) =
    host before after request made stands.events outcomes now got refl pieces wrong.wrong in
    record {
      events = stands.events ++ sent (run_value now) got ∷ [];
      run = subst (λ (l : List Made). IsCoreRun caller (before ++ request ∷ after) l (stands.events ++ sent (run_value now) got ∷ []) outs end) (sym (ap (λ (l : List Made). made ++ l) wrong.none ∙ append-nil made))
          (subst (λ (o : List Outcome). IsCoreRun caller (before ++ request ∷ after) made (stands.events ++ sent (run_value now) got ∷ []) o end) (sym wrong.outs_are)
          (subst (λ (e : CoreEnd). IsCoreRun caller (before ++ request ∷ after) made (stands.events ++ sent (run_value now) got ∷ []) outcomes e) (sym wrong.end_is) run));
      given = given_append lines caller.core fresh_world stands.events (sent (run_value now) got ∷ []) stands.given
          (ap (λ (c : ℕ). run_answer lines c world.runs) stands.core ∙ ap (λ (w : Scripted). run_answer lines caller.core w.runs) (sym stands.world_is), tt);
    }

cut_run : (lines : List HostLine) (caller : Caller) (before : List Request) (request : Request) (after : List Request) (made : List Made) (outcomes : List Outcome) (now : Caller) (due : Bool) (world : Scripted) (steps : List Made)
    (outs : List Outcome) (end : CoreEnd) (runs : List Event) → Stands lines caller before made outcomes now due world → IsRunRequest now due runs → AreGiven lines now.core world runs
    → RequestCut lines now.core now request (worlds_after world runs) outcomes steps outs end → ReadsRun lines caller (before ++ request ∷ after) (made ++ steps) outs end
cut_run lines caller before request after made outcomes now due world steps outs end runs stands asks told cut =
    let run : IsCoreRun caller (before ++ request ∷ after) (made ++ steps) (stands.events ++ (runs ++ cut.asked)) outcomes (ends_of.Faulted cut.ticket) =
    faulted before after request made steps stands.events runs cut.asked outcomes now due cut.ticket refl stands.pieces asks cut.cut in
    record {
      events = stands.events ++ (runs ++ cut.asked);
      run = subst (λ (o : List Outcome). IsCoreRun caller (before ++ request ∷ after) (made ++ steps) (stands.events ++ (runs ++ cut.asked)) o end) (sym cut.outs_are)
          (subst (λ (e : CoreEnd). IsCoreRun caller (before ++ request ∷ after) (made ++ steps) (stands.events ++ (runs ++ cut.asked)) outcomes e) (sym cut.end_is) run);
      given = given_append lines caller.core fresh_world stands.events (runs ++ cut.asked) stands.given
          (subst (λ (w : Scripted). AreGiven lines caller.core w (runs ++ cut.asked)) (sym stands.world_is)
          (subst (λ (c : ℕ). AreGiven lines c world (runs ++ cut.asked)) stands.core (given_append lines now.core world runs cut.asked told cut.told)));
    }

one_stands : (lines : List HostLine) (caller : Caller) (before : List Request) (request : Request) (made : List Made) (outcomes : List Outcome) (now : Caller) (due : Bool) (world : Scripted)
    (more : More) (steps : List Made) (end : Tree) (runs : List Event) → Stands lines caller before made outcomes now due world → IsRunRequest now due runs → AreGiven lines now.core world runs
    → (over : RequestOver lines now.core now request (worlds_after world runs) more steps end)
    → Stands lines caller (before ++ request ∷ []) (made ++ over.first) (outcomes ++ over.outcome ∷ []) (caller_after now over.first) (is_call request) (worlds_after (worlds_after world runs) over.asked)
one_stands lines caller before request made outcomes now due world more steps end runs stands asks told over = record {
  events = stands.events ++ (runs ++ over.asked);
  pieces = one_more before made stands.events outcomes now due request over.first runs over.asked over.outcome stands.pieces asks over.piece;
  given = given_append lines caller.core fresh_world stands.events (runs ++ over.asked) stands.given
      (subst (λ (w : Scripted). AreGiven lines caller.core w (runs ++ over.asked)) (sym stands.world_is)
      (subst (λ (c : ℕ). AreGiven lines c world (runs ++ over.asked)) stands.core (given_append lines now.core world runs over.asked told over.given)));
  world_is = worlds_append fresh_world stands.events (runs ++ over.asked) ∙ ap (λ (w : Scripted). worlds_after w (runs ++ over.asked)) stands.world_is ∙ worlds_append world runs over.asked;
  core = stands.core;
  apic = stands.apic;
}

abbrev Whole : List HostLine → Caller → List Request → List Request → Type 0
Whole lines caller before after =
    (made : List Made) (outcomes : List Outcome) (now : Caller) (due : Bool) (world : Scripted) (steps : List Made) (outs : List Outcome) (end : CoreEnd)
    → Stands lines caller before made outcomes now due world → AreAnswers steps → Follows (requests_tree lines after now due world outcomes) steps (ended outs end)
    → ReadsRun lines caller (before ++ after) (made ++ steps) outs end

goes_on : (lines : List HostLine) (caller : Caller) (before : List Request) (request : Request) (after : List Request) → Whole lines caller (before ++ request ∷ []) after
    → (made : List Made) (outcomes : List Outcome) (now : Caller) (due : Bool) (world : Scripted) (steps : List Made) (outs : List Outcome) (end : CoreEnd) (runs : List Event)
    → Stands lines caller before made outcomes now due world → IsRunRequest now due runs → AreGiven lines now.core world runs
    → RequestOver lines now.core now request (worlds_after world runs) (λ next due world outcome. requests_tree lines after next due world (outcomes ++ outcome ∷ [])) steps (ended outs end)
    → ReadsRun lines caller (before ++ request ∷ after) (made ++ steps) outs end
goes_on lines caller before request after rest made outcomes now due world steps outs end runs stands asks told over =
    let later : ReadsRun lines caller ((before ++ request ∷ []) ++ after) ((made ++ over.first) ++ over.second) outs end =
    rest (made ++ over.first) (outcomes ++ over.outcome ∷ []) (caller_after now over.first) (is_call request) (worlds_after (worlds_after world runs) over.asked) over.second outs end
    (one_stands lines caller before request made outcomes now due world (λ next due world outcome. requests_tree lines after next due world (outcomes ++ outcome ∷ [])) steps (ended outs end) runs stands asks told over)
    over.answers over.follows in
    subst (λ (l : List Made). ReadsRun lines caller (before ++ request ∷ after) l outs end) (append_assoc made over.first over.second ∙ ap (λ (l : List Made). made ++ l) (sym over.split))
    (subst (λ (l : List Request). ReadsRun lines caller l ((made ++ over.first) ++ over.second) outs end) (append_assoc before (request ∷ []) after) later)

-- what leads along the tree of the requests that are left to an end is the rest of a core's run
pub core_reads : (lines : List HostLine) (caller : Caller) (after before : List Request) → Whole lines caller before after
core_reads lines caller [] before made outcomes now due world [] outs end stands answers follows = absurd (cc)
core_reads lines caller [] before made outcomes now due world (m ∷ steps) outs end stands answers follows =
    let same : Leave now.apic ≡ m.step = let some : Some (Leave now.apic) ≡ Some m.step = follows.0 in cc in
    subst (λ (l : List Request). ReadsRun lines caller l (made ++ m ∷ steps) outs end) (sym (append-nil before))
    (leaves lines caller before made outcomes now due world m steps outs end (fault_at m.answer) refl answers.0 stands same follows.1)
core_reads lines caller (request ∷ after) before made outcomes now due world steps outs end stands answers follows = ⊎_elim
    (λ over. ⊎_elim
    (λ request_over. goes_on lines caller before request after (core_reads lines caller after (before ++ request ∷ [])) made outcomes now due world steps outs end over.runs stands over.run over.given request_over)
    (λ cut. cut_run lines caller before request after made outcomes now due world steps outs end over.runs stands over.run over.given cut)
    (request_reads lines now request (worlds_after world over.runs) outcomes (λ next due world outcome. requests_tree lines after next due world (outcomes ++ outcome ∷ [])) steps outs end answers over.follows))
    (λ wrong. wrong_run lines caller before request after made outcomes now due world steps outs end stands wrong)
    (run_reads lines now due world outcomes
    (λ world. request_tree now world outcomes request (λ next due world outcome. requests_tree lines after next due world (outcomes ++ outcome ∷ []))) steps outs end follows)

-- what leads along the whole tree of a script to an end is a core's run in the world of its host lines
pub tree_runs : TreesAreRuns
tree_runs lines caller script steps outs end answers follows =
    core_reads lines caller script [] [] [] caller true fresh_world steps outs end
    (record { events = []; pieces = none; given = tt; world_is = refl; core = refl; apic = refl }) answers follows
