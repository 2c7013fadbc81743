-- What holds of each run of a sound image with scripts: the laws of all runs, together.
use Rattle.std.specs.Prelude.{◌≡◌, ℕ, ◌+◌, ◌*◌, ◌<◌, ◌≤◌, ◌⊎◌, Bool, false, Some, List, ◌∷◌, ◌++◌, length, Contains, IsTrue, ⊤}
use Rattle.svsm_types.specs.declared.image.Image.{Image}
use Rattle.svsm_types.specs.declared.call.Regs.{Regs}
use Rattle.svsm_types.specs.declared.request.Request.{Request}
use Rattle.svsm_steps.specs.declared.call.Caller.{Caller}
use Rattle.svsm_steps.specs.declared.call.Do.{Do}
use Rattle.svsm_steps.specs.declared.entry.Entry.{Entry}
use Rattle.svsm_steps.specs.declared.outcome.Outcome.{Outcome}
use Rattle.svsm_steps.specs.declared.outcome.CoreEnd.{CoreEnd}
use Rattle.svsm_steps.specs.declared.outcome.CoreEnd.TheVariants as ends
use Rattle.svsm_steps.specs.declared.outcome.CoreRun.{CoreRun}
use Rattle.svsm_steps.specs.Made.{Made, made_by}
use Rattle.svsm_steps.specs.Image.{constants_of, booted}
use Rattle.svsm_steps.specs.Partition.{PartitionAlong}
use Rattle.svsm_steps.specs.Odd.{NoneOdd}
use Rattle.svsm_steps.specs.Levels.{AllLeaveOthers}
use Rattle.svsm_steps.specs.Region.{fault_at}
use Rattle.svsm_steps.specs.Requests.{AreScripts}
use Rattle.svsm_steps.specs.Sound.{IsSound}
use Rattle.svsm_calls.specs.World.{run_answer}
use Rattle.svsm_calls.specs.CoreRun.{is_run_answer, IsPiece, IsCutOff}
use Rattle.svsm_calls.specs.Events.{Event, pairs_of}
use Rattle.svsm_calls.specs.Admitted.{IsAdmitted, none_stops, Succeeds}
use Rattle.svsm_calls.specs.Calls.{ListCall}
use Rattle.svsm_calls.specs.Once.{CallMade, Once}
use Rattle.svsm_calls.specs.Resumed.{IsInOrder}
use Rattle.svsm_calls.specs.Apart.{IsApart}
use Rattle.svsm_calls.specs.Alone.{state_at_end, AnswersApart}
use Rattle.svsm_calls.specs.Run.{IsRun, script_of}
use Rattle.svsm_laws.specs.Consistent.{IsConsistent}
use Rattle.svsm_run_laws.specs.Announced.{HostKnows}
use Rattle.svsm_run_laws.specs.CutOff.{CutCallsGoOn, EndsInCall}
use Rattle.svsm_run_laws.specs.OwnRows.{ReservedRowsAre, EnteredRowsAre}
use Rattle.svsm_run_laws.specs.Replies.{IsCallOf}
use Rattle.svsm_run_laws.specs.Total.{requests_of}

-- why a core did not make all its requests: a step of its own faulted, which has this ticket, in the call that was its last request;
-- or the host answered one of its run requests wrong, of which there is at most one for each request of its script
abbrev pub EndsFor : Image → List (List Request) → List Entry → ℕ → CoreEnd → Type 0
EndsFor image scripts trace core ends.Done = ⊤
EndsFor image scripts trace core ends.Unstarted = ⊤
EndsFor image scripts trace core (ends.Faulted ticket) = EndsInCall trace core ticket
EndsFor image scripts trace core (ends.Host sent got) =
    (number : ℕ) × (number < length (script_of scripts core)) × (got ≡ run_answer image.host core number) × (is_run_answer got ≡ false)

-- the core of an entry ended by its fault
pub record EndsByFault (cores : List CoreRun) (entry : Entry) : Type 0 where
  pub run : CoreRun
  pub of_run : Contains cores run
  pub of_core : run.core ≡ entry.core
  pub ends : run.end ≡ ends.Faulted entry.ticket

-- the steps of one request, which is over or was cut off by a fault
abbrev pub OfOneRequest : List Made → Type 0
OfOneRequest steps =
    (caller : Caller) × (request : Request) × (events : List Event)
    × (((outcome : Outcome) × IsPiece caller request steps events outcome) ⊎ ((ticket : ℕ) × IsCutOff caller request steps events ticket))

-- a run of an image and its scripts, with what its cores gave
pub record IsAccounted (image : Image) (scripts : List (List Request)) (trace : List Entry) (cores : List CoreRun) : Type 0 where
  -- the state is consistent, before and after each entry: shut, with rights, blocks and rows as they have to be
  pub consistent : (front back : List Entry) → trace ≡ front ++ back → IsConsistent image.regions (state_at_end image front)
  -- pages of the pool and VMSA pages are accounted for once, before and after each entry
  pub partition : PartitionAlong (constants_of image) (booted image) trace
  -- the Reserved rows are those of the cores between a Reserve that was Done and its Commit or Cancel
  pub reserved : (front back : List Entry) → trace ≡ front ++ back → ReservedRowsAre image (state_at_end image front).rows front
  -- and each core between its Enter and its Leave has just one Entered row
  pub entered : (front back : List Entry) → trace ≡ front ++ back → EnteredRowsAre image (state_at_end image front).rows front
  -- no answer is odd: a core finds the pages and the rows that it holds
  pub none_odd : NoneOdd trace
  -- what the module does for one level of the guest leaves each recorded page of the guest to which that level has no right
  pub leaves_others : AllLeaveOthers (constants_of image) (booted image) trace
  -- list calls that were stopped and are made again perform each index once
  pub once : Once (constants_of image) (booted image) trace
  -- each list call performs its indexes in order, each with the word that stood there
  pub in_order :
      (call : ListCall) (list : ℕ) (made : CallMade call list)
      → ((entry : Entry) → Contains (made.load ∷ made.rest) entry → Contains trace entry)
      → IsInOrder (constants_of image) (booted image) trace call list made
  -- and both hold of the list calls that a fault cut off
  pub cut_off : CutCallsGoOn (constants_of image) (booted image) trace
  -- cores that share nothing answer as each of them would alone
  pub alone : IsApart image.regions trace → AnswersApart image scripts trace cores
  -- after each wave whose exits the host took, the host's list is that of the vCPUs that stand
  pub host_knows : HostKnows image trace
  -- a request makes at most 4,097 entries, also where a fault cuts it off; and a core at most 524,418
  pub few_of_requests :
      (core : ℕ) (before steps after : List Made) → made_by core trace ≡ before ++ (steps ++ after) → OfOneRequest steps → length steps ≤ 4097
  pub few_of_cores : (core : ℕ) → length (made_by core trace) ≤ 524418
  -- and all of them at most 4,097 for each request, and Enter and Leave for each core
  pub few_in_all : length trace ≤ 4097 * requests_of scripts + 2 * length image.cores
  -- each admitted call that no poll stopped and no fault ended replies success
  pub admitted :
      (core : ℕ) (pend : Bool) (caller : Caller) (regs : Regs) (steps : List Made) (polls : List Bool) (end : Do)
      → IsCallOf core trace pend caller regs steps polls end
      → IsAdmitted caller regs (pairs_of steps) → IsTrue (none_stops polls) → Succeeds end
  -- each core that did not make all its requests has its cause, and each fault ends its core
  pub ends : (run : CoreRun) → Contains cores run → EndsFor image scripts trace run.core run.end
  pub faults : (entry : Entry) (done : ℕ) → Contains trace entry → fault_at entry.answer ≡ Some done → EndsByFault cores entry

-- So it is of each run of a sound image with scripts.
abbrev pub RunsAreAccounted : Type 0
RunsAreAccounted =
    (image : Image) (scripts : List (List Request)) (entries : List Entry) (cores : List CoreRun)
    → IsSound image → AreScripts scripts → IsRun image scripts entries cores → IsAccounted image scripts entries cores
