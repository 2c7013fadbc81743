-- List calls that a fault cut off, which have no reply: which indexes they performed. This module's own.
use Rattle.std.specs.Prelude.{◌≡◌, ◌⊎◌, ℕ, ◌+◌, ◌<◌, ◌≤◌, Bool, Ok, List, [], ◌∷◌, ◌++◌, length, map, slice_index_or, Contains}
use Rattle.std.specs.List.{range_with_len}
use Rattle.svsm_types.specs.declared.call.Regs.{Regs}
use Rattle.svsm_types.specs.declared.call.Call.{Call}
use Rattle.svsm_types.specs.declared.call.Call.TheVariants as calls
use Rattle.svsm_types.specs.declared.request.Request.{Request}
use Rattle.svsm_types.specs.declared.image.Image.{Image}
use Rattle.svsm_steps.specs.declared.step.Step.{Step}
use Rattle.svsm_steps.specs.declared.step.Step.TheVariants.{GuestPend, StoreNext, SetAvail}
use Rattle.svsm_steps.specs.declared.answer.Answer.{Answer}
use Rattle.svsm_steps.specs.declared.answer.Answer.TheVariants.{Word, Fault}
use Rattle.svsm_steps.specs.declared.call.Caller.{Caller}
use Rattle.svsm_steps.specs.declared.entry.Entry.{Entry}
use Rattle.svsm_steps.specs.declared.outcome.CoreEnd.TheVariants.{Faulted}
use Rattle.svsm_steps.specs.declared.outcome.CoreRun.{CoreRun}
use Rattle.svsm_steps.specs.Made.{made_of}
use Rattle.svsm_steps.specs.Partition.{of_core}
use Rattle.svsm_steps.specs.State.{State, Constants}
use Rattle.svsm_steps.specs.Machine.{IsRunFrom}
use Rattle.svsm_calls.specs.Lists.{entries_of, next_of, entry_at}
use Rattle.svsm_calls.specs.Dialogue.{Asked, ◌gives◌, AreListed}
use Rattle.svsm_calls.specs.Calls.{ListCall, pvalidate, deposit, withdraw, Listed, End, list_of, decoded}
use Rattle.svsm_calls.specs.Sequences.{IsPerformed, IsFailed, ArePerformed, IsEnd, joined, loads_header, listed, takes_pending}
use Rattle.svsm_calls.specs.Events.{Event}
use Rattle.svsm_calls.specs.CoreRun.{IsCallCut}
use Rattle.svsm_calls.specs.Once.{asked_by, CallMade, indexes_by}
use Rattle.svsm_calls.specs.Resumed.{WordStood, IsFetched, AreFollowed}
use Rattle.svsm_calls.specs.Run.{IsRun}

-- THE CALL

-- entry j was begun by these steps, and its next step faulted: with another answer they go on to a performed entry, or to one that
-- fails
pub data IsBegun (w : Listed) (j : ℕ) (begun : List Asked) (step : Step) : Type 0 where
  performing :
      (answer : Answer) (more : List Asked) → IsPerformed w j w.call (begun ++ step gives answer ∷ more) → IsBegun w j begun step
  failing :
      (answer : Answer) (more : List Asked) (code : ℕ) → IsFailed w j w.call (begun ++ step gives answer ∷ more) code
      → IsBegun w j begun step

-- past its entries a walk stores index k, and then mem_available: one of these steps faulted, behind these
pub data IsClosing (w : Listed) (k : ℕ) : List Asked → Step → Type 0 where
  stores : IsClosing w k [] (StoreNext w.caller.vmpl (list_of w.regs) k)
  tells :
      (stored : Answer) (on : Bool)
      → IsClosing w k (StoreNext w.caller.vmpl (list_of w.regs) k gives stored ∷ []) (SetAvail w.caller.vmpl w.caller.caa on)

-- where a walk of n entries was cut off at index k, behind so many performed entries: in entry k; or past its entries, where it ended
pub data IsCutAt (w : Listed) (n k m : ℕ) : List Asked → Step → Type 0 where
  in_entry : (begun : List Asked) (step : Step) → k < n → IsBegun w k begun step → IsCutAt w n k m begun step
  past_entries :
      (end : End) (tail closing : List Asked) (polls : List Bool) (step : Step)
      → IsEnd w n k m end tail polls → IsClosing w k closing step → IsCutAt w n k m (tail ++ closing) step

-- the walk of a list of n entries past its header, up to a step that faulted: performed entries from the next index on, and what was
-- made behind them
pub record IsWalkCut (w : Listed) (n : ℕ) (pairs : List Asked) (step : Step) : Type 0 where
  pub parts : List (List Asked)
  pub begun : List Asked
  pub performed : ArePerformed w w.first parts
  pub cut : IsCutAt w n (w.first + length parts) (length parts) begun step
  pub made : pairs ≡ joined parts ++ begun

-- a list call of a history that a fault cut off: the load of its header, its walk, and the entry that faulted. It has no reply
pub record CallCut (call : ListCall) (list : ℕ) : Type 0 where
  pub caller : Caller
  pub regs : Regs
  pub header : ℕ
  pub load : Entry
  pub rest : List Entry
  pub fault : Entry
  pub micros : ℕ
  pub on_list : regs.rcx ≡ list
  pub loads : load.step gives load.answer ≡ loads_header caller regs gives Word header
  pub walk : IsWalkCut (listed call caller regs header) (entries_of header) (asked_by rest) fault.step
  pub faults : fault.answer ≡ Fault micros
  pub listed_answers : AreListed (asked_by rest)

-- WHAT IT PERFORMED

-- the index at which such a call was cut off: that behind the performed ones
abbrev pub index_cut : {call : ListCall} {list : ℕ} → CallCut call list → ℕ
index_cut cut = next_of cut.header + length cut.walk.parts

-- the indexes that it performed, in order: from the next index of its header on
abbrev pub indexes_cut : {call : ListCall} {list : ℕ} → CallCut call list → List ℕ
indexes_cut cut = range_with_len (next_of cut.header) (length cut.walk.parts)

-- as a call with a reply does, it performs the indexes from the next index of the header that it loaded on, without gap, all below
-- that header's number of entries, each with the word that stood there when it was loaded, whatever others write meanwhile. An entry
-- in which the fault came is the next one, and is not performed; where it was loaded, its word stood there too
pub record IsCutInOrder (constants : Constants) (state : State) (entries : List Entry) (call : ListCall) (list : ℕ)
    (cut : CallCut call list) : Type 0 where
  pub header : WordStood constants state entries cut.load list cut.header
  pub bounded : index_cut cut ≤ entries_of cut.header
  pub fetched :
      (p : ℕ) → p < length cut.walk.parts
      → IsFetched constants state entries cut.rest cut.caller.vmpl (entry_at list (next_of cut.header + p))
      (slice_index_or cut.walk.parts p [])
  pub begun :
      IsBegun (listed call cut.caller cut.regs cut.header) (index_cut cut) cut.walk.begun cut.fault.step
      → (cut.walk.begun ≡ [])
      ⊎ IsFetched constants state entries cut.rest cut.caller.vmpl (entry_at list (index_cut cut)) cut.walk.begun

-- Each list call whose entries are of a run, and which a fault cut off, performs so.
abbrev pub CutCallsAreInOrder : Constants → State → List Entry → Type 0
CutCallsAreInOrder constants state entries =
    (call : ListCall) (list : ℕ) (cut : CallCut call list)
    → ((entry : Entry) → Contains (cut.load ∷ cut.rest) entry → Contains entries entry)
    → IsCutInOrder constants state entries call list cut

-- as the last of calls on one list it goes on where the one before stopped: their indexes are i, i + 1 and so on, without gap or
-- repeat, where i is the first header's next index, all below the number of entries
pub record IsOnceCut (call : ListCall) (list : ℕ) (first : CallMade call list) (others : List (CallMade call list))
    (cut : CallCut call list) : Type 0 where
  pub without_gap :
      indexes_by (first ∷ others) ++ indexes_cut cut
      ≡ range_with_len (next_of first.header) (length (indexes_by (first ∷ others) ++ indexes_cut cut))
  pub bounded : next_of first.header + length (indexes_by (first ∷ others) ++ indexes_cut cut) ≤ entries_of first.header

-- Once, of calls that were stopped and one that a fault cut off: up to its load of the header no word of the header was changed but by
-- the stores of these calls.
abbrev pub OnceCut : Constants → State → List Entry → Type 0
OnceCut constants state entries =
    (call : ListCall) (list : ℕ) (first : CallMade call list) (others : List (CallMade call list)) (cut : CallCut call list)
    → AreFollowed constants state entries call list first others cut.load → IsOnceCut call list first others cut

-- both, of the entries of a history
pub record CutCallsGoOn (constants : Constants) (state : State) (entries : List Entry) : Type 0 where
  pub in_order : CutCallsAreInOrder constants state entries
  pub once : OnceCut constants state entries

-- So it is of the entries of any run from any state, whatever cores made them.
abbrev pub CutInRuns : Type 0
CutInRuns =
    (constants : Constants) (n : ℕ) (state : State) (entries : List Entry) → IsRunFrom constants n state entries
    → CutCallsGoOn constants state entries

-- THE LAST REQUEST OF A CORE

-- a call of the core protocol that goes over a list
abbrev pub as_call : ListCall → Call
as_call pvalidate = calls.Pvalidate
as_call deposit = calls.Deposit
as_call withdraw = calls.Withdraw

-- the steps of a list call up to the load of its header
abbrev pub up_to_header : Caller → Regs → List Step
up_to_header caller regs = GuestPend caller.vmpl caller.caa ∷ (takes_pending caller ∷ (loads_header caller regs ∷ []))

-- what a list call of a core was that a fault cut off, by its entries: one of the steps up to the load of its header faulted, so it
-- performed nothing; or it is such a call
pub data IsCutAs (call : ListCall) (caller : Caller) (regs : Regs) (own : List Entry) : Type 0 where
  before_walk :
      (front : List Entry) (fault : Entry) → own ≡ front ++ fault ∷ [] → Contains (up_to_header caller regs) fault.step
      → IsCutAs call caller regs own
  in_walk :
      (cut : CallCut call regs.rcx) (front : List Entry) → own ≡ front ++ (cut.load ∷ (cut.rest ++ cut.fault ∷ []))
      → cut.caller ≡ caller → IsCutAs call caller regs own

-- the last request of a core that ended by the fault with this ticket is a call, which the fault cut off; where it goes over a list,
-- it is such a call
pub record EndsInCall (entries : List Entry) (core ticket : ℕ) : Type 0 where
  pub before : List Entry
  pub own : List Entry
  pub last : of_core core entries ≡ before ++ own
  pub pend : Bool
  pub caller : Caller
  pub regs : Regs
  pub number : ℕ
  pub events : List Event
  pub cut_off : IsCallCut pend caller regs number (map made_of own) events ticket
  pub over_list : (call : ListCall) → decoded regs ≡ Ok (as_call call) → IsCutAs call caller regs own

-- So ends each core of a run that a fault ended.
abbrev pub FaultsEndInCalls : Type 0
FaultsEndInCalls =
    (image : Image) (scripts : List (List Request)) (entries : List Entry) (cores : List CoreRun) → IsRun image scripts entries cores
    → (run : CoreRun) (ticket : ℕ) → Contains cores run → run.end ≡ Faulted ticket → EndsInCall entries run.core ticket
