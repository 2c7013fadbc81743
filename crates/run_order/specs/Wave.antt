-- A wave of cores that was read, behind its Enters. This module's own.
use Rattle.std.specs.Prelude.{◌≡◌, ◌⊎◌, ⊤, ℕ, ◌<◌, ◌≤◌, All, IsTrue, List, [], ◌∷◌, length, get_or, map, take, slice_get, Some}
use Rattle.std.specs.List.{Any, list_all}
use Rattle.svsm_types.specs.declared.address.Gpa.{Gpa}
use Rattle.svsm_types.specs.declared.address.Page.{Page}
use Rattle.svsm_types.specs.declared.image.Image.{Image}
use Rattle.svsm_types.specs.declared.request.Request.{Request}
use Rattle.svsm_steps.specs.declared.call.Caller.{Caller}
use Rattle.svsm_steps.specs.declared.entry.Entry.{Entry}
use Rattle.svsm_steps.specs.declared.answer.Answer.TheVariants.{Seen}
use Rattle.svsm_steps.specs.declared.step.Step.{Step}
use Rattle.svsm_steps.specs.declared.outcome.CoreRun.{CoreRun}
use Rattle.svsm_steps.specs.declared.outcome.Outcome.{Outcome}
use Rattle.svsm_steps.specs.declared.outcome.CoreEnd.{CoreEnd}
use Rattle.svsm_calls.specs.Run.{caller_of, script_of}
use Rattle.svsm_calls.specs.Waves.{enters, is_among}
use Rattle.run_trees.specs.Tree.{Tree, ended, asked_of, Follows}
use Rattle.run_trees.specs.Laws.{script_tree}
use Rattle.run_order.specs.declared.core_read.CoreRead.{CoreRead}
use Rattle.run_order.specs.declared.core_read.CoreRead.TheVariants as reads
use Rattle.run_order.specs.declared.reader.Stop.{Stop}
use Rattle.run_order.specs.declared.reader.Stop.TheVariants as stops
use Rattle.run_order.specs.declared.wave.Member.{Member}
use Rattle.run_order.specs.declared.wave.WaveRead.{WaveRead}
use Rattle.run_order.specs.declared.wave.WaveRead.TheVariants as waves
use Rattle.run_order.specs.Finds.{made_before}
use Rattle.run_order.specs.Reads.{CoreReads}

-- a core of a wave was read
abbrev pub IsRead : Image → List (List Request) → List Entry → Member → Type 0
IsRead image scripts entries member =
    CoreReads member.caller.core entries image.host member.caller (script_of scripts member.caller.core) 0 member.read member.behind

-- the index behind the last entry of a core in a wave, of which there are so many; where the core does not end, that of all entries
abbrev pub end_by : CoreRead → ℕ → ℕ → ℕ
end_by (reads.Ended outcomes end) behind count = behind
end_by (reads.Stopped stop) behind count = count

abbrev pub end_of : Member → ℕ → ℕ
end_of member count = end_by member.read member.behind count

-- the greatest of these ends
pub record IsEndOfAll (members : List Member) (count end : ℕ) : Type 0 where
  pub most : All (λ (member : Member). end_of member count ≤ end) members
  pub reached : (end ≡ 0) ⊎ Any (λ (member : Member). end_of member count ≡ end) members

-- the index of the entry that is another step than a core asks for; without one that of all entries
abbrev pub break_by : CoreRead → ℕ → ℕ
break_by (reads.Stopped (stops.Breaks at)) count = at
break_by _ count = count

abbrev pub break_of : Member → ℕ → ℕ
break_of member count = break_by member.read count

-- the least of these indices
pub record IsFirstBreak (members : List Member) (count first : ℕ) : Type 0 where
  pub within : first ≤ count
  pub least : All (λ (member : Member). first ≤ break_of member count) members
  pub reached : (first ≡ count) ⊎ Any (λ (member : Member). break_of member count ≡ first) members

-- an entry is one of a core of the wave, before its end
abbrev pub IsOwn : List Member → ℕ → Entry → ℕ → Type 0
IsOwn members count entry at =
    Any (λ (member : Member). (member.caller.core ≡ entry.core) × (at < end_of member count)) members

-- each of the first entries is such a one
abbrev pub EachIsOwn : List Member → List Entry → ℕ → Type 0
EachIsOwn members entries end = (i : ℕ) (d : Entry) → i < end → IsOwn members (length entries) (get_or entries i d) i

-- the first that is not, before an index
pub record IsForeign (members : List Member) (entries : List Entry) (end at : ℕ) : Type 0 where
  pub within : at < end
  pub before : EachIsOwn members entries at
  pub foreign : (d : Entry) → IsOwn members (length entries) (get_or entries at d) at → ⊥

-- an entry is the Enter of a core, which saw this calling area
pub record IsEnterOf (image : Image) (core : ℕ) (entry : Entry) (caa : Gpa) : Type 0 where
  pub page : Page
  pub core_is : entry.core ≡ core
  pub step_is : entry.step ≡ enters image core
  pub answer_is : entry.answer ≡ Seen page caa

-- each of these callers entered by the entry that stands in its place
abbrev pub Enterings : Image → List Caller → List Entry → Type 0
Enterings image [] entries = ⊤
Enterings image (caller ∷ callers) [] = ⊥
Enterings image (caller ∷ callers) (entry ∷ entries) =
    IsEnterOf image caller.core entry caller.caa × (caller ≡ caller_of image caller.core caller.caa) × Enterings image callers entries

-- the first entries are the Enters of the first cores, in order, and these are the callers that entered
pub record AreEntered (image : Image) (cores : List ℕ) (entries : List Entry) (callers : List Caller) : Type 0 where
  pub few : length callers ≤ length cores
  pub within : length callers ≤ length entries
  pub callers_are : map (λ (caller : Caller). caller.core) callers ≡ take (length callers) cores
  pub in_order : map (λ (entry : Entry). entry.core) (take (length callers) entries) ≡ take (length callers) cores
  pub enter_steps : map (λ (entry : Entry). entry.step) (take (length callers) entries) ≡ map (enters image) (take (length callers) cores)
  pub each : Enterings image callers entries

-- why no more of them entered: all have, or the entries end, or the next is no Enter of the next core
abbrev pub EnteringEnds : Image → List ℕ → List Entry → ℕ → Type 0
EnteringEnds image cores entries count =
    (count ≡ length cores)
    ⊎ ((length entries ≤ count) ⊎ ((core : ℕ) (entry : Entry) (caa : Gpa) → IsEnterOf image (get_or cores count core) (get_or entries count entry) caa → ⊥))

-- a core was read to its end, with these outcomes
abbrev pub IsEndedBy : Member → List Outcome → CoreEnd → Type 0
IsEndedBy member outcomes end = member.read ≡ reads.Ended outcomes end

abbrev pub HasEnd : Member → Type 0
HasEnd member = (outcomes : List Outcome) × (end : CoreEnd) × IsEndedBy member outcomes end

-- a core was not read to its end
abbrev pub HasStopped : Member → Type 0
HasStopped member = (stop : Stop) × (member.read ≡ reads.Stopped stop)

-- a run has what a core of the wave gave
abbrev pub IsRunOfOne : List Member → CoreRun → Type 0
IsRunOfOne members run = Any (λ (member : Member). (member.caller.core ≡ run.core) × IsEndedBy member run.outcomes run.end) members

-- the first entries, so many, lead a core that entered to this place of the tree of its script
abbrev pub Stands : Image → List (List Request) → List Entry → ℕ → Caller → Tree → Type 0
Stands image scripts entries n caller tree =
    Follows (script_tree image.host caller (script_of scripts caller.core)) (made_before caller.core entries n) tree

-- they are of the cores that entered, each of which stands somewhere
pub record AreStanding (image : Image) (scripts : List (List Request)) (callers : List Caller) (entries : List Entry) (n : ℕ) : Type 0 where
  pub of_cores : IsTrue (list_all (λ (entry : Entry). is_among entry.core (map (λ (caller : Caller). caller.core) callers)) (take n entries))
  pub each : All (λ (caller : Caller). (tree : Tree) × Stands image scripts entries n caller tree) callers

-- a core asks for a step there
pub record AsksMore (image : Image) (scripts : List (List Request)) (entries : List Entry) (n : ℕ) (caller : Caller) : Type 0 where
  pub tree : Tree
  pub step : Step
  pub stands : Stands image scripts entries n caller tree
  pub asks : asked_of tree ≡ Some step

-- where an entry is one of this core, it is another step than the core asks for there
abbrev pub IsNotAsked : Image → List (List Request) → List Entry → ℕ → Entry → Caller → Type 0
IsNotAsked image scripts entries n entry caller =
    caller.core ≡ entry.core → (tree : Tree) × Stands image scripts entries n caller tree × (asked_of tree ≡ Some entry.step → ⊥)

-- a run is that of a core which has ended there
abbrev pub IsEndOf : Image → List (List Request) → List Caller → List Entry → ℕ → CoreRun → Type 0
IsEndOf image scripts callers entries n run =
    Any (λ (caller : Caller). (caller.core ≡ run.core) × Stands image scripts entries n caller (ended run.outcomes run.end)) callers

-- how the entries behind the Enters are read
abbrev pub CoresRead : Image → List (List Request) → List Caller → List Entry → WaveRead → Type 0
CoresRead image scripts callers entries (waves.Over count runs) =
    (count ≤ length entries)
    × (AreStanding image scripts callers entries count
    × ((map (λ (run : CoreRun). run.core) runs.items ≡ map (λ (caller : Caller). caller.core) callers)
    × All (IsEndOf image scripts callers entries count) runs.items))
CoresRead image scripts callers entries (waves.Breaks at) =
    (at < length entries)
    × (AreStanding image scripts callers entries at
    × (Any (AsksMore image scripts entries at) callers
    × ((entry : Entry) → slice_get entries at ≡ Some entry → All (IsNotAsked image scripts entries at entry) callers)))
CoresRead image scripts callers entries waves.UnderWay =
    AreStanding image scripts callers entries (length entries) × Any (AsksMore image scripts entries (length entries)) callers
