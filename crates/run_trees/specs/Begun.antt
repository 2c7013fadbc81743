-- Waves that have begun: what is kept of a history that is read entry by entry, and what it stands for. This module's own.
use Rattle.std.specs.Prelude.{◌≡◌, ◌≢◌, ◌⊎◌, ℕ, ◌<◌, ◌≤◌, ◌+◌, Bool, true, false, IsTrue, List, [], ◌∷◌, ◌++◌, length, take, slice_index_or, map, Some}
use Rattle.std.specs.List.{list_all}
use Rattle.svsm_types.specs.declared.address.Page.{Page}
use Rattle.svsm_types.specs.declared.address.Gpa.{Gpa}
use Rattle.svsm_types.specs.declared.image.Image.{Image}
use Rattle.svsm_types.specs.declared.request.Request.{Request}
use Rattle.svsm_steps.specs.declared.answer.Answer.TheVariants.{Seen}
use Rattle.svsm_steps.specs.declared.entry.Entry.{Entry}
use Rattle.svsm_steps.specs.declared.outcome.Outcome.{Outcome}
use Rattle.svsm_steps.specs.declared.outcome.CoreEnd.{CoreEnd}
use Rattle.svsm_steps.specs.declared.outcome.CoreRun.{CoreRun}
use Rattle.svsm_steps.specs.Region.{fault_at}
use Rattle.svsm_steps.specs.Made.{Made, made_by}
use Rattle.svsm_steps.specs.Announced.{Announced}
use Rattle.svsm_calls.specs.Waves.{is_among, next_wave, enters, exits_of, has_refused, AreWaves}
use Rattle.svsm_calls.specs.Run.{caller_of, script_of}
use Rattle.run_trees.specs.Tree.{Tree, ended, asked_of, tree_after, Follows}
use Rattle.run_trees.specs.Laws.{CanAnswer, AreAnswers, script_tree}
use Rattle.run_trees.specs.Order.{IsOrdered, IsFront}

-- a core entered, and its steps lead to this place of the tree of its script
pub record HasEntered (image : Image) (scripts : List (List Request)) (core : ℕ) (made : List Made) (tree : Tree) : Type 0 where
  pub ticket : ℕ
  pub page : Page
  pub caa : Gpa
  pub rest : List Made
  pub begins : made ≡ record { ticket = ticket; step = enters image core; answer = Seen page caa } ∷ rest
  pub answers : AreAnswers rest
  pub follows : Follows (script_tree image.host (caller_of image core caa) (script_of scripts core)) rest tree

-- it is at its end
pub record HasEnded (image : Image) (scripts : List (List Request)) (core : ℕ) (made : List Made) : Type 0 where
  pub outs : List Outcome
  pub end : CoreEnd
  pub entered : HasEntered image scripts core made (ended outs end)

-- it is somewhere on its way
pub record IsUnderWay (image : Image) (scripts : List (List Request)) (core : ℕ) (made : List Made) : Type 0 where
  pub tree : Tree
  pub entered : HasEntered image scripts core made tree

-- the cores that enter next: none where the host refused an exit
abbrev pub cores_behind : Bool → List ℕ → List ℕ
cores_behind true cores = []
cores_behind false cores = cores

-- the wave behind these entries, in which these cores ran, with these exits
abbrev pub wave_behind : Image → List Entry → List ℕ → List Announced → List ℕ
wave_behind image entries ran exits = cores_behind (has_refused image exits) (next_wave image entries ran)

-- the exits once a wave of these cores is over; an empty wave has none
abbrev pub exits_behind : Image → List Announced → List ℕ → List Entry → List Entry → List Announced
exits_behind image exits [] before wave = exits
exits_behind image exits (core ∷ cores) before wave = exits ++ exits_of image before wave

-- whole waves, in which these cores ran to their ends, with these exits, and a wave of these cores, of which the first have entered
pub record IsBegun (image : Image) (scripts : List (List Request)) (entries : List Entry) (ran : List ℕ) (exits : List Announced) (cores : List ℕ)
    (entered : ℕ) : Type 0 where
  pub before : List Entry
  pub wave : List Entry
  pub first : List Entry
  pub others : List Entry
  pub split : entries ≡ before ++ wave
  pub waves : AreWaves image before ran exits
  pub whole : (core : ℕ) → is_among core ran ≡ true → HasEnded image scripts core (made_by core before)
  pub next : cores ≡ wave_behind image before ran exits
  pub begin : wave ≡ first ++ others
  pub in_order : map (λ (entry : Entry). entry.core) first ≡ take entered cores
  pub enter_steps : map (λ (entry : Entry). entry.step) first ≡ map (enters image) (take entered cores)
  pub within : entered ≤ length cores
  pub waiting : entered < length cores → others ≡ []
  pub of_cores : IsTrue (list_all (λ (entry : Entry). is_among entry.core (take entered cores)) wave)
  pub each : (core : ℕ) → is_among core (take entered cores) ≡ true → IsUnderWay image scripts core (made_by core wave)

-- some waves have begun so
pub record HasBegun (image : Image) (scripts : List (List Request)) (entries : List Entry) : Type 0 where
  pub ran : List ℕ
  pub exits : List Announced
  pub cores : List ℕ
  pub entered : ℕ
  pub begun : IsBegun image scripts entries ran exits cores entered

-- the answers of a history's entries, as their steps may have them
abbrev pub GivesAnswers : List Entry → Type 0
GivesAnswers entries = (core : ℕ) → AreAnswers (made_by core entries)

-- STATEMENTS, to be proved: what is kept stands for what the rules allow

-- what has begun so can go on to a whole list
abbrev pub BegunAreFronts : Type 0
BegunAreFronts = (image : Image) (scripts : List (List Request)) (entries : List Entry) → HasBegun image scripts entries → IsFront image scripts entries

-- and each begin of a whole list has begun so
abbrev pub FrontsAreBegun : Type 0
FrontsAreBegun =
    (image : Image) (scripts : List (List Request)) (entries : List Entry) → GivesAnswers entries → IsFront image scripts entries
    → HasBegun image scripts entries

-- where all cores of the wave have ended and no wave follows, the list is whole, with what its cores gave
abbrev pub EndedAreOrdered : Type 0
EndedAreOrdered =
    (image : Image) (scripts : List (List Request)) (entries : List Entry) (ran : List ℕ) (exits : List Announced) (cores : List ℕ)
    → (begun : IsBegun image scripts entries ran exits cores (length cores))
    → ((core : ℕ) → is_among core cores ≡ true → HasEnded image scripts core (made_by core entries))
    → wave_behind image entries (ran ++ cores) (exits_behind image exits cores begun.before begun.wave) ≡ []
    → (runs : List CoreRun) × IsOrdered image scripts entries runs

-- a core of a wave all of whose cores have entered makes the step that it asks for, and goes on in its tree
abbrev pub EntryGoesOn : Type 0
EntryGoesOn =
    (image : Image) (scripts : List (List Request)) (entries : List Entry) (ran : List ℕ) (exits : List Announced) (cores : List ℕ)
    → IsBegun image scripts entries ran exits cores (length cores)
    → (entry : Entry) (tree : Tree) → is_among entry.core cores ≡ true → HasEntered image scripts entry.core (made_by entry.core entries) tree
    → asked_of tree ≡ Some entry.step → CanAnswer (fault_at entry.answer) entry.step entry.answer
    → IsBegun image scripts (entries ++ entry ∷ []) ran exits cores (length cores)
    × HasEntered image scripts entry.core (made_by entry.core (entries ++ entry ∷ [])) (tree_after tree entry.ticket entry.answer)

-- the next core of a wave enters, and sees its vCPU: it stands at the begin of the tree of its script
abbrev pub EnterGoesOn : Type 0
EnterGoesOn =
    (image : Image) (scripts : List (List Request)) (entries : List Entry) (ran : List ℕ) (exits : List Announced) (cores : List ℕ)
    (entered : ℕ) → IsBegun image scripts entries ran exits cores entered → entered < length cores
    → (entry : Entry) (page : Page) (caa : Gpa) → entry.core ≡ slice_index_or cores entered entry.core → entry.step ≡ enters image entry.core
    → entry.answer ≡ Seen page caa
    → IsBegun image scripts (entries ++ entry ∷ []) ran exits cores (entered + 1)
    × HasEntered image scripts entry.core (made_by entry.core (entries ++ entry ∷ []))
    (script_tree image.host (caller_of image entry.core caa) (script_of scripts entry.core))

-- nothing has begun yet: the wave is the first, in which none has entered
abbrev pub NoneHaveBegun : Type 0
NoneHaveBegun = (image : Image) (scripts : List (List Request)) → IsBegun image scripts [] [] [] (wave_behind image [] [] []) 0

-- where all cores of the wave have ended, the next wave has begun, in which none has entered
abbrev pub WaveGoesOn : Type 0
WaveGoesOn =
    (image : Image) (scripts : List (List Request)) (entries : List Entry) (ran : List ℕ) (exits : List Announced) (cores : List ℕ)
    → (begun : IsBegun image scripts entries ran exits cores (length cores))
    → ((core : ℕ) → is_among core cores ≡ true → HasEnded image scripts core (made_by core entries))
    → IsBegun image scripts entries (ran ++ cores) (exits_behind image exits cores begun.before begun.wave)
    (wave_behind image entries (ran ++ cores) (exits_behind image exits cores begun.before begun.wave)) 0

-- a wave that is not over, behind which no other can begin: no core is in it, or one has yet to enter, or one has not ended
abbrev pub IsGoing : Image → List (List Request) → List Entry → List ℕ → ℕ → Type 0
IsGoing image scripts entries cores entered =
    (cores ≡ [])
    ⊎ ((entered < length cores) ⊎ ((core : ℕ) × (is_among core cores ≡ true) × (HasEnded image scripts core (made_by core entries) → ⊥)))

-- the entry is the Enter of the next core, which saw its vCPU
pub record IsNextEnter (image : Image) (cores : List ℕ) (entered : ℕ) (entry : Entry) : Type 0 where
  pub page : Page
  pub caa : Gpa
  pub within : entered < length cores
  pub core_is : entry.core ≡ slice_index_or cores entered entry.core
  pub step_is : entry.step ≡ enters image entry.core
  pub answer_is : entry.answer ≡ Seen page caa

-- all cores have entered, and the entry is the step that its core asks for
pub record IsNextStep (image : Image) (scripts : List (List Request)) (entries : List Entry) (cores : List ℕ) (entered : ℕ)
    (entry : Entry) : Type 0 where
  pub tree : Tree
  pub all : entered ≡ length cores
  pub among : is_among entry.core cores ≡ true
  pub has_entered : HasEntered image scripts entry.core (made_by entry.core entries) tree
  pub asks : asked_of tree ≡ Some entry.step

-- where a wave is not over and the list with one entry more is still a front, that entry is the next Enter or its core's next step
abbrev pub FrontsGoOn : Type 0
FrontsGoOn =
    (image : Image) (scripts : List (List Request)) (entries : List Entry) (ran : List ℕ) (exits : List Announced) (cores : List ℕ)
    (entered : ℕ) → IsBegun image scripts entries ran exits cores entered → IsGoing image scripts entries cores entered
    → (entry : Entry) → GivesAnswers (entries ++ entry ∷ []) → IsFront image scripts (entries ++ entry ∷ [])
    → IsNextEnter image cores entered entry ⊎ IsNextStep image scripts entries cores entered entry

-- a list whose wave has cores and is not over is not whole
abbrev pub WholeAreGone : Type 0
WholeAreGone =
    (image : Image) (scripts : List (List Request)) (entries : List Entry) (ran : List ℕ) (exits : List Announced) (cores : List ℕ)
    (entered : ℕ) → IsBegun image scripts entries ran exits cores entered → IsGoing image scripts entries cores entered → cores ≢ []
    → GivesAnswers entries → (runs : List CoreRun) → IsOrdered image scripts entries runs → ⊥

-- where no core is in the wave, the list is whole, with what its cores gave
abbrev pub NoneAreLeft : Type 0
NoneAreLeft =
    (image : Image) (scripts : List (List Request)) (entries : List Entry) (ran : List ℕ) (exits : List Announced)
    → IsBegun image scripts entries ran exits [] 0 → (runs : List CoreRun) × IsOrdered image scripts entries runs

-- where the same cores ran before, with the same exits, a list and the list with more entries have the same entries before their waves
abbrev pub BeginsAreOne : Type 0
BeginsAreOne =
    (image : Image) (scripts : List (List Request)) (entries more : List Entry) (ran : List ℕ) (exits : List Announced) (cores : List ℕ)
    (entered : ℕ) (now_in : List ℕ) (now : ℕ) → (one : IsBegun image scripts entries ran exits cores entered)
    → (other : IsBegun image scripts (entries ++ more) ran exits now_in now) → other.before ≡ one.before

-- the steps of a core lead to one place of the tree of its script, and to no other
abbrev pub EnteredAreOne : Type 0
EnteredAreOne =
    (image : Image) (scripts : List (List Request)) (core : ℕ) (made : List Made) (one other : Tree)
    → HasEntered image scripts core made one → HasEntered image scripts core made other → one ≡ other

-- the entries of a wave of these cores so far, of which the first have entered
pub record IsInWave (image : Image) (scripts : List (List Request)) (cores : List ℕ) (entered : ℕ) (wave : List Entry) : Type 0 where
  pub first : List Entry
  pub others : List Entry
  pub begin : wave ≡ first ++ others
  pub in_order : map (λ (entry : Entry). entry.core) first ≡ take entered cores
  pub enter_steps : map (λ (entry : Entry). entry.step) first ≡ map (enters image) (take entered cores)
  pub within : entered ≤ length cores
  pub waiting : entered < length cores → others ≡ []
  pub of_cores : IsTrue (list_all (λ (entry : Entry). is_among entry.core (take entered cores)) wave)
  pub each : (core : ℕ) → is_among core (take entered cores) ≡ true → IsUnderWay image scripts core (made_by core wave)

-- where a wave begins, its cores have made nothing
abbrev pub NewMadeNone : Type 0
NewMadeNone =
    (image : Image) (scripts : List (List Request)) (entries : List Entry) (ran : List ℕ) (exits : List Announced) (cores : List ℕ)
    → IsBegun image scripts entries ran exits cores 0 → (core : ℕ) → is_among core cores ≡ true → made_by core entries ≡ []

-- where a wave begins, and these are its entries so far, it has begun so in the list with them, and they stand in it
abbrev pub WaveFills : Type 0
WaveFills =
    (image : Image) (scripts : List (List Request)) (entries : List Entry) (ran : List ℕ) (exits : List Announced) (cores : List ℕ)
    → IsBegun image scripts entries ran exits cores 0 → (entered : ℕ) (wave : List Entry) → IsInWave image scripts cores entered wave
    → (on : IsBegun image scripts (entries ++ wave) ran exits cores entered) × (on.before ≡ entries) × (on.wave ≡ wave)

-- and where all its cores have ended with them, the next wave begins behind them
abbrev pub WaveIsOver : Type 0
WaveIsOver =
    (image : Image) (scripts : List (List Request)) (entries : List Entry) (ran : List ℕ) (exits : List Announced) (cores : List ℕ)
    → IsBegun image scripts entries ran exits cores 0 → (wave : List Entry) → IsInWave image scripts cores (length cores) wave
    → ((core : ℕ) → is_among core cores ≡ true → HasEnded image scripts core (made_by core wave))
    → IsBegun image scripts (entries ++ wave) (ran ++ cores) (exits_behind image exits cores entries wave)
    (wave_behind image (entries ++ wave) (ran ++ cores) (exits_behind image exits cores entries wave)) 0
