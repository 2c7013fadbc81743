-- Entries that were played, before those that are left.
use Rattle.std.proofs.Common.{◌≡◌, ℕ, zero, suc, ◌+◌, Bool, true, false, ◌<◌, ◌≤◌, List, [], ◌∷◌, length, drop, get_or, refl, sym, ◌∙◌, ap, subst, inl, inr, ◌⊎◌, Option, None, Some, add-one, drop-cons, arith}
use Rattle.std.proofs.lemmas.List.{drop_all}
use Rattle.std.specs.Prelude.{IsTrue, ◌↔◌, MatchOption, if◌then◌else◌}
use Rattle.svsm_types.specs.Numbers.{Numbers}
use Rattle.svsm_steps.specs.declared.entry.Entry.{Entry}
use Rattle.svsm_steps.specs.State.{State, Constants}
use Rattle.svsm_steps.specs.Formed.{IsWellFormed, AreWellFormed}
use Rattle.svsm_steps.specs.Machine.{IsRunFrom, kind, next, state_after}
use Rattle.svsm_steps.specs.DueFaults.{FollowsPlatform, numbers_after}
use Rattle.svsm_steps.specs.NextEntry.{IsNextEntry, IsDue, numbers_after_all}
use Rattle.machine_core.specs.declared.play_error.PlayError.{PlayError}
use Rattle.machine_core.specs.declared.play_error.PlayError.TheVariants.{Gap, Place, Illegal, NoMemory}
use Rattle.machine_core.specs.Played.{FailsAt}
use Rattle.history_play.specs.Plays.{BreaksPlay, BreaksDue}
use Rattle.machine_core.specs.Standing.{Standing}
use Rattle.history_play.specs.declared.play.PlayFailure.{PlayFailure}
use Rattle.history_play.specs.declared.play.PlayFailure.TheVariants as failures
use Rattle.history_play.specs.Fails.{PlaysOne, FailsOne, undue_after}

-- what the entries that are left tell of faults, all tell
abbrev pub DueGoes : Constants → (ℕ → Numbers) → State → List Entry → ℕ → (ℕ → Numbers) → State → List Entry → Option ℕ → Type 0
DueGoes constants numbers state entries at now later rest None =
    (FollowsPlatform constants now later rest → FollowsPlatform constants numbers state entries)
    × ((failing : ℕ) → BreaksDue constants at now later rest failing → BreaksDue constants 0 numbers state entries failing)
DueGoes constants numbers state entries at now later rest (Some failing) = BreaksDue constants 0 numbers state entries failing

-- what the entries that are left give, all give
pub record Goes (constants : Constants) (numbers : ℕ → Numbers) (state : State) (entries : List Entry) (at : ℕ) (now : ℕ → Numbers) (later : State)
    (rest : List Entry) (undue : Option ℕ) : Type 0 where
  pub run : IsRunFrom constants at later rest → IsRunFrom constants 0 state entries
  pub breaks : (failing : ℕ) → BreaksPlay constants at later rest failing → BreaksPlay constants 0 state entries failing
  pub after : state_after constants later rest ≡ state_after constants state entries
  pub numbered : numbers_after_all constants now later rest ≡ numbers_after_all constants numbers state entries
  pub due : DueGoes constants numbers state entries at now later rest undue

pub goes_none : (constants : Constants) (numbers now : ℕ → Numbers) (state later : State) (entries : List Entry) → now ≡ numbers → later ≡ state → Goes constants numbers state entries 0 now later entries None
goes_none constants numbers now state later entries same also =
    subst (λ (n : ℕ → Numbers). Goes constants numbers state entries 0 n later entries None) (sym same)
    (subst (λ (s : State). Goes constants numbers state entries 0 numbers s entries None) (sym also)
    (record { run = λ is. is; breaks = λ failing is. is; after = refl; numbered = refl; due = (λ is. is, λ failing is. is) }))

due_one : (constants : Constants) (numbers : ℕ → Numbers) (state : State) (entries : List Entry) (at : ℕ) (now : ℕ → Numbers) (later : State) (entry : Entry) (rest : List Entry)
    (undue : Option ℕ) (due : Bool) → (IsTrue due ↔ IsDue constants now later entry) → DueGoes constants numbers state entries at now later (entry ∷ rest) undue
    → DueGoes constants numbers state entries (at + 1) (numbers_after (kind entry.step) constants now later entry.step entry.answer) (next constants later entry) rest (undue_after undue due at)
due_one constants numbers state entries at now later entry rest (Some first) due test goes = goes
due_one constants numbers state entries at now later entry rest None true test goes =
    (λ is. goes.0 (test.0 refl, is), λ failing is. goes.1 failing (inr (test.0 refl, is)))
due_one constants numbers state entries at now later entry rest None false test goes =
    goes.1 at (inl ((λ is. let no' : false ≡ true = test.1 is in cc), refl))

pub goes_one : (constants : Constants) (numbers : ℕ → Numbers) (state : State) (entries : List Entry) (at : ℕ) (now new : ℕ → Numbers) (old moved : State) (entry : Entry) (rest : List Entry)
    (undue : Option ℕ) (due : Bool) → IsNextEntry constants at old entry → new ≡ numbers_after (kind entry.step) constants now old entry.step entry.answer → moved ≡ next constants old entry
    → (IsTrue due ↔ IsDue constants now old entry) → Goes constants numbers state entries at now old (entry ∷ rest) undue
    → Goes constants numbers state entries (at + 1) new moved rest (undue_after undue due at)
goes_one constants numbers state entries at now new old moved entry rest undue due is counted after test goes =
    subst (λ (n : ℕ → Numbers). Goes constants numbers state entries (at + 1) n moved rest (undue_after undue due at)) (sym counted)
    (subst (λ (s : State). Goes constants numbers state entries (at + 1) (numbers_after (kind entry.step) constants now old entry.step entry.answer) s rest (undue_after undue due at)) (sym after)
    (record {
      run = λ more. goes.run (is.0, (is.1.0, (is.1.1, more)));
      breaks = λ failing more. goes.breaks failing (inr (is, more));
      after = goes.after;
      numbered = goes.numbered;
      due = due_one constants numbers state entries at now old entry rest undue due test goes.due;
    }))

-- by the index of the entry
split_at : (entries : List Entry) (i : ℕ) (d : Entry) → i < length entries → drop i entries ≡ get_or entries i d ∷ drop (i + 1) entries
split_at entries i d low = rw add-one (drop-cons entries i d low)

same_goes : (numbers : ℕ → Numbers) (state : State) (entries : List Entry) (at i : ℕ) (old new : Standing) (d : Entry) (undue after : Option ℕ) → i < length entries
    → PlaysOne at (get_or entries i d) undue old new after → Goes old.constants numbers state entries at old.numbers old.state (drop i entries) undue
    → Goes old.constants numbers state entries (at + 1) new.numbers new.state (drop (i + 1) entries) after
same_goes numbers state entries at i old new d undue after low plays goes =
    subst (λ (o : Option ℕ). Goes old.constants numbers state entries (at + 1) new.numbers new.state (drop (i + 1) entries) o) (sym plays.after_is)
    (goes_one old.constants numbers state entries at old.numbers new.numbers old.state new.state (get_or entries i d) (drop (i + 1) entries) undue plays.due
    (plays.followed.follows.ticket, (plays.followed.follows.place, plays.followed.follows.may)) plays.followed.numbers plays.followed.follows.after plays.is_due
    (subst (λ (l : List Entry). Goes old.constants numbers state entries at old.numbers old.state l undue) (split_at entries i d low) goes))

pub goes_at : (constants : Constants) (numbers : ℕ → Numbers) (state : State) (entries : List Entry) (at i : ℕ) (old new : Standing) (d : Entry) (undue after : Option ℕ) → old.constants ≡ constants → i < length entries
    → PlaysOne at (get_or entries i d) undue old new after → Goes constants numbers state entries at old.numbers old.state (drop i entries) undue
    → Goes constants numbers state entries (at + 1) new.numbers new.state (drop (i + 1) entries) after
goes_at constants numbers state entries at i old new d undue after same low plays goes =
    subst (λ (c : Constants). Goes c numbers state entries (at + 1) new.numbers new.state (drop (i + 1) entries) after) same
    (same_goes numbers state entries at i old new d undue after low plays
    (subst (λ (c : Constants). Goes c numbers state entries at old.numbers old.state (drop i entries) undue) (sym same) goes))

-- the entry at an index does not follow
pub fails_at : (constants : Constants) (numbers : ℕ → Numbers) (state : State) (entries : List Entry) (at i : ℕ) (old : Standing) (d : Entry) (undue : Option ℕ) (failure : PlayFailure) → old.constants ≡ constants
    → i < length entries → FailsOne at (get_or entries i d) old failure → Goes constants numbers state entries at old.numbers old.state (drop i entries) undue
    → (failure ≡ failures.NoMemory) ⊎ ((index : ℕ) × (failure ≡ failures.Entry index) × BreaksPlay constants 0 state entries index)
fails_at constants numbers state entries at i old d undue failures.NoMemory same low fails goes = inl refl
fails_at constants numbers state entries at i old d undue (failures.Entry index) same low fails goes =
    inr (
      index,
      refl,
      subst (λ (n : ℕ). BreaksPlay constants 0 state entries n) (sym fails.0)
          ((subst (λ (l : List Entry). Goes constants numbers state entries at old.numbers old.state l undue) (split_at entries i d low) goes).breaks at
          (inl (subst (λ (c : Constants). IsNextEntry c at old.state (get_or entries i d) → ⊥) same fails.1, refl))),
    )

-- all entries were played
pub all_played : (constants : Constants) (numbers : ℕ → Numbers) (state : State) (entries : List Entry) (at i : ℕ) (now : ℕ → Numbers) (later : State) (undue : Option ℕ) → length entries ≤ i
    → Goes constants numbers state entries at now later (drop i entries) undue → Goes constants numbers state entries at now later [] undue
all_played constants numbers state entries at i now later undue past goes = subst (λ (l : List Entry). Goes constants numbers state entries at now later l undue) (drop_all i entries past) goes

due_told : (constants : Constants) (numbers : ℕ → Numbers) (state : State) (entries : List Entry) (at : ℕ) (now : ℕ → Numbers) (later : State) (undue : Option ℕ)
    → DueGoes constants numbers state entries at now later [] undue → MatchOption undue (FollowsPlatform constants numbers state entries) (BreaksDue constants 0 numbers state entries)
due_told constants numbers state entries at now later None goes = goes.0 tt
due_told constants numbers state entries at now later (Some failing) goes = goes

pub due_of : (constants : Constants) (numbers : ℕ → Numbers) (state : State) (entries : List Entry) (at : ℕ) (now : ℕ → Numbers) (later : State) (undue : Option ℕ)
    → Goes constants numbers state entries at now later [] undue → MatchOption undue (FollowsPlatform constants numbers state entries) (BreaksDue constants 0 numbers state entries)
due_of constants numbers state entries at now later undue goes = due_told constants numbers state entries at now later undue goes.due

-- an error of playing, other than want of memory, is of an entry that is not the next one
pub not_next : (constants : Constants) (n : ℕ) (state : State) (entry : Entry) (error : PlayError) → FailsAt constants n state entry error → (error ≡ NoMemory → ⊥) → IsNextEntry constants n state entry → ⊥
not_next constants n state entry (Gap want got) fails other is = fails.0 is.0
not_next constants n state entry (Place ticket want got) fails other is = fails.1 is.1.0
not_next constants n state entry (Illegal ticket kept computed) fails other is = fails.2 is.1.1
not_next constants n state entry NoMemory fails other is = other refl

-- the step of each entry is well formed
pub formed_at : (regions : ℕ) (entries : List Entry) (i : ℕ) (d : Entry) → i < length entries → AreWellFormed regions entries → IsWellFormed regions (get_or entries i d).step
formed_at regions [] i d low formed = absurd (omega arith)
formed_at regions (entry ∷ entries) zero d low formed = formed.0
formed_at regions (entry ∷ entries) (suc i) d low formed = formed_at regions entries i d (omega arith) formed.1
