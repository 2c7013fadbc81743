-- The entries of a run have answers that their steps may have.
use Rattle.std.proofs.Common.{◌≡◌, ℕ, zero, suc, ◌+◌, ◌*◌, ◌<◌, ◌≤◌, Bool, true, false, List, [], ◌∷◌, ◌++◌, length, refl, sym, ◌∙◌, ap, subst, arith, ⊎_elim}
use Rattle.std.specs.Prelude.{⊤, All, ◌==◌, take, drop, slice_index_or}
use Rattle.std.proofs.lemmas.Bool.{cases_Bool}
use Rattle.std.proofs.lemmas.List.Elements.{All-cons, All-nil, All-take, All-drop}
use Rattle.svsm_types.specs.declared.image.Image.{Image}
use Rattle.svsm_types.specs.declared.platform.Size.{Size}
use Rattle.svsm_types.specs.declared.platform.Size.TheVariants.{Small, Large}
use Rattle.svsm_steps.specs.declared.step.Step.{Step}
use Rattle.svsm_steps.specs.declared.answer.Answer.{Answer}
use Rattle.svsm_steps.specs.declared.answer.Answer.TheVariants.{Done, Word, Denied, Refused, Unchanged, Hw, BadVmsa, Strange, Held, Block, Empty, Seen, Taken, Unknown, Running, Fault}
use Rattle.svsm_steps.specs.declared.entry.Entry.{Entry}
use Rattle.svsm_steps.specs.declared.call.Got.TheVariants as gets
use Rattle.svsm_steps.specs.Made.{Made, made_by}
use Rattle.svsm_steps.specs.Formed.{IsAnswer, AreWellFormed, IsSizedPage, popped_size}
use Rattle.svsm_steps.specs.Region.{fault_at}
use Rattle.svsm_steps.specs.State.{State, Constants}
use Rattle.svsm_steps.specs.Machine.{kind, next, IsRunFrom}
use Rattle.svsm_steps.specs.Mapped.{IsMapped}
use Rattle.svsm_steps.specs.Sound.{IsSound}
use Rattle.svsm_steps.specs.Image.{constants_of, booted}
use Rattle.svsm_laws.proofs.Formed.{answers_are_formed}
use Rattle.svsm_laws.proofs.Mapped.{stays_mapped}
use Rattle.svsm_laws.proofs.BootedMapped.{booted_is_mapped}
use Rattle.svsm_laws.proofs.SoundImage.{sound_seats}
use Rattle.call_decode.specs.Goes.{IsInMap}
use Rattle.run_trees.specs.Laws.{CanAnswer, AreAnswers}
use Rattle.run_trees.specs.Begun.{GivesAnswers}
use Rattle.run_trees.proofs.FrontTrees.{mine, others'}
use Rattle.run_order.specs.Finds.{AreInMap}

-- each has an answer of its step
abbrev pub AreGiven : ℕ → List Entry → Type 0
AreGiven regions entries = All (λ (entry : Entry). IsAnswer regions entry.step entry.answer) entries

given_from : (constants : Constants) (n : ℕ) (state : State) (entries : List Entry) → IsMapped constants.regions state → AreWellFormed constants.regions entries
    → IsRunFrom constants n state entries → AreGiven constants.regions entries
given_from constants n state [] mapped formed legal = All-nil (λ (entry : Entry). IsAnswer constants.regions entry.step entry.answer)
given_from constants n state (entry ∷ entries) mapped formed legal =
    All-cons (λ (entry : Entry). IsAnswer constants.regions entry.step entry.answer) entry entries
    (answers_are_formed constants state entry.core entry.step entry.answer mapped formed.0 legal.1.1.0)
    (given_from constants (n + 1) (next constants state entry) entries
    (stays_mapped constants state (entry ∷ []) mapped (formed.0, tt)) formed.1 legal.1.1.1)

-- those of a run
pub given : (image : Image) (entries : List Entry) → IsSound image → AreWellFormed image.regions entries → IsRunFrom (constants_of image) 0 (booted image) entries
    → AreGiven image.regions entries
given image entries sound formed legal =
    given_from (constants_of image) 0 (booted image) entries (booted_is_mapped image (sound_seats image sound) sound.blocks) formed legal

can : (regions : ℕ) (step : Step) (answer : Answer) → IsAnswer regions step answer → CanAnswer (fault_at answer) step answer
can regions step (Fault done) is = is
can regions step (Block page left) is = is.0
can regions step (Seen page caa) is = is.0
can regions step Done is = is
can regions step (Word word) is = is
can regions step Denied is = is
can regions step Refused is = is
can regions step Unchanged is = is
can regions step (Hw code) is = is
can regions step BadVmsa is = is
can regions step (Strange owner) is = is
can regions step (Held count) is = is
can regions step (Empty left) is = is
can regions step Taken is = is
can regions step Unknown is = is
can regions step Running is = is

first_of : {X : Type 0} (P : X → Type 0) (x : X) (xs : List X) → All P (x ∷ xs) → P x
first_of P x xs all = all 0 x (omega arith)

rest_of : {X : Type 0} (P : X → Type 0) (x : X) (xs : List X) → All P (x ∷ xs) → All P xs
rest_of P x xs all = λ k d less. all (suc k) d (omega (arith, less))

pub gives : (regions : ℕ) (entries : List Entry) → AreGiven regions entries → GivesAnswers entries
gives regions [] all core = tt
gives regions (entry ∷ entries) all core =
    let P : Entry → Type 0 = λ (entry : Entry). IsAnswer regions entry.step entry.answer in
    let later : AreAnswers (made_by core entries) = gives regions entries (rest_of P entry entries all) core in
    ⊎_elim
    (λ (e : (entry.core == core) ≡ true). subst AreAnswers (sym (mine core entry entries e)) (can regions entry.step entry.answer (first_of P entry entries all), later))
    (λ (e : (entry.core == core) ≡ false). subst AreAnswers (sym (others' core entry entries e)) later)
    (cases_Bool (entry.core == core))

sized_low : (regions : ℕ) (size : Size) (page : ℕ) → regions ≤ 512 → IsSizedPage regions size page → page < 512 * 512
sized_low regions Small page most is = omega (arith, most, is)
sized_low regions Large page most is = let low = is.0 in omega (arith, most, low)

mapped_one : (regions : ℕ) (step : Step) (answer : Answer) → regions ≤ 512 → IsAnswer regions step answer → IsInMap (gets.Answer answer)
mapped_one regions step (Block page left) most is = sized_low regions (popped_size step) page.0 most is.1
mapped_one regions step (Fault done) most is = tt
mapped_one regions step (Seen page caa) most is = tt
mapped_one regions step Done most is = tt
mapped_one regions step (Word word) most is = tt
mapped_one regions step Denied most is = tt
mapped_one regions step Refused most is = tt
mapped_one regions step Unchanged most is = tt
mapped_one regions step (Hw code) most is = tt
mapped_one regions step BadVmsa most is = tt
mapped_one regions step (Strange owner) most is = tt
mapped_one regions step (Held count) most is = tt
mapped_one regions step (Empty left) most is = tt
mapped_one regions step Taken most is = tt
mapped_one regions step Unknown most is = tt
mapped_one regions step Running most is = tt

pub in_map : (regions : ℕ) (entries : List Entry) → regions ≤ 512 → AreGiven regions entries → AreInMap entries
in_map regions entries most all k d less =
    mapped_one regions (slice_index_or entries k d).step (slice_index_or entries k d).answer most (all k d less)

pub given_drop : (regions n : ℕ) (entries : List Entry) → AreGiven regions entries → AreGiven regions (drop n entries)
given_drop regions n entries all = All-drop (λ (entry : Entry). IsAnswer regions entry.step entry.answer) n entries all

pub given_take : (regions n : ℕ) (entries : List Entry) → AreGiven regions entries → AreGiven regions (take n entries)
given_take regions n entries all = All-take (λ (entry : Entry). IsAnswer regions entry.step entry.answer) n entries all

pub formed_take : (regions n : ℕ) (entries : List Entry) → AreWellFormed regions entries → AreWellFormed regions (take n entries)
formed_take regions zero [] formed = tt
formed_take regions zero (entry ∷ entries) formed = tt
formed_take regions (suc n) [] formed = tt
formed_take regions (suc n) (entry ∷ entries) formed = (formed.0, formed_take regions n entries formed.1)
