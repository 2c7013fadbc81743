-- Whole waves of a history, and what stands behind them.
use Rattle.std.proofs.Common.{get_or, ◌≡◌, ◌<◌, ◌≤◌, ℕ, zero, suc, ◌+◌, Bool, true, false, List, [], ◌∷◌, ◌++◌, length, map, take, drop, refl, sym, ◌∙◌, ap, subst, append_assoc, append-nil, length-append, arith, add-one, inl, inr, ◌⊎◌, ⊎_elim}
use Rattle.std.specs.Prelude.{⊤, All, Option, None, Some, is_some, filter, IsTrue, ◌≢◌, slice_get, not, ◌&&◌, ◌==◌}
use Rattle.std.specs.List.{list_all, list_any, range_with_len}
use Rattle.std.proofs.lemmas.Bool.{cases_Bool}
use Rattle.std.proofs.lemmas.List.{take-append-drop, take_all, length-take-le}
use Rattle.std.proofs.Math.Seq.{take-add}
use Rattle.std.proofs.lemmas.List.Elements.{All-cons, All-nil, All-filter}
use Rattle.svsm_types.specs.declared.image.Image.{Image}
use Rattle.svsm_types.specs.declared.image.CoreLine.{CoreLine}
use Rattle.svsm_types.specs.declared.request.Request.{Request}
use Rattle.svsm_types.specs.declared.vcpu.Row.{Row}
use Rattle.svsm_types.specs.declared.vcpu.RowState.TheVariants.{Ready}
use Rattle.svsm_steps.specs.declared.entry.Entry.{Entry}
use Rattle.svsm_steps.specs.declared.outcome.CoreRun.{CoreRun}
use Rattle.svsm_steps.specs.Registry.{of_apic_in}
use Rattle.svsm_steps.specs.Made.{Made, made_by}
use Rattle.svsm_steps.specs.Announced.{Announced}
use Rattle.svsm_calls.specs.Waves.{is_among, apic_of, numbers_of, ready_cores, next_wave, has_refused, AreWaves, AreOver}
use Rattle.run_trees.specs.Order.{IsFront, IsOrdered, BreaksOrder}
use Rattle.run_trees.specs.Begun.{HasEntered, HasEnded, GivesAnswers, IsBegun, IsInWave, IsGoing, IsNextEnter, IsNextStep, cores_behind, wave_behind}
use Rattle.run_trees.proofs.Rising.{Rises, rises_range, rises_filter, once, rest_rises, none_rise}
use Rattle.run_trees.proofs.WaveTrees.{made_append}
use Rattle.run_trees.proofs.WholeTrees.{begun_front}
use Rattle.run_trees.proofs.NextTrees.{new_made_none, wave_fills, fronts_go_on, whole_are_gone}
use Rattle.run_order.specs.declared.wave.WaveRead.TheVariants as waves
use Rattle.run_order.specs.WaveReads.{AreOnce, WaveReads}
use Rattle.run_order.proofs.AnswerLemmas.{AreGiven, gives, given_take}

-- THE CORES OF A WAVE

below_range : (a n limit : ℕ) → a + n ≤ limit → All (λ (core : ℕ). core < limit) (range_with_len a n)
below_range a zero limit h = All-nil (λ (core : ℕ). core < limit)
below_range a (suc n) limit h =
    All-cons (λ (core : ℕ). core < limit) a (range_with_len (a + 1) n) (omega (arith, h)) (below_range (a + 1) n limit (omega (arith, h)))

low_ready : (image : Image) (ran : List ℕ) (rows : List Row) → All (λ (core : ℕ). core < length image.cores) (ready_cores image ran rows)
low_ready image ran rows =
    All-filter (λ core. not (is_among core ran) && list_any (of_apic_in Ready (apic_of image core)) rows) (λ (core : ℕ). core < length image.cores) (numbers_of image)
    (below_range 0 (length image.cores) (length image.cores) (omega arith))

pub low_behind : (image : Image) (b : Bool) (ran : List ℕ) (rows : List Row) → All (λ (core : ℕ). core < length image.cores) (cores_behind b (ready_cores image ran rows))
low_behind image true ran rows = All-nil (λ (core : ℕ). core < length image.cores)
low_behind image false ran rows = low_ready image ran rows

once_of : (low : ℕ) (cores : List ℕ) → Rises low cores → AreOnce cores
once_of low [] rises = tt
once_of low (core ∷ cores) rises = (
  ⊎_elim
      (λ (e : is_among core cores ≡ true). absurd (once low core cores rises e))
      (λ (e : is_among core cores ≡ false). e)
      (cases_Bool (is_among core cores)),
  once_of (core + 1) cores (rest_rises low core cores rises),
)

pub once_behind : (image : Image) (b : Bool) (ran : List ℕ) (rows : List Row) → AreOnce (cores_behind b (ready_cores image ran rows))
once_behind image true ran rows = tt
once_behind image false ran rows =
    once_of 0 (ready_cores image ran rows)
    (rises_filter (λ core. not (is_among core ran) && list_any (of_apic_in Ready (apic_of image core)) rows) 0 (numbers_of image) (rises_range 0 (length image.cores)))

-- ENTRIES

pub none_taken : {A : Type 0} (l : List A) → take 0 l ≡ []
none_taken [] = refl
none_taken (x ∷ l) = refl

entry_at : {A : Type 0} (l : List A) (i : ℕ) → i < length l → (x : A) × ((slice_get l i ≡ Some x) × (take (suc i) l ≡ take i l ++ x ∷ []))
entry_at [] i low = absurd (omega (arith, low))
entry_at (x ∷ l) zero low = (x, (refl, ap (λ (m : List _). x ∷ m) (none_taken l)))
entry_at (x ∷ l) (suc i) low =
    let rest = entry_at l i (omega (arith, low)) in
    (rest.0, (rest.1.0, ap (λ (m : List _). x ∷ m) rest.1.1))

pub length_parts : {A : Type 0} (n : ℕ) (l : List A) → length l ≡ length (take n l) + length (drop n l)
length_parts n l = ap length (sym (take-append-drop n l)) ∙ length-append (take n l) (drop n l)

pub length_taken : {A : Type 0} (n : ℕ) (l : List A) → n ≤ length l → length (take n l) ≡ n
length_taken n l low = length-take-le n l low

-- where a wave begins, its cores made in all what they made in it
pub made_in : (image : Image) (scripts : List (List Request)) (before wave : List Entry) (ran : List ℕ) (told : List Announced) (cores : List ℕ)
    → IsBegun image scripts before ran told cores 0 → (core : ℕ) → is_among core cores ≡ true → made_by core (before ++ wave) ≡ made_by core wave
made_in image scripts before wave ran told cores begun core among =
    made_append core before wave ∙ ap (λ (m : List Made). m ++ made_by core wave) (new_made_none image scripts before ran told cores begun core among)

going_in : (image : Image) (scripts : List (List Request)) (before wave : List Entry) (ran : List ℕ) (told : List Announced) (cores : List ℕ) (entered : ℕ)
    → IsBegun image scripts before ran told cores 0 → IsGoing image scripts wave cores entered → IsGoing image scripts (before ++ wave) cores entered
going_in image scripts before wave ran told cores entered begun (inl none) = inl none
going_in image scripts before wave ran told cores entered begun (inr (inl low)) = inr (inl low)
going_in image scripts before wave ran told cores entered begun (inr (inr one)) =
    inr (inr (
      one.0,
      one.1,
      λ (ended : HasEnded image scripts one.0 (made_by one.0 (before ++ wave))).
          one.2 (subst (λ (m : List Made). HasEnded image scripts one.0 m) (made_in image scripts before wave ran told cores begun one.0 one.1) ended),
    ))

step_in : (image : Image) (scripts : List (List Request)) (before wave : List Entry) (ran : List ℕ) (told : List Announced) (cores : List ℕ) (entered : ℕ) (entry : Entry)
    → IsBegun image scripts before ran told cores 0 → IsNextStep image scripts (before ++ wave) cores entered entry → IsNextStep image scripts wave cores entered entry
step_in image scripts before wave ran told cores entered entry begun step = record {
  tree = step.tree;
  all = step.all;
  among = step.among;
  has_entered = subst (λ (m : List Made). HasEntered image scripts entry.core m step.tree)
      (made_in image scripts before wave ran told cores begun entry.core step.among) step.has_entered;
  asks = step.asks;
}

-- THE ORDER BREAKS

-- in a wave
pub breaks_wave : (image : Image) (scripts : List (List Request)) (entries : List Entry) (behind : ℕ) (ran : List ℕ) (told : List Announced) (cores : List ℕ) (at : ℕ)
    → behind ≤ length entries → AreGiven image.regions entries → IsBegun image scripts (take behind entries) ran told cores 0
    → WaveReads image scripts cores (drop behind entries) (waves.Breaks at) → BreaksOrder image scripts entries (behind + at)
breaks_wave image scripts entries behind ran told cores at within given begun reads =
    let before : List Entry = take behind entries in
    let rest : List Entry = drop behind entries in
    let wave : List Entry = take at rest in
    let entered : ℕ = reads.1.0 in
    let there = entry_at rest at reads.0 in
    let entry : Entry = there.0 in
    let on : IsBegun image scripts (before ++ wave) ran told cores entered = (wave_fills image scripts before ran told cores begun entered wave reads.1.1.0).0 in
    let no = reads.1.1.1.1 entry there.1.0 in
    let all : take (behind + at) entries ≡ before ++ wave = take-add behind at entries in
    let next : behind + at + 1 ≡ behind + suc at = omega arith in
    let more : take (behind + at + 1) entries ≡ (before ++ wave) ++ entry ∷ [] =
    ap (λ (n : ℕ). take n entries) next ∙ take-add behind (suc at) entries ∙ ap (λ (l : List Entry). before ++ l) there.1.1 ∙ sym (append_assoc before wave (entry ∷ [])) in
    let fit : length before + length rest ≡ length entries = sym (length_parts behind entries) in
    let less : at < length rest = reads.0 in
    let long : length before ≡ behind = length_taken behind entries within in
    inl (
      omega (arith, fit, less, long),
      subst (IsFront image scripts) (sym all) (begun_front image scripts (before ++ wave) (record { ran = ran; exits = told; cores = cores; entered = entered; begun = on })),
      λ (front : IsFront image scripts (take (behind + at + 1) entries)). ⊎_elim
          (λ (enter : IsNextEnter image cores entered entry). no.no_enter enter)
          (λ (step : IsNextStep image scripts (before ++ wave) cores entered entry). no.no_step (step_in image scripts before wave ran told cores entered entry begun step))
          (fronts_go_on image scripts (before ++ wave) ran told cores entered on (going_in image scripts before wave ran told cores entered begun reads.1.1.1.0) entry
          (subst GivesAnswers more (gives image.regions (take (behind + at + 1) entries) (given_take image.regions (behind + at + 1) entries given)))
          (subst (IsFront image scripts) more front)),
    )

-- since the wave is not over
pub breaks_end : (image : Image) (scripts : List (List Request)) (entries : List Entry) (behind : ℕ) (ran : List ℕ) (told : List Announced) (cores : List ℕ)
    → cores ≢ [] → AreGiven image.regions entries → IsBegun image scripts (take behind entries) ran told cores 0
    → WaveReads image scripts cores (drop behind entries) waves.UnderWay → BreaksOrder image scripts entries (length entries)
breaks_end image scripts entries behind ran told cores some given begun reads =
    let before : List Entry = take behind entries in
    let rest : List Entry = drop behind entries in
    let entered : ℕ = reads.0 in
    let all : before ++ rest ≡ entries = take-append-drop behind entries in
    let on : IsBegun image scripts (before ++ rest) ran told cores entered = (wave_fills image scripts before ran told cores begun entered rest reads.1.0).0 in
    let going : IsGoing image scripts (before ++ rest) cores entered = going_in image scripts before rest ran told cores entered begun reads.1.1 in
    inr (
      refl,
      subst (IsFront image scripts) all (begun_front image scripts (before ++ rest) (record { ran = ran; exits = told; cores = cores; entered = entered; begun = on })),
      λ (runs : List CoreRun) (ordered : IsOrdered image scripts entries runs).
          whole_are_gone image scripts (before ++ rest) ran told cores entered on going some
          (subst GivesAnswers (sym all) (gives image.regions entries given)) runs
          (subst (λ (l : List Entry). IsOrdered image scripts l runs) (sym all) ordered),
    )

-- since no wave follows
pub breaks_behind : (image : Image) (scripts : List (List Request)) (entries : List Entry) (behind : ℕ) (ran : List ℕ) (told : List Announced) (cores : List ℕ)
    → cores ≡ [] → AreGiven image.regions entries → IsBegun image scripts (take behind entries) ran told cores 0
    → behind < length entries → BreaksOrder image scripts entries behind
breaks_behind image scripts entries behind ran told cores none given begun less =
    let before : List Entry = take behind entries in
    let there = entry_at entries behind less in
    let entry : Entry = there.0 in
    let more : take (behind + 1) entries ≡ before ++ entry ∷ [] = ap (λ (n : ℕ). take n entries) (add-one behind) ∙ there.1.1 in
    let nobody : length cores ≡ 0 = ap length none in
    inl (
      less,
      begun_front image scripts before (record { ran = ran; exits = told; cores = cores; entered = 0; begun = begun }),
      λ (front : IsFront image scripts (take (behind + 1) entries)). ⊎_elim
          (λ (enter : IsNextEnter image cores 0 entry). omega (arith, enter.within, nobody))
          (λ (step : IsNextStep image scripts before cores 0 entry).
          let no : is_among entry.core [] ≡ true = subst (λ (l : List ℕ). is_among entry.core l ≡ true) none step.among in cc)
          (fronts_go_on image scripts before ran told cores 0 begun (inl none) entry
          (subst GivesAnswers more (gives image.regions (take (behind + 1) entries) (given_take image.regions (behind + 1) entries given)))
          (subst (IsFront image scripts) more front)),
    )
