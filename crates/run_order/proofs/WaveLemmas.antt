-- A wave read from its first entry on: the cores that entered, and what they made behind their Enters.
use Rattle.std.proofs.Common.{◌≡◌, ◌⊎◌, ℕ, zero, suc, ◌+◌, ◌-◌, ◌<◌, ◌≤◌, Bool, true, false, List, [], ◌∷◌, ◌++◌, length, take, drop, get_or, map, refl, sym, ◌∙◌, ap, subst, inl, inr, ⊎_elim, Some, None, arith, take-add, take-append-drop, take_all, zero-add, suc-add, length-drop}
use Rattle.std.specs.Prelude.{IsTrue, All, ◌&&◌, ◌||◌, ◌==◌, slice_get}
use Rattle.std.specs.List.{Any, list_all}
use Rattle.std.proofs.lemmas.List.{get_or_default}
use Rattle.std.proofs.lemmas.List.Elements.{All-nil, All-cons}
use Rattle.std.proofs.lemmas.List.Folds.{list_all-append}
use Rattle.std.proofs.lemmas.Option.{get_or_from_slice_get}
use Rattle.svsm_types.specs.declared.address.Page.{Page}
use Rattle.svsm_types.specs.declared.image.Image.{Image}
use Rattle.svsm_types.specs.declared.request.Request.{Request}
use Rattle.svsm_steps.specs.declared.step.Step.{Step}
use Rattle.svsm_steps.specs.declared.answer.Answer.{Answer}
use Rattle.svsm_steps.specs.declared.answer.Answer.TheVariants.{Seen}
use Rattle.svsm_steps.specs.declared.entry.Entry.{Entry}
use Rattle.svsm_steps.specs.declared.outcome.Outcome.{Outcome}
use Rattle.svsm_steps.specs.declared.outcome.CoreEnd.{CoreEnd}
use Rattle.svsm_steps.specs.declared.outcome.CoreRun.{CoreRun}
use Rattle.svsm_steps.specs.declared.call.Caller.{Caller}
use Rattle.svsm_steps.specs.Made.{Made, made_of, made_by}
use Rattle.svsm_calls.specs.Run.{caller_of, script_of}
use Rattle.svsm_calls.specs.Waves.{is_among, enters}
use Rattle.run_trees.specs.Tree.{Tree, ended, asked_of, Follows}
use Rattle.run_trees.specs.Laws.{AreAnswers, script_tree}
use Rattle.run_trees.specs.Begun.{HasEntered, HasEnded, IsUnderWay, GivesAnswers, IsGoing, IsNextEnter, IsNextStep, IsInWave}
use Rattle.run_trees.proofs.WaveTrees.{made_append, same}
use Rattle.run_trees.proofs.FrontTrees.{mine, others'}
use Rattle.run_trees.proofs.NextTrees.{entered_are_one}
use Rattle.run_order.specs.declared.wave.WaveRead.{WaveRead}
use Rattle.run_order.specs.declared.wave.WaveRead.TheVariants as waves
use Rattle.run_order.specs.Finds.{made_before}
use Rattle.run_order.specs.Wave.{IsEnterOf, Enterings, AreEntered, EnteringEnds, Stands, AreStanding, AsksMore, IsNotAsked, IsEndOf, CoresRead}
use Rattle.run_order.specs.WaveReads.{AreOnce, IsNoNext, IsRunOf, WaveReads}
use Rattle.run_order.proofs.CoresLemmas.{own_number, among_of, found_of, two_ways}

-- LISTS

none_taken : {A : Type 0} (l : List A) → take 0 l ≡ []
none_taken [] = refl
none_taken (x ∷ l) = refl

or_parts : (a b : Bool) → (a || b) ≡ false → (a ≡ false) × (b ≡ false)
or_parts true b e = absurd (cc)
or_parts false b e = (refl, e)

out_front : (core n : ℕ) (cores : List ℕ) → is_among core cores ≡ false → is_among core (take n cores) ≡ false
out_front core zero cores out = refl
out_front core (suc n) [] out = refl
out_front core (suc n) (x ∷ cores) out =
    let parts = or_parts (x == core) (is_among core cores) out in
    ap (λ (b : Bool). b || is_among core (take n cores)) parts.0 ∙ out_front core n cores parts.1

once_front : (n : ℕ) (cores : List ℕ) → AreOnce cores → AreOnce (take n cores)
once_front zero cores once = tt
once_front (suc n) [] once = tt
once_front (suc n) (x ∷ cores) once = (out_front x n cores once.0, once_front n cores once.1)

apart_numbers : (a b : ℕ) (l : List ℕ) → is_among a l ≡ false → is_among b l ≡ true → (a == b) ≡ false
apart_numbers a b l out into = of_test (a == b) refl
  where
    of_test : (t : Bool) → (a == b) ≡ t → (a == b) ≡ false
    of_test true e = absurd (two_ways (is_among a l) out (subst (λ (n : ℕ). is_among n l ≡ true) (sym (same a b e)) into))
    of_test false e = e

all_whole : (test : Entry → Bool) (entries : List Entry) → ((i : ℕ) (d : Entry) → i < length entries → test (get_or entries i d) ≡ true) → IsTrue (list_all test entries)
all_whole test [] each = refl
all_whole test (entry ∷ entries) each =
    ap (λ (b : Bool). b && list_all test entries) (each 0 entry (omega arith)) ∙ all_whole test entries (λ i d low. each (suc i) d (omega (arith, low)))

slice_drop : {A : Type 0} (n : ℕ) (xs : List A) (i : ℕ) → slice_get (drop n xs) i ≡ slice_get xs (n + i)
slice_drop zero xs i = ap (slice_get xs) (sym (zero-add i))
slice_drop (suc n) [] i = refl
slice_drop (suc n) (x ∷ xs) i = slice_drop n xs i ∙ ap (slice_get (x ∷ xs)) (sym (suc-add n i))

answers_before : (one other : List Made) → AreAnswers (one ++ other) → AreAnswers one
answers_before [] other is = tt
answers_before (m ∷ one) other is = (is.0, answers_before one other is.1)

-- ENTERS

abbrev core_in : Caller → ℕ
core_in caller = caller.core

pub callers_low : (image : Image) (callers : List Caller) (entries : List Entry) → Enterings image callers entries → image.regions ≤ 512
    → All (λ (caller : Caller). caller.regions ≤ 512) callers
callers_low image [] entries are low = All-nil (λ (caller : Caller). caller.regions ≤ 512)
callers_low image (caller ∷ callers) [] are low = absurd are
callers_low image (caller ∷ callers) (entry ∷ entries) are low =
    All-cons (λ (caller : Caller). caller.regions ≤ 512) caller callers (subst (λ (n : ℕ). n ≤ 512) (sym (ap (λ (c : Caller). c.regions) are.1)) low)
    (callers_low image callers entries are.2 low)

-- what a core made as it entered
record HasEnter (image : Image) (entries : List Entry) (caller : Caller) : Type 0 where
  pub ticket : ℕ
  pub page : Page
  pub made : made_by caller.core entries ≡ record { ticket = ticket; step = enters image caller.core; answer = Seen page caller.caa } ∷ []
  pub is : caller ≡ caller_of image caller.core caller.caa

none_entered : (image : Image) (callers : List Caller) (entries : List Entry) (core : ℕ) → Enterings image callers entries → is_among core (map core_in callers) ≡ false
    → made_by core (take (length callers) entries) ≡ []
none_entered image [] entries core are out = refl
none_entered image (caller ∷ callers) [] core are out = absurd are
none_entered image (caller ∷ callers) (entry ∷ entries) core are out =
    let parts = or_parts (caller.core == core) (is_among core (map core_in callers)) out in
    others' core entry (take (length callers) entries) (subst (λ (n : ℕ). (n == core) ≡ false) (sym are.0.core_is) parts.0)
    ∙ none_entered image callers entries core are.2 parts.1

abbrev made_one : ℕ → Step → Answer → List Made
made_one ticket step answer = record { ticket = ticket; step = step; answer = answer } ∷ []

entered_all : (image : Image) (callers : List Caller) (entries : List Entry) (k : ℕ) (caller : Caller) → AreOnce (map core_in callers) → Enterings image callers entries
    → k < length callers → get_or callers k caller ≡ caller → HasEnter image (take (length callers) entries) caller
entered_all image [] entries k caller once are low there = absurd (omega (arith, low))
entered_all image (c ∷ callers) [] k caller once are low there = absurd are
entered_all image (c ∷ callers) (entry ∷ entries) zero caller once are low there = subst (HasEnter image (entry ∷ take (length callers) entries)) there (record {
  ticket = entry.ticket;
  page = are.0.page;
  made = mine c.core entry (take (length callers) entries) (subst (λ (n : ℕ). (n == c.core) ≡ true) (sym are.0.core_is) (own_number c.core))
      ∙ (ap (λ (l : List Made). made_of entry ∷ l) (none_entered image callers entries c.core are.2 once.0)
      ∙ (ap (λ (s : Step). made_one entry.ticket s entry.answer) are.0.step_is ∙ ap (λ (a : Answer). made_one entry.ticket (enters image c.core) a) are.0.answer_is));
  is = are.1;
})
entered_all image (c ∷ callers) (entry ∷ entries) (suc k) caller once are low there =
    let rest = entered_all image callers entries k caller once.1 are.2 (omega (arith, low)) there in
    let other : (entry.core == caller.core) ≡ false = subst (λ (n : ℕ). (n == caller.core) ≡ false) (sym are.0.core_is)
    (apart_numbers c.core caller.core (map core_in callers) once.0 (among_of core_in callers k caller (omega (arith, low)) there)) in
    record { ticket = rest.ticket; page = rest.page; made = others' caller.core entry (take (length callers) entries) other ∙ rest.made; is = rest.is }

-- a core that entered, where it stands behind the Enters
entered_place : (image : Image) (scripts : List (List Request)) (entries : List Entry) (first n : ℕ) (caller : Caller) (tree : Tree) → HasEnter image (take first entries) caller
    → GivesAnswers entries → Stands image scripts (drop first entries) n caller tree
    → HasEntered image scripts caller.core (made_by caller.core (take (first + n) entries)) tree
entered_place image scripts entries first n caller tree has answers stands =
    let core : ℕ = caller.core in
    let rest : List Made = made_before core (drop first entries) n in
    let enter : Made = record { ticket = has.ticket; step = enters image core; answer = Seen has.page caller.caa } in
    let more : List Made = made_by core (drop (first + n) entries) in
    let wave : made_by core (take (first + n) entries) ≡ enter ∷ rest =
    ap (made_by core) (take-add first n entries) ∙ (made_append core (take first entries) (take n (drop first entries)) ∙ ap (λ (l : List Made). l ++ rest) has.made) in
    let all : made_by core entries ≡ enter ∷ (rest ++ more) =
    ap (made_by core) (sym (take-append-drop (first + n) entries)) ∙ (made_append core (take (first + n) entries) (drop (first + n) entries) ∙ ap (λ (l : List Made). l ++ more) wave) in
    let given : AreAnswers (enter ∷ (rest ++ more)) = subst AreAnswers all (answers core) in
    record {
      ticket = has.ticket;
      page = has.page;
      caa = caller.caa;
      rest = rest;
      begins = wave;
      answers = answers_before rest more given.1;
      follows = subst (λ (c : Caller). Follows (script_tree image.host c (script_of scripts core)) rest tree) has.is stands;
    }

-- what is known of a wave whose cores entered so far
pub record Begins (image : Image) (scripts : List (List Request)) (cores : List ℕ) (entries : List Entry) (callers : List Caller) : Type 0 where
  pub once : AreOnce cores
  pub are : AreEntered image cores entries callers
  pub answers : GivesAnswers entries

pub callers_once : (image : Image) (cores : List ℕ) (entries : List Entry) (callers : List Caller) → AreOnce cores → AreEntered image cores entries callers
    → AreOnce (map core_in callers)
callers_once image cores entries callers once are = subst AreOnce (sym are.callers_are) (once_front (length callers) cores once)

place_of_one : (image : Image) (scripts : List (List Request)) (cores : List ℕ) (entries : List Entry) (callers : List Caller) (n k : ℕ) (caller : Caller) (tree : Tree)
    → Begins image scripts cores entries callers → k < length callers → get_or callers k caller ≡ caller → Stands image scripts (drop (length callers) entries) n caller tree
    → HasEntered image scripts caller.core (made_by caller.core (take (length callers + n) entries)) tree
place_of_one image scripts cores entries callers n k caller tree begins low there stands =
    entered_place image scripts entries (length callers) n caller tree
    (entered_all image callers entries k caller (callers_once image cores entries callers begins.once begins.are) begins.are.each low there) begins.answers stands

in_wave : (image : Image) (scripts : List (List Request)) (cores : List ℕ) (entries : List Entry) (callers : List Caller) (n : ℕ) → Begins image scripts cores entries callers
    → (length callers < length cores → take n (drop (length callers) entries) ≡ []) → AreStanding image scripts callers (drop (length callers) entries) n
    → IsInWave image scripts cores (length callers) (take (length callers + n) entries)
in_wave image scripts cores entries callers n begins waiting standing =
    let f : ℕ = length callers in
    let are = begins.are in
    let test : Entry → Bool = λ (e : Entry). is_among e.core (take f cores) in
    let front : IsTrue (list_all test (take f entries)) = all_whole test (take f entries) (λ i d low.
    subst (λ (l : List ℕ). is_among (get_or (take f entries) i d).core l ≡ true) are.in_order
    (among_of (λ (e : Entry). e.core) (take f entries) i (get_or (take f entries) i d) low (get_or_default (take f entries) i (get_or (take f entries) i d) d low))) in
    let back : IsTrue (list_all test (take n (drop f entries))) =
    subst (λ (l : List ℕ). IsTrue (list_all (λ (e : Entry). is_among e.core l) (take n (drop f entries)))) are.callers_are standing.of_cores in
    record {
      first = take f entries;
      others = take n (drop f entries);
      begin = take-add f n entries;
      in_order = are.in_order;
      enter_steps = are.enter_steps;
      within = are.few;
      waiting = waiting;
      of_cores = ap (list_all test) (take-add f n entries) ∙ (list_all-append test (take f entries) (take n (drop f entries))
          ∙ (ap (λ (b : Bool). b && list_all test (take n (drop f entries))) front ∙ back));
      each = λ core among.
          let found = found_of core_in callers core (subst (λ (l : List ℕ). is_among core l ≡ true) (sym are.callers_are) among) in
          let stands = subst (λ (c : Caller). (tree : Tree) × Stands image scripts (drop f entries) n c tree) found.3 (standing.each found.0 found.1 found.2) in
          subst (λ (c : ℕ). IsUnderWay image scripts c (made_by c (take (f + n) entries))) found.4 (record {
            tree = stands.0;
            entered = place_of_one image scripts cores entries callers n found.0 found.1 stands.0 begins found.2 found.3 stands.1;
          });
    }

-- SOME HAVE YET TO ENTER

at_first : (image : Image) (scripts : List (List Request)) (callers : List Caller) (entries : List Entry) → AreStanding image scripts callers entries 0
at_first image scripts callers entries = record {
  of_cores = ap (list_all (λ (entry : Entry). is_among entry.core (map core_in callers))) (none_taken entries);
  each = λ k d low. let caller : Caller = get_or callers k d in
      let root : Tree = script_tree image.host caller (script_of scripts caller.core) in
      (root, subst (λ (l : List Entry). Follows root (made_by caller.core l) root) (sym (none_taken entries)) refl);
}

early_in : (image : Image) (scripts : List (List Request)) (cores : List ℕ) (entries : List Entry) (callers : List Caller) → Begins image scripts cores entries callers
    → IsInWave image scripts cores (length callers) (take (length callers) entries)
early_in image scripts cores entries callers begins =
    let e : length callers + 0 ≡ length callers = omega arith in
    subst (λ (k : ℕ). IsInWave image scripts cores (length callers) (take k entries)) e
    (in_wave image scripts cores entries callers 0 begins (λ low. none_taken (drop (length callers) entries)) (at_first image scripts callers (drop (length callers) entries)))

early_not : (image : Image) (cores : List ℕ) (entries : List Entry) (f : ℕ) (entry : Entry) → f < length cores → f < length entries → EnteringEnds image cores entries f
    → slice_get entries f ≡ Some entry → IsNextEnter image cores f entry → ⊥
early_not image cores entries f entry few low ends there enter =
    let entry_is : get_or entries f entry ≡ entry = get_or_from_slice_get entries f entry entry there in
    let is : IsEnterOf image (get_or cores f entry.core) entry enter.caa = record {
      page = enter.page;
      core_is = enter.core_is;
      step_is = enter.step_is ∙ ap (enters image) enter.core_is;
      answer_is = enter.answer_is;
    } in
    ⊎_elim
    (λ (e : f ≡ length cores). absurd (omega (arith, e, few)))
    (λ late. ⊎_elim
    (λ (e : length entries ≤ f). absurd (omega (arith, e, low)))
    (λ (none : (core : ℕ) (other : Entry) (caa : _) → IsEnterOf image (get_or cores f core) (get_or entries f other) caa → ⊥).
    none entry.core entry enter.caa (subst (λ (e : Entry). IsEnterOf image (get_or cores f entry.core) e enter.caa) (sym entry_is) is))
    late)
    ends

pub early_breaks : (image : Image) (scripts : List (List Request)) (cores : List ℕ) (entries : List Entry) (callers : List Caller) → Begins image scripts cores entries callers
    → length callers < length cores → length callers < length entries → EnteringEnds image cores entries (length callers)
    → WaveReads image scripts cores entries (waves.Breaks (length callers))
early_breaks image scripts cores entries callers begins few low ends = (
  low,
  (
    length callers,
    (
      early_in image scripts cores entries callers begins,
      (
        inr (inl few),
        λ entry there. record {
          no_enter = λ enter. early_not image cores entries (length callers) entry few low ends there enter;
          no_step = λ step. absurd (let all = step.all in omega (arith, all, few));
        },
      ),
    ),
  ),
)

pub early_more : (image : Image) (scripts : List (List Request)) (cores : List ℕ) (entries : List Entry) (callers : List Caller) → Begins image scripts cores entries callers
    → length callers < length cores → length entries ≤ length callers → WaveReads image scripts cores entries waves.UnderWay
early_more image scripts cores entries callers begins few low = (
  length callers,
  (
    subst (IsInWave image scripts cores (length callers)) (take_all (length callers) entries low) (early_in image scripts cores entries callers begins),
    inr (inl few),
  ),
)

-- ALL HAVE ENTERED

cores_are : (image : Image) (cores : List ℕ) (entries : List Entry) (callers : List Caller) → AreEntered image cores entries callers → length callers ≡ length cores → map core_in callers ≡ cores
cores_are image cores entries callers are all = are.callers_are ∙ take_all (length callers) cores (omega (arith, all))

full_in : (image : Image) (scripts : List (List Request)) (cores : List ℕ) (entries : List Entry) (callers : List Caller) (n : ℕ) → Begins image scripts cores entries callers
    → length callers ≡ length cores → AreStanding image scripts callers (drop (length callers) entries) n
    → IsInWave image scripts cores (length cores) (take (length callers + n) entries)
full_in image scripts cores entries callers n begins all standing =
    subst (λ (k : ℕ). IsInWave image scripts cores k (take (length callers + n) entries)) all
    (in_wave image scripts cores entries callers n begins (λ low. absurd (omega (arith, low, all))) standing)

none_asks : (tree : Tree) (step : Step) (outs : List Outcome) (last : CoreEnd) → tree ≡ ended outs last → asked_of tree ≡ Some step → ⊥
none_asks tree step outs last is asks = let e : None ≡ Some step = sym (ap asked_of is) ∙ asks in absurd (cc)

going : (image : Image) (scripts : List (List Request)) (cores : List ℕ) (entries : List Entry) (callers : List Caller) (n : ℕ) → Begins image scripts cores entries callers
    → length callers ≡ length cores → Any (AsksMore image scripts (drop (length callers) entries) n) callers
    → IsGoing image scripts (take (length callers + n) entries) cores (length cores)
going image scripts cores entries callers n begins all some =
    let asks = some.4 in
    let ours = place_of_one image scripts cores entries callers n some.0 some.1 asks.tree begins some.2 some.3 asks.stands in
    let among = subst (λ (l : List ℕ). is_among some.1.core l ≡ true) (cores_are image cores entries callers begins.are all) (among_of core_in callers some.0 some.1 some.2 some.3) in
    inr (inr (
      some.1.core,
      among,
      λ over. none_asks asks.tree asks.step over.outs over.end
          (entered_are_one image scripts some.1.core (made_by some.1.core (take (length callers + n) entries)) asks.tree (ended over.outs over.end) ours over.entered) asks.asks,
    ))

full_not : (image : Image) (scripts : List (List Request)) (cores : List ℕ) (entries : List Entry) (callers : List Caller) (n : ℕ) (entry : Entry) → Begins image scripts cores entries callers
    → length callers ≡ length cores → All (IsNotAsked image scripts (drop (length callers) entries) n entry) callers
    → IsNextStep image scripts (take (length callers + n) entries) cores (length cores) entry → ⊥
full_not image scripts cores entries callers n entry begins all none step =
    let found = found_of core_in callers entry.core (subst (λ (l : List ℕ). is_among entry.core l ≡ true) (sym (cores_are image cores entries callers begins.are all)) step.among) in
    let here = subst (IsNotAsked image scripts (drop (length callers) entries) n entry) found.3 (none found.0 found.1 found.2) found.4 in
    let ours = subst (λ (c : ℕ). HasEntered image scripts c (made_by c (take (length callers + n) entries)) here.0) found.4
    (place_of_one image scripts cores entries callers n found.0 found.1 here.0 begins found.2 found.3 here.1) in
    let one = entered_are_one image scripts entry.core (made_by entry.core (take (length callers + n) entries)) here.0 step.tree ours step.has_entered in
    here.2 (ap asked_of one ∙ step.asks)

pub full_breaks : (image : Image) (scripts : List (List Request)) (cores : List ℕ) (entries : List Entry) (callers : List Caller) (at : ℕ) → Begins image scripts cores entries callers
    → length callers ≡ length cores → CoresRead image scripts callers (drop (length callers) entries) (waves.Breaks at)
    → WaveReads image scripts cores entries (waves.Breaks (length callers + at))
full_breaks image scripts cores entries callers at begins all read =
    let long = length-drop (length callers) entries in
    let within = read.0 in (
      omega (arith, long, within),
      (
        length cores,
        (
          full_in image scripts cores entries callers at begins all read.1.0,
          (
            going image scripts cores entries callers at begins all read.1.1.0,
            λ entry there. record {
              no_enter = λ enter. absurd (let low = enter.within in omega (arith, low));
              no_step = full_not image scripts cores entries callers at entry begins all
                  (read.1.1.1 entry (slice_drop (length callers) entries at ∙ there));
            },
          ),
        ),
      ),
    )

pub full_more : (image : Image) (scripts : List (List Request)) (cores : List ℕ) (entries : List Entry) (callers : List Caller) → Begins image scripts cores entries callers
    → length callers ≡ length cores → CoresRead image scripts callers (drop (length callers) entries) waves.UnderWay → WaveReads image scripts cores entries waves.UnderWay
full_more image scripts cores entries callers begins all read =
    let n : ℕ = length (drop (length callers) entries) in
    let long = length-drop (length callers) entries in
    let whole : take (length callers + n) entries ≡ entries = take_all (length callers + n) entries (omega (arith, long)) in (
      length cores,
      (
        subst (IsInWave image scripts cores (length cores)) whole (full_in image scripts cores entries callers n begins all read.0),
        subst (λ (l : List Entry). IsGoing image scripts l cores (length cores)) whole (going image scripts cores entries callers n begins all read.1),
      ),
    )

pub full_over : (image : Image) (scripts : List (List Request)) (cores : List ℕ) (entries : List Entry) (callers : List Caller) (count : ℕ) (runs : List CoreRun)
    → Begins image scripts cores entries callers → length callers ≡ length cores
    → (count ≤ length (drop (length callers) entries)) × (AreStanding image scripts callers (drop (length callers) entries) count
    × ((map (λ (run : CoreRun). run.core) runs ≡ map (λ (caller : Caller). caller.core) callers)
    × All (IsEndOf image scripts callers (drop (length callers) entries) count) runs))
    → (length callers + count ≤ length entries) × (IsInWave image scripts cores (length cores) (take (length callers + count) entries)
    × ((map (λ (run : CoreRun). run.core) runs ≡ cores) × All (IsRunOf image scripts (take (length callers + count) entries)) runs))
full_over image scripts cores entries callers count runs begins all read =
    let long = length-drop (length callers) entries in
    let within = read.0 in
    let few = begins.are.within in (
      omega (arith, long, within, few),
      (
        full_in image scripts cores entries callers count begins all read.1.0,
        (
          read.1.1.0 ∙ cores_are image cores entries callers begins.are all,
          λ k d low.
              let run : CoreRun = get_or runs k d in
              let is = read.1.1.1 k d low in
              subst (λ (c : ℕ). HasEntered image scripts c (made_by c (take (length callers + count) entries)) (ended run.outcomes run.end)) is.4.0
              (place_of_one image scripts cores entries callers count is.0 is.1 (ended run.outcomes run.end) begins is.2 is.3 is.4.1),
        ),
      ),
    )

-- the same of callers, entries and an answer that are these
pub read_as : (image : Image) (scripts : List (List Request)) (entries : List Entry) (given callers : List Caller) (first : ℕ) (told read : WaveRead)
    → given ≡ callers → first ≡ length callers → told ≡ read
    → CoresRead image scripts given (take (length entries - first) (drop first entries)) told → CoresRead image scripts callers (drop (length callers) entries) read
read_as image scripts entries given callers first told read same place is reads =
    let long = length-drop first entries in
    let whole : take (length entries - first) (drop first entries) ≡ drop first entries = take_all (length entries - first) (drop first entries) (omega (arith, long)) in
    subst (λ (w : WaveRead). CoresRead image scripts callers (drop (length callers) entries) w) is
    (subst (λ (n : ℕ). CoresRead image scripts callers (drop n entries) told) place
    (subst (λ (l : List Caller). CoresRead image scripts l (drop first entries) told) same
    (subst (λ (l : List Entry). CoresRead image scripts given l told) whole reads)))
