-- Each begin of a whole list has begun so.
use Rattle.std.proofs.Common.{◌≡◌, ℕ, zero, suc, ◌+◌, ◌<◌, ◌≤◌, Bool, true, false, List, [], ◌∷◌, ◌++◌, length, take, drop, refl, sym, ◌∙◌, ap, arith, subst, inl, inr, ◌⊎◌, ⊎_elim, map, length-append, get_or}
use Rattle.std.specs.Prelude.{IsTrue, ◌&&◌, ◌||◌, ◌==◌, not, filter}
use Rattle.std.specs.List.{list_all, list_any, range_with_len}
use Rattle.std.proofs.lemmas.Bool.{cases_Bool}
use Rattle.std.proofs.lemmas.List.{append-nil, map-append, take_all, take-append-drop, length-map}
use Rattle.std.proofs.lemmas.List.FromFn.{length-range_with_len, get_or-range_with_len}
use Rattle.std.proofs.Math.Seq.{take-append_seam}
use Rattle.std.proofs.lemmas.Bool.Decides.{nat_tests}
use Rattle.svsm_types.specs.declared.image.Image.{Image}
use Rattle.svsm_types.specs.declared.image.CoreLine.{CoreLine}
use Rattle.svsm_types.specs.declared.request.Request.{Request}
use Rattle.svsm_steps.specs.declared.answer.Answer.TheVariants.{Seen}
use Rattle.svsm_steps.specs.declared.entry.Entry.{Entry}
use Rattle.svsm_steps.specs.declared.outcome.Outcome.{Outcome}
use Rattle.svsm_steps.specs.declared.outcome.CoreEnd.{CoreEnd}
use Rattle.svsm_steps.specs.declared.outcome.CoreRun.{CoreRun}
use Rattle.svsm_steps.specs.Made.{Made, made_of, made_by}
use Rattle.svsm_types.specs.declared.vcpu.RowState.TheVariants.{Ready}
use Rattle.svsm_steps.specs.Machine.{state_after}
use Rattle.svsm_steps.specs.Image.{constants_of, booted}
use Rattle.svsm_steps.specs.Registry.{of_apic_in}
use Rattle.svsm_steps.specs.Announced.{Announced}
use Rattle.svsm_calls.specs.Waves.{is_among, apic_of, numbers_of, next_wave, enters, has_refused, IsWave, AreWaves, none, one_more}
use Rattle.svsm_calls.specs.Run.{caller_of, IsStarted, IsCore, script_of, AreCores}
use Rattle.run_trees.specs.Tree.{ended, Follows}
use Rattle.run_trees.specs.Laws.{AreAnswers, ReadsRun, script_tree}
use Rattle.run_trees.specs.Order.{IsOrdered}
use Rattle.run_trees.specs.Begun.{cores_behind, HasEnded, IsUnderWay, IsBegun, HasBegun, GivesAnswers, FrontsAreBegun}
use Rattle.run_trees.proofs.CallTrees.{on_the_way}
use Rattle.run_trees.proofs.RunTrees.{run_reads}
use Rattle.run_trees.proofs.WaveTrees.{made_append, none_made, fresh, left, right, either, either_list, same, filter_true, filter_false, or_true}

-- what a core of a wave made, with its outcomes
pub record Ran (image : Image) (scripts : List (List Request)) (core : ℕ) (made : List Made) : Type 0 where
  pub outs : List Outcome
  pub end : CoreEnd
  pub started : IsStarted image core (script_of scripts core) made outs end

-- answers of a begin
answers_front : (one other : List Made) → AreAnswers (one ++ other) → AreAnswers one
answers_front [] other is = tt
answers_front (m ∷ one) other is = (is.0, answers_front one other is.1)

head_same : (x y : Made) (xs ys : List Made) → x ∷ xs ≡ y ∷ ys → (x ≡ y) × (xs ≡ ys)
head_same x y xs ys is = (cc, cc)

-- a core that ran to its end, of which a begin is known that is not empty
under : (image : Image) (scripts : List (List Request)) (core : ℕ) (first : Made) (one other : List Made) → Ran image scripts core ((first ∷ one) ++ other) → AreAnswers one
    → IsUnderWay image scripts core (first ∷ one)
under image scripts core first one other ran answers =
    let parts = head_same first (record { ticket = ran.started.ticket; step = enters image core; answer = Seen ran.started.page ran.started.caa }) (one ++ other) ran.started.rest ran.started.begins in
    let reads : ReadsRun image.host (caller_of image core ran.started.caa) (script_of scripts core) ran.started.rest ran.outs ran.end =
    record { events = ran.started.events; run = ran.started.run; given = ran.started.given } in
    let follows = run_reads image.host (caller_of image core ran.started.caa) (script_of scripts core) ran.started.rest ran.outs ran.end reads in
    let way = on_the_way (script_tree image.host (caller_of image core ran.started.caa) (script_of scripts core)) (ended ran.outs ran.end) one other
    (subst (λ (l : List Made). Follows (script_tree image.host (caller_of image core ran.started.caa) (script_of scripts core)) l (ended ran.outs ran.end)) (sym parts.1) follows) in
    record {
      tree = way.0;
      entered = record {
        ticket = ran.started.ticket;
        page = ran.started.page;
        caa = ran.started.caa;
        rest = one;
        begins = ap (λ (x : Made). x ∷ one) parts.0;
        answers = answers;
        follows = way.1;
      };
    }

-- a core that ran to its end
whole : (image : Image) (scripts : List (List Request)) (core : ℕ) (made : List Made) → Ran image scripts core made → AreAnswers made → HasEnded image scripts core made
whole image scripts core made ran answers =
    let reads : ReadsRun image.host (caller_of image core ran.started.caa) (script_of scripts core) ran.started.rest ran.outs ran.end =
    record { events = ran.started.events; run = ran.started.run; given = ran.started.given } in
    let all : AreAnswers (record { ticket = ran.started.ticket; step = enters image core; answer = Seen ran.started.page ran.started.caa } ∷ ran.started.rest) =
    subst AreAnswers ran.started.begins answers in
    record {
      outs = ran.outs;
      end = ran.end;
      entered = record {
        ticket = ran.started.ticket;
        page = ran.started.page;
        caa = ran.started.caa;
        rest = ran.started.rest;
        begins = ran.started.begins;
        answers = all.1;
        follows = run_reads image.host (caller_of image core ran.started.caa) (script_of scripts core) ran.started.rest ran.outs ran.end reads;
      };
    }

-- TWO WAYS TO CUT A LIST

-- a list that is cut twice: one front is a begin of the other
abbrev pub Cut : {A : Type 0} → List A → List A → List A → List A → Type 0
Cut {A} one more front back =
    ((between : List A) × (front ≡ one ++ between) × (more ≡ between ++ back))
    ⊎ ((between : List A) × (one ≡ front ++ between) × (back ≡ between ++ more))

pub tails : {A : Type 0} (x y : A) (xs ys : List A) → x ∷ xs ≡ y ∷ ys → (x ≡ y) × (xs ≡ ys)
tails x y xs ys is = (cc, cc)

pub cut : {A : Type 0} (one more front back : List A) → one ++ more ≡ front ++ back → Cut one more front back
cut [] more front back is = inl (front, refl, is)
cut (x ∷ one) more [] back is = inr (x ∷ one, refl, sym is)
cut (x ∷ one) more (y ∷ front) back is =
    let parts = tails x y (one ++ more) (front ++ back) is in
    ⊎_elim
    (λ short. inl (short.0, ap (λ (l : List _). y ∷ l) short.1 ∙ ap (λ (a : _). a ∷ (one ++ short.0)) (sym parts.0), short.2))
    (λ long. inr (long.0, ap (λ (l : List _). x ∷ l) long.1 ∙ ap (λ (a : _). a ∷ (front ++ long.0)) parts.0, long.2))
    (cut one more front back parts.1)

-- CORES OF A WAVE

-- a core whose number is among those of entries made a step
abbrev Some1 : List Made → Type 0
Some1 made = (m : Made) × (rest : List Made) × (made ≡ m ∷ rest)

pub mine : (core : ℕ) (entry : Entry) (entries : List Entry) → (entry.core == core) ≡ true → made_by core (entry ∷ entries) ≡ made_of entry ∷ made_by core entries
mine core entry entries is = ap (map made_of) (filter_true (λ (e : Entry). e.core == core) entry entries is)

pub others' : (core : ℕ) (entry : Entry) (entries : List Entry) → (entry.core == core) ≡ false → made_by core (entry ∷ entries) ≡ made_by core entries
others' core entry entries is = ap (map made_of) (filter_false (λ (e : Entry). e.core == core) entry entries is)

made_some_by : (core : ℕ) (entry : Entry) (entries : List Entry) (t : Bool) → (entry.core == core) ≡ t → (is_among core (map (λ (e : Entry). e.core) entries) ≡ true → Some1 (made_by core entries))
    → is_among core (entry.core ∷ map (λ (e : Entry). e.core) entries) ≡ true → Some1 (made_by core (entry ∷ entries))
made_some_by core entry entries true is more among = (made_of entry, made_by core entries, mine core entry entries is)
made_some_by core entry entries false is more among =
    let rest = more (⊎_elim (λ (e : (entry.core == core) ≡ true). absurd (let no : true ≡ false = sym e ∙ is in cc)) (λ (e : is_among core (map (λ (e : Entry). e.core) entries) ≡ true). e)
    (either (entry.core == core) (is_among core (map (λ (e : Entry). e.core) entries)) among)) in
    (rest.0, rest.1, others' core entry entries is ∙ rest.2)

made_some : (core : ℕ) (entries : List Entry) → is_among core (map (λ (e : Entry). e.core) entries) ≡ true → Some1 (made_by core entries)
made_some core [] among = absurd (cc)
made_some core (entry ∷ entries) among = made_some_by core entry entries (entry.core == core) refl (made_some core entries) among

-- entries are of their own cores
either_first : (x : ℕ) → (x == x) ≡ true
either_first x = grind (arith, nat_tests)

all_more : (x : ℕ) (numbers : List ℕ) (entries : List Entry) → IsTrue (list_all (λ (e : Entry). is_among e.core numbers) entries) → IsTrue (list_all (λ (e : Entry). is_among e.core (x ∷ numbers)) entries)
all_more x numbers [] is = refl
all_more x numbers (entry ∷ entries) is =
    ap (λ (b : Bool). ((x == entry.core) || b) && list_all (λ (e : Entry). is_among e.core (x ∷ numbers)) entries) (left (is_among entry.core numbers) (list_all (λ (e : Entry). is_among e.core numbers) entries) is)
    ∙ ap (λ (b : Bool). b && list_all (λ (e : Entry). is_among e.core (x ∷ numbers)) entries) (or_true (x == entry.core))
    ∙ all_more x numbers entries (right (is_among entry.core numbers) (list_all (λ (e : Entry). is_among e.core numbers) entries) is)

all_own : (entries : List Entry) → IsTrue (list_all (λ (e : Entry). is_among e.core (map (λ (e : Entry). e.core) entries)) entries)
all_own [] = refl
all_own (entry ∷ entries) =
    ap (λ (b : Bool). (b || is_among entry.core (map (λ (e : Entry). e.core) entries)) && list_all (λ (e : Entry). is_among e.core (entry.core ∷ map (λ (e : Entry). e.core) entries)) entries) (either_first entry.core)
    ∙ all_more entry.core (map (λ (e : Entry). e.core) entries) entries (all_own entries)

all_front : (test : Entry → Bool) (one other : List Entry) → IsTrue (list_all test (one ++ other)) → IsTrue (list_all test one)
all_front test [] other is = refl
all_front test (entry ∷ one) other is =
    ap (λ (b : Bool). b && list_all test one) (left (test entry) (list_all test (one ++ other)) is) ∙ all_front test one other (right (test entry) (list_all test (one ++ other)) is)

pub among_left : (core : ℕ) (one other : List ℕ) → is_among core one ≡ true → is_among core (one ++ other) ≡ true
among_left core [] other is = absurd (cc)
among_left core (x ∷ one) other is = ⊎_elim
    (λ (e : (x == core) ≡ true). ap (λ (b : Bool). b || is_among core (one ++ other)) e)
    (λ (e : is_among core one ≡ true). ap (λ (b : Bool). (x == core) || b) (among_left core one other e) ∙ or_true (x == core))
    (either (x == core) (is_among core one) is)

pub among_right : (core : ℕ) (one other : List ℕ) → is_among core other ≡ true → is_among core (one ++ other) ≡ true
among_right core [] other is = is
among_right core (x ∷ one) other is = ap (λ (b : Bool). (x == core) || b) (among_right core one other is) ∙ or_true (x == core)

-- waves have no entries of other cores
pub none_of_waves : (image : Image) (all : List Entry) (ran : List ℕ) (exits : List Announced) (core : ℕ) → AreWaves image all ran exits → (is_among core ran ≡ true → ⊥) → made_by core all ≡ []
none_of_waves image _ _ _ core none apart = refl
none_of_waves image _ _ _ core (one_more entries ran cores wave exits waves taken next some is) apart =
    made_append core entries wave
    ∙ ap (λ (l : List Made). l ++ made_by core wave) (none_of_waves image entries ran exits core waves (λ e. apart (among_left core ran cores e)))
    ∙ none_made core cores wave is.of_cores (λ e. apart (among_right core ran cores e))

-- THE WAVE THAT IS CUT

record InWave (image : Image) (cores : List ℕ) (wave : List Entry) (entered : ℕ) : Type 0 where
  pub first : List Entry
  pub others : List Entry
  pub begin : wave ≡ first ++ others
  pub in_order : map (λ (entry : Entry). entry.core) first ≡ take entered cores
  pub enter_steps : map (λ (entry : Entry). entry.step) first ≡ map (enters image) (take entered cores)
  pub within : entered ≤ length cores
  pub waiting : entered < length cores → others ≡ []
  pub of_cores : IsTrue (list_all (λ (entry : Entry). is_among entry.core (take entered cores)) wave)
  pub made : (core : ℕ) → is_among core (take entered cores) ≡ true → Some1 (made_by core wave)

-- the number of cores that have entered in a begin of a wave
abbrev SomeInWave : Image → List ℕ → List Entry → Type 0
SomeInWave image cores wave = (entered : ℕ) × InWave image cores wave entered

-- the steps of entries that stand in front are those of their cores
append_cancel_both : {A : Type 0} (step : Entry → A) (core : Entry → ℕ) (of : ℕ → A) (one rest : List Entry) → map step one ++ map step rest ≡ map of (map core one) ++ map of (map core rest)
    → map step one ≡ map of (map core one)
append_cancel_both step core of [] rest is = refl
append_cancel_both step core of (entry ∷ one) rest is =
    let parts = tails (step entry) (of (core entry)) (map step one ++ map step rest) (map of (map core one) ++ map of (map core rest)) is in
    ap (λ (x : _). x ∷ map step one) parts.0 ∙ ap (λ (l : List _). of (core entry) ∷ l) (append_cancel_both step core of one rest parts.1)

early : (image : Image) (cores : List ℕ) (one rest : List Entry) → map (λ (entry : Entry). entry.core) (one ++ rest) ≡ cores → map (λ (entry : Entry). entry.step) (one ++ rest) ≡ map (enters image) cores
    → SomeInWave image cores one
early image cores one rest order steps =
    let core : Entry → ℕ = λ entry. entry.core in
    let step = λ (entry : Entry). entry.step in
    let split : cores ≡ map core one ++ map core rest = sym order ∙ map-append core one rest in
    let front : take (length one) cores ≡ map core one =
    ap (take (length one)) split ∙ ap (λ (n : ℕ). take n (map core one ++ map core rest)) (sym (length-map one core)) ∙ take-append_seam (map core one) (map core rest) in
    let entering : map step one ≡ map (enters image) (map core one) =
    append_cancel_both step core (enters image) one rest (sym (map-append step one rest) ∙ steps ∙ ap (map (enters image)) split ∙ map-append (enters image) (map core one) (map core rest)) in
    let long : length one ≤ length cores = omega (arith, ap length split, length-append (map core one) (map core rest), length-map one core) in (
      length one,
      record {
        first = one;
        others = [];
        begin = sym (append-nil one);
        in_order = sym front;
        enter_steps = entering ∙ ap (map (enters image)) (sym front);
        within = long;
        waiting = λ _. refl;
        of_cores = subst (λ (l : List ℕ). IsTrue (list_all (λ (entry : Entry). is_among entry.core l) one)) (sym front) (all_own one);
        made = λ c among. made_some c one (subst (λ (l : List ℕ). is_among c l ≡ true) front among);
      },
    )

late : (image : Image) (cores : List ℕ) (first others rest : List Entry) → map (λ (entry : Entry). entry.core) first ≡ cores → map (λ (entry : Entry). entry.step) first ≡ map (enters image) cores
    → IsTrue (list_all (λ (entry : Entry). is_among entry.core cores) ((first ++ others) ++ rest)) → SomeInWave image cores (first ++ others)
late image cores first others rest order steps of_cores =
    let all : take (length cores) cores ≡ cores = take_all (length cores) cores (omega arith) in (
      length cores,
      record {
        first = first;
        others = others;
        begin = refl;
        in_order = order ∙ sym all;
        enter_steps = steps ∙ ap (map (enters image)) (sym all);
        within = omega arith;
        waiting = λ low. absurd (omega (arith, low));
        of_cores = subst (λ (l : List ℕ). IsTrue (list_all (λ (entry : Entry). is_among entry.core l) (first ++ others))) (sym all)
            (all_front (λ (entry : Entry). is_among entry.core cores) (first ++ others) rest of_cores);
        made = λ c among.
            let some = made_some c first (subst (λ (l : List ℕ). is_among c l ≡ true) (all ∙ sym order) among) in
            (some.0, some.1 ++ made_by c others, made_append c first others ∙ ap (λ (l : List Made). l ++ made_by c others) some.2);
      },
    )

in_wave : (image : Image) (cores : List ℕ) (wave one more : List Entry) → IsWave image cores wave → wave ≡ one ++ more → SomeInWave image cores one
in_wave image cores wave one more is split = ⊎_elim
    (λ short. early image cores one short.0 (ap (map (λ (entry : Entry). entry.core)) (sym short.1) ∙ is.in_order) (ap (map (λ (entry : Entry). entry.step)) (sym short.1) ∙ is.enter_steps))
    (λ long. subst (λ (l : List Entry). SomeInWave image cores l) (sym long.1)
    (late image cores is.first long.0 more is.in_order is.enter_steps
    (subst (λ (l : List Entry). IsTrue (list_all (λ (entry : Entry). is_among entry.core cores) l)) (split ∙ ap (λ (l : List Entry). l ++ more) long.1) is.of_cores)))
    (cut one more is.first is.others (sym split ∙ is.begin))

-- ALL WAVES

abbrev EachRan : Image → List (List Request) → List Entry → List ℕ → Type 0
EachRan image scripts all ran = (core : ℕ) → is_among core ran ≡ true → Ran image scripts core (made_by core all)

abbrev Fronts : Image → List (List Request) → List Entry → Type 0
Fronts image scripts all = (entries more : List Entry) → all ≡ entries ++ more → GivesAnswers entries → HasBegun image scripts entries

no_front : (entries more : List Entry) → [] ≡ entries ++ more → entries ≡ []
no_front [] more is = refl
no_front (entry ∷ entries) more is = absurd (cc)

pub take_none : (l : List ℕ) → take 0 l ≡ []
take_none [] = refl
take_none (x ∷ l) = refl

pub no_among : (core : ℕ) (l : List ℕ) → is_among core (take 0 l) ≡ true → ⊥
no_among core l is = let none : is_among core [] ≡ true = subst (λ (x : List ℕ). is_among core x ≡ true) (take_none l) is in cc

pub none_have_begun : (image : Image) (scripts : List (List Request)) → IsBegun image scripts [] [] [] (next_wave image [] []) 0
none_have_begun image scripts = record {
  before = [];
  wave = [];
  first = [];
  others = [];
  split = refl;
  waves = none;
  whole = λ core among. absurd (cc);
  next = refl;
  begin = refl;
  in_order = sym (take_none (next_wave image [] []));
  enter_steps = ap (map (enters image)) (sym (take_none (next_wave image [] [])));
  within = omega arith;
  waiting = λ _. refl;
  of_cores = refl;
  each = λ core among. absurd (no_among core (next_wave image [] []) among);
}

none_begun : (image : Image) (scripts : List (List Request)) → HasBegun image scripts []
none_begun image scripts = record { ran = []; exits = []; cores = next_wave image [] []; entered = 0; begun = none_have_begun image scripts }

wave_begun : (image : Image) (scripts : List (List Request)) (before wave : List Entry) (ran : List ℕ) (exits : List Announced) (cores : List ℕ) (one more : List Entry) → AreWaves image before ran exits
    → has_refused image exits ≡ false → cores ≡ next_wave image before ran
    → IsWave image cores wave → EachRan image scripts (before ++ wave) (ran ++ cores) → wave ≡ one ++ more → GivesAnswers (before ++ one) → HasBegun image scripts (before ++ one)
wave_begun image scripts before wave ran exits cores one more waves taken next is each split answers =
    let some = in_wave image cores wave one more is split in
    let apart : (core : ℕ) → is_among core ran ≡ true → is_among core cores ≡ true → ⊥ =
    λ core old new. fresh image before ran core (subst (λ (l : List ℕ). is_among core l ≡ true) next new) old in
    let front_core : (core : ℕ) → is_among core (take some.0 cores) ≡ true → is_among core cores ≡ true =
    λ core among. subst (λ (l : List ℕ). is_among core l ≡ true) (take-append-drop some.0 cores) (among_left core (take some.0 cores) (drop some.0 cores) among) in
    record {
      ran = ran;
      exits = exits;
      cores = cores;
      entered = some.0;
      begun = record {
        before = before;
        wave = one;
        first = some.1.first;
        others = some.1.others;
        split = refl;
        waves = waves;
        whole = λ core old.
            let made : made_by core (before ++ wave) ≡ made_by core before =
            made_append core before wave ∙ ap (λ (l : List Made). made_by core before ++ l) (none_made core cores wave is.of_cores (apart core old)) ∙ append-nil (made_by core before) in
            whole image scripts core (made_by core before) (subst (λ (m : List Made). Ran image scripts core m) made (each core (among_left core ran cores old)))
            (answers_front (made_by core before) (made_by core one) (subst AreAnswers (made_append core before one) (answers core)));
        next = next ∙ sym (ap (λ (b : Bool). cores_behind b (next_wave image before ran)) taken);
        begin = some.1.begin;
        in_order = some.1.in_order;
        enter_steps = some.1.enter_steps;
        within = some.1.within;
        waiting = some.1.waiting;
        of_cores = some.1.of_cores;
        each = λ core among.
            let new = front_core core among in
            let none_before : made_by core before ≡ [] = none_of_waves image before ran exits core waves (λ old. apart core old new) in
            let made : made_by core (before ++ wave) ≡ made_by core one ++ made_by core more =
            made_append core before wave ∙ ap (λ (l : List Made). l ++ made_by core wave) none_before ∙ ap (made_by core) split ∙ made_append core one more in
            let first = some.1.made core among in
            let ran_so : Ran image scripts core ((first.0 ∷ first.1) ++ made_by core more) =
            subst (λ (m : List Made). Ran image scripts core m) (made ∙ ap (λ (l : List Made). l ++ made_by core more) first.2) (each core (among_right core ran cores new)) in
            let told : AreAnswers (first.0 ∷ first.1) =
            subst AreAnswers (made_append core before one ∙ ap (λ (l : List Made). l ++ made_by core one) none_before ∙ first.2) (answers core) in
            subst (λ (m : List Made). IsUnderWay image scripts core m) (sym first.2) (under image scripts core first.0 first.1 (made_by core more) ran_so told.1);
      };
    }

fronts : (image : Image) (scripts : List (List Request)) (all : List Entry) (ran : List ℕ) (exits : List Announced) → AreWaves image all ran exits → EachRan image scripts all ran → Fronts image scripts all
fronts image scripts _ _ _ none each entries more is answers = subst (λ (l : List Entry). HasBegun image scripts l) (sym (no_front entries more is)) (none_begun image scripts)
fronts image scripts _ _ _ (one_more before ran cores wave exits waves taken next some is_wave) each entries more is answers = ⊎_elim
    (λ short.
    let apart : (core : ℕ) → is_among core ran ≡ true → is_among core cores ≡ true → ⊥ =
    λ core old new. fresh image before ran core (subst (λ (l : List ℕ). is_among core l ≡ true) next new) old in
    let made : (core : ℕ) → is_among core ran ≡ true → made_by core (before ++ wave) ≡ made_by core before =
    λ core old. made_append core before wave ∙ ap (λ (l : List Made). made_by core before ++ l) (none_made core cores wave is_wave.of_cores (apart core old)) ∙ append-nil (made_by core before) in
    fronts image scripts before ran exits waves
    (λ core old. subst (λ (m : List Made). Ran image scripts core m) (made core old) (each core (among_left core ran cores old)))
    entries short.0 short.1 answers)
    (λ long. subst (λ (l : List Entry). HasBegun image scripts l) (sym long.1)
    (wave_begun image scripts before wave ran exits cores long.0 more waves taken next is_wave each long.2 (subst GivesAnswers long.1 answers)))
    (cut entries more before wave (sym is))

-- what a whole list says of each core of a wave
ran_by : (image : Image) (scripts : List (List Request)) (entries : List Entry) (core : ℕ) (t : Bool) (run : CoreRun) → IsCore t image core (script_of scripts core) (made_by core entries) run → t ≡ true
    → Ran image scripts core (made_by core entries)
ran_by image scripts entries core true run is yes' = record { outs = run.outcomes; end = run.end; started = is.1 }
ran_by image scripts entries core false run is yes' = absurd (cc)

each_line : (image : Image) (scripts : List (List Request)) (entries : List Entry) (ran : List ℕ) (first : ℕ) (lines : List CoreLine) (runs : List CoreRun) (k core : ℕ) → AreCores image scripts entries ran first lines runs
    → k < length lines → core ≡ first + k → is_among core ran ≡ true → Ran image scripts core (made_by core entries)
each_line image scripts entries ran first [] runs k core are low at among = absurd (omega arith)
each_line image scripts entries ran first (line ∷ lines) [] k core are low at among = absurd are
each_line image scripts entries ran first (line ∷ lines) (run ∷ runs) zero core are low at among =
    let same : first ≡ core = omega arith in
    subst (λ (c : ℕ). Ran image scripts c (made_by c entries)) same
    (ran_by image scripts entries first (is_among first ran) run are.0 (subst (λ (c : ℕ). is_among c ran ≡ true) (sym same) among))
each_line image scripts entries ran first (line ∷ lines) (run ∷ runs) (suc k) core are low at among =
    each_line image scripts entries ran (first + 1) lines runs k core are.1 (omega arith) (omega arith) among

-- a core of a wave has a line
found : (number : ℕ) (numbers : List ℕ) → is_among number numbers ≡ true → (k : ℕ) × (k < length numbers) × (get_or numbers k number ≡ number)
found number [] is = absurd (cc)
found number (x ∷ numbers) is = ⊎_elim
    (λ (e : (x == number) ≡ true). (0, omega arith, same x number e))
    (λ (e : is_among number numbers ≡ true). let rest = found number numbers e in (suc rest.0, omega arith, rest.2))
    (either (x == number) (is_among number numbers) is)

pub in_filter : (test : ℕ → Bool) (number : ℕ) (numbers : List ℕ) → is_among number (filter test numbers) ≡ true → is_among number numbers ≡ true
in_filter test number [] is = is
in_filter test number (x ∷ numbers) is = ⊎_elim
    (λ (e : test x ≡ true).
    let here : is_among number (x ∷ filter test numbers) ≡ true = subst (λ (l : List ℕ). is_among number l ≡ true) (filter_true test x numbers e) is in
    ⊎_elim
    (λ (f : (x == number) ≡ true). ap (λ (b : Bool). b || is_among number numbers) f)
    (λ (f : is_among number (filter test numbers) ≡ true). ap (λ (b : Bool). (x == number) || b) (in_filter test number numbers f) ∙ or_true (x == number))
    (either (x == number) (is_among number (filter test numbers)) here))
    (λ (e : test x ≡ false).
    ap (λ (b : Bool). (x == number) || b) (in_filter test number numbers (subst (λ (l : List ℕ). is_among number l ≡ true) (filter_false test x numbers e) is)) ∙ or_true (x == number))
    (cases_Bool (test x))

low_number : (n number : ℕ) → is_among number (range_with_len 0 n) ≡ true → number < n
low_number n number is =
    let at = found number (range_with_len 0 n) is in
    let long : length (range_with_len 0 n) ≡ n = length-range_with_len 0 n in
    let low : at.0 < n = omega (arith, at.1, long) in
    let told : get_or (range_with_len 0 n) at.0 number ≡ 0 + at.0 = get_or-range_with_len 0 n at.0 number low in
    omega (arith, at.2, told, low)

wave_low : (image : Image) (entries : List Entry) (ran : List ℕ) (core : ℕ) → is_among core (next_wave image entries ran) ≡ true → core < length image.cores
wave_low image entries ran core is =
    let rows = (state_after (constants_of image) (booted image) entries).rows in
    let test : ℕ → Bool = λ core. not (is_among core ran) && list_any (of_apic_in Ready (apic_of image core)) rows in
    low_number (length image.cores) core (in_filter test core (numbers_of image) is)

of_lines : (image : Image) (entries : List Entry) (ran : List ℕ) (exits : List Announced) → AreWaves image entries ran exits → (core : ℕ) → is_among core ran ≡ true → core < length image.cores
of_lines image _ _ _ none core is = absurd (cc)
of_lines image _ _ _ (one_more entries ran cores wave exits before taken next some is_wave) core is = ⊎_elim
    (λ (old : is_among core ran ≡ true). of_lines image entries ran exits before core old)
    (λ (new : is_among core cores ≡ true). wave_low image entries ran core (subst (λ (l : List ℕ). is_among core l ≡ true) next new))
    (either_list core ran cores is)

pub fronts_begun : FrontsAreBegun
fronts_begun image scripts entries answers front =
    let low = λ (core : ℕ) (among : is_among core front.ordered.ran ≡ true). of_lines image (entries ++ front.more) front.ordered.ran front.ordered.exits front.ordered.waves core among in
    fronts image scripts (entries ++ front.more) front.ordered.ran front.ordered.exits front.ordered.waves
    (λ core among. each_line image scripts (entries ++ front.more) front.ordered.ran 0 image.cores front.cores core core front.ordered.each (low core among) (omega arith) among)
    entries front.more refl answers

-- in a whole list the core of each wave is at its end
pub all_ended : (image : Image) (scripts : List (List Request)) (entries : List Entry) (runs : List CoreRun) (ordered : IsOrdered image scripts entries runs) → GivesAnswers entries
    → (core : ℕ) → is_among core ordered.ran ≡ true → HasEnded image scripts core (made_by core entries)
all_ended image scripts entries runs ordered answers core among =
    whole image scripts core (made_by core entries)
    (each_line image scripts entries ordered.ran 0 image.cores runs core core ordered.each
    (of_lines image entries ordered.ran ordered.exits ordered.waves core among) (omega arith) among)
    (answers core)
