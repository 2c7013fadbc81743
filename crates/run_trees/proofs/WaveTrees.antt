-- Waves whose cores are all at their ends are a whole list.
use Rattle.std.proofs.Common.{◌≡◌, ℕ, ◌+◌, Bool, true, false, List, [], ◌∷◌, ◌++◌, length, take, refl, sym, ◌∙◌, ap, arith, subst, inl, inr, ◌⊎◌, ⊎_elim, map}
use Rattle.std.specs.Prelude.{IsTrue, ◌&&◌, ◌||◌, ◌==◌, not, filter}
use Rattle.std.specs.List.{list_all, list_any}
use Rattle.std.proofs.lemmas.Bool.Decides.{nat_tests}
use Rattle.std.proofs.lemmas.List.{append-nil, take_all}
use Rattle.std.proofs.lemmas.List.Elements.{filter-append}
use Rattle.std.proofs.lemmas.List.{map-append}
use Rattle.svsm_types.specs.declared.image.Image.{Image}
use Rattle.svsm_types.specs.declared.image.CoreLine.{CoreLine}
use Rattle.svsm_types.specs.declared.request.Request.{Request}
use Rattle.svsm_types.specs.declared.vcpu.RowState.TheVariants.{Ready}
use Rattle.svsm_steps.specs.declared.entry.Entry.{Entry}
use Rattle.svsm_steps.specs.declared.outcome.CoreEnd.TheVariants.{Unstarted}
use Rattle.svsm_steps.specs.declared.outcome.CoreRun.{CoreRun}
use Rattle.svsm_steps.specs.Partition.{of_core}
use Rattle.svsm_steps.specs.Made.{Made, made_of, made_by}
use Rattle.svsm_steps.specs.Machine.{state_after}
use Rattle.svsm_steps.specs.Image.{constants_of, booted}
use Rattle.svsm_steps.specs.Registry.{of_apic_in}
use Rattle.svsm_steps.specs.Announced.{Announced}
use Rattle.svsm_calls.specs.Waves.{is_among, apic_of, numbers_of, next_wave, enters, has_refused, IsWave, AreWaves, AreOver, one_more}
use Rattle.svsm_calls.specs.Run.{caller_of, IsStarted, IsCore, script_of, AreCores}
use Rattle.run_trees.specs.Begun.{cores_behind, wave_behind, exits_behind, HasEnded, EndedAreOrdered}
use Rattle.run_trees.proofs.CoreTrees.{tree_runs}

-- a core at its end made its core's run
pub started : (image : Image) (scripts : List (List Request)) (core : ℕ) (made : List Made) (has : HasEnded image scripts core made)
    → IsStarted image core (script_of scripts core) made has.outs has.end
started image scripts core made has =
    let reads = tree_runs image.host (caller_of image core has.entered.caa) (script_of scripts core) has.entered.rest has.outs has.end has.entered.answers has.entered.follows in
    record {
      ticket = has.entered.ticket;
      page = has.entered.page;
      caa = has.entered.caa;
      rest = has.entered.rest;
      events = reads.events;
      begins = has.entered.begins;
      run = reads.run;
      given = reads.given;
    }

-- CORES

abbrev Each : Image → List (List Request) → List Entry → List ℕ → Type 0
Each image scripts entries all = (core : ℕ) → is_among core all ≡ true → HasEnded image scripts core (made_by core entries)

abbrev OneCore : Image → List (List Request) → List Entry → List ℕ → ℕ → Type 0
OneCore image scripts entries all core = (run : CoreRun) × IsCore (is_among core all) image core (script_of scripts core) (made_by core entries) run

core_by : (image : Image) (scripts : List (List Request)) (entries : List Entry) (all : List ℕ) (core : ℕ) (t : Bool) → is_among core all ≡ t → Each image scripts entries all → OneCore image scripts entries all core
core_by image scripts entries all core true is each =
    let has = each core is in
    let run : CoreRun = record { core = core; outcomes = has.outs; end = has.end } in
    (run, subst (λ (t : Bool). IsCore t image core (script_of scripts core) (made_by core entries) run) (sym is) (refl, started image scripts core (made_by core entries) has))
core_by image scripts entries all core false is each =
    let run : CoreRun = record { core = core; outcomes = []; end = Unstarted } in
    (run, subst (λ (t : Bool). IsCore t image core (script_of scripts core) (made_by core entries) run) (sym is) (refl, refl, refl))

cores_of : (image : Image) (scripts : List (List Request)) (entries : List Entry) (all : List ℕ) (core : ℕ) (lines : List CoreLine) → Each image scripts entries all
    → (runs : List CoreRun) × AreCores image scripts entries all core lines runs
cores_of image scripts entries all core [] each = ([], tt)
cores_of image scripts entries all core (line ∷ lines) each =
    let here = core_by image scripts entries all core (is_among core all) refl each in
    let rest = cores_of image scripts entries all (core + 1) lines each in
    (here.0 ∷ rest.0, (here.1, rest.1))

-- WAVES

pub left : (a b : Bool) → (a && b) ≡ true → a ≡ true
left true b e = refl
left false b e = absurd (cc)

pub right : (a b : Bool) → (a && b) ≡ true → b ≡ true
right true b e = e
right false b e = absurd (cc)

pub either : (a b : Bool) → (a || b) ≡ true → (a ≡ true) ⊎ (b ≡ true)
either true b e = inl refl
either false b e = inr e

pub same : (m n : ℕ) → (m == n) ≡ true → m ≡ n
same m n is = grind (arith, nat_tests)

pub filter_true : {A : Type 0} (test : A → Bool) (x : A) (xs : List A) → test x ≡ true → filter test (x ∷ xs) ≡ x ∷ filter test xs
filter_true test x xs is = simp is

pub filter_false : {A : Type 0} (test : A → Bool) (x : A) (xs : List A) → test x ≡ false → filter test (x ∷ xs) ≡ filter test xs
filter_false test x xs is = simp is

pub or_true : (b : Bool) → (b || true) ≡ true
or_true true = refl
or_true false = refl

-- a core that a filter keeps passes its test
kept_by : (test : ℕ → Bool) (core x : ℕ) (numbers : List ℕ) (t : Bool) → test x ≡ t → (is_among core (filter test numbers) ≡ true → test core ≡ true)
    → is_among core (filter test (x ∷ numbers)) ≡ true → test core ≡ true
kept_by test core x numbers true is more among =
    let here : is_among core (x ∷ filter test numbers) ≡ true = subst (λ (l : List ℕ). is_among core l ≡ true) (filter_true test x numbers is) among in
    ⊎_elim (λ (e : (x == core) ≡ true). subst (λ (n : ℕ). test n ≡ true) (same x core e) is) more (either (x == core) (is_among core (filter test numbers)) here)
kept_by test core x numbers false is more among = more (subst (λ (l : List ℕ). is_among core l ≡ true) (filter_false test x numbers is) among)

kept : (test : ℕ → Bool) (core : ℕ) (numbers : List ℕ) → is_among core (filter test numbers) ≡ true → test core ≡ true
kept test core [] among = absurd (cc)
kept test core (x ∷ numbers) among = kept_by test core x numbers (test x) refl (kept test core numbers) among

not_true : (b : Bool) → not b ≡ true → b ≡ true → ⊥
not_true true n e = cc
not_true false n e = cc

-- a core of the next wave ran in none before
pub fresh : (image : Image) (entries : List Entry) (ran : List ℕ) (core : ℕ) → is_among core (next_wave image entries ran) ≡ true → is_among core ran ≡ true → ⊥
fresh image entries ran core among old =
    let rows = (state_after (constants_of image) (booted image) entries).rows in
    let test : ℕ → Bool = λ core. not (is_among core ran) && list_any (of_apic_in Ready (apic_of image core)) rows in
    not_true (is_among core ran) (left (not (is_among core ran)) (list_any (of_apic_in Ready (apic_of image core)) rows) (kept test core (numbers_of image) among)) old

-- a wave has no entries of other cores
none_by : (core : ℕ) (entry : Entry) (entries : List Entry) (t : Bool) → (entry.core == core) ≡ t → (t ≡ true → ⊥) → made_by core entries ≡ [] → made_by core (entry ∷ entries) ≡ []
none_by core entry entries true is apart more = absurd (apart refl)
none_by core entry entries false is apart more = ap (map made_of) (filter_false (λ (e : Entry). e.core == core) entry entries is) ∙ more

pub none_made : (core : ℕ) (cores : List ℕ) (entries : List Entry) → IsTrue (list_all (λ (entry : Entry). is_among entry.core cores) entries) → (is_among core cores ≡ true → ⊥)
    → made_by core entries ≡ []
none_made core cores [] of_cores apart = refl
none_made core cores (entry ∷ entries) of_cores apart =
    none_by core entry entries (entry.core == core) refl
    (λ (e : (entry.core == core) ≡ true). apart (subst (λ (n : ℕ). is_among n cores ≡ true) (same entry.core core e) (left (is_among entry.core cores) (list_all (λ (entry : Entry). is_among entry.core cores) entries) of_cores)))
    (none_made core cores entries (right (is_among entry.core cores) (list_all (λ (entry : Entry). is_among entry.core cores) entries) of_cores) apart)

pub made_append : (core : ℕ) (one other : List Entry) → made_by core (one ++ other) ≡ made_by core one ++ made_by core other
made_append core one other = ap (map made_of) (filter-append (λ (entry : Entry). entry.core == core) one other) ∙ map-append made_of (of_core core one) (of_core core other)

pub either_list : (core : ℕ) (one other : List ℕ) → is_among core (one ++ other) ≡ true → (is_among core one ≡ true) ⊎ (is_among core other ≡ true)
either_list core [] other is = inr is
either_list core (x ∷ one) other is = ⊎_elim
    (λ (e : (x == core) ≡ true). inl (ap (λ (b : Bool). b || is_among core one) e))
    (λ (e : is_among core (one ++ other) ≡ true). ⊎_elim (λ (l : is_among core one ≡ true). inl (ap (λ (b : Bool). (x == core) || b) l ∙ or_true (x == core))) (λ (r : is_among core other ≡ true). inr r) (either_list core one other e))
    (either (x == core) (is_among core (one ++ other)) is)

pub no_cores : (entries : List Entry) → IsTrue (list_all (λ (entry : Entry). is_among entry.core []) entries) → entries ≡ []
no_cores [] is = refl
no_cores (entry ∷ entries) is = absurd (cc)

-- the same of a wave that no refused exit keeps back
pub fresh_behind : (image : Image) (entries : List Entry) (ran : List ℕ) (exits : List Announced) (core : ℕ) → is_among core (wave_behind image entries ran exits) ≡ true → is_among core ran ≡ true → ⊥
fresh_behind image entries ran exits core among old = by (has_refused image exits) among
  where
    by : (b : Bool) → is_among core (cores_behind b (next_wave image entries ran)) ≡ true → ⊥
    by true kept = cc
    by false kept = fresh image entries ran core kept old

-- a wave with cores comes behind no refused exit
pub some_behind : (b : Bool) (all cores : List ℕ) (core : ℕ) → core ∷ cores ≡ cores_behind b all → (b ≡ false) × (core ∷ cores ≡ all)
some_behind true all cores core is = absurd (cc)
some_behind false all cores core is = (refl, is)

over_by : (b : Bool) (all : List ℕ) → cores_behind b all ≡ [] → AreOver b all
over_by true all is = tt
over_by false all is = is

-- a wave with cores, or none
pub wave_by : (image : Image) (before wave : List Entry) (ran : List ℕ) (exits : List Announced) (cores : List ℕ) → AreWaves image before ran exits → cores ≡ wave_behind image before ran exits
    → IsWave image cores wave → AreWaves image (before ++ wave) (ran ++ cores) (exits_behind image exits cores before wave)
wave_by image before wave ran exits [] waves next is =
    subst (λ (l : List Entry). AreWaves image l (ran ++ []) exits) (sym (ap (λ (l : List Entry). before ++ l) (no_cores wave is.of_cores) ∙ append-nil before))
    (subst (λ (l : List ℕ). AreWaves image before l exits) (sym (append-nil ran)) waves)
wave_by image before wave ran exits (core ∷ cores) waves next is =
    let parts = some_behind (has_refused image exits) (next_wave image before ran) cores core next in
    one_more before ran (core ∷ cores) wave exits waves parts.0 parts.1 (λ e. cc) is

pub ended_order : EndedAreOrdered
ended_order image scripts entries ran exits cores begun ends over =
    let all : take (length cores) cores ≡ cores = take_all (length cores) cores (omega arith) in
    let of_cores : IsTrue (list_all (λ (entry : Entry). is_among entry.core cores) begun.wave) =
    subst (λ (l : List ℕ). IsTrue (list_all (λ (entry : Entry). is_among entry.core l) begun.wave)) all begun.of_cores in
    let wave : IsWave image cores begun.wave = record {
      first = begun.first;
      others = begun.others;
      begin = begun.begin;
      in_order = begun.in_order ∙ all;
      enter_steps = begun.enter_steps ∙ ap (map (enters image)) all;
      of_cores = of_cores;
    } in
    let told = exits_behind image exits cores begun.before begun.wave in
    let waves : AreWaves image (begun.before ++ begun.wave) (ran ++ cores) told = wave_by image begun.before begun.wave ran exits cores begun.waves begun.next wave in
    let apart : (core : ℕ) → is_among core ran ≡ true → is_among core cores ≡ true → ⊥ =
    λ core old new. fresh_behind image begun.before ran exits core (subst (λ (l : List ℕ). is_among core l ≡ true) begun.next new) old in
    let stays : (core : ℕ) → is_among core ran ≡ true → made_by core entries ≡ made_by core begun.before =
    λ core old. ap (made_by core) begun.split ∙ made_append core begun.before begun.wave
    ∙ ap (λ (l : List Made). made_by core begun.before ++ l) (none_made core cores begun.wave of_cores (apart core old)) ∙ append-nil (made_by core begun.before) in
    let each : Each image scripts entries (ran ++ cores) =
    λ core among. ⊎_elim
    (λ (old : is_among core ran ≡ true). subst (λ (m : List Made). HasEnded image scripts core m) (sym (stays core old)) (begun.whole core old))
    (λ (new : is_among core cores ≡ true). ends core new)
    (either_list core ran cores among) in
    let gave = cores_of image scripts entries (ran ++ cores) 0 image.cores each in (
      gave.0,
      record {
        ran = ran ++ cores;
        exits = told;
        waves = subst (λ (l : List Entry). AreWaves image l (ran ++ cores) told) (sym begun.split) waves;
        over = over_by (has_refused image told) (next_wave image entries (ran ++ cores)) over;
        each = gave.1;
      },
    )
