-- One more wave of a history was read.
use Rattle.std.proofs.Common.{get_or, ◌≡◌, ◌<◌, ◌≤◌, ℕ, zero, suc, ◌+◌, Bool, true, false, cond, List, [], ◌∷◌, ◌++◌, length, map, take, drop, refl, sym, ◌∙◌, ap, subst, append-nil, arith, inl, inr, ◌⊎◌, ⊎_elim}
use Rattle.std.specs.Prelude.{⊤, All, Option, None, Some, is_some, IsTrue, ◌≢◌, ◌||◌, ◌==◌}
use Rattle.std.specs.List.{list_all, range_with_len}
use Rattle.std.proofs.lemmas.List.{take-append-drop, take_all}
use Rattle.std.proofs.lemmas.List.Folds.{list_any-append}
use Rattle.std.proofs.lemmas.List.FromFn.{get_or-map-range_with_len, length-map-range_with_len}
use Rattle.std.proofs.Math.Seq.{take-add}
use Rattle.svsm_types.specs.declared.image.Image.{Image}
use Rattle.svsm_types.specs.declared.image.CoreLine.{CoreLine}
use Rattle.svsm_types.specs.declared.request.Request.{Request}
use Rattle.svsm_types.specs.declared.vcpu.Row.{Row}
use Rattle.svsm_steps.specs.declared.entry.Entry.{Entry}
use Rattle.svsm_steps.specs.declared.outcome.CoreRun.{CoreRun}
use Rattle.svsm_steps.specs.Made.{Made, made_by}
use Rattle.svsm_steps.specs.Announced.{Announced, exits_between}
use Rattle.svsm_calls.specs.Waves.{is_among, ready_cores, rows_behind, next_wave, has_refused, exits_of, AreWaves, AreOver}
use Rattle.svsm_calls.specs.Run.{IsCore, AreCores, script_of}
use Rattle.ap_start.specs.declared.exits.ApExit.{ApExit}
use Rattle.ap_start.specs.Exits.{IsLow, taken, refused_exit}
use Rattle.run_trees.specs.Tree.{ended}
use Rattle.run_trees.specs.Order.{IsOrdered}
use Rattle.run_trees.specs.Begun.{HasEntered, HasEnded, IsBegun, IsInWave, cores_behind, wave_behind, exits_behind}
use Rattle.run_trees.proofs.WaveTrees.{made_append, none_made, no_cores, started}
use Rattle.run_trees.proofs.FrontTrees.{among_right}
use Rattle.run_trees.proofs.WholeTrees.{whole_take}
use Rattle.run_trees.proofs.NextTrees.{none_have, new_made_none, wave_is_over}
use Rattle.run_order.specs.declared.order.Waves.{Waves}
use Rattle.run_order.specs.WaveReads.{IsRunOf}
use Rattle.run_order.specs.Told.{IsTold, told_between}
use Rattle.run_order.specs.Behind.{unstarted, put_all, CoreGives, CoresGave, AreRead, WavesStand, cores_next}
use Rattle.run_order.proofs.PutLemmas.{put_at, put_long, run_of}
use Rattle.run_order.proofs.ToldLemmas.{refused_so, told_none, none_low}
use Rattle.run_order.proofs.BehindLemmas.{none_taken, length_parts, length_taken, made_in}

-- THE NEXT WAVE

next_is : (image : Image) (scripts : List (List Request)) (entries : List Entry) (waves : Waves) (s : WavesStand image scripts entries waves)
    → cores_next image waves ≡ wave_behind image (take waves.behind entries) waves.ran.items s.read.told
next_is image scripts entries waves s =
    ap (λ (b : Bool). cores_behind b (ready_cores image waves.ran.items waves.registry.rows))
    (sym (refused_so image s.read.told waves.told.exits.items waves.told.refused s.read.is))
    ∙ ap (λ (rows : List Row). cores_behind (has_refused image s.read.told) (ready_cores image waves.ran.items rows)) s.read.registered

-- it begins behind the others
pub stands_begun : (image : Image) (scripts : List (List Request)) (entries : List Entry) (waves : Waves) (cores : List ℕ) (s : WavesStand image scripts entries waves)
    → cores ≡ cores_next image waves → IsBegun image scripts (take waves.behind entries) waves.ran.items s.read.told cores 0
stands_begun image scripts entries waves cores s is =
    subst (λ (l : List ℕ). IsBegun image scripts (take waves.behind entries) waves.ran.items s.read.told l 0)
    (sym (is ∙ next_is image scripts entries waves s)) s.read.begun

-- where a wave follows, the host refused nothing
taken_by : (b : Bool) (all cores : List ℕ) → cores ≡ cores_behind b all → cores ≢ [] → b ≡ false
taken_by true all cores is some = absurd (some is)
taken_by false all cores is some = refl

none_of : {X : Type 0} (o : Option X) → is_some o ≡ false → o ≡ None
none_of None h = refl
none_of (Some x) h = cc

pub none_refused : (image : Image) (waves : Waves) (cores : List ℕ) → cores ≡ cores_next image waves → cores ≢ [] → waves.told.refused ≡ None
none_refused image waves cores is some =
    none_of waves.told.refused (taken_by (is_some waves.told.refused) (ready_cores image waves.ran.items waves.registry.rows) cores is some)

-- ONE MORE WAVE

some_exits : (image : Image) (told : List Announced) (cores : List ℕ) (before wave : List Entry) → cores ≢ []
    → exits_behind image told cores before wave ≡ told ++ exits_of image before wave
some_exits image told [] before wave some = absurd (some refl)
some_exits image told (core ∷ cores) before wave some = refl

or_false : (b : Bool) → (b || false) ≡ b
or_false true = refl
or_false false = refl

still : (core : ℕ) (ran cores : List ℕ) → is_among core cores ≡ false → is_among core (ran ++ cores) ≡ is_among core ran
still core ran cores out =
    list_any-append (λ other. other == core) ran cores ∙ ap (λ (b : Bool). is_among core ran || b) out ∙ or_false (is_among core ran)

pub more_read : (image : Image) (scripts : List (List Request)) (entries : List Entry) (rows after : List Row) (ran : List ℕ) (runs : List CoreRun) (exits later : List ApExit)
    (refused said : Option (ℕ × ℕ)) (behind : ℕ) (is : AreRead image scripts entries rows ran runs exits refused behind) (cores : List ℕ) (count : ℕ) (gave : List CoreRun)
    → IsBegun image scripts (take behind entries) ran is.told cores 0 → cores ≢ [] → count ≤ length (drop behind entries)
    → IsInWave image scripts cores (length cores) (take count (drop behind entries)) → map (λ (run : CoreRun). run.core) gave ≡ cores
    → All (IsRunOf image scripts (take count (drop behind entries))) gave → after ≡ rows_behind image (take (behind + count) entries)
    → IsTold image (is.told ++ told_between image rows after) later said → All IsLow later
    → AreRead image scripts entries after (ran ++ cores) (put_all runs gave) later said (behind + count)
more_read image scripts entries rows after ran runs exits later refused said behind is cores count gave begun some less in_wave of_them each now told low =
    let before : List Entry = take behind entries in
    let wave : List Entry = take count (drop behind entries) in
    let all : take (behind + count) entries ≡ before ++ wave = take-add behind count entries in
    let news : List Announced = is.told ++ told_between image rows after in
    let ends : (core : ℕ) → is_among core cores ≡ true → HasEnded image scripts core (made_by core wave) =
    λ (core : ℕ) (among : is_among core cores ≡ true).
    let run = run_of (IsRunOf image scripts wave) gave core each (subst (λ (l : List ℕ). is_among core l ≡ true) (sym of_them) among) in
    record {
      outs = run.0.outcomes;
      end = run.0.end;
      entered = subst (λ (c : ℕ). HasEntered image scripts c (made_by c wave) (ended run.0.outcomes run.0.end)) run.1.1 run.1.0;
    } in
    let over = wave_is_over image scripts before ran is.told cores begun wave in_wave ends in
    let after_is : rows_behind image (before ++ wave) ≡ after = sym (now ∙ ap (rows_behind image) all) in
    let told_is : exits_behind image is.told cores before wave ≡ news =
    some_exits image is.told cores before wave some
    ∙ ap (λ (l : List Row). is.told ++ told_between image l (rows_behind image (before ++ wave))) (sym is.registered)
    ∙ ap (λ (l : List Row). is.told ++ told_between image rows l) after_is in
    let fit : length entries ≡ length before + length (drop behind entries) = length_parts behind entries in
    let parts : length before ≡ behind = length_taken behind entries is.within in
    let made : (core : ℕ) → made_by core (take (behind + count) entries) ≡ made_by core (before ++ wave) = λ core. ap (made_by core) all in
    let of_wave : IsTrue (list_all (λ (entry : Entry). is_among entry.core cores) wave) =
    subst (λ (l : List ℕ). IsTrue (list_all (λ (entry : Entry). is_among entry.core l) wave)) (whole_take cores) in_wave.of_cores in
    record {
      told = news;
      within = omega (arith, fit, parts, less);
      begun = subst (λ (l : List Entry). IsBegun image scripts l (ran ++ cores) news (wave_behind image l (ran ++ cores) news) 0) (sym all)
          (subst (λ (e : List Announced). IsBegun image scripts (before ++ wave) (ran ++ cores) e (wave_behind image (before ++ wave) (ran ++ cores) e) 0) told_is over);
      registered = now;
      gave = record {
        count = put_long runs gave ∙ is.gave.count;
        each = λ (core : ℕ) (below : core < length image.cores).
            let got : CoreRun = get_or (put_all runs gave) core (unstarted core) in
            ⊎_elim
            (λ (here : (is_among core (map (λ (run : CoreRun). run.core) gave) ≡ true) × (IsRunOf image scripts wave got × (got.core ≡ core))).
            let among : is_among core cores ≡ true = subst (λ (l : List ℕ). is_among core l ≡ true) of_them here.0 in
            subst (λ (b : Bool). CoreGives b image scripts core (made_by core (take (behind + count) entries)) got) (sym (among_right core ran cores among)) (
              here.1.1,
              subst (λ (m : List Made). HasEntered image scripts core m (ended got.outcomes got.end))
                  (sym (made core ∙ made_in image scripts before wave ran is.told cores begun core among))
                  (subst (λ (c : ℕ). HasEntered image scripts c (made_by c wave) (ended got.outcomes got.end)) here.1.1 here.1.0),
            ))
            (λ (there : (is_among core (map (λ (run : CoreRun). run.core) gave) ≡ false) × (got ≡ get_or runs core (unstarted core))).
            let out : is_among core cores ≡ false = subst (λ (l : List ℕ). is_among core l ≡ false) of_them there.0 in
            let same : made_by core (take (behind + count) entries) ≡ made_by core before =
            made core ∙ made_append core before wave
            ∙ ap (λ (m : List Made). made_by core before ++ m) (none_made core cores wave of_wave (λ (e : is_among core cores ≡ true). absurd (cc))) ∙ append-nil (made_by core before) in
            subst (λ (b : Bool). CoreGives b image scripts core (made_by core (take (behind + count) entries)) got) (sym (still core ran cores out))
            (subst (λ (m : List Made). CoreGives (is_among core ran) image scripts core m got) (sym same)
            (subst (CoreGives (is_among core ran) image scripts core (made_by core before)) (sym there.1) (is.gave.each core below))))
            (put_at (IsRunOf image scripts wave) runs gave core (unstarted core) each (subst (λ (n : ℕ). core < n) (sym is.gave.count) below));
      };
      is = told;
      low = low;
    }

-- THE BEGIN

pub none_read : (image : Image) (scripts : List (List Request)) (entries : List Entry) (rows : List Row) (runs : List CoreRun) → rows ≡ rows_behind image []
    → runs ≡ map unstarted (range_with_len 0 (length image.cores)) → AreRead image scripts entries rows [] runs [] None 0
none_read image scripts entries rows runs now is = record {
  told = [];
  within = omega arith;
  begun = subst (λ (l : List Entry). IsBegun image scripts l [] [] (wave_behind image l [] []) 0) (sym (none_taken entries)) (none_have image scripts);
  registered = now ∙ ap (rows_behind image) (sym (none_taken entries));
  gave = record {
    count = ap length is ∙ length-map-range_with_len unstarted 0 (length image.cores);
    each = λ (core : ℕ) (below : core < length image.cores).
        subst (λ (l : List CoreRun). CoreGives false image scripts core (made_by core (take 0 entries)) (get_or l core (unstarted core))) (sym is)
        (rw (get_or-map-range_with_len unstarted 0 (length image.cores) core core (unstarted core) below (omega arith)) (refl, refl, refl));
  };
  is = told_none image;
  low = none_low;
}

-- THE END

is_core : (image : Image) (scripts : List (List Request)) (core : ℕ) (made : List Made) (run : CoreRun) (b : Bool) → CoreGives b image scripts core made run
    → IsCore b image core (script_of scripts core) made run
is_core image scripts core made run true is = (is.0, started image scripts core made (record { outs = run.outcomes; end = run.end; entered = is.1 }))
is_core image scripts core made run false is = is

no_length : {X : Type 0} (x : X) (xs : List X) → length (x ∷ xs) ≡ 0 → ⊥
no_length x xs e = omega (arith, e)

are_cores : (image : Image) (scripts : List (List Request)) (entries : List Entry) (ran : List ℕ) (lines : List CoreLine) (runs : List CoreRun) (k : ℕ) → length runs ≡ length lines
    → ((c : ℕ) → c < length lines → IsCore (is_among (k + c) ran) image (k + c) (script_of scripts (k + c)) (made_by (k + c) entries) (get_or runs c (unstarted (k + c))))
    → AreCores image scripts entries ran k lines runs
are_cores image scripts entries ran [] [] k e f = tt
are_cores image scripts entries ran [] (run ∷ runs) k e f = absurd (no_length run runs e)
are_cores image scripts entries ran (line ∷ lines) [] k e f = absurd (no_length line lines (sym e))
are_cores image scripts entries ran (line ∷ lines) (run ∷ runs) k e f =
    let zero_is : k + 0 ≡ k = omega arith in (
      subst (λ (c : ℕ). IsCore (is_among c ran) image c (script_of scripts c) (made_by c entries) run) zero_is (f 0 (omega arith)),
      are_cores image scripts entries ran lines runs (k + 1) (omega (arith, e)) (λ (c : ℕ) (below : c < length lines).
          let shift : k + suc c ≡ (k + 1) + c = omega arith in
          subst (λ (n : ℕ). IsCore (is_among n ran) image n (script_of scripts n) (made_by n entries) (get_or runs c (unstarted n))) shift (f (suc c) (omega (arith, below)))),
    )

over_by : (b : Bool) (all : List ℕ) → cores_behind b all ≡ [] → AreOver b all
over_by true all is = tt
over_by false all is = is

pub whole_read : (image : Image) (scripts : List (List Request)) (entries : List Entry) (ran : List ℕ) (runs : List CoreRun) (told : List Announced) (behind : ℕ)
    → length entries ≤ behind → IsBegun image scripts (take behind entries) ran told [] 0 → CoresGave image scripts (take behind entries) ran runs
    → (is : IsOrdered image scripts entries runs) × (is.exits ≡ told)
whole_read image scripts entries ran runs told behind long begun gave =
    let all : take behind entries ≡ entries = take_all behind entries long in
    let none : begun.wave ≡ [] = no_cores begun.wave begun.of_cores in
    let before : begun.before ≡ entries =
    sym (append-nil begun.before) ∙ ap (λ (l : List Entry). begun.before ++ l) (sym none) ∙ sym begun.split ∙ all in
    let mine : CoresGave image scripts entries ran runs = subst (λ (l : List Entry). CoresGave image scripts l ran runs) all gave in (
      record {
        ran = ran;
        exits = told;
        waves = subst (λ (l : List Entry). AreWaves image l ran told) before begun.waves;
        over = over_by (has_refused image told) (next_wave image entries ran)
            (sym (subst (λ (l : List Entry). [] ≡ wave_behind image l ran told) before begun.next));
        each = are_cores image scripts entries ran image.cores runs 0 mine.count (λ (c : ℕ) (below : c < length image.cores).
            let e : c ≡ 0 + c = omega arith in
            subst (λ (n : ℕ). IsCore (is_among n ran) image n (script_of scripts n) (made_by n entries) (get_or runs c (unstarted n))) e
            (is_core image scripts c (made_by c entries) (get_or runs c (unstarted c)) (is_among c ran) (mine.each c below)));
      },
      refl,
    )
