-- One more wave.
use Rattle.std.proofs.Common.{get_or, ◌≡◌, ◌<◌, ℕ, suc, ◌+◌, Bool, true, false, List, [], ◌∷◌, ◌++◌, length, refl, sym, ◌∙◌, ap, subst, append_assoc, append-nil, arith}
use Rattle.std.proofs.lemmas.List.{length-map}
use Rattle.std.proofs.lemmas.List.Folds.{list_any-append}
use Rattle.std.proofs.lemmas.List.FromFn.{get_or-map-range_with_len, length-map-range_with_len}
use Rattle.std.proofs.lemmas.Bool.Decides.{nat_tests}
use Rattle.std.specs.Prelude.{IsTrue, map, not, ◌==◌, ◌&&◌, ◌||◌, ◌≢◌, Option, None, Some, is_some, cond}
use Rattle.std.specs.List.{list_all, list_any, range_with_len}
use Rattle.svsm_types.specs.declared.image.Image.{Image}
use Rattle.svsm_types.specs.declared.image.CoreLine.{CoreLine}
use Rattle.svsm_types.specs.declared.request.Request.{Request}
use Rattle.svsm_types.specs.declared.vcpu.Row.{Row}
use Rattle.svsm_types.specs.declared.vcpu.RowState.TheVariants.{Ready}
use Rattle.svsm_steps.specs.declared.entry.Entry.{Entry}
use Rattle.svsm_steps.specs.declared.call.Caller.{Caller}
use Rattle.svsm_steps.specs.declared.outcome.CoreRun.{CoreRun}
use Rattle.svsm_steps.specs.Registry.{of_apic_in}
use Rattle.svsm_steps.specs.Partition.{of_core}
use Rattle.svsm_steps.specs.Made.{Made, made_of, made_by}
use Rattle.svsm_calls.specs.Waves.{is_among, apic_of, numbers_of, next_wave, ready_cores, exits_of, has_refused, IsWave, AreWaves, AreOver, none, one_more}
use Rattle.svsm_calls.specs.Run.{IsCore, script_of, AreCores, IsRun}
use Rattle.svsm_steps.specs.Announced.{Announced, exits_between}
use Rattle.ap_start.specs.declared.exits.ApExit.{ApExit}
use Rattle.ap_start.specs.Exits.{taken, refused_exit}
use Rattle.svsm_waves.specs.Told.{told_between, IsTold, IsToldRun}
use Rattle.svsm_waves.proofs.ToldLemmas.{refused_so}
use Rattle.svsm_waves.specs.Trace.{Each, IsRecorded, rows_now}
use Rattle.svsm_waves.specs.Moved.{both_left, both_right, both_true}
use Rattle.svsm_waves.specs.Wave.{Rises, Waits, AreEntered, AddedBy, Gave, Waved, cores_of, unstarted, left}
use Rattle.svsm_waves.proofs.MadeLemmas.{made_append, among_append}
use Rattle.svsm_waves.proofs.RunLemmas.{is_itself}
use Rattle.svsm_waves.proofs.ListLemmas.{each_filter, rises_filter, rises_range, below_range, fewer}

not_true : (b : Bool) → not b ≡ true → b ≡ false
not_true true h = cc
not_true false h = refl

or_first : (a b : Bool) → a ≡ true → (a || b) ≡ true
or_first true b h = refl
or_first false b h = cc

or_second : (a b : Bool) → b ≡ true → (a || b) ≡ true
or_second true b h = refl
or_second false b h = h

or_no_first : (a b : Bool) → (a || b) ≡ false → a ≡ false
or_no_first true b h = cc
or_no_first false b h = refl

or_no_second : (a b : Bool) → (a || b) ≡ false → b ≡ false
or_no_second true b h = cc
or_no_second false b h = h

cons_not_nil : {X : Type 0} (x : X) (xs : List X) → length (x ∷ xs) ≡ 0 → ⊥
cons_not_nil x xs e = omega arith

same_number : (m n : ℕ) → (m == n) ≡ true → m ≡ n
same_number m n e = grind (arith, nat_tests)

still_out : (c : ℕ) (ran cores : List ℕ) (b : Bool) → is_among c ran ≡ b → not (is_among c (ran ++ cores)) ≡ true → not b ≡ true
still_out c ran cores true e h = let k : is_among c (ran ++ cores) ≡ true = list_any-append (λ other. other == c) ran cores ∙ or_first (is_among c ran) _ e in let m : not (is_among c (ran ++ cores)) ≡ false = ap not k in cc
still_out c ran cores false e h = refl

apart_too : (other core : ℕ) (ran : List ℕ) (b : Bool) → (other == core) ≡ b → is_among other ran ≡ false → is_among core ran ≡ true → b ≡ false
apart_too other core ran true e h k =
    let same : other ≡ core = same_number other core e in
    let m : is_among core ran ≡ false = subst (λ (c : ℕ). is_among c ran ≡ false) same h in cc
apart_too other core ran false e h k = refl

numbers_below : (image : Image) → Each (λ core. core < length image.cores) (numbers_of image)
numbers_below image = below_range 0 _ (length image.cores) (let e = length-map image.cores (λ (line : CoreLine). line.apic) in omega arith)

-- a core that is none of those that ran has no entries
apart_from : (mine core : ℕ) (ran : List ℕ) (b : Bool) → (mine == core) ≡ b → is_among mine ran ≡ true → is_among core ran ≡ false → b ≡ false
apart_from mine core ran true e h k =
    let same : mine ≡ core = same_number mine core e in
    let m : is_among core ran ≡ true = subst (λ (c : ℕ). is_among c ran ≡ true) same h in cc
apart_from mine core ran false e h k = refl

none_yet : (core : ℕ) (ran : List ℕ) (entries : List Entry) → IsTrue (list_all (λ (entry : Entry). is_among entry.core ran) entries) → is_among core ran ≡ false → of_core core entries ≡ []
none_yet core ran [] own out = refl
none_yet core ran (entry ∷ entries) own out =
    rw (apart_from entry.core core ran (entry.core == core) refl (both_left (is_among entry.core ran) _ own) out) (none_yet core ran entries (both_right (is_among entry.core ran) _ own) out)

-- THE NEXT WAVE

pub waits_next : (image : Image) (scripts : List (List Request)) (trace : List Entry) (ran : List ℕ) (runs : List CoreRun) (told : List Announced) (cores : List ℕ) → Waved image scripts trace ran runs told → cores ≡ ready_cores image ran (rows_now image trace)
    → Each (Waits image trace) cores
waits_next image scripts trace ran runs told cores waved is = rw is (each_filter (λ core. not (is_among core ran) && list_any (of_apic_in Ready (apic_of image core)) (rows_now image trace)) (Waits image trace) (λ core. core < length image.cores) (numbers_of image)
    (λ (core : ℕ) (below : core < length image.cores) (passes : (not (is_among core ran) && list_any (of_apic_in Ready (apic_of image core)) (rows_now image trace)) ≡ true).
    record {
      within = below;
      ready = both_right (not (is_among core ran)) _ passes;
      none_made = ap (map made_of) (none_yet core ran trace waved.own (not_true (is_among core ran) (both_left (not (is_among core ran)) _ passes)));
    }) (numbers_below image))

pub rises_next : (image : Image) (ran : List ℕ) (rows : List Row) (cores : List ℕ) → cores ≡ ready_cores image ran rows → Rises cores
rises_next image ran rows cores is = rw is (rises_filter _ (numbers_of image) (rises_range 0 _))

new_cores : (image : Image) (ran : List ℕ) (rows : List Row) (cores : List ℕ) → cores ≡ ready_cores image ran rows → Each (λ core. is_among core ran ≡ false) cores
new_cores image ran rows cores is = rw is (each_filter (λ core. not (is_among core ran) && list_any (of_apic_in Ready (apic_of image core)) rows) (λ core. is_among core ran ≡ false) (λ core. core < length image.cores) (numbers_of image)
    (λ (core : ℕ) (below : core < length image.cores) (passes : (not (is_among core ran) && list_any (of_apic_in Ready (apic_of image core)) rows) ≡ true). not_true (is_among core ran) (both_left (not (is_among core ran)) _ passes)) (numbers_below image))

-- THE MEASURE

pub fewer_left : (image : Image) (ran : List ℕ) (rows : List Row) (cores : List ℕ) → cores ≡ ready_cores image ran rows → cores ≢ [] → left image (ran ++ cores) < left image ran
fewer_left image ran rows [] is some = absurd (some refl)
fewer_left image ran rows (core ∷ cores) is some =
    fewer (λ core. not (is_among core ran) && list_any (of_apic_in Ready (apic_of image core)) rows) (λ c. not (is_among c ran)) (λ c. not (is_among c (ran ++ core ∷ cores))) (numbers_of image) core cores
    (λ (c : ℕ) (h : not (is_among c (ran ++ core ∷ cores)) ≡ true). still_out c ran (core ∷ cores) (is_among c ran) refl h) (sym is)
    (ap not (new_cores image ran rows (core ∷ cores) is).0) (ap not (list_any-append (λ other. other == core) ran (core ∷ cores) ∙ or_second (is_among core ran) _ (or_first (core == core) _ (is_itself core))))

-- ITS ENTRIES

among_left : (core : ℕ) (ran cores : List ℕ) → is_among core ran ≡ true → is_among core (ran ++ cores) ≡ true
among_left core ran cores h = list_any-append (λ other. other == core) ran cores ∙ or_first (is_among core ran) _ h

among_right : (core : ℕ) (ran cores : List ℕ) → is_among core cores ≡ true → is_among core (ran ++ cores) ≡ true
among_right core ran cores h = list_any-append (λ other. other == core) ran cores ∙ or_second (is_among core ran) _ h

all_weaken : (xs ys : List ℕ) (entries : List Entry) → ((core : ℕ) → is_among core xs ≡ true → is_among core ys ≡ true) → IsTrue (list_all (λ (entry : Entry). is_among entry.core xs) entries)
    → IsTrue (list_all (λ (entry : Entry). is_among entry.core ys) entries)
all_weaken xs ys [] f h = refl
all_weaken xs ys (entry ∷ entries) f h = both_true (is_among entry.core ys) _ (f entry.core (both_left (is_among entry.core xs) _ h)) (all_weaken xs ys entries f (both_right (is_among entry.core xs) _ h))

all_within : (cores : List ℕ) (entries : List Entry) → ((core : ℕ) → is_among core (map (λ (entry : Entry). entry.core) entries) ≡ true → is_among core cores ≡ true)
    → IsTrue (list_all (λ (entry : Entry). is_among entry.core cores) entries)
all_within cores [] f = refl
all_within cores (entry ∷ entries) f = both_true (is_among entry.core cores) _ (f entry.core (or_first (entry.core == entry.core) _ (is_itself entry.core)))
    (all_within cores entries (λ core h. f core (or_second (entry.core == core) _ h)))

not_in : (core : ℕ) (ran cores : List ℕ) → Each (λ other. is_among other ran ≡ false) cores → is_among core ran ≡ true → is_among core cores ≡ false
not_in core ran [] h k = refl
not_in core ran (other ∷ cores) h k = rw (apart_too other core ran (other == core) refl h.0 k) (not_in core ran cores h.1 k)

none_in : (core : ℕ) (entries : List Entry) → is_among core (map (λ (entry : Entry). entry.core) entries) ≡ false → of_core core entries ≡ []
none_in core [] h = refl
none_in core (entry ∷ entries) h = rw (or_no_first (entry.core == core) _ h) (none_in core entries (or_no_second (entry.core == core) _ h))

gave_keep : (image : Image) (core : ℕ) (script : List Request) (made then : List Made) (run : CoreRun) (b : Bool) → (b ≡ true → then ≡ made) → IsCore b image core script made run → IsCore b image core script then run
gave_keep image core script made then run true f h = subst (λ (m : List Made). IsCore true image core script m run) (sym (f refl)) h
gave_keep image core script made then run false f h = h

gave_entered : (image : Image) (scripts : List (List Request)) (old new first : List Entry) (ran cores : List ℕ) (runs : List CoreRun) → Gave image scripts old ran runs → new ≡ old ++ first
    → map (λ (entry : Entry). entry.core) first ≡ cores → Each (λ other. is_among other ran ≡ false) cores → Gave image scripts new ran runs
gave_entered image scripts old new first ran cores runs gave added in_order apart = record {
  count = gave.count;
  each = λ (core : ℕ) (below : core < length image.cores). gave_keep image core (script_of scripts core) (made_by core old) (made_by core new) (get_or runs core (unstarted core)) (is_among core ran)
      (λ e. ap (made_by core) added ∙ (made_append core old first ∙ (ap (λ (es : List Entry). made_by core old ++ map made_of es) (none_in core first (ap (is_among core) in_order ∙ not_in core ran cores apart e)) ∙ append-nil (made_by core old))))
      (gave.each core below);
}

-- the exits behind it, by the rows before it and after it
same_exits : (image : Image) (trace wave new : List Entry) (before after : List Row) → new ≡ trace ++ wave → (image.announce ≡ true → before ≡ rows_now image trace)
    → after ≡ rows_now image new → exits_of image trace wave ≡ told_between image before after
same_exits image trace wave new before after whole kept now = by image.announce refl
  where
    by : (b : Bool) → image.announce ≡ b
        → cond b (exits_between (rows_now image trace) (rows_now image (trace ++ wave))) [] ≡ cond b (exits_between before after) []
    by true loud = rw (kept loud, now, whole) refl
    by false quiet = refl

pub wave_more : (image : Image) (scripts : List (List Request)) (trace mid new : List Entry) (ran cores : List ℕ) (runs later : List CoreRun) (callers : List Caller)
    (told : List Announced) (before after : List Row) → Waved image scripts trace ran runs told
    → has_refused image told ≡ false → cores ≡ ready_cores image ran (rows_now image trace) → cores ≢ [] → AreEntered image cores trace mid callers → AddedBy (cores_of callers) mid new
    → ((them : List ℕ) → Gave image scripts mid them runs → Gave image scripts new (them ++ cores_of callers) later)
    → (image.announce ≡ true → before ≡ rows_now image trace) → after ≡ rows_now image new
    → Waved image scripts new (ran ++ cores) later (told ++ told_between image before after)
wave_more image scripts trace mid new ran cores runs later callers told before after waved taken next some entered added gave kept now =
    let apart = new_cores image ran (rows_now image trace) cores next in
    let wave : List Entry = entered.first ++ added.others in
    let whole : new ≡ trace ++ wave = rw (added.added, entered.added) (simp append_assoc) in
    let of_first : IsTrue (list_all (λ (entry : Entry). is_among entry.core cores) entered.first) = all_within cores entered.first (λ core h. subst (λ (l : List ℕ). is_among core l ≡ true) entered.in_order h) in
    let of_others : IsTrue (list_all (λ (entry : Entry). is_among entry.core cores) added.others) = subst (λ (l : List ℕ). IsTrue (list_all (λ (entry : Entry). is_among entry.core l) added.others)) entered.callers_are added.own in
    let of_wave : IsTrue (list_all (λ (entry : Entry). is_among entry.core cores) wave) = among_append cores entered.first added.others of_first of_others in
    let is_wave : IsWave image cores wave = record { first = entered.first; others = added.others; begin = refl; in_order = entered.in_order; enter_steps = entered.steps; of_cores = of_wave } in
    record {
      waves = subst (λ (l : List Announced). AreWaves image new (ran ++ cores) (told ++ l)) (same_exits image trace wave new before after whole kept now)
          (subst (λ (l : List Entry). AreWaves image l (ran ++ cores) (told ++ exits_of image trace wave)) (sym whole)
          (one_more trace ran cores wave told waved.waves taken next some is_wave));
      gave = subst (λ (l : List ℕ). Gave image scripts new (ran ++ l) later) entered.callers_are (gave ran (gave_entered image scripts trace mid entered.first ran cores runs waved.gave entered.added entered.in_order apart));
      own = rw whole (among_append (ran ++ cores) trace wave (all_weaken ran (ran ++ cores) trace (λ core h. among_left core ran cores h) waved.own)
          (all_weaken cores (ran ++ cores) wave (λ core h. among_right core ran cores h) of_wave));
    }

-- THE BEGIN AND THE END

pub waved_none : (image : Image) (scripts : List (List Request)) (trace : List Entry) (runs : List CoreRun) → trace ≡ [] → runs ≡ map unstarted (range_with_len 0 (length image.cores)) → Waved image scripts trace [] runs []
waved_none image scripts trace runs fresh is = rw (fresh, is) (record {
  waves = none;
  gave = record {
    count = length-map-range_with_len unstarted 0 (length image.cores);
    each = λ (core : ℕ) (below : core < length image.cores). rw (get_or-map-range_with_len unstarted 0 (length image.cores) core core (unstarted core) below (omega arith)) (refl, refl, refl);
  };
  own = refl;
})

are_cores : (image : Image) (scripts : List (List Request)) (trace : List Entry) (ran : List ℕ) (lines : List CoreLine) (runs : List CoreRun) (k : ℕ) → length runs ≡ length lines
    → ((c : ℕ) → c < length lines → IsCore (is_among (k + c) ran) image (k + c) (script_of scripts (k + c)) (made_by (k + c) trace) (get_or runs c (unstarted (k + c))))
    → AreCores image scripts trace ran k lines runs
are_cores image scripts trace ran [] [] k e f = tt
are_cores image scripts trace ran [] (run ∷ runs) k e f = absurd (cons_not_nil run runs e)
are_cores image scripts trace ran (line ∷ lines) [] k e f = absurd (cons_not_nil line lines (sym e))
are_cores image scripts trace ran (line ∷ lines) (run ∷ runs) k e f =
    let zero_is : k + 0 ≡ k = omega arith in (
      subst (λ (c : ℕ). IsCore (is_among c ran) image c (script_of scripts c) (made_by c trace) run) zero_is (f 0 (omega arith)),
      are_cores image scripts trace ran lines runs (k + 1) (omega arith) (λ (c : ℕ) (below : c < length lines).
          let shift : k + suc c ≡ (k + 1) + c = omega arith in
          subst (λ (n : ℕ). IsCore (is_among n ran) image n (script_of scripts n) (made_by n trace) (get_or runs c (unstarted n))) shift (f (suc c) (omega arith))),
    )

-- the waves are over
whole_by : (image : Image) (scripts : List (List Request)) (trace : List Entry) (ran : List ℕ) (runs : List CoreRun) (told : List Announced) → IsRecorded image trace
    → Waved image scripts trace ran runs told → AreOver (has_refused image told) (next_wave image trace ran)
    → (is : IsRun image scripts trace runs) × (is.exits ≡ told)
whole_by image scripts trace ran runs told recorded waved over = (
  record {
    ran = ran;
    exits = told;
    legal = recorded.legal;
    faults = recorded.faults;
    waves = waved.waves;
    over = over;
    each = are_cores image scripts trace ran image.cores runs 0 waved.gave.count (λ (c : ℕ) (below : c < length image.cores).
        let e : c ≡ 0 + c = omega arith in
        subst (λ (n : ℕ). IsCore (is_among n ran) image n (script_of scripts n) (made_by n trace) (get_or runs c (unstarted n))) e (waved.gave.each c below));
  },
  refl,
)

told_by : (image : Image) (scripts : List (List Request)) (trace : List Entry) (runs : List CoreRun) (told : List Announced) (exits : List ApExit) (said : Option (ℕ × ℕ))
    → (is : IsRun image scripts trace runs) × (is.exits ≡ told) → IsTold image told exits said → IsToldRun image scripts trace runs exits said
told_by image scripts trace runs told exits said run is = (
  run.0,
  subst (λ (l : List Announced). exits ≡ taken image l) (sym run.1) is.took,
  subst (λ (l : List Announced). said ≡ refused_exit image l) (sym run.1) is.said,
)

over_empty : (b : Bool) (cores : List ℕ) → b ≡ false → cores ≡ [] → AreOver b cores
over_empty true cores took empty = cc
over_empty false cores took empty = empty

over_refused : (b : Bool) (cores : List ℕ) → b ≡ true → AreOver b cores
over_refused true cores some = tt
over_refused false cores some = cc

-- since the next one would be empty
pub waved_whole : (image : Image) (scripts : List (List Request)) (trace : List Entry) (ran : List ℕ) (runs : List CoreRun) (told : List Announced) (exits : List ApExit)
    (cores : List ℕ) → IsRecorded image trace → Waved image scripts trace ran runs told → IsTold image told exits None
    → cores ≡ ready_cores image ran (rows_now image trace) → cores ≡ [] → IsToldRun image scripts trace runs exits None
waved_whole image scripts trace ran runs told exits cores recorded waved is next over =
    told_by image scripts trace runs told exits None
    (whole_by image scripts trace ran runs told recorded waved
    (over_empty (has_refused image told) (next_wave image trace ran) (refused_so image told exits None is) (sym next ∙ over))) is

-- or since the host refused an exit
pub waved_refused : (image : Image) (scripts : List (List Request)) (trace : List Entry) (ran : List ℕ) (runs : List CoreRun) (told : List Announced) (exits : List ApExit)
    (said : Option (ℕ × ℕ)) → IsRecorded image trace → Waved image scripts trace ran runs told → IsTold image told exits said → is_some said ≡ true
    → IsToldRun image scripts trace runs exits said
waved_refused image scripts trace ran runs told exits said recorded waved is some =
    told_by image scripts trace runs told exits said
    (whole_by image scripts trace ran runs told recorded waved
    (over_refused (has_refused image told) (next_wave image trace ran) (refused_so image told exits said is ∙ some))) is
