-- One entry more.
use Rattle.std.proofs.Common.{◌≡◌, ◌<◌, ⊎_elim, ℕ, zero, suc, ◌+◌, Bool, true, false, List, [], ◌∷◌, ◌++◌, length, take, drop, get_or, map, refl, sym, ◌∙◌, ap, subst, arith, append_assoc}
use Rattle.std.specs.Prelude.{◌&&◌, ◌||◌, ◌==◌}
use Rattle.std.proofs.lemmas.Bool.{cases_Bool}
use Rattle.std.proofs.lemmas.List.{append-nil, map-append}
use Rattle.std.proofs.Math.Seq.{take-suc}
use Rattle.svsm_types.specs.declared.address.Page.{Page}
use Rattle.svsm_types.specs.declared.address.Gpa.{Gpa}
use Rattle.svsm_types.specs.declared.image.Image.{Image}
use Rattle.svsm_types.specs.declared.request.Request.{Request}
use Rattle.svsm_steps.specs.declared.step.Step.{Step}
use Rattle.svsm_steps.specs.declared.answer.Answer.{Answer}
use Rattle.svsm_steps.specs.declared.answer.Answer.TheVariants.{Seen}
use Rattle.svsm_steps.specs.declared.entry.Entry.{Entry}
use Rattle.svsm_steps.specs.Made.{Made, made_of, made_by}
use Rattle.svsm_calls.specs.Waves.{is_among, enters}
use Rattle.svsm_calls.specs.Run.{caller_of, script_of}
use Rattle.run_trees.specs.Tree.{tree_after, Follows}
use Rattle.run_trees.specs.Laws.{script_tree}
use Rattle.run_trees.specs.Begun.{wave_behind, HasEntered, IsUnderWay, IsBegun, EnterGoesOn, EntryGoesOn}
use Rattle.run_trees.proofs.WaveTrees.{made_append, none_made, fresh_behind, same, either, either_list}
use Rattle.run_trees.proofs.Rising.{Rises, in_drop, apart_at}
use Rattle.run_trees.proofs.FrontTrees.{mine, others', none_of_waves, among_left, among_right}
use Rattle.run_trees.proofs.WholeTrees.{grow, further, none_before, whole_take, self, all_on, all_wider, rising_behind}

pub one_own : (entry : Entry) → made_by entry.core (entry ∷ []) ≡ made_of entry ∷ []
one_own entry = mine entry.core entry [] (self entry.core)

one_other : (entry : Entry) (core : ℕ) → (entry.core == core) ≡ false → made_by core (entry ∷ []) ≡ []
one_other entry core apart = others' core entry [] apart

-- a core of a wave, all of whose cores have entered, makes the step that it asks for
pub entry_goes_on : EntryGoesOn
entry_goes_on image scripts entries ran exits cores begun entry tree among at asks can =
    let under : IsUnderWay image scripts entry.core (made_by entry.core begun.wave) =
    record { tree = tree; entered = subst (λ (m : List Made). HasEntered image scripts entry.core m tree) (none_before image scripts entries ran exits cores (length cores) entry.core begun among) at } in
    let step : Follows tree (made_of entry ∷ []) (tree_after tree entry.ticket entry.answer) = (asks, refl) in
    let on : HasEntered image scripts entry.core (made_by entry.core begun.wave ++ made_of entry ∷ []) (tree_after tree entry.ticket entry.answer) =
    further image scripts entry.core (made_by entry.core begun.wave) (made_of entry ∷ []) under (tree_after tree entry.ticket entry.answer) (can, tt) step in (
      grow image scripts entries ran exits cores (entry ∷ []) begun (ap (λ (b : Bool). b && true) among)
          (λ core is. ⊎_elim
          (λ (e : (entry.core == core) ≡ true). subst (λ (c : ℕ). IsUnderWay image scripts c (made_by c begun.wave ++ made_by c (entry ∷ []))) (same entry.core core e)
          (subst (λ (m : List Made). IsUnderWay image scripts entry.core (made_by entry.core begun.wave ++ m)) (sym (one_own entry)) (record { tree = tree_after tree entry.ticket entry.answer; entered = on })))
          (λ (e : (entry.core == core) ≡ false). subst (λ (m : List Made). IsUnderWay image scripts core m)
          (sym (ap (λ (l : List Made). made_by core begun.wave ++ l) (one_other entry core e) ∙ append-nil (made_by core begun.wave)))
          (begun.each core (subst (λ (l : List ℕ). is_among core l ≡ true) (sym (whole_take cores)) is)))
          (cases_Bool (entry.core == core))),
      subst (λ (m : List Made). HasEntered image scripts entry.core m (tree_after tree entry.ticket entry.answer))
          (sym (made_append entry.core entries (entry ∷ []) ∙ ap (λ (l : List Made). l ++ made_by entry.core (entry ∷ [])) (none_before image scripts entries ran exits cores (length cores) entry.core begun among)
          ∙ ap (λ (l : List Made). made_by entry.core begun.wave ++ l) (one_own entry))) on,
    )

-- the core at a place stands behind that place
pub at_drop : (cores : List ℕ) (n d : ℕ) → n < length cores → is_among (get_or cores n d) (drop n cores) ≡ true
at_drop [] n d low = absurd (omega (arith, low))
at_drop (x ∷ cores) zero d low = ap (λ (b : Bool). b || is_among x cores) (self x)
at_drop (x ∷ cores) (suc n) d low = at_drop cores n d (omega (arith, low))

in_one : (core x : ℕ) → is_among core (x ∷ []) ≡ true → x ≡ core
in_one core x is = ⊎_elim (λ (e : (x == core) ≡ true). same x core e) (λ (e : is_among core [] ≡ true). absurd (cc)) (either (x == core) (is_among core []) is)

entered_first : (image : Image) (scripts : List (List Request)) (entry : Entry) (page : Page) (caa : Gpa) → entry.step ≡ enters image entry.core → entry.answer ≡ Seen page caa
    → HasEntered image scripts entry.core (made_of entry ∷ []) (script_tree image.host (caller_of image entry.core caa) (script_of scripts entry.core))
entered_first image scripts entry page caa step answer = record {
  ticket = entry.ticket;
  page = page;
  caa = caa;
  rest = [];
  begins = ap (λ (s : Step). record { ticket = entry.ticket; step = s; answer = entry.answer } ∷ []) step
      ∙ ap (λ (a : Answer). record { ticket = entry.ticket; step = enters image entry.core; answer = a } ∷ []) answer;
  answers = tt;
  follows = refl;
}

-- the next core enters
pub enter_goes_on : EnterGoesOn
enter_goes_on image scripts entries ran exits cores entered begun low entry page caa at step answer =
    let core : Entry → ℕ = λ e. e.core in
    let steps : Entry → Step = λ e. e.step in
    let fill = entry ∷ [] in
    let none : begun.others ≡ [] = begun.waiting low in
    let wave_is : begun.wave ≡ begun.first = begun.begin ∙ ap (λ (l : List Entry). begun.first ++ l) none ∙ append-nil begun.first in
    let plus : entered + 1 ≡ suc entered = omega arith in
    let parts : take (entered + 1) cores ≡ take entered cores ++ entry.core ∷ [] =
    ap (λ (n : ℕ). take n cores) plus ∙ take-suc cores entered entry.core low ∙ ap (λ (c : ℕ). take entered cores ++ c ∷ []) (sym at) in
    let rises : Rises 0 cores = subst (λ (l : List ℕ). Rises 0 l) (sym begun.next) (rising_behind image begun.before ran exits) in
    let behind : is_among entry.core (drop entered cores) ≡ true = subst (λ (c : ℕ). is_among c (drop entered cores) ≡ true) (sym at) (at_drop cores entered entry.core low) in
    let apart : is_among entry.core (take entered cores) ≡ true → ⊥ = λ f. apart_at 0 entry.core entered cores rises f behind in
    let here : is_among entry.core (take entered cores ++ entry.core ∷ []) ≡ true =
    among_right entry.core (take entered cores) (entry.core ∷ []) (ap (λ (b : Bool). b || false) (self entry.core)) in
    let among : is_among entry.core (take (entered + 1) cores) ≡ true = subst (λ (l : List ℕ). is_among entry.core l ≡ true) (sym parts) here in
    let first : HasEntered image scripts entry.core (made_of entry ∷ []) (script_tree image.host (caller_of image entry.core caa) (script_of scripts entry.core)) =
    entered_first image scripts entry page caa step answer in
    let wave_none : made_by entry.core begun.wave ≡ [] = none_made entry.core (take entered cores) begun.wave begun.of_cores apart in
    let own : made_by entry.core (begun.wave ++ fill) ≡ made_of entry ∷ [] =
    made_append entry.core begun.wave fill ∙ ap (λ (l : List Made). l ++ made_by entry.core fill) wave_none ∙ one_own entry in
    let on : IsBegun image scripts (entries ++ fill) ran exits cores (entered + 1) = record {
      before = begun.before;
      wave = begun.wave ++ fill;
      first = begun.first ++ fill;
      others = [];
      split = ap (λ (l : List Entry). l ++ fill) begun.split ∙ append_assoc begun.before begun.wave fill;
      waves = begun.waves;
      whole = begun.whole;
      next = begun.next;
      begin = ap (λ (l : List Entry). l ++ fill) wave_is ∙ sym (append-nil (begun.first ++ fill));
      in_order = map-append core begun.first fill ∙ ap (λ (l : List ℕ). l ++ entry.core ∷ []) begun.in_order ∙ sym parts;
      enter_steps = map-append steps begun.first fill ∙ ap (λ (l : List Step). l ++ entry.step ∷ []) begun.enter_steps
          ∙ ap (λ (s : Step). map (enters image) (take entered cores) ++ s ∷ []) step
          ∙ sym (map-append (enters image) (take entered cores) (entry.core ∷ [])) ∙ ap (map (enters image)) (sym parts);
      within = omega (arith, low);
      waiting = λ _. refl;
      of_cores = all_on (λ (e : Entry). is_among e.core (take (entered + 1) cores)) begun.wave fill
          (all_wider (take entered cores) (take (entered + 1) cores) begun.wave
          (λ c is. subst (λ (l : List ℕ). is_among c l ≡ true) (sym parts) (among_left c (take entered cores) (entry.core ∷ []) is)) begun.of_cores)
          (ap (λ (b : Bool). b && true) among);
      each = λ c is.
          let all : is_among c (take entered cores ++ entry.core ∷ []) ≡ true = subst (λ (l : List ℕ). is_among c l ≡ true) parts is in
          ⊎_elim
          (λ (f : is_among c (take entered cores) ≡ true).
          let other : (entry.core == c) ≡ false = ⊎_elim
          (λ (e : (entry.core == c) ≡ true). absurd (apart (subst (λ (n : ℕ). is_among n (take entered cores) ≡ true) (sym (same entry.core c e)) f)))
          (λ (e : (entry.core == c) ≡ false). e) (cases_Bool (entry.core == c)) in
          subst (λ (m : List Made). IsUnderWay image scripts c m)
          (sym (made_append c begun.wave fill ∙ ap (λ (l : List Made). made_by c begun.wave ++ l) (one_other entry c other) ∙ append-nil (made_by c begun.wave)))
          (begun.each c f))
          (λ (f : is_among c (entry.core ∷ []) ≡ true).
          subst (λ (n : ℕ). IsUnderWay image scripts n (made_by n (begun.wave ++ fill))) (in_one c entry.core f)
          (subst (λ (m : List Made). IsUnderWay image scripts entry.core m) (sym own)
          (record { tree = script_tree image.host (caller_of image entry.core caa) (script_of scripts entry.core); entered = first })))
          (either_list c (take entered cores) (entry.core ∷ []) all);
    } in
    let fresh_here : is_among entry.core (wave_behind image begun.before ran exits) ≡ true = subst (λ (l : List ℕ). is_among entry.core l ≡ true) begun.next (in_drop entry.core entered cores behind) in
    let none_old : made_by entry.core begun.before ≡ [] =
    none_of_waves image begun.before ran exits entry.core begun.waves (λ old. fresh_behind image begun.before ran exits entry.core fresh_here old) in
    let all_own : made_by entry.core (entries ++ fill) ≡ made_of entry ∷ [] =
    ap (made_by entry.core) on.split ∙ made_append entry.core begun.before (begun.wave ++ fill) ∙ ap (λ (l : List Made). l ++ made_by entry.core (begun.wave ++ fill)) none_old ∙ own in
    (on, subst (λ (m : List Made). HasEntered image scripts entry.core m (script_tree image.host (caller_of image entry.core caa) (script_of scripts entry.core))) (sym all_own) first)
