-- What has begun so can go on to a whole list.
use Rattle.std.proofs.Common.{◌≡◌, ℕ, zero, suc, ◌+◌, ◌<◌, ◌≤◌, Bool, true, false, List, [], ◌∷◌, ◌++◌, nat_lt, length, take, drop, refl, sym, ◌∙◌, ap, arith, subst, inl, inr, ◌⊎◌, ⊎_elim, map, append_assoc}
use Rattle.std.specs.Prelude.{IsTrue, ◌&&◌, ◌||◌, ◌==◌, not, filter}
use Rattle.std.specs.List.{list_all, list_any}
use Rattle.std.proofs.lemmas.Bool.{cases_Bool}
use Rattle.std.proofs.lemmas.Bool.Decides.{nat_tests}
use Rattle.std.proofs.lemmas.List.{append-nil, map-append, take_all, take-append-drop}
use Rattle.svsm_types.specs.declared.image.Image.{Image}
use Rattle.svsm_types.specs.declared.request.Request.{Request}
use Rattle.svsm_types.specs.declared.vcpu.RowState.TheVariants.{Ready}
use Rattle.svsm_steps.specs.declared.answer.Answer.TheVariants.{Seen}
use Rattle.svsm_steps.specs.declared.entry.Entry.{Entry}
use Rattle.svsm_steps.specs.Made.{Made, made_of, made_by}
use Rattle.svsm_steps.specs.Machine.{state_after}
use Rattle.svsm_steps.specs.Image.{constants_of, booted}
use Rattle.svsm_steps.specs.Registry.{of_apic_in}
use Rattle.svsm_steps.specs.Announced.{Announced}
use Rattle.svsm_calls.specs.Waves.{is_among, apic_of, numbers_of, next_wave, enters, has_refused, IsWave, AreWaves}
use Rattle.svsm_calls.specs.Run.{caller_of, script_of}
use Rattle.run_trees.specs.Tree.{Tree, ended, Follows}
use Rattle.run_trees.specs.Laws.{AreAnswers, script_tree}
use Rattle.run_trees.specs.Order.{IsOrdered, IsFront}
use Rattle.run_trees.specs.Begun.{cores_behind, wave_behind, exits_behind, HasEntered, HasEnded, IsUnderWay, IsBegun, BegunAreFronts}
use Rattle.run_trees.proofs.CallTrees.{follows_on}
use Rattle.run_trees.proofs.Ending.{can_end}
use Rattle.run_trees.proofs.Rising.{Rises, none_rise, rises_range, rises_filter, once, rest_rises, drop_low, apart_at, less}
use Rattle.run_trees.proofs.WaveTrees.{made_append, none_made, fresh, fresh_behind, some_behind, left, right, either, either_list, same, or_true, wave_by, ended_order}
use Rattle.run_trees.proofs.FrontTrees.{mine, others', none_of_waves, among_left, among_right, in_filter, take_none, no_among}

pub self : (x : ℕ) → (x == x) ≡ true
self x = grind (arith, nat_tests)

-- ENTER STEPS

enter_entry : Image → ℕ → Entry
enter_entry image core = record { ticket = 0; core = core; place = 0; step = enters image core; answer = Seen (record { 0 = 0 }) (record { 0 = 0 }) }

enter_cores : (image : Image) (l : List ℕ) → map (λ (entry : Entry). entry.core) (map (enter_entry image) l) ≡ l
unfolding enter_entry
enter_cores image [] = refl
enter_cores image (x ∷ l) = ap (λ (m : List ℕ). x ∷ m) (enter_cores image l)

enter_steps : (image : Image) (l : List ℕ) → map (λ (entry : Entry). entry.step) (map (enter_entry image) l) ≡ map (enters image) l
unfolding enter_entry
enter_steps image [] = refl
enter_steps image (x ∷ l) = ap (λ (m : List _). enters image x ∷ m) (enter_steps image l)

enter_all : (image : Image) (l cores : List ℕ) → ((c : ℕ) → is_among c l ≡ true → is_among c cores ≡ true) → IsTrue (list_all (λ (entry : Entry). is_among entry.core cores) (map (enter_entry image) l))
unfolding enter_entry
enter_all image [] cores within = refl
enter_all image (x ∷ l) cores within =
    ap (λ (b : Bool). b && list_all (λ (entry : Entry). is_among entry.core cores) (map (enter_entry image) l)) (within x (ap (λ (b : Bool). b || is_among x l) (self x)))
    ∙ enter_all image l cores (λ c among. within c (ap (λ (b : Bool). (x == c) || b) among ∙ or_true (x == c)))

enter_none : (image : Image) (core : ℕ) (l : List ℕ) → (is_among core l ≡ true → ⊥) → made_by core (map (enter_entry image) l) ≡ []
enter_none image core l apart = none_made core l (map (enter_entry image) l) (enter_all image l l (λ c among. among)) apart

enter_one : (image : Image) (low core : ℕ) (l : List ℕ) → Rises low l → is_among core l ≡ true → made_by core (map (enter_entry image) l) ≡ made_of (enter_entry image core) ∷ []
unfolding enter_entry
enter_one image low core [] rises among = absurd (cc)
enter_one image low core (x ∷ l) rises among = ⊎_elim
    (λ (e : (x == core) ≡ true).
    let s = same x core e in
    mine core (enter_entry image x) (map (enter_entry image) l) e
    ∙ ap (λ (m : List Made). made_of (enter_entry image x) ∷ m) (enter_none image core l (λ again. once low x l rises (subst (λ (n : ℕ). is_among n l ≡ true) (sym s) again)))
    ∙ ap (λ (n : ℕ). made_of (enter_entry image n) ∷ []) s)
    (λ (e : (x == core) ≡ false).
    others' core (enter_entry image x) (map (enter_entry image) l) e
    ∙ enter_one image (x + 1) core l (rest_rises low x l rises)
    (⊎_elim (λ (f : (x == core) ≡ true). absurd (let no : true ≡ false = sym f ∙ e in cc)) (λ (f : is_among core l ≡ true). f) (either (x == core) (is_among core l) among)))
    (cases_Bool (x == core))

just_entered : (image : Image) (scripts : List (List Request)) (core : ℕ) → IsUnderWay image scripts core (made_of (enter_entry image core) ∷ [])
unfolding enter_entry
just_entered image scripts core = record {
  tree = script_tree image.host (caller_of image core (record { 0 = 0 })) (script_of scripts core);
  entered = record { ticket = 0; page = record { 0 = 0 }; caa = record { 0 = 0 }; rest = []; begins = refl; answers = tt; follows = refl };
}

-- STEPS OF ONE CORE

fill_entry : ℕ → Made → Entry
fill_entry core m = record { ticket = m.ticket; core = core; place = 0; step = m.step; answer = m.answer }

fill_own : (core : ℕ) (made : List Made) → made_by core (map (fill_entry core) made) ≡ made
unfolding fill_entry
fill_own core [] = refl
fill_own core (m ∷ made) = mine core (fill_entry core m) (map (fill_entry core) made) (self core) ∙ ap (λ (l : List Made). m ∷ l) (fill_own core made)

fill_other : (core other : ℕ) (made : List Made) → (core == other) ≡ false → made_by other (map (fill_entry core) made) ≡ []
unfolding fill_entry
fill_other core other [] apart = refl
fill_other core other (m ∷ made) apart = others' other (fill_entry core m) (map (fill_entry core) made) apart ∙ fill_other core other made apart

fill_all : (core : ℕ) (cores : List ℕ) (made : List Made) → is_among core cores ≡ true → IsTrue (list_all (λ (entry : Entry). is_among entry.core cores) (map (fill_entry core) made))
unfolding fill_entry
fill_all core cores [] among = refl
fill_all core cores (m ∷ made) among =
    ap (λ (b : Bool). b && list_all (λ (entry : Entry). is_among entry.core cores) (map (fill_entry core) made)) among ∙ fill_all core cores made among

answers_on : (one other : List Made) → AreAnswers one → AreAnswers other → AreAnswers (one ++ other)
answers_on [] other is also = also
answers_on (m ∷ one) other is also = (is.0, answers_on one other is.1 also)

pub further : (image : Image) (scripts : List (List Request)) (core : ℕ) (made more : List Made) (under : IsUnderWay image scripts core made) (end : Tree) → AreAnswers more → Follows under.tree more end
    → HasEntered image scripts core (made ++ more) end
further image scripts core made more under end answers follows = record {
  ticket = under.entered.ticket;
  page = under.entered.page;
  caa = under.entered.caa;
  rest = under.entered.rest ++ more;
  begins = ap (λ (l : List Made). l ++ more) under.entered.begins;
  answers = answers_on under.entered.rest more under.entered.answers answers;
  follows = follows_on (script_tree image.host (caller_of image core under.entered.caa) (script_of scripts core)) under.tree end under.entered.rest more under.entered.follows follows;
}

-- A WAVE GROWS

pub all_on : (test : Entry → Bool) (one other : List Entry) → IsTrue (list_all test one) → IsTrue (list_all test other) → IsTrue (list_all test (one ++ other))
all_on test [] other is also = also
all_on test (entry ∷ one) other is also =
    ap (λ (b : Bool). b && list_all test (one ++ other)) (left (test entry) (list_all test one) is) ∙ all_on test one other (right (test entry) (list_all test one) is) also

pub whole_take : (cores : List ℕ) → take (length cores) cores ≡ cores
whole_take cores = take_all (length cores) cores (omega arith)

abbrev Wave : Image → List (List Request) → List Entry → List ℕ → List Announced → List ℕ → Type 0
Wave image scripts entries ran exits cores = IsBegun image scripts entries ran exits cores (length cores)

-- a core of a wave made nothing before
pub none_before : (image : Image) (scripts : List (List Request)) (entries : List Entry) (ran : List ℕ) (exits : List Announced) (cores : List ℕ) (entered core : ℕ) (begun : IsBegun image scripts entries ran exits cores entered) → is_among core cores ≡ true
    → made_by core entries ≡ made_by core begun.wave
none_before image scripts entries ran exits cores entered core begun among =
    ap (made_by core) begun.split ∙ made_append core begun.before begun.wave
    ∙ ap (λ (l : List Made). l ++ made_by core begun.wave)
    (none_of_waves image begun.before ran exits core begun.waves (λ old. fresh_behind image begun.before ran exits core (subst (λ (l : List ℕ). is_among core l ≡ true) begun.next among) old))

pub grow : (image : Image) (scripts : List (List Request)) (entries : List Entry) (ran : List ℕ) (exits : List Announced) (cores : List ℕ) (fill : List Entry) (begun : Wave image scripts entries ran exits cores)
    → IsTrue (list_all (λ (entry : Entry). is_among entry.core cores) fill)
    → ((core : ℕ) → is_among core cores ≡ true → IsUnderWay image scripts core (made_by core begun.wave ++ made_by core fill))
    → Wave image scripts (entries ++ fill) ran exits cores
grow image scripts entries ran exits cores fill begun all under = record {
  before = begun.before;
  wave = begun.wave ++ fill;
  first = begun.first;
  others = begun.others ++ fill;
  split = ap (λ (l : List Entry). l ++ fill) begun.split ∙ append_assoc begun.before begun.wave fill;
  waves = begun.waves;
  whole = begun.whole;
  next = begun.next;
  begin = ap (λ (l : List Entry). l ++ fill) begun.begin ∙ append_assoc begun.first begun.others fill;
  in_order = begun.in_order;
  enter_steps = begun.enter_steps;
  within = begun.within;
  waiting = λ low. absurd (omega (arith, low));
  of_cores = subst (λ (l : List ℕ). IsTrue (list_all (λ (entry : Entry). is_among entry.core l) (begun.wave ++ fill))) (sym (whole_take cores))
      (all_on (λ (entry : Entry). is_among entry.core cores) begun.wave fill (subst (λ (l : List ℕ). IsTrue (list_all (λ (entry : Entry). is_among entry.core l) begun.wave)) (whole_take cores) begun.of_cores) all);
  each = λ core among. subst (λ (m : List Made). IsUnderWay image scripts core m) (sym (made_append core begun.wave fill))
      (under core (subst (λ (l : List ℕ). is_among core l ≡ true) (whole_take cores) among));
}

abbrev Ended : Image → List (List Request) → List Entry → List ℕ → Type 0
Ended image scripts entries cores = (core : ℕ) → is_among core cores ≡ true → HasEnded image scripts core (made_by core entries)

-- one core goes on to its end
one_ends : (image : Image) (scripts : List (List Request)) (entries : List Entry) (ran : List ℕ) (exits : List Announced) (cores done : List ℕ) (core : ℕ) (begun : Wave image scripts entries ran exits cores) → is_among core cores ≡ true
    → Ended image scripts entries done → (fill : List Entry) × Wave image scripts (entries ++ fill) ran exits cores × Ended image scripts (entries ++ fill) (core ∷ done)
one_ends image scripts entries ran exits cores done core begun among old =
    let under = begun.each core (subst (λ (l : List ℕ). is_among core l ≡ true) (sym (whole_take cores)) among) in
    let last = can_end under.tree in
    let fill = map (fill_entry core) last.0 in
    let further_on : HasEntered image scripts core (made_by core begun.wave ++ last.0) (ended last.1 last.2) = further image scripts core (made_by core begun.wave) last.0 under (ended last.1 last.2) last.3 last.4 in
    let own : made_by core fill ≡ last.0 = fill_own core last.0 in (
      fill,
      grow image scripts entries ran exits cores fill begun (fill_all core cores last.0 among)
          (λ other is. ⊎_elim
          (λ (e : (core == other) ≡ true). subst (λ (c : ℕ). IsUnderWay image scripts c (made_by c begun.wave ++ made_by c fill)) (same core other e)
          (subst (λ (m : List Made). IsUnderWay image scripts core (made_by core begun.wave ++ m)) (sym own) (record { tree = ended last.1 last.2; entered = further_on })))
          (λ (e : (core == other) ≡ false). subst (λ (m : List Made). IsUnderWay image scripts other m)
          (sym (ap (λ (l : List Made). made_by other begun.wave ++ l) (fill_other core other last.0 e) ∙ append-nil (made_by other begun.wave)))
          (begun.each other (subst (λ (l : List ℕ). is_among other l ≡ true) (sym (whole_take cores)) is)))
          (cases_Bool (core == other))),
      λ other is. ⊎_elim
          (λ (e : (core == other) ≡ true). subst (λ (c : ℕ). HasEnded image scripts c (made_by c (entries ++ fill))) (same core other e)
          (subst (λ (m : List Made). HasEnded image scripts core m)
          (sym (made_append core entries fill ∙ ap (λ (l : List Made). l ++ made_by core fill) (none_before image scripts entries ran exits cores (length cores) core begun among) ∙ ap (λ (l : List Made). made_by core begun.wave ++ l) own))
          (record { outs = last.1; end = last.2; entered = further_on })))
          (λ (e : (core == other) ≡ false). subst (λ (m : List Made). HasEnded image scripts other m)
          (sym (made_append other entries fill ∙ ap (λ (l : List Made). made_by other entries ++ l) (fill_other core other last.0 e) ∙ append-nil (made_by other entries)))
          (old other (⊎_elim (λ (f : (core == other) ≡ true). absurd (let no : true ≡ false = sym f ∙ e in cc)) (λ (f : is_among other done ≡ true). f) (either (core == other) (is_among other done) is))))
          (cases_Bool (core == other)),
    )

finish : (image : Image) (scripts : List (List Request)) (ran : List ℕ) (exits : List Announced) (cores todo : List ℕ) (entries : List Entry) (done : List ℕ) (begun : Wave image scripts entries ran exits cores)
    → ((c : ℕ) → is_among c todo ≡ true → is_among c cores ≡ true) → Ended image scripts entries done
    → (more : List Entry) × Wave image scripts (entries ++ more) ran exits cores × Ended image scripts (entries ++ more) (todo ++ done)
finish image scripts ran exits cores [] entries done begun within old =
    ([], subst (λ (l : List Entry). Wave image scripts l ran exits cores) (sym (append-nil entries)) begun, subst (λ (l : List Entry). Ended image scripts l done) (sym (append-nil entries)) old)
finish image scripts ran exits cores (core ∷ todo) entries done begun within old =
    let one = one_ends image scripts entries ran exits cores done core begun (within core (ap (λ (b : Bool). b || is_among core todo) (self core))) old in
    let rest = finish image scripts ran exits cores todo (entries ++ one.0) (core ∷ done) one.1 (λ c among. within c (ap (λ (b : Bool). (core == c) || b) among ∙ or_true (core == c))) one.2 in (
      one.0 ++ rest.0,
      subst (λ (l : List Entry). Wave image scripts l ran exits cores) (append_assoc entries one.0 rest.0) rest.1,
      subst (λ (l : List Entry). Ended image scripts l (core ∷ (todo ++ done))) (append_assoc entries one.0 rest.0)
          (λ c among. rest.2 c (⊎_elim
          (λ (e : (core == c) ≡ true). among_right c todo (core ∷ done) (ap (λ (b : Bool). b || is_among c done) e))
          (λ (e : is_among c (todo ++ done) ≡ true). ⊎_elim
          (λ (f : is_among c todo ≡ true). among_left c todo (core ∷ done) f)
          (λ (f : is_among c done ≡ true). among_right c todo (core ∷ done) (ap (λ (b : Bool). (core == c) || b) f ∙ or_true (core == c)))
          (either_list c todo done e))
          (either (core == c) (is_among c (todo ++ done)) among))),
    )

-- THE CORES THAT HAVE NOT ENTERED

pub all_wider : (one other : List ℕ) (entries : List Entry) → ((c : ℕ) → is_among c one ≡ true → is_among c other ≡ true) → IsTrue (list_all (λ (entry : Entry). is_among entry.core one) entries)
    → IsTrue (list_all (λ (entry : Entry). is_among entry.core other) entries)
all_wider one other [] wider is = refl
all_wider one other (entry ∷ entries) wider is =
    ap (λ (b : Bool). b && list_all (λ (entry : Entry). is_among entry.core other) entries) (wider entry.core (left (is_among entry.core one) (list_all (λ (entry : Entry). is_among entry.core one) entries) is))
    ∙ all_wider one other entries wider (right (is_among entry.core one) (list_all (λ (entry : Entry). is_among entry.core one) entries) is)

rising : (image : Image) (entries : List Entry) (ran : List ℕ) → Rises 0 (next_wave image entries ran)
rising image entries ran =
    let rows = (state_after (constants_of image) (booted image) entries).rows in
    let test : ℕ → Bool = λ core. not (is_among core ran) && list_any (of_apic_in Ready (apic_of image core)) rows in
    rises_filter test 0 (numbers_of image) (rises_range 0 (length image.cores))

pub rising_behind : (image : Image) (entries : List Entry) (ran : List ℕ) (exits : List Announced) → Rises 0 (wave_behind image entries ran exits)
rising_behind image entries ran exits = by (has_refused image exits)
  where
    by : (b : Bool) → Rises 0 (cores_behind b (next_wave image entries ran))
    by true = none_rise 0
    by false = rising image entries ran

enter_rest : (image : Image) (scripts : List (List Request)) (entries : List Entry) (ran : List ℕ) (exits : List Announced) (cores : List ℕ) (entered : ℕ) → IsBegun image scripts entries ran exits cores entered → entered < length cores
    → (fill : List Entry) × Wave image scripts (entries ++ fill) ran exits cores
enter_rest image scripts entries ran exits cores entered begun low =
    let core : Entry → ℕ = λ entry. entry.core in
    let step = λ (entry : Entry). entry.step in
    let back = drop entered cores in
    let fill = map (enter_entry image) back in
    let none : begun.others ≡ [] = begun.waiting low in
    let parts : take entered cores ++ back ≡ cores = take-append-drop entered cores in
    let rises : Rises 0 cores = subst (λ (l : List ℕ). Rises 0 l) (sym begun.next) (rising_behind image begun.before ran exits) in
    let in_back : (c : ℕ) → is_among c back ≡ true → is_among c cores ≡ true = λ c is. subst (λ (l : List ℕ). is_among c l ≡ true) parts (among_right c (take entered cores) back is) in
    let in_front : (c : ℕ) → is_among c (take entered cores) ≡ true → is_among c cores ≡ true = λ c is. subst (λ (l : List ℕ). is_among c l ≡ true) parts (among_left c (take entered cores) back is) in
    let wave_is : begun.wave ≡ begun.first = begun.begin ∙ ap (λ (l : List Entry). begun.first ++ l) none ∙ append-nil begun.first in (
      fill,
      record {
        before = begun.before;
        wave = begun.wave ++ fill;
        first = begun.first ++ fill;
        others = [];
        split = ap (λ (l : List Entry). l ++ fill) begun.split ∙ append_assoc begun.before begun.wave fill;
        waves = begun.waves;
        whole = begun.whole;
        next = begun.next;
        begin = ap (λ (l : List Entry). l ++ fill) wave_is ∙ sym (append-nil (begun.first ++ fill));
        in_order = map-append core begun.first fill ∙ ap (λ (l : List ℕ). l ++ map core fill) begun.in_order ∙ ap (λ (l : List ℕ). take entered cores ++ l) (enter_cores image back) ∙ parts ∙ sym (whole_take cores);
        enter_steps = map-append step begun.first fill ∙ ap (λ (l : List _). l ++ map step fill) begun.enter_steps ∙ ap (λ (l : List _). map (enters image) (take entered cores) ++ l) (enter_steps image back)
            ∙ sym (map-append (enters image) (take entered cores) back) ∙ ap (map (enters image)) parts ∙ ap (map (enters image)) (sym (whole_take cores));
        within = omega arith;
        waiting = λ no'. refl;
        of_cores = subst (λ (l : List ℕ). IsTrue (list_all (λ (entry : Entry). is_among entry.core l) (begun.wave ++ fill))) (sym (whole_take cores))
            (all_on (λ (entry : Entry). is_among entry.core cores) begun.wave fill (all_wider (take entered cores) cores begun.wave in_front begun.of_cores) (enter_all image back cores in_back));
        each = λ c among.
            let all : is_among c (take entered cores ++ back) ≡ true = subst (λ (l : List ℕ). is_among c l ≡ true) (whole_take cores ∙ sym parts) among in
            subst (λ (m : List Made). IsUnderWay image scripts c m) (sym (made_append c begun.wave fill))
            (⊎_elim
            (λ (f : is_among c (take entered cores) ≡ true). subst (λ (m : List Made). IsUnderWay image scripts c m)
            (sym (ap (λ (l : List Made). made_by c begun.wave ++ l) (enter_none image c back (λ b. apart_at 0 c entered cores rises f b)) ∙ append-nil (made_by c begun.wave)))
            (begun.each c f))
            (λ (b : is_among c back ≡ true). subst (λ (m : List Made). IsUnderWay image scripts c m)
            (sym (ap (λ (l : List Made). l ++ made_by c fill) (none_made c (take entered cores) begun.wave begun.of_cores (λ f. apart_at 0 c entered cores rises f b))
            ∙ enter_one image (drop_low 0 entered cores rises).0 c back (drop_low 0 entered cores rises).1 b))
            (just_entered image scripts c))
            (either_list c (take entered cores) back all));
      },
    )

-- ALL WAVES

left_over : Image → List ℕ → ℕ
left_over image all = length (filter (λ c. not (is_among c all)) (numbers_of image))

IsDone : Image → List (List Request) → ℕ → Type 0
IsDone image scripts fuel =
    (entries : List Entry) (ran : List ℕ) (exits : List Announced) (cores : List ℕ) (entered : ℕ) → IsBegun image scripts entries ran exits cores entered → left_over image (ran ++ cores) ≤ fuel → IsFront image scripts entries

Later : Image → List (List Request) → ℕ → Type 0
Later image scripts fuel =
    (entries : List Entry) (ran : List ℕ) (exits : List Announced) (cores : List ℕ) → IsBegun image scripts entries ran exits cores 0 → left_over image (ran ++ cores) < fuel → IsFront image scripts entries

longer : (image : Image) (scripts : List (List Request)) (one other : List Entry) → IsFront image scripts (one ++ other) → IsFront image scripts one
longer image scripts one other front = record {
  more = other ++ front.more;
  cores = front.cores;
  ordered = subst (λ (l : List Entry). IsOrdered image scripts l front.cores) (append_assoc one other front.more) front.ordered;
}

each_ended : (image : Image) (scripts : List (List Request)) (entries : List Entry) (ran : List ℕ) (exits : List Announced) (cores : List ℕ) (begun : Wave image scripts entries ran exits cores) → Ended image scripts entries cores
    → Ended image scripts entries (ran ++ cores)
each_ended image scripts entries ran exits cores begun ends core among = ⊎_elim
    (λ (old : is_among core ran ≡ true).
    let of_cores : IsTrue (list_all (λ (entry : Entry). is_among entry.core cores) begun.wave) = subst (λ (l : List ℕ). IsTrue (list_all (λ (entry : Entry). is_among entry.core l) begun.wave)) (whole_take cores) begun.of_cores in
    subst (λ (m : List Made). HasEnded image scripts core m)
    (sym (ap (made_by core) begun.split ∙ made_append core begun.before begun.wave
    ∙ ap (λ (l : List Made). made_by core begun.before ++ l)
    (none_made core cores begun.wave of_cores (λ new. fresh_behind image begun.before ran exits core (subst (λ (l : List ℕ). is_among core l ≡ true) begun.next new) old)) ∙ append-nil (made_by core begun.before)))
    (begun.whole core old))
    (λ (new : is_among core cores ≡ true). ends core new)
    (either_list core ran cores among)

pub next_begun : (image : Image) (scripts : List (List Request)) (entries : List Entry) (ran : List ℕ) (exits : List Announced) (cores next : List ℕ) (begun : Wave image scripts entries ran exits cores) → Ended image scripts entries cores
    → next ≡ wave_behind image entries (ran ++ cores) (exits_behind image exits cores begun.before begun.wave) → IsBegun image scripts entries (ran ++ cores) (exits_behind image exits cores begun.before begun.wave) next 0
next_begun image scripts entries ran exits cores next begun ends is =
    let all = whole_take cores in
    let wave : IsWave image cores begun.wave = record {
      first = begun.first;
      others = begun.others;
      begin = begun.begin;
      in_order = begun.in_order ∙ all;
      enter_steps = begun.enter_steps ∙ ap (map (enters image)) all;
      of_cores = subst (λ (l : List ℕ). IsTrue (list_all (λ (entry : Entry). is_among entry.core l) begun.wave)) all begun.of_cores;
    } in
    record {
      before = entries;
      wave = [];
      first = [];
      others = [];
      split = sym (append-nil entries);
      waves = subst (λ (l : List Entry). AreWaves image l (ran ++ cores) (exits_behind image exits cores begun.before begun.wave)) (sym begun.split) (wave_by image begun.before begun.wave ran exits cores begun.waves begun.next wave);
      whole = each_ended image scripts entries ran exits cores begun ends;
      next = is;
      begin = refl;
      in_order = sym (take_none next);
      enter_steps = ap (map (enters image)) (sym (take_none next));
      within = omega arith;
      waiting = λ _. refl;
      of_cores = refl;
      each = λ core among. absurd (no_among core next among);
    }

not_false : (b : Bool) → (b ≡ true → ⊥) → not b ≡ true
not_false true no' = absurd (no' refl)
not_false false no' = refl

not_true : (b : Bool) → b ≡ true → not b ≡ false
not_true b is = ap not is

not_among : (b : Bool) → not b ≡ true → b ≡ true → ⊥
not_among true is h = cc
not_among false is h = cc

next_case : (image : Image) (scripts : List (List Request)) (fuel : ℕ) (entries : List Entry) (ran : List ℕ) (exits : List Announced) (cores next : List ℕ) → Later image scripts fuel → (begun : Wave image scripts entries ran exits cores)
    → Ended image scripts entries cores → next ≡ wave_behind image entries (ran ++ cores) (exits_behind image exits cores begun.before begun.wave) → left_over image (ran ++ cores) ≤ fuel → IsFront image scripts entries
unfolding Later left_over
next_case image scripts fuel entries ran exits cores [] later begun ends is few =
    let whole = ended_order image scripts entries ran exits cores begun ends (sym is) in
    record { more = []; cores = whole.0; ordered = subst (λ (l : List Entry). IsOrdered image scripts l whole.0) (sym (append-nil entries)) whole.1 }
next_case image scripts fuel entries ran exits cores (x ∷ next) later begun ends is few =
    let rows = (state_after (constants_of image) (booted image) entries).rows in
    let test : ℕ → Bool = λ core. not (is_among core (ran ++ cores)) && list_any (of_apic_in Ready (apic_of image core)) rows in
    let here : is_among x (x ∷ next) ≡ true = ap (λ (b : Bool). b || is_among x next) (self x) in
    let told = exits_behind image exits cores begun.before begun.wave in
    let among : is_among x (next_wave image entries (ran ++ cores)) ≡ true =
    subst (λ (l : List ℕ). is_among x l ≡ true) (some_behind (has_refused image told) (next_wave image entries (ran ++ cores)) next x is).1 here in
    let new : not (is_among x (ran ++ cores)) ≡ true = not_false (is_among x (ran ++ cores)) (fresh image entries (ran ++ cores) x among) in
    let old : not (is_among x ((ran ++ cores) ++ x ∷ next)) ≡ false = not_true (is_among x ((ran ++ cores) ++ x ∷ next)) (among_right x (ran ++ cores) (x ∷ next) here) in
    let fewer : length (filter (λ c. not (is_among c ((ran ++ cores) ++ x ∷ next))) (numbers_of image)) < length (filter (λ c. not (is_among c (ran ++ cores))) (numbers_of image)) =
    less (λ c. not (is_among c (ran ++ cores))) (λ c. not (is_among c ((ran ++ cores) ++ x ∷ next))) x (numbers_of image)
    (λ c h. not_false (is_among c (ran ++ cores)) (λ f. not_among (is_among c ((ran ++ cores) ++ x ∷ next)) h (among_left c (ran ++ cores) (x ∷ next) f)))
    (in_filter test x (numbers_of image) among) new old in
    later entries (ran ++ cores) told (x ∷ next) (next_begun image scripts entries ran exits cores (x ∷ next) begun ends is) (omega (arith, fewer, few))

wave_done : (image : Image) (scripts : List (List Request)) (fuel : ℕ) (entries : List Entry) (ran : List ℕ) (exits : List Announced) (cores : List ℕ) → Later image scripts fuel → Wave image scripts entries ran exits cores → left_over image (ran ++ cores) ≤ fuel
    → IsFront image scripts entries
wave_done image scripts fuel entries ran exits cores later begun few =
    let rest = finish image scripts ran exits cores cores entries [] begun (λ c among. among) (λ c among. absurd (cc)) in
    longer image scripts entries rest.0
    (next_case image scripts fuel (entries ++ rest.0) ran exits cores (wave_behind image (entries ++ rest.0) (ran ++ cores) (exits_behind image exits cores rest.1.before rest.1.wave)) later rest.1
    (λ c among. rest.2 c (subst (λ (l : List ℕ). is_among c l ≡ true) (sym (append-nil cores)) among)) refl few)

pub low_or_whole : (m n : ℕ) → m ≤ n → (m < n) ⊎ (m ≡ n)
low_or_whole m n le = ⊎_elim (λ (e : nat_lt m n ≡ true). inl (grind (arith, nat_tests))) (λ (e : nat_lt m n ≡ false). inr (grind (arith, nat_tests))) (cases_Bool (nat_lt m n))

done_by : (image : Image) (scripts : List (List Request)) (fuel : ℕ) → Later image scripts fuel → IsDone image scripts fuel
unfolding IsDone
done_by image scripts fuel later entries ran exits cores entered begun few = ⊎_elim
    (λ (low : entered < length cores).
    let all = enter_rest image scripts entries ran exits cores entered begun low in
    longer image scripts entries all.0 (wave_done image scripts fuel (entries ++ all.0) ran exits cores later all.1 few))
    (λ (whole : entered ≡ length cores). wave_done image scripts fuel entries ran exits cores later (subst (λ (n : ℕ). IsBegun image scripts entries ran exits cores n) whole begun) few)
    (low_or_whole entered (length cores) begun.within)

later_of : (image : Image) (scripts : List (List Request)) (fuel k : ℕ) → fuel ≡ suc k → IsDone image scripts k → Later image scripts fuel
unfolding IsDone Later
later_of image scripts fuel k is rest entries ran exits cores begun low = rest entries ran exits cores 0 begun (omega (arith, low, is))

none_later : (image : Image) (scripts : List (List Request)) → Later image scripts 0
unfolding Later
none_later image scripts entries ran exits cores begun low = absurd (omega (arith, low))

done : (image : Image) (scripts : List (List Request)) (fuel : ℕ) → IsDone image scripts fuel
done image scripts zero = done_by image scripts 0 (none_later image scripts)
done image scripts (suc k) = done_by image scripts (suc k) (later_of image scripts (suc k) k refl (done image scripts k))

pub begun_front : BegunAreFronts
unfolding IsDone
begun_front image scripts entries has =
    done image scripts (left_over image (has.ran ++ has.cores)) entries has.ran has.exits has.cores has.entered has.begun (omega arith)
