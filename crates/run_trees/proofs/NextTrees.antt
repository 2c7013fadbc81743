-- What is no next step of a wave that is not over makes a list no front.
use Rattle.std.proofs.Common.{◌≡◌, ℕ, suc, ◌+◌, ◌<◌, ◌≤◌, Bool, true, false, Some, List, [], ◌∷◌, ◌++◌, length, take, drop, get_or, map, length-append, refl, sym, ◌∙◌, ap, arith, subst, inl, inr, ◌⊎◌, ⊎_elim, append_assoc}
use Rattle.std.specs.Prelude.{◌≢◌, IsTrue}
use Rattle.std.specs.List.{list_all}
use Rattle.std.proofs.lemmas.List.{append-nil, append_cancel_left, map-append, length-map, length-take-le, take-append-drop}
use Rattle.std.proofs.Math.Seq.{take-suc}
use Rattle.svsm_types.specs.declared.image.Image.{Image}
use Rattle.svsm_types.specs.declared.request.Request.{Request}
use Rattle.svsm_steps.specs.declared.step.Step.{Step}
use Rattle.svsm_steps.specs.declared.answer.Answer.TheVariants.{Seen}
use Rattle.svsm_steps.specs.declared.entry.Entry.{Entry}
use Rattle.svsm_steps.specs.Made.{Made, made_of, made_by}
use Rattle.svsm_steps.specs.Announced.{Announced}
use Rattle.svsm_calls.specs.Waves.{is_among, next_wave, enters, has_refused, AreWaves, AreOver}
use Rattle.run_trees.specs.Tree.{Tree, asked_of, Follows}
use Rattle.run_trees.specs.Begun.{cores_behind, wave_behind, HasEntered, HasEnded, IsBegun, IsGoing, IsNextEnter, NoneHaveBegun, WaveGoesOn, FrontsGoOn, WholeAreGone, NoneAreLeft, BeginsAreOne, EnteredAreOne, exits_behind, IsInWave, NewMadeNone, WaveFills, WaveIsOver}
use Rattle.run_trees.proofs.WaveTrees.{made_append, none_made, fresh_behind, left, no_cores, ended_order}
use Rattle.run_trees.proofs.Rising.{Rises, in_drop, apart_at}
use Rattle.run_trees.proofs.FrontTrees.{cut, tails, take_none, none_of_waves, among_left, none_have_begun, fronts_begun, all_ended}
use Rattle.run_trees.proofs.WholeTrees.{none_before, whole_take, low_or_whole, rising_behind, next_begun}
use Rattle.run_trees.proofs.MoreTrees.{one_own, at_drop}
use Rattle.run_trees.proofs.OneTrees.{leads_on, all_back, AllEnded, over_ends, IsOverWave, Grows, stays, grows, all_grow, reaches, compare}

pub wave_goes_on : WaveGoesOn
wave_goes_on image scripts entries ran exits cores begun over = next_begun image scripts entries ran exits cores _ begun over refl

pub none_have : NoneHaveBegun
none_have image scripts = none_have_begun image scripts

-- ONE WAVE

wave_of : (image : Image) (scripts : List (List Request)) (entries : List Entry) (ran : List ℕ) (exits : List Announced) (cores : List ℕ) (entered : ℕ) (begun : IsBegun image scripts entries ran exits cores entered)
    → IsInWave image scripts cores entered begun.wave
wave_of image scripts entries ran exits cores entered begun = record {
  first = begun.first;
  others = begun.others;
  begin = begun.begin;
  in_order = begun.in_order;
  enter_steps = begun.enter_steps;
  within = begun.within;
  waiting = begun.waiting;
  of_cores = begun.of_cores;
  each = begun.each;
}

first_long : (image : Image) (scripts : List (List Request)) (cores : List ℕ) (entered : ℕ) (wave : List Entry) (is : IsInWave image scripts cores entered wave) → length is.first ≡ entered
first_long image scripts cores entered wave is =
    sym (length-map is.first (λ (entry : Entry). entry.core)) ∙ ap length is.in_order ∙ length-take-le entered cores is.within

wave_long : (image : Image) (scripts : List (List Request)) (cores : List ℕ) (entered : ℕ) (wave : List Entry) (is : IsInWave image scripts cores entered wave) → length wave ≡ entered + length is.others
wave_long image scripts cores entered wave is =
    ap length is.begin ∙ length-append is.first is.others ∙ ap (λ (n : ℕ). n + length is.others) (first_long image scripts cores entered wave is)

none_long : {A : Type 0} (l : List A) → length l ≡ 0 → l ≡ []
none_long [] is = refl
none_long (x ∷ l) is = absurd (omega (arith, is))

last_same : {A : Type 0} (one other : List A) (x y : A) → one ≡ other → one ++ x ∷ [] ≡ other ++ y ∷ [] → x ≡ y
last_same one other x y same is =
    (tails x y [] [] (append_cancel_left other (x ∷ []) (y ∷ []) (ap (λ (l : List _). l ++ x ∷ []) (sym same) ∙ is))).0

-- where a core has yet to enter, one more entry is its Enter
next_enter : (image : Image) (scripts : List (List Request)) (cores : List ℕ) (entered now : ℕ) (wave : List Entry) (entry : Entry) → Rises 0 cores
    → IsInWave image scripts cores entered wave → IsInWave image scripts cores now (wave ++ entry ∷ []) → entered < length cores → IsNextEnter image cores entered entry
next_enter image scripts cores entered now wave entry rises one other low =
    let core : Entry → ℕ = λ e. e.core in
    let step : Entry → Step = λ e. e.step in
    let none : one.others ≡ [] = one.waiting low in
    let wave_is : wave ≡ one.first = one.begin ∙ ap (λ (l : List Entry). one.first ++ l) none ∙ append-nil one.first in
    let here : length wave ≡ entered = wave_long image scripts cores entered wave one ∙ ap (λ (l : List Entry). entered + length l) none ∙ omega arith in
    let all : entered + 1 ≡ now + length other.others =
    omega (arith, here, length-append wave (entry ∷ []), wave_long image scripts cores now (wave ++ entry ∷ []) other) in
    let rest : length other.others ≡ 0 = ⊎_elim
    (λ (few : now < length cores). ap length (other.waiting few))
    (λ (full : now ≡ length cores). omega (arith, all, full, low))
    (low_or_whole now (length cores) other.within) in
    let plus : now ≡ suc entered = omega (arith, all, rest) in
    let first_is : other.first ≡ one.first ++ entry ∷ [] =
    sym (other.begin ∙ ap (λ (l : List Entry). other.first ++ l) (none_long other.others rest) ∙ append-nil other.first) ∙ ap (λ (l : List Entry). l ++ entry ∷ []) wave_is in
    let at : take now cores ≡ take entered cores ++ get_or cores entered entry.core ∷ [] =
    ap (λ (n : ℕ). take n cores) plus ∙ take-suc cores entered entry.core low in
    let core_is : entry.core ≡ get_or cores entered entry.core =
    last_same (map core one.first) (take entered cores) entry.core (get_or cores entered entry.core) one.in_order
    (sym (map-append core one.first (entry ∷ [])) ∙ ap (map core) (sym first_is) ∙ other.in_order ∙ at) in
    let step_at : entry.step ≡ enters image (get_or cores entered entry.core) =
    last_same (map step one.first) (map (enters image) (take entered cores)) entry.step (enters image (get_or cores entered entry.core)) one.enter_steps
    (sym (map-append step one.first (entry ∷ [])) ∙ ap (map step) (sym first_is) ∙ other.enter_steps ∙ ap (map (enters image)) at
    ∙ map-append (enters image) (take entered cores) (get_or cores entered entry.core ∷ [])) in
    let behind : is_among entry.core (drop entered cores) ≡ true = subst (λ (c : ℕ). is_among c (drop entered cores) ≡ true) (sym core_is) (at_drop cores entered entry.core low) in
    let nothing : made_by entry.core wave ≡ [] = none_made entry.core (take entered cores) wave one.of_cores (λ f. apart_at 0 entry.core entered cores rises f behind) in
    let among : is_among entry.core (take now cores) ≡ true =
    left (is_among entry.core (take now cores)) true (all_back (λ (e : Entry). is_among e.core (take now cores)) wave (entry ∷ []) other.of_cores) in
    let under = other.each entry.core among in
    let made : made_of entry ∷ [] ≡ record { ticket = under.entered.ticket; step = enters image entry.core; answer = Seen under.entered.page under.entered.caa } ∷ under.entered.rest =
    sym (made_append entry.core wave (entry ∷ []) ∙ ap (λ (l : List Made). l ++ made_by entry.core (entry ∷ [])) nothing ∙ one_own entry) ∙ under.entered.begins in
    let same = (tails (made_of entry) (record { ticket = under.entered.ticket; step = enters image entry.core; answer = Seen under.entered.page under.entered.caa }) [] under.entered.rest made).0 in
    record {
      page = under.entered.page;
      caa = under.entered.caa;
      within = low;
      core_is = core_is;
      step_is = step_at ∙ ap (enters image) (sym core_is);
      answer_is = ap (λ (m : Made). m.answer) same;
    }

-- the step that its core asks for, behind the entries of a wave
abbrev NextStep : Image → List (List Request) → List ℕ → List Entry → Entry → Type 0
NextStep image scripts cores wave entry =
    (is_among entry.core cores ≡ true) × (tree : Tree) × HasEntered image scripts entry.core (made_by entry.core wave) tree × (asked_of tree ≡ Some entry.step)

-- where all have entered, one more entry is the step that its core asks for
next_step : (image : Image) (scripts : List (List Request)) (cores : List ℕ) (now : ℕ) (wave : List Entry) (entry : Entry)
    → IsInWave image scripts cores (length cores) wave → IsInWave image scripts cores now (wave ++ entry ∷ []) → NextStep image scripts cores wave entry
next_step image scripts cores now wave entry one other =
    let long : length cores + length one.others + 1 ≡ now + length other.others =
    omega (arith, length-append wave (entry ∷ []), wave_long image scripts cores (length cores) wave one, wave_long image scripts cores now (wave ++ entry ∷ []) other) in
    let full : now ≡ length cores = ⊎_elim
    (λ (few : now < length cores). absurd (omega (arith, long, few, ap length (other.waiting few))))
    (λ (full : now ≡ length cores). full)
    (low_or_whole now (length cores) other.within) in
    let all : take now cores ≡ cores = ap (λ (n : ℕ). take n cores) full ∙ whole_take cores in
    let here : is_among entry.core (take now cores) ≡ true =
    left (is_among entry.core (take now cores)) true (all_back (λ (e : Entry). is_among e.core (take now cores)) wave (entry ∷ []) other.of_cores) in
    let among : is_among entry.core cores ≡ true = subst (λ (l : List ℕ). is_among entry.core l ≡ true) all here in
    let under = one.each entry.core (subst (λ (l : List ℕ). is_among entry.core l ≡ true) (sym (whole_take cores)) among) in
    let then_under = other.each entry.core here in
    let made : made_by entry.core (wave ++ entry ∷ []) ≡ made_by entry.core wave ++ made_of entry ∷ [] =
    made_append entry.core wave (entry ∷ []) ∙ ap (λ (l : List Made). made_by entry.core wave ++ l) (one_own entry) in
    let leads : Follows under.tree (made_of entry ∷ []) then_under.tree =
    leads_on image scripts entry.core (made_by entry.core wave) (made_of entry ∷ []) under.tree then_under.tree under.entered
    (subst (λ (m : List Made). HasEntered image scripts entry.core m then_under.tree) made then_under.entered) in
    (among, under.tree, under.entered, leads.0)

abbrev NextOf : Image → List (List Request) → List ℕ → ℕ → List Entry → Entry → Type 0
NextOf image scripts cores entered wave entry = IsNextEnter image cores entered entry ⊎ ((entered ≡ length cores) × NextStep image scripts cores wave entry)

next_of : (image : Image) (scripts : List (List Request)) (cores : List ℕ) (entered now : ℕ) (wave : List Entry) (entry : Entry) → Rises 0 cores
    → IsInWave image scripts cores entered wave → IsInWave image scripts cores now (wave ++ entry ∷ []) → NextOf image scripts cores entered wave entry
next_of image scripts cores entered now wave entry rises one other = ⊎_elim
    (λ (low : entered < length cores). inl (next_enter image scripts cores entered now wave entry rises one other low))
    (λ (full : entered ≡ length cores). inr (full, next_step image scripts cores now wave entry (subst (λ (n : ℕ). IsInWave image scripts cores n wave) full one) other))
    (low_or_whole entered (length cores) one.within)

-- A WAVE THAT IS OVER, AND ONE THAT IS NOT

-- a wave that is over is one of whose cores all have entered
over_in : (image : Image) (scripts : List (List Request)) (before : List Entry) (ran : List ℕ) (exits : List Announced) (wave : List Entry) → IsOverWave image scripts before ran exits wave
    → IsInWave image scripts (next_wave image before ran) (length (next_wave image before ran)) wave
over_in image scripts before ran exits wave over =
    let cores = next_wave image before ran in
    let all : take (length cores) cores ≡ cores = whole_take cores in
    record {
      first = over.is.first;
      others = over.is.others;
      begin = over.is.begin;
      in_order = over.is.in_order ∙ sym all;
      enter_steps = over.is.enter_steps ∙ ap (map (enters image)) (sym all);
      within = omega arith;
      waiting = λ low. absurd (omega (arith, low));
      of_cores = subst (λ (l : List ℕ). IsTrue (list_all (λ (entry : Entry). is_among entry.core l) wave)) (sym all) over.is.of_cores;
      each = λ core among.
          let has = over.over core (subst (λ (l : List ℕ). is_among core l ≡ true) all among) in
          record { tree = _; entered = has.entered };
    }

abbrev Going : Image → List (List Request) → List ℕ → ℕ → List Entry → Type 0
Going image scripts cores entered wave =
    (cores ≡ []) ⊎ ((entered < length cores) ⊎ ((core : ℕ) × (is_among core cores ≡ true) × (HasEnded image scripts core (made_by core wave) → ⊥)))

nothing_made : (image : Image) (scripts : List (List Request)) (core : ℕ) (made : List Made) → made ≡ [] → HasEnded image scripts core made → ⊥
nothing_made image scripts core made none over = let no = sym none ∙ over.entered.begins in cc

not_going : (image : Image) (scripts : List (List Request)) (cores : List ℕ) (entered : ℕ) (wave : List Entry) → Rises 0 cores → cores ≢ [] → IsInWave image scripts cores entered wave
    → AllEnded image scripts cores wave → Going image scripts cores entered wave → ⊥
not_going image scripts cores entered wave rises some is over going = ⊎_elim
    (λ (none : cores ≡ []). some none)
    (λ rest. ⊎_elim
    (λ (low : entered < length cores).
    let core = get_or cores entered 0 in
    let behind : is_among core (drop entered cores) ≡ true = at_drop cores entered 0 low in
    nothing_made image scripts core (made_by core wave)
    (none_made core (take entered cores) wave is.of_cores (λ f. apart_at 0 core entered cores rises f behind))
    (over core (in_drop core entered cores behind)))
    (λ last. last.2 (over last.0 last.1))
    rest)
    going

-- the cores that have entered are cores of the wave
in_front : (cores : List ℕ) (entered core : ℕ) → is_among core (take entered cores) ≡ true → is_among core cores ≡ true
in_front cores entered core is =
    subst (λ (l : List ℕ). is_among core l ≡ true) (take-append-drop entered cores) (among_left core (take entered cores) (drop entered cores) is)

-- behind a wave that is over none of its entries follow
over_all : (image : Image) (scripts : List (List Request)) (cores : List ℕ) (entered : ℕ) (wave more : List Entry) → AllEnded image scripts cores wave → IsInWave image scripts cores entered (wave ++ more)
    → more ≡ []
over_all image scripts cores entered wave more over is =
    over_ends image scripts (take entered cores) wave more is.of_cores (λ core among. over core (in_front cores entered core among)) is.each

-- ONE MORE ENTRY

rising_wave : (image : Image) (before : List Entry) (ran : List ℕ) (exits : List Announced) (cores : List ℕ) → cores ≡ wave_behind image before ran exits → Rises 0 cores
rising_wave image before ran exits cores next = subst (λ (l : List ℕ). Rises 0 l) (sym next) (rising_behind image before ran exits)

one_front : (entry : Entry) (between back : List Entry) → entry ∷ [] ≡ between ++ back → (between ≡ []) ⊎ (between ≡ entry ∷ [])
one_front entry [] back is = inl refl
one_front entry (x ∷ []) back is = inr (ap (λ (e : Entry). e ∷ []) (sym (tails entry x [] back is).0))
one_front entry (x ∷ y ∷ between) back is = absurd (let no = (tails entry x [] (y ∷ (between ++ back)) is).1 in cc)

-- waves that go on from a place, in a list whose entries there are these
inner_of : (before wave more tail after rest : List Entry) → before ++ rest ≡ after ++ tail → after ≡ (before ++ wave) ++ more → wave ++ (more ++ tail) ≡ rest
inner_of before wave more tail after rest same reach =
    append_cancel_left before (wave ++ (more ++ tail)) rest
    (sym (append_assoc before wave (more ++ tail)) ∙ sym (append_assoc (before ++ wave) more tail) ∙ ap (λ (l : List Entry). l ++ tail) (sym reach) ∙ sym same)

-- another reading goes on from the place of this wave
ahead : (image : Image) (scripts : List (List Request)) (before : List Entry) (ran : List ℕ) (exits : List Announced) (cores : List ℕ) (entered : ℕ) (wave : List Entry) (entry : Entry)
    (after : List Entry) (after_ran : List ℕ) (after_exits : List Announced) (now_in : List ℕ) (now : ℕ) (tail : List Entry)
    → Grows image scripts before ran exits after after_ran after_exits
    → cores ≡ wave_behind image before ran exits → IsInWave image scripts cores entered wave → Going image scripts cores entered wave
    → now_in ≡ wave_behind image after after_ran after_exits → IsInWave image scripts now_in now tail
    → before ++ (wave ++ entry ∷ []) ≡ after ++ tail → NextOf image scripts cores entered wave entry
ahead image scripts _ _ _ cores entered wave entry _ _ _ now_in now tail (stays before ran exits) next is going next' is' same =
    let tail_is : tail ≡ wave ++ entry ∷ [] = sym (append_cancel_left before (wave ++ entry ∷ []) tail same) in
    next_of image scripts cores entered now wave entry (rising_wave image before ran exits cores next) is
    (subst (λ (l : List ℕ). IsInWave image scripts l now (wave ++ entry ∷ [])) (next' ∙ sym next) (subst (λ (w : List Entry). IsInWave image scripts now_in now w) tail_is is'))
ahead image scripts _ _ _ cores entered wave entry _ _ _ now_in now tail (grows before ran exits first after after_ran after_exits over rest) next is going next' is' same =
    let its = next_wave image before ran in
    let here : cores ≡ its = next ∙ ap (λ (b : Bool). cores_behind b its) over.taken in
    let rises = rising_wave image before ran exits cores next in
    let reach = reaches image scripts (before ++ first) (ran ++ its) _ after after_ran after_exits rest in
    let inner : first ++ (reach.0 ++ tail) ≡ wave ++ entry ∷ [] = inner_of before first reach.0 tail after (wave ++ entry ∷ []) same reach.1 in
    let full : AllEnded image scripts cores first = subst (λ (l : List ℕ). AllEnded image scripts l first) (sym here) over.over in
    let gone : wave ≡ first → ⊥ =
    λ wave_is. not_going image scripts cores entered wave rises (λ none. over.some (sym here ∙ none)) is (subst (λ (w : List Entry). AllEnded image scripts cores w) (sym wave_is) full) going in
    ⊎_elim
    (λ short.
    let nothing : short.0 ≡ [] = over_all image scripts cores entered first short.0 full (subst (λ (w : List Entry). IsInWave image scripts cores entered w) short.1 is) in
    absurd (gone (short.1 ∙ ap (λ (l : List Entry). first ++ l) nothing ∙ append-nil first)))
    (λ long. ⊎_elim
    (λ (none : long.0 ≡ []). absurd (gone (sym (long.1 ∙ ap (λ (l : List Entry). wave ++ l) none ∙ append-nil wave))))
    (λ (last : long.0 ≡ entry ∷ []).
    let first_is : first ≡ wave ++ entry ∷ [] = long.1 ∙ ap (λ (l : List Entry). wave ++ l) last in
    next_of image scripts cores entered (length its) wave entry rises is
    (subst (λ (l : List ℕ). IsInWave image scripts l (length its) (wave ++ entry ∷ [])) (sym here)
    (subst (λ (w : List Entry). IsInWave image scripts its (length its) w) first_is (over_in image scripts before ran exits first over))))
    (one_front entry long.0 (reach.0 ++ tail) long.2))
    (cut first (reach.0 ++ tail) wave (entry ∷ []) inner)

no_end : (more wave : List Entry) (entry : Entry) → more ++ (wave ++ entry ∷ []) ≡ [] → ⊥
no_end more wave entry is = omega (arith, ap length is, length-append more (wave ++ entry ∷ []), length-append wave (entry ∷ []))

-- the place of this wave goes on from that of another reading
behind : (image : Image) (scripts : List (List Request)) (before : List Entry) (ran : List ℕ) (exits : List Announced) (cores : List ℕ) (entered : ℕ) (wave : List Entry) (entry : Entry)
    (after : List Entry) (after_ran : List ℕ) (after_exits : List Announced) (now_in : List ℕ) (now : ℕ) (tail : List Entry)
    → Grows image scripts after after_ran after_exits before ran exits
    → cores ≡ wave_behind image before ran exits → IsInWave image scripts cores entered wave → Going image scripts cores entered wave
    → now_in ≡ wave_behind image after after_ran after_exits → IsInWave image scripts now_in now tail
    → before ++ (wave ++ entry ∷ []) ≡ after ++ tail → NextOf image scripts cores entered wave entry
behind image scripts _ _ _ cores entered wave entry _ _ _ now_in now tail (stays before ran exits) next is going next' is' same =
    ahead image scripts before ran exits cores entered wave entry before ran exits now_in now tail (stays before ran exits) next is going next' is' same
behind image scripts _ _ _ cores entered wave entry _ _ _ now_in now tail (grows after after_ran after_exits first before ran exits over rest) next is going next' is' same =
    let its = next_wave image after after_ran in
    let there : now_in ≡ its = next' ∙ ap (λ (b : Bool). cores_behind b its) over.taken in
    let reach = reaches image scripts (after ++ first) (after_ran ++ its) _ before ran exits rest in
    let inner : first ++ (reach.0 ++ (wave ++ entry ∷ [])) ≡ tail = inner_of after first reach.0 (wave ++ entry ∷ []) before tail (sym same) reach.1 in
    let full : AllEnded image scripts now_in first = subst (λ (l : List ℕ). AllEnded image scripts l first) (sym there) over.over in
    absurd (no_end reach.0 wave entry
    (over_all image scripts now_in now first (reach.0 ++ (wave ++ entry ∷ [])) full (subst (λ (w : List Entry). IsInWave image scripts now_in now w) (sym inner) is')))

-- what a core of the wave made in all the list, it made in the wave
going_in : (image : Image) (scripts : List (List Request)) (entries : List Entry) (ran : List ℕ) (exits : List Announced) (cores : List ℕ) (entered : ℕ) (begun : IsBegun image scripts entries ran exits cores entered)
    → IsGoing image scripts entries cores entered → Going image scripts cores entered begun.wave
going_in image scripts entries ran exits cores entered begun going = ⊎_elim
    (λ (none : cores ≡ []). inl none)
    (λ rest. inr (⊎_elim
    (λ (low : entered < length cores). inl low)
    (λ last. inr (last.0, last.1, λ over. last.2 (subst (λ (m : List Made). HasEnded image scripts last.0 m) (sym (none_before image scripts entries ran exits cores entered last.0 begun last.1)) over)))
    rest))
    going

pub fronts_go_on : FrontsGoOn
fronts_go_on image scripts entries ran exits cores entered begun going entry answers front =
    let has = fronts_begun image scripts (entries ++ entry ∷ []) answers front in
    let other = has.begun in
    let one_wave = wave_of image scripts entries ran exits cores entered begun in
    let other_wave = wave_of image scripts (entries ++ entry ∷ []) has.ran has.exits has.cores has.entered other in
    let on = going_in image scripts entries ran exits cores entered begun going in
    let same : begun.before ++ (begun.wave ++ entry ∷ []) ≡ other.before ++ other.wave =
    sym (append_assoc begun.before begun.wave (entry ∷ [])) ∙ ap (λ (l : List Entry). l ++ entry ∷ []) (sym begun.split) ∙ other.split in
    let told : NextOf image scripts cores entered begun.wave entry = ⊎_elim
    (λ more. ahead image scripts begun.before ran exits cores entered begun.wave entry other.before has.ran has.exits has.cores has.entered other.wave more begun.next one_wave on other.next other_wave same)
    (λ less. behind image scripts begun.before ran exits cores entered begun.wave entry other.before has.ran has.exits has.cores has.entered other.wave less begun.next one_wave on other.next other_wave same)
    (compare image scripts [] [] [] begun.before ran exits other.before has.ran has.exits (begun.wave ++ entry ∷ []) other.wave
    (all_grow image scripts begun.before ran exits begun.waves begun.whole) (all_grow image scripts other.before has.ran has.exits other.waves other.whole) same) in
    ⊎_elim
    (λ enter. inl enter)
    (λ step. inr (record {
      tree = step.1.1;
      all = step.0;
      among = step.1.0;
      has_entered = subst (λ (m : List Made). HasEntered image scripts entry.core m step.1.1) (sym (none_before image scripts entries ran exits cores entered entry.core begun step.1.0)) step.1.2;
      asks = step.1.3;
    }))
    told

-- THE WHOLE LIST

over_none : (b : Bool) (all : List ℕ) → AreOver b all → cores_behind b all ≡ []
over_none true all over = refl
over_none false all over = over

-- a whole list goes on from the place of this wave
no_whole : (image : Image) (scripts : List (List Request)) (before : List Entry) (ran : List ℕ) (exits : List Announced) (cores : List ℕ) (entered : ℕ) (wave : List Entry)
    (all : List Entry) (all_ran : List ℕ) (all_exits : List Announced) → Grows image scripts before ran exits all all_ran all_exits
    → cores ≡ wave_behind image before ran exits → IsInWave image scripts cores entered wave → Going image scripts cores entered wave → cores ≢ []
    → AreOver (has_refused image all_exits) (next_wave image all all_ran) → before ++ wave ≡ all → ⊥
no_whole image scripts _ _ _ cores entered wave _ _ _ (stays before ran exits) next is going some over same =
    some (next ∙ over_none (has_refused image exits) (next_wave image before ran) over)
no_whole image scripts _ _ _ cores entered wave _ _ _ (grows before ran exits first all all_ran all_exits ended rest) next is going some over same =
    let its = next_wave image before ran in
    let here : cores ≡ its = next ∙ ap (λ (b : Bool). cores_behind b its) ended.taken in
    let reach = reaches image scripts (before ++ first) (ran ++ its) _ all all_ran all_exits rest in
    let inner : first ++ (reach.0 ++ []) ≡ wave = inner_of before first reach.0 [] all wave (same ∙ sym (append-nil all)) reach.1 in
    let full : AllEnded image scripts cores first = subst (λ (l : List ℕ). AllEnded image scripts l first) (sym here) ended.over in
    let nothing : reach.0 ++ [] ≡ [] = over_all image scripts cores entered first (reach.0 ++ []) full (subst (λ (w : List Entry). IsInWave image scripts cores entered w) (sym inner) is) in
    let wave_is : first ≡ wave = sym (append-nil first) ∙ ap (λ (l : List Entry). first ++ l) (sym nothing) ∙ inner in
    not_going image scripts cores entered wave (rising_wave image before ran exits cores next) some is (subst (λ (w : List Entry). AllEnded image scripts cores w) wave_is full) going

-- a wave that is over has entries
some_entries : (image : Image) (scripts : List (List Request)) (before : List Entry) (ran : List ℕ) (exits : List Announced) (wave : List Entry) → IsOverWave image scripts before ran exits wave → length wave ≡ 0 → ⊥
some_entries image scripts before ran exits wave over none =
    over.some (none_long (next_wave image before ran)
    (omega (arith, none, ap length over.is.begin, length-append over.is.first over.is.others, length-map over.is.first (λ (entry : Entry). entry.core), ap length over.is.in_order)))

-- the place of this wave goes on from a whole list
whole_back : (image : Image) (scripts : List (List Request)) (before : List Entry) (ran : List ℕ) (exits : List Announced) (cores : List ℕ) (entered : ℕ) (wave : List Entry)
    (all : List Entry) (all_ran : List ℕ) (all_exits : List Announced) → Grows image scripts all all_ran all_exits before ran exits
    → cores ≡ wave_behind image before ran exits → IsInWave image scripts cores entered wave → Going image scripts cores entered wave → cores ≢ []
    → AreOver (has_refused image all_exits) (next_wave image all all_ran) → before ++ wave ≡ all → ⊥
whole_back image scripts _ _ _ cores entered wave _ _ _ (stays before ran exits) next is going some over same =
    no_whole image scripts before ran exits cores entered wave before ran exits (stays before ran exits) next is going some over same
whole_back image scripts _ _ _ cores entered wave _ _ _ (grows all all_ran all_exits first before ran exits ended rest) next is going some over same =
    let reach = reaches image scripts (all ++ first) (all_ran ++ next_wave image all all_ran) _ before ran exits rest in
    some_entries image scripts all all_ran all_exits first ended
    (omega (arith, ap length same, length-append before wave, ap length reach.1, length-append (all ++ first) reach.0, length-append all first))

pub whole_are_gone : WholeAreGone
whole_are_gone image scripts entries ran exits cores entered begun going some answers runs ordered =
    let wave = wave_of image scripts entries ran exits cores entered begun in
    let on = going_in image scripts entries ran exits cores entered begun going in
    ⊎_elim
    (λ more. no_whole image scripts begun.before ran exits cores entered begun.wave entries ordered.ran ordered.exits more begun.next wave on some ordered.over (sym begun.split))
    (λ less. whole_back image scripts begun.before ran exits cores entered begun.wave entries ordered.ran ordered.exits less begun.next wave on some ordered.over (sym begun.split))
    (compare image scripts [] [] [] begun.before ran exits entries ordered.ran ordered.exits begun.wave []
    (all_grow image scripts begun.before ran exits begun.waves begun.whole)
    (all_grow image scripts entries ordered.ran ordered.exits ordered.waves (all_ended image scripts entries runs ordered answers)) (sym begun.split ∙ sym (append-nil entries)))

pub none_are_left : NoneAreLeft
none_are_left image scripts entries ran exits begun =
    let same : begun.before ≡ entries = sym (begun.split ∙ ap (λ (l : List Entry). begun.before ++ l) (no_cores begun.wave begun.of_cores) ∙ append-nil begun.before) in
    ended_order image scripts entries ran exits [] begun (λ core among. absurd (cc))
    (subst (λ (l : List ℕ). wave_behind image entries l exits ≡ []) (sym (append-nil ran))
    (subst (λ (l : List Entry). wave_behind image l ran exits ≡ []) same (sym begun.next)))

-- THE PLACE OF A WAVE

ran_grow : (image : Image) (scripts : List (List Request)) (before : List Entry) (ran : List ℕ) (exits : List Announced) (after : List Entry) (after_ran : List ℕ) (after_exits : List Announced)
    → Grows image scripts before ran exits after after_ran after_exits → length ran ≤ length after_ran
ran_grow image scripts _ _ _ _ _ _ (stays before ran exits) = omega arith
ran_grow image scripts _ _ _ _ _ _ (grows before ran exits first after after_ran after_exits over rest) =
    omega (arith, ran_grow image scripts (before ++ first) (ran ++ next_wave image before ran) _ after after_ran after_exits rest, length-append ran (next_wave image before ran))

same_place : (image : Image) (scripts : List (List Request)) (before : List Entry) (ran : List ℕ) (exits : List Announced) (after : List Entry) (after_ran : List ℕ) (after_exits : List Announced)
    → Grows image scripts before ran exits after after_ran after_exits → after_ran ≡ ran → after ≡ before
same_place image scripts _ _ _ _ _ _ (stays before ran exits) same = refl
same_place image scripts _ _ _ _ _ _ (grows before ran exits first after after_ran after_exits over rest) same =
    absurd (over.some (none_long (next_wave image before ran)
    (omega (arith, ap length same, ran_grow image scripts (before ++ first) (ran ++ next_wave image before ran) _ after after_ran after_exits rest, length-append ran (next_wave image before ran)))))

pub begins_are_one : BeginsAreOne
begins_are_one image scripts entries more ran exits cores entered now_in now one other =
    let same : one.before ++ (one.wave ++ more) ≡ other.before ++ other.wave =
    sym (append_assoc one.before one.wave more) ∙ ap (λ (l : List Entry). l ++ more) (sym one.split) ∙ other.split in
    ⊎_elim
    (λ on. same_place image scripts one.before ran exits other.before ran exits on refl)
    (λ back. sym (same_place image scripts other.before ran exits one.before ran exits back refl))
    (compare image scripts [] [] [] one.before ran exits other.before ran exits (one.wave ++ more) other.wave
    (all_grow image scripts one.before ran exits one.waves one.whole) (all_grow image scripts other.before ran exits other.waves other.whole) same)

pub entered_are_one : EnteredAreOne
entered_are_one image scripts core made one other here there =
    sym (leads_on image scripts core made [] one other here (subst (λ (m : List Made). HasEntered image scripts core m other) (sym (append-nil made)) there))

-- A WAVE FROM ITS BEGIN

at_begin : (image : Image) (scripts : List (List Request)) (entries : List Entry) (ran : List ℕ) (exits : List Announced) (cores : List ℕ) (begun : IsBegun image scripts entries ran exits cores 0) → begun.before ≡ entries
at_begin image scripts entries ran exits cores begun =
    let none : begun.wave ≡ [] = no_cores begun.wave (subst (λ (l : List ℕ). IsTrue (list_all (λ (entry : Entry). is_among entry.core l) begun.wave)) (take_none cores) begun.of_cores) in
    sym (begun.split ∙ ap (λ (l : List Entry). begun.before ++ l) none ∙ append-nil begun.before)

pub new_made_none : NewMadeNone
new_made_none image scripts entries ran exits cores begun core among =
    ap (made_by core) (sym (at_begin image scripts entries ran exits cores begun))
    ∙ none_of_waves image begun.before ran exits core begun.waves
    (λ old. fresh_behind image begun.before ran exits core (subst (λ (l : List ℕ). is_among core l ≡ true) begun.next among) old)

pub wave_fills : WaveFills
wave_fills image scripts entries ran exits cores begun entered wave is =
    let same = at_begin image scripts entries ran exits cores begun in
    let on : IsBegun image scripts (entries ++ wave) ran exits cores entered = record {
      before = entries;
      wave = wave;
      first = is.first;
      others = is.others;
      split = refl;
      waves = subst (λ (l : List Entry). AreWaves image l ran exits) same begun.waves;
      whole = λ core among. subst (λ (l : List Entry). HasEnded image scripts core (made_by core l)) same (begun.whole core among);
      next = subst (λ (l : List Entry). cores ≡ wave_behind image l ran exits) same begun.next;
      begin = is.begin;
      in_order = is.in_order;
      enter_steps = is.enter_steps;
      within = is.within;
      waiting = is.waiting;
      of_cores = is.of_cores;
      each = is.each;
    } in
    (on, refl, refl)

pub wave_is_over : WaveIsOver
wave_is_over image scripts entries ran exits cores begun wave is over =
    let fills = wave_fills image scripts entries ran exits cores begun (length cores) wave is in
    let told : exits_behind image exits cores fills.0.before fills.0.wave ≡ exits_behind image exits cores entries wave =
    ap (λ (l : List Entry). exits_behind image exits cores l fills.0.wave) fills.1 ∙ ap (λ (l : List Entry). exits_behind image exits cores entries l) fills.2 in
    let ends : (core : ℕ) → is_among core cores ≡ true → HasEnded image scripts core (made_by core (entries ++ wave)) =
    λ core among. subst (λ (m : List Made). HasEnded image scripts core m)
    (sym (made_append core entries wave ∙ ap (λ (m : List Made). m ++ made_by core wave) (new_made_none image scripts entries ran exits cores begun core among)))
    (over core among) in
    subst (λ (e : List Announced). IsBegun image scripts (entries ++ wave) (ran ++ cores) e (wave_behind image (entries ++ wave) (ran ++ cores) e) 0) told
    (wave_goes_on image scripts (entries ++ wave) ran exits cores fills.0 ends)
