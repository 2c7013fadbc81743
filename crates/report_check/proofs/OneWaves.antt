-- One list of entries is waves in one way, so its exits are told by the entries.
use Rattle.std.proofs.Common.{◌≡◌, ◌≢◌, ℕ, zero, suc, ◌+◌, ◌<◌, Bool, true, false, List, [], ◌∷◌, ◌++◌, length, refl, sym, ◌∙◌, ap, arith, subst, inl, inr, ◌⊎◌, ⊎_elim, map, length-append}
use Rattle.std.specs.Prelude.{IsTrue, ◌==◌, ◌&&◌}
use Rattle.std.specs.List.{list_all}
use Rattle.std.proofs.lemmas.List.{append-nil}
use Rattle.svsm_types.specs.declared.image.Image.{Image}
use Rattle.svsm_steps.specs.declared.entry.Entry.{Entry}
use Rattle.svsm_steps.specs.Made.{Made, made_of, made_by}
use Rattle.svsm_steps.specs.Announced.{Announced}
use Rattle.svsm_calls.specs.Waves.{is_among, next_wave, exits_of, IsWave, AreWaves, none, one_more}
use Rattle.run_trees.proofs.WaveTrees.{made_append, fresh, left, right, either}
use Rattle.run_trees.proofs.FrontTrees.{mine, others', none_of_waves}

-- LISTS

-- a list that is cut twice: one front is a begin of the other
abbrev Cut : List Entry → List Entry → List Entry → List Entry → Type 0
Cut one more front back =
    ((between : List Entry) × (front ≡ one ++ between) × (more ≡ between ++ back))
    ⊎ ((between : List Entry) × (one ≡ front ++ between) × (back ≡ between ++ more))

tails : (x y : Entry) (xs ys : List Entry) → x ∷ xs ≡ y ∷ ys → (x ≡ y) × (xs ≡ ys)
tails x y xs ys is = (cc, cc)

cut : (one more front back : List Entry) → one ++ more ≡ front ++ back → Cut one more front back
cut [] more front back is = inl (front, refl, is)
cut (x ∷ one) more [] back is = inr (x ∷ one, refl, sym is)
cut (x ∷ one) more (y ∷ front) back is =
    let parts = tails x y (one ++ more) (front ++ back) is in
    ⊎_elim
    (λ short. inl (short.0, ap (λ (l : List Entry). y ∷ l) short.1 ∙ ap (λ (a : Entry). a ∷ (one ++ short.0)) (sym parts.0), short.2))
    (λ long. inr (long.0, ap (λ (l : List Entry). x ∷ l) long.1 ∙ ap (λ (a : Entry). a ∷ (front ++ long.0)) parts.0, long.2))
    (cut one more front back parts.1)

-- both parts of a list hold what all of it holds
all_front : (test : Entry → Bool) (one other : List Entry) → IsTrue (list_all test (one ++ other)) → IsTrue (list_all test one)
all_front test [] other is = refl
all_front test (entry ∷ one) other is =
    ap (λ (b : Bool). b && list_all test one) (left (test entry) (list_all test (one ++ other)) is) ∙ all_front test one other (right (test entry) (list_all test (one ++ other)) is)

all_back : (test : Entry → Bool) (one other : List Entry) → IsTrue (list_all test (one ++ other)) → IsTrue (list_all test other)
all_back test [] other is = is
all_back test (entry ∷ one) other is = all_back test one other (right (test entry) (list_all test (one ++ other)) is)

-- a list that is not empty has a first entry
abbrev First : List Entry → Type 0
First entries = (entry : Entry) × (rest : List Entry) × (entries ≡ entry ∷ rest)

first_of : (entries : List Entry) → entries ≢ [] → First entries
first_of [] some = absurd (some refl)
first_of (entry ∷ rest) some = (entry, rest, refl)

-- and it is of a core of which all are
first_core : (cores : List ℕ) (entries : List Entry) (first : First entries) → IsTrue (list_all (λ (entry : Entry). is_among entry.core cores) entries) → is_among first.0.core cores ≡ true
first_core cores entries first all =
    left (is_among first.0.core cores) (list_all (λ (entry : Entry). is_among entry.core cores) first.1)
    (subst (λ (l : List Entry). IsTrue (list_all (λ (entry : Entry). is_among entry.core cores) l)) first.2 all)

-- nothing made in a list is nothing made in its parts
no_front : (one other : List Made) → one ++ other ≡ [] → one ≡ []
no_front [] other is = refl
no_front (m ∷ one) other is = absurd (cc)

no_back : (one other : List Made) → one ++ other ≡ [] → other ≡ []
no_back [] other is = is
no_back (m ∷ one) other is = absurd (cc)

none_first : (core : ℕ) (one other : List Entry) → made_by core (one ++ other) ≡ [] → made_by core one ≡ []
none_first core one other is = no_front (made_by core one) (made_by core other) (sym (made_append core one other) ∙ is)

none_last : (core : ℕ) (one other : List Entry) → made_by core (one ++ other) ≡ [] → made_by core other ≡ []
none_last core one other is = no_back (made_by core one) (made_by core other) (sym (made_append core one other) ∙ is)

-- WAVES

made_here : (core : ℕ) (entry : Entry) (entries : List Entry) (t : Bool) → (entry.core == core) ≡ t
    → (is_among core (map (λ (e : Entry). e.core) entries) ≡ true → made_by core entries ≢ [])
    → is_among core (entry.core ∷ map (λ (e : Entry). e.core) entries) ≡ true → made_by core (entry ∷ entries) ≢ []
made_here core entry entries true is more among nothing = let some : made_of entry ∷ made_by core entries ≡ [] = sym (mine core entry entries is) ∙ nothing in cc
made_here core entry entries false is more among nothing =
    more (⊎_elim (λ (e : (entry.core == core) ≡ true). absurd (let other : true ≡ false = sym e ∙ is in cc)) (λ (e : is_among core (map (λ (e : Entry). e.core) entries) ≡ true). e)
    (either (entry.core == core) (is_among core (map (λ (e : Entry). e.core) entries)) among))
    (sym (others' core entry entries is) ∙ nothing)

-- a core whose number is among those of entries made a step
made_some : (core : ℕ) (entries : List Entry) → is_among core (map (λ (e : Entry). e.core) entries) ≡ true → made_by core entries ≢ []
made_some core [] among = absurd (cc)
made_some core (entry ∷ entries) among = made_here core entry entries (entry.core == core) refl (made_some core entries) among

-- each core of a wave made a step
wave_made : (image : Image) (cores : List ℕ) (wave : List Entry) (core : ℕ) → IsWave image cores wave → is_among core cores ≡ true → made_by core wave ≢ []
wave_made image cores wave core is among nothing =
    made_some core is.first (subst (λ (l : List ℕ). is_among core l ≡ true) (sym is.in_order) among)
    (none_first core is.first is.others (ap (made_by core) (sym is.begin) ∙ nothing))

-- and a wave of some cores has entries
no_firsts : (first others : List Entry) → [] ≡ first ++ others → first ≡ []
no_firsts [] others is = refl
no_firsts (entry ∷ first) others is = absurd (cc)

wave_some : (image : Image) (cores : List ℕ) (wave : List Entry) → IsWave image cores wave → cores ≢ [] → wave ≢ []
wave_some image cores wave is some empty =
    some (sym is.in_order ∙ ap (map (λ (entry : Entry). entry.core)) (no_firsts is.first is.others (sym empty ∙ is.begin)))

-- some entries behind make a list longer
longer : (front back : List Entry) (n : ℕ) → back ≢ [] → length (front ++ back) < suc n → length front < n
longer front back n some short =
    let first = first_of back some in
    let whole : length (front ++ back) ≡ length front + suc (length first.1) = length-append front back ∙ ap (λ (l : List Entry). length front + length l) first.2 in
    omega (arith, whole, short)

-- ONE WAY

-- shorter lists are waves in one way
abbrev OneWay : Image → ℕ → Type 0
OneWay image n =
    (one other : List Entry) (ran others : List ℕ) (exits told : List Announced) → length one < n → one ≡ other → AreWaves image one ran exits
    → AreWaves image other others told → (ran ≡ others) × (exits ≡ told)

-- whole waves, and entries of a wave more in which one of its cores made nothing, are no whole waves
abbrev NoWay : Image → ℕ → Type 0
NoWay image n =
    (front more all : List Entry) (ran others : List ℕ) (exits told : List Announced) (core : ℕ) → length all < n → all ≡ front ++ more
    → AreWaves image front ran exits → AreWaves image all others told → more ≢ []
    → IsTrue (list_all (λ (entry : Entry). is_among entry.core (next_wave image front ran)) more) → is_among core (next_wave image front ran) ≡ true
    → made_by core all ≡ [] → ⊥

abbrev Both : Image → ℕ → Type 0
Both image n = OneWay image n × NoWay image n

-- a core of the wave behind waves made nothing in them
none_yet : (image : Image) (front : List Entry) (ran : List ℕ) (exits : List Announced) (core : ℕ) → AreWaves image front ran exits
    → is_among core (next_wave image front ran) ≡ true → made_by core front ≡ []
none_yet image front ran exits core waves among = none_of_waves image front ran exits core waves (fresh image front ran core among)

-- the last wave of both begins at one place
no_same : (image : Image) (n : ℕ) → Both image n → (front before wave : List Entry) (ran others cores : List ℕ) (exits told : List Announced) (core : ℕ)
    → length front < n → front ≡ before → AreWaves image front ran exits → AreWaves image before others told → cores ≡ next_wave image before others
    → IsWave image cores wave → is_among core (next_wave image front ran) ≡ true → made_by core wave ≡ [] → ⊥
no_same image n both front before wave ran others cores exits told core short same one other next is among nothing =
    let ways = both.0 front before ran others exits told short same one other in
    let cores_are : next_wave image front ran ≡ cores =
    ap (λ (l : List Entry). next_wave image l ran) same ∙ ap (next_wave image before) ways.0 ∙ sym next in
    wave_made image cores wave core is (subst (λ (l : List ℕ). is_among core l ≡ true) cores_are among) nothing

-- it begins later in the longer list
no_later : (image : Image) (n : ℕ) → Both image n → (front more before wave between : List Entry) (ran others cores : List ℕ) (exits told : List Announced) (core : ℕ)
    → length (before ++ wave) < suc n → before ≡ front ++ between → more ≡ between ++ wave → AreWaves image front ran exits → AreWaves image before others told
    → cores ≡ next_wave image before others → cores ≢ [] → IsWave image cores wave
    → IsTrue (list_all (λ (entry : Entry). is_among entry.core (next_wave image front ran)) more)
    → is_among core (next_wave image front ran) ≡ true → made_by core (before ++ wave) ≡ [] → ⊥
no_later image n both front more before wave [] ran others cores exits told core short whole rest one other next some is all among nothing =
    let same : front ≡ before = sym (append-nil front) ∙ sym whole in
    no_same image n both front before wave ran others cores exits told core
    (subst (λ (l : List Entry). length l < n) (sym same) (longer before wave n (wave_some image cores wave is some) short)) same one other next is among (none_last core before wave nothing)
no_later image n both front more before wave (entry ∷ between) ran others cores exits told core short whole rest one other next some is all among nothing =
    both.1 front (entry ∷ between) before ran others exits told core (longer before wave n (wave_some image cores wave is some) short) whole one other (λ e. cc)
    (all_front (λ (entry : Entry). is_among entry.core (next_wave image front ran)) (entry ∷ between) wave
    (subst (λ (l : List Entry). IsTrue (list_all (λ (entry : Entry). is_among entry.core (next_wave image front ran)) l)) rest all))
    among (none_first core before wave nothing)

-- it begins earlier
no_earlier : (image : Image) (n : ℕ) → Both image n → (front more before wave between : List Entry) (ran others cores : List ℕ) (exits told : List Announced) (core : ℕ)
    → length (before ++ wave) < suc n → before ++ wave ≡ front ++ more → front ≡ before ++ between → wave ≡ between ++ more → AreWaves image front ran exits
    → AreWaves image before others told
    → cores ≡ next_wave image before others → cores ≢ [] → IsWave image cores wave → more ≢ []
    → IsTrue (list_all (λ (entry : Entry). is_among entry.core (next_wave image front ran)) more)
    → is_among core (next_wave image front ran) ≡ true → made_by core (before ++ wave) ≡ [] → ⊥
no_earlier image n both front more before wave [] ran others cores exits told core short cuts whole rest one other next some is nonempty all among nothing =
    no_same image n both front before wave ran others cores exits told core
    (longer front more n nonempty (subst (λ (l : List Entry). length l < suc n) cuts short)) (whole ∙ append-nil before) one other next is among (none_last core before wave nothing)
no_earlier image n both front more before wave (entry ∷ between) ran others cores exits told core short cuts whole rest one other next some is nonempty all among nothing =
    let first = first_of more nonempty in
    let its : is_among first.0.core (next_wave image front ran) ≡ true = first_core (next_wave image front ran) more first all in
    let of_wave : IsTrue (list_all (λ (entry : Entry). is_among entry.core (next_wave image before others)) ((entry ∷ between) ++ more)) =
    subst (λ (l : List Entry). IsTrue (list_all (λ (entry : Entry). is_among entry.core (next_wave image before others)) l)) rest
    (subst (λ (l : List ℕ). IsTrue (list_all (λ (entry : Entry). is_among entry.core l) wave)) next is.of_cores) in
    both.1 before (entry ∷ between) front others ran told exits first.0.core
    (longer front more n nonempty (subst (λ (l : List Entry). length l < suc n) cuts short)) whole other one (λ e. cc)
    (all_front (λ (entry : Entry). is_among entry.core (next_wave image before others)) (entry ∷ between) more of_wave)
    (first_core (next_wave image before others) more first
    (all_back (λ (entry : Entry). is_among entry.core (next_wave image before others)) (entry ∷ between) more of_wave))
    (none_yet image front ran exits first.0.core one its)

no_way : (image : Image) (n : ℕ) → Both image n → NoWay image (suc n)
no_way image n both front more _ ran _ exits _ core short whole one none nonempty all among nothing =
    nonempty (no_mores front more whole)
  where
    no_mores : (front more : List Entry) → [] ≡ front ++ more → more ≡ []
    no_mores [] more is = sym is
    no_mores (entry ∷ front) more is = absurd (cc)
no_way image n both front more _ ran _ exits _ core short whole one (one_more before others cores wave told other taken next some is) nonempty all among nothing =
    ⊎_elim
    (λ late. no_later image n both front more before wave late.0 ran others cores exits told core short late.1 late.2 one other next some is all among nothing)
    (λ early. no_earlier image n both front more before wave early.0 ran others cores exits told core short whole early.1 early.2 one other next some is nonempty all among nothing)
    (cut front more before wave (sym whole))

-- two last waves, the second of which begins no earlier
one_last : (image : Image) (n : ℕ) → Both image n → (front wave before last between : List Entry) (ran others cores ends : List ℕ) (exits told : List Announced)
    → length (before ++ last) < suc n → before ≡ front ++ between → wave ≡ between ++ last → AreWaves image front ran exits → AreWaves image before others told
    → cores ≡ next_wave image front ran → IsWave image cores wave → ends ≡ next_wave image before others → ends ≢ [] → IsWave image ends last
    → (ran ++ cores ≡ others ++ ends) × (exits ++ exits_of image front wave ≡ told ++ exits_of image before last)
one_last image n both front wave before last [] ran others cores ends exits told short whole rest one other next is next' some is' =
    let same : front ≡ before = sym (append-nil front) ∙ sym whole in
    let ways = both.0 front before ran others exits told
    (subst (λ (l : List Entry). length l < n) (sym same) (longer before last n (wave_some image ends last is' some) short)) same one other in
    let cores_are : cores ≡ ends = next ∙ ap (λ (l : List Entry). next_wave image l ran) same ∙ ap (next_wave image before) ways.0 ∙ sym next' in (
      ap (λ (l : List ℕ). l ++ cores) ways.0 ∙ ap (λ (l : List ℕ). others ++ l) cores_are,
      ap (λ (l : List Announced). l ++ exits_of image front wave) ways.1 ∙ ap (λ (l : List Entry). told ++ exits_of image l wave) same
          ∙ ap (λ (l : List Entry). told ++ exits_of image before l) rest,
    )
one_last image n both front wave before last (entry ∷ between) ran others cores ends exits told short whole rest one other next is next' some is' =
    let first = first_of last (wave_some image ends last is' some) in
    let its : is_among first.0.core (next_wave image before others) ≡ true =
    subst (λ (l : List ℕ). is_among first.0.core l ≡ true) next' (first_core ends last first is'.of_cores) in
    let of_wave : IsTrue (list_all (λ (entry : Entry). is_among entry.core (next_wave image front ran)) ((entry ∷ between) ++ last)) =
    subst (λ (l : List Entry). IsTrue (list_all (λ (entry : Entry). is_among entry.core (next_wave image front ran)) l)) rest
    (subst (λ (l : List ℕ). IsTrue (list_all (λ (entry : Entry). is_among entry.core l) wave)) next is.of_cores) in
    absurd (both.1 front (entry ∷ between) before ran others exits told first.0.core
    (longer before last n (wave_some image ends last is' some) short) whole one other (λ e. cc)
    (all_front (λ (entry : Entry). is_among entry.core (next_wave image front ran)) (entry ∷ between) last of_wave)
    (first_core (next_wave image front ran) last first
    (all_back (λ (entry : Entry). is_among entry.core (next_wave image front ran)) (entry ∷ between) last of_wave))
    (none_yet image before others told first.0.core other its))

no_list : (front back : List Entry) → [] ≡ front ++ back → back ≡ []
no_list [] back is = sym is
no_list (entry ∷ front) back is = absurd (cc)

one_way : (image : Image) (n : ℕ) → Both image n → OneWay image (suc n)
one_way image n both _ _ _ _ _ _ short same none none = (refl, refl)
one_way image n both _ _ _ _ _ _ short same none (one_more before others ends last told other taken next some is) =
    absurd (wave_some image ends last is some (no_list before last same))
one_way image n both _ _ _ _ _ _ short same (one_more front ran cores wave exits one taken next some is) none =
    absurd (wave_some image cores wave is some (no_list front wave (sym same)))
one_way image n both _ _ _ _ _ _ short same (one_more front ran cores wave exits one taken next some is) (one_more before others ends last told other taken' next' some' is') =
    ⊎_elim
    (λ late. one_last image n both front wave before last late.0 ran others cores ends exits told (subst (λ (l : List Entry). length l < suc n) same short)
    late.1 late.2 one other next is next' some' is')
    (λ early. let turned = one_last image n both before last front wave early.0 others ran ends cores told exits short early.1 early.2 other one next' is' next some is in
    (sym turned.0, sym turned.1))
    (cut front wave before last same)

both_ways : (image : Image) (n : ℕ) → Both image n
both_ways image zero = (
  λ one other ran others exits told short. absurd (omega (arith, short)),
  λ front more all ran others exits told core short. absurd (omega (arith, short)),
)
both_ways image (suc n) = (one_way image n (both_ways image n), no_way image n (both_ways image n))

pub one_waves : (image : Image) (entries : List Entry) (ran others : List ℕ) (exits told : List Announced) → AreWaves image entries ran exits → AreWaves image entries others told
    → (ran ≡ others) × (exits ≡ told)
one_waves image entries ran others exits told one other =
    (both_ways image (suc (length entries))).0 entries entries ran others exits told (omega arith) refl one other
