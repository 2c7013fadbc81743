-- The image of a last state is sound and can be written.
use Rattle.std.proofs.Common.{◌≡◌, ◌≢◌, ℕ, zero, suc, ◌+◌, ◌*◌, ◌/◌, ◌%◌, ◌-◌, ◌^◌, ◌<◌, ◌≤◌, Bool, true, false, List, [], ◌∷◌, ◌++◌, length, get_or, refl, sym, ap, ◌∙◌, subst, arith, IsTrue, ◌⊎◌, inl, inr, ⊎_elim}
use Rattle.std.specs.Prelude.{⊤, if◌then◌else◌, ◌&&◌, ◌||◌, ◌==◌, not, nat_le, nat_lt, Option, Some, None, map, filter, find, flat_map, count_by, cond}
use Rattle.std.specs.List.{list_all, list_any, range_with_len}
use Rattle.std.specs.Option.{option_map_or}
use Rattle.std.proofs.lemmas.Bool.Decides.{nat_tests}
use Rattle.std.proofs.lemmas.Bool.{eqb-true, eqb-false, eq-eqb, ne_eqb, cases_lt}
use Rattle.std.proofs.lemmas.List.{length-map}
use Rattle.std.proofs.lemmas.List.Sums.{sum_by-cons}
use Rattle.std.proofs.lemmas.List.FromFn.{length-map-range_with_len}
use Rattle.std.proofs.lemmas.Map.Views.{any-filter_same}
use Rattle.svsm_types.specs.Pages.{page_of, region_of, index_of, is_multiple, is_in_map}
use Rattle.svsm_types.specs.declared.address.Page.{Page}
use Rattle.svsm_types.specs.declared.address.Gpa.{Gpa}
use Rattle.svsm_types.specs.declared.image.Image.{Image}
use Rattle.svsm_types.specs.declared.image.Range.{Range}
use Rattle.svsm_types.specs.declared.image.CoreLine.{CoreLine}
use Rattle.svsm_types.specs.declared.owner.Owner.{Owner}
use Rattle.svsm_types.specs.declared.owner.Owner.TheVariants.{Guest, Module, Pool, Vmsa}
use Rattle.svsm_types.specs.declared.platform.HwState.{HwState}
use Rattle.svsm_types.specs.declared.platform.HwState.TheVariants.{Assigned}
use Rattle.svsm_types.specs.declared.platform.Size.{Size}
use Rattle.svsm_types.specs.declared.vcpu.Row.{Row}
use Rattle.svsm_steps.specs.Checks.{same_owner}
use Rattle.svsm_steps.specs.State.{State, Block, page_at, owner_at, word_at}
use Rattle.svsm_steps.specs.Partition.{has_page}
use Rattle.svsm_steps.specs.Words.{as_bit}
use Rattle.svsm_steps.specs.Registry.{of_page}
use Rattle.svsm_steps.specs.Image.{is_in_range, range_of, owner_in, page_in, is_held_large, is_pools, blocks_by_lines, no_region}
use Rattle.svsm_steps.specs.Sound.{IsSound, is_sound_core, is_sound_seat, is_level, has_vmsa, sits_at, HasBlocks, is_sound_block}
use Rattle.image_text.specs.ReadsAgain.{IsWritable, AreOf64Bits, AreFillsOf64Bits}
use Rattle.image_text.specs.Saved.{Saying, saying, range_at, hw_state, saved_ranges, saved_large, saved_fills, is_idle, seat_of, saved_core, saved_block, saved, ranges_from, fills_from}
use Rattle.image_text.specs.Savable.{IsSavable}
use Rattle.image_text.specs.SavedSound.{IsSayable, SavesReadable}
use Rattle.image_text.proofs.SoundLemmas.{both, all_hold, no_page, each_page, none_find, none_any}
use Rattle.image_text.proofs.SavedLemmas.{once, ranges_sound, IsLawful, AllLawful, AllWithin, all_within, none_beyond, FillsWithin, fills_within, fills_sound, fills_words}
use Rattle.image_text.proofs.BootLemmas.{Found, found, back_again, lt_is, lt_true}

abbrev pub sayings : Image → State → List Saying
sayings image state = map (saying image state) (range_with_len 0 (512 * image.regions))

-- RANGES

lawful_map : (image : Image) (state : State) (first count : ℕ) → ((page : ℕ) → first ≤ page → page < first + count → IsLawful (saying image state page)) → AllLawful (map (saying image state) (range_with_len first count))
lawful_map image state first zero h = tt
lawful_map image state first (suc count) h = (h first (omega arith) (omega arith), lawful_map image state (first + 1) count (λ page low high. h page (omega arith) (omega arith)))

pub all_lawful : (image : Image) (state : State) → IsSayable image state → AllLawful (sayings image state)
all_lawful image state s = lawful_map image state 0 (512 * image.regions) (λ page low high. s.lawful page (omega (arith, high)))

pub size_of : (image : Image) (state : State) → length (sayings image state) ≡ 512 * image.regions
size_of image state = length-map-range_with_len (saying image state) 0 (512 * image.regions)

pub past_map : (image : Image) (state : State) → IsSayable image state → (page : ℕ) → 512 * image.regions ≤ page → range_of (saved image state) page ≡ None
past_map image state s page low =
    none_beyond (512 * image.regions) page (saved_ranges image state) (all_within (512 * image.regions) 0 (sayings image state) (omega (arith, size_of image state)) (all_lawful image state s)) low

-- REGIONS HELD AS 2M

filter_by : (test : ℕ → Bool) (x : ℕ) (t : Bool) (rest : List ℕ) → test x ≡ true → list_all test rest ≡ true → list_all test (cond t (x ∷ rest) rest) ≡ true
filter_by test x true rest e h = all_hold _ _ e h
filter_by test x false rest e h = h

all_filter : (test p : ℕ → Bool) (xs : List ℕ) → list_all test xs ≡ true → list_all test (filter p xs) ≡ true
all_filter test p [] h = refl
all_filter test p (x ∷ xs) h =
    let s = both (test x) (list_all test xs) h in
    filter_by test x (p x) (filter p xs) s.0 (all_filter test p xs s.1)

pub large_below : (image : Image) (state : State) → list_all (λ region. nat_lt region image.regions) (saved_large image state) ≡ true
large_below image state =
    all_filter (λ region. nat_lt region image.regions) (λ region. (state.regions region).hw.large) (range_with_len 0 image.regions)
    (each_page (λ region. nat_lt region image.regions) 0 image.regions (λ region low high. lt_true region image.regions (omega (arith, high))))

pub record Held (image : Image) (state : State) (r : ℕ) : Type 0 where
  pub low : r < image.regions
  pub large : (state.regions r).hw.large ≡ true

not_listed : (first count r : ℕ) → first + count ≤ r → list_any (λ number. number == r) (range_with_len first count) ≡ false
not_listed first count r low = no_page (λ number. number == r) first count (λ number from to. ne_eqb number r (λ e. omega (arith, e, low, to)))

held_low : (regions r : ℕ) → list_any (λ number. number == r) (range_with_len 0 regions) ≡ true → (r < regions) ⊎ (regions ≤ r) → r < regions
held_low regions r h (inl low) = low
held_low regions r h (inr high) = let no : false ≡ true = sym (not_listed 0 regions r (omega (arith, high))) ∙ h in cc

pub held_is : (image : Image) (state : State) (r : ℕ) → is_held_large (saved image state) r ≡ true → Held image state r
held_is image state r h =
    let e = any-filter_same (λ number. number == r) (λ region. (state.regions region).hw.large) (state.regions r).hw.large (λ k e. ap (λ (n : ℕ). (state.regions n).hw.large) (eqb-true k r e)) (range_with_len 0 image.regions) in
    let b = both (state.regions r).hw.large (list_any (λ number. number == r) (range_with_len 0 image.regions)) (sym e ∙ h) in
    record { low = held_low image.regions r b.1 (cases_lt r image.regions); large = b.0 }

pub page_low : (page regions : ℕ) → region_of page < regions → page < 512 * regions
page_low page regions low = omega (arith, low)

-- a page of a 2M region is not the GHCB page
not_the_ghcb : (image : Image) (state : State) → IsSayable image state → (page : ℕ) → (state.regions (region_of page)).hw.large ≡ true → page ≢ image.ghcb.0
not_the_ghcb image state s page large e = let no : false ≡ true = sym s.savable.ghcb_small ∙ ap (λ (p : ℕ). (state.regions (region_of p)).hw.large) (sym e) ∙ large in cc

page_said : (image : Image) (state : State) → IsSayable image state → (page : ℕ) → page < 512 * image.regions → page ≢ image.ghcb.0 → page_in (range_of (saved image state) page) ≡ page_at page state
page_said image state s page low ne = (found image state page low).page ∙ sym (s.savable.pages page low ne)

pub uniform_owner : (image : Image) (state : State) → IsSayable image state → (page other : ℕ) → is_held_large (saved image state) (region_of page) ≡ true → region_of page ≡ region_of other
    → owner_in (range_of (saved image state) page) ≡ owner_in (range_of (saved image state) other)
uniform_owner image state s page other h same =
    let k = held_is image state (region_of page) h in
    let low = page_low page image.regions k.low in
    let low_other = page_low other image.regions (subst (λ (n : ℕ). n < image.regions) same k.low) in
    (found image state page low).owner ∙ s.owners page other k.large same ∙ sym (found image state other low_other).owner

pub uniform_state : (image : Image) (state : State) → IsSayable image state → (page other : ℕ) → is_held_large (saved image state) (region_of page) ≡ true → region_of page ≡ region_of other
    → page_in (range_of (saved image state) page) ≡ page_in (range_of (saved image state) other)
uniform_state image state s page other h same =
    let k = held_is image state (region_of page) h in
    let low = page_low page image.regions k.low in
    let low_other = page_low other image.regions (subst (λ (n : ℕ). n < image.regions) same k.low) in
    let large_other = ap (λ (n : ℕ). (state.regions n).hw.large) (sym same) ∙ k.large in
    page_said image state s page low (not_the_ghcb image state s page k.large)
    ∙ s.states page other k.large same
    ∙ sym (page_said image state s other low_other (not_the_ghcb image state s other large_other))

-- THE GHCB PAGE

pub ghcb_said : (image : Image) (state : State) → IsSayable image state
    → page_in (range_of (saved image state) image.ghcb.0) ≡ page_in (Some (range_at 0 0 (record { owner = owner_at image.ghcb.0 state; state = Assigned; rights = (saying image state image.ghcb.0).rights })))
ghcb_said image state s =
    let ghcb = image.ghcb.0 in
    (found image state ghcb s.savable.ghcb).page
    ∙ ap (λ (t : Bool). page_in (Some (range_at 0 0 (record { owner = owner_at ghcb state; state = if t then Assigned else hw_state (page_at ghcb state); rights = (saying image state ghcb).rights })))) (eq-eqb ghcb ghcb refl)

-- CORES

pub count_map : {A B : Type 0} (test : B → Bool) (f : A → B) (xs : List A) → count_by test (map f xs) ≡ count_by (λ x. test (f x)) xs
count_map test f [] = refl
count_map test f (x ∷ xs) =
    sum_by-cons (λ y. cond (test y) 1 0) (f x) (map f xs)
    ∙ ap (λ (n : ℕ). cond (test (f x)) 1 0 + n) (count_map test f xs)
    ∙ sym (sum_by-cons (λ y. cond (test (f y)) 1 0) x xs)

cond_less : (t u : Bool) → (t ≡ true → u ≡ true) → cond t 1 0 ≤ cond u 1 0
cond_less true u h = subst (λ (v : Bool). 1 ≤ cond v 1 0) (sym (h refl)) (omega arith)
cond_less false u h = omega arith

pub count_less : {A : Type 0} (p q : A → Bool) (xs : List A) → ((x : A) → p x ≡ true → q x ≡ true) → count_by p xs ≤ count_by q xs
count_less p q [] h = omega arith
count_less p q (x ∷ xs) h =
    omega (
      arith,
      sum_by-cons (λ y. cond (p y) 1 0) x xs,
      sum_by-cons (λ y. cond (q y) 1 0) x xs,
      count_less p q xs h,
      cond_less (p x) (q x) (h x),
    )

seat_by : (regions : ℕ) (t : Bool) (x : Row) (rest : Option Row) → is_sound_seat regions (Some (x.page, x.caa)) ≡ true
    → is_sound_seat regions (option_map_or (λ (row : Row). Some (row.page, row.caa)) rest None) ≡ true
    → is_sound_seat regions (option_map_or (λ (row : Row). Some (row.page, row.caa)) (cond t (Some x) rest) None) ≡ true
seat_by regions true x rest e h = e
seat_by regions false x rest e h = h

seat_sound : (regions apic : ℕ) (rows : List Row) → list_all (λ (row : Row). is_sound_seat regions (Some (row.page, row.caa))) rows ≡ true → is_sound_seat regions (seat_of apic rows) ≡ true
seat_sound regions apic [] h = refl
seat_sound regions apic (x ∷ rows) h =
    let s = both (is_sound_seat regions (Some (x.page, x.caa))) (list_all (λ (row : Row). is_sound_seat regions (Some (row.page, row.caa))) rows) h in
    seat_by regions (x.apic == apic && is_idle x.state) x (find (λ (row : Row). row.apic == apic && is_idle row.state) rows) s.0 (seat_sound regions apic rows s.1)

pub cores_sound : (regions : ℕ) (cores : List CoreLine) (rows : List Row) → list_all (is_sound_core regions) cores ≡ true → list_all (λ (row : Row). is_sound_seat regions (Some (row.page, row.caa))) rows ≡ true
    → list_all (is_sound_core regions) (map (saved_core rows) cores) ≡ true
cores_sound regions [] rows h k = refl
cores_sound regions (core ∷ cores) rows h k =
    let s = both (is_sound_core regions core) (list_all (is_sound_core regions) cores) h in
    let a = both (nat_lt core.apic (2 ^ 32)) (is_sound_seat regions core.seat) s.0 in
    all_hold _ _ (all_hold _ _ a.0 (seat_sound regions core.apic rows k)) (cores_sound regions cores rows s.1 k)

pub levels_same : (image : Image) (cores : List CoreLine) (rows : List Row) → list_all (λ (core : CoreLine). is_level image core.vmpl) cores ≡ true
    → list_all (λ (core : CoreLine). is_level image core.vmpl) (map (saved_core rows) cores) ≡ true
levels_same image [] rows h = refl
levels_same image (core ∷ cores) rows h =
    let s = both (is_level image core.vmpl) (list_all (λ (core : CoreLine). is_level image core.vmpl) cores) h in
    all_hold _ _ s.0 (levels_same image cores rows s.1)
