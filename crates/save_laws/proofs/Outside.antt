-- Outside the map there is nothing, in any state of a run.
use Rattle.std.proofs.Common.{◌≡◌, ◌≢◌, ℕ, zero, suc, ◌+◌, ◌*◌, ◌/◌, ◌%◌, ◌-◌, ◌<◌, ◌≤◌, Bool, true, false, List, [], ◌∷◌, ◌++◌, refl, sym, ap, ◌∙◌, subst, arith}
use Rattle.std.specs.Prelude.{if◌then◌else◌, ◌==◌, ◌&&◌, nat_lt, nat_le, ⊤}
use Rattle.std.specs.List.{AllByRecursion, list_all, flat_map}
use Rattle.std.proofs.lemmas.Bool.{eqb-true, ltb-true, leb-true, and_parts}
use Rattle.svsm_types.specs.Pages.{region_of, page_of}
use Rattle.svsm_types.specs.declared.image.Image.{Image}
use Rattle.svsm_types.specs.declared.platform.Size.{Size}
use Rattle.svsm_types.specs.declared.platform.Size.TheVariants.{Small, Large}
use Rattle.svsm_steps.specs.declared.answer.Answer.{Answer}
use Rattle.svsm_steps.specs.declared.entry.Entry.{Entry}
use Rattle.svsm_steps.specs.declared.step.Step.{Step}
use Rattle.svsm_steps.specs.declared.step.Step.TheVariants.{GuestWrite, GuestPend, GuestRead, GuestAdjust, HostShare, HostAssign, TakePending, LoadWord, StoreNext, StoreEntry, SetAvail, ClearCaa, Validate, Deposit, Release, VmsaTake, VmsaDrop, PoolPush, PoolPop, Reserve, Commit, Cancel, Retire, Remap, Enter, Leave}
use Rattle.svsm_steps.specs.State.{State, Constants, RegionState}
use Rattle.svsm_steps.specs.Formed.{IsPage, IsSizedPage, IsWellFormed, AreWellFormed}
use Rattle.svsm_steps.specs.Place.{place_of}
use Rattle.svsm_steps.specs.Plan.{Micro, assign, after_all}
use Rattle.svsm_steps.specs.Region.{region_after}
use Rattle.svsm_steps.specs.Machine.{Kind, region, pool, registry, kind, next_by, next, state_after}
use Rattle.svsm_steps.specs.Image.{constants_of, region_in, no_region, image_state, accept, after_at, accepted, small_entries, large_entries, entries_between, accept_entries, booted}
use Rattle.svsm_steps.specs.Sound.{IsSound, is_sound_span}
use Rattle.svsm_types.specs.declared.image.Span.{Span}

abbrev pub Outside : ℕ → State → Type 0
Outside regions state = (number : ℕ) → regions ≤ number → state.regions number ≡ no_region

sized_low : (regions : ℕ) (size : Size) (page : ℕ) → IsSizedPage regions size page → page < 512 * regions
sized_low regions Small page h = h
sized_low regions Large page h = h.0

low_place : (regions page : ℕ) → page < 512 * regions → region_of page < regions
low_place regions page h = omega arith

-- a step of a region is in the map
place_low : (regions : ℕ) (step : Step) → IsWellFormed regions step → kind step ≡ region → place_of regions step < regions
place_low regions (GuestWrite vmpl gpa word) h k = low_place regions (page_of gpa.0) h.1.0
place_low regions (GuestPend vmpl gpa) h k = low_place regions (page_of gpa.0) h.1.0
place_low regions (GuestRead vmpl gpa) h k = low_place regions (page_of gpa.0) h.1.0
place_low regions (GuestAdjust vmpl page target mask) h k = low_place regions page.0 h.1
place_low regions (HostShare page) h k = low_place regions page.0 h
place_low regions (HostAssign page) h k = low_place regions page.0 h
place_low regions (TakePending vmpl gpa) h k = low_place regions (page_of gpa.0) h.1.0
place_low regions (LoadWord vmpl gpa) h k = low_place regions (page_of gpa.0) h.1.0
place_low regions (StoreNext vmpl gpa index) h k = low_place regions (page_of gpa.0) h.1.0
place_low regions (StoreEntry vmpl gpa word) h k = low_place regions (page_of gpa.0) h.1.0
place_low regions (SetAvail vmpl gpa on) h k = low_place regions (page_of gpa.0) h.1.0
place_low regions (ClearCaa vmpl gpa) h k = low_place regions (page_of gpa.0) h.1.0
place_low regions (Validate vmpl page size on) h k = low_place regions page.0 (sized_low regions size page.0 h.1)
place_low regions (Deposit vmpl page size) h k = low_place regions page.0 (sized_low regions size page.0 h.1)
place_low regions (Release vmpl page size) h k = low_place regions page.0 (sized_low regions size page.0 h.1)
place_low regions (VmsaTake vmpl page features) h k = low_place regions page.0 h.1
place_low regions (VmsaDrop vmpl page) h k = low_place regions page.0 h.1
place_low regions (PoolPush page size) h k = cc
place_low regions (PoolPop size) h k = cc
place_low regions (Reserve apic page caa) h k = cc
place_low regions (Commit page) h k = cc
place_low regions (Cancel page) h k = cc
place_low regions (Retire page) h k = cc
place_low regions (Remap apic caa) h k = cc
place_low regions (Enter apic) h k = cc
place_low regions (Leave apic) h k = cc

unless_high : (b : Bool) (k number regions : ℕ) (new old : RegionState) → (k == number) ≡ b → k < regions → regions ≤ number → old ≡ no_region
    → (if b then new else old) ≡ no_region
unless_high true k number regions new old e low high h =
    let same = eqb-true k number e in absurd (omega (arith, same, low, high))
unless_high false k number regions new old e low high h = h

next_outside : (kd : Kind) (constants : Constants) (state : State) (core : ℕ) (step : Step) (answer : Answer) → kind step ≡ kd
    → IsWellFormed constants.regions step → Outside constants.regions state → Outside constants.regions (next_by kd constants state core step answer)
next_outside region constants state core step answer is formed h number high =
    let k : ℕ = place_of constants.regions step in
    unless_high (k == number) k number constants.regions (region_after (state.regions k) step answer) (state.regions number) refl
    (place_low constants.regions step formed is) high (h number high)
next_outside pool constants state core step answer is formed h number high = h number high
next_outside registry constants state core step answer is formed h number high = h number high

pub stays_outside : (constants : Constants) (state : State) (entries : List Entry) → AreWellFormed constants.regions entries
    → Outside constants.regions state → Outside constants.regions (state_after constants state entries)
stays_outside constants state [] formed h = h
stays_outside constants state (entry ∷ entries) formed h =
    stays_outside constants (next constants state entry) entries formed.1
    (next_outside (kind entry.step) constants state entry.core entry.step entry.answer refl formed.0 h)

-- THE SPANS AND THEIR ENTRIES LIE IN THE MAP

abbrev AreIn : ℕ → List Span → Type 0
AreIn n [] = ⊤
AreIn n (span ∷ spans) = (span.first.0 + span.count ≤ n) × AreIn n spans

spans_in : (regions : ℕ) (spans : List Span) → list_all (is_sound_span regions) spans ≡ true → AreIn (512 * regions) spans
spans_in regions [] h = tt
spans_in regions (span ∷ spans) h =
    let one : is_sound_span regions span ≡ true = (and_parts (is_sound_span regions span) (list_all (is_sound_span regions) spans) h).0 in
    let low : nat_le (span.first.0 + span.count) (512 * regions) ≡ true = (and_parts (nat_lt 0 span.count) (nat_le (span.first.0 + span.count) (512 * regions)) one).1 in
    (leb-true (span.first.0 + span.count) (512 * regions) low, spans_in regions spans (and_parts (is_sound_span regions span) (list_all (is_sound_span regions) spans) h).1)

abbrev AreLow : ℕ → List (ℕ × Size) → Type 0
AreLow n entries = AllByRecursion (λ (entry : ℕ × Size). entry.0 < n) entries

low_on : (n : ℕ) (xs ys : List (ℕ × Size)) → AreLow n xs → AreLow n ys → AreLow n (xs ++ ys)
low_on n [] ys h k = k
low_on n (x ∷ xs) ys h k = (h.0, low_on n xs ys h.1 k)

small_low : (n first count : ℕ) → first + count ≤ n → AreLow n (small_entries first count)
small_low n first zero low = tt
small_low n first (suc count) low = (omega (arith, low), small_low n (first + 1) count (omega (arith, low)))

large_low : (n number count : ℕ) → 512 * (number + count) ≤ n → AreLow n (large_entries number count)
large_low n number zero low = tt
large_low n number (suc count) low = (omega (arith, low), large_low n (number + 1) count (omega (arith, low)))

either_low : (b : Bool) (n : ℕ) (xs ys : List (ℕ × Size)) → (b ≡ true → AreLow n xs) → (b ≡ false → AreLow n ys) → AreLow n (if b then xs else ys)
either_low true n xs ys h k = h refl
either_low false n xs ys h k = k refl

own_low : (n first last : ℕ) → first ≤ last → last ≤ n → AreLow n (entries_between first last)
own_low n first last order low =
    let from : ℕ = (first + 511) / 512 in
    let to : ℕ = last / 512 in
    either_low (nat_lt from to) n (small_entries first (512 * from - first) ++ large_entries from (to - from) ++ small_entries (512 * to) (last - 512 * to)) (small_entries first (last - first))
    (λ e.
    let some : (first + 511) / 512 < last / 512 = ltb-true ((first + 511) / 512) (last / 512) e in
    low_on n (small_entries first (512 * from - first) ++ large_entries from (to - from)) (small_entries (512 * to) (last - 512 * to))
    (low_on n (small_entries first (512 * from - first)) (large_entries from (to - from)) (small_low n first (512 * from - first) (omega (arith, low, some))) (large_low n from (to - from) (omega (arith, low, some))))
    (small_low n (512 * to) (last - 512 * to) (omega (arith, low))))
    (λ e. small_low n first (last - first) (omega (arith, order, low)))

abbrev own_of : Span → List (ℕ × Size)
own_of span = entries_between span.first.0 (span.first.0 + span.count)

all_low : (n : ℕ) (spans : List Span) → AreIn n spans → AreLow n (flat_map own_of spans)
all_low n [] h = tt
all_low n (span ∷ spans) h = low_on n (own_of span) (flat_map own_of spans) (own_low n span.first.0 (span.first.0 + span.count) (omega arith) h.0) (all_low n spans h.1)

-- THE BOOT

at_outside : (regions page : ℕ) (micros : List Micro) (state : State) → page < 512 * regions → Outside regions state → Outside regions (after_at page micros state)
at_outside regions page micros state low h number high =
    unless_high (region_of page == number) (region_of page) number regions (after_all micros (state.regions (region_of page))) (state.regions number) refl
    (low_place regions page low) high (h number high)

accepted_outside : (regions vmpl : ℕ) (entries : List (ℕ × Size)) (state : State) → AllByRecursion (λ (entry : ℕ × Size). entry.0 < 512 * regions) entries
    → Outside regions state → Outside regions (accepted vmpl entries state)
accepted_outside regions vmpl [] state low h = h
accepted_outside regions vmpl (entry ∷ entries) state low h =
    accepted_outside regions vmpl entries (after_at entry.0 (accept vmpl entry) state) low.1 (at_outside regions entry.0 (accept vmpl entry) state low.0 h)

first_by : (b : Bool) (image : Image) (number : ℕ) → nat_lt number image.regions ≡ b → image.regions ≤ number
    → (if b then region_in image number else no_region) ≡ no_region
first_by true image number e high = let low = ltb-true number image.regions e in absurd (omega (arith, low, high))
first_by false image number e high = refl

pub booted_outside : (image : Image) → IsSound image
    → Outside image.regions (booted image)
booted_outside image sound =
    let low = all_low (512 * image.regions) image.accepts (spans_in image.regions image.accepts sound.spans) in
    accepted_outside image.regions image.vmpl.0 (accept_entries image) (after_at image.ghcb.0 (assign Small image.ghcb.0 false ∷ []) (image_state image)) low
    (at_outside image.regions image.ghcb.0 (assign Small image.ghcb.0 false ∷ []) (image_state image)
    (ltb-true image.ghcb.0 (512 * image.regions) sound.ghcb)
    (λ number high. first_by (nat_lt number image.regions) image number refl high))
