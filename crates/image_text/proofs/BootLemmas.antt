-- The image of a last state boots into it.
use Rattle.std.proofs.Common.{◌≡◌, ◌≢◌, ℕ, zero, suc, ◌+◌, ◌*◌, ◌/◌, ◌%◌, ◌-◌, ◌<◌, ◌≤◌, Bool, true, false, List, [], ◌∷◌, ◌++◌, length, get_or, set, refl, sym, ap, ◌∙◌, subst, arith, IsTrue, get_or-set_same, get_or-set_other}
use Rattle.std.specs.Prelude.{⊤, if◌then◌else◌, ◌&&◌, ◌||◌, ◌==◌, not, nat_le, nat_lt, Option, Some, None, map, filter, find, flat_map, count_by, cond, slice_index_or, slice_set}
use Rattle.std.specs.List.{list_all, list_any, range_with_len}
use Rattle.std.specs.Option.{option_map_or}
use Rattle.std.proofs.lemmas.Bool.Decides.{nat_tests}
use Rattle.std.proofs.lemmas.Bool.{eqb-true, eqb-false, eq-eqb, ne_eqb}
use Rattle.std.proofs.lemmas.List.{ext_get_or, length-map, length-set}
use Rattle.std.proofs.lemmas.List.Concat.{flat_map-cons}
use Rattle.std.proofs.lemmas.List.FromFn.{length-map-range_with_len, get_or-map-range_with_len}
use Rattle.std.proofs.lemmas.List.Sums.{sum_by-cons}
use Rattle.std.proofs.lemmas.Map.Views.{any-filter_same}
use Rattle.svsm_types.specs.Pages.{page_of, region_of, index_of}
use Rattle.svsm_types.specs.Hardware.{Platform, blank, fresh_page}
use Rattle.svsm_types.specs.declared.address.Page.{Page}
use Rattle.svsm_types.specs.declared.address.Gpa.{Gpa}
use Rattle.svsm_types.specs.declared.image.Image.{Image}
use Rattle.svsm_types.specs.declared.image.Range.{Range}
use Rattle.svsm_types.specs.declared.image.CoreLine.{CoreLine}
use Rattle.svsm_types.specs.declared.owner.Owner.{Owner}
use Rattle.svsm_types.specs.declared.owner.Owner.TheVariants.{Guest, Module, Pool, Vmsa}
use Rattle.svsm_types.specs.declared.platform.HwState.{HwState}
use Rattle.svsm_types.specs.declared.platform.HwState.TheVariants.{Assigned}
use Rattle.svsm_types.specs.declared.platform.PageState.{PageState}
use Rattle.svsm_types.specs.declared.platform.Size.{Size}
use Rattle.svsm_types.specs.declared.platform.Size.TheVariants.{Small, Large}
use Rattle.svsm_types.specs.declared.vcpu.Row.{Row}
use Rattle.svsm_types.specs.declared.vcpu.RowState.{RowState}
use Rattle.svsm_types.specs.declared.vcpu.RowState.TheVariants.{Ready}
use Rattle.svsm_steps.specs.Checks.{same_owner}
use Rattle.svsm_steps.specs.State.{State, RegionState, Block, page_at, owner_at, recorded_at, word_at}
use Rattle.svsm_steps.specs.Image.{range_of, owner_in, recorded_in, page_in, is_valid, pages_of, is_held_large, filled, words_of, region_in, regions_in, no_region, is_pools, blocks_in, blocks_by_pages, blocks_by_lines, pool_of, row_of, rows_of, booted, block_of}
use Rattle.svsm_steps.specs.Plan.{after, assign}
use Rattle.image_text.specs.Saved.{Saying, saying, range_at, hw_state, saved_ranges, saved_large, saved_fills, is_idle, seat_of, saved_core, saved_block, saved}
use Rattle.image_text.specs.Savable.{IsSavable, ready, in_core_order, rebooted}
use Rattle.image_text.specs.Boots.{BootsInto}
use Rattle.image_text.proofs.RangeLemmas.{says_of, said_by, said_at, ranges_say}
use Rattle.image_text.proofs.FillLemmas.{fills_all, filled_odd, words_say}
use Rattle.image_text.proofs.SoundLemmas.{both}

funext : {A B : Type 0} (f g : A → B) → ((x : A) → f x ≡ g x) → f ≡ g
funext f g h = λ i x. h x i

-- WHAT IS FOUND OF A PAGE

pub record Found (found : Option Range) (says : Saying) : Type 0 where
  pub page : page_in found ≡ page_in (Some (range_at 0 0 says))
  pub owner : owner_in found ≡ says.owner
  pub recorded : recorded_in found ≡ is_valid says.state

found_by : (found : Option Range) (says : Saying) → said_by found ≡ Some says → Found found says
found_by None says h = cc
found_by (Some range) says h =
    let e : says_of range ≡ says = cc in
    subst (λ (s : Saying). Found (Some range) s) e (record { page = refl; owner = refl; recorded = refl })

said : (image : Image) (state : State) (page : ℕ) → page < 512 * image.regions → said_at (saved_ranges image state) page ≡ Some (saying image state page)
said image state page low =
    let sayings = map (saying image state) (range_with_len 0 (512 * image.regions)) in
    let long : page < length sayings = subst (λ (n : ℕ). page < n) (sym (length-map-range_with_len (saying image state) 0 (512 * image.regions))) low in
    let e : page ≡ 0 + page = omega arith in
    ap (said_at (saved_ranges image state)) e
    ∙ ranges_say sayings 0 page (saying image state 0) long
    ∙ ap (λ (s : Saying). Some s) (get_or-map-range_with_len (saying image state) 0 (512 * image.regions) page page (saying image state 0) low (omega arith))

pub found : (image : Image) (state : State) (page : ℕ) → page < 512 * image.regions → Found (range_of (saved image state) page) (saying image state page)
found image state page low = found_by (range_of (saved image state) page) (saying image state page) (said image state page low)

-- PAGES OF A REGION

at_region : (r i : ℕ) → i < 512 → region_of (512 * r + i) ≡ r
at_region r i low = omega arith

at_index : (r i : ℕ) → i < 512 → index_of (512 * r + i) ≡ i
at_index r i low = omega arith

in_map : (r i regions : ℕ) → r < regions → i < 512 → 512 * r + i < 512 * regions
in_map r i regions low below = omega arith

-- what stands of each page of a region, by its index
there : {A : Type 0} (read : RegionState → List A) (d : A) (state : State) (r i : ℕ) → i < 512
    → get_or (read (state.regions (region_of (512 * r + i)))) (index_of (512 * r + i)) d ≡ get_or (read (state.regions r)) i d
there read d state r i low =
    ap (λ (n : ℕ). get_or (read (state.regions n)) (index_of (512 * r + i)) d) (at_region r i low) ∙ ap (λ (k : ℕ). get_or (read (state.regions r)) k d) (at_index r i low)

-- a list over the pages of a region is what each of them has
over_pages : {A : Type 0} (f : ℕ → A) (d : A) (r : ℕ) (xs : List A) → length xs ≡ 512 → ((i : ℕ) → i < 512 → f (512 * r + i) ≡ get_or xs i d) → map f (pages_of r) ≡ xs
over_pages f d r xs size h =
    let long : length (map f (pages_of r)) ≡ 512 = length-map-range_with_len f (512 * r) 512 in
    ext_get_or d (map f (pages_of r)) xs (long ∙ sym size)
    (λ i low.
    let below : i < 512 = omega (arith, low, long) in
    get_or-map-range_with_len f (512 * r) 512 i (512 * r + i) d below refl ∙ h i below)

-- REGIONS HELD AS 2M

past : (first r : ℕ) → first ≤ r → first ≢ r → first + 1 ≤ r
past first r low ne = grind (arith, low, ne)

any_of_by : (first count r : ℕ) (t : Bool) → (first == r) ≡ t → first ≤ r → r < first + suc count
    → (first + 1 ≤ r → list_any (λ number. number == r) (range_with_len (first + 1) count) ≡ true) → (first == r || list_any (λ number. number == r) (range_with_len (first + 1) count)) ≡ true
any_of_by first count r true e low high rec = ap (λ (t : Bool). t || list_any (λ number. number == r) (range_with_len (first + 1) count)) e
any_of_by first count r false e low high rec =
    let ne : first ≢ r = eqb-false first r e in
    ap (λ (t : Bool). t || list_any (λ number. number == r) (range_with_len (first + 1) count)) e ∙ rec (past first r low ne)

any_of : (first count r : ℕ) → first ≤ r → r < first + count → list_any (λ number. number == r) (range_with_len first count) ≡ true
any_of first zero r low high = absurd (omega arith)
any_of first (suc count) r low high = any_of_by first count r (first == r) refl low high (λ more. any_of (first + 1) count r more (omega arith))

and_true : (t : Bool) → (t && true) ≡ t
and_true true = refl
and_true false = refl

pub held : (image : Image) (state : State) (r : ℕ) → r < image.regions → is_held_large (saved image state) r ≡ (state.regions r).hw.large
held image state r low =
    any-filter_same (λ number. number == r) (λ region. (state.regions region).hw.large) (state.regions r).hw.large
    (λ k e. ap (λ (n : ℕ). (state.regions n).hw.large) (eqb-true k r e)) (range_with_len 0 image.regions)
    ∙ ap (λ (t : Bool). (state.regions r).hw.large && t) (any_of 0 image.regions r (omega arith) (omega (arith, low)))
    ∙ and_true (state.regions r).hw.large

-- WORDS

address_is : (address : ℕ) → (address % 8 == 0) ≡ true → 8 * (address / 8) ≡ address
address_is address e = let m = eqb-true (address % 8) 0 e in omega (arith, m)

low_word : (address r regions : ℕ) → region_of (page_of address) ≡ r → r < regions → address / 8 < 512 * (512 * regions)
low_word address r regions e low = omega (arith, e, low)

words_by : (image : Image) (state : State) → IsSavable image state → (r address : ℕ) → r < image.regions → (t u : Bool) → (region_of (page_of address) == r) ≡ t → (address % 8 == 0) ≡ u
    → (if t then filled (saved_fills image state) address 0 else 0) ≡ (state.regions r).hw.words address
words_by image state s r address low false u e k = sym (s.words_apart r address (eqb-false (region_of (page_of address)) r e))
words_by image state s r address low true false e k =
    let odd = eqb-false (address % 8) 0 k in
    filled_odd (saved_fills image state) 0 address 0 (fills_all 0 (map (λ number. word_at (8 * number) state) (range_with_len 0 (512 * (512 * image.regions))))) odd
    ∙ sym (s.words_aligned r address odd)
words_by image state s r address low true true e k =
    let at = address_is address k in
    let region = eqb-true (region_of (page_of address)) r e in
    let words = map (λ number. word_at (8 * number) state) (range_with_len 0 (512 * (512 * image.regions))) in
    ap (λ (a : ℕ). filled (saved_fills image state) a 0) (sym at)
    ∙ words_say words (address / 8)
    ∙ get_or-map-range_with_len (λ number. word_at (8 * number) state) 0 (512 * (512 * image.regions)) (address / 8) (address / 8) 0 (low_word address r image.regions region low) (omega arith)
    ∙ ap (λ (a : ℕ). word_at a state) at
    ∙ ap (λ (n : ℕ). (state.regions n).hw.words address) region

words : (image : Image) (state : State) → IsSavable image state → (r : ℕ) → r < image.regions → words_of (saved image state) r ≡ (state.regions r).hw.words
words image state s r low =
    funext (words_of (saved image state) r) (state.regions r).hw.words
    (λ address. words_by image state s r address low (region_of (page_of address) == r) (address % 8 == 0) refl refl)

-- EACH REGION

same_region : (a b : RegionState) → a.hw.pages ≡ b.hw.pages → a.hw.large ≡ b.hw.large → a.hw.words ≡ b.hw.words → a.owner ≡ b.owner → a.recorded ≡ b.recorded → a ≡ b
same_region a b p l w o c = λ i. record { hw = record { pages = p i; large = l i; words = w i }; owner = o i; recorded = c i }

owners : (image : Image) (state : State) → IsSavable image state → (r : ℕ) → r < image.regions → (region_in (saved image state) r).owner ≡ (state.regions r).owner
owners image state s r low =
    over_pages (λ page. owner_in (range_of (saved image state) page)) Guest r (state.regions r).owner (s.sized r).owner
    (λ i below. (found image state (512 * r + i) (in_map r i image.regions low below)).owner ∙ there (λ region. region.owner) Guest state r i below)

-- what is written as the GHCB page's state is of another page only where it is that page
other_state : (image : Image) (state : State) (page : ℕ) → page ≢ image.ghcb.0 → (saying image state page).state ≡ hw_state (page_at page state)
other_state image state page ne = ap (λ (t : Bool). if t then Assigned else hw_state (page_at page state)) (ne_eqb page image.ghcb.0 ne)

-- the pages of a region without the GHCB page
plain_pages : (image : Image) (state : State) → IsSavable image state → (r : ℕ) → r < image.regions → r ≢ region_of image.ghcb.0 → (region_in (saved image state) r).hw.pages ≡ (state.regions r).hw.pages
plain_pages image state s r low other =
    over_pages (λ page. page_in (range_of (saved image state) page)) blank r (state.regions r).hw.pages (s.sized r).pages
    (λ i below.
    let ne : 512 * r + i ≢ image.ghcb.0 = λ e. other (sym (at_region r i below) ∙ ap region_of e) in
    let within = in_map r i image.regions low below in
    (found image state (512 * r + i) within).page ∙ sym (s.pages (512 * r + i) within ne) ∙ there (λ region. region.hw.pages) blank state r i below)

plain_recorded : (image : Image) (state : State) → IsSavable image state → (r : ℕ) → r < image.regions → r ≢ region_of image.ghcb.0 → (region_in (saved image state) r).recorded ≡ (state.regions r).recorded
plain_recorded image state s r low other =
    over_pages (λ page. recorded_in (range_of (saved image state) page)) false r (state.regions r).recorded (s.sized r).recorded
    (λ i below.
    let ne : 512 * r + i ≢ image.ghcb.0 = λ e. other (sym (at_region r i below) ∙ ap region_of e) in
    let within = in_map r i image.regions low below in
    (found image state (512 * r + i) within).recorded
    ∙ ap is_valid (other_state image state (512 * r + i) ne)
    ∙ sym (s.recorded (512 * r + i) within ne)
    ∙ there (λ region. region.recorded) false state r i below)

plain_region : (image : Image) (state : State) → IsSavable image state → (r : ℕ) → r < image.regions → r ≢ region_of image.ghcb.0 → region_in (saved image state) r ≡ state.regions r
plain_region image state s r low other =
    same_region (region_in (saved image state) r) (state.regions r) (plain_pages image state s r low other) (held image state r low) (words image state s r low) (owners image state s r low) (plain_recorded image state s r low other)

-- THE REGION OF THE GHCB PAGE

ghcb_there : (page : ℕ) → page ≡ 512 * region_of page + index_of page
ghcb_there page = omega arith

ghcb_low : (page regions : ℕ) → page < 512 * regions → region_of page < regions
ghcb_low page regions low = omega (arith, low)

index_low : (page : ℕ) → index_of page < 512
index_low page = omega arith

but_by : {A : Type 0} (f : ℕ → A) (d : A) (r k : ℕ) (x : A) (xs : List A) → k < 512 → get_or xs k d ≡ x → ((i : ℕ) → i < 512 → i ≢ k → f (512 * r + i) ≡ get_or xs i d)
    → length (map f (pages_of r)) ≡ 512 → (i : ℕ) → i < 512 → (t : Bool) → (i == k) ≡ t → get_or (set (map f (pages_of r)) k x) i d ≡ get_or xs i d
but_by f d r k x xs low at h long i below true e =
    let same = eqb-true i k e in
    ap (λ (n : ℕ). get_or (set (map f (pages_of r)) k x) n d) same
    ∙ get_or-set_same (map f (pages_of r)) k x d (subst (λ (n : ℕ). k < n) (sym long) low)
    ∙ sym at ∙ ap (λ (n : ℕ). get_or xs n d) (sym same)
but_by f d r k x xs low at h long i below false e =
    let ne = eqb-false i k e in
    get_or-set_other (map f (pages_of r)) k i x d ne
    ∙ get_or-map-range_with_len f (512 * r) 512 i (512 * r + i) d below refl
    ∙ h i below ne

-- a list over the pages of a region, with another value at one of them
over_but : {A : Type 0} (f : ℕ → A) (d : A) (r k : ℕ) (x : A) (xs : List A) → length xs ≡ 512 → k < 512 → get_or xs k d ≡ x → ((i : ℕ) → i < 512 → i ≢ k → f (512 * r + i) ≡ get_or xs i d)
    → set (map f (pages_of r)) k x ≡ xs
over_but f d r k x xs size low at h =
    let long : length (map f (pages_of r)) ≡ 512 = length-map-range_with_len f (512 * r) 512 in
    let whole : length (set (map f (pages_of r)) k x) ≡ 512 = length-set (map f (pages_of r)) k x ∙ long in
    ext_get_or d (set (map f (pages_of r)) k x) xs (whole ∙ sym size)
    (λ i below.
    but_by f d r k x xs low at h long i (omega (arith, below, whole)) (i == k) refl)

-- another page of that region
not_ghcb : (page i : ℕ) → i < 512 → i ≢ index_of page → 512 * region_of page + i ≢ page
not_ghcb page i low ne e = ne (sym (at_index (region_of page) i low) ∙ ap index_of e)

ghcb_pages : (image : Image) (state : State) → IsSavable image state
    → set (region_in (saved image state) (region_of image.ghcb.0)).hw.pages (index_of image.ghcb.0) (fresh_page false) ≡ (state.regions (region_of image.ghcb.0)).hw.pages
ghcb_pages image state s =
    let r = region_of image.ghcb.0 in
    let low = ghcb_low image.ghcb.0 image.regions s.ghcb in
    over_but (λ page. page_in (range_of (saved image state) page)) blank r (index_of image.ghcb.0) (fresh_page false) (state.regions r).hw.pages (s.sized r).pages (index_low image.ghcb.0)
    s.ghcb_page
    (λ i below ne.
    let other = not_ghcb image.ghcb.0 i below ne in
    let within = in_map r i image.regions low below in
    (found image state (512 * r + i) within).page ∙ sym (s.pages (512 * r + i) within other) ∙ there (λ region. region.hw.pages) blank state r i below)

recorded_by : (image : Image) (state : State) → IsSavable image state → (r i : ℕ) → i < 512 → 512 * r + i < 512 * image.regions → (t : Bool) → (512 * r + i == image.ghcb.0) ≡ t
    → recorded_in (range_of (saved image state) (512 * r + i)) ≡ recorded_at (512 * r + i) state
recorded_by image state s r i below within true e =
    (found image state (512 * r + i) within).recorded
    ∙ ap (λ (t : Bool). is_valid (if t then Assigned else hw_state (page_at (512 * r + i) state))) e
    ∙ sym (ap (λ (p : ℕ). recorded_at p state) (eqb-true (512 * r + i) image.ghcb.0 e) ∙ s.ghcb_recorded)
recorded_by image state s r i below within false e =
    let ne = eqb-false (512 * r + i) image.ghcb.0 e in
    (found image state (512 * r + i) within).recorded ∙ ap is_valid (other_state image state (512 * r + i) ne) ∙ sym (s.recorded (512 * r + i) within ne)

-- the GHCB page is written as assigned, and so it is not recorded
ghcb_recorded : (image : Image) (state : State) → IsSavable image state → (region_in (saved image state) (region_of image.ghcb.0)).recorded ≡ (state.regions (region_of image.ghcb.0)).recorded
ghcb_recorded image state s =
    let r = region_of image.ghcb.0 in
    let low = ghcb_low image.ghcb.0 image.regions s.ghcb in
    over_pages (λ page. recorded_in (range_of (saved image state) page)) false r (state.regions r).recorded (s.sized r).recorded
    (λ i below. recorded_by image state s r i below (in_map r i image.regions low below) (512 * r + i == image.ghcb.0) refl ∙ there (λ region. region.recorded) false state r i below)

-- ALL REGIONS

pub lt_true : (m n : ℕ) → m < n → nat_lt m n ≡ true
lt_true m n h = grind (arith, nat_tests)

lt_false : (m n : ℕ) → nat_lt m n ≡ false → n ≤ m
lt_false m n h = grind (arith, nat_tests)

pub lt_is : (m n : ℕ) → nat_lt m n ≡ true → m < n
lt_is m n h = grind (arith, nat_tests)

inside : (image : Image) (r : ℕ) → r < image.regions → regions_in image r ≡ region_in image r
inside image r low = ap (λ (t : Bool). if t then region_in image r else no_region) (lt_true r image.regions low)

-- the region of the GHCB page after the host has shared it
shared_region : (image : Image) (state : State) → IsSavable image state
    → after (assign Small image.ghcb.0 false) (regions_in (saved image state) (region_of image.ghcb.0)) ≡ state.regions (region_of image.ghcb.0)
shared_region image state s =
    let r = region_of image.ghcb.0 in
    let low = ghcb_low image.ghcb.0 image.regions s.ghcb in
    ap (after (assign Small image.ghcb.0 false)) (inside (saved image state) r low)
    ∙ same_region (after (assign Small image.ghcb.0 false) (region_in (saved image state) r)) (state.regions r)
    (ghcb_pages image state s) (sym s.ghcb_small) (words image state s r low) (owners image state s r low) (ghcb_recorded image state s)

region_by : (image : Image) (state : State) → IsSavable image state → (r : ℕ) (t u : Bool) → (region_of image.ghcb.0 == r) ≡ t → nat_lt r image.regions ≡ u
    → (if t then after (assign Small image.ghcb.0 false) (regions_in (saved image state) (region_of image.ghcb.0)) else (if u then region_in (saved image state) r else no_region)) ≡ state.regions r
region_by image state s r true u e k = shared_region image state s ∙ ap state.regions (eqb-true (region_of image.ghcb.0) r e)
region_by image state s r false true e k = plain_region image state s r (lt_is r image.regions k) (λ same. eqb-false (region_of image.ghcb.0) r e (sym same))
region_by image state s r false false e k = sym (s.outside r (lt_false r image.regions k))

regions : (image : Image) (state : State) → IsSavable image state → (booted (saved image state)).regions ≡ state.regions
regions image state s =
    funext (booted (saved image state)).regions state.regions
    (λ r. region_by image state s r (region_of image.ghcb.0 == r) (nat_lt r image.regions) refl refl)

-- THE POOL

pub back_again : (blocks : List Block) → blocks_by_lines (map saved_block blocks) ≡ blocks
back_again [] = refl
back_again (block ∷ blocks) = ap (λ (l : List Block). block ∷ l) (back_again blocks)

not_same : (a : Owner) → a ≢ Pool → same_owner a Pool ≡ false
not_same Guest h = refl
not_same Module h = refl
not_same Vmsa h = refl
not_same Pool h = absurd (h refl)

none_pass : (test : ℕ → Bool) (first count : ℕ) → ((page : ℕ) → first ≤ page → page < first + count → test page ≡ false) → filter test (range_with_len first count) ≡ []
none_pass test first zero h = refl
none_pass test first (suc count) h =
    ap (λ (t : Bool). cond t (first ∷ filter test (range_with_len (first + 1) count)) (filter test (range_with_len (first + 1) count))) (h first (omega arith) (omega arith))
    ∙ none_pass test (first + 1) count (λ page low high. h page (omega arith) (omega arith))

none_of_all : (f : ℕ → List Block) (first count : ℕ) → ((r : ℕ) → first ≤ r → r < first + count → f r ≡ []) → flat_map f (range_with_len first count) ≡ []
none_of_all f first zero h = refl
none_of_all f first (suc count) h =
    flat_map-cons f first (range_with_len (first + 1) count)
    ∙ ap (λ (l : List Block). l ++ flat_map f (range_with_len (first + 1) count)) (h first (omega arith) (omega arith))
    ∙ none_of_all f (first + 1) count (λ r low high. h r (omega arith) (omega arith))

no_pool_page : (image : Image) (state : State) → IsSavable image state → state.pool ≡ [] → (page : ℕ) → page < 512 * image.regions → is_pools (saved image state) page ≡ false
no_pool_page image state s none page low =
    ap (λ (o : Owner). same_owner o Pool) (found image state page low).owner ∙ not_same (owner_at page state) (s.no_blocks none page low)

pool_block_by : (t u : Bool) (r : ℕ) → u ≡ false → (rest : List Block) → rest ≡ [] → (if t && u then block_of Large (512 * r) ∷ [] else rest) ≡ []
pool_block_by true true r e rest none = cc
pool_block_by true false r e rest none = none
pool_block_by false u r e rest none = none

large_blocks_by : (t u : Bool) (r : ℕ) (pages : List ℕ) → u ≡ false → pages ≡ [] → (if t && u then block_of Large (512 * r) ∷ [] else map (block_of Small) pages) ≡ []
large_blocks_by t u r pages e none = pool_block_by t u r e (map (block_of Small) pages) (ap (map (block_of Small)) none)

no_region_blocks : (image : Image) (state : State) → IsSavable image state → state.pool ≡ [] → (r : ℕ) → r < image.regions → blocks_in (saved image state) r ≡ []
no_region_blocks image state s none r low =
    let head = no_pool_page image state s none (512 * r) (omega (arith, low)) in
    let rest = none_pass (is_pools (saved image state)) (512 * r) 512 (λ page from to. no_pool_page image state s none page (omega (arith, low, to))) in
    large_blocks_by (is_held_large (saved image state) r) (is_pools (saved image state) (512 * r)) r (filter (is_pools (saved image state)) (pages_of r)) head rest

some_block : (n : ℕ) → (suc n == 0) ≡ false
some_block n = ne_eqb (suc n) 0 (λ e. omega arith)

pool_by : (image : Image) (state : State) → IsSavable image state → (pool : List Block) → state.pool ≡ pool
    → (if length (map saved_block pool) == 0 then blocks_by_pages (saved image state) else blocks_by_lines (map saved_block pool)) ≡ pool
pool_by image state s [] e = none_of_all (blocks_in (saved image state)) 0 image.regions (λ r low high. no_region_blocks image state s e r (omega (arith, high)))
pool_by image state s (block ∷ blocks) e = ap (λ (t : Bool). if t then blocks_by_pages (saved image state) else blocks_by_lines (map saved_block (block ∷ blocks))) (some_block (length (map saved_block blocks))) ∙ back_again (block ∷ blocks)

pool : (image : Image) (state : State) → IsSavable image state → pool_of (saved image state) ≡ state.pool
pool image state s = pool_by image state s state.pool refl

-- THE ROWS

abbrev of_core : ℕ → Row → Bool
of_core apic row = row.apic == apic

no_row_by : (apic : ℕ) (x : Row) (rows : List Row) (t : Bool) → of_core apic x ≡ t → count_by (of_core apic) (x ∷ rows) ≡ 0 → (count_by (of_core apic) rows ≡ 0 → filter (of_core apic) rows ≡ []) → filter (of_core apic) (x ∷ rows) ≡ []
no_row_by apic x rows true e h rec = absurd (omega (arith, h, sum_by-cons (λ y. cond (of_core apic y) 1 0) x rows, ap {B = ℕ} (λ (t : Bool). cond t 1 0) e))
no_row_by apic x rows false e h rec =
    ap (λ (t : Bool). cond t (x ∷ filter (of_core apic) rows) (filter (of_core apic) rows)) e ∙ rec (omega (arith, h, sum_by-cons (λ y. cond (of_core apic y) 1 0) x rows))

no_row : (apic : ℕ) (rows : List Row) → count_by (of_core apic) rows ≡ 0 → filter (of_core apic) rows ≡ []
no_row apic [] h = refl
no_row apic (x ∷ rows) h = no_row_by apic x rows (of_core apic x) refl h (no_row apic rows)

abbrev seat_in : Option Row → Option (Page × Gpa)
seat_in found = option_map_or (λ (row : Row). Some (row.page, row.caa)) found None

seat_row_by : (core : CoreLine) (x : Row) (rows : List Row) (t u : Bool) → of_core core.apic x ≡ t → is_idle x.state ≡ u → u ≡ true → count_by (of_core core.apic) (x ∷ rows) ≤ 1
    → (count_by (of_core core.apic) rows ≤ 1 → row_of core (seat_of core.apic rows) ≡ map ready (filter (of_core core.apic) rows))
    → row_of core (seat_of core.apic (x ∷ rows)) ≡ map ready (filter (of_core core.apic) (x ∷ rows))
seat_row_by core x rows true u e k idle most rec =
    let none = no_row core.apic rows (omega (arith, most, sum_by-cons (λ y. cond (of_core core.apic y) 1 0) x rows, ap {B = ℕ} (λ (t : Bool). cond t 1 0) e)) in
    let i = k ∙ idle in
    ap (λ (t : Bool). row_of core (seat_in (cond (t && is_idle x.state) (Some x) (find (λ (row : Row). row.apic == core.apic && is_idle row.state) rows)))) e
    ∙ ap (λ (t : Bool). row_of core (seat_in (cond t (Some x) (find (λ (row : Row). row.apic == core.apic && is_idle row.state) rows)))) i
    ∙ ap (λ (apic : ℕ). let row : Row = record { apic = apic; page = x.page; caa = x.caa; state = Ready } in row ∷ []) (sym (eqb-true x.apic core.apic e))
    ∙ sym (ap (λ (t : Bool). map ready (cond t (x ∷ filter (of_core core.apic) rows) (filter (of_core core.apic) rows))) e ∙ ap (λ (l : List Row). map ready (x ∷ l)) none)
seat_row_by core x rows false u e k idle most rec =
    ap (λ (t : Bool). row_of core (seat_in (cond (t && is_idle x.state) (Some x) (find (λ (row : Row). row.apic == core.apic && is_idle row.state) rows)))) e
    ∙ rec (omega (arith, most, sum_by-cons (λ y. cond (of_core core.apic y) 1 0) x rows))
    ∙ sym (ap (λ (t : Bool). map ready (cond t (x ∷ filter (of_core core.apic) rows) (filter (of_core core.apic) rows))) e)

seat_row : (core : CoreLine) (rows : List Row) → list_all (λ (row : Row). is_idle row.state) rows ≡ true → count_by (of_core core.apic) rows ≤ 1
    → row_of core (seat_of core.apic rows) ≡ map ready (filter (of_core core.apic) rows)
seat_row core [] idle most = refl
seat_row core (x ∷ rows) idle most =
    let i = both (is_idle x.state) (list_all (λ (row : Row). is_idle row.state) rows) idle in
    seat_row_by core x rows (of_core core.apic x) (is_idle x.state) refl refl i.0 most (seat_row core rows i.1)

core_row : (core : CoreLine) (seat : Option (Page × Gpa)) → row_of (record core { seat = seat }) seat ≡ row_of core seat
core_row core None = refl
core_row core (Some seat) = refl

rows_by : (cores : List CoreLine) (rows : List Row) → list_all (λ (row : Row). is_idle row.state) rows ≡ true → ((apic : ℕ) → count_by (of_core apic) rows ≤ 1)
    → flat_map (λ (core : CoreLine). row_of core core.seat) (map (saved_core rows) cores) ≡ in_core_order cores rows
rows_by [] rows idle most = refl
rows_by (core ∷ cores) rows idle most =
    flat_map-cons (λ (core : CoreLine). row_of core core.seat) (saved_core rows core) (map (saved_core rows) cores)
    ∙ ap (λ (l : List Row). l ++ flat_map (λ (core : CoreLine). row_of core core.seat) (map (saved_core rows) cores)) (core_row core (seat_of core.apic rows) ∙ seat_row core rows idle (most core.apic))
    ∙ ap (λ (l : List Row). map ready (filter (of_core core.apic) rows) ++ l) (rows_by cores rows idle most)
    ∙ sym (flat_map-cons (λ (core : CoreLine). map ready (filter (λ (row : Row). row.apic == core.apic) rows)) core cores)

-- THE WHOLE STATE
same_state : (a b : State) → a.regions ≡ b.regions → a.pool ≡ b.pool → a.rows ≡ b.rows → a ≡ b
same_state a b r p w = λ i. record { regions = r i; pool = p i; rows = w i }

pub boots_into : BootsInto
boots_into image state s =
    same_state (booted (saved image state)) (rebooted image state) (regions image state s) (pool image state s) (rows_by image.cores state.rows s.idle s.apics)
