-- The boot leaves the 2M blocks of the pool in regions that are held as 2M.
use Rattle.std.proofs.Common.{◌≡◌, ◌≢◌, ℕ, zero, suc, ◌+◌, ◌*◌, ◌/◌, ◌%◌, ◌<◌, ◌≤◌, Bool, true, false, not, List, [], ◌∷◌, ◌++◌, get_or, length, refl, sym, ap, ◌∙◌, subst, arith, Option, None, Some, inl, inr, ⊎_elim, IsTrue}
use Rattle.std.specs.Prelude.{if◌then◌else◌, ◌==◌, ◌&&◌, ◌||◌, nat_lt, map, filter}
use Rattle.std.specs.List.{list_all, list_any, range_with_len, flat_map}
use Rattle.std.proofs.lemmas.Bool.{and_parts, eq-eqb, eqb-true, lt-ltb}
use Rattle.svsm_types.specs.Pages.{region_of, index_of, is_multiple}
use Rattle.svsm_types.specs.Hardware.{fits}
use Rattle.svsm_types.specs.declared.address.Page.{Page}
use Rattle.svsm_types.specs.declared.image.Image.{Image}
use Rattle.svsm_types.specs.declared.owner.Owner.{Owner}
use Rattle.svsm_types.specs.declared.owner.Owner.TheVariants.{Guest, Module, Pool, Vmsa}
use Rattle.svsm_types.specs.declared.platform.Size.{Size}
use Rattle.svsm_types.specs.declared.platform.Size.TheVariants.{Small, Large}
use Rattle.svsm_steps.specs.State.{State, RegionState, AreSized, Block as PoolBlock}
use Rattle.svsm_steps.specs.Plan.{Micro, assign, after_all}
use Rattle.svsm_steps.specs.Pool.{same_size}
use Rattle.svsm_steps.specs.Image.{constants_of, is_held_large, is_pools, pages_of, block_of, blocks_in, blocks_by_pages, blocks_by_lines, pool_of, region_in, regions_in, no_region, image_state, accept, after_at, accepted, accept_entries, booted}
use Rattle.svsm_steps.specs.Sound.{IsSound, is_sound_block}
use Rattle.svsm_laws.specs.Booted.{is_guests}
use Rattle.svsm_laws.specs.OwnPage.{IsModules}
use Rattle.svsm_laws.proofs.Booted.{image_sized, at_sized, owner_by, kept_guests}
use Rattle.svsm_laws.proofs.Accepted.{spans_accept_guests}
use Rattle.svsm_laws.proofs.OwnPage.{ghcb_stays_apart}
use Rattle.svsm_run_laws.specs.Accounts.{Accounts}
use Rattle.svsm_run_laws.specs.Holding.{Position, before}
use Rattle.svsm_run_laws.proofs.Fresh.{fresh}
use Rattle.save_laws.specs.Blocks.{is_large_of}
use Rattle.save_laws.proofs.Calm.{IsStuck, AllPools, not_owned}
use Rattle.save_laws.proofs.PoolAny.{or_cases}
use Rattle.save_laws.proofs.Large.{Stands, by_pool}

-- A LISTED BLOCK

line_held : (image : Image) (number : ℕ) (page : Page) (size : Size) → is_sound_block image (page, size) ≡ true
    → is_large_of number (record { page = page; size = size }) ≡ true → is_held_large image number ≡ true
line_held image number page Large sound h =
    let at : region_of page.0 ≡ number = eqb-true _ _ h in
    let held = (and_parts (is_multiple 512 page.0) (is_held_large image (region_of page.0)) (and_parts _ _ sound).1).1 in
    ap (is_held_large image) (sym at) ∙ held
line_held image number page Small sound h = cc

lines_held : (image : Image) (number : ℕ) (blocks : List (Page × Size)) → list_all (is_sound_block image) blocks ≡ true
    → list_any (is_large_of number) (blocks_by_lines blocks) ≡ true → is_held_large image number ≡ true
lines_held image number [] sound h = cc
lines_held image number (line ∷ blocks) sound h =
    let both = and_parts (is_sound_block image line) (list_all (is_sound_block image) blocks) sound in
    ⊎_elim (λ (own : is_large_of number (record { page = line.0; size = line.1 }) ≡ true). line_held image number line.0 line.1 both.0 own)
    (λ (rest : list_any (is_large_of number) (blocks_by_lines blocks) ≡ true). lines_held image number blocks both.1 rest)
    (or_cases _ _ h)

-- A BLOCK BY PAGES

small_none : (number : ℕ) (pages : List ℕ) → list_any (is_large_of number) (map (block_of Small) pages) ≡ false
small_none number [] = refl
small_none number (page ∷ pages) = small_none number pages

self_region : (region : ℕ) → region_of (512 * region) ≡ region
self_region region = omega arith

region_by : (image : Image) (number region : ℕ) (held pools : Bool) (small : List PoolBlock) → is_held_large image region ≡ held → list_any (is_large_of number) small ≡ false
    → list_any (is_large_of number) (if held && pools then block_of Large (512 * region) ∷ [] else small) ≡ true → is_held_large image number ≡ true
region_by image number region true true small e none h =
    let at : region_of (512 * region) ≡ number = ⊎_elim (λ (own : (region_of (512 * region) == number) ≡ true). eqb-true _ _ own)
    (λ (no : false ≡ true). (let wrong = no in cc)) (or_cases _ _ h) in
    ap (is_held_large image) (sym at ∙ self_region region) ∙ e
region_by image number region true false small e none h = (let wrong : false ≡ true = sym none ∙ h in cc)
region_by image number region false pools small e none h = (let wrong : false ≡ true = sym none ∙ h in cc)

any_both : {A : Type 0} (test : A → Bool) (xs ys : List A) → list_any test (xs ++ ys) ≡ (list_any test xs || list_any test ys)
any_both test [] ys = refl
any_both test (x ∷ xs) ys = ap (λ (b : Bool). test x || b) (any_both test xs ys) ∙ assoc (test x) (list_any test xs) (list_any test ys)
  where
    assoc : (a b c : Bool) → (a || (b || c)) ≡ ((a || b) || c)
    assoc true b c = refl
    assoc false b c = refl

pages_held : (image : Image) (number : ℕ) (regions : List ℕ) → list_any (is_large_of number) (flat_map (blocks_in image) regions) ≡ true
    → is_held_large image number ≡ true
pages_held image number [] h = cc
pages_held image number (region ∷ regions) h =
    ⊎_elim
    (λ (own : list_any (is_large_of number) (blocks_in image region) ≡ true).
    region_by image number region (is_held_large image region) (is_pools image (512 * region)) (map (block_of Small) (filter (is_pools image) (pages_of region))) refl
    (small_none number (filter (is_pools image) (pages_of region))) own)
    (λ (rest : list_any (is_large_of number) (flat_map (blocks_in image) regions) ≡ true). pages_held image number regions rest)
    (or_cases _ _ (sym (any_both (is_large_of number) (blocks_in image region) (flat_map (blocks_in image) regions)) ∙ h))

pool_held_by : (b : Bool) (image : Image) (number : ℕ) → IsSound image
    → list_any (is_large_of number) (if b then blocks_by_pages image else blocks_by_lines image.blocks) ≡ true → is_held_large image number ≡ true
pool_held_by true image number s h = pages_held image number (range_with_len 0 image.regions) h
pool_held_by false image number s h = lines_held image number image.blocks s.blocks h

pool_held : (image : Image) (number : ℕ) → IsSound image → list_any (is_large_of number) (pool_of image) ≡ true → is_held_large image number ≡ true
pool_held image number s h = pool_held_by (length image.blocks == 0) image number s h

-- THE REGION BEFORE THE BOOT

low_by : (regions number : ℕ) (large : List ℕ) → list_all (λ region. nat_lt region regions) large ≡ true → list_any (λ other. other == number) large ≡ true
    → nat_lt number regions ≡ true
low_by regions number [] all h = cc
low_by regions number (region ∷ large) all h =
    let both = and_parts (nat_lt region regions) (list_all (λ region. nat_lt region regions) large) all in
    ⊎_elim (λ (own : (region == number) ≡ true). subst (λ (n : ℕ). nat_lt n regions ≡ true) (eqb-true region number own) both.0)
    (λ (rest : list_any (λ other. other == number) large ≡ true). low_by regions number large both.1 rest)
    (or_cases _ _ h)

large_in : (image : Image) (number : ℕ) (b : Bool) → b ≡ true → is_held_large image number ≡ true
    → (if b then region_in image number else no_region).hw.large ≡ true
large_in image number true e h = h
large_in image number false e h = cc

first_large : (image : Image) (number : ℕ) → IsSound image → is_held_large image number ≡ true → ((image_state image).regions number).hw.large ≡ true
first_large image number s h = large_in image number (nat_lt number image.regions) (low_by image.regions number image.large s.large h) h

-- THE BOOT

accepted_pool : (vmpl : ℕ) (entries : List (ℕ × Size)) (state : State) → (accepted vmpl entries state).pool ≡ state.pool
accepted_pool vmpl [] state = refl
accepted_pool vmpl (entry ∷ entries) state = accepted_pool vmpl entries (after_at entry.0 (accept vmpl entry) state)

accepted_owner : (vmpl : ℕ) (entries : List (ℕ × Size)) (state : State) (number : ℕ)
    → ((accepted vmpl entries state).regions number).owner ≡ (state.regions number).owner
accepted_owner vmpl [] state number = refl
accepted_owner vmpl (entry ∷ entries) state number =
    let k : ℕ = region_of entry.0 in
    accepted_owner vmpl entries (after_at entry.0 (accept vmpl entry) state) number
    ∙ owner_by k number (after_all (accept vmpl entry) (state.regions k)) state refl

large_unless : (b : Bool) (k number : ℕ) (new : RegionState) (state : State) → (k == number) ≡ b → (k ≡ number → ⊥) → (state.regions number).hw.large ≡ true
    → (if b then new else state.regions number).hw.large ≡ true
large_unless true k number new state e away h = absurd (away (eqb-true k number e))
large_unless false k number new state e away h = h

accepted_large : (vmpl : ℕ) (entries : List (ℕ × Size)) (state : State) (number : ℕ) → AreSized state → AllPools (state.regions number)
    → list_all (is_guests state) entries ≡ true → (state.regions number).hw.large ≡ true → ((accepted vmpl entries state).regions number).hw.large ≡ true
accepted_large vmpl [] state number z pools g h = h
accepted_large vmpl (entry ∷ entries) state number z pools g h =
    let k : ℕ = region_of entry.0 in
    let r : RegionState = state.regions k in
    let both = and_parts (is_guests state entry) (list_all (is_guests state) entries) g in
    let new : State = after_at entry.0 (accept vmpl entry) state in
    let same : (n : ℕ) → (new.regions n).owner ≡ (state.regions n).owner = λ n. owner_by k n (after_all (accept vmpl entry) r) state refl in
    let away : k ≡ number → ⊥ = λ at. not_owned Guest entry.1 entry.0 r (z k)
    (subst (λ (n : ℕ). AllPools (state.regions n)) (sym at) pools) (λ e. cc) both.0 in
    accepted_large vmpl entries new number (at_sized entry.0 (accept vmpl entry) state z)
    (λ index low. ap (λ (owner : List Owner). get_or owner index Guest) (same number) ∙ pools index low)
    (kept_guests entries state new same both.1)
    (large_unless (k == number) k number (after_all (accept vmpl entry) r) state refl away h)

booted_large : (image : Image) (number : ℕ) → IsSound image → list_any (is_large_of number) (booted image).pool ≡ true → ((booted image).regions number).hw.large ≡ true
booted_large image number s h =
    let first : State = image_state image in
    let page : ℕ = image.ghcb.0 in
    let share : List Micro = assign Small page false ∷ [] in
    let k : ℕ = region_of page in
    let shared : State = after_at page share first in
    let entries : List (ℕ × Size) = accept_entries image in
    let pools : AllPools ((booted image).regions number) = by_pool (constants_of image) (booted image) (λ (core : ℕ). before) (fresh image s) number h in
    let held : is_held_large image number ≡ true =
    pool_held image number s (sym (ap (list_any (is_large_of number)) (accepted_pool image.vmpl.0 entries shared)) ∙ h) in
    let same_shared : (n : ℕ) → (shared.regions n).owner ≡ (first.regions n).owner = λ n. owner_by k n (after_all share (first.regions k)) first refl in
    let shared_pools : AllPools (shared.regions number) =
    λ index low. ap (λ (owner : List Owner). get_or owner index Guest) (sym (accepted_owner image.vmpl.0 entries shared number)) ∙ pools index low in
    let ghcb = (ghcb_stays_apart image (constants_of image) [] s).0 in
    let away : k ≡ number → ⊥ = λ at.
    (let own : get_or ((booted image).regions number).owner (index_of page) Guest ≡ Module =
    subst (λ (n : ℕ). IsModules (booted image) n (index_of page)) at ghcb in
    let wrong : Pool ≡ Module = sym (pools (index_of page) (omega arith)) ∙ own in cc) in
    accepted_large image.vmpl.0 entries shared number (at_sized page share first (image_sized image)) shared_pools
    (kept_guests entries first shared same_shared (spans_accept_guests image s.accepts_guests))
    (large_unless (k == number) k number (after_all share (first.regions k)) first refl away (first_large image number s held))

pub stands_booted : (image : Image) → IsSound image → Stands (constants_of image) (booted image) (λ (core : ℕ). before)
stands_booted image s = record {
  pool = λ number h. inl (booted_large image number s h);
  hands = λ number core low h. cc;
}
