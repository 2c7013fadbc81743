-- An image that passes the tests at the end is sound.
use Rattle.std.proofs.Common.{◌≡◌, ℕ, ◌+◌, ◌*◌, ◌/◌, ◌%◌, ◌^◌, ◌<◌, ◌≤◌, Bool, true, false, nat_lt, List, [], ◌∷◌, length, refl, sym, ◌∙◌, ap, subst, arith}
use Rattle.std.specs.Prelude.{◌≢◌, Option, Some, None, nat_le, ◌&&◌, ◌||◌, ◌==◌, not}
use Rattle.std.specs.List.{list_any, list_all}
use Rattle.std.proofs.lemmas.Bool.Decides.{nat_tests}
use Rattle.svsm_types.specs.Pages.{region_of, is_in_map}
use Rattle.svsm_types.specs.declared.image.Image.{Image}
use Rattle.svsm_types.specs.declared.image.Range.{Range}
use Rattle.svsm_types.specs.declared.image.Span.{Span}
use Rattle.svsm_types.specs.declared.image.CoreLine.{CoreLine}
use Rattle.svsm_types.specs.declared.address.Page.{Page}
use Rattle.svsm_types.specs.declared.address.Gpa.{Gpa}
use Rattle.svsm_types.specs.declared.platform.Size.{Size}
use Rattle.svsm_types.specs.declared.owner.Owner.{Owner}
use Rattle.svsm_types.specs.declared.owner.Owner.TheVariants.{Guest, Module, Pool, Vmsa}
use Rattle.svsm_types.specs.declared.platform.HwState.{HwState}
use Rattle.svsm_types.specs.declared.platform.HwState.TheVariants.{Shared, Assigned, Valid}
use Rattle.svsm_types.specs.declared.platform.PageState.{PageState}
use Rattle.svsm_steps.specs.Checks.{same_owner}
use Rattle.svsm_steps.specs.Words.{as_bit}
use Rattle.svsm_steps.specs.Image.{is_in_range, range_of, owner_in, is_valid, is_assigned, page_in, is_held_large, is_pools}
use Rattle.svsm_steps.specs.Sound.{IsSound, is_range_in_map, is_sound_range, is_sound_span, is_sound_core, is_sound_seat, is_in_span, is_accepted, has_vmsa, sits_at, is_sound_block, HasBlocks}
use Rattle.image_grammar.specs.End.{same_state, state_in, rights_in, are_alike, is_vmsa_page, are_same, is_even, are_even, is_module_assigned, is_guest_shared, are_free, same, are_seats, are_listed, has_blocks}
use Rattle.image_reader.specs.Blocks.{listed}
use Rattle.image_reader.specs.SoFar.{IsSoFar}
use Rattle.image_reader.proofs.TableLemmas.{both, not_above, below, all_at, found, inside}
use Rattle.image_reader.proofs.BlockLemmas.{listed_more, block_in_map}

-- TESTS

same_owners : (a b : Owner) → same_owner a b ≡ true → a ≡ b
same_owners Guest Guest is = refl
same_owners Guest Module is = absurd cc
same_owners Guest Pool is = absurd cc
same_owners Guest Vmsa is = absurd cc
same_owners Module Guest is = absurd cc
same_owners Module Module is = refl
same_owners Module Pool is = absurd cc
same_owners Module Vmsa is = absurd cc
same_owners Pool Guest is = absurd cc
same_owners Pool Module is = absurd cc
same_owners Pool Pool is = refl
same_owners Pool Vmsa is = absurd cc
same_owners Vmsa Guest is = absurd cc
same_owners Vmsa Module is = absurd cc
same_owners Vmsa Pool is = absurd cc
same_owners Vmsa Vmsa is = refl

same_states : (a b : HwState) → same_state a b ≡ true → a ≡ b
same_states Shared Shared is = refl
same_states Shared Assigned is = absurd cc
same_states Shared Valid is = absurd cc
same_states Assigned Shared is = absurd cc
same_states Assigned Assigned is = refl
same_states Assigned Valid is = absurd cc
same_states Valid Shared is = absurd cc
same_states Valid Assigned is = absurd cc
same_states Valid Valid is = refl

equal : (m n : ℕ) → m == n ≡ true → m ≡ n
equal m n is = grind (arith, nat_tests)

sames : (a b : Bool) → same a b ≡ true → a ≡ b
sames true true is = refl
sames true false is = absurd cc
sames false true is = absurd cc
sames false false is = refl

then_true : (a b : Bool) → not a || b ≡ true → a ≡ true → b ≡ true
then_true true b is held = is
then_true false b is held = absurd cc

never : (a : Bool) → not a ≡ true → a ≡ true → ⊥
never true is held = absurd cc
never false is held = absurd cc

either_false : (a b : Bool) → a || b ≡ false → (a ≡ false) × (b ≡ false)
either_false true b is = absurd cc
either_false false b is = (refl, is)

or_right : (a b : Bool) → a || b ≡ true → a ≡ false → b ≡ true
or_right true b is fails = absurd cc
or_right false b is fails = is

-- what holds of all that pass, where one does
one_by : {A : Type 0} (p q : A → Bool) (x : A) (xs : List A) (R : Type 0) (t : Bool) → q x ≡ t → list_all p (x ∷ xs) ≡ true → list_any q (x ∷ xs) ≡ true
    → ((y : A) → p y ≡ true → q y ≡ true → R) → (list_all p xs ≡ true → list_any q xs ≡ true → R) → R
one_by p q x xs R true is all any then more = then x (both (p x) (list_all p xs) all).0 is
one_by p q x xs R false is all any then more = more (both (p x) (list_all p xs) all).1 (or_right (q x) (list_any q xs) any is)

one_of : {A : Type 0} (p q : A → Bool) (xs : List A) (R : Type 0) → list_all p xs ≡ true → list_any q xs ≡ true → ((y : A) → p y ≡ true → q y ≡ true → R) → R
one_of p q [] R all any then = absurd cc
one_of p q (x ∷ xs) R all any then = one_by p q x xs R (q x) refl all any then (λ a b. one_of p q xs R a b then)

-- PAGES

abbrev page_by : Owner → HwState → ℕ → PageState
page_by owner state rights = record {
  assigned = is_assigned state;
  validated = is_valid state;
  rights = record { 0 = rights % 16 } ∷ record { 0 = rights / 16 % 16 } ∷ record { 0 = rights / 256 % 16 } ∷ [];
  vmsa = is_valid state && same_owner owner Vmsa;
}

page_is : (o : Option Range) → page_in o ≡ page_by (owner_in o) (state_in o) (rights_in o)
page_is None = refl
page_is (Some range) = refl

pages_alike : (a b : Option Range) → are_alike a b ≡ true → (owner_in a ≡ owner_in b) × (page_in a ≡ page_in b)
pages_alike a b is =
    let first = both (same_owner (owner_in a) (owner_in b)) (same_state (state_in a) (state_in b) && rights_in a == rights_in b) is in
    let second = both (same_state (state_in a) (state_in b)) (rights_in a == rights_in b) first.1 in
    let owners : owner_in a ≡ owner_in b = same_owners (owner_in a) (owner_in b) first.0 in
    let states : state_in a ≡ state_in b = same_states (state_in a) (state_in b) second.0 in
    let rights : rights_in a ≡ rights_in b = equal (rights_in a) (rights_in b) second.1 in (
      owners,
      page_is a
          ∙ ap (λ (o : Owner). page_by o (state_in a) (rights_in a)) owners
          ∙ ap (λ (s : HwState). page_by (owner_in b) s (rights_in a)) states
          ∙ ap (λ (r : ℕ). page_by (owner_in b) (state_in b) r) rights
          ∙ sym (page_is b),
    )

assigned_by : (o : Option Range) → state_in o ≡ Assigned → ((page_in o).assigned ≡ true) × ((page_in o).validated ≡ false)
assigned_by o is = (ap (λ (p : PageState). p.assigned) (page_is o) ∙ ap is_assigned is, ap (λ (p : PageState). p.validated) (page_is o) ∙ ap is_valid is)

shared_by : (o : Option Range) → state_in o ≡ Shared → (page_in o).assigned ≡ false
shared_by o is = ap (λ (p : PageState). p.assigned) (page_is o) ∙ ap is_assigned is

-- REGIONS THAT ARE HELD AS 2M

held_in_map : (image : Image) → IsSoFar image → (region : ℕ) → is_held_large image region ≡ true → region < image.regions
held_in_map image far region held =
    one_of (λ r. nat_lt r image.regions) (λ number. number == region) image.large (region < image.regions) far.large held
    (λ y inside is. subst (λ (r : ℕ). r < image.regions) (equal y region is) (below y image.regions inside))

even_by : (image : Image) → IsSoFar image → are_even image ≡ true → (region : ℕ) → is_held_large image region ≡ true → is_even image region ≡ true
even_by image far even region held =
    then_true (is_held_large image region) (is_even image region)
    (all_at (λ r. not (is_held_large image r) || is_even image r) 0 image.regions region even (omega arith) (omega (arith, held_in_map image far region held)))
    held

first_alike : (image : Image) → IsSoFar image → are_even image ≡ true → (page : ℕ) → is_held_large image (region_of page) ≡ true
    → are_alike (range_of image (512 * region_of page)) (range_of image page) ≡ true
unfolding are_same
first_alike image far even page held =
    all_at (λ other. are_alike (range_of image (512 * region_of page)) (range_of image other)) (512 * region_of page) 512 page
    (both (are_same image (region_of page)) _ (even_by image far even (region_of page) held)).0
    (omega arith) (omega arith)

first_page : (image : Image) → IsSoFar image → are_even image ≡ true → (page : ℕ) → is_held_large image (region_of page) ≡ true
    → (owner_in (range_of image (512 * region_of page)) ≡ owner_in (range_of image page)) × (page_in (range_of image (512 * region_of page)) ≡ page_in (range_of image page))
first_page image far even page held =
    pages_alike (range_of image (512 * region_of page)) (range_of image page) (first_alike image far even page held)

first_of_other : (image : Image) → IsSoFar image → are_even image ≡ true → (page other : ℕ) → is_held_large image (region_of page) ≡ true → region_of page ≡ region_of other
    → (owner_in (range_of image (512 * region_of page)) ≡ owner_in (range_of image other)) × (page_in (range_of image (512 * region_of page)) ≡ page_in (range_of image other))
first_of_other image far even page other held same =
    subst (λ (r : ℕ). (owner_in (range_of image (512 * r)) ≡ owner_in (range_of image other)) × (page_in (range_of image (512 * r)) ≡ page_in (range_of image other))) (sym same)
    (first_page image far even other (subst (λ (r : ℕ). is_held_large image r ≡ true) same held))

not_vmsa : (image : Image) → IsSoFar image → are_even image ≡ true → (page : ℕ) → is_held_large image (region_of page) ≡ true → owner_in (range_of image page) ≢ Vmsa
not_vmsa image far even page held is =
    let none : not (is_vmsa_page (range_of image (512 * region_of page))) ≡ true =
    (both (are_same image (region_of page)) _ (even_by image far even (region_of page) held)).1 in
    never (is_vmsa_page (range_of image (512 * region_of page))) none
    (ap (λ (o : Owner). same_owner o Vmsa) ((first_page image far even page held).0 ∙ is))

-- THE MAP

span_in_map : (regions page : ℕ) (span : Span) → is_sound_span regions span ≡ true → is_in_span page span ≡ true → page < 512 * regions
span_in_map regions page span sound is =
    let last : span.first.0 + span.count ≤ 512 * regions = not_above (span.first.0 + span.count) (512 * regions) (both (nat_lt 0 span.count) _ sound).1 in
    let in_span : page < span.first.0 + span.count = below page (span.first.0 + span.count) (both (nat_le span.first.0 page) _ is).1 in
    omega (arith, last, in_span)

accepted_free : (image : Image) → IsSoFar image → are_free image ≡ true → (page : ℕ) → is_accepted image page ≡ true → is_guest_shared (range_of image page) ≡ true
accepted_free image far free page is =
    let within : page < 512 * image.regions = one_of (is_sound_span image.regions) (is_in_span page) image.accepts (page < 512 * image.regions) far.spans is (span_in_map image.regions page) in
    then_true (is_accepted image page) (is_guest_shared (range_of image page))
    (all_at (λ p. not (is_accepted image p) || is_guest_shared (range_of image p)) 0 (512 * image.regions) page free (omega arith) (omega (arith, within)))
    is

seat_in_map : (regions page : ℕ) (seat : Option (Page × Gpa)) → is_sound_seat regions seat ≡ true → sits_at page seat ≡ true → page < 512 * regions
seat_in_map regions page None sound is = absurd cc
seat_in_map regions page (Some seat) sound is =
    subst (λ (p : ℕ). p < 512 * regions) (equal seat.0.0 page is) (below seat.0.0 (512 * regions) (both (is_in_map regions seat.0.0) _ sound).0)

core_in_map : (regions page : ℕ) (core : CoreLine) → is_sound_core regions core ≡ true → has_vmsa page core ≡ true → page < 512 * regions
core_in_map regions page core sound is = seat_in_map regions page core.seat (both (nat_lt core.apic (2 ^ 32)) (is_sound_seat regions core.seat) sound).1 is

range_in_map : (regions page : ℕ) (range : Range) → is_sound_range regions range ≡ true → is_in_range page range ≡ true → page < 512 * regions
range_in_map regions page range sound is =
    let map = (both (is_range_in_map regions range) _ sound).0 in
    let last : range.first.0 + range.count ≤ 512 * regions = not_above (range.first.0 + range.count) (512 * regions) (both (nat_lt 0 range.count) _ map).1 in
    omega (arith, last, (inside page range is).1)

none_found : (page : ℕ) (xs : List Range) → list_any (is_in_range page) xs ≡ false → found xs page ≡ None
none_found page [] none = refl
none_found page (x ∷ xs) none =
    let parts = either_false (is_in_range page x) (list_any (is_in_range page) xs) none in
    let next : found (x ∷ xs) page ≡ found xs page = simp parts.0 in
    next ∙ none_found page xs parts.1

outside_by : (a : Bool) → (a ≡ true → ⊥) → a ≡ false
outside_by true no_such = absurd (no_such refl)
outside_by false no_such = refl

no_vmsa_outside : (image : Image) → IsSoFar image → (page : ℕ) → (page < 512 * image.regions → ⊥) → list_any (has_vmsa page) image.cores ≡ is_vmsa_page (range_of image page)
no_vmsa_outside image far page out =
    let cores : list_any (has_vmsa page) image.cores ≡ false = outside_by _ (λ is. out (one_of (is_sound_core image.regions) (has_vmsa page) image.cores (page < 512 * image.regions) far.cores is (core_in_map image.regions page))) in
    let ranges : list_any (is_in_range page) image.ranges ≡ false = outside_by _ (λ is. out (one_of (is_sound_range image.regions) (is_in_range page) image.ranges (page < 512 * image.regions) far.ranges is (range_in_map image.regions page))) in
    cores ∙ sym (ap is_vmsa_page (none_found page image.ranges ranges))

outside_map : (m n : ℕ) → nat_lt m n ≡ false → m < n → ⊥
outside_map m n no_less less = grind (arith, nat_tests)

seats_by : (image : Image) → IsSoFar image → are_seats image ≡ true → (page : ℕ) (t : Bool) → nat_lt page (512 * image.regions) ≡ t → list_any (has_vmsa page) image.cores ≡ is_vmsa_page (range_of image page)
seats_by image far seats page true is =
    sames (list_any (has_vmsa page) image.cores) (is_vmsa_page (range_of image page))
    (all_at (λ p. same (list_any (has_vmsa p) image.cores) (is_vmsa_page (range_of image p))) 0 (512 * image.regions) page seats (omega arith) (omega (arith, below page (512 * image.regions) is)))
seats_by image far seats page false is = no_vmsa_outside image far page (outside_map page (512 * image.regions) is)

-- BLOCKS

some_listed : {A : Type 0} (x : A) (xs : List A) → (length (x ∷ xs) == 0) ≡ false
some_listed x xs = grind (arith, nat_tests)

-- where there are blocks, the test is tried
listed_test : (blocks : List (Page × Size)) (block : Page × Size) (test : Bool) → length (block ∷ blocks) == 0 || test ≡ true → test ≡ true
listed_test blocks block test is = or_right (length (block ∷ blocks) == 0) test is (some_listed block blocks)

blocks_sound : (blocks : List (Page × Size)) (sound : Page × Size → Bool) (rest : Bool) → length blocks == 0 || (list_all sound blocks && rest) ≡ true → list_all sound blocks ≡ true
blocks_sound [] sound rest is = refl
blocks_sound (block ∷ blocks) sound rest is = (both (list_all sound (block ∷ blocks)) rest (listed_test blocks block (list_all sound (block ∷ blocks) && rest) is)).0

-- outside the map there is no page of a block, and none of the pool
none_outside : (image : Image) (blocks : List (Page × Size)) (page : ℕ) → list_all (is_sound_block image) blocks ≡ true → (page < 512 * image.regions → ⊥) → listed blocks page ≡ 0
none_outside image [] page sound out = refl
none_outside image (block ∷ blocks) page sound out =
    let parts = both (is_sound_block image block) (list_all (is_sound_block image) blocks) sound in
    let rest : listed blocks page ≡ 0 = none_outside image blocks page parts.1 out in
    let first : listed (block ∷ blocks) page ≡ 0 + listed blocks page = listed_more block blocks page false (outside_by _ (λ is. out (block_in_map image block page parts.0 is))) in
    omega (arith, first, rest)

not_pools_outside : (image : Image) → IsSoFar image → (page : ℕ) → (page < 512 * image.regions → ⊥) → is_pools image page ≡ false
not_pools_outside image far page out =
    let ranges : list_any (is_in_range page) image.ranges ≡ false = outside_by _ (λ is. out (one_of (is_sound_range image.regions) (is_in_range page) image.ranges (page < 512 * image.regions) far.ranges is (range_in_map image.regions page))) in
    ap (λ (o : Option Range). same_owner (owner_in o) Pool) (none_found page image.ranges ranges)

listed_by : (image : Image) → IsSoFar image → list_all (is_sound_block image) image.blocks ≡ true → are_listed image ≡ true → (page : ℕ) (t : Bool) → nat_lt page (512 * image.regions) ≡ t
    → listed image.blocks page ≡ as_bit (is_pools image page)
listed_by image far sound are page true is =
    equal (listed image.blocks page) (as_bit (is_pools image page))
    (all_at (λ p. listed image.blocks p == as_bit (is_pools image p)) 0 (512 * image.regions) page are (omega arith) (omega (arith, below page (512 * image.regions) is)))
listed_by image far sound are page false is =
    none_outside image image.blocks page sound (outside_map page (512 * image.regions) is) ∙ sym (ap as_bit (not_pools_outside image far page (outside_map page (512 * image.regions) is)))

blocks_of : (image : Image) → IsSoFar image → (blocks : List (Page × Size)) → image.blocks ≡ blocks → has_blocks image ≡ true → HasBlocks image blocks
blocks_of image far [] is has = tt
blocks_of image far (block ∷ blocks) is has = λ page.
    let test = list_all (is_sound_block image) image.blocks && are_listed image in
    let parts = both (list_all (is_sound_block image) image.blocks) (are_listed image)
    (listed_test blocks block test (subst (λ (all : List (Page × Size)). length all == 0 || test ≡ true) is has)) in
    subst (λ (all : List (Page × Size)). listed all page ≡ as_bit (is_pools image page)) is (listed_by image far parts.0 parts.1 page (nat_lt page (512 * image.regions)) refl)

pub sound_whole : (image : Image) → IsSoFar image → are_even image ≡ true → is_module_assigned (range_of image image.ghcb.0) ≡ true → are_free image ≡ true
    → nat_lt 0 (length image.cores) && are_seats image ≡ true → has_blocks image ≡ true → IsSound image
sound_whole image far even ghcb free cores blocks =
    let owned = both (same_owner (owner_in (range_of image image.ghcb.0)) Module) (same_state (state_in (range_of image image.ghcb.0)) Assigned) ghcb in
    let assigned = assigned_by (range_of image image.ghcb.0) (same_states _ Assigned owned.1) in
    let parts = both (nat_lt 0 (length image.cores)) (are_seats image) cores in
    record {
      regions_least = far.regions_least;
      regions_most = far.regions_most;
      vmpl = far.vmpl;
      second = far.second;
      ranges = far.ranges;
      apart = far.apart;
      large = far.large;
      uniform_owner = λ page other held same. sym (first_page image far even page held).0 ∙ (first_of_other image far even page other held same).0;
      uniform_state = λ page other held same. sym (first_page image far even page held).1 ∙ (first_of_other image far even page other held same).1;
      no_large_vmsa = not_vmsa image far even;
      ghcb = far.ghcb;
      ghcb_owner = same_owners _ Module owned.0;
      ghcb_assigned = assigned.0;
      ghcb_not_valid = assigned.1;
      spans = far.spans;
      spans_apart = far.spans_apart;
      accepts_guests = λ page is. same_owners _ Guest (both (same_owner (owner_in (range_of image page)) Guest) _ (accepted_free image far free page is)).0;
      accepts_shared = λ page is. shared_by (range_of image page) (same_states _ Shared (both (same_owner (owner_in (range_of image page)) Guest) _ (accepted_free image far free page is)).1);
      cores_least = below 0 (length image.cores) parts.0;
      cores_most = far.cores_most;
      cores = far.cores;
      levels = far.levels;
      apics = far.apics;
      vmsas_apart = far.vmsas_apart;
      vmsas = λ page. seats_by image far parts.1 page (nat_lt page (512 * image.regions)) refl;
      fills = far.fills;
      faults = far.faults;
      host = far.host;
      blocks = blocks_sound image.blocks (is_sound_block image) (are_listed image) blocks;
      blocks_of_pool = blocks_of image far image.blocks refl blocks;
    }
