-- What is tried at the end holds of a sound image; the image that was written is read again.
use Rattle.std.proofs.Common.{◌≡◌, ◌≢◌, ℕ, zero, suc, ◌+◌, ◌*◌, ◌/◌, ◌%◌, ◌-◌, ◌^◌, ◌<◌, ◌≤◌, Bool, true, false, List, [], ◌∷◌, ◌++◌, length, refl, sym, ap, ◌∙◌, subst, arith, IsTrue}
use Rattle.std.specs.Prelude.{⊤, if◌then◌else◌, ◌&&◌, ◌||◌, ◌==◌, not, nat_le, nat_lt, Option, Some, None, Result, Ok, Err, map, codes, find, count_by, cond}
use Rattle.std.specs.List.{list_all, list_any, range_with_len}
use Rattle.std.proofs.lemmas.Bool.Decides.{nat_tests}
use Rattle.std.proofs.lemmas.Bool.{eq-eqb}
use Rattle.svsm_types.specs.Pages.{region_of, is_in_map}
use Rattle.svsm_types.specs.declared.address.Page.{Page}
use Rattle.svsm_types.specs.declared.image.Image.{Image}
use Rattle.svsm_types.specs.declared.image.Range.{Range}
use Rattle.svsm_types.specs.declared.image.Span.{Span}
use Rattle.svsm_types.specs.declared.image.CoreLine.{CoreLine}
use Rattle.svsm_types.specs.declared.image.Fill.{Fill}
use Rattle.svsm_types.specs.declared.owner.Owner.{Owner}
use Rattle.svsm_types.specs.declared.owner.Owner.TheVariants.{Guest, Module, Pool, Vmsa}
use Rattle.svsm_types.specs.declared.platform.HwState.{HwState}
use Rattle.svsm_types.specs.declared.platform.HwState.TheVariants.{Shared, Assigned, Valid}
use Rattle.svsm_types.specs.declared.platform.PageState.{PageState}
use Rattle.svsm_types.specs.declared.platform.Size.{Size}
use Rattle.svsm_types.specs.declared.platform.Vmpl.{Vmpl}
use Rattle.svsm_steps.specs.Checks.{same_owner}
use Rattle.svsm_steps.specs.Formed.{IsVmpl}
use Rattle.svsm_steps.specs.Image.{is_in_range, range_of, owner_in, page_in, is_held_large, pages_of, is_pools, blocks_by_lines}
use Rattle.svsm_steps.specs.Partition.{has_page}
use Rattle.svsm_steps.specs.Words.{as_bit}
use Rattle.svsm_steps.specs.Sound.{IsSound, IsSecond, is_sound_range, is_accepted, is_in_span, has_vmsa, is_sound_block, HasBlocks}
use Rattle.image_grammar.specs.declared.kind.ImageKind.{ImageKind}
use Rattle.image_grammar.specs.End.{same_state, state_in, rights_in, are_alike, is_vmsa_page, are_same, is_even, are_even, is_module_assigned, is_guest_shared, are_free, same, are_seats, are_listed, has_blocks, end_told}
use Rattle.image_grammar.specs.Image.{image_of, is_vmpl}
use Rattle.image_text.specs.Saved.{hw_state, rights_of}
use Rattle.image_text.specs.Written.{image_text}
use Rattle.image_text.proofs.SoundLemmas.{both, all_hold, each_page, range_numbers}

-- STATES AND RIGHTS OF A PAGE, BY ITS RANGE

state_by : (state : HwState) → state ≡ hw_state (page_in (Some (record { first = record { 0 = 0 }; count = 0; owner = Guest; state = state; rights = 0 })))
state_by Shared = refl
state_by Assigned = refl
state_by Valid = refl

pub state_is : (found : Option Range) → state_in found ≡ hw_state (page_in found)
state_is None = refl
state_is (Some range) = state_by range.state

-- rights of three times four bits
abbrev pub IsBounded : Option Range → Type 0
IsBounded None = ⊤
IsBounded (Some range) = range.rights ≤ 0xfff

parts_of : (rights : ℕ) → rights ≤ 0xfff → rights ≡ rights % 16 + 16 * (rights / 16 % 16) + 256 * (rights / 256 % 16)
parts_of rights h = omega (arith, h)

pub rights_are : (found : Option Range) → IsBounded found → rights_in found ≡ rights_of (page_in found)
rights_are None h = refl
rights_are (Some range) h = parts_of range.rights h

own : (a : Owner) → same_owner a a ≡ true
own Guest = refl
own Module = refl
own Pool = refl
own Vmsa = refl

owner_same : (a b : Owner) → a ≡ b → same_owner a b ≡ true
owner_same a b e = subst (λ (x : Owner). same_owner a x ≡ true) e (own a)

state_own : (a : HwState) → same_state a a ≡ true
state_own Shared = refl
state_own Assigned = refl
state_own Valid = refl

pub alike : (a b : Option Range) → IsBounded a → IsBounded b → owner_in a ≡ owner_in b → page_in a ≡ page_in b → are_alike a b ≡ true
alike a b ra rb owner page =
    let state : state_in a ≡ state_in b = state_is a ∙ ap hw_state page ∙ sym (state_is b) in
    let rights : rights_in a ≡ rights_in b = rights_are a ra ∙ ap rights_of page ∙ sym (rights_are b rb) in
    all_hold _ _ (owner_same (owner_in a) (owner_in b) owner)
    (all_hold _ _ (subst (λ (x : HwState). same_state (state_in a) x ≡ true) state (state_own (state_in a))) (eq-eqb (rights_in a) (rights_in b) rights))

bounded_by : (test : Range → Bool) (x : Range) (xs : List Range) (t : Bool) → x.rights ≤ 0xfff → IsBounded (find test xs) → IsBounded (cond t (Some x) (find test xs))
bounded_by test x xs true r h = r
bounded_by test x xs false r h = h

pub bounded : (regions : ℕ) (test : Range → Bool) (ranges : List Range) → list_all (is_sound_range regions) ranges ≡ true → IsBounded (find test ranges)
bounded regions test [] sound = tt
bounded regions test (range ∷ ranges) sound =
    let s = both (is_sound_range regions range) (list_all (is_sound_range regions) ranges) sound in
    bounded_by test range ranges (test range) (range_numbers regions range s.0).rights (bounded regions test ranges s.1)

-- LARGE REGIONS

not_vmsa : (owner : Owner) → owner ≢ Vmsa → not (same_owner owner Vmsa) ≡ true
not_vmsa Guest h = refl
not_vmsa Module h = refl
not_vmsa Pool h = refl
not_vmsa Vmsa h = absurd (h refl)

even_by : (image : Image) → IsSound image → (region : ℕ) → is_held_large image region ≡ true → is_even image region ≡ true
unfolding are_same
even_by image s region held =
    let first : region_of (512 * region) ≡ region = omega arith in
    let held_first : IsTrue (is_held_large image (region_of (512 * region))) = ap (is_held_large image) first ∙ held in
    all_hold _ _
    (each_page (λ page. are_alike (range_of image (512 * region)) (range_of image page)) (512 * region) 512
    (λ page low high.
    let same : region_of (512 * region) ≡ region_of page = omega arith in
    alike (range_of image (512 * region)) (range_of image page)
    (bounded image.regions (is_in_range (512 * region)) image.ranges s.ranges) (bounded image.regions (is_in_range page) image.ranges s.ranges)
    (s.uniform_owner (512 * region) page held_first same) (s.uniform_state (512 * region) page held_first same)))
    (not_vmsa (owner_in (range_of image (512 * region))) (s.no_large_vmsa (512 * region) held_first))

held_or : (t u : Bool) → (t ≡ true → u ≡ true) → (not t || u) ≡ true
held_or true u h = h refl
held_or false u h = refl

pub even : (image : Image) → IsSound image → are_even image ≡ true
even image s = each_page (λ region. not (is_held_large image region) || is_even image region) 0 image.regions (λ region low high. held_or (is_held_large image region) (is_even image region) (even_by image s region))

-- THE GHCB PAGE

assigned_by : (page : PageState) → page.assigned ≡ true → page.validated ≡ false → hw_state page ≡ Assigned
assigned_by page a v = rw (v, a) refl

pub ghcb_holds : (image : Image) → IsSound image → is_module_assigned (range_of image image.ghcb.0) ≡ true
ghcb_holds image s =
    let found = range_of image image.ghcb.0 in
    let state : state_in found ≡ Assigned = state_is found ∙ assigned_by (page_in found) s.ghcb_assigned s.ghcb_not_valid in
    all_hold _ _ (owner_same (owner_in found) Module s.ghcb_owner) (ap (λ (x : HwState). same_state x Assigned) state)

-- ACCEPTS, SEATS AND BLOCKS

pub free : (image : Image) → image.accepts ≡ [] → are_free image ≡ true
free image none =
    each_page (λ page. not (is_accepted image page) || is_guest_shared (range_of image page)) 0 (512 * image.regions)
    (λ page low high. ap (λ (l : List Span). not (list_any (is_in_span page) l) || is_guest_shared (range_of image page)) none)

same_own : (t : Bool) → same t t ≡ true
same_own true = refl
same_own false = refl

pub seats : (image : Image) → IsSound image → are_seats image ≡ true
seats image s =
    each_page (λ page. same (list_any (has_vmsa page) image.cores) (is_vmsa_page (range_of image page))) 0 (512 * image.regions)
    (λ page low high. ap (λ (t : Bool). same t (is_vmsa_page (range_of image page))) (s.vmsas page) ∙ same_own (is_vmsa_page (range_of image page)))

or_holds : (t u : Bool) → u ≡ true → (t || u) ≡ true
or_holds true u h = refl
or_holds false u h = h

listed_by : (image : Image) (blocks : List (Page × Size)) → image.blocks ≡ blocks → list_all (is_sound_block image) blocks ≡ true → HasBlocks image blocks
    → (length blocks == 0 || (list_all (is_sound_block image) blocks && are_listed image)) ≡ true
listed_by image [] e sound h = refl
listed_by image (block ∷ blocks) e sound h =
    let all = each_page (λ page. count_by (has_page page) (blocks_by_lines image.blocks) == as_bit (is_pools image page)) 0 (512 * image.regions)
    (λ page low high. eq-eqb (count_by (has_page page) (blocks_by_lines image.blocks)) (as_bit (is_pools image page)) (ap (λ (l : List (Page × Size)). count_by (has_page page) (blocks_by_lines l)) e ∙ h page)) in
    or_holds (length (block ∷ blocks) == 0) _ (all_hold _ _ sound all)

pub listed : (image : Image) → IsSound image → has_blocks image ≡ true
listed image s = listed_by image image.blocks refl s.blocks s.blocks_of_pool

some_core : (n : ℕ) → 1 ≤ n → nat_lt 0 n ≡ true
some_core n h = grind (arith, nat_tests)

-- the end
pub end_holds : (image : Image) → IsSound image → image.accepts ≡ [] → end_told image ≡ Ok image
end_holds image s none =
    let e = even image s in
    let g = ghcb_holds image s in
    let f = free image none in
    let c = all_hold _ _ (some_core (length image.cores) s.cores_least) (seats image s) in
    let b = listed image s in
    rw (e, g, f, c, b) refl
