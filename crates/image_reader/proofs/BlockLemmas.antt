-- The pages of listed blocks, marked one block after another.
use Rattle.std.proofs.Common.{◌≡◌, ℕ, zero, suc, ◌+◌, ◌*◌, ◌%◌, ◌<◌, ◌≤◌, Bool, true, false, nat_lt, cond, List, [], ◌∷◌, length, refl, sym, ◌∙◌, ap, subst, arith}
use Rattle.std.specs.Prelude.{nat_le, ◌&&◌, ◌||◌, ◌==◌, not, if◌then◌else◌, slice_index_or}
use Rattle.std.specs.List.{list_any, list_all, range_with_len}
use Rattle.std.proofs.lemmas.Bool.Decides.{nat_tests}
use Rattle.std.proofs.lemmas.List.Sums.{sum_by-cons}
use Rattle.svsm_types.specs.Pages.{region_of, is_multiple, is_in_map}
use Rattle.svsm_types.specs.declared.address.Page.{Page}
use Rattle.svsm_types.specs.declared.platform.Size.{Size}
use Rattle.svsm_types.specs.declared.platform.Size.TheVariants.{Small, Large}
use Rattle.svsm_types.specs.declared.image.Image.{Image}
use Rattle.svsm_steps.specs.State.{Block}
use Rattle.svsm_steps.specs.Words.{as_bit}
use Rattle.svsm_steps.specs.Image.{is_pools, blocks_by_lines}
use Rattle.svsm_steps.specs.Partition.{has_page}
use Rattle.svsm_steps.specs.Sound.{is_sound_block}
use Rattle.image_grammar.specs.End.{are_listed}
use Rattle.image_reader.specs.Blocks.{AreHeld, count_of, listed}
use Rattle.image_reader.proofs.TableLemmas.{both, not_above, below, none_at, not_all}

-- the block of a line
abbrev pub block_in : Page × Size → Block
block_in block = record { page = block.0; size = block.1 }

-- a page lies in the run of a block
abbrev in_run : ℕ → ℕ → ℕ → Bool
in_run first count page = nat_le first page && nat_lt page (first + count)

in_run_within : (first count page : ℕ) → in_run first count page ≡ true → (first ≤ page) × (page < first + count)
in_run_within first count page is =
    let parts = both (nat_le first page) (nat_lt page (first + count)) is in
    (not_above first page parts.0, below page (first + count) parts.1)

small_run : (first page : ℕ) → (page == first) || false ≡ in_run first 1 page
small_run first page = grind (arith, nat_tests)

large_run : (first page : ℕ) → first % 512 ≡ 0 → (page == first) || (region_of page == region_of first) ≡ in_run first 512 page
large_run first page whole = by (page == first) refl (region_of page == region_of first) refl (nat_le first page) refl (nat_lt page (first + 512)) refl where
  by : (a : Bool) → page == first ≡ a → (b : Bool) → region_of page == region_of first ≡ b → (c : Bool) → nat_le first page ≡ c → (d : Bool) → nat_lt page (first + 512) ≡ d → a || b ≡ c && d
  by a is_a b is_b c is_c d is_d = grind (arith, nat_tests)

multiple : (first : ℕ) → is_multiple 512 first ≡ true → first % 512 ≡ 0
multiple first is = grind (arith, nat_tests)

run_by : (image : Image) (first : Page) (size : Size) (page : ℕ) → is_sound_block image (first, size) ≡ true → has_page page (block_in (first, size)) ≡ in_run first.0 (count_of size) page
run_by image first Small page sound = small_run first.0 page
run_by image first Large page sound =
    large_run first.0 page (multiple first.0 (both (is_multiple 512 first.0) _ (both (is_in_map image.regions first.0) _ sound).1).0)

-- the pages of a sound block are those of its run
pages_by : (image : Image) (block : Page × Size) (page : ℕ) → is_sound_block image block ≡ true → has_page page (block_in block) ≡ in_run block.0.0 (count_of block.1) page
pages_by image block page sound = run_by image block.0 block.1 page sound

within_by : (image : Image) (first : Page) (size : Size) → is_sound_block image (first, size) ≡ true → first.0 + count_of size ≤ 512 * image.regions
within_by image first Small sound =
    let inside : first.0 < 512 * image.regions = below first.0 (512 * image.regions) (both (is_in_map image.regions first.0) _ sound).0 in
    omega (arith, inside)
within_by image first Large sound =
    let inside : first.0 < 512 * image.regions = below first.0 (512 * image.regions) (both (is_in_map image.regions first.0) _ sound).0 in
    let whole : first.0 % 512 ≡ 0 = multiple first.0 (both (is_multiple 512 first.0) _ (both (is_in_map image.regions first.0) _ sound).1).0 in
    omega (arith, inside, whole)

-- and they are in the map
pub run_in_map : (image : Image) (block : Page × Size) → is_sound_block image block ≡ true → block.0.0 + count_of block.1 ≤ 512 * image.regions
run_in_map image block sound = within_by image block.0 block.1 sound

in_map_by : (image : Image) (block : Page × Size) (page : ℕ) → is_sound_block image block ≡ true → in_run block.0.0 (count_of block.1) page ≡ true → page < 512 * image.regions
in_map_by image block page sound is = omega (arith, (in_run_within block.0.0 (count_of block.1) page is).1, run_in_map image block sound)

-- a page of a sound block is in the map
pub block_in_map : (image : Image) (block : Page × Size) (page : ℕ) → is_sound_block image block ≡ true → has_page page (block_in block) ≡ true → page < 512 * image.regions
block_in_map image block page sound has = in_map_by image block page sound (sym (pages_by image block page sound) ∙ has)

-- ONE BLOCK MORE

abbrev pub marked : List Bool → ℕ → Bool
marked held page = slice_index_or held page false

abbrev pub marked_by : Page × Size → List Bool → ℕ → Bool
marked_by block held page = if in_run block.0.0 (count_of block.1) page then true else marked held page

pub listed_more : (block : Page × Size) (left : List (Page × Size)) (page : ℕ) (t : Bool) → has_page page (block_in block) ≡ t → listed (block ∷ left) page ≡ as_bit t + listed left page
listed_more block left page true has =
    sum_by-cons (λ (b : Block). cond (has_page page b) 1 0) (block_in block) (blocks_by_lines left) ∙ ap (λ (t : Bool). cond t 1 0 + listed left page) has
listed_more block left page false has =
    sum_by-cons (λ (b : Block). cond (has_page page b) 1 0) (block_in block) (blocks_by_lines left) ∙ ap (λ (t : Bool). cond t 1 0 + listed left page) has

next_by : (blocks left : List (Page × Size)) (block : Page × Size) (held : List Bool) (page : ℕ) (t : Bool) → in_run block.0.0 (count_of block.1) page ≡ t
    → has_page page (block_in block) ≡ t → (t ≡ true → marked held page ≡ false)
    → as_bit (marked held page) + listed (block ∷ left) page ≡ listed blocks page → as_bit (marked_by block held page) + listed left page ≡ listed blocks page
next_by blocks left block held page true run has free before =
    let none : as_bit (marked held page) ≡ 0 = ap as_bit (free refl) in
    let now : as_bit (marked_by block held page) ≡ 1 = ap (λ (t : Bool). as_bit (if t then true else marked held page)) run in
    omega (arith, none, now, listed_more block left page true has, before)
next_by blocks left block held page false run has free before =
    let now : as_bit (marked_by block held page) ≡ as_bit (marked held page) = ap (λ (t : Bool). as_bit (if t then true else marked held page)) run in
    omega (arith, now, listed_more block left page false has, before)

-- the marks with one block more
pub next_held : (image : Image) (blocks left : List (Page × Size)) (block : Page × Size) (held after : List Bool) → is_sound_block image block ≡ true
    → AreHeld blocks held (block ∷ left) → list_any (marked held) (range_with_len block.0.0 (count_of block.1)) ≡ false
    → length after ≡ length held → ((page : ℕ) → page < length held → marked after page ≡ marked_by block held page) → AreHeld blocks after left
next_held image blocks left block held after sound before free same at page within =
    let here : page < length held = omega arith in
    ap (λ b. as_bit b + listed left page) (at page here)
    ∙ next_by blocks left block held page (in_run block.0.0 (count_of block.1) page) refl (pages_by image block page sound)
    (λ is. none_at (marked held) block.0.0 (count_of block.1) page free (in_run_within block.0.0 (count_of block.1) page is).0 (in_run_within block.0.0 (count_of block.1) page is).1)
    (before page here)

-- FAILURES

some_by : (test : ℕ → Bool) (first n : ℕ) (R : Type 0) (t : Bool) → test first ≡ t → list_any test (range_with_len first (suc n)) ≡ true
    → ((page : ℕ) → first ≤ page → page < first + suc n → test page ≡ true → R) → (list_any test (range_with_len (first + 1) n) ≡ true → R) → R
some_by test first n R true is any found more = found first (omega arith) (omega arith) is
some_by test first n R false is any found more = more (sym (ap (λ b. b || list_any test (range_with_len (first + 1) n)) is) ∙ any)

-- one page of a run in which some page passes
some_at : (test : ℕ → Bool) (first n : ℕ) (R : Type 0) → list_any test (range_with_len first n) ≡ true → ((page : ℕ) → first ≤ page → page < first + n → test page ≡ true → R) → R
some_at test first zero R any found = absurd cc
some_at test first (suc n) R any found =
    some_by test first n R (test first) refl any found
    (λ rest. some_at test (first + 1) n R rest (λ page low high. found page (omega (arith, low)) (omega (arith, high))))

run_has : (first count page : ℕ) → first ≤ page → page < first + count → in_run first count page ≡ true
run_has first count page low high = grind (arith, nat_tests)

twice : (listed : ℕ) (pools : Bool) → 2 ≤ listed → listed == as_bit pools ≡ false
twice listed true many = grind (arith, nat_tests)
twice listed false many = grind (arith, nat_tests)

two_blocks : (blocks left : List (Page × Size)) (block : Page × Size) (page : ℕ) (held : Bool) → held ≡ true → has_page page (block_in block) ≡ true
    → as_bit held + listed (block ∷ left) page ≡ listed blocks page → 2 ≤ listed blocks page
two_blocks blocks left block page held is has before =
    let one : as_bit held ≡ 1 = ap as_bit is in
    omega (arith, one, listed_more block left page true has, before)

-- a page stands in two blocks
pub block_taken : (image : Image) (left : List (Page × Size)) (block : Page × Size) (held : List Bool) → is_sound_block image block ≡ true → length held ≡ 512 * image.regions
    → AreHeld image.blocks held (block ∷ left) → list_any (marked held) (range_with_len block.0.0 (count_of block.1)) ≡ true → are_listed image ≡ false
block_taken image left block held sound size before any =
    some_at (marked held) block.0.0 (count_of block.1) (are_listed image ≡ false) any
    (λ page low high is.
    let inside : page < 512 * image.regions = omega (arith, high, run_in_map image block sound) in
    let has : has_page page (block_in block) ≡ true = pages_by image block page sound ∙ run_has block.0.0 (count_of block.1) page low high in
    not_all (λ p. listed image.blocks p == as_bit (is_pools image p)) (512 * image.regions) page (are_listed image) refl inside
    (twice (listed image.blocks page) (is_pools image page) (two_blocks image.blocks left block page (marked held page) is has (before page (omega (arith, size, inside))))))

fails_right : (a : Bool) → a && false ≡ false
fails_right true = refl
fails_right false = refl

pub right_fails : (a b : Bool) → b ≡ false → a && b ≡ false
right_fails a b is = ap (λ t. a && t) is ∙ fails_right a

pub left_fails : (a b : Bool) → a ≡ false → a && b ≡ false
left_fails a b is = ap (λ t. t && b) is

-- MARKS AND PAGES OF THE POOL

plus_none : (n : ℕ) → n + 0 ≡ n
plus_none n = omega arith

bits : (a b : Bool) → (as_bit a == as_bit b) ≡ cond a b (not b)
bits true true = refl
bits true false = refl
bits false true = refl
bits false false = refl

-- all blocks are marked
pub counted : (blocks : List (Page × Size)) (held : List Bool) (page : ℕ) → AreHeld blocks held [] → page < length held → as_bit (marked held page) ≡ listed blocks page
counted blocks held page are within = sym (plus_none (as_bit (marked held page))) ∙ are page within

-- WALKS OVER THE BLOCKS

abbrev pub IsWalked : Image → List Bool → List (Page × Size) → Type 0
IsWalked image held left = (list_all (is_sound_block image) left ≡ list_all (is_sound_block image) image.blocks) × AreHeld image.blocks held left

sound_more : (image : Image) (block : Page × Size) (left : List (Page × Size)) → is_sound_block image block ≡ true
    → list_all (is_sound_block image) (block ∷ left) ≡ list_all (is_sound_block image) image.blocks → list_all (is_sound_block image) left ≡ list_all (is_sound_block image) image.blocks
sound_more image block left sound all = sym (ap (λ b. b && list_all (is_sound_block image) left) sound) ∙ all

-- a block that is sound and free
pub walk_on : (image : Image) (all left : List (Page × Size)) (block : Page × Size) (count : ℕ) (held after : List Bool) → all ≡ block ∷ left → IsWalked image held all
    → is_sound_block image block ≡ true → count ≡ count_of block.1 → list_any (marked held) (range_with_len block.0.0 count) ≡ false → length after ≡ length held
    → ((page : ℕ) → page < length held → marked after page ≡ (if in_run block.0.0 count page then true else marked held page)) → IsWalked image after left
walk_on image all left block count held after is walked sound pages free same at =
    let here : IsWalked image held (block ∷ left) = subst (IsWalked image held) is walked in (
      sound_more image block left sound here.0,
      next_held image image.blocks left block held after sound here.1
          (subst (λ (n : ℕ). list_any (marked held) (range_with_len block.0.0 n) ≡ false) pages free)
          same
          (λ page within. subst (λ (n : ℕ). marked after page ≡ (if in_run block.0.0 n page then true else marked held page)) pages (at page within)),
    )

-- a block that is not sound
pub walk_unsound : (image : Image) (all left : List (Page × Size)) (block : Page × Size) (held : List Bool) → all ≡ block ∷ left → IsWalked image held all → is_sound_block image block ≡ false
    → list_all (is_sound_block image) image.blocks && are_listed image ≡ false
walk_unsound image all left block held is walked unsound =
    let here : IsWalked image held (block ∷ left) = subst (IsWalked image held) is walked in
    left_fails (list_all (is_sound_block image) image.blocks) (are_listed image) (sym here.0 ∙ ap (λ b. b && list_all (is_sound_block image) left) unsound)

-- a block of which a page is taken
pub walk_taken : (image : Image) (all left : List (Page × Size)) (block : Page × Size) (count : ℕ) (held : List Bool) → all ≡ block ∷ left → IsWalked image held all
    → is_sound_block image block ≡ true → count ≡ count_of block.1 → length held ≡ 512 * image.regions → list_any (marked held) (range_with_len block.0.0 count) ≡ true
    → list_all (is_sound_block image) image.blocks && are_listed image ≡ false
walk_taken image all left block count held is walked sound pages size any =
    let here : IsWalked image held (block ∷ left) = subst (IsWalked image held) is walked in
    right_fails (list_all (is_sound_block image) image.blocks) (are_listed image)
    (block_taken image left block held sound size here.1 (subst (λ (n : ℕ). list_any (marked held) (range_with_len block.0.0 n) ≡ true) pages any))
