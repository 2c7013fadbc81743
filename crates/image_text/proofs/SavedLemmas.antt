-- The image of a last state is sound.
use Rattle.std.proofs.Common.{◌≡◌, ◌≢◌, ℕ, zero, suc, ◌+◌, ◌*◌, ◌/◌, ◌%◌, ◌-◌, ◌^◌, ◌<◌, ◌≤◌, Bool, true, false, List, [], ◌∷◌, ◌++◌, length, get_or, refl, sym, ap, ◌∙◌, subst, arith, IsTrue, ◌⊎◌, inl, inr}
use Rattle.std.specs.Prelude.{⊤, if◌then◌else◌, ◌&&◌, ◌||◌, ◌==◌, not, nat_le, nat_lt, Option, Some, None, map, filter, find, flat_map, count_by, cond}
use Rattle.std.specs.List.{list_all, list_any, range_with_len}
use Rattle.std.proofs.lemmas.Bool.Decides.{nat_tests}
use Rattle.std.proofs.lemmas.Bool.{eqb-true, eqb-false, eq-eqb, ne_eqb, cases_lt}
use Rattle.std.proofs.lemmas.List.Sums.{sum_by-cons}
use Rattle.std.proofs.lemmas.List.FromFn.{length-map-range_with_len}
use Rattle.svsm_types.specs.Pages.{page_of, region_of, is_multiple}
use Rattle.svsm_types.specs.declared.image.Range.{Range}
use Rattle.svsm_types.specs.declared.image.Fill.{Fill}
use Rattle.svsm_steps.specs.Image.{is_in_range}
use Rattle.svsm_steps.specs.Sound.{is_sound_range, is_sound_fill, has_lawful_rights, is_valid_where_held}
use Rattle.image_text.specs.ReadsAgain.{AreOf64Bits, AreFillsOf64Bits}
use Rattle.image_text.specs.Saved.{Saying, same_saying, range_at, joining, ranges_from, onto_fill, fills_from}
use Rattle.image_text.proofs.RangeLemmas.{says_of, HeadAt, ranges_head}
use Rattle.image_text.proofs.SoundLemmas.{all_hold}

-- RANGES, EACH PAGE IN ONE

abbrev times : ℕ → List Range → ℕ
times page ranges = count_by (is_in_range page) ranges

in_head : (page : ℕ) (range : Range) (ranges : List Range) (t : Bool) → is_in_range page range ≡ t → times page (range ∷ ranges) ≡ (if t then 1 else 0) + times page ranges
in_head page range ranges true e = sum_by-cons (λ y. cond (is_in_range page y) 1 0) range ranges ∙ ap {B = ℕ} (λ (t : Bool). cond t 1 0 + times page ranges) e
in_head page range ranges false e = sum_by-cons (λ y. cond (is_in_range page y) 1 0) range ranges ∙ ap {B = ℕ} (λ (t : Bool). cond t 1 0 + times page ranges) e

within : (page first count : ℕ) → first ≤ page → page < first + count → (nat_le first page && nat_lt page (first + count)) ≡ true
within page first count low high = grind (arith, nat_tests)

below : (page first count : ℕ) → page < first → (nat_le first page && nat_lt page (first + count)) ≡ false
below page first count low = grind (arith, nat_tests)

beyond : (page first count : ℕ) → first + count ≤ page → (nat_le first page && nat_lt page (first + count)) ≡ false
beyond page first count high = grind (arith, nat_tests)

longer : (page first count : ℕ) → first < page → (nat_le first page && nat_lt page (first + (count + 1))) ≡ (nat_le (first + 1) page && nat_lt page (first + 1 + count))
longer page first count low = grind (arith, nat_tests)

-- a page before the first stands in none, and any other in one at most
abbrev Counts : ℕ → ℕ → List Range → Type 0
Counts page first ranges = (page < first → times page ranges ≡ 0) × (times page ranges ≤ 1)

alone_by : (page first : ℕ) (says : Saying) (ranges : List Range) → Counts page (first + 1) ranges → (page < first) ⊎ (first ≤ page) → (first < page) ⊎ (page ≤ first)
    → times page (range_at first 1 says ∷ ranges) ≤ 1
alone_by page first says ranges h (inl low) up = omega (arith, in_head page (range_at first 1 says) ranges false (below page first 1 low), h.0 (omega (arith, low)))
alone_by page first says ranges h (inr low) (inl high) = omega (arith, in_head page (range_at first 1 says) ranges false (beyond page first 1 (omega (arith, high))), h.1)
alone_by page first says ranges h (inr low) (inr high) =
    omega (arith, in_head page (range_at first 1 says) ranges true (within page first 1 low (omega (arith, high))), h.0 (omega (arith, high)))

alone : (page first : ℕ) (says : Saying) (ranges : List Range) → Counts page (first + 1) ranges → Counts page first (range_at first 1 says ∷ ranges)
alone page first says ranges h = (
  λ low. omega (arith, in_head page (range_at first 1 says) ranges false (below page first 1 low), h.0 (omega (arith, low))),
  alone_by page first says ranges h (cases_lt page first) (cases_lt first page),
)

tail_none : (page : ℕ) (range : Range) (ranges : List Range) → times page (range ∷ ranges) ≡ 0 → times page ranges ≡ 0
tail_none page range ranges h = omega (arith, h, sum_by-cons (λ y. cond (is_in_range page y) 1 0) range ranges)

more_by : (page first : ℕ) (says : Saying) (range : Range) (ranges : List Range) → range.first.0 ≡ first + 1 → Counts page (first + 1) (range ∷ ranges)
    → (page < first) ⊎ (first ≤ page) → (first < page) ⊎ (page ≤ first) → times page (range_at first (range.count + 1) says ∷ ranges) ≤ 1
more_by page first says range ranges head h (inl low) up =
    omega (arith, in_head page (range_at first (range.count + 1) says) ranges false (below page first (range.count + 1) low), tail_none page range ranges (h.0 (omega (arith, low))))
more_by page first says range ranges head h (inr low) (inr high) =
    omega (
      arith,
      in_head page (range_at first (range.count + 1) says) ranges true (within page first (range.count + 1) low (omega (arith, high))),
      tail_none page range ranges (h.0 (omega (arith, high))),
    )
more_by page first says range ranges head h (inr low) (inl high) =
    let same : is_in_range page (range_at first (range.count + 1) says) ≡ is_in_range page range =
    longer page first range.count high ∙ ap (λ (n : ℕ). nat_le n page && nat_lt page (n + range.count)) (sym head) in
    omega (
      arith,
      sum_by-cons (λ y. cond (is_in_range page y) 1 0) (range_at first (range.count + 1) says) ranges,
      ap {B = ℕ} (λ (t : Bool). cond t 1 0) same,
      sum_by-cons (λ y. cond (is_in_range page y) 1 0) range ranges,
      h.1,
    )

more : (page first : ℕ) (says : Saying) (range : Range) (ranges : List Range) → range.first.0 ≡ first + 1 → Counts page (first + 1) (range ∷ ranges) → Counts page first (range_at first (range.count + 1) says ∷ ranges)
more page first says range ranges head h = (
  λ low. omega (arith, in_head page (range_at first (range.count + 1) says) ranges false (below page first (range.count + 1) low), tail_none page range ranges (h.0 (omega (arith, low)))),
  more_by page first says range ranges head h (cases_lt page first) (cases_lt first page),
)

counts_by : (t : Bool) (page first : ℕ) (says : Saying) (range : Range) (ranges : List Range) → range.first.0 ≡ first + 1 → Counts page (first + 1) (range ∷ ranges)
    → Counts page first (if t then range_at first (range.count + 1) says ∷ ranges else range_at first 1 says ∷ range ∷ ranges)
counts_by true page first says range ranges head h = more page first says range ranges head h
counts_by false page first says range ranges head h = alone page first says (range ∷ ranges) h

counts_joining : (page first : ℕ) (says : Saying) (ranges : List Range) → HeadAt (first + 1) ranges → Counts page (first + 1) ranges → Counts page first (joining first says ranges)
counts_joining page first says [] head h = alone page first says [] h
counts_joining page first says (range ∷ ranges) head h = counts_by (same_saying says (says_of range)) page first says range ranges head h

counts : (page first : ℕ) (sayings : List Saying) → Counts page first (ranges_from first sayings)
counts page first [] = (λ low. refl, omega arith)
counts page first (says ∷ sayings) = counts_joining page first says (ranges_from (first + 1) sayings) (ranges_head (first + 1) sayings) (counts page (first + 1) sayings)

pub once : (page : ℕ) (sayings : List Saying) → count_by (is_in_range page) (ranges_from 0 sayings) ≤ 1
once page sayings = (counts page 0 sayings).1

-- RANGES, EACH SOUND

abbrev pub IsLawful : Saying → Type 0
IsLawful says = (has_lawful_rights (range_at 0 0 says) && is_valid_where_held (range_at 0 0 says)) ≡ true

abbrev pub AllLawful : List Saying → Type 0
AllLawful [] = ⊤
AllLawful (says ∷ sayings) = IsLawful says × AllLawful sayings

-- each range has a page, ends before the bound, and is lawful
abbrev pub AllWithin : ℕ → List Range → Type 0
AllWithin bound [] = ⊤
AllWithin bound (range ∷ ranges) = (0 < range.count) × (range.first.0 + range.count ≤ bound) × IsLawful (says_of range) × AllWithin bound ranges

within_by : (t : Bool) (bound first : ℕ) (says : Saying) (range : Range) (ranges : List Range) → range.first.0 ≡ first + 1 → first + 1 ≤ bound → IsLawful says → AllWithin bound (range ∷ ranges)
    → AllWithin bound (if t then range_at first (range.count + 1) says ∷ ranges else range_at first 1 says ∷ range ∷ ranges)
within_by true bound first says range ranges head low lawful h = (omega arith, omega (arith, h.1, head), lawful, h.3)
within_by false bound first says range ranges head low lawful h = (omega arith, low, lawful, h)

within_joining : (bound first : ℕ) (says : Saying) (ranges : List Range) → HeadAt (first + 1) ranges → first + 1 ≤ bound → IsLawful says → AllWithin bound ranges → AllWithin bound (joining first says ranges)
within_joining bound first says [] head low lawful h = (omega arith, low, lawful, tt)
within_joining bound first says (range ∷ ranges) head low lawful h = within_by (same_saying says (says_of range)) bound first says range ranges head low lawful h

pub all_within : (bound first : ℕ) (sayings : List Saying) → first + length sayings ≤ bound → AllLawful sayings → AllWithin bound (ranges_from first sayings)
all_within bound first [] low h = tt
all_within bound first (says ∷ sayings) low h =
    within_joining bound first says (ranges_from (first + 1) sayings) (ranges_head (first + 1) sayings) (omega (arith, low)) h.0
    (all_within bound (first + 1) sayings (omega (arith, low)) h.1)

in_bounds : (first count bound : ℕ) → 0 < count → first + count ≤ bound → (nat_lt 0 count && nat_le (first + count) bound) ≡ true
in_bounds first count bound some low = grind (arith, nat_tests)

sound_of : (regions : ℕ) (ranges : List Range) → AllWithin (512 * regions) ranges → list_all (is_sound_range regions) ranges ≡ true
sound_of regions [] h = refl
sound_of regions (range ∷ ranges) h =
    all_hold _ _ (all_hold _ _ (in_bounds range.first.0 range.count (512 * regions) h.0 h.1) h.2) (sound_of regions ranges h.3)

pub ranges_sound : (regions : ℕ) (sayings : List Saying) → length sayings ≡ 512 * regions → AllLawful sayings → list_all (is_sound_range regions) (ranges_from 0 sayings) ≡ true
ranges_sound regions sayings size h = sound_of regions (ranges_from 0 sayings) (all_within (512 * regions) 0 sayings (omega (arith, size)) h)

-- FILLS, EACH SOUND

abbrev pub FillsWithin : ℕ → List Fill → Type 0
FillsWithin bound [] = ⊤
FillsWithin bound (fill ∷ fills) = (fill.gpa.0 % 8 ≡ 0) × (0 < length fill.words) × (fill.gpa.0 + 8 * length fill.words ≤ 8 * bound) × AreOf64Bits fill.words × FillsWithin bound fills

onto_by : (t : Bool) (bound at word : ℕ) (fill : Fill) (fills : List Fill) → (fill.gpa.0 == 8 * (at + 1)) ≡ t → at + 1 ≤ bound → word < 2 ^ 64 → FillsWithin bound (fill ∷ fills)
    → FillsWithin bound (if t then record { gpa = record { 0 = 8 * at }; words = word ∷ fill.words } ∷ fills else record { gpa = record { 0 = 8 * at }; words = word ∷ [] } ∷ fill ∷ fills)
onto_by true bound at word fill fills e low small h =
    let gpa = eqb-true fill.gpa.0 (8 * (at + 1)) e in
    (omega arith, omega arith, omega (arith, gpa, h.2), (small, h.3), h.4)
onto_by false bound at word fill fills e low small h = (omega arith, omega arith, omega (arith, low), (small, tt), h)

onto_within : (bound at word : ℕ) (fills : List Fill) → at + 1 ≤ bound → word < 2 ^ 64 → FillsWithin bound fills → FillsWithin bound (onto_fill at word fills)
onto_within bound at word [] low small h = (omega arith, omega arith, omega (arith, low), (small, tt), tt)
onto_within bound at word (fill ∷ fills) low small h = onto_by (fill.gpa.0 == 8 * (at + 1)) bound at word fill fills refl low small h

from_by : (t : Bool) (bound at word : ℕ) (fills : List Fill) → at + 1 ≤ bound → word < 2 ^ 64 → FillsWithin bound fills → FillsWithin bound (if t then fills else onto_fill at word fills)
from_by true bound at word fills low small h = h
from_by false bound at word fills low small h = onto_within bound at word fills low small h

pub fills_within : (bound at : ℕ) (words : List ℕ) → at + length words ≤ bound → AreOf64Bits words → FillsWithin bound (fills_from at words)
fills_within bound at [] low small = tt
fills_within bound at (word ∷ words) low small =
    from_by (word == 0) bound at word (fills_from (at + 1) words) (omega (arith, low)) small.0 (fills_within bound (at + 1) words (omega (arith, low)) small.1)

fill_sound : (gpa count regions : ℕ) → gpa % 8 ≡ 0 → 0 < count → gpa + 8 * count ≤ 8 * (512 * (512 * regions)) → (is_multiple 8 gpa && (nat_lt 0 count && nat_le (gpa + 8 * count) (4096 * (512 * regions)))) ≡ true
fill_sound gpa count regions unit some low = grind (arith, nat_tests)

pub fills_sound : (regions : ℕ) (fills : List Fill) → FillsWithin (512 * (512 * regions)) fills → list_all (is_sound_fill regions) fills ≡ true
fills_sound regions [] h = refl
fills_sound regions (fill ∷ fills) h = all_hold _ _ (fill_sound fill.gpa.0 (length fill.words) regions h.0 h.1 h.2) (fills_sound regions fills h.4)

pub fills_words : (bound : ℕ) (fills : List Fill) → FillsWithin bound fills → AreFillsOf64Bits fills
fills_words bound [] h = tt
fills_words bound (fill ∷ fills) h = (h.3, fills_words bound fills h.4)

-- PAGES PAST THE MAP

find_none : (page : ℕ) (range : Range) (ranges : List Range) → is_in_range page range ≡ false → find (is_in_range page) ranges ≡ None → find (is_in_range page) (range ∷ ranges) ≡ None
find_none page range ranges e h = ap (λ (t : Bool). cond t (Some range) (find (is_in_range page) ranges)) e ∙ h

pub none_beyond : (bound page : ℕ) (ranges : List Range) → AllWithin bound ranges → bound ≤ page → find (is_in_range page) ranges ≡ None
none_beyond bound page [] h low = refl
none_beyond bound page (range ∷ ranges) h low = find_none page range ranges (beyond page range.first.0 range.count (omega (arith, h.1, low))) (none_beyond bound page ranges h.3 low)
