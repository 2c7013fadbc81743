-- Tables with one place a page, or a region.
use Rattle.std.proofs.Common.{◌≡◌, ℕ, zero, suc, ◌+◌, ◌*◌, ◌<◌, ◌≤◌, Bool, true, false, nat_lt, nat_eq, cond, List, [], ◌∷◌, ◌++◌, length, take, drop, get_or, refl, sym, ◌∙◌, ap, arith, drop-cons}
use Rattle.std.specs.Prelude.{Option, Some, None, is_some, nat_le, ◌&&◌, ◌||◌, ◌==◌, if◌then◌else◌, find, slice_index_or}
use Rattle.std.specs.List.{list_any, list_all, range_with_len}
use Rattle.std.proofs.lemmas.Bool.Decides.{nat_tests}
use Rattle.svsm_types.specs.declared.image.Range.{Range}
use Rattle.svsm_steps.specs.Image.{is_in_range}
use Rattle.svsm_types.specs.declared.image.Image.{Image}
use Rattle.image_grammar.specs.declared.item.Item.TheVariants as items
use Rattle.image_grammar.specs.Grammar.{overlaps, with_item}
use Rattle.image_reader.specs.Marked.{IsTable, AreMarked}

-- a test of one of the places of a run
pub any_noted : {A : Type 0} (none : A) (value : ℕ → A) (table : List A) (test : A → Bool) → IsTable none value table → (first n : ℕ) → first + n ≤ length table
    → list_any test (take n (drop first table)) ≡ list_any (λ page. test (value page)) (range_with_len first n)
any_noted none value table test is first zero within = refl
any_noted none value table test is first (suc n) within =
    let front : drop first table ≡ get_or table first none ∷ drop (suc first) table = drop-cons table first none (omega arith) in
    let next : suc first ≡ first + 1 = omega arith in
    ap (λ xs. list_any test (take (suc n) xs)) front
    ∙ ap (λ o. test o || list_any test (take n (drop (suc first) table))) (is first (omega arith))
    ∙ ap (λ (k : ℕ). test (value first) || list_any test (take n (drop k table))) next
    ∙ ap (λ b. test (value first) || b) (any_noted none value table test is (first + 1) n (omega arith))

-- a test of all places of a run
pub all_noted : {A : Type 0} (none : A) (value : ℕ → A) (table : List A) (test : A → Bool) → IsTable none value table → (first n : ℕ) → first + n ≤ length table
    → list_all test (take n (drop first table)) ≡ list_all (λ page. test (value page)) (range_with_len first n)
all_noted none value table test is first zero within = refl
all_noted none value table test is first (suc n) within =
    let front : drop first table ≡ get_or table first none ∷ drop (suc first) table = drop-cons table first none (omega arith) in
    let next : suc first ≡ first + 1 = omega arith in
    ap (λ xs. list_all test (take (suc n) xs)) front
    ∙ ap (λ o. test o && list_all test (take n (drop (suc first) table))) (is first (omega arith))
    ∙ ap (λ (k : ℕ). test (value first) && list_all test (take n (drop k table))) next
    ∙ ap (λ b. test (value first) && b) (all_noted none value table test is (first + 1) n (omega arith))

pub both : (a b : Bool) → a && b ≡ true → (a ≡ true) × (b ≡ true)
both true b is = (refl, is)
both false b is = absurd cc

pub not_above : (m n : ℕ) → nat_le m n ≡ true → m ≤ n
not_above m n is = grind (arith, nat_tests)

pub below : (m n : ℕ) → nat_lt m n ≡ true → m < n
below m n is = grind (arith, nat_tests)

-- a run in the map is in the table
pub run_within : (regions first count size : ℕ) → nat_lt 0 count && nat_le (first + count) (512 * regions) ≡ true → size ≡ 512 * regions → first + count ≤ size
run_within regions first count size is same =
    let last : first + count ≤ 512 * regions = not_above (first + count) (512 * regions) (both (nat_lt 0 count) _ is).1 in
    omega (arith, last, same)

either_false : (a b : Bool) → a || b ≡ false → (a ≡ false) × (b ≡ false)
either_false true b is = absurd cc
either_false false b is = (refl, is)

equal : (m n : ℕ) → nat_eq m n ≡ true → m ≡ n
equal m n is = grind (arith, nat_tests)

differ : (m n : ℕ) → nat_eq m n ≡ false → m ≡ n → ⊥
differ m n is same = grind (arith, nat_tests)

none_by : (test : ℕ → Bool) (first n page : ℕ) (t : Bool) → nat_eq first page ≡ t → list_any test (range_with_len first (suc n)) ≡ false → first ≤ page → page < first + suc n
    → (list_any test (range_with_len (first + 1) n) ≡ false → first + 1 ≤ page → page < first + 1 + n → test page ≡ false) → test page ≡ false
none_by test first n page true at none low high more = ap test (sym (equal first page at)) ∙ (either_false (test first) (list_any test (range_with_len (first + 1) n)) none).0
none_by test first n page false at none low high more =
    let other : first ≡ page → ⊥ = differ first page at in
    more (either_false (test first) (list_any test (range_with_len (first + 1) n)) none).1 (omega arith) (omega arith)

-- a page of a run in which no page passes
pub none_at : (test : ℕ → Bool) (first n page : ℕ) → list_any test (range_with_len first n) ≡ false → first ≤ page → page < first + n → test page ≡ false
none_at test first zero page none low high = absurd (omega arith)
none_at test first (suc n) page none low high = none_by test first n page (nat_eq first page) refl none low high (none_at test (first + 1) n page)

all_by : (test : ℕ → Bool) (first n page : ℕ) (t : Bool) → nat_eq first page ≡ t → list_all test (range_with_len first (suc n)) ≡ true → first ≤ page → page < first + suc n
    → (list_all test (range_with_len (first + 1) n) ≡ true → first + 1 ≤ page → page < first + 1 + n → test page ≡ true) → test page ≡ true
all_by test first n page true at all low high more = ap test (sym (equal first page at)) ∙ (both (test first) (list_all test (range_with_len (first + 1) n)) all).0
all_by test first n page false at all low high more =
    let other : first ≡ page → ⊥ = differ first page at in
    more (both (test first) (list_all test (range_with_len (first + 1) n)) all).1 (omega arith) (omega arith)

-- a page of a run of which all pages pass
pub all_at : (test : ℕ → Bool) (first n page : ℕ) → list_all test (range_with_len first n) ≡ true → first ≤ page → page < first + n → test page ≡ true
all_at test first zero page all low high = absurd (omega arith)
all_at test first (suc n) page all low high = all_by test first n page (nat_eq first page) refl all low high (all_at test (first + 1) n page)

-- RANGES

-- the first that there is
abbrev either : Option Range → Option Range → Option Range
either (Some x) other = Some x
either None other = other

abbrev only : Range → ℕ → Option Range
only range page = cond (is_in_range page range) (Some range) None

either_none : (o : Option Range) → either o None ≡ o
either_none None = refl
either_none (Some x) = refl

pub no_range : (o : Option Range) → is_some o ≡ false → o ≡ None
no_range None is = refl
no_range (Some x) is = absurd cc

pub inside : (page : ℕ) (range : Range) → is_in_range page range ≡ true → (range.first.0 ≤ page) × (page < range.first.0 + range.count)
inside page range is =
    let parts = both (nat_le range.first.0 page) (nat_lt page (range.first.0 + range.count)) is in
    (not_above range.first.0 page parts.0, below page (range.first.0 + range.count) parts.1)

abbrev pub found : List Range → ℕ → Option Range
found ranges page = find (is_in_range page) ranges

found_by : (page : ℕ) (x : Range) (xs : List Range) (range : Range) (t : Bool) → is_in_range page x ≡ t → found (xs ++ range ∷ []) page ≡ either (found xs page) (only range page)
    → found (x ∷ xs ++ range ∷ []) page ≡ either (found (x ∷ xs) page) (only range page)
found_by page x xs range true is more = simp is
found_by page x xs range false is more = simp is more

found_more : (page : ℕ) (earlier : List Range) (range : Range) → found (earlier ++ range ∷ []) page ≡ either (found earlier page) (only range page)
found_more page [] range = refl
found_more page (x ∷ xs) range = found_by page x xs range (is_in_range page x) refl (found_more page xs range)

abbrev pub noted : Range → List (Option Range) → ℕ → Option Range
noted range table page = if is_in_range page range then Some range else slice_index_or table page None

-- a page of a new range is in no earlier one
pub free_at : (earlier : List Range) (range : Range) (page : ℕ) → list_any (λ p. is_some (found earlier p)) (range_with_len range.first.0 range.count) ≡ false
    → is_in_range page range ≡ true → found earlier page ≡ None
free_at earlier range page free is =
    let within = inside page range is in
    no_range _ (none_at (λ p. is_some (found earlier p)) range.first.0 range.count page free within.0 within.1)

more_at : (earlier : List Range) (table : List (Option Range)) (range : Range) (page : ℕ) (t : Bool) → is_in_range page range ≡ t
    → slice_index_or table page None ≡ found earlier page → list_any (λ p. is_some (found earlier p)) (range_with_len range.first.0 range.count) ≡ false
    → noted range table page ≡ either (found earlier page) (only range page)
more_at earlier table range page true is at free =
    let none : found earlier page ≡ None = free_at earlier range page free is in
    rw none (simp is)
more_at earlier table range page false is at free = simp (is, at) (sym (either_none (found earlier page)))

pub ranges_more : (earlier : List Range) (table after : List (Option Range)) (range : Range) → IsTable None (found earlier) table
    → list_any (λ p. is_some (found earlier p)) (range_with_len range.first.0 range.count) ≡ false
    → length after ≡ length table → ((page : ℕ) → page < length table → slice_index_or after page None ≡ noted range table page)
    → IsTable None (found (earlier ++ range ∷ [])) after
ranges_more earlier table after range is free same at page within =
    let here : page < length table = omega arith in
    at page here ∙ more_at earlier table range page (is_in_range page range) refl (is page here) free ∙ sym (found_more page earlier range)

-- MARKS

or_more : (a b c : Bool) → a || (b || c) ≡ (a || b) || c
or_more true b c = refl
or_more false b c = refl

pub any_more : {A : Type 0} (test : A → Bool) (xs : List A) (x : A) → list_any test (xs ++ x ∷ []) ≡ list_any test xs || test x
any_more test [] x = last (test x) where
  last : (t : Bool) → t || false ≡ t
  last true = refl
  last false = refl
any_more test (y ∷ ys) x = ap (λ b. test y || b) (any_more test ys x) ∙ or_more (test y) (list_any test ys) (test x)

chosen : (t old : Bool) → (if t then true else old) ≡ old || t
chosen true true = refl
chosen true false = refl
chosen false true = refl
chosen false false = refl

pub marks_more : {A : Type 0} (test : ℕ → A → Bool) (earlier : List A) (x : A) (table after : List Bool) → IsTable false (λ place. list_any (test place) earlier) table
    → length after ≡ length table → ((place : ℕ) → place < length table → slice_index_or after place false ≡ (if test place x then true else slice_index_or table place false))
    → IsTable false (λ place. list_any (test place) (earlier ++ x ∷ [])) after
marks_more test earlier x table after is same at place within =
    let here : place < length table = omega arith in
    at place here ∙ chosen (test place x) (slice_index_or table place false)
    ∙ ap (λ b. b || test place x) (is place here) ∙ sym (any_more (test place) earlier x)

-- a single place
pub one_place : (first place : ℕ) → nat_le first place && nat_lt place (first + 1) ≡ (first == place)
one_place first place = grind (arith, nat_tests)

-- RUNS, ONE PLACE AFTER ANOTHER

both_true : {a b : Bool} → a ≡ true → b ≡ true → (a && b) ≡ true
both_true {a} {b} p q = rw p q

and_true : (a : Bool) → a && true ≡ a
and_true true = refl
and_true false = refl

next_in : (test : ℕ → Bool) (first n : ℕ) → list_all test (range_with_len first n) ≡ true → test (first + n) ≡ true → list_all test (range_with_len first (suc n)) ≡ true
next_in test first zero all pass =
    let here : first + 0 ≡ first = omega arith in
    and_true (test first) ∙ ap test (sym here) ∙ pass
next_in test first (suc n) all pass =
    let parts = both (test first) (list_all test (range_with_len (first + 1) n)) all in
    let next : first + 1 + n ≡ first + suc n = omega arith in
    both_true parts.0 (next_in test (first + 1) n parts.1 (ap test next ∙ pass))

-- one place more
pub all_next : (test : ℕ → Bool) (n : ℕ) → list_all test (range_with_len 0 n) ≡ true → test n ≡ true → list_all test (range_with_len 0 (n + 1)) ≡ true
all_next test n all pass =
    let next : n + 1 ≡ suc n = omega arith in
    let here : 0 + n ≡ n = omega arith in
    ap (λ (k : ℕ). list_all test (range_with_len 0 k)) next ∙ next_in test 0 n all (ap test here ∙ pass)

-- a place that fails
pub not_all : (test : ℕ → Bool) (n page : ℕ) (t : Bool) → list_all test (range_with_len 0 n) ≡ t → page < n → test page ≡ false → t ≡ false
not_all test n page true all within fails = absurd (cc (sym fails ∙ all_at test 0 n page all (omega arith) (omega (arith, within))))
not_all test n page false all within fails = refl

-- the tables with one range more
pub ranges_marked : (image : Image) (range : Range) (table after : List (Option Range)) (accepted held : List Bool) → AreMarked image table accepted held
    → overlaps image (items.Range range) ≡ false → length after ≡ length table → ((page : ℕ) → page < length table → slice_index_or after page None ≡ noted range table page)
    → AreMarked (with_item image (items.Range range)) after accepted held
ranges_marked image range table after accepted held marked free same at = record {
  ranges_size = same ∙ marked.ranges_size;
  accepts_size = marked.accepts_size;
  large_size = marked.large_size;
  ranges = ranges_more image.ranges table after range marked.ranges free same at;
  accepts = marked.accepts;
  large = marked.large;
}
