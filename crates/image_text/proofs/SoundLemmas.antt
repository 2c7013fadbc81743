-- The lines of a sound image fit behind one another.
use Rattle.std.proofs.Common.{◌≡◌, ◌≢◌, ℕ, zero, suc, ◌+◌, ◌*◌, ◌/◌, ◌%◌, ◌-◌, ◌^◌, ◌<◌, ◌≤◌, Bool, true, false, List, [], ◌∷◌, ◌++◌, length, refl, sym, ap, ◌∙◌, subst, arith, append_assoc, IsTrue}
use Rattle.std.specs.Prelude.{⊤, if◌then◌else◌, ◌&&◌, ◌||◌, ◌==◌, not, nat_le, nat_lt, Option, Some, None, is_some, Result, Ok, Err, map, codes, find, count_by, cond}
use Rattle.std.specs.List.{list_all, list_any, range_with_len}
use Rattle.std.specs.Option.{option_map_or}
use Rattle.std.proofs.lemmas.List.{append-nil, length-append}
use Rattle.std.proofs.lemmas.List.Sums.{sum_by-append, sum_by-cons}
use Rattle.std.proofs.lemmas.Bool.Decides.{nat_tests}
use Rattle.std.proofs.lemmas.Bool.{eqb-true, eq-eqb}
use Rattle.svsm_types.specs.Pages.{page_of, is_multiple, is_in_map}
use Rattle.svsm_types.specs.declared.address.Page.{Page}
use Rattle.svsm_types.specs.declared.address.Gpa.{Gpa}
use Rattle.svsm_types.specs.declared.image.Image.{Image}
use Rattle.svsm_types.specs.declared.image.Range.{Range}
use Rattle.svsm_types.specs.declared.image.CoreLine.{CoreLine}
use Rattle.svsm_types.specs.declared.image.Fill.{Fill}
use Rattle.svsm_types.specs.declared.owner.Owner.{Owner}
use Rattle.svsm_types.specs.declared.owner.Owner.TheVariants.{Guest, Module, Pool, Vmsa}
use Rattle.svsm_types.specs.declared.platform.HwState.{HwState}
use Rattle.svsm_types.specs.declared.platform.HwState.TheVariants.{Shared, Assigned, Valid}
use Rattle.svsm_types.specs.declared.platform.Size.{Size}
use Rattle.svsm_types.specs.declared.platform.Size.TheVariants.{Small, Large}
use Rattle.svsm_types.specs.declared.platform.Vmpl.{Vmpl}
use Rattle.svsm_steps.specs.Image.{is_in_range}
use Rattle.svsm_steps.specs.Sound.{IsSound, is_sound_range, is_range_in_map, has_lawful_rights, is_valid_where_held, is_sound_core, is_sound_seat, is_level, has_vmsa, sits_at, is_sound_block, is_sound_fill}
use Rattle.svsm_text.specs.Numbers.{number}
use Rattle.image_grammar.specs.declared.item.Item.{Item}
use Rattle.image_grammar.specs.declared.item.Item.TheVariants as items
use Rattle.image_grammar.specs.Forms.{item_line, is_run}
use Rattle.image_grammar.specs.Grammar.{is_any_page, has_range, core_taken, seat_taken}
use Rattle.image_text.specs.Written.{Fields, owner_field, state_field, size_field, words_field, range_fields, large_fields, core_fields, block_fields, fill_fields, seat_fields, level_fields}
use Rattle.image_text.proofs.TextLemmas.{IsField, AreFields, AreLines, fields_again}
use Rattle.image_text.specs.ReadsAgain.{AreOf64Bits, AreFillsOf64Bits}
use Rattle.image_text.proofs.FieldLemmas.{number_field, bytes_of, bytes_length, words_are_field}
use Rattle.image_text.proofs.FormLemmas.{range_again, large_again, in_levels, parked_one, parked_two, seated_one, seated_two, block_again, fill_again}
use Rattle.image_text.proofs.LineLemmas.{FitsBy, IsTold, put_ranges, put_large, put_cores, put_blocks, put_fills, AreSmall}

-- TESTS

pub both : (a b : Bool) → (a && b) ≡ true → (a ≡ true) × (b ≡ true)
both true b h = (refl, h)
both false b h = cc

pub all_hold : (a b : Bool) → a ≡ true → b ≡ true → (a && b) ≡ true
all_hold a b p q = rw (p, q) refl

none_any_by : {A : Type 0} (test : A → Bool) (x : A) (xs : List A) (t : Bool) → test x ≡ t → count_by test (x ∷ xs) ≡ 0 → (count_by test xs ≡ 0 → list_any test xs ≡ false) → list_any test (x ∷ xs) ≡ false
none_any_by test x xs true e h rec = absurd (omega (arith, h, sum_by-cons (λ y. cond (test y) 1 0) x xs, ap {B = ℕ} (λ (t : Bool). cond t 1 0) e))
none_any_by test x xs false e h rec =
    ap (λ (t : Bool). t || list_any test xs) e ∙ rec (omega (arith, h, sum_by-cons (λ y. cond (test y) 1 0) x xs))

pub none_any : {A : Type 0} (test : A → Bool) (xs : List A) → count_by test xs ≡ 0 → list_any test xs ≡ false
none_any test [] h = refl
none_any test (x ∷ xs) h = none_any_by test x xs (test x) refl h (none_any test xs)

none_find_by : {A : Type 0} (test : A → Bool) (x : A) (xs : List A) (t : Bool) → test x ≡ t → count_by test (x ∷ xs) ≡ 0 → (count_by test xs ≡ 0 → find test xs ≡ None) → find test (x ∷ xs) ≡ None
none_find_by test x xs true e h rec = absurd (omega (arith, h, sum_by-cons (λ y. cond (test y) 1 0) x xs, ap {B = ℕ} (λ (t : Bool). cond t 1 0) e))
none_find_by test x xs false e h rec =
    ap (λ (t : Bool). cond t (Some x) (find test xs)) e ∙ rec (omega (arith, h, sum_by-cons (λ y. cond (test y) 1 0) x xs))

pub none_find : {A : Type 0} (test : A → Bool) (xs : List A) → count_by test xs ≡ 0 → find test xs ≡ None
none_find test [] h = refl
none_find test (x ∷ xs) h = none_find_by test x xs (test x) refl h (none_find test xs)

-- what passes once passes in none of those before
pub once_before : {A : Type 0} (test : A → Bool) (before : List A) (x : A) (xs : List A) → count_by test (before ++ x ∷ xs) ≤ 1 → test x ≡ true → count_by test before ≡ 0
once_before test before x xs most e =
    omega (
      arith,
      most,
      sum_by-append (λ y. cond (test y) 1 0) before (x ∷ xs),
      sum_by-cons (λ y. cond (test y) 1 0) x xs,
      ap {B = ℕ} (λ (t : Bool). cond t 1 0) e,
    )

pub no_page : (test : ℕ → Bool) (first count : ℕ) → ((page : ℕ) → first ≤ page → page < first + count → test page ≡ false) → list_any test (range_with_len first count) ≡ false
no_page test first zero h = refl
no_page test first (suc count) h =
    ap (λ (t : Bool). t || list_any test (range_with_len (first + 1) count)) (h first (omega arith) (omega arith))
    ∙ no_page test (first + 1) count (λ page low high. h page (omega arith) (omega arith))

pub each_page : (test : ℕ → Bool) (first count : ℕ) → ((page : ℕ) → first ≤ page → page < first + count → test page ≡ true) → list_all test (range_with_len first count) ≡ true
each_page test first zero h = refl
each_page test first (suc count) h =
    all_hold (test first) (list_all test (range_with_len (first + 1) count)) (h first (omega arith) (omega arith))
    (each_page test (first + 1) count (λ page low high. h page (omega arith) (omega arith)))

-- WORDS

range_word : IsField (codes "range")
range_word = (refl, (refl, (refl, (refl, (refl, tt)))))

large_word : IsField (codes "large")
large_word = (refl, (refl, (refl, (refl, (refl, tt)))))

core_word : IsField (codes "core")
core_word = (refl, (refl, (refl, (refl, tt))))

block_word : IsField (codes "block")
block_word = (refl, (refl, (refl, (refl, (refl, tt)))))

bytes_word : IsField (codes "bytes")
bytes_word = (refl, (refl, (refl, (refl, (refl, tt)))))

parked_word : IsField (codes "parked")
parked_word = (refl, (refl, (refl, (refl, (refl, (refl, tt))))))

vmsa_word : IsField (codes "vmsa")
vmsa_word = (refl, (refl, (refl, (refl, tt))))

caa_word : IsField (codes "caa")
caa_word = (refl, (refl, (refl, tt)))

vmpl_word : IsField (codes "vmpl")
vmpl_word = (refl, (refl, (refl, (refl, tt))))

owner_is_field : (owner : Owner) → IsField (owner_field owner)
owner_is_field Guest = (refl, (refl, (refl, (refl, (refl, tt)))))
owner_is_field Module = (refl, (refl, (refl, (refl, (refl, (refl, tt))))))
owner_is_field Pool = (refl, (refl, (refl, (refl, tt))))
owner_is_field Vmsa = (refl, (refl, (refl, (refl, tt))))

state_is_field : (state : HwState) → IsField (state_field state)
state_is_field Shared = (refl, (refl, (refl, (refl, (refl, (refl, tt))))))
state_is_field Assigned = (refl, (refl, (refl, (refl, (refl, (refl, (refl, (refl, tt))))))))
state_is_field Valid = (refl, (refl, (refl, (refl, (refl, tt)))))

size_is_field : (size : Size) → IsField (size_field size)
size_is_field Small = number_field 0 (omega arith)
size_is_field Large = number_field 1 (omega arith)

-- RANGES

pub record RangeNumbers (regions : ℕ) (range : Range) : Type 0 where
  pub some : 0 < range.count
  pub most : range.first.0 + range.count ≤ 512 * regions
  pub rights : range.rights ≤ 0xfff

run_numbers : (first count rights regions : ℕ) → (nat_lt 0 count && nat_le (first + count) (512 * regions)) ≡ true → nat_le rights 0xfff ≡ true
    → (0 < count) × (first + count ≤ 512 * regions) × (rights ≤ 0xfff)
run_numbers first count rights regions r n = grind (arith, nat_tests)

pub range_numbers : (regions : ℕ) (range : Range) → is_sound_range regions range ≡ true → RangeNumbers regions range
range_numbers regions range h =
    let a = both (is_range_in_map regions range) (has_lawful_rights range && is_valid_where_held range) h in
    let b = both (has_lawful_rights range) (is_valid_where_held range) a.1 in
    let c = both (nat_le range.rights 0xfff) _ b.0 in
    let n = run_numbers range.first.0 range.count range.rights regions a.0 c.0 in
    record { some = n.0; most = n.1; rights = n.2 }

range_are_fields : (regions : ℕ) (range : Range) → regions ≤ 512 → RangeNumbers regions range → AreFields (range_fields range)
range_are_fields regions range most n = (
  range_word,
  (
    number_field range.first.0 (omega (arith, n.most)),
    (number_field range.count (omega (arith, n.most)), (owner_is_field range.owner, (state_is_field range.state, (number_field range.rights (omega (arith, n.rights)), tt)))),
  ),
)

within_run : (first count rights regions : ℕ) → 0 < count → first + count ≤ 512 * regions → rights ≤ 0xfff → ((nat_lt 0 count && nat_le (first + count) (512 * regions)) && nat_le rights 0xfff) ≡ true
within_run first count rights regions a b c = grind (arith, nat_tests)

in_its_range : (page : ℕ) (range : Range) → range.first.0 ≤ page → page < range.first.0 + range.count → is_in_range page range ≡ true
in_its_range page range low high = grind (arith, nat_tests)

range_told : (base : Image) (before : List Range) (range : Range) (more : List Range) → base.regions ≤ 512 → is_sound_range base.regions range ≡ true
    → ((page : ℕ) → count_by (is_in_range page) (before ++ range ∷ more) ≤ 1) → IsTold (put_ranges base before) (range_fields range) (items.Range range)
range_told base before range more most sound apart =
    let n = range_numbers base.regions range sound in
    let f = range_are_fields base.regions range most n in
    let a = both (is_range_in_map base.regions range) (has_lawful_rights range && is_valid_where_held range) sound in (
      fields_again (codes "range") _ f.0 f.1,
      range_again (put_ranges base before) range (omega (arith, n.most)) (omega (arith, n.most)) (omega (arith, n.rights))
          (within_run range.first.0 range.count range.rights base.regions n.some n.most n.rights),
      no_page (λ page. is_some (find (is_in_range page) before)) range.first.0 range.count
          (λ page low high. ap (λ (o : Option Range). is_some o) (none_find (is_in_range page) before (once_before (is_in_range page) before range more (apart page) (in_its_range page range low high)))),
      a.1,
    )

pub ranges_fit : (base : Image) (ranges before : List Range) → base.regions ≤ 512 → list_all (is_sound_range base.regions) ranges ≡ true
    → ((page : ℕ) → count_by (is_in_range page) (before ++ ranges) ≤ 1) → FitsBy range_fields (λ range. items.Range range) (put_ranges base) before ranges
ranges_fit base [] before most sound apart = tt
ranges_fit base (range ∷ ranges) before most sound apart =
    let s = both (is_sound_range base.regions range) (list_all (is_sound_range base.regions) ranges) sound in (
      range_told base before range ranges most s.0 apart,
      ranges_fit base ranges (before ++ range ∷ []) most s.1
          (λ page. subst (λ (l : List Range). count_by (is_in_range page) l ≤ 1) (sym (append_assoc before (range ∷ []) ranges)) (apart page)),
    )

pub range_lines_are : (regions : ℕ) (ranges : List Range) → regions ≤ 512 → list_all (is_sound_range regions) ranges ≡ true → AreLines (map range_fields ranges)
range_lines_are regions [] most sound = tt
range_lines_are regions (range ∷ ranges) most sound =
    let s = both (is_sound_range regions range) (list_all (is_sound_range regions) ranges) sound in
    (range_are_fields regions range most (range_numbers regions range s.0), range_lines_are regions ranges most s.1)

-- REGIONS HELD AS 2M

below_is : (m n : ℕ) → nat_lt m n ≡ true → m < n
below_is m n h = grind (arith, nat_tests)

large_are_fields : (region : ℕ) → region < 2 ^ 64 → AreFields (large_fields region)
large_are_fields region small = (large_word, (number_field region small, tt))

pub large_fit : (base : Image) (regions before : List ℕ) → base.regions ≤ 512 → list_all (λ region. nat_lt region base.regions) regions ≡ true
    → FitsBy large_fields (λ region. items.Large region) (put_large base) before regions
large_fit base [] before most sound = tt
large_fit base (region ∷ regions) before most sound =
    let s = both (nat_lt region base.regions) (list_all (λ region. nat_lt region base.regions) regions) sound in
    let small : region < 2 ^ 64 = omega (arith, below_is region base.regions s.0) in
    let f = large_are_fields region small in
    ((fields_again (codes "large") _ f.0 f.1, large_again (put_large base before) region small s.0, refl, refl), large_fit base regions (before ++ region ∷ []) most s.1)

pub large_lines_are : (most : ℕ) (regions : List ℕ) → most ≤ 512 → list_all (λ region. nat_lt region most) regions ≡ true → AreLines (map large_fields regions)
large_lines_are most [] le sound = tt
large_lines_are most (region ∷ regions) le sound =
    let s = both (nat_lt region most) (list_all (λ region. nat_lt region most) regions) sound in
    (large_are_fields region (omega (arith, below_is region most s.0)), large_lines_are most regions le s.1)

-- CORES

pub in_map_is : (regions page : ℕ) → is_in_map regions page ≡ true → page < 512 * regions
in_map_is regions page h = grind (arith, nat_tests)

area_small : (regions area : ℕ) → regions ≤ 512 → is_in_map regions (page_of area) ≡ true → area < 2 ^ 64
area_small regions area most h = let low = in_map_is regions (page_of area) h in omega (arith, low, most)

page_small : (regions page : ℕ) → regions ≤ 512 → is_in_map regions page ≡ true → 4096 * page < 2 ^ 64
page_small regions page most h = let low = in_map_is regions page h in omega (arith, low, most)

seat_of_page : (regions page area : ℕ) → (is_in_map regions page && (is_in_map regions (page_of area) && is_multiple 8 area)) ≡ true
    → ((is_multiple 4096 (4096 * page) && is_in_map regions (page_of (4096 * page))) && (is_multiple 8 area && is_in_map regions (page_of area))) ≡ true
seat_of_page regions page area h =
    let a = both (is_in_map regions page) _ h in
    let b = both (is_in_map regions (page_of area)) (is_multiple 8 area) a.1 in
    let e : page_of (4096 * page) ≡ page = omega arith in
    let m : is_multiple 4096 (4096 * page) ≡ true = eq-eqb (4096 * page % 4096) 0 (omega arith) in
    all_hold _ _ (all_hold _ _ m (ap (is_in_map regions) e ∙ a.0)) (all_hold _ _ b.1 b.0)

or_none : (t : Bool) → t || false ≡ true → t ≡ true
or_none true h = refl
or_none false h = cc

-- the VMPL of a core line, where the image has one, and where it has two
level_one : (first level : Vmpl) → in_levels first None level.0 ≡ true → level.0 ≡ first.0
level_one first level h = eqb-true level.0 first.0 (or_none (level.0 == first.0) h)

same_level : (n : ℕ) → (n == n) ≡ true
same_level n = eq-eqb n n refl

one_in : (first : Vmpl) → in_levels first None first.0 ≡ true
one_in first = ap (λ (t : Bool). t || false) (same_level first.0)

apic_small : (apic : ℕ) → nat_lt apic (2 ^ 32) ≡ true → apic < 2 ^ 64
apic_small apic h = let low = below_is apic (2 ^ 32) h in omega (arith, low)

core_told : (base : Image) (second : Option Vmpl) (apic : ℕ) (seat : Option (Page × Gpa)) (level : Vmpl) → base.second ≡ second → base.regions ≤ 512 → level.0 < 2 ^ 64
    → (nat_lt apic (2 ^ 32) && is_sound_seat base.regions seat) ≡ true → in_levels base.vmpl second level.0 ≡ true
    → item_line base (core_fields second (record { apic = apic; seat = seat; vmpl = level })) ≡ Ok (items.Core (record { apic = apic; seat = seat; vmpl = level }))
core_told base None apic None level e most l sound of_level =
    let s = both (nat_lt apic (2 ^ 32)) true sound in
    let same = level_one base.vmpl level of_level in
    parked_one base apic level e (apic_small apic s.0) same (all_hold _ _ s.0 (one_in base.vmpl))
core_told base None apic (Some seat) level e most l sound of_level =
    let s = both (nat_lt apic (2 ^ 32)) (is_sound_seat base.regions (Some seat)) sound in
    let a = both (is_in_map base.regions seat.0.0) _ s.1 in
    let b = both (is_in_map base.regions (page_of seat.1.0)) (is_multiple 8 seat.1.0) a.1 in
    let same = level_one base.vmpl level of_level in
    seated_one base apic seat.0 seat.1 level e (apic_small apic s.0) (page_small base.regions seat.0.0 most a.0) (area_small base.regions seat.1.0 most b.0) (sym same)
    (all_hold _ _ (all_hold _ _ s.0 (one_in base.vmpl)) (seat_of_page base.regions seat.0.0 seat.1.0 s.1))
core_told base (Some second) apic None level e most l sound of_level =
    let s = both (nat_lt apic (2 ^ 32)) true sound in
    parked_two base apic level second e (apic_small apic s.0) l (all_hold _ _ s.0 of_level)
core_told base (Some second) apic (Some seat) level e most l sound of_level =
    let s = both (nat_lt apic (2 ^ 32)) (is_sound_seat base.regions (Some seat)) sound in
    let a = both (is_in_map base.regions seat.0.0) _ s.1 in
    let b = both (is_in_map base.regions (page_of seat.1.0)) (is_multiple 8 seat.1.0) a.1 in
    seated_two base apic seat.0 seat.1 level second e (apic_small apic s.0) (page_small base.regions seat.0.0 most a.0) (area_small base.regions seat.1.0 most b.0) l
    (all_hold _ _ (all_hold _ _ s.0 of_level) (seat_of_page base.regions seat.0.0 seat.1.0 s.1))

level_are_fields : (second : Option Vmpl) (level : Vmpl) → level.0 < 2 ^ 64 → AreFields (level_fields second level)
level_are_fields None level l = tt
level_are_fields (Some second) level l = (vmpl_word, (number_field level.0 l, tt))

seat_are_fields : (regions : ℕ) (seat : Option (Page × Gpa)) (more : Fields) → regions ≤ 512 → is_sound_seat regions seat ≡ true → AreFields more → AreFields (seat_fields seat ++ more)
seat_are_fields regions None more most sound h = (parked_word, h)
seat_are_fields regions (Some seat) more most sound h =
    let a = both (is_in_map regions seat.0.0) _ sound in
    let b = both (is_in_map regions (page_of seat.1.0)) (is_multiple 8 seat.1.0) a.1 in
    (vmsa_word, (number_field (4096 * seat.0.0) (page_small regions seat.0.0 most a.0), (caa_word, (number_field seat.1.0 (area_small regions seat.1.0 most b.0), h))))

core_are_fields : (regions : ℕ) (second : Option Vmpl) (core : CoreLine) → regions ≤ 512 → is_sound_core regions core ≡ true → core.vmpl.0 < 2 ^ 64 → AreFields (core_fields second core)
core_are_fields regions second core most sound l =
    let s = both (nat_lt core.apic (2 ^ 32)) (is_sound_seat regions core.seat) sound in
    (core_word, (number_field core.apic (apic_small core.apic s.0), seat_are_fields regions core.seat (level_fields second core.vmpl) most s.1 (level_are_fields second core.vmpl l)))

-- no core before it has its APIC id or its VMSA page, and there is room for it
not_seat_taken : (before more : List CoreLine) (core : CoreLine) (seat : Option (Page × Gpa)) → core.seat ≡ seat
    → ((page : ℕ) → count_by (has_vmsa page) (before ++ core ∷ more) ≤ 1) → seat_taken before seat ≡ false
not_seat_taken before more core None e apart = refl
not_seat_taken before more core (Some seat) e apart =
    let own : has_vmsa seat.0.0 core ≡ true = ap (λ (s : Option (Page × Gpa)). sits_at seat.0.0 s) e ∙ same_level seat.0.0 in
    none_any (has_vmsa seat.0.0) before (once_before (has_vmsa seat.0.0) before core more (apart seat.0.0) own)

few_before : (n : ℕ) → n < 64 → nat_le 64 n ≡ false
few_before n few = grind (arith, nat_tests)

not_taken : (before more : List CoreLine) (core : CoreLine)
    → ((apic : ℕ) → count_by (λ (c : CoreLine). c.apic == apic) (before ++ core ∷ more) ≤ 1) → ((page : ℕ) → count_by (has_vmsa page) (before ++ core ∷ more) ≤ 1)
    → length (before ++ core ∷ more) ≤ 64 → core_taken before core ≡ false
not_taken before more core apics vmsas few =
    let a = none_any (λ (c : CoreLine). c.apic == core.apic) before (once_before (λ (c : CoreLine). c.apic == core.apic) before core more (apics core.apic) (same_level core.apic)) in
    let s = not_seat_taken before more core core.seat refl vmsas in
    let n = few_before (length before) (omega (arith, few, length-append before (core ∷ more))) in
    rw (a, s, n) refl

level_of : (image : Image) (second : Option Vmpl) (level : Vmpl) → image.second ≡ second → is_level image level ≡ true → in_levels image.vmpl second level.0 ≡ true
level_of image second level e h = subst (λ (s : Option Vmpl). in_levels image.vmpl s level.0 ≡ true) e h

level_small_two : (first second : Vmpl) (level : ℕ) (t : Bool) → (level == first.0) ≡ t → (first.0 < 2 ^ 64) × (second.0 < 2 ^ 64) → in_levels first (Some second) level ≡ true → level < 2 ^ 64
level_small_two first second level true e small h = subst (λ (n : ℕ). n < 2 ^ 64) (sym (eqb-true level first.0 e)) small.0
level_small_two first second level false e small h =
    let other : (level == second.0) ≡ true = ap (λ (t : Bool). t || (level == second.0)) (sym e) ∙ h in
    subst (λ (n : ℕ). n < 2 ^ 64) (sym (eqb-true level second.0 other)) small.1

level_small_by : (first : Vmpl) (second : Option Vmpl) (level : ℕ) → AreSmall first second → in_levels first second level ≡ true → level < 2 ^ 64
level_small_by first None level small h = subst (λ (n : ℕ). n < 2 ^ 64) (sym (eqb-true level first.0 (or_none (level == first.0) h))) small
level_small_by first (Some second) level small h = level_small_two first second level (level == first.0) refl small h

pub cores_fit : (base : Image) (second : Option Vmpl) (cores before : List CoreLine) → base.second ≡ second → base.regions ≤ 512 → AreSmall base.vmpl second
    → list_all (is_sound_core base.regions) cores ≡ true → list_all (λ (core : CoreLine). in_levels base.vmpl second core.vmpl.0) cores ≡ true
    → ((apic : ℕ) → count_by (λ (c : CoreLine). c.apic == apic) (before ++ cores) ≤ 1) → ((page : ℕ) → count_by (has_vmsa page) (before ++ cores) ≤ 1) → length (before ++ cores) ≤ 64
    → FitsBy (core_fields second) (λ core. items.Core core) (put_cores base) before cores
cores_fit base second [] before e most small sound levels apics vmsas few = tt
cores_fit base second (core ∷ cores) before e most small sound levels apics vmsas few =
    let s = both (is_sound_core base.regions core) (list_all (is_sound_core base.regions) cores) sound in
    let l = both (in_levels base.vmpl second core.vmpl.0) _ levels in
    let level = level_small_by base.vmpl second core.vmpl.0 small l.0 in
    let f = core_are_fields base.regions second core most s.0 level in
    let again : (before ++ core ∷ []) ++ cores ≡ before ++ core ∷ cores = append_assoc before (core ∷ []) cores in (
      (fields_again (codes "core") _ f.0 f.1, core_told (put_cores base before) second core.apic core.seat core.vmpl e most level s.0 l.0, not_taken before cores core apics vmsas few, refl),
      cores_fit base second cores (before ++ core ∷ []) e most small s.1 l.1
          (λ apic. subst (λ (x : List CoreLine). count_by (λ (c : CoreLine). c.apic == apic) x ≤ 1) (sym again) (apics apic))
          (λ page. subst (λ (x : List CoreLine). count_by (has_vmsa page) x ≤ 1) (sym again) (vmsas page))
          (subst (λ (x : List CoreLine). length x ≤ 64) (sym again) few),
    )

pub core_lines_are : (regions : ℕ) (first : Vmpl) (second : Option Vmpl) (cores : List CoreLine) → regions ≤ 512 → AreSmall first second
    → list_all (is_sound_core regions) cores ≡ true → list_all (λ (core : CoreLine). in_levels first second core.vmpl.0) cores ≡ true → AreLines (map (core_fields second) cores)
core_lines_are regions first second [] most small sound levels = tt
core_lines_are regions first second (core ∷ cores) most small sound levels =
    let s = both (is_sound_core regions core) (list_all (is_sound_core regions) cores) sound in
    let l = both (in_levels first second core.vmpl.0) _ levels in
    (core_are_fields regions second core most s.0 (level_small_by first second core.vmpl.0 small l.0), core_lines_are regions first second cores most small s.1 l.1)

-- BLOCKS

block_are_fields : (block : Page × Size) → block.0.0 < 2 ^ 64 → AreFields (block_fields block)
block_are_fields block small = (block_word, (number_field block.0.0 small, (size_is_field block.1, tt)))

abbrev pub in_the_map : ℕ → Page × Size → Bool
in_the_map regions block = is_in_map regions block.0.0

block_small : (regions : ℕ) (block : Page × Size) → regions ≤ 512 → in_the_map regions block ≡ true → block.0.0 < 2 ^ 64
block_small regions block most h = let low = in_map_is regions block.0.0 h in omega (arith, low)

pub blocks_fit : (base : Image) (blocks before : List (Page × Size)) → base.regions ≤ 512 → list_all (in_the_map base.regions) blocks ≡ true
    → FitsBy block_fields (λ block. items.Block block) (put_blocks base) before blocks
blocks_fit base [] before most sound = tt
blocks_fit base (block ∷ blocks) before most sound =
    let s = both (in_the_map base.regions block) (list_all (in_the_map base.regions) blocks) sound in
    let small = block_small base.regions block most s.0 in
    let f = block_are_fields block small in
    ((fields_again (codes "block") _ f.0 f.1, block_again (put_blocks base before) block.0 block.1 small s.0, refl, refl), blocks_fit base blocks (before ++ block ∷ []) most s.1)

pub block_lines_are : (regions : ℕ) (blocks : List (Page × Size)) → regions ≤ 512 → list_all (in_the_map regions) blocks ≡ true → AreLines (map block_fields blocks)
block_lines_are regions [] most sound = tt
block_lines_are regions (block ∷ blocks) most sound =
    let s = both (in_the_map regions block) (list_all (in_the_map regions) blocks) sound in
    (block_are_fields block (block_small regions block most s.0), block_lines_are regions blocks most s.1)

-- CONTENTS

fill_numbers : (gpa count regions : ℕ) → (is_multiple 8 gpa && (nat_lt 0 count && nat_le (gpa + 8 * count) (4096 * (512 * regions)))) ≡ true
    → (0 < count) × (gpa + 8 * count ≤ 4096 * (512 * regions))
fill_numbers gpa count regions h = grind (arith, nat_tests)

fill_within : (gpa count bytes regions : ℕ) → (is_multiple 8 gpa && (nat_lt 0 count && nat_le (gpa + 8 * count) (4096 * (512 * regions)))) ≡ true → bytes ≡ 8 * count
    → (is_multiple 8 gpa && nat_le (gpa + bytes) (4096 * (512 * regions))) ≡ true
fill_within gpa count bytes regions h e =
    let a = both (is_multiple 8 gpa) _ h in
    let b = both (nat_lt 0 count) _ a.1 in
    all_hold _ _ a.0 (ap (λ (n : ℕ). nat_le (gpa + n) (4096 * (512 * regions))) e ∙ b.1)

fill_are_fields : (regions : ℕ) (fill : Fill) → regions ≤ 512 → is_sound_fill regions fill ≡ true → AreFields (fill_fields fill)
fill_are_fields regions fill most sound =
    let n = fill_numbers fill.gpa.0 (length fill.words) regions sound in
    (bytes_word, (number_field fill.gpa.0 (omega (arith, n.1, most)), (words_are_field fill.words n.0, tt)))

pub fills_fit : (base : Image) (fills before : List Fill) → base.regions ≤ 512 → list_all (is_sound_fill base.regions) fills ≡ true → AreFillsOf64Bits fills
    → FitsBy fill_fields (λ fill. items.Bytes fill) (put_fills base) before fills
fills_fit base [] before most sound words = tt
fills_fit base (fill ∷ fills) before most sound words =
    let s = both (is_sound_fill base.regions fill) (list_all (is_sound_fill base.regions) fills) sound in
    let n = fill_numbers fill.gpa.0 (length fill.words) base.regions s.0 in
    let f = fill_are_fields base.regions fill most s.0 in (
      (
        fields_again (codes "bytes") _ f.0 f.1,
        fill_again (put_fills base before) fill (omega (arith, n.1, most)) words.0 n.0 (fill_within fill.gpa.0 (length fill.words) (length (bytes_of fill.words)) base.regions s.0 (bytes_length fill.words)),
        refl,
        refl,
      ),
      fills_fit base fills (before ++ fill ∷ []) most s.1 words.1,
    )

pub fill_lines_are : (regions : ℕ) (fills : List Fill) → regions ≤ 512 → list_all (is_sound_fill regions) fills ≡ true → AreLines (map fill_fields fills)
fill_lines_are regions [] most sound = tt
fill_lines_are regions (fill ∷ fills) most sound =
    let s = both (is_sound_fill regions fill) (list_all (is_sound_fill regions) fills) sound in
    (fill_are_fields regions fill most s.0, fill_lines_are regions fills most s.1)
