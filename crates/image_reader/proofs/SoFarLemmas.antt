-- One item more.
use Rattle.std.proofs.Common.{◌≡◌, ℕ, ◌+◌, ◌<◌, ◌≤◌, Bool, true, false, nat_lt, cond, List, [], ◌∷◌, ◌++◌, length, refl, sym, ◌∙◌, ap, subst, arith, length-append}
use Rattle.std.specs.Prelude.{Option, Some, None, nat_le, ◌&&◌, ◌||◌, ◌==◌, count_by}
use Rattle.std.specs.List.{list_any, list_all}
use Rattle.std.proofs.lemmas.Bool.Decides.{nat_tests}
use Rattle.std.proofs.lemmas.List.Sums.{sum_by-append}
use Rattle.svsm_types.specs.declared.image.Image.{Image}
use Rattle.svsm_types.specs.declared.image.Range.{Range}
use Rattle.svsm_types.specs.declared.image.Span.{Span}
use Rattle.svsm_types.specs.declared.image.CoreLine.{CoreLine}
use Rattle.svsm_types.specs.declared.image.FaultAt.{FaultAt}
use Rattle.svsm_types.specs.declared.address.Page.{Page}
use Rattle.svsm_types.specs.declared.address.Gpa.{Gpa}
use Rattle.svsm_types.specs.declared.platform.Size.{Size}
use Rattle.svsm_steps.specs.Image.{is_in_range}
use Rattle.svsm_steps.specs.Sound.{is_range_in_map, has_lawful_rights, is_valid_where_held, is_sound_range, is_sound_span, is_sound_core, is_sound_fill, is_in_limits, is_in_span, is_accepted, is_level, has_vmsa, sits_at}
use Rattle.image_grammar.specs.declared.item.Item.{Item}
use Rattle.image_grammar.specs.declared.item.Item.TheVariants as items
use Rattle.image_grammar.specs.Grammar.{overlaps, is_lawful, with_item, seat_taken}
use Rattle.image_reader.specs.SoFar.{IsSoFar, is_in_place}
use Rattle.image_reader.proofs.TableLemmas.{both, not_above, below, none_at, found, free_at}

pub both_hold : {a b : Bool} → a ≡ true → b ≡ true → (a && b) ≡ true
both_hold {a} {b} p q = rw p q

either_false : (a b : Bool) → a || b ≡ false → (a ≡ false) × (b ≡ false)
either_false true b is = absurd cc
either_false false b is = (refl, is)

pub all_more : {A : Type 0} (test : A → Bool) (xs : List A) (x : A) → list_all test xs ≡ true → test x ≡ true → list_all test (xs ++ x ∷ []) ≡ true
all_more test [] x all pass = both_hold pass refl
all_more test (y ∷ ys) x all pass =
    let parts = both (test y) (list_all test ys) all in
    both_hold parts.0 (all_more test ys x parts.1 pass)

count_one : {A : Type 0} (test : A → Bool) (x : A) → count_by test (x ∷ []) ≡ cond (test x) 1 0
count_one test x = omega arith

pub count_more : {A : Type 0} (test : A → Bool) (xs : List A) (x : A) → count_by test (xs ++ x ∷ []) ≡ count_by test xs + cond (test x) 1 0
count_more test xs x = sum_by-append (λ y. cond (test y) 1 0) xs (x ∷ []) ∙ ap (λ (n : ℕ). count_by test xs + n) (count_one test x)

count_by_none : {A : Type 0} (test : A → Bool) (y : A) (ys : List A) → test y ≡ false → count_by test ys ≡ 0 → count_by test (y ∷ ys) ≡ 0
count_by_none test y ys fails none = rw fails none

pub count_none : {A : Type 0} (test : A → Bool) (xs : List A) → list_any test xs ≡ false → count_by test xs ≡ 0
count_none test [] none = refl
count_none test (y ∷ ys) none =
    let parts = either_false (test y) (list_any test ys) none in
    count_by_none test y ys parts.0 (count_none test ys parts.1)

one_by : (before after : ℕ) (t : Bool) → before ≤ 1 → after ≡ before + cond t 1 0 → (t ≡ true → before ≡ 0) → after ≤ 1
one_by before after true few is none =
    let zero_before : before ≡ 0 = none refl in
    omega (arith, is, zero_before)
one_by before after false few is none = omega (arith, is, few)

-- at most one, with one more that is the first where it counts
pub one_more : {A : Type 0} (test : A → Bool) (xs : List A) (x : A) → count_by test xs ≤ 1 → (test x ≡ true → list_any test xs ≡ false) → count_by test (xs ++ x ∷ []) ≤ 1
one_more test xs x few first =
    one_by (count_by test xs) (count_by test (xs ++ x ∷ [])) (test x) few (count_more test xs x) (λ is. count_none test xs (first is))

not_found_by : (page : ℕ) (y : Range) (ys : List Range) (t : Bool) → is_in_range page y ≡ t → found (y ∷ ys) page ≡ None → (found ys page ≡ None → list_any (is_in_range page) ys ≡ false)
    → list_any (is_in_range page) (y ∷ ys) ≡ false
not_found_by page y ys true is none more =
    let first : found (y ∷ ys) page ≡ Some y = simp is in
    absurd (some_is_none (sym first ∙ none)) where
      some_is_none : {A : Type 0} {x : A} → Some x ≡ None → ⊥
      some_is_none is = absurd cc
not_found_by page y ys false is none more =
    let next : found (y ∷ ys) page ≡ found ys page = simp is in
    rw is (more (sym next ∙ none))

pub not_found : (page : ℕ) (xs : List Range) → found xs page ≡ None → list_any (is_in_range page) xs ≡ false
not_found page [] none = refl
not_found page (y ∷ ys) none = not_found_by page y ys (is_in_range page y) refl none (not_found page ys)

equal : (m n : ℕ) → m == n ≡ true → m ≡ n
equal m n is = grind (arith, nat_tests)

short : (m n : ℕ) → nat_le m n ≡ false → n < m
short m n is = grind (arith, nat_tests)

range_more : (image : Image) (range : Range) → IsSoFar image → is_range_in_map image.regions range ≡ true → overlaps image (items.Range range) ≡ false
    → has_lawful_rights range && is_valid_where_held range ≡ true → IsSoFar (with_item image (items.Range range))
range_more image range far place free lawful = record {
  regions_least = far.regions_least;
  regions_most = far.regions_most;
  vmpl = far.vmpl;
  second = far.second;
  ghcb = far.ghcb;
  ranges = all_more (is_sound_range image.regions) image.ranges range far.ranges (both_hold place lawful);
  apart = λ page. one_more (is_in_range page) image.ranges range (far.apart page) (λ is. not_found page image.ranges (free_at image.ranges range page free is));
  large = far.large;
  spans = far.spans;
  spans_apart = far.spans_apart;
  cores_most = far.cores_most;
  cores = far.cores;
  levels = far.levels;
  apics = far.apics;
  vmsas_apart = far.vmsas_apart;
  fills = far.fills;
  faults = far.faults;
  host = far.host;
}

large_more : (image : Image) (region : ℕ) → IsSoFar image → nat_lt region image.regions ≡ true → IsSoFar (with_item image (items.Large region))
large_more image region far place = record {
  regions_least = far.regions_least;
  regions_most = far.regions_most;
  vmpl = far.vmpl;
  second = far.second;
  ghcb = far.ghcb;
  ranges = far.ranges;
  apart = far.apart;
  large = all_more (λ r. nat_lt r image.regions) image.large region far.large place;
  spans = far.spans;
  spans_apart = far.spans_apart;
  cores_most = far.cores_most;
  cores = far.cores;
  levels = far.levels;
  apics = far.apics;
  vmsas_apart = far.vmsas_apart;
  fills = far.fills;
  faults = far.faults;
  host = far.host;
}

span_within : (page : ℕ) (span : Span) → is_in_span page span ≡ true → (span.first.0 ≤ page) × (page < span.first.0 + span.count)
span_within page span is =
    let parts = both (nat_le span.first.0 page) (nat_lt page (span.first.0 + span.count)) is in
    (not_above span.first.0 page parts.0, below page (span.first.0 + span.count) parts.1)

not_accepted : (image : Image) (span : Span) (page : ℕ) → overlaps image (items.Accept span) ≡ false → is_in_span page span ≡ true → is_accepted image page ≡ false
not_accepted image span page free is =
    let within = span_within page span is in
    none_at (is_accepted image) span.first.0 span.count page free within.0 within.1

accept_more : (image : Image) (span : Span) → IsSoFar image → is_sound_span image.regions span ≡ true → overlaps image (items.Accept span) ≡ false → IsSoFar (with_item image (items.Accept span))
accept_more image span far place free = record {
  regions_least = far.regions_least;
  regions_most = far.regions_most;
  vmpl = far.vmpl;
  second = far.second;
  ghcb = far.ghcb;
  ranges = far.ranges;
  apart = far.apart;
  large = far.large;
  spans = all_more (is_sound_span image.regions) image.accepts span far.spans place;
  spans_apart = λ page. one_more (is_in_span page) image.accepts span (far.spans_apart page) (not_accepted image span page free);
  cores_most = far.cores_most;
  cores = far.cores;
  levels = far.levels;
  apics = far.apics;
  vmsas_apart = far.vmsas_apart;
  fills = far.fills;
  faults = far.faults;
  host = far.host;
}

apic_free : (apic : ℕ) (earlier : List CoreLine) (core : CoreLine) → list_any (λ (other : CoreLine). other.apic == core.apic) earlier ≡ false → core.apic == apic ≡ true
    → list_any (λ (other : CoreLine). other.apic == apic) earlier ≡ false
apic_free apic earlier core free is = subst (λ (a : ℕ). list_any (λ (other : CoreLine). other.apic == a) earlier ≡ false) (equal core.apic apic is) free

seat_free : (page : ℕ) (earlier : List CoreLine) (seat : Option (Page × Gpa)) → seat_taken earlier seat ≡ false → sits_at page seat ≡ true → list_any (has_vmsa page) earlier ≡ false
seat_free page earlier None free is = absurd cc
seat_free page earlier (Some seat) free is = subst (λ (p : ℕ). list_any (has_vmsa p) earlier ≡ false) (equal seat.0.0 page is) free

core_more : (image : Image) (core : CoreLine) → IsSoFar image → is_sound_core image.regions core && is_level image core.vmpl ≡ true → overlaps image (items.Core core) ≡ false → IsSoFar (with_item image (items.Core core))
core_more image core far place free =
    let first = either_false (list_any (λ (other : CoreLine). other.apic == core.apic) image.cores) (seat_taken image.cores core.seat || nat_le 64 (length image.cores)) free in
    let lines = both (is_sound_core image.regions core) (is_level image core.vmpl) place in
    let second = either_false (seat_taken image.cores core.seat) (nat_le 64 (length image.cores)) first.1 in
    record {
      regions_least = far.regions_least;
      regions_most = far.regions_most;
      vmpl = far.vmpl;
      second = far.second;
      ghcb = far.ghcb;
      ranges = far.ranges;
      apart = far.apart;
      large = far.large;
      spans = far.spans;
      spans_apart = far.spans_apart;
      cores_most = omega (arith, length-append image.cores (core ∷ []), short 64 (length image.cores) second.1);
      cores = all_more (is_sound_core image.regions) image.cores core far.cores lines.0;
      levels = all_more (λ (other : CoreLine). is_level image other.vmpl) image.cores core far.levels lines.1;
      apics = λ apic. one_more (λ (other : CoreLine). other.apic == apic) image.cores core (far.apics apic) (apic_free apic image.cores core first.0);
      vmsas_apart = λ page. one_more (has_vmsa page) image.cores core (far.vmsas_apart page) (seat_free page image.cores core.seat second.0);
      fills = far.fills;
      faults = far.faults;
      host = far.host;
    }

-- neither the listed blocks nor the two marks are tried before the end
pool_more : (image : Image) (split announce : Bool) (blocks : List (Page × Size)) → IsSoFar image → IsSoFar (record image { split = split; blocks = blocks; announce = announce })
pool_more image split announce blocks far = record {
  regions_least = far.regions_least;
  regions_most = far.regions_most;
  vmpl = far.vmpl;
  second = far.second;
  ghcb = far.ghcb;
  ranges = far.ranges;
  apart = far.apart;
  large = far.large;
  spans = far.spans;
  spans_apart = far.spans_apart;
  cores_most = far.cores_most;
  cores = far.cores;
  levels = far.levels;
  apics = far.apics;
  vmsas_apart = far.vmsas_apart;
  fills = far.fills;
  faults = far.faults;
  host = far.host;
}

pub so_far_more : (image : Image) (item : Item) → IsSoFar image → is_in_place image item ≡ true → overlaps image item ≡ false → is_lawful item ≡ true → IsSoFar (with_item image item)
so_far_more image (items.Range range) far place free lawful = range_more image range far place free lawful
so_far_more image (items.Large region) far place free lawful = large_more image region far place
so_far_more image (items.Accept span) far place free lawful = accept_more image span far place free
so_far_more image (items.Core core) far place free lawful = core_more image core far place free
so_far_more image (items.Bytes fill) far place free lawful = record {
  regions_least = far.regions_least;
  regions_most = far.regions_most;
  vmpl = far.vmpl;
  second = far.second;
  ghcb = far.ghcb;
  ranges = far.ranges;
  apart = far.apart;
  large = far.large;
  spans = far.spans;
  spans_apart = far.spans_apart;
  cores_most = far.cores_most;
  cores = far.cores;
  levels = far.levels;
  apics = far.apics;
  vmsas_apart = far.vmsas_apart;
  fills = all_more (is_sound_fill image.regions) image.fills fill far.fills place;
  faults = far.faults;
  host = far.host;
}
so_far_more image (items.Fault fault) far place free lawful = record {
  regions_least = far.regions_least;
  regions_most = far.regions_most;
  vmpl = far.vmpl;
  second = far.second;
  ghcb = far.ghcb;
  ranges = far.ranges;
  apart = far.apart;
  large = far.large;
  spans = far.spans;
  spans_apart = far.spans_apart;
  cores_most = far.cores_most;
  cores = far.cores;
  levels = far.levels;
  apics = far.apics;
  vmsas_apart = far.vmsas_apart;
  fills = far.fills;
  faults = all_more (λ (f : FaultAt). nat_lt f.region image.regions) image.faults fault far.faults place;
  host = far.host;
}
so_far_more image (items.Host line) far place free lawful = record {
  regions_least = far.regions_least;
  regions_most = far.regions_most;
  vmpl = far.vmpl;
  second = far.second;
  ghcb = far.ghcb;
  ranges = far.ranges;
  apart = far.apart;
  large = far.large;
  spans = far.spans;
  spans_apart = far.spans_apart;
  cores_most = far.cores_most;
  cores = far.cores;
  levels = far.levels;
  apics = far.apics;
  vmsas_apart = far.vmsas_apart;
  fills = far.fills;
  faults = far.faults;
  host = all_more (is_in_limits) image.host line far.host place;
}
so_far_more image items.Split far place free lawful = pool_more image true image.announce image.blocks far
so_far_more image (items.Block block) far place free lawful = pool_more image image.split image.announce (image.blocks ++ block ∷ []) far
so_far_more image items.Announce far place free lawful = pool_more image image.split true image.blocks far
