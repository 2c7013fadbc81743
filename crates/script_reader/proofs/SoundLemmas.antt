-- The generated image is sound, and the generated scripts are scripts.
use Rattle.std.proofs.Common.{◌≡◌, ℕ, zero, suc, ◌+◌, ◌*◌, ◌/◌, ◌%◌, ◌^◌, ◌<◌, ◌≤◌, Bool, true, false, List, [], ◌∷◌, ◌++◌, refl, ap, sym, ◌∙◌, subst, arith}
use Rattle.std.specs.Prelude.{◌&&◌, ◌||◌, ◌==◌, nat_le, nat_lt, cond, if◌then◌else◌, ⊤, map, flat_map, Some}
use Rattle.std.specs.List.{count_by, find, list_any, list_all, range_with_len}
use Rattle.std.proofs.lemmas.List.Sums.{sum_by-cons}
use Rattle.std.proofs.lemmas.List.FromFn.{length-map-range_with_len, get_or-map-range_with_len}
use Rattle.std.proofs.lemmas.Bool.{lt-ltb, le-leb}
use Rattle.std.proofs.lemmas.Bool.Decides.{nat_tests}
use Rattle.svsm_types.specs.declared.image.Range.{Range}
use Rattle.svsm_types.specs.declared.image.CoreLine.{CoreLine}
use Rattle.svsm_types.specs.declared.request.Request.TheVariants.{Call}
use Rattle.svsm_types.specs.declared.owner.Owner.TheVariants.{Guest, Module, Vmsa}
use Rattle.svsm_types.specs.declared.platform.HwState.TheVariants.{Assigned, Valid}
use Rattle.svsm_steps.specs.Checks.{same_owner}
use Rattle.svsm_steps.specs.Image.{is_in_range, owner_in}
use Rattle.svsm_steps.specs.Requests.{IsRequest, IsScript, AreScripts}
use Rattle.svsm_steps.specs.Sound.{IsSound, is_sound_range, is_sound_core, is_level, has_vmsa}
use Rattle.script_reader.specs.Generated.{pages_from, first_page, generated_vmsa_page, vmsa_range, guest_ranges, generated_core, generated_image, value_after, list_at, guest_writes, generated_entry, generated_request, generated_script, generated_scripts}

-- RANGES ONE AFTER ANOTHER

-- each begins where the one before ends, or later
abbrev Rising : ℕ → List Range → Type 0
Rising limit [] = ⊤
Rising limit (range ∷ ranges) = (limit ≤ range.first.0) × Rising (range.first.0 + range.count) ranges

count_next : (page : ℕ) (range : Range) (ranges : List Range)
    → count_by (is_in_range page) (range ∷ ranges) ≡ cond (is_in_range page range) 1 0 + count_by (is_in_range page) ranges
count_next page range ranges = sum_by-cons (λ (r : Range). cond (is_in_range page r) 1 0) range ranges

is_before : (from page first count : ℕ) → page < from → from ≤ first → (nat_le first page && nat_lt page (first + count)) ≡ false
is_before from page first count lt le = grind (arith, nat_tests)

is_after : (page first count : ℕ) → (nat_le first page && nat_lt page (first + count)) ≡ true → page < first + count
is_after page first count h = grind (arith, nat_tests)

none_before : (limit page : ℕ) (ranges : List Range) → page < limit → Rising limit ranges → count_by (is_in_range page) ranges ≡ 0
none_before limit page [] lt rise = refl
none_before limit page (range ∷ ranges) lt rise =
    let low : limit ≤ range.first.0 = rise.0 in
    let out : is_in_range page range ≡ false = is_before limit page range.first.0 range.count lt low in
    let rest : count_by (is_in_range page) ranges ≡ 0 = none_before (range.first.0 + range.count) page ranges (omega arith) rise.1 in
    count_next page range ranges ∙ (ap (λ (b : Bool). cond b 1 0 + count_by (is_in_range page) ranges) out ∙ ap (λ n. 0 + n) rest)

one_more : (b : Bool) (n : ℕ) → (b ≡ true → n ≡ 0) → n ≤ 1 → cond b 1 0 + n ≤ 1
one_more true n none few = let e : n ≡ 0 = none refl in omega arith
one_more false n none few = omega arith

once : (limit page : ℕ) (ranges : List Range) → Rising limit ranges → count_by (is_in_range page) ranges ≤ 1
once limit page [] rise = omega arith
once limit page (range ∷ ranges) rise =
    subst (λ (n : ℕ). n ≤ 1) (sym (count_next page range ranges))
    (one_more (is_in_range page range) (count_by (is_in_range page) ranges)
    (λ h. none_before (range.first.0 + range.count) page ranges (is_after page range.first.0 range.count h) rise.1)
    (once (range.first.0 + range.count) page ranges rise.1))

vmsas_rise : (core cores limit : ℕ) (rest : List Range) → limit ≤ 0x10 + core → ((from : ℕ) → from ≤ 0x10 + core + cores → Rising from rest)
    → Rising limit (map vmsa_range (range_with_len core cores) ++ rest)
vmsas_rise core zero limit rest low later = later limit (omega arith)
vmsas_rise core (suc cores) limit rest low later =
    (low, vmsas_rise (core + 1) cores (0x10 + core + 1) rest (omega arith) (λ from most. later from (omega arith)))

guests_rise : (core cores limit : ℕ) → limit ≤ first_page core → Rising limit (flat_map guest_ranges (range_with_len core cores))
guests_rise core zero limit low = tt
guests_rise core (suc cores) limit low = (low, (omega arith, guests_rise (core + 1) cores (first_page core + 16 + 496) (omega arith)))

all_rise : (cores : ℕ) → cores ≤ 16 → Rising 0 (generated_image cores).ranges
all_rise cores few = (
  omega arith,
  (
    omega arith,
    (
      omega arith,
      vmsas_rise 0 cores 0x10 (flat_map guest_ranges (range_with_len 0 cores)) (omega arith) (λ from most. guests_rise 0 cores from (omega arith)),
    ),
  ),
)

-- EACH RANGE

both : (a b : Bool) → a ≡ true → b ≡ true → (a && b) ≡ true
both true b is also = also
both false b is also = absurd cc

vmsas_sound : (core cores regions : ℕ) (rest : List Range) → 17 + core + cores ≤ 512 * regions → list_all (is_sound_range regions) rest ≡ true
    → list_all (is_sound_range regions) (map vmsa_range (range_with_len core cores) ++ rest) ≡ true
vmsas_sound core zero regions rest most is = is
vmsas_sound core (suc cores) regions rest most is =
    both (is_sound_range regions (vmsa_range core)) (list_all (is_sound_range regions) (map vmsa_range (range_with_len (core + 1) cores) ++ rest))
    (both (nat_le (0x10 + core + 1) (512 * regions)) true (le-leb (0x10 + core + 1) (512 * regions) (omega arith)) refl)
    (vmsas_sound (core + 1) cores regions rest (omega arith) is)

guests_sound : (core cores regions : ℕ) → core + cores + 1 ≤ regions → list_all (is_sound_range regions) (flat_map guest_ranges (range_with_len core cores)) ≡ true
guests_sound core zero regions most = refl
guests_sound core (suc cores) regions most =
    both (nat_le (first_page core + 16) (512 * regions) && true) _ (both _ true (le-leb (first_page core + 16) (512 * regions) (omega arith)) refl)
    (both (nat_le (first_page core + 16 + 496) (512 * regions) && true) _ (both _ true (le-leb (first_page core + 16 + 496) (512 * regions) (omega arith)) refl)
    (guests_sound (core + 1) cores regions (omega arith)))

-- CORES

cores_sound : (core cores regions : ℕ) → core + cores ≤ 16 → core + cores + 1 ≤ regions → list_all (is_sound_core regions) (map generated_core (range_with_len core cores)) ≡ true
cores_sound core zero regions few most = refl
cores_sound core (suc cores) regions few most =
    both (is_sound_core regions (generated_core core)) (list_all (is_sound_core regions) (map generated_core (range_with_len (core + 1) cores)))
    (both (nat_lt core (2 ^ 32)) _ (lt-ltb core (2 ^ 32) (omega arith))
    (both (nat_lt (generated_vmsa_page core) (512 * regions)) _ (lt-ltb (generated_vmsa_page core) (512 * regions) (omega arith))
    (both (nat_lt (4096 * first_page core / 4096) (512 * regions)) _ (lt-ltb (4096 * first_page core / 4096) (512 * regions) (omega arith))
    (let whole : 4096 * first_page core % 8 ≡ 0 = omega arith in ap (λ n. n == 0) whole))))
    (cores_sound (core + 1) cores regions (omega arith) (omega arith))

cores_level : (all core cores : ℕ) → list_all (λ (line : CoreLine). is_level (generated_image all) line.vmpl) (map generated_core (range_with_len core cores)) ≡ true
cores_level all core zero = refl
cores_level all core (suc cores) = cores_level all (core + 1) cores

-- of cores, each another one
none_after : (test : CoreLine → Bool) (core from cores : ℕ) → ((core other : ℕ) → core < other → test (generated_core core) ≡ true → test (generated_core other) ≡ false)
    → test (generated_core core) ≡ true → core < from → count_by test (map generated_core (range_with_len from cores)) ≡ 0
none_after test core from zero apart is lt = refl
none_after test core from (suc cores) apart is lt =
    sum_by-cons (λ (line : CoreLine). cond (test line) 1 0) (generated_core from) (map generated_core (range_with_len (from + 1) cores))
    ∙ (ap (λ (b : Bool). cond b 1 0 + count_by test (map generated_core (range_with_len (from + 1) cores))) (apart core from lt is)
    ∙ ap (λ n. 0 + n) (none_after test core (from + 1) cores apart is (omega arith)))

one_core : (test : CoreLine → Bool) (from cores : ℕ) → ((core other : ℕ) → core < other → test (generated_core core) ≡ true → test (generated_core other) ≡ false)
    → count_by test (map generated_core (range_with_len from cores)) ≤ 1
one_core test from zero apart = omega arith
one_core test from (suc cores) apart =
    subst (λ (n : ℕ). n ≤ 1) (sym (sum_by-cons (λ (line : CoreLine). cond (test line) 1 0) (generated_core from) (map generated_core (range_with_len (from + 1) cores))))
    (one_more (test (generated_core from)) (count_by test (map generated_core (range_with_len (from + 1) cores)))
    (λ is. none_after test from (from + 1) cores apart is (omega arith)) (one_core test (from + 1) cores apart))

other_apic : (apic core other : ℕ) → core < other → (core == apic) ≡ true → (other == apic) ≡ false
other_apic apic core other lt is = grind (arith, nat_tests)

other_page : (page core other : ℕ) → core < other → (0x10 + core == page) ≡ true → (0x10 + other == page) ≡ false
other_page page core other lt is = grind (arith, nat_tests)

-- VMSA PAGES

-- whether the range that has the page is of owner Vmsa
abbrev is_vmsa : ℕ → List Range → Bool
is_vmsa page ranges = same_owner (owner_in (find (is_in_range page) ranges)) Vmsa

abbrev is_of_core : ℕ → List ℕ → Bool
is_of_core page cores = list_any (has_vmsa page) (map generated_core cores)

same_test : (page core : ℕ) → (nat_le (0x10 + core) page && nat_lt page (0x10 + core + 1)) ≡ (0x10 + core == page)
same_test page core = by (0x10 + core == page) refl
  where
    by : (b : Bool) → (0x10 + core == page) ≡ b → (nat_le (0x10 + core) page && nat_lt page (0x10 + core + 1)) ≡ (0x10 + core == page)
    by true is = grind (arith, nat_tests, is)
    by false is = grind (arith, nat_tests, is)

vmsa_by : (b : Bool) (page core : ℕ) (rest : List Range) (any : Bool) → is_vmsa page rest ≡ any
    → same_owner (owner_in (cond b (Some (vmsa_range core)) (find (is_in_range page) rest))) Vmsa ≡ (b || any)
vmsa_by true page core rest any is = refl
vmsa_by false page core rest any is = is

vmsas_found : (page : ℕ) (cores : List ℕ) (rest : List Range) → is_vmsa page rest ≡ false → is_vmsa page (map vmsa_range cores ++ rest) ≡ is_of_core page cores
vmsas_found page [] rest none = none
vmsas_found page (core ∷ cores) rest none =
    vmsa_by (is_in_range page (vmsa_range core)) page core (map vmsa_range cores ++ rest) (is_of_core page cores) (vmsas_found page cores rest none)
    ∙ ap (λ (b : Bool). b || is_of_core page cores) (same_test page core)

guest_by : (b : Bool) (page first count rights : ℕ) (rest : List Range) (state : Bool) → is_vmsa page rest ≡ false
    → same_owner (owner_in (cond b (Some (pages_from first count Guest Valid rights)) (find (is_in_range page) rest))) Vmsa ≡ false
guest_by true page first count rights rest state none = refl
guest_by false page first count rights rest state none = none

other_by : (b : Bool) (page : ℕ) (range : Range) (rest : List Range) (any : Bool) → same_owner range.owner Vmsa ≡ false → (b ≡ true → any ≡ false) → is_vmsa page rest ≡ any
    → same_owner (owner_in (cond b (Some range) (find (is_in_range page) rest))) Vmsa ≡ any
other_by true page range rest any other out is = other ∙ sym (out refl)
other_by false page range rest any other out is = is

guests_not : (page : ℕ) (cores : List ℕ) → is_vmsa page (flat_map guest_ranges cores) ≡ false
guests_not page [] = refl
guests_not page (core ∷ cores) =
    other_by (is_in_range page (pages_from (first_page core) 16 Guest Valid 0xf0)) page (pages_from (first_page core) 16 Guest Valid 0xf0)
    (pages_from (first_page core + 16) 496 Guest Assigned 0x0 ∷ flat_map guest_ranges cores) false refl (λ _. refl)
    (other_by (is_in_range page (pages_from (first_page core + 16) 496 Guest Assigned 0x0)) page (pages_from (first_page core + 16) 496 Guest Assigned 0x0)
    (flat_map guest_ranges cores) false refl (λ _. refl) (guests_not page cores))

not_low : (page core : ℕ) → page < 0x10 → (0x10 + core == page) ≡ false
not_low page core low = grind (arith, nat_tests)

none_low : (page : ℕ) (cores : List ℕ) → page < 0x10 → is_of_core page cores ≡ false
none_low page [] low = refl
none_low page (core ∷ cores) low = ap (λ (b : Bool). b || is_of_core page cores) (not_low page core low) ∙ none_low page cores low

module_by : (page first count : ℕ) (cores : List ℕ) → first + count ≤ 0x10 → (nat_le first page && nat_lt page (first + count)) ≡ true → is_of_core page cores ≡ false
module_by page first count cores low inside = none_low page cores (let below : page < first + count = is_after page first count inside in omega arith)

all_found : (page cores : ℕ) → is_of_core page (range_with_len 0 cores) ≡ is_vmsa page (generated_image cores).ranges
all_found page cores =
    let ks : List ℕ = range_with_len 0 cores in
    let rest : List Range = map vmsa_range ks ++ flat_map guest_ranges ks in
    let last : Range = pages_from 0x6 0xa Module Valid 0x0 in
    let mid : Range = pages_from 0x5 0x1 Module Assigned 0x0 in
    let first : Range = pages_from 0x0 0x5 Module Valid 0x0 in
    sym (other_by (is_in_range page first) page first (mid ∷ (last ∷ rest)) (is_of_core page ks) refl (module_by page 0x0 0x5 ks (omega arith))
    (other_by (is_in_range page mid) page mid (last ∷ rest) (is_of_core page ks) refl (module_by page 0x5 0x1 ks (omega arith))
    (other_by (is_in_range page last) page last rest (is_of_core page ks) refl (module_by page 0x6 0xa ks (omega arith))
    (vmsas_found page ks (flat_map guest_ranges ks) (guests_not page ks)))))

-- THE IMAGE

pub image_is_sound : (cores : ℕ) → 1 ≤ cores → cores ≤ 16 → IsSound (generated_image cores)
image_is_sound cores some few = record {
  regions_least = omega arith;
  regions_most = omega arith;
  vmpl = (omega arith, omega arith);
  second = tt;
  ranges =
      both _ _ (both (nat_le 5 (512 * (cores + 1))) true (le-leb 5 (512 * (cores + 1)) (omega arith)) refl)
      (both _ _ (both (nat_le 6 (512 * (cores + 1))) true (le-leb 6 (512 * (cores + 1)) (omega arith)) refl)
      (both _ _ (both (nat_le 16 (512 * (cores + 1))) true (le-leb 16 (512 * (cores + 1)) (omega arith)) refl)
      (vmsas_sound 0 cores (cores + 1) (flat_map guest_ranges (range_with_len 0 cores)) (omega arith) (guests_sound 0 cores (cores + 1) (omega arith)))));
  apart = λ page. once 0 page (generated_image cores).ranges (all_rise cores few);
  large = refl;
  uniform_owner = λ page other held same. absurd cc;
  uniform_state = λ page other held same. absurd cc;
  no_large_vmsa = λ page held. absurd cc;
  ghcb = lt-ltb 5 (512 * (cores + 1)) (omega arith);
  ghcb_owner = refl;
  ghcb_assigned = refl;
  ghcb_not_valid = refl;
  spans = refl;
  spans_apart = λ page. omega arith;
  accepts_guests = λ page accepted. absurd cc;
  accepts_shared = λ page accepted. absurd cc;
  cores_least = let many = length-map-range_with_len generated_core 0 cores in omega arith;
  cores_most = let many = length-map-range_with_len generated_core 0 cores in omega arith;
  cores = cores_sound 0 cores (cores + 1) (omega arith) (omega arith);
  levels = cores_level cores 0 cores;
  apics = λ apic. one_core (λ (core : CoreLine). core.apic == apic) 0 cores (other_apic apic);
  vmsas_apart = λ page. one_core (has_vmsa page) 0 cores (other_page page);
  vmsas = λ page. all_found page cores;
  fills = refl;
  faults = refl;
  host = refl;
  blocks = refl;
  blocks_of_pool = tt;
}

-- THE SCRIPTS

request_by_tests : (t u : Bool) (core x : ℕ)
    → IsRequest (if t then guest_writes (list_at core) 1 else if u then guest_writes (list_at core + 8) (generated_entry core x)
    else Call (record { rax = 1; rcx = list_at core; rdx = 0; r8 = 0; r9 = 0 }) 0)
request_by_tests true u core x = ((omega arith, omega arith), omega arith)
request_by_tests false true core x = ((omega arith, omega arith), omega arith)
request_by_tests false false core x = tt

is_request : (core seed number : ℕ) → IsRequest (generated_request core seed number)
is_request core seed number = request_by_tests (number % 3 == 0) (number % 3 == 1) core (value_after seed (number / 3 + 1))

is_script : (core requests number : ℕ) → requests ≤ 128 → IsScript (generated_script core requests number)
is_script core requests number few =
    let many = length-map-range_with_len (generated_request core (number + core)) 0 requests in
    record {
      few = omega arith;
      requests = λ i d within.
          subst IsRequest (sym (get_or-map-range_with_len (generated_request core (number + core)) 0 requests i i d (omega arith) (omega arith)))
          (is_request core (number + core) i);
    }

pub are_scripts : (cores requests number : ℕ) → requests ≤ 128 → AreScripts (generated_scripts cores requests number)
are_scripts cores requests number few = λ i d within.
    let many = length-map-range_with_len (λ core. generated_script core requests number) 0 cores in
    subst IsScript (sym (get_or-map-range_with_len (λ core. generated_script core requests number) 0 cores i i d (omega arith) (omega arith)))
    (is_script i requests number few)
