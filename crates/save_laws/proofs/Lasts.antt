-- The last state of a run in which no core ended early, and in which each page is as an image can say it.
use Rattle.std.proofs.Common.{◌≡◌, ◌≢◌, ℕ, zero, suc, ◌+◌, ◌*◌, ◌/◌, ◌%◌, ◌^◌, ◌<◌, ◌≤◌, Bool, true, false, not, List, [], ◌∷◌, ◌++◌, get_or, length, append-nil, refl, sym, ap, ◌∙◌, subst, arith, Option, None, Some, inl, inr, ⊎_elim, IsTrue}
use Rattle.std.specs.Prelude.{if◌then◌else◌, ◌==◌, ◌&&◌, ◌||◌, nat_lt, ◌⊎◌, Contains, find, map, count_by, slice_index_or}
use Rattle.std.specs.List.{list_all, list_any, range_with_len}
use Rattle.std.proofs.lemmas.Bool.{and_parts, eq-eqb, eqb-true, ne_eqb, cases_Bool, ltb-true, ltb-false, lt-ltb}
use Rattle.svsm_types.specs.Pages.{page_of, region_of, index_of, is_multiple}
use Rattle.svsm_types.specs.Hardware.{blank, no_right, right_of, same_truth, fits}
use Rattle.svsm_types.specs.declared.image.Image.{Image}
use Rattle.svsm_types.specs.declared.image.CoreLine.{CoreLine}
use Rattle.svsm_types.specs.declared.address.Page.{Page}
use Rattle.svsm_types.specs.declared.address.Gpa.{Gpa}
use Rattle.svsm_types.specs.declared.owner.Owner.{Owner}
use Rattle.svsm_types.specs.declared.owner.Owner.TheVariants.{Guest, Module, Pool, Vmsa}
use Rattle.svsm_types.specs.declared.platform.HwState.{HwState}
use Rattle.svsm_types.specs.declared.platform.HwState.TheVariants.{Shared, Assigned, Valid}
use Rattle.svsm_types.specs.declared.platform.PageState.{PageState}
use Rattle.svsm_types.specs.declared.platform.Perms.{Perms}
use Rattle.svsm_types.specs.declared.platform.Size.{Size}
use Rattle.svsm_types.specs.declared.platform.Size.TheVariants.{Small, Large}
use Rattle.svsm_types.specs.declared.request.Request.{Request}
use Rattle.svsm_types.specs.declared.vcpu.Row.{Row}
use Rattle.svsm_types.specs.declared.vcpu.RowState.{RowState}
use Rattle.svsm_types.specs.declared.vcpu.RowState.TheVariants.{Reserved, Ready, Entered, Left}
use Rattle.svsm_steps.specs.declared.entry.Entry.{Entry}
use Rattle.svsm_steps.specs.declared.outcome.CoreEnd.{CoreEnd}
use Rattle.svsm_steps.specs.declared.outcome.CoreEnd.TheVariants.{Done, Unstarted, Faulted, Host}
use Rattle.svsm_steps.specs.declared.outcome.CoreRun.{CoreRun}
use Rattle.svsm_steps.specs.Checks.{same_owner}
use Rattle.svsm_steps.specs.Formed.{AreWellFormed}
use Rattle.svsm_steps.specs.Image.{constants_of, booted, is_valid, accept_entries, is_held_large}
use Rattle.svsm_steps.specs.Machine.{state_after}
use Rattle.svsm_steps.specs.Mapped.{AreBlocks, AreRows}
use Rattle.svsm_steps.specs.Partition.{has_page}
use Rattle.svsm_steps.specs.Pool.{same_size}
use Rattle.svsm_steps.specs.Registry.{of_page, same_row_state}
use Rattle.svsm_steps.specs.Requests.{AreScripts}
use Rattle.svsm_steps.specs.Sound.{IsSound, is_sound_seat, is_sound_block, has_lawful_rights, is_valid_where_held}
use Rattle.svsm_steps.specs.State.{State, RegionState, Block, page_at, owner_at, recorded_at, word_at}
use Rattle.svsm_steps.specs.Words.{as_bit}
use Rattle.svsm_calls.specs.Run.{IsRun}
use Rattle.svsm_laws.specs.Closed.{AllBare}
use Rattle.svsm_laws.specs.Consistent.{IsConsistent}
use Rattle.svsm_laws.specs.OfLines.{AreOfLines}
use Rattle.svsm_laws.specs.Rights.{AllHaveThree}
use Rattle.svsm_laws.specs.Tidy.{IsTidy, is_kept, is_own_word}
use Rattle.svsm_laws.proofs.Closed.{stays_bare}
use Rattle.svsm_laws.proofs.ClosedBoot.{booted_is_bare}
use Rattle.svsm_laws.proofs.Consistent.{booted_is_consistent}
use Rattle.svsm_laws.proofs.OfLines.{booted_rows_are_of_lines, rows_stay_of_lines}
use Rattle.svsm_laws.proofs.OwnPage.{ghcb_stays_apart}
use Rattle.svsm_laws.proofs.Rights.{three_rights_stay, booted_has_three_rights}
use Rattle.svsm_laws.proofs.Rows.{same_owner-eq}
use Rattle.svsm_laws.proofs.Tidy.{stays_tidy, booted_is_tidy}
use Rattle.svsm_run_laws.specs.Accounts.{Accounts, tally, over, in_hands, pool_part, vmsa_part, live_rows, is_live, held_after}
use Rattle.svsm_run_laws.specs.Alike.{AreAlike, is_faulted}
use Rattle.svsm_run_laws.specs.Bits.{AllBits}
use Rattle.svsm_run_laws.specs.EndRows.{is_gone, is_still}
use Rattle.svsm_run_laws.specs.Holding.{Hold, Position, before, inside, gone, cut, hold_of, is_inside, nothing}
use Rattle.svsm_run_laws.specs.Kept.{IsKept, RowsApart}
use Rattle.svsm_run_laws.proofs.Alike.{ends_alike}
use Rattle.svsm_run_laws.proofs.Bits.{ends_with_bits}
use Rattle.svsm_run_laws.proofs.Counts.{tally_is, any_count, count_any}
use Rattle.svsm_run_laws.proofs.EndRows.{ends_still, outside_guest}
use Rattle.svsm_run_laws.proofs.Every.{every_run, rows_apart}
use Rattle.svsm_run_laws.proofs.Formed.{runs_are_formed, runs_stay_consistent}
use Rattle.svsm_run_laws.proofs.Lists.{contains_cases}
use Rattle.image_text.specs.Fits.{FitsIn64Bits}
use Rattle.image_text.specs.PageForm.{IsTidyPage}
use Rattle.image_text.specs.Refused.{ended_early, first_core, first_unsaved_page, is_unsaved}
use Rattle.image_text.specs.Savable.{IsSavable}
use Rattle.image_text.specs.Saved.{Saying, saying, range_at, hw_state, rights_of, saved, saved_block, is_idle}
use Rattle.image_text.specs.SavedSound.{IsSayable}
use Rattle.image_text.proofs.BootLemmas.{held, lt_is, lt_true}
use Rattle.image_text.proofs.PageLemmas.{tidy_pages_are_said}
use Rattle.save_laws.specs.Blocks.{is_large_of, HasLost, LargeBlocksStand}
use Rattle.save_laws.specs.Saved.{last_state}
use Rattle.save_laws.proofs.EndsLarge.{ends_with_large_blocks}
use Rattle.save_laws.proofs.Outside.{Outside, stays_outside, booted_outside}
use Rattle.save_laws.proofs.PoolAny.{or_cases, or_left, or_right}

-- WHAT IS NOT FOUND

found_by : {A : Type 0} (b : Bool) (x : A) (rest : Option A) → (if b then Some x else rest) ≡ None → (b ≡ false) × (rest ≡ None)
found_by true x rest h = cc
found_by false x rest h = (refl, h)

none_found : {A : Type 0} (test : A → Bool) (xs : List A) (x : A) → find test xs ≡ None → Contains xs x → test x ≡ false
none_found test [] x h has = absurd (let low = has.1 in omega arith)
none_found {A} test (y ∷ xs) x h has =
    let both = found_by (test y) y (find test xs) h in
    ⊎_elim (λ (same : y ≡ x). subst (λ (z : A). test z ≡ false) same both.0)
    (λ (more : Contains xs x). none_found test xs x both.1 more)
    (contains_cases y x xs has)

none_below : (test : ℕ → Bool) (first count n : ℕ) → find test (range_with_len first count) ≡ None → first ≤ n → n < first + count → test n ≡ false
none_below test first zero n h low high = absurd (omega arith)
none_below test first (suc count) n h low high =
    let both = found_by (test first) first (find test (range_with_len (first + 1) count)) h in
    ⊎_elim
    (λ (e : (first == n) ≡ true). subst (λ (k : ℕ). test k ≡ false) (eqb-true first n e) both.0)
    (λ (e : (first == n) ≡ false).
    let apart = Rattle.std.proofs.lemmas.Bool.eqb-false first n e in
    none_below test (first + 1) count n both.1 (past first n low apart) (omega (arith, high)))
    (cases_Bool (first == n))
  where
    past : (first n : ℕ) → first ≤ n → first ≢ n → first + 1 ≤ n
    past first n low ne = grind (arith, low, ne)

-- CORES

gone_by : (end : CoreEnd) → ended_early end ≡ false → is_gone end ≡ true
gone_by Done e = refl
gone_by Unstarted e = refl
gone_by (Faulted ticket) e = cc
gone_by (Host sent got) e = cc

calm_by : (end : CoreEnd) → ended_early end ≡ false → is_faulted end ≡ false
calm_by Done e = refl
calm_by Unstarted e = refl
calm_by (Faulted ticket) e = cc
calm_by (Host sent got) e = refl

no_hold : (position : Position) → is_inside position ≡ false → hold_of position ≡ nothing
no_hold before e = refl
no_hold (inside hold) e = cc
no_hold gone e = refl
no_hold (cut hold) e = cc

over_none : (f : ℕ → ℕ) (from count : ℕ) → ((k : ℕ) → f k ≡ 0) → over f from count ≡ 0
over_none f from zero h = refl
over_none f from (suc count) h =
    let a = h from in
    let i = over_none f (from + 1) count h in
    omega (arith, a, i)

-- PAGES

same_by : (a b other : Bool) → (not (same_truth a b) || other) ≡ false → a ≡ b
same_by true true other h = refl
same_by true false other h = cc
same_by false true other h = cc
same_by false false other h = refl

not_assigned : (a own assigned : Bool) → (a || (own && assigned)) ≡ false → own ≡ true → assigned ≡ false
not_assigned true own assigned h e = cc
not_assigned false true assigned h e = h
not_assigned false false assigned h e = cc

valid_by : (page : PageState) (t u : Bool) → page.validated ≡ t → page.assigned ≡ u → is_valid (hw_state page) ≡ page.validated
valid_by page true u e k = ap (λ (t : Bool). is_valid (if t then Valid else (if page.assigned then Assigned else Shared))) e ∙ sym e
valid_by page false true e k =
    ap (λ (t : Bool). is_valid (if t then Valid else (if page.assigned then Assigned else Shared))) e
    ∙ ap (λ (t : Bool). is_valid (if t then Assigned else Shared)) k ∙ sym e
valid_by page false false e k =
    ap (λ (t : Bool). is_valid (if t then Valid else (if page.assigned then Assigned else Shared))) e
    ∙ ap (λ (t : Bool). is_valid (if t then Assigned else Shared)) k ∙ sym e

perms_zero : (right : Perms) → right.0 ≡ 0 → right ≡ no_right
perms_zero right e = ap (λ (n : ℕ). record { 0 = n }) e

three_zero : (rights : List Perms) → length rights ≡ 3 → (get_or rights 0 no_right).0 ≡ 0 → (get_or rights 1 no_right).0 ≡ 0
    → (get_or rights 2 no_right).0 ≡ 0 → rights ≡ no_right ∷ (no_right ∷ (no_right ∷ []))
three_zero [] n a b c = absurd (omega (arith, n))
three_zero (x ∷ []) n a b c = absurd (omega (arith, n))
three_zero (x ∷ (y ∷ [])) n a b c = absurd (omega (arith, n))
three_zero (x ∷ (y ∷ (z ∷ []))) n a b c = let p = perms_zero x a in let q = perms_zero y b in let s = perms_zero z c in cc
three_zero (x ∷ (y ∷ (z ∷ (w ∷ more)))) n a b c = absurd (omega (arith, n))

blank_by : (page : PageState) → page.assigned ≡ false → page.validated ≡ false → page.vmsa ≡ false
    → page.rights ≡ no_right ∷ (no_right ∷ (no_right ∷ [])) → page ≡ blank
blank_by page a v m r =
    ap (λ (x : Bool). record { assigned = x; validated = page.validated; rights = page.rights; vmsa = page.vmsa }) a
    ∙ ap (λ (x : Bool). record { assigned = false; validated = x; rights = page.rights; vmsa = page.vmsa }) v
    ∙ ap (λ (x : List Perms). record { assigned = false; validated = false; rights = x; vmsa = page.vmsa }) r
    ∙ ap (λ (x : Bool). record { assigned = false; validated = false; rights = no_right ∷ (no_right ∷ (no_right ∷ [])); vmsa = x }) m

not_true : (b : Bool) → (b ≡ true → ⊥) → b ≡ false
not_true true h = absurd (h refl)
not_true false h = refl

bit_by : (v s m : Bool) → (v ≡ false → m ≡ false) → (v ≡ true → s ≡ true → m ≡ true) → (m ≡ true → s ≡ true) → m ≡ (v && s)
bit_by false s m f g k = f refl
bit_by true true m f g k = g refl refl
bit_by true false m f g k = not_true m (λ e. let wrong : false ≡ true = k e in cc)

vmsa_same : (owner : Owner) → owner ≡ Vmsa → same_owner owner Vmsa ≡ true
vmsa_same owner e = ap (λ (o : Owner). same_owner o Vmsa) e

-- the line of the GHCB page
lawful_by : (owner : Owner) (state : HwState) (rights : ℕ) → owner ≡ Module → rights ≡ 0
    → (has_lawful_rights (range_at 0 0 (record { owner = owner; state = state; rights = rights }))
    && is_valid_where_held (range_at 0 0 (record { owner = owner; state = state; rights = rights }))) ≡ true
lawful_by owner state rights e n = rw (e, n) refl

no_rights : (page : PageState) → page ≡ blank → rights_of page ≡ 0
no_rights page e = ap rights_of e

-- ROWS

idle_by : (state : RowState) → (not (same_row_state state Reserved) && not (same_row_state state Entered)) ≡ true → is_idle state ≡ true
idle_by Reserved e = cc
idle_by Ready e = refl
idle_by Entered e = cc
idle_by Left e = refl

both_true : (a b : Bool) → a ≡ true → b ≡ true → (a && b) ≡ true
both_true true b h k = k
both_true false b h k = cc

rows_idle : (rows : List Row) → list_all is_still rows ≡ true → list_all (λ (row : Row). is_idle row.state) rows ≡ true
rows_idle [] h = refl
rows_idle (row ∷ rows) h =
    let both = and_parts (is_still row) (list_all is_still rows) h in
    both_true (is_idle row.state) _ (idle_by row.state both.0) (rows_idle rows both.1)

and_yes : (a b : Bool) → b ≡ true → (a && b) ≡ a
and_yes true b e = e
and_yes false b e = refl

live_same : (page : ℕ) (rows : List Row) → list_all is_still rows ≡ true → tally (is_live page) rows ≡ tally (of_page page) rows
live_same page [] h = refl
live_same page (row ∷ rows) h =
    let both = and_parts (is_still row) (list_all is_still rows) h in
    let live : is_live page row ≡ of_page page row =
    and_yes (of_page page row) (not (same_row_state row.state Reserved)) (and_parts _ (not (same_row_state row.state Entered)) both.0).0 in
    let bits : as_bit (is_live page row) ≡ as_bit (of_page page row) = ap as_bit live in
    let rest = live_same page rows both.1 in
    omega (arith, bits, rest)

any_bit : {A : Type 0} (test : A → Bool) (xs : List A) (b : Bool) → tally test xs ≡ as_bit b → list_any test xs ≡ b
any_bit test xs true h = count_any test xs (omega (arith, h))
any_bit test xs false h = not_true (list_any test xs) (λ e. let many = any_count test xs e in absurd (omega (arith, h, many)))

seats_sound : (regions : ℕ) (rows : List Row) → AreRows regions rows → list_all (λ (row : Row). is_sound_seat regions (Some (row.page, row.caa))) rows ≡ true
seats_sound regions [] h = refl
seats_sound regions (row ∷ rows) h =
    both_true (is_sound_seat regions (Some (row.page, row.caa))) _
    (both_true _ _ (lt-ltb row.page.0 (512 * regions) h.0.0)
    (both_true _ _ (lt-ltb (page_of row.caa.0) (512 * regions) h.0.1.0) (eq-eqb (row.caa.0 % 8) 0 h.0.1.1)))
    (seats_sound regions rows h.1)

-- BLOCKS

block_sound : (image : Image) (state : State) (page : Page) (size : Size) → AreBlocks image.regions (record { page = page; size = size } ∷ [])
    → (is_large_of (region_of page.0) (record { page = page; size = size }) ≡ true → (state.regions (region_of page.0)).hw.large ≡ true)
    → is_sound_block (saved image state) (page, size) ≡ true
block_sound image state page Small h large = both_true _ _ (lt-ltb page.0 (512 * image.regions) h.0) refl
block_sound image state page Large h large =
    let low : page.0 < 512 * image.regions = h.0.0 in
    both_true _ _ (lt-ltb page.0 (512 * image.regions) low)
    (both_true _ _ (eq-eqb (page.0 % 512) 0 h.0.1)
    (held image state (region_of page.0) (omega (arith, low)) ∙ large (eq-eqb (region_of page.0) (region_of page.0) refl)))

blocks_sound : (image : Image) (state : State) (blocks : List Block) → AreBlocks image.regions blocks
    → ((number : ℕ) → list_any (is_large_of number) blocks ≡ true → (state.regions number).hw.large ≡ true)
    → list_all (is_sound_block (saved image state)) (map saved_block blocks) ≡ true
blocks_sound image state [] h large = refl
blocks_sound image state (block ∷ blocks) h large =
    both_true (is_sound_block (saved image state) (saved_block block)) _
    (block_sound image state block.page block.size (h.0, tt)
    (λ e. large (region_of block.page.0) (or_left _ _ e)))
    (blocks_sound image state blocks h.1 (λ number e. large number (or_right (is_large_of number block) _ e)))

-- a 2M block is in the map
large_low : (regions number : ℕ) (blocks : List Block) → AreBlocks regions blocks → list_any (is_large_of number) blocks ≡ true → number < regions
large_low regions number [] h e = cc
large_low regions number (block ∷ blocks) h e =
    ⊎_elim
    (λ (own : is_large_of number block ≡ true).
    let both = and_parts (same_size block.size Large) (region_of block.page.0 == number) own in
    own_low block.size h.0 (eqb-true _ _ both.1))
    (λ (rest : list_any (is_large_of number) blocks ≡ true). large_low regions number blocks h.1 rest)
    (or_cases _ _ e)
  where
    own_low : (size : Size) → Rattle.svsm_steps.specs.Formed.IsSizedPage regions size block.page.0 → region_of block.page.0 ≡ number → number < regions
    own_low Small low at = omega (arith, low, at)
    own_low Large low at = let below = low.0 in omega (arith, below, at)

of_region : (number index : ℕ) → index < 512 → region_of (512 * number + index) ≡ number
of_region number index low = omega arith

of_index : (number index : ℕ) → index < 512 → index_of (512 * number + index) ≡ index
of_index number index low = omega arith

index_low : (page : ℕ) → index_of page < 512
index_low page = omega arith

module _ (image : Image) (scripts : List (List Request)) (entries : List Entry) (cores : List CoreRun) (sound : IsSound image) (scripted : AreScripts scripts)
    (run : IsRun image scripts entries cores) (fit : FitsIn64Bits image (last_state image entries)) (none_core : first_core cores ≡ None)
    (none_page : first_unsaved_page image (last_state image entries) ≡ None) where
  abbrev last : State
  last = last_state image entries

  early : (one : CoreRun) → Contains cores one → ended_early one.end ≡ false
  early one has = none_found (λ (run : CoreRun). ended_early run.end) cores one none_core has

  calm : (one : CoreRun) → Contains cores one → is_faulted one.end ≡ false
  calm one has = calm_by one.end (early one has)

  left : (one : CoreRun) → Contains cores one → is_gone one.end ≡ true
  left one has = gone_by one.end (early one has)

  formed : AreWellFormed image.regions entries
  formed = runs_are_formed image scripts entries cores sound scripted run

  consistent : IsConsistent image.regions last
  consistent = runs_stay_consistent image scripts entries cores entries [] sound scripted run (sym (append-nil entries))

  kept : IsKept image entries
  kept = every_run image scripts entries cores entries [] sound run (sym (append-nil entries))

  apart : RowsApart last.rows
  apart = rows_apart image scripts entries cores entries [] sound run (sym (append-nil entries))

  bare : AllBare last
  bare = stays_bare (constants_of image) (booted image) entries (booted_is_consistent image sound).sized (booted_is_bare image sound)

  tidy : IsTidy last
  tidy = stays_tidy (constants_of image) (booted image) entries (booted_is_consistent image sound).sized (booted_is_tidy image sound) formed

  three : AllHaveThree last
  three = three_rights_stay (constants_of image) (booted image) entries (booted_is_consistent image sound).sized (booted_has_three_rights image)

  bits : AllBits last
  bits = ends_with_bits image scripts entries cores sound run calm

  alike : AreAlike last
  alike = ends_alike image scripts entries cores sound run calm

  still : list_all is_still last.rows ≡ true
  still = ends_still image scripts entries cores sound run left

  lines : AreOfLines image.cores last.rows
  lines = rows_stay_of_lines (constants_of image) (booted image) entries (booted_rows_are_of_lines image)

  outside : Outside image.regions last
  outside = stays_outside (constants_of image) (booted image) entries formed
      (booted_outside image sound)

  saved_page : (page : ℕ) → page < 512 * image.regions → is_unsaved image last page ≡ false
  saved_page page low = none_below (is_unsaved image last) 0 (512 * image.regions) page none_page (omega arith) (omega (arith, low))

  recorded_is : (page : ℕ) → page < 512 * image.regions → recorded_at page last ≡ (page_at page last).validated
  recorded_is page low = same_by (recorded_at page last) (page_at page last).validated (page == image.ghcb.0 && (page_at page last).assigned) (saved_page page low)

  page_bare : (page : ℕ) → (page_at page last).validated ≡ false → Rattle.svsm_laws.specs.Closed.IsBare (page_at page last)
  page_bare page e = bare (region_of page) (index_of page) (index_low page) e

  kept_valid : (page : ℕ) → page < 512 * image.regions → is_kept (owner_at page last) ≡ true → (page_at page last).validated ≡ true
  kept_valid page low e = sym (recorded_is page low) ∙ (tidy.marks (region_of page) (index_of page) (index_low page)).1 e

  tidy_page : (page : ℕ) → page < 512 * image.regions → IsTidyPage (owner_at page last) (page_at page last)
  tidy_page page low = record {
    three = three (region_of page) (index_of page) (index_low page);
    bits = λ vmpl. consistent.rights page vmpl;
    assigned = consistent.assigned page;
    empty = λ e. (page_bare page e).rights;
    shut = λ other vmpl first most. consistent.shut page vmpl other first most;
    pool = λ e. kept_valid page low (ap is_kept e);
    vmsas = λ e. kept_valid page low (ap is_kept e);
    bit = bit_by (page_at page last).validated (same_owner (owner_at page last) Vmsa) (page_at page last).vmsa
        (λ e. (page_bare page e).vmsa)
        (λ e s. bits (region_of page) (index_of page) (index_low page) (same_owner-eq (owner_at page last) Vmsa s) e)
        (λ e. vmsa_same (owner_at page last) ((tidy.marks (region_of page) (index_of page) (index_low page)).0 e));
  }

  ghcb_low : image.ghcb.0 < 512 * image.regions
  ghcb_low = ltb-true image.ghcb.0 (512 * image.regions) sound.ghcb

  ghcb_apart : Rattle.svsm_laws.specs.OwnPage.IsModules last (region_of image.ghcb.0) (index_of image.ghcb.0) × (last.regions (region_of image.ghcb.0)).hw.large ≡ false
  ghcb_apart = ghcb_stays_apart image (constants_of image) entries sound

  ghcb_shared : (page_at image.ghcb.0 last).assigned ≡ false
  ghcb_shared =
      not_assigned _ (image.ghcb.0 == image.ghcb.0) (page_at image.ghcb.0 last).assigned (saved_page image.ghcb.0 ghcb_low) (eq-eqb image.ghcb.0 image.ghcb.0 refl)

  ghcb_not_valid : (page_at image.ghcb.0 last).validated ≡ false
  ghcb_not_valid = not_true (page_at image.ghcb.0 last).validated
      (λ e. let wrong : false ≡ true = sym ghcb_shared ∙ consistent.assigned image.ghcb.0 e in cc)

  ghcb_blank : page_at image.ghcb.0 last ≡ blank
  ghcb_blank =
      let none = page_bare image.ghcb.0 ghcb_not_valid in
      blank_by (page_at image.ghcb.0 last) ghcb_shared ghcb_not_valid none.vmsa
      (three_zero (page_at image.ghcb.0 last).rights (three (region_of image.ghcb.0) (index_of image.ghcb.0) (index_low image.ghcb.0))
      (none.rights 1 (omega arith) (omega arith)) (none.rights 2 (omega arith) (omega arith)) (none.rights 3 (omega arith) (omega arith)))

  no_hands : (part : ℕ → Hold → ℕ) → ((page : ℕ) → part page nothing ≡ 0) → (page : ℕ)
      → in_hands part (held_after (λ (core : ℕ). before) entries) (length (constants_of image).cores) page ≡ 0
  no_hands part none page =
      over_none (λ core. part page (hold_of (held_after (λ (core : ℕ). before) entries core))) 0 (length (constants_of image).cores)
      (λ core. ap (part page) (no_hold (held_after (λ (core : ℕ). before) entries core) (outside_guest image scripts entries cores sound run left core)) ∙ none page)

  pool_count : (page : ℕ) → count_by (has_page page) last.pool ≡ as_bit (same_owner (owner_at page last) Pool)
  pool_count page =
      let books = kept.accounts.blocks page in
      let none = no_hands pool_part (λ page. refl) page in
      sym (tally_is (has_page page) last.pool) ∙ omega (arith, books, none)

  vmsa_any : (page : ℕ) → list_any (of_page page) last.rows ≡ same_owner (owner_at page last) Vmsa
  vmsa_any page =
      let books = kept.accounts.vmsas page in
      let none = no_hands vmsa_part (λ page. refl) page in
      let live = live_same page last.rows still in
      any_bit (of_page page) last.rows (same_owner (owner_at page last) Vmsa) (omega (arith, books, none, live))

  large_stands : (number : ℕ) → list_any (is_large_of number) last.pool ≡ true → (last.regions number).hw.large ≡ true
  large_stands number h =
      ⊎_elim (λ (large : (last.regions number).hw.large ≡ true). large)
      (λ (lost : HasLost (last.regions number)).
      let low = large_low image.regions number last.pool consistent.mapped.0 h in
      let page : ℕ = 512 * number + lost.index in
      let at : region_of page ≡ number = of_region number lost.index lost.low in
      let here : index_of page ≡ lost.index = of_index number lost.index lost.low in
      let small = lost.low in
      let same = recorded_is page (omega (arith, low, small)) in
      let recorded : recorded_at page last ≡ true =
      ap (λ (k : ℕ). get_or (last.regions k).recorded (index_of page) false) at ∙ ap (λ (i : ℕ). get_or (last.regions number).recorded i false) here ∙ lost.recorded in
      let valid : (page_at page last).validated ≡ false =
      ap (λ (k : ℕ). (get_or (last.regions k).hw.pages (index_of page) blank).validated) at
      ∙ ap (λ (i : ℕ). (get_or (last.regions number).hw.pages i blank).validated) here ∙ lost.lost in
      let wrong : false ≡ true = sym valid ∙ sym same ∙ recorded in cc)
      (ends_with_large_blocks image scripts entries cores sound scripted run calm number h)

  not_own : (number address : ℕ) (a b : Bool) → (region_of (page_of address) == number) ≡ a → is_multiple 8 address ≡ b
      → (a ≡ false) ⊎ (b ≡ false) → (last.regions number).hw.words address ≡ 0
  not_own number address true false e f h = tidy.words number address (rw (e, f) refl)
  not_own number address false b e f h = tidy.words number address (rw e refl)
  not_own number address true true e f (inl h) = cc
  not_own number address true true e f (inr h) = cc

  pub savable : IsSavable image last
  savable = record {
    ghcb = ghcb_low;
    sized = consistent.sized;
    outside = outside;
    pages = λ page low ne. (tidy_pages_are_said image last page ne (tidy_page page low)).state_is;
    recorded = λ page low ne. recorded_is page low ∙ sym (valid_by (page_at page last) (page_at page last).validated (page_at page last).assigned refl refl);
    ghcb_page = ghcb_blank;
    ghcb_recorded = recorded_is image.ghcb.0 ghcb_low ∙ ghcb_not_valid;
    ghcb_small = ghcb_apart.1;
    words_apart = λ number address ne. not_own number address false (is_multiple 8 address) (ne_eqb (region_of (page_of address)) number ne) refl (inl refl);
    words_aligned = λ number address odd.
        not_own number address (region_of (page_of address) == number) false refl (ne_eqb (address % 8) 0 odd) (inr refl);
    no_blocks = λ e page low o.
        let count = pool_count page in
        let none : count_by (has_page page) last.pool ≡ 0 = ap (count_by (has_page page)) e in
        let one : as_bit (same_owner (owner_at page last) Pool) ≡ 1 = ap (λ (x : Owner). as_bit (same_owner x Pool)) o in
        absurd (omega (arith, count, none, one));
    idle = rows_idle last.rows still;
    apics = apart.apics;
  }

  page_lawful : (b : Bool) (page : ℕ) → (page == image.ghcb.0) ≡ b → page < 512 * image.regions
      → (has_lawful_rights (range_at 0 0 (saying image last page)) && is_valid_where_held (range_at 0 0 (saying image last page))) ≡ true
  page_lawful true page e low =
      let at : page ≡ image.ghcb.0 = eqb-true page image.ghcb.0 e in
      lawful_by (owner_at page last) (if page == image.ghcb.0 then Assigned else hw_state (page_at page last)) (rights_of (page_at page last))
      (ap (λ (p : ℕ). owner_at p last) at ∙ ghcb_apart.0) (ap (λ (p : ℕ). rights_of (page_at p last)) at ∙ no_rights (page_at image.ghcb.0 last) ghcb_blank)
  page_lawful false page e low =
      (tidy_pages_are_said image last page (Rattle.std.proofs.lemmas.Bool.eqb-false page image.ghcb.0 e) (tidy_page page low)).lawful

  word_fits : (number : ℕ) (b : Bool) → nat_lt number (512 * (512 * image.regions)) ≡ b → word_at (8 * number) last < 2 ^ 64
  word_fits number true low = fit.words number (ltb-true number (512 * (512 * image.regions)) low)
  word_fits number false high =
      let over : 512 * (512 * image.regions) ≤ number = ltb-false number (512 * (512 * image.regions)) high in
      let none : word_at (8 * number) last ≡ 0 =
      ap (λ (r : RegionState). r.hw.words (8 * number)) (outside (region_of (page_of (8 * number))) (omega (arith, over))) in
      omega (arith, none)

  pub sayable : IsSayable image last
  sayable = record {
    sound = sound;
    features = fit.features;
    savable = savable;
    lawful = λ page low. page_lawful (page == image.ghcb.0) page refl low;
    owners = λ page other large same.
        alike.owners (region_of page) large (index_of page) (index_of other) (index_low page) (index_low other)
        ∙ ap (λ (k : ℕ). get_or (last.regions k).owner (index_of other) Guest) same;
    states = λ page other large same.
        alike.states (region_of page) large (index_of page) (index_of other) (index_low page) (index_low other)
        ∙ ap (λ (k : ℕ). get_or (last.regions k).hw.pages (index_of other) blank) same;
    no_large_vmsa = λ page large e. tidy.small (region_of page) large (index_of page) (index_low page) e;
    ghcb_owner = ghcb_apart.0;
    words = λ number. word_fits number (nat_lt number (512 * (512 * image.regions))) refl;
    seats = seats_sound image.regions last.rows consistent.mapped.1;
    row_pages = apart.pages;
    of_cores = lines;
    vmsas = vmsa_any;
    blocks = blocks_sound image last last.pool consistent.mapped.0 large_stands;
    blocks_of_pool = pool_count;
  }
