-- What a step does to a region whose pages are all the pool's.
use Rattle.std.proofs.Common.{◌≡◌, ◌≢◌, ℕ, zero, suc, ◌+◌, ◌*◌, ◌/◌, ◌%◌, ◌<◌, ◌≤◌, Bool, true, false, not, List, [], ◌∷◌, get_or, length, refl, sym, ap, ◌∙◌, subst, arith, Option, None, Some, inl, inr}
use Rattle.std.specs.Prelude.{if◌then◌else◌, ◌==◌, ◌&&◌, nat_lt, ◌⊎◌}
use Rattle.std.specs.List.{list_all}
use Rattle.std.proofs.lemmas.Bool.{and_parts, lt-ltb, eq-eqb}
use Rattle.svsm_types.specs.Pages.{region_of, index_of, covers}
use Rattle.svsm_types.specs.Hardware.{blank, right_of, reaches, guest_may_adjust, is_usable, fits}
use Rattle.svsm_types.specs.declared.address.Page.{Page}
use Rattle.svsm_types.specs.declared.platform.Vmpl.{Vmpl}
use Rattle.svsm_types.specs.declared.platform.PageState.{PageState}
use Rattle.svsm_types.specs.declared.platform.Size.{Size}
use Rattle.svsm_types.specs.declared.platform.Size.TheVariants.{Small, Large}
use Rattle.svsm_types.specs.declared.owner.Owner.{Owner}
use Rattle.svsm_types.specs.declared.owner.Owner.TheVariants.{Guest, Module, Pool, Vmsa}
use Rattle.svsm_steps.specs.declared.answer.Answer.{Answer}
use Rattle.svsm_steps.specs.declared.answer.Answer.TheVariants.{Done, Refused, Hw}
use Rattle.svsm_steps.specs.declared.step.Step.{Step}
use Rattle.svsm_steps.specs.declared.step.Step.TheVariants.{GuestAdjust, Validate, Deposit, Release, VmsaTake, VmsaDrop}
use Rattle.svsm_steps.specs.State.{RegionState, IsSized}
use Rattle.svsm_steps.specs.Checks.{checks, refusal, all_owned, all_recorded, all_righted, first_failing}
use Rattle.svsm_steps.specs.Formed.{IsVmpl}
use Rattle.svsm_steps.specs.Plan.{Micro, read, write, clear, pvalidate, rmpadjust, set_owner, set_recorded, guest_write, guest_adjust, assign, after, after_all, step_row, plan}
use Rattle.svsm_steps.specs.Region.{made_if, region_after, MayAnswer}
use Rattle.svsm_steps.specs.Safe.{IsRegionShut}
use Rattle.svsm_laws.proofs.Along.{made_all}
use Rattle.svsm_laws.proofs.Cells.{at_changed, sized-after}
use Rattle.svsm_laws.proofs.Rows.{owner_covered}
use Rattle.svsm_laws.proofs.Levels.{all_hold}
use Rattle.save_laws.specs.Blocks.{HasLost}

abbrev pub IsStuck : RegionState → Type 0
IsStuck r = (r.hw.large ≡ true) ⊎ HasLost r

abbrev pub AllPools : RegionState → Type 0
AllPools r = (index : ℕ) → index < 512 → get_or r.owner index Guest ≡ Pool

abbrev pub AllRecorded : RegionState → Type 0
AllRecorded r = (index : ℕ) → index < 512 → get_or r.recorded index false ≡ true

-- MICRO-OPERATIONS that leave the region as it is, but for words and pages that the host takes

abbrev calm : Micro → Bool
calm (read address) = true
calm (write address word) = true
calm (guest_write address word) = true
calm (assign Small page on) = true
calm _ = false

self_eq : (n : ℕ) → (n == n) ≡ true
self_eq n = eq-eqb n n refl

if_so : {A : Type 0} (b : Bool) (x y : A) → b ≡ true → (if b then x else y) ≡ x
if_so true x y h = refl
if_so false x y h = cc

stuck_after : (micro : Micro) (r : RegionState) → IsSized r → AllRecorded r → calm micro ≡ true → IsStuck r → IsStuck (after micro r)
stuck_after (read address) r z all c h = h
stuck_after (write address word) r z all c (inl large) = inl large
stuck_after (write address word) r z all c (inr lost) = inr (record { index = lost.index; low = lost.low; recorded = lost.recorded; lost = lost.lost })
stuck_after (guest_write address word) r z all c (inl large) = inl large
stuck_after (guest_write address word) r z all c (inr lost) = inr (record { index = lost.index; low = lost.low; recorded = lost.recorded; lost = lost.lost })
stuck_after (assign Small page on) r z all c h =
    inr (record {
      index = index_of page;
      low = omega arith;
      recorded = all (index_of page) (omega arith);
      lost = ap (λ (p : PageState). p.validated)
          (at_changed blank Small (index_of page) (index_of page) (λ _. Rattle.svsm_types.specs.Hardware.fresh_page on) r.hw.pages z.pages (omega arith)
          ∙ if_so (covers Small (index_of page) (index_of page)) _ _ (self_eq (index_of page)));
    })
stuck_after (assign Large page on) r z all c h = cc
stuck_after (clear size page) r z all c h = cc
stuck_after (pvalidate size page on) r z all c h = cc
stuck_after (rmpadjust size page vmpl right vmsa) r z all c h = cc
stuck_after (set_owner size page owner) r z all c h = cc
stuck_after (set_recorded size page on) r z all c h = cc
stuck_after (guest_adjust page target mask) r z all c h = cc

recorded_after : (micro : Micro) (r : RegionState) → calm micro ≡ true → AllRecorded r → AllRecorded (after micro r)
recorded_after (read address) r c h = h
recorded_after (write address word) r c h = h
recorded_after (guest_write address word) r c h = h
recorded_after (assign Small page on) r c h = h
recorded_after (assign Large page on) r c h = cc
recorded_after (clear size page) r c h = cc
recorded_after (pvalidate size page on) r c h = cc
recorded_after (rmpadjust size page vmpl right vmsa) r c h = cc
recorded_after (set_owner size page owner) r c h = cc
recorded_after (set_recorded size page on) r c h = cc
recorded_after (guest_adjust page target mask) r c h = cc

stuck_all : (micros : List Micro) (r : RegionState) → IsSized r → AllRecorded r → list_all calm micros ≡ true → IsStuck r → IsStuck (after_all micros r)
stuck_all [] r z all c h = h
stuck_all (micro ∷ micros) r z all c h =
    let both = and_parts (calm micro) (list_all calm micros) c in
    stuck_all micros (after micro r) (sized-after micro r z) (recorded_after micro r both.0 all) both.1 (stuck_after micro r z all both.0 h)

-- ROWS

abbrev pub is_release : Step → Bool
is_release (Release vmpl page size) = true
is_release _ = false

-- each covers the page that it is asked for
covers_itself : (size : Size) (page : ℕ) → covers size (index_of page) (index_of page) ≡ true
covers_itself Small page = self_eq (index_of page)
covers_itself Large page = lt-ltb (index_of page) 512 (omega arith)

pub not_owned : (owner : Owner) (size : Size) (page : ℕ) (r : RegionState) → IsSized r → AllPools r → (Pool ≡ owner → ⊥) → all_owned owner size page r ≡ true → ⊥
not_owned owner size page r z pools other h =
    other (sym (pools (index_of page) (omega arith)) ∙ owner_covered owner size page (index_of page) r z h (covers_itself size page))

pool_not_guest : Pool ≡ Guest → ⊥
pool_not_guest e = cc

pool_not_vmsa : Pool ≡ Vmsa → ⊥
pool_not_vmsa e = cc

not_zero : (n : ℕ) → n ≡ 0 → not (n == 0) ≡ true → ⊥
not_zero zero e h = cc
not_zero (suc n) e h = absurd (omega arith)

no_adjust : (vmpl page target mask : ℕ) (r : RegionState) → AllPools r → IsRegionShut r → 1 ≤ vmpl → vmpl ≤ 3 → guest_may_adjust vmpl page target mask r.hw ≡ true → ⊥
no_adjust vmpl page target mask r pools shut first last h =
    let p : PageState = get_or r.hw.pages (index_of page) blank in
    let reach = (and_parts (reaches vmpl p) _ h).0 in
    let right = (and_parts (is_usable p) (not (right_of vmpl p == 0)) reach).1 in
    not_zero (right_of vmpl p)
    (shut (index_of page) (omega arith) vmpl (λ e. pool_not_guest (sym (pools (index_of page) (omega arith)) ∙ e)) first last) right

-- a guest acts at VMPL 1 to 3
abbrev pub ActsLow : Step → Type 0
ActsLow (GuestAdjust vmpl page target mask) = IsVmpl vmpl
ActsLow _ = Unit {0}

row_calm : (r : RegionState) (step : Step) → IsSized r → AllPools r → IsRegionShut r → ActsLow step → is_release step ≡ false → refusal r step ≡ None
    → list_all calm (step_row r step) ≡ true
row_calm r (GuestAdjust vmpl page target mask) z pools shut low e a =
    absurd (no_adjust vmpl.0 page.0 target mask r pools shut low.0 low.1 (all_hold (checks r (GuestAdjust vmpl page target mask)) a).0)
row_calm r (Validate vmpl page size true) z pools shut low e a =
    absurd (not_owned Guest size page.0 r z pools pool_not_guest (all_hold (checks r (Validate vmpl page size true)) a).0)
row_calm r (Validate vmpl page size false) z pools shut low e a =
    absurd (not_owned Guest size page.0 r z pools pool_not_guest (all_hold (checks r (Validate vmpl page size false)) a).0)
row_calm r (Deposit vmpl page size) z pools shut low e a =
    absurd (not_owned Guest size page.0 r z pools pool_not_guest (all_hold (checks r (Deposit vmpl page size)) a).0)
row_calm r (Release vmpl page size) z pools shut low e a = cc
row_calm r (VmsaTake vmpl page features) z pools shut low e a =
    absurd (not_owned Guest Small page.0 r z pools pool_not_guest (and_parts _ _ (all_hold (checks r (VmsaTake vmpl page features)) a).0).0)
row_calm r (VmsaDrop vmpl page) z pools shut low e a =
    absurd (not_owned Vmsa Small page.0 r z pools pool_not_vmsa (all_hold (checks r (VmsaDrop vmpl page)) a).0)
row_calm r _ z pools shut low e a = refl

-- a step that is no release leaves a region of the pool stuck
pub stays_stuck : (r : RegionState) (step : Step) (answer : Answer) → IsSized r → AllPools r → AllRecorded r → IsRegionShut r → ActsLow step
    → is_release step ≡ false → IsStuck r → IsStuck (region_after r step answer)
stays_stuck r step answer z pools all shut low e h =
    stuck_all (made_if (refusal r step) (plan r step) answer) r z all
    (made_all calm (refusal r step) r step answer (λ a. row_calm r step z pools shut low e a)) h

-- A RELEASE that is refused changes nothing

pub refused_same : (refused : Option Answer) (r : RegionState) (step : Step) (answer other : Answer) → refused ≡ Some other
    → after_all (made_if refused (plan r step) answer) r ≡ r
refused_same (Some o) r step answer other e = refl
refused_same None r step answer other e = cc

-- A DEPOSIT of a 2M block leaves its region held as 2M

abbrev keeps_large : Micro → Bool
keeps_large (rmpadjust Large page vmpl right vmsa) = true
keeps_large (set_owner size page owner) = true
keeps_large _ = false

large_after : (micro : Micro) (r : RegionState) → keeps_large micro ≡ true → (after micro r).hw.large ≡ r.hw.large
large_after (rmpadjust Large page vmpl right vmsa) r c = refl
large_after (rmpadjust Small page vmpl right vmsa) r c = cc
large_after (set_owner size page owner) r c = refl
large_after (read address) r c = cc
large_after (write address word) r c = cc
large_after (guest_write address word) r c = cc
large_after (assign size page on) r c = cc
large_after (clear size page) r c = cc
large_after (pvalidate size page on) r c = cc
large_after (set_recorded size page on) r c = cc
large_after (guest_adjust page target mask) r c = cc

large_all : (micros : List Micro) (r : RegionState) → list_all keeps_large micros ≡ true → (after_all micros r).hw.large ≡ r.hw.large
large_all [] r c = refl
large_all (micro ∷ micros) r c =
    let both = and_parts (keeps_large micro) (list_all keeps_large micros) c in
    large_all micros (after micro r) both.1 ∙ large_after micro r both.0

not_done : (a b c d : Bool) → first_failing ((a, Refused) ∷ ((b, Hw 6) ∷ ((c, Refused) ∷ ((d, Refused) ∷ [])))) ≡ Some Done → ⊥
not_done false b c d e = cc
not_done true false c d e = cc
not_done true true false d e = cc
not_done true true true false e = cc
not_done true true true true e = cc

admitted : (refused : Option Answer) (r : RegionState) (step : Step) → refusal r step ≡ refused → (refused ≡ Some Done → ⊥) → MayAnswer r step Done → refusal r step ≡ None
admitted None r step e not may = e
admitted (Some other) r step e not may =
    let is : Done ≡ other = subst (λ (o : Option Answer). Rattle.std.specs.Prelude.MatchOption o (Rattle.svsm_steps.specs.Region.AnswersPlan r step Done None) (λ x. Done ≡ x)) e may in
    absurd (not (ap Some (sym is)))

pub deposits_large : (r : RegionState) (vmpl : Vmpl) (page : Page) → MayAnswer r (Deposit vmpl page Large) Done → IsStuck (region_after r (Deposit vmpl page Large) Done)
deposits_large r vmpl page may =
    let step : Step = Deposit vmpl page Large in
    let none = admitted (refusal r step) r step refl
    (λ e. not_done (all_owned Guest Large page.0 r) (fits Large r.hw.large) (all_recorded Large page.0 r) (all_righted vmpl.0 Large page.0 r) e) may in
    let fitting = (all_hold (checks r step) none).1.0 in
    inl (large_all (made_if (refusal r step) (plan r step) Done) r (made_all keeps_large (refusal r step) r step Done (λ a. refl)) ∙ fitting)
