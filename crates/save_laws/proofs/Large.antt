-- 2M blocks of the pool and in the hands of cores, along a run.
use Rattle.std.proofs.Common.{◌≡◌, ◌≢◌, ℕ, zero, suc, ◌+◌, ◌*◌, ◌/◌, ◌%◌, ◌<◌, ◌≤◌, Bool, true, false, not, List, [], ◌∷◌, ◌++◌, get_or, length, refl, sym, ap, ◌∙◌, subst, arith, Option, None, Some, inl, inr, ⊎_elim}
use Rattle.std.specs.Prelude.{if◌then◌else◌, ◌==◌, ◌&&◌, ◌||◌, nat_lt, ◌⊎◌, IsTrue, Contains}
use Rattle.std.specs.List.{list_all, list_any}
use Rattle.std.proofs.lemmas.Bool.{and_parts, eq-eqb, eqb-true, eqb-false, cases_Bool}
use Rattle.svsm_types.specs.Pages.{region_of, index_of}
use Rattle.svsm_types.specs.declared.address.Page.{Page}
use Rattle.svsm_types.specs.declared.owner.Owner.{Owner}
use Rattle.svsm_types.specs.declared.owner.Owner.TheVariants.{Guest, Module, Pool, Vmsa}
use Rattle.svsm_types.specs.declared.platform.Size.{Size}
use Rattle.svsm_types.specs.declared.platform.Size.TheVariants.{Small, Large}
use Rattle.svsm_types.specs.declared.platform.Vmpl.{Vmpl}
use Rattle.svsm_steps.specs.declared.step.Step.{Step}
use Rattle.svsm_steps.specs.declared.step.Step.TheVariants.{GuestAdjust, Deposit, Release, PoolPush, PoolPop, Leave}
use Rattle.svsm_steps.specs.declared.answer.Answer.{Answer}
use Rattle.svsm_steps.specs.declared.answer.Answer.TheVariants.{Done, Held, Block, Seen, Fault}
use Rattle.svsm_steps.specs.declared.entry.Entry.{Entry}
use Rattle.svsm_steps.specs.State.{State, Constants, RegionState, AreSized, owner_at, Block as PoolBlock}
use Rattle.svsm_steps.specs.Checks.{refusal, same_owner}
use Rattle.svsm_steps.specs.Formed.{IsWellFormed, AreWellFormed}
use Rattle.svsm_steps.specs.Machine.{Kind, region, pool, registry, kind, MayGive, own_region, next_by, next, state_after, IsRunFrom}
use Rattle.svsm_steps.specs.Made.{made_by}
use Rattle.svsm_steps.specs.Partition.{has_page, of_core}
use Rattle.svsm_steps.specs.Place.{place_of}
use Rattle.svsm_steps.specs.Plan.{plan, after_all}
use Rattle.svsm_steps.specs.Pool.{same_size, pool_after}
use Rattle.svsm_steps.specs.Region.{region_after, MayAnswer, made_if, fault_at}
use Rattle.svsm_steps.specs.Safe.{IsShut}
use Rattle.svsm_steps.specs.Words.{as_bit}
use Rattle.svsm_laws.specs.Consistent.{IsConsistent}
use Rattle.svsm_laws.specs.Tidy.{IsTidy, is_kept}
use Rattle.svsm_laws.proofs.Consistent.{stays_consistent}
use Rattle.svsm_laws.proofs.Ownership.{region_shut}
use Rattle.svsm_laws.proofs.Tidy.{stays_tidy}
use Rattle.svsm_run_laws.specs.Accounts.{Accounts, apic_at, in_pool, in_hands, pool_part, owned_by_pool, moved, over, tally}
use Rattle.svsm_run_laws.specs.Follows.{Follows}
use Rattle.svsm_run_laws.specs.Holding.{Hold, nothing, block, reserved, taken, retired, Position, before, inside, gone, hold_of, hold_by, position_by, entered, is_leave, if_done, pushed, popped, released, takes, dropped, is_plain, MayMake, plain, deposits, pops, pushes, releases, reserves, takes_vmsa, cancels, commits, retires, drops_vmsa, remaps, MayMove, enters, makes, leaves}
use Rattle.svsm_run_laws.proofs.Along.{own_step, follows_on, lt-from}
use Rattle.svsm_run_laws.proofs.Core.{no_leave}
use Rattle.svsm_run_laws.proofs.Counts.{any_count}
use Rattle.svsm_run_laws.proofs.Hands.{over_part, over_moved}
use Rattle.svsm_run_laws.proofs.Laws.{hold_then}
use Rattle.svsm_run_laws.proofs.Lists.{contains_head, contains_tail}
use Rattle.svsm_run_laws.proofs.PoolRows.{same_size-eq}
use Rattle.svsm_run_laws.proofs.Steps.{AreDistinct, accounts_step}
use Rattle.svsm_run_laws.proofs.Ties.{plain_same}
use Rattle.save_laws.specs.Blocks.{is_large_of, LargeBlocksStand}
use Rattle.save_laws.proofs.Calm.{IsStuck, AllPools, AllRecorded, ActsLow, is_release, stays_stuck, refused_same, deposits_large}
use Rattle.save_laws.proofs.PoolAny.{or_right, any_pushed, any_popped, popped_stood}

-- a core has the 2M block of a region in its hands
abbrev pub hand_large : ℕ → Hold → Bool
hand_large number (block page size) = is_large_of number (record { page = page; size = size })
hand_large number _ = false

pub record Stands (constants : Constants) (state : State) (held : ℕ → Position) : Type 0 where
  pub pool : (number : ℕ) → list_any (is_large_of number) state.pool ≡ true → IsStuck (state.regions number)
  pub hands : (number core : ℕ) → core < length constants.cores → hand_large number (hold_of (held core)) ≡ true → IsStuck (state.regions number)

-- THE PAGES OF SUCH A REGION ARE THE POOL'S

bit_owner : (owner : Owner) → 1 ≤ as_bit (same_owner owner Pool) → owner ≡ Pool
bit_owner Guest h = absurd (omega arith)
bit_owner Module h = absurd (omega arith)
bit_owner Pool h = refl
bit_owner Vmsa h = absurd (omega arith)

of_region : (number index : ℕ) → index < 512 → region_of (512 * number + index) ≡ number
of_region number index low = omega arith

of_index : (number index : ℕ) → index < 512 → index_of (512 * number + index) ≡ index
of_index number index low = omega arith

at_index : (state : State) (number index : ℕ) → index < 512 → owner_at (512 * number + index) state ≡ get_or (state.regions number).owner index Guest
at_index state number index low =
    ap (λ (k : ℕ). get_or (state.regions k).owner (index_of (512 * number + index)) Guest) (of_region number index low)
    ∙ ap (λ (i : ℕ). get_or (state.regions number).owner i Guest) (of_index number index low)

-- a 2M block has each page of its region
has_by : (a b : Bool) (q page number : ℕ) → region_of q ≡ number → a ≡ true → (region_of page == number) ≡ true
    → (b || (a && (region_of q == region_of page))) ≡ true
has_by a b q page number at large same =
    let e : region_of q ≡ region_of page = at ∙ sym (eqb-true _ _ same) in
    or_right b _ (rw large (eq-eqb _ _ e))

block_has : (number q : ℕ) (b : PoolBlock) → region_of q ≡ number → is_large_of number b ≡ true → has_page q b ≡ true
block_has number q b at h =
    let both = and_parts (same_size b.size Large) (region_of b.page.0 == number) h in
    has_by (same_size b.size Large) (q == b.page.0) q b.page.0 number at both.0 both.1

any_more : {A : Type 0} (test other : A → Bool) (xs : List A) → ((x : A) → test x ≡ true → other x ≡ true) → list_any test xs ≡ true → list_any other xs ≡ true
any_more test other [] f h = h
any_more test other (x ∷ xs) f h = by_test (test x) (other x) (list_any test xs) (list_any other xs) (f x) (any_more test other xs f) h
  where
    by_test : (a b c d : Bool) → (a ≡ true → b ≡ true) → (c ≡ true → d ≡ true) → a || c ≡ true → b || d ≡ true
    by_test true b c d f g h = rw (f refl) refl
    by_test false b c d f g h = or_right b d (g h)

pool_has : (number q : ℕ) (state : State) → region_of q ≡ number → list_any (is_large_of number) state.pool ≡ true → 1 ≤ in_pool q state
pool_has number q state at h =
    any_count (has_page q) state.pool (any_more (is_large_of number) (has_page q) state.pool (λ b. block_has number q b at) h)

hand_has : (number q : ℕ) (hold : Hold) → region_of q ≡ number → hand_large number hold ≡ true → pool_part q hold ≡ 1
hand_has number q (block page size) at h = ap as_bit (block_has number q (record { page = page; size = size }) at h)
hand_has number q nothing at h = cc
hand_has number q (reserved page) at h = cc
hand_has number q (taken page) at h = cc
hand_has number q (retired page) at h = cc

module _ (constants : Constants) (state : State) (held : ℕ → Position) (acc : Accounts constants state held) where
  abbrev part : ℕ → ℕ → ℕ
  part q core = pool_part q (hold_of (held core))

  pub by_pool : (number : ℕ) → list_any (is_large_of number) state.pool ≡ true → AllPools (state.regions number)
  by_pool number h index low =
      let q : ℕ = 512 * number + index in
      let many = pool_has number q state (of_region number index low) h in
      let books = acc.blocks q in
      sym (at_index state number index low) ∙ bit_owner (owner_at q state) (omega (arith, many, books))

  pub by_hand : (number core : ℕ) → core < length constants.cores → hand_large number (hold_of (held core)) ≡ true → AllPools (state.regions number)
  by_hand number core low h index small =
      let q : ℕ = 512 * number + index in
      let one : part q core ≡ 1 = hand_has number q (hold_of (held core)) (of_region number index small) h in
      let many : part q core ≤ in_hands pool_part held (length constants.cores) q = over_part (part q) core 0 (length constants.cores) (omega arith) (omega (arith, low)) in
      let books = acc.blocks q in
      sym (at_index state number index small) ∙ bit_owner (owner_at q state) (omega (arith, one, many, books))

  bit_most : (b : Bool) → as_bit b ≤ 1
  bit_most true = omega arith
  bit_most false = omega arith

  -- no page stands twice
  not_both : (number core : ℕ) (page : Page) (size : Size) → core < length constants.cores → hold_of (held core) ≡ block page size
      → region_of page.0 ≡ number → list_any (is_large_of number) state.pool ≡ true → ⊥
  not_both number core page size low e at h =
      let q : ℕ = page.0 in
      let many = pool_has number q state at h in
      let own : part q core ≡ 1 = ap (pool_part q) e ∙ ap as_bit (own_page q size) in
      let some : part q core ≤ in_hands pool_part held (length constants.cores) q = over_part (part q) core 0 (length constants.cores) (omega arith) (omega (arith, low)) in
      let books = acc.blocks q in
      let most = bit_most (same_owner (owner_at q state) Pool) in
      absurd (omega (arith, many, own, some, books, most))
    where
      own_page : (q : ℕ) (size : Size) → has_page q (record { page = record { 0 = q }; size = size }) ≡ true
      own_page q size = ap (λ (b : Bool). b || (same_size size Large && (region_of q == region_of q))) (eq-eqb q q refl)

  abbrev without : ℕ → ℕ → ℕ → ℕ
  without q core k = if k == core then 0 else part q k

  own_none : (q core : ℕ) → without q core core ≡ 0
  own_none q core = ap (λ (b : Bool). if b then 0 else part q core) (eq-eqb core core refl)

  other_same : (q core k : ℕ) → k ≢ core → without q core k ≡ part q k
  other_same q core k away = by_test (k == core) refl
    where
      by_test : (b : Bool) → (k == core) ≡ b → (if b then 0 else part q k) ≡ part q k
      by_test true e = absurd (away (eqb-true k core e))
      by_test false e = refl

  not_two : (number core other : ℕ) (page : Page) (size : Size) → core < length constants.cores → other < length constants.cores → other ≢ core
      → hold_of (held core) ≡ block page size → region_of page.0 ≡ number → hand_large number (hold_of (held other)) ≡ true → ⊥
  not_two number core other page size low lower away e at h =
      let q : ℕ = page.0 in
      let own : part q core ≡ 1 = ap (pool_part q) e ∙ ap as_bit (own_page q size) in
      let one : part q other ≡ 1 = hand_has number q (hold_of (held other)) at h in
      let same : without q core other ≡ part q other = other_same q core other away in
      let some : without q core other ≤ over (without q core) 0 (length constants.cores) =
      over_part (without q core) other 0 (length constants.cores) (omega arith) (omega (arith, lower)) in
      let none = own_none q core in
      let sum : over (without q core) 0 (length constants.cores) + part q core ≡ over (part q) 0 (length constants.cores) + without q core core =
      over_moved (part q) (without q core) core 0 (length constants.cores) (omega arith) (omega (arith, low)) (λ k apart. other_same q core k apart) in
      let books = acc.blocks q in
      let most = bit_most (same_owner (owner_at q state) Pool) in
      absurd (omega (arith, own, one, same, some, none, sum, books, most))
    where
      own_page : (q : ℕ) (size : Size) → has_page q (record { page = record { 0 = q }; size = size }) ≡ true
      own_page q size = ap (λ (b : Bool). b || (same_size size Large && (region_of q == region_of q))) (eq-eqb q q refl)

-- WHERE A 2M BLOCK IN HANDS COMES FROM

pub data Source (number : ℕ) (was : Position) (step : Step) (answer : Answer) : Type 0 where
  kept : hand_large number (hold_of was) ≡ true → Source number was step answer
  deposited : (vmpl : Vmpl) (page : Page) → step ≡ Deposit vmpl page Large → answer ≡ Done → region_of page.0 ≡ number → Source number was step answer
  taken_out : (page : Page) (left : ℕ) → step ≡ PoolPop Large → answer ≡ Block page left → region_of page.0 ≡ number → Source number was step answer

by_deposit : (number : ℕ) (was : Position) (vmpl : Vmpl) (page : Page) (size : Size) (answer : Answer)
    → hand_large number (if_done answer (block page size) nothing) ≡ true → Source number was (Deposit vmpl page size) answer
by_deposit number was vmpl page size Done h =
    let both = and_parts (same_size size Large) (region_of page.0 == number) h in
    deposited vmpl page (ap (Deposit vmpl page) (same_size-eq size Large both.0)) refl (eqb-true _ _ both.1)
by_deposit number was vmpl page size _ h = cc

by_pop : (number : ℕ) (was : Position) (size : Size) (answer : Answer) → hand_large number (popped size answer nothing) ≡ true → Source number was (PoolPop size) answer
by_pop number was size (Block page left) h =
    let both = and_parts (same_size size Large) (region_of page.0 == number) h in
    taken_out page left (ap PoolPop (same_size-eq size Large both.0)) refl (eqb-true _ _ both.1)
by_pop number was size _ h = cc

by_push : (number : ℕ) (page : Page) (size : Size) (answer : Answer) → hand_large number (pushed answer (block page size)) ≡ true
    → hand_large number (block page size) ≡ true
by_push number page size (Held count) h = cc
by_push number page size _ h = h

no_done : (number : ℕ) (answer : Answer) (new old : Hold) → hand_large number new ≡ false → hand_large number old ≡ false
    → hand_large number (if_done answer new old) ≡ false
no_done number Done new old e f = e
no_done number _ new old e f = f

no_takes : (number : ℕ) (page : Page) (answer : Answer) → fault_at answer ≡ None → hand_large number (takes page answer (reserved page)) ≡ false
no_takes number page Done e = refl
no_takes number page (Fault k) e = cc
no_takes number page _ e = refl

no_dropped : (number : ℕ) (page : Page) (answer : Answer) → fault_at answer ≡ None → hand_large number (dropped answer (retired page)) ≡ false
no_dropped number page Done e = refl
no_dropped number page (Fault k) e = cc
no_dropped number page _ e = refl

never : {A : Type 0} (b : Bool) → b ≡ false → b ≡ true → A
never true e h = cc
never false e h = cc

make_source : (number apic : ℕ) (hold : Hold) (step : Step) (answer : Answer) → MayMake apic hold step → fault_at answer ≡ None → is_release step ≡ false
    → hand_large number (hold_by hold step answer) ≡ true → Source number (inside hold) step answer
make_source number apic _ _ answer (plain hold step e) calm rel h =
    kept (sym (ap (hand_large number) (plain_same hold step answer e)) ∙ h)
make_source number apic _ _ answer (deposits vmpl page size even) calm rel h = by_deposit number _ vmpl page size answer h
make_source number apic _ _ answer (pops size) calm rel h = by_pop number _ size answer h
make_source number apic _ _ answer (pushes page size) calm rel h = kept (by_push number page size answer h)
make_source number apic _ _ answer (releases vmpl page size) calm rel h = cc
make_source number apic _ _ answer (reserves a page caa) calm rel h = never _ (no_done number answer (reserved page) nothing refl refl) h
make_source number apic _ _ answer (takes_vmsa vmpl page features) calm rel h = never _ (no_takes number page answer calm) h
make_source number apic _ _ answer (cancels page) calm rel h = never _ (no_done number answer nothing (reserved page) refl refl) h
make_source number apic _ _ answer (commits page) calm rel h = never _ (no_done number answer nothing (taken page) refl refl) h
make_source number apic _ _ answer (retires page) calm rel h = never _ (no_done number answer (retired page) nothing refl refl) h
make_source number apic _ _ answer (drops_vmsa vmpl page) calm rel h = never _ (no_dropped number page answer calm) h
make_source number apic _ _ answer (remaps caa) calm rel h = cc

no_entered : (number : ℕ) (answer : Answer) → hand_large number (hold_of (entered answer)) ≡ false
no_entered number (Seen page caa) = refl
no_entered number _ = refl

move_source : (number apic : ℕ) (was : Position) (step : Step) (answer : Answer) → MayMove apic was step → fault_at answer ≡ None → is_release step ≡ false
    → hand_large number (hold_of (position_by was step answer)) ≡ true → Source number was step answer
move_source number apic _ _ answer enters calm rel h = never _ (no_entered number answer) h
move_source number apic _ _ answer (makes hold step may) calm rel h =
    make_source number apic hold step answer may calm rel (sym (ap (hand_large number) (hold_then hold step answer (no_leave apic hold step may))) ∙ h)
move_source number apic _ _ answer leaves calm rel h = cc

-- WHERE ONE OF THE POOL COMES FROM

plain_pool : (split : Bool) (blocks : List PoolBlock) (step : Step) → is_plain step ≡ true → pool_after split blocks step ≡ blocks
plain_pool split blocks (PoolPush page size) e = cc
plain_pool split blocks (PoolPop size) e = cc
plain_pool split blocks _ e = refl

make_pool : (number apic : ℕ) (split : Bool) (blocks : List PoolBlock) (hold : Hold) (step : Step) → MayMake apic hold step
    → list_any (is_large_of number) (pool_after split blocks step) ≡ true → (list_any (is_large_of number) blocks ≡ true) ⊎ (hand_large number hold ≡ true)
make_pool number apic split blocks _ _ (plain hold step e) h = inl (sym (ap (list_any (is_large_of number)) (plain_pool split blocks step e)) ∙ h)
make_pool number apic split blocks _ _ (deposits vmpl page size even) h = inl h
make_pool number apic split blocks _ _ (pops size) h = inl (any_popped number split size blocks h)
make_pool number apic split blocks _ _ (pushes page size) h = any_pushed (is_large_of number) blocks (record { page = page; size = size }) h
make_pool number apic split blocks _ _ (releases vmpl page size) h = inl h
make_pool number apic split blocks _ _ (reserves a page caa) h = inl h
make_pool number apic split blocks _ _ (takes_vmsa vmpl page features) h = inl h
make_pool number apic split blocks _ _ (cancels page) h = inl h
make_pool number apic split blocks _ _ (commits page) h = inl h
make_pool number apic split blocks _ _ (retires page) h = inl h
make_pool number apic split blocks _ _ (drops_vmsa vmpl page) h = inl h
make_pool number apic split blocks _ _ (remaps caa) h = inl h

move_pool : (number apic : ℕ) (split : Bool) (blocks : List PoolBlock) (was : Position) (step : Step) → MayMove apic was step
    → list_any (is_large_of number) (pool_after split blocks step) ≡ true → (list_any (is_large_of number) blocks ≡ true) ⊎ (hand_large number (hold_of was) ≡ true)
move_pool number apic split blocks _ _ enters h = inl h
move_pool number apic split blocks _ _ (makes hold step may) h = make_pool number apic split blocks hold step may h
move_pool number apic split blocks _ _ leaves h = inl h

next_pool : (kd : Kind) (number apic : ℕ) (constants : Constants) (state : State) (core : ℕ) (step : Step) (answer : Answer) (was : Position) → MayMove apic was step
    → list_any (is_large_of number) (next_by kd constants state core step answer).pool ≡ true
    → (list_any (is_large_of number) state.pool ≡ true) ⊎ (hand_large number (hold_of was) ≡ true)
next_pool region number apic constants state core step answer was may h = inl h
next_pool pool number apic constants state core step answer was may h = move_pool number apic constants.split state.pool was step may h
next_pool registry number apic constants state core step answer was may h = inl h

-- WHAT BECOMES OF A REGION

stuck_by : (b : Bool) (m number : ℕ) (new : RegionState) (state : State) → (m == number) ≡ b → (m ≡ number → IsStuck new) → IsStuck (state.regions number)
    → IsStuck (if b then new else state.regions number)
stuck_by true m number new state e f h = f (eqb-true m number e)
stuck_by false m number new state e f h = h

next_stuck : (kd : Kind) (constants : Constants) (state : State) (core : ℕ) (step : Step) (answer : Answer) (number : ℕ)
    → (place_of constants.regions step ≡ number → IsStuck (region_after (state.regions (place_of constants.regions step)) step answer))
    → IsStuck (state.regions number) → IsStuck ((next_by kd constants state core step answer).regions number)
next_stuck region constants state core step answer number f h =
    let m : ℕ = place_of constants.regions step in
    stuck_by (m == number) m number (region_after (state.regions m) step answer) state refl f h
next_stuck pool constants state core step answer number f h = h
next_stuck registry constants state core step answer number f h = h

acts_low : (regions : ℕ) (step : Step) → IsWellFormed regions step → ActsLow step
acts_low regions (GuestAdjust vmpl page target mask) h = h.0
acts_low regions _ h = tt

record Holds (constants : Constants) (state : State) (held : ℕ → Position) : Type 0 where
  acc : Accounts constants state held
  tidy : IsTidy state
  shut : IsShut state

recorded_of : (state : State) (number : ℕ) → IsTidy state → AllPools (state.regions number) → AllRecorded (state.regions number)
recorded_of state number tidy pools index low = (tidy.marks number index low).1 (ap is_kept (pools index low))

-- a step that is no release
mild_stuck : (kd : Kind) (constants : Constants) (state : State) (held : ℕ → Position) (core : ℕ) (step : Step) (answer : Answer) (number : ℕ) → Holds constants state held
    → IsWellFormed constants.regions step → is_release step ≡ false → AllPools (state.regions number) → IsStuck (state.regions number)
    → IsStuck ((next_by kd constants state core step answer).regions number)
mild_stuck kd constants state held core step answer number holds formed rel pools stuck =
    next_stuck kd constants state core step answer number
    (λ e. subst (λ (m : ℕ). IsStuck (region_after (state.regions m) step answer)) (sym e)
    (stays_stuck (state.regions number) step answer (holds.acc.sized number) pools (recorded_of state number holds.tidy pools)
    (region_shut state number holds.shut) (acts_low constants.regions step formed) rel stuck)) stuck

-- ONE STEP

abbrev moved_by : ℕ → Step → Answer → (ℕ → Position) → ℕ → Position
moved_by core step answer held other = if core == other then position_by (held other) step answer else held other

abbrev StandsNext : Constants → State → (ℕ → Position) → ℕ → Step → Answer → Type 0
StandsNext constants state held core step answer =
    Stands constants (next_by (kind step) constants state core step answer) (moved_by core step answer held)

hand_cases : (P : Type 0) (b : Bool) (number core other : ℕ) (step : Step) (answer : Answer) (held : ℕ → Position) → (core == other) ≡ b
    → (core ≡ other → hand_large number (hold_of (position_by (held core) step answer)) ≡ true → P)
    → (other ≢ core → hand_large number (hold_of (held other)) ≡ true → P)
    → hand_large number (hold_of (if b then position_by (held other) step answer else held other)) ≡ true → P
hand_cases P true number core other step answer held e f g h =
    let at : core ≡ other = eqb-true _ _ e in
    f at (subst (λ (k : ℕ). hand_large number (hold_of (position_by (held k) step answer)) ≡ true) (sym at) h)
hand_cases P false number core other step answer held e f g h = g (λ at. eqb-false _ _ e (sym at)) h

deposit_next : (constants : Constants) (state : State) (core : ℕ) (vmpl : Vmpl) (page : Page) (number : ℕ)
    → MayGive region constants state core (Deposit vmpl page Large) Done → region_of page.0 ≡ number
    → IsStuck ((next_by region constants state core (Deposit vmpl page Large) Done).regions number)
deposit_next constants state core vmpl page number may at =
    by_test (region_of page.0 == number) (eq-eqb _ _ at)
  where
    by_test : (b : Bool) → b ≡ true
        → IsStuck (if b then region_after (state.regions (region_of page.0)) (Deposit vmpl page Large) Done else state.regions number)
    by_test true e = deposits_large (state.regions (region_of page.0)) vmpl page may
    by_test false e = cc

deposited_next : (constants : Constants) (state : State) (core : ℕ) (step : Step) (answer : Answer) (vmpl : Vmpl) (page : Page) (number : ℕ)
    → step ≡ Deposit vmpl page Large → answer ≡ Done → region_of page.0 ≡ number → MayGive (kind step) constants state core step answer
    → IsStuck ((next_by (kind step) constants state core step answer).regions number)
deposited_next constants state core step answer vmpl page number es ea at may =
    subst (λ (s : Step). IsStuck ((next_by (kind s) constants state core s answer).regions number)) (sym es)
    (subst (λ (a : Answer). IsStuck ((next_by region constants state core (Deposit vmpl page Large) a).regions number)) (sym ea)
    (deposit_next constants state core vmpl page number
    (subst (λ (a : Answer). MayGive region constants state core (Deposit vmpl page Large) a) ea
    (subst (λ (s : Step). MayGive (kind s) constants state core s answer) es may)) at))

taken_stood : (constants : Constants) (state : State) (core : ℕ) (step : Step) (answer : Answer) (page : Page) (left number : ℕ)
    → step ≡ PoolPop Large → answer ≡ Block page left → region_of page.0 ≡ number → MayGive (kind step) constants state core step answer
    → list_any (is_large_of number) state.pool ≡ true
taken_stood constants state core step answer page left number es ea at may =
    popped_stood number constants.split state.pool page left
    (subst (λ (a : Answer). MayGive pool constants state core (PoolPop Large) a) ea
    (subst (λ (s : Step). MayGive (kind s) constants state core s answer) es may)) at

module _ (constants : Constants) (state : State) (held : ℕ → Position) (core : ℕ) (holds : Holds constants state held)
    (low : core < length constants.cores) (stands : Stands constants state held) where
  -- a step that is no release
  mild_stands : (step : Step) (answer : Answer) → IsWellFormed constants.regions step → MayMove (apic_at constants core) (held core) step
      → MayGive (kind step) constants state core step answer → fault_at answer ≡ None → is_release step ≡ false
      → StandsNext constants state held core step answer
  mild_stands step answer formed may gives calm rel = record {
    pool = λ number h. ⊎_elim
        (λ (old : list_any (is_large_of number) state.pool ≡ true). pool_stuck number old)
        (λ (own : hand_large number (hold_of (held core)) ≡ true). hand_stuck number core low own)
        (next_pool (kind step) number (apic_at constants core) constants state core step answer (held core) may h);
    hands = λ number other lower h.
        hand_cases (IsStuck ((next_by (kind step) constants state core step answer).regions number)) (core == other) number core other step answer held refl
        (λ at own. from_source number (move_source number (apic_at constants core) (held core) step answer may calm rel own))
        (λ away own. hand_stuck number other lower own) h;
  }
    where
      pool_stuck : (number : ℕ) → list_any (is_large_of number) state.pool ≡ true
          → IsStuck ((next_by (kind step) constants state core step answer).regions number)
      pool_stuck number old =
          mild_stuck (kind step) constants state held core step answer number holds formed rel (by_pool constants state held holds.acc number old) (stands.pool number old)

      hand_stuck : (number other : ℕ) → other < length constants.cores → hand_large number (hold_of (held other)) ≡ true
          → IsStuck ((next_by (kind step) constants state core step answer).regions number)
      hand_stuck number other lower own =
          mild_stuck (kind step) constants state held core step answer number holds formed rel (by_hand constants state held holds.acc number other lower own)
          (stands.hands number other lower own)

      from_source : (number : ℕ) → Source number (held core) step answer → IsStuck ((next_by (kind step) constants state core step answer).regions number)
      from_source number (kept own) = hand_stuck number core low own
      from_source number (deposited vmpl page es ea at) = deposited_next constants state core step answer vmpl page number es ea at gives
      from_source number (taken_out page left es ea at) = pool_stuck number (taken_stood constants state core step answer page left number es ea at gives)

  -- a release
  still_held : (number : ℕ) (page : Page) (size : Size) (answer : Answer) → fault_at answer ≡ None
      → hand_large number (released answer (block page size)) ≡ true → hand_large number (block page size) ≡ true
  still_held number page size Done calm h = cc
  still_held number page size (Fault k) calm h = cc
  still_held number page size _ calm h = h

  none_left : (number : ℕ) (page : Page) (size : Size) (answer : Answer) → answer ≡ Done → hand_large number (released answer (block page size)) ≡ true → ⊥
  none_left number page size answer e h =
      let wrong : false ≡ true = sym (ap (λ (a : Answer). hand_large number (released a (block page size))) e) ∙ h in cc

  release_own : (refused : Option Answer) (number : ℕ) (vmpl : Vmpl) (page : Page) (size : Size) (answer : Answer)
      → refusal (state.regions (region_of page.0)) (Release vmpl page size) ≡ refused → fault_at answer ≡ None
      → MayAnswer (state.regions (region_of page.0)) (Release vmpl page size) answer → held core ≡ inside (block page size)
      → hand_large number (released answer (block page size)) ≡ true
      → IsStuck ((next_by region constants state core (Release vmpl page size) answer).regions number)
  release_own None number vmpl page size answer e calm may has h =
      let r : RegionState = state.regions (region_of page.0) in
      let step : Step = Release vmpl page size in
      let planned = subst (λ (o : Option Answer). Rattle.std.specs.Prelude.MatchOption o (Rattle.svsm_steps.specs.Region.AnswersPlan r step answer (fault_at answer)) (λ other. answer ≡ other)) e may in
      let done = (subst (λ (o : Option ℕ). Rattle.svsm_steps.specs.Region.AnswersPlan r step answer o) calm planned).1 in
      absurd (none_left number page size answer done h)
  release_own (Some other) number vmpl page size answer e calm may has h =
      let own : hand_large number (hold_of (held core)) ≡ true = ap (λ (p : Position). hand_large number (hold_of p)) has ∙ still_held number page size answer calm h in
      let stuck = stands.hands number core low own in
      next_stuck region constants state core (Release vmpl page size) answer number
      (λ at. subst IsStuck
      (sym (refused_same (refusal (state.regions (region_of page.0)) (Release vmpl page size)) (state.regions (region_of page.0)) (Release vmpl page size) answer other e))
      (subst (λ (k : ℕ). IsStuck (state.regions k)) (sym at) stuck)) stuck

  release_stands : (vmpl : Vmpl) (page : Page) (size : Size) (answer : Answer) → held core ≡ inside (block page size)
      → MayAnswer (state.regions (region_of page.0)) (Release vmpl page size) answer → fault_at answer ≡ None
      → StandsNext constants state held core (Release vmpl page size) answer
  release_stands vmpl page size answer has may calm = record {
    pool = λ number h.
        next_stuck region constants state core (Release vmpl page size) answer number
        (λ at. absurd (not_both constants state held holds.acc number core page size low (ap hold_of has) at h)) (stands.pool number h);
    hands = λ number other lower h.
        hand_cases (IsStuck ((next_by region constants state core (Release vmpl page size) answer).regions number)) (core == other) number core other
        (Release vmpl page size) answer held refl
        (λ at own. release_own (refusal (state.regions (region_of page.0)) (Release vmpl page size)) number vmpl page size answer refl calm may has
        (sym (ap (λ (p : Position). hand_large number (hold_of (position_by p (Release vmpl page size) answer))) has
        ∙ ap (hand_large number) (hold_then (block page size) (Release vmpl page size) answer refl)) ∙ own))
        (λ away own. next_stuck region constants state core (Release vmpl page size) answer number
        (λ at. absurd (not_two constants state held holds.acc number core other page size low lower away (ap hold_of has) at own))
        (stands.hands number other lower own)) h;
  }

  release_by : (was : Position) (step : Step) (answer : Answer) → held core ≡ was → MayMove (apic_at constants core) was step
      → MayGive (kind step) constants state core step answer → fault_at answer ≡ None → is_release step ≡ true
      → StandsNext constants state held core step answer
  release_by _ _ answer has enters gives calm rel = cc
  release_by _ _ answer has leaves gives calm rel = cc
  release_by _ _ answer has (makes hold step may) gives calm rel = by_make hold step has may gives rel
    where
      by_make : (hold : Hold) (step : Step) → held core ≡ inside hold → MayMake (apic_at constants core) hold step
          → MayGive (kind step) constants state core step answer → is_release step ≡ true → StandsNext constants state held core step answer
      by_make _ _ has (plain hold step e) gives rel = absurd (not_plain step e rel)
        where
          not_plain : (step : Step) → is_plain step ≡ true → is_release step ≡ true → ⊥
          not_plain (Release vmpl page size) e rel = cc
          not_plain _ e rel = cc
      by_make _ _ has (deposits vmpl page size even) gives rel = cc
      by_make _ _ has (pops size) gives rel = cc
      by_make _ _ has (pushes page size) gives rel = cc
      by_make _ _ has (releases vmpl page size) gives rel = release_stands vmpl page size answer has gives calm
      by_make _ _ has (reserves a page caa) gives rel = cc
      by_make _ _ has (takes_vmsa vmpl page features) gives rel = cc
      by_make _ _ has (cancels page) gives rel = cc
      by_make _ _ has (commits page) gives rel = cc
      by_make _ _ has (retires page) gives rel = cc
      by_make _ _ has (drops_vmsa vmpl page) gives rel = cc
      by_make _ _ has (remaps caa) gives rel = cc

  step_stands : (b : Bool) (step : Step) (answer : Answer) → is_release step ≡ b → IsWellFormed constants.regions step
      → MayMove (apic_at constants core) (held core) step → MayGive (kind step) constants state core step answer → fault_at answer ≡ None
      → StandsNext constants state held core step answer
  step_stands true step answer rel formed may gives calm = release_by (held core) step answer refl may gives calm rel
  step_stands false step answer rel formed may gives calm = mild_stands step answer formed may gives calm rel

-- ALONG A RUN

self_eq : (n : ℕ) → (n == n) ≡ true
self_eq n = eq-eqb n n refl

pub stands_along : (constants : Constants) (n : ℕ) (state : State) (held : ℕ → Position) (entries : List Entry) → AreDistinct constants
    → Accounts constants state held → IsTidy state → IsConsistent constants.regions state → AreWellFormed constants.regions entries
    → IsRunFrom constants n state entries → IsTrue (list_all (λ (entry : Entry). nat_lt entry.core (length constants.cores)) entries)
    → ((core : ℕ) → Follows (apic_at constants core) (held core) (made_by core entries))
    → ((entry : Entry) → Contains entries entry → fault_at entry.answer ≡ None) → Stands constants state held
    → LargeBlocksStand (state_after constants state entries)
stands_along constants n state held [] distinct acc tidy consistent formed run below follows calm stands = stands.pool
stands_along constants n state held (entry ∷ entries) distinct acc tidy consistent formed run below follows calm stands =
    let low = and_parts (nat_lt entry.core (length constants.cores)) (list_all (λ (e : Entry). nat_lt e.core (length constants.cores)) entries) below in
    let core_low = lt-from entry.core (length constants.cores) low.0 in
    let may : MayMove (apic_at constants entry.core) (held entry.core) entry.step =
    own_step (apic_at constants entry.core) (entry.core == entry.core) (held entry.core) entry (of_core entry.core entries) (self_eq entry.core)
    (follows entry.core) in
    let step = accounts_step constants state held entry distinct acc core_low may run.1.1.0 in
    let mild = calm entry (contains_head entry entries) in
    stands_along constants (n + 1) (next constants state entry) (moved entry held) entries distinct step.0
    (stays_tidy constants state (entry ∷ []) acc.sized tidy (formed.0, tt))
    (stays_consistent constants state (entry ∷ []) consistent (formed.0, tt)) formed.1 run.1.1.1 low.1
    (λ core. follows_on (apic_at constants core) (entry.core == core) (held core) entry (of_core core entries) step.1 (follows core))
    (λ other has. calm other (contains_tail entry other entries has))
    (step_stands constants state held entry.core (record { acc = acc; tidy = tidy; shut = consistent.shut }) core_low stands
    (is_release entry.step) entry.step entry.answer refl formed.0 may run.1.1.0 mild)
