-- Steps that are equal by `==` are the same.
use Rattle.std.proofs.Common.{◌≡◌, ℕ, Bool, true, sym, true≢false, rules}
use Rattle.svsm_types.specs.declared.address.Gpa.{Gpa}
use Rattle.svsm_types.specs.declared.address.Page.{Page}
use Rattle.svsm_types.specs.declared.platform.Vmpl.{Vmpl}
use Rattle.svsm_types.specs.declared.platform.Size.{Size}
use Rattle.svsm_steps.specs.declared.step.Step.{Step}
use Rattle.svsm_steps.specs.declared.step.Step.TheVariants.{GuestWrite, GuestPend, GuestRead, GuestAdjust, HostShare, HostAssign, TakePending, LoadWord, StoreNext, StoreEntry, SetAvail, ClearCaa, Validate, Deposit, Release, VmsaTake, VmsaDrop, PoolPush, PoolPop, Reserve, Commit, Cancel, Retire, Remap, Enter, Leave}
use Rattle.svsm_steps.specs.contracts.step.StepPartialEq.TheImpl.{eq-value}

is_guest_write : (vmpl : Vmpl) (gpa : Gpa) (word : ℕ) (b : Step) → eq-value.it (GuestWrite vmpl gpa word) b ≡ true → GuestWrite vmpl gpa word ≡ b
is_guest_write vmpl gpa word (GuestWrite vmpl' gpa' word') e = search rules
is_guest_write vmpl gpa word _ e = absurd (true≢false (sym e))

is_guest_pend : (vmpl : Vmpl) (gpa : Gpa) (b : Step) → eq-value.it (GuestPend vmpl gpa) b ≡ true → GuestPend vmpl gpa ≡ b
is_guest_pend vmpl gpa (GuestPend vmpl' gpa') e = search rules
is_guest_pend vmpl gpa _ e = absurd (true≢false (sym e))

is_guest_read : (vmpl : Vmpl) (gpa : Gpa) (b : Step) → eq-value.it (GuestRead vmpl gpa) b ≡ true → GuestRead vmpl gpa ≡ b
is_guest_read vmpl gpa (GuestRead vmpl' gpa') e = search rules
is_guest_read vmpl gpa _ e = absurd (true≢false (sym e))

is_guest_adjust : (vmpl : Vmpl) (page : Page) (target : ℕ) (mask : ℕ) (b : Step) → eq-value.it (GuestAdjust vmpl page target mask) b ≡ true → GuestAdjust vmpl page target mask ≡ b
is_guest_adjust vmpl page target mask (GuestAdjust vmpl' page' target' mask') e = search rules
is_guest_adjust vmpl page target mask _ e = absurd (true≢false (sym e))

is_host_share : (page : Page) (b : Step) → eq-value.it (HostShare page) b ≡ true → HostShare page ≡ b
is_host_share page (HostShare page') e = search rules
is_host_share page _ e = absurd (true≢false (sym e))

is_host_assign : (page : Page) (b : Step) → eq-value.it (HostAssign page) b ≡ true → HostAssign page ≡ b
is_host_assign page (HostAssign page') e = search rules
is_host_assign page _ e = absurd (true≢false (sym e))

is_take_pending : (vmpl : Vmpl) (gpa : Gpa) (b : Step) → eq-value.it (TakePending vmpl gpa) b ≡ true → TakePending vmpl gpa ≡ b
is_take_pending vmpl gpa (TakePending vmpl' gpa') e = search rules
is_take_pending vmpl gpa _ e = absurd (true≢false (sym e))

is_load_word : (vmpl : Vmpl) (gpa : Gpa) (b : Step) → eq-value.it (LoadWord vmpl gpa) b ≡ true → LoadWord vmpl gpa ≡ b
is_load_word vmpl gpa (LoadWord vmpl' gpa') e = search rules
is_load_word vmpl gpa _ e = absurd (true≢false (sym e))

is_store_next : (vmpl : Vmpl) (gpa : Gpa) (next : ℕ) (b : Step) → eq-value.it (StoreNext vmpl gpa next) b ≡ true → StoreNext vmpl gpa next ≡ b
is_store_next vmpl gpa next (StoreNext vmpl' gpa' next') e = search rules
is_store_next vmpl gpa next _ e = absurd (true≢false (sym e))

is_store_entry : (vmpl : Vmpl) (gpa : Gpa) (word : ℕ) (b : Step) → eq-value.it (StoreEntry vmpl gpa word) b ≡ true → StoreEntry vmpl gpa word ≡ b
is_store_entry vmpl gpa word (StoreEntry vmpl' gpa' word') e = search rules
is_store_entry vmpl gpa word _ e = absurd (true≢false (sym e))

is_set_avail : (vmpl : Vmpl) (gpa : Gpa) (on : Bool) (b : Step) → eq-value.it (SetAvail vmpl gpa on) b ≡ true → SetAvail vmpl gpa on ≡ b
is_set_avail vmpl gpa on (SetAvail vmpl' gpa' on') e = search rules
is_set_avail vmpl gpa on _ e = absurd (true≢false (sym e))

is_clear_caa : (vmpl : Vmpl) (gpa : Gpa) (b : Step) → eq-value.it (ClearCaa vmpl gpa) b ≡ true → ClearCaa vmpl gpa ≡ b
is_clear_caa vmpl gpa (ClearCaa vmpl' gpa') e = search rules
is_clear_caa vmpl gpa _ e = absurd (true≢false (sym e))

is_validate : (vmpl : Vmpl) (page : Page) (size : Size) (on : Bool) (b : Step) → eq-value.it (Validate vmpl page size on) b ≡ true → Validate vmpl page size on ≡ b
is_validate vmpl page size on (Validate vmpl' page' size' on') e = search rules
is_validate vmpl page size on _ e = absurd (true≢false (sym e))

is_deposit : (vmpl : Vmpl) (page : Page) (size : Size) (b : Step) → eq-value.it (Deposit vmpl page size) b ≡ true → Deposit vmpl page size ≡ b
is_deposit vmpl page size (Deposit vmpl' page' size') e = search rules
is_deposit vmpl page size _ e = absurd (true≢false (sym e))

is_release : (vmpl : Vmpl) (page : Page) (size : Size) (b : Step) → eq-value.it (Release vmpl page size) b ≡ true → Release vmpl page size ≡ b
is_release vmpl page size (Release vmpl' page' size') e = search rules
is_release vmpl page size _ e = absurd (true≢false (sym e))

is_vmsa_take : (vmpl : Vmpl) (page : Page) (features : ℕ) (b : Step) → eq-value.it (VmsaTake vmpl page features) b ≡ true → VmsaTake vmpl page features ≡ b
is_vmsa_take vmpl page features (VmsaTake vmpl' page' features') e = search rules
is_vmsa_take vmpl page features _ e = absurd (true≢false (sym e))

is_vmsa_drop : (vmpl : Vmpl) (page : Page) (b : Step) → eq-value.it (VmsaDrop vmpl page) b ≡ true → VmsaDrop vmpl page ≡ b
is_vmsa_drop vmpl page (VmsaDrop vmpl' page') e = search rules
is_vmsa_drop vmpl page _ e = absurd (true≢false (sym e))

is_pool_push : (page : Page) (size : Size) (b : Step) → eq-value.it (PoolPush page size) b ≡ true → PoolPush page size ≡ b
is_pool_push page size (PoolPush page' size') e = search rules
is_pool_push page size _ e = absurd (true≢false (sym e))

is_pool_pop : (size : Size) (b : Step) → eq-value.it (PoolPop size) b ≡ true → PoolPop size ≡ b
is_pool_pop size (PoolPop size') e = search rules
is_pool_pop size _ e = absurd (true≢false (sym e))

is_reserve : (apic : ℕ) (page : Page) (caa : Gpa) (b : Step) → eq-value.it (Reserve apic page caa) b ≡ true → Reserve apic page caa ≡ b
is_reserve apic page caa (Reserve apic' page' caa') e = search rules
is_reserve apic page caa _ e = absurd (true≢false (sym e))

is_commit : (page : Page) (b : Step) → eq-value.it (Commit page) b ≡ true → Commit page ≡ b
is_commit page (Commit page') e = search rules
is_commit page _ e = absurd (true≢false (sym e))

is_cancel : (page : Page) (b : Step) → eq-value.it (Cancel page) b ≡ true → Cancel page ≡ b
is_cancel page (Cancel page') e = search rules
is_cancel page _ e = absurd (true≢false (sym e))

is_retire : (page : Page) (b : Step) → eq-value.it (Retire page) b ≡ true → Retire page ≡ b
is_retire page (Retire page') e = search rules
is_retire page _ e = absurd (true≢false (sym e))

is_remap : (apic : ℕ) (caa : Gpa) (b : Step) → eq-value.it (Remap apic caa) b ≡ true → Remap apic caa ≡ b
is_remap apic caa (Remap apic' caa') e = search rules
is_remap apic caa _ e = absurd (true≢false (sym e))

is_enter : (apic : ℕ) (b : Step) → eq-value.it (Enter apic) b ≡ true → Enter apic ≡ b
is_enter apic (Enter apic') e = search rules
is_enter apic _ e = absurd (true≢false (sym e))

is_leave : (apic : ℕ) (b : Step) → eq-value.it (Leave apic) b ≡ true → Leave apic ≡ b
is_leave apic (Leave apic') e = search rules
is_leave apic _ e = absurd (true≢false (sym e))

-- by `==` the same
pub same_steps : (a b : Step) → eq-value.it a b ≡ true → a ≡ b
same_steps (GuestWrite vmpl gpa word) b e = is_guest_write vmpl gpa word b e
same_steps (GuestPend vmpl gpa) b e = is_guest_pend vmpl gpa b e
same_steps (GuestRead vmpl gpa) b e = is_guest_read vmpl gpa b e
same_steps (GuestAdjust vmpl page target mask) b e = is_guest_adjust vmpl page target mask b e
same_steps (HostShare page) b e = is_host_share page b e
same_steps (HostAssign page) b e = is_host_assign page b e
same_steps (TakePending vmpl gpa) b e = is_take_pending vmpl gpa b e
same_steps (LoadWord vmpl gpa) b e = is_load_word vmpl gpa b e
same_steps (StoreNext vmpl gpa next) b e = is_store_next vmpl gpa next b e
same_steps (StoreEntry vmpl gpa word) b e = is_store_entry vmpl gpa word b e
same_steps (SetAvail vmpl gpa on) b e = is_set_avail vmpl gpa on b e
same_steps (ClearCaa vmpl gpa) b e = is_clear_caa vmpl gpa b e
same_steps (Validate vmpl page size on) b e = is_validate vmpl page size on b e
same_steps (Deposit vmpl page size) b e = is_deposit vmpl page size b e
same_steps (Release vmpl page size) b e = is_release vmpl page size b e
same_steps (VmsaTake vmpl page features) b e = is_vmsa_take vmpl page features b e
same_steps (VmsaDrop vmpl page) b e = is_vmsa_drop vmpl page b e
same_steps (PoolPush page size) b e = is_pool_push page size b e
same_steps (PoolPop size) b e = is_pool_pop size b e
same_steps (Reserve apic page caa) b e = is_reserve apic page caa b e
same_steps (Commit page) b e = is_commit page b e
same_steps (Cancel page) b e = is_cancel page b e
same_steps (Retire page) b e = is_retire page b e
same_steps (Remap apic caa) b e = is_remap apic caa b e
same_steps (Enter apic) b e = is_enter apic b e
same_steps (Leave apic) b e = is_leave apic b e

pub steps_same : (a : Step) → eq-value.it a a ≡ true
steps_same (GuestWrite vmpl gpa word) = search rules
steps_same (GuestPend vmpl gpa) = search rules
steps_same (GuestRead vmpl gpa) = search rules
steps_same (GuestAdjust vmpl page target mask) = search rules
steps_same (HostShare page) = search rules
steps_same (HostAssign page) = search rules
steps_same (TakePending vmpl gpa) = search rules
steps_same (LoadWord vmpl gpa) = search rules
steps_same (StoreNext vmpl gpa next) = search rules
steps_same (StoreEntry vmpl gpa word) = search rules
steps_same (SetAvail vmpl gpa on) = search rules
steps_same (ClearCaa vmpl gpa) = search rules
steps_same (Validate vmpl page size on) = search rules
steps_same (Deposit vmpl page size) = search rules
steps_same (Release vmpl page size) = search rules
steps_same (VmsaTake vmpl page features) = search rules
steps_same (VmsaDrop vmpl page) = search rules
steps_same (PoolPush page size) = search rules
steps_same (PoolPop size) = search rules
steps_same (Reserve apic page caa) = search rules
steps_same (Commit page) = search rules
steps_same (Cancel page) = search rules
steps_same (Retire page) = search rules
steps_same (Remap apic caa) = search rules
steps_same (Enter apic) = search rules
steps_same (Leave apic) = search rules
