-- Each entry of a history has a place of the map: its step is well formed, and it has the place of its step.
use Rattle.std.proofs.Common.{◌≡◌, ℕ, ◌+◌, ◌*◌, ◌<◌, List, [], ◌∷◌, arith}
use Rattle.svsm_types.specs.Pages.{page_of, region_of}
use Rattle.svsm_types.specs.declared.platform.Size.{Size}
use Rattle.svsm_types.specs.declared.platform.Size.TheVariants.{Small, Large}
use Rattle.svsm_steps.specs.declared.entry.Entry.{Entry}
use Rattle.svsm_steps.specs.declared.step.Step.{Step}
use Rattle.svsm_steps.specs.declared.step.Step.TheVariants.{GuestWrite, GuestPend, GuestRead, GuestAdjust, HostShare, HostAssign, TakePending, LoadWord, StoreNext, StoreEntry, SetAvail, ClearCaa, Validate, Deposit, Release, VmsaTake, VmsaDrop, PoolPush, PoolPop, Reserve, Commit, Cancel, Retire, Remap, Enter, Leave}
use Rattle.svsm_steps.specs.Formed.{IsSizedPage, IsWellFormed, AreWellFormed}
use Rattle.svsm_steps.specs.Histories.{HaveTheirPlaces}
use Rattle.svsm_steps.specs.Lawful.{AreBelow}
use Rattle.svsm_steps.specs.Place.{place_of}

low : (regions page : ℕ) → page < 512 * regions → region_of page < regions + 2
low regions page h = omega arith

sized : (regions : ℕ) (size : Size) (page : ℕ) → IsSizedPage regions size page → region_of page < regions + 2
sized regions Small page h = low regions page h
sized regions Large page h = low regions page h.0

place_below : (regions : ℕ) (step : Step) → IsWellFormed regions step → place_of regions step < regions + 2
place_below regions (GuestWrite vmpl gpa word) h = low regions (page_of gpa.0) h.1.0
place_below regions (GuestPend vmpl gpa) h = low regions (page_of gpa.0) h.1.0
place_below regions (GuestRead vmpl gpa) h = low regions (page_of gpa.0) h.1.0
place_below regions (GuestAdjust vmpl page target mask) h = low regions page.0 h.1
place_below regions (HostShare page) h = low regions page.0 h
place_below regions (HostAssign page) h = low regions page.0 h
place_below regions (TakePending vmpl gpa) h = low regions (page_of gpa.0) h.1.0
place_below regions (LoadWord vmpl gpa) h = low regions (page_of gpa.0) h.1.0
place_below regions (StoreNext vmpl gpa index) h = low regions (page_of gpa.0) h.1.0
place_below regions (StoreEntry vmpl gpa word) h = low regions (page_of gpa.0) h.1.0
place_below regions (SetAvail vmpl gpa on) h = low regions (page_of gpa.0) h.1.0
place_below regions (ClearCaa vmpl gpa) h = low regions (page_of gpa.0) h.1.0
place_below regions (Validate vmpl page size on) h = sized regions size page.0 h.1
place_below regions (Deposit vmpl page size) h = sized regions size page.0 h.1
place_below regions (Release vmpl page size) h = sized regions size page.0 h.1
place_below regions (VmsaTake vmpl page features) h = low regions page.0 h.1
place_below regions (VmsaDrop vmpl page) h = low regions page.0 h.1
place_below regions (PoolPush page size) h = omega arith
place_below regions (PoolPop size) h = omega arith
place_below regions (Reserve apic page caa) h = omega arith
place_below regions (Commit page) h = omega arith
place_below regions (Cancel page) h = omega arith
place_below regions (Retire page) h = omega arith
place_below regions (Remap apic caa) h = omega arith
place_below regions (Enter apic) h = omega arith
place_below regions (Leave apic) h = omega arith

pub are_below : (regions : ℕ) (history : List Entry) → HaveTheirPlaces regions history → AreWellFormed regions history → AreBelow regions history
are_below regions [] placed formed = tt
are_below regions (entry ∷ history) placed formed =
    let here : place_of regions entry.step < regions + 2 = place_below regions entry.step formed.0 in
    let is : entry.place ≡ place_of regions entry.step = placed.0 in
    (omega (arith, here, is), are_below regions history placed.1 formed.1)
