-- The boot sequence: what the module and the host say to each other, and how it ends. This module's own.
use Rattle.std.specs.Prelude.{◌≡◌, ℕ, ◌+◌, ◌*◌, Option, None, Some, Result, Ok, Err, MatchResult, List, [], ◌∷◌, ◌++◌, ◌⊎◌, replicate}
use Rattle.svsm_types.specs.declared.address.Page.{Page}
use Rattle.svsm_types.specs.declared.image.Image.{Image}
use Rattle.psc_batch.specs.declared.error.PscError.{PscError}
use Rattle.psc_batch.specs.Host.{HostEvent, Leads}
use Rattle.psc_batch.specs.Exchange.{IsExchange}
use Rattle.boot_core.specs.declared.error.BootError.{BootError}
use Rattle.boot_core.specs.declared.error.BootError.TheVariants.{Psc, Fault, NoMemory}
use Rattle.boot_core.specs.Asks.{Asks, asks_of, Terminates}
use Rattle.boot_core.specs.Entries.{image_batches, AreFaultsIn}
use Rattle.boot_core.specs.Faults.{image_faults}
use Rattle.boot_core.specs.Sim.{Sim, SimAnswers, SimReturns, host_of}

-- the address of the shared buffer of the GHCB page
abbrev pub buffer_of : ℕ → ℕ
buffer_of page = page * 4096 + 0x800

-- the GHCB page before the boot
unfoldable pub blank_page : List ℕ
blank_page = replicate 4096 0

-- ONE BATCH AFTER ANOTHER

-- after a good exchange the entries are accepted; where the page of one faults, the boot ends, after Terminate
abbrev pub AcceptsEnd : Option Page → List HostEvent → Result (Unit {0}) BootError → Type 0
AcceptsEnd None events result = (events ≡ []) × (result ≡ Ok tt)
AcceptsEnd (Some page) events result = Terminates 0 events × (result ≡ Err (Fault page))

-- a batch: its exchange, which leaves the page so, and then its entries; a refusal ends the boot, after Terminate
pub record BatchEnds (buffer : ℕ) (batch page left : List ℕ) (fault : Option Page) (events : List HostEvent) (result : Result (Unit {0}) BootError) : Type 0 where
  pub exchange : List HostEvent
  pub rest : List HostEvent
  pub answer : Result (Unit {0}) PscError
  pub said : events ≡ exchange ++ rest
  pub exchanged : IsExchange buffer batch page exchange answer left
  pub then : MatchResult answer (λ _. AcceptsEnd fault rest result) (λ error. Terminates 0 rest × (result ≡ Err (Psc error)))

-- the batches, in order, each with the page of it that faults, up to the first that does not end well
abbrev pub BatchesEnd : ℕ → List (List ℕ) → List (Option Page) → List ℕ → List HostEvent → Result (Unit {0}) BootError → Type 0
BatchesEnd buffer [] faults page events result = (events ≡ []) × (result ≡ Ok tt)
BatchesEnd buffer (batch ∷ batches) [] page events result = ⊥
BatchesEnd buffer (batch ∷ batches) (fault ∷ faults) page events result =
    (here : List HostEvent) × (rest : List HostEvent) × (left : List ℕ) × (given : Result (Unit {0}) BootError)
    × (events ≡ here ++ rest)
    × BatchEnds buffer batch page left fault here given
    × MatchResult given (λ _. BatchesEnd buffer batches faults left rest result) (λ error. (rest ≡ []) × (result ≡ Err error))

-- THE WHOLE SEQUENCE

-- the requests in the MSR, and where all were answered right the batches, with the page of each that faults
pub record SaidInBoot (image : Image) (faults : List (Option Page)) (events : List HostEvent) (result : Result (Unit {0}) BootError) : Type 0 where
  pub first : List HostEvent
  pub second : List HostEvent
  pub answer : Result (Unit {0}) BootError
  pub said : events ≡ first ++ second
  pub asks : Asks (asks_of image.announce image.ghcb.0) first answer
  pub then : MatchResult answer
      (λ _. BatchesEnd (buffer_of image.ghcb.0) (image_batches image) faults blank_page second result)
      (λ error. (second ≡ []) × (result ≡ Err error))

-- without memory nothing was said
abbrev pub SaidNothing : List HostEvent → Result (Unit {0}) BootError → Type 0
SaidNothing events result = (events ≡ []) × (result ≡ Err NoMemory)

-- over any platforms some page may fault; over those that tell their numbers, just those that are due to
abbrev pub SaidBy : Image → List HostEvent → Result (Unit {0}) BootError → Type 0
SaidBy image events result =
    SaidNothing events result ⊎ ((faults : List (Option Page)) × AreFaultsIn (image_batches image) faults × SaidInBoot image faults events result)

abbrev pub SaidAsDue : Image → List HostEvent → Result (Unit {0}) BootError → Type 0
SaidAsDue image events result = SaidNothing events result ⊎ SaidInBoot image (image_faults image) events result

-- STATEMENTS ABOUT AN IMAGE ALONE

-- the boot of an image against the host of its lines ends so
pub record BootEnds (image : Image) (result : Result (Unit {0}) BootError) : Type 0 where
  pub events : List HostEvent
  pub end : Sim
  pub leads : Leads SimAnswers SimReturns (host_of image) events end
  pub said : SaidInBoot image (image_faults image) events result

-- the image boots
abbrev pub Boots : Image → Type 0
Boots image = BootEnds image (Ok tt)

-- a boot ends in one way
abbrev pub BootEndsInOneWay : Type 0
BootEndsInOneWay = (image : Image) (one other : Result (Unit {0}) BootError) → BootEnds image one → BootEnds image other → one ≡ other
