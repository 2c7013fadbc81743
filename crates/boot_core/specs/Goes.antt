-- How a boot goes: what is said, and how the regions change. What a boot promises follows of it.
use Rattle.std.specs.Prelude.{Bool, ◌≡◌, ℕ, Result, Ok, Err, MatchResult, List, [], ◌∷◌, ◌++◌, ◌⊎◌}
use Rattle.svsm_types.specs.Pages.{region_of}
use Rattle.svsm_types.specs.declared.address.Page.{Page}
use Rattle.region_core.specs.Accepts.{Shares}
use Rattle.region_core.specs.Stands.{Seen}
use Rattle.psc_batch.specs.declared.error.PscError.{PscError}
use Rattle.psc_batch.specs.Host.{HostEvent}
use Rattle.psc_batch.specs.Exchange.{IsExchange}
use Rattle.boot_core.specs.declared.error.BootError.{BootError}
use Rattle.boot_core.specs.declared.error.BootError.TheVariants.{Psc, Fault}
use Rattle.boot_core.specs.Asks.{Asks, asks_of, Terminates}
use Rattle.boot_core.specs.Boots.{buffer_of}
use Rattle.boot_core.specs.Regions.{ChangesOne, AcceptsAll}

-- after a good exchange: the entries are accepted, or a fault ends the boot
pub record Accepted {A : Type 0} (see : A → Seen) (vmpl : ℕ) (batch : List ℕ) (events : List HostEvent) (result : Result (Unit {0}) BootError) (old new : List A) : Type 0 where
  pub given : Result (Unit {0}) Page
  pub accepts : AcceptsAll see vmpl batch given old new
  pub said : MatchResult given (λ _. (events ≡ []) × (result ≡ Ok tt)) (λ page. Terminates 0 events × (result ≡ Err (Fault page)))

-- one batch: its exchange, and then its entries; a refusal ends the boot
pub record GoesBatch {A : Type 0} (see : A → Seen) (vmpl buffer : ℕ) (batch page left : List ℕ) (events : List HostEvent) (result : Result (Unit {0}) BootError) (old new : List A) : Type 0 where
  pub exchange : List HostEvent
  pub rest : List HostEvent
  pub answer : Result (Unit {0}) PscError
  pub said : events ≡ exchange ++ rest
  pub exchanged : IsExchange buffer batch page exchange answer left
  pub then : MatchResult answer (λ _. Accepted see vmpl batch rest result old new) (λ error. (new ≡ old) × (Terminates 0 rest × (result ≡ Err (Psc error))))

-- the batches one after another
abbrev pub GoesAll : {A : Type 0} → (A → Seen) → ℕ → ℕ → List (List ℕ) → List ℕ → List HostEvent → Result (Unit {0}) BootError → List A → List A → Type 0
GoesAll see vmpl buffer [] page events result old new = (events ≡ []) × ((result ≡ Ok tt) × (new ≡ old))
GoesAll {A = A} see vmpl buffer (batch ∷ batches) page events result old new =
    (here : List HostEvent) × (rest : List HostEvent) × (left : List ℕ) × (given : Result (Unit {0}) BootError) × (mid : List A)
    × (events ≡ here ++ rest)
    × GoesBatch see vmpl buffer batch page left here given old mid
    × MatchResult given (λ _. GoesAll see vmpl buffer batches left rest result mid new) (λ error. (rest ≡ []) × ((result ≡ Err error) × (new ≡ mid)))

-- where a request was refused: the page is shared already, or not
abbrev pub MayShare : {A : Type 0} → (A → Seen) → ℕ → List A → List A → Type 0
MayShare see ghcb old new = (new ≡ old) ⊎ ChangesOne see (region_of ghcb) (Shares ghcb) old new

-- the requests, and where they were answered right the batches
pub record GoesBoot {A : Type 0} (see : A → Seen) (announce : Bool) (ghcb vmpl : ℕ) (batches : List (List ℕ)) (page : List ℕ) (events : List HostEvent) (result : Result (Unit {0}) BootError) (old new : List A) : Type 0 where
  pub first : List HostEvent
  pub second : List HostEvent
  pub answer : Result (Unit {0}) BootError
  pub said : events ≡ first ++ second
  pub asks : Asks (asks_of announce ghcb) first answer
  pub then : MatchResult answer
      (λ _. (mid : List A) × ChangesOne see (region_of ghcb) (Shares ghcb) old mid × GoesAll see vmpl (buffer_of ghcb) batches page second result mid new)
      (λ error. (second ≡ []) × ((result ≡ Err error) × MayShare see ghcb old new))
