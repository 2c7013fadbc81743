-- What is sent to the host for the exits of a wave, whatever the host gives back.
use Rattle.std.specs.Prelude.{◌≡◌, ℕ, ◌+◌, ⊤, if◌then◌else◌, Result, Ok, Err, List, [], ◌∷◌, length}
use Rattle.ghcb_page.specs.Fields.{begun_ap, info1_of, info2_of, is_quiet}
use Rattle.psc_batch.specs.Host.{HostEvent, asked, exited}
use Rattle.psc_batch.specs.Exchange.{page_left_by}
use Rattle.ap_start.specs.declared.exits.ApExit.{ApExit}
use Rattle.ap_start.specs.declared.exits.ApError.{ApError}
use Rattle.ap_start.specs.declared.exits.ApError.TheVariants.{Said}
use Rattle.ap_start.specs.Exits.{exit_info, exit_address}

-- the page as it is sent for an exit
abbrev pub sent_page : ℕ → ApExit → List ℕ → List ℕ
sent_page features exit page = begun_ap features (exit_info exit) (exit_address exit) page

-- these events are exits for a front of the list, in its order, each with the page as the one before it came back
abbrev pub Sends : ℕ → List ApExit → List ℕ → List HostEvent → Type 0
Sends features exits page [] = ⊤
Sends features exits page (asked sent got ∷ events) = ⊥
Sends features [] page (exited sent got ∷ events) = ⊥
Sends features (exit ∷ exits) page (exited sent got ∷ events) = (sent ≡ sent_page features exit page) × Sends features exits got events

-- the first of these exits, counted from a number, that the host refused, with what it said; Ok where it refused none
abbrev pub refusal_from : ℕ → List HostEvent → Result (Unit {0}) ApError
refusal_from index [] = Ok tt
refusal_from index (asked sent got ∷ events) = refusal_from index events
refusal_from index (exited sent got ∷ events) =
    if is_quiet got then refusal_from (index + 1) events else Err (Said index (info1_of got) (info2_of got))

-- where none was refused all exits were made, else none behind the refused one
abbrev pub StopsAt : ℕ → List ApExit → List HostEvent → Result (Unit {0}) ApError → Type 0
StopsAt index exits events (Ok done) = length events ≡ length exits
StopsAt index exits events (Err (Said refused info1 info2)) = index + length events ≡ refused + 1

-- the events of a list of exits, which are counted from a number
pub record IsAnnouncedFrom (features index : ℕ) (exits : List ApExit) (old : List ℕ) (events : List HostEvent) (result : Result (Unit {0}) ApError) (new : List ℕ) : Type 0 where
  pub sends : Sends features exits old events
  pub said : result ≡ refusal_from index events
  pub stops : StopsAt index exits events result
  pub leaves : new ≡ page_left_by old events

-- a list of exits up to the first that the host refused, and what it said there
abbrev pub IsAnnounced : ℕ → List ApExit → List ℕ → List HostEvent → Result (Unit {0}) ApError → List ℕ → Type 0
IsAnnounced features exits old events result new = IsAnnouncedFrom features 0 exits old events result new
