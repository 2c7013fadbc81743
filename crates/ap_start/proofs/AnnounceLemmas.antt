-- One exit before others.
use Rattle.std.proofs.Common.{◌≡◌, ℕ, ◌+◌, ◌≤◌, Bool, true, false, cond, Result, Ok, Err, List, [], ◌∷◌, length, drop, refl, sym, ap, subst, ◌∙◌, arith}
use Rattle.std.proofs.Math.ListN.{drop_of_length-le}
use Rattle.ghcb_page.specs.declared.page.HostSaid.{HostSaid}
use Rattle.ghcb_page.specs.Fields.{begun_ap, ended_exit, info1_of, info2_of, is_quiet}
use Rattle.psc_batch.specs.Host.{HostEvent, exited}
use Rattle.ap_start.specs.declared.exits.ApExit.{ApExit}
use Rattle.ap_start.specs.declared.exits.ApError.{ApError}
use Rattle.ap_start.specs.declared.exits.ApError.TheVariants.{Said}
use Rattle.ap_start.specs.Exits.{exit_info, exit_address}
use Rattle.ap_start.specs.Announced.{sent_page, StopsAt, IsAnnouncedFrom}

-- none is left
pub none_left : (features index : ℕ) (page : List ℕ) → IsAnnouncedFrom features index [] page [] (Ok tt) page
none_left features index page = record { sends = tt; said = refl; stops = refl; leaves = refl }

-- one that the host did not refuse, and those behind it
stops_later : (index : ℕ) (exit : ApExit) (exits : List ApExit) (event : HostEvent) (events : List HostEvent) (result : Result (Unit {0}) ApError)
    → StopsAt (index + 1) exits events result → StopsAt index (exit ∷ exits) (event ∷ events) result
stops_later index exit exits event events (Ok done) h = omega arith
stops_later index exit exits event events (Err (Said refused info1 info2)) h = omega arith

pub one_more : (features index : ℕ) (exit : ApExit) (exits : List ApExit) (page sent got : List ℕ) (events : List HostEvent) (result : Result (Unit {0}) ApError) (new : List ℕ)
    → sent ≡ sent_page features exit page → is_quiet got ≡ true → IsAnnouncedFrom features (index + 1) exits got events result new
    → IsAnnouncedFrom features index (exit ∷ exits) page (exited sent got ∷ events) result new
one_more features index exit exits page sent got events result new is quiet rest = record {
  sends = (is, rest.sends);
  said = rw quiet rest.said;
  stops = stops_later index exit exits (exited sent got) events result rest.stops;
  leaves = rest.leaves;
}

-- the one that the host refused
pub refused : (features index : ℕ) (exit : ApExit) (exits : List ApExit) (page sent got : List ℕ)
    → sent ≡ sent_page features exit page → is_quiet got ≡ false
    → IsAnnouncedFrom features index (exit ∷ exits) page (exited sent got ∷ []) (Err (Said index (info1_of got) (info2_of got))) got
refused features index exit exits page sent got is loud = record {
  sends = (is, tt);
  said = rw loud refl;
  stops = refl;
  leaves = refl;
}

-- the page as it is sent
pub sent_is : (features : ℕ) (exit : ApExit) (info address : ℕ) (page sent : List ℕ)
    → sent ≡ begun_ap features info address page → info ≡ exit_info exit → address ≡ exit_address exit → sent ≡ sent_page features exit page
sent_is features exit info address page sent e i a =
    e ∙ (ap (λ n. begun_ap features n address page) i ∙ ap (λ n. begun_ap features (exit_info exit) n page) a)

-- what the end of an exit tells
pub record IsLoud (got : List ℕ) (said : HostSaid) : Type 0 where
  pub loud : is_quiet got ≡ false
  pub info1 : said.info1 ≡ info1_of got
  pub info2 : said.info2 ≡ info2_of got

ends_loud : (quiet : Bool) (info1 info2 : ℕ) (said : HostSaid)
    → cond quiet (Ok info1) (Err (record { info1 = info1; info2 = info2 })) ≡ Err said → (quiet ≡ false) × (said.info1 ≡ info1) × (said.info2 ≡ info2)
ends_loud true info1 info2 said h = cc
ends_loud false info1 info2 said h =
    let e : said ≡ record { info1 = info1; info2 = info2 } = cc in
    (refl, ap (λ (s : HostSaid). s.info1) e, ap (λ (s : HostSaid). s.info2) e)

pub loud_of : (got : List ℕ) (said : HostSaid) → ended_exit got ≡ Err said → IsLoud got said
loud_of got said h =
    let is = ends_loud (is_quiet got) (info1_of got) (info2_of got) said h in
    record { loud = is.0; info1 = is.1; info2 = is.2 }

abbrev told : Bool → ℕ → ℕ → Result ℕ HostSaid
told quiet info1 info2 = cond quiet (Ok info1) (Err (record { info1 = info1; info2 = info2 }))

ends_quiet : (quiet : Bool) (info1 info2 value : ℕ) → told quiet info1 info2 ≡ Ok value → quiet ≡ true
ends_quiet true info1 info2 value h = refl
ends_quiet false info1 info2 value h = cc

pub quiet_of : (got : List ℕ) (value : ℕ) → ended_exit got ≡ Ok value → is_quiet got ≡ true
quiet_of got value h = ends_quiet (is_quiet got) (info1_of got) (info2_of got) value h

-- the exit at the index, and those behind it
pub at_index : (features index : ℕ) (exits : List ApExit) (exit : ApExit) (page sent got : List ℕ) (events : List HostEvent) (result : Result (Unit {0}) ApError) (new : List ℕ)
    → drop index exits ≡ exit ∷ drop (index + 1) exits
    → sent ≡ sent_page features exit page → is_quiet got ≡ true → IsAnnouncedFrom features (index + 1) (drop (index + 1) exits) got events result new
    → IsAnnouncedFrom features index (drop index exits) page (exited sent got ∷ events) result new
at_index features index exits exit page sent got events result new here is quiet rest =
    subst (λ es. IsAnnouncedFrom features index es page (exited sent got ∷ events) result new) (sym here)
    (one_more features index exit (drop (index + 1) exits) page sent got events result new is quiet rest)

pub refused_at : (features index : ℕ) (exits : List ApExit) (exit : ApExit) (page sent got : List ℕ) (said : HostSaid)
    → drop index exits ≡ exit ∷ drop (index + 1) exits
    → sent ≡ sent_page features exit page → IsLoud got said
    → IsAnnouncedFrom features index (drop index exits) page (exited sent got ∷ []) (Err (Said index said.info1 said.info2)) got
refused_at features index exits exit page sent got said here is loud =
    subst (λ es. IsAnnouncedFrom features index es page (exited sent got ∷ []) (Err (Said index said.info1 said.info2)) got) (sym here)
    (rw (loud.info1, loud.info2) (refused features index exit (drop (index + 1) exits) page sent got is loud.loud))

pub none_at : (features index : ℕ) (exits : List ApExit) (page : List ℕ) → length exits ≤ index
    → IsAnnouncedFrom features index (drop index exits) page [] (Ok tt) page
none_at features index exits page past =
    subst (λ es. IsAnnouncedFrom features index es page [] (Ok tt) page) (sym (drop_of_length-le exits past)) (none_left features index page)
