use Rattle.std.proofs.Common.{List, ℕ, Result, drop}
use Rattle.psc_batch.specs.Host.{HostEvent, Leads}
use Rattle.ap_start.specs.declared.exits.ApError.{ApError}
use Rattle.ap_start.specs.Announced.{IsAnnounced, IsAnnouncedFrom}
use Rattle.ap_start.proofs.announcing.announce.Given as goal

-- whatever exits the rest makes from here on, those so far and they are those of the whole list
abbrev pub invariant-exits : goal.invariant-exits
invariant-exits g l =
    (events : List HostEvent) (end : g.row.H.Denot) (result : Result (Unit {0}) ApError) (new : List ℕ) →
    Leads g.H.Host.answers g.H.Host.returns l.host events end →
    IsAnnouncedFrom l.features l.index (drop l.index l.exits) l.page events result new →
    (all : List HostEvent) × Leads g.H.Host.answers g.H.Host.returns l.fn.host all end × IsAnnounced l.features l.exits l.fn.page all result new
