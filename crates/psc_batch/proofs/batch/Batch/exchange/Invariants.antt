use Rattle.std.proofs.Common.{ℕ, ◌-◌, ◌*◌, ◌<◌, List, length, Result}
use Rattle.psc_batch.specs.declared.error.PscError.{PscError}
use Rattle.psc_batch.specs.Host.{HostEvent, Leads}
use Rattle.psc_batch.specs.Exchange.{IsExchange, IsExchangeFrom}
use Rattle.psc_batch.proofs.batch.Batch.exchange.Given as goal

-- whatever exits end an exchange from here on, those so far and they are a whole one
abbrev pub invariant-exits : goal.invariant-exits
invariant-exits g l = record {
  within : l.cur < length l.entries;
  few : l.stalls < 64;
  goes : (events : List HostEvent) (end : g.row.H.Denot) (result : Result (Unit {0}) PscError) (new : List ℕ) →
      Leads g.H.Host.answers g.H.Host.returns l.host events end →
      IsExchangeFrom l.buffer.0 l.entries l.cur l.stalls l.page events result new →
      (all : List HostEvent) × Leads g.H.Host.answers g.H.Host.returns l.fn.host all end × IsExchange l.buffer.0 l.entries l.fn.page all result new;
}

abbrev pub decreases-exits : goal.decreases-exits
decreases-exits g l = 64 * (length l.entries - l.cur) - l.stalls
