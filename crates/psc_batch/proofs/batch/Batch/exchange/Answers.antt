use Rattle.std.proofs.Common.{◌≤◌, length, [], ◌∷◌, arith, refl, sym, ◌∙◌}
use Rattle.psc_batch.specs.Host.{exited}
use Rattle.psc_batch.proofs.ExchangeLemmas.{bounded, goes_on, longer, of_equal}
use Rattle.psc_batch.proofs.batch.Batch.exchange.Goals as goal

pub returns-in-Some-clause-made : goal.returns-in-Some-clause-made
returns-in-Some-clause-made g c =
    let whole = c.exits.invariant.goes (exited c.prepare.new.page c.exit.new.page ∷ []) c.exit.new.self c.in-Some.result c.exit.new.page
    (c.exit.new.self, c.exit.ensures, refl) (record { sends = (c.prepare.ensures, tt); ends = sym c.ending.ensures ∙ c.in-Some.is; leaves = refl }) in
    let exchange = of_equal c.args.buffer.0 c.entries-entries.result.now c.args.self.now 0 0 c.args.page.now whole.0 c.in-Some.result c.exit.new.page c.entries-entries.ensures.value whole.2 in
    let some : 1 ≤ length c.args.self.now = c.entries-entries.ensures.some in
    let few = bounded c.args.self.now 0 0 whole.0 c.in-Some.result (omega arith) (omega arith) exchange.ends in
    (whole.0, whole.1, exchange, omega arith)

pub exits-preserved : goal.exits-preserved
exits-preserved g c =
    let none = sym c.ending.ensures ∙ c.in_default.is in
    let on = goes_on c.entries-entries.result.now c.exits.cur c.exits.stalls c.exit.new.page c.exits.invariant.within c.exits.invariant.few none in
    record {
      within = rw c.cur_of-cur.ensures on.within;
      few = rw c.stalls_after-stalls.ensures on.few;
      goes = λ events end result new leads rest.
          c.exits.invariant.goes (exited c.prepare.new.page c.exit.new.page ∷ events) end result new (c.exit.new.self, c.exit.ensures, leads)
          (longer c.args.buffer.0 c.entries-entries.result.now c.exits.cur c.exits.stalls c.exits.page c.exit.new.page c.prepare.new.page c.cur_of-cur.result c.stalls_after-stalls.result events result new
          c.prepare.ensures none c.cur_of-cur.ensures c.stalls_after-stalls.ensures rest);
    }
