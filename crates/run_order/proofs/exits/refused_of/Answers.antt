use Rattle.std.proofs.Common.{◌≡◌, ℕ, ◌+◌, ◌<◌, Bool, true, false, Some, sym, ◌∙◌, ap, arith, add-one}
use Rattle.std.specs.Prelude.{◌==◌}
use Rattle.std.proofs.lemmas.Bool.Decides.{nat_tests}
use Rattle.svsm_steps.specs.Announced.{ap_error}
use Rattle.run_order.proofs.ToldLemmas.{one_taken, one_refused, at_most}
use Rattle.run_order.proofs.exits.refused_of.Goals as goal

pub returns-then-ap_error-ne0-clause-is : goal.returns-then-ap_error-ne0-clause-is
returns-then-ap_error-ne0-clause-is c =
    let other : (ap_error c.args.lines.now (c.args.number + c.exits.at) == 0) ≡ false = grind (arith, nat_tests, c.ap_error.ensures, c.if-ap_error-ne0.true) in
    sym (one_refused c.args.lines.now c.args.number c.exits.at c.args.count c.exits.invariant other (omega (arith, c.exits-test.true)))

pub exits-preserved : goal.exits-preserved
exits-preserved c =
    let same : (ap_error c.args.lines.now (c.args.number + c.exits.at) == 0) ≡ true = grind (arith, nat_tests, c.ap_error.ensures, c.if-ap_error-ne0.false) in
    rw (add-one c.exits.at) (one_taken c.args.lines.now c.args.number c.exits.at c.exits.invariant same)
