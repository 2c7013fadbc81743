use Rattle.std.proofs.Common.{◌≡◌, drop}
use Rattle.svsm_steps.specs.Announced.{ap_error}
use Rattle.run_order.proofs.exits.ap_error.Given as goal

abbrev pub invariant-all : goal.invariant-all
invariant-all l = ap_error (drop l.line-index l.lines) l.number ≡ ap_error l.lines l.number
