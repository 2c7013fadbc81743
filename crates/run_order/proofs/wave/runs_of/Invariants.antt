use Rattle.std.proofs.Common.{◌≡◌, ◌++◌, map}
use Rattle.std.specs.Prelude.{All}
use Rattle.svsm_steps.specs.declared.outcome.CoreRun.{CoreRun}
use Rattle.run_order.specs.declared.wave.Member.{Member}
use Rattle.run_order.specs.Wave.{IsRunOfOne}
use Rattle.run_order.proofs.wave.runs_of.Given as goal

abbrev pub invariant-members : goal.invariant-members
invariant-members l = record {
  items : l.fn.members.items ≡ l.yielded ++ l.member-iterator.rest.items;
  cores : map (λ (run : CoreRun). run.core) l.runs.items ≡ map (λ (member : Member). member.caller.core) l.yielded;
  runs : All (IsRunOfOne l.fn.members.items) l.runs.items;
}
