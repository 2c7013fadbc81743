use Rattle.std.proofs.Common.{◌≡◌, take, map}
use Rattle.std.specs.Prelude.{All}
use Rattle.svsm_steps.specs.declared.call.Caller.{Caller}
use Rattle.run_order.specs.declared.wave.Member.{Member}
use Rattle.run_order.specs.Wave.{IsRead}
use Rattle.run_order.proofs.wave.read_all.Given as goal

abbrev pub invariant-loop-caller : goal.invariant-loop-caller
invariant-loop-caller l = record {
  read : All (IsRead l.image l.scripts l.entries) l.members.items;
  callers : map (λ (member : Member). member.caller) l.members.items ≡ take l.caller-index l.callers;
}
