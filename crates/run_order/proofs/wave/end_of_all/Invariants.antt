use Rattle.std.proofs.Common.{◌≡◌, ◌≤◌, ◌⊎◌, take}
use Rattle.std.specs.Prelude.{All}
use Rattle.std.specs.List.{Any}
use Rattle.run_order.specs.declared.wave.Member.{Member}
use Rattle.run_order.specs.Wave.{end_of}
use Rattle.run_order.proofs.wave.end_of_all.Given as goal

abbrev pub invariant-loop-member : goal.invariant-loop-member
invariant-loop-member l = record {
  most : All (λ (member : Member). end_of member l.entries ≤ l.end) (take l.member-index l.members);
  reached : (l.end ≡ 0) ⊎ Any (λ (member : Member). end_of member l.entries ≡ l.end) l.members;
}
