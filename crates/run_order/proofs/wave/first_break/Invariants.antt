use Rattle.std.proofs.Common.{◌≡◌, ◌≤◌, ◌⊎◌, ℕ, take}
use Rattle.std.specs.Prelude.{All}
use Rattle.std.specs.List.{Any}
use Rattle.run_order.specs.declared.wave.Member.{Member}
use Rattle.run_order.specs.Wave.{break_of}
use Rattle.run_order.proofs.wave.first_break.Given as goal

abbrev pub invariant-loop-member : goal.invariant-loop-member
invariant-loop-member l = record {
  within : l.first ≤ l.entries;
  least : All (λ (member : Member). l.first ≤ break_of member l.entries) (take l.member-index l.members);
  reached : (l.first ≡ l.entries) ⊎ Any (λ (member : Member). break_of member l.entries ≡ l.first) l.members;
}
