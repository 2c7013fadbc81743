use Rattle.std.proofs.Common.{◌≡◌, ◌++◌, take, drop}
use Rattle.std.specs.Prelude.{map}
use Rattle.owner_map.proofs.fill.mark_all.Given as goal

abbrev pub invariant-all : goal.invariant-all
invariant-all l = l.all ≡ map (λ _. l.on) (take l.one-index l.initial.all) ++ drop l.one-index l.initial.all
