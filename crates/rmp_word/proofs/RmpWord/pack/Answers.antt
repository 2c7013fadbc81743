use Rattle.std.proofs.Common.{ap, ◌∙◌}
use Rattle.rmp_word.specs.Packed.{unpacked}
use Rattle.rmp_word.proofs.PackedLemmas.{unpacked_packed}
use Rattle.rmp_word.proofs.RmpWord.pack.Goals as goal

pub returns-clause-back : goal.returns-clause-back
returns-clause-back c = ap unpacked c.packed.ensures ∙ unpacked_packed c.args.state.now c.requires
