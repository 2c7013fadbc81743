use Rattle.std.proofs.Common.{ap, ◌∙◌}
use Rattle.rmp_word.specs.Packed.{packed}
use Rattle.rmp_word.proofs.PackedLemmas.{packed_state}
use Rattle.rmp_word.proofs.RmpWord.unpack.Goals as goal

pub returns-then-self-lt65536-clause-back : goal.returns-then-self-lt65536-clause-back
returns-then-self-lt65536-clause-back c =
    ap packed c.state.ensures.value ∙ packed_state c.args.self.0 c.if-self-eq0.true c.if-self-lt65536.true
