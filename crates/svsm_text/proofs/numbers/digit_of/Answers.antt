use Rattle.std.proofs.Common.{◌<◌, ◌≤◌, ◌∙◌, get_or, arith}
use Rattle.std.proofs.lemmas.Bool.Decides.{nat_tests}
use Rattle.svsm_text.proofs.TableLemmas.{values, small_value, great_value}
use Rattle.svsm_text.proofs.numbers.digit_of.Goals as goal

pub returns-then-value-lt16 : goal.returns-then-value-lt16
returns-then-value-lt16 c =
    let small : get_or values c.args.byte 0 < 16 = grind (arith, nat_tests) in
    let is = small_value c.args.byte (omega arith) small in
    (is.0, c.from.ensures ∙ is.1)

pub returns-else-value-lt16 : goal.returns-else-value-lt16
returns-else-value-lt16 c = λ below.
    let great : 16 ≤ get_or values c.args.byte 0 = grind (arith, nat_tests) in
    great_value c.args.byte (omega arith) great below
