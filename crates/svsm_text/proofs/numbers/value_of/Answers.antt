use Rattle.std.proofs.Common.{◌≡◌, get_or, ◌<◌, take, arith, length-take}
use Rattle.std.specs.Char.{digit_value}
use Rattle.std.proofs.lemmas.Int.Digits.{digits_more}
use Rattle.svsm_text.proofs.NumberLemmas.{room, more_pass, more_value}
use Rattle.svsm_text.proofs.numbers.value_of.Goals as goal

pub overflow_mul-value : goal.overflow_mul-value
overflow_mul-value c =
    let digits = c.args.digits.now in
    let at = c.loop-digit.digit-index in
    omega (arith, c.loop-digit.invariant.value, room (take at digits) c.loop-digit.invariant.digits (omega (arith, length-take at digits)))

pub overflow_add-value : goal.overflow_add-value
overflow_add-value c =
    let digits = c.args.digits.now in
    let at = c.loop-digit.digit-index in
    omega (arith, c.in_ok-digit.ensures, c.loop-digit.invariant.value, room (take at digits) c.loop-digit.invariant.digits (omega (arith, length-take at digits)))

pub loop-digit-preserved : goal.loop-digit-preserved
loop-digit-preserved c =
    let digits = c.args.digits.now in
    let at = c.loop-digit.digit-index in
    let kept = c.loop-digit.invariant in
    let digit : digit_value (get_or digits at 0) < 16 = c.in_ok-digit.ensures.0 in
    let is : c.in_ok-digit.digit ≡ digit_value (get_or digits at 0) = c.in_ok-digit.ensures.1 in
    record {
      pass = more_pass digits at (omega arith) kept.pass digit;
      digits = digits_more 16 digits at (omega arith) kept.digits digit;
      value = more_value digits at c.loop-digit.value c.in_ok-digit.digit (omega arith) kept.value is;
    }
