use Rattle.std.proofs.Common.{length-set, ◌≡◌, ℕ, ◌+◌, ◌-◌, ◌^◌, ◌/◌, ◌%◌, ◌<◌, ◌≤◌, arith, refl, subst, ◌∙◌, false}
use Rattle.std.specs.Fmt.{digit_glyph}
use Rattle.svsm_text.proofs.NumberLemmas.{written_more, written_last, written_none, room_all, room_more}
use Rattle.svsm_text.proofs.numbers.write_digits.Goals as goal

pub digits-init : goal.digits-init
digits-init c = record {
  low = omega arith;
  high = omega arith;
  small = room_all (c.args.end - 1 + 17 - c.args.end) c.args.value (omega arith) c.ranges.value.fits;
  len = refl;
  same = written_none (c.args.end - 1 + 65 - c.args.end) c.args.value (c.args.end - 1 + 1) c.args.end c.args.text.now (omega arith) (omega arith);
}

pub digits-preserved : goal.digits-preserved
digits-preserved c =
    let at = c.digits.at in
    let end = c.args.end in
    let kept = c.digits.invariant in
    let room = room_more (at + 17 - end) (at + 16 - end) c.digits.rest (omega arith) (omega arith) c.digits-test.true kept.small in
    let one : 1 ≤ at = omega (arith, room.0, kept.low, c.requires.least) in
    let fewer : at + 16 - end ≡ at - 1 + 17 - end = omega arith in
    let glyph : c.glyph_of.result ≡ digit_glyph false (c.digits.rest % 16) = c.glyph_of.ensures in
    record {
      low = omega arith;
      high = omega arith;
      small = subst (λ (p : ℕ). c.digits.rest / 16 < 16 ^ p) fewer room.1;
      len = length-set c.digits.text at c.glyph_of.result ∙ kept.len;
      same = rw glyph (written_more (at - 1 + 65 - end) (at + 65 - end) c.digits.rest at (at - 1 + 1) c.digits.text (omega arith) (omega arith) (omega arith) c.digits-test.true)
          ∙ kept.same;
    }

pub returns-clause-digits : goal.returns-clause-digits
returns-clause-digits c =
    let at = c.digits.at in
    let end = c.args.end in
    let kept = c.digits.invariant in
    let glyph : c.glyph_of-2.result ≡ digit_glyph false c.digits.rest = c.glyph_of-2.ensures in
    rw glyph (written_last (at + 64 - end) (at + 65 - end) c.digits.rest at c.digits.text (omega arith) (omega arith) c.digits-test.false) ∙ kept.same
