use Rattle.std.proofs.Common.{◌≡◌, ◌<◌, ◌*◌, ◌/◌, ◌%◌, ◌⊎◌, inl, inr, length, ◌∙◌, ap, sym, arith}
use Rattle.std.specs.Prelude.{option_map}
use Rattle.std.proofs.lemmas.Bool.Decides.{nat_tests}
use Rattle.image_grammar.specs.declared.kind.ImageKind.TheVariants.{Number}
use Rattle.image_grammar.specs.Told.{told}
use Rattle.image_reader.proofs.DigitLemmas.{words_read, words_refused, words_short}
use Rattle.image_reader.proofs.digits.words_of.Goals.{then-is_empty-via-then-is_empty, then-is_empty-via-else-is_empty+then-digits-ne0}
use Rattle.image_reader.proofs.digits.words_of.Goals as goal

pub returns-then-is_empty-clause-failed : goal.returns-then-is_empty-clause-failed
returns-then-is_empty-clause-failed c =
    let short : length c.args.digits.now ≡ 0 ⊎ 0 < length c.args.digits.now % 16 = elim c.then-is_empty.branch [
      | then-is_empty-via-then-is_empty w ↦ inl (grind (arith, nat_tests, c.is_empty.ensures, w.if-is_empty.true))
      | then-is_empty-via-else-is_empty+then-digits-ne0 w ↦ inr (grind (arith, w.if-digits-ne0.true))
    ] in
    ap (told Number) (words_short c.args.digits.now short)

pub returns-in-Some-clause-words : goal.returns-in-Some-clause-words
returns-in-Some-clause-words c =
    let digits = c.args.digits.now in
    let size : length digits ≡ 16 * (length digits / 16) = omega (arith, c.if-digits-ne0.false) in
    let long : 0 < length digits = grind (arith, nat_tests, c.is_empty.ensures, c.if-is_empty.false) in
    words_read (length digits / 16) digits c.in-Some.words.items size (omega (arith, size, long)) (ap (option_map (λ found. found.items)) (sym c.in-Some.is) ∙ c.in_ok-words.ensures)

pub returns-in-None-clause-failed : goal.returns-in-None-clause-failed
returns-in-None-clause-failed c =
    let digits = c.args.digits.now in
    let size : length digits ≡ 16 * (length digits / 16) = omega (arith, c.if-digits-ne0.false) in
    ap (told Number) (words_refused (length digits / 16) digits size (ap (option_map (λ found. found.items)) (sym c.in-None.is) ∙ c.in_ok-words.ensures))
