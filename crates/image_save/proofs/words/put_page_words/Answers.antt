use Rattle.std.proofs.Common.{◌≡◌, ◌∙◌, ◌+◌, ◌*◌, ap, subst, arith, ℕ, Vec, Global}
use Rattle.svsm_types.specs.declared.image.Fill.{Fill}
use Rattle.rmp_table.specs.PackedKnown.{packed_known}
use Rattle.image_text.specs.Collected.{word_if, EndBy}
use Rattle.image_save.proofs.WordLemmas.{blank_page, blank_fits, column_more, word_more, end_more, word_put_if, word_none_if, all_words}
use Rattle.image_save.proofs.words.put_page_words.Goals as goal
use Rattle.image_save.proofs.words.put_page_words.Goals.{then-word-ne0+in_ok-put_filled, else-word-ne0}

pub returns-then-not-touched-clause-fit : goal.returns-then-not-touched-clause-fit
returns-then-not-touched-clause-fit c = blank_fits c.args.page.0 _ (c.touched.ensures c.if-not-touched.true)

pub returns-then-not-touched-clause-put : goal.returns-then-not-touched-clause-put
returns-then-not-touched-clause-put c = blank_page c.args.fills.now.items c.args.page.0 _ (c.touched.ensures c.if-not-touched.true)

pub words-preserved : goal.words-preserved
words-preserved c =
    let first : ℕ = 512 * c.args.page.0 in
    let words : ℕ → ℕ = (packed_known c.args.region.now.scene).hw.words in
    let is : c.if-word-ne0.fills.items ≡ word_if c.words.fills.items (first + c.words.column) c.word-word.result =
    elim c.if-word-ne0.branch [
      | then-word-ne0+in_ok-put_filled w ↦ word_put_if c.words.fills.items c.if-word-ne0.fills.items (first + c.words.column) c.word-word.result w.if-word-ne0.true
          (ap (λ (l : Vec Fill Global). l.items) w.fills-is ∙ w.in_ok-put_filled.ensures)
      | else-word-ne0 w ↦ ap (λ (l : Vec Fill Global). l.items) w.fills-is ∙ word_none_if c.words.fills.items (first + c.words.column) c.word-word.result w.if-word-ne0.false
    ] in
    let read : c.if-word-ne0.fills.items ≡ word_if c.words.fills.items (first + c.words.column) (words (8 * (first + c.words.column))) =
    is ∙ ap (word_if c.words.fills.items (first + c.words.column)) c.word-word.ensures in
    let at : first + c.words.column + 1 ≡ first + (c.words.column + 1) = omega arith in (
      word_more c.args.fills.now.items c.words.fills.items c.if-word-ne0.fills.items first c.words.column (λ n. words (8 * n)) c.words.invariant.0 read,
      subst (λ (n : ℕ). EndBy n c.if-word-ne0.fills.items) at
          (end_more c.words.fills.items c.if-word-ne0.fills.items (first + c.words.column) (words (8 * (first + c.words.column))) c.words.invariant.1 read),
      column_more first c.words.column c.word-word.result words c.words.invariant.2 c.word-word.ensures (omega arith),
    )

pub returns-clause-fit : goal.returns-clause-fit
returns-clause-fit c =
    λ column low. c.words.invariant.2 column (omega (arith, low, c.words-test.false, c.words.auto.column-end))

pub returns-clause-put : goal.returns-clause-put
returns-clause-put c =
    all_words c.args.fills.now.items c.words.fills.items c.args.page.0 c.words.column _ (omega (arith, c.words-test.false, c.words.auto.column-end)) c.words.invariant.0
