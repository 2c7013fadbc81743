use Rattle.std.proofs.Common.{◌≡◌, ℕ, List, take, ◌++◌, ◌∷◌, [], ◌/◌, length, Some, None, ◌∙◌, ap, sym, arith, length-drop}
use Rattle.image_reader.specs.Digits.{word_in, words_told}
use Rattle.image_reader.proofs.DigitLemmas.{behind, word_read, word_refused, last_word}
use Rattle.image_reader.proofs.digits.words_read.Goals as goal

pub words-preserved : goal.words-preserved
words-preserved c =
    let rest = c.words.rest.now in
    let before = c.words.words.items in
    let after = c.split_at.result.1.now in
    let is : word_in (take 16 rest) ≡ Some c.in-Some.word = sym (c.word_of.ensures ∙ ap word_in c.split_at.ensures.front) ∙ c.in-Some.is in
    record {
      whole = omega (arith, c.words.invariant.whole, ap length c.split_at.ensures.back, length-drop 16 rest, c.words-test.true);
      room = omega (arith, c.words.invariant.room, c.push_reserved.ensures.len, c.push_reserved.ensures.capacity, ap length c.split_at.ensures.back, length-drop 16 rest, c.words-test.true);
      read = c.words.invariant.read ∙ word_read before rest c.in-Some.word c.words-test.true is
          ∙ ap (λ (l : List ℕ). behind (before ++ c.in-Some.word ∷ []) (words_told (length l / 16) l)) (sym c.split_at.ensures.back)
          ∙ ap (λ (items : List ℕ). behind items (words_told (length after / 16) after)) (sym c.push_reserved.ensures.items);
    }

pub returns-in_default : goal.returns-in_default
returns-in_default c =
    let none : word_in (take 16 c.words.rest.now) ≡ None = sym (c.word_of.ensures ∙ ap word_in c.split_at.ensures.front) ∙ c.in_default.is in
    sym (c.words.invariant.read ∙ word_refused c.words.words.items c.words.rest.now c.words-test.true none)

pub returns : goal.returns
returns c = last_word c.words.words.items c.words.rest.now c.words-test.false ∙ sym c.words.invariant.read
