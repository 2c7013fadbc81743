use Rattle.std.proofs.Common.{◌≡◌, ◌∙◌, ◌+◌, ◌*◌, ◌++◌, [], List, ℕ, ap, sym, take, length, arith, get_or, append_assoc}
use Rattle.std.specs.Prelude.{Result, Ok, Err, OnOk}
use Rattle.std.specs.Result.{IsOk}
use Rattle.std.proofs.lemmas.List.{append-nil}
use Rattle.hex.specs.Hex.{encode_lower}
use Rattle.image_text.specs.Written.{words_field}
use Rattle.image_text.proofs.FieldLemmas.{no_words, words_more}
use Rattle.image_text.proofs.text.put_words.Goals as goal

of_ok : {A E : Type 0} (r : Result A E) (X : Type 0) → IsOk r → OnOk r X → X
of_ok (Ok x) X h k = k
of_ok (Err e) X h k = cc

pub loop-word-init : goal.loop-word-init
loop-word-init c = sym (ap (λ (l : List ℕ). c.args.out.now.items ++ l) no_words ∙ append-nil c.args.out.now.items)

pub loop-word-preserved : goal.loop-word-preserved
loop-word-preserved c =
    let bytes = c.to_le_bytes.ensures in
    let fits : 16 ≡ 2 * length c.to_le_bytes.result = omega (arith, ap length bytes) in
    let digits = of_ok c.encode_to_slice.result _ (c.encode_to_slice.ensures.fits.1 fits) c.encode_to_slice.ensures.written ∙ ap encode_lower bytes in
    let before = words_field (take c.loop-word.word-index c.args.words.now) in
    c.in_ok-extend_from_slice.ensures.items
    ∙ ap (λ (l : List ℕ). l ++ c.encode_to_slice.new.output) c.loop-word.invariant
    ∙ append_assoc c.args.out.now.items before c.encode_to_slice.new.output
    ∙ ap (λ (l : List ℕ). c.args.out.now.items ++ l) (ap (λ (l : List ℕ). before ++ l) digits ∙ sym (words_more c.args.words.now c.loop-word.word-index c.loop-word-test.true))
