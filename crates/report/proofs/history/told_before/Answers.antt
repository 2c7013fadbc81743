use Rattle.std.proofs.Common.{◌≡◌, ℕ, List, [], ◌∷◌, ◌++◌, ◌∙◌, drop, sym, ap, arith, append_assoc}
use Rattle.std.specs.Prelude.{codes, flat_map}
use Rattle.std.proofs.lemmas.Grind.{flat_map-append}
use Rattle.std.proofs.Math.ListN.{drop_of_length-le}
use Rattle.report.specs.Text.{spaced}
use Rattle.report.specs.History.{step_fields, answer_fields}
use Rattle.report.proofs.history.told_before.Goals as goal

joined : (steps answers : List (List ℕ)) (word end : List ℕ)
    → flat_map spaced steps ++ (spaced word ++ (flat_map spaced answers ++ end)) ≡ flat_map spaced (steps ++ word ∷ answers) ++ end
joined steps answers word end =
    ap (λ (l : List ℕ). flat_map spaced steps ++ l) (sym (append_assoc (spaced word) (flat_map spaced answers) end))
    ∙ sym (append_assoc (flat_map spaced steps) (spaced word ++ flat_map spaced answers) end)
    ∙ ap (λ (l : List ℕ). l ++ end) (sym (flat_map-append spaced steps (word ∷ answers)))

pub returns-clause-line : goal.returns-clause-line
returns-clause-line c =
    c.step_before.ensures.line
    ∙ ap (λ (l : List ℕ). flat_map spaced (step_fields c.args.step.now) ++ l)
    (c.word_before-at.ensures.line
    ∙ ap (λ (l : List ℕ). spaced (codes "->") ++ l)
    (c.answer_before-at.ensures.line
    ∙ ap (λ (l : List ℕ). flat_map spaced (answer_fields c.args.answer.now) ++ l)
    (c.byte_before-at.ensures.line
    ∙ ap (λ (l : List ℕ). 10 ∷ l) (drop_of_length-le c.args.line.now {i = 256} (omega (arith, c.told-line))))))
    ∙ joined (step_fields c.args.step.now) (answer_fields c.args.answer.now) (codes "->") (10 ∷ [])
