use Rattle.std.proofs.Common.{◌≡◌, ◌∙◌, ◌+◌, ◌*◌, ◌++◌, ◌∷◌, [], ℕ, List, length, ap, sym, subst, arith, append_assoc, true, false}
use Rattle.std.proofs.lemmas.Bool.{eq-eqb, ne_eqb}
use Rattle.svsm_types.specs.declared.image.Fill.{Fill}
use Rattle.image_text.specs.Collected.{EndBy}
use Rattle.image_text.proofs.FillMoreLemmas.{word_joins, word_begins, end_last}
use Rattle.image_text.proofs.fill.put_filled.Goals as goal

pub overflow_add-last : goal.overflow_add-last
overflow_add-last c =
    let most = end_last c.args.at c.pop.new.self.items c.in-Some.last (subst (EndBy c.args.at) c.in-Some.ensures.items c.requires.ends) in
    omega (arith, most, c.len.ensures, c.requires.few)

pub returns-then-last-len : goal.returns-then-last-len
returns-then-last-len c =
    c.push_reserved.ensures.items
    ∙ ap (λ (words : List ℕ). c.pop.new.self.items ++ record { gpa = c.in-Some.last.gpa; words = words } ∷ []) c.in_ok-push-2.ensures.ok
    ∙ word_joins c.args.fills.now.items c.pop.new.self.items c.in-Some.last c.args.at c.args.word c.in-Some.ensures.items
    (eq-eqb (c.in-Some.last.gpa.0 + 8 * length c.in-Some.last.words) (8 * c.args.at)
    (ap (λ (n : ℕ). c.in-Some.last.gpa.0 + 8 * n) (sym c.len.ensures) ∙ c.if-last-len.true))

pub returns : goal.returns
returns c =
    c.in_ok-push-3.ensures.items
    ∙ ap (λ (l : List Fill). l ++ c.in_ok-one_fill-2.field-0 ∷ []) c.push_reserved-2.ensures.items
    ∙ append_assoc c.pop.new.self.items (c.in-Some.last ∷ []) (c.in_ok-one_fill-2.field-0 ∷ [])
    ∙ ap (λ (f : Fill). c.pop.new.self.items ++ c.in-Some.last ∷ f ∷ []) c.in_ok-one_fill-2.ensures
    ∙ word_begins c.args.fills.now.items c.pop.new.self.items c.in-Some.last c.args.at c.args.word c.in-Some.ensures.items
    (ne_eqb (c.in-Some.last.gpa.0 + 8 * length c.in-Some.last.words) (8 * c.args.at)
    (λ e. c.if-last-len.false (ap (λ (n : ℕ). c.in-Some.last.gpa.0 + 8 * n) c.len.ensures ∙ e)))
