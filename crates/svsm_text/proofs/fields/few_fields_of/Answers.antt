use Rattle.std.proofs.Common.{◌≡◌, ◌++◌, ◌∷◌, [], ◌+◌, ℕ, List, take, sym, refl, ◌∙◌, ap, subst, ◌<◌, length, drop, set, length-set, length-take, arith}
use Rattle.std.specs.Prelude.{Option, Some, None}
use Rattle.std.specs.Borrow.{Bor}
use Rattle.std.proofs.lemmas.List.{length-map}
use Rattle.svsm_text.specs.Lines.{fields, after_spaces}
use Rattle.svsm_text.proofs.FieldLemmas.{texts, smaller, field_read, last_read, many_fields, one_more}
use Rattle.svsm_text.proofs.fields.few_fields_of.Goals as goal

left_none : (r : Option ℕ) → ((at : ℕ) → r ≡ Some at → ⊥) → r ≡ None
left_none None _ = refl
left_none (Some at) none = absurd (none at refl)

pub fields-smaller : goal.fields-smaller
fields-smaller c =
    let is : c.first_space.result ≡ Some c.in-Some.at = c.in-Some.is in
    let left : c.after_spaces-rest.result.now ≡ after_spaces (drop c.in-Some.at c.fields.rest.now) = c.after_spaces-rest.ensures ∙ ap after_spaces c.split_at.ensures.back in
    subst (λ (l : List ℕ). length l < length c.fields.rest.now) (sym left) (smaller c.fields.rest.now c.in-Some.at (rw is at c.first_space.ensures))

pub returns-then-count-eq-MOST-clause-fields : goal.returns-then-count-eq-MOST-clause-fields
returns-then-count-eq-MOST-clause-fields c =
    let is : c.first_space.result ≡ Some c.in-Some.at = c.in-Some.is in
    let before = texts (take c.fields.count c.fields.found) in
    let size : length before ≡ c.fields.count = length-map (take c.fields.count c.fields.found) (λ (field : Bor (List ℕ)). field.now)
    ∙ omega (arith, length-take c.fields.count c.fields.found, c.fields.invariant.room, c.fields.invariant.few) in
    omega (arith, many_fields before c.fields.rest.now c.in-Some.at c.fields.count size (rw is at c.first_space.ensures), ap length c.fields.invariant.read, c.if-count-eq-MOST.true)

pub fields-preserved : goal.fields-preserved
fields-preserved c =
    let is : c.first_space.result ≡ Some c.in-Some.at = c.in-Some.is in
    let before = texts (take c.fields.count c.fields.found) in
    let field : Bor (List ℕ) = c.split_at.result.0 in
    let left : c.after_spaces-rest.result.now ≡ after_spaces (drop c.in-Some.at c.fields.rest.now) = c.after_spaces-rest.ensures ∙ ap after_spaces c.split_at.ensures.back in
    let more : texts (take (c.fields.count + 1) (set c.fields.found c.fields.count field)) ≡ before ++ take c.in-Some.at c.fields.rest.now ∷ [] =
    one_more c.fields.found c.fields.count field (omega (arith, c.fields.invariant.room, c.fields.invariant.few))
    ∙ ap (λ (l : List ℕ). before ++ l ∷ []) c.split_at.ensures.front in
    record {
      room = length-set c.fields.found c.fields.count field ∙ c.fields.invariant.room;
      few = omega (arith, c.fields.invariant.few, c.if-count-eq-MOST.false);
      read = ap (λ fs. fs ++ fields c.after_spaces-rest.result.now) more
          ∙ ap (λ (l : List ℕ). (before ++ take c.in-Some.at c.fields.rest.now ∷ []) ++ fields l) left
          ∙ sym (field_read before c.fields.rest.now c.in-Some.at (rw is at c.first_space.ensures)) ∙ c.fields.invariant.read;
    }

pub returns : goal.returns
returns c =
    let is : c.first_space.result ≡ None = left_none c.first_space.result c.in_default.not-Some in
    record {
      fields = one_more c.fields.found c.fields.count c.fields.rest (omega (arith, c.fields.invariant.room, c.fields.invariant.few))
          ∙ sym (last_read (texts (take c.fields.count c.fields.found)) c.fields.rest.now (rw is at c.first_space.ensures)) ∙ c.fields.invariant.read;
      most = c.fields.invariant.few;
    }
