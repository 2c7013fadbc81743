use Rattle.std.proofs.Common.{◌≡◌, ◌++◌, ◌∷◌, [], ℕ, List, take, sym, refl, ◌∙◌, ap, subst, ◌<◌, length, drop}
use Rattle.std.specs.Prelude.{Option, Some, None}
use Rattle.std.specs.Borrow.{Bor}
use Rattle.std.proofs.lemmas.List.{map-append}
use Rattle.svsm_text.specs.Lines.{fields, after_spaces}
use Rattle.svsm_text.proofs.FieldLemmas.{texts, smaller, field_read, last_read}
use Rattle.svsm_text.proofs.fields.fields_of.Goals as goal

left_none : (r : Option ℕ) → ((at : ℕ) → r ≡ Some at → ⊥) → r ≡ None
left_none None _ = refl
left_none (Some at) none = absurd (none at refl)

pub fields-smaller : goal.fields-smaller
fields-smaller c =
    let is : c.first_space.result ≡ Some c.in-Some.at = c.in-Some.is in
    let left : c.after_spaces-rest.result.now ≡ after_spaces (drop c.in-Some.at c.fields.rest.now) = c.after_spaces-rest.ensures ∙ ap after_spaces c.split_at.ensures.back in
    subst (λ (l : List ℕ). length l < length c.fields.rest.now) (sym left) (smaller c.fields.rest.now c.in-Some.at (rw is at c.first_space.ensures))

pub fields-preserved : goal.fields-preserved
fields-preserved c =
    let is : c.first_space.result ≡ Some c.in-Some.at = c.in-Some.is in
    let left : c.after_spaces-rest.result.now ≡ after_spaces (drop c.in-Some.at c.fields.rest.now) = c.after_spaces-rest.ensures ∙ ap after_spaces c.split_at.ensures.back in
    let more : texts c.push.new.self.items ≡ texts c.fields.found.items ++ take c.in-Some.at c.fields.rest.now ∷ [] =
    ap texts c.in_ok-push.ensures.items ∙ map-append (λ (field : Bor (List ℕ)). field.now) c.fields.found.items (c.split_at.result.0 ∷ [])
    ∙ ap (λ (l : List ℕ). texts c.fields.found.items ++ l ∷ []) c.split_at.ensures.front in
    ap (λ fs. fs ++ fields c.after_spaces-rest.result.now) more
    ∙ ap (λ (l : List ℕ). (texts c.fields.found.items ++ take c.in-Some.at c.fields.rest.now ∷ []) ++ fields l) left
    ∙ sym (field_read (texts c.fields.found.items) c.fields.rest.now c.in-Some.at (rw is at c.first_space.ensures)) ∙ c.fields.invariant

pub returns : goal.returns
returns c =
    let is : c.first_space.result ≡ None = left_none c.first_space.result c.in_default.not-Some in
    ap texts c.in_ok-push-2.ensures.items ∙ map-append (λ (field : Bor (List ℕ)). field.now) c.fields.found.items (c.fields.rest ∷ [])
    ∙ sym (last_read (texts c.fields.found.items) c.fields.rest.now (rw is at c.first_space.ensures)) ∙ c.fields.invariant
