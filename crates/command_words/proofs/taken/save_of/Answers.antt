use Rattle.std.proofs.Common.{◌≡◌, ◌∙◌, ◌∷◌, ap, map, List, sym, [], inl, inr, rules}
use Rattle.std.specs.Prelude.{string_bytes, Option, Some}
use Rattle.command_words.specs.Words.{Text, Save, save_of, plain_words}
use Rattle.command_words.proofs.PlainLaw.{save_by, save_is, not_none, none_given}
use Rattle.command_words.proofs.taken.save_of.Goals as goal

pub plain_words-requires : goal.plain_words-requires
plain_words-requires c = inr (inl c.requires)

pub unreachable-requires : goal.unreachable-requires
unreachable-requires c =
    let ws = map string_bytes c.args.words.now in
    let same : c.deref.result.now ≡ c.in_ok-plain.plain.items = search rules in
    let given : map (λ w. w.now) c.deref.result.now ≡ plain_words ws = ap (map (λ w. w.now)) same ∙ c.in_ok-plain.ensures in
    absurd (not_none _ (save_by ws c.requires ∙ ap (save_of []) (sym given ∙ none_given (λ w. w.now) c.deref.result.now c.in_default.ensures.cases)) c.requires)

pub returns : goal.returns
returns c =
    let ws = map string_bytes c.args.words.now in
    let same : c.deref.result.now ≡ c.in_ok-plain.plain.items = search rules in
    let given : map (λ w. w.now) c.deref.result.now ≡ plain_words ws = ap (map (λ w. w.now)) same ∙ c.in_ok-plain.ensures in
    let one : map (λ w. w.now) c.deref.result.now ≡ c.in-Some.image.now.now ∷ map (λ w. w.now) c.in-Some.names.now = ap (map (λ w. w.now)) c.in-Some.ensures.cases.0 in
    let names : c.extend_from_slice.new.self.items ≡ c.in-Some.names.now = search rules in
    save_is ws c.in-Some.image.now.now (map (λ w. w.now) c.in-Some.names.now) c.requires (sym given ∙ one)
    ∙ ap (λ (scripts : List Text). let o : Option Save = Some (record { image = c.in-Some.image.now.now; scripts = scripts }) in o) (ap (map (λ w. w.now)) (sym names))
