use Rattle.std.proofs.Common.{◌≡◌, ◌∙◌, ◌∷◌, ap, map, List, sym, [], inr, rules}
use Rattle.std.specs.Prelude.{string_bytes, Option, Some}
use Rattle.command_words.specs.Words.{Text, Audit, audit_of, plain_words}
use Rattle.command_words.proofs.PlainLaw.{audit_by, audit_is, not_none, none_given, one_given}
use Rattle.command_words.proofs.taken.audit_of.Goals as goal

pub plain_words-requires : goal.plain_words-requires
plain_words-requires c = inr (inr c.requires)

pub unreachable-requires : goal.unreachable-requires
unreachable-requires c =
    let ws = map string_bytes c.args.words.now in
    let same : c.deref.result.now ≡ c.in_ok-plain.plain.items = search rules in
    let given : map (λ w. w.now) c.deref.result.now ≡ plain_words ws = ap (map (λ w. w.now)) same ∙ c.in_ok-plain.ensures in
    absurd (not_none _ (audit_by ws c.requires ∙ ap (audit_of []) (sym given ∙ none_given (λ w. w.now) c.deref.result.now c.in_default.ensures.cases)) c.requires)

pub unreachable-requires-in_default-split_first : goal.unreachable-requires-in_default-split_first
unreachable-requires-in_default-split_first c =
    let ws = map string_bytes c.args.words.now in
    let same : c.deref.result.now ≡ c.in_ok-plain.plain.items = search rules in
    let given : map (λ w. w.now) c.deref.result.now ≡ plain_words ws = ap (map (λ w. w.now)) same ∙ c.in_ok-plain.ensures in
    let one : map (λ w. w.now) c.deref.result.now ≡ c.in-Some.image.now.now ∷ [] = one_given (λ w. w.now) c.deref.result.now c.in-Some.image.now c.in-Some.others.now c.in-Some.ensures.cases.0 c.in_default-split_first.ensures.cases in
    absurd (not_none _ (audit_by ws c.requires ∙ ap (audit_of []) (sym given ∙ one)) c.requires)

pub returns : goal.returns
returns c =
    let ws = map string_bytes c.args.words.now in
    let same : c.deref.result.now ≡ c.in_ok-plain.plain.items = search rules in
    let given : map (λ w. w.now) c.deref.result.now ≡ plain_words ws = ap (map (λ w. w.now)) same ∙ c.in_ok-plain.ensures in
    let one : map (λ w. w.now) c.deref.result.now ≡ c.in-Some.image.now.now ∷ map (λ w. w.now) c.in-Some.others.now = ap (map (λ w. w.now)) c.in-Some.ensures.cases.0 in
    let two : map (λ w. w.now) c.in-Some.others.now ≡ c.in-Some-split_first.report.now.now ∷ map (λ w. w.now) c.in-Some-split_first.names.now = ap (map (λ w. w.now)) c.in-Some-split_first.ensures.cases.0 in
    let names : c.extend_from_slice.new.self.items ≡ c.in-Some-split_first.names.now = search rules in
    audit_is ws c.in-Some.image.now.now c.in-Some-split_first.report.now.now (map (λ w. w.now) c.in-Some-split_first.names.now) c.requires
    (sym given ∙ one ∙ ap (λ (l : List Text). c.in-Some.image.now.now ∷ l) two)
    ∙ ap (λ (scripts : List Text). let o : Option Audit = Some (record { image = c.in-Some.image.now.now; report = c.in-Some-split_first.report.now.now; scripts = scripts }) in o) (ap (map (λ w. w.now)) (sym names))
