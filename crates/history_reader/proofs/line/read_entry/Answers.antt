use Rattle.std.proofs.Common.{◌≡◌, ◌∙◌, List, ℕ, Bor, Some, map, sym, ap, subst}
use Rattle.svsm_steps.specs.declared.entry.Entry.{Entry}
use Rattle.svsm_steps.specs.Formed.{IsWellFormed}
use Rattle.svsm_text.specs.Lines.{fields}
use Rattle.report.specs.History.{entry_line}
use Rattle.history_reader.specs.Fields.{entry_in}
use Rattle.history_reader.proofs.LineLemmas.{told_by}
use Rattle.history_reader.proofs.Ends.{not_true, room_end}
use Rattle.history_reader.proofs.line.read_entry.Goals as goal

pub returns-in_default : goal.returns-in_default
returns-in_default c = λ entry is.
    let same : map (λ (field : Bor (List ℕ)). field.now) c.deref.result.now ≡ fields c.args.line.now =
    ap (map (λ (field : Bor (List ℕ)). field.now)) c.deref.ensures.value ∙ c.in_ok-fields.ensures in
    let read : c.entry_in.result ≡ Some entry = c.entry_in.ensures ∙ ap entry_in same ∙ told_by c.args.regions c.args.line.now entry is in
    c.in_default.not-Some entry read

pub returns-then-not-is_formed : goal.returns-then-not-is_formed
returns-then-not-is_formed c = λ entry is.
    let same : map (λ (field : Bor (List ℕ)). field.now) c.deref.result.now ≡ fields c.args.line.now =
    ap (map (λ (field : Bor (List ℕ)). field.now)) c.deref.ensures.value ∙ c.in_ok-fields.ensures in
    let read : Some c.in-Some.entry ≡ Some entry = sym c.in-Some.is ∙ c.entry_in.ensures ∙ ap entry_in same ∙ told_by c.args.regions c.args.line.now entry is in
    let one : entry ≡ c.in-Some.entry = cc in
    not_true c.is_formed.result c.if-not-is_formed.true
    (c.is_formed.ensures.1 (subst (λ (e : Entry). IsWellFormed c.args.regions e.step) one is.formed))

pub returns : goal.returns
returns c = λ entry is.
    let same : map (λ (field : Bor (List ℕ)). field.now) c.deref.result.now ≡ fields c.args.line.now =
    ap (map (λ (field : Bor (List ℕ)). field.now)) c.deref.ensures.value ∙ c.in_ok-fields.ensures in
    let read : Some c.in-Some.entry ≡ Some entry = sym c.in-Some.is ∙ c.entry_in.ensures ∙ ap entry_in same ∙ told_by c.args.regions c.args.line.now entry is in
    let one : entry ≡ c.in-Some.entry = cc in
    not_true c.is_line.result c.if-is_line.false
    (c.is_line.ensures.1
    (is.text ∙ ap entry_line one ∙ sym c.entry_before-start.ensures.line
    ∙ room_end c.entry_before-start.result c.entry_before-start.new.line c.entry_before-start.array_long))
