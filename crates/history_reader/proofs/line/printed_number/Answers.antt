use Rattle.std.proofs.Common.{◌∙◌, ◌++◌, List, ℕ, sym, ap}
use Rattle.svsm_text.specs.Numbers.{number}
use Rattle.history_reader.proofs.Ends.{no_number, other_number}
use Rattle.history_reader.proofs.line.printed_number.Goals as goal

pub returns-in_default : goal.returns-in_default
returns-in_default c = λ n small is. no_number c.args.field.now n small (sym c.read_hex.ensures ∙ c.in_default.is) is

pub returns-else-eq : goal.returns-else-eq
returns-else-eq c = λ n small is.
    other_number c.args.field.now c.as_slice.result.now c.in-Some.value n small (sym c.read_hex.ensures ∙ c.in-Some.is)
    (c.as_slice.ensures.value ∙ c.in_ok-put_hex.ensures.appended ∙ ap (λ (x : List ℕ). x ++ number c.in-Some.value) c.clear.ensures.items)
    (sym c.eq.ensures ∙ c.if-eq.false) is
