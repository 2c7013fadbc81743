use Rattle.std.proofs.Common.{◌≡◌, ◌-◌, ◌∙◌, sym, length, take, drop, length-drop, take_all, arith}
use Rattle.std.proofs.lemmas.Slice.Eq.{starts_is}
use Rattle.std.proofs.lemmas.Bool.Decides.{Decides-eqb}
use Rattle.report_check.proofs.AgreeLemmas.{agree_begins}
use Rattle.report_check.proofs.text.agree.Goals as goal

pub returns-then-starts_with : goal.returns-then-starts_with
returns-then-starts_with c =
    let report = c.args.report.now in
    let whole : take (length report - c.args.at) (drop c.args.at report) ≡ drop c.args.at report =
    take_all (length report - c.args.at) (drop c.args.at report) (omega (arith, length-drop c.args.at report)) in
    agree_begins report c.args.piece.now _ c.args.at c.requires
    (sym whole ∙ (starts_is Decides-eqb _ c.args.piece.now _ c.starts_with.ensures.value).0 c.if-starts_with.true)
