use Rattle.history_reader.proofs.Ends.{line_tested}
use Rattle.history_reader.proofs.line.is_line.Goals as goal

pub returns-then-last-eq10 : goal.returns-then-last-eq10
returns-then-last-eq10 c = line_tested c.args.line.now c.args.text.now c.eq.result c.in-len1-up.len_at_least c.if-last-eq10.true c.eq.ensures
