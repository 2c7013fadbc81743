use Rattle.svsm_text.proofs.LineLemmas.{line_found, line_not_found, lines_from, line_within, no_line, at_end}
use Rattle.svsm_text.specs.Lines.{next_line}
use Rattle.std.proofs.Common.{arith, ◌≡◌, ◌+◌, take, drop, length, ◌-◌, sym, length-drop}
use Rattle.std.specs.Prelude.{Some, None}
use Rattle.std.proofs.lemmas.List.{take_all}
use Rattle.svsm_text.proofs.lines.next_line.Goals as goal

pub returns-then-from-bytes : goal.returns-then-from-bytes
returns-then-from-bytes c =
    let is : None ≡ next_line c.args.bytes.now c.args.from = at_end c.args.bytes.now c.args.from c.if-from-bytes.true in
    record { exact = is; line = no_line c.args.bytes.now c.args.from c.requires (sym is); goes = tt }

pub returns-in-Some : goal.returns-in-Some
returns-in-Some c =
    let whole : take (length c.args.bytes.now - c.args.from) (drop c.args.from c.args.bytes.now) ≡ drop c.args.from c.args.bytes.now = take_all _ _ (omega (arith, length-drop c.args.from c.args.bytes.now)) in
    let found : c.memchr.result ≡ Some c.in-Some.at = c.in-Some.is in
    let is : Some (c.args.from + c.in-Some.at, c.args.from + c.in-Some.at + 1) ≡ next_line c.args.bytes.now c.args.from =
    line_found c.args.bytes.now c.args.from c.in-Some.at c.requires (rw whole at (rw found at c.memchr.ensures)) in
    record {
      exact = is;
      line = lines_from c.args.bytes.now c.args.from _ _ c.requires (sym is);
      goes = line_within c.args.bytes.now c.args.from _ _ c.requires (sym is);
    }

pub returns-in-None : goal.returns-in-None
returns-in-None c =
    let whole : take (length c.args.bytes.now - c.args.from) (drop c.args.from c.args.bytes.now) ≡ drop c.args.from c.args.bytes.now = take_all _ _ (omega (arith, length-drop c.args.from c.args.bytes.now)) in
    let found : c.memchr.result ≡ None = c.in-None.is in
    let is : Some (length c.args.bytes.now, length c.args.bytes.now) ≡ next_line c.args.bytes.now c.args.from =
    line_not_found c.args.bytes.now c.args.from c.requires c.if-from-bytes.false (rw whole at (rw found at c.memchr.ensures)) in
    record {
      exact = is;
      line = lines_from c.args.bytes.now c.args.from _ _ c.requires (sym is);
      goes = line_within c.args.bytes.now c.args.from _ _ c.requires (sym is);
    }
