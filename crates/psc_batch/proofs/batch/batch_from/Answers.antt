use Rattle.std.proofs.Common.{ℕ, ◌≡◌, ◌≤◌, ◌<◌, ◌-◌, List, drop, length, arith, length-drop, subst, sym, ◌∙◌, IfOk}
use Rattle.std.proofs.lemmas.Grind.{common_steps}
use Rattle.std.proofs.lemmas.List.{take_all}
use Rattle.psc_batch.proofs.batch.batch_from.Goals as goal

pub returns-then-rest-lt-ROOM : goal.returns-then-rest-lt-ROOM
returns-then-rest-lt-ROOM c =
    let short : length c.args.words.now - c.args.from < 253 = grind (arith, common_steps) in
    let all : length (drop c.args.from c.args.words.now) ≤ 253 = omega (arith, length-drop c.args.from c.args.words.now) in
    let e = take_all 253 (drop c.args.from c.args.words.now) all in
    let f = take_all (length c.args.words.now - c.args.from) (drop c.args.from c.args.words.now) (omega (arith, length-drop c.args.from c.args.words.now)) in
    subst (λ (entries : List ℕ). IfOk c.of_entries.result (λ batch. batch ≡ entries)) (f ∙ sym e) c.of_entries.ensures
