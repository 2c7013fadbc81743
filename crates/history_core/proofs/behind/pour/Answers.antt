use Rattle.std.proofs.Common.{arith, ◌∙◌, length-set}
use Rattle.history_core.proofs.PourLemmas.{some_there, left_then, one_behind}
use Rattle.history_core.proofs.behind.pour.Goals as goal

pub unreachable-requires : goal.unreachable-requires
unreachable-requires c =
    let kept = c.steps.invariant in
    let turned = c.requires.turned in
    some_there turned.0 c.args.logs.now c.steps.logs c.args.order.now c.steps.place-index c.index-logs-place.result turned.1 c.steps-test.true kept.count
    (kept.left turned.0 turned.1) c.in_default.ensures.none

pub steps-preserved : goal.steps-preserved
steps-preserved c =
    let kept = c.steps.invariant in
    let log = c.index-logs-place.result in
    record {
      count = length-set c.steps.logs _ c.next_of.new.log ∙ kept.count;
      room = (let r = kept.room in let l = c.push_reserved.ensures.len in let k = c.push_reserved.ensures.capacity in omega arith);
      all = λ history turned.
          c.push_reserved.ensures.items
          ∙ one_behind history c.args.logs.now c.steps.logs c.args.order.now c.steps.place-index log turned c.steps-test.true kept.count (kept.left history turned)
          c.next_of.new.log c.in-Some.entry c.in-Some.ensures.some c.args.all.now.items c.steps.all.items c.len-ticket.result (kept.all history turned)
          (c.len-ticket.ensures ∙ c.steps.all.ok.0);
      left = λ history turned.
          left_then history c.args.logs.now c.steps.logs c.args.order.now c.steps.place-index log turned c.steps-test.true kept.count (kept.left history turned)
          c.next_of.new.log c.in-Some.entry c.in-Some.ensures.some;
    }
