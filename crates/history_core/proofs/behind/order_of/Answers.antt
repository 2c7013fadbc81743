use Rattle.std.proofs.Common.{rules, arith, ◌≡◌, ◌<◌, ◌^◌, length, replicate, ap, sym, ◌∙◌}
use Rattle.std.proofs.lemmas.Grind.{common_steps}
use Rattle.std.proofs.lemmas.List.{take_at, length-replicate}
use Rattle.history_core.specs.Merged.{entries_in}
use Rattle.history_core.specs.Marked.{marked}
use Rattle.history_core.proofs.BehindLemmas.{counted, within, order_is, length-marked}
use Rattle.history_core.proofs.behind.order_of.Goals as goal

pub mark_all-requires : goal.mark_all-requires
mark_all-requires c =
    let order = c.in_ok-order.order in
    let few : order.len < 2 ^ 63 = omega (arith, order.ok.1, order.small) in
    let long : length order.items ≡ length (entries_in c.args.logs.now) =
    counted c.requires.0 c.requires.1 c.args.logs.now c.requires.2 order.items c.count_of.result order.len order.ok.0 c.in_ok-order.ensures.len few c.count_of.ensures in
    within c.requires.0 c.requires.1 c.args.logs.now c.requires.2 _ (ap length c.deref_mut.ensures.value ∙ long)

pub returns : goal.returns
returns c = λ regions history logs.
    let order = c.in_ok-order.order in
    let few : order.len < 2 ^ 63 = omega (arith, order.ok.1, order.small) in
    let long : length order.items ≡ length (entries_in c.args.logs.now) =
    counted regions history c.args.logs.now logs order.items c.count_of.result order.len order.ok.0 c.in_ok-order.ensures.len few c.count_of.ensures in
    let zeros : order.items ≡ replicate c.count_of.result 0 = (first_of (search rules, grind (arith, common_steps))) in
    let put : c.mark_all.new.order ≡ marked (entries_in c.args.logs.now) (replicate c.count_of.result 0) =
    c.in_ok-mark_all.ensures ∙ ap (marked (entries_in c.args.logs.now)) (c.deref_mut.ensures.value ∙ zeros) in
    let same : length c.mark_all.new.order ≡ order.len =
    ap length put ∙ (length-marked (entries_in c.args.logs.now) (replicate c.count_of.result 0) ∙ (length-replicate c.count_of.result 0 ∙ sym c.in_ok-order.ensures.len)) in
    take_at c.mark_all.new.order _ order.len same
    ∙ order_is regions history c.args.logs.now logs c.mark_all.new.order c.count_of.result put (sym c.in_ok-order.ensures.len ∙ (order.ok.0 ∙ long))
