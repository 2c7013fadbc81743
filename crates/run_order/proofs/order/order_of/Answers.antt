use Rattle.std.proofs.Common.{◌≡◌, ◌<◌, ℕ, List, [], ◌++◌, Option, None, sym, ◌∙◌, ap, subst}
use Rattle.std.specs.Prelude.{◌≢◌, ◌==◌, is_some}
use Rattle.run_order.specs.Behind.{left, cores_next, AfterWave}
use Rattle.run_order.proofs.CountLemmas.{some_items}
use Rattle.run_order.proofs.LeftLemmas.{fewer_left}
use Rattle.run_order.proofs.order.order_of.Goals as goal

pub waves-smaller : goal.waves-smaller
waves-smaller c =
    let some : c.in_ok-cores.cores.items ≢ [] = some_items c.in_ok-cores.cores.items (sym (c.is_empty.ensures ∙ ap (λ (n : ℕ). n == 0) c.in_ok-cores.cores.ok.0) ∙ c.if-is_empty.false) in
    let same : c.deref.result.now ≡ c.in_ok-cores.cores.items = c.deref.ensures.value in
    let next : c.deref.result.now ≡ cores_next c.args.image.now c.waves.waves = same ∙ c.in_ok-cores.ensures in
    let after : AfterWave c.args.image.now c.args.scripts.now c.args.entries.now c.deref.result.now c.waves.waves c.read.new.self None =
    subst (AfterWave c.args.image.now c.args.scripts.now c.args.entries.now c.deref.result.now c.waves.waves c.read.new.self) c.in_default.is c.in_ok-at.ensures in
    subst (λ (ran : List ℕ). left c.args.image.now ran < left c.args.image.now c.waves.waves.ran.items) (sym after.1)
    (fewer_left c.args.image.now (is_some c.waves.waves.told.refused) c.waves.waves.ran.items c.waves.waves.registry.rows c.deref.result.now next
    (subst (λ (l : List ℕ). l ≢ []) (sym same) some))
