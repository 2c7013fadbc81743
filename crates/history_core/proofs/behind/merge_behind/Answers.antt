use Rattle.std.proofs.Common.{◌≡◌, ◌++◌, ℕ, List, length, sym, ap, ◌∙◌, subst, Global}
use Rattle.std.specs.declared.vec.Vec.{Vec}
use Rattle.svsm_steps.specs.declared.entry.Entry.{Entry}
use Rattle.history_core.specs.Merged.{AreLogsOf}
use Rattle.history_core.specs.Raised.{raised}
use Rattle.history_core.proofs.PourLemmas.{turned_is}
use Rattle.history_core.proofs.behind.merge_behind.Goals as goal

pub pour-requires-clause-turned : goal.pour-requires-clause-turned
pour-requires-clause-turned c =
    let history = c.requires.1 in
    let logs = c.args.logs.items in (
      history,
      turned_is c.requires.0 history logs c.deref_mut.result.now c.turn.new.logs c.deref_mut-2.result.now c.deref-2.result.now c.args.logs.len c.requires.2
          c.deref_mut.ensures.value c.turn.ensures c.turn.auto.logs c.args.logs.ok.0 c.deref_mut-2.ensures.value
          (c.deref-2.ensures.value
          ∙ c.in_ok-order.ensures c.requires.0 history (subst (λ (l : List (Vec Entry Global)). AreLogsOf c.requires.0 history l) (sym c.deref.ensures.value) c.requires.2)),
    )

pub returns : goal.returns
returns c = λ regions history of.
    let logs = c.args.logs.items in
    let old : c.try_reserve.new.self.items ≡ c.args.past.items = c.in_ok-try_reserve.ensures.items in
    c.pour.ensures history
    (turned_is regions history logs c.deref_mut.result.now c.turn.new.logs c.deref_mut-2.result.now c.deref-2.result.now c.args.logs.len of
    c.deref_mut.ensures.value c.turn.ensures c.turn.auto.logs c.args.logs.ok.0 c.deref_mut-2.ensures.value
    (c.deref-2.ensures.value ∙ c.in_ok-order.ensures regions history (subst (λ (l : List (Vec Entry Global)). AreLogsOf regions history l) (sym c.deref.ensures.value) of)))
    ∙ ap (λ (l : List Entry). l ++ raised (length l) history) old
