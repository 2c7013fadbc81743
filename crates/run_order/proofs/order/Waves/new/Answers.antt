use Rattle.std.proofs.Common.{◌≡◌, List, [], None, ℕ, sym, ◌∙◌, ap, subst}
use Rattle.std.specs.List.{flat_map}
use Rattle.svsm_types.specs.declared.image.CoreLine.{CoreLine}
use Rattle.svsm_types.specs.declared.vcpu.Row.{Row}
use Rattle.svsm_steps.specs.Image.{row_of}
use Rattle.svsm_calls.specs.Waves.{rows_behind}
use Rattle.ap_start.specs.declared.exits.ApExit.{ApExit}
use Rattle.run_order.specs.Behind.{AreRead}
use Rattle.run_order.proofs.RowLemmas.{booted_rows}
use Rattle.run_order.proofs.StandLemmas.{none_read}
use Rattle.run_order.proofs.order.Waves.new.Goals as goal

pub returns : goal.returns
returns c = λ scripts entries.
    let rows : c.in_ok-new.field-0.rows ≡ rows_behind c.args.image.now [] =
    c.in_ok-new.ensures.rows ∙ (ap (flat_map (λ (core : CoreLine). row_of core core.seat)) c.as_slice.ensures ∙ sym (booted_rows c.args.image.now)) in
    record {
      lines = c.in_ok-new.ensures.cores ∙ c.as_slice.ensures;
      read = subst (λ (ran : List ℕ). AreRead c.args.image.now scripts entries c.in_ok-new.field-0.rows ran c.in_ok-unstarted.field-0.items c.new-3.result.items None 0) (sym c.new-2.ensures.items)
          (subst (λ (exits : List ApExit). AreRead c.args.image.now scripts entries c.in_ok-new.field-0.rows [] c.in_ok-unstarted.field-0.items exits None 0) (sym c.new-3.ensures.items)
          (none_read c.args.image.now scripts entries c.in_ok-new.field-0.rows c.in_ok-unstarted.field-0.items rows c.in_ok-unstarted.ensures));
    }
