use Rattle.std.proofs.Common.{sym}
use Rattle.std.specs.Prelude.{not, ◌&&◌}
use Rattle.std.specs.List.{list_any}
use Rattle.svsm_types.specs.declared.vcpu.RowState.TheVariants.{Ready}
use Rattle.svsm_steps.specs.Registry.{of_apic_in}
use Rattle.svsm_calls.specs.Waves.{is_among, apic_of}
use Rattle.run_order.proofs.CountLemmas.{filter_more}
use Rattle.run_order.proofs.order.next_cores.Goals as goal

pub loop-core-preserved : goal.loop-core-preserved
loop-core-preserved c = rw (c.in_ok-push_if.ensures, c.loop-core.invariant, c.is_next.ensures)
    (sym (filter_more (λ core. not (is_among core c.args.ran.now) && list_any (of_apic_in Ready (apic_of c.args.image.now core)) c.args.rows.now) c.loop-core.core))
