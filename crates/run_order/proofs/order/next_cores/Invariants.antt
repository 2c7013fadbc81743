use Rattle.std.proofs.Common.{◌≡◌}
use Rattle.std.specs.Prelude.{not, ◌&&◌, filter}
use Rattle.std.specs.List.{range_with_len, list_any}
use Rattle.svsm_types.specs.declared.vcpu.RowState.TheVariants.{Ready}
use Rattle.svsm_steps.specs.Registry.{of_apic_in}
use Rattle.svsm_calls.specs.Waves.{is_among, apic_of}
use Rattle.run_order.proofs.order.next_cores.Given as goal

abbrev pub invariant-loop-core : goal.invariant-loop-core
invariant-loop-core l = l.cores.items ≡ filter (λ core. not (is_among core l.ran) && list_any (of_apic_in Ready (apic_of l.image core)) l.rows) (range_with_len 0 l.core)
