-- One half of the exits after a wave.
use Rattle.std.specs.Prelude.{Bool, not, List, [], ◌∷◌, map, filter}
use Rattle.svsm_types.specs.declared.vcpu.Row.{Row}
use Rattle.svsm_types.specs.declared.vcpu.RowState.TheVariants.{Reserved}
use Rattle.svsm_steps.specs.Registry.{same_row_state}
use Rattle.svsm_steps.specs.Announced.{LivePair, Announced, live_pairs, is_live}

-- whether a vCPU stands
abbrev pub is_standing : Row → Bool
is_standing row = not (same_row_state row.state Reserved)

abbrev pub pair_of : Row → LivePair
pair_of row = record { apic = row.apic; page = row.page }

-- the exits of the live pairs of some rows that are none of others
abbrev pub only_live : Bool → List Row → List Row → List Announced
only_live create rows others =
    map (λ (pair : LivePair). record { create = create; pair = pair })
    (filter (λ pair. not (is_live (live_pairs others) pair)) (live_pairs rows))
