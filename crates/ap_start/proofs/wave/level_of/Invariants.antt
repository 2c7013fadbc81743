use Rattle.std.proofs.Common.{◌≡◌, drop}
use Rattle.std.specs.List.{list_any}
use Rattle.ap_start.specs.Exits.{is_of, level_of_apic}
use Rattle.ap_start.proofs.wave.level_of.Given as goal

-- so far none was of the APIC id
abbrev pub invariant-cores : goal.invariant-cores
invariant-cores l = record {
  same : level_of_apic (drop l.core-index l.cores) l.apic ≡ level_of_apic l.cores l.apic;
  left : list_any (is_of l.apic) (drop l.core-index l.cores) ≡ list_any (is_of l.apic) l.cores;
}
