-- The exits by which the host learns after a wave which vCPUs were created and deleted (AMD 56421, 'SNP AP Creation').
use Rattle.std.specs.Prelude.{ℕ, ◌+◌, ◌*◌, ◌^◌, ◌<◌, ◌≤◌, ◌==◌, Bool, if◌then◌else◌, IsTrue, Option, None, Some, List, [], ◌∷◌, map, take}
use Rattle.std.specs.List.{list_any}
use Rattle.std.specs.Option.{option_map}
use Rattle.svsm_types.specs.declared.platform.Vmpl.{Vmpl}
use Rattle.svsm_types.specs.declared.image.CoreLine.{CoreLine}
use Rattle.svsm_types.specs.declared.image.Image.{Image}
use Rattle.svsm_types.specs.declared.vcpu.Row.{Row}
use Rattle.svsm_steps.specs.Announced.{Announced, ap_error, refused_at}
use Rattle.ap_start.specs.declared.exits.ApExit.{ApExit}

-- THE EXITS

-- whether a core line is of an APIC id
abbrev pub is_of : ℕ → CoreLine → Bool
is_of apic core = core.apic == apic

-- the VMPL of the core line of an APIC id
abbrev pub level_of_apic : List CoreLine → ℕ → Vmpl
level_of_apic [] apic = record { 0 = 0 }
level_of_apic (core ∷ cores) apic = if is_of apic core then core.vmpl else level_of_apic cores apic

-- an exit, with the VMPL of the core line
abbrev pub exit_of : List CoreLine → Announced → ApExit
exit_of cores exit = record {
  create = exit.create;
  apic = exit.pair.apic;
  vmpl = level_of_apic cores exit.pair.apic;
  page = exit.pair.page;
}

-- a row's APIC id has a core line
abbrev pub HasLine : List CoreLine → Row → Type 0
HasLine cores row = IsTrue (list_any (is_of row.apic) cores)

-- WHAT THE HOST TOOK

-- the exits before the refused one, of which there are so many
abbrev pub before_refused : {X : Type 0} → Option ℕ → List X → List X
before_refused None exits = exits
before_refused (Some refused) exits = take refused exits

-- of the exits of a run those that the host took
abbrev pub taken : Image → List Announced → List ApExit
taken image exits = map (exit_of image.cores) (before_refused (refused_at image.host 0 exits) exits)

-- what it said of the refused one, in both info values
abbrev pub refused_exit : Image → List Announced → Option (ℕ × ℕ)
refused_exit image exits = option_map (λ (refused : ℕ). (0, ap_error image.host refused)) (refused_at image.host 0 exits)

-- THE NUMBERS OF AN EXIT

-- an exit has room for page numbers below 2^52, and its VMPL is 1 to 3
pub record IsLow (exit : ApExit) : Type 0 where
  pub page : exit.page.0 < 2 ^ 52
  pub least : 1 ≤ exit.vmpl.0
  pub most : exit.vmpl.0 ≤ 3

abbrev pub kind_of : Bool → ℕ
kind_of create = if create then 1 else 2

-- the first info value: the APIC id in bits 63:32, the VMPL in 19:16, and 1 (create) or 2 (destroy) in 15:0
abbrev pub exit_info : ApExit → ℕ
exit_info exit = exit.apic * 2 ^ 32 + (exit.vmpl.0 * 2 ^ 16 + kind_of exit.create)

-- the second info value: the address of the VMSA
abbrev pub exit_address : ApExit → ℕ
exit_address exit = exit.page.0 * 4096
