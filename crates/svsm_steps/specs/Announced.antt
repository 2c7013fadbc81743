-- What the host is told of the vCPUs after a wave (AMD 56421, the AP creation exit), and which of these exits it refuses. When it is told is this
-- module's own.
use Rattle.std.specs.Prelude.{ℕ, ◌+◌, ◌==◌, Bool, true, false, ◌&&◌, not, if◌then◌else◌, Option, None, Some, List, [], ◌∷◌, ◌++◌, map, filter}
use Rattle.std.specs.List.{list_any}
use Rattle.svsm_types.specs.declared.address.Page.{Page}
use Rattle.svsm_types.specs.declared.image.HostLine.{HostLine}
use Rattle.svsm_types.specs.declared.image.HostLine.TheVariants.{Ap}
use Rattle.svsm_types.specs.declared.vcpu.Row.{Row}
use Rattle.svsm_types.specs.declared.vcpu.RowState.TheVariants.{Reserved}
use Rattle.svsm_steps.specs.Registry.{same_row_state}

-- a vCPU that stands: the APIC id and the VMSA page of a row
pub record LivePair : Type 0 where
  pub apic : ℕ
  pub page : Page

-- the live pairs of a registry: those of the rows that are not Reserved, in their order
abbrev pub live_pairs : List Row → List LivePair
live_pairs rows =
    map (λ (row : Row). record { apic = row.apic; page = row.page })
    (filter (λ (row : Row). not (same_row_state row.state Reserved)) rows)

-- whether two pairs are the same, and whether one is among others
abbrev pub same_pair : LivePair → LivePair → Bool
same_pair pair other = (pair.apic == other.apic) && (pair.page.0 == other.page.0)

-- a pair is in the list
abbrev pub is_live : List LivePair → LivePair → Bool
is_live pairs pair = list_any (same_pair pair) pairs

-- an exit that announces a vCPU
pub record Announced : Type 0 where
  -- whether it is created, else destroyed
  pub create : Bool
  pub pair : LivePair

-- the exits after a wave, by the rows before it and after it: the pairs that are gone are destroyed, then the new ones created
abbrev pub exits_between : List Row → List Row → List Announced
exits_between before after =
    map (λ (pair : LivePair). record { create = false; pair = pair })
    (filter (λ pair. not (is_live (live_pairs after) pair)) (live_pairs before))
    ++ map (λ (pair : LivePair). record { create = true; pair = pair })
    (filter (λ pair. not (is_live (live_pairs before) pair)) (live_pairs after))

-- the host's list after an exit that it did not refuse, and after several
abbrev pub host_list_by : List LivePair → Announced → List LivePair
host_list_by pairs exit = if exit.create then pairs ++ exit.pair ∷ [] else filter (λ other. not (same_pair exit.pair other)) pairs

-- the host's list of vCPUs behind these exits
abbrev pub host_list_after : List LivePair → List Announced → List LivePair
host_list_after pairs [] = pairs
host_list_after pairs (exit ∷ exits) = host_list_after (host_list_by pairs exit) exits

-- the error that the exit with this number, from 0 over the whole run, returns: that of the first line that speaks of it
abbrev pub ap_error : List HostLine → ℕ → ℕ
ap_error [] number = 0
ap_error (Ap at error ∷ lines) number = if at == number then error else ap_error lines number
ap_error (_ ∷ lines) number = ap_error lines number

-- one more was taken before
abbrev pub refused_more : Option ℕ → Option ℕ
refused_more None = None
refused_more (Some taken) = Some (taken + 1)

-- how many of these exits, the first with this number, the host took before it refused one; None where it refused none
abbrev pub refused_at : List HostLine → ℕ → List Announced → Option ℕ
refused_at lines number [] = None
refused_at lines number (exit ∷ exits) =
    if ap_error lines number == 0 then refused_more (refused_at lines (number + 1) exits) else Some 0
