-- The lines of a report on the exits of a run.
use Rattle.std.specs.Prelude.{ℕ, Bool, if◌then◌else◌, Option, None, Some, List, [], ◌∷◌, ◌++◌, flat_map, codes}
use Rattle.svsm_types.specs.declared.image.Image.{Image}
use Rattle.svsm_steps.specs.Announced.{Announced}
use Rattle.svsm_text.specs.Numbers.{number}
use Rattle.report.specs.Text.{line}
use Rattle.ap_start.specs.declared.exits.ApExit.{ApExit}
use Rattle.ap_start.specs.Exits.{exit_address, taken, refused_exit}

-- the word of a creation or a destruction (AP Creation exit, GHCB 2.0)
unfoldable pub kind_text : Bool → List ℕ
kind_text create = if create then codes "create" else codes "destroy"

-- the line of an exit that was not refused
abbrev pub exit_line : ApExit → List ℕ
exit_line exit =
    line (codes "ap" ∷ kind_text exit.create ∷ number exit.apic ∷ number exit.vmpl.0 ∷ number (exit_address exit) ∷ [])

-- the line of the refused one, with both info values
abbrev pub refused_line : Option (ℕ × ℕ) → List ℕ
refused_line None = []
refused_line (Some said) = line (codes "ap" ∷ codes "refused" ∷ number said.0 ∷ number said.1 ∷ [])

-- what the report says of the host: a line for each exit, and one for the exit that it refused
abbrev pub ap_text : List ApExit → Option (ℕ × ℕ) → List ℕ
ap_text exits end = flat_map exit_line exits ++ refused_line end

-- the lines of a report on what the host was told: in an image that announces its vCPUs one for each exit that the host took, in order,
-- and one for the exit that it refused; in any other none
abbrev pub told_lines : Image → List Announced → List ℕ
told_lines image exits = if image.announce then ap_text (taken image exits) (refused_exit image exits) else []
