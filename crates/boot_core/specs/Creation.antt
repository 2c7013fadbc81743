-- Host lines on the exits that announce a vCPU.
use Rattle.std.specs.Prelude.{ℕ, ◌==◌, if◌then◌else◌, Option, None, Some}
use Rattle.svsm_types.specs.declared.image.HostLine.{HostLine}
use Rattle.svsm_types.specs.declared.image.HostLine.TheVariants.{Ap}

-- the error that a line gives the exit with a number
abbrev pub ap_in : ℕ → HostLine → Option ℕ
ap_in number (Ap other error) = if other == number then Some error else None
ap_in number _ = None
