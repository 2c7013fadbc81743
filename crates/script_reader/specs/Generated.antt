-- The image and the scripts that are generated from three numbers. This module's own.
use Rattle.std.specs.Prelude.{ℕ, zero, suc, ◌+◌, ◌*◌, ◌/◌, ◌%◌, ◌^◌, ◌==◌, if◌then◌else◌, false, None, Some, List, [], ◌∷◌, ◌++◌, map, flat_map}
use Rattle.std.specs.List.{range_with_len}
use Rattle.svsm_types.specs.declared.platform.HwState.{HwState}
use Rattle.svsm_types.specs.declared.platform.HwState.TheVariants.{Assigned, Valid}
use Rattle.svsm_types.specs.declared.owner.Owner.{Owner}
use Rattle.svsm_types.specs.declared.owner.Owner.TheVariants.{Guest, Module, Vmsa}
use Rattle.svsm_types.specs.declared.image.Range.{Range}
use Rattle.svsm_types.specs.declared.image.CoreLine.{CoreLine}
use Rattle.svsm_types.specs.declared.image.Image.{Image}
use Rattle.svsm_types.specs.declared.request.Request.{Request}
use Rattle.svsm_types.specs.declared.request.Request.TheVariants.{Write, Call}

-- THE IMAGE

-- so many pages from a first one on
abbrev pub pages_from : ℕ → ℕ → Owner → HwState → ℕ → Range
pages_from first count owner state rights = record { first = record { 0 = first }; count = count; owner = owner; state = state; rights = rights }

-- each core has a region of its own, behind that of the module
abbrev pub first_page : ℕ → ℕ
first_page core = 512 * (core + 1)

-- and a VMSA page
abbrev pub generated_vmsa_page : ℕ → ℕ
generated_vmsa_page core = 0x10 + core

-- the module's pages, with the GHCB page among them
abbrev pub module_ranges : List Range
module_ranges = pages_from 0x0 0x5 Module Valid 0x0 ∷ pages_from 0x5 0x1 Module Assigned 0x0 ∷ pages_from 0x6 0xa Module Valid 0x0 ∷ []

-- the VMSA page of a generated core
abbrev pub vmsa_range : ℕ → Range
vmsa_range core = pages_from (generated_vmsa_page core) 0x1 Vmsa Valid 0x0

-- the first 16 pages of a core's region are the guest's, VMPL 2 has all rights on them, and the others wait to be validated
abbrev pub guest_ranges : ℕ → List Range
guest_ranges core = pages_from (first_page core) 16 Guest Valid 0xf0 ∷ pages_from (first_page core + 16) 496 Guest Assigned 0x0 ∷ []

-- the calling area stands at the first page of the core's region
abbrev pub generated_core : ℕ → CoreLine
generated_core core = record { apic = core; seat = Some (record { 0 = generated_vmsa_page core }, record { 0 = 4096 * first_page core }); vmpl = record { 0 = 2 } }

-- the image for so many cores
abbrev pub generated_image : ℕ → Image
generated_image cores = record {
  regions = cores + 1;
  vmpl = record { 0 = 2 };
  second = None;
  features = 1;
  ghcb = record { 0 = 0x5 };
  ranges = module_ranges ++ map vmsa_range (range_with_len 0 cores) ++ flat_map guest_ranges (range_with_len 0 cores);
  large = [];
  accepts = [];
  cores = map generated_core (range_with_len 0 cores);
  fills = [];
  faults = [];
  host = [];
  split = false;
  blocks = [];
  announce = false;
}

-- THE SCRIPTS

-- a linear congruence modulo 2^64, with the multiplier and the increment of MMIX
abbrev pub next_value : ℕ → ℕ
next_value x = (x * 6364136223846793005 + 1442695040888963407) % 2 ^ 64

-- its value after so many steps
unfoldable pub value_after : ℕ → ℕ → ℕ
value_after seed zero = seed % 2 ^ 64
value_after seed (suc steps) = next_value (value_after seed steps)

-- the list of a core, in the page behind its calling area
abbrev pub list_at : ℕ → ℕ
list_at core = 4096 * (first_page core + 1)

-- the entry that a value asks for: validate, or where bit 20 is 0 invalidate, one of the 496 pages, and pass over an unchanged page
abbrev pub generated_entry : ℕ → ℕ → ℕ
generated_entry core x = 4096 * (first_page core + (16 + x / 2 ^ 33 % 496)) + 4 * (x / 2 ^ 20 % 2) + 8

-- the guest writes a word
abbrev pub guest_writes : ℕ → ℕ → Request
guest_writes address word = Write (record { 0 = 2 }) (record { 0 = address }) word

-- a request by its number: the list's header, with one entry; the entry, by a value; the call
abbrev pub request_by : ℕ → ℕ → ℕ → Request
request_by core x number =
    if number % 3 == 0 then guest_writes (list_at core) 1
    else if number % 3 == 1 then guest_writes (list_at core + 8) (generated_entry core x)
    else Call (record { rax = 1; rcx = list_at core; rdx = 0; r8 = 0; r9 = 0 }) 0

-- each entry takes the next value
abbrev pub generated_request : ℕ → ℕ → ℕ → Request
generated_request core seed number = request_by core (value_after seed (number / 3 + 1)) number

-- so many requests of a core
abbrev pub generated_script : ℕ → ℕ → ℕ → List Request
generated_script core requests number = map (generated_request core (number + core)) (range_with_len 0 requests)

-- a script for each core
abbrev pub generated_scripts : ℕ → ℕ → ℕ → List (List Request)
generated_scripts cores requests number = map (λ core. generated_script core requests number) (range_with_len 0 cores)
