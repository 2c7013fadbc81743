-- The packed word of a page, this project's own layout after the RMP entry of the AMD64 manual, volume 3: bit 0 assigned, bit 1 validated, bit 2 VMSA,
-- bits 7:4, 11:8 and 15:12 the rights of VMPL 1, 2 and 3. Bit 3 and bits 63:16 are outside the layout.
use Rattle.std.specs.Prelude.{◌≡◌, ℕ, ◌+◌, ◌*◌, ◌/◌, ◌%◌, ◌≤◌, Bool, true, false, ◌&&◌, ◌==◌, nat_lt, if◌then◌else◌, Option, None, Some, [], ◌∷◌, slice_index_or, length}
use Rattle.svsm_types.specs.Hardware.{no_right, has_bit}
use Rattle.svsm_types.specs.declared.platform.Perms.{Perms}
use Rattle.svsm_types.specs.declared.platform.PageState.{PageState}

-- a truth as a bit
abbrev pub as_bit : Bool → ℕ
as_bit true = 1
as_bit false = 0

-- the right of VMPL 1, 2 and 3 at index 0, 1 and 2
abbrev pub right_at : ℕ → PageState → ℕ
right_at index page = (slice_index_or page.rights index no_right).0

-- the word of a state
unfoldable pub packed : PageState → ℕ
packed page =
    as_bit page.assigned + 2 * as_bit page.validated + 4 * as_bit page.vmsa
    + 16 * right_at 0 page + 256 * right_at 1 page + 4096 * right_at 2 page

-- the right of four bits of which the lowest has this value
abbrev pub right_in : ℕ → ℕ → Perms
right_in unit word = record { 0 = word / unit % 16 }

-- the state that a word stands for, whatever its other bits
unfoldable pub state_of : ℕ → PageState
state_of word = record {
  assigned = has_bit 1 word;
  validated = has_bit 2 word;
  rights = right_in 16 word ∷ right_in 256 word ∷ right_in 4096 word ∷ [];
  vmsa = has_bit 4 word;
}

-- no bit outside the layout is set
abbrev pub is_in_layout : ℕ → Bool
is_in_layout word = (word / 8 % 2 == 0) && nat_lt word 65536

-- the state of a word; None where another bit is set
abbrev pub unpacked : ℕ → Option PageState
unpacked word = if is_in_layout word then Some (state_of word) else None

-- a page has three rights, each at most 15
abbrev pub HasRights : PageState → Type 0
HasRights page = (length page.rights ≡ 3) × (right_at 0 page ≤ 15) × (right_at 1 page ≤ 15) × (right_at 2 page ≤ 15)
