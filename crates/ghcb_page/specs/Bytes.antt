-- Numbers in bytes, the least byte first.
use Rattle.std.specs.Prelude.{ℕ, ◌+◌, List, ◌++◌, length, take, drop}
use Rattle.std.specs.Int.{w16, w32, w64, to_le_bytes, from_le_bytes}

-- the bytes with others written over them from `at` on
unfoldable pub with_bytes : ℕ → List ℕ → List ℕ → List ℕ
with_bytes at new bytes = take at bytes ++ (new ++ drop (at + length new) bytes)

-- with a number of 16, 32 or 64 bits written from `at` on
abbrev pub with_u16 : ℕ → ℕ → List ℕ → List ℕ
with_u16 at number bytes = with_bytes at (to_le_bytes w16 number) bytes

-- bytes with a doubleword stored at an offset
abbrev pub with_u32 : ℕ → ℕ → List ℕ → List ℕ
with_u32 at number bytes = with_bytes at (to_le_bytes w32 number) bytes

-- bytes with a quadword stored at an offset
abbrev pub with_u64 : ℕ → ℕ → List ℕ → List ℕ
with_u64 at number bytes = with_bytes at (to_le_bytes w64 number) bytes

-- the number of 16 or 64 bits that stands from `at` on
unfoldable pub u16_at : ℕ → List ℕ → ℕ
u16_at at bytes = from_le_bytes w16 (take 2 (drop at bytes))

-- the quadword at a byte offset, least byte first
unfoldable pub u64_at : ℕ → List ℕ → ℕ
u64_at at bytes = from_le_bytes w64 (take 8 (drop at bytes))
