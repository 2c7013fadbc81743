-- The fields of an exit in the GHCB page, which has 4,096 bytes (AMD 56421, 'GHCB layout').
use Rattle.std.specs.Prelude.{ℕ, ◌/◌, ◌%◌, ◌^◌, ◌==◌, Bool, ◌&&◌, if◌then◌else◌, Result, Ok, Err, List, [], ◌∷◌, map, sum_by}
use Rattle.std.specs.List.{range_with_len}
use Rattle.ghcb_page.specs.Bytes.{with_bytes, with_u16, with_u32, with_u64, u64_at}
use Rattle.ghcb_page.specs.declared.page.HostSaid.{HostSaid}

-- THE VALID BITMAP

-- the part of a field in the bitmap's byte with a number: the field at offset o has bit (o / 8) mod 8 of byte o / 64
abbrev pub valid_bit : ℕ → ℕ → ℕ
valid_bit byte offset = if offset / 64 == byte then 2 ^ (offset / 8 % 8) else 0

-- the 16 bytes of the bitmap where just these fields are valid
abbrev pub bitmap : List ℕ → List ℕ
bitmap offsets = map (λ byte. sum_by (valid_bit byte) offsets) (range_with_len 0 16)

-- the fields of each exit, SW_EXITCODE, SW_EXITINFO1, SW_EXITINFO2 and SW_SCRATCH; and those of an exit that creates a vCPU, RAX too
unfoldable pub exit_bitmap : List ℕ
exit_bitmap = bitmap (0x390 ∷ (0x398 ∷ (0x3A0 ∷ (0x3A8 ∷ []))))

unfoldable pub ap_bitmap : List ℕ
ap_bitmap = bitmap (0x1F8 ∷ (0x390 ∷ (0x398 ∷ (0x3A0 ∷ (0x3A8 ∷ [])))))

-- WHAT AN EXIT WRITES

-- the four fields, the bitmap, the protocol's version 2 and the usage 0; all other bytes stay
abbrev pub with_exit : List ℕ → ℕ → ℕ → ℕ → ℕ → List ℕ → List ℕ
with_exit valid code info1 info2 scratch bytes =
    with_u32 0xFFC 0 (with_u16 0xFFA 2 (with_bytes 0x3F0 valid
    (with_u64 0x3A8 scratch (with_u64 0x3A0 info2 (with_u64 0x398 info1 (with_u64 0x390 code bytes))))))

-- the page as the module leaves it to the host for an exit
abbrev pub begun_exit : ℕ → ℕ → ℕ → ℕ → List ℕ → List ℕ
begun_exit code info1 info2 scratch bytes = with_exit exit_bitmap code info1 info2 scratch bytes

-- an exit that creates a vCPU (AMD 56421, 'SNP AP Creation'): RAX has the SEV_FEATURES of its VMSA, and there is no scratch area
abbrev pub begun_ap : ℕ → ℕ → ℕ → List ℕ → List ℕ
begun_ap rax info1 info2 bytes = with_u64 0x1F8 rax (with_exit ap_bitmap 0x80000013 info1 info2 0 bytes)

-- WHAT AN EXIT GIVES BACK

-- SW_EXITINFO1
abbrev pub info1_of : List ℕ → ℕ
info1_of bytes = u64_at 0x398 bytes

-- SW_EXITINFO2
abbrev pub info2_of : List ℕ → ℕ
info2_of bytes = u64_at 0x3A0 bytes

-- no error: bits 31:0 of the first info value are 0, and so is the second one
abbrev pub says_nothing : ℕ → ℕ → Bool
says_nothing info1 info2 = (info1 % 2 ^ 32 == 0) && (info2 == 0)

-- the host tells of no error and of no event in the page
abbrev pub is_quiet : List ℕ → Bool
is_quiet bytes = says_nothing (info1_of bytes) (info2_of bytes)

-- the first info value, or both where they say an error
abbrev pub ended_exit : List ℕ → Result ℕ HostSaid
ended_exit bytes =
    if is_quiet bytes then Ok (info1_of bytes) else Err (record { info1 = info1_of bytes; info2 = info2_of bytes })
