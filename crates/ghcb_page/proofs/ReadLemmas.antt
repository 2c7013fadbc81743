-- What is read of bytes into which others were written.
use Rattle.std.proofs.Common.{◌≡◌, ℕ, ◌+◌, ◌-◌, ◌<◌, ◌≤◌, List, ◌++◌, length, take, drop, refl, sym, ap, subst, ◌∙◌, arith, length-append, length-drop, length-take-le}
use Rattle.std.specs.Prelude.{◌^◌}
use Rattle.std.specs.Int.{w16, w32, w64, to_le_bytes, from_le_bytes}
use Rattle.std.proofs.Math.Seq.{drop-append_seam, take-append_seam, drop-append-add}
use Rattle.std.proofs.lemmas.List.{take-append-le, take-append-drop, drop-append-le, drop-drop}
use Rattle.std.proofs.lemmas.Nat.{from_le_bytes-to_le_bytes_8}
use Rattle.ghcb_page.specs.Bytes.{with_bytes, with_u16, with_u32, with_u64, u64_at}
use Rattle.ghcb_page.specs.Fields.{ap_bitmap, begun_ap}

-- eight bytes from an offset on
abbrev pub eight_at : ℕ → List ℕ → List ℕ
eight_at at bytes = take 8 (drop at bytes)

taken_long : (at : ℕ) (bytes : List ℕ) → at ≤ length bytes → length (take at bytes) ≡ at
taken_long at bytes h = length-take-le at bytes h

-- what was written is read
pub read_back : (at : ℕ) (new bytes : List ℕ) → at ≤ length bytes → length new ≡ 8 → eight_at at (with_bytes at new bytes) ≡ new
unfolding with_bytes
read_back at new bytes low long =
    let rest : List ℕ = drop (at + length new) bytes in
    let at_seam : drop at (take at bytes ++ (new ++ rest)) ≡ new ++ rest =
    subst (λ n. drop n (take at bytes ++ (new ++ rest)) ≡ new ++ rest) (taken_long at bytes low) (drop-append_seam (take at bytes) (new ++ rest)) in
    ap (take 8) at_seam ∙ subst (λ n. take n (new ++ rest) ≡ new) long (take-append_seam new rest)

early : (at before : ℕ) (front rest : List ℕ) → length front ≡ at → before + 8 ≤ at → eight_at before (front ++ rest) ≡ eight_at before front
early at before front rest long low =
    ap (take 8) (drop-append-le before front rest (omega arith))
    ∙ take-append-le 8 (drop before front) rest (omega (arith, length-drop before front))

-- what stands before it stays
pub read_before : (at before : ℕ) (new bytes : List ℕ) → at ≤ length bytes → before + 8 ≤ at
    → eight_at before (with_bytes at new bytes) ≡ eight_at before bytes
unfolding with_bytes
read_before at before new bytes low less =
    let long : length (take at bytes) ≡ at = taken_long at bytes low in
    early at before (take at bytes) (new ++ drop (at + length new) bytes) long less
    ∙ (sym (early at before (take at bytes) (drop at bytes) long less) ∙ ap (λ b. take 8 (drop before b)) (take-append-drop at bytes))

-- and so does what stands behind it
pub read_behind : (at more : ℕ) (new bytes : List ℕ) → at ≤ length bytes
    → eight_at (at + (length new + more)) (with_bytes at new bytes) ≡ eight_at (at + (length new + more)) bytes
unfolding with_bytes
read_behind at more new bytes low =
    let rest : List ℕ = drop (at + length new) bytes in
    let past : drop (at + (length new + more)) (take at bytes ++ (new ++ rest)) ≡ drop (length new + more) (new ++ rest) =
    subst (λ n. drop (n + (length new + more)) (take at bytes ++ (new ++ rest)) ≡ drop (length new + more) (new ++ rest)) (taken_long at bytes low)
    (drop-append-add (take at bytes) (new ++ rest) (length new + more)) in
    let same : at + length new + more ≡ at + (length new + more) = omega arith in
    ap (take 8) (past ∙ (drop-append-add new rest more ∙ (drop-drop more (at + length new) bytes ∙ ap (λ (n : ℕ). drop n bytes) same)))

pub long_as_before : (at : ℕ) (new bytes : List ℕ) → at + length new ≤ length bytes → length (with_bytes at new bytes) ≡ length bytes
unfolding with_bytes
long_as_before at new bytes low =
    let one : length (take at bytes ++ (new ++ drop (at + length new) bytes)) ≡ length (take at bytes) + length (new ++ drop (at + length new) bytes) =
    length-append (take at bytes) (new ++ drop (at + length new) bytes) in
    let two : length (new ++ drop (at + length new) bytes) ≡ length new + length (drop (at + length new) bytes) = length-append new (drop (at + length new) bytes) in
    let three : length (take at bytes) ≡ at = taken_long at bytes (omega arith) in
    let four : length (drop (at + length new) bytes) ≡ length bytes - (at + length new) = length-drop (at + length new) bytes in
    omega arith

-- A PAGE

-- a page stays one
pub still_page : (at : ℕ) (new bytes : List ℕ) → at + length new ≤ 4096 → length bytes ≡ 4096 → length (with_bytes at new bytes) ≡ 4096
still_page at new bytes low long = long_as_before at new bytes (omega (arith, long)) ∙ long

pub read_number : (at number : ℕ) (bytes : List ℕ) → at ≤ length bytes → number < 2 ^ 64 → u64_at at (with_u64 at number bytes) ≡ number
unfolding u64_at
read_number at number bytes low fits = ap (from_le_bytes w64) (read_back at (to_le_bytes w64 number) bytes low refl) ∙ from_le_bytes-to_le_bytes_8 number fits

-- AN EXIT THAT CREATES A VCPU

module _ (rax info1 info2 : ℕ) (bytes : List ℕ) (long : length bytes ≡ 4096) where
  abbrev coded : List ℕ
  coded = with_u64 0x390 0x80000013 bytes

  abbrev told : List ℕ
  told = with_u64 0x3A0 info2 (with_u64 0x398 info1 coded)

  abbrev scratched : List ℕ
  scratched = with_u64 0x3A8 0 told

  abbrev valid : List ℕ
  valid = with_bytes 0x3F0 ap_bitmap scratched

  abbrev versioned : List ℕ
  versioned = with_u16 0xFFA 2 valid

  coded_long : length coded ≡ 4096
  coded_long = still_page 0x390 (to_le_bytes w64 0x80000013) bytes (omega arith) long

  first_long : length (with_u64 0x398 info1 coded) ≡ 4096
  first_long = still_page 0x398 (to_le_bytes w64 info1) coded (omega arith) coded_long

  told_long : length told ≡ 4096
  told_long = still_page 0x3A0 (to_le_bytes w64 info2) (with_u64 0x398 info1 coded) (omega arith) first_long

  scratched_long : length scratched ≡ 4096
  scratched_long = still_page 0x3A8 (to_le_bytes w64 0) told (omega arith) told_long

  valid_long : length valid ≡ 4096
  unfolding ap_bitmap
  valid_long = still_page 0x3F0 ap_bitmap scratched (omega arith) scratched_long

  versioned_long : length versioned ≡ 4096
  versioned_long = still_page 0xFFA (to_le_bytes w16 2) valid (omega arith) valid_long

  used_long : length (with_u32 0xFFC 0 versioned) ≡ 4096
  used_long = still_page 0xFFC (to_le_bytes w32 0) versioned (omega arith) versioned_long

  -- it has its size
  pub begun_ap_long : length (begun_ap rax info1 info2 bytes) ≡ 4096
  begun_ap_long = still_page 0x1F8 (to_le_bytes w64 rax) (with_u32 0xFFC 0 versioned) (omega arith) used_long

  -- and its code
  pub begun_ap_code : u64_at 0x390 (begun_ap rax info1 info2 bytes) ≡ 0x80000013
  unfolding u64_at
  begun_ap_code =
      ap (from_le_bytes w64)
      (read_behind 0x1F8 0x190 (to_le_bytes w64 rax) (with_u32 0xFFC 0 versioned) (omega (arith, used_long))
      ∙ (read_before 0xFFC 0x390 (to_le_bytes w32 0) versioned (omega (arith, versioned_long)) (omega arith)
      ∙ (read_before 0xFFA 0x390 (to_le_bytes w16 2) valid (omega (arith, valid_long)) (omega arith)
      ∙ (read_before 0x3F0 0x390 ap_bitmap scratched (omega (arith, scratched_long)) (omega arith)
      ∙ (read_before 0x3A8 0x390 (to_le_bytes w64 0) told (omega (arith, told_long)) (omega arith)
      ∙ (read_before 0x3A0 0x390 (to_le_bytes w64 info2) (with_u64 0x398 info1 coded) (omega (arith, first_long)) (omega arith)
      ∙ (read_before 0x398 0x390 (to_le_bytes w64 info1) coded (omega (arith, coded_long)) (omega arith)
      ∙ read_back 0x390 (to_le_bytes w64 0x80000013) bytes (omega (arith, long)) refl)))))))
      ∙ from_le_bytes-to_le_bytes_8 0x80000013 (omega arith)
