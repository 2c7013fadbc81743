-- The lines of one exit say what all lines say of it.
use Rattle.std.proofs.Common.{◌≡◌, ℕ, ◌+◌, ◌*◌, Bool, true, false, cond, Option, Some, None, List, [], ◌∷◌, ◌++◌, filter, refl, ◌∙◌, ap}
use Rattle.std.specs.Prelude.{if◌then◌else◌, ◌==◌, ◌&&◌, nat_lt}
use Rattle.svsm_types.specs.declared.image.HostLine.{HostLine}
use Rattle.svsm_types.specs.declared.image.HostLine.TheVariants as Line
use Rattle.ghcb_page.specs.Bytes.{with_u64}
use Rattle.boot_core.specs.Sim.{first_some, first_exit, changed_by, with_changes, index_and_error, with_answer, returned}
use Rattle.boot_core.specs.Index.{speaks_of}

exit_by : (b : Bool) (number other cur error : ℕ) (lines : List HostLine) → (other == number) ≡ b → first_exit number (filter (speaks_of number) lines) ≡ first_exit number lines
    → first_exit number (cond b (Line.Exit other cur error ∷ filter (speaks_of number) lines) (filter (speaks_of number) lines)) ≡ first_some (cond b (Some (cur, error)) None) (first_exit number lines)
exit_by true number other cur error lines e rest = ap (λ t. first_some (cond t (Some (cur, error)) None) (first_exit number (filter (speaks_of number) lines))) e
exit_by false number other cur error lines e rest = rest

other_exit : (b : Bool) (number other index word : ℕ) (lines : List HostLine) → first_exit number (filter (speaks_of number) lines) ≡ first_exit number lines
    → first_exit number (cond b (Line.Change other index word ∷ filter (speaks_of number) lines) (filter (speaks_of number) lines)) ≡ first_exit number lines
other_exit true number other index word lines rest = rest
other_exit false number other index word lines rest = rest

exit_of_kept : (number : ℕ) (lines : List HostLine) → first_exit number (filter (speaks_of number) lines) ≡ first_exit number lines
exit_of_kept number [] = refl
exit_of_kept number (Line.Info word ∷ lines) = exit_of_kept number lines
exit_of_kept number (Line.Features word ∷ lines) = exit_of_kept number lines
exit_of_kept number (Line.Share word ∷ lines) = exit_of_kept number lines
exit_of_kept number (Line.Ghcb word ∷ lines) = exit_of_kept number lines
exit_of_kept number (Line.Pace word ∷ lines) = exit_of_kept number lines
exit_of_kept number (Line.Exit other cur error ∷ lines) = exit_by (other == number) number other cur error lines refl (exit_of_kept number lines)
exit_of_kept number (Line.Change other index word ∷ lines) = other_exit (other == number) number other index word lines (exit_of_kept number lines)
exit_of_kept number (Line.Run core one got ∷ lines) = exit_of_kept number lines
exit_of_kept number (Line.Ap one error ∷ lines) = exit_of_kept number lines

change_by : (b : Bool) (number other index word : ℕ) (lines : List HostLine) (page : List ℕ) → (other == number) ≡ b → with_changes number (filter (speaks_of number) lines) page ≡ with_changes number lines page
    → with_changes number (cond b (Line.Change other index word ∷ filter (speaks_of number) lines) (filter (speaks_of number) lines)) page
    ≡ cond (b && nat_lt index 253) (with_u64 (0x808 + 8 * index) word (with_changes number lines page)) (with_changes number lines page)
change_by true number other index word lines page e rest =
    ap (λ p. changed_by number (Line.Change other index word) p) rest
    ∙ ap (λ b. cond (b && nat_lt index 253) (with_u64 (0x808 + 8 * index) word (with_changes number lines page)) (with_changes number lines page)) e
change_by false number other index word lines page e rest = rest

other_change : (b : Bool) (number other cur error : ℕ) (lines : List HostLine) (page : List ℕ) → with_changes number (filter (speaks_of number) lines) page ≡ with_changes number lines page
    → with_changes number (cond b (Line.Exit other cur error ∷ filter (speaks_of number) lines) (filter (speaks_of number) lines)) page ≡ with_changes number lines page
other_change true number other cur error lines page rest = rest
other_change false number other cur error lines page rest = rest

changes_of_kept : (number : ℕ) (lines : List HostLine) (page : List ℕ) → with_changes number (filter (speaks_of number) lines) page ≡ with_changes number lines page
changes_of_kept number [] page = refl
changes_of_kept number (Line.Info word ∷ lines) page = changes_of_kept number lines page
changes_of_kept number (Line.Features word ∷ lines) page = changes_of_kept number lines page
changes_of_kept number (Line.Share word ∷ lines) page = changes_of_kept number lines page
changes_of_kept number (Line.Ghcb word ∷ lines) page = changes_of_kept number lines page
changes_of_kept number (Line.Pace word ∷ lines) page = changes_of_kept number lines page
changes_of_kept number (Line.Exit other cur error ∷ lines) page = other_change (other == number) number other cur error lines page (changes_of_kept number lines page)
changes_of_kept number (Line.Change other index word ∷ lines) page = change_by (other == number) number other index word lines page refl (changes_of_kept number lines page)
changes_of_kept number (Line.Run core one got ∷ lines) page = changes_of_kept number lines page
changes_of_kept number (Line.Ap one error ∷ lines) page = changes_of_kept number lines page

-- an exit by the lines that are kept for it
pub returned_by_kept : (number : ℕ) (kept lines : List HostLine) (pace : Option ℕ) (page : List ℕ) → kept ≡ filter (speaks_of number) lines → returned kept pace number page ≡ returned lines pace number page
returned_by_kept number kept lines pace page is =
    ap (λ (own : List HostLine). returned own pace number page) is
    ∙ (ap (λ given. with_answer (index_and_error given pace page) (with_changes number (filter (speaks_of number) lines) page)) (exit_of_kept number lines)
    ∙ ap (with_answer (index_and_error (first_exit number lines) pace page)) (changes_of_kept number lines page))

-- ONE MORE LINE

pub kept_more : (number : ℕ) (line : HostLine) (lines : List HostLine) → filter (speaks_of number) (lines ++ line ∷ []) ≡ filter (speaks_of number) lines ++ (if speaks_of number line then line ∷ [] else [])
kept_more number line [] = by (speaks_of number line)
  where
    by : (b : Bool) → cond b (line ∷ []) [] ≡ [] ++ cond b (line ∷ []) []
    by true = refl
    by false = refl
kept_more number line (first ∷ lines) = by (speaks_of number first) (kept_more number line lines)
  where
    by : (b : Bool) → filter (speaks_of number) (lines ++ line ∷ []) ≡ filter (speaks_of number) lines ++ (if speaks_of number line then line ∷ [] else [])
        → cond b (first ∷ filter (speaks_of number) (lines ++ line ∷ [])) (filter (speaks_of number) (lines ++ line ∷ []))
        ≡ cond b (first ∷ filter (speaks_of number) lines) (filter (speaks_of number) lines) ++ (if speaks_of number line then line ∷ [] else [])
    by true e = ap (λ ls. first ∷ ls) e
    by false e = e
