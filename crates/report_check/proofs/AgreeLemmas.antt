-- A report that agrees with a text piece by piece.
use Rattle.std.proofs.Common.{◌≡◌, ◌<◌, ◌≤◌, ◌+◌, ◌-◌, ℕ, zero, suc, List, [], ◌∷◌, ◌++◌, length, take, drop, get_or, refl, sym, ◌∙◌, ap, ap₂, subst, subst₂, arith, ⊎_elim, inl, inr, append_assoc, append-nil, length-append, length-drop, length-take-le, take-add, take_all, take-append-drop, get_or-take, drop-cons}
use Rattle.std.specs.Prelude.{Result, Ok, Err, flat_map}
use Rattle.std.proofs.lemmas.Grind.{flat_map-append}
use Rattle.std.proofs.lemmas.List.{get_or_append_left}
use Rattle.history_play.specs.Differs.{DiffersAt}
use Rattle.report_check.specs.Agrees.{AgreesTo, Agrees}

-- ONE PIECE

below_end : (tail piece : List ℕ) (place : ℕ) → DiffersAt tail piece place → (place ≡ length piece → ⊥) → place < length piece
below_end tail piece place is before =
    ⊎_elim (λ both. both.1) (λ other. ⊎_elim (λ ends. ends.1) (λ ends. absurd (before ends.0)) other) is.here

-- texts that differ within the piece differ so whatever follows it
differs_on : (tail piece rest : List ℕ) (place : ℕ) → DiffersAt tail piece place → (place ≡ length piece → ⊥) → DiffersAt tail (piece ++ rest) place
differs_on tail piece rest place is before =
    let below : place < length piece = below_end tail piece place is before in
    let longer : place < length (piece ++ rest) = omega (arith, below, length-append piece rest) in
    record {
      same = λ k under. is.same k under ∙ sym (get_or_append_left piece rest 0 k (omega (arith, under, below)));
      here = ⊎_elim
          (λ both. inl (both.0, longer, λ e. both.2 (e ∙ get_or_append_left piece rest 0 place below)))
          (λ other. ⊎_elim (λ ends. inr (inl (ends.0, longer))) (λ ends. absurd (before ends.0)) other) is.here;
    }

same_cons : (x : ℕ) (one other : List ℕ) (place : ℕ) → DiffersAt one other place → (k : ℕ) → k < suc place → get_or (x ∷ one) k 0 ≡ get_or (x ∷ other) k 0
same_cons x one other place is zero under = refl
same_cons x one other place is (suc k) under = is.same k (omega (arith, under))

differs_cons : (x : ℕ) (one other : List ℕ) (place : ℕ) → DiffersAt one other place → DiffersAt (x ∷ one) (x ∷ other) (suc place)
differs_cons x one other place is = record {
  same = same_cons x one other place is;
  here = ⊎_elim
      (λ both. inl (omega (arith, both.0), omega (arith, both.1), both.2))
      (λ other. ⊎_elim (λ ends. inr (inl (ap suc ends.0, omega (arith, ends.1)))) (λ ends. inr (inr (ap suc ends.0, omega (arith, ends.1)))) other) is.here;
}

arith_zero : (place : ℕ) → place ≡ 0 + place
arith_zero place = omega arith

arith_next : (n place : ℕ) → suc (n + place) ≡ suc n + place
arith_next n place = omega arith

-- and so behind what both have in front
differs_behind : (front one other : List ℕ) (place : ℕ) → DiffersAt one other place → DiffersAt (front ++ one) (front ++ other) (length front + place)
differs_behind [] one other place is = subst (DiffersAt one other) (arith_zero place) is
differs_behind (x ∷ front) one other place is =
    subst (DiffersAt (x ∷ (front ++ one)) (x ∷ (front ++ other))) (arith_next (length front) place)
    (differs_cons x (front ++ one) (front ++ other) (length front + place) (differs_behind front one other place is))

-- bytes that are those of a piece, to its end
begins : (tail piece : List ℕ) → ((k : ℕ) → k < length piece → get_or tail k 0 ≡ get_or piece k 0) → length piece ≤ length tail
    → take (length piece) tail ≡ piece
begins tail [] same short = refl
begins [] (y ∷ piece) same short = absurd (omega (arith, short))
begins (x ∷ tail) (y ∷ piece) same short =
    ap₂ (λ (a : ℕ) (l : List ℕ). a ∷ l) (same 0 (omega arith))
    (begins tail piece (λ k under. same (suc k) (omega (arith, under))) (omega (arith, short)))

pub agree_whole : (report piece : List ℕ) (at : ℕ) → at ≤ length report → drop at report ≡ piece → Agrees report at piece (Ok (length report))
agree_whole report piece at within is = record {
  within = omega arith;
  same = take_all (length report) report (omega arith) ∙ sym (take-append-drop at report) ∙ ap (λ (l : List ℕ). take at report ++ l) is;
}

pub agree_ends : (report piece : List ℕ) (at place : ℕ) → at ≤ length report → DiffersAt (drop at report) piece place → place ≡ length piece
    → Agrees report at piece (Ok (at + place))
agree_ends report piece at place within is ends =
    let longer : place < length (drop at report) =
    ⊎_elim (λ both. both.0) (λ other. ⊎_elim (λ short. absurd (omega (arith, short.1, ends))) (λ long. long.1) other) is.here in
    record {
      within = omega (arith, longer, length-drop at report);
      same = take-add at place report ∙ ap (λ (l : List ℕ). take at report ++ l)
          (ap (λ (n : ℕ). take n (drop at report)) ends
          ∙ begins (drop at report) piece (λ k under. is.same k (omega (arith, under, ends))) (omega (arith, longer, ends)));
    }

front_of : (piece rest : List ℕ) → take (length piece) (piece ++ rest) ≡ piece
front_of [] rest = refl
front_of (x ∷ piece) rest = ap (λ (l : List ℕ). x ∷ l) (front_of piece rest)

-- a report that goes on with the whole piece
pub agree_begins : (report piece rest : List ℕ) (at : ℕ) → at ≤ length report → drop at report ≡ piece ++ rest
    → Agrees report at piece (Ok (at + length piece))
agree_begins report piece rest at within is = record {
  within = omega (arith, within, length-drop at report, ap length is, length-append piece rest);
  same = take-add at (length piece) report
      ∙ ap (λ (l : List ℕ). take at report ++ l) (ap (take (length piece)) is ∙ front_of piece rest);
}

pub agree_differs : (report piece : List ℕ) (at place : ℕ) → at ≤ length report → DiffersAt (drop at report) piece place → (place ≡ length piece → ⊥)
    → Agrees report at piece (Err (at + place))
agree_differs report piece at place within is before = λ rest.
    subst₂ (λ (l : List ℕ) (n : ℕ). DiffersAt l (take at report ++ (piece ++ rest)) n) (take-append-drop at report)
    (ap (λ (n : ℕ). n + place) (length-take-le at report within))
    (differs_behind (take at report) (drop at report) (piece ++ rest) place (differs_on (drop at report) piece rest place is before))

-- ONE PIECE AFTER ANOTHER

pub agree_more : (report one two : List ℕ) (at next : ℕ) (told : Result ℕ ℕ) → AgreesTo report at one next → Agrees report next two told → Agrees report at (one ++ two) told
agree_more report one two at next (Ok end) first then = record {
  within = then.within;
  same = then.same ∙ ap (λ (l : List ℕ). l ++ two) first.same ∙ append_assoc (take at report) one two;
}
agree_more report one two at next (Err place) first then = λ rest.
    subst (λ (l : List ℕ). DiffersAt report l place)
    (ap (λ (l : List ℕ). l ++ (two ++ rest)) first.same ∙ append_assoc (take at report) one (two ++ rest)
    ∙ ap (λ (l : List ℕ). take at report ++ l) (sym (append_assoc one two rest)))
    (then rest)

pub agree_breaks : (report one two : List ℕ) (at place : ℕ) → Agrees report at one (Err place) → Agrees report at (one ++ two) (Err place)
agree_breaks report one two at place is = λ rest.
    subst (λ (l : List ℕ). DiffersAt report (take at report ++ l) place) (sym (append_assoc one two rest)) (is (two ++ rest))

-- THE WHOLE

-- a report that agrees with the whole text up to a place is the text, or goes on there
pub whole_ends : (report text : List ℕ) (end : ℕ) → AgreesTo report 0 text end → end ≡ length report → report ≡ text
whole_ends report text end is ends = sym (take_all end report (omega (arith, ends))) ∙ is.same

pub whole_goes_on : (report text : List ℕ) (end : ℕ) → AgreesTo report 0 text end → (end ≡ length report → ⊥) → DiffersAt report text end
whole_goes_on report text end is more =
    let long : end ≡ length text = sym (length-take-le end report is.within) ∙ ap length is.same in
    record {
      same = λ k under. sym (get_or-take end report k 0 under) ∙ ap (λ (l : List ℕ). get_or l k 0) is.same;
      here = inr (inr (long, omega (arith, is.within, more)));
    }

pub whole_differs : (report text : List ℕ) (place : ℕ) → Agrees report 0 text (Err place) → DiffersAt report text place
whole_differs report text place is = subst (λ (l : List ℕ). DiffersAt report l place) (append-nil text) (is [])

-- THE LINES OF ENTRIES

-- a report that differs in the next line differs so whatever lines follow it
pub lines_break : {X : Type 0} (f : X → List ℕ) (xs : List X) (d : X) (i : ℕ) (report : List ℕ) (at end place : ℕ) → i < length xs
    → AgreesTo report at (flat_map f (take i xs)) end → Agrees report end (f (get_or xs i d)) (Err place) → Agrees report at (flat_map f xs) (Err place)
lines_break f xs d i report at end place below first then =
    let split : flat_map f (take i xs) ++ (f (get_or xs i d) ++ flat_map f (drop (suc i) xs)) ≡ flat_map f xs =
    sym (flat_map-append f (take i xs) (get_or xs i d ∷ drop (suc i) xs))
    ∙ ap (λ l. flat_map f (take i xs ++ l)) (sym (drop-cons xs i d below))
    ∙ ap (flat_map f) (take-append-drop i xs) in
    subst (λ l. Agrees report at l (Err place)) split
    (agree_more report (flat_map f (take i xs)) (f (get_or xs i d) ++ flat_map f (drop (suc i) xs)) at end (Err place) first
    (agree_breaks report (f (get_or xs i d)) (flat_map f (drop (suc i) xs)) end place then))

pub of_piece : (report piece line : List ℕ) (end place : ℕ) → piece ≡ line → Agrees report end piece (Err place) → Agrees report end line (Err place)
of_piece report piece line end place is differs = subst (λ (l : List ℕ). Agrees report end l (Err place)) is differs
