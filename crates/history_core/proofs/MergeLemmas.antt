-- The logs of one history, merged by ticket, are the history.
use Rattle.std.proofs.Common.{◌≡◌, ℕ, zero, suc, ◌+◌, ◌<◌, ◌≤◌, Bool, true, false, cond, List, [], ◌∷◌, ◌++◌, length, sym, refl, ap, ◌∙◌, subst, ⊎_elim, ◌⊎◌, inl, inr, arith, eq-eqb, All}
use Rattle.std.specs.Prelude.{◌==◌, IsPermutation, filter, slice_get, Some}
use mathlib.Core.Logic.{dite}
use native.Mathlib.Decide.{ℕ_discrete}
use Rattle.std.specs.declared.vec.Vec.{Vec}
use Rattle.std.proofs.lemmas.List.Elements.{All-nil, All-cons, All-append}
use Rattle.std.proofs.lemmas.List.Sorted.{All-permutation, IsPermutation-sym}
use Rattle.svsm_steps.specs.declared.entry.Entry.{Entry}
use Rattle.svsm_steps.specs.Histories.{HaveTicketsFrom}
use Rattle.svsm_steps.specs.Lawful.{AreBelow}
use Rattle.svsm_steps.specs.Places.{of_place}
use Rattle.history_core.specs.Merged.{entries_in, IsBelow, IsRising, AreLogsOf}

-- the entry stands in the list
abbrev pub Has : List Entry → Entry → Type 0
Has [] e = ⊥
Has (x ∷ xs) e = (e ≡ x) ⊎ Has xs e

pub below_has : (t : ℕ) (xs : List Entry) (e : Entry) → IsBelow t xs → Has xs e → t < e.ticket
below_has t [] e low h = absurd h
below_has t (x ∷ xs) e low h = ⊎_elim (λ (s : e ≡ x). subst (λ (z : Entry). t < z.ticket) (sym s) low.0) (λ r. below_has t xs e low.1 r) h

-- rising lists with the same entries are one
pub same_list : (xs ys : List Entry) → IsRising xs → IsRising ys → ((e : Entry) → Has xs e → Has ys e) → ((e : Entry) → Has ys e → Has xs e) → xs ≡ ys
same_list [] [] up up' a b = refl
same_list [] (y ∷ ys) up up' a b = absurd (b y (inl refl))
same_list (x ∷ xs) [] up up' a b = absurd (a x (inl refl))
same_list (x ∷ xs) (y ∷ ys) up up' a b =
    let first : x ≡ y = ⊎_elim (λ (s : x ≡ y). s) (λ r. ⊎_elim (λ (s : y ≡ x). sym s) (λ r'. let l = below_has y.ticket ys x up'.0 r in let l' = below_has x.ticket xs y up.0 r' in absurd (omega arith)) (b y (inl refl))) (a x (inl refl)) in
    let rest : xs ≡ ys = same_list xs ys up.1 up'.1
    (λ e h. ⊎_elim (λ (s : e ≡ y). let l = below_has x.ticket xs e up.0 h in let t : e.ticket ≡ x.ticket = ap (λ (z : Entry). z.ticket) (s ∙ sym first) in absurd (omega arith)) (λ r. r) (a e (inr h)))
    (λ e h. ⊎_elim (λ (s : e ≡ x). let l = below_has y.ticket ys e up'.0 h in let t : e.ticket ≡ y.ticket = ap (λ (z : Entry). z.ticket) (s ∙ first) in absurd (omega arith)) (λ r. r) (b e (inr h))) in
    λ i. first i ∷ rest i

below_history : (n m : ℕ) (h : List Entry) → HaveTicketsFrom n h → m < n → IsBelow m h
below_history n m [] all low = tt
below_history n m (x ∷ xs) all low = let t : x.ticket ≡ n = all.0 in (omega arith, below_history (n + 1) m xs all.1 (omega arith))

pub rising_history : (n : ℕ) (h : List Entry) → HaveTicketsFrom n h → IsRising h
rising_history n [] all = tt
rising_history n (x ∷ xs) all = let t : x.ticket ≡ n = all.0 in (below_history (n + 1) x.ticket xs all.1 (omega arith), rising_history (n + 1) xs all.1)

pub inside_history : (r : ℕ) (h : List Entry) (e : Entry) → AreBelow r h → Has h e → e.place < r + 2
inside_history r [] e all h = absurd h
inside_history r (x ∷ xs) e all h = ⊎_elim (λ (s : e ≡ x). subst (λ (z : Entry). z.place < r + 2) (sym s) all.0) (λ t. inside_history r xs e all.1 t) h

pub all_more : (P Q : Entry → Type 0) (xs : List Entry) → ((e : Entry) → P e → Q e) → All P xs → All Q xs
all_more P Q xs f all k d low = f _ (all k d low)

pub has_all : (xs : List Entry) → All (Has xs) xs
has_all [] = All-nil (Has [])
has_all (x ∷ xs) = All-cons (Has (x ∷ xs)) x xs (inl refl) (all_more (Has xs) (Has (x ∷ xs)) xs (λ e h. inr h) (has_all xs))

pub all_has : (P : Entry → Type 0) (xs : List Entry) (e : Entry) → All P xs → Has xs e → P e
all_has P [] e all h = absurd h
all_has P (x ∷ xs) e all h = ⊎_elim (λ (s : e ≡ x). subst P (sym s) (all zero x (omega arith))) (λ r. all_has P xs e (λ k d low. all (suc k) d (omega arith)) r) h

-- what a filter keeps stands in the list
kept_of : (P : Entry → Type 0) (b : Bool) (x : Entry) (ys : List Entry) → P x → All P ys → All P (cond b (x ∷ ys) ys)
kept_of P true x ys p all = All-cons P x ys p all
kept_of P false x ys p all = all

kept : (p : Entry → Bool) (xs : List Entry) → All (Has xs) (filter p xs)
kept p [] = All-nil (Has [])
kept p (x ∷ xs) = kept_of (Has (x ∷ xs)) (p x) x (filter p xs) (inl refl) (all_more (Has xs) (Has (x ∷ xs)) (filter p xs) (λ e h. inr h) (kept p xs))

passes_of : (b : Bool) (x e : Entry) (ys : List Entry) → (e ≡ x → b ≡ true) → (e ≡ x) ⊎ Has ys e → Has (cond b (x ∷ ys) ys) e
passes_of true x e ys is h = h
passes_of false x e ys is h = ⊎_elim (λ (s : e ≡ x). absurd (let n = is s in cc)) (λ r. r) h

passes : (p : Entry → Bool) (xs : List Entry) (e : Entry) → p e ≡ true → Has xs e → Has (filter p xs) e
passes p [] e is h = h
passes p (x ∷ xs) e is h = passes_of (p x) x e (filter p xs) (λ (s : e ≡ x). ap p (sym s) ∙ is) (⊎_elim (λ (s : e ≡ x). inl s) (λ r. inr (passes p xs e is r)) h)

left_of : (xs ys : List Entry) (e : Entry) → Has xs e → Has (xs ++ ys) e
left_of [] ys e h = absurd h
left_of (x ∷ xs) ys e h = ⊎_elim (λ (s : e ≡ x). inl s) (λ r. inr (left_of xs ys e r)) h

right_of : (xs ys : List Entry) (e : Entry) → Has ys e → Has (xs ++ ys) e
right_of [] ys e h = h
right_of (x ∷ xs) ys e h = inr (right_of xs ys e h)

module _ {A : Type 0} (h : List Entry) where
  -- the logs are those of the places k, k + 1 and so on
  abbrev pub AreLogsFrom : ℕ → List (Vec Entry A) → Type 0
  AreLogsFrom k [] = Unit {0}
  AreLogsFrom k (l ∷ ls) = (l.items ≡ of_place k h) × AreLogsFrom (k + 1) ls

  pub from_index : (k : ℕ) (ls : List (Vec Entry A)) → ((p : ℕ) (l : Vec Entry A) → slice_get ls p ≡ Some l → l.items ≡ of_place (k + p) h) → AreLogsFrom k ls
  from_index k [] each = tt
  from_index k (l ∷ ls) each = (each zero l refl ∙ ap (λ n. of_place n h) (omega arith), from_index (k + 1) ls (λ p x at. each (suc p) x at ∙ ap (λ n. of_place n h) (omega arith)))

  pub none_else : (k : ℕ) (ls : List (Vec Entry A)) → AreLogsFrom k ls → All (Has h) (entries_in ls)
  none_else k [] logs = All-nil (Has h)
  none_else k (l ∷ ls) logs = All-append (Has h) l.items (entries_in ls) (subst (All (Has h)) (sym logs.0) (kept (λ (e : Entry). e.place == k) h)) (none_else (k + 1) ls logs.1)

  pub none_lost : (k : ℕ) (ls : List (Vec Entry A)) → AreLogsFrom k ls → (e : Entry) → k ≤ e.place → e.place < k + length ls → Has h e → Has (entries_in ls) e
  none_lost k [] logs e lo hi is = absurd (omega arith)
  none_lost k (l ∷ ls) logs e lo hi is = dite (ℕ_discrete e.place k)
      (λ same. left_of l.items (entries_in ls) e (subst (λ (z : List Entry). Has z e) (sym logs.0) (passes (λ (x : Entry). x.place == k) h e (eq-eqb e.place k same) is)))
      (λ ne. right_of l.items (entries_in ls) e (none_lost (k + 1) ls logs.1 e (omega arith) (omega arith) is))

-- merged logs of a history are the history
merged_is : {A : Type 0} (r : ℕ) (h v : List Entry) (ls : List (Vec Entry A)) → HaveTicketsFrom 0 h → AreBelow r h → length ls ≡ r + 2 → AreLogsFrom h 0 ls → IsPermutation (entries_in ls) v → IsRising v → v ≡ h
merged_is r h v ls all low long logs moved up = same_list v h up (rising_history 0 h all)
    (λ e is. all_has (Has h) v e (All-permutation (Has h) (entries_in ls) v moved (none_else h 0 ls logs)) is)
    (λ e is. all_has (Has v) (entries_in ls) e (All-permutation (Has v) v (entries_in ls) (IsPermutation-sym (entries_in ls) v moved) (has_all v))
    (let i = inside_history r h e low is in none_lost h 0 ls logs e (omega arith) (omega arith) is))

pub logs_from : {A : Type 0} (r : ℕ) (h : List Entry) (ls : List (Vec Entry A)) → AreLogsOf r h ls → AreLogsFrom h 0 ls
logs_from r h ls logs = from_index h 0 ls (λ p l at. logs.each p l at ∙ ap (λ n. of_place n h) (let e : p ≡ 0 + p = omega arith in e))

pub whole_is : {A : Type 0} (r : ℕ) (h v : List Entry) (ls : List (Vec Entry A)) → AreLogsOf r h ls → IsPermutation (entries_in ls) v → IsRising v → v ≡ h
whole_is r h v ls logs = merged_is r h v ls logs.in_order logs.below logs.as_many (logs_from r h ls logs)
