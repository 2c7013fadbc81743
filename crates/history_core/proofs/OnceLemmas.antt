-- The logs of one history have each ticket at most once, and as many entries as the history.
use Rattle.std.proofs.Common.{◌≡◌, ◌≢◌, ℕ, ◌+◌, ◌<◌, ◌≤◌, Bool, true, false, cond, List, [], ◌∷◌, ◌++◌, length, ◌⊎◌, sym, refl, ap, ◌∙◌, arith, eq-eqb, ne_eqb, ⊎_elim, inl, inr}
use Rattle.std.specs.Prelude.{◌==◌, filter, not}
use mathlib.Core.Logic.{dite}
use native.Mathlib.Decide.{ℕ_discrete}
use Rattle.std.specs.declared.vec.Vec.{Vec}
use Rattle.std.proofs.lemmas.List.Sums.{sum_by-append}
use Rattle.std.proofs.lemmas.List.{length-append}
use Rattle.std.proofs.lemmas.List.Filters.{sum_by-filter_both, length-filter_both}
use Rattle.std.proofs.lemmas.Bool.{eqb-true}
use Rattle.svsm_steps.specs.declared.entry.Entry.{Entry}
use Rattle.svsm_steps.specs.Histories.{HaveTicketsFrom}
use Rattle.svsm_steps.specs.Places.{of_place}
use Rattle.history_core.specs.Merged.{times, entries_in, IsBelow, IsRising, AreLogsOf}
use Rattle.history_core.proofs.RisingLemmas.{one_of, times_cons}
use Rattle.history_core.proofs.MergeLemmas.{Has, AreLogsFrom, inside_history, rising_history, logs_from}

-- what is filtered by a wider test first
module _ {X : Type 0} (p : X → Bool) where
  both_of : (q : X → Bool) (x : X) (a b : Bool) (us ws : List X) → p x ≡ a → q x ≡ b → (a ≡ true → b ≡ true) → filter p us ≡ ws
      → filter p (cond (q x) (x ∷ us) us) ≡ cond (p x) (x ∷ ws) ws
  both_of q x true true us ws pe qe h ih = ap (λ (t : Bool). filter p (cond t (x ∷ us) us)) qe ∙ ap (λ (l : List X). cond (p x) (x ∷ l) l) ih
  both_of q x true false us ws pe qe h ih = absurd (grind (arith, h refl))
  both_of q x false true us ws pe qe h ih = ap (λ (t : Bool). filter p (cond t (x ∷ us) us)) qe ∙ ap (λ (l : List X). cond (p x) (x ∷ l) l) ih
  both_of q x false false us ws pe qe h ih = ap (λ (t : Bool). filter p (cond t (x ∷ us) us)) qe ∙ (ih ∙ sym (ap (λ (t : Bool). cond t (x ∷ ws) ws) pe))

  -- what is filtered by a wider test first
  pub both : (q : X → Bool) → ((x : X) → p x ≡ true → q x ≡ true) → (xs : List X) → filter p (filter q xs) ≡ filter p xs
  both q h [] = refl
  both q h (x ∷ xs) = both_of q x (p x) (q x) (filter q xs) (filter p xs) refl refl (h x) (both q h xs)

-- each ticket stands once in the logs of a history
else_of : ℕ → List Entry → List Entry
else_of k h = filter (λ (e : Entry). not (e.place == k)) h

same_else : (m k : ℕ) (h : List Entry) → m ≢ k → of_place m (else_of k h) ≡ of_place m h
unfolding else_of
same_else m k h ne = both (λ (e : Entry). e.place == m) (λ (e : Entry). not (e.place == k)) (λ x is. ap not (ne_eqb x.place k (λ s. ne (sym (eqb-true x.place m is) ∙ s)))) h

logs_else : {A : Type 0} (k m : ℕ) (h : List Entry) (ls : List (Vec Entry A)) → k < m → AreLogsFrom h m ls → AreLogsFrom (else_of k h) m ls
logs_else k m h [] low logs = tt
logs_else k m h (l ∷ ls) low logs = (logs.0 ∙ sym (same_else m k h (λ s. omega arith)), logs_else k (m + 1) h ls (omega arith) logs.1)

at_most : {A : Type 0} (t k : ℕ) (h : List Entry) (ls : List (Vec Entry A)) → AreLogsFrom h k ls → times t (entries_in ls) ≤ times t h
unfolding else_of
at_most t k h [] logs = let z : times t [] ≡ 0 = refl in omega arith
at_most t k h (l ∷ ls) logs =
    let joined : times t (l.items ++ entries_in ls) ≡ times t l.items + times t (entries_in ls) = sum_by-append (one_of t) l.items (entries_in ls) in
    let mine : times t l.items ≡ times t (of_place k h) = ap (times t) logs.0 in
    let rest = at_most t (k + 1) (else_of k h) ls (logs_else k (k + 1) h ls (omega arith) logs.1) in
    let all : times t (of_place k h) + times t (else_of k h) ≡ times t h = sum_by-filter_both (λ (e : Entry). e.place == k) (λ (e : Entry). not (e.place == k)) (λ x. refl) (one_of t) h in
    omega arith

below_none : (t : ℕ) (h : List Entry) → IsBelow t h → times t h ≡ 0
below_none t [] low = refl
below_none t (x ∷ xs) low = let c = times_cons t x xs in let r = below_none t xs low.1 in
    let o : one_of t x ≡ 0 = ap (λ (b : Bool). cond b 1 0) (ne_eqb x.ticket t (λ s. let l = low.0 in omega arith)) in omega arith

rising_once : (t : ℕ) (h : List Entry) → IsRising h → times t h ≤ 1
rising_once t [] up = let z : times t [] ≡ 0 = refl in omega arith
rising_once t (x ∷ xs) up = let c = times_cons t x xs in dite (ℕ_discrete x.ticket t)
    (λ same. let o : one_of t x ≡ 1 = ap (λ (b : Bool). cond b 1 0) (eq-eqb x.ticket t same) in let n : times t xs ≡ 0 = ap (λ u. times u xs) (sym same) ∙ below_none x.ticket xs up.0 in omega arith)
    (λ ne. let o : one_of t x ≡ 0 = ap (λ (b : Bool). cond b 1 0) (ne_eqb x.ticket t ne) in let r = rising_once t xs up.1 in omega arith)

logs_once : {A : Type 0} (h : List Entry) (ls : List (Vec Entry A)) → HaveTicketsFrom 0 h → AreLogsFrom h 0 ls → (t : ℕ) → times t (entries_in ls) ≤ 1
logs_once h ls all logs t = let a = at_most t 0 h ls logs in let b = rising_once t h (rising_history 0 h all) in omega arith

pub whole_once : {A : Type 0} (r : ℕ) (h : List Entry) (ls : List (Vec Entry A)) → AreLogsOf r h ls → (t : ℕ) → times t (entries_in ls) ≤ 1
whole_once r h ls logs = logs_once h ls logs.in_order (logs_from r h ls logs)

-- AS MANY ENTRIES

passed_of : (b : Bool) (p : Entry → Bool) (x e : Entry) (xs ys : List Entry) → p x ≡ b → (Has ys e → Has xs e × (p e ≡ true)) → Has (cond b (x ∷ ys) ys) e
    → ((e ≡ x) ⊎ Has xs e) × (p e ≡ true)
passed_of true p x e xs ys is rest has =
    ⊎_elim (λ (s : e ≡ x). (inl s, ap p s ∙ is)) (λ (t : Has ys e). let r = rest t in (inr r.0, r.1)) has
passed_of false p x e xs ys is rest has = let r = rest has in (inr r.0, r.1)

-- what a filter keeps stands in the list, and passes
passed : (p : Entry → Bool) (xs : List Entry) (e : Entry) → Has (filter p xs) e → Has xs e × (p e ≡ true)
passed p [] e has = absurd has
passed p (x ∷ xs) e has = passed_of (p x) p x e xs (filter p xs) refl (passed p xs e) has

not_at : (k place : ℕ) → not (place == k) ≡ true → place ≢ k
not_at k place is same = let t : not (place == k) ≡ false = ap not (eq-eqb place k same) in cc

none_in : (h : List Entry) → ((e : Entry) → Has h e → ⊥) → length {A = Entry} [] ≡ length h
none_in [] none = refl
none_in (x ∷ h) none = absurd (none x (inl refl))

all_logs : {A : Type 0} (k : ℕ) (h : List Entry) (ls : List (Vec Entry A)) → AreLogsFrom h k ls → ((e : Entry) → Has h e → (k ≤ e.place) × (e.place < k + length ls))
    → length (entries_in ls) ≡ length h
unfolding else_of
all_logs k h [] logs inside = none_in h (λ e has. let i = inside e has in omega arith)
all_logs k h (l ∷ ls) logs inside =
    let joined : length (l.items ++ entries_in ls) ≡ length l.items + length (entries_in ls) = length-append l.items (entries_in ls) in
    let mine : length l.items ≡ length (of_place k h) = ap length logs.0 in
    let rest : length (entries_in ls) ≡ length (else_of k h) =
    all_logs (k + 1) (else_of k h) ls (logs_else k (k + 1) h ls (omega arith) logs.1)
    (λ e has.
    let here = passed (λ (x : Entry). not (x.place == k)) h e has in
    let i = inside e here.0 in
    let other : e.place ≢ k = not_at k e.place here.1 in
    (omega arith, omega arith)) in
    let all : length (of_place k h) + length (else_of k h) ≡ length h = length-filter_both (λ (e : Entry). e.place == k) (λ (e : Entry). not (e.place == k)) (λ x. refl) h in
    omega arith

pub whole_long : {A : Type 0} (r : ℕ) (h : List Entry) (ls : List (Vec Entry A)) → AreLogsOf r h ls → length (entries_in ls) ≡ length h
whole_long r h ls logs =
    all_logs 0 h ls (logs_from r h ls logs)
    (λ e has. let i = inside_history r h e logs.below has in let count = logs.as_many in (omega arith, omega arith))
