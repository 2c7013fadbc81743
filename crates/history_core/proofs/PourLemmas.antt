-- Turned logs of one history, read from their ends.
use Rattle.std.proofs.Common.{◌≡◌, ◌≢◌, ℕ, zero, suc, ◌+◌, ◌<◌, ◌≤◌, Bool, true, false, cond, List, [], ◌∷◌, ◌++◌, length, get_or, set, take, drop, reverse, sym, refl, ap, ◌∙◌, subst, arith, eq-eqb, ne_eqb, append_assoc, All}
use Rattle.std.specs.Prelude.{map, filter, ◌==◌, slice_get, Some}
use mathlib.Core.Logic.{dite}
use native.Mathlib.Decide.{ℕ_discrete}
use Rattle.std.specs.declared.vec.Vec.{Vec}
use Rattle.std.proofs.lemmas.List.{length-set, length-map, length-append, length-take-le, map-set, get_or-set_same, get_or-set_other, get_or-map, reverse-append, take_at, take_more}
use Rattle.std.proofs.lemmas.List.Edits.{map_over_more}
use Rattle.std.proofs.lemmas.List.Elements.{All-nil, All-cons}
use Rattle.std.proofs.Math.Seq.{drop-cons}
use Rattle.svsm_steps.specs.declared.entry.Entry.{Entry}
use Rattle.svsm_steps.specs.Histories.{HaveTicketsFrom}
use Rattle.svsm_steps.specs.Lawful.{AreBelow}
use Rattle.svsm_steps.specs.Places.{of_place}
use Rattle.history_core.specs.Merged.{AreLogsOf}
use Rattle.history_core.specs.Marked.{places_in}
use Rattle.history_core.specs.Turned.{contents, AreLeft, IsTurned}
use Rattle.history_core.specs.Raised.{raise, raised}
use Rattle.history_core.proofs.BehindLemmas.{ticket_at, filler}

-- the last of a list
last_same : (xs ys : List Entry) (x y : Entry) → xs ++ x ∷ [] ≡ ys ++ y ∷ [] → (xs ≡ ys) × (x ≡ y)
last_same [] [] x y e = (refl, cc)
last_same [] (v ∷ []) x y e = absurd cc
last_same [] (v ∷ w ∷ ys) x y e = absurd cc
last_same (u ∷ []) [] x y e = absurd cc
last_same (u ∷ w ∷ xs) [] x y e = absurd cc
last_same (u ∷ xs) (v ∷ ys) x y e =
    let first : u ≡ v = cc in
    let rest : xs ++ x ∷ [] ≡ ys ++ y ∷ [] = cc in
    let both = last_same xs ys x y rest in
    ((λ i. first i ∷ both.0 i), both.1)

-- a history less its first entry, at the entry's own place and at the others
own_of : (e : Entry) (h : List Entry) → reverse (of_place e.place (e ∷ h)) ≡ reverse (of_place e.place h) ++ e ∷ []
own_of e h =
    ap (λ (b : Bool). reverse (cond b (e ∷ of_place e.place h) (of_place e.place h))) (eq-eqb e.place e.place refl)
    ∙ reverse-append (e ∷ []) (of_place e.place h)

other_of : (p : ℕ) (e : Entry) (h : List Entry) → e.place ≢ p → of_place p (e ∷ h) ≡ of_place p h
other_of p e h ne = ap (λ (b : Bool). cond b (e ∷ of_place p h) (of_place p h)) (ne_eqb e.place p ne)

module _ (h : List Entry) (e : Entry) (logs : List (List Entry)) (left : AreLeft (e ∷ h) logs) (low : e.place < length logs) where
  -- the log of the next entry's place ends with that entry
  pub ends_so : (rest : List Entry) (x : Entry) → get_or logs e.place [] ≡ rest ++ x ∷ [] → (rest ≡ reverse (of_place e.place h)) × (x ≡ e)
  ends_so rest x is = last_same rest (reverse (of_place e.place h)) x e (sym is ∙ (left e.place low ∙ own_of e h))

  pub none_empty : get_or logs e.place [] ≡ [] → ⊥
  none_empty is = no_end (reverse (of_place e.place h)) (sym (own_of e h) ∙ (sym (left e.place low) ∙ is))
    where
      no_end : (xs : List Entry) → xs ++ e ∷ [] ≡ [] → ⊥
      no_end [] s = cc
      no_end (x ∷ xs) s = cc

  pub left_after : (rest : List Entry) (x : Entry) → get_or logs e.place [] ≡ rest ++ x ∷ [] → AreLeft h (set logs e.place rest)
  left_after rest x is p within =
      let long = length-set logs e.place rest in
      dite (ℕ_discrete e.place p)
      (λ same.
      subst (λ (k : ℕ). get_or (set logs e.place rest) k [] ≡ reverse (of_place k h)) same
      (get_or-set_same logs e.place rest [] low ∙ (ends_so rest x is).0))
      (λ ne.
      get_or-set_other logs e.place p rest [] (λ s. ne (sym s))
      ∙ (left p (omega arith) ∙ ap reverse (other_of p e h ne)))

-- ONE STEP

raised_more : (n i : ℕ) (h : List Entry) (e : Entry) → i < length h → raised n (take (i + 1) h) ≡ raised n (take i h) ++ raise n (get_or h i e) ∷ []
raised_more n i h e low = ap (raised n) (take_more h i e low) ∙ raised-append n (take i h) (get_or h i e ∷ [])
  where
    raised-append : (n : ℕ) (xs ys : List Entry) → raised n (xs ++ ys) ≡ raised n xs ++ raised n ys
    raised-append n [] ys = refl
    raised-append n (x ∷ xs) ys = ap (λ (l : List Entry). raise n x ∷ l) (raised-append n xs ys)

module _ {A : Type 0} (h : List Entry) (first now : List (Vec Entry A)) (order : List ℕ) (i : ℕ) (log : Vec Entry A)
    (turned : IsTurned h first order) (low : i < length order) (count : length now ≡ length first) (left : AreLeft (drop i h) (contents now)) where
  next : Entry
  next = get_or h i filler

  short : i < length h
  short = let long : length order ≡ length h = ap length turned.places ∙ length-map h (λ (e : Entry). e.place) in omega arith

  place_is : get_or order i 0 ≡ next.place
  unfolding next
  place_is = ap (λ (l : List ℕ). get_or l i 0) turned.places ∙ get_or-map (λ (e : Entry). e.place) h i filler 0 short

  -- the log is there
  pub there : get_or order i 0 < length now
  there = subst (λ (n : ℕ). get_or order i 0 < n) (sym count) (turned.below i 0 low)

  front : drop i h ≡ next ∷ drop (i + 1) h
  unfolding next
  front = drop-cons h i filler short ∙ ap (λ (k : ℕ). get_or h i filler ∷ drop k h) (let e : suc i ≡ i + 1 = omega arith in e)

  left_now : AreLeft (next ∷ drop (i + 1) h) (contents now)
  left_now = subst (λ (l : List Entry). AreLeft l (contents now)) front left

  place_there : next.place < length (contents now)
  place_there = let long = length-map now (λ (l : Vec Entry A). l.items) in let t = there in let p = place_is in omega arith

  items_now : get_or (contents now) next.place [] ≡ (get_or now (get_or order i 0) log).items
  items_now =
      ap (λ (k : ℕ). get_or (contents now) k []) (sym place_is)
      ∙ get_or-map (λ (l : Vec Entry A). l.items) now (get_or order i 0) log [] there

  pub some_there : (get_or now (get_or order i 0) log).items ≡ [] → ⊥
  some_there is = none_empty (drop (i + 1) h) next (contents now) left_now place_there (items_now ∙ is)

  module _ (rest : Vec Entry A) (x : Entry) (is : (get_or now (get_or order i 0) log).items ≡ rest.items ++ x ∷ []) where
    entry_is : x ≡ next
    entry_is = (ends_so (drop (i + 1) h) next (contents now) left_now place_there rest.items x (items_now ∙ is)).1

    pub left_then : AreLeft (drop (i + 1) h) (contents (set now (get_or order i 0) rest))
    left_then =
        subst (λ (l : List (List Entry)). AreLeft (drop (i + 1) h) l)
        (ap (λ (k : ℕ). set (contents now) k rest.items) (sym place_is) ∙ sym (map-set (λ (l : Vec Entry A). l.items) now (get_or order i 0) rest))
        (left_after (drop (i + 1) h) next (contents now) left_now place_there rest.items x (items_now ∙ is))

    -- the entry goes to the end, with its index as its ticket
    pub one_behind : (before all : List Entry) (ticket : ℕ) → all ≡ before ++ raised (length before) (take i h) → ticket ≡ length all
        → all ++ record x { ticket = ticket } ∷ [] ≡ before ++ raised (length before) (take (i + 1) h)
    unfolding next
    one_behind before all ticket so at =
        let e : Entry = get_or h i filler in
        let n : ℕ = length before in
        let known : e.ticket ≡ 0 + i = ticket_at 0 i h filler turned.in_order short in
        let long : length all ≡ length before + length (raised n (take i h)) = ap length so ∙ length-append before (raised n (take i h)) in
        let same : length (raised n (take i h)) ≡ length (take i h) = length-map (take i h) (raise n) in
        let taken : length (take i h) ≡ i = length-take-le i h (let s = short in omega arith) in
        let number : ticket ≡ n + e.ticket = omega arith in
        let one : (record x { ticket = ticket }) ≡ raise n e = ap (λ (z : Entry). record z { ticket = ticket }) entry_is ∙ ap (λ (t : ℕ). record e { ticket = t }) number in
        ap (λ (z : Entry). all ++ z ∷ []) one
        ∙ ap (λ (l : List Entry). l ++ raise n e ∷ []) so
        ∙ append_assoc before (raised n (take i h)) (raise n e ∷ [])
        ∙ ap (λ (l : List Entry). before ++ l) (sym (raised_more n i h filler short))

-- TURNING

pub turned_more : {A : Type 0} (old now : List (Vec Entry A)) (i : ℕ) (log new : Vec Entry A) → i < length old → length now ≡ length old
    → new.items ≡ reverse (get_or now i log).items
    → contents now ≡ map (λ (entries : List Entry). reverse entries) (take i (contents old)) ++ drop i (contents old)
    → contents (set now i new) ≡ map (λ (entries : List Entry). reverse entries) (take (i + 1) (contents old)) ++ drop (i + 1) (contents old)
turned_more {A} old now i log new low same turned before =
    let items : Vec Entry A → List Entry = λ (l : Vec Entry A). l.items in
    let long : length (contents old) ≡ length old = length-map old items in
    let entries : List Entry = (get_or now i log).items in
    let here : entries ≡ get_or (contents now) i entries = sym (get_or-map items now i log entries (omega arith)) in
    map-set items now i new
    ∙ ap (set (contents now) i) turned
    ∙ map_over_more (λ (l : List Entry). reverse l) (contents old) (contents now) i entries (omega arith) before here

log_at : {A : Type 0} (ls : List (Vec Entry A)) (p : ℕ) → p < length (contents ls) → (l : Vec Entry A) × (slice_get ls p ≡ Some l) × (get_or (contents ls) p [] ≡ l.items)
log_at [] p low = absurd (omega arith)
log_at (l ∷ ls) zero low = (l, refl, refl)
log_at (l ∷ ls) (suc p) low = log_at ls p (omega arith)

reverse_at : (xs : List (List Entry)) (p : ℕ) → p < length xs → get_or (map (λ (entries : List Entry). reverse entries) xs) p [] ≡ reverse (get_or xs p [])
reverse_at xs p low = get_or-map (λ (entries : List Entry). reverse entries) xs p [] [] low

places_below : (r m : ℕ) (h : List Entry) → m ≡ r + 2 → AreBelow r h → All (λ (p : ℕ). p < m) (places_in h)
places_below r m [] is below = All-nil (λ (p : ℕ). p < m)
places_below r m (x ∷ h) is below = All-cons (λ (p : ℕ). p < m) x.place (places_in h) (let b = below.0 in omega arith) (places_below r m h is below.1)

-- the logs of a history, turned
pub turned_is : {A : Type 0} (r : ℕ) (h : List Entry) (logs old new now : List (Vec Entry A)) (order : List ℕ) (len : ℕ) → AreLogsOf r h logs → old ≡ logs
    → contents new ≡ map (λ (entries : List Entry). reverse entries) (contents old) → length new ≡ length old → len ≡ length logs
    → now ≡ take len (new ++ drop (length new) logs) → order ≡ places_in h → IsTurned h now order
turned_is {A} r h logs old new now order len of same turned long count is places =
    let items : Vec Entry A → List Entry = λ (l : Vec Entry A). l.items in
    let olds : length old ≡ length logs = ap length same in
    let now_is : now ≡ new = is ∙ take_at new (drop (length new) logs) len (omega arith) in
    let nows : length now ≡ length logs = ap length now_is ∙ (long ∙ olds) in
    let many = of.as_many in
    let texts : contents now ≡ map (λ (entries : List Entry). reverse entries) (contents logs) =
    ap (λ (l : List (Vec Entry A)). contents l) now_is ∙ (turned ∙ ap (λ (l : List (Vec Entry A)). map (λ (entries : List Entry). reverse entries) (contents l)) same) in
    record {
      in_order = of.in_order;
      places = places;
      below = subst (All (λ (p : ℕ). p < length now)) (sym places) (places_below r (length now) h (omega arith) of.below);
      left = λ p low.
          let first : p < length (contents logs) = let a = length-map now items in let b = length-map logs items in omega arith in
          let found = log_at logs p first in
          ap (λ (l : List (List Entry)). get_or l p []) texts
          ∙ (reverse_at (contents logs) p first ∙ ap reverse (found.2 ∙ of.each p found.0 found.1));
    }
