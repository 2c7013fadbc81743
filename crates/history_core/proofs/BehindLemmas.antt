-- The logs of one history, by ticket.
use Rattle.std.proofs.Common.{◌≡◌, ◌≢◌, ℕ, zero, suc, ◌+◌, ◌-◌, ◌^◌, ◌<◌, ◌≤◌, List, [], ◌∷◌, ◌++◌, length, get_or, set, take, drop, replicate, min, sym, refl, ap, ◌∙◌, subst, ⊎_elim, ◌⊎◌, inl, inr, arith, All}
use mathlib.Core.Logic.{dite}
use native.Mathlib.Decide.{ℕ_discrete}
use Rattle.std.specs.declared.vec.Vec.{Vec}
use Rattle.std.proofs.lemmas.Bool.{cases_lt}
use Rattle.std.proofs.lemmas.Grind.{flat_map-append}
use Rattle.std.proofs.lemmas.List.{append-nil, length-append, length-map, length-set, map-set, get_or-set_same, get_or-set_other, get_or_append_left, get_or-append-add, get_or-map, nil_from_length, same_lists, take_at, take_more, length-replicate}
use Rattle.std.proofs.lemmas.List.Concat.{get_or-flat_map}
use Rattle.std.proofs.lemmas.List.Folds.{length-flat_map-take}
use Rattle.svsm_steps.specs.declared.entry.Entry.{Entry}
use Rattle.svsm_steps.specs.declared.step.Step.TheVariants.{Leave}
use Rattle.svsm_steps.specs.declared.answer.Answer.TheVariants.{Denied}
use Rattle.svsm_steps.specs.Histories.{HaveTicketsFrom}
use Rattle.history_core.specs.Merged.{entries_in, IsRising, AreLogsOf}
use Rattle.history_core.specs.Marked.{marked, places_in}
use Rattle.history_core.specs.Raised.{raise, raised}
use Rattle.history_core.proofs.MergeLemmas.{Has, below_has, inside_history, all_more, has_all, all_has, rising_history, none_else, none_lost, logs_from}
use Rattle.history_core.proofs.OnceLemmas.{whole_long}

-- THE ENTRIES BY TICKET

-- the list after each of the entries, with its ticket raised by n, was put at the index of that ticket
abbrev placed : ℕ → List Entry → List Entry → List Entry
placed n [] all = all
placed n (entry ∷ entries) all = placed n entries (set all (n + entry.ticket) (raise n entry))

-- THE PLACES BY TICKET

pub marked-append : (xs ys : List Entry) (order : List ℕ) → marked (xs ++ ys) order ≡ marked ys (marked xs order)
marked-append [] ys order = refl
marked-append (x ∷ xs) ys order = marked-append xs ys (set order x.ticket x.place)

pub length-marked : (xs : List Entry) (order : List ℕ) → length (marked xs order) ≡ length order
length-marked [] order = refl
length-marked (x ∷ xs) order = length-marked xs (set order x.ticket x.place) ∙ length-set order x.ticket x.place

-- one more entry of a log
pub entry_marked : (i : ℕ) (xs : List Entry) (order now : List ℕ) (d : Entry) → now ≡ marked (take i xs) order → i < length xs
    → set now (get_or xs i d).ticket (get_or xs i d).place ≡ marked (take (i + 1) xs) order
entry_marked i xs order now d is low =
    let x : Entry = get_or xs i d in
    ap (λ (l : List ℕ). set l x.ticket x.place) is
    ∙ (sym (marked-append (take i xs) (x ∷ []) order) ∙ ap (λ (l : List Entry). marked l order) (sym (take_more xs i d low)))

module _ {A : Type 0} (ls : List (Vec Entry A)) (i : ℕ) (log : Vec Entry A) (low : i < length ls) (is : log ≡ get_or ls i log) where
  -- one more log
  pub log_marked : (order now new : List ℕ) → now ≡ marked (entries_in (take i ls)) order → new ≡ marked log.items now
      → new ≡ marked (entries_in (take (i + 1) ls)) order
  log_marked order now new before put =
      let more : entries_in (take (i + 1) ls) ≡ entries_in (take i ls) ++ log.items =
      ap (λ (l : List (Vec Entry A)). entries_in l) (take_more ls i log low)
      ∙ (flat_map-append (λ (l : Vec Entry A). l.items) (take i ls) (get_or ls i log ∷ [])
      ∙ (ap (λ (l : List Entry). entries_in (take i ls) ++ l) (append-nil (get_or ls i log).items) ∙ ap (λ (l : Vec Entry A). entries_in (take i ls) ++ l.items) (sym is))) in
      put
      ∙ (ap (marked log.items) before ∙ (sym (marked-append (entries_in (take i ls)) log.items order) ∙ ap (λ (l : List Entry). marked l order) (sym more)))

  -- what holds of all entries of the logs holds of those of one
  pub in_log : (P : Entry → Type 0) → All P (entries_in ls) → All P log.items
  in_log P all =
      subst (λ (l : Vec Entry A). All P l.items) (sym is)
      (λ k d low'.
      let within : length (entries_in (take i ls)) + length (get_or ls i log).items ≤ length (entries_in ls) = length-flat_map-take (λ (l : Vec Entry A). l.items) ls i log low in
      subst P (get_or-flat_map (λ (l : Vec Entry A). l.items) ls i k log d low low') (all (length (entries_in (take i ls)) + k) d (omega arith)))

-- an entry whose place is 0
abbrev pub filler : Entry
filler = record { ticket = 0; core = 0; place = 0; step = Leave 0; answer = Denied }

places_filler : (count : ℕ) → places_in (replicate count filler) ≡ replicate count 0
places_filler zero = refl
places_filler (suc count) = ap (λ (l : List ℕ). 0 ∷ l) (places_filler count)

-- the places of entries that are put by ticket
marked_places : (xs all : List Entry) → marked xs (places_in all) ≡ places_in (placed 0 xs all)
marked_places [] all = refl
marked_places (x ∷ xs) all =
    ap (marked xs)
    (ap (λ (k : ℕ). set (places_in all) k x.place) (let e : x.ticket ≡ 0 + x.ticket = omega arith in e)
    ∙ sym (map-set (λ (e : Entry). e.place) all (0 + x.ticket) (raise 0 x)))
    ∙ marked_places xs (set all (0 + x.ticket) (raise 0 x))

places_raised : (h : List Entry) → places_in (raised 0 h) ≡ places_in h
places_raised [] = refl
places_raised (x ∷ h) = ap (λ (l : List ℕ). x.place ∷ l) (places_raised h)

-- WHERE THEY STAND

length-placed : (n : ℕ) (xs all : List Entry) → length (placed n xs all) ≡ length all
length-placed n [] all = refl
length-placed n (x ∷ xs) all = length-placed n xs (set all (n + x.ticket) (raise n x)) ∙ length-set all (n + x.ticket) (raise n x)

-- nothing is put among the first n
placed_before : (n i : ℕ) (xs all : List Entry) (d : Entry) → i < n → get_or (placed n xs all) i d ≡ get_or all i d
placed_before n i [] all d low = refl
placed_before n i (x ∷ xs) all d low =
    placed_before n i xs (set all (n + x.ticket) (raise n x)) d low ∙ get_or-set_other all (n + x.ticket) i (raise n x) d (λ s. omega arith)

-- an entry stands at its place once it was put, where no other entry has its ticket
placed_at : (n : ℕ) (e : Entry) (xs all : List Entry) (d : Entry) → ((x : Entry) → Has xs x → x.ticket ≡ e.ticket → x ≡ e) → n + e.ticket < length all
    → (get_or all (n + e.ticket) d ≡ raise n e) ⊎ Has xs e → get_or (placed n xs all) (n + e.ticket) d ≡ raise n e
placed_at n e [] all d one low here = ⊎_elim (λ s. s) (λ has. absurd has) here
placed_at n e (x ∷ xs) all d one low here =
    let long : length (set all (n + x.ticket) (raise n x)) ≡ length all = length-set all (n + x.ticket) (raise n x) in
    placed_at n e xs (set all (n + x.ticket) (raise n x)) d (λ y has. one y (inr has)) (omega arith)
    (dite (ℕ_discrete x.ticket e.ticket)
    (λ same.
    inl (subst (λ (z : Entry). get_or (set all (n + z.ticket) (raise n z)) (n + e.ticket) d ≡ raise n e) (sym (one x (inl refl) same))
    (get_or-set_same all (n + e.ticket) (raise n e) d low)))
    (λ ne.
    let other : n + e.ticket ≢ n + x.ticket = λ s. ne (omega arith) in
    ⊎_elim (λ s. inl (get_or-set_other all (n + x.ticket) (n + e.ticket) (raise n x) d other ∙ s))
    (λ has. ⊎_elim (λ (s : e ≡ x). absurd (ne (ap (λ (z : Entry). z.ticket) (sym s)))) (λ rest. inr rest) has) here))

-- THE ENTRIES OF A HISTORY

below_end : (n : ℕ) (h : List Entry) (e : Entry) → HaveTicketsFrom n h → Has h e → e.ticket < n + length h
below_end n [] e all has = absurd has
below_end n (x ∷ xs) e all has =
    let first : x.ticket ≡ n = all.0 in
    ⊎_elim (λ (s : e ≡ x). let t : e.ticket ≡ x.ticket = ap (λ (z : Entry). z.ticket) s in omega arith)
    (λ rest. let t = below_end (n + 1) xs e all.1 rest in omega arith) has

same_entry : (h : List Entry) (x e : Entry) → IsRising h → Has h x → Has h e → x.ticket ≡ e.ticket → x ≡ e
same_entry [] x e up has has' same = absurd has
same_entry (y ∷ h) x e up has has' same =
    ⊎_elim
    (λ (s : x ≡ y). ⊎_elim (λ (s' : e ≡ y). s ∙ sym s')
    (λ rest. let l = below_has y.ticket h e up.0 rest in let t : x.ticket ≡ y.ticket = ap (λ (z : Entry). z.ticket) s in absurd (omega arith)) has')
    (λ rest. ⊎_elim (λ (s' : e ≡ y). let l = below_has y.ticket h x up.0 rest in let t : e.ticket ≡ y.ticket = ap (λ (z : Entry). z.ticket) s' in absurd (omega arith))
    (λ rest'. same_entry h x e up.1 rest rest' same) has')
    has

pub ticket_at : (n j : ℕ) (h : List Entry) (d : Entry) → HaveTicketsFrom n h → j < length h → (get_or h j d).ticket ≡ n + j
ticket_at n j [] d all low = absurd (omega arith)
ticket_at n zero (x ∷ h) d all low = let first : x.ticket ≡ n = all.0 in omega arith
ticket_at n (suc j) (x ∷ h) d all low = let rest = ticket_at (n + 1) j h d all.1 (omega arith) in omega arith

has_at : (h : List Entry) (j : ℕ) (d : Entry) → j < length h → Has h (get_or h j d)
has_at [] j d low = absurd (omega arith)
has_at (x ∷ h) zero d low = inl refl
has_at (x ∷ h) (suc j) d low = inr (has_at h j d (omega arith))

module _ {A : Type 0} (r : ℕ) (h : List Entry) (ls : List (Vec Entry A)) (logs : AreLogsOf r h ls) where
  of_history : (e : Entry) → Has (entries_in ls) e → Has h e
  of_history e has = all_has (Has h) (entries_in ls) e (none_else h 0 ls (logs_from r h ls logs)) has

  in_logs : (e : Entry) → Has h e → Has (entries_in ls) e
  in_logs e has =
      let i = inside_history r h e logs.below has in
      let count = logs.as_many in
      none_lost h 0 ls (logs_from r h ls logs) e (omega arith) (omega arith) has

  -- each ticket is an index
  pub within : (m : ℕ) → m ≡ length (entries_in ls) → All (λ (e : Entry). e.ticket < m) (entries_in ls)
  within m is =
      let long = whole_long r h ls logs in
      all_more (Has (entries_in ls)) (λ (e : Entry). e.ticket < m) (entries_in ls)
      (λ e has. let t = below_end 0 h e logs.in_order (of_history e has) in omega arith) (has_all (entries_in ls))

  module _ (past rest : List Entry) (long : length rest ≡ length (entries_in ls)) where
    nth : (j : ℕ) (d : Entry) → j < length h → get_or (placed (length past) (entries_in ls) (past ++ rest)) (length past + j) d ≡ get_or (past ++ raised (length past) h) (length past + j) d
    nth j d low =
        let n : ℕ = length past in
        let e : Entry = get_or h j d in
        let has : Has h e = has_at h j d low in
        let t : e.ticket ≡ 0 + j = ticket_at 0 j h d logs.in_order low in
        let ticket : e.ticket ≡ j = omega arith in
        let whole = whole_long r h ls logs in
        let both = length-append past rest in
        let up = rising_history 0 h logs.in_order in
        let put : get_or (placed n (entries_in ls) (past ++ rest)) (n + e.ticket) d ≡ raise n e =
        placed_at n e (entries_in ls) (past ++ rest) d (λ x is same. same_entry h x e up (of_history x is) has same) (omega arith) (inr (in_logs e has)) in
        ap (λ (k : ℕ). get_or (placed n (entries_in ls) (past ++ rest)) (n + k) d) (sym ticket)
        ∙ (put ∙ (sym (get_or-map (raise n) h j d d low) ∙ sym (get_or-append-add past (raised n h) j d)))

    each : (k : ℕ) (d : Entry) → k < length past + length h → get_or (placed (length past) (entries_in ls) (past ++ rest)) k d ≡ get_or (past ++ raised (length past) h) k d
    each k d low =
        ⊎_elim
        (λ early. placed_before (length past) k (entries_in ls) (past ++ rest) d early
        ∙ (get_or_append_left past rest d k early ∙ sym (get_or_append_left past (raised (length past) h) d k early)))
        (λ late.
        let is : length past + (k - length past) ≡ k = omega arith in
        subst (λ (m : ℕ). get_or (placed (length past) (entries_in ls) (past ++ rest)) m d ≡ get_or (past ++ raised (length past) h) m d) is
        (nth (k - length past) d (omega arith)))
        (cases_lt k (length past))

    -- put by ticket over as many entries behind the past, they are the history with its tickets raised
    pub behind_is : placed (length past) (entries_in ls) (past ++ rest) ≡ past ++ raised (length past) h
    behind_is =
        let whole = whole_long r h ls logs in
        let first : length (placed (length past) (entries_in ls) (past ++ rest)) ≡ length past + length h =
        length-placed (length past) (entries_in ls) (past ++ rest) ∙ (length-append past rest ∙ ap (λ (k : ℕ). length past + k) (long ∙ whole)) in
        let second : length (past ++ raised (length past) h) ≡ length past + length h =
        length-append past (raised (length past) h) ∙ ap (λ (k : ℕ). length past + k) (length-map h (raise (length past))) in
        same_lists _ _ (first ∙ sym second) (λ k d low. each k d (omega arith))

  -- as many places as the logs have entries
  pub counted : (order : List ℕ) (count len : ℕ) → len ≡ length order → len ≡ count → len < 2 ^ 63 → count ≡ min (length (entries_in ls)) (2 ^ 64 - 1)
      → length order ≡ length (entries_in ls)
  counted order count len long is few found = omega arith

  -- the places by ticket are those of the history
  pub order_is : (order : List ℕ) (count : ℕ) → order ≡ marked (entries_in ls) (replicate count 0) → count ≡ length (entries_in ls) → order ≡ places_in h
  order_is order count is count_is =
      let fillers : List Entry = replicate count filler in
      is
      ∙ ap (marked (entries_in ls)) (sym (places_filler count))
      ∙ marked_places (entries_in ls) fillers
      ∙ ap places_in (behind_is [] fillers (length-replicate count filler ∙ count_is))
      ∙ places_raised h
