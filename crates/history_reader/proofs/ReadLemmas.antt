-- Lines that were read, before those that are left.
use Rattle.std.proofs.Common.{◌≡◌, ℕ, suc, ◌+◌, Bool, true, false, List, [], ◌∷◌, ◌++◌, refl, sym, ◌∙◌, ◌⊎◌, ap, subst, inr, inl, append_assoc}
use Rattle.std.proofs.lemmas.List.{append-nil}
use Rattle.svsm_steps.specs.declared.entry.Entry.{Entry}
use Rattle.history_reader.specs.Texts.{IsEntryLine, Counts, CountedLines, LineFailsAt, HistoryIs, HistoryFails, AtBegin, begins_history}

-- what the lines that are left tell, all lines tell
pub record Leaves (regions at count : ℕ) (all : List (List ℕ)) (now left : ℕ) (lines : List (List ℕ)) (entries : List Entry) : Type 0 where
  pub counted : (more : List Entry) → CountedLines regions left lines more → CountedLines regions count all (entries ++ more)
  pub fails : (failing : ℕ) → LineFailsAt regions now left lines failing → LineFailsAt regions at count all failing

pub leaves_none : (regions at count : ℕ) (all : List (List ℕ)) (entries : List Entry) → entries ≡ [] → Leaves regions at count all at count all entries
leaves_none regions at count all entries none = record {
  counted = λ more is. subst (λ (l : List Entry). CountedLines regions count all (l ++ more)) (sym none) is;
  fails = λ failing is. is;
}

one_counted : (regions left k : ℕ) (bytes : List ℕ) (rest : List (List ℕ)) (entry : Entry) (more : List Entry) → left ≡ suc k → IsEntryLine regions bytes entry
    → CountedLines regions k rest more → CountedLines regions left (bytes ∷ rest) (entry ∷ more)
one_counted regions left k bytes rest entry more is here after = subst (λ (n : ℕ). CountedLines regions n (bytes ∷ rest) (entry ∷ more)) (sym is) (here, after)

one_fails : (regions now left k : ℕ) (bytes : List ℕ) (rest : List (List ℕ)) (entry : Entry) (failing : ℕ) → left ≡ suc k → IsEntryLine regions bytes entry
    → LineFailsAt regions (now + 1) k rest failing → LineFailsAt regions now left (bytes ∷ rest) failing
one_fails regions now left k bytes rest entry failing is here after =
    subst (λ (n : ℕ). LineFailsAt regions now n (bytes ∷ rest) failing) (sym is) (inr (entry, here, after))

pub leaves_one : (regions at count : ℕ) (all : List (List ℕ)) (now left k next : ℕ) (lines : List (List ℕ)) (bytes : List ℕ) (rest : List (List ℕ)) (entries later : List Entry) (entry : Entry)
    → left ≡ suc k → next ≡ now + 1 → lines ≡ bytes ∷ rest → later ≡ entries ++ entry ∷ [] → IsEntryLine regions bytes entry → Leaves regions at count all now left lines entries
    → Leaves regions at count all next k rest later
leaves_one regions at count all now left k next lines bytes rest entries later entry is num split grown here leaves =
    let l : Leaves regions at count all now left (bytes ∷ rest) entries = subst (λ (x : List (List ℕ)). Leaves regions at count all now left x entries) split leaves in
    record {
      counted = λ more after. subst (λ (x : List Entry). CountedLines regions count all x) (sym (append_assoc entries (entry ∷ []) more) ∙ ap (λ (x : List Entry). x ++ more) (sym grown))
          (l.counted (entry ∷ more) (one_counted regions left k bytes rest entry more is here after));
      fails = λ failing after. l.fails failing (one_fails regions now left k bytes rest entry failing is here (subst (λ (n : ℕ). LineFailsAt regions n k rest failing) num after));
    }

-- no line is left
pub missing : (regions at count : ℕ) (all : List (List ℕ)) (now left k : ℕ) (lines : List (List ℕ)) (entries : List Entry) → left ≡ suc k → lines ≡ []
    → Leaves regions at count all now left lines entries → LineFailsAt regions at count all now
missing regions at count all now left k lines entries is none leaves =
    leaves.fails now (subst (λ (x : List (List ℕ)). LineFailsAt regions now left x now) (sym none) (subst (λ (n : ℕ). LineFailsAt regions now n [] now) (sym is) refl))

-- the next line is that of no entry
pub wrong : (regions at count : ℕ) (all : List (List ℕ)) (now left k : ℕ) (lines : List (List ℕ)) (bytes : List ℕ) (rest : List (List ℕ)) (entries : List Entry) → left ≡ suc k
    → lines ≡ bytes ∷ rest → ((entry : Entry) → IsEntryLine regions bytes entry → ⊥)
    → Leaves regions at count all now left lines entries → LineFailsAt regions at count all now
wrong regions at count all now left k lines bytes rest entries is split none leaves =
    leaves.fails now (subst (λ (x : List (List ℕ)). LineFailsAt regions now left x now) (sym split) (subst (λ (n : ℕ). LineFailsAt regions now n (bytes ∷ rest) now) (sym is) (inl (none, refl))))

-- all lines were read
pub whole : (regions at count : ℕ) (all : List (List ℕ)) (now left : ℕ) (lines : List (List ℕ)) (entries : List Entry) → left ≡ 0
    → Leaves regions at count all now left lines entries → CountedLines regions count all entries
whole regions at count all now left lines entries none leaves =
    subst (λ (x : List Entry). CountedLines regions count all x) (append-nil entries)
    (leaves.counted [] (subst (λ (n : ℕ). CountedLines regions n lines []) (sym none) refl))

-- THE FIRST LINE

-- no line so far begins a history
pub record Seeks (regions : ℕ) (all : List (List ℕ)) (now : ℕ) (lines : List (List ℕ)) : Type 0 where
  pub is : (entries : List Entry) → HistoryIs regions lines entries → HistoryIs regions all entries
  pub fails : (failing : ℕ) → HistoryFails regions now lines failing → HistoryFails regions 1 all failing

pub seeks_none : (regions : ℕ) (all lines : List (List ℕ)) → lines ≡ all → Seeks regions all 1 lines
seeks_none regions all lines same = record {
  is = λ entries h. subst (λ (x : List (List ℕ)). HistoryIs regions x entries) same h;
  fails = λ failing h. subst (λ (x : List (List ℕ)). HistoryFails regions 1 x failing) same h;
}

passed_is : (regions : ℕ) (bytes : List ℕ) (rest : List (List ℕ)) (entries : List Entry) (t : Bool) → begins_history bytes ≡ t → t ≡ false
    → HistoryIs regions rest entries → HistoryIs regions (bytes ∷ rest) entries
passed_is regions bytes rest entries t b f h =
    subst (λ (x : Bool). AtBegin x ((count : ℕ) × Counts bytes count × CountedLines regions count rest entries) (HistoryIs regions rest entries)) (sym (b ∙ f)) h

passed_fails : (regions now : ℕ) (bytes : List ℕ) (rest : List (List ℕ)) (failing : ℕ) → begins_history bytes ≡ false
    → HistoryFails regions (now + 1) rest failing → HistoryFails regions now (bytes ∷ rest) failing
passed_fails regions now bytes rest failing f h =
    subst (λ (x : Bool). AtBegin x
    ((((count : ℕ) → Counts bytes count → ⊥) × (failing ≡ now)) ⊎ ((count : ℕ) × Counts bytes count × LineFailsAt regions (now + 1) count rest failing))
    (HistoryFails regions (now + 1) rest failing)) (sym f) h

pub seeks_one : (regions : ℕ) (all : List (List ℕ)) (now next : ℕ) (lines : List (List ℕ)) (bytes : List ℕ) (rest : List (List ℕ)) → next ≡ now + 1 → lines ≡ bytes ∷ rest
    → begins_history bytes ≡ false → Seeks regions all now lines → Seeks regions all next rest
seeks_one regions all now next lines bytes rest num split not seeks =
    let s : Seeks regions all now (bytes ∷ rest) = subst (λ (x : List (List ℕ)). Seeks regions all now x) split seeks in
    record {
      is = λ entries h. s.is entries (passed_is regions bytes rest entries (begins_history bytes) refl not h);
      fails = λ failing h. s.fails failing (passed_fails regions now bytes rest failing not (subst (λ (n : ℕ). HistoryFails regions n rest failing) num h));
    }

pub here_is : (regions : ℕ) (bytes : List ℕ) (rest : List (List ℕ)) (entries : List Entry) (count : ℕ) → begins_history bytes ≡ true → Counts bytes count
    → CountedLines regions count rest entries → HistoryIs regions (bytes ∷ rest) entries
here_is regions bytes rest entries count b counts h =
    subst (λ (x : Bool). AtBegin x ((count : ℕ) × Counts bytes count × CountedLines regions count rest entries) (HistoryIs regions rest entries)) (sym b) (count, counts, h)

pub here_fails : (regions now : ℕ) (bytes : List ℕ) (rest : List (List ℕ)) (failing : ℕ) → begins_history bytes ≡ true
    → (((count : ℕ) → Counts bytes count → ⊥) × (failing ≡ now)) ⊎ ((count : ℕ) × Counts bytes count × LineFailsAt regions (now + 1) count rest failing)
    → HistoryFails regions now (bytes ∷ rest) failing
here_fails regions now bytes rest failing b h =
    subst (λ (x : Bool). AtBegin x
    ((((count : ℕ) → Counts bytes count → ⊥) × (failing ≡ now)) ⊎ ((count : ℕ) × Counts bytes count × LineFailsAt regions (now + 1) count rest failing))
    (HistoryFails regions (now + 1) rest failing)) (sym b) h
