-- The steps of a history part are well formed.
use Rattle.std.proofs.Common.{ℕ, zero, suc, Bool, true, false, List, [], ◌∷◌, sym, subst}
use Rattle.std.specs.Prelude.{Result, Ok, Err, IfOk}
use Rattle.svsm_steps.specs.declared.entry.Entry.{Entry}
use Rattle.svsm_steps.specs.Formed.{AreWellFormed}
use Rattle.history_reader.specs.declared.history.HistoryError.{HistoryError}
use Rattle.history_reader.specs.Texts.{Counts, CountedLines, HistoryIs, AtBegin, begins_history}
use Rattle.history_reader.specs.Read.{Reads}

counted_formed : (regions count : ℕ) (lines : List (List ℕ)) (entries : List Entry) → CountedLines regions count lines entries → AreWellFormed regions entries
counted_formed regions zero lines entries is = subst (λ (l : List Entry). AreWellFormed regions l) (sym is) tt
counted_formed regions (suc count) [] entries is = absurd is
counted_formed regions (suc count) (bytes ∷ lines) [] is = absurd is
counted_formed regions (suc count) (bytes ∷ lines) (entry ∷ entries) is = (is.0.formed, counted_formed regions count lines entries is.1)

formed_by : (regions : ℕ) (bytes : List ℕ) (lines : List (List ℕ)) (entries : List Entry) (t : Bool) → (HistoryIs regions lines entries → AreWellFormed regions entries)
    → AtBegin t ((count : ℕ) × Counts bytes count × CountedLines regions count lines entries) (HistoryIs regions lines entries) → AreWellFormed regions entries
formed_by regions bytes lines entries true more is = counted_formed regions is.0 lines entries is.2
formed_by regions bytes lines entries false more is = more is

pub part_formed : (regions : ℕ) (lines : List (List ℕ)) (entries : List Entry) → HistoryIs regions lines entries → AreWellFormed regions entries
part_formed regions [] entries is = absurd is
part_formed regions (bytes ∷ lines) entries is = formed_by regions bytes lines entries (begins_history bytes) (part_formed regions lines entries) is

pub read_formed : {V : Type 0} (seen : V → List Entry) (regions : ℕ) (lines : List (List ℕ)) (result : Result V HistoryError) → Reads seen regions 1 lines result
    → IfOk result (λ v. AreWellFormed regions (seen v))
read_formed seen regions lines (Ok v) reads = part_formed regions lines (seen v) reads
read_formed seen regions lines (Err e) reads = tt
