-- A text has one history part, or one line that fails.
use Rattle.std.proofs.Common.{◌≡◌, ℕ, zero, suc, ◌+◌, Bool, true, false, List, [], ◌∷◌, refl, sym, ◌∙◌, ap, subst, ◌⊎◌, ⊎_elim}
use Rattle.std.specs.Prelude.{codes, Some}
use Rattle.std.proofs.lemmas.List.{append_cancel_left}
use Rattle.svsm_steps.specs.declared.entry.Entry.{Entry}
use Rattle.svsm_text.specs.Numbers.{number, number_in}
use Rattle.svsm_text.proofs.NumberLemmas.{read_again}
use Rattle.history_reader.specs.Texts.{Counts, CountedLines, LineFailsAt, HistoryIs, HistoryFails, AtBegin, begins_history}
use Rattle.history_reader.proofs.FieldLemmas.{line_front}
use Rattle.history_reader.proofs.Ends.{counts_text}
use Rattle.history_reader.proofs.LineLemmas.{own_text}

-- a line counts one number
one_count : (bytes : List ℕ) (m n : ℕ) → Counts bytes m → Counts bytes n → m ≡ n
one_count bytes m n is also =
    let front = λ (k : ℕ) (c : Counts bytes k). line_front bytes (codes "history") (number k ∷ []) c.text ∙ counts_text k in
    let same : number m ≡ number n = append_cancel_left (codes "history ") (number m) (number n) (sym (front m is) ∙ front n also) in
    let told : Some m ≡ Some n = sym (read_again m is.fits) ∙ ap number_in same ∙ read_again n also.fits in
    cc

counted_same : (regions count : ℕ) (lines : List (List ℕ)) (one other : List Entry) → CountedLines regions count lines one → CountedLines regions count lines other → one ≡ other
counted_same regions zero lines one other is also = is ∙ sym also
counted_same regions (suc count) [] one other is also = absurd is
counted_same regions (suc count) (bytes ∷ lines) [] other is also = absurd is
counted_same regions (suc count) (bytes ∷ lines) (x ∷ one) [] is also = absurd also
counted_same regions (suc count) (bytes ∷ lines) (x ∷ one) (y ∷ other) is also =
    let here = own_text regions bytes x y is.0 also.0 in
    let rest = counted_same regions count lines one other is.1 also.1 in
    cc

counted_fails : (regions at count : ℕ) (lines : List (List ℕ)) (entries : List Entry) (failing : ℕ) → CountedLines regions count lines entries → LineFailsAt regions at count lines failing → ⊥
counted_fails regions at zero lines entries failing is fails = fails
counted_fails regions at (suc count) [] entries failing is fails = is
counted_fails regions at (suc count) (bytes ∷ lines) [] failing is fails = is
counted_fails regions at (suc count) (bytes ∷ lines) (entry ∷ entries) failing is fails =
    ⊎_elim (λ here. here.0 entry is.0) (λ later. counted_fails regions (at + 1) count lines entries failing is.1 later.2) fails

one_fails : (regions at count : ℕ) (lines : List (List ℕ)) (one other : ℕ) → LineFailsAt regions at count lines one → LineFailsAt regions at count lines other → one ≡ other
one_fails regions at zero lines one other is also = absurd is
one_fails regions at (suc count) [] one other is also = is ∙ sym also
one_fails regions at (suc count) (bytes ∷ lines) one other is also =
    ⊎_elim
    (λ here. ⊎_elim (λ too. here.1 ∙ sym too.1) (λ later. absurd (here.0 later.0 later.1)) also)
    (λ here. ⊎_elim (λ too. absurd (too.0 here.0 here.1)) (λ later. one_fails regions (at + 1) count lines one other here.2 later.2) also)
    is

abbrev Here : ℕ → List ℕ → List (List ℕ) → List Entry → Type 0
Here regions bytes lines entries = (count : ℕ) × Counts bytes count × CountedLines regions count lines entries

abbrev HereFails : ℕ → ℕ → List ℕ → List (List ℕ) → ℕ → Type 0
HereFails regions at bytes lines failing =
    (((count : ℕ) → Counts bytes count → ⊥) × (failing ≡ at)) ⊎ ((count : ℕ) × Counts bytes count × LineFailsAt regions (at + 1) count lines failing)

begun : (t : Bool) (A B : Type 0) (b : Bool) → b ≡ t → AtBegin b A B → AtBegin t A B
begun t A B b is h = subst (λ (x : Bool). AtBegin x A B) is h

same_here : (regions : ℕ) (bytes : List ℕ) (lines : List (List ℕ)) (one other : List Entry) → Here regions bytes lines one → Here regions bytes lines other → one ≡ other
same_here regions bytes lines one other is also =
    counted_same regions is.0 lines one other is.2
    (subst (λ (n : ℕ). CountedLines regions n lines other) (one_count bytes also.0 is.0 also.1 is.1) also.2)

here_not : (regions at : ℕ) (bytes : List ℕ) (lines : List (List ℕ)) (entries : List Entry) (failing : ℕ) → Here regions bytes lines entries → HereFails regions at bytes lines failing → ⊥
here_not regions at bytes lines entries failing is fails =
    ⊎_elim (λ none. none.0 is.0 is.1)
    (λ some. counted_fails regions (at + 1) is.0 lines entries failing is.2
    (subst (λ (n : ℕ). LineFailsAt regions (at + 1) n lines failing) (one_count bytes some.0 is.0 some.1 is.1) some.2))
    fails

fails_here : (regions at : ℕ) (bytes : List ℕ) (lines : List (List ℕ)) (one other : ℕ) → HereFails regions at bytes lines one → HereFails regions at bytes lines other → one ≡ other
fails_here regions at bytes lines one other is also =
    ⊎_elim
    (λ none. ⊎_elim (λ too. none.1 ∙ sym too.1) (λ some. absurd (none.0 some.0 some.1)) also)
    (λ some. ⊎_elim (λ too. absurd (too.0 some.0 some.1))
    (λ more. one_fails regions (at + 1) some.0 lines one other some.2
    (subst (λ (n : ℕ). LineFailsAt regions (at + 1) n lines other) (one_count bytes more.0 some.0 more.1 some.1) more.2)) also)
    is

is_by : (regions : ℕ) (bytes : List ℕ) (lines : List (List ℕ)) (one other : List Entry) (t : Bool) → begins_history bytes ≡ t
    → (HistoryIs regions lines one → HistoryIs regions lines other → one ≡ other)
    → HistoryIs regions (bytes ∷ lines) one → HistoryIs regions (bytes ∷ lines) other → one ≡ other
is_by regions bytes lines one other true b more is also =
    same_here regions bytes lines one other
    (begun true (Here regions bytes lines one) (HistoryIs regions lines one) (begins_history bytes) b is)
    (begun true (Here regions bytes lines other) (HistoryIs regions lines other) (begins_history bytes) b also)
is_by regions bytes lines one other false b more is also =
    more (begun false (Here regions bytes lines one) (HistoryIs regions lines one) (begins_history bytes) b is)
    (begun false (Here regions bytes lines other) (HistoryIs regions lines other) (begins_history bytes) b also)

pub one_history : (regions : ℕ) (lines : List (List ℕ)) (one other : List Entry) → HistoryIs regions lines one → HistoryIs regions lines other → one ≡ other
one_history regions [] one other is also = absurd is
one_history regions (bytes ∷ lines) one other is also = is_by regions bytes lines one other (begins_history bytes) refl (one_history regions lines one other) is also

not_by : (regions at : ℕ) (bytes : List ℕ) (lines : List (List ℕ)) (entries : List Entry) (failing : ℕ) (t : Bool) → begins_history bytes ≡ t
    → (HistoryIs regions lines entries → HistoryFails regions (at + 1) lines failing → ⊥)
    → HistoryIs regions (bytes ∷ lines) entries → HistoryFails regions at (bytes ∷ lines) failing → ⊥
not_by regions at bytes lines entries failing true b more is fails =
    here_not regions at bytes lines entries failing
    (begun true (Here regions bytes lines entries) (HistoryIs regions lines entries) (begins_history bytes) b is)
    (begun true (HereFails regions at bytes lines failing) (HistoryFails regions (at + 1) lines failing) (begins_history bytes) b fails)
not_by regions at bytes lines entries failing false b more is fails =
    more (begun false (Here regions bytes lines entries) (HistoryIs regions lines entries) (begins_history bytes) b is)
    (begun false (HereFails regions at bytes lines failing) (HistoryFails regions (at + 1) lines failing) (begins_history bytes) b fails)

pub is_or_fails : (regions at : ℕ) (lines : List (List ℕ)) (entries : List Entry) (failing : ℕ) → HistoryIs regions lines entries → HistoryFails regions at lines failing → ⊥
is_or_fails regions at [] entries failing is fails = is
is_or_fails regions at (bytes ∷ lines) entries failing is fails =
    not_by regions at bytes lines entries failing (begins_history bytes) refl (is_or_fails regions (at + 1) lines entries failing) is fails

fails_by : (regions at : ℕ) (bytes : List ℕ) (lines : List (List ℕ)) (one other : ℕ) (t : Bool) → begins_history bytes ≡ t
    → (HistoryFails regions (at + 1) lines one → HistoryFails regions (at + 1) lines other → one ≡ other)
    → HistoryFails regions at (bytes ∷ lines) one → HistoryFails regions at (bytes ∷ lines) other → one ≡ other
fails_by regions at bytes lines one other true b more is also =
    fails_here regions at bytes lines one other
    (begun true (HereFails regions at bytes lines one) (HistoryFails regions (at + 1) lines one) (begins_history bytes) b is)
    (begun true (HereFails regions at bytes lines other) (HistoryFails regions (at + 1) lines other) (begins_history bytes) b also)
fails_by regions at bytes lines one other false b more is also =
    more (begun false (HereFails regions at bytes lines one) (HistoryFails regions (at + 1) lines one) (begins_history bytes) b is)
    (begun false (HereFails regions at bytes lines other) (HistoryFails regions (at + 1) lines other) (begins_history bytes) b also)

pub one_failing : (regions at : ℕ) (lines : List (List ℕ)) (one other : ℕ) → HistoryFails regions at lines one → HistoryFails regions at lines other → one ≡ other
one_failing regions at [] one other is also = is ∙ sym also
one_failing regions at (bytes ∷ lines) one other is also = fails_by regions at bytes lines one other (begins_history bytes) refl (one_failing regions (at + 1) lines one other) is also
