-- Rows of vCPUs and the core lines that are written of them.
use Rattle.std.proofs.Common.{◌≡◌, ◌≢◌, ℕ, zero, suc, ◌+◌, ◌*◌, ◌<◌, ◌≤◌, Bool, true, false, List, [], ◌∷◌, ◌++◌, length, refl, sym, ap, ◌∙◌, subst, arith, IsTrue}
use Rattle.std.specs.Prelude.{⊤, if◌then◌else◌, ◌&&◌, ◌||◌, ◌==◌, Option, Some, None, map, find, count_by, cond}
use Rattle.std.specs.List.{list_all, list_any}
use Rattle.std.specs.Option.{option_map_or}
use Rattle.std.proofs.lemmas.Bool.{eqb-true, eq-eqb}
use Rattle.std.proofs.lemmas.List.Sums.{sum_by-cons, sum_by-append}
use Rattle.svsm_types.specs.declared.address.Page.{Page}
use Rattle.svsm_types.specs.declared.address.Gpa.{Gpa}
use Rattle.svsm_types.specs.declared.image.CoreLine.{CoreLine}
use Rattle.svsm_types.specs.declared.vcpu.Row.{Row}
use Rattle.svsm_steps.specs.Registry.{of_page}
use Rattle.svsm_steps.specs.Sound.{has_vmsa, sits_at}
use Rattle.image_text.specs.Saved.{is_idle, seat_of, saved_core}
use Rattle.image_text.proofs.SoundLemmas.{both, all_hold, none_find}
use Rattle.image_text.proofs.SavedSoundLemmas.{count_map, count_less}

abbrev idle_of : ℕ → Row → Bool
idle_of apic row = row.apic == apic && is_idle row.state

abbrev seat_in : Option Row → Option (Page × Gpa)
seat_in found = option_map_or (λ (row : Row). Some (row.page, row.caa)) found None

-- the one row of a page, which has this APIC id
record RowAt (page apic : ℕ) (rows : List Row) : Type 0 where
  row : Row
  first : find (of_page page) rows ≡ Some row
  same : row.apic ≡ apic

row_at_by : (page apic : ℕ) (x : Row) (rows : List Row) (t u : Bool) → idle_of apic x ≡ t → of_page page x ≡ u → count_by (of_page page) (x ∷ rows) ≤ 1
    → sits_at page (seat_in (cond t (Some x) (find (idle_of apic) rows))) ≡ true → (sits_at page (seat_of apic rows) ≡ true → RowAt page apic rows) → RowAt page apic (x ∷ rows)
row_at_by page apic x rows true u e k most h rec = record {
  row = x;
  first = ap (λ (t : Bool). cond t (Some x) (find (of_page page) rows)) h;
  same = eqb-true x.apic apic (both (x.apic == apic) (is_idle x.state) e).0;
}
row_at_by page apic x rows false true e k most h rec =
    let r = rec h in
    let none = none_find (of_page page) rows (omega (arith, most, sum_by-cons (λ y. cond (of_page page y) 1 0) x rows, ap {B = ℕ} (λ (t : Bool). cond t 1 0) k)) in
    let no : None ≡ Some r.row = sym none ∙ r.first in
    cc
row_at_by page apic x rows false false e k most h rec =
    let r = rec h in
    record { row = r.row; first = ap (λ (t : Bool). cond t (Some x) (find (of_page page) rows)) k ∙ r.first; same = r.same }

row_at : (page apic : ℕ) (rows : List Row) → count_by (of_page page) rows ≤ 1 → sits_at page (seat_of apic rows) ≡ true → RowAt page apic rows
row_at page apic [] most h = cc
row_at page apic (x ∷ rows) most h =
    row_at_by page apic x rows (idle_of apic x) (of_page page x) refl refl most h
    (row_at page apic rows (omega (arith, most, sum_by-cons (λ y. cond (of_page page y) 1 0) x rows)))

-- no two core lines have one VMSA page

apart_by : (page : ℕ) (cores : List CoreLine) (rows : List Row) (o : Option Row) → find (of_page page) rows ≡ o → count_by (of_page page) rows ≤ 1
    → ((apic : ℕ) → count_by (λ (core : CoreLine). core.apic == apic) cores ≤ 1) → count_by (λ core. has_vmsa page (saved_core rows core)) cores ≤ 1
apart_by page cores rows None e most apics =
    let less = count_less (λ core. has_vmsa page (saved_core rows core)) (λ core. core.apic == 0) cores
    (λ core h. let r = row_at page core.apic rows most h in let no : None ≡ Some r.row = sym e ∙ r.first in cc) in
    omega (arith, less, apics 0)
apart_by page cores rows (Some x) e most apics =
    let less = count_less (λ core. has_vmsa page (saved_core rows core)) (λ core. core.apic == x.apic) cores
    (λ core h.
    let r = row_at page core.apic rows most h in
    let some : Some r.row ≡ Some x = sym r.first ∙ e in
    let same : r.row ≡ x = cc in
    eq-eqb core.apic x.apic (sym r.same ∙ ap (λ (row : Row). row.apic) same)) in
    omega (arith, less, apics x.apic)

pub seats_apart : (page : ℕ) (cores : List CoreLine) (rows : List Row) → count_by (of_page page) rows ≤ 1
    → ((apic : ℕ) → count_by (λ (core : CoreLine). core.apic == apic) cores ≤ 1) → count_by (has_vmsa page) (map (saved_core rows) cores) ≤ 1
seats_apart page cores rows most apics =
    let same = count_map (has_vmsa page) (saved_core rows) cores in
    let one = apart_by page cores rows (find (of_page page) rows) refl most apics in
    omega (arith, same, one)

-- the VMSA pages of the core lines are those of the rows

record Split {A : Type 0} (test : A → Bool) (xs : List A) : Type 0 where
  front : List A
  x : A
  back : List A
  was : xs ≡ front ++ x ∷ back
  holds : test x ≡ true

split_by : {A : Type 0} (test : A → Bool) (x : A) (xs : List A) (t : Bool) → test x ≡ t → list_any test (x ∷ xs) ≡ true → (list_any test xs ≡ true → Split test xs) → Split test (x ∷ xs)
split_by test x xs true e h rec = record { front = []; x = x; back = xs; was = refl; holds = e }
split_by test x xs false e h rec =
    let s = rec (ap (λ (t : Bool). t || list_any test xs) (sym e) ∙ h) in
    record { front = x ∷ s.front; x = s.x; back = s.back; was = ap (λ (l : List _). x ∷ l) s.was; holds = s.holds }

split : {A : Type 0} (test : A → Bool) (xs : List A) → list_any test xs ≡ true → Split test xs
split test [] h = cc
split test (x ∷ xs) h = split_by test x xs (test x) refl h (split test xs)

or_right : (t u : Bool) → u ≡ true → (t || u) ≡ true
or_right true u e = refl
or_right false u e = e

any_at : {A : Type 0} (test : A → Bool) (front : List A) (x : A) (back : List A) → test x ≡ true → list_any test (front ++ x ∷ back) ≡ true
any_at test [] x back e = ap (λ (t : Bool). t || list_any test back) e
any_at test (y ∷ front) x back e = or_right (test y) _ (any_at test front x back e)

all_at : {A : Type 0} (test : A → Bool) (front : List A) (x : A) (back : List A) → list_all test (front ++ x ∷ back) ≡ true → test x ≡ true
all_at test [] x back h = (both (test x) (list_all test back) h).0
all_at test (y ∷ front) x back h = all_at test front x back (both (test y) (list_all test (front ++ x ∷ back)) h).1

any_map : {A B : Type 0} (test : B → Bool) (f : A → B) (xs : List A) → list_any test (map f xs) ≡ list_any (λ x. test (f x)) xs
any_map test f [] = refl
any_map test f (x ∷ xs) = ap (λ (t : Bool). test (f x) || t) (any_map test f xs)

-- the first row with an APIC id
found_past : (apic : ℕ) (y : Row) (front : List Row) (x : Row) (back : List Row) (t : Bool) → (y.apic == apic) ≡ t → count_by (λ (row : Row). row.apic == apic) (y ∷ front) ≡ 0
    → (count_by (λ (row : Row). row.apic == apic) front ≡ 0 → find (idle_of apic) (front ++ x ∷ back) ≡ Some x) → find (idle_of apic) (y ∷ (front ++ x ∷ back)) ≡ Some x
found_past apic y front x back true e none rec =
    absurd (omega (arith, none, sum_by-cons (λ (z : Row). cond (z.apic == apic) 1 0) y front, ap {B = ℕ} (λ (t : Bool). cond t 1 0) e))
found_past apic y front x back false e none rec =
    ap (λ (t : Bool). cond (t && is_idle y.state) (Some y) (find (idle_of apic) (front ++ x ∷ back))) e
    ∙ rec (omega (arith, none, sum_by-cons (λ (z : Row). cond (z.apic == apic) 1 0) y front))

found_at : (apic : ℕ) (front : List Row) (x : Row) (back : List Row) → count_by (λ (row : Row). row.apic == apic) front ≡ 0 → idle_of apic x ≡ true → find (idle_of apic) (front ++ x ∷ back) ≡ Some x
found_at apic [] x back none e = ap (λ (t : Bool). cond t (Some x) (find (idle_of apic) back)) e
found_at apic (y ∷ front) x back none e = found_past apic y front x back (y.apic == apic) refl none (λ rest. found_at apic front x back rest e)

seat_there : (page : ℕ) (rows : List Row) (s : Split (of_page page) rows) → list_all (λ (row : Row). is_idle row.state) rows ≡ true
    → ((apic : ℕ) → count_by (λ (row : Row). row.apic == apic) rows ≤ 1) → sits_at page (seat_of s.x.apic rows) ≡ true
seat_there page rows s idle apics =
    let i = all_at (λ (row : Row). is_idle row.state) s.front s.x s.back (ap (list_all (λ (row : Row). is_idle row.state)) (sym s.was) ∙ idle) in
    let own = eq-eqb s.x.apic s.x.apic refl in
    let none : count_by (λ (row : Row). row.apic == s.x.apic) s.front ≡ 0 =
    omega (
      arith,
      apics s.x.apic,
      ap (count_by (λ (row : Row). row.apic == s.x.apic)) s.was,
      sum_by-append (λ (z : Row). cond (z.apic == s.x.apic) 1 0) s.front (s.x ∷ s.back),
      sum_by-cons (λ (z : Row). cond (z.apic == s.x.apic) 1 0) s.x s.back,
      ap {B = ℕ} (λ (t : Bool). cond t 1 0) own,
    ) in
    ap (λ (o : Option Row). sits_at page (seat_in o)) (ap (find (idle_of s.x.apic)) s.was ∙ found_at s.x.apic s.front s.x s.back none (all_hold _ _ own i)) ∙ s.holds

found_any_by : (test : Row → Bool) (x : Row) (rows : List Row) (row : Row) (t : Bool) → test x ≡ t → find test (x ∷ rows) ≡ Some row → (find test rows ≡ Some row → list_any test rows ≡ true) → list_any test (x ∷ rows) ≡ true
found_any_by test x rows row true e h rec = ap (λ (t : Bool). t || list_any test rows) e
found_any_by test x rows row false e h rec = or_right (test x) (list_any test rows) (rec (ap (λ (t : Bool). cond t (Some x) (find test rows)) (sym e) ∙ h))

found_any : (test : Row → Bool) (rows : List Row) (row : Row) → find test rows ≡ Some row → list_any test rows ≡ true
found_any test [] row h = cc
found_any test (x ∷ rows) row h = found_any_by test x rows row (test x) refl h (found_any test rows row)

to_row : (page : ℕ) (cores : List CoreLine) (rows : List Row) → count_by (of_page page) rows ≤ 1 → list_any (has_vmsa page) (map (saved_core rows) cores) ≡ true → list_any (of_page page) rows ≡ true
to_row page cores rows most h =
    let s = split (λ core. has_vmsa page (saved_core rows core)) cores (sym (any_map (has_vmsa page) (saved_core rows) cores) ∙ h) in
    let r = row_at page s.x.apic rows most s.holds in
    found_any (of_page page) rows r.row r.first

to_core : (page : ℕ) (cores : List CoreLine) (rows : List Row) → list_all (λ (row : Row). is_idle row.state) rows ≡ true → ((apic : ℕ) → count_by (λ (row : Row). row.apic == apic) rows ≤ 1)
    → list_all (λ (row : Row). list_any (λ (core : CoreLine). core.apic == row.apic) cores) rows ≡ true → list_any (of_page page) rows ≡ true → list_any (has_vmsa page) (map (saved_core rows) cores) ≡ true
to_core page cores rows idle apics of_cores h =
    let s = split (of_page page) rows h in
    let of_x = all_at (λ (row : Row). list_any (λ (core : CoreLine). core.apic == row.apic) cores) s.front s.x s.back
    (ap (list_all (λ (row : Row). list_any (λ (core : CoreLine). core.apic == row.apic) cores)) (sym s.was) ∙ of_cores) in
    let c = split (λ (core : CoreLine). core.apic == s.x.apic) cores of_x in
    let there : has_vmsa page (saved_core rows c.x) ≡ true = ap (λ (apic : ℕ). sits_at page (seat_of apic rows)) (eqb-true c.x.apic s.x.apic c.holds) ∙ seat_there page rows s idle apics in
    any_map (has_vmsa page) (saved_core rows) cores
    ∙ ap (list_any (λ core. has_vmsa page (saved_core rows core))) c.was
    ∙ any_at (λ core. has_vmsa page (saved_core rows core)) c.front c.x c.back there

alike : (a b : Bool) → (a ≡ true → b ≡ true) → (b ≡ true → a ≡ true) → a ≡ b
alike true b h k = sym (h refl)
alike false true h k = k refl
alike false false h k = refl

pub seats_are_rows : (page : ℕ) (cores : List CoreLine) (rows : List Row) → count_by (of_page page) rows ≤ 1 → list_all (λ (row : Row). is_idle row.state) rows ≡ true
    → ((apic : ℕ) → count_by (λ (row : Row). row.apic == apic) rows ≤ 1) → list_all (λ (row : Row). list_any (λ (core : CoreLine). core.apic == row.apic) cores) rows ≡ true
    → list_any (has_vmsa page) (map (saved_core rows) cores) ≡ list_any (of_page page) rows
seats_are_rows page cores rows most idle apics of_cores = alike _ _ (to_row page cores rows most) (to_core page cores rows idle apics of_cores)
