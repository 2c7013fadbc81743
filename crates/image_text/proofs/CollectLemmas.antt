-- One page and one word more.
use Rattle.std.proofs.Common.{◌≡◌, ℕ, zero, suc, ◌+◌, ◌*◌, ◌<◌, ◌≤◌, Bool, true, false, List, [], ◌∷◌, ◌++◌, length, take, get_or, refl, sym, ap, ◌∙◌, subst, arith}
use Rattle.std.proofs.Math.ListN.{length-take}
use Rattle.std.proofs.lemmas.List.{take_more}
use Rattle.svsm_types.specs.declared.owner.RmpRow.{RmpRow}
use Rattle.std.specs.Prelude.{if◌then◌else◌, ◌==◌, map}
use Rattle.std.proofs.lemmas.Bool.{eqb-true, eqb-false, eq-eqb, ne_eqb}
use Rattle.std.specs.List.{range_with_len}
use Rattle.svsm_types.specs.declared.image.Image.{Image}
use Rattle.svsm_types.specs.declared.image.Range.{Range}
use Rattle.svsm_steps.specs.State.{State, row_at, rmp_rows}
use Rattle.svsm_types.specs.declared.image.Fill.{Fill}
use Rattle.image_text.specs.Saved.{Saying, saying, same_saying, range_at, joining, ranges_from, saved_ranges}
use Rattle.image_text.specs.Collected.{says_of, page_put, AreUpTo, row_saying, rows_saying}
use Rattle.image_text.proofs.RangeLemmas.{same_sayings}

-- PAGES

abbrev more_of : Range → Range
more_of range = record range { count = range.count + 1 }

one_by : (t u : Bool) (first page : ℕ) (a : Saying) (r : Range) (x : Saying) → same_saying a (says_of r) ≡ t → same_saying (says_of r) x ≡ u
    → joining first a (if u then more_of r ∷ [] else r ∷ range_at page 1 x ∷ []) ≡ page_put (joining first a (r ∷ [])) page x
one_by true true first page a r x e k =
    let same = same_sayings a (says_of r) e in
    ap (λ (t : Bool). if t then range_at first (r.count + 1 + 1) a ∷ [] else range_at first 1 a ∷ more_of r ∷ []) e
    ∙ sym (ap (λ (t : Bool). page_put (if t then range_at first (r.count + 1) a ∷ [] else range_at first 1 a ∷ r ∷ []) page x) e
    ∙ ap (λ (t : Bool). if t then range_at first (r.count + 1 + 1) a ∷ [] else range_at first (r.count + 1) a ∷ range_at page 1 x ∷ []) (ap (λ (s : Saying). same_saying s x) same ∙ k))
one_by true false first page a r x e k =
    let same = same_sayings a (says_of r) e in
    ap (λ (t : Bool). if t then range_at first (r.count + 1) a ∷ range_at page 1 x ∷ [] else range_at first 1 a ∷ r ∷ range_at page 1 x ∷ []) e
    ∙ sym (ap (λ (t : Bool). page_put (if t then range_at first (r.count + 1) a ∷ [] else range_at first 1 a ∷ r ∷ []) page x) e
    ∙ ap (λ (t : Bool). if t then range_at first (r.count + 1 + 1) a ∷ [] else range_at first (r.count + 1) a ∷ range_at page 1 x ∷ []) (ap (λ (s : Saying). same_saying s x) same ∙ k))
one_by false true first page a r x e k =
    ap (λ (t : Bool). if t then range_at first (r.count + 1 + 1) a ∷ [] else range_at first 1 a ∷ more_of r ∷ []) e
    ∙ sym (ap (λ (t : Bool). page_put (if t then range_at first (r.count + 1) a ∷ [] else range_at first 1 a ∷ r ∷ []) page x) e
    ∙ ap (λ (t : Bool). range_at first 1 a ∷ (if t then more_of r ∷ [] else r ∷ range_at page 1 x ∷ [])) k)
one_by false false first page a r x e k =
    ap (λ (t : Bool). if t then range_at first (r.count + 1) a ∷ range_at page 1 x ∷ [] else range_at first 1 a ∷ r ∷ range_at page 1 x ∷ []) e
    ∙ sym (ap (λ (t : Bool). page_put (if t then range_at first (r.count + 1) a ∷ [] else range_at first 1 a ∷ r ∷ []) page x) e
    ∙ ap (λ (t : Bool). range_at first 1 a ∷ (if t then more_of r ∷ [] else r ∷ range_at page 1 x ∷ [])) k)

two_by : (t : Bool) (first page : ℕ) (a : Saying) (r s : Range) (more : List Range) (x : Saying) (rest : List Range) → page_put (s ∷ more) page x ≡ rest
    → (if t then range_at first (r.count + 1) a ∷ rest else range_at first 1 a ∷ r ∷ rest)
    ≡ page_put (if t then range_at first (r.count + 1) a ∷ s ∷ more else range_at first 1 a ∷ r ∷ s ∷ more) page x
two_by true first page a r s more x rest e = ap (λ (l : List Range). range_at first (r.count + 1) a ∷ l) (sym e)
two_by false first page a r s more x rest e = ap (λ (l : List Range). range_at first 1 a ∷ r ∷ l) (sym e)

joined_put : (first page : ℕ) (a : Saying) (ranges : List Range) (x : Saying) → joining first a (page_put ranges page x) ≡ page_put (joining first a ranges) page x
joined_put first page a [] x = refl
joined_put first page a (r ∷ []) x =
    one_by (same_saying a (says_of r)) (same_saying (says_of r) x) first page a r x refl refl
joined_put first page a (r ∷ s ∷ more) x = two_by (same_saying a (says_of r)) first page a r s more x (page_put (s ∷ more) page x) refl

pub ranges_more : (first : ℕ) (sayings : List Saying) (x : Saying) → ranges_from first (sayings ++ x ∷ []) ≡ page_put (ranges_from first sayings) (first + length sayings) x
ranges_more first [] x = let e : first ≡ first + 0 = omega arith in ap (λ (n : ℕ). range_at n 1 x ∷ []) e
ranges_more first (a ∷ sayings) x =
    let e : first + 1 + length sayings ≡ first + length (a ∷ sayings) = omega arith in
    ap (joining first a) (ranges_more (first + 1) sayings x ∙ ap (λ (n : ℕ). page_put (ranges_from (first + 1) sayings) n x) e)
    ∙ joined_put first (first + length (a ∷ sayings)) a (ranges_from (first + 1) sayings) x

-- behind other ranges
pub put_behind : (front : List Range) (r : Range) (page : ℕ) (x : Saying)
    → page_put (front ++ r ∷ []) page x ≡ front ++ (if same_saying (says_of r) x then more_of r ∷ [] else r ∷ range_at page 1 x ∷ [])
put_behind [] r page x = refl
put_behind (f ∷ []) r page x = refl
put_behind (f ∷ g ∷ front) r page x = ap (λ (l : List Range). f ∷ l) (put_behind (g ∷ front) r page x)

pub put_same : (old front : List Range) (r : Range) (page : ℕ) (x : Saying) → old ≡ front ++ r ∷ [] → same_saying (says_of r) x ≡ true → front ++ more_of r ∷ [] ≡ page_put old page x
put_same old front r page x e k =
    sym (ap (λ (l : List Range). page_put l page x) e ∙ put_behind front r page x ∙ ap (λ (t : Bool). front ++ (if t then more_of r ∷ [] else r ∷ range_at page 1 x ∷ [])) k)

pub put_other : (old front : List Range) (r : Range) (page : ℕ) (x : Saying) → old ≡ front ++ r ∷ [] → same_saying (says_of r) x ≡ false → front ++ r ∷ range_at page 1 x ∷ [] ≡ page_put old page x
put_other old front r page x e k =
    sym (ap (λ (l : List Range). page_put l page x) e ∙ put_behind front r page x ∙ ap (λ (t : Bool). front ++ (if t then more_of r ∷ [] else r ∷ range_at page 1 x ∷ [])) k)

pub up_last : (most : ℕ) (front : List Range) (r : Range) → AreUpTo most (front ++ r ∷ []) → r.count ≤ most
up_last most [] r h = h.0
up_last most (f ∷ front) r h = up_last most front r h.1

up_more : (most : ℕ) (ranges : List Range) → AreUpTo most ranges → AreUpTo (most + 1) ranges
up_more most [] h = tt
up_more most (r ∷ ranges) h = (omega (arith, h.0), up_more most ranges h.1)

up_by : (t : Bool) (most : ℕ) (r : Range) (page : ℕ) (x : Saying) → r.count ≤ most → AreUpTo (most + 1) (if t then more_of r ∷ [] else r ∷ range_at page 1 x ∷ [])
up_by true most r page x h = (omega (arith, h), tt)
up_by false most r page x h = (omega (arith, h), (omega arith, tt))

pub up_put : (most : ℕ) (ranges : List Range) (page : ℕ) (x : Saying) → AreUpTo most ranges → AreUpTo (most + 1) (page_put ranges page x)
up_put most [] page x h = (omega arith, tt)
up_put most (r ∷ []) page x h = up_by (same_saying (says_of r) x) most r page x h.0
up_put most (r ∷ s ∷ more) page x h = (omega (arith, h.0), up_put most (s ∷ more) page x h.1)

-- rows one after another

pub sayings_more : (ghcb first : ℕ) (rows : List RmpRow) (row : RmpRow) → rows_saying ghcb first (rows ++ row ∷ []) ≡ rows_saying ghcb first rows ++ row_saying ghcb (first + length rows) row ∷ []
sayings_more ghcb first [] row = let e : first ≡ first + 0 = omega arith in ap (λ (n : ℕ). row_saying ghcb n row ∷ []) e
sayings_more ghcb first (x ∷ rows) row =
    let e : first + 1 + length rows ≡ first + length (x ∷ rows) = omega arith in
    ap (λ (l : List Saying). row_saying ghcb first x ∷ l) (sayings_more ghcb (first + 1) rows row ∙ ap (λ (n : ℕ). rows_saying ghcb (first + 1) rows ++ row_saying ghcb n row ∷ []) e)

sayings_length : (ghcb first : ℕ) (rows : List RmpRow) → length (rows_saying ghcb first rows) ≡ length rows
sayings_length ghcb first [] = refl
sayings_length ghcb first (x ∷ rows) = omega (arith, sayings_length ghcb (first + 1) rows)

pub rows_more : (ghcb : ℕ) (rows : List RmpRow) (i : ℕ) (d : RmpRow) → i < length rows
    → ranges_from 0 (rows_saying ghcb 0 (take (i + 1) rows)) ≡ page_put (ranges_from 0 (rows_saying ghcb 0 (take i rows))) i (row_saying ghcb i (get_or rows i d))
rows_more ghcb rows i d low =
    let front = rows_saying ghcb 0 (take i rows) in
    let size : length (take i rows) ≡ i = omega (arith, length-take i rows, low) in
    let at : 0 + length (take i rows) ≡ i = omega (arith, size) in
    let same : 0 + length front ≡ i = omega (arith, sayings_length ghcb 0 (take i rows), size) in
    ap (λ (l : List RmpRow). ranges_from 0 (rows_saying ghcb 0 l)) (take_more rows i d low)
    ∙ ap (ranges_from 0) (sayings_more ghcb 0 (take i rows) (get_or rows i d) ∙ ap (λ (n : ℕ). front ++ row_saying ghcb n (get_or rows i d) ∷ []) at)
    ∙ ranges_more 0 front (row_saying ghcb i (get_or rows i d))
    ∙ ap (λ (n : ℕ). page_put (ranges_from 0 front) n (row_saying ghcb i (get_or rows i d))) same

pub one_more : (ghcb i : ℕ) (rows : List RmpRow) (d : RmpRow) (old new : List Range) (says : Saying) → i < length rows → old ≡ ranges_from 0 (rows_saying ghcb 0 (take i rows)) → AreUpTo i old
    → row_saying ghcb i (get_or rows i d) ≡ says → new ≡ page_put old i says → (new ≡ ranges_from 0 (rows_saying ghcb 0 (take (i + 1) rows))) × AreUpTo (i + 1) new
one_more ghcb i rows d old new says low was up is put = (
  put ∙ ap (page_put old i) (sym is) ∙ ap (λ (l : List Range). page_put l i (row_saying ghcb i (get_or rows i d))) was ∙ sym (rows_more ghcb rows i d low),
  subst (AreUpTo (i + 1)) (sym put) (up_put i old i says up),
)

-- the rows of a state say what is said of its pages
rows_of_state : (image : Image) (state : State) (first count : ℕ) → rows_saying image.ghcb.0 first (map (λ page. row_at page state) (range_with_len first count)) ≡ map (saying image state) (range_with_len first count)
rows_of_state image state first zero = refl
rows_of_state image state first (suc count) = ap (λ (l : List Saying). saying image state first ∷ l) (rows_of_state image state (first + 1) count)

pub ranges_are_saved : (image : Image) (state : State) → ranges_from 0 (rows_saying image.ghcb.0 0 (rmp_rows image.regions state)) ≡ saved_ranges image state
ranges_are_saved image state = ap (ranges_from 0) (rows_of_state image state 0 (512 * image.regions))
