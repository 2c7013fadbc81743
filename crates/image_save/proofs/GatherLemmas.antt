-- Pages, regions and seats, one more at a time.
use Rattle.std.proofs.Common.{◌≡◌, ℕ, zero, suc, ◌+◌, ◌*◌, ◌<◌, ◌≤◌, ◌^◌, Bool, true, false, Option, None, Some, List, [], ◌∷◌, ◌++◌, length, drop, get_or, refl, sym, ap, ◌∙◌, arith, append-nil}
use Rattle.std.specs.Prelude.{if◌then◌else◌, map, filter, find, IsTrue, ◌==◌, ◌&&◌}
use Rattle.std.specs.List.{range_with_len, list_all}
use Rattle.std.proofs.lemmas.Bool.{lt-ltb}
use Rattle.std.proofs.lemmas.List.FromFn.{map-range_with_len_more}
use Rattle.svsm_types.specs.declared.address.Page.{Page}
use Rattle.svsm_types.specs.declared.image.CoreLine.{CoreLine}
use Rattle.svsm_types.specs.declared.image.Image.{Image}
use Rattle.svsm_types.specs.declared.owner.RmpRow.{RmpRow}
use Rattle.svsm_types.specs.declared.vcpu.Row.{Row}
use Rattle.svsm_steps.specs.Mapped.{AreRows}
use Rattle.svsm_steps.specs.State.{State, row_at, rmp_rows}
use Rattle.image_text.specs.Refused.{is_unsaved, first_unsaved_page}
use Rattle.image_text.specs.Saved.{is_idle, seat_of, saved_core}
use Rattle.image_text.specs.Written.{has_address, is_addressed}
use Rattle.image_save.specs.Gathered.{is_unsaid, first_unsaid}

-- numbers

pub range_more : (first count : ℕ) → range_with_len first (count + 1) ≡ range_with_len first count ++ (first + count) ∷ []
range_more first zero = let e : first ≡ first + 0 = omega arith in ap (λ (n : ℕ). n ∷ []) e
range_more first (suc count) =
    let e : first + 1 + count ≡ first + suc count = omega arith in
    let long : suc count + 1 ≡ suc (count + 1) = omega arith in
    rw long (ap (λ (l : List ℕ). first ∷ l) (range_more (first + 1) count ∙ ap (λ (n : ℕ). range_with_len (first + 1) count ++ n ∷ []) e))

filter_by : (t : Bool) (p : ℕ → Bool) (x y : ℕ) (xs : List ℕ) → filter p (xs ++ y ∷ []) ≡ filter p xs ++ (if p y then y ∷ [] else [])
    → (if t then x ∷ filter p (xs ++ y ∷ []) else filter p (xs ++ y ∷ [])) ≡ (if t then x ∷ filter p xs else filter p xs) ++ (if p y then y ∷ [] else [])
filter_by true p x y xs h = ap (λ (l : List ℕ). x ∷ l) h
filter_by false p x y xs h = h

filter_more : (p : ℕ → Bool) (xs : List ℕ) (y : ℕ) → filter p (xs ++ y ∷ []) ≡ filter p xs ++ (if p y then y ∷ [] else [])
filter_more p [] y = refl
filter_more p (x ∷ xs) y = filter_by (p x) p x y xs (filter_more p xs y)

filtered : (p : ℕ → Bool) (count : ℕ) (old : List ℕ) → old ≡ filter p (range_with_len 0 count)
    → filter p (range_with_len 0 (count + 1)) ≡ old ++ (if p count then count ∷ [] else [])
filtered p count old is =
    let e : 0 + count ≡ count = omega arith in
    ap (filter p) (range_more 0 count ∙ ap (λ (n : ℕ). range_with_len 0 count ++ n ∷ []) e)
    ∙ filter_more p (range_with_len 0 count) count ∙ ap (λ (l : List ℕ). l ++ (if p count then count ∷ [] else [])) (sym is)

pub one_taken : (p : ℕ → Bool) (count : ℕ) (old new : List ℕ) → old ≡ filter p (range_with_len 0 count) → p count ≡ true
    → new ≡ old ++ count ∷ [] → new ≡ filter p (range_with_len 0 (count + 1))
one_taken p count old new was is put =
    put ∙ sym (filtered p count old was ∙ ap (λ (t : Bool). old ++ (if t then count ∷ [] else [])) is)

pub one_left : (p : ℕ → Bool) (count : ℕ) (old : List ℕ) → old ≡ filter p (range_with_len 0 count) → p count ≡ false
    → old ≡ filter p (range_with_len 0 (count + 1))
one_left p count old was is =
    sym (filtered p count old was ∙ ap (λ (t : Bool). old ++ (if t then count ∷ [] else [])) is ∙ append-nil old)

-- one more row
pub row_more : (state : State) (rows new : List RmpRow) (row : RmpRow) (n : ℕ)
    → rows ≡ map (λ page. row_at page state) (range_with_len 0 n) → row ≡ row_at n state → new ≡ rows ++ row ∷ []
    → new ≡ map (λ page. row_at page state) (range_with_len 0 (n + 1))
row_more state rows new row n so_far is pushed =
    pushed ∙ ap (λ (rs : List RmpRow). rs ++ row ∷ []) so_far
    ∙ ap (λ (r : RmpRow). map (λ page. row_at page state) (range_with_len 0 n) ++ r ∷ []) is
    ∙ sym (map-range_with_len_more (λ page. row_at page state) 0 n n (omega arith))

-- the first page that no image can say

pub drop_more : (rows : List RmpRow) (i : ℕ) (d : RmpRow) → i < length rows → drop i rows ≡ get_or rows i d ∷ drop (i + 1) rows
drop_more [] zero d low = absurd (omega (arith, low))
drop_more [] (suc i) d low = absurd (omega (arith, low))
drop_more (x ∷ rows) zero d low = refl
drop_more (x ∷ rows) (suc i) d low =
    let long : suc i + 1 ≡ suc (i + 1) = omega arith in
    rw long (drop_more rows i d (omega (arith, low)))

pub unsaid_here : (ghcb i : ℕ) (rows : List RmpRow) (d : RmpRow) → i < length rows → is_unsaid ghcb i (get_or rows i d) ≡ true
    → first_unsaid ghcb i (drop i rows) ≡ Some (record { 0 = i })
unsaid_here ghcb i rows d low is =
    ap (first_unsaid ghcb i) (drop_more rows i d low)
    ∙ ap (λ (t : Bool). if t then Some (record { 0 = i }) else first_unsaid ghcb (i + 1) (drop (i + 1) rows)) is

pub said_here : (ghcb i : ℕ) (rows : List RmpRow) (d : RmpRow) → i < length rows → is_unsaid ghcb i (get_or rows i d) ≡ false
    → first_unsaid ghcb i (drop i rows) ≡ first_unsaid ghcb (i + 1) (drop (i + 1) rows)
said_here ghcb i rows d low is =
    ap (first_unsaid ghcb i) (drop_more rows i d low)
    ∙ ap (λ (t : Bool). if t then Some (record { 0 = i }) else first_unsaid ghcb (i + 1) (drop (i + 1) rows)) is

pub drop_all : (rows : List RmpRow) (i : ℕ) → length rows ≤ i → drop i rows ≡ []
drop_all [] zero low = refl
drop_all [] (suc i) low = refl
drop_all (x ∷ rows) zero low = absurd (omega (arith, low))
drop_all (x ∷ rows) (suc i) low = drop_all rows i (omega (arith, low))

abbrev pub as_page : Option ℕ → Option Page
as_page None = None
as_page (Some page) = Some (record { 0 = page })

page_by : (t : Bool) (page : ℕ) (one : Option Page) (other : Option ℕ) → one ≡ as_page other
    → (if t then Some (record { 0 = page }) else one) ≡ as_page (if t then Some page else other)
page_by true page one other h = refl
page_by false page one other h = h

unsaid_from : (image : Image) (state : State) (first count : ℕ)
    → first_unsaid image.ghcb.0 first (map (λ page. row_at page state) (range_with_len first count)) ≡ as_page (find (is_unsaved image state) (range_with_len first count))
unsaid_from image state first zero = refl
unsaid_from image state first (suc count) =
    page_by (is_unsaved image state first) first
    (first_unsaid image.ghcb.0 (first + 1) (map (λ page. row_at page state) (range_with_len (first + 1) count)))
    (find (is_unsaved image state) (range_with_len (first + 1) count)) (unsaid_from image state (first + 1) count)

pub unsaid_is : (image : Image) (state : State) → first_unsaid image.ghcb.0 0 (rmp_rows image.regions state) ≡ as_page (first_unsaved_page image state)
unsaid_is image state = unsaid_from image state 0 (512 * image.regions)

-- seats have addresses

seat_by : (t : Bool) (regions apic : ℕ) (row : Row) (rows : List Row) → regions ≤ 512 → row.page.0 < 512 * regions → has_address (seat_of apic rows) ≡ true
    → (row.apic == apic && is_idle row.state) ≡ t → has_address (seat_of apic (row ∷ rows)) ≡ true
seat_by true regions apic row rows most low rest e =
    ap (λ (t : Bool). has_address (Rattle.std.specs.Option.option_map_or (λ (r : Row). Some (r.page, r.caa)) (if t then Some row else find (λ (r : Row). r.apic == apic && is_idle r.state) rows) None)) e
    ∙ lt-ltb (4096 * row.page.0) (2 ^ 64) (omega (arith, most, low))
seat_by false regions apic row rows most low rest e =
    ap (λ (t : Bool). has_address (Rattle.std.specs.Option.option_map_or (λ (r : Row). Some (r.page, r.caa)) (if t then Some row else find (λ (r : Row). r.apic == apic && is_idle r.state) rows) None)) e
    ∙ rest

seat_addressed : (regions apic : ℕ) (rows : List Row) → regions ≤ 512 → AreRows regions rows → has_address (seat_of apic rows) ≡ true
seat_addressed regions apic [] most mapped = refl
seat_addressed regions apic (row ∷ rows) most mapped =
    seat_by (row.apic == apic && is_idle row.state) regions apic row rows most (omega (arith, mapped.0.0)) (seat_addressed regions apic rows most mapped.1) refl

both : (a b : Bool) → a ≡ true → IsTrue b → IsTrue (a && b)
both true b h k = k
both false b h k = cc

pub are_addressed : (regions : ℕ) (rows : List Row) (cores : List CoreLine) → regions ≤ 512 → AreRows regions rows
    → IsTrue (list_all is_addressed (map (saved_core rows) cores))
are_addressed regions rows [] most mapped = refl
are_addressed regions rows (core ∷ cores) most mapped =
    both (has_address (seat_of core.apic rows)) (list_all is_addressed (map (saved_core rows) cores)) (seat_addressed regions core.apic rows most mapped)
    (are_addressed regions rows cores most mapped)

abbrev number_of : Option Page → Option ℕ
number_of None = None
number_of (Some page) = Some page.0

back : (one : Option ℕ) → number_of (as_page one) ≡ one
back None = refl
back (Some page) = refl

pub as_page_one : (one other : Option ℕ) → as_page one ≡ as_page other → one ≡ other
as_page_one one other h = sym (back one) ∙ ap number_of h ∙ back other
