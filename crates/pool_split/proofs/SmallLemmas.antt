-- The pages that are left of a split block, with those above them.
use Rattle.std.proofs.Common.{◌≡◌, ℕ, ◌+◌, ◌-◌, ◌≤◌, ◌<◌, ◌^◌, List, [], ◌∷◌, ◌++◌, length, refl, sym, ap, ◌∙◌, subst, arith, append_assoc}
use Rattle.std.proofs.lemmas.List.{append-nil, length-append}
use Rattle.std.proofs.lemmas.List.FromFn.{length-map-range_with_len, map-range_with_len_more}
use Rattle.svsm_types.specs.declared.address.Page.{Page}
use Rattle.pool_split.specs.Rest.{rest_of}

no_back : (front back : List Page) → front ++ back ≡ [] → back ≡ []
no_back [] back e = e
no_back (page ∷ front) back e = cc

pub no_front : (front back : List Page) → front ++ back ≡ [] → front ≡ []
no_front [] back e = refl
no_front (page ∷ front) back e = cc

pub rest_length : (page : Page) (count : ℕ) → length (rest_of page count) ≡ count
rest_length page count = length-map-range_with_len _ 0 count

pub rest_alone : (page split : Page) (count left : ℕ) (pushed : List Page) → rest_of split left ++ pushed ≡ [] → rest_of page count ++ pushed ≡ rest_of page count
rest_alone page split count left pushed e =
    ap (λ (back : List Page). rest_of page count ++ back) (no_back (rest_of split left) pushed e) ∙ append-nil (rest_of page count)

-- one fewer
pub rest_more : (page : Page) (left fewer : ℕ) → left ≤ 512 → left ≡ fewer + 1 → rest_of page left ≡ rest_of page fewer ++ record { 0 = page.0 + (512 - left) } ∷ []
rest_more page left fewer most e =
    let d : page.0 + 511 - fewer ≡ page.0 + (512 - left) = omega arith in
    ap (rest_of page) e ∙ map-range_with_len_more (λ k. let p : Page = record { 0 = page.0 + 511 - k } in p) 0 fewer fewer (omega arith)
    ∙ ap (λ (number : ℕ). let p : Page = record { 0 = number } in rest_of page fewer ++ p ∷ []) d

pub rest_goes : (page : Page) (left : ℕ) (pages pushed now : List Page) → left ≤ 511 → 0 < left → pushed ≡ [] → now ≡ [] → rest_of page left ++ pushed ≡ pages
    → pages ≡ (rest_of page (left - 1) ++ now) ++ record { 0 = page.0 + (512 - left) } ∷ []
rest_goes page left pages pushed now most some none after is =
    sym is ∙ ap (λ (l : List Page). rest_of page left ++ l) none ∙ append-nil (rest_of page left) ∙ rest_more page left (left - 1) (omega arith) (omega arith)
    ∙ ap (λ (l : List Page). l ++ record { 0 = page.0 + (512 - left) } ∷ []) (sym (append-nil (rest_of page (left - 1))) ∙ ap (λ (l : List Page). rest_of page (left - 1) ++ l) (sym after))

pub rest_next : (page : Page) (k : ℕ) (pages new : List Page) → pages ≡ rest_of page k → new ≡ pages ++ record { 0 = page.0 + 511 - k } ∷ [] → new ≡ rest_of page (k + 1)
rest_next page k pages new is e =
    e ∙ ap (λ (l : List Page). l ++ record { 0 = page.0 + 511 - k } ∷ []) is
    ∙ sym (map-range_with_len_more (λ k. let p : Page = record { 0 = page.0 + 511 - k } in p) 0 k k (omega arith))
