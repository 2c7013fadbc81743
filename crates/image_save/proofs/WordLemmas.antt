-- Words, one page after another.
use Rattle.std.proofs.Common.{◌≡◌, ◌≢◌, ℕ, zero, suc, ◌+◌, ◌*◌, ◌-◌, ◌^◌, ◌<◌, ◌≤◌, ⊎_elim, Bool, List, [], ◌∷◌, ◌++◌, length, refl, sym, ap, ◌∙◌, subst, arith}
use Rattle.std.specs.Prelude.{if◌then◌else◌, map}
use Rattle.std.specs.List.{range_with_len}
use Rattle.std.proofs.lemmas.List.FromFn.{map-range_with_len_more, length-map-range_with_len}
use Rattle.std.proofs.lemmas.List.{map-append}
use Rattle.svsm_types.specs.declared.image.Fill.{Fill}
use Rattle.svsm_types.specs.declared.image.Image.{Image}
use Rattle.image_text.specs.Fits.{FitBeforePage}
use Rattle.image_text.specs.Saved.{saved_fills}
use Rattle.std.proofs.lemmas.Bool.{eq-eqb, ne_eqb, cases_lt}
use Rattle.svsm_types.specs.Pages.{page_of, region_of}
use Rattle.platform_trait.specs.WordsOf.{IsBlank}
use Rattle.svsm_steps.specs.State.{State, word_at}
use Rattle.image_text.specs.Collected.{word_if, word_put, words_put, EndBy}
use Rattle.image_text.proofs.FillMoreLemmas.{words_put_both, zeros_put, end_words, end_word, fills_are_put}
use Rattle.image_save.specs.Gathered.{page_words, PageFits}

-- one word more

pub word_more : (old now new : List Fill) (first count : ℕ) (word : ℕ → ℕ) → now ≡ words_put old first (map word (range_with_len first count))
    → new ≡ word_if now (first + count) (word (first + count)) → new ≡ words_put old first (map word (range_with_len first (count + 1)))
word_more old now new first count word was is =
    let at : first + length (map word (range_with_len first count)) ≡ first + count = omega (arith, length-map-range_with_len word first count) in
    is ∙ ap (λ (l : List Fill). word_if l (first + count) (word (first + count))) was
    ∙ sym (ap (words_put old first) (map-range_with_len_more word first count (first + count) refl)
    ∙ words_put_both old first (map word (range_with_len first count)) (word (first + count) ∷ [])
    ∙ ap (λ (n : ℕ). words_put (words_put old first (map word (range_with_len first count))) n (word (first + count) ∷ [])) at)

pub end_more : (now new : List Fill) (at word : ℕ) → EndBy at now → new ≡ word_if now at word → EndBy (at + 1) new
end_more now new at word ends is = subst (EndBy (at + 1)) (sym is) (end_word at word now ends)

-- a page that was never touched

pub blank_page : (old : List Fill) (page : ℕ) (words : ℕ → ℕ) → IsBlank page words → old ≡ words_put old (512 * page) (page_words page words)
unfolding page_words
blank_page old page words blank =
    sym (zeros_put old (512 * page) 512 (512 * page) (λ number. words (8 * number)) (λ n low high. blank (8 * n) (omega (arith, low, high))))

-- one page more

range-append : (a m l b : ℕ) → a + m ≡ b → range_with_len a m ++ range_with_len b l ≡ range_with_len a (m + l)
range-append a zero l b e =
    let from : a ≡ b = omega arith in
    let long : 0 + l ≡ l = omega arith in
    rw (from, long) refl
range-append a (suc m) l b e =
    let long : suc m + l ≡ suc (m + l) = omega arith in
    rw long (ap (λ r. a ∷ r) (range-append (a + 1) m l b (omega arith)))

same_words : (one other : ℕ → ℕ) (first count : ℕ) → ((n : ℕ) → first ≤ n → n < first + count → one n ≡ other n)
    → map one (range_with_len first count) ≡ map other (range_with_len first count)
same_words one other first zero same = refl
same_words one other first (suc count) same =
    ap (λ (w : ℕ). w ∷ map one (range_with_len (first + 1) count)) (same first (omega arith) (omega arith))
    ∙ ap (λ (l : List ℕ). other first ∷ l) (same_words one other (first + 1) count (λ n low high. same n (omega (arith, low)) (omega (arith, high))))

-- the words of a page of a region that stands so
pub words_here : (state : State) (page : ℕ) (words : ℕ → ℕ) → words ≡ (state.regions (region_of page)).hw.words
    → page_words page words ≡ map (λ number. word_at (8 * number) state) (range_with_len (512 * page) 512)
unfolding page_words
words_here state page words is =
    same_words (λ number. words (8 * number)) (λ number. word_at (8 * number) state) (512 * page) 512
    (λ n low high. let at : region_of (page_of (8 * n)) ≡ region_of page = omega (arith, low, high) in
    ap (λ (w : ℕ → ℕ). w (8 * n)) is ∙ ap (λ (r : ℕ). (state.regions r).hw.words (8 * n)) (sym at))

pub page_more : (state : State) (old new : List Fill) (page : ℕ) (words : ℕ → ℕ)
    → old ≡ words_put [] 0 (map (λ number. word_at (8 * number) state) (range_with_len 0 (512 * page)))
    → words ≡ (state.regions (region_of page)).hw.words → new ≡ words_put old (512 * page) (page_words page words)
    → new ≡ words_put [] 0 (map (λ number. word_at (8 * number) state) (range_with_len 0 (512 * (page + 1))))
page_more state old new page words was is put =
    let word : ℕ → ℕ = λ number. word_at (8 * number) state in
    let size : 0 + length (map word (range_with_len 0 (512 * page))) ≡ 512 * page = omega (arith, length-map-range_with_len word 0 (512 * page)) in
    let all : 512 * page + 512 ≡ 512 * (page + 1) = omega arith in
    put ∙ ap (words_put old (512 * page)) (words_here state page words is)
    ∙ ap (λ (l : List Fill). words_put l (512 * page) (map word (range_with_len (512 * page) 512))) was
    ∙ ap (λ (n : ℕ). words_put (words_put [] 0 (map word (range_with_len 0 (512 * page)))) n (map word (range_with_len (512 * page) 512))) (sym size)
    ∙ sym (words_put_both [] 0 (map word (range_with_len 0 (512 * page))) (map word (range_with_len (512 * page) 512)))
    ∙ ap (words_put [] 0) (sym (map-append word (range_with_len 0 (512 * page)) (range_with_len (512 * page) 512))
    ∙ ap (map word) (range-append 0 (512 * page) 512 (512 * page) (omega arith) ∙ ap (range_with_len 0) all))

pub end_page : (new old : List Fill) (page : ℕ) (words : ℕ → ℕ) → EndBy (512 * page) old → new ≡ words_put old (512 * page) (page_words page words)
    → EndBy (512 * (page + 1)) new
unfolding page_words
end_page new old page words ends put =
    let word : ℕ → ℕ = λ number. words (8 * number) in
    let all : 512 * page + length (map word (range_with_len (512 * page) 512)) ≡ 512 * (page + 1) = omega (arith, length-map-range_with_len word (512 * page) 512) in
    subst (λ (l : List Fill). EndBy (512 * (page + 1)) l) (sym put)
    (subst (λ (n : ℕ). EndBy n (words_put old (512 * page) (map word (range_with_len (512 * page) 512)))) all
    (end_words (512 * page) (map word (range_with_len (512 * page) 512)) old ends))

pub word_put_if : (now new : List Fill) (at word : ℕ) → word ≢ 0 → new ≡ word_put now at word → new ≡ word_if now at word
word_put_if now new at word some put = put ∙ sym (ap (λ (t : Bool). if t then now else word_put now at word) (ne_eqb word 0 some))

pub word_none_if : (now : List Fill) (at word : ℕ) → word ≡ 0 → now ≡ word_if now at word
word_none_if now at word none = sym (ap (λ (t : Bool). if t then now else word_put now at word) (eq-eqb word 0 none))

pub all_words : (old now : List Fill) (page count : ℕ) (words : ℕ → ℕ) → count ≡ 512
    → now ≡ words_put old (512 * page) (map (λ number. words (8 * number)) (range_with_len (512 * page) count)) → now ≡ words_put old (512 * page) (page_words page words)
unfolding page_words
all_words old now page count words all is =
    is ∙ ap (λ (n : ℕ). words_put old (512 * page) (map (λ number. words (8 * number)) (range_with_len (512 * page) n))) all

pub all_pages : (image : Image) (state : State) (now : List Fill) (page : ℕ) → page ≡ 512 * image.regions
    → now ≡ words_put [] 0 (map (λ number. word_at (8 * number) state) (range_with_len 0 (512 * page))) → now ≡ saved_fills image state
all_pages image state now page all is =
    is ∙ ap (λ (n : ℕ). words_put [] 0 (map (λ number. word_at (8 * number) state) (range_with_len 0 (512 * n)))) all
    ∙ sym (fills_are_put (map (λ number. word_at (8 * number) state) (range_with_len 0 (512 * (512 * image.regions)))))

-- words of 64 bits

pub blank_fits : (page : ℕ) (words : ℕ → ℕ) → IsBlank page words → PageFits page words
blank_fits page words blank column low =
    let none : words (8 * (512 * page + column)) ≡ 0 = blank (8 * (512 * page + column)) (omega (arith, low)) in omega (arith, none)

pub column_more : (first count word : ℕ) (words : ℕ → ℕ) → ((column : ℕ) → column < count → words (8 * (first + column)) < 2 ^ 64)
    → word ≡ words (8 * (first + count)) → word < 2 ^ 64 → (column : ℕ) → column < count + 1 → words (8 * (first + column)) < 2 ^ 64
column_more first count word words before is fits column low =
    ⊎_elim (before column)
    (λ (high : count ≤ column).
    let last : count ≡ column = omega (arith, low, high) in
    subst (λ (n : ℕ). words (8 * (first + n)) < 2 ^ 64) last (subst (λ (n : ℕ). n < 2 ^ 64) is fits))
    (cases_lt column count)

pub fit_more : (state : State) (page : ℕ) (words : ℕ → ℕ) → FitBeforePage page state → words ≡ (state.regions (region_of page)).hw.words
    → PageFits page words → FitBeforePage (page + 1) state
fit_more state page words before is fits number low =
    ⊎_elim (before number)
    (λ (high : 512 * page ≤ number).
    let column : number - 512 * page < 512 = omega (arith, low, high) in
    let at : region_of (page_of (8 * number)) ≡ region_of page = omega (arith, low, high) in
    let same : 512 * page + (number - 512 * page) ≡ number = omega (arith, high) in
    let word : words (8 * number) ≡ word_at (8 * number) state =
    ap (λ (w : ℕ → ℕ). w (8 * number)) is ∙ ap (λ (r : ℕ). (state.regions r).hw.words (8 * number)) (sym at) in
    subst (λ (n : ℕ). n < 2 ^ 64) (ap (λ (n : ℕ). words (8 * n)) same ∙ word) (fits (number - 512 * page) column))
    (cases_lt number (512 * page))

pub all_fit : (state : State) (page pages : ℕ) → page ≡ pages → FitBeforePage page state → FitBeforePage pages state
all_fit state page pages all fits = subst (λ (n : ℕ). FitBeforePage n state) all fits
