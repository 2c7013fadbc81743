-- Which 2M blocks a step of the pool leaves.
use Rattle.std.proofs.Common.{◌≡◌, ℕ, zero, suc, ◌+◌, ◌-◌, Bool, true, false, List, [], ◌∷◌, ◌++◌, refl, sym, ap, ◌∙◌, Option, None, Some, inl, inr}
use Rattle.std.specs.Prelude.{if◌then◌else◌, ◌==◌, ◌&&◌, ◌||◌, ◌⊎◌, map, length}
use Rattle.std.specs.List.{list_any, range_with_len}
use Rattle.std.specs.Option.{option_map_or}
use Rattle.std.proofs.lemmas.Bool.{eq-eqb}
use Rattle.svsm_types.specs.Pages.{region_of}
use Rattle.svsm_types.specs.declared.address.Page.{Page}
use Rattle.svsm_types.specs.declared.platform.Size.{Size}
use Rattle.svsm_types.specs.declared.platform.Size.TheVariants.{Small, Large}
use Rattle.svsm_steps.specs.declared.answer.Answer.{Answer}
use Rattle.svsm_steps.specs.declared.answer.Answer.TheVariants.{Block, Empty}
use Rattle.svsm_steps.specs.State.{Block as PoolBlock}
use Rattle.svsm_steps.specs.Pool.{same_size, last_block, without_last, small_parts, with_last_open, opened, popped_answer}
use Rattle.save_laws.specs.Blocks.{is_large_of}

pub or_cases : (a b : Bool) → a || b ≡ true → (a ≡ true) ⊎ (b ≡ true)
or_cases true b h = inl refl
or_cases false b h = inr h

pub or_left : (a b : Bool) → a ≡ true → a || b ≡ true
or_left true b h = refl
or_left false b h = cc

pub or_right : (a b : Bool) → b ≡ true → a || b ≡ true
or_right true b h = refl
or_right false b h = h

or_more : (a b c : Bool) → (b ≡ true → c ≡ true) → a || b ≡ true → a || c ≡ true
or_more true b c f h = refl
or_more false b c f h = f h

-- a push
pub any_pushed : {A : Type 0} (test : A → Bool) (xs : List A) (x : A) → list_any test (xs ++ x ∷ []) ≡ true → (list_any test xs ≡ true) ⊎ (test x ≡ true)
any_pushed test [] x h = last (test x) h
  where
    last : (b : Bool) → b || false ≡ true → (false ≡ true) ⊎ (b ≡ true)
    last true h = inr refl
    last false h = cc
any_pushed test (y ∷ xs) x h = by_test (test y) (list_any test (xs ++ x ∷ [])) (list_any test xs) (test x) (any_pushed test xs x) h
  where
    by_test : (a b c d : Bool) → (b ≡ true → (c ≡ true) ⊎ (d ≡ true)) → a || b ≡ true → (a || c ≡ true) ⊎ (d ≡ true)
    by_test true b c d f h = inl refl
    by_test false b c d f h = f h

-- a pop
without_by : (test : PoolBlock → Bool) (later : Option PoolBlock) (s : Bool) (x : PoolBlock) (xs rest : List PoolBlock)
    → (list_any test rest ≡ true → list_any test xs ≡ true)
    → list_any test (option_map_or (λ (l : PoolBlock). x ∷ rest) later (if s then xs else x ∷ xs)) ≡ true → list_any test (x ∷ xs) ≡ true
without_by test (Some l) s x xs rest f h = or_more (test x) (list_any test rest) (list_any test xs) f h
without_by test None true x xs rest f h = or_right (test x) (list_any test xs) h
without_by test None false x xs rest f h = h

any_without : (test : PoolBlock → Bool) (size : Size) (xs : List PoolBlock) → list_any test (without_last size xs) ≡ true → list_any test xs ≡ true
any_without test size [] h = h
any_without test size (x ∷ xs) h =
    without_by test (last_block size xs) (same_size x.size size) x xs (without_last size xs) (any_without test size xs) h

-- the opened block
parts_none : (number : ℕ) (f : ℕ → Page) (first count : ℕ) (xs : List PoolBlock)
    → list_any (is_large_of number) (map (λ k. record { page = f k; size = Small }) (range_with_len first count) ++ xs) ≡ list_any (is_large_of number) xs
parts_none number f first zero xs = refl
parts_none number f first (suc count) xs = parts_none number f (first + 1) count xs

open_by : (number : ℕ) (later : Option PoolBlock) (s : Bool) (x : PoolBlock) (xs rest : List PoolBlock)
    → (list_any (is_large_of number) rest ≡ true → list_any (is_large_of number) xs ≡ true)
    → list_any (is_large_of number) (option_map_or (λ (l : PoolBlock). x ∷ rest) later (if s then small_parts x.page.0 ++ xs else x ∷ xs)) ≡ true
    → list_any (is_large_of number) (x ∷ xs) ≡ true
open_by number (Some l) s x xs rest f h = or_more (is_large_of number x) (list_any (is_large_of number) rest) (list_any (is_large_of number) xs) f h
open_by number None true x xs rest f h =
    or_right (is_large_of number x) (list_any (is_large_of number) xs)
    (sym (parts_none number (λ k. record { 0 = x.page.0 + 511 - k }) 0 512 xs) ∙ h)
open_by number None false x xs rest f h = h

any_with_open : (number : ℕ) (xs : List PoolBlock) → list_any (is_large_of number) (with_last_open xs) ≡ true → list_any (is_large_of number) xs ≡ true
any_with_open number [] h = h
any_with_open number (x ∷ xs) h =
    open_by number (last_block Large xs) (same_size x.size Large) x xs (with_last_open xs) (any_with_open number xs) h

opened_by : (number : ℕ) (last : Option PoolBlock) (pool : List PoolBlock)
    → list_any (is_large_of number) (option_map_or (λ (block : PoolBlock). pool) last (with_last_open pool)) ≡ true → list_any (is_large_of number) pool ≡ true
opened_by number (Some block) pool h = h
opened_by number None pool h = any_with_open number pool h

any_opened : (number : ℕ) (split : Bool) (size : Size) (pool : List PoolBlock)
    → list_any (is_large_of number) (opened split size pool) ≡ true → list_any (is_large_of number) pool ≡ true
any_opened number true Small pool h = opened_by number (last_block Small pool) pool h
any_opened number true Large pool h = h
any_opened number false Small pool h = h
any_opened number false Large pool h = h

pub any_popped : (number : ℕ) (split : Bool) (size : Size) (pool : List PoolBlock)
    → list_any (is_large_of number) (without_last size (opened split size pool)) ≡ true → list_any (is_large_of number) pool ≡ true
any_popped number split size pool h = any_opened number split size pool (any_without (is_large_of number) size (opened split size pool) h)

-- the block that a pop of 2M gives stood in the pool

large_by : (s : Bool) (x b : PoolBlock) (number : ℕ) → same_size x.size Large ≡ s → (if s then Some x else None) ≡ Some b → region_of b.page.0 ≡ number
    → is_large_of number x ≡ true
large_by true x b number s e r =
    let same : x ≡ b = cc in
    let at : (region_of x.page.0 == number) ≡ true = eq-eqb _ _ (ap (λ (y : PoolBlock). region_of y.page.0) same ∙ r) in
    ap (λ (t : Bool). t && (region_of x.page.0 == number)) s ∙ at
large_by false x b number s e r = cc

last_by : (later : Option PoolBlock) (s : Bool) (x b : PoolBlock) (xs : List PoolBlock) (number : ℕ) → same_size x.size Large ≡ s
    → ((l : PoolBlock) → later ≡ Some l → region_of l.page.0 ≡ number → list_any (is_large_of number) xs ≡ true)
    → option_map_or (λ (l : PoolBlock). Some l) later (if s then Some x else None) ≡ Some b → region_of b.page.0 ≡ number
    → list_any (is_large_of number) (x ∷ xs) ≡ true
last_by (Some l) s x b xs number is rest e r =
    let same : l ≡ b = cc in
    or_right (is_large_of number x) (list_any (is_large_of number) xs) (rest l refl (ap (λ (y : PoolBlock). region_of y.page.0) same ∙ r))
last_by None s x b xs number is rest e r = or_left (is_large_of number x) (list_any (is_large_of number) xs) (large_by s x b number is e r)

last_any : (number : ℕ) (pool : List PoolBlock) (b : PoolBlock) → last_block Large pool ≡ Some b → region_of b.page.0 ≡ number
    → list_any (is_large_of number) pool ≡ true
last_any number [] b e r = cc
last_any number (x ∷ xs) b e r = last_by (last_block Large xs) (same_size x.size Large) x b xs number refl (λ l. last_any number xs l) e r

given_by : (number : ℕ) (last : Option PoolBlock) (pool : List PoolBlock) (page : Page) (left : ℕ) → last_block Large pool ≡ last
    → option_map_or (λ (block : PoolBlock). Block block.page (length (without_last Large pool))) last (Empty (length pool)) ≡ Block page left
    → region_of page.0 ≡ number → list_any (is_large_of number) pool ≡ true
given_by number (Some b) pool page left is e r =
    let same : b.page ≡ page = cc in last_any number pool b is (ap (λ (p : Page). region_of p.0) same ∙ r)
given_by number None pool page left is e r = cc

pub popped_stood : (number : ℕ) (split : Bool) (pool : List PoolBlock) (page : Page) (left : ℕ) → Block page left ≡ popped_answer Large (opened split Large pool)
    → region_of page.0 ≡ number → list_any (is_large_of number) pool ≡ true
popped_stood number true pool page left e r = given_by number (last_block Large pool) pool page left refl (sym e) r
popped_stood number false pool page left e r = given_by number (last_block Large pool) pool page left refl (sym e) r
