-- Blocks laid out a run at a time.
use Rattle.std.proofs.Common.{◌≡◌, ℕ, zero, suc, ◌+◌, ◌≤◌, ◌<◌, List, [], ◌∷◌, ◌++◌, length, take, drop, map, refl, sym, ap, ◌∙◌, arith}
use Rattle.std.specs.Prelude.{replicate, slice_index_or}
use Rattle.std.proofs.Math.Seq.{take-add, take-length}
use Rattle.std.proofs.lemmas.List.{map-append, length-drop, length-take, take_more, take_all}
use Rattle.svsm_types.specs.declared.address.Page.{Page}
use Rattle.svsm_types.specs.declared.platform.Size.{Size}
use Rattle.svsm_types.specs.declared.platform.Size.TheVariants.{Small, Large}
use Rattle.deposit_pool.specs.declared.order.Run.{Run}
use Rattle.deposit_pool.specs.Sizes.{count_of}
use Rattle.deposit_pool.specs.Runs.{sizes_of, sizes_in}
use Rattle.deposit_pool.specs.PoolValue.{blocks_in}
use Rattle.deposit_pool.specs.Pairs.{pair_of, pairs_with}
use Rattle.deposit_pool.proofs.BlockLemmas.{joined, count_append}
use Rattle.deposit_pool.proofs.RunLemmas.{small_in, large_in, sizes_more}

-- the blocks of these sizes are laid out, by so many pages of each size
pub record IsLaid (small large : List Page) (sizes : List Size) (s l : ℕ) (blocks : List (Page × Size)) : Type 0 where
  pub smalls : count_of Small sizes ≡ s
  pub larges : count_of Large sizes ≡ l
  pub pairs : blocks ≡ map pair_of (blocks_in sizes (take s small) (take l large))

-- a run
large_pairs : (large : List Page) → map pair_of (blocks_in (replicate (length large) Large) [] large) ≡ pairs_with Large large
large_pairs [] = refl
large_pairs (page ∷ large) = ap (λ (l : List (Page × Size)). (page, Large) ∷ l) (large_pairs large)

run_pairs : (small large : List Page) → map pair_of (blocks_in (replicate (length small) Small ++ replicate (length large) Large) small large) ≡ pairs_with Small small ++ pairs_with Large large
run_pairs [] large = large_pairs large
run_pairs (page ∷ small) large = ap (λ (l : List (Page × Size)). (page, Small) ∷ l) (run_pairs small large)

run_laid : (run : Run) (small large : List Page) → length small ≡ run.small → length large ≡ run.large
    → map pair_of (blocks_in (sizes_of run) small large) ≡ pairs_with Small small ++ pairs_with Large large
run_laid run small large s l =
    ap (λ (n : ℕ). map pair_of (blocks_in (replicate n Small ++ replicate run.large Large) small large)) (sym s)
    ∙ ap (λ (n : ℕ). map pair_of (blocks_in (replicate (length small) Small ++ replicate n Large) small large)) (sym l)
    ∙ run_pairs small large

-- one more run
pub laid_more : (small large : List Page) (sizes : List Size) (s l : ℕ) (blocks new : List (Page × Size)) (run : Run) → IsLaid small large sizes s l blocks
    → s + run.small ≤ length small → l + run.large ≤ length large
    → new ≡ blocks ++ (pairs_with Small (take run.small (drop s small)) ++ pairs_with Large (take run.large (drop l large)))
    → IsLaid small large (sizes ++ sizes_of run) (s + run.small) (l + run.large) new
laid_more small large sizes s l blocks new run h fits_small fits_large e =
    let small' = take run.small (drop s small) in
    let large' = take run.large (drop l large) in
    let s' : length small' ≡ run.small = omega (arith, length-take run.small (drop s small), length-drop s small) in
    let l' : length large' ≡ run.large = omega (arith, length-take run.large (drop l large), length-drop l large) in
    let old = blocks_in sizes (take s small) (take l large) in
    record {
      smalls = small_in sizes run ∙ ap (λ (n : ℕ). n + run.small) h.smalls;
      larges = large_in sizes run ∙ ap (λ (n : ℕ). n + run.large) h.larges;
      pairs = e ∙ ap (λ (x : List (Page × Size)). x ++ (pairs_with Small small' ++ pairs_with Large large')) h.pairs
          ∙ ap (λ (x : List (Page × Size)). map pair_of old ++ x) (sym (run_laid run small' large' s' l'))
          ∙ sym (map-append pair_of old (blocks_in (sizes_of run) small' large'))
          ∙ ap (map pair_of) (sym (joined sizes (sizes_of run) (take s small) small' (take l large) large'
          (h.smalls ∙ omega (arith, length-take s small)) (h.larges ∙ omega (arith, length-take l large))))
          ∙ ap (λ (x : List Page). map pair_of (blocks_in (sizes ++ sizes_of run) x (take l large ++ large'))) (sym (take-add s run.small small))
          ∙ ap (λ (x : List Page). map pair_of (blocks_in (sizes ++ sizes_of run) (take (s + run.small) small) x)) (sym (take-add l run.large large));
    }

-- all of them
pub all_laid : (small large : List Page) (sizes : List Size) (s l : ℕ) (blocks : List (Page × Size)) → IsLaid small large sizes s l blocks → s ≡ length small → l ≡ length large
    → blocks ≡ map pair_of (blocks_in sizes small large)
all_laid small large sizes s l blocks h all_small all_large =
    h.pairs
    ∙ ap (λ (n : ℕ). map pair_of (blocks_in sizes (take n small) (take l large))) all_small
    ∙ ap (λ (n : ℕ). map pair_of (blocks_in sizes (take (length small) small) (take n large))) all_large
    ∙ ap (λ (x : List Page). map pair_of (blocks_in sizes x (take (length large) large))) (take-length small)
    ∙ ap (λ (x : List Page). map pair_of (blocks_in sizes small x)) (take-length large)

-- a run of some
fits : (size : Size) (runs : List Run) (k : ℕ) (d : Run) → k < length runs
    → count_of size (sizes_in (take k runs)) + count_of size (sizes_of (slice_index_or runs k d)) ≤ count_of size (sizes_in runs)
fits size [] k d h = absurd (omega arith)
fits size (run ∷ runs) zero d h = omega (arith, count_append size (sizes_of run) (sizes_in runs))
fits size (run ∷ runs) (suc k) d h =
    omega (arith, count_append size (sizes_of run) (sizes_in runs), count_append size (sizes_of run) (sizes_in (take k runs)), fits size runs k d (omega arith))

pub run_fits : (small large : List Page) (runs below : List Run) (last : Run) (k s l : ℕ) (d : Run) (sizes : List Size) (blocks : List (Page × Size)) → k < length runs
    → IsLaid small large (sizes_in (take k runs)) s l blocks → runs ≡ below → sizes_in below ++ sizes_of last ≡ sizes
    → count_of Small sizes ≡ length small → count_of Large sizes ≡ length large
    → (s + (slice_index_or runs k d).small ≤ length small) × (l + (slice_index_or runs k d).large ≤ length large)
run_fits small large runs below last k s l d sizes blocks h laid e is all_small all_large =
    let whole : sizes_in runs ++ sizes_of last ≡ sizes = ap (λ (r : List Run). sizes_in r ++ sizes_of last) e ∙ is in (
      omega (
        arith,
        laid.smalls,
        fits Small runs k d h,
        small_in [] (slice_index_or runs k d),
        count_append Small (sizes_in runs) (sizes_of last),
        ap (count_of Small) whole,
        all_small,
      ),
      omega (
        arith,
        laid.larges,
        fits Large runs k d h,
        large_in [] (slice_index_or runs k d),
        count_append Large (sizes_in runs) (sizes_of last),
        ap (count_of Large) whole,
        all_large,
      ),
    )

pub sizes_next : (runs : List Run) (k : ℕ) (d : Run) → k < length runs → sizes_in (take k runs) ++ sizes_of (slice_index_or runs k d) ≡ sizes_in (take (k + 1) runs)
sizes_next runs k d h = sym (sizes_more (take k runs) (slice_index_or runs k d)) ∙ ap sizes_in (sym (take_more runs k d h))

pub nothing_laid : (small large : List Page) (runs : List Run) (blocks : List (Page × Size)) → blocks ≡ [] → IsLaid small large (sizes_in (take 0 runs)) 0 0 blocks
nothing_laid small large runs blocks e = record { smalls = refl; larges = refl; pairs = e }

-- the last run
pub last_fits : (small large : List Page) (runs below : List Run) (last : Run) (k s l : ℕ) (sizes : List Size) (blocks : List (Page × Size)) → k ≡ length runs
    → IsLaid small large (sizes_in (take k runs)) s l blocks → runs ≡ below → sizes_in below ++ sizes_of last ≡ sizes
    → count_of Small sizes ≡ length small → count_of Large sizes ≡ length large
    → (s + last.small ≡ length small) × (l + last.large ≡ length large)
last_fits small large runs below last k s l sizes blocks end laid e is all_small all_large =
    let whole : sizes_in (take k runs) ++ sizes_of last ≡ sizes =
    ap (λ (r : List Run). sizes_in r ++ sizes_of last) (take_all k runs (omega arith) ∙ e) ∙ is in (
      omega (arith, laid.smalls, small_in (sizes_in (take k runs)) last, ap (count_of Small) whole, all_small),
      omega (arith, laid.larges, large_in (sizes_in (take k runs)) last, ap (count_of Large) whole, all_large),
    )

pub rest_laid : (small large : List Page) (runs below : List Run) (last : Run) (k s l : ℕ) (sizes : List Size) (blocks new : List (Page × Size)) → k ≡ length runs
    → IsLaid small large (sizes_in (take k runs)) s l blocks → runs ≡ below → sizes_in below ++ sizes_of last ≡ sizes
    → count_of Small sizes ≡ length small → count_of Large sizes ≡ length large
    → new ≡ blocks ++ (pairs_with Small (take last.small (drop s small)) ++ pairs_with Large (take last.large (drop l large)))
    → new ≡ map pair_of (blocks_in sizes small large)
rest_laid small large runs below last k s l sizes blocks new end laid e is all_small all_large more =
    let fit = last_fits small large runs below last k s l sizes blocks end laid e is all_small all_large in
    all_laid small large (sizes_in (take k runs) ++ sizes_of last) (s + last.small) (l + last.large) new
    (laid_more small large (sizes_in (take k runs)) s l blocks new last laid (omega (arith, fit.0)) (omega (arith, fit.1)) more) fit.0 fit.1
    ∙ ap (λ (r : List Run). map pair_of (blocks_in (sizes_in r ++ sizes_of last) small large)) (take_all k runs (omega arith) ∙ e)
    ∙ ap (λ (z : List Size). map pair_of (blocks_in z small large)) is
