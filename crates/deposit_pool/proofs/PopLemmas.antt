-- A pop: the block that goes, those that stay, and what is answered.
use Rattle.std.proofs.Common.{◌≡◌, false, ◌+◌, ◌≤◌, List, [], ◌∷◌, ◌++◌, length, take, drop, refl, sym, ap, ◌∙◌, subst, Option, None, Some, arith}
use Rattle.std.specs.Prelude.{replicate}
use Rattle.std.specs.Option.{option_map_or}
use Rattle.std.proofs.lemmas.List.{take-append-drop, length-append}
use Rattle.std.proofs.Math.ListN.{length-take}
use Rattle.svsm_types.specs.declared.address.Page.{Page}
use Rattle.svsm_types.specs.declared.platform.Size.{Size}
use Rattle.svsm_types.specs.declared.platform.Size.TheVariants.{Small, Large}
use Rattle.svsm_steps.specs.State.{Block}
use Rattle.svsm_steps.specs.Pool.{last_block, without_last, pool_answer}
use Rattle.svsm_steps.specs.declared.answer.Answer.{Answer}
use Rattle.svsm_steps.specs.declared.answer.Answer.TheVariants as answers
use Rattle.svsm_steps.specs.declared.step.Step.TheVariants.{PoolPop}
use Rattle.deposit_pool.specs.Sizes.{count_of, other, TakesLast}
use Rattle.deposit_pool.specs.PoolValue.{blocks_in}
use Rattle.deposit_pool.specs.Popped.{popped_answer, TakesPage, PopsAs}
use Rattle.deposit_pool.proofs.BlockLemmas.{Pops, small_goes, large_goes, no_small, no_large, nothing_goes, count_append, count_other, count_one, count_else}

-- how often each size stands in sizes of which the last of one is taken
pub count_was : (size : Size) (old new : List Size) (t : TakesLast size old new) → count_of size old ≡ count_of size t.front + 1
count_was size old new t =
    ap (count_of size) t.was
    ∙ omega (arith, count_append size t.front (size ∷ replicate t.after (other size)), count_one size (replicate t.after (other size)), count_other size t.after)

pub count_is : (size : Size) (old new : List Size) → TakesLast size old new → count_of size old ≡ count_of size new + 1
count_is size old new t =
    omega (arith, count_was size old new t, ap (count_of size) t.is, count_append size t.front (replicate t.after (other size)), count_other size t.after)

pub count_stays : (size : Size) (old new : List Size) → TakesLast size old new → count_of (other size) old ≡ count_of (other size) new
count_stays size old new t =
    ap (count_of (other size)) t.was
    ∙ omega (
      arith,
      count_append (other size) t.front (size ∷ replicate t.after (other size)),
      count_else size (replicate t.after (other size)),
      count_append (other size) t.front (replicate t.after (other size)),
      ap (count_of (other size)) t.is,
    )

front_fits : (size : Size) (old new : List Size) (t : TakesLast size old new) → count_of (other size) t.front ≤ count_of (other size) old
front_fits size old new t =
    omega (arith, ap (count_of (other size)) t.was, count_append (other size) t.front (size ∷ replicate t.after (other size)))

some_small : (sizes sizes' : List Size) (small small' large : List Page) (page : Page) → count_of Small sizes ≡ length small → count_of Large sizes ≡ length large
    → small ≡ small' ++ page ∷ [] → TakesLast Small sizes sizes' → Pops Small (blocks_in sizes small large) (blocks_in sizes' small' large) page
some_small sizes sizes' small small' large page s l e t =
    let n = count_of Large t.front in
    let fits : n ≤ length large = omega (arith, front_fits Small sizes sizes' t) in
    let split : take n large ++ drop n large ≡ large = take-append-drop n large in
    let low : count_of Small t.front ≡ length small' = omega (arith, count_was Small sizes sizes' t, ap length e, length-append small' (page ∷ [])) in
    let high : n ≡ length (take n large) = omega (arith, length-take n large) in
    subst (λ (old : List Size). Pops Small (blocks_in old small large) (blocks_in sizes' small' large) page) (sym t.was)
    (subst (λ (new : List Size). Pops Small (blocks_in (t.front ++ Small ∷ replicate t.after Large) small large) (blocks_in new small' large) page) (sym t.is)
    (subst (λ (pages : List Page). Pops Small (blocks_in (t.front ++ Small ∷ replicate t.after Large) pages large) (blocks_in (t.front ++ replicate t.after Large) small' large) page) (sym e)
    (subst (λ (pages : List Page). Pops Small (blocks_in (t.front ++ Small ∷ replicate t.after Large) (small' ++ page ∷ []) pages) (blocks_in (t.front ++ replicate t.after Large) small' pages) page) split
    (small_goes t.front t.after small' (take n large) (drop n large) page low high))))

some_large : (sizes sizes' : List Size) (small large large' : List Page) (page : Page) → count_of Small sizes ≡ length small → count_of Large sizes ≡ length large
    → large ≡ large' ++ page ∷ [] → TakesLast Large sizes sizes' → Pops Large (blocks_in sizes small large) (blocks_in sizes' small large') page
some_large sizes sizes' small large large' page s l e t =
    let n = count_of Small t.front in
    let fits : n ≤ length small = omega (arith, front_fits Large sizes sizes' t) in
    let split : take n small ++ drop n small ≡ small = take-append-drop n small in
    let low : count_of Large t.front ≡ length large' = omega (arith, count_was Large sizes sizes' t, ap length e, length-append large' (page ∷ [])) in
    let high : n ≡ length (take n small) = omega (arith, length-take n small) in
    subst (λ (old : List Size). Pops Large (blocks_in old small large) (blocks_in sizes' small large') page) (sym t.was)
    (subst (λ (new : List Size). Pops Large (blocks_in (t.front ++ Large ∷ replicate t.after Small) small large) (blocks_in new small large') page) (sym t.is)
    (subst (λ (pages : List Page). Pops Large (blocks_in (t.front ++ Large ∷ replicate t.after Small) small pages) (blocks_in (t.front ++ replicate t.after Small) small large') page) (sym e)
    (subst (λ (pages : List Page). Pops Large (blocks_in (t.front ++ Large ∷ replicate t.after Small) pages (large' ++ page ∷ [])) (blocks_in (t.front ++ replicate t.after Small) pages large') page) split
    (large_goes t.front t.after (take n small) (drop n small) large' page high low))))

-- from the table of a size
pub pop_small : (sizes sizes' : List Size) (small small' large : List Page) (page : Option Page) → count_of Small sizes ≡ length small → count_of Large sizes ≡ length large
    → TakesPage Small small small' sizes sizes' page → PopsAs Small (blocks_in sizes small large) (blocks_in sizes' small' large) page
pop_small sizes sizes' small small' large None s l (a, b, e) =
    let none : last_block Small (blocks_in sizes small large) ≡ None = ap (λ (pages : List Page). last_block Small (blocks_in sizes pages large)) a ∙ no_small sizes large in
    record {
      last = none;
      rest = ap (λ (new : List Size). blocks_in new small' large) e ∙ ap (λ (pages : List Page). blocks_in sizes pages large) (b ∙ sym a) ∙ sym (nothing_goes Small (blocks_in sizes small large) none);
    }
pop_small sizes sizes' small small' large (Some page) s l (e, t) =
    let pops = some_small sizes sizes' small small' large page s l e t in
    record { last = pops.last; rest = pops.rest }

pub pop_large : (sizes sizes' : List Size) (small large large' : List Page) (page : Option Page) → count_of Small sizes ≡ length small → count_of Large sizes ≡ length large
    → TakesPage Large large large' sizes sizes' page → PopsAs Large (blocks_in sizes small large) (blocks_in sizes' small large') page
pop_large sizes sizes' small large large' None s l (a, b, e) =
    let none : last_block Large (blocks_in sizes small large) ≡ None = ap (λ (pages : List Page). last_block Large (blocks_in sizes small pages)) a ∙ no_large sizes small in
    record {
      last = none;
      rest = ap (λ (new : List Size). blocks_in new small large') e ∙ ap (blocks_in sizes small) (b ∙ sym a) ∙ sym (nothing_goes Large (blocks_in sizes small large) none);
    }
pop_large sizes sizes' small large large' (Some page) s l (e, t) =
    let pops = some_large sizes sizes' small large large' page s l e t in
    record { last = pops.last; rest = pops.rest }

-- at the size that was asked for, and the blocks that were held
pub asked : (small size : Size) (was old new : List Block) (page : Option Page) → size ≡ small → was ≡ old → PopsAs small was new page → PopsAs size old new page
asked small size was old new page same is h =
    subst (λ (s : Size). PopsAs s old new page) (sym same) (subst (λ (blocks : List Block). PopsAs small blocks new page) is h)

-- the counts after it
pub counts_one : (size : Size) (pages pages' : List Page) (sizes sizes' : List Size) (page : Option Page) → count_of size sizes ≡ length pages
    → TakesPage size pages pages' sizes sizes' page → count_of size sizes' ≡ length pages'
counts_one size pages pages' sizes sizes' None s (a, b, e) = ap (count_of size) e ∙ s ∙ ap length (a ∙ sym b)
counts_one size pages pages' sizes sizes' (Some page) s (e, t) = omega (arith, count_is size sizes sizes' t, ap length e, length-append pages' (page ∷ []))

pub counts_other : (size : Size) (pages pages' : List Page) (sizes sizes' : List Size) (page : Option Page)
    → TakesPage size pages pages' sizes sizes' page → count_of (other size) sizes' ≡ count_of (other size) sizes
counts_other size pages pages' sizes sizes' None (a, b, e) = ap (count_of (other size)) e
counts_other size pages pages' sizes sizes' (Some page) (e, t) = sym (count_stays size sizes sizes' t)

-- the answer
answer_none : (o : Option Block) (f : Block → Answer) (empty : Answer) → o ≡ None → empty ≡ option_map_or f o empty
answer_none None f empty h = refl
answer_none (Some b) f empty h = cc

answer_some : (o : Option Block) (b : Block) (f : Block → Answer) (empty : Answer) → o ≡ Some b → f b ≡ option_map_or f o empty
answer_some None b f empty h = cc
answer_some (Some x) b f empty h = let e : x ≡ b = cc in ap f (sym e)

pub pop_answers : (size : Size) (old new : List Block) (page : Option Page) → PopsAs size old new page → popped_answer page (length new) ≡ pool_answer false old (PoolPop size)
pop_answers size old new None h =
    ap (λ (blocks : List Block). answers.Empty (length blocks)) (h.rest ∙ nothing_goes size old h.last)
    ∙ answer_none (last_block size old) (λ (block : Block). answers.Block block.page (length (without_last size old))) (answers.Empty (length old)) h.last
pop_answers size old new (Some page) h =
    ap (λ (blocks : List Block). answers.Block page (length blocks)) h.rest
    ∙ answer_some (last_block size old) (record { page = page; size = size }) (λ (block : Block). answers.Block block.page (length (without_last size old))) (answers.Empty (length old)) h.last
