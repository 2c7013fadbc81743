-- A pool whose last block is split.
use Rattle.std.proofs.Common.{◌≡◌, ℕ, ◌+◌, ◌-◌, ◌<◌, ◌^◌, Bool, true, false, List, [], ◌∷◌, ◌++◌, length, refl, sym, ap, ◌∙◌, subst, Option, None, Some, Result, Ok, Err, IfOk, arith, append_assoc}
use Rattle.std.specs.Prelude.{if◌then◌else◌, map, OnErr}
use Rattle.std.specs.List.{range_with_len}
use Rattle.std.proofs.lemmas.List.{append-nil, length-append, map-append}
use Rattle.std.proofs.lemmas.List.FromFn.{length-map-range_with_len, map-range_with_len_more}
use Rattle.svsm_types.specs.declared.address.Page.{Page}
use Rattle.svsm_types.specs.declared.platform.Size.{Size}
use Rattle.svsm_types.specs.declared.platform.Size.TheVariants.{Small, Large}
use Rattle.svsm_types.specs.declared.no_memory.NoMemory.{NoMemory}
use Rattle.svsm_steps.specs.State.{Block, State, Constants}
use Rattle.svsm_steps.specs.Image.{block_of, no_region}
use Rattle.svsm_steps.specs.Formed.{IsSizedPage, IsWellFormed}
use Rattle.svsm_steps.specs.Mapped.{AreBlocks}
use Rattle.svsm_steps.specs.Pool.{same_size, last_block, pool_answer, pool_after}
use Rattle.svsm_steps.specs.declared.answer.Answer.{Answer as Told}
use Rattle.svsm_steps.specs.declared.answer.Answer.TheVariants as Answer
use Rattle.svsm_steps.specs.declared.entry.Entry.{Entry}
use Rattle.svsm_steps.specs.declared.step.Step.{Step}
use Rattle.svsm_steps.specs.declared.step.Step.TheVariants.{PoolPush, PoolPop}
use Rattle.svsm_laws.specs.SplitPool.{later_parts, with_last_split}
use Rattle.svsm_laws.proofs.Mapped.{next_mapped}
use Rattle.svsm_laws.proofs.Refusals.{later_none}
use Rattle.svsm_laws.proofs.SplitPool.{splits_the_last}
use Rattle.machine_core.specs.PoolView.{block_view, blocks_view, PoolActs}
use Rattle.machine_core.proofs.PoolLemmas.{later_by, later_rest, view_length}

-- nothing but a pool

abbrev with_split : Bool → Constants
with_split split = record { regions = 512; vmpl = record { 0 = 0 }; features = 0; split = split; cores = [] }

abbrev with_pool : List Block → State
with_pool blocks = record { regions = λ _. no_region; pool = blocks; rows = [] }

abbrev entry_of : Step → Entry
entry_of step = record { ticket = 0; core = 0; place = 0; step = step; answer = Answer.Done }

-- where no block is of 4K, the last one is of 2M

large_by : (size : Size) (b : Block) → (if same_size size Small then Some b else None) ≡ None → same_size size Large ≡ true
large_by Small b h = cc
large_by Large b h = refl

end_is_large : (front : List Block) (b : Block) → last_block Small (front ++ b ∷ []) ≡ None → same_size b.size Large ≡ true
end_is_large [] b h = large_by b.size b h
end_is_large (x ∷ front) b h = end_is_large front b (later_none (last_block Small (front ++ b ∷ [])) _ h)

end_is_last : (front : List Block) (b : Block) → same_size b.size Large ≡ true → last_block Large (front ++ b ∷ []) ≡ Some b
end_is_last [] b large = ap (λ (t : Bool). if t then Some b else None) large
end_is_last (x ∷ front) b large = later_by (last_block Large (front ++ b ∷ [])) b _ (end_is_last front b large)

-- and its other pages stand in its place
split_end : (front : List Block) (b : Block) → same_size b.size Large ≡ true → with_last_split (front ++ b ∷ []) ≡ front ++ later_parts b.page.0
split_end [] b large = ap (λ (t : Bool). if t then later_parts b.page.0 ++ [] else b ∷ []) large ∙ append-nil (later_parts b.page.0)
split_end (x ∷ front) b large =
    later_rest (last_block Large (front ++ b ∷ [])) b (x ∷ with_last_split (front ++ b ∷ [])) _ (end_is_last front b large)
    ∙ ap (λ (l : List Block). x ∷ l) (split_end front b large)

-- a 4K pop of such a pool
pub splits_end : (blocks front : List (Page × Size)) (b : Page × Size) → blocks ≡ front ++ b ∷ [] → last_block Small (blocks_view blocks) ≡ None
    → (pool_answer true (blocks_view blocks) (PoolPop Small) ≡ Answer.Block b.0 (length front + 511))
    × (pool_after true (blocks_view blocks) (PoolPop Small) ≡ blocks_view front ++ later_parts b.0.0)
splits_end blocks front b is none =
    let view = blocks_view front in
    let was : blocks_view blocks ≡ view ++ block_view b ∷ [] = ap blocks_view is ∙ map-append block_view front (b ∷ []) in
    let none' : last_block Small (view ++ block_view b ∷ []) ≡ None = ap (last_block Small) (sym was) ∙ none in
    let large = end_is_large view (block_view b) none' in
    let splits = splits_the_last (view ++ block_view b ∷ []) (block_view b) none' (end_is_last view (block_view b) large) in
    let left : with_last_split (view ++ block_view b ∷ []) ≡ view ++ later_parts b.0.0 = split_end view (block_view b) large in
    let count : length (view ++ later_parts b.0.0) ≡ length front + 511 =
    omega (arith, length-append view (later_parts b.0.0), view_length front, length-map-range_with_len (λ k. block_of Small (b.0.0 + 511 - k)) 0 511) in (
      ap (λ (pool : List Block). pool_answer true pool (PoolPop Small)) was ∙ splits.0 ∙ ap (λ (m : ℕ). Answer.Block b.0 m) (ap length left ∙ count),
      ap (λ (pool : List Block). pool_after true pool (PoolPop Small)) was ∙ splits.1 ∙ left,
    )

pub splits_as : (blocks front new : List (Page × Size)) (b : Page × Size) (n : ℕ) → blocks ≡ front ++ b ∷ [] → last_block Small (blocks_view blocks) ≡ None
    → blocks_view new ≡ blocks_view front ++ later_parts b.0.0 → n ≡ length new → PoolActs true (PoolPop Small) (Answer.Block b.0 n) blocks new
splits_as blocks front new b n is none left count =
    let splits = splits_end blocks front b is none in
    let long : length new ≡ length front + 511 =
    omega (
      arith,
      view_length new,
      ap length left,
      length-append (blocks_view front) (later_parts b.0.0),
      view_length front,
      length-map-range_with_len (λ k. block_of Small (b.0.0 + 511 - k)) 0 511,
    ) in
    record { answer = ap (λ (m : ℕ). Answer.Block b.0 m) (count ∙ long) ∙ sym splits.0; blocks = left ∙ sym splits.1 }

pub splits_told : (blocks front : List (Page × Size)) (b : Page × Size) → blocks ≡ front ++ b ∷ [] → last_block Small (blocks_view blocks) ≡ None
    → Answer.Block b.0 (length blocks + 510) ≡ pool_answer true (blocks_view blocks) (PoolPop Small)
splits_told blocks front b is none =
    let long : length blocks + 510 ≡ length front + 511 = omega (arith, ap length is, length-append front (b ∷ [])) in
    ap (λ (m : ℕ). Answer.Block b.0 m) long ∙ sym (splits_end blocks front b is none).0

-- a 2M block has all its pages in the map

page_by : (b : Block) → same_size b.size Large ≡ true → AreBlocks 512 (b ∷ []) → b.page.0 + 511 < 2 ^ 64
page_by b large h = at b.size large h.0
  where
    at : (size : Size) → same_size size Large ≡ true → IsSizedPage 512 size b.page.0 → b.page.0 + 511 < 2 ^ 64
    at Small large h = cc
    at Large large h = omega arith

end_is_whole : (front : List Block) (b : Block) → same_size b.size Large ≡ true → AreBlocks 512 (front ++ b ∷ []) → b.page.0 + 511 < 2 ^ 64
end_is_whole [] b large h = page_by b large h
end_is_whole (x ∷ front) b large h = end_is_whole front b large h.1

pub end_page : (blocks front : List (Page × Size)) (b : Page × Size) → blocks ≡ front ++ b ∷ [] → last_block Small (blocks_view blocks) ≡ None → AreBlocks 512 (blocks_view blocks)
    → b.0.0 + 511 < 2 ^ 64
end_page blocks front b is none h =
    let was : blocks_view blocks ≡ blocks_view front ++ block_view b ∷ [] = ap blocks_view is ∙ map-append block_view front (b ∷ []) in
    end_is_whole (blocks_view front) (block_view b) (end_is_large (blocks_view front) (block_view b) (ap (last_block Small) (sym was) ∙ none)) (subst (AreBlocks 512) was h)

-- a step of the pool keeps its blocks in the map

after_step : (split : Bool) (blocks : List Block) (step : Step) → IsWellFormed 512 step → AreBlocks 512 blocks → AreBlocks 512 (pool_after split blocks step)
after_step split blocks (PoolPush page size) formed h = (next_mapped (with_split split) (with_pool blocks) (entry_of (PoolPush page size)) formed (h, tt)).0
after_step split blocks (PoolPop size) formed h = (next_mapped (with_split split) (with_pool blocks) (entry_of (PoolPop size)) formed (h, tt)).0
after_step split blocks _ formed h = h

pub stays_mapped : (split : Bool) (old new : List (Page × Size)) (step : Step) (result : Result Told NoMemory) → IsWellFormed 512 step → AreBlocks 512 (blocks_view old)
    → IfOk result (λ answer. PoolActs split step answer old new) → OnErr result (blocks_view new ≡ blocks_view old) → AreBlocks 512 (blocks_view new)
stays_mapped split old new step (Ok answer) formed h ok err = subst (AreBlocks 512) (sym ok.blocks) (after_step split (blocks_view old) step formed h)
stays_mapped split old new step (Err error) formed h ok err = subst (AreBlocks 512) (sym err) h

-- the pages, one after another

pub parts_more : (old : List Block) (blocks new : List (Page × Size)) (page k : ℕ) → blocks_view blocks ≡ old ++ map (λ k. block_of Small (page + 511 - k)) (range_with_len 0 k)
    → new ≡ blocks ++ (record { 0 = page + 511 - k }, Small) ∷ [] → blocks_view new ≡ old ++ map (λ k. block_of Small (page + 511 - k)) (range_with_len 0 (k + 1))
parts_more old blocks new page k is more =
    let part : ℕ → Block = λ k. block_of Small (page + 511 - k) in
    ap blocks_view more ∙ map-append block_view blocks ((record { 0 = page + 511 - k }, Small) ∷ [])
    ∙ ap (λ (l : List Block). l ++ part k ∷ []) is ∙ append_assoc old (map part (range_with_len 0 k)) (part k ∷ [])
    ∙ ap (λ (l : List Block). old ++ l) (sym (map-range_with_len_more part 0 k k (omega arith)))
