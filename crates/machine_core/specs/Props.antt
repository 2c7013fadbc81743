-- That blocks lie in the map is a proposition.
use Rattle.std.proofs.Common.{ℕ, List, [], ◌∷◌}
use Rattle.std.proofs.Props.{props}
use Rattle.svsm_types.specs.declared.platform.Size.{Size}
use Rattle.svsm_types.specs.declared.platform.Size.TheVariants.{Small, Large}
use Rattle.svsm_steps.specs.State.{Block}
use Rattle.svsm_steps.specs.Formed.{IsSizedPage}
use Rattle.svsm_steps.specs.Mapped.{AreBlocks}

sized_prop : (regions : ℕ) (size : Size) (page : ℕ) → IsProp (IsSizedPage regions size page)
sized_prop regions Small page = hlevel props
sized_prop regions Large page = hlevel props

pub blocks_prop : (regions : ℕ) (blocks : List Block) → IsProp (AreBlocks regions blocks)
blocks_prop regions [] = hlevel props
blocks_prop regions (block ∷ blocks) =
    let first = sized_prop regions block.size block.page.0 in
    let rest = blocks_prop regions blocks in
    hlevel (props, first, rest)
