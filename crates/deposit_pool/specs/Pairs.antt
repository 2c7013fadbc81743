-- Blocks as code lists them.
use Rattle.std.specs.Prelude.{List, map}
use Rattle.svsm_types.specs.declared.address.Page.{Page}
use Rattle.svsm_types.specs.declared.platform.Size.{Size}
use Rattle.svsm_steps.specs.State.{Block}

-- a block: its first page, and its size
abbrev pub pair_of : Block → Page × Size
pair_of block = (block.page, block.size)

-- each of these pages with a size
abbrev pub pairs_with : Size → List Page → List (Page × Size)
pairs_with size pages = map (λ page. (page, size)) pages
