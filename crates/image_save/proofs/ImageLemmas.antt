-- The image that is gathered.
use Rattle.std.proofs.Common.{◌≡◌, ℕ, List, [], ap, ◌∙◌}
use Rattle.std.specs.Prelude.{map}
use Rattle.svsm_types.specs.declared.address.Page.{Page}
use Rattle.svsm_types.specs.declared.image.Image.{Image}
use Rattle.svsm_types.specs.declared.image.CoreLine.{CoreLine}
use Rattle.svsm_types.specs.declared.image.Range.{Range}
use Rattle.svsm_types.specs.declared.image.Fill.{Fill}
use Rattle.svsm_types.specs.declared.image.Span.{Span}
use Rattle.svsm_types.specs.declared.image.FaultAt.{FaultAt}
use Rattle.svsm_types.specs.declared.image.HostLine.{HostLine}
use Rattle.svsm_types.specs.declared.platform.Size.{Size}
use Rattle.svsm_steps.specs.State.{State}
use Rattle.image_text.specs.Saved.{saved, saved_core, saved_block, saved_ranges, saved_large, saved_fills}

-- an image with other ranges, large regions, core lines, fills and blocks
abbrev pub built : Image → List Range → List ℕ → List CoreLine → List Fill → List (Page × Size) → Image
built image ranges large cores fills blocks = record image {
  ranges = ranges;
  large = large;
  accepts = [];
  cores = cores;
  fills = fills;
  faults = [];
  host = [];
  blocks = blocks;
}

pub built_alike : (image : Image) (ranges ranges' : List Range) (large large' : List ℕ) (cores cores' : List CoreLine) (fills fills' : List Fill)
    (blocks blocks' : List (Page × Size)) → ranges ≡ ranges' → large ≡ large' → cores ≡ cores' → fills ≡ fills' → blocks ≡ blocks'
    → built image ranges large cores fills blocks ≡ built image ranges' large' cores' fills' blocks'
built_alike image ranges ranges' large large' cores cores' fills fills' blocks blocks' a b c d e =
    ap (λ (l : List Range). built image l large cores fills blocks) a
    ∙ ap (λ (l : List ℕ). built image ranges' l cores fills blocks) b
    ∙ ap (λ (l : List CoreLine). built image ranges' large' l fills blocks) c
    ∙ ap (λ (l : List Fill). built image ranges' large' cores' l blocks) d
    ∙ ap (λ (l : List (Page × Size)). built image ranges' large' cores' fills' l) e

abbrev with_empty : Image → List Span → List FaultAt → List HostLine → Image
with_empty image accepts faults host = record image { accepts = accepts; faults = faults; host = host }

pub emptied : (image : Image) (ranges : List Range) (large : List ℕ) (cores : List CoreLine) (fills : List Fill) (blocks : List (Page × Size))
    (accepts : List Span) (faults : List FaultAt) (host : List HostLine) → accepts ≡ [] → faults ≡ [] → host ≡ []
    → with_empty (built image ranges large cores fills blocks) accepts faults host ≡ built image ranges large cores fills blocks
emptied image ranges large cores fills blocks accepts faults host a b c =
    let base = built image ranges large cores fills blocks in
    ap (λ (l : List Span). with_empty base l faults host) a
    ∙ ap (λ (l : List FaultAt). with_empty base [] l host) b
    ∙ ap (λ (l : List HostLine). with_empty base [] [] l) c

pub image_is : (image : Image) (state : State) (ranges : List Range) (large : List ℕ) (accepts : List Span) (cores : List CoreLine) (fills : List Fill)
    (faults : List FaultAt) (host : List HostLine) (blocks : List (Page × Size)) → ranges ≡ saved_ranges image state → large ≡ saved_large image state
    → accepts ≡ [] → cores ≡ map (saved_core state.rows) image.cores → fills ≡ saved_fills image state → faults ≡ [] → host ≡ []
    → blocks ≡ map saved_block state.pool → with_empty (built image ranges large cores fills blocks) accepts faults host ≡ saved image state
image_is image state ranges large accepts cores fills faults host blocks a b c d e f g h =
    emptied image ranges large cores fills blocks accepts faults host c f g
    ∙ built_alike image ranges (saved_ranges image state) large (saved_large image state) cores (map (saved_core state.rows) image.cores) fills (saved_fills image state)
    blocks (map saved_block state.pool) a b d e h
