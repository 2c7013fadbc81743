use Rattle.std.proofs.Common.{◌∙◌, ap, List}
use Rattle.std.specs.Prelude.{map}
use Rattle.svsm_types.specs.declared.image.CoreLine.{CoreLine}
use Rattle.svsm_types.specs.declared.owner.RmpRow.{RmpRow}
use Rattle.svsm_types.specs.declared.vcpu.Row.{Row}
use Rattle.image_text.specs.Collected.{rows_saying}
use Rattle.image_text.specs.Saved.{ranges_from, saved_core}
use Rattle.image_text.proofs.CollectLemmas.{ranges_are_saved}
use Rattle.image_save.specs.Standing.{standing}
use Rattle.image_save.proofs.ImageLemmas.{image_is}
use Rattle.image_save.proofs.saving.saved_image.Goals as goal

pub returns-clause-saved : goal.returns-clause-saved
returns-clause-saved c =
    let image = c.args.image.now in
    let state = standing image.regions c.args.places.now in
    image_is image state c.from_vec.result c.from_vec-2.result c.new.result c.from_vec-3.result c.from_vec-4.result c.new-2.result c.new-3.result c.from_vec-5.result
    (c.from_vec.ensures ∙ c.in_ok-ranges.ensures ∙ ap (λ (l : List RmpRow). ranges_from 0 (rows_saying image.ghcb.0 0 l)) c.requires.rows ∙ ranges_are_saved image state)
    (c.from_vec-2.ensures ∙ c.in_ok-large.ensures)
    c.new.ensures
    (c.from_vec-3.ensures ∙ c.in_ok-cores.ensures ∙ ap (λ (l : List Row). map (saved_core l) c.as_slice.result.now) c.rows_at-vcpus.ensures
    ∙ ap (λ (l : List CoreLine). map (saved_core state.rows) l) c.as_slice.ensures)
    (c.from_vec-4.ensures ∙ c.in_ok-fills.ensures.fills)
    c.new-2.ensures
    c.new-3.ensures
    (c.from_vec-5.ensures ∙ c.in_ok-blocks.ensures)

pub returns-clause-fits : goal.returns-clause-fits
returns-clause-fits c = record { features = c.has_64_bits.ensures; words = c.in_ok-fills.ensures.fit }
