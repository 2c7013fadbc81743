use Rattle.std.proofs.Common.{List, [], ◌∷◌}
use Rattle.std.specs.Prelude.{codes}
use Rattle.image_text.specs.Written.{Fields, title_fields, value_fields, vmpl_fields}
use Rattle.image_text.proofs.WriteLemmas.{ok_by, first_line, line_more}
use Rattle.image_text.proofs.image.put_head.Goals as goal

pub returns : goal.returns
returns c =
    let image = c.args.image.now in
    let old = c.args.out.now.items in
    let title = title_fields image.second in
    let regions = value_fields (codes "regions") image.regions in
    let levels = vmpl_fields image.vmpl image.second in
    let features = value_fields (codes "features") image.features in
    let one = first_line old title _ c.in_ok-put_title.ensures in
    let two = line_more old (title ∷ []) regions _ _ one c.in_ok-put_value.ensures in
    let three = line_more old (title ∷ regions ∷ []) levels _ _ two c.in_ok-put_levels.ensures in
    let four = line_more old (title ∷ regions ∷ levels ∷ []) features _ _ three c.in_ok-put_value-2.ensures in
    ok_by c.put_value-3.result _ _ c.put_value-3.ensures
    (λ h. line_more old (title ∷ regions ∷ levels ∷ features ∷ []) (value_fields (codes "ghcb") image.ghcb.0) _ _ four h)
