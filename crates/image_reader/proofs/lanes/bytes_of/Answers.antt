use Rattle.std.proofs.Common.{[], ◌∷◌, sym, ◌∙◌}
use Rattle.image_reader.proofs.LaneLemmas.{byte_at, all_listed}
use Rattle.image_reader.proofs.lanes.bytes_of.Goals as goal

pub returns : goal.returns
returns c =
    let v = c.args.values in
    let long = c.fits-values.0 in
    (λ i. byte_at v long 0 tt i ∷ byte_at v long 2 tt i ∷ byte_at v long 4 tt i ∷ byte_at v long 6 tt i ∷ byte_at v long 8 tt i ∷ byte_at v long 10 tt i ∷ byte_at v long 12 tt i ∷ byte_at v long 14 tt i ∷ []) ∙ sym (all_listed v long)
