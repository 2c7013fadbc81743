use Rattle.std.proofs.Common.{◌≡◌}
use Rattle.std.specs.Prelude.{map}
use Rattle.std.specs.List.{range_with_len}
use Rattle.svsm_steps.specs.State.{row_at}
use Rattle.image_save.specs.Standing.{standing}
use Rattle.image_save.proofs.pages.page_rows.Given as goal

abbrev pub invariant-pages : goal.invariant-pages
invariant-pages l = l.rows.items ≡ map (λ page. row_at page (standing l.image.regions l.places)) (range_with_len 0 l.page)
