use Rattle.std.proofs.Common.{◌∙◌, ap}
use Rattle.region_core.specs.Whole.{row_in}
use Rattle.image_save.specs.Standing.{standing}
use Rattle.image_save.proofs.GatherLemmas.{row_more}
use Rattle.image_save.proofs.pages.page_rows.Goals as goal

pub pages-preserved : goal.pages-preserved
pages-preserved c =
    row_more (standing c.args.image.now.regions c.args.places.now) c.pages.rows.items c.push.new.self.items c.row.result c.pages.page c.pages.invariant
    (c.row.ensures ∙ ap (row_in c.pages.page) c.region_at-region.ensures.stands) c.in_ok-push.ensures.items
