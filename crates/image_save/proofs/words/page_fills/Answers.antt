use Rattle.std.proofs.Common.{◌*◌, ap, arith}
use Rattle.svsm_steps.specs.State.{RegionState}
use Rattle.rmp_table.specs.PackedKnown.{packed_known}
use Rattle.image_save.specs.Standing.{standing}
use Rattle.image_save.proofs.WordLemmas.{page_more, end_page, all_pages, fit_more, all_fit}
use Rattle.image_save.proofs.words.page_fills.Goals as goal

pub pages-preserved : goal.pages-preserved
pages-preserved c =
    let words = (packed_known c.region_at-region.result.now.scene).hw.words in (
      page_more (standing c.args.image.now.regions c.args.places.now) c.pages.fills.items c.put_page_words.new.fills.items c.pages.page words c.pages.invariant.0
          (ap (λ (r : RegionState). r.hw.words) c.region_at-region.ensures.stands) c.in_ok-put_page_words.ensures.put,
      end_page c.put_page_words.new.fills.items c.pages.fills.items c.pages.page words c.pages.invariant.1 c.in_ok-put_page_words.ensures.put,
      fit_more (standing c.args.image.now.regions c.args.places.now) c.pages.page words c.pages.invariant.2
          (ap (λ (r : RegionState). r.hw.words) c.region_at-region.ensures.stands) c.in_ok-put_page_words.ensures.fit,
    )

pub returns-clause-fit : goal.returns-clause-fit
returns-clause-fit c =
    all_fit (standing c.args.image.now.regions c.args.places.now) c.pages.page (512 * c.args.image.now.regions)
    (omega (arith, c.pages-test.false, c.pages.auto.page-end)) c.pages.invariant.2

pub returns-clause-fills : goal.returns-clause-fills
returns-clause-fills c =
    all_pages c.args.image.now (standing c.args.image.now.regions c.args.places.now) c.pages.fills.items c.pages.page
    (omega (arith, c.pages-test.false, c.pages.auto.page-end)) c.pages.invariant.0
