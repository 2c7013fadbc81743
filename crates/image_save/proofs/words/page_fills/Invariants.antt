use Rattle.std.proofs.Common.{◌≡◌, ◌*◌, []}
use Rattle.std.specs.Prelude.{map}
use Rattle.std.specs.List.{range_with_len}
use Rattle.svsm_steps.specs.State.{word_at}
use Rattle.image_text.specs.Collected.{words_put, EndBy}
use Rattle.image_text.specs.Fits.{FitBeforePage}
use Rattle.image_save.specs.Standing.{standing}
use Rattle.image_save.proofs.words.page_fills.Given as goal

abbrev pub invariant-pages : goal.invariant-pages
invariant-pages l =
    (l.fills.items ≡ words_put [] 0 (map (λ number. word_at (8 * number) (standing l.image.regions l.places)) (range_with_len 0 (512 * l.page))))
    × EndBy (512 * l.page) l.fills.items × FitBeforePage l.page (standing l.image.regions l.places)
