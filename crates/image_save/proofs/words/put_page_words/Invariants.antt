use Rattle.std.proofs.Common.{◌≡◌, ℕ, ◌+◌, ◌*◌, ◌<◌, ◌^◌, map}
use Rattle.std.specs.List.{range_with_len}
use Rattle.rmp_table.specs.PackedKnown.{packed_known}
use Rattle.image_text.specs.Collected.{words_put, EndBy}
use Rattle.image_save.proofs.words.put_page_words.Given as goal

abbrev pub invariant-words : goal.invariant-words
invariant-words l =
    (l.fills.items ≡ words_put l.fn.fills.items (512 * l.page.0)
    (map (λ number. (packed_known l.region.scene).hw.words (8 * number)) (range_with_len (512 * l.page.0) l.column)))
    × EndBy (512 * l.page.0 + l.column) l.fills.items
    × ((column : ℕ) → column < l.column → (packed_known l.region.scene).hw.words (8 * (512 * l.page.0 + column)) < 2 ^ 64)
