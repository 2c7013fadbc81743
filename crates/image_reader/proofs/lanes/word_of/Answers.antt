use Rattle.std.proofs.Common.{◌≡◌, ℕ, List, map, take_all, Option, Some, true, false, sym, ap, ◌∙◌, arith}
use Rattle.std.specs.Prelude.{option_map}
use Rattle.std.specs.List.{list_any}
use Rattle.std.specs.Int.{w64, from_le_bytes}
use Rattle.image_reader.specs.Digits.{digit_or_255, is_no_value, bytes_by_pairs}
use Rattle.image_reader.proofs.LaneLemmas.{digits_read, digits_refused}
use Rattle.image_reader.proofs.lanes.word_of.Goals as goal

abbrev word : Option (List ℕ) → Option ℕ
word = option_map (from_le_bytes w64)

pub returns-then-is_any_refused : goal.returns-then-is_any_refused
returns-then-is_any_refused c =
    let digits = c.args.digits.now in
    let values : c.values_of-values.result ≡ map digit_or_255 digits = c.values_of-values.ensures ∙ ap (map digit_or_255) (take_all 16 digits (omega (arith, c.requires))) in
    let any : list_any is_no_value (map digit_or_255 digits) ≡ true = ap (list_any is_no_value) (sym values) ∙ sym c.is_any_refused.ensures ∙ c.if-is_any_refused.true in
    ap word (digits_refused 8 digits c.requires any)

pub returns : goal.returns
returns c =
    let digits = c.args.digits.now in
    let values : c.values_of-values.result ≡ map digit_or_255 digits = c.values_of-values.ensures ∙ ap (map digit_or_255) (take_all 16 digits (omega (arith, c.requires))) in
    let none : list_any is_no_value (map digit_or_255 digits) ≡ false = ap (list_any is_no_value) (sym values) ∙ sym c.is_any_refused.ensures ∙ c.if-is_any_refused.false in
    ap Some (c.from_le_bytes.ensures ∙ ap (from_le_bytes w64) (c.bytes_of.ensures ∙ ap bytes_by_pairs values)) ∙ ap word (digits_read 8 digits c.requires none)
