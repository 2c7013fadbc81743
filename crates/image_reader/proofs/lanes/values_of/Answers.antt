use Rattle.std.proofs.Common.{ℕ, ◌∙◌}
use lib.Bits.{bit_or}
use Rattle.std.proofs.lemmas.Simd.{zip2_splat, splat_is_map}
use Rattle.image_reader.proofs.LaneLemmas.{below, less, more, on_splat, chosen, all_values}
use Rattle.image_reader.proofs.lanes.values_of.Goals as goal

abbrev decimal : ℕ → ℕ
decimal x = less x 48

abbrev letter : ℕ → ℕ
letter x = less (bit_or x 32) 97

pub returns : goal.returns
returns c =
    let v = c.args.digits in
    let long = c.fits-digits.0 in
    let decimals = zip2_splat less v 16 48 long in
    let letters = on_splat less (λ x. bit_or x 32) 97 16 v long (zip2_splat bit_or v 16 32 long) in
    let others = chosen (λ x. below (letter x) 6) (λ x. more (letter x) 10) (λ x. 255) v
    (on_splat below letter 6 16 v long letters) (on_splat more letter 10 16 v long letters) (splat_is_map v 16 255 long) in
    chosen (λ x. below (decimal x) 10) decimal _ v (on_splat below decimal 10 16 v long decimals) decimals others ∙ all_values v c.fits-digits.1
