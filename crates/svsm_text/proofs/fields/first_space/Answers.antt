use Rattle.std.proofs.Common.{◌≡◌, eqb, length, length-take, take, w8, arith}
use Rattle.std.proofs.lemmas.Simd.{bitmask_splat}
use Rattle.svsm_text.proofs.SpaceLemmas.{first_in_front}
use Rattle.svsm_text.proofs.fields.first_space.Goals as goal

pub returns-then-spaces-ne0 : goal.returns-then-spaces-ne0
returns-then-spaces-ne0 c =
    let bytes = c.args.bytes.now in
    let size : length (take 16 bytes) ≡ 16 = omega (arith, length-take 16 bytes, c.if-bytes-ge16.true) in
    first_in_front 32 bytes _ c.if-bytes-ge16.true (bitmask_splat w8 eqb (take 16 bytes) 16 32 size (omega arith)) (omega (arith, c.if-spaces-ne0.true))
