use Rattle.std.proofs.lemmas.Result.{IfOk-weaker}
use Rattle.image_save.proofs.StandLemmas.{blocks_are, in_its_place}
use Rattle.image_save.proofs.places.blocks_at.Goals as goal

pub blocks-requires : goal.blocks-requires
blocks-requires c = in_its_place c.args.places.now c.args.number c.index-places-number.result c.requires c.index-places-number.is

pub returns : goal.returns
returns c =
    IfOk-weaker c.blocks-2.result _ _
    (λ blocks are. blocks_are c.args.places.now c.args.number c.index-places-number.result blocks.items c.requires c.index-places-number.is c.rested.ensures.replay are)
    c.blocks-2.ensures
