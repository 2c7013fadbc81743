use Rattle.std.proofs.Common.{◌≡◌, false, true, sym, subst}
use Rattle.image_grammar.specs.Grammar.{overlaps, is_lawful}
use Rattle.image_reader.specs.SoFar.{IsSoFar}
use Rattle.image_reader.proofs.SoFarLemmas.{so_far_more}
use Rattle.image_reader.proofs.draft.Draft.add.Goals as goal

pub returns-clause-whole : goal.returns-clause-whole
returns-clause-whole c =
    let image = c.args.self.now.image in
    let free : overlaps image c.args.item ≡ false = cc in
    let lawful : is_lawful c.args.item ≡ true = search in
    record {
      marked = c.in_ok-put.ensures.marked;
      so_far = subst IsSoFar (sym c.in_ok-put.ensures.image) (so_far_more image c.args.item c.requires.whole.so_far c.requires.within free lawful);
    }
