use Rattle.svsm_text.proofs.TableLemmas.{glyph_at}
use Rattle.svsm_text.proofs.numbers.glyph_of.Goals as goal

pub returns : goal.returns
returns c = glyph_at c.args.digit c.requires
