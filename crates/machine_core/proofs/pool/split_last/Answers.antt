use Rattle.std.proofs.Common.{◌≡◌, ◌+◌, ◌++◌, ◌∷◌, [], length, List, ℕ, ap, sym, ◌∙◌, arith}
use Rattle.std.proofs.lemmas.List.{length-append}
use Rattle.svsm_types.specs.declared.address.Page.{Page}
use Rattle.svsm_types.specs.declared.platform.Size.{Size}
use Rattle.svsm_steps.specs.declared.answer.Answer.TheVariants as Answer
use Rattle.machine_core.specs.PoolView.{blocks_view}
use Rattle.machine_core.proofs.SplitLemmas.{splits_as, end_page}
use Rattle.machine_core.proofs.pool.split_last.Goals as goal

pub push_later-requires-clause-page : goal.push_later-requires-clause-page
push_later-requires-clause-page c =
    end_page c.args.blocks.now.items c.pop.new.self.items (c.in-Some.page, c.in-Some.field-0-1) (sym c.reserve.ensures.items ∙ c.in-Some.ensures.items) c.requires.none c.requires.mapped

pub returns-clause-ok : goal.returns-clause-ok
returns-clause-ok c =
    splits_as c.args.blocks.now.items c.pop.new.self.items c.push_later.new.blocks.items (c.in-Some.page, c.in-Some.field-0-1) c.len.result
    (sym c.reserve.ensures.items ∙ c.in-Some.ensures.items) c.requires.none c.push_later.ensures (c.len.ensures ∙ c.push_later.new.blocks.ok.0)
