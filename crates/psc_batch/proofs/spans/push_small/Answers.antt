use Rattle.std.proofs.Common.{◌∷◌, [], refl}
use Rattle.std.proofs.lemmas.Slice.{pushed}
use Rattle.svsm_types.specs.declared.platform.Size.TheVariants.{Small}
use Rattle.psc_batch.proofs.EntryLemmas.{one_more}
use Rattle.psc_batch.proofs.spans.push_small.Goals as goal

pub pages-preserved : goal.pages-preserved
pages-preserved c = one_more (λ page. (page, Small)) c.args.words.now.items c.pages.words.items c.push.new.self.items c.args.first c.pages.page c.entry_word.result c.pages.auto.page c.pages.invariant c.entry_word.ensures
    (pushed (c.entry_word.result ∷ []) refl c.in_ok-push.was c.push.ensures.items)
