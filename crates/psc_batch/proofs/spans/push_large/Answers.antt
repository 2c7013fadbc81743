use Rattle.std.proofs.Common.{◌∷◌, [], refl, ◌*◌}
use Rattle.std.proofs.lemmas.Slice.{pushed}
use Rattle.svsm_types.specs.declared.platform.Size.TheVariants.{Large}
use Rattle.psc_batch.proofs.EntryLemmas.{one_more}
use Rattle.psc_batch.proofs.spans.push_large.Goals as goal

pub regions-preserved : goal.regions-preserved
regions-preserved c = one_more (λ number. (512 * number, Large)) c.args.words.now.items c.regions.words.items c.push.new.self.items c.args.from c.regions.region c.entry_word.result c.regions.auto.region c.regions.invariant c.entry_word.ensures
    (pushed (c.entry_word.result ∷ []) refl c.in_ok-push.was c.push.ensures.items)
