use Rattle.std.proofs.Common.{◌∷◌, [], refl}
use Rattle.std.proofs.lemmas.Slice.{pushed}
use Rattle.psc_batch.proofs.EntryLemmas.{one_more_batch}
use Rattle.psc_batch.proofs.batch.cut.Goals as goal

pub batches-preserved : goal.batches-preserved
batches-preserved c = one_more_batch c.args.words.now c.batches.batches.items c.push.new.self.items c.batches.number c.in_ok-batch_from.field-0 c.batches.invariant c.in_ok-batch_from.ensures (pushed (c.in_ok-batch_from.field-0 ∷ []) refl c.in_ok-push.was c.push.ensures.items)
