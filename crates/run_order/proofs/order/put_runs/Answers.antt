use Rattle.std.proofs.Common.{List, set, sym, ap, ◌∙◌}
use Rattle.std.proofs.lemmas.List.{length-set}
use Rattle.svsm_steps.specs.declared.outcome.CoreRun.{CoreRun}
use Rattle.run_order.proofs.PutLemmas.{put_more}
use Rattle.run_order.proofs.order.put_runs.Goals as goal

pub runs-preserved : goal.runs-preserved
runs-preserved c = record {
  put = ap (λ (l : List CoreRun). set l c.in-Some.run'.core c.in-Some.run') c.runs.invariant.put ∙ sym (put_more c.args.cores.now.items c.runs.yielded c.in-Some.run');
  count = length-set c.runs.cores.items c.in-Some.run'.core c.in-Some.run' ∙ c.runs.invariant.count;
}
