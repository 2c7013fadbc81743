use Rattle.std.proofs.Common.{◌≡◌, List, [], ◌∷◌, ◌++◌, ◌∙◌, ℕ, sym, ap, subst, append_assoc, map}
use Rattle.std.specs.Prelude.{All}
use Rattle.std.proofs.lemmas.List.{map_push}
use Rattle.svsm_steps.specs.declared.outcome.CoreRun.{CoreRun}
use Rattle.run_order.specs.declared.wave.Member.{Member}
use Rattle.run_order.specs.Wave.{IsRunOfOne}
use Rattle.run_order.proofs.CoresLemmas.{run_more, none_stops}
use Rattle.run_order.proofs.wave.runs_of.Goals as goal

pub members-preserved-in-Continue-1 : goal.members-preserved-in-Continue-1
members-preserved-in-Continue-1 c =
    let member = c.in-Some.member in
    let all = c.args.members.items in
    let before = c.members.yielded in
    let items = c.in_ok-push.ensures.items in
    let split : all ≡ before ++ member ∷ c.next.new.self.rest.items =
    c.members.invariant.items ∙ ap (λ (l : List Member). before ++ l) c.in-Some.ensures.steps.0 in
    record {
      items = split ∙ sym (append_assoc before (member ∷ []) c.next.new.self.rest.items);
      cores = ap (map (λ (run : CoreRun). run.core)) items ∙ (map_push (λ (run : CoreRun). run.core) c.members.runs.items _
          ∙ (ap (λ (l : List ℕ). l ++ member.caller.core ∷ []) c.members.invariant.cores ∙ sym (map_push (λ (m : Member). m.caller.core) before member)));
      runs = subst (λ (l : List CoreRun). All (IsRunOfOne all) l) (sym items)
          (run_more all before c.next.new.self.rest.items member c.members.runs.items c.in-Ended.outcomes c.in-Ended.end split c.members.invariant.runs c.in-Ended.is);
    }

pub members-preserved : goal.members-preserved
members-preserved c =
    absurd (none_stops c.args.members.items c.members.yielded c.next.new.self.rest.items c.in-Some.member c.in_default.field-0
    (c.members.invariant.items ∙ ap (λ (l : List Member). c.members.yielded ++ l) c.in-Some.ensures.steps.0) c.requires c.in_default.is)
