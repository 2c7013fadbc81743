use Rattle.std.proofs.Common.{◌≡◌, ◌≤◌, ◌⊎◌, ℕ, ◌+◌, List, take, get_or, sym, ap, ◌∙◌, subst}
use Rattle.std.specs.Prelude.{All, max}
use Rattle.std.specs.List.{Any}
use Rattle.std.proofs.lemmas.List.{take_all}
use Rattle.run_order.specs.declared.wave.Member.{Member}
use Rattle.run_order.specs.Wave.{end_of}
use Rattle.run_order.proofs.MemberLemmas.{end_more}
use Rattle.run_order.proofs.wave.end_of_all.Goals as goal

pub loop-member-preserved : goal.loop-member-preserved
loop-member-preserved c =
    let members = c.args.members.now in
    let count = c.args.entries in
    let i = c.loop-member.member-index in
    let next = end_more members count i c.loop-member.end c.member-item.result c.loop-member-test.true c.loop-member.invariant.most c.loop-member.invariant.reached in
    let is : c.larger-end.result ≡ max c.loop-member.end (end_of (get_or members i c.member-item.result) count) =
    c.larger-end.ensures ∙ ap (λ (n : ℕ). max c.loop-member.end n) (c.end_of.ensures ∙ ap (λ (m : Member). end_of m count) c.member-item.is) in
    record {
      most = subst (λ (n : ℕ). All (λ (member : Member). end_of member count ≤ n) (take (i + 1) members)) (sym is) next.0;
      reached = subst (λ (n : ℕ). (n ≡ 0) ⊎ Any (λ (member : Member). end_of member count ≡ n) members) (sym is) next.1;
    }

pub returns : goal.returns
returns c = record {
  most = subst (λ (l : List Member). All (λ (member : Member). end_of member c.args.entries ≤ c.loop-member.end) l) (take_all c.loop-member.member-index c.args.members.now c.loop-member-test.false)
      c.loop-member.invariant.most;
  reached = c.loop-member.invariant.reached;
}
