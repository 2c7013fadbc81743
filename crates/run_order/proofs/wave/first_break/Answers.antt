use Rattle.std.proofs.Common.{◌≡◌, ◌≤◌, ◌⊎◌, ℕ, ◌+◌, List, take, get_or, sym, ap, ◌∙◌, subst}
use Rattle.std.specs.Prelude.{All, min}
use Rattle.std.specs.List.{Any}
use Rattle.std.proofs.lemmas.List.{take_all}
use Rattle.run_order.specs.declared.wave.Member.{Member}
use Rattle.run_order.specs.Wave.{break_of}
use Rattle.run_order.proofs.MemberLemmas.{break_more}
use Rattle.run_order.proofs.wave.first_break.Goals as goal

pub loop-member-preserved : goal.loop-member-preserved
loop-member-preserved c =
    let members = c.args.members.now in
    let count = c.args.entries in
    let i = c.loop-member.member-index in
    let next = break_more members count i c.loop-member.first c.member-item.result c.loop-member-test.true c.loop-member.invariant.within c.loop-member.invariant.least
    c.loop-member.invariant.reached in
    let is : c.lesser-first.result ≡ min c.loop-member.first (break_of (get_or members i c.member-item.result) count) =
    c.lesser-first.ensures ∙ ap (λ (n : ℕ). min c.loop-member.first n) (c.break_of.ensures ∙ ap (λ (m : Member). break_of m count) c.member-item.is) in
    record {
      within = subst (λ (n : ℕ). n ≤ count) (sym is) next.0;
      least = subst (λ (n : ℕ). All (λ (member : Member). n ≤ break_of member count) (take (i + 1) members)) (sym is) next.1;
      reached = subst (λ (n : ℕ). (n ≡ count) ⊎ Any (λ (member : Member). break_of member count ≡ n) members) (sym is) next.2;
    }

pub returns : goal.returns
returns c = record {
  within = c.loop-member.invariant.within;
  least = subst (λ (l : List Member). All (λ (member : Member). c.loop-member.first ≤ break_of member c.args.entries) l) (take_all c.loop-member.member-index c.args.members.now c.loop-member-test.false)
      c.loop-member.invariant.least;
  reached = c.loop-member.invariant.reached;
}
