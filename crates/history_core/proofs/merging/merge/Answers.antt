use Rattle.std.proofs.Common.{rules, ◌≤◌, List, sym, subst}
use Rattle.std.specs.Prelude.{IsPermutation}
use Rattle.std.proofs.lemmas.List.Sorted.{IsNonDecreasingBy-from_sort_by_key}
use Rattle.svsm_steps.specs.declared.entry.Entry.{Entry}
use Rattle.history_core.specs.Merged.{times}
use Rattle.history_core.proofs.RisingLemmas.{rising_of, still_once}
use Rattle.history_core.proofs.MergeLemmas.{whole_is}
use Rattle.history_core.proofs.merging.merge.Goals as goal

pub returns-clause-rising : goal.returns-clause-rising
returns-clause-rising c =
    rising_of c.sort_by_key.new.self.items
    (IsNonDecreasingBy-from_sort_by_key (λ (e : Entry). e.ticket) _ c.in_ok-sort_by_key.ensures.sorted (λ a r q k. search rules))
    (still_once _ _ c.in_ok-sort_by_key.ensures.permutation (λ t. subst (λ (entries : List Entry). times t entries ≤ 1) (sym c.in_ok-all.ensures) (c.requires t)))

pub returns-clause-history : goal.returns-clause-history
returns-clause-history c = λ regions history logs.
    whole_is regions history c.sort_by_key.new.self.items c.args.logs.items logs
    (subst (λ (entries : List Entry). IsPermutation entries c.sort_by_key.new.self.items) c.in_ok-all.ensures c.in_ok-sort_by_key.ensures.permutation)
    (returns-clause-rising c)
