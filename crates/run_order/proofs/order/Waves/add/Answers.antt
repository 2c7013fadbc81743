use Rattle.std.proofs.Common.{◌≡◌, ◌+◌, ◌-◌, ◌<◌, ℕ, List, ◌++◌, length, take, drop, map, sym, ◌∙◌, ap, subst, None, Option, arith}
use Rattle.std.specs.Prelude.{All, is_some}
use Rattle.std.proofs.Math.Seq.{take-add}
use Rattle.svsm_types.specs.declared.image.CoreLine.{CoreLine}
use Rattle.svsm_types.specs.declared.vcpu.Row.{Row}
use Rattle.svsm_steps.specs.declared.entry.Entry.{Entry}
use Rattle.svsm_steps.specs.declared.outcome.CoreRun.{CoreRun}
use Rattle.svsm_steps.specs.Announced.{Announced}
use Rattle.svsm_calls.specs.Waves.{rows_behind}
use Rattle.run_order.specs.Told.{AreRegistered, IsTold, told_between}
use Rattle.run_order.specs.Registered.{rows_over}
use Rattle.run_order.specs.Behind.{AreRead, put_all}
use Rattle.run_order.proofs.RowLemmas.{rows_more}
use Rattle.run_order.proofs.AnswerLemmas.{formed_take}
use Rattle.run_order.proofs.ToldLemmas.{registered}
use Rattle.run_order.proofs.PutLemmas.{of_cores}
use Rattle.run_order.proofs.BehindLemmas.{low_behind}
use Rattle.run_order.proofs.StandLemmas.{stands_begun, none_refused, more_read}
use Rattle.run_order.proofs.order.Waves.add.Goals as goal

pub tell-requires-clause-before : goal.tell-requires-clause-before
tell-requires-clause-before c =
    registered c.args.image.now (take c.args.self.now.behind c.args.entries.now) c.deref.result.now c.requires.sound
    (formed_take c.args.image.now.regions c.args.self.now.behind c.args.entries.now c.requires.formed)
    (c.deref.ensures.value ∙ (c.in_ok-before.ensures.items ∙ (c.rows.ensures ∙ c.requires.stands.read.registered)))

pub tell-requires-clause-after : goal.tell-requires-clause-after
tell-requires-clause-after c =
    registered c.args.image.now (take (c.args.self.now.behind + c.args.count) c.args.entries.now) c.rows-2.result.now c.requires.sound
    (formed_take c.args.image.now.regions (c.args.self.now.behind + c.args.count) c.args.entries.now c.requires.formed)
    (c.rows-2.ensures ∙ after)
  where
    width : c.args.self.now.behind + c.args.count - c.args.self.now.behind ≡ c.args.count
    width = omega arith

    after : c.keep_all.new.registry.rows ≡ rows_behind c.args.image.now (take (c.args.self.now.behind + c.args.count) c.args.entries.now)
    after =
        c.in_ok-keep_all.ensures.rows
        ∙ (ap (λ (n : ℕ). rows_over c.args.self.now.registry.cores c.args.self.now.registry.rows (take n (drop c.args.self.now.behind c.args.entries.now))) width
        ∙ (ap (λ (cores : List CoreLine). rows_over cores c.args.self.now.registry.rows (take c.args.count (drop c.args.self.now.behind c.args.entries.now))) c.requires.stands.lines
        ∙ (ap (λ (rows : List Row). rows_over c.args.image.now.cores rows (take c.args.count (drop c.args.self.now.behind c.args.entries.now))) c.requires.stands.read.registered
        ∙ (sym (rows_more c.args.image.now (take c.args.self.now.behind c.args.entries.now) (take c.args.count (drop c.args.self.now.behind c.args.entries.now)))
        ∙ ap (rows_behind c.args.image.now) (sym (take-add c.args.self.now.behind c.args.count c.args.entries.now))))))

pub put_runs-requires : goal.put_runs-requires
put_runs-requires c =
    of_cores (λ (core : ℕ). core < length c.args.self.now.cores.items) c.args.runs.items
    (subst (All (λ (core : ℕ). core < length c.args.self.now.cores.items)) (sym c.requires.over.1.1.0)
    (subst (λ (n : ℕ). All (λ (core : ℕ). core < n) c.args.cores.now) (sym c.requires.stands.read.gave.count)
    (subst (All (λ (core : ℕ). core < length c.args.image.now.cores)) (sym c.requires.next)
    (low_behind c.args.image.now (is_some c.args.self.now.told.refused) c.args.self.now.ran.items c.args.self.now.registry.rows))))

pub returns : goal.returns
returns c = (
  record {
    lines = c.in_ok-keep_all.ensures.cores ∙ c.requires.stands.lines;
    read = subst (λ (ran : List ℕ). AreRead c.args.image.now c.args.scripts.now c.args.entries.now c.keep_all.new.registry.rows ran c.put_runs.new.cores.items c.tell.new.self.exits.items c.tell.new.self.refused (c.args.self.now.behind + c.args.count))
        (sym c.in_ok-extend_from_slice.ensures.items)
        (subst (λ (runs : List CoreRun). AreRead c.args.image.now c.args.scripts.now c.args.entries.now c.keep_all.new.registry.rows (c.args.self.now.ran.items ++ c.args.cores.now) runs c.tell.new.self.exits.items c.tell.new.self.refused (c.args.self.now.behind + c.args.count))
        (sym c.put_runs.ensures) more);
  },
  c.in_ok-extend_from_slice.ensures.items,
)
  where
    width : c.args.self.now.behind + c.args.count - c.args.self.now.behind ≡ c.args.count
    width = omega arith

    before : c.deref.result.now ≡ c.args.self.now.registry.rows
    before = c.deref.ensures.value ∙ (c.in_ok-before.ensures.items ∙ c.rows.ensures)

    after : c.keep_all.new.registry.rows ≡ rows_behind c.args.image.now (take (c.args.self.now.behind + c.args.count) c.args.entries.now)
    after =
        c.in_ok-keep_all.ensures.rows
        ∙ (ap (λ (n : ℕ). rows_over c.args.self.now.registry.cores c.args.self.now.registry.rows (take n (drop c.args.self.now.behind c.args.entries.now))) width
        ∙ (ap (λ (cores : List CoreLine). rows_over cores c.args.self.now.registry.rows (take c.args.count (drop c.args.self.now.behind c.args.entries.now))) c.requires.stands.lines
        ∙ (ap (λ (rows : List Row). rows_over c.args.image.now.cores rows (take c.args.count (drop c.args.self.now.behind c.args.entries.now))) c.requires.stands.read.registered
        ∙ (sym (rows_more c.args.image.now (take c.args.self.now.behind c.args.entries.now) (take c.args.count (drop c.args.self.now.behind c.args.entries.now)))
        ∙ ap (rows_behind c.args.image.now) (sym (take-add c.args.self.now.behind c.args.count c.args.entries.now))))))

    none : c.args.self.now.told.refused ≡ None
    none = none_refused c.args.image.now c.args.self.now c.args.cores.now c.requires.next c.requires.some

    told : IsTold c.args.image.now (c.requires.stands.read.told ++ told_between c.args.image.now c.args.self.now.registry.rows c.keep_all.new.registry.rows) c.tell.new.self.exits.items c.tell.new.self.refused
    told =
        subst (λ (rows : List Row). IsTold c.args.image.now (c.requires.stands.read.told ++ told_between c.args.image.now c.args.self.now.registry.rows rows) c.tell.new.self.exits.items c.tell.new.self.refused) c.rows-2.ensures
        (subst (λ (rows : List Row). IsTold c.args.image.now (c.requires.stands.read.told ++ told_between c.args.image.now rows c.rows-2.result.now) c.tell.new.self.exits.items c.tell.new.self.refused) before
        (c.in_ok-tell.ensures.told c.requires.stands.read.told
        (subst (λ (said : Option (ℕ × ℕ)). IsTold c.args.image.now c.requires.stands.read.told c.args.self.now.told.exits.items said) none c.requires.stands.read.is)))

    more : AreRead c.args.image.now c.args.scripts.now c.args.entries.now c.keep_all.new.registry.rows (c.args.self.now.ran.items ++ c.args.cores.now) (put_all c.args.self.now.cores.items c.args.runs.items) c.tell.new.self.exits.items c.tell.new.self.refused (c.args.self.now.behind + c.args.count)
    more =
        more_read c.args.image.now c.args.scripts.now c.args.entries.now c.args.self.now.registry.rows c.keep_all.new.registry.rows c.args.self.now.ran.items c.args.self.now.cores.items
        c.args.self.now.told.exits.items c.tell.new.self.exits.items c.args.self.now.told.refused c.tell.new.self.refused c.args.self.now.behind c.requires.stands.read c.args.cores.now c.args.count c.args.runs.items
        (stands_begun c.args.image.now c.args.scripts.now c.args.entries.now c.args.self.now c.args.cores.now c.requires.stands c.requires.next) c.requires.some c.requires.over.0
        c.requires.over.1.0 c.requires.over.1.1.0 c.requires.over.1.1.1 after told c.in_ok-tell.ensures.low
