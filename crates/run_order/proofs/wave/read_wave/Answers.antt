use Rattle.std.proofs.Common.{rules, ◌≡◌, ◌<◌, ◌≤◌, ◌+◌, ◌∙◌, ℕ, List, length, sym, ap, subst, arith}
use Rattle.std.specs.Prelude.{All}
use Rattle.svsm_steps.specs.declared.call.Caller.{Caller}
use Rattle.run_order.specs.declared.wave.WaveRead.TheVariants as waves
use Rattle.run_order.specs.WaveReads.{WaveReads}
use Rattle.run_order.proofs.WaveLemmas.{Begins, callers_low, early_breaks, early_more, full_over, full_breaks, full_more, read_as}
use Rattle.run_order.proofs.wave.read_wave.Goals as goal

pub returns-then-first-entries : goal.returns-then-first-entries
returns-then-first-entries c =
    let callers = c.in_ok-callers.callers.items in
    let e : c.len-first.result ≡ length callers = search rules in
    subst (λ (n : ℕ). WaveReads c.args.image.now c.args.scripts.now c.args.cores.now c.args.entries.now (waves.Breaks n)) (sym e)
    (early_breaks c.args.image.now c.args.scripts.now c.args.cores.now c.args.entries.now callers
    (record { once = c.requires.once; are = c.in_ok-callers.ensures.entered; answers = c.requires.answers })
    (subst (λ (n : ℕ). n < length c.args.cores.now) e c.if-first-cores.true) (subst (λ (n : ℕ). n < length c.args.entries.now) e c.if-first-entries.true)
    c.in_ok-callers.ensures.ends)

pub returns-then-first-cores : goal.returns-then-first-cores
returns-then-first-cores c =
    let callers = c.in_ok-callers.callers.items in
    let e : c.len-first.result ≡ length callers = search rules in
    early_more c.args.image.now c.args.scripts.now c.args.cores.now c.args.entries.now callers
    (record { once = c.requires.once; are = c.in_ok-callers.ensures.entered; answers = c.requires.answers })
    (subst (λ (n : ℕ). n < length c.args.cores.now) e c.if-first-cores.true) (subst (λ (n : ℕ). length c.args.entries.now ≤ n) e c.if-first-entries.false)

pub read_cores-requires-clause-regions : goal.read_cores-requires-clause-regions
read_cores-requires-clause-regions c =
    subst (All (λ (caller : Caller). caller.regions ≤ 512)) (sym c.deref.ensures.value)
    (callers_low c.args.image.now c.in_ok-callers.callers.items c.args.entries.now c.in_ok-callers.ensures.entered.each c.requires.sound.regions_most)

pub returns-in-Over : goal.returns-in-Over
returns-in-Over c =
    let callers = c.in_ok-callers.callers.items in
    let e : c.len-first.result ≡ length callers = c.len-first.ensures ∙ (sym c.deref.ensures.len ∙ ap length c.deref.ensures.value) in
    let few = c.in_ok-callers.ensures.entered.few in
    let all : length callers ≡ length c.args.cores.now = omega (arith, e, few, c.if-first-cores.false) in
    subst (λ (n : ℕ). WaveReads c.args.image.now c.args.scripts.now c.args.cores.now c.args.entries.now (waves.Over (n + c.in-Over.count) c.in-Over.runs)) (sym e)
    (full_over c.args.image.now c.args.scripts.now c.args.cores.now c.args.entries.now callers c.in-Over.count c.in-Over.runs.items
    (record { once = c.requires.once; are = c.in_ok-callers.ensures.entered; answers = c.requires.answers }) all
    (read_as c.args.image.now c.args.scripts.now c.args.entries.now c.deref.result.now callers c.len-first.result c.in_ok-count.field-0
    (waves.Over c.in-Over.count c.in-Over.runs) c.deref.ensures.value e c.in-Over.is c.in_ok-count.ensures))

pub returns-in-Breaks : goal.returns-in-Breaks
returns-in-Breaks c =
    let callers = c.in_ok-callers.callers.items in
    let e : c.len-first.result ≡ length callers = c.len-first.ensures ∙ (sym c.deref.ensures.len ∙ ap length c.deref.ensures.value) in
    let few = c.in_ok-callers.ensures.entered.few in
    let all : length callers ≡ length c.args.cores.now = omega (arith, e, few, c.if-first-cores.false) in
    subst (λ (n : ℕ). WaveReads c.args.image.now c.args.scripts.now c.args.cores.now c.args.entries.now (waves.Breaks (n + c.in-Breaks.at))) (sym e)
    (full_breaks c.args.image.now c.args.scripts.now c.args.cores.now c.args.entries.now callers c.in-Breaks.at
    (record { once = c.requires.once; are = c.in_ok-callers.ensures.entered; answers = c.requires.answers }) all
    (read_as c.args.image.now c.args.scripts.now c.args.entries.now c.deref.result.now callers c.len-first.result c.in_ok-count.field-0
    (waves.Breaks c.in-Breaks.at) c.deref.ensures.value e c.in-Breaks.is c.in_ok-count.ensures))

pub returns : goal.returns
returns c =
    let callers = c.in_ok-callers.callers.items in
    let e : c.len-first.result ≡ length callers = c.len-first.ensures ∙ (sym c.deref.ensures.len ∙ ap length c.deref.ensures.value) in
    let few = c.in_ok-callers.ensures.entered.few in
    let all : length callers ≡ length c.args.cores.now = omega (arith, e, few, c.if-first-cores.false) in
    full_more c.args.image.now c.args.scripts.now c.args.cores.now c.args.entries.now callers
    (record { once = c.requires.once; are = c.in_ok-callers.ensures.entered; answers = c.requires.answers }) all
    (read_as c.args.image.now c.args.scripts.now c.args.entries.now c.deref.result.now callers c.len-first.result c.in_ok-count.field-0
    waves.UnderWay c.deref.ensures.value e c.in-UnderWay.is c.in_ok-count.ensures)
