use Rattle.std.proofs.Common.{◌≡◌, ◌∙◌, ◌<◌, ◌≤◌, ℕ, List, Bool, true, false, length, map, min, sym, ap, subst}
use Rattle.std.specs.Prelude.{All}
use Rattle.std.specs.List.{Any}
use Rattle.svsm_types.specs.declared.image.Image.{Image}
use Rattle.svsm_types.specs.declared.request.Request.{Request}
use Rattle.svsm_steps.specs.declared.call.Caller.{Caller}
use Rattle.svsm_steps.specs.declared.entry.Entry.{Entry}
use Rattle.svsm_steps.specs.declared.outcome.CoreRun.{CoreRun}
use Rattle.run_order.specs.declared.wave.Member.{Member}
use Rattle.run_order.specs.declared.wave.WaveRead.TheVariants as waves
use Rattle.run_order.specs.Wave.{IsRead, IsEndOfAll, IsFirstBreak, IsOwn, EachIsOwn, IsForeign, HasEnd, HasStopped, IsRunOfOne, AreStanding, IsEndOf, CoresRead}
use Rattle.run_order.specs.WaveReads.{AreOnce}
use Rattle.run_order.proofs.CoresLemmas.{Read, read_of, two_ways, all_end, reads_foreign, reads_over, reads_break, reads_more}
use Rattle.run_order.proofs.WaveLemmas.{callers_low}
use Rattle.run_order.proofs.wave.read_cores.Goals as goal

pub returns-in-Some : goal.returns-in-Some
returns-in-Some c =
    let members = c.in_ok-members.members.items in
    let entries = c.args.entries.now in
    let read = read_of c.args.image.now c.args.scripts.now members entries c.args.callers.now c.end_of_all-end.result c.first_break.result c.in_ok-members.ensures.callers c.requires.once
    c.in_ok-members.ensures.read (subst (λ (l : List Member). IsEndOfAll l (length entries) c.end_of_all-end.result) c.deref.ensures.value c.end_of_all-end.ensures)
    (subst (λ (l : List Member). IsFirstBreak l (length entries) c.first_break.result) c.deref-2.ensures.value c.first_break.ensures) in
    let foreign = subst (λ (n : ℕ). IsForeign members entries n c.in-Some.at) c.lesser-limit.ensures
    (subst (λ (l : List Member). IsForeign l entries c.lesser-limit.result c.in-Some.at) c.deref-3.ensures.value c.in-Some.ensures.some) in
    subst (λ (l : List Caller). CoresRead c.args.image.now c.args.scripts.now l entries (waves.Breaks c.in-Some.at)) c.in_ok-members.ensures.callers
    (reads_foreign c.args.image.now c.args.scripts.now members entries c.end_of_all-end.result c.first_break.result c.in-Some.at read foreign)

pub runs_of-requires : goal.runs_of-requires
runs_of-requires c =
    all_end c.in_ok-members.members.items
    (λ (any : Any HasStopped c.in_ok-members.members.items). two_ways c.some_stopped.result c.if-not-some_stopped.true
    (c.some_stopped.ensures.1 (subst (Any HasStopped) (sym c.deref-4.ensures.value) any)))

pub returns-then-not-some_stopped : goal.returns-then-not-some_stopped
returns-then-not-some_stopped c =
    let members = c.in_ok-members.members.items in
    let entries = c.args.entries.now in
    let read = read_of c.args.image.now c.args.scripts.now members entries c.args.callers.now c.end_of_all-end.result c.first_break.result c.in_ok-members.ensures.callers c.requires.once
    c.in_ok-members.ensures.read (subst (λ (l : List Member). IsEndOfAll l (length entries) c.end_of_all-end.result) c.deref.ensures.value c.end_of_all-end.ensures)
    (subst (λ (l : List Member). IsFirstBreak l (length entries) c.first_break.result) c.deref-2.ensures.value c.first_break.ensures) in
    let own = subst (EachIsOwn members entries) c.lesser-limit.ensures
    (subst (λ (l : List Member). EachIsOwn l entries c.lesser-limit.result) c.deref-3.ensures.value c.in_default.ensures.none) in
    let all = all_end members
    (λ (any : Any HasStopped members). two_ways c.some_stopped.result c.if-not-some_stopped.true
    (c.some_stopped.ensures.1 (subst (Any HasStopped) (sym c.deref-4.ensures.value) any))) in
    subst (λ (l : List Caller). (c.end_of_all-end.result ≤ length entries) × (AreStanding c.args.image.now c.args.scripts.now l entries c.end_of_all-end.result
    × ((map (λ (run : CoreRun). run.core) c.in_ok-runs.runs.items ≡ map (λ (caller : Caller). caller.core) l)
    × All (IsEndOf c.args.image.now c.args.scripts.now l entries c.end_of_all-end.result) c.in_ok-runs.runs.items))) c.in_ok-members.ensures.callers
    (reads_over c.args.image.now c.args.scripts.now members entries c.end_of_all-end.result c.first_break.result c.in_ok-runs.runs.items read all own
    c.in_ok-runs.ensures.cores c.in_ok-runs.ensures.runs)

pub returns-then-limit-entries : goal.returns-then-limit-entries
returns-then-limit-entries c =
    let members = c.in_ok-members.members.items in
    let entries = c.args.entries.now in
    let read = read_of c.args.image.now c.args.scripts.now members entries c.args.callers.now c.end_of_all-end.result c.first_break.result c.in_ok-members.ensures.callers c.requires.once
    c.in_ok-members.ensures.read (subst (λ (l : List Member). IsEndOfAll l (length entries) c.end_of_all-end.result) c.deref.ensures.value c.end_of_all-end.ensures)
    (subst (λ (l : List Member). IsFirstBreak l (length entries) c.first_break.result) c.deref-2.ensures.value c.first_break.ensures) in
    let own = subst (EachIsOwn members entries) c.lesser-limit.ensures
    (subst (λ (l : List Member). EachIsOwn l entries c.lesser-limit.result) c.deref-3.ensures.value c.in_default.ensures.none) in
    let stopped = subst (Any HasStopped) c.deref-4.ensures.value (c.some_stopped.ensures.0 c.if-not-some_stopped.false) in
    subst (λ (n : ℕ). CoresRead c.args.image.now c.args.scripts.now c.args.callers.now entries (waves.Breaks n)) (sym c.lesser-limit.ensures)
    (subst (λ (l : List Caller). CoresRead c.args.image.now c.args.scripts.now l entries (waves.Breaks (min c.end_of_all-end.result c.first_break.result)))
    c.in_ok-members.ensures.callers
    (reads_break c.args.image.now c.args.scripts.now members entries c.end_of_all-end.result c.first_break.result read stopped own
    (subst (λ (n : ℕ). n < length entries) c.lesser-limit.ensures c.if-limit-entries.true)))

pub returns : goal.returns
returns c =
    let members = c.in_ok-members.members.items in
    let entries = c.args.entries.now in
    let read = read_of c.args.image.now c.args.scripts.now members entries c.args.callers.now c.end_of_all-end.result c.first_break.result c.in_ok-members.ensures.callers c.requires.once
    c.in_ok-members.ensures.read (subst (λ (l : List Member). IsEndOfAll l (length entries) c.end_of_all-end.result) c.deref.ensures.value c.end_of_all-end.ensures)
    (subst (λ (l : List Member). IsFirstBreak l (length entries) c.first_break.result) c.deref-2.ensures.value c.first_break.ensures) in
    let own = subst (EachIsOwn members entries) c.lesser-limit.ensures
    (subst (λ (l : List Member). EachIsOwn l entries c.lesser-limit.result) c.deref-3.ensures.value c.in_default.ensures.none) in
    let stopped = subst (Any HasStopped) c.deref-4.ensures.value (c.some_stopped.ensures.0 c.if-not-some_stopped.false) in
    subst (λ (l : List Caller). CoresRead c.args.image.now c.args.scripts.now l entries waves.UnderWay) c.in_ok-members.ensures.callers
    (reads_more c.args.image.now c.args.scripts.now members entries c.end_of_all-end.result c.first_break.result read stopped own
    (subst (λ (n : ℕ). length entries ≤ n) c.lesser-limit.ensures c.if-limit-entries.false))
