use Rattle.std.proofs.Common.{◌≡◌, ◌≢◌, ℕ, ◌∙◌, ◌++◌, [], List, None, sym, ap, subst, arith, true}
use Rattle.std.specs.Prelude.{◌<◌, is_some}
use Rattle.svsm_types.specs.declared.image.Image.{Image}
use Rattle.svsm_types.specs.declared.vcpu.Row.{Row}
use Rattle.svsm_steps.specs.declared.call.Caller.{Caller}
use Rattle.svsm_steps.specs.Announced.{Announced}
use Rattle.svsm_calls.specs.Waves.{ready_cores}
use Rattle.svsm_waves.specs.Told.{AreRegistered, told_between, IsTold}
use Rattle.svsm_waves.proofs.ToldLemmas.{registered, refused_so, told_none, none_low, said_none}
use Rattle.svsm_waves.specs.Trace.{rows_now, IsRecorded}
use Rattle.svsm_waves.specs.InTurn.{trace_of}
use Rattle.svsm_waves.specs.Kept.{recorded_behind}
use Rattle.svsm_waves.specs.Wave.{AddedBy, Gave, cores_of, left}
use Rattle.svsm_waves.proofs.ListLemmas.{no_items, some_items}
use Rattle.svsm_waves.proofs.WaveLemmas.{waits_next, rises_next, fewer_left, wave_more, waved_none, waved_whole, waved_refused}
use Rattle.svsm_waves.proofs.waves.run_all.Goals as goal

pub waves-init : goal.waves-init
waves-init g c = record {
  told = [];
  is = rw c.new-exits.ensures.items (told_none c.args.image.now);
  low = rw c.new-exits.ensures.items none_low;
  waved = rw c.new-ran.ensures.items (waved_none c.args.image.now c.args.scripts.now (trace_of c.args.first.past.items c.args.first.turns) c.in_ok-runs.runs.items c.requires.fresh c.in_ok-runs.ensures);
  image = c.requires.image;
}

pub returns-then-is_empty-clause-run : goal.returns-then-is_empty-clause-run
returns-then-is_empty-clause-run g c =
    let next : c.as_slice-wave.result.now ≡ ready_cores c.args.image.now c.waves.ran.items (rows_now c.args.image.now (trace_of c.waves.places.past.items c.waves.places.turns)) =
    c.as_slice-wave.ensures.value ∙ (c.in_ok-cores.ensures ∙ (ap (λ (l : List ℕ). ready_cores c.args.image.now l c.rows.result.now) c.deref.ensures.value
    ∙ ap (λ (rows : List Row). ready_cores c.args.image.now c.waves.ran.items rows) (c.rows.ensures ∙ ap (λ (i : Image). rows_now i (trace_of c.waves.places.past.items c.waves.places.turns)) c.waves.invariant.image))) in
    waved_whole c.args.image.now c.args.scripts.now (trace_of c.waves.places.past.items c.waves.places.turns) c.waves.ran.items c.waves.runs.items c.waves.invariant.told c.waves.exits.items c.as_slice-wave.result.now
    (subst (λ (i : Image). IsRecorded i (trace_of c.waves.places.past.items c.waves.places.turns)) c.waves.invariant.image (recorded_behind c.waves.places.kept)) c.waves.invariant.waved c.waves.invariant.is next
    (no_items c.as_slice-wave.result.now (sym c.is_empty.ensures ∙ c.if-is_empty.true))

pub enter_all-requires-clause-wait : goal.enter_all-requires-clause-wait
enter_all-requires-clause-wait g c =
    let next : c.as_slice-wave.result.now ≡ ready_cores c.args.image.now c.waves.ran.items (rows_now c.args.image.now (trace_of c.waves.places.past.items c.waves.places.turns)) =
    c.as_slice-wave.ensures.value ∙ (c.in_ok-cores.ensures ∙ (ap (λ (l : List ℕ). ready_cores c.args.image.now l c.rows.result.now) c.deref.ensures.value
    ∙ ap (λ (rows : List Row). ready_cores c.args.image.now c.waves.ran.items rows) (c.rows.ensures ∙ ap (λ (i : Image). rows_now i (trace_of c.waves.places.past.items c.waves.places.turns)) c.waves.invariant.image))) in
    waits_next c.args.image.now c.args.scripts.now (trace_of c.waves.places.past.items c.waves.places.turns) c.waves.ran.items c.waves.runs.items c.waves.invariant.told c.as_slice-wave.result.now c.waves.invariant.waved next

pub enter_all-requires-clause-rise : goal.enter_all-requires-clause-rise
enter_all-requires-clause-rise g c =
    let next : c.as_slice-wave.result.now ≡ ready_cores c.args.image.now c.waves.ran.items (rows_now c.args.image.now (trace_of c.waves.places.past.items c.waves.places.turns)) =
    c.as_slice-wave.ensures.value ∙ (c.in_ok-cores.ensures ∙ (ap (λ (l : List ℕ). ready_cores c.args.image.now l c.rows.result.now) c.deref.ensures.value
    ∙ ap (λ (rows : List Row). ready_cores c.args.image.now c.waves.ran.items rows) (c.rows.ensures ∙ ap (λ (i : Image). rows_now i (trace_of c.waves.places.past.items c.waves.places.turns)) c.waves.invariant.image))) in
    rises_next c.args.image.now c.waves.ran.items _ c.as_slice-wave.result.now next

pub run_entered-requires-clause-rise : goal.run_entered-requires-clause-rise
run_entered-requires-clause-rise g c κs within =
    let next : c.as_slice-wave.result.now ≡ ready_cores c.args.image.now c.waves.ran.items (rows_now c.args.image.now (trace_of c.waves.places.past.items c.waves.places.turns)) =
    c.as_slice-wave.ensures.value ∙ (c.in_ok-cores.ensures ∙ (ap (λ (l : List ℕ). ready_cores c.args.image.now l c.rows.result.now) c.deref.ensures.value
    ∙ ap (λ (rows : List Row). ready_cores c.args.image.now c.waves.ran.items rows) (c.rows.ensures ∙ ap (λ (i : Image). rows_now i (trace_of c.waves.places.past.items c.waves.places.turns)) c.waves.invariant.image))) in
    let same : c.as_slice-inside.result.now ≡ c.in_ok-callers.callers.items = c.as_slice-inside.ensures.value in
    rw (same, c.in_ok-callers.ensures.entered.callers_are) (rises_next c.args.image.now c.waves.ran.items _ c.as_slice-wave.result.now next)

pub waves-preserved : goal.waves-preserved
waves-preserved g c =
    let next : c.as_slice-wave.result.now ≡ ready_cores c.args.image.now c.waves.ran.items (rows_now c.args.image.now (trace_of c.waves.places.past.items c.waves.places.turns)) =
    c.as_slice-wave.ensures.value ∙ (c.in_ok-cores.ensures ∙ (ap (λ (l : List ℕ). ready_cores c.args.image.now l c.rows.result.now) c.deref.ensures.value
    ∙ ap (λ (rows : List Row). ready_cores c.args.image.now c.waves.ran.items rows) (c.rows.ensures ∙ ap (λ (i : Image). rows_now i (trace_of c.waves.places.past.items c.waves.places.turns)) c.waves.invariant.image))) in
    let some : c.as_slice-wave.result.now ≢ [] = some_items c.as_slice-wave.result.now (sym c.is_empty.ensures ∙ c.if-is_empty.false) in
    let same : c.as_slice-inside.result.now ≡ c.in_ok-callers.callers.items = c.as_slice-inside.ensures.value in
    let image_is : c.in_ok-places.places.image.now ≡ c.args.image.now = c.in_ok-places.ensures.image ∙ c.in_ok-callers.ensures.image in
    let kept : c.args.image.now.announce ≡ true → c.deref-in-waves.result.now ≡ rows_now c.args.image.now (trace_of c.waves.places.past.items c.waves.places.turns) =
    λ loud. c.deref-in-waves.ensures.value ∙ (c.in_ok-before.ensures loud ∙ (c.rows-in-waves.ensures ∙ ap (λ (i : Image). rows_now i (trace_of c.waves.places.past.items c.waves.places.turns)) c.waves.invariant.image)) in
    let now : c.rows-in-waves-2.result.now ≡ rows_now c.args.image.now (trace_of c.in_ok-places.places.past.items c.in_ok-places.places.turns) =
    c.rows-in-waves-2.ensures ∙ ap (λ (i : Image). rows_now i (trace_of c.in_ok-places.places.past.items c.in_ok-places.places.turns)) image_is in
    let waved = (wave_more c.args.image.now c.args.scripts.now (trace_of c.waves.places.past.items c.waves.places.turns) (trace_of c.enter_all.new.history.past.items c.enter_all.new.history.turns) (trace_of c.in_ok-places.places.past.items c.in_ok-places.places.turns)
    c.waves.ran.items c.as_slice-wave.result.now c.waves.runs.items c.run_entered.new.runs.items c.in_ok-callers.callers.items c.waves.invariant.told c.deref-in-waves.result.now c.rows-in-waves-2.result.now c.waves.invariant.waved
    (refused_so c.args.image.now c.waves.invariant.told c.waves.exits.items None c.waves.invariant.is) next some c.in_ok-callers.ensures.entered
    (subst (λ (l : List Caller). AddedBy (cores_of l) (trace_of c.enter_all.new.history.past.items c.enter_all.new.history.turns) (trace_of c.in_ok-places.places.past.items c.in_ok-places.places.turns)) same c.in_ok-places.ensures.added)
    (λ (them : List ℕ) (first : Gave c.args.image.now c.args.scripts.now (trace_of c.enter_all.new.history.past.items c.enter_all.new.history.turns) them c.waves.runs.items).
    subst (λ (l : List Caller). Gave c.args.image.now c.args.scripts.now (trace_of c.in_ok-places.places.past.items c.in_ok-places.places.turns) (them ++ cores_of l) c.run_entered.new.runs.items) same (subst (λ (i : Image). Gave i c.args.scripts.now (trace_of c.in_ok-places.places.past.items c.in_ok-places.places.turns) (them ++ cores_of c.as_slice-inside.result.now) c.run_entered.new.runs.items) c.in_ok-callers.ensures.image
    (c.in_ok-places.ensures.gave them (subst (λ (i : Image). Gave i c.args.scripts.now (trace_of c.enter_all.new.history.past.items c.enter_all.new.history.turns) them c.waves.runs.items) (sym c.in_ok-callers.ensures.image) first)))) kept now) in
    let told : List Announced = c.waves.invariant.told ++ told_between c.args.image.now c.deref-in-waves.result.now c.rows-in-waves-2.result.now in
    record {
      told = told;
      waved = rw c.in_ok-extend_from_slice.ensures.items waved;
      is = subst (λ (said : _). IsTold c.args.image.now told c.tell_wave.new.exits.items said) (said_none c.in_ok-refused.refused (sym c.is_some.ensures ∙ c.if-is_some.false))
          (c.in_ok-refused.ensures.told c.waves.invariant.told c.waves.invariant.is);
      low = c.in_ok-refused.ensures.low;
      image = image_is;
    }

pub returns-then-is_some-clause-run : goal.returns-then-is_some-clause-run
returns-then-is_some-clause-run g c =
    let next : c.as_slice-wave.result.now ≡ ready_cores c.args.image.now c.waves.ran.items (rows_now c.args.image.now (trace_of c.waves.places.past.items c.waves.places.turns)) =
    c.as_slice-wave.ensures.value ∙ (c.in_ok-cores.ensures ∙ (ap (λ (l : List ℕ). ready_cores c.args.image.now l c.rows.result.now) c.deref.ensures.value
    ∙ ap (λ (rows : List Row). ready_cores c.args.image.now c.waves.ran.items rows) (c.rows.ensures ∙ ap (λ (i : Image). rows_now i (trace_of c.waves.places.past.items c.waves.places.turns)) c.waves.invariant.image))) in
    let some : c.as_slice-wave.result.now ≢ [] = some_items c.as_slice-wave.result.now (sym c.is_empty.ensures ∙ c.if-is_empty.false) in
    let same : c.as_slice-inside.result.now ≡ c.in_ok-callers.callers.items = c.as_slice-inside.ensures.value in
    let image_is : c.in_ok-places.places.image.now ≡ c.args.image.now = c.in_ok-places.ensures.image ∙ c.in_ok-callers.ensures.image in
    let kept : c.args.image.now.announce ≡ true → c.deref-in-waves.result.now ≡ rows_now c.args.image.now (trace_of c.waves.places.past.items c.waves.places.turns) =
    λ loud. c.deref-in-waves.ensures.value ∙ (c.in_ok-before.ensures loud ∙ (c.rows-in-waves.ensures ∙ ap (λ (i : Image). rows_now i (trace_of c.waves.places.past.items c.waves.places.turns)) c.waves.invariant.image)) in
    let now : c.rows-in-waves-2.result.now ≡ rows_now c.args.image.now (trace_of c.in_ok-places.places.past.items c.in_ok-places.places.turns) =
    c.rows-in-waves-2.ensures ∙ ap (λ (i : Image). rows_now i (trace_of c.in_ok-places.places.past.items c.in_ok-places.places.turns)) image_is in
    let waved = (wave_more c.args.image.now c.args.scripts.now (trace_of c.waves.places.past.items c.waves.places.turns) (trace_of c.enter_all.new.history.past.items c.enter_all.new.history.turns) (trace_of c.in_ok-places.places.past.items c.in_ok-places.places.turns)
    c.waves.ran.items c.as_slice-wave.result.now c.waves.runs.items c.run_entered.new.runs.items c.in_ok-callers.callers.items c.waves.invariant.told c.deref-in-waves.result.now c.rows-in-waves-2.result.now c.waves.invariant.waved
    (refused_so c.args.image.now c.waves.invariant.told c.waves.exits.items None c.waves.invariant.is) next some c.in_ok-callers.ensures.entered
    (subst (λ (l : List Caller). AddedBy (cores_of l) (trace_of c.enter_all.new.history.past.items c.enter_all.new.history.turns) (trace_of c.in_ok-places.places.past.items c.in_ok-places.places.turns)) same c.in_ok-places.ensures.added)
    (λ (them : List ℕ) (first : Gave c.args.image.now c.args.scripts.now (trace_of c.enter_all.new.history.past.items c.enter_all.new.history.turns) them c.waves.runs.items).
    subst (λ (l : List Caller). Gave c.args.image.now c.args.scripts.now (trace_of c.in_ok-places.places.past.items c.in_ok-places.places.turns) (them ++ cores_of l) c.run_entered.new.runs.items) same (subst (λ (i : Image). Gave i c.args.scripts.now (trace_of c.in_ok-places.places.past.items c.in_ok-places.places.turns) (them ++ cores_of c.as_slice-inside.result.now) c.run_entered.new.runs.items) c.in_ok-callers.ensures.image
    (c.in_ok-places.ensures.gave them (subst (λ (i : Image). Gave i c.args.scripts.now (trace_of c.enter_all.new.history.past.items c.enter_all.new.history.turns) them c.waves.runs.items) (sym c.in_ok-callers.ensures.image) first)))) kept now) in
    let told : List Announced = c.waves.invariant.told ++ told_between c.args.image.now c.deref-in-waves.result.now c.rows-in-waves-2.result.now in
    waved_refused c.args.image.now c.args.scripts.now (trace_of c.in_ok-places.places.past.items c.in_ok-places.places.turns) (c.waves.ran.items ++ c.as_slice-wave.result.now) c.run_entered.new.runs.items told c.tell_wave.new.exits.items c.in_ok-refused.refused
    (subst (λ (i : Image). IsRecorded i (trace_of c.in_ok-places.places.past.items c.in_ok-places.places.turns)) image_is (recorded_behind c.in_ok-places.places.kept)) waved
    (c.in_ok-refused.ensures.told c.waves.invariant.told c.waves.invariant.is) (sym c.is_some.ensures ∙ c.if-is_some.true)

pub tell_wave-requires-clause-before : goal.tell_wave-requires-clause-before
tell_wave-requires-clause-before g c = λ loud.
    subst (AreRegistered c.args.image.now) (sym (c.deref-in-waves.ensures.value ∙ c.in_ok-before.ensures loud))
    (registered c.args.image.now (trace_of c.waves.places.past.items c.waves.places.turns) c.rows-in-waves.result.now c.requires.sound
    (subst (λ (i : Image). IsRecorded i (trace_of c.waves.places.past.items c.waves.places.turns)) c.waves.invariant.image (recorded_behind c.waves.places.kept))
    (c.rows-in-waves.ensures ∙ ap (λ (i : Image). rows_now i (trace_of c.waves.places.past.items c.waves.places.turns)) c.waves.invariant.image))

pub tell_wave-requires-clause-after : goal.tell_wave-requires-clause-after
tell_wave-requires-clause-after g c =
    let image_is : c.in_ok-places.places.image.now ≡ c.args.image.now = c.in_ok-places.ensures.image ∙ c.in_ok-callers.ensures.image in
    registered c.args.image.now (trace_of c.in_ok-places.places.past.items c.in_ok-places.places.turns) c.rows-in-waves-2.result.now c.requires.sound
    (subst (λ (i : Image). IsRecorded i (trace_of c.in_ok-places.places.past.items c.in_ok-places.places.turns)) image_is (recorded_behind c.in_ok-places.places.kept))
    (c.rows-in-waves-2.ensures ∙ ap (λ (i : Image). rows_now i (trace_of c.in_ok-places.places.past.items c.in_ok-places.places.turns)) image_is)

pub waves-smaller : goal.waves-smaller
waves-smaller g c =
    let next : c.as_slice-wave.result.now ≡ ready_cores c.args.image.now c.waves.ran.items (rows_now c.args.image.now (trace_of c.waves.places.past.items c.waves.places.turns)) =
    c.as_slice-wave.ensures.value ∙ (c.in_ok-cores.ensures ∙ (ap (λ (l : List ℕ). ready_cores c.args.image.now l c.rows.result.now) c.deref.ensures.value
    ∙ ap (λ (rows : List Row). ready_cores c.args.image.now c.waves.ran.items rows) (c.rows.ensures ∙ ap (λ (i : Image). rows_now i (trace_of c.waves.places.past.items c.waves.places.turns)) c.waves.invariant.image))) in
    let some : c.as_slice-wave.result.now ≢ [] = some_items c.as_slice-wave.result.now (sym c.is_empty.ensures ∙ c.if-is_empty.false) in
    subst (λ (l : List ℕ). left c.args.image.now l < left c.args.image.now c.waves.ran.items) (sym c.in_ok-extend_from_slice.ensures.items) (fewer_left c.args.image.now c.waves.ran.items _ c.as_slice-wave.result.now next some)
