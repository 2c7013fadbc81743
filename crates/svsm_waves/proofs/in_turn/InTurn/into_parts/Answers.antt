use Rattle.std.proofs.Common.{◌≡◌, ◌++◌, ◌∙◌, List, length, ap}
use Rattle.svsm_steps.specs.declared.entry.Entry.{Entry}
use Rattle.history_core.specs.Raised.{raised}
use Rattle.svsm_waves.specs.InTurn.{trace_of}
use Rattle.svsm_waves.proofs.Begun.{again_begun, again_stand}
use Rattle.svsm_waves.proofs.in_turn.InTurn.into_parts.Goals as goal

pub returns-clause-past : goal.returns-clause-past
returns-clause-past c =
    let was = c.args.self in
    c.in_ok-joined.ensures ∙ ap (λ (l : List Entry). was.past.items ++ raised (length was.past.items) l) c.close-closed.ensures.history

pub returns-clause-places : goal.returns-clause-places
returns-clause-places c =
    let was = c.args.self in
    again_begun was.image.now was.past.items was.turns c.close-closed.result.0.items c.in_ok-places.places.items was.kept c.close-closed.ensures.closed c.in_ok-places.ensures.places

pub returns-clause-opened : goal.returns-clause-opened
returns-clause-opened c =
    let was = c.args.self in
    let all : c.in_ok-joined.field-0.items ≡ trace_of was.past.items was.turns =
    c.in_ok-joined.ensures ∙ ap (λ (l : List Entry). was.past.items ++ raised (length was.past.items) l) c.close-closed.ensures.history in
    again_stand was.image.now was.past.items c.in_ok-joined.field-0.items was.turns c.close-closed.result.0.items c.in_ok-places.places.items was.kept
    c.close-closed.ensures.closed c.in_ok-places.ensures.places all
