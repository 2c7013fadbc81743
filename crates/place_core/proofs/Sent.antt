-- A place may go to another thread, and may be shared. Its snapshots own nothing.
use denote.RattleType.{RattleType}
use denote.Param.Send.{IsSend, IsSync, part_keyless, struct_send, struct_sync, view_send, view_sync, recorded_send, recorded_sync, sendable}
use denote.Struct.Declared.{shape}
use Rattle.std.specs.contracts.snapshot.Snapshot.{the_row as snapshot_row}
use Rattle.std.specs.contracts.option.Option.{the_row as option_row}
use Rattle.std.proofs.Crossing.{Box-send, Box-sync}
use Rattle.svsm_steps.specs.contracts.place_state.Pending.{the_row as pending_row}
use Rattle.svsm_steps.specs.contracts.step.Step.{the_row as step_row}
use Rattle.place_core.specs.contracts.kind.Kind.{the_row as kind_row}
use Rattle.place_core.specs.contracts.place.Kept.{the_row as kept_row}
use Rattle.place_core.proofs.place.Kept.TheSendSync as kept
use Rattle.place_core.specs.contracts.place.Place.{the_row}
use Rattle.place_core.specs.contracts.place.Place.TheInside as inside

snapshot_send : (row : RattleType) → IsSend (snapshot_row row)
snapshot_send row = record { owned = λ d vs. ((λ vss. (tt, ((λ uss. (tt, tt)), tt))), tt); leaving = λ k f vs. tt }

snapshot_sync : (row : RattleType) → IsSync (snapshot_row row)
snapshot_sync row = record { shared = λ d b o κ q. part_keyless (snapshot_row row) (snapshot_send row) q d b o }

pub place_send : IsSend the_row
place_send = view_send _ _ _ _ _ (recorded_send inside.the_field.row _ _ inside.the_type.to_one
    (struct_send (shape inside.the_type) (Box-send kept_row kept.the_send, (snapshot_send kind_row, (snapshot_send (option_row pending_row), (snapshot_send (option_row step_row), tt))))))

pub place_sync : IsSync the_row
place_sync = view_sync _ _ _ _ _ (recorded_sync inside.the_field.row _ _ inside.the_type.to_one
    (struct_sync (shape inside.the_type) (Box-sync kept_row kept.the_sync, (snapshot_sync kind_row, (snapshot_sync (option_row pending_row), (snapshot_sync (option_row step_row), tt))))))

-- what a search cites where places cross threads
pub ruleset crossing = (sendable, place_send, place_sync)
