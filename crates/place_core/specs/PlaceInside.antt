-- What a place is in memory.
use Rattle.std.specs.Prelude.{◌≡◌, ◌<◌, Option, None, Some, vec_len, vec_capacity}
use Rattle.svsm_steps.specs.declared.step.Step.{Step}
use Rattle.svsm_steps.specs.declared.place_state.Pending.{Pending}
use Rattle.place_core.specs.declared.kind.Kind.{Kind}
use Rattle.place_core.specs.declared.place.Kept.{Kept}
use Rattle.place_core.specs.declared.place.Place.TheInside.{Inside}
use Rattle.place_core.specs.Kinds.{HasRoomFor}
use Rattle.place_core.specs.PlaceView.{PlaceView, IsKept}

-- what contracts see of it, by what stands in memory and what is known to contracts alone
abbrev pub seen : Kept → Kind → Option Pending → Option Step → PlaceView
seen kept opening pending spare = record {
  number = kept.number;
  regions = kept.regions;
  opening = opening;
  kind = kept.kind;
  log = kept.log.items;
  pending = pending;
  spare = spare;
}

abbrev pub view_of : Inside → PlaceView
view_of p = seen p.kept.value p.opening.value p.pending.value p.spare.value

-- what it keeps, and the room that it holds for the step of its spare
pub record IsWhole (p : Inside) : Type 0 where
  pub kept : IsKept (view_of p)
  pub entry : (step : Step) → p.spare.value ≡ Some step → vec_len p.kept.value.log < vec_capacity p.kept.value.log
  pub room : (step : Step) → p.spare.value ≡ Some step → p.pending.value ≡ None → HasRoomFor step p.kept.value.kind
