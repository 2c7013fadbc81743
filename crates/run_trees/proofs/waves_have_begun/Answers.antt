use Rattle.run_trees.proofs.FrontTrees.{fronts_begun}
use Rattle.run_trees.proofs.WaveTrees.{ended_order}
use Rattle.run_trees.proofs.WholeTrees.{begun_front}
use Rattle.run_trees.proofs.MoreTrees.{enter_goes_on, entry_goes_on}
use Rattle.run_trees.proofs.NextTrees.{none_have, wave_goes_on, fronts_go_on, whole_are_gone, none_are_left, begins_are_one, entered_are_one, new_made_none, wave_fills, wave_is_over}
use Rattle.run_trees.proofs.waves_have_begun.Goals as goal

pub returns-clause-fronts : goal.returns-clause-fronts
returns-clause-fronts c = fronts_begun

pub returns-clause-ended : goal.returns-clause-ended
returns-clause-ended c = ended_order

pub returns-clause-begun : goal.returns-clause-begun
returns-clause-begun c = begun_front

pub returns-clause-goes_on : goal.returns-clause-goes_on
returns-clause-goes_on c = entry_goes_on

pub returns-clause-enters : goal.returns-clause-enters
returns-clause-enters c = enter_goes_on

pub returns-clause-wave_goes_on : goal.returns-clause-wave_goes_on
returns-clause-wave_goes_on c = wave_goes_on

pub returns-clause-none_yet : goal.returns-clause-none_yet
returns-clause-none_yet c = none_have

pub returns-clause-fronts_go_on : goal.returns-clause-fronts_go_on
returns-clause-fronts_go_on c = fronts_go_on

pub returns-clause-whole_gone : goal.returns-clause-whole_gone
returns-clause-whole_gone c = whole_are_gone

pub returns-clause-none_left : goal.returns-clause-none_left
returns-clause-none_left c = none_are_left

pub returns-clause-one_begin : goal.returns-clause-one_begin
returns-clause-one_begin c = begins_are_one

pub returns-clause-one_place : goal.returns-clause-one_place
returns-clause-one_place c = entered_are_one

pub returns-clause-new_made_none : goal.returns-clause-new_made_none
returns-clause-new_made_none c = new_made_none

pub returns-clause-wave_fills : goal.returns-clause-wave_fills
returns-clause-wave_fills c = wave_fills

pub returns-clause-wave_is_over : goal.returns-clause-wave_is_over
returns-clause-wave_is_over c = wave_is_over
