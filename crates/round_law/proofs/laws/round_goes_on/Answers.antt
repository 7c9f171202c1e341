use Rattle.round_law.proofs.Turns.{round_begins, round_rests, round_moves, turn_lowers_none, round_goes_on, round_ends}
use Rattle.round_law.proofs.laws.round_goes_on.Goals as goal

pub returns-clause-begins : goal.returns-clause-begins
returns-clause-begins c = round_begins

pub returns-clause-rests : goal.returns-clause-rests
returns-clause-rests c = round_rests

pub returns-clause-moves : goal.returns-clause-moves
returns-clause-moves c = round_moves

pub returns-clause-lowers_none : goal.returns-clause-lowers_none
returns-clause-lowers_none c = turn_lowers_none

pub returns-clause-goes_on : goal.returns-clause-goes_on
returns-clause-goes_on c = round_goes_on

pub returns-clause-ends : goal.returns-clause-ends
returns-clause-ends c = round_ends
