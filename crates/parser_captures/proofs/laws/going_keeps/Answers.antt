use Rattle.parser_captures.proofs.Going.{goes_on}
use Rattle.parser_captures.proofs.Marking.{marks_on}
use Rattle.parser_captures.proofs.laws.going_keeps.Goals as goal

pub returns-clause-keeps : goal.returns-clause-keeps
returns-clause-keeps c = goes_on

pub returns-clause-marks : goal.returns-clause-marks
returns-clause-marks c = marks_on
