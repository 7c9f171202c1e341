use Rattle.std.proofs.Common.{length}
use Rattle.std.specs.Prelude.{sum_by}
use Rattle.query_state.specs.States.{taken_on}
use Rattle.query_state.proofs.Stepping as stepping
use Rattle.query_state.proofs.laws.state_keeps_promise.Goals as goal

pub returns-clause-keeps : goal.returns-clause-keeps
returns-clause-keeps c job taken put s h parsers processors =
    stepping.promised job (length taken) (sum_by length taken) (taken_on taken) put s.profile s.mark s.next s.finished h.stands parsers processors

pub returns-clause-rests : goal.returns-clause-rests
returns-clause-rests c job taken put s h none parsers processors =
    stepping.rested job (length taken) (sum_by length taken) (taken_on taken) put s.profile s.mark s.next s.finished h.stands parsers processors none

pub returns-clause-few : goal.returns-clause-few
returns-clause-few c job taken put s h = stepping.few_put job (length taken) (sum_by length taken) (taken_on taken) put s.profile s.mark s.next s.finished h.stands 0 0 h.few_rows
