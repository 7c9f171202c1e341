use Rattle.std.proofs.Common.{◌∙◌, length}
use Rattle.std.specs.Prelude.{sum_by}
use Rattle.grouper_state.specs.Outgoing.{still_going}
use Rattle.grouper_state.specs.States.{taken_on}
use Rattle.grouper_state.proofs.Stepped as stepped
use Rattle.grouper_state.proofs.Stepping as stepping
use Rattle.grouper_state.proofs.laws.state_keeps_promise.Goals as goal

pub returns-clause-keeps_on : goal.returns-clause-keeps_on
returns-clause-keeps_on c job shape me taken put s h link frame takes =
    stepped.keeps_with job shape me taken put s.grouper s.going s.turn s.processors s.mark s.finished h link frame takes

pub returns-clause-rests : goal.returns-clause-rests
returns-clause-rests c job shape me taken put s h rest = (
  stepped.sends_all job shape me taken put s.grouper s.going s.turn s.processors s.mark s.finished h rest.idle rest.settled rest.marked,
  λ none. rest.ended (stepped.least_same job shape me taken put s.grouper s.going s.turn s.processors s.mark s.finished h ∙ none),
)

pub returns-clause-few : goal.returns-clause-few
returns-clause-few c job shape me taken put s h q hq =
    stepping.few_put job shape me (taken_on taken) (taken_on put) (sum_by length taken) s.grouper (still_going s.going) s.turn s.mark s.finished h.stands q hq

pub returns-clause-ends : goal.returns-clause-ends
returns-clause-ends c job shape me taken put s h over q hq =
    stepping.ends_put job shape me (taken_on taken) (taken_on put) (sum_by length taken) s.grouper (still_going s.going) s.turn s.mark s.finished h.stands over q hq
