-- A stored fault is answered again; else the work is turned, and a fault is stored.
use Rattle.std.proofs.Common.{Some, Err, refl, sym, ap, ◌∙◌, subst}
use Rattle.credit_link.specs.declared.turn.Turn.{Turn}
use Rattle.credit_link.specs.declared.turn.Turn.TheVariants.{Idle}
use Rattle.round_law.specs.Rows.{TurnSays, TurnTells}
use Rattle.net_law.specs.Groupers.{GrouperSeen, GrouperStands, GrouperGoes, GrouperMeets, grouper_view, grouper_tells}
use Rattle.grouper_node.specs.Works.{grouper_of}
use Rattle.grouper_node.specs.Steps.{Turns, work_view}
use Rattle.grouper_node.proofs.Turning.{turn_says, turn_tells, turn_rests, holds_on, holds_failed, goes_same, goes_by, never_again, same_bad, same_turn, meets_by}
use Rattle.grouper_node.proofs.node.GrouperNode.turn.Goals as goal

-- ---- a fault of before

pub returns-in-Some-clause-stands : goal.returns-in-Some-clause-stands
returns-in-Some-clause-stands g c = subst GrouperStands c.self.view_is c.self.invariant.stands

pub returns-in-Some-clause-goes : goal.returns-in-Some-clause-goes
returns-in-Some-clause-goes g c = goes_same c.args.self.now

pub returns-in-Some-clause-fault : goal.returns-in-Some-clause-fault
returns-in-Some-clause-fault g c = sym (ap (λ (s : GrouperSeen). s.fault) c.self.view_is) ∙ c.in-Some.is

pub returns-in-Some-clause-again : goal.returns-in-Some-clause-again
returns-in-Some-clause-again g c bad is =
    (ap Err (same_bad c.in-Some.bad bad (sym (returns-in-Some-clause-fault g c) ∙ is)), refl)

pub returns-in-Some-clause-causes : goal.returns-in-Some-clause-causes
returns-in-Some-clause-causes g c none = never_again c.args.self.now.fault c.in-Some.bad none (returns-in-Some-clause-fault g c)

-- ---- a turn without a fault

pub invariant_of-self : goal.invariant_of-self
invariant_of-self g c = holds_on c.turn.new.self c.self.inside.fault c.in-None.is c.in-Ok.ensures.turns.steps.sound

pub returns-in-Ok-clause-stands : goal.returns-in-Ok-clause-stands
returns-in-Ok-clause-stands g c = (invariant_of-self g c).stands

pub returns-in-Ok-clause-goes : goal.returns-in-Ok-clause-goes
returns-in-Ok-clause-goes g c =
    subst (λ (s : GrouperSeen). GrouperGoes s (grouper_of c.turn.new.self c.self.inside.fault)) c.self.view_is
    (goes_by c.self.inside.work c.turn.new.self c.self.inside.fault c.self.inside.fault c.in-None.is c.in-Ok.ensures.turns.steps.goes)

pub returns-in-Ok-clause-says : goal.returns-in-Ok-clause-says
returns-in-Ok-clause-says g c =
    subst (λ (s : GrouperSeen). grouper_tells s → TurnSays s.credits (grouper_view s) (work_view c.turn.new.self) c.in-Ok.turn) c.self.view_is
    (turn_says c.in-Ok.turn c.self.inside.work c.turn.new.self c.in-Ok.ensures.turns)

pub returns-in-Ok-clause-tells : goal.returns-in-Ok-clause-tells
returns-in-Ok-clause-tells g c =
    subst (λ (s : GrouperSeen). grouper_tells s → TurnTells (grouper_view s) (work_view c.turn.new.self) c.in-Ok.turn) c.self.view_is
    (turn_tells c.in-Ok.turn c.self.inside.work c.turn.new.self c.in-Ok.ensures.turns)

pub returns-in-Ok-clause-rests : goal.returns-in-Ok-clause-rests
returns-in-Ok-clause-rests g c idle =
    turn_rests c.self.inside.work c.turn.new.self c.self.inside.fault (subst (λ (t : Turn). Turns t c.self.inside.work c.turn.new.self) (same_turn c.in-Ok.turn Idle idle) c.in-Ok.ensures.turns)

pub returns-in-Ok-clause-again : goal.returns-in-Ok-clause-again
returns-in-Ok-clause-again g c bad is = never_again c.self.inside.fault bad c.in-None.is (ap (λ (s : GrouperSeen). s.fault) c.self.view_is ∙ is)

-- ---- a fault of this turn

pub invariant_of-self-in-Err : goal.invariant_of-self-in-Err
invariant_of-self-in-Err g c = holds_failed c.self.inside.work c.turn.new.self c.in-Err.bad c.in-Err.ensures.fails

pub returns-in-Err-clause-stands : goal.returns-in-Err-clause-stands
returns-in-Err-clause-stands g c = (invariant_of-self-in-Err g c).stands

pub returns-in-Err-clause-goes : goal.returns-in-Err-clause-goes
returns-in-Err-clause-goes g c =
    subst (λ (s : GrouperSeen). GrouperGoes s (grouper_of c.turn.new.self (Some c.in-Err.bad))) c.self.view_is
    (goes_by c.self.inside.work c.turn.new.self c.self.inside.fault (Some c.in-Err.bad) c.in-None.is c.in-Err.ensures.fails.goes)

pub returns-in-Err-clause-again : goal.returns-in-Err-clause-again
returns-in-Err-clause-again g c bad is = never_again c.self.inside.fault bad c.in-None.is (ap (λ (s : GrouperSeen). s.fault) c.self.view_is ∙ is)

pub returns-in-Err-clause-causes : goal.returns-in-Err-clause-causes
returns-in-Err-clause-causes g c none =
    subst (λ (s : GrouperSeen). GrouperMeets s (grouper_of c.turn.new.self (Some c.in-Err.bad)) c.in-Err.bad) c.self.view_is
    (meets_by c.self.inside.work c.turn.new.self c.self.inside.fault c.in-Err.bad c.in-None.is c.in-Err.ensures.fails)
