-- A stored fault is answered again; else the work is turned, and a fault is stored.
use Rattle.std.proofs.Common.{Some, Err, refl, sym, ap, ◌∙◌, subst}
use Rattle.round_law.specs.Rows.{TurnSays, TurnTells}
use Rattle.net_law.specs.Merges.{MergeStands, MergeGoes, MergeMeets, merge_view, merge_tells}
use Rattle.net_law.proofs.Going.{merge_stays}
use Rattle.result_merge.specs.Works.{merge_of}
use Rattle.result_merge.specs.Nodes.{MergeLent}
use Rattle.result_merge.proofs.Turning.{holds_on, holds_failed, goes_on, goes_by, says_by, tells_by, never_again, same_bad, meets_by}
use Rattle.result_merge.proofs.node.MergeNode.turn.Goals as goal

-- ---- a fault of before

pub returns-in-Some-clause-stands : goal.returns-in-Some-clause-stands
returns-in-Some-clause-stands g c = subst (λ (n : MergeLent). MergeStands n.merge) c.self.view_is c.self.invariant.stands

pub returns-in-Some-clause-goes : goal.returns-in-Some-clause-goes
returns-in-Some-clause-goes g c = merge_stays c.args.self.now.merge

pub returns-in-Some-clause-fault : goal.returns-in-Some-clause-fault
returns-in-Some-clause-fault g c = sym (ap (λ (n : MergeLent). n.merge.fault) c.self.view_is) ∙ c.in-Some.is

pub returns-in-Some-clause-again : goal.returns-in-Some-clause-again
returns-in-Some-clause-again g c bad is =
    (ap Err (same_bad c.in-Some.bad bad (sym (returns-in-Some-clause-fault g c) ∙ is)), refl)

pub returns-in-Some-clause-causes : goal.returns-in-Some-clause-causes
returns-in-Some-clause-causes g c none = never_again c.args.self.now.merge.fault c.in-Some.bad none (returns-in-Some-clause-fault g c)

-- ---- a turn without a fault

pub invariant_of-self : goal.invariant_of-self
invariant_of-self g c = holds_on c.turn.new.self c.self.inside.fault c.in-None.is c.in-Ok.ensures.turns.steps.sound c.in-Ok.ensures.turns.rests

pub returns-in-Ok-clause-stands : goal.returns-in-Ok-clause-stands
returns-in-Ok-clause-stands g c = (invariant_of-self g c).stands

pub returns-in-Ok-clause-goes : goal.returns-in-Ok-clause-goes
returns-in-Ok-clause-goes g c =
    subst (λ (n : MergeLent). MergeGoes n.merge (merge_of c.turn.new.self c.self.inside.fault)) c.self.view_is
    (goes_on c.self.inside.work c.turn.new.self c.self.inside.fault c.in-None.is c.in-Ok.ensures.turns.steps.goes)

pub returns-in-Ok-clause-lent : goal.returns-in-Ok-clause-lent
returns-in-Ok-clause-lent g c = c.in-Ok.ensures.turns.steps.lent ∙ ap (λ (n : MergeLent). n.lent) c.self.view_is

pub returns-in-Ok-clause-says : goal.returns-in-Ok-clause-says
returns-in-Ok-clause-says g c =
    subst (λ (n : MergeLent). merge_tells n.merge → TurnSays n.merge.credits (merge_view n.merge) (merge_view (merge_of c.turn.new.self c.self.inside.fault)) c.in-Ok.turn) c.self.view_is
    (says_by c.in-Ok.turn c.self.inside.work c.turn.new.self c.self.inside.fault c.in-None.is c.in-Ok.ensures.turns)

pub returns-in-Ok-clause-tells : goal.returns-in-Ok-clause-tells
returns-in-Ok-clause-tells g c =
    subst (λ (n : MergeLent). merge_tells n.merge → TurnTells (merge_view n.merge) (merge_view (merge_of c.turn.new.self c.self.inside.fault)) c.in-Ok.turn) c.self.view_is
    (tells_by c.in-Ok.turn c.self.inside.work c.turn.new.self c.self.inside.fault c.in-None.is c.in-Ok.ensures.turns)

pub returns-in-Ok-clause-rests : goal.returns-in-Ok-clause-rests
returns-in-Ok-clause-rests g c = c.in-Ok.ensures.turns.rests

pub returns-in-Ok-clause-fault : goal.returns-in-Ok-clause-fault
returns-in-Ok-clause-fault g c = c.in-None.is

pub returns-in-Ok-clause-again : goal.returns-in-Ok-clause-again
returns-in-Ok-clause-again g c bad is = never_again c.self.inside.fault bad c.in-None.is (ap (λ (n : MergeLent). n.merge.fault) c.self.view_is ∙ is)

-- ---- a fault of this turn

pub invariant_of-self-in-Err : goal.invariant_of-self-in-Err
invariant_of-self-in-Err g c = holds_failed c.self.inside.work c.turn.new.self c.in-Err.bad c.in-Err.ensures.fails

pub returns-in-Err-clause-stands : goal.returns-in-Err-clause-stands
returns-in-Err-clause-stands g c = (invariant_of-self-in-Err g c).stands

pub returns-in-Err-clause-goes : goal.returns-in-Err-clause-goes
returns-in-Err-clause-goes g c =
    subst (λ (n : MergeLent). MergeGoes n.merge (merge_of c.turn.new.self (Some c.in-Err.bad))) c.self.view_is
    (goes_by c.self.inside.work c.turn.new.self c.self.inside.fault (Some c.in-Err.bad) c.in-None.is c.in-Err.ensures.fails.goes)

pub returns-in-Err-clause-lent : goal.returns-in-Err-clause-lent
returns-in-Err-clause-lent g c = c.in-Err.ensures.fails.lent ∙ ap (λ (n : MergeLent). n.lent) c.self.view_is

pub returns-in-Err-clause-again : goal.returns-in-Err-clause-again
returns-in-Err-clause-again g c bad is = never_again c.self.inside.fault bad c.in-None.is (ap (λ (n : MergeLent). n.merge.fault) c.self.view_is ∙ is)

pub returns-in-Err-clause-causes : goal.returns-in-Err-clause-causes
returns-in-Err-clause-causes g c none =
    subst (λ (n : MergeLent). MergeMeets n.merge (merge_of c.turn.new.self (Some c.in-Err.bad)) c.in-Err.bad) c.self.view_is
    (meets_by c.self.inside.work c.turn.new.self c.self.inside.fault c.in-Err.bad c.in-None.is c.in-Err.ensures.fails)

-- ---- before the work

pub turn-requires-clause-rests : goal.turn-requires-clause-rests
turn-requires-clause-rests g c = c.self.invariant.rests c.in-None.is
