-- What was written is a front of the report, and the pipeline holds.
use Rattle.std.proofs.Common.{subst}
use Rattle.std.specs.Prelude.{IfErr}
use Rattle.net_law.specs.Rounds.{NoneHasFault}
use Rattle.pipeline_law.specs.Laws.{TellsFiles}
use Rattle.pipeline_law.proofs.Agreeing.{held_is_within}
use Rattle.pipeline_law.proofs.Moments.{moment_is_snapshot, moment_is_written}
use Rattle.pipeline_law.proofs.Staying.{files_stay, goes_by_step}
use Rattle.pipeline_nodes.specs.Turns.{HasMet}
use Rattle.pipeline_core.specs.Pipelines.{PipelineSeen, PipelineGoes}
use Rattle.pipeline_core.proofs.Holding.{holds_on, none_at}
use Rattle.pipeline_core.proofs.pipeline.Pipeline.turn.Goals as goal

pub invariant_of-self : goal.invariant_of-self
invariant_of-self g c =
    holds_on c.self.inside.nodes.net c.turn_and_keep.new.nodes.net c.self.inside.first c.self.inside.room.lists.items c.self.inside.room.gathered c.self.inside.captures c.self.inside.rows c.self.invariant
    c.turn_and_keep.new.first c.turn_and_keep.ensures.stands c.turn_and_keep.ensures.alike (c.turn_and_keep.ensures.tells c.self.invariant.tells)

pub returns-clause-goes : goal.returns-clause-goes
returns-clause-goes g c =
    subst (λ (s : PipelineSeen). PipelineGoes s (record { net = c.turn_and_keep.new.nodes.net; lent = c.turn_and_keep.new.nodes.lent; fault = c.turn_and_keep.new.first })) c.self.view_is
    (record { net = goes_by_step c.self.inside.nodes.net c.turn_and_keep.new.nodes.net c.turn_and_keep.ensures.goes; lent = c.turn_and_keep.ensures.lent })

pub returns-clause-snapshot : goal.returns-clause-snapshot
returns-clause-snapshot g c files start tells =
    moment_is_snapshot c.turn_and_keep.new.nodes.net files start c.turn_and_keep.ensures.stands.stands
    (files_stay c.self.inside.nodes.net c.turn_and_keep.new.nodes.net files c.self.invariant.nodes.stands (goes_by_step c.self.inside.nodes.net c.turn_and_keep.new.nodes.net c.turn_and_keep.ensures.goes)
    (subst (λ (s : PipelineSeen). TellsFiles s.net files → TellsFiles c.self.inside.nodes.net files) c.self.view_is (λ t. t) tells))

pub returns-clause-written : goal.returns-clause-written
returns-clause-written g c files start tells =
    moment_is_written c.turn_and_keep.new.nodes.net files start c.turn_and_keep.ensures.stands.stands
    (files_stay c.self.inside.nodes.net c.turn_and_keep.new.nodes.net files c.self.invariant.nodes.stands (goes_by_step c.self.inside.nodes.net c.turn_and_keep.new.nodes.net c.turn_and_keep.ensures.goes)
    (subst (λ (s : PipelineSeen). TellsFiles s.net files → TellsFiles c.self.inside.nodes.net files) c.self.view_is (λ t. t) tells))

pub returns-clause-held : goal.returns-clause-held
returns-clause-held g c = held_is_within c.turn_and_keep.new.nodes.net c.turn_and_keep.ensures.stands.stands

pub returns-clause-meets : goal.returns-clause-meets
returns-clause-meets g c =
    subst (λ (s : PipelineSeen). NoneHasFault s.net → IfErr c.turn_and_keep.result (λ bad. HasMet c.args.node s.net c.turn_and_keep.new.nodes.net bad)) c.self.view_is
    (λ quiet. c.turn_and_keep.ensures.causes (none_at c.self.inside.nodes.net c.self.invariant.nodes.stands quiet c.args.node))
