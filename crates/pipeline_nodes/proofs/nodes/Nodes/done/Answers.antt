-- All nodes are done where those of each kind are.
use Rattle.std.proofs.Common.{rules, sym, subst}
use Rattle.summary_spec.specs.Job.{declared_of}
use Rattle.round_law.specs.Pipeline.Place.{Merge}
use Rattle.net_law.specs.Nets.{NetStands}
use Rattle.pipeline_nodes.specs.Nodes.{NodesSeen, net_of}
use Rattle.run_rounds.specs.Runs.{AllAreDone}
use Rattle.pipeline_nodes.proofs.Finished.{all_done, parser_left_to_do, grouper_left_to_do, processor_left_to_do}
use Rattle.pipeline_nodes.proofs.nodes.Nodes.done.Goals as goal

pub returns-then-not-parsers_done-clause-not_done : goal.returns-then-not-parsers_done-clause-not_done
returns-then-not-parsers_done-clause-not_done g c all =
    absurd (parser_left_to_do (net_of (declared_of c.self.inside.job.now) c.self.inside.credits c.self.inside.parsers.items c.self.inside.groupers.items c.self.inside.processors.items c.self.inside.merge.merge) (subst (λ (s : NodesSeen). NetStands s.net) (sym c.self.view_is) c.requires.stands) (c.parsers_done.ensures.not_all (search rules)) (subst (λ (s : NodesSeen). AllAreDone s.net) (sym c.self.view_is) all))

pub returns-then-not-groupers_done-clause-not_done : goal.returns-then-not-groupers_done-clause-not_done
returns-then-not-groupers_done-clause-not_done g c all =
    absurd (grouper_left_to_do (net_of (declared_of c.self.inside.job.now) c.self.inside.credits c.self.inside.parsers.items c.self.inside.groupers.items c.self.inside.processors.items c.self.inside.merge.merge) (subst (λ (s : NodesSeen). NetStands s.net) (sym c.self.view_is) c.requires.stands) (c.groupers_done.ensures.not_all (search rules)) (subst (λ (s : NodesSeen). AllAreDone s.net) (sym c.self.view_is) all))

pub returns-then-not-processors_done-clause-not_done : goal.returns-then-not-processors_done-clause-not_done
returns-then-not-processors_done-clause-not_done g c all =
    absurd (processor_left_to_do (net_of (declared_of c.self.inside.job.now) c.self.inside.credits c.self.inside.parsers.items c.self.inside.groupers.items c.self.inside.processors.items c.self.inside.merge.merge) (subst (λ (s : NodesSeen). NetStands s.net) (sym c.self.view_is) c.requires.stands) (c.processors_done.ensures.not_all (search rules)) (subst (λ (s : NodesSeen). AllAreDone s.net) (sym c.self.view_is) all))

pub returns-clause-done : goal.returns-clause-done
returns-clause-done g c is =
    subst (λ (s : NodesSeen). AllAreDone s.net) c.self.view_is
    (all_done (net_of (declared_of c.self.inside.job.now) c.self.inside.credits c.self.inside.parsers.items c.self.inside.groupers.items c.self.inside.processors.items c.self.inside.merge.merge) (subst (λ (s : NodesSeen). NetStands s.net) (sym c.self.view_is) c.requires.stands) (c.parsers_done.ensures.all (search rules)) (c.groupers_done.ensures.all (search rules)) (c.processors_done.ensures.all (search rules)) (c.done.ensures.done is))

pub returns-clause-not_done : goal.returns-clause-not_done
returns-clause-not_done g c all =
    let every : AllAreDone (net_of (declared_of c.self.inside.job.now) c.self.inside.credits c.self.inside.parsers.items c.self.inside.groupers.items c.self.inside.processors.items c.self.inside.merge.merge) = (subst (λ (s : NodesSeen). AllAreDone s.net) (sym c.self.view_is) all) in
    c.done.ensures.not_done every.0.merge (every.1 Merge tt)
