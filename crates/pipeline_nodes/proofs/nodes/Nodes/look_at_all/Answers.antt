-- The three looks are a look at all links.
use Rattle.pipeline_nodes.proofs.Looking.{all_looks, all_looked}
use Rattle.pipeline_nodes.proofs.nodes.Nodes.look_at_all.Goals as goal

pub returns-clause-looks : goal.returns-clause-looks
returns-clause-looks g c =
    all_looks c.args.self.now.net c.look_at_groupers.new.self.net c.look_at_processors.new.self.net c.look_at_merge.new.self.net c.look_at_groupers.ensures.looks c.look_at_processors.ensures.looks c.look_at_merge.ensures.looks

pub returns-clause-looked : goal.returns-clause-looked
returns-clause-looked g c =
    all_looked c.args.self.now.net c.look_at_groupers.new.self.net c.look_at_processors.new.self.net c.look_at_merge.new.self.net c.look_at_groupers.ensures.looks c.look_at_processors.ensures.looks c.look_at_merge.ensures.looks
