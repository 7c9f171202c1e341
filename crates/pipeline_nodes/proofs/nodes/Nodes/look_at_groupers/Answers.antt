-- One grouper more.
use Rattle.std.proofs.Common.{◌≡◌, refl, ap, ◌∙◌, arith}
use Rattle.run_law.specs.Shapes.{Shape}
use Rattle.pipeline_nodes.proofs.Looking.{no_groupers, one_grouper}
use Rattle.pipeline_nodes.proofs.nodes.Nodes.look_at_groupers.Goals as goal

pub groupers-init : goal.groupers-init
groupers-init g c = record { looks = no_groupers c.args.self.now.net c.requires; stands = c.requires; lent = refl }

pub look_at_grouper-requires-clause-there : goal.look_at_grouper-requires-clause-there
look_at_grouper-requires-clause-there g c =
    let same : c.groupers.self.net.shape.groupers ≡ c.args.self.now.net.shape.groupers = ap (λ (s : Shape). s.groupers) c.groupers.invariant.looks.looks.alike.same.1 in
    omega (arith, c.groupers-test.true, c.grouper_count-count.ensures.is, same, c.groupers.invariant.stands.grouper_count)

pub groupers-preserved : goal.groupers-preserved
groupers-preserved g c = record {
  looks = one_grouper c.groupers.g c.args.self.now.net c.groupers.self.net c.look_at_grouper.new.self.net c.groupers.invariant.looks c.look_at_grouper.ensures.looks;
  stands = c.look_at_grouper.ensures.stands;
  lent = c.look_at_grouper.ensures.lent ∙ c.groupers.invariant.lent;
}

pub returns-clause-looks : goal.returns-clause-looks
returns-clause-looks g c = record {
  looks = c.groupers.invariant.looks.looks;
  looked = λ p i hp less. c.groupers.invariant.looks.looked p i hp (omega (arith, less, c.groupers-test.false, c.grouper_count-count.ensures.is));
}
