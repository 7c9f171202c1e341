-- One query processor more.
use Rattle.std.proofs.Common.{◌≡◌, refl, ap, ◌∙◌, arith}
use Rattle.run_law.specs.Shapes.{Shape}
use Rattle.pipeline_nodes.proofs.Looking.{no_processors, one_processor}
use Rattle.pipeline_nodes.proofs.nodes.Nodes.look_at_processors.Goals as goal

pub processors-init : goal.processors-init
processors-init g c = record { looks = no_processors c.args.self.now.net c.requires; stands = c.requires; lent = refl }

pub look_at_processor-requires-clause-there : goal.look_at_processor-requires-clause-there
look_at_processor-requires-clause-there g c =
    let same : c.processors.self.net.shape.processors ≡ c.args.self.now.net.shape.processors = ap (λ (s : Shape). s.processors) c.processors.invariant.looks.looks.alike.same.1 in
    omega (arith, c.processors-test.true, c.processor_count-count.ensures.is, same, c.processors.invariant.stands.processor_count)

pub processors-preserved : goal.processors-preserved
processors-preserved g c = record {
  looks = one_processor c.processors.q c.args.self.now.net c.processors.self.net c.look_at_processor.new.self.net c.processors.invariant.looks c.look_at_processor.ensures.looks;
  stands = c.look_at_processor.ensures.stands;
  lent = c.look_at_processor.ensures.lent ∙ c.processors.invariant.lent;
}

pub returns-clause-looks : goal.returns-clause-looks
returns-clause-looks g c = record {
  looks = c.processors.invariant.looks.looks;
  looked = λ i q hg less. c.processors.invariant.looks.looked i q hg (omega (arith, less, c.processors-test.false, c.processor_count-count.ensures.is));
  ins_stay = c.processors.invariant.looks.ins_stay;
  parsers = c.processors.invariant.looks.parsers;
}
