-- Nothing was taken and nothing put, whatever the other numbers are.
use Rattle.std.proofs.Common.{refl}
use Rattle.summary_spec.specs.Job.{declared_of}
use Rattle.grouper_node.specs.Works.{shape_with}
use Rattle.grouper_node.proofs.noting.new_state.Goals as goal

pub returns : goal.returns
returns c parsers groupers some =
    c.new.ensures (declared_of c.args.job.now) (shape_with parsers groupers c.args.processors) c.args.job.now.lawful c.capture_count-captures.ensures.count refl some refl
