use Rattle.std.proofs.Common.{List, [], subst, sym}
use Rattle.ds_base.specs.declared.verdict.Answer.{Answer}
use Rattle.summary_spec.specs.Job.{declared_of}
use Rattle.merge_state.specs.States.{StateIs}
use Rattle.merge_state.specs.declared.stage.Stage.TheVariants.{Answers}
use Rattle.merge_state.proofs.Stepped as stepped
use Rattle.merge_state.proofs.state.MergeState.new.Goals as goal

pub returns : goal.returns
returns c = λ shape some e.
    subst (λ (w : List Answer). StateIs (declared_of c.args.job.now) shape.parsers shape.processors (λ parser. []) (λ processor. []) [] w c.new-2.result c.new-3.result c.in_ok-counts.counts.items 0 Answers)
    (sym c.new.ensures)
    (stepped.starts (declared_of c.args.job.now) shape c.new-2.result c.new-3.result c.in_ok-counts.counts.items c.args.processors c.args.job.now.lawful some e c.requires c.new-2.ensures c.new-3.ensures.empty
    c.in_ok-counts.ensures)
