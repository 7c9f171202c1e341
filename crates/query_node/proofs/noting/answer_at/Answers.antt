-- The answer that was made is put, before which the end was not put.
use Rattle.std.proofs.Common.{List, ◌++◌, Option, sym, subst}
use Rattle.ds_base.specs.declared.verdict.Answer.{Answer}
use Rattle.node_frames.specs.declared.frame.Frame.{Frame}
use Rattle.node_frames.specs.declared.frame.Frame.TheVariants.{AnswerRow}
use Rattle.summary_spec.specs.Job.{declared_of}
use Rattle.run_law.specs.Links.{AreLawful, AnswerRule}
use Rattle.query_state.specs.States.{state_is, taken_more, answer_frames}
use Rattle.query_node.specs.Works.{put_by}
use Rattle.query_node.proofs.Lists.{open_before}
use Rattle.query_node.proofs.noting.answer_at.Goals as goal

pub put_answer-requires-clause-unfinished : goal.put_answer-requires-clause-unfinished
put_answer-requires-clause-unfinished g c a is =
    let job = declared_of c.args.job.now in
    open_before (AnswerRule job) (put_by c.args.outs.now) (AnswerRow a)
    (subst (λ (answer : Option Answer). AreLawful (AnswerRule job) (put_by c.args.outs.now ++ answer_frames answer)) is
    (c.in-Ok.ensures.takes c.requires.taken (put_by c.args.outs.now) c.requires.is c.requires.takes).stands.sends.lawful)

pub returns-in-Ok-clause-takes : goal.returns-in-Ok-clause-takes
returns-in-Ok-clause-takes g c taken is takes =
    subst (λ (put : List Frame). state_is (declared_of c.args.job.now) (taken_more taken c.args.j c.args.frame.now) put c.take.new.self) (sym c.put_answer.ensures.put)
    (c.in-Ok.ensures.takes taken (put_by c.args.outs.now) is takes)
