-- The answer is put, or nothing is.
use Rattle.std.proofs.Common.{◌++◌, Option, get_or, [], refl, sym, ap, ◌∙◌, append-nil}
use Rattle.ds_base.specs.declared.verdict.Answer.{Answer}
use Rattle.node_lanes.proofs.Listed.{front_same}
use Rattle.query_state.specs.States.{answer_frames}
use Rattle.query_node.specs.Works.{put_by}
use Rattle.query_node.proofs.noting.put_answer.Goals as goal

pub put_frame-requires-clause-unfinished : goal.put_frame-requires-clause-unfinished
put_frame-requires-clause-unfinished g c = c.requires.unfinished c.in-Some.answer c.in-Some.is

pub returns-in-Some-clause-put : goal.returns-in-Some-clause-put
returns-in-Some-clause-put g c = c.put_frame.ensures.put ∙ ap (λ (a : Option Answer). put_by c.args.outs.now ++ answer_frames a) (sym c.in-Some.is)

pub returns-in-None-clause-put : goal.returns-in-None-clause-put
returns-in-None-clause-put g c = sym (append-nil (put_by c.args.outs.now)) ∙ ap (λ (a : Option Answer). put_by c.args.outs.now ++ answer_frames a) (sym c.in-None.is)

pub returns-in-None-clause-queues : goal.returns-in-None-clause-queues
returns-in-None-clause-queues g c k = front_same (get_or c.args.outs.now.queues k []) (get_or c.args.outs.now.queues k []) refl
