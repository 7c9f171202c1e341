-- The files that the sources tell are the same at the end, where the pipeline stands.
use Rattle.std.proofs.lemmas.Result.{IfOk-weaker}
use Rattle.pipeline_law.proofs.Moments.{moment_is_written, done_is_whole}
use Rattle.pipeline_law.proofs.Staying.{files_stay}
use Rattle.pipeline_run.proofs.here.run_here.Goals as goal

pub returns-clause-whole : goal.returns-clause-whole
returns-clause-whole g c =
    IfOk-weaker c.run_over-ended.result _ _ (λ _ done files start tells.
    done_is_whole c.run_over-ended.new.nodes.net files start c.stands-2.ensures done
    (files_stay c.args.pipeline.now.net c.run_over-ended.new.nodes.net files c.stands.ensures c.run_over-ended.ensures.goes.net tells)) c.run_over-ended.ensures.done

pub returns-clause-written : goal.returns-clause-written
returns-clause-written g c files start tells =
    moment_is_written c.run_over-ended.new.nodes.net files start c.stands-2.ensures
    (files_stay c.args.pipeline.now.net c.run_over-ended.new.nodes.net files c.stands.ensures c.run_over-ended.ensures.goes.net tells)
