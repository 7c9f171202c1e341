-- Each moment of a pipeline, and its end.
use Rattle.std.proofs.Common.{ℕ, List, subst}
use Rattle.summary_spec.specs.Lawful.{IsLawful}
use Rattle.run_law.specs.Laws.{IsRun}
use Rattle.run_law.proofs.Written.{written_is_front}
use Rattle.run_law.proofs.Ended as run
use Rattle.net_law.specs.Nets.{Net, NetStands, lists_of}
use Rattle.net_law.proofs.Moments.{net_is_snapshot}
use Rattle.net_law.proofs.Done.{done_nodes_are_done}
use Rattle.pipeline_law.specs.Laws.{TellsFiles, MomentIsSnapshot, MomentIsWritten, DoneIsWhole}

pub is_run : (net : Net) (files : List (List ℕ)) → NetStands net → TellsFiles net files → IsRun net.job files net.shape
is_run net files now tells = record { job_is = subst IsLawful now.merge.job now.merge.stands.job_is; files_are = tells.count; shape_is = now.shape_is }

pub moment_is_snapshot : MomentIsSnapshot
moment_is_snapshot net files start now tells = net_is_snapshot net files start now tells.are

pub moment_is_written : MomentIsWritten
moment_is_written net files start now tells =
    written_is_front net.job files net.shape start (lists_of net start) (is_run net files now tells) (moment_is_snapshot net files start now tells)

pub done_is_whole : DoneIsWhole
done_is_whole net files start now all tells =
    run.done_is_whole net.job files net.shape start (lists_of net start) (is_run net files now tells) (moment_is_snapshot net files start now tells)
    (done_nodes_are_done net start now all.0 all.1)
