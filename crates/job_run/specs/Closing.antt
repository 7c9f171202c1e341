-- What is known of a pipeline that was run and closed.
use Rattle.std.specs.Prelude.{ℕ, ◌≡◌, ◌<◌, ◌≤◌, ◌+◌, ◌*◌, ◌++◌, true, List, All, Result, IfOk, IfErr, length, slice_index_or}
use Rattle.ds_base.specs.Outside.{SourceSeen, SinkSeen}
use Rattle.credit_link.specs.declared.row.LinkRow.{LinkRow}
use Rattle.run_law.specs.Laws.{HasEndedWhole, HasWrittenFront, accepted_between, captures_of}
use Rattle.net_law.specs.Nets.{NetStands, lists_of}
use Rattle.run_rounds.specs.Runs.{AllAreDone}
use Rattle.run_rounds.specs.declared.node_at.NodeAt.{NodeAt}
use Rattle.link_rows.specs.Rows.{RowsSeen}
use Rattle.pipeline_law.specs.Laws.{TellsFiles}
use Rattle.pipeline_law.specs.Rows.{AreNumbered}
use Rattle.pipeline_law.specs.RowLaws.{IsWhole}
use Rattle.pipeline_core.specs.Pipelines.{PipelineSeen, PipelineGoes, AreSourcesOf}
use Rattle.pipeline_run.specs.Runs.{MetBy}

-- its nodes after the run, what is left of it, and what was promised of both
pub record IsLeftOf {T : Type 0} (before : PipelineSeen) (ended : Result T NodeAt) (sources : List SourceSeen) (sink : SinkSeen) (rows : RowsSeen) : Type 0 where
  pub after : PipelineSeen
  pub stands : NetStands after.net
  pub goes : PipelineGoes before after
  pub met : IfErr ended (MetBy before after)
  pub over : IfOk ended (λ _. AllAreDone after.net)
  pub written : (files : List (List ℕ)) (start : List ℕ) → TellsFiles before.net files → HasWrittenFront after.net.job files start (start ++ after.net.merge.gained)
  pub whole : IfOk ended (λ _. (files : List (List ℕ)) (start : List ℕ) → TellsFiles before.net files → HasEndedWhole after.net.job files after.net.shape start (lists_of after.net start))
  pub sources_are : AreSourcesOf after.net sources
  pub sink_is : sink ≡ after.net.merge.sink
  pub numbered : AreNumbered after.net rows.rows
  pub held : All (λ (row : LinkRow). row.most_held ≤ after.net.credits) rows.rows
  pub done : rows.done ≡ true → All IsWhole rows.rows
  pub done_where : AllAreDone after.net → rows.done ≡ true
  pub bound : (files : List (List ℕ)) → TellsFiles after.net files → rows.done ≡ true → (p g : ℕ) (d : LinkRow) → p < after.net.shape.parsers → g < after.net.shape.groupers
      → length (accepted_between after.net.job files after.net.shape p g) + length (captures_of after.net.job after.net.shape p) + 1
      ≤ (slice_index_or rows.rows (p * after.net.shape.groupers + g) d).sent
