-- What is known of the sources and the sink of a pipeline that was opened, run and closed.
use Rattle.std.proofs.Common.{ℕ, List, [], ◌++◌, ◌≡◌, ◌<◌, ◌%◌, ◌/◌, true, Result, length, get_or, sym, ap, subst, ◌∙◌}
use Rattle.std.specs.Prelude.{IsTrue}
use Rattle.std.proofs.lemmas.List.{append-nil, length-map, get_or-map}
use Rattle.std.proofs.lemmas.List.Elements.{All-get_or, All-from_get_or}
use Rattle.ds_base.specs.Gain.{GainsPrefix}
use Rattle.ds_base.specs.Outside.{SourceSeen, SourceStays, SinkSeen}
use Rattle.central_report.specs.Report.{report}
use Rattle.summary_spec.specs.Declaration.{Declared}
use Rattle.run_law.specs.Shapes.{Shape}
use Rattle.net_law.specs.Parsers.{source_of, place_of}
use Rattle.net_law.specs.Nets.{Net, NetStands, parser_at, lists_of}
use Rattle.net_law.proofs.Done.{done_nodes_are_done}
use Rattle.new_pipeline.specs.Opening.{IsNewOf}
use Rattle.run_rounds.specs.Runs.{AllAreDone}
use Rattle.run_rounds.specs.declared.node_at.NodeAt.{NodeAt}
use Rattle.link_rows.specs.Rows.{RowsSeen}
use Rattle.pipeline_law.specs.Laws.{TellsFiles}
use Rattle.pipeline_law.proofs.Moments.{moment_is_snapshot}
use Rattle.pipeline_law.proofs.Staying.{owned, has_source, files_stay}
use Rattle.pipeline_core.specs.Pipelines.{PipelineSeen, AreSourcesOf}
use Rattle.job_run.specs.Closing.{IsLeftOf}
use Rattle.job_run.specs.Sources.{AllTell, AreQuiet, SourcesStay, files_of}
use Rattle.job_run.specs.Ends.{AreSound}
use Rattle.job_run.proofs.Sound.{sound_at_end, all_sound}

-- sources that tell are those of the files
pub sources_tell : (net : Net) (sources : List SourceSeen) → AreSourcesOf net sources → AllTell sources → TellsFiles net (files_of sources)
sources_tell net sources are tell = record {
  count = length-map sources (λ (s : SourceSeen). s.whole) ∙ are.count;
  are = λ c d less.
      let there : c < length sources = subst (λ (n : ℕ). c < n) (sym are.count) less in
      let same : get_or sources c d ≡ source_of (parser_at net (c % net.shape.parsers)) c d = are.each c d less in (
        subst (λ (s : SourceSeen). IsTrue s.told) same (All-get_or (λ (s : SourceSeen). IsTrue s.told) sources c d there tell),
        ap (λ (s : SourceSeen). s.whole) (sym same) ∙ sym (get_or-map (λ (s : SourceSeen). s.whole) sources c d [] there),
      );
}

module _ (job : Declared) (shape : Shape) (credits : ℕ) (sources : List SourceSeen) (old : SinkSeen) (before : PipelineSeen)
    (new : IsNewOf job shape credits sources old before.net) (opened : NetStands before.net) (dealt : AreSourcesOf before.net sources)
    {T : Type 0} (ended : Result T NodeAt) (left : List SourceSeen) (now : SinkSeen) (rows : RowsSeen) (h : IsLeftOf before ended left now rows) where
  pub same_job : h.after.net.job ≡ job
  same_job = h.goes.net.alike.same.0 ∙ new.same.0

  pub same_shape : h.after.net.shape ≡ shape
  same_shape = h.goes.net.alike.same.1 ∙ new.same.1

  pub same_credits : h.after.net.credits ≡ credits
  same_credits = h.goes.net.alike.same.2 ∙ new.same.2

  -- ---- sources

  pub as_many : length left ≡ length sources
  as_many = h.sources_are.count ∙ ap (λ (j : Declared). length j.captures) h.goes.net.alike.same.0 ∙ sym dealt.count

  pub captures_are : length sources ≡ length h.after.net.job.captures
  captures_are = sym as_many ∙ h.sources_are.count

  pub stay : SourcesStay sources left
  stay = record { as_many = as_many; each = each }
    where
      each : (c : ℕ) (d : SourceSeen) → c < length sources → SourceStays (get_or sources c d) (get_or left c d)
      each c d less =
          let there : c < length before.net.job.captures = subst (λ (n : ℕ). c < n) dealt.count less in
          let later : c < length h.after.net.job.captures = subst (λ (n : ℕ). c < n) captures_are less in
          let p : ℕ = c % before.net.shape.parsers in
          let own : p < before.net.shape.parsers = owned before.net opened c there in
          let step = h.goes.net.parsers p own in
          let stays = step.sources (place_of (parser_at before.net p) c) d (has_source before.net opened c there) in
          let stays' : SourceStays (source_of (parser_at before.net p) c d) (source_of (parser_at h.after.net p) c d) =
          subst (λ (n : ℕ). SourceStays (source_of (parser_at before.net p) c d) (get_or (parser_at h.after.net p).sources (c / n) d)) (sym step.same.2) stays in
          let stays'' : SourceStays (source_of (parser_at before.net p) c d) (source_of (parser_at h.after.net (c % h.after.net.shape.parsers)) c d) =
          subst (λ (s : Shape). SourceStays (source_of (parser_at before.net p) c d) (source_of (parser_at h.after.net (c % s.parsers)) c d)) (sym h.goes.net.alike.same.1) stays' in
          subst (λ (s : SourceSeen). SourceStays (get_or sources c d) s) (sym (h.sources_are.each c d later))
          (subst (λ (s : SourceSeen). SourceStays s (source_of (parser_at h.after.net (c % h.after.net.shape.parsers)) c d)) (sym (dealt.each c d there)) stays'')

  pub tell : AllTell sources → TellsFiles before.net (files_of sources)
  tell all = sources_tell before.net sources dealt all

  pub still_tell : AllTell sources → TellsFiles h.after.net (files_of sources)
  still_tell all = files_stay before.net h.after.net (files_of sources) opened h.goes.net (tell all)

  pub all_quiet : AllAreDone h.after.net → AreQuiet left
  all_quiet done =
      All-from_get_or (λ (s : SourceSeen). s.faults ≡ 0) left none (λ c less.
      let there : c < length h.after.net.job.captures = subst (λ (n : ℕ). c < n) h.sources_are.count less in
      let p : ℕ = c % h.after.net.shape.parsers in
      let own : p < h.after.net.shape.parsers = owned h.after.net h.stands c there in
      let quiet = (h.stands.parsers p own).stands.quiet (done.0.parsers p own) in
      subst (λ (s : SourceSeen). s.faults ≡ 0) (sym (h.sources_are.each c none there))
      (All-get_or (λ (s : SourceSeen). s.faults ≡ 0) (parser_at h.after.net p).sources (place_of (parser_at h.after.net p) c) none (has_source h.after.net h.stands c there) quiet.0))
    where
      none : SourceSeen
      none = record { told = true; whole = []; left = []; faults = 0 }

  pub sound : AllAreDone h.after.net → AllTell sources → AreSound (files_of sources)
  sound done all =
      let tells = still_tell all in
      all_sound (files_of sources) (λ c less.
      sound_at_end h.after.net.job (files_of sources) h.after.net.shape [] (lists_of h.after.net []) h.stands.shape_is
      (moment_is_snapshot h.after.net (files_of sources) [] h.stands tells) (done_nodes_are_done h.after.net [] h.stands done.0 done.1)
      c (subst (λ (n : ℕ). c < n) tells.count less))

  -- ---- the sink

  -- what was written since it was opened
  pub gained : IsTrue old.told → now.written ≡ old.written ++ h.after.net.merge.gained
  gained told =
      let goes = h.goes.net.merge.written in
      let since : before.net.merge.sink.written ≡ old.written ++ before.net.merge.gained =
      ap (λ (s : SinkSeen). s.written) new.sink_is ∙ sym (append-nil old.written) ∙ ap (λ (ws : List ℕ). old.written ++ ws) (sym new.gained) in
      ap (λ (s : SinkSeen). s.written) h.sink_is ∙ goes (subst (λ (s : SinkSeen). IsTrue s.told) (sym new.sink_is) told) old.written since

  pub written : AllTell sources → IsTrue old.told → GainsPrefix old.written now.written (report job (files_of sources))
  written all told =
      let front = h.written (files_of sources) old.written (tell all) in (
        front.front.rest,
        record {
          gained = front.gained;
          written = gained told ∙ front.since;
          owed = ap (λ (j : Declared). report j (files_of sources)) (sym same_job) ∙ front.front.joined;
        },
      )

  pub out_quiet : AllAreDone h.after.net → now.faults ≡ old.faults
  out_quiet done =
      ap (λ (s : SinkSeen). s.faults) h.sink_is ∙ h.goes.net.merge.calm done.0.merge ∙ ap (λ (s : SinkSeen). s.faults) new.sink_is
