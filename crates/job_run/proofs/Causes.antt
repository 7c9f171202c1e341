-- Why a run ended with a fault, in terms of the sources and the sink.
use Rattle.std.proofs.Common.{ℕ, List, [], ◌++◌, ◌≡◌, ◌<◌, ◌≤◌, ◌%◌, Result, Ok, Err, None, Some, length, get_or, refl, sym, ap, subst, ◌∙◌, inl, inr, arith}
use Rattle.std.specs.Prelude.{IfOk, IfErr, MatchResult}
use Rattle.ds_base.specs.Faults.{Rose}
use Rattle.ds_base.specs.Outside.{SourceSeen, SinkSeen}
use Rattle.ds_base.specs.declared.capture.Bad.{Bad}
use Rattle.credit_link.specs.declared.turn.NodeFault.{NodeFault}
use Rattle.credit_link.specs.declared.turn.NodeFault.TheVariants.{Malformed, Read, Write, Link, OutOfMemory}
use Rattle.pcap_reader.specs.Good.{good}
use Rattle.central_report.specs.Report.{report}
use Rattle.key_select.specs.Wanted.{good_of}
use Rattle.summary_spec.specs.Declaration.{Declared}
use Rattle.run_law.specs.Laws.{HasEndedWhole}
use Rattle.run_law.specs.Nodes.{Reading}
use Rattle.run_law.specs.Shapes.{Shape}
use Rattle.run_law.specs.Snapshot.{IsRead, file_of}
use Rattle.net_law.specs.Parsers.{ParserSeen, ParserGoes, ParserMeets, IsMalformed, IsOwn, read_of, source_of}
use Rattle.net_law.specs.Groupers.{GrouperSeen, GrouperMeets}
use Rattle.net_law.specs.Processors.{ProcessorSeen, ProcessorMeets}
use Rattle.net_law.specs.Merges.{MergeSeen, MergeMeets}
use Rattle.net_law.specs.Nets.{Net, parser_at, grouper_at, processor_at, NetStands, lists_of}
use Rattle.new_pipeline.specs.Opening.{IsNewOf}
use Rattle.pipeline_nodes.specs.Nodes.{IsNoLink}
use Rattle.pipeline_nodes.specs.Turns.{HasMet}
use Rattle.pipeline_nodes.specs.Turns.HasMet.{ParserMet, GrouperMet, ProcessorMet, MergeMet}
use Rattle.run_rounds.specs.Runs.{AllAreDone}
use Rattle.run_rounds.specs.declared.node_at.NodeAt.{NodeAt}
use Rattle.link_rows.specs.Rows.{RowsSeen}
use Rattle.pipeline_law.proofs.Moments.{moment_is_snapshot}
use Rattle.pipeline_law.specs.Laws.{TellsFiles}
use Rattle.pipeline_core.specs.Pipelines.{PipelineSeen, AreSourcesOf}
use Rattle.pipeline_core.proofs.Holding.{none_at}
use Rattle.pipeline_run.specs.Runs.{MetBy}
use Rattle.job_run.specs.Closing.{IsLeftOf}
use Rattle.job_run.specs.Ends.{EndsBy, EndsWhole}
use Rattle.job_run.specs.Sources.{AllTell, files_of}
use Rattle.job_run.proofs.Running as running

-- a count that rose is at least 1
at_least_one : (old new : ℕ) → Rose old new → 1 ≤ new
at_least_one old new (inl less) = omega (arith, less)
at_least_one old new (inr full) = omega (arith, full.0, full.1)

-- a malformed place in what was read is that of the file
pub of_file : (job : Declared) (c : ℕ) (reading : Reading) (bad : Bad) (file : List ℕ) → IsRead reading file → IsMalformed job c reading bad
    → (good None file).bad ≡ Some bad
of_file job c reading bad file read (inl whatever) = subst (λ (bytes : List ℕ). (good_of job c bytes).bad ≡ Some bad) (sym read.front.joined) (whatever read.front.rest)
of_file job c reading bad file read (inr at_end) = subst (λ (bytes : List ℕ). (good_of job c bytes).bad ≡ Some bad) (read.whole at_end.0) at_end.1

module _ (job : Declared) (shape : Shape) (credits : ℕ) (sources : List SourceSeen) (old : SinkSeen) (before : PipelineSeen)
    (new : IsNewOf job shape credits sources old before.net) (opened : NetStands before.net) (dealt : AreSourcesOf before.net sources)
    {T : Type 0} (ended : Result T NodeAt) (left : List SourceSeen) (now : SinkSeen) (rows : RowsSeen) (h : IsLeftOf before ended left now rows) where
  captures_are : length sources ≡ length h.after.net.job.captures
  captures_are = running.captures_are job shape credits sources old before new opened dealt ended left now rows h

  -- the parser has the capture, so that it is one of the job's, and its source is that of the run
  module _ (was : ParserSeen) (p c : ℕ) (step : ParserGoes was (parser_at h.after.net p)) (own_after : p < h.after.net.shape.parsers) (own : IsOwn was c) where
    place_is : p ≡ c % h.after.net.shape.parsers
    place_is =
        let is = h.stands.parsers p own_after in
        sym is.me ∙ step.same.1 ∙ sym own.1 ∙ ap (λ (n : ℕ). c % n) (sym step.same.2 ∙ is.parsers)

    within : c < length sources
    within =
        let is = h.stands.parsers p own_after in
        subst (λ (n : ℕ). c < n) (ap (λ (j : Declared). length j.captures) (sym step.same.0 ∙ is.job) ∙ sym captures_are) own.0

    source_is : (d : SourceSeen) → get_or left c d ≡ source_of (parser_at h.after.net p) c d
    source_is d =
        h.sources_are.each c d (subst (λ (n : ℕ). c < n) captures_are within) ∙ ap (λ (n : ℕ). source_of (parser_at h.after.net n) c d) (sym place_is)

    read_is : AllTell sources → IsRead (read_of (parser_at h.after.net p) c) (file_of (files_of sources) c)
    read_is all =
        let tells = running.still_tell job shape credits sources old before new opened dealt ended left now rows h all in
        let snap = moment_is_snapshot h.after.net (files_of sources) [] h.stands tells in
        subst (λ (n : ℕ). IsRead (read_of (parser_at h.after.net n) c) (file_of (files_of sources) c)) (sym place_is)
        (snap.read c (subst (λ (n : ℕ). c < n) captures_are within))

  -- by the node that met it
  by_parser : (was : ParserSeen) (bad : NodeFault) (p : ℕ) → ParserGoes was (parser_at h.after.net p) → IsNoLink bad → p < h.after.net.shape.parsers
      → ParserMeets was (parser_at h.after.net p) bad → EndsBy sources left old now bad
  by_parser was (Malformed c bad) p step no_link less (own, malformed) = (
    within was p c step less own,
    λ all. of_file (parser_at h.after.net p).job c (read_of (parser_at h.after.net p) c) bad (file_of (files_of sources) c) (read_is was p c step less own all) malformed,
  )
  by_parser was (Read c) p step no_link less (own, rose) = (
    within was p c step less own,
    λ d.
        subst (λ (s : SourceSeen). 1 ≤ s.faults) (sym (source_is was p c step less own d))
        (at_least_one (source_of was c d).faults (source_of (parser_at h.after.net p) c d).faults (rose d)),
  )
  by_parser was Write p step no_link less meets = absurd meets
  by_parser was (Link link bad) p step no_link less meets = absurd no_link
  by_parser was OutOfMemory p step no_link less meets = tt

  by_grouper : (bad : NodeFault) (was is : GrouperSeen) → IsNoLink bad → GrouperMeets was is bad → EndsBy sources left old now bad
  by_grouper (Malformed c bad) was is no_link meets = absurd meets
  by_grouper (Read c) was is no_link meets = absurd meets
  by_grouper Write was is no_link meets = absurd meets
  by_grouper (Link link bad) was is no_link meets = absurd no_link
  by_grouper OutOfMemory was is no_link meets = tt

  by_processor : (bad : NodeFault) (was is : ProcessorSeen) → IsNoLink bad → ProcessorMeets was is bad → EndsBy sources left old now bad
  by_processor (Malformed c bad) was is no_link meets = absurd meets
  by_processor (Read c) was is no_link meets = absurd meets
  by_processor Write was is no_link meets = absurd meets
  by_processor (Link link bad) was is no_link meets = absurd no_link
  by_processor OutOfMemory was is no_link meets = tt

  by_merge : (bad : NodeFault) (was is : MergeSeen) → was.sink.faults ≡ old.faults → is.sink.faults ≡ now.faults → IsNoLink bad → MergeMeets was is bad
      → EndsBy sources left old now bad
  by_merge (Malformed c bad) was is since until no_link meets = absurd meets
  by_merge (Read c) was is since until no_link meets = absurd meets
  by_merge Write was is since until no_link meets = subst (λ (n : ℕ). Rose n now.faults) since (subst (λ (n : ℕ). Rose was.sink.faults n) until meets)
  by_merge (Link link bad) was is since until no_link meets = absurd no_link
  by_merge OutOfMemory was is since until no_link meets = tt

  by_node : (mid after : Net) (n : ℕ) (bad : NodeFault) → after ≡ h.after.net → mid.shape ≡ h.after.net.shape → mid.merge.sink.faults ≡ old.faults → IsNoLink bad
      → HasMet n mid after bad → EndsBy sources left old now bad
  by_node _ _ _ _ is alike since no_link (ParserMet p mid after bad less goes meets) =
      by_parser (parser_at mid p) bad p (subst (λ (net : Net). ParserGoes (parser_at mid p) (parser_at net p)) is goes) no_link
      (subst (λ (s : Shape). p < s.parsers) alike less) (subst (λ (net : Net). ParserMeets (parser_at mid p) (parser_at net p) bad) is meets)
  by_node _ _ _ _ is alike since no_link (GrouperMet g mid after bad turned less goes meets looked) = by_grouper bad (grouper_at mid g) turned no_link meets
  by_node _ _ _ _ is alike since no_link (ProcessorMet q mid after bad turned less goes meets looked) = by_processor bad (processor_at mid q) turned no_link meets
  by_node _ _ _ _ is alike since no_link (MergeMet mid after bad turned goes meets looked) =
      by_merge bad mid.merge turned since
      (sym (ap (λ (s : MergeSeen). s.sink.faults) looked.same) ∙ ap (λ (net : Net). net.merge.sink.faults) is ∙ ap (λ (s : SinkSeen). s.faults) (sym h.sink_is)) no_link meets

  -- the fault that a run ended with
  pub by_fault : (at : NodeAt) → MetBy before h.after at → IsNoLink at.fault → EndsBy sources left old now at.fault
  by_fault at (inl had) no_link = absurd (let no : None ≡ Some at.fault = sym (none_at before.net opened new.quiet at.node) ∙ had.1 in cc)
  by_fault at (inr met) no_link =
      by_node met.before.net h.after.net at.node at.fault refl (met.goes.net.alike.same.1 ∙ sym h.goes.net.alike.same.1)
      (met.goes.net.merge.calm met.quiet.merge ∙ ap (λ (s : SinkSeen). s.faults) new.sink_is) no_link met.meets

  -- how it ended
  pub ends_whole : AllAreDone h.after.net → ((files : List (List ℕ)) (start : List ℕ) → TellsFiles before.net files → HasEndedWhole h.after.net.job files h.after.net.shape start (lists_of h.after.net start))
      → EndsWhole job sources left old now rows
  ends_whole done whole = record {
    quiet = running.all_quiet job shape credits sources old before new opened dealt ended left now rows h done;
    out_quiet = running.out_quiet job shape credits sources old before new opened dealt ended left now rows h done;
    done = h.done_where done;
    sound = running.sound job shape credits sources old before new opened dealt ended left now rows h done;
    whole = λ all told.
        running.gained job shape credits sources old before new opened dealt ended left now rows h told
        ∙ (whole (files_of sources) old.written (running.tell job shape credits sources old before new opened dealt ended left now rows h all)).written
        ∙ ap (λ (j : Declared). old.written ++ report j (files_of sources)) (running.same_job job shape credits sources old before new opened dealt ended left now rows h);
  }

  by_end : (e : Result T NodeAt) (result : Result T NodeFault) → IfOk e (λ _. AllAreDone h.after.net)
      → IfOk e (λ _. (files : List (List ℕ)) (start : List ℕ) → TellsFiles before.net files → HasEndedWhole h.after.net.job files h.after.net.shape start (lists_of h.after.net start))
      → IfErr e (MetBy before h.after) → MatchResult e (λ done. result ≡ Ok done) (λ at. result ≡ Err at.fault) → IfErr e (λ at. IsNoLink at.fault)
      → MatchResult result (λ _. EndsWhole job sources left old now rows) (EndsBy sources left old now)
  by_end (Ok done) result over whole met is no_link =
      subst (λ (r : Result T NodeFault). MatchResult r (λ _. EndsWhole job sources left old now rows) (EndsBy sources left old now)) (sym is) (ends_whole over whole)
  by_end (Err at) result over whole met is no_link =
      subst (λ (r : Result T NodeFault). MatchResult r (λ _. EndsWhole job sources left old now rows) (EndsBy sources left old now)) (sym is) (by_fault at met no_link)

  pub ends : (result : Result T NodeFault) → MatchResult ended (λ done. result ≡ Ok done) (λ at. result ≡ Err at.fault) → IfErr ended (λ at. IsNoLink at.fault)
      → MatchResult result (λ _. EndsWhole job sources left old now rows) (EndsBy sources left old now)
  ends result is no_link = by_end ended result h.over h.whole h.met is no_link
