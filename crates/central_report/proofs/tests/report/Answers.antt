use Rattle.std.proofs.Common.{ℕ, List, ◌≡◌, ◌<◌, ◌≤◌, ◌^◌, ◌∙◌, length, arith}
use Rattle.std.specs.Prelude.{All}
use Rattle.std.proofs.lemmas.List.{length-map}
use Rattle.std.proofs.lemmas.List.Elements.{All-weaker}
use Rattle.ds_base.specs.declared.summary.Summary.{Summary}
use Rattle.summary_spec.specs.Declaration.{Declared}
use Rattle.summary_spec.specs.Job.{declared_of}
use Rattle.window_grouper.specs.Sorted.{StampsDiffer}
use Rattle.central_report.specs.Laws.{IsSummaryOf, AreReportable}
use Rattle.central_report.proofs.tests.report.Goals as goal

-- six summaries of three captures and two variables
reportable : (job : Declared) (list : List Summary) → length job.captures ≡ 3 → length job.vars ≡ 2 → StampsDiffer list
    → All (λ (s : Summary). (s.at.capture < 3) × (length s.vals ≡ 2)) list → length list ≡ 6 → AreReportable job list
reportable job list captures vars differ known few = record {
  differ = differ;
  of_job = All-weaker (λ (s : Summary). (s.at.capture < 3) × (length s.vals ≡ 2)) (IsSummaryOf job) (λ s h. (omega (arith, h.0, captures), omega (arith, h.1, vars))) list known;
  few = omega (arith, few);
}

pub central_text-requires-clause-list : goal.central_text-requires-clause-list
central_text-requires-clause-list g c =
    let names = c.in_ok-job.job.names in
    let captures : length names.captures.items ≡ 3 = omega arith in
    let vars : length names.vars.items ≡ 2 = omega arith in
    reportable (declared_of c.in_ok-job.job) c.in_ok-list.list.items
    (length-map names.captures.items (λ list. list.items) ∙ captures) (length-map names.vars.items (λ list. list.items) ∙ vars)
    c.in_ok-list.ensures.differ c.in_ok-list.ensures.known c.in_ok-list.ensures.few
