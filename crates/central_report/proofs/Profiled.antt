-- The rows of the report are the profile of its groups.
use Rattle.std.proofs.Common.{List, arith}
use Rattle.ds_base.specs.Order.{InStampOrder}
use Rattle.ds_base.specs.declared.summary.Summary.{Summary}
use Rattle.window_grouper.proofs.Insertion.{one_order}
use Rattle.window_grouper.proofs.Members.{all_grouped}
use Rattle.central_report.specs.Laws.{IsSummaryOf, RowsAreProfile}
use Rattle.central_report.specs.Report.{accepted_from, accepted, groups}
use Rattle.central_report.proofs.Accepted.{accepted_reportable}
use Rattle.central_report.proofs.Delaying.{rows_profile}
use Rattle.central_report.proofs.Gathered.{answerable}
use Rattle.central_report.proofs.Sorting.{all_sorted, length-by_stamp}

pub rows_are_profile : RowsAreProfile
rows_are_profile job files lawful some =
    let list : List Summary = accepted_from job 0 files in
    let h = accepted_reportable job files lawful some in
    let ordered : InStampOrder (accepted job files) = (one_order list h.differ).0.ordered in
    let named = all_sorted (IsSummaryOf job) list h.of_job in
    rows_profile job (groups job files) lawful (answerable job (accepted job files) lawful ordered named)
    (omega (arith, (all_grouped job.window (accepted job files) ordered).1, length-by_stamp list, h.few))
