use Rattle.central_report.proofs.Pieces.{one_more_capture}
use Rattle.central_report.proofs.closing.push_captures.Goals as goal

pub loop-capture-preserved : goal.loop-capture-preserved
loop-capture-preserved c =
    one_more_capture c.args.job.now.names.captures.items c.args.counts.now.items c.loop-capture.capture _ c.loop-capture.text.items _ _
    c.get.ensures c.in_ok-push_capture_line.ensures.pushed c.loop-capture.invariant
