-- The fault of a report for each fault of a node.
use Rattle.credit_link.specs.declared.turn.NodeFault.{NodeFault}
use Rattle.credit_link.specs.declared.turn.NodeFault.TheVariants as node
use Rattle.job_inputs.specs.declared.fault.CapturesFault.TheVariants.{Malformed, Unread, OutOfMemory}
use Rattle.job_inputs.specs.declared.fault.ReportFault.{ReportFault}
use Rattle.job_inputs.specs.declared.fault.ReportFault.TheVariants.{Captures, Unwritten}

-- of a capture, or of the output; a pipeline's own links have none
abbrev pub of_node : NodeFault → ReportFault
of_node (node.Malformed capture bad) = Captures (Malformed capture bad.at bad.what)
of_node (node.Read capture) = Captures (Unread capture)
of_node node.Write = Unwritten
of_node (node.Link link bad) = Captures OutOfMemory
of_node node.OutOfMemory = Captures OutOfMemory
