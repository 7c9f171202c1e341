-- The fault of a run for each fault of what a command does.
use Rattle.std.specs.Prelude.{ℕ, ◌+◌}
use Rattle.input_files.specs.declared.fault.CaptureFault.TheVariants as capture
use Rattle.job_inputs.specs.declared.fault.CapturesFault.TheVariants as captures
use Rattle.job_inputs.specs.declared.fault.JobFileFault.{JobFileFault}
use Rattle.job_inputs.specs.declared.fault.JobFileFault.TheVariants as job
use Rattle.run_faults.specs.declared.fault.RunFault.{RunFault}
use Rattle.run_faults.specs.declared.fault.RunFault.TheVariants.{BadJob, Malformed, ReadFault, WriteFault, OutOfMemory}
use Rattle.stack_lines.specs.declared.fault.StackFault.{StackFault}
use Rattle.stack_lines.specs.declared.fault.StackFault.TheVariants as stack
use Rattle.job_inputs.specs.declared.fault.ReportFault.{ReportFault}
use Rattle.job_inputs.specs.declared.fault.ReportFault.TheVariants as report

-- of a job's file, which is file 0
abbrev pub of_job : JobFileFault → RunFault
of_job (job.Bad fault) = BadJob fault
of_job job.Unread = ReadFault 0
of_job job.OutOfMemory = OutOfMemory

-- of the report of a job that was opened, so that file k + 1 is that of capture k
abbrev pub of_report : ReportFault → RunFault
of_report (report.Captures (captures.Malformed capture at what)) = Malformed capture at what
of_report (report.Captures (captures.Unread capture)) = ReadFault (capture + 1)
of_report (report.Captures captures.OutOfMemory) = OutOfMemory
of_report report.Unwritten = WriteFault

-- of the report of `count`, whose only file is file 0
abbrev pub of_count : ReportFault → RunFault
of_count (report.Captures (captures.Malformed capture at what)) = Malformed capture at what
of_count (report.Captures (captures.Unread capture)) = ReadFault 0
of_count (report.Captures captures.OutOfMemory) = OutOfMemory
of_count report.Unwritten = WriteFault

-- of `stack`, whose only capture and file have number 0
abbrev pub of_stack : StackFault → RunFault
of_stack (stack.Capture (capture.Malformed at what)) = Malformed 0 at what
of_stack (stack.Capture capture.Unread) = ReadFault 0
of_stack (stack.Capture capture.OutOfMemory) = OutOfMemory
of_stack stack.Unwritten = WriteFault
