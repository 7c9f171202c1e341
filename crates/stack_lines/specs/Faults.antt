-- The faults of files and of printing as faults of the lines of a capture.
use Rattle.std.specs.Prelude.{◌≡◌}
use Rattle.input_files.specs.declared.fault.CaptureFault.TheVariants as capture
use Rattle.input_files.specs.declared.fault.FileFault.{FileFault}
use Rattle.input_files.specs.declared.fault.FileFault.TheVariants as file
use Rattle.stack_lines.specs.declared.fault.PrintFault.{PrintFault}
use Rattle.stack_lines.specs.declared.fault.PrintFault.TheVariants as print
use Rattle.stack_lines.specs.declared.fault.StackFault.{StackFault}
use Rattle.stack_lines.specs.declared.fault.StackFault.TheVariants.{Capture, Unwritten}

-- the fault is that of the file
abbrev pub IsOfFile : FileFault → StackFault → Type 0
IsOfFile file.Unread fault = fault ≡ Capture capture.Unread
IsOfFile file.OutOfMemory fault = fault ≡ Capture capture.OutOfMemory

-- the fault is that of the printing
abbrev pub IsOfPrint : PrintFault → StackFault → Type 0
IsOfPrint print.Unwritten fault = fault ≡ Unwritten
IsOfPrint print.OutOfMemory fault = fault ≡ Capture capture.OutOfMemory
