-- The faults of files as faults of captures.
use Rattle.std.specs.Prelude.{◌≡◌}
use Rattle.input_files.specs.declared.fault.CaptureFault.{CaptureFault}
use Rattle.input_files.specs.declared.fault.CaptureFault.TheVariants as capture
use Rattle.input_files.specs.declared.fault.FileFault.{FileFault}
use Rattle.input_files.specs.declared.fault.FileFault.TheVariants.{Unread, OutOfMemory}

-- the fault of a capture is that of its file
abbrev pub IsOfFile : FileFault → CaptureFault → Type 0
IsOfFile Unread fault = fault ≡ capture.Unread
IsOfFile OutOfMemory fault = fault ≡ capture.OutOfMemory
