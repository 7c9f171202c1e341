-- The faults of one file as those of the captures of a job.
use Rattle.std.specs.Prelude.{ℕ}
use Rattle.input_files.specs.declared.fault.CaptureFault.{CaptureFault}
use Rattle.input_files.specs.declared.fault.CaptureFault.TheVariants as one
use Rattle.input_files.specs.declared.fault.FileFault.{FileFault}
use Rattle.input_files.specs.declared.fault.FileFault.TheVariants as file
use Rattle.job_inputs.specs.declared.fault.CapturesFault.{CapturesFault}
use Rattle.job_inputs.specs.declared.fault.CapturesFault.TheVariants.{Malformed, Unread, OutOfMemory}

-- of the capture of this number, whose file was not opened
abbrev pub fault_at_opening : (capture : ℕ) → FileFault → CapturesFault
fault_at_opening capture file.Unread = Unread capture
fault_at_opening capture file.OutOfMemory = OutOfMemory

-- of the capture of this number, which was not read to its end
abbrev pub fault_at_reading : (capture : ℕ) → CaptureFault → CapturesFault
fault_at_reading capture (one.Malformed at what) = Malformed capture at what
fault_at_reading capture one.Unread = Unread capture
fault_at_reading capture one.OutOfMemory = OutOfMemory
