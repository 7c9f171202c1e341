-- The exit status of a run.
use Rattle.std.specs.Prelude.{ℕ, Option, Some, None}
use Rattle.run_faults.specs.declared.fault.RunFault.{RunFault}
use Rattle.run_faults.specs.declared.fault.RunFault.TheVariants.{Usage, BadJob, Malformed, ReadFault, WriteFault, OutOfMemory}

-- the status of a run that ends with this fault
abbrev pub status_of_fault : RunFault → ℕ
status_of_fault (Usage place) = 1
status_of_fault (BadJob fault) = 1
status_of_fault (Malformed capture at what) = 2
status_of_fault (ReadFault file) = 3
status_of_fault WriteFault = 4
status_of_fault OutOfMemory = 6

-- and 0 where it ends Ok
abbrev pub status_of : Option RunFault → ℕ
status_of None = 0
status_of (Some fault) = status_of_fault fault
