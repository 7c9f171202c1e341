-- What is run: the sample of a number.
use Rattle.std.specs.Prelude.{ℕ, List, map}
use Rattle.central_report.specs.Report.{report}
use Rattle.ds_base.specs.Outside.{NamedBytes, SourceSeen, source_of}
use Rattle.trace_gen.specs.Captures.{sample_files}
use Rattle.trace_gen.specs.SampleJob.{sample_job}

-- a source of a file that was just opened
abbrev pub fresh_source : NamedBytes → SourceSeen
fresh_source file = source_of file.bytes file.bytes 0

-- the bytes of files, in their order
abbrev pub bytes_of : List NamedBytes → List (List ℕ)
bytes_of files = map (λ (file : NamedBytes). file.bytes) files

-- those of its captures
abbrev pub made_files : (number : ℕ) → List (List ℕ)
made_files number = bytes_of (sample_files number)

-- the report of its job over them
abbrev pub made_report : (number : ℕ) → List ℕ
made_report number = report sample_job (made_files number)
