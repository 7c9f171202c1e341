-- Which packets of a file are the records of a capture, by the job.
use Rattle.std.specs.Prelude.{ℕ, List, Option, None, get_or}
use Rattle.pcap_reader.specs.Good.{Good, good}
use Rattle.summary_spec.specs.Declaration.{Declared}

-- the interface whose packets are the records of the capture; none: those of all interfaces
abbrev pub wanted_of : Declared → (capture : ℕ) → Option ℕ
wanted_of job capture = get_or job.interfaces capture None

-- what the bytes of its file hold as that capture of the job
abbrev pub good_of : Declared → (capture : ℕ) → List ℕ → Good
good_of job capture bytes = good (wanted_of job capture) bytes
