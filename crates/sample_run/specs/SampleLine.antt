-- The line that a run of a sample prints.
use Rattle.std.specs.Prelude.{ℕ, zero, suc, ◌/◌, ◌%◌, List, [], ◌∷◌, ◌++◌, false, length, codes}
use Rattle.std.specs.Fmt.{digit_glyph}
use Rattle.answer_text.specs.Pieces.{labelled}
use Rattle.central_report.specs.Report.{groups}
use Rattle.ds_base.specs.Keys.{fnv}
use Rattle.trace_gen.specs.Captures.{all_seen}
use Rattle.trace_gen.specs.SampleJob.{sample_job}
use Rattle.sample_run.specs.Made.{made_files, made_report}
use Rattle.sample_run.specs.declared.line.Totals.{Totals}

-- so many digits of a number in hexadecimal, lower case, with zeros in front
abbrev pub hex_digits : (count n : ℕ) → List ℕ
hex_digits zero n = []
hex_digits (suc count) n = hex_digits count (n / 16) ++ digit_glyph false (n % 16) ∷ []

-- `sample <N> packets=20000 records=<n> groups=<n> bytes=<n> fnv=<16 hexadecimal digits>`
abbrev pub line_of : Totals → List ℕ
line_of totals =
    labelled (codes "sample ") totals.number ++ codes " packets=20000" ++ labelled (codes " records=") totals.records
    ++ labelled (codes " groups=") totals.groups ++ labelled (codes " bytes=") totals.bytes
    ++ codes " fnv=" ++ hex_digits 16 totals.hash ++ codes "\n"

-- the totals of the sample of a number: all that is seen is recorded, and the report is that of its job over its files
abbrev pub totals_of : (number : ℕ) → Totals
totals_of number = record {
  number = number;
  records = length (all_seen number);
  groups = length (groups sample_job (made_files number));
  bytes = length (made_report number);
  hash = fnv (made_report number);
}

abbrev pub sample_line : (number : ℕ) → List ℕ
sample_line number = line_of (totals_of number)
