-- What is left goes into its words just where all does.
use Rattle.std.proofs.Common.{◌↔◌, drop}
use Rattle.packed_summaries.specs.Rows.{HaveWidths}
use Rattle.packed_summaries.proofs.fits.have_widths.Given as goal

abbrev pub invariant-loop-variable : goal.invariant-loop-variable
invariant-loop-variable l = HaveWidths (drop l.variable l.packing.wide) (drop l.variable l.vals) ↔ HaveWidths l.packing.wide l.vals
