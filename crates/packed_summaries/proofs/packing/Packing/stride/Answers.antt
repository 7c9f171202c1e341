use Rattle.std.proofs.Common.{arith}
use Rattle.packed_summaries.specs.Packing.{widths}
use Rattle.packed_summaries.proofs.Columns.{count_widths, few_words}
use Rattle.packed_summaries.proofs.packing.Packing.stride.Goals as goal

pub returns-clause-few : goal.returns-clause-few
returns-clause-few c =
    let p = c.self.inside in
    omega (arith, c.self.invariant.whole, c.self.invariant.few, count_widths p.columns.items, few_words (widths p.columns.items))
