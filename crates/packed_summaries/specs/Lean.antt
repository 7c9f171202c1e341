-- A list that is packed as far as its summaries fit into rows, as contracts see it.
use Rattle.std.specs.Prelude.{List}
use Rattle.ds_base.specs.declared.summary.Summary.{Summary}

-- the summaries, whether packed or not
pub record Lean : Type 0 where
  pub items : List Summary
