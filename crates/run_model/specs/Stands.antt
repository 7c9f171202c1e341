-- What the processor of a model run stands for.
use Rattle.std.specs.Prelude.{List}
use Rattle.node_frames.specs.declared.frame.Frame.{Frame}
use Rattle.summary_spec.specs.Declaration.{Declared}
use Rattle.query_state.specs.States.{state_is}
use Rattle.query_state.specs.declared.state.QueryState.{QueryState}

-- for these frames of each link it has put some
pub record Stands (job : Declared) (taken : List (List Frame)) (state : QueryState) : Type 0 where
  pub put : List Frame
  pub is : state_is job taken put state
