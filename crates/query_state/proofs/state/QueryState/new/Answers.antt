use Rattle.query_state.proofs.Stepped as stepped
use Rattle.query_state.proofs.state.QueryState.new.Goals as goal

pub returns : goal.returns
returns c = λ job lawful.
    stepped.starts_at job c.args.links c.in_ok-lanes.lanes.items c.new.result c.new-2.result lawful c.requires c.in_ok-lanes.ensures c.new.ensures c.new-2.ensures.empty
