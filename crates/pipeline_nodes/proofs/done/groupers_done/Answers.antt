-- One node more is done, or is not.
use Rattle.std.proofs.Common.{rules, arith}
use Rattle.std.proofs.lemmas.Option.{get_or_from_slice_get}
use Rattle.net_law.specs.Groupers.{GrouperSeen, grouper_view}
use Rattle.pipeline_nodes.proofs.Finished.{one_more}
use Rattle.pipeline_nodes.proofs.done.groupers_done.Goals as goal

pub nodes-preserved : goal.nodes-preserved
nodes-preserved c =
    let items = c.args.groupers.now.items in
    one_more (λ (s : GrouperSeen). s.fault) grouper_view items c.nodes.i c.get.result.now (λ d. get_or_from_slice_get items c.nodes.i c.get.result.now d c.get.ensures) c.nodes.invariant (c.done.ensures.done (search rules))

pub returns-clause-all : goal.returns-clause-all
returns-clause-all c all i d there = c.nodes.invariant i d (omega (arith, there, c.nodes-test.false, c.len-i-end.ensures))
