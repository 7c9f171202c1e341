-- The frames of one link are those at its place.
use Rattle.std.proofs.Common.{◌≡◌, ◌∙◌, List, [], IsTrue, sym, subst}
use Rattle.node_frames.specs.declared.frame.Frame.{Frame}
use Rattle.summary_spec.specs.Job.{declared_of}
use Rattle.run_law.specs.Links.{MayFollow, ItemRule}
use Rattle.grouper_state.specs.States.{taken_on}
use Rattle.grouper_node.proofs.Lists.{get_same}
use Rattle.grouper_node.proofs.noting.admit_at.Goals as goal

pub returns-clause-exact : goal.returns-clause-exact
returns-clause-exact c shape is =
    let rule = ItemRule (declared_of c.args.job.now) shape c.args.link.parser c.args.link.grouper in
    let here : taken_on c.args.orders.now.items c.args.link.parser ≡ c.index_mut.result.now =
    get_same c.args.orders.now.items c.args.link.parser [] c.index_mut.result.now c.requires.there ∙ sym c.index_mut.ensures.value in
    subst (λ (fs : List Frame). (IsTrue c.admit.result → MayFollow rule fs c.args.frame.now) × (MayFollow rule fs c.args.frame.now → IsTrue c.admit.result)) (sym here) (c.admit.ensures.exact shape is)
