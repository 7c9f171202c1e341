-- The frames of one link are those at its place.
use Rattle.std.proofs.Common.{◌≡◌, ◌∙◌, List, [], sym, subst}
use Rattle.std.specs.Prelude.{IsTrue}
use Rattle.node_frames.specs.declared.frame.Frame.{Frame}
use Rattle.summary_spec.specs.Job.{declared_of}
use Rattle.run_law.specs.Links.{MayFollow, CountsRule}
use Rattle.result_merge.specs.Works.{taken_on}
use Rattle.result_merge.proofs.Lists.{get_same}
use Rattle.result_merge.proofs.noting.admit_counts.Goals as goal

pub returns-clause-exact : goal.returns-clause-exact
returns-clause-exact c shape is =
    let rule = CountsRule (declared_of c.args.job.now) shape c.args.parser in
    let here : taken_on c.args.orders.now.items c.args.parser ≡ c.index_mut.result.now =
    get_same c.args.orders.now.items c.args.parser [] c.index_mut.result.now c.requires.0 ∙ sym c.index_mut.ensures.value in
    subst (λ (fs : List Frame). (IsTrue c.admit.result → MayFollow rule fs c.args.frame.now) × (MayFollow rule fs c.args.frame.now → IsTrue c.admit.result)) (sym here) (c.admit.ensures.exact shape is)
