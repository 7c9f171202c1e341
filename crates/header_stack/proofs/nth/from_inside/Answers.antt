use Rattle.std.proofs.Common.{◌∙◌, rules, tests}
use Rattle.std.proofs.lemmas.Iterator.Adapters.{YieldsList-from_rev_slice}
use Rattle.std.proofs.lemmas.Iterator.Consumers.{YieldsList-from_filter, nth_from_yields_List}
use Rattle.header_stack.specs.Nth.{is_kind}
use Rattle.header_stack.proofs.nth.from_inside.Goals as goal

pub returns : goal.returns
returns c =
    c.copied.ensures
    ∙ nth_from_yields_List c.nth.result c.nth.new.self c.args.steps c.nth.ensures.ran
    (YieldsList-from_filter _ (λ place. is_kind place.kind c.args.kind) (YieldsList-from_rev_slice c.args.places.now cc) c.filter.ensures.closure (λ x r q k. search (rules, tests)))
