use Rattle.std.proofs.Common.{List, ◌≡◌, rules}
use Rattle.std.proofs.lemmas.Fn.{always_returns_same}
use Rattle.ds_base.specs.declared.summary.Summary.{Summary}
use Rattle.window_grouper.proofs.Insertion.{in_order-by_stamp}
use Rattle.lean_order.specs.Stamped.{stamp_there}
use Rattle.lean_order.proofs.Placed.{sorted_places}
use Rattle.lean_order.proofs.order.stamp_order.Goals as goal

pub returns-clause-places : goal.returns-clause-places
returns-clause-places c =
    let l : List Summary = c.args.list.now.items in
    sorted_places l c.in_ok-places.places.items c.sort_by_key.new.self.items c.requires c.in_ok-places.ensures c.sort_by_key.ensures.permutation
    (c.in-Ok.ensures.sorted (stamp_there l) (always_returns_same _ (λ a r. r ≡ stamp_there l a.0.now) _ (λ a r q k. search rules)))

pub returns-clause-ordered : goal.returns-clause-ordered
returns-clause-ordered c = in_order-by_stamp c.args.list.now.items c.requires
