use Rattle.std.proofs.Common.{List, ℕ, sym, subst}
use Rattle.std.proofs.lemmas.Result.{IfOk-weaker}
use Rattle.ds_base.specs.Order.{InStampOrder}
use Rattle.ds_base.specs.declared.summary.Summary.{Summary}
use Rattle.window_grouper.specs.Positions.{ArePlaces, AreEntries}
use Rattle.window_grouper.specs.Sorted.{by_stamp}
use Rattle.window_grouper.proofs.Entries.{places-entries, sorted_entries}
use Rattle.window_grouper.proofs.Insertion.{by_stamp-in_order, in_order-by_stamp}
use Rattle.window_grouper.proofs.order.stamp_order.Goals as goal

pub returns-then-is_in_stamp_order-clause-places : goal.returns-then-is_in_stamp_order-clause-places
returns-then-is_in_stamp_order-clause-places c =
    let l : List Summary = c.args.list.now.items in
    let ordered : InStampOrder l = c.is_in_stamp_order.ensures.0 c.if-is_in_stamp_order.true in
    IfOk-weaker c.places_in_turn.result _ _
    (λ order h. subst (ArePlaces l order.items) (sym (by_stamp-in_order l ordered)) h)
    c.places_in_turn.ensures

pub returns-then-is_in_stamp_order-clause-ordered : goal.returns-then-is_in_stamp_order-clause-ordered
returns-then-is_in_stamp_order-clause-ordered c =
    IfOk-weaker c.places_in_turn.result _ _ (λ _ _. in_order-by_stamp c.args.list.now.items c.requires) c.places_in_turn.ensures

pub returns-clause-places : goal.returns-clause-places
returns-clause-places c =
    let l : List Summary = c.args.list.now.items in
    let entries : AreEntries l c.sort.new.self.items (by_stamp l) =
    sorted_entries l c.in_ok-entries.entries.items c.sort.new.self.items c.requires c.in_ok-entries.ensures c.sort.ensures.permutation
    c.in-Ok.ensures.sorted in
    let places = places-entries l c.sort.new.self.items (by_stamp l) entries in
    IfOk-weaker c.places_of.result _ _
    (λ order h. subst (λ (ps : List ℕ). ArePlaces l ps (by_stamp l)) (sym h) (rw c.deref.ensures.value places))
    c.places_of.ensures

pub returns-clause-ordered : goal.returns-clause-ordered
returns-clause-ordered c =
    IfOk-weaker c.places_of.result _ _ (λ _ _. in_order-by_stamp c.args.list.now.items c.requires) c.places_of.ensures
