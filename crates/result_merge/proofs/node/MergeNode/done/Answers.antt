-- Without a fault it is done where all was taken.
use Rattle.std.proofs.Common.{◌≡◌, None, sym, subst}
use Rattle.round_law.specs.Waits.{IsDone}
use Rattle.net_law.specs.Merges.{merge_view}
use Rattle.result_merge.specs.Nodes.{MergeLent}
use Rattle.result_merge.proofs.Turning.{done_by, not_done_by}
use Rattle.result_merge.proofs.node.MergeNode.done.Goals as goal

pub returns-in-None-clause-done : goal.returns-in-None-clause-done
returns-in-None-clause-done g c all =
    subst (λ (s : MergeLent). (s.merge.fault ≡ None) × IsDone (merge_view s.merge)) c.self.view_is
    (done_by c.self.inside.work c.self.inside.fault c.in-None.is (c.has_taken_all.ensures.all all))

pub returns-in-None-clause-not_done : goal.returns-in-None-clause-not_done
returns-in-None-clause-not_done g c none done =
    not_done_by c.self.inside.work c.self.inside.fault c.has_taken_all.result c.has_taken_all.ensures.not (subst (λ (s : MergeLent). IsDone (merge_view s.merge)) (sym c.self.view_is) done)
