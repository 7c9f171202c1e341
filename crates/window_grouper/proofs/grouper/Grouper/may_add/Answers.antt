use Rattle.std.proofs.Common.{◌≡◌, ◌∙◌, ap, sym, subst, Option, ℕ, Some, None, false, not}
use Rattle.std.specs.Prelude.{get_or, is_some}
use Rattle.std.specs.BTreeMap.{is_at}
use Rattle.std.specs.Map.{lookup, values_of}
use Rattle.std.proofs.lemmas.Bool.{not-true}
use Rattle.watermarks.specs.Least.{Allows}
use Rattle.window_grouper.specs.Grouping.{Grouping, MayCome}
use Rattle.window_grouper.specs.Waiting.{opened}
use Rattle.window_grouper.proofs.Stamps.{stamp_cmp}
use Rattle.window_grouper.proofs.Waiting.{absent_differs, apart_from_all, apart_from_seen, differs_absent, opened-lookup}
use Rattle.window_grouper.proofs.grouper.Grouper.may_add.Goals as goal

pub returns-then-mark-at : goal.returns-then-mark-at
returns-then-mark-at c =
    let o = c.self.inside in
    let at = c.args.at.now in
    let now = c.args.self.now in
    let es = opened o.waiting.entries in
    let mark : get_or now.marks at.capture None ≡ Some c.in-Some.mark =
    ap (λ (n : Grouping). get_or n.marks at.capture None) (sym c.self.view_is) ∙ sym c.get.ensures ∙ c.in-Some.is in
    let may : MayCome now.marks at = subst (λ (m : Option ℕ). Allows m at.time) (sym mark) c.if-mark-at.true in (
      λ yes.
          let absent : is_some (lookup (is_at (stamp_cmp at)) es) ≡ false = sym (opened-lookup at o.waiting.entries) ∙ sym c.contains_key.ensures ∙ not-true c.contains_key.result yes in
          (may, apart_from_seen o.marks o.groups (values_of es) at now c.self.view_is (differs_absent at es c.self.invariant.stamped absent)),
      λ h.
          let absent : c.contains_key.result ≡ false =
          c.contains_key.ensures ∙ opened-lookup at o.waiting.entries ∙ absent_differs at es c.self.invariant.stamped (apart_from_all o.marks o.groups (values_of es) at now c.self.view_is h.0 h.1) in
          ap not absent,
    )
