-- The rows of the links of a pipeline that was run and closed.
use Rattle.std.proofs.Common.{ℕ, suc, arith, List, [], ◌≡◌, ◌<◌, ◌≤◌, ◌+◌, ◌*◌, true, Result, All, length, get_or, sym, ap, subst, inl, inr}
use Rattle.ds_base.specs.Outside.{SourceSeen, SinkSeen}
use Rattle.credit_link.specs.declared.row.LinkRow.{LinkRow}
use Rattle.summary_spec.specs.Declaration.{Declared}
use Rattle.run_law.specs.Laws.{accepted_between, captures_of}
use Rattle.run_law.specs.Shapes.{Shape}
use Rattle.net_law.specs.Nets.{Net, NetStands}
use Rattle.new_pipeline.specs.Opening.{IsNewOf}
use Rattle.run_rounds.specs.declared.node_at.NodeAt.{NodeAt}
use Rattle.link_rows.specs.Rows.{RowsSeen}
use Rattle.pipeline_law.specs.Rows.{AreNumbered}
use Rattle.pipeline_core.specs.Pipelines.{PipelineSeen, AreSourcesOf}
use Rattle.job_run.specs.Closing.{IsLeftOf}
use Rattle.job_run.specs.Rows.{AreInOrder, AreRowsOf, AreBoundBelow}
use Rattle.job_run.specs.Sources.{AllTell, files_of}
use Rattle.job_run.proofs.Running as running

-- the rows of a pipeline are in the order of its shape
in_order : (net : Net) (rows : List LinkRow) → AreNumbered net rows → AreInOrder net.shape rows
in_order net rows are = record {
  count = are.count;
  to_grouper = λ p g d hp hg. (ap (λ (r : LinkRow). r.from) (are.to_grouper p g d hp hg), ap (λ (r : LinkRow). r.to) (are.to_grouper p g d hp hg));
  to_merge = λ p d hp. (ap (λ (r : LinkRow). r.from) (are.to_merge p d hp), ap (λ (r : LinkRow). r.to) (are.to_merge p d hp));
  to_processor = λ g q d hg hq. (ap (λ (r : LinkRow). r.from) (are.to_processor g q d hg hq), ap (λ (r : LinkRow). r.to) (are.to_processor g q d hg hq));
  from_processor = λ q d hq. (ap (λ (r : LinkRow). r.from) (are.from_processor q d hq), ap (λ (r : LinkRow). r.to) (are.from_processor q d hq));
}

-- those of no pipeline
pub no_rows : (shape : Shape) (credits : ℕ) (rows : RowsSeen) → rows.rows ≡ [] → (rows.done ≡ true → ⊥) → AreRowsOf shape credits rows
no_rows shape credits rows none not_done = record {
  in_order = inl none;
  held = subst (λ (l : List LinkRow). All (λ (row : LinkRow). row.most_held ≤ credits) l) (sym none) (λ k d less. absurd (let no : suc k ≤ 0 = less in omega (arith, no)));
  done = λ is. absurd (not_done is);
}

module _ (job : Declared) (shape : Shape) (credits : ℕ) (sources : List SourceSeen) (old : SinkSeen) (before : PipelineSeen)
    (new : IsNewOf job shape credits sources old before.net) (opened : NetStands before.net) (dealt : AreSourcesOf before.net sources)
    {T : Type 0} (ended : Result T NodeAt) (left : List SourceSeen) (now : SinkSeen) (rows : RowsSeen) (h : IsLeftOf before ended left now rows) where
  ordered : AreInOrder shape rows.rows
  ordered = subst (λ (s : Shape). AreInOrder s rows.rows) (running.same_shape job shape credits sources old before new opened dealt ended left now rows h) (in_order h.after.net rows.rows h.numbered)

  pub rows_are : AreRowsOf shape credits rows
  rows_are = record {
    in_order = inr ordered;
    held = subst (λ (n : ℕ). All (λ (row : LinkRow). row.most_held ≤ n) rows.rows) (running.same_credits job shape credits sources old before new opened dealt ended left now rows h) h.held;
    done = λ is. (ordered, h.done is);
  }

  pub bound : AllTell sources → AreBoundBelow job (files_of sources) shape rows
  bound all is p g d hp hg =
      let Least : Declared → Shape → Type 0 = λ j s.
      length (accepted_between j (files_of sources) s p g) + length (captures_of j s p) + 1 ≤ (get_or rows.rows (p * s.groupers + g) d).sent in
      let shape_is = running.same_shape job shape credits sources old before new opened dealt ended left now rows h in
      let job_is = running.same_job job shape credits sources old before new opened dealt ended left now rows h in
      subst (λ (j : Declared). Least j shape) job_is
      (subst (λ (s : Shape). Least h.after.net.job s) shape_is
      (h.bound (files_of sources) (running.still_tell job shape credits sources old before new opened dealt ended left now rows h all) is p g d
      (subst (λ (s : Shape). p < s.parsers) (sym shape_is) hp) (subst (λ (s : Shape). g < s.groupers) (sym shape_is) hg)))
