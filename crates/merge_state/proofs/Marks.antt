-- The marks of processors, one frame more.
use Rattle.std.proofs.Common.{ℕ, true, false, List, [], ◌∷◌, ◌++◌, ◌≡◌, ◌<◌, ◌+◌, Option, Some, None, inl, refl, sym, ap, subst, ◌∙◌, arith, map, max, length, set, get_or}
use Rattle.std.specs.Prelude.{nat_lt}
use Rattle.std.proofs.lemmas.Bool.Decides.{nat_tests}
use Rattle.std.proofs.lemmas.List.{get_or-set_same, get_or-set_other}
use Rattle.node_frames.specs.declared.frame.Frame.{Frame}
use Rattle.node_frames.specs.declared.frame.Frame.TheVariants.{AnswerRow, GroupMark, Finish}
use Rattle.ds_base.specs.declared.verdict.Answer.{Answer}
use Rattle.summary_spec.specs.Declaration.{Declared}
use Rattle.watermarks.specs.Least.{least_mark, under}
use Rattle.watermarks.specs.Raised.{raised_to}
use Rattle.run_law.specs.Links.{Permits, MayFollow, AnswerRule}
use Rattle.run_law.specs.Nodes.{below, least_of_links}
use Rattle.run_law.specs.Sent.{Saying, of_firsts, bound_after, bound_in}
use Rattle.run_law.proofs.Bounds.{not_under, under_below}
use Rattle.run_law.proofs.Lists.{all_in, of_below}
use Rattle.run_law.proofs.More.{bound_rises, least_rises}
use Rattle.run_law.proofs.Standing.{answer_left_open, group_mark_left_open}
use Rattle.run_law.proofs.Written.{ended_links}
use Rattle.merge_state.specs.States.{TakesOne}
use Rattle.merge_state.proofs.Links.{bound_push, placed, each_on, listed}

-- the least of the marks that are kept
pub least_is : (n : ℕ) (taken : ℕ → List Frame) (marks : List (Option ℕ)) → length marks ≡ n → ((q : ℕ) → q < n → get_or marks q None ≡ bound_in of_firsts (taken q))
    → least_of_links n taken ≡ least_mark marks
least_is n taken marks long are =
    let at : (k : ℕ) → k < length marks → get_or marks k None ≡ bound_in of_firsts (taken (0 + k)) =
    λ k less. let same : k ≡ 0 + k = omega arith in are k (omega (arith, less, long)) ∙ ap (λ (j : ℕ). bound_in of_firsts (taken j)) same in
    ap (λ (m : ℕ). least_mark (map (λ q. bound_in of_firsts (taken q)) (below m))) (sym long)
    ∙ ap least_mark (sym (listed marks None (λ q. bound_in of_firsts (taken q)) 0 at))

module _ (job : Declared) (n : ℕ) (taken more : ℕ → List Frame) (g : ℕ) (f : Frame) (takes : TakesOne n taken more g f) (may : MayFollow (AnswerRule job) (taken g) f) where
  -- a link on which a frame may stand goes on
  pub goes_on : least_of_links n taken ≡ None → ⊥
  goes_on none = all_in (λ earlier. Permits earlier f) Finish (taken g) may.permitted (ended_links n taken g takes.there none)

  -- the least mark does not fall
  pub rises : (t : ℕ) → under (least_of_links n taken) t ≡ true → under (least_of_links n more) t ≡ true
  rises t pass =
      least_rises (λ q. bound_in of_firsts (taken q)) (λ q. bound_in of_firsts (more q)) (below n) t
      (λ q l h.
      each_on (λ k fs. under (bound_in of_firsts (taken k)) t ≡ true → under (bound_in of_firsts fs) t ≡ true) n taken more g f takes
      (λ k. subst (λ (b : Option ℕ). under b t ≡ true) (sym (bound_push of_firsts (taken g) f))
      (bound_rises (AnswerRule job) of_firsts (taken g) (f ∷ []) (bound_in of_firsts (taken g)) t refl (may, tt) group_mark_left_open k))
      (λ k less h. h) q (of_below n q l) h)
      pass

  -- the mark that is kept, where a mark came, the end or neither
  pub mark_kept : (marks : List (Option ℕ)) (b : Option ℕ) → length marks ≡ n → ((q : ℕ) → q < n → get_or marks q None ≡ bound_in of_firsts (taken q))
      → b ≡ bound_after (bound_in of_firsts (taken g)) (of_firsts f) → (q : ℕ) → q < n → get_or (set marks g b) q None ≡ bound_in of_firsts (more q)
  mark_kept marks b long are is =
      placed n taken more g f takes (λ q fs. get_or (set marks g b) q None ≡ bound_in of_firsts fs) here
      (λ q less other. get_or-set_other marks g q b None other ∙ are q less)
    where
      here : get_or (set marks g b) g None ≡ bound_in of_firsts (taken g ++ f ∷ [])
      here = get_or-set_same marks g b None (omega (arith, takes.there, long)) ∙ is ∙ sym (bound_push of_firsts (taken g) f)

  pub mark_same : (marks : List (Option ℕ)) → of_firsts f ≡ None → ((q : ℕ) → q < n → get_or marks q None ≡ bound_in of_firsts (taken q))
      → (q : ℕ) → q < n → get_or marks q None ≡ bound_in of_firsts (more q)
  mark_same marks silent are =
      each_on (λ q fs. get_or marks q None ≡ bound_in of_firsts fs) n taken more g f takes
      (are g takes.there ∙ unchanged (bound_in of_firsts (taken g)) (of_firsts f) silent ∙ sym (bound_push of_firsts (taken g) f)) are
    where
      unchanged : (b : Option ℕ) (saying : Saying) → saying ≡ None → b ≡ bound_after b saying
      unchanged None saying e = refl
      unchanged (Some m) saying e = rw e refl

-- a mark that may stand behind the frames of its link is not below the one that is kept
pub mark_raised : (job : Declared) (before : List Frame) (m : ℕ) → MayFollow (AnswerRule job) before (GroupMark m)
    → raised_to m (bound_in of_firsts before) ≡ bound_after (bound_in of_firsts before) (Some (Some m))
mark_raised job before m may = raises (bound_in of_firsts before) refl
  where
    raises : (b : Option ℕ) → bound_in of_firsts before ≡ b → raised_to m b ≡ bound_after b (Some (Some m))
    raises None e = refl
    raises (Some v) e =
        let late : under (bound_in of_firsts before) m ≡ false = not_under of_firsts before m (group_mark_left_open (GroupMark m) m before refl may.permitted) in
        let over : nat_lt m v ≡ false = subst (λ (o : Option ℕ). under o m ≡ false) e late in
        let same : max v m ≡ m = above v m over in
        ap Some same
      where
        above : (v m : ℕ) → nat_lt m v ≡ false → max v m ≡ m
        above v m h = grind (arith, nat_tests)

-- behind the end there is no mark
pub mark_ended : (b : Option ℕ) → None ≡ bound_after b (Some None)
mark_ended None = refl
mark_ended (Some m) = refl

-- an answer that may stand behind the frames of its link is not below the least mark
pub answer_late : (job : Declared) (n : ℕ) (taken : ℕ → List Frame) (g : ℕ) (a : Answer) → g < n → MayFollow (AnswerRule job) (taken g) (AnswerRow a)
    → under (least_of_links n taken) a.first.time ≡ false
answer_late job n taken g a less may =
    under_below n g (λ q. bound_in of_firsts (taken q)) a.first.time less
    (not_under of_firsts (taken g) a.first.time (answer_left_open (AnswerRule job) (taken g) (AnswerRow a ∷ []) a (may, tt) (inl refl)))
