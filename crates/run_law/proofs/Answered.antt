-- What the merge takes: a part of the answers to all groups, and below its bound all of them.
use Rattle.std.proofs.Common.{ℕ, true, List, [], ◌∷◌, ◌++◌, ◌≡◌, ◌<◌, ◌≤◌, refl, sym, ap, subst, ◌∙◌, ⊎_elim, arith, length}
use Rattle.std.specs.Prelude.{flat_map}
use Rattle.std.specs.List.{AllByRecursion}
use Rattle.std.specs.List.Sorted.{IsPermutation}
use Rattle.std.proofs.lemmas.Bool.{both_ways}
use Rattle.std.proofs.lemmas.List.Sorted.{IsPermutation-trans, IsPermutation-sym}
use Rattle.answer_text.specs.Lines.{answer_text}
use Rattle.central_report.specs.Report.{groups, group_text, group_texts, names_of}
use Rattle.ds_base.specs.Copies.{Copies}
use Rattle.ds_base.specs.Fronts.{IsIn, upto, InOrder, Falls}
use Rattle.ds_base.specs.Keys.{shard_of}
use Rattle.ds_base.specs.Order.{Precedes}
use Rattle.ds_base.specs.declared.stamp.Stamp.{Stamp}
use Rattle.ds_base.specs.declared.summary.Summary.{Summary}
use Rattle.ds_base.specs.declared.verdict.Answer.{Answer}
use Rattle.ds_base.proofs.Fronts.{same_front}
use Rattle.summary_spec.specs.Declaration.{Declared}
use Rattle.watermarks.specs.Least.{under}
use Rattle.watermarks.proofs.Lesser.{under_earlier}
use Rattle.window_grouper.specs.Groups.{IsGroup}
use Rattle.run_law.specs.Laws.{IsRun, shard_run}
use Rattle.run_law.specs.Nodes.{below, answer_of, answers_of, answer_texts, answers_taken, groups_arrived, least_of_links, AreInOrder, began}
use Rattle.run_law.specs.Sent.{answer_in, answers_in, groups_in, of_firsts, bound_in, IsLeftOpen}
use Rattle.run_law.specs.Shapes.{Shape, with_number, dealt}
use Rattle.run_law.specs.Snapshot.{Lists, Snapshot}
use Rattle.run_law.proofs.Bounds.{not_under, under_below}
use Rattle.run_law.proofs.Coming.{in_time, groups_taken_front, answered_by, answers_front, answer_came, goes}
use Rattle.run_law.proofs.Lists.{in_left, of_map, in_flat, flat-append, in_below, of_below, in_permutation, front_trans}
use Rattle.run_law.proofs.Ordered.{order_of_map}
use Rattle.run_law.proofs.Parts.{IsPart, part_front, part_perm, part_trans, part_flat, part_map, map_flat, perm_equal, perm_flat, perm_swap, perm_numbers, perm_dealt, perm_classes}
use Rattle.run_law.proofs.Sorted.{in_turn, same_in_turn, part_in_turn}

-- the lines of groups are those of their answers
pub texts_of_groups : (job : Declared) (gs : List Copies) → AllByRecursion (IsGroup job.window) gs
    → group_texts (names_of job) job.query gs ≡ answer_texts job (answers_of job gs)
texts_of_groups job [] h = refl
texts_of_groups job (g ∷ gs) h =
    one_more (texts_of_groups job gs h.1) (by_members g.members refl)
  where
    by_members : (ms : List Summary) → g.members ≡ ms → group_text (names_of job) job.query g ≡ answer_text (names_of job) (answer_of job g)
    by_members [] e = absurd (let none : length g.members ≡ 0 = ap length e in omega (arith, h.0.filled, none))
    by_members (m ∷ ms) e = rw e refl

    one_more : group_texts (names_of job) job.query gs ≡ answer_texts job (answers_of job gs)
        → group_text (names_of job) job.query g ≡ answer_text (names_of job) (answer_of job g)
        → group_texts (names_of job) job.query (g ∷ gs) ≡ answer_texts job (answers_of job (g ∷ gs))
    one_more rest here = ap (λ t. t ++ group_texts (names_of job) job.query gs) here ∙ ap (λ t. answer_text (names_of job) (answer_of job g) ++ t) rest

module _ (job : Declared) (files : List (List ℕ)) (shape : Shape) (start : List ℕ) (lists : Lists)
    (run : IsRun job files shape) (snap : Snapshot job files shape start lists) where
  -- the groups that go to q
  abbrev pub going_to : ℕ → List Copies
  going_to q = flat_map (λ g. dealt shape.processors g q (shard_run job files g shape.groupers)) (below shape.groupers)

  -- all groups, processor by processor
  pub going_all : IsPermutation (flat_map going_to (below shape.processors)) (groups job files)
  going_all =
      IsPermutation-trans (flat_map going_to (below shape.processors))
      (flat_map (λ g. flat_map (λ q. dealt shape.processors g q (shard_run job files g shape.groupers)) (below shape.processors)) (below shape.groupers))
      (groups job files)
      (perm_swap (λ q g. dealt shape.processors g q (shard_run job files g shape.groupers)) (below shape.processors) (below shape.groupers))
      (IsPermutation-trans
      (flat_map (λ g. flat_map (λ q. dealt shape.processors g q (shard_run job files g shape.groupers)) (below shape.processors)) (below shape.groupers))
      (flat_map (λ g. shard_run job files g shape.groupers) (below shape.groupers))
      (groups job files)
      (perm_flat (λ g. flat_map (λ q. dealt shape.processors g q (shard_run job files g shape.groupers)) (below shape.processors))
      (λ g. shard_run job files g shape.groupers) (below shape.groupers)
      (λ g l. perm_dealt shape.processors g (shard_run job files g shape.groupers) run.shape_is.processors))
      (perm_classes (λ (x : Copies). shard_of x.key shape.groupers) shape.groupers (groups job files) (λ x. within x.key shape.groupers run.shape_is.groupers)))
    where
      within : (key : List ℕ) (n : ℕ) → 0 < n → shard_of key n < n
      within key n some = omega arith

  -- the groups that arrived, grouper by grouper
  pub arrived_perm : (q : ℕ) → (hq : q < shape.processors)
      → IsPermutation (groups_arrived (answered_by job files shape start lists run snap q hq).arrived) (flat_map (λ g. groups_in (lists.groups g q).taken) (below shape.groupers))
  arrived_perm q hq =
      let is = answered_by job files shape start lists run snap q hq in
      IsPermutation-trans (groups_arrived is.arrived) (flat_map (λ g. with_number g is.arrived) (below shape.groupers))
      (flat_map (λ g. groups_in (lists.groups g q).taken) (below shape.groupers))
      (IsPermutation-sym (flat_map (λ g. with_number g is.arrived) (below shape.groupers)) (groups_arrived is.arrived) (perm_numbers shape.groupers is.arrived is.of_groupers))
      (perm_flat (λ g. with_number g is.arrived) (λ g. groups_in (lists.groups g q).taken) (below shape.groupers)
      (λ g l. perm_equal (with_number g is.arrived) (groups_in (lists.groups g q).taken) (is.from_links g (of_below shape.groupers g l))))

  arrived_part : (q : ℕ) → (hq : q < shape.processors) → IsPart (groups_arrived (answered_by job files shape start lists run snap q hq).arrived) (going_to q)
  arrived_part q hq =
      let is = answered_by job files shape start lists run snap q hq in
      part_trans (groups_arrived is.arrived) (flat_map (λ g. groups_in (lists.groups g q).taken) (below shape.groupers)) (going_to q)
      (part_perm (groups_arrived is.arrived) (flat_map (λ g. groups_in (lists.groups g q).taken) (below shape.groupers)) (arrived_perm q hq))
      (part_flat (λ g. groups_in (lists.groups g q).taken) (λ g. dealt shape.processors g q (shard_run job files g shape.groupers)) (below shape.groupers)
      (λ g l. part_front (groups_in (lists.groups g q).taken) (dealt shape.processors g q (shard_run job files g shape.groupers))
      (groups_taken_front job files shape start lists run snap g q (of_below shape.groupers g l) hq)))

  taken_part : (q : ℕ) → (hq : q < shape.processors) → IsPart (answers_in (lists.answers q).taken) (answers_of job (going_to q))
  taken_part q hq =
      let is = answered_by job files shape start lists run snap q hq in
      let f = answers_front job files shape start lists run snap q hq in
      part_trans (answers_in (lists.answers q).taken) (answers_of job (groups_arrived is.arrived)) (answers_of job (going_to q))
      (part_front (answers_in (lists.answers q).taken) (answers_of job (groups_arrived is.arrived))
      (front_trans (answers_in (lists.answers q).taken) (answers_in (lists.answers q).put) (answers_of job (groups_arrived is.arrived))
      (record { rest = answers_in f.rest; joined = ap answers_in f.joined ∙ flat-append answer_in (lists.answers q).taken f.rest })
      is.answers))
      (part_map (answer_of job) (groups_arrived is.arrived) (going_to q) (arrived_part q hq))

  abbrev pub all_taken : List Answer
  all_taken = answers_taken shape (λ q. (lists.answers q).taken)

  abbrev pub all_answers : List Answer
  all_answers = answers_of job (groups job files)

  -- the answers taken are a part of all answers
  pub answers_part : IsPart all_taken all_answers
  answers_part =
      part_trans all_taken (answers_of job (flat_map going_to (below shape.processors))) all_answers
      (subst (λ ys. IsPart all_taken ys) (map_flat (answer_of job) going_to (below shape.processors))
      (part_flat (λ q. answers_in (lists.answers q).taken) (λ q. answers_of job (going_to q)) (below shape.processors)
      (λ q l. taken_part q (of_below shape.processors q l))))
      (part_map (answer_of job) (flat_map going_to (below shape.processors)) (groups job files)
      (part_perm (flat_map going_to (below shape.processors)) (groups job files) going_all))

  pub answers_ordered : InOrder (λ (a : Answer). a.first) all_answers
  answers_ordered = order_of_map (answer_of job) (λ (a : Answer). a.first) (groups job files) (in_time job files shape start lists run snap)

  -- their firsts differ: they can be brought into order
  pub ordered_taken : List Answer
  ordered_taken = in_turn (λ (a : Answer). a.first) all_taken

  pub taken_ordered : AreInOrder all_taken ordered_taken
  unfolding ordered_taken
  taken_ordered = record {
    rises = part_in_turn (λ (a : Answer). a.first) all_taken all_answers answers_part answers_ordered;
    same = same_in_turn (λ (a : Answer). a.first) all_taken;
  }

  -- below the bound of the merge all answers were taken
  pub fronts_same : (ordered : List Answer) → AreInOrder all_taken ordered
      → upto (λ a. under (least_of_links shape.processors (λ q. (lists.answers q).taken)) a.first.time) ordered
      ≡ upto (λ a. under (least_of_links shape.processors (λ q. (lists.answers q).taken)) a.first.time) all_answers
  fronts_same ordered h =
      same_front (λ (a : Answer). a.first) (λ a. under (least_of_links shape.processors (λ q. (lists.answers q).taken)) a.first.time) ordered all_answers
      h.rises answers_ordered falls (λ a pass. (to a, back a pass))
    where
      no_later : (a b : Stamp) → Precedes a b → a.time ≤ b.time
      no_later a b k = grind arith

      falls : Falls (λ (a : Answer). a.first) (λ a. under (least_of_links shape.processors (λ q. (lists.answers q).taken)) a.first.time)
      falls a b before pass = under_earlier (least_of_links shape.processors (λ q. (lists.answers q).taken)) a.first.time b.first.time (no_later a.first b.first before) pass

      to : (a : Answer) → IsIn a ordered → IsIn a all_answers
      to a there =
          in_permutation a (all_taken ++ answers_part.others) all_answers answers_part.same
          (in_left a all_taken answers_part.others (in_permutation a ordered all_taken (IsPermutation-sym all_taken ordered h.same) there))

      back : (a : Answer) → under (least_of_links shape.processors (λ q. (lists.answers q).taken)) a.first.time ≡ true → IsIn a all_answers → IsIn a ordered
      back a pass there =
          let from = of_map (answer_of job) a (groups job files) there in
          let x : Copies = from.item in
          let way = goes job files shape start lists run snap x from.there in
          in_permutation a all_taken ordered h.same
          (⊎_elim
          (λ (here : IsIn (answer_of job x) (answers_in (lists.answers way.q).taken)).
          in_flat (λ q. answers_in (lists.answers q).taken) way.q a (below shape.processors) (in_below shape.processors way.q way.processor)
          (subst (λ (b : Answer). IsIn b (answers_in (lists.answers way.q).taken)) (sym from.is) here))
          (λ (o : IsLeftOpen of_firsts (lists.answers way.q).taken (began x)).
          absurd (both_ways (under (least_of_links shape.processors (λ q. (lists.answers q).taken)) (began x))
          (under_below shape.processors way.q (λ q. bound_in of_firsts (lists.answers q).taken) (began x) way.processor
          (not_under of_firsts (lists.answers way.q).taken (began x) o))
          (subst (λ (b : Answer). under (least_of_links shape.processors (λ q. (lists.answers q).taken)) b.first.time ≡ true) from.is pass)))
          (answer_came job files shape start lists run snap way.g way.q way.grouper way.processor x way.there))
