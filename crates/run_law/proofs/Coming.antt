-- What groupers and processors sent: of each group and each answer, that it came or may still come.
use Rattle.std.proofs.Common.{ℕ, Bool, false, List, ◌≡◌, ◌⊎◌, ◌<◌, ◌≤◌, ◌+◌, Option, inl, inr, refl, sym, ap, subst, ◌∙◌, ⊎_elim, arith}
use Rattle.std.specs.Prelude.{filter}
use Rattle.std.specs.List.{AllByRecursion}
use Rattle.std.proofs.lemmas.Bool.{eq-eqb, cases_lt}
use Rattle.central_report.specs.Report.{accepted, groups}
use Rattle.ds_base.specs.Copies.{Copies}
use Rattle.ds_base.specs.Fronts.{IsIn, upto, onward, InOrder}
use Rattle.ds_base.proofs.Fronts.{parted}
use Rattle.ds_base.specs.Keys.{shard_of}
use Rattle.node_frames.specs.declared.frame.Frame.{Frame}
use Rattle.node_frames.specs.declared.frame.Frame.TheVariants.{Item, Mark, CaptureEnd, GroupHead, Member, GroupMark, AnswerRow, Profile, CountsRow, Finish}
use Rattle.summary_spec.specs.Declaration.{Declared}
use Rattle.watermarks.specs.Least.{under}
use Rattle.watermarks.proofs.Lesser.{under_earlier}
use Rattle.window_grouper.specs.Closed.{is_closed}
use Rattle.window_grouper.specs.Groups.{IsGroup}
use Rattle.window_grouper.proofs.Members.{all_grouped}
use Rattle.run_law.specs.Laws.{IsRun, shard_run}
use Rattle.run_law.specs.Links.{GroupRule, AnswerRule, AreLawfulGroups, AreLawfulAnswers}
use Rattle.run_law.specs.Nodes.{least_of_captures, groups_closed, began, answer_of, groups_arrived, least_of_links, GrouperKeeps, ProcessorKeeps}
use Rattle.run_law.specs.Sent.{answer_in, answers_in, groups_in, of_firsts, bound_in, MayCome, IsLeftOpen}
use Rattle.run_law.specs.Shapes.{Shape, IsFront, is_of_shard, numbered, with_number, dealt}
use Rattle.run_law.specs.Snapshot.{Lists, Snapshot}
use Rattle.run_law.proofs.Bounds.{not_under, under_below, mark_from}
use Rattle.run_law.proofs.Lists.{all_in, in_all, all_left, either_all, in_either, in_filter, of_filter, in_map, flat-append, in_number, of_number, front_trans, dealt_front, dealt_parts, goes_to}
use Rattle.run_law.proofs.Ordered.{lead, groups_ordered, order_of_filter, not_closed}
use Rattle.run_law.proofs.Sharded.{step_front, kept_by, closed_of_shard, closed_front, accepted_ordered}
use Rattle.run_law.proofs.Standing.{groups_cut, lawful_front, lawful_rest, answer_left_open}

all_filter : {X : Type 0} (P : X → Type 0) (test : X → Bool) (xs : List X) → AllByRecursion P xs → AllByRecursion P (filter test xs)
all_filter P test xs h = in_all P (filter test xs) (λ z l. all_in P z xs h (of_filter test z xs l).0)

-- a mark of firsts is passed, or A
by_mark : (A : Type 0) (f : Frame) (t : ℕ) → ((mark : ℕ) → f ≡ GroupMark mark → t < mark → A) → (f ≡ Finish → A) → A ⊎ MayCome (of_firsts f) t
by_mark A (Item s) t h k = inr tt
by_mark A (Mark c mark) t h k = inr tt
by_mark A (CaptureEnd c) t h k = inr tt
by_mark A (GroupHead first members key) t h k = inr tt
by_mark A (Member at vals) t h k = inr tt
by_mark A (GroupMark mark) t h k = ⊎_elim (λ (less : t < mark). inl (h mark refl less)) (λ (up : mark ≤ t). inr up) (cases_lt t mark)
by_mark A (AnswerRow a) t h k = inr tt
by_mark A (Profile row) t h k = inr tt
by_mark A (CountsRow c counts) t h k = inr tt
by_mark A Finish t h k = inl (k refl)

module _ (job : Declared) (files : List (List ℕ)) (shape : Shape) (start : List ℕ) (lists : Lists)
    (run : IsRun job files shape) (snap : Snapshot job files shape start lists) where
  -- ---- groups of a shard

  pub all_groups : AllByRecursion (IsGroup job.window) (groups job files)
  all_groups = (all_grouped job.window (accepted job files) (accepted_ordered job files shape start lists run snap)).0

  pub in_time : InOrder lead (groups job files)
  in_time = groups_ordered job.window (accepted job files) (accepted_ordered job files shape start lists run snap)

  -- a group of the shard that is not closed begins late
  not_closed_yet : (g : ℕ) → (bound : Option ℕ) → (x : Copies)
      → IsIn x (onward (is_closed (under bound) job.window) (shard_run job files g shape.groupers)) → under bound (began x + job.window) ≡ false
  not_closed_yet g bound x h =
      let test : Copies → Bool = λ y. is_of_shard g shape.groupers y.key in
      not_closed (under bound) job.window (shard_run job files g shape.groupers) (λ t u up k. under_earlier bound t u up k)
      (all_filter (IsGroup job.window) test (groups job files) all_groups) (order_of_filter lead test (groups job files) in_time) x h

  -- ---- what groupers sent

  pub groups_front : (g q : ℕ) → g < shape.groupers → q < shape.processors → IsFront (lists.groups g q).taken (lists.groups g q).put
  groups_front g q hg hq = step_front job files shape start lists run snap (lists.groups g q) (snap.groups_step g q hg hq)

  pub kept : (g : ℕ) → (hg : g < shape.groupers) → GrouperKeeps job shape g (λ p. (lists.items p g).taken) (λ q. (lists.groups g q).put)
  kept g hg = kept_by job files shape start lists run snap g hg

  pub groups_lawful : (q : ℕ) → q < shape.processors → (g : ℕ) → g < shape.groupers → AreLawfulGroups job (lists.groups g q).taken
  groups_lawful q hq g hg = lawful_front (GroupRule job) (lists.groups g q).taken (lists.groups g q).put (groups_front g q hg hq) ((kept g hg).lawful q hq)

  -- a closed group that goes to q was put, or every frame that was put leaves it open
  closed_put_or_open : (g q : ℕ) → (hg : g < shape.groupers) → (hq : q < shape.processors) → (x : Copies)
      → IsIn x (dealt shape.processors g q (groups_closed job shape (λ p. (lists.items p g).taken)))
      → IsIn x (groups_in (lists.groups g q).put) ⊎ IsLeftOpen of_firsts (lists.groups g q).put (began x)
  closed_put_or_open g q hg hq x h =
      either_all (IsIn x (groups_in (lists.groups g q).put)) (λ f. MayCome (of_firsts f) (began x)) (lists.groups g q).put
      (λ f put. by_mark (IsIn x (groups_in (lists.groups g q).put)) f (began x)
      (λ mark is less. (kept g hg).whole q mark x hq (subst (λ z. IsIn z (lists.groups g q).put) is put) h less)
      (λ is.
      let all = ((kept g hg).finish q hq (subst (λ z. IsIn z (lists.groups g q).put) is put)).1 in
      subst (λ xs. IsIn x xs) (sym ((kept g hg).in_turn q hq))
      (subst (λ xs. IsIn x (dealt shape.processors g q xs)) (sym all) h)))

  -- every frame that was put leaves a group open that is not closed
  late_open : (g q : ℕ) → (hg : g < shape.groupers) → (hq : q < shape.processors) → (x : Copies)
      → under (least_of_captures job shape (λ p. (lists.items p g).taken)) (began x + job.window) ≡ false
      → IsLeftOpen of_firsts (lists.groups g q).put (began x)
  late_open g q hg hq x h =
      let bound : Option ℕ = least_of_captures job shape (λ p. (lists.items p g).taken) in
      let m = mark_from bound (began x + job.window) h in
      let no : ⊥ ⊎ IsLeftOpen of_firsts (lists.groups g q).put (began x) =
      either_all ⊥ (λ f. MayCome (of_firsts f) (began x)) (lists.groups g q).put
      (λ f put. by_mark ⊥ f (began x)
      (λ mark is less.
      let low = (kept g hg).marks q mark m.mark hq (subst (λ z. IsIn z (lists.groups g q).put) is put) m.is in
      omega (arith, low, m.low, less))
      (λ is.
      let none = ((kept g hg).finish q hq (subst (λ z. IsIn z (lists.groups g q).put) is put)).0 in
      let some = m.is in cc)) in
      ⊎_elim (λ (b : ⊥). absurd b) (λ (o : IsLeftOpen of_firsts (lists.groups g q).put (began x)). o) no

  -- each group of the shard that goes to q was taken there, or every frame that was taken leaves it open
  pub group_came : (g q : ℕ) → (hg : g < shape.groupers) → (hq : q < shape.processors) → (x : Copies)
      → IsIn x (dealt shape.processors g q (shard_run job files g shape.groupers))
      → IsIn x (groups_in (lists.groups g q).taken) ⊎ IsLeftOpen of_firsts (lists.groups g q).taken (began x)
  group_came g q hg hq x h =
      let bound : Option ℕ = least_of_captures job shape (λ p. (lists.items p g).taken) in
      let all : List Copies = shard_run job files g shape.groupers in
      let test : Copies → Bool = is_closed (under bound) job.window in
      let put : List Frame = (lists.groups g q).put in
      let taken : List Frame = (lists.groups g q).taken in
      let f = groups_front g q hg hq in
      let cut = groups_cut job taken put f ((kept g hg).lawful q hq) in
      let of_put : IsLeftOpen of_firsts put (began x) → IsIn x (groups_in taken) ⊎ IsLeftOpen of_firsts taken (began x) =
      λ o. inr (all_left (λ z. MayCome (of_firsts z) (began x)) taken f.rest (subst (λ zs. IsLeftOpen of_firsts zs (began x)) f.joined o)) in
      let parts = dealt_parts shape.processors g q x (upto test all) (onward test all)
      (subst (λ xs. IsIn x (dealt shape.processors g q xs)) (sym (parted test all).joined) h) in
      ⊎_elim
      (λ (closed : IsIn x (dealt shape.processors g q (upto test all))).
      ⊎_elim
      (λ (came : IsIn x (groups_in put)).
      ⊎_elim
      (λ (here : IsIn x (groups_in taken)). inl here)
      (λ (later : IsIn x cut.later). inr (cut.left_open x later))
      (in_either x (groups_in taken) cut.later (subst (λ xs. IsIn x xs) cut.joined came)))
      of_put
      (closed_put_or_open g q hg hq x
      (subst (λ xs. IsIn x (dealt shape.processors g q xs)) (sym (closed_of_shard job files shape start lists run snap g hg)) closed)))
      (λ (later : IsIn x (onward test all)).
      of_put (late_open g q hg hq x (not_closed_yet g bound x later)))
      parts

  -- what was taken is a front of what goes to q
  pub groups_taken_front : (g q : ℕ) → (hg : g < shape.groupers) → (hq : q < shape.processors)
      → IsFront (groups_in (lists.groups g q).taken) (dealt shape.processors g q (shard_run job files g shape.groupers))
  groups_taken_front g q hg hq =
      let cut = groups_cut job (lists.groups g q).taken (lists.groups g q).put (groups_front g q hg hq) ((kept g hg).lawful q hq) in
      let closed = groups_closed job shape (λ p. (lists.items p g).taken) in
      let sent = (kept g hg).sent in
      front_trans (groups_in (lists.groups g q).taken) (dealt shape.processors g q sent) (dealt shape.processors g q (shard_run job files g shape.groupers))
      (record { rest = cut.later; joined = sym ((kept g hg).in_turn q hq) ∙ cut.joined })
      (dealt_front shape.processors g q sent (shard_run job files g shape.groupers)
      (front_trans sent closed (shard_run job files g shape.groupers) (kept g hg).closed (closed_front job files shape start lists run snap g hg)))

  -- ---- what processors sent

  pub answers_front : (q : ℕ) → q < shape.processors → IsFront (lists.answers q).taken (lists.answers q).put
  answers_front q hq = step_front job files shape start lists run snap (lists.answers q) (snap.answers_step q hq)

  pub answered_by : (q : ℕ) → (hq : q < shape.processors) → ProcessorKeeps job shape (λ g. (lists.groups g q).taken) (lists.answers q).put
  answered_by q hq = snap.processors q hq (groups_lawful q hq)

  pub answers_lawful : (q : ℕ) → q < shape.processors → AreLawfulAnswers job (lists.answers q).taken
  answers_lawful q hq = lawful_front (AnswerRule job) (lists.answers q).taken (lists.answers q).put (answers_front q hq) (answered_by q hq).lawful

  -- a group that arrived was answered, or every frame that was put leaves it open
  arrived_put_or_open : (q : ℕ) → (hq : q < shape.processors) → (x : Copies) → IsIn x (groups_arrived (answered_by q hq).arrived)
      → IsIn (answer_of job x) (answers_in (lists.answers q).put) ⊎ IsLeftOpen of_firsts (lists.answers q).put (began x)
  arrived_put_or_open q hq x h =
      let is = answered_by q hq in
      either_all (IsIn (answer_of job x) (answers_in (lists.answers q).put)) (λ f. MayCome (of_firsts f) (began x)) (lists.answers q).put
      (λ f put. by_mark (IsIn (answer_of job x) (answers_in (lists.answers q).put)) f (began x)
      (λ mark e less. is.answered mark x (subst (λ z. IsIn z (lists.answers q).put) e put) h less)
      (λ e.
      let all = (is.finish (subst (λ z. IsIn z (lists.answers q).put) e put)).0.answers in
      subst (λ ys. IsIn (answer_of job x) ys) (sym all) (in_map (answer_of job) x (groups_arrived is.arrived) h)))

  -- every frame that was put leaves a group open that may still come from a grouper
  coming_open : (g q : ℕ) → (hg : g < shape.groupers) → (hq : q < shape.processors) → (x : Copies)
      → IsLeftOpen of_firsts (lists.groups g q).taken (began x) → IsLeftOpen of_firsts (lists.answers q).put (began x)
  coming_open g q hg hq x o =
      let is = answered_by q hq in
      let late = under_below shape.groupers g (λ k. bound_in of_firsts (lists.groups k q).taken) (began x) hg
      (not_under of_firsts (lists.groups g q).taken (began x) o) in
      let m = mark_from (least_of_links shape.groupers (λ k. (lists.groups k q).taken)) (began x) late in
      let no : ⊥ ⊎ IsLeftOpen of_firsts (lists.answers q).put (began x) =
      either_all ⊥ (λ f. MayCome (of_firsts f) (began x)) (lists.answers q).put
      (λ f put. by_mark ⊥ f (began x)
      (λ mark e less.
      let low = is.marks mark m.mark (subst (λ z. IsIn z (lists.answers q).put) e put) m.is in
      omega (arith, low, m.low, less))
      (λ e.
      let none = (is.finish (subst (λ z. IsIn z (lists.answers q).put) e put)).0.finished in
      let some = m.is in cc)) in
      ⊎_elim (λ (b : ⊥). absurd b) (λ (p : IsLeftOpen of_firsts (lists.answers q).put (began x)). p) no

  -- the answer to each group that goes to q was taken by the merge, or every frame that was taken leaves it open
  pub answer_came : (g q : ℕ) → (hg : g < shape.groupers) → (hq : q < shape.processors) → (x : Copies)
      → IsIn x (dealt shape.processors g q (shard_run job files g shape.groupers))
      → IsIn (answer_of job x) (answers_in (lists.answers q).taken) ⊎ IsLeftOpen of_firsts (lists.answers q).taken (began x)
  answer_came g q hg hq x h =
      let is = answered_by q hq in
      let put : List Frame = (lists.answers q).put in
      let taken : List Frame = (lists.answers q).taken in
      let f = answers_front q hq in
      let of_put : IsLeftOpen of_firsts put (began x) → IsIn (answer_of job x) (answers_in taken) ⊎ IsLeftOpen of_firsts taken (began x) =
      λ o. inr (all_left (λ z. MayCome (of_firsts z) (began x)) taken f.rest (subst (λ zs. IsLeftOpen of_firsts zs (began x)) f.joined o)) in
      ⊎_elim
      (λ (came : IsIn x (groups_in (lists.groups g q).taken)).
      let mine : IsIn x (with_number g is.arrived) = subst (λ xs. IsIn x xs) (sym (is.from_links g hg)) came in
      let arrived : IsIn x (groups_arrived is.arrived) = in_map (λ (e : ℕ × Copies). e.1) (g, x) is.arrived (of_number g x is.arrived mine) in
      ⊎_elim
      (λ (sent : IsIn (answer_of job x) (answers_in put)).
      ⊎_elim
      (λ (here : IsIn (answer_of job x) (answers_in taken)). inl here)
      (λ (later : IsIn (answer_of job x) (answers_in f.rest)).
      inr (answer_left_open (AnswerRule job) taken f.rest (answer_of job x) (lawful_rest (AnswerRule job) taken put f is.lawful) later))
      (in_either (answer_of job x) (answers_in taken) (answers_in f.rest)
      (subst (λ ys. IsIn (answer_of job x) ys) (ap answers_in f.joined ∙ flat-append answer_in taken f.rest) sent)))
      of_put
      (arrived_put_or_open q hq x arrived))
      (λ (o : IsLeftOpen of_firsts (lists.groups g q).taken (began x)). of_put (coming_open g q hg hq x o))
      (group_came g q hg hq x h)

  -- the link on which a group goes: its shard's grouper, and a processor in turn
  pub record Goes (x : Copies) : Type 0 where
    pub g : ℕ
    pub q : ℕ
    pub grouper : g < shape.groupers
    pub processor : q < shape.processors
    pub there : IsIn x (dealt shape.processors g q (shard_run job files g shape.groupers))

  pub goes : (x : Copies) → IsIn x (groups job files) → Goes x
  goes x h =
      let some : 0 < shape.groupers = run.shape_is.groupers in
      let g : ℕ = shard_of x.key shape.groupers in
      let within : g < shape.groupers = shard_within x.key shape.groupers some in
      let own : IsIn x (shard_run job files g shape.groupers) =
      in_filter (λ (y : Copies). is_of_shard g shape.groupers y.key) x (groups job files) (eq-eqb g g refl) h in
      let q = goes_to shape.processors g x (shard_run job files g shape.groupers) run.shape_is.processors own in
      record {
        g = g;
        q = q.item;
        grouper = within;
        processor = q.is.0;
        there = in_number q.item x (numbered shape.processors g (shard_run job files g shape.groupers)) q.is.1;
      }
    where
      shard_within : (key : List ℕ) (n : ℕ) → 0 < n → shard_of key n < n
      shard_within key n some = omega arith
