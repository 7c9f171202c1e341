-- What groupers take and send: fronts of the groups of their shards.
use Rattle.std.proofs.Common.{ℕ, zero, suc, Bool, true, false, List, [], ◌∷◌, ◌++◌, ◌≡◌, ◌≢◌, ◌⊎◌, ◌<◌, ◌≤◌, ◌+◌, ◌%◌, Option, Some, inl, inr, refl, sym, ap, subst, ◌∙◌, ⊎_elim, arith, length}
use Rattle.std.specs.Prelude.{slice_get, filter, flat_map, ◌↔◌}
use Rattle.std.specs.List.{range_with_len}
use Rattle.std.proofs.lemmas.Bool.{cases_Bool, both_ways}
use Rattle.std.proofs.lemmas.List.Sorted.{IsPermutation-sym}
use Rattle.std.proofs.lemmas.Option.{get_or_from_slice_get, slice_get-get_or, slice_get_within}
use Rattle.central_report.specs.Report.{accepted}
use Rattle.central_report.proofs.Membership.{accepted_is_all}
use Rattle.ds_base.specs.Fronts.{IsIn, upto, onward}
use Rattle.ds_base.specs.Order.{Precedes, PrecedesAll, InStampOrder}
use Rattle.ds_base.specs.declared.stamp.Stamp.{Stamp}
use Rattle.ds_base.specs.declared.summary.Summary.{Summary}
use Rattle.ds_base.proofs.Fronts.{same_front, in_order}
use Rattle.key_select.specs.Fates.{accepted_of}
use Rattle.node_frames.specs.declared.frame.Frame.{Frame}
use Rattle.node_frames.specs.declared.frame.Frame.TheVariants.{Item}
use Rattle.key_select.specs.Wanted.{good_of}
use Rattle.summary_spec.specs.Declaration.{Declared}
use Rattle.watermarks.specs.Least.{under}
use Rattle.watermarks.proofs.Lesser.{under_earlier}
use Rattle.window_grouper.specs.Closed.{IsBound, is_closed}
use Rattle.window_grouper.specs.Groups.{groups_of}
use Rattle.window_grouper.specs.Sorted.{DiffersFromAll, StampsDiffer, by_stamp}
use Rattle.window_grouper.proofs.Covers.{precedes_time}
use Rattle.window_grouper.proofs.Insertion.{in_order-by_stamp, same-by_stamp}
use Rattle.window_grouper.proofs.Later.{closed_stay}
use Rattle.window_grouper.proofs.Passing.{at_time, parted_list, onward_late}
use Rattle.window_grouper.proofs.Shards.{shard_groups}
use Rattle.run_law.specs.Laws.{IsRun, shard_run, SendsShard, GroupsSentAreFront}
use Rattle.run_law.specs.Links.{AreLawfulBehind, ItemRule, IsItemOf, AreLawfulItems, Permits}
use Rattle.run_law.specs.Nodes.{below, summaries_taken, least_of_captures, groups_closed, GrouperKeeps}
use Rattle.run_law.specs.Sent.{item_in, items_in, of_items, bound_in, IsLeftOpen}
use Rattle.run_law.specs.Shapes.{Shape, IsCaptureOf, IsFront, is_of_shard, summaries_of_shard}
use Rattle.run_law.specs.Snapshot.{Link, Lists, Snapshot, IsInStep, file_of}
use Rattle.run_law.proofs.Bounds.{not_under, under_below}
use Rattle.run_law.proofs.Lists.{flat-append, all_in, in_right, in_left, in_either, in_filter, of_filter, in_flat, of_flat, in_below, of_below, in_permutation, front_trans, upto_front}
use Rattle.run_law.proofs.Parsed.{HasRecords, taken_or_open, put_is_accepted}
use Rattle.run_law.proofs.Standing.{stands, lawful_front, item_frame, permitted_in}

-- ---- stamps of the summaries taken

apart_numbers : (a b : Stamp) → (a.capture ≡ b.capture → a.number < b.number) → Precedes a b ⊎ Precedes b a
apart_numbers a b h = grind arith

apart_captures : (a b : Stamp) → (a.capture ≢ b.capture) → Precedes a b ⊎ Precedes b a
apart_captures a b h = grind arith

differs_in : (at : Stamp) (ss : List Summary) → ((s : Summary) → IsIn s ss → Precedes at s.at ⊎ Precedes s.at at) → DiffersFromAll at ss
differs_in at [] h = tt
differs_in at (s ∷ ss) h = (h s (inl refl), differs_in at ss (λ z l. h z (inr l)))

in_differs : (at : Stamp) (ss : List Summary) → DiffersFromAll at ss → (s : Summary) → IsIn s ss → Precedes at s.at ⊎ Precedes s.at at
in_differs at [] h s there = absurd there
in_differs at (x ∷ xs) h s (inl e) = subst (λ (z : Summary). Precedes at z.at ⊎ Precedes z.at at) (sym e) h.0
in_differs at (x ∷ xs) h s (inr l) = in_differs at xs h.1 s l

differ_joined : (xs ys : List Summary) → StampsDiffer xs → StampsDiffer ys
    → ((x y : Summary) → IsIn x xs → IsIn y ys → Precedes x.at y.at ⊎ Precedes y.at x.at) → StampsDiffer (xs ++ ys)
differ_joined [] ys h k across = k
differ_joined (x ∷ xs) ys h k across = (
  differs_in x.at (xs ++ ys) (λ s there. ⊎_elim
      (λ (l : IsIn s xs). in_differs x.at xs h.0 s l)
      (λ (r : IsIn s ys). across x s (inl refl) r)
      (in_either s xs ys there)),
  differ_joined xs ys h.1 k (λ a b l r. across a b (inr l) r),
)

-- on one link
link_differs : (Own : List Frame → Frame → Type 0) (before frames : List Frame) → AreLawfulBehind Own before frames → StampsDiffer (items_in frames)
link_differs Own before [] h = tt
link_differs Own before (f ∷ fs) h =
    differ_joined (item_in f) (items_in fs) (one f) (link_differs Own (before ++ f ∷ []) fs h.1) (across f refl)
  where
    one : (f : Frame) → StampsDiffer (item_in f)
    one (Item s) = (tt, tt)
    one f = tt

    across : (g : Frame) → g ≡ f → (x y : Summary) → IsIn x (item_in g) → IsIn y (items_in fs) → Precedes x.at y.at ⊎ Precedes y.at x.at
    across (Item s) e x y (inl same) there =
        let permitted = permitted_in Own (before ++ f ∷ []) fs (Item y) h.1 (item_frame y fs there) in
        let own : Permits (Item s) (Item y) =
        all_in (λ earlier. Permits earlier (Item y)) (Item s) (before ++ f ∷ []) permitted (in_right (Item s) before (f ∷ []) (inl e)) in
        subst (λ (z : Summary). Precedes z.at y.at ⊎ Precedes y.at z.at) (sym same) (apart_numbers s.at y.at own)
    across (Item s) e x y (inr l) there = absurd l
    across g e x y h there = absurd h

-- ---- lists in stamp order

behind_filter : (test : Summary → Bool) (at : Stamp) (ss : List Summary) → PrecedesAll at ss → PrecedesAll at (filter test ss)
behind_filter test at [] h = tt
behind_filter test at (s ∷ ss) h =
    ⊎_elim
    (λ (t : test s ≡ true). rw t (h.0, behind_filter test at ss h.1))
    (λ (f : test s ≡ false). rw f (behind_filter test at ss h.1))
    (cases_Bool (test s))

pub order_filter : (test : Summary → Bool) (ss : List Summary) → InStampOrder ss → InStampOrder (filter test ss)
order_filter test [] h = tt
order_filter test (s ∷ ss) h =
    ⊎_elim
    (λ (t : test s ≡ true). rw t (behind_filter test s.at ss h.0, order_filter test ss h.1))
    (λ (f : test s ≡ false). rw f (order_filter test ss h.1))
    (cases_Bool (test s))

-- two lists in stamp order that have the same below a bound have the same closed groups
pub closed_same : (bound : Option ℕ) (window : ℕ) (xs ys : List Summary) → InStampOrder xs → InStampOrder ys
    → ((s : Summary) → under bound s.at.time ≡ true → IsIn s xs ↔ IsIn s ys)
    → upto (is_closed (under bound) window) (groups_of window xs) ≡ upto (is_closed (under bound) window) (groups_of window ys)
closed_same bound window xs ys hx hy same =
    let p : ℕ → Bool = under bound in
    let falls : IsBound p = λ t u up h. under_earlier bound t u up h in
    let front : upto (at_time p) xs ≡ upto (at_time p) ys =
    same_front (λ (s : Summary). s.at) (at_time p) xs ys (in_order xs hx) (in_order ys hy)
    (λ a b before pass. under_earlier bound a.at.time b.at.time (precedes_time a b before) pass) same in
    of_front p window xs falls hx
    ∙ ap (λ (l : List Summary). upto (is_closed p window) (groups_of window l)) front
    ∙ sym (of_front p window ys falls hy)
  where
    of_front : (p : ℕ → Bool) (w : ℕ) (l : List Summary) → IsBound p → InStampOrder l
        → upto (is_closed p w) (groups_of w l) ≡ upto (is_closed p w) (groups_of w (upto (at_time p) l))
    of_front p w l falls h =
        ap (λ (k : List Summary). upto (is_closed p w) (groups_of w k)) (sym (parted_list (at_time p) l))
        ∙ closed_stay p w (upto (at_time p) l) (onward (at_time p) l) falls (onward_late p l falls h)

-- ---- what came on lawful links

pub item_of : (job : Declared) (shape : Shape) (p g : ℕ) (frames : List Frame) (s : Summary) → AreLawfulItems job shape p g frames → IsIn s (items_in frames) → IsItemOf job shape p g s
item_of job shape p g frames s lawful h = (stands (ItemRule job shape p g) frames (Item s) lawful (item_frame s frames h)).own

module _ (job : Declared) (shape : Shape) (g : ℕ) (taken : ℕ → List Frame) (lawful : (p : ℕ) → p < shape.parsers → AreLawfulItems job shape p g (taken p)) where
  abbrev came_on : ℕ → List Summary
  came_on p = items_in (taken p)

  all_differ : (a n : ℕ) → ((p : ℕ) → IsIn p (range_with_len a n) → p < shape.parsers) → StampsDiffer (flat_map came_on (range_with_len a n))
  all_differ a zero within = tt
  all_differ a (suc n) within =
      let here : a < shape.parsers = within a (inl refl) in
      differ_joined (came_on a) (flat_map came_on (range_with_len (a + 1) n))
      (link_differs (ItemRule job shape a g) [] (taken a) (lawful a here))
      (all_differ (a + 1) n (λ p l. within p (inr l)))
      (λ x y l r.
      let from = of_flat came_on y (range_with_len (a + 1) n) r in
      let other : from.item < shape.parsers = within from.item (inr from.there) in
      let mine : x.at.capture % shape.parsers ≡ a = (item_of job shape a g (taken a) x (lawful a here) l).capture.1 in
      let its : y.at.capture % shape.parsers ≡ from.item = (item_of job shape from.item g (taken from.item) y (lawful from.item other) from.is).capture.1 in
      let up : a + 1 ≤ from.item = (range_low (a + 1) n from.item from.there) in
      apart_captures x.at y.at (λ e. let moved : x.at.capture % shape.parsers ≡ y.at.capture % shape.parsers = ap (λ (c : ℕ). c % shape.parsers) e in
      omega (arith, mine, its, up, moved)))
    where
      range_low : (a n k : ℕ) → IsIn k (range_with_len a n) → a ≤ k
      range_low a zero k h = absurd h
      range_low a (suc n) k (inl e) = omega arith
      range_low a (suc n) k (inr l) = let r = range_low (a + 1) n k l in omega arith

  -- the summaries that were taken stand in the order of their stamps
  pub held_in_order : InStampOrder (summaries_taken shape taken)
  held_in_order = in_order-by_stamp (flat_map came_on (below shape.parsers)) (all_differ 0 shape.parsers (λ p l. of_below shape.parsers p l))

module _ (job : Declared) (files : List (List ℕ)) (shape : Shape) (start : List ℕ) (lists : Lists)
    (run : IsRun job files shape) (snap : Snapshot job files shape start lists) where
  -- ---- what groupers take

  pub step_front : (link : Link) → IsInStep link → IsFront link.taken link.put
  step_front link step = front_trans link.taken link.sent link.put step.taken step.sent

  pub items_front : (p g : ℕ) → p < shape.parsers → g < shape.groupers → IsFront (lists.items p g).taken (lists.items p g).put
  items_front p g hp hg = step_front (lists.items p g) (snap.items_step p g hp hg)

  pub items_lawful : (g : ℕ) → g < shape.groupers → (p : ℕ) → p < shape.parsers → AreLawfulItems job shape p g (lists.items p g).taken
  items_lawful g hg p hp =
      lawful_front (ItemRule job shape p g) (lists.items p g).taken (lists.items p g).put (items_front p g hp hg) ((snap.parsers p hp).lawful g hg)

  pub kept_by : (g : ℕ) → (hg : g < shape.groupers) → GrouperKeeps job shape g (λ p. (lists.items p g).taken) (λ q. (lists.groups g q).put)
  kept_by g hg = snap.groupers g hg (items_lawful g hg)

  -- the parser of a capture
  pub parser_of : (c : ℕ) → c < length job.captures → (c % shape.parsers < shape.parsers) × IsCaptureOf (length job.captures) shape (c % shape.parsers) c
  parser_of c less = let some : 0 < shape.parsers = run.shape_is.parsers in (omega arith, (less, refl))

  pub has_records : (p c : ℕ) → p < shape.parsers → IsCaptureOf (length job.captures) shape p c → HasRecords job c (lists.read c) (file_of files c)
  has_records p c hp own =
      let is_read = snap.read c own.0 in
      let first = (snap.parsers p hp).first c own is_read.front.rest in
      record { later = first.0; is = ap (λ (bytes : List ℕ). (good_of job c bytes).records) is_read.front.joined ∙ first.1 }

  item_own : (p g : ℕ) → p < shape.parsers → g < shape.groupers → (s : Summary) → IsIn s (items_in (lists.items p g).taken) → IsItemOf job shape p g s
  item_own p g hp hg s h = item_of job shape p g (lists.items p g).taken s (items_lawful g hg p hp) h

  abbrev came : ℕ → ℕ → List Summary
  came g p = items_in (lists.items p g).taken

  held_ordered : (g : ℕ) → g < shape.groupers → InStampOrder (summaries_taken shape (λ p. (lists.items p g).taken))
  held_ordered g hg = held_in_order job shape g (λ p. (lists.items p g).taken) (items_lawful g hg)

  abbrev of_all : ℕ → List Summary
  of_all g = summaries_of_shard g shape.groupers (accepted job files)

  pub accepted_ordered : InStampOrder (accepted job files)
  accepted_ordered = (accepted_is_all job files run.job_is (omega (arith, run.files_are))).0.ordered

  shard_test : ℕ → Summary → Bool
  shard_test g s = is_of_shard g shape.groupers s.key

  -- which file a number names
  pub file_there : (c : ℕ) (bytes : List ℕ) → slice_get files c ≡ Some bytes → (file_of files c ≡ bytes) × (c < length job.captures)
  file_there c bytes h =
      let within : c < length files = slice_get_within files c bytes h in
      (get_or_from_slice_get files c bytes [] h, omega (arith, run.files_are))

  there_file : (c : ℕ) → c < length job.captures → slice_get files c ≡ Some (file_of files c)
  there_file c less = let within : c < length files = omega (arith, run.files_are) in slice_get-get_or files c [] within

  -- below the bound a grouper has the accepted summaries of its shard
  taken_same : (g : ℕ) → g < shape.groupers → (s : Summary) → under (least_of_captures job shape (λ p. (lists.items p g).taken)) s.at.time ≡ true
      → IsIn s (summaries_taken shape (λ p. (lists.items p g).taken)) ↔ IsIn s (of_all g)
  taken_same g hg s pass = (to, back)
    where
      to : IsIn s (by_stamp (flat_map (came g) (below shape.parsers))) → IsIn s (of_all g)
      to h =
          let from = of_flat (came g) s (below shape.parsers)
          (in_permutation s (by_stamp (flat_map (came g) (below shape.parsers))) (flat_map (came g) (below shape.parsers))
          (IsPermutation-sym (flat_map (came g) (below shape.parsers)) (by_stamp (flat_map (came g) (below shape.parsers))) (same-by_stamp (flat_map (came g) (below shape.parsers)))) h) in
          let p : ℕ = from.item in
          let hp : p < shape.parsers = of_below shape.parsers p from.there in
          let item = item_own p g hp hg s from.is in
          let c : ℕ = s.at.capture in
          let put : IsIn s (items_in (lists.items p g).put) =
          subst (λ ss. IsIn s ss) (sym (ap items_in (items_front p g hp hg).joined ∙ flat-append item_in (lists.items p g).taken (items_front p g hp hg).rest))
          (in_left s (items_in (lists.items p g).taken) (items_in (items_front p g hp hg).rest) from.is) in
          let is = put_is_accepted job shape p g lists.read (λ k. (lists.items p k).put) (lists.counts p).put (snap.parsers p hp) hg
          c (file_of files c) (has_records p c hp item.capture) s refl item.capture put in
          in_filter (λ (z : Summary). is_of_shard g shape.groupers z.key) s (accepted job files) is.1
          ((accepted_is_all job files run.job_is (omega (arith, run.files_are))).0.every s
          (record { capture = c; bytes = file_of files c; file = there_file c item.capture.0; accepted = is.0 }))

      back : IsIn s (of_all g) → IsIn s (by_stamp (flat_map (came g) (below shape.parsers)))
      back h =
          let parts = of_filter (λ (z : Summary). is_of_shard g shape.groupers z.key) s (accepted job files) h in
          let a = (accepted_is_all job files run.job_is (omega (arith, run.files_are))).0.only s parts.0 in
          let file = file_there a.capture a.bytes a.file in
          let c : ℕ = a.capture in
          let own = parser_of c file.1 in
          let p : ℕ = c % shape.parsers in
          ⊎_elim
          (λ (here : IsIn s (items_in (lists.items p g).taken)).
          in_permutation s (flat_map (came g) (below shape.parsers)) (by_stamp (flat_map (came g) (below shape.parsers))) (same-by_stamp (flat_map (came g) (below shape.parsers)))
          (in_flat (came g) p s (below shape.parsers) (in_below shape.parsers p own.0) here))
          (λ (open_still : IsLeftOpen (of_items c) (lists.items p g).taken s.at.time).
          absurd (both_ways (under (least_of_captures job shape (λ k. (lists.items k g).taken)) s.at.time)
          (under_below (length job.captures) c (λ d. bound_in (of_items d) (lists.items (d % shape.parsers) g).taken) s.at.time file.1
          (not_under (of_items c) (lists.items p g).taken s.at.time open_still)) pass))
          (taken_or_open job shape p g lists.read (λ k. (lists.items p k).put) (lists.counts p).put (snap.parsers p own.0) hg
          (lists.items p g).taken c (file_of files c) (has_records p c own.0 own.1) s (items_front p g own.0 hg) (snap.read c file.1) own.1
          (subst (λ bytes. IsIn s (accepted_of job c (good_of job c bytes).records)) (sym file.0) a.accepted) parts.1)

  -- ---- what they send

  -- the closed groups are those of the shard
  pub closed_of_shard : (g : ℕ) → g < shape.groupers
      → groups_closed job shape (λ p. (lists.items p g).taken)
      ≡ upto (is_closed (under (least_of_captures job shape (λ p. (lists.items p g).taken))) job.window) (shard_run job files g shape.groupers)
  closed_of_shard g hg =
      closed_same (least_of_captures job shape (λ p. (lists.items p g).taken)) job.window
      (summaries_taken shape (λ p. (lists.items p g).taken)) (of_all g)
      (held_ordered g hg) (order_filter (λ (s : Summary). is_of_shard g shape.groupers s.key) (accepted job files) accepted_ordered) (taken_same g hg)
      ∙ ap (upto (is_closed (under (least_of_captures job shape (λ p. (lists.items p g).taken))) job.window))
      (shard_groups (is_of_shard g shape.groupers) job.window (accepted job files))

  pub closed_front : (g : ℕ) → g < shape.groupers → IsFront (groups_closed job shape (λ p. (lists.items p g).taken)) (shard_run job files g shape.groupers)
  closed_front g hg =
      subst (λ xs. IsFront xs (shard_run job files g shape.groupers)) (sym (closed_of_shard g hg))
      (upto_front (is_closed (under (least_of_captures job shape (λ p. (lists.items p g).taken))) job.window) (shard_run job files g shape.groupers))

  pub sends_shard : (g : ℕ) → g < shape.groupers → SendsShard job files shape lists g
  sends_shard g hg =
      let kept = kept_by g hg in
      record {
        sent = kept.sent;
        all = kept.in_turn;
        front = front_trans kept.sent (groups_closed job shape (λ p. (lists.items p g).taken)) (shard_run job files g shape.groupers) kept.closed (closed_front g hg);
      }

pub groups_sent_are_front : GroupsSentAreFront
groups_sent_are_front job files shape start lists run snap g hg = sends_shard job files shape start lists run snap g hg
