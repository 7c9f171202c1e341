-- The rows of the links at the end of a run.
use Rattle.std.proofs.Common.{ℕ, zero, suc, Bool, true, false, List, [], ◌∷◌, ◌++◌, ◌≡◌, ◌<◌, ◌≤◌, ◌+◌, ◌%◌, inl, inr, refl, sym, ap, subst, ◌∙◌, ⊎_elim, arith, length, length-append}
use Rattle.std.specs.Prelude.{filter, flat_map, ◌==◌}
use Rattle.std.specs.List.{range_with_len}
use Rattle.std.proofs.lemmas.Bool.{cases_Bool, eqb-true}
use Rattle.central_report.specs.Report.{accepted}
use Rattle.central_report.proofs.Membership.{accepted_is_all}
use Rattle.ds_base.specs.Fronts.{IsIn}
use Rattle.ds_base.specs.Order.{Precedes, InStampOrder}
use Rattle.ds_base.specs.declared.summary.Summary.{Summary}
use Rattle.key_select.specs.Fates.{accepted_of}
use Rattle.node_frames.specs.declared.frame.Frame.{Frame}
use Rattle.node_frames.specs.declared.frame.Frame.TheVariants.{Item, Mark, CaptureEnd, GroupHead, Member, GroupMark, AnswerRow, Profile, CountsRow, Finish}
use Rattle.key_select.specs.Wanted.{good_of}
use Rattle.summary_spec.specs.Declaration.{Declared}
use Rattle.window_grouper.proofs.Stamps.{not_both_ways}
use Rattle.run_law.specs.Laws.{IsRun, IsRowOfDone, RowsAreLawful, captures_of, accepted_between}
use Rattle.run_law.specs.Links.{ItemRule}
use Rattle.run_law.specs.Nodes.{below}
use Rattle.run_law.specs.Sent.{item_in, items_in, of_items, MayCome, IsLeftOpen}
use Rattle.run_law.specs.Shapes.{Shape, IsCaptureOf, is_of_shard, summaries_of_shard}
use Rattle.run_law.specs.Snapshot.{Link, Lists, Snapshot, AreDone, IsSettled, file_of}
use Rattle.run_law.proofs.Ended.{items_settled, counts_settled, groups_settled, answers_settled}
use Rattle.run_law.proofs.Joining.{precedes_all_in}
use Rattle.run_law.proofs.Lists.{all_in, in_left, in_right, in_either, of_filter, in_front, of_below, in_flat}
use Rattle.run_law.proofs.Parsed.{of_one_capture, taken_or_open}
use Rattle.run_law.proofs.Sharded.{items_front, items_lawful, has_records, accepted_ordered, file_there, order_filter}
use Rattle.run_law.proofs.Standing.{stands}

-- ---- lists without repeats

abbrev pub AreDifferent : {X : Type 0} → List X → Type 0
AreDifferent [] = Unit {0}
AreDifferent (x ∷ xs) = (IsIn x xs → ⊥) × AreDifferent xs

-- a list around one of its items
record Around {X : Type 0} (x : X) (ys : List X) : Type 0 where
  before : List X
  after : List X
  joined : ys ≡ before ++ x ∷ after

around : {X : Type 0} (x : X) (ys : List X) → IsIn x ys → Around x ys
around x [] h = absurd h
around {X} x (y ∷ ys) (inl e) = record { before = []; after = ys; joined = ap (λ (z : X). z ∷ ys) (sym e) }
around {X} x (y ∷ ys) (inr l) = let a = around x ys l in record { before = y ∷ a.before; after = a.after; joined = ap (λ (zs : List X). y ∷ zs) a.joined }

-- a list without repeats whose items are all in another is no longer
few_within : {X : Type 0} (xs ys : List X) → AreDifferent xs → ((z : X) → IsIn z xs → IsIn z ys) → length xs ≤ length ys
few_within [] ys h within = omega arith
few_within {X} (x ∷ xs) ys h within =
    let a = around x ys (within x (inl refl)) in
    let rest : length xs ≤ length (a.before ++ a.after) = few_within xs (a.before ++ a.after) h.1 (λ z l. elsewhere a z l) in
    let long : length ys ≡ length (a.before ++ x ∷ a.after) = ap length a.joined in
    omega (arith, rest, long, length-append a.before a.after, length-append a.before (x ∷ a.after))
  where
    elsewhere : (a : Around x ys) (z : X) → IsIn z xs → IsIn z (a.before ++ a.after)
    elsewhere a z l =
        ⊎_elim
        (λ (early : IsIn z a.before). in_left z a.before a.after early)
        (λ (late : IsIn z (x ∷ a.after)). by_place a z l late)
        (in_either z a.before (x ∷ a.after) (subst (λ zs. IsIn z zs) a.joined (within z (inr l))))
      where
        by_place : (a : Around x ys) (z : X) → IsIn z xs → IsIn z (x ∷ a.after) → IsIn z (a.before ++ a.after)
        by_place a z l (inl e) = absurd (h.0 (subst (λ (w : X). IsIn w xs) e l))
        by_place a z l (inr late) = in_right z a.before a.after late

-- summaries in stamp order
different_ordered : (ss : List Summary) → InStampOrder ss → AreDifferent ss
different_ordered [] h = tt
different_ordered (s ∷ ss) h = (
  (λ there. let itself : Precedes s.at s.at = precedes_all_in s.at ss s h.0 there in not_both_ways s.at s.at itself itself),
  different_ordered ss h.1,
)

-- numbers that pass a test
range_up : (a n k : ℕ) → IsIn k (range_with_len a n) → a ≤ k
range_up a zero k h = absurd h
range_up a (suc n) k (inl e) = omega arith
range_up a (suc n) k (inr l) = let r = range_up (a + 1) n k l in omega arith

pub different_range : (test : ℕ → Bool) (a n : ℕ) → AreDifferent (filter test (range_with_len a n))
different_range test a zero = tt
different_range test a (suc n) =
    ⊎_elim
    (λ (t : test a ≡ true).
    rw t ((λ there. let r : a + 1 ≤ a = range_up (a + 1) n a (of_filter test a (range_with_len (a + 1) n) there).0 in omega arith), different_range test (a + 1) n))
    (λ (f : test a ≡ false). rw f (different_range test (a + 1) n))
    (cases_Bool (test a))

-- ---- the frames from a parser to a grouper

abbrev end_in : Frame → List ℕ
end_in (CaptureEnd c) = c ∷ []
end_in _ = []

abbrev finish_in : Frame → List ℕ
finish_in Finish = 0 ∷ []
finish_in _ = []

one_each : (f : Frame) → length (item_in f) + length (end_in f) + length (finish_in f) ≤ 1
one_each (Item s) = omega arith
one_each (Mark c m) = omega arith
one_each (CaptureEnd c) = omega arith
one_each (GroupHead first members key) = omega arith
one_each (Member at vals) = omega arith
one_each (GroupMark m) = omega arith
one_each (AnswerRow a) = omega arith
one_each (Profile row) = omega arith
one_each (CountsRow c k) = omega arith
one_each Finish = omega arith

counted_once : (fs : List Frame) → length (items_in fs) + length (flat_map end_in fs) + length (flat_map finish_in fs) ≤ length fs
counted_once [] = omega arith
counted_once (f ∷ fs) =
    omega (
      arith,
      one_each f,
      counted_once fs,
      length-append (item_in f) (items_in fs),
      length-append (end_in f) (flat_map end_in fs),
      length-append (finish_in f) (flat_map finish_in fs),
    )

some_in : {X : Type 0} (x : X) (xs : List X) → IsIn x xs → 1 ≤ length xs
some_in x [] h = absurd h
some_in x (y ∷ ys) h = omega arith

row_done : (link : Link) → IsSettled link → IsIn Finish link.taken → IsRowOfDone link
row_done link s end =
    let same : length link.sent ≡ length link.taken = ap length (sym s.taken) in
    record { same = same; some = omega (arith, same, some_in Finish link.taken end) }

module _ (job : Declared) (files : List (List ℕ)) (shape : Shape) (start : List ℕ) (lists : Lists)
    (run : IsRun job files shape) (snap : Snapshot job files shape start lists) (done : AreDone job shape start lists) where
  -- each accepted summary of the shard came
  all_came : (p g : ℕ) → (hp : p < shape.parsers) → (hg : g < shape.groupers) → (s : Summary) → IsIn s (accepted_between job files shape p g)
      → IsIn s (items_in (lists.items p g).taken)
  all_came p g hp hg s h =
      let outer = of_filter (λ (z : Summary). z.at.capture % shape.parsers == p) s (summaries_of_shard g shape.groupers (accepted job files)) h in
      let inner = of_filter (λ (z : Summary). is_of_shard g shape.groupers z.key) s (accepted job files) outer.0 in
      let a = (accepted_is_all job files run.job_is (omega (arith, run.files_are))).0.only s inner.0 in
      let file = file_there job files shape start lists run snap a.capture a.bytes a.file in
      let c : ℕ = a.capture in
      let mine : s.at.capture ≡ c = of_one_capture job c (good_of job c a.bytes).records s a.accepted in
      let own : IsCaptureOf (length job.captures) shape p c =
      (file.1, ap (λ (n : ℕ). n % shape.parsers) (sym mine) ∙ eqb-true (s.at.capture % shape.parsers) p outer.1) in
      ⊎_elim
      (λ (here : IsIn s (items_in (lists.items p g).taken)). here)
      (λ (o : IsLeftOpen (of_items c) (lists.items p g).taken s.at.time).
      absurd (all_in (λ f. MayCome (of_items c f) s.at.time) Finish (lists.items p g).taken o (done.items p g hp hg)))
      (taken_or_open job shape p g lists.read (λ k. (lists.items p k).put) (lists.counts p).put (snap.parsers p hp) hg
      (lists.items p g).taken c (file_of files c) (has_records job files shape start lists run snap p c hp own) s
      (items_front job files shape start lists run snap p g hp hg) (snap.read c file.1) own
      (subst (λ bytes. IsIn s (accepted_of job c (good_of job c bytes).records)) (sym file.0) a.accepted) inner.1)

  -- each capture's end came
  all_ends : (p g : ℕ) → (hp : p < shape.parsers) → (hg : g < shape.groupers) → (c : ℕ) → IsIn c (captures_of job shape p)
      → IsIn c (flat_map end_in (lists.items p g).taken)
  all_ends p g hp hg c h =
      let parts = of_filter (λ (k : ℕ). k % shape.parsers == p) c (below (length job.captures)) h in
      let own : IsCaptureOf (length job.captures) shape p c = (of_below (length job.captures) c parts.0, eqb-true (c % shape.parsers) p parts.1) in
      let end = stands (ItemRule job shape p g) (lists.items p g).taken Finish (items_lawful job files shape start lists run snap g hg p hp) (done.items p g hp hg) in
      in_flat end_in (CaptureEnd c) c (lists.items p g).taken (in_front (CaptureEnd c) end.before (lists.items p g).taken end.front (end.own c own)) (inl refl)

  least_row : (p g : ℕ) → p < shape.parsers → g < shape.groupers
      → length (accepted_between job files shape p g) + length (captures_of job shape p) + 1 ≤ length (lists.items p g).sent
  least_row p g hp hg =
      let taken : List Frame = (lists.items p g).taken in
      let ordered = accepted_ordered job files shape start lists run snap in
      let items : length (accepted_between job files shape p g) ≤ length (items_in taken) =
      few_within (accepted_between job files shape p g) (items_in taken)
      (different_ordered (accepted_between job files shape p g)
      (order_filter (λ (s : Summary). s.at.capture % shape.parsers == p) (summaries_of_shard g shape.groupers (accepted job files))
      (order_filter (λ (s : Summary). is_of_shard g shape.groupers s.key) (accepted job files) ordered)))
      (all_came p g hp hg) in
      let ends : length (captures_of job shape p) ≤ length (flat_map end_in taken) =
      few_within (captures_of job shape p) (flat_map end_in taken)
      (different_range (λ (c : ℕ). c % shape.parsers == p) 0 (length job.captures)) (all_ends p g hp hg) in
      let end : 1 ≤ length (flat_map finish_in taken) =
      some_in 0 (flat_map finish_in taken) (in_flat finish_in Finish 0 taken (done.items p g hp hg) (inl refl)) in
      let same : length taken ≡ length (lists.items p g).sent = ap length (items_settled job files shape start lists run snap done p g hp hg).taken in
      omega (arith, items, ends, end, same, counted_once taken)

pub rows_are_lawful : RowsAreLawful
rows_are_lawful job files shape start lists run snap done = record {
  items = λ p g hp hg. row_done (lists.items p g) (items_settled job files shape start lists run snap done p g hp hg) (done.items p g hp hg);
  counts = λ p hp. row_done (lists.counts p) (counts_settled job files shape start lists run snap done p hp) (done.counts p hp);
  groups = λ g q hg hq. row_done (lists.groups g q) (groups_settled job files shape start lists run snap done g q hg hq) (done.groups g q hg hq);
  answers = λ q hq. row_done (lists.answers q) (answers_settled job files shape start lists run snap done q hq) (done.answers q hq);
  least = least_row job files shape start lists run snap done;
}
