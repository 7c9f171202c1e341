-- The frames that a node offers, counted by their kinds.
use Rattle.std.proofs.Common.{ℕ, ◌+◌, ◌*◌, ◌≤◌, Bool, true, false, cond, List, [], ◌∷◌, length, inl, inr, arith}
use Rattle.std.specs.Prelude.{◌||◌, not, slice_index_or}
use Rattle.std.specs.List.{sum_by, count_by}
use Rattle.std.proofs.lemmas.List.Sums.{sum_by-cons}
use Rattle.node_frames.specs.declared.frame.Frame.{Frame}
use Rattle.node_frames.specs.declared.frame.Frame.TheVariants.{Item, Mark, CaptureEnd, GroupHead, Member, GroupMark, AnswerRow, Profile, CountsRow, Finish}
use Rattle.round_law.specs.Links.{Sender, Receiver, is_finish}
use Rattle.round_law.specs.Waits.{Node}
use Rattle.round_law.specs.Rows.{taken_up, frames_beside}
use Rattle.round_law.specs.Offers.{is_item, is_mark, is_capture_end, is_group_head, is_member, is_group_mark, is_answer, ParserOffers, GrouperOffers, ProcessorOffers, KindsAreFew}

abbrev one_if : Bool → ℕ
one_if b = cond b 1 0

-- ---- tests that cover all, and tests of which none passes with another

covers_two : (a b : Bool) → 1 ≤ one_if a + one_if b + one_if (not (a || b))
covers_two true b = omega arith
covers_two false true = omega arith
covers_two false false = omega arith

covers_three : (a b c : Bool) → 1 ≤ one_if a + one_if b + one_if c + one_if (not (a || b || c))
covers_three true b c = omega arith
covers_three false true c = omega arith
covers_three false false true = omega arith
covers_three false false false = omega arith

module _ (p q : Frame → Bool) where
  count_two : (fs : List Frame) → length fs ≤ count_by p fs + count_by q fs + count_by (λ f. not (p f || q f)) fs
  count_two [] = omega arith
  count_two (f ∷ fs) =
      omega (arith, count_two fs, covers_two (p f) (q f), sum_by-cons (λ g. one_if (p g)) f fs, sum_by-cons (λ g. one_if (q g)) f fs, sum_by-cons (λ g. one_if (not (p g || q g))) f fs)

  -- where no frame passes both
  apart : ((f : Frame) → one_if (p f) + one_if (q f) ≤ 1) → (fs : List Frame) → count_by p fs + count_by q fs ≤ length fs
  apart each [] = omega arith
  apart each (f ∷ fs) =
      omega (arith, apart each fs, each f, sum_by-cons (λ g. one_if (p g)) f fs, sum_by-cons (λ g. one_if (q g)) f fs)

  all_apart : ((f : Frame) → one_if (p f) + one_if (q f) ≤ 1) → (rs : List Receiver)
      → sum_by (λ (r : Receiver). count_by p r.given) rs + sum_by (λ (r : Receiver). count_by q r.given) rs ≤ sum_by (λ (r : Receiver). length r.given) rs
  all_apart each [] = omega arith
  all_apart each (r ∷ rs) =
      omega (
        arith,
        all_apart each rs,
        apart each r.given,
        sum_by-cons (λ (r : Receiver). count_by p r.given) r rs,
        sum_by-cons (λ (r : Receiver). count_by q r.given) r rs,
        sum_by-cons (λ (r : Receiver). length r.given) r rs,
      )

count_three : (p q t : Frame → Bool) (fs : List Frame) → length fs ≤ count_by p fs + count_by q fs + count_by t fs + count_by (λ f. not (p f || q f || t f)) fs
count_three p q t [] = omega arith
count_three p q t (f ∷ fs) =
    omega (
      arith,
      count_three p q t fs,
      covers_three (p f) (q f) (t f),
      sum_by-cons (λ g. one_if (p g)) f fs,
      sum_by-cons (λ g. one_if (q g)) f fs,
      sum_by-cons (λ g. one_if (t g)) f fs,
      sum_by-cons (λ g. one_if (not (p g || q g || t g))) f fs,
    )

-- ---- the tests of nodes

items_apart : (f : Frame) → one_if (is_item f) + one_if (is_mark f || is_capture_end f) ≤ 1
items_apart (Item s) = omega arith
items_apart (Mark capture mark) = omega arith
items_apart (CaptureEnd capture) = omega arith
items_apart (GroupHead first members key) = omega arith
items_apart (Member at vals) = omega arith
items_apart (GroupMark mark) = omega arith
items_apart (AnswerRow a) = omega arith
items_apart (Profile p) = omega arith
items_apart (CountsRow capture counts) = omega arith
items_apart Finish = omega arith

heads_apart : (f : Frame) → one_if (is_group_head f) + one_if (is_group_mark f || is_finish f) ≤ 1
heads_apart (Item s) = omega arith
heads_apart (Mark capture mark) = omega arith
heads_apart (CaptureEnd capture) = omega arith
heads_apart (GroupHead first members key) = omega arith
heads_apart (Member at vals) = omega arith
heads_apart (GroupMark mark) = omega arith
heads_apart (AnswerRow a) = omega arith
heads_apart (Profile p) = omega arith
heads_apart (CountsRow capture counts) = omega arith
heads_apart Finish = omega arith

-- ---- one link

parser_offers : (node : Node) (s : Sender) → ParserOffers node s → length s.offered ≤ 2 * taken_up node + frames_beside
parser_offers node s offers =
    let items = offers.items in
    let marks = offers.marks in
    let others = offers.others in
    omega (arith, count_two is_item is_mark s.offered)

grouper_offers : (node : Node) (s : Sender) → GrouperOffers node s → length s.offered ≤ 2 * taken_up node + frames_beside
grouper_offers node s offers =
    let heads = offers.heads in
    let members = offers.members in
    let marks = offers.marks in
    let others = offers.others in
    omega (arith, count_three is_group_head is_member is_group_mark s.offered, all_apart is_item (λ f. is_mark f || is_capture_end f) items_apart node.ins)

processor_offers : (node : Node) (s : Sender) → ProcessorOffers node s → length s.offered ≤ 2 * taken_up node + frames_beside
processor_offers node s offers =
    let answers = offers.answers in
    let marks = offers.marks in
    let others = offers.others in
    omega (arith, count_two is_answer is_group_mark s.offered, all_apart is_group_head (λ f. is_group_mark f || is_finish f) heads_apart node.ins)

pub kinds_are_few : (node : Node) → KindsAreFew node
kinds_are_few node (inl all) = λ k d less. parser_offers node (slice_index_or node.outs k d) (all k d less)
kinds_are_few node (inr (inl all)) = λ k d less. grouper_offers node (slice_index_or node.outs k d) (all k d less)
kinds_are_few node (inr (inr all)) = λ k d less. processor_offers node (slice_index_or node.outs k d) (all k d less)
