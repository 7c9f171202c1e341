-- How many frames of each kind a node offers on a link, by what it has taken up.
use Rattle.std.specs.Prelude.{ℕ, ◌≤◌, ◌||◌, ◌⊎◌, not, Bool, true, false, All}
use Rattle.std.specs.List.{sum_by, count_by}
use Rattle.node_frames.specs.declared.frame.Frame.{Frame}
use Rattle.node_frames.specs.declared.frame.Frame.TheVariants.{Item, Mark, CaptureEnd, GroupHead, Member, GroupMark, AnswerRow}
use Rattle.round_law.specs.Links.{Sender, Receiver, is_finish}
use Rattle.round_law.specs.Waits.{Node}
use Rattle.round_law.specs.Rows.{frames_beside, OffersFew}

-- ---- kinds of frame

abbrev pub is_item : Frame → Bool
is_item (Item s) = true
is_item _ = false

abbrev pub is_mark : Frame → Bool
is_mark (Mark capture mark) = true
is_mark _ = false

abbrev pub is_capture_end : Frame → Bool
is_capture_end (CaptureEnd capture) = true
is_capture_end _ = false

abbrev pub is_group_head : Frame → Bool
is_group_head (GroupHead first members key) = true
is_group_head _ = false

abbrev pub is_member : Frame → Bool
is_member (Member at vals) = true
is_member _ = false

abbrev pub is_group_mark : Frame → Bool
is_group_mark (GroupMark mark) = true
is_group_mark _ = false

abbrev pub is_answer : Frame → Bool
is_answer (AnswerRow a) = true
is_answer _ = false

-- how many frames that pass a test a node has taken on all its links in
abbrev pub count_taken : (Frame → Bool) → Node → ℕ
count_taken test node = sum_by (λ (r : Receiver). count_by test r.given) node.ins

-- ---- what each kind of node offers on one link

-- a parser: at most one Item and one Mark for each record
pub record ParserOffers (node : Node) (s : Sender) : Type 0 where
  pub items : count_by is_item s.offered ≤ node.records
  pub marks : count_by is_mark s.offered ≤ node.records
  pub others : count_by (λ f. not (is_item f || is_mark f)) s.offered ≤ frames_beside

-- a grouper: at most one head of a group and one member for each Item, and one GroupMark for each Mark or CaptureEnd
pub record GrouperOffers (node : Node) (s : Sender) : Type 0 where
  pub heads : count_by is_group_head s.offered ≤ count_taken is_item node
  pub members : count_by is_member s.offered ≤ count_taken is_item node
  pub marks : count_by is_group_mark s.offered ≤ count_taken (λ f. is_mark f || is_capture_end f) node
  pub others : count_by (λ f. not (is_group_head f || is_member f || is_group_mark f)) s.offered ≤ frames_beside

-- a processor: at most one answer for each head of a group, and one GroupMark for each GroupMark or Finish
pub record ProcessorOffers (node : Node) (s : Sender) : Type 0 where
  pub answers : count_by is_answer s.offered ≤ count_taken is_group_head node
  pub marks : count_by is_group_mark s.offered ≤ count_taken (λ f. is_group_mark f || is_finish f) node
  pub others : count_by (λ f. not (is_answer f || is_group_mark f)) s.offered ≤ frames_beside

-- a node of each kind offers few frames
abbrev pub KindsAreFew : Node → Type 0
KindsAreFew node = All (ParserOffers node) node.outs ⊎ (All (GrouperOffers node) node.outs ⊎ All (ProcessorOffers node) node.outs) → OffersFew node
