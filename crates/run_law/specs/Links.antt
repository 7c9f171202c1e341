-- What may stand on each kind of link.
use Rattle.std.specs.Prelude.{ℕ, ◌≡◌, ◌≢◌, ◌<◌, ◌≤◌, ◌+◌, ◌*◌, ◌^◌, true, List, [], ◌∷◌, ◌++◌, Option, Some, None, length, sum, sum_by}
use Rattle.std.specs.List.{AllByRecursion}
use Rattle.answer_text.specs.Lines.{IsNamedIn}
use Rattle.ds_base.specs.Fronts.{IsIn}
use Rattle.ds_base.specs.Keys.{key_of, shard_of}
use Rattle.ds_base.specs.Order.{Precedes}
use Rattle.ds_base.specs.Times.{hour}
use Rattle.ds_base.specs.declared.capture.Counts.{Counts}
use Rattle.ds_base.specs.declared.profile_row.ProfileRow.{ProfileRow}
use Rattle.ds_base.specs.declared.stamp.Stamp.{Stamp}
use Rattle.ds_base.specs.declared.summary.Summary.{Summary}
use Rattle.ds_base.specs.declared.verdict.Answer.{Answer}
use Rattle.node_frames.specs.declared.frame.Frame.{Frame}
use Rattle.node_frames.specs.declared.frame.Frame.TheVariants.{Item, Mark, CaptureEnd, GroupHead, Member, GroupMark, AnswerRow, Profile, CountsRow, Finish}
use Rattle.profiles.specs.Rows.{PairPrecedes}
use Rattle.summary_spec.specs.Declaration.{Declared}
use Rattle.run_law.specs.Sent.{Begun, begun_in}
use Rattle.run_law.specs.Shapes.{Shape, IsCaptureOf}

-- ---- what a frame leaves room for

-- the earlier frame permits the later one behind it
abbrev pub Permits : (earlier later : Frame) → Type 0
Permits Finish later = ⊥
Permits (Item s) (Item t) = s.at.capture ≡ t.at.capture → s.at.number < t.at.number
Permits (Mark c mark) (Item s) = c ≡ s.at.capture → mark ≤ s.at.time
Permits (Mark c mark) (Mark d next) = c ≡ d → mark ≤ next
Permits (CaptureEnd c) (Item s) = c ≢ s.at.capture
Permits (CaptureEnd c) (Mark d mark) = c ≢ d
Permits (CaptureEnd c) (CaptureEnd d) = c ≢ d
Permits (CountsRow c counts) (CountsRow d others) = c ≢ d
Permits (GroupHead first members key) (GroupHead next others other) = Precedes first next
Permits (GroupMark mark) (GroupHead first members key) = mark ≤ first.time
Permits (GroupMark mark) (AnswerRow a) = mark ≤ a.first.time
Permits (GroupMark mark) (GroupMark next) = mark ≤ next
Permits (Profile row) (AnswerRow a) = ⊥
Permits (Profile row) (GroupMark mark) = ⊥
Permits (Profile row) (Profile next) = PairPrecedes row next
Permits _ _ = Unit {0}

-- the frame may stand behind these: it is lawful there for its own part, and all of them permit it
pub record MayFollow (Own : List Frame → Frame → Type 0) (before : List Frame) (frame : Frame) : Type 0 where
  pub own : Own before frame
  pub permitted : AllByRecursion (λ earlier. Permits earlier frame) before

-- each of the frames may stand behind these and those before it
abbrev pub AreLawfulBehind : (List Frame → Frame → Type 0) → List Frame → List Frame → Type 0
AreLawfulBehind Own before [] = Unit {0}
AreLawfulBehind Own before (frame ∷ frames) = MayFollow Own before frame × AreLawfulBehind Own (before ++ frame ∷ []) frames

-- each of the frames may stand where it stands
abbrev pub AreLawful : (List Frame → Frame → Type 0) → List Frame → Type 0
AreLawful Own frames = AreLawfulBehind Own [] frames

-- ---- numbers in their ranges

abbrev pub IsTime : ℕ → Type 0
IsTime time = time < 2 ^ 63

pub record IsStampOf (job : Declared) (at : Stamp) : Type 0 where
  pub time : IsTime at.time
  pub capture : at.capture < length job.captures
  pub number : at.number < 2 ^ 40

pub record IsItemOf (job : Declared) (shape : Shape) (parser grouper : ℕ) (s : Summary) : Type 0 where
  pub stamp : IsStampOf job s.at
  pub capture : IsCaptureOf (length job.captures) shape parser s.at.capture
  pub values : length s.vals ≡ length job.vars
  pub key : s.key ≡ key_of job.key s.vals
  pub shard : shard_of s.key shape.groupers ≡ grouper

pub record AreCounts (counts : Counts) : Type 0 where
  pub few : counts.records ≤ 2 ^ 40
  pub parts : counts.records ≡ counts.unmatched + counts.late + counts.accepted

pub record IsAnswerOf (job : Declared) (a : Answer) : Type 0 where
  pub stamp : IsStampOf job a.first
  pub key : length a.key ≡ length job.key
  pub filled : 1 ≤ a.members
  pub named : IsNamedIn (length job.captures) a.verdict

pub record IsRowOf (job : Declared) (row : ProfileRow) : Type 0 where
  pub asked : job.profile ≡ true
  pub from : row.from < length job.captures
  pub to : row.to < length job.captures
  pub some : 1 ≤ row.count
  pub few : row.count ≤ 2 ^ 50
  pub classes : row.count ≡ sum row.classes
  pub least : row.least ≤ row.greatest
  pub greatest : row.greatest ≤ hour
  pub sum_within : row.sum ≤ row.count * row.greatest

-- ---- parser to grouper

-- the end of the capture came
abbrev pub HasEnded : (capture : ℕ) → List Frame → Type 0
HasEnded capture before = IsIn (CaptureEnd capture) before

abbrev pub ItemRule : Declared → Shape → (parser grouper : ℕ) → List Frame → Frame → Type 0
ItemRule job shape parser grouper before (Item s) = IsItemOf job shape parser grouper s
ItemRule job shape parser grouper before (Mark c mark) = IsCaptureOf (length job.captures) shape parser c × IsTime mark
ItemRule job shape parser grouper before (CaptureEnd c) = IsCaptureOf (length job.captures) shape parser c
ItemRule job shape parser grouper before Finish = (c : ℕ) → IsCaptureOf (length job.captures) shape parser c → HasEnded c before
ItemRule job shape parser grouper before _ = ⊥

-- ---- parser to merge

-- the row of the capture came
abbrev pub HasRow : (capture : ℕ) → List Frame → Type 0
HasRow capture before = (counts : Counts) × IsIn (CountsRow capture counts) before

abbrev pub CountsRule : Declared → Shape → (parser : ℕ) → List Frame → Frame → Type 0
CountsRule job shape parser before (CountsRow c counts) = IsCaptureOf (length job.captures) shape parser c × AreCounts counts
CountsRule job shape parser before Finish = (c : ℕ) → IsCaptureOf (length job.captures) shape parser c → HasRow c before
CountsRule job shape parser before _ = ⊥

-- ---- grouper to processor

-- how many members the heads have announced
abbrev pub members_of : Frame → ℕ
members_of (GroupHead first members key) = members
members_of _ = 0

abbrev pub members_announced : List Frame → ℕ
members_announced frames = sum_by members_of frames

-- no group is begun
abbrev pub NoneBegun : Option Begun → Type 0
NoneBegun begun = begun ≡ None

-- the stamp is that of the head for the first member, and behind the earlier members for any other
abbrev pub IsNextStamp : Stamp → List Summary → Stamp → Type 0
IsNextStamp first [] at = at ≡ first
IsNextStamp first (m ∷ ms) at = AllByRecursion (λ earlier. Precedes earlier.at at) (m ∷ ms)

pub record IsMemberOf (job : Declared) (b : Begun) (at : Stamp) (vals : List ℕ) : Type 0 where
  pub stamp : IsStampOf job at
  pub next : IsNextStamp b.first b.members at
  pub within : at.time ≤ b.first.time + job.window
  pub values : length vals ≡ length job.vars
  pub key : b.key ≡ key_of job.key vals

abbrev pub IsNextMember : Declared → Option Begun → Stamp → List ℕ → Type 0
IsNextMember job None at vals = ⊥
IsNextMember job (Some b) at vals = IsMemberOf job b at vals

pub record IsHead (job : Declared) (before : List Frame) (first : Stamp) (members : ℕ) (key : List ℕ) : Type 0 where
  pub stamp : IsStampOf job first
  pub key_length : length key ≡ length job.key
  pub filled : 1 ≤ members
  pub few : members_announced before + members ≤ 2 ^ 46

abbrev pub GroupRule : Declared → List Frame → Frame → Type 0
GroupRule job before (GroupHead first members key) = NoneBegun (begun_in before) × IsHead job before first members key
GroupRule job before (Member at vals) = IsNextMember job (begun_in before) at vals
GroupRule job before (GroupMark mark) = NoneBegun (begun_in before) × IsTime mark
GroupRule job before Finish = NoneBegun (begun_in before)
GroupRule job before _ = ⊥

-- ---- processor to merge

-- how many members the answers tell of
abbrev pub members_told : Frame → ℕ
members_told (AnswerRow a) = a.members
members_told _ = 0

abbrev pub members_answered : List Frame → ℕ
members_answered frames = sum_by members_told frames

abbrev pub AnswerRule : Declared → List Frame → Frame → Type 0
AnswerRule job before (AnswerRow a) = IsAnswerOf job a × (members_answered before + a.members ≤ 2 ^ 50)
AnswerRule job before (GroupMark mark) = IsTime mark
AnswerRule job before (Profile row) = IsRowOf job row
AnswerRule job before Finish = Unit {0}
AnswerRule job before _ = ⊥

-- ---- the four kinds of link

abbrev pub AreLawfulItems : Declared → Shape → (parser grouper : ℕ) → List Frame → Type 0
AreLawfulItems job shape parser grouper frames = AreLawful (ItemRule job shape parser grouper) frames

abbrev pub AreLawfulCounts : Declared → Shape → (parser : ℕ) → List Frame → Type 0
AreLawfulCounts job shape parser frames = AreLawful (CountsRule job shape parser) frames

abbrev pub AreLawfulGroups : Declared → List Frame → Type 0
AreLawfulGroups job frames = AreLawful (GroupRule job) frames

abbrev pub AreLawfulAnswers : Declared → List Frame → Type 0
AreLawfulAnswers job frames = AreLawful (AnswerRule job) frames
