-- The start of a run.
use Rattle.std.proofs.Common.{ℕ, List, [], refl, sym, arith}
use Rattle.std.proofs.lemmas.List.{append-nil}
use Rattle.node_frames.specs.declared.frame.Frame.{Frame}
use Rattle.key_select.specs.Wanted.{good_of}
use Rattle.summary_spec.specs.Declaration.{Declared}
use Rattle.run_law.specs.Laws.{StartIsMarked, StartIsSnapshot}
use Rattle.run_law.specs.Nodes.{ParserKeeps, GrouperKeeps, ProcessorKeeps, MergeKeeps, groups_closed, lines_due}
use Rattle.run_law.specs.Shapes.{Shape, IsFront}
use Rattle.run_law.specs.Snapshot.{IsInStep, empty_link, unread, file_of}

-- nothing is a front of every list
pub none_front : {X : Type 0} (xs : List X) → IsFront [] xs
none_front xs = record { rest = xs; joined = refl }

-- what was put, sent or taken: nothing
abbrev nothing : ℕ → List Frame
nothing i = []

in_step : IsInStep empty_link
in_step = record { sent = none_front []; taken = none_front [] }

parser_starts : (job : Declared) (shape : Shape) (p : ℕ) → ParserKeeps job shape p (λ c. unread) nothing []
parser_starts job shape p = record {
  lawful = λ g less. tt;
  lawful_counts = tt;
  first = λ c own more. ((good_of job c more).records, refl);
  summaries = λ g c less own. refl;
  marks = λ g c mark less h. absurd h;
  ends = λ g c less h. absurd h;
  rows = λ c k h. absurd h;
}

grouper_starts : (job : Declared) (shape : Shape) (g : ℕ) → GrouperKeeps job shape g nothing nothing
grouper_starts job shape g = record {
  lawful = λ q less. tt;
  sent = [];
  closed = none_front (groups_closed job shape nothing);
  in_turn = λ q less. refl;
  marks = λ q mark least less h. absurd h;
  whole = λ q mark x less h. absurd h;
  finish = λ q less h. absurd h;
}

processor_starts : (job : Declared) (shape : Shape) → ProcessorKeeps job shape nothing []
processor_starts job shape = record {
  lawful = tt;
  arrived = [];
  of_groupers = tt;
  from_links = λ g less. refl;
  answers = none_front [];
  marks = λ mark least h. absurd h;
  answered = λ mark x h. absurd h;
  profile = λ row h. absurd h;
  profile_front = λ rows e h. none_front rows;
  finish = λ h. absurd h;
}

merge_starts : (job : Declared) (shape : Shape) (start : List ℕ) → MergeKeeps job shape nothing nothing start start
merge_starts job shape start = record {
  gained = [];
  since = sym (append-nil start);
  due = λ ordered h. none_front (lines_due job shape nothing nothing ordered);
}

pub start_is_snapshot : StartIsSnapshot
start_is_snapshot job files shape start run = record {
  read = λ c less. record { front = none_front (file_of files c); whole = λ e. absurd (cc) };
  items_step = λ p g a b. in_step;
  counts_step = λ p a. in_step;
  groups_step = λ g q a b. in_step;
  answers_step = λ q a. in_step;
  parsers = λ p less. parser_starts job shape p;
  groupers = λ g less h. grouper_starts job shape g;
  processors = λ q less h. processor_starts job shape;
  merge = λ h k. merge_starts job shape start;
}

pub start_is_marked : StartIsMarked
start_is_marked job shape start p = record {
  within = λ c own. omega arith;
  few = λ c own. omega arith;
  last = λ g c less own on. refl;
}
