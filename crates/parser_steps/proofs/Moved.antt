-- A parser whose links alone were changed, by a poll or by a look.
use Rattle.std.proofs.Common.{ℕ, ◌≡◌, ◌<◌, ◌≤◌, ◌-◌, Option, None, true, List, length, refl, sym, ap, subst, ◌∙◌, arith}
use Rattle.std.specs.Prelude.{slice_index_or}
use Rattle.std.proofs.Math.Path.{fun_ext}
use Rattle.ds_base.specs.Outside.{SourceSeen}
use Rattle.credit_link.specs.Frames.{has_finish}
use Rattle.credit_link.specs.declared.turn.NodeFault.{NodeFault}
use Rattle.node_frames.specs.declared.frame.Frame.{Frame}
use Rattle.shuffle_poll.specs.Shuffles.{ShuffleSeen}
use Rattle.run_law.specs.Links.{HasEnded, HasRow}
use Rattle.run_law.specs.Nodes.{Reading, ParserKeeps, ParserMarks}
use Rattle.run_law.specs.Snapshot.{unread}
use Rattle.node_lanes.specs.Ends.{put_on, OutsStand, OutsAreQuiet, OutsGo}
use Rattle.net_law.specs.Ends.{no_tx}
use Rattle.net_law.specs.Parsers.{ParserStands, IsOwn, IsReadOf, shape_with, groupers_of, read_of, behind_of}
use Rattle.parser_steps.specs.Seen.{StepsSeen, seen_of, most_put}
use Rattle.parser_steps.specs.Holds.{ParserHolds, IsTold}
use Rattle.parser_steps.proofs.Bounds.{offers, captures_few}

pub read_later : (fault later : Option NodeFault) (source : SourceSeen) (reading : Reading) → (later ≡ None → fault ≡ None) → IsReadOf fault source reading → IsReadOf later source reading
read_later fault later source reading back h = record { front = h.front; left = λ told none. h.left told (back none); whole = h.whole }

module _ (steps : StepsSeen) (before after : ShuffleSeen) (fault later : Option NodeFault) (h : ParserHolds steps before fault)
    (stand : (credits : ℕ) → OutsStand credits before → OutsStand credits after) (goes : OutsGo before after) (same : (k : ℕ) → put_on after k ≡ put_on before k)
    (back : later ≡ None → fault ≡ None) (quiet : later ≡ None → OutsAreQuiet after) where
  put_same : put_on after ≡ put_on before
  put_same = fun_ext same

  groupers_same : length after.links - 1 ≡ length before.links - 1
  groupers_same = ap (λ (n : ℕ). n - 1) goes.as_many

  credits_same : (slice_index_or after.links 0 no_tx).credits ≡ (slice_index_or before.links 0 no_tx).credits
  credits_same = (goes.each 0 no_tx (omega (arith, h.links))).credits

  keeps_after : (n : ℕ) → ParserKeeps steps.job (shape_with (seen_of steps after later) n) steps.me (read_of (seen_of steps after later)) (put_on after) (put_on after (groupers_of (seen_of steps after later)))
  keeps_after n =
      subst
      (λ (g : ℕ). ParserKeeps steps.job (record { parsers = steps.parsers; groupers = g; processors = n }) steps.me (read_of (seen_of steps after later)) (put_on after) (put_on after g))
      (sym groupers_same)
      (subst
      (λ (put : ℕ → List Frame).
      ParserKeeps steps.job (shape_with (seen_of steps before fault) n) steps.me (read_of (seen_of steps after later)) put (put (groupers_of (seen_of steps before fault))))
      (sym put_same) (h.stands.keeps n))

  marks_after : (n : ℕ) → ParserMarks steps.job (shape_with (seen_of steps after later) n) steps.me (behind_of (seen_of steps after later)) (read_of (seen_of steps after later)) (put_on after)
  marks_after n =
      subst
      (λ (g : ℕ). ParserMarks steps.job (record { parsers = steps.parsers; groupers = g; processors = n }) steps.me (behind_of (seen_of steps after later)) (read_of (seen_of steps after later)) (put_on after))
      (sym groupers_same)
      (subst
      (λ (put : ℕ → List Frame). ParserMarks steps.job (shape_with (seen_of steps before fault) n) steps.me (behind_of (seen_of steps after later)) (read_of (seen_of steps after later)) put)
      (sym put_same) (h.stands.marks n))

  few_after : (k : ℕ) → k < length after.links → length (put_on after k) ≤ most_put steps
  few_after k there = subst (λ (fs : List Frame). length fs ≤ most_put steps) (sym (same k)) (h.few k (omega (arith, there, goes.as_many)))

  stands_after : ParserStands (seen_of steps after later)
  stands_after = record {
    job_is = h.stands.job_is;
    place = h.stands.place;
    groupers = (omega (arith, h.stands.groupers.0, goes.as_many), omega (arith, h.stands.groupers.1, goes.as_many));
    captures = h.stands.captures;
    own = h.stands.own;
    lengths = h.stands.lengths;
    outs = subst (λ (n : ℕ). OutsStand n after) (sym credits_same) (stand (slice_index_or before.links 0 no_tx).credits h.stands.outs);
    keeps = keeps_after;
    marks = marks_after;
    even = h.stands.even;
    read = λ i d there. read_later fault later (slice_index_or steps.sources i d) (slice_index_or steps.reads i unread) back (h.stands.read i d there);
    held = h.stands.held;
    reads_few = record { read = h.stands.reads_few.read; records = h.stands.reads_few.records };
    offers_few = offers steps after later (captures_few steps before fault h.stands) few_after;
    quiet = λ none. ((h.stands.quiet (back none)).0, quiet none);
  }

  told_after : later ≡ None → (c : ℕ) → IsOwn (seen_of steps after later) c → (read_of (seen_of steps after later) c).ended ≡ true → IsTold (seen_of steps after later) c
  told_after none c own ended =
      let t = h.told (back none) c own ended in
      record {
        ends = λ g less. subst (HasEnded c) (sym (same g)) (t.ends g (omega (arith, less, groupers_same)));
        row = subst (λ (n : ℕ). HasRow c (put_on after n)) (sym groupers_same) (subst (HasRow c) (sym (same (groupers_of (seen_of steps before fault)))) t.row);
      }

  -- what is true of the parser stays so
  pub moved_holds : ParserHolds steps after later
  moved_holds = record {
    stands = stands_after;
    links = goes.as_many ∙ h.links;
    near = h.near;
    few = few_after;
    told = told_after;
    ending = λ k there. ap has_finish (same k) ∙ h.ending k (omega (arith, there, goes.as_many));
    all = h.all;
  }

-- after a poll of the links, by what it promises; `fault` is what it met
pub polled_holds : (steps : StepsSeen) (before after : ShuffleSeen) (fault : Option NodeFault) → ParserHolds steps before None
    → ((credits : ℕ) → OutsStand credits before → OutsStand credits after) → OutsGo before after → ((k : ℕ) → put_on after k ≡ put_on before k)
    → (fault ≡ None → OutsAreQuiet after) → ParserHolds steps after fault
polled_holds steps before after fault h stand goes same quiet = moved_holds steps before after None fault h stand goes same (λ none. refl) quiet
