-- A round goes on by a turn, and what it comes to.
use Rattle.std.proofs.Common.{ℕ, ◌≡◌, ◌+◌, ◌<◌, ◌≤◌, Bool, true, false, ◌||◌, length, refl, sym, subst, ◌∙◌, inl, inr, arith}
use Rattle.credit_link.specs.declared.turn.Turn.{Turn}
use Rattle.credit_link.specs.declared.turn.Turn.TheVariants.{Moved, Idle, Done}
use Rattle.round_law.specs.Waits.{Node}
use Rattle.round_law.specs.Rows.{Answers, HasSoundEnds}
use Rattle.round_law.specs.Pipeline as round
use Rattle.round_law.specs.Pipeline.{Place, node_of}
use Rattle.round_law.specs.Measure.{all_most, all_moved, ahead, NoneFalls, SomeMoves}
use Rattle.round_law.specs.Turns as turns
use Rattle.round_law.specs.Turns.{IsTurn, RestedSoFar}
use Rattle.round_law.proofs.Bounds.{run_has_bound}
use Rattle.round_law.proofs.Pipelines.{joined_comes_through, still_in, alike_back}
use Rattle.round_law.proofs.Quiet.{quiet_is_done}
use Rattle.round_law.proofs.Turns.{turn_as, round_begins, round_rests, turn_lowers_none, round_goes_on, round_moves, round_ends}
use Rattle.summary_spec.specs.Declaration.{Declared}
use Rattle.net_law.specs.Parsers.{parser_view}
use Rattle.net_law.specs.Groupers.{grouper_view}
use Rattle.net_law.specs.Processors.{processor_view}
use Rattle.net_law.specs.Nets.{Net, NetStands, EachPair}
use Rattle.net_law.specs.Steps.{AreLooked}
use Rattle.net_law.specs.Turned.{IsAlike}
use Rattle.net_law.specs.Rounds.{view, NoneHasFault, RowOf, captures_of}
use Rattle.net_law.proofs.Sound.{view_is_sound, view_is_limited, view_is_joined}
use Rattle.net_law.proofs.Views.{long}
use Rattle.run_rounds.specs.Faults.{node_count}
use Rattle.run_rounds.specs.Looked.{NodesLooked}
use Rattle.run_rounds.specs.Rounds.{has_moved, RowsSoFar, RoundSoFar}
use Rattle.run_rounds.specs.Rounds.HadTurns.{Begun, Next}
use Rattle.run_rounds.specs.Runs.{AllAreDone, ahead_of}
use Rattle.run_rounds.proofs.Looks.{view_alike, looks_lower_none}
use Rattle.run_rounds.proofs.Ahead.{below, no_more_ahead, less_ahead}

-- ---- nets that are alike

pub alike_self : (a : Net) → IsAlike a a
alike_self a = record { same = (refl, refl, refl); counts = (refl, refl, refl) }

pub alike_on : (a b c : Net) → IsAlike a b → IsAlike b c → IsAlike a c
alike_on a b c first second = record {
  same = (second.same.0 ∙ first.same.0, second.same.1 ∙ first.same.1, second.same.2 ∙ first.same.2);
  counts = (second.counts.0 ∙ first.counts.0, second.counts.1 ∙ first.counts.1, second.counts.2 ∙ first.counts.2);
}

sum_same : (p p' g g' q q' : ℕ) → p' ≡ p → g' ≡ g → q' ≡ q → p' + g' + q' + 1 ≡ p + g + q + 1
sum_same p p' g g' q q' e f h = omega arith

pub count_same : (a b : Net) → IsAlike a b → node_count b ≡ node_count a
count_same a b alike =
    sum_same (length a.parsers) (length b.parsers) (length a.groupers) (length b.groupers) (length a.processors) (length b.processors) alike.counts.0 alike.counts.1 alike.counts.2

view_count : (net : Net) → turns.node_count (view net) ≡ node_count net
view_count net =
    sum_same (length net.parsers) (length (view net).parsers) (length net.groupers) (length (view net).groupers) (length net.processors) (length (view net).processors)
    (long parser_view net.parsers) (long grouper_view net.groupers) (long processor_view net.processors)

-- ---- turns

row_answers : (credits : ℕ) (turn : Turn) (before after : Node) → RowOf credits turn before after → Answers credits before after
row_answers credits Moved before after row = inl row
row_answers credits Idle before after row = inr row
row_answers credits Done before after row = inr row

-- no turn lowers the count of a node
pub lowers_none : (credits : ℕ) (turn : Turn) (n : ℕ) (before after : round.Net) → IsTurn (RowOf credits turn) n before after → NoneFalls before after
lowers_none credits turn n before after it = turn_lowers_none credits n before after (turn_as (RowOf credits turn) (Answers credits) (row_answers credits turn) n before after it)

rows_on : (credits n : ℕ) (moved : Bool) (turn : Turn) (start now after : round.Net) → n < turns.node_count now → RowsSoFar credits n moved start now → IsTurn (RowOf credits turn) n now after
    → RowsSoFar credits (n + 1) (has_moved turn || moved) start after
rows_on credits n true Moved start now after less rows it = round_goes_on start now after rows (lowers_none credits Moved n now after it)
rows_on credits n true Idle start now after less rows it = round_goes_on start now after rows (lowers_none credits Idle n now after it)
rows_on credits n true Done start now after less rows it = round_goes_on start now after rows (lowers_none credits Done n now after it)
rows_on credits n false Moved start now after less rows it = round_moves credits n start now after less rows it
rows_on credits n false Idle start now after less rows it = round_rests credits n start now after rows it
rows_on credits n false Done start now after less rows it = round_rests credits n start now after rows it

-- ---- a round

pub begins : (net : Net) → NetStands net → NoneHasFault net → RoundSoFar 0 false net net
begins net stands quiet =
    record { stands = stands; quiet = quiet; alike = alike_self net; turns = Begun net; rows = round_begins net.credits (view net) }

pub one_more : (n : ℕ) (moved : Bool) (turn : Turn) (start now after : Net) → n < node_count now → RoundSoFar n moved start now → NetStands after → NoneHasFault after → IsAlike now after
    → IsTurn (RowOf now.credits turn) n (view now) (view after) → RoundSoFar (n + 1) (has_moved turn || moved) start after
one_more n moved turn start now after less so_far stands quiet alike it = record {
  stands = stands;
  quiet = quiet;
  alike = alike_on start now after so_far.alike alike;
  turns = Next n start now after turn so_far.turns it;
  rows =
      rows_on start.credits n moved turn (view start) (view now) (view after) (subst (λ (m : ℕ). n < m) (sym (view_count now)) less) so_far.rows
      (subst (λ (c : ℕ). IsTurn (RowOf c turn) n (view now) (view after)) so_far.alike.same.2 it);
}

module _ (start : Net) (stands : NetStands start) (quiet : NoneHasFault start) (looked : EachPair (AreLooked start.credits) start) where
  -- after a look a run is within its bound
  within : all_moved (view start) ≤ all_most (captures_of start) (view start)
  within =
      let limits = view_is_limited start stands in
      (run_has_bound (captures_of start) start.credits (view start) limits.0 (view_is_sound start stands quiet)
      (joined_comes_through start.credits (view start) (view_is_joined start stands looked)) limits.1).moved

  -- a round in which a node moved
  pub moves_ahead : (old now : Net) (n : ℕ) (moved : Bool) → NodesLooked old start → RoundSoFar n moved start now → moved ≡ true → ahead_of now < ahead_of old
  moves_ahead old now n moved look so_far is =
      let moves : SomeMoves (view start) (view now) = subst (λ (b : Bool). RowsSoFar start.credits n b (view start) (view now)) is so_far.rows in
      let less : ahead (captures_of start) (view now) < ahead (captures_of start) (view old) =
      below (ahead (captures_of start) (view now)) (ahead (captures_of start) (view start)) (ahead (captures_of start) (view old)) (less_ahead (captures_of start) (view start) (view now) moves within)
      (no_more_ahead (captures_of start) (view old) (view start) (looks_lower_none old start look stands)) in
      subst (λ (job : Declared). ahead (length job.captures) (view now) < ahead_of old) (sym so_far.alike.same.0)
      (subst (λ (job : Declared). ahead (captures_of start) (view now) < ahead (length job.captures) (view old)) look.alike.same.0 less)

  -- a round in which none did
  pub still_done : (now : Net) (moved : Bool) → RoundSoFar (node_count start) moved start now → moved ≡ false → AllAreDone now
  still_done now moved so_far is =
      let alike : round.IsAlike (view start) (view now) = view_alike start now so_far.alike in
      let limits = view_is_limited start stands in
      let rows : RestedSoFar start.credits (node_count start) (view start) (view now) = subst (λ (b : Bool). RowsSoFar start.credits (node_count start) b (view start) (view now)) is so_far.rows in
      let done = quiet_is_done (captures_of start) start.credits (view start) (view now) (record {
        limits = limits.0;
        sound = view_is_sound start stands quiet;
        joined = view_is_joined start stands looked;
        limited = limits.1;
        alike = alike;
        ends = λ place there.
            subst (λ (c : ℕ). HasSoundEnds c (node_of (view now) place)) so_far.alike.same.2
            ((view_is_sound now so_far.stands so_far.quiet).ends place (still_in (view start) (view now) alike place there));
        rests = round_ends start.credits (view start) (view now) (subst (λ (m : ℕ). RestedSoFar start.credits m (view start) (view now)) (sym (view_count start)) rows);
      }) in
      (so_far.quiet, λ place there. (done place (still_in (view now) (view start) (alike_back (view start) (view now) alike) place there)).1)

-- turns that lower no count leave what is ahead at most as it was
pub no_more_left : (a b : Net) → IsAlike a b → NoneFalls (view a) (view b) → ahead_of b ≤ ahead_of a
no_more_left a b alike falls =
    subst (λ (job : Declared). ahead (length job.captures) (view b) ≤ ahead_of a) (sym alike.same.0) (no_more_ahead (captures_of a) (view a) (view b) falls)
