-- Rounds, turn by turn.
use Rattle.std.proofs.Common.{ℕ, ◌+◌, ◌-◌, ◌<◌, ◌≤◌, ◌≡◌, length, refl, sym, ap, subst, ◌∙◌, inl, inr, ⊎_elim, arith}
use Rattle.std.proofs.lemmas.Bool.{cases_lt, cases_eq}
use Rattle.round_law.specs.Waits.{Node}
use Rattle.round_law.specs.Rows.{moved, Moves, Rests, Answers}
use Rattle.round_law.specs.Pipeline.{Net, Place, node_of, IsIn, IsAlike}
use Rattle.round_law.specs.Pipeline.Place.{Parser, Grouper, Processor, Merge}
use Rattle.round_law.specs.Measure.{NoneFalls}
use Rattle.round_law.specs.Turns.{number_of, node_count, IsTurn, RoundBegins, RoundRests, RoundMoves, TurnLowersNone, RoundGoesOn, RoundEnds}
use Rattle.round_law.proofs.Counts.{none_lowers}
use Rattle.round_law.proofs.Looked.{looks_keep, moved_same}
use Rattle.round_law.proofs.Pipelines.{still_in, alike_back}

-- ---- nets alike

alike_in_turn : (a b c : Net) → IsAlike a b → IsAlike b c → IsAlike a c
alike_in_turn a b c ab bc = record { parsers = bc.parsers ∙ ab.parsers; groupers = bc.groupers ∙ ab.groupers; processors = bc.processors ∙ ab.processors }

same_number : (a b : Net) → IsAlike a b → (place : Place) → number_of b place ≡ number_of a place
same_number a b alike (Parser p) = refl
same_number a b alike (Grouper g) = let p = alike.parsers in omega arith
same_number a b alike (Processor q) = let p = alike.parsers in let g = alike.groupers in omega arith
same_number a b alike Merge = let p = alike.parsers in let g = alike.groupers in let q = alike.processors in omega arith

-- each number below the count is some node's
numbered : (net : Net) (n : ℕ) → n < node_count net → (place : Place) × IsIn net place × (number_of net place ≡ n)
numbered net n less =
    ⊎_elim
    (λ (first : n < length net.parsers). (Parser n, first, refl))
    (λ (second : length net.parsers ≤ n).
    ⊎_elim
    (λ (h : n < length net.parsers + length net.groupers). (Grouper (n - length net.parsers), omega arith, omega arith))
    (λ (third : length net.parsers + length net.groupers ≤ n).
    ⊎_elim
    (λ (h : n < length net.parsers + length net.groupers + length net.processors). (Processor (n - (length net.parsers + length net.groupers)), omega arith, omega arith))
    (λ (h : length net.parsers + length net.groupers + length net.processors ≤ n). (Merge, tt, omega arith))
    (cases_lt n (length net.parsers + length net.groupers + length net.processors)))
    (cases_lt n (length net.parsers + length net.groupers)))
    (cases_lt n (length net.parsers))

in_count : (net : Net) (place : Place) → IsIn net place → number_of net place < node_count net
in_count net (Parser p) there = omega arith
in_count net (Grouper g) there = omega arith
in_count net (Processor q) there = omega arith
in_count net Merge there = omega arith

-- a turn by one row is one by each row that follows from it
pub turn_as : (R S : Node → Node → Type 0) → ((b a : Node) → R b a → S b a) → (n : ℕ) (before after : Net) → IsTurn R n before after → IsTurn S n before after
turn_as R S follows n before after turn = record {
  alike = turn.alike;
  answered = λ place there it. follows (node_of before place) (node_of after place) (turn.answered place there it);
  earlier = turn.earlier;
  later = turn.later;
}

-- ---- the round

pub round_begins : (credits : ℕ) (net : Net) → RoundBegins credits net
round_begins credits net = record {
  alike = record { parsers = refl; groupers = refl; processors = refl };
  rested = λ place there less. absurd (omega arith);
  untouched = λ place there past. refl;
}

pub round_rests : (credits n : ℕ) (start now after : Net) → RoundRests credits n start now after
round_rests credits n start now after so_far turn = record { alike = alike_in_turn start now after so_far.alike turn.alike; rested = rested; untouched = untouched }
  where
    is_in : (place : Place) → IsIn start place → IsIn now place
    is_in = still_in start now so_far.alike

    number : (place : Place) → number_of now place ≡ number_of start place
    number = same_number start now so_far.alike

    rested : (place : Place) → IsIn start place → number_of start place < n + 1 → Rests credits (node_of start place) (node_of after place)
    rested place there less =
        ⊎_elim
        (λ (it : number_of start place ≡ n).
        subst (λ (node : Node). Rests credits node (node_of after place)) (so_far.untouched place there (omega arith))
        (turn.answered place (is_in place there) (number place ∙ it)))
        (λ (other : number_of start place ≡ n → ⊥).
        let same = number place in
        looks_keep credits (node_of start place) (node_of now place) (node_of after place) (turn.earlier place (is_in place there) (omega arith)) (so_far.rested place there (omega arith)))
        (cases_eq (number_of start place) n)

    untouched : (place : Place) → IsIn start place → n + 1 ≤ number_of start place → node_of after place ≡ node_of start place
    untouched place there past =
        let same = number place in
        turn.later place (is_in place there) (omega arith) ∙ so_far.untouched place there (omega arith)

pub turn_lowers_none : (credits n : ℕ) (before after : Net) → TurnLowersNone credits n before after
turn_lowers_none credits n before after turn = record { alike = turn.alike; counts = counts }
  where
    counts : (place : Place) → IsIn before place → moved (node_of before place) ≤ moved (node_of after place)
    counts place there =
        ⊎_elim
        (λ (it : number_of before place ≡ n). none_lowers credits (node_of before place) (node_of after place) (turn.answered place there it))
        (λ (other : number_of before place ≡ n → ⊥).
        ⊎_elim
        (λ (less : number_of before place < n).
        let same : moved (node_of after place) ≡ moved (node_of before place) = moved_same (node_of before place) (node_of after place) (turn.earlier place there less) in
        omega arith)
        (λ (past : n ≤ number_of before place).
        let same : moved (node_of after place) ≡ moved (node_of before place) = ap moved (turn.later place there (omega arith)) in
        omega arith)
        (cases_lt (number_of before place) n))
        (cases_eq (number_of before place) n)

pub round_goes_on : (start now after : Net) → RoundGoesOn start now after
round_goes_on start now after moves falls = record {
  none_falls = record {
    alike = alike_in_turn start now after moves.none_falls.alike falls.alike;
    counts = λ place there.
        let first : moved (node_of start place) ≤ moved (node_of now place) = moves.none_falls.counts place there in
        let second : moved (node_of now place) ≤ moved (node_of after place) = falls.counts place (is_in place there) in
        omega arith;
  };
  some_rises =
      let place : Place = moves.some_rises.0 in
      let first : moved (node_of start place) < moved (node_of now place) = moves.some_rises.2 in
      let second : moved (node_of now place) ≤ moved (node_of after place) = falls.counts place (is_in place moves.some_rises.1) in
      (place, moves.some_rises.1, omega arith);
}
  where
    is_in : (place : Place) → IsIn start place → IsIn now place
    is_in = still_in start now moves.none_falls.alike

pub round_moves : (credits n : ℕ) (start now after : Net) → RoundMoves credits n start now after
round_moves credits n start now after less so_far turn = record {
  none_falls = record { alike = alike_in_turn start now after so_far.alike turn.alike; counts = counts };
  some_rises = some_rises;
}
  where
    is_in : (place : Place) → IsIn start place → IsIn now place
    is_in = still_in start now so_far.alike

    number : (place : Place) → number_of now place ≡ number_of start place
    number = same_number start now so_far.alike

    falls : NoneFalls now after
    falls = turn_lowers_none credits n now after (turn_as Moves (Answers credits) (λ b a moves. inl moves) n now after turn)

    rises : (place : Place) → IsIn start place → number_of start place ≡ n → moved (node_of start place) < moved (node_of after place)
    rises place there it =
        let same : moved (node_of now place) ≡ moved (node_of start place) = ap moved (so_far.untouched place there (omega arith)) in
        let up : moved (node_of now place) < moved (node_of after place) = (turn.answered place (is_in place there) (number place ∙ it)).rises in
        omega arith

    counts : (place : Place) → IsIn start place → moved (node_of start place) ≤ moved (node_of after place)
    counts place there =
        let second : moved (node_of now place) ≤ moved (node_of after place) = falls.counts place (is_in place there) in
        ⊎_elim
        (λ (had : number_of start place < n).
        let kept : moved (node_of start place) ≤ moved (node_of now place) = none_lowers credits (node_of start place) (node_of now place) (inr (so_far.rested place there had)) in
        omega arith)
        (λ (later : n ≤ number_of start place).
        let kept : moved (node_of now place) ≡ moved (node_of start place) = ap moved (so_far.untouched place there later) in
        omega arith)
        (cases_lt (number_of start place) n)

    some_rises : (place : Place) × IsIn start place × (moved (node_of start place) < moved (node_of after place))
    some_rises =
        let found = numbered now n less in
        let there : IsIn start found.0 = still_in now start (alike_back start now so_far.alike) found.0 found.1 in
        (found.0, there, rises found.0 there (sym (number found.0) ∙ found.2))

pub round_ends : (credits : ℕ) (start now : Net) → RoundEnds credits start now
round_ends credits start now so_far place there = so_far.rested place there (in_count start place there)
