-- A turn of any node is a turn of a round.
use Rattle.std.proofs.Common.{ℕ, ◌≡◌, ◌≢◌, ◌<◌, ◌≤◌, ◌+◌, length, refl, sym, ap, subst, ◌∙◌, arith}
use Rattle.credit_link.specs.declared.turn.Turn.{Turn}
use Rattle.credit_link.specs.declared.turn.Turn.TheVariants.{Moved, Idle, Done}
use Rattle.round_law.specs.Waits.{Node}
use Rattle.round_law.specs.Rows.{moved, TurnSays, TurnTells, IsLookedAt, IsOrderly, OffersFew}
use Rattle.round_law.specs.Pipeline as round
use Rattle.round_law.specs.Pipeline.{Place, node_of, IsIn, EachNode}
use Rattle.round_law.specs.Pipeline.Place.{Parser, Grouper, Processor, Merge}
use Rattle.round_law.specs.Turns.{number_of, IsTurn}
use Rattle.round_law.proofs.Looked.{looks_keep, moved_same}
use Rattle.net_law.specs.Parsers.{parser_view}
use Rattle.net_law.specs.Groupers.{grouper_view}
use Rattle.net_law.specs.Processors.{processor_view}
use Rattle.net_law.specs.Merges.{merge_view}
use Rattle.net_law.specs.Nets.{Net, NetStands, parser_at, grouper_at, processor_at}
use Rattle.net_law.specs.Turned.{IsAlike, ParserTurns, GrouperTurns, ProcessorTurns, MergeTurns}
use Rattle.net_law.specs.Rounds.{view, NoneHasFault, RowOf, TurnsMakeRounds}
use Rattle.net_law.proofs.Sound.{node_view, node_same, parsers_long, groupers_long, processors_long, parser_in_view, grouper_in_view, processor_in_view, orderly, few}
use Rattle.net_law.proofs.Views.{long, looked_self, parser_seen_to, grouper_seen_to, processor_seen_to, merge_seen_to}

-- ---- one node

-- a turn and then a look
pub row_after : (credits : ℕ) (turn : Turn) (before now after : Node) → TurnSays credits before now turn → TurnTells before now turn → IsLookedAt now after → IsOrderly after → OffersFew after
    → RowOf credits turn before after
row_after credits Moved before now after says tells looked in_order offers_few = record {
  row = record { orderly = in_order; few = offers_few };
  rises = let same : moved after ≡ moved now = moved_same now after looked in let up : moved before < moved now = tells in omega arith;
}
row_after credits Idle before now after says tells looked in_order offers_few = looks_keep credits before now after looked (record { row = Rattle.std.proofs.Common.inl says; pipes = tells })
row_after credits Done before now after says tells looked in_order offers_few = looks_keep credits before now after looked (record { row = Rattle.std.proofs.Common.inr says; pipes = tells })

same_looked : (a b : Node) → b ≡ a → IsLookedAt a b
same_looked a b same = subst (IsLookedAt a) (sym same) (looked_self a)

module _ (before after : Net) (turn : Turn) (now : NetStands before) (then : NetStands after) (quiet : NoneHasFault after) where
  alike : IsAlike before after → round.IsAlike (view before) (view after)
  alike same = record {
    parsers = long parser_view after.parsers ∙ same.counts.0 ∙ sym (long parser_view before.parsers);
    groupers = long grouper_view after.groupers ∙ same.counts.1 ∙ sym (long grouper_view before.groupers);
    processors = long processor_view after.processors ∙ same.counts.2 ∙ sym (long processor_view before.processors);
  }

  -- numbers, by the shape
  abbrev place_number : Place → ℕ
  place_number (Parser p) = p
  place_number (Grouper g) = before.shape.parsers + g
  place_number (Processor q) = before.shape.parsers + before.shape.groupers + q
  place_number Merge = before.shape.parsers + before.shape.groupers + before.shape.processors

  number_is : (place : Place) → number_of (view before) place ≡ place_number place
  number_is (Parser p) = refl
  number_is (Grouper g) = ap (λ (n : ℕ). n + g) (parsers_long before now)
  number_is (Processor q) = ap (λ (n : ℕ). n + length (view before).groupers + q) (parsers_long before now) ∙ ap (λ (n : ℕ). before.shape.parsers + n + q) (groupers_long before now)
  number_is Merge =
      ap (λ (n : ℕ). n + length (view before).groupers + length (view before).processors) (parsers_long before now)
      ∙ ap (λ (n : ℕ). before.shape.parsers + n + length (view before).processors) (groupers_long before now)
      ∙ ap (λ (n : ℕ). before.shape.parsers + before.shape.groupers + n) (processors_long before now)

  -- the node is one of the shape
  abbrev There : Place → Type 0
  There (Parser p) = p < before.shape.parsers
  There (Grouper g) = g < before.shape.groupers
  There (Processor q) = q < before.shape.processors
  There Merge = Unit {0}

  there : (place : Place) → IsIn (view before) place → There place
  there (Parser p) h = parser_in_view before now p h
  there (Grouper g) h = grouper_in_view before now g h
  there (Processor q) h = processor_in_view before now q h
  there Merge h = tt

  -- what is shown of nodes by their places makes a turn
  make : (n : ℕ) → IsAlike before after
      → ((place : Place) → There place → place_number place ≡ n → RowOf before.credits turn (node_view before place) (node_view after place))
      → ((place : Place) → There place → place_number place < n → IsLookedAt (node_view before place) (node_view after place))
      → ((place : Place) → There place → n < place_number place → node_view after place ≡ node_view before place)
      → IsTurn (RowOf before.credits turn) n (view before) (view after)
  make n same answered earlier later = record {
    alike = alike same;
    answered = λ place is at.
        subst (λ (b : Node). RowOf before.credits turn b (node_of (view after) place)) (sym (node_same before place))
        (subst (λ (a : Node). RowOf before.credits turn (node_view before place) a) (sym (node_same after place)) (answered place (there place is) (sym (number_is place) ∙ at)));
    earlier = λ place is less.
        subst (λ (b : Node). IsLookedAt b (node_of (view after) place)) (sym (node_same before place))
        (subst (λ (a : Node). IsLookedAt (node_view before place) a) (sym (node_same after place)) (earlier place (there place is) (subst (λ (m : ℕ). m < n) (number_is place) less)));
    later = λ place is less.
        node_same after place ∙ later place (there place is) (subst (λ (m : ℕ). n < m) (number_is place) less) ∙ sym (node_same before place);
  }

  in_after : (place : Place) → IsAlike before after → There place → IsIn (view after) place
  in_after (Parser p) same h = subst (λ (n : ℕ). p < n) (sym (long parser_view after.parsers ∙ same.counts.0 ∙ now.parser_count)) h
  in_after (Grouper g) same h = subst (λ (n : ℕ). g < n) (sym (long grouper_view after.groupers ∙ same.counts.1 ∙ now.grouper_count)) h
  in_after (Processor q) same h = subst (λ (n : ℕ). q < n) (sym (long processor_view after.processors ∙ same.counts.2 ∙ now.processor_count)) h
  in_after Merge same h = tt

  orderly_at : (place : Place) → IsAlike before after → There place → IsOrderly (node_view after place)
  orderly_at place same h = subst IsOrderly (node_same after place) (orderly after then quiet place (in_after place same h))

  few_at : (place : Place) → IsAlike before after → There place → OffersFew (node_view after place)
  few_at place same h = subst OffersFew (node_same after place) (few after then place (in_after place same h))

  row_at : (place : Place) (credits : ℕ) (turned : Node) → IsAlike before after → There place → credits ≡ before.credits → TurnSays credits (node_view before place) turned turn
      → TurnTells (node_view before place) turned turn → IsLookedAt turned (node_view after place) → RowOf before.credits turn (node_view before place) (node_view after place)
  row_at place credits turned same h number says tells look =
      row_after before.credits turn (node_view before place) turned (node_view after place) (subst (λ (c : ℕ). TurnSays c (node_view before place) turned turn) number says) tells look
      (orderly_at place same h) (few_at place same h)

  -- ---- parsers

  parser_turn : (p : ℕ) → p < before.shape.parsers → (t : ParserTurns p before after)
      → TurnSays (parser_at before p).credits (parser_view (parser_at before p)) (parser_view (parser_at after p)) turn → TurnTells (parser_view (parser_at before p)) (parser_view (parser_at after p)) turn
      → IsTurn (RowOf before.credits turn) p (view before) (view after)
  parser_turn p hp t says tells = make p t.alike answered earlier later
    where
      row : RowOf before.credits turn (parser_view (parser_at before p)) (parser_view (parser_at after p))
      row = row_at (Parser p) (parser_at before p).credits (parser_view (parser_at after p)) t.alike hp (now.parsers p hp).credits says tells (looked_self (parser_view (parser_at after p)))

      answered : (place : Place) → There place → place_number place ≡ p → RowOf before.credits turn (node_view before place) (node_view after place)
      answered (Parser i) h at = subst (λ (n : ℕ). RowOf before.credits turn (parser_view (parser_at before n)) (parser_view (parser_at after n))) (sym at) row
      answered (Grouper g) h at = absurd (omega arith)
      answered (Processor q) h at = absurd (omega arith)
      answered Merge h at = absurd (omega arith)

      earlier : (place : Place) → There place → place_number place < p → IsLookedAt (node_view before place) (node_view after place)
      earlier (Parser i) h less = same_looked (parser_view (parser_at before i)) (parser_view (parser_at after i)) (ap parser_view (t.parsers i (λ (e : i ≡ p). omega arith)))
      earlier (Grouper g) h less = absurd (omega arith)
      earlier (Processor q) h less = absurd (omega arith)
      earlier Merge h less = absurd (omega arith)

      later : (place : Place) → There place → p < place_number place → node_view after place ≡ node_view before place
      later (Parser i) h less = ap parser_view (t.parsers i (λ (e : i ≡ p). omega arith))
      later (Grouper g) h less = ap grouper_view (t.groupers g)
      later (Processor q) h less = ap processor_view (t.processors q)
      later Merge h less = ap merge_view t.merge

  -- ---- groupers

  grouper_turn : (g : ℕ) → g < before.shape.groupers → (t : GrouperTurns g before after)
      → TurnSays (grouper_at before g).credits (grouper_view (grouper_at before g)) (grouper_view t.turned) turn → TurnTells (grouper_view (grouper_at before g)) (grouper_view t.turned) turn
      → IsTurn (RowOf before.credits turn) (before.shape.parsers + g) (view before) (view after)
  grouper_turn g hg t says tells = make (before.shape.parsers + g) t.alike answered earlier later
    where
      row : RowOf before.credits turn (grouper_view (grouper_at before g)) (grouper_view (grouper_at after g))
      row = row_at (Grouper g) (grouper_at before g).credits (grouper_view t.turned) t.alike hg (now.groupers g hg).credits says tells (grouper_seen_to t.turned (grouper_at after g) t.looks)

      answered : (place : Place) → There place → place_number place ≡ before.shape.parsers + g → RowOf before.credits turn (node_view before place) (node_view after place)
      answered (Parser i) h at = absurd (omega arith)
      answered (Grouper i) h at =
          let same : i ≡ g = omega arith in subst (λ (n : ℕ). RowOf before.credits turn (grouper_view (grouper_at before n)) (grouper_view (grouper_at after n))) (sym same) row
      answered (Processor q) h at = absurd (omega arith)
      answered Merge h at = absurd (omega arith)

      earlier : (place : Place) → There place → place_number place < before.shape.parsers + g → IsLookedAt (node_view before place) (node_view after place)
      earlier (Parser i) h less = parser_seen_to (parser_at before i) (parser_at after i) (t.parsers i h)
      earlier (Grouper i) h less = same_looked (grouper_view (grouper_at before i)) (grouper_view (grouper_at after i)) (ap grouper_view (t.groupers i (λ (e : i ≡ g). omega arith)))
      earlier (Processor q) h less = absurd (omega arith)
      earlier Merge h less = absurd (omega arith)

      later : (place : Place) → There place → before.shape.parsers + g < place_number place → node_view after place ≡ node_view before place
      later (Parser i) h less = absurd (omega arith)
      later (Grouper i) h less = ap grouper_view (t.groupers i (λ (e : i ≡ g). omega arith))
      later (Processor q) h less = ap processor_view (t.processors q)
      later Merge h less = ap merge_view t.merge

  -- ---- processors

  processor_turn : (q : ℕ) → q < before.shape.processors → (t : ProcessorTurns q before after)
      → TurnSays (processor_at before q).credits (processor_view (processor_at before q)) (processor_view t.turned) turn → TurnTells (processor_view (processor_at before q)) (processor_view t.turned) turn
      → IsTurn (RowOf before.credits turn) (before.shape.parsers + before.shape.groupers + q) (view before) (view after)
  processor_turn q hq t says tells = make (before.shape.parsers + before.shape.groupers + q) t.alike answered earlier later
    where
      row : RowOf before.credits turn (processor_view (processor_at before q)) (processor_view (processor_at after q))
      row = row_at (Processor q) (processor_at before q).credits (processor_view t.turned) t.alike hq (now.processors q hq).credits says tells (processor_seen_to t.turned (processor_at after q) t.looks)

      answered : (place : Place) → There place → place_number place ≡ before.shape.parsers + before.shape.groupers + q → RowOf before.credits turn (node_view before place) (node_view after place)
      answered (Parser i) h at = absurd (omega arith)
      answered (Grouper i) h at = absurd (omega arith)
      answered (Processor i) h at =
          let same : i ≡ q = omega arith in subst (λ (n : ℕ). RowOf before.credits turn (processor_view (processor_at before n)) (processor_view (processor_at after n))) (sym same) row
      answered Merge h at = absurd (omega arith)

      earlier : (place : Place) → There place → place_number place < before.shape.parsers + before.shape.groupers + q → IsLookedAt (node_view before place) (node_view after place)
      earlier (Parser i) h less = same_looked (parser_view (parser_at before i)) (parser_view (parser_at after i)) (ap parser_view (t.parsers i))
      earlier (Grouper i) h less = grouper_seen_to (grouper_at before i) (grouper_at after i) (t.groupers i h)
      earlier (Processor i) h less = same_looked (processor_view (processor_at before i)) (processor_view (processor_at after i)) (ap processor_view (t.processors i (λ (e : i ≡ q). omega arith)))
      earlier Merge h less = absurd (omega arith)

      later : (place : Place) → There place → before.shape.parsers + before.shape.groupers + q < place_number place → node_view after place ≡ node_view before place
      later (Parser i) h less = absurd (omega arith)
      later (Grouper i) h less = absurd (omega arith)
      later (Processor i) h less = ap processor_view (t.processors i (λ (e : i ≡ q). omega arith))
      later Merge h less = ap merge_view t.merge

  -- ---- the merge

  merge_turn : (t : MergeTurns before after)
      → TurnSays before.merge.credits (merge_view before.merge) (merge_view t.turned) turn → TurnTells (merge_view before.merge) (merge_view t.turned) turn
      → IsTurn (RowOf before.credits turn) (before.shape.parsers + before.shape.groupers + before.shape.processors) (view before) (view after)
  merge_turn t says tells = make (before.shape.parsers + before.shape.groupers + before.shape.processors) t.alike answered earlier later
    where
      row : RowOf before.credits turn (merge_view before.merge) (merge_view after.merge)
      row = row_at Merge before.merge.credits (merge_view t.turned) t.alike tt now.merge.credits says tells (merge_seen_to t.turned after.merge t.looks)

      answered : (place : Place) → There place → place_number place ≡ before.shape.parsers + before.shape.groupers + before.shape.processors
          → RowOf before.credits turn (node_view before place) (node_view after place)
      answered (Parser i) h at = absurd (omega arith)
      answered (Grouper i) h at = absurd (omega arith)
      answered (Processor i) h at = absurd (omega arith)
      answered Merge h at = row

      earlier : (place : Place) → There place → place_number place < before.shape.parsers + before.shape.groupers + before.shape.processors → IsLookedAt (node_view before place) (node_view after place)
      earlier (Parser i) h less = parser_seen_to (parser_at before i) (parser_at after i) (t.parsers i h)
      earlier (Grouper i) h less = same_looked (grouper_view (grouper_at before i)) (grouper_view (grouper_at after i)) (ap grouper_view (t.groupers i))
      earlier (Processor i) h less = processor_seen_to (processor_at before i) (processor_at after i) (t.processors i h)
      earlier Merge h less = absurd (omega arith)

      later : (place : Place) → There place → before.shape.parsers + before.shape.groupers + before.shape.processors < place_number place → node_view after place ≡ node_view before place
      later (Parser i) h less = absurd (omega arith)
      later (Grouper i) h less = absurd (omega arith)
      later (Processor i) h less = absurd (omega arith)
      later Merge h less = absurd (omega arith)

pub turns_make_rounds : TurnsMakeRounds
turns_make_rounds before after turn now then quiet = record {
  parser = parser_turn before after turn now then quiet;
  grouper = grouper_turn before after turn now then quiet;
  processor = processor_turn before after turn now then quiet;
  merge = merge_turn before after turn now then quiet;
}
