-- What nodes have moved: it stays where they stand still, and what is ahead falls where it rises.
use Rattle.std.proofs.Common.{inl, inr, ℕ, ◌+◌, ◌-◌, ◌<◌, ◌≤◌, ◌≡◌, length, ap, ap₂, subst, ◌∙◌, arith, ⊎_elim}
use Rattle.std.specs.List.{sum_by}
use Rattle.credit_link.specs.declared.turn.Turn.{Turn}
use Rattle.credit_link.specs.declared.turn.Turn.TheVariants.{Moved, Idle, Done}
use Rattle.round_law.specs.Links.{Sender, Receiver, new_sender, new_receiver}
use Rattle.round_law.specs.Waits.{Node, in_at, out_at}
use Rattle.round_law.specs.Rows.{TurnAnswers, StandsStill, sent_by, taken_by, moved, SenderStays, ReceiverStays, StillCounts, NoneLowers, Rests, Moves, IdleRow, DoneRow}
use Rattle.round_law.specs.Pipeline.{Net, Place, no_node, node_of, IsIn}
use Rattle.round_law.specs.Pipeline.Place.{Parser, Grouper, Processor, Merge}
use Rattle.round_law.specs.Measure.{most_moved, all_most, all_moved, SomeMoves, MovesLower}
use Rattle.round_law.proofs.Sums.{sum_same, sum_no_less, sum_rises}

sent_same : (s t : Sender) → SenderStays s t → sent_by t ≡ sent_by s
sent_same s t stays = ap₂ (λ (m n : ℕ). m + n) (ap length stays.put) stays.back

taken_same : (r t : Receiver) → t.given ≡ r.given → ReceiverStays r t → taken_by t ≡ taken_by r
taken_same r t same stays =
    let got : length t.got ≡ length r.got = ap length stays.got in
    let given : length t.given ≡ length r.given = ap length same in
    let paid = stays.paid in
    omega arith

pub still_counts : (before after : Node) → StillCounts before after
still_counts before after still pipes =
    let read = still.read in
    let records = still.records in
    let outs : sum_by sent_by after.outs ≡ sum_by sent_by before.outs =
    sum_same sent_by new_sender before.outs after.outs still.out_count (λ k less. sent_same (out_at before k) (out_at after k) (pipes.outs k less)) in
    let ins : sum_by taken_by after.ins ≡ sum_by taken_by before.ins =
    sum_same taken_by (new_receiver 0) before.ins after.ins still.in_count (λ j less. taken_same (in_at before j) (in_at after j) (still.given j less) (pipes.ins j less)) in
    omega arith

pub none_lowers : (credits : ℕ) (before after : Node) → NoneLowers credits before after
none_lowers credits before after answers =
    ⊎_elim
    (λ (moves : Moves before after). let up : moved before < moved after = moves.rises in omega arith)
    (λ (rests : Rests credits before after).
    let still : StandsStill before after =
    ⊎_elim (λ (row : IdleRow credits before after). row.still) (λ (row : DoneRow before after). row.still) rests.row in
    let same : moved after ≡ moved before = still_counts before after still rests.pipes in
    omega arith)
    answers

all_rises : (before after : Net) → SomeMoves before after → all_moved before < all_moved after
all_rises before after moves = by_place moves.some_rises.0 moves.some_rises.1 moves.some_rises.2
  where
    parsers : sum_by moved before.parsers ≤ sum_by moved after.parsers
    parsers = sum_no_less moved no_node before.parsers after.parsers moves.none_falls.alike.parsers (λ p less. moves.none_falls.counts (Parser p) less)

    groupers : sum_by moved before.groupers ≤ sum_by moved after.groupers
    groupers = sum_no_less moved no_node before.groupers after.groupers moves.none_falls.alike.groupers (λ g less. moves.none_falls.counts (Grouper g) less)

    processors : sum_by moved before.processors ≤ sum_by moved after.processors
    processors = sum_no_less moved no_node before.processors after.processors moves.none_falls.alike.processors (λ q less. moves.none_falls.counts (Processor q) less)

    merge : moved before.merge ≤ moved after.merge
    merge = moves.none_falls.counts Merge tt

    by_place : (place : Place) → IsIn before place → moved (node_of before place) < moved (node_of after place) → all_moved before < all_moved after
    by_place (Parser p) there up =
        let more = sum_rises moved no_node before.parsers after.parsers moves.none_falls.alike.parsers (λ k less. moves.none_falls.counts (Parser k) less) p there up in
        omega (arith, more, groupers, processors, merge)
    by_place (Grouper g) there up =
        let more = sum_rises moved no_node before.groupers after.groupers moves.none_falls.alike.groupers (λ k less. moves.none_falls.counts (Grouper k) less) g there up in
        omega (arith, more, parsers, processors, merge)
    by_place (Processor q) there up =
        let more = sum_rises moved no_node before.processors after.processors moves.none_falls.alike.processors (λ k less. moves.none_falls.counts (Processor k) less) q there up in
        omega (arith, more, parsers, groupers, merge)
    by_place Merge there up = omega (arith, up, parsers, groupers, processors)

same_most : (captures : ℕ) (before after : Net) → SomeMoves before after → all_most captures after ≡ all_most captures before
same_most captures before after moves =
    ap (λ (n : ℕ). most_moved captures n (length after.groupers) (length after.processors)) moves.none_falls.alike.parsers
    ∙ ap (λ (n : ℕ). most_moved captures (length before.parsers) n (length after.processors)) moves.none_falls.alike.groupers
    ∙ ap (λ (n : ℕ). most_moved captures (length before.parsers) (length before.groupers) n) moves.none_falls.alike.processors

falls : (most before after : ℕ) → before < after → after ≤ most → most + 1 - after < most + 1 - before
falls most before after up within = omega arith

pub moves_lower : (captures : ℕ) (before after : Net) → MovesLower captures before after
moves_lower captures before after moves within =
    subst (λ (most : ℕ). all_most captures after + 1 - all_moved after < most + 1 - all_moved before) (same_most captures before after moves)
    (falls (all_most captures after) (all_moved before) (all_moved after) (all_rises before after moves) within)

pub turn_answers : (credits : ℕ) (before after : Node) (turn : Turn) → TurnAnswers credits before after turn
turn_answers credits before after Moved says tells = inl (record { row = says; rises = tells })
turn_answers credits before after Idle says tells = inr (record { row = inl says; pipes = tells })
turn_answers credits before after Done says tells = inr (record { row = inr says; pipes = tells })
