-- What is ahead of a run falls where a node moves, and never rises.
use Rattle.std.proofs.Common.{ℕ, ◌≡◌, ◌+◌, ◌-◌, ◌<◌, ◌≤◌, length, refl, sym, ap, subst, ◌∙◌, arith, ⊎_elim}
use Rattle.std.specs.List.{sum_by}
use Rattle.std.proofs.lemmas.Bool.{cases_lt}
use Rattle.round_law.specs.Rows.{moved}
use Rattle.round_law.specs.Pipeline.{Net, Place, no_node, node_of, IsIn, IsAlike}
use Rattle.round_law.specs.Pipeline.Place.{Parser, Grouper, Processor, Merge}
use Rattle.round_law.specs.Measure.{most_moved, all_most, all_moved, ahead, NoneFalls, SomeMoves}
use Rattle.round_law.proofs.Counts.{moves_lower}
use Rattle.round_law.proofs.Pipelines.{still_in, alike_back}
use Rattle.round_law.proofs.Sums.{sum_no_less}

no_less_after : (a b c : ℕ) → a ≤ b → b ≤ c → a ≤ c
no_less_after a b c first second = omega arith

less_after : (a b c : ℕ) → a ≤ b → b < c → a < c
less_after a b c first second = omega arith

pub below : (a b c : ℕ) → a < b → b ≤ c → a < c
below a b c first second = omega arith

-- ---- counts that do not fall

pub none_yet : (a : Net) → NoneFalls a a
none_yet a = record { alike = record { parsers = refl; groupers = refl; processors = refl }; counts = λ place there. omega arith }

pub in_turn : (a b c : Net) → NoneFalls a b → NoneFalls b c → NoneFalls a c
in_turn a b c first second = record {
  alike = record {
    parsers = second.alike.parsers ∙ first.alike.parsers;
    groupers = second.alike.groupers ∙ first.alike.groupers;
    processors = second.alike.processors ∙ first.alike.processors;
  };
  counts = λ place there.
      no_less_after (moved (node_of a place)) (moved (node_of b place)) (moved (node_of c place)) (first.counts place there)
      (second.counts place (still_in a b first.alike place there));
}

pub then_some : (a b c : Net) → NoneFalls a b → SomeMoves b c → SomeMoves a c
then_some a b c first moves =
    let place : Place = moves.some_rises.0 in
    let there : IsIn a place = still_in b a (alike_back a b first.alike) place moves.some_rises.1 in
    record {
      none_falls = in_turn a b c first moves.none_falls;
      some_rises = (place, there, less_after (moved (node_of a place)) (moved (node_of b place)) (moved (node_of c place)) (first.counts place there) moves.some_rises.2);
    }

-- ---- what is ahead

same_most : (captures : ℕ) (a b : Net) → IsAlike a b → all_most captures b ≡ all_most captures a
same_most captures a b alike =
    ap (λ (n : ℕ). most_moved captures n (length b.groupers) (length b.processors)) alike.parsers
    ∙ ap (λ (n : ℕ). most_moved captures (length a.parsers) n (length b.processors)) alike.groupers
    ∙ ap (λ (n : ℕ). most_moved captures (length a.parsers) (length a.groupers) n) alike.processors

added : (p p' g g' q q' m m' : ℕ) → p ≤ p' → g ≤ g' → q ≤ q' → m ≤ m' → p + g + q + m ≤ p' + g' + q' + m'
added p p' g g' q q' m m' up uq ur us = omega arith

all_no_less : (a b : Net) → NoneFalls a b → all_moved a ≤ all_moved b
all_no_less a b falls =
    added (sum_by moved a.parsers) (sum_by moved b.parsers) (sum_by moved a.groupers) (sum_by moved b.groupers) (sum_by moved a.processors) (sum_by moved b.processors) (moved a.merge) (moved b.merge)
    (sum_no_less moved no_node a.parsers b.parsers falls.alike.parsers (λ p less. falls.counts (Parser p) less))
    (sum_no_less moved no_node a.groupers b.groupers falls.alike.groupers (λ g less. falls.counts (Grouper g) less))
    (sum_no_less moved no_node a.processors b.processors falls.alike.processors (λ q less. falls.counts (Processor q) less))
    (falls.counts Merge tt)

less_left : (most a b : ℕ) → a ≤ b → most + 1 - b ≤ most + 1 - a
less_left most a b up = omega arith

pub no_more_ahead : (captures : ℕ) (a b : Net) → NoneFalls a b → ahead captures b ≤ ahead captures a
no_more_ahead captures a b falls =
    subst (λ (most : ℕ). most + 1 - all_moved b ≤ all_most captures a + 1 - all_moved a) (sym (same_most captures a b falls.alike))
    (less_left (all_most captures a) (all_moved a) (all_moved b) (all_no_less a b falls))

none_left : (most_before before most_after after : ℕ) → before ≤ most_before → most_after < after → most_after + 1 - after < most_before + 1 - before
none_left most_before before most_after after within past = omega arith

-- where the bound held when a node had not moved yet
pub less_ahead : (captures : ℕ) (a b : Net) → SomeMoves a b → all_moved a ≤ all_most captures a → ahead captures b < ahead captures a
less_ahead captures a b moves within =
    ⊎_elim
    (λ (past : all_most captures b < all_moved b). none_left (all_most captures a) (all_moved a) (all_most captures b) (all_moved b) within past)
    (λ (bound : all_moved b ≤ all_most captures b). moves_lower captures a b moves bound)
    (cases_lt (all_most captures b) (all_moved b))
