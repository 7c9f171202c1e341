-- The pipeline is a network: its links raise the rank parser, grouper, processor, merge.
use Rattle.std.proofs.Common.{ℕ, ◌+◌, ◌-◌, ◌<◌, ◌≤◌, ◌≡◌, length, sym, subst, ⊎_elim, arith}
use Rattle.std.proofs.lemmas.Bool.{cases_lt}
use Rattle.round_law.specs.Links.{Sender, Receiver, AreJoined, ComesThrough}
use Rattle.round_law.specs.Waits.{in_at, out_at}
use Rattle.round_law.specs.Network.{Leads, IsNetwork}
use Rattle.round_law.specs.Pipeline.{Net, Place, parser_at, grouper_at, processor_at, node_of, IsIn, IsAlike, IsShaped, EachLink, JoinedComesThrough}
use Rattle.round_law.specs.Pipeline.Place.{Parser, Grouper, Processor, Merge}

abbrev pub rank_of : Place → ℕ
rank_of (Parser p) = 0
rank_of (Grouper g) = 1
rank_of (Processor q) = 2
rank_of Merge = 3

module _ (credits : ℕ) (net : Net) (shaped : IsShaped net) (linked : EachLink (AreJoined credits) net) where
  abbrev There : Place → Type 0
  There = IsIn net

  abbrev LeadsTo : Place → ℕ → Place → ℕ → Type 0
  LeadsTo = Leads (IsIn net) rank_of credits (node_of net)

  -- ---- the four kinds of link

  pub to_grouper : (p g : ℕ) → p < length net.parsers → g < length net.groupers → LeadsTo (Parser p) g (Grouper g) p
  to_grouper p g hp hg =
      let outs = shaped.parser_outs p hp in
      let ins = shaped.grouper_ins g hg in
      record { from = hp; out = omega arith; to = hg; into = omega arith; rises = omega arith; joined = linked.to_grouper p g hp hg }

  pub to_merge : (p : ℕ) → p < length net.parsers → LeadsTo (Parser p) (length net.groupers) Merge p
  to_merge p hp =
      let outs = shaped.parser_outs p hp in
      let ins = shaped.merge_ins in
      record { from = hp; out = omega arith; to = tt; into = omega arith; rises = omega arith; joined = linked.to_merge p hp }

  pub to_processor : (g q : ℕ) → g < length net.groupers → q < length net.processors → LeadsTo (Grouper g) q (Processor q) g
  to_processor g q hg hq =
      let outs = shaped.grouper_outs g hg in
      let ins = shaped.processor_ins q hq in
      record { from = hg; out = omega arith; to = hq; into = omega arith; rises = omega arith; joined = linked.to_processor g q hg hq }

  pub from_processor : (q : ℕ) → q < length net.processors → LeadsTo (Processor q) 0 Merge (length net.parsers + q)
  from_processor q hq =
      let outs = shaped.processor_outs q hq in
      let ins = shaped.merge_ins in
      record { from = hq; out = omega arith; to = tt; into = omega arith; rises = omega arith; joined = linked.from_processor q hq }

  -- ---- the network

  parser_leads : (p k : ℕ) → p < length net.parsers → k < length (parser_at net p).outs → (m : Place) × (j : ℕ) × LeadsTo (Parser p) k m j
  parser_leads p k hp less =
      let outs = shaped.parser_outs p hp in
      ⊎_elim
      (λ (early : k < length net.groupers). (Grouper k, p, to_grouper p k hp early))
      (λ (late : length net.groupers ≤ k).
      let last : length net.groupers ≡ k = omega arith in
      (Merge, p, subst (λ n. LeadsTo (Parser p) n Merge p) last (to_merge p hp)))
      (cases_lt k (length net.groupers))

  outs : (n : Place) → There n → (k : ℕ) → k < length (node_of net n).outs → (m : Place) × (j : ℕ) × LeadsTo n k m j
  outs (Parser p) there k less = parser_leads p k there less
  outs (Grouper g) there k less =
      let count = shaped.grouper_outs g there in
      (Processor k, g, to_processor g k there (omega arith))
  outs (Processor q) there k less =
      let count = shaped.processor_outs q there in
      let only : 0 ≡ k = omega arith in
      (Merge, length net.parsers + q, subst (λ n. LeadsTo (Processor q) n Merge (length net.parsers + q)) only (from_processor q there))
  outs Merge there k less = let count = shaped.merge_outs in absurd (omega arith)

  merge_comes : (j : ℕ) → j < length net.merge.ins → (n : Place) × (k : ℕ) × LeadsTo n k Merge j
  merge_comes j less =
      let ins = shaped.merge_ins in
      ⊎_elim
      (λ (early : j < length net.parsers). (Parser j, length net.groupers, to_merge j early))
      (λ (late : length net.parsers ≤ j).
      let within : j - length net.parsers < length net.processors = omega arith in
      let place : length net.parsers + (j - length net.parsers) ≡ j = omega arith in
      (Processor (j - length net.parsers), 0, subst (λ n. LeadsTo (Processor (j - length net.parsers)) 0 Merge n) place (from_processor (j - length net.parsers) within)))
      (cases_lt j (length net.parsers))

  ins : (m : Place) → There m → (j : ℕ) → j < length (node_of net m).ins → (n : Place) × (k : ℕ) × LeadsTo n k m j
  ins (Parser p) there j less = let count = shaped.parser_ins p there in absurd (omega arith)
  ins (Grouper g) there j less =
      let count = shaped.grouper_ins g there in
      (Parser j, g, to_grouper j g (omega arith) there)
  ins (Processor q) there j less =
      let count = shaped.processor_ins q there in
      (Grouper j, q, to_processor j q (omega arith) there)
  ins Merge there j less = merge_comes j less

  below_top : (n : Place) → There n → rank_of n < 4
  below_top (Parser p) there = omega arith
  below_top (Grouper g) there = omega arith
  below_top (Processor q) there = omega arith
  below_top Merge there = omega arith

  pub is_network : IsNetwork (IsIn net) rank_of credits (node_of net)
  is_network = record { top = 4; below = below_top; outs = outs; ins = ins }

-- what follows of the ends of a link follows of each link
pub each_link_as : (R S : Sender → Receiver → Type 0) → ((s : Sender) (r : Receiver) → R s r → S s r) → (net : Net) → EachLink R net → EachLink S net
each_link_as R S follows net each = record {
  to_grouper = λ p g hp hg. follows (out_at (parser_at net p) g) (in_at (grouper_at net g) p) (each.to_grouper p g hp hg);
  to_merge = λ p hp. follows (out_at (parser_at net p) (length net.groupers)) (in_at net.merge p) (each.to_merge p hp);
  to_processor = λ g q hg hq. follows (out_at (grouper_at net g) q) (in_at (processor_at net q) g) (each.to_processor g q hg hq);
  from_processor = λ q hq. follows (out_at (processor_at net q) 0) (in_at net.merge (length net.parsers + q)) (each.from_processor q hq);
}

pub joined_comes_through : (credits : ℕ) (net : Net) → JoinedComesThrough credits net
joined_comes_through credits net joined = each_link_as (AreJoined credits) ComesThrough (λ s r ends. (ends.ring, ends.through)) net joined

-- ---- pipelines alike

pub still_in : (a b : Net) → IsAlike a b → (place : Place) → IsIn a place → IsIn b place
still_in a b alike (Parser p) there = let same = alike.parsers in omega arith
still_in a b alike (Grouper g) there = let same = alike.groupers in omega arith
still_in a b alike (Processor q) there = let same = alike.processors in omega arith
still_in a b alike Merge there = tt

pub alike_back : (a b : Net) → IsAlike a b → IsAlike b a
alike_back a b alike = record { parsers = sym alike.parsers; groupers = sym alike.groupers; processors = sym alike.processors }
