-- The start of a pipeline.
use Rattle.std.proofs.Common.{ℕ, ◌+◌, ◌*◌, ◌<◌, ◌≤◌, ◌≡◌, Bool, true, false, length, replicate, get_or, refl, sym, ap, subst, ◌∙◌, arith}
use Rattle.std.specs.Prelude.{All}
use Rattle.std.proofs.lemmas.List.{length-replicate, get_or-replicate}
use Rattle.round_law.specs.Links.{IsCounted, Sender, Receiver, new_sender, new_receiver, FinishIsLast, IsSender, IsReceiver, IsGranted, AreJoined}
use Rattle.round_law.specs.Waits.{Node, in_at, out_at}
use Rattle.round_law.specs.Rows.{IsOrderly, HasSoundEnds, OffersFew, taken_up, frames_beside}
use Rattle.round_law.specs.Pipeline.{Place, no_node, parser_at, grouper_at, processor_at, node_of, IsIn, IsShaped, EachLink, new_node, new_net, StartIsSound}
use Rattle.round_law.specs.Pipeline.Place.{Parser, Grouper, Processor, Merge}
use Rattle.round_law.specs.Measure.{ReadsFew, ReadsNone, StartIsLimited}
use Rattle.round_law.proofs.Ends.{start_is_sound}

-- ---- lists of one item again and again

at_each : {X : Type 0} (n : ℕ) (x d : X) (k : ℕ) → k < length (replicate n x) → get_or (replicate n x) k d ≡ x
at_each n x d k less = let count : length (replicate n x) ≡ n = length-replicate n x in get_or-replicate n k x d (omega arith)

of_each : {X : Type 0} (P : X → Type 0) (n : ℕ) (x : X) → P x → All P (replicate n x)
of_each P n x h k d less = subst P (sym (at_each n x d k less)) h

-- ---- a new node

module _ (credits : ℕ) where
  orderly : (ins outs : ℕ) (wrote_all : Bool) → IsOrderly (new_node credits ins outs wrote_all)
  orderly ins outs wrote_all = record {
    granted = of_each (λ (r : Receiver). IsCounted r.given → IsGranted r) ins (new_receiver credits) (λ few. refl);
    taken = of_each (λ (r : Receiver). FinishIsLast r.given) ins (new_receiver credits) tt;
    offered = of_each (λ (s : Sender). FinishIsLast s.offered) outs new_sender tt;
  }

  sound : (ins outs : ℕ) (wrote_all : Bool) → HasSoundEnds credits (new_node credits ins outs wrote_all)
  sound ins outs wrote_all = record {
    senders = of_each (λ (s : Sender). IsCounted s.offered → IsSender credits s) outs new_sender (λ few. (start_is_sound credits).sender);
    receivers = of_each IsReceiver ins (new_receiver credits) refl;
  }

  few : (ins outs : ℕ) (wrote_all : Bool) → OffersFew (new_node credits ins outs wrote_all)
  few ins outs wrote_all =
      of_each (λ (s : Sender). length s.offered ≤ 2 * taken_up (new_node credits ins outs wrote_all) + frames_beside) outs new_sender (omega arith)

  module _ (parsers groupers processors : ℕ) where
    abbrev parser : Node
    parser = new_node credits 0 (groupers + 1) true

    abbrev grouper : Node
    grouper = new_node credits parsers processors true

    abbrev processor : Node
    processor = new_node credits groupers 1 true

    abbrev merge : Node
    merge = new_node credits (parsers + processors) 0 false

    -- what holds of a new node of each kind holds at each place
    at_place : (P : Node → Type 0) → P parser → P grouper → P processor → P merge → (place : Place) → IsIn (new_net credits parsers groupers processors) place
        → P (node_of (new_net credits parsers groupers processors) place)
    at_place P hp hg hq hm (Parser p) there = subst P (sym (at_each parsers parser no_node p there)) hp
    at_place P hp hg hq hm (Grouper g) there = subst P (sym (at_each groupers grouper no_node g there)) hg
    at_place P hp hg hq hm (Processor q) there = subst P (sym (at_each processors processor no_node q there)) hq
    at_place P hp hg hq hm Merge there = hm

    -- a node at a place is a new one
    is_parser : (p : ℕ) → p < length (replicate parsers parser) → parser_at (new_net credits parsers groupers processors) p ≡ parser
    is_parser p there = at_each parsers parser no_node p there

    is_grouper : (g : ℕ) → g < length (replicate groupers grouper) → grouper_at (new_net credits parsers groupers processors) g ≡ grouper
    is_grouper g there = at_each groupers grouper no_node g there

    is_processor : (q : ℕ) → q < length (replicate processors processor) → processor_at (new_net credits parsers groupers processors) q ≡ processor
    is_processor q there = at_each processors processor no_node q there

    shaped : IsShaped (new_net credits parsers groupers processors)
    shaped = record {
      parser_ins = λ p there. ap (λ (n : Node). length n.ins) (is_parser p there) ∙ length-replicate 0 (new_receiver credits);
      parser_outs = λ p there. ap (λ (n : Node). length n.outs) (is_parser p there) ∙ length-replicate (groupers + 1) new_sender ∙ ap (λ n. n + 1) (sym (length-replicate groupers grouper));
      grouper_ins = λ g there. ap (λ (n : Node). length n.ins) (is_grouper g there) ∙ length-replicate parsers (new_receiver credits) ∙ sym (length-replicate parsers parser);
      grouper_outs = λ g there. ap (λ (n : Node). length n.outs) (is_grouper g there) ∙ length-replicate processors new_sender ∙ sym (length-replicate processors processor);
      processor_ins = λ q there. ap (λ (n : Node). length n.ins) (is_processor q there) ∙ length-replicate groupers (new_receiver credits) ∙ sym (length-replicate groupers grouper);
      processor_outs = λ q there. ap (λ (n : Node). length n.outs) (is_processor q there) ∙ length-replicate 1 new_sender;
      merge_ins =
          length-replicate (parsers + processors) (new_receiver credits) ∙ ap (λ n. n + processors) (sym (length-replicate parsers parser))
          ∙ ap (λ n. length (replicate parsers parser) + n) (sym (length-replicate processors processor));
      merge_outs = length-replicate 0 new_sender;
    }

    -- ends that are new
    new_joined : 0 < credits → (s : Sender) (r : Receiver) → s ≡ new_sender → r ≡ new_receiver credits → AreJoined credits s r
    new_joined some s r hs hr =
        subst (λ (t : Receiver). AreJoined credits s t) (sym hr) (subst (λ (t : Sender). AreJoined credits t (new_receiver credits)) (sym hs) ((start_is_sound credits).joined some))

    new_out : (ins outs : ℕ) (wrote_all : Bool) (node : Node) (k : ℕ) → node ≡ new_node credits ins outs wrote_all → k < outs → out_at node k ≡ new_sender
    new_out ins outs wrote_all node k e less = ap (λ (n : Node). out_at n k) e ∙ get_or-replicate outs k new_sender new_sender less

    new_in : (ins outs : ℕ) (wrote_all : Bool) (node : Node) (j : ℕ) → node ≡ new_node credits ins outs wrote_all → j < ins → in_at node j ≡ new_receiver credits
    new_in ins outs wrote_all node j e less = ap (λ (n : Node). in_at n j) e ∙ get_or-replicate ins j (new_receiver credits) (new_receiver 0) less

    linked : 0 < credits → EachLink (AreJoined credits) (new_net credits parsers groupers processors)
    linked some = record {
      to_grouper = λ p g hp hg.
          let cp = length-replicate parsers parser in
          let cg = length-replicate groupers grouper in
          new_joined some (out_at (parser_at (new_net credits parsers groupers processors) p) g) (in_at (grouper_at (new_net credits parsers groupers processors) g) p)
          (new_out 0 (groupers + 1) true (parser_at (new_net credits parsers groupers processors) p) g (is_parser p hp) (omega arith))
          (new_in parsers processors true (grouper_at (new_net credits parsers groupers processors) g) p (is_grouper g hg) (omega arith));
      to_merge = λ p hp.
          let cp = length-replicate parsers parser in
          let cg = length-replicate groupers grouper in
          new_joined some (out_at (parser_at (new_net credits parsers groupers processors) p) (length (replicate groupers grouper))) (in_at merge p)
          (new_out 0 (groupers + 1) true (parser_at (new_net credits parsers groupers processors) p) (length (replicate groupers grouper)) (is_parser p hp) (omega arith))
          (new_in (parsers + processors) 0 false merge p refl (omega arith));
      to_processor = λ g q hg hq.
          let cg = length-replicate groupers grouper in
          let cq = length-replicate processors processor in
          new_joined some (out_at (grouper_at (new_net credits parsers groupers processors) g) q) (in_at (processor_at (new_net credits parsers groupers processors) q) g)
          (new_out parsers processors true (grouper_at (new_net credits parsers groupers processors) g) q (is_grouper g hg) (omega arith))
          (new_in groupers 1 true (processor_at (new_net credits parsers groupers processors) q) g (is_processor q hq) (omega arith));
      from_processor = λ q hq.
          let cp = length-replicate parsers parser in
          let cq = length-replicate processors processor in
          new_joined some (out_at (processor_at (new_net credits parsers groupers processors) q) 0) (in_at merge (length (replicate parsers parser) + q))
          (new_out groupers 1 true (processor_at (new_net credits parsers groupers processors) q) 0 (is_processor q hq) (omega arith))
          (new_in (parsers + processors) 0 false merge (length (replicate parsers parser) + q) refl (omega arith));
    }

pub new_is_sound : (credits parsers groupers processors : ℕ) → StartIsSound credits parsers groupers processors
new_is_sound credits parsers groupers processors some = (
  record {
    shaped = shaped credits parsers groupers processors;
    orderly = at_place credits parsers groupers processors IsOrderly (orderly credits 0 (groupers + 1) true) (orderly credits parsers processors true) (orderly credits groupers 1 true)
        (orderly credits (parsers + processors) 0 false);
    ends = at_place credits parsers groupers processors (HasSoundEnds credits) (sound credits 0 (groupers + 1) true) (sound credits parsers processors true) (sound credits groupers 1 true)
        (sound credits (parsers + processors) 0 false);
  },
  linked credits parsers groupers processors some,
)

pub new_is_limited : (captures credits parsers groupers processors : ℕ) → StartIsLimited captures credits parsers groupers processors
new_is_limited captures credits parsers groupers processors = record {
  parsers = λ p there. subst (ReadsFew captures) (sym (is_parser credits parsers groupers processors p there)) (record { read = omega arith; records = omega arith });
  groupers = λ g there. subst ReadsNone (sym (is_grouper credits parsers groupers processors g there)) (record { read = refl; records = refl });
  processors = λ q there. subst ReadsNone (sym (is_processor credits parsers groupers processors q there)) (record { read = refl; records = refl });
  merge = record { read = refl; records = refl };
  few = at_place credits parsers groupers processors OffersFew (few credits 0 (groupers + 1) true) (few credits parsers processors true) (few credits groupers 1 true)
      (few credits (parsers + processors) 0 false);
}
