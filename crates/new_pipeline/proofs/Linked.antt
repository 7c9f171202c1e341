-- The links of each node of a new pipeline are new.
use Rattle.std.proofs.Common.{ℕ, ◌+◌, ◌-◌, ◌<◌, ◌≤◌, ◌≡◌, All, length, get_or, sym, subst, arith, ⊎_elim, ◌⊎◌}
use Rattle.node_lists.specs.Lists.{items_at}
use Rattle.credit_link.specs.Ends.{TxSeen, RxSeen}
use Rattle.link_grid.specs.Grids.{LinkStarts}
use Rattle.link_grid.specs.Pipelines.{AreLinksOf}
use Rattle.link_grid.specs.declared.pipeline.PipelineLinks.{PipelineLinks}
use Rattle.net_law.specs.Ends.{tx_at, no_tx, no_rx}
use Rattle.net_law.specs.Nets.{AreEnds}
use Rattle.net_law.specs.Starts.{IsNewTx, IsNewRx, NewLinkStarts}
use Rattle.net_law.proofs.Starts.{new_links_start}
use Rattle.node_layers.specs.Layers.{AreParserLinks, AreGrouperLinks, AreProcessorLinks}

starts : (credits : ℕ) (tx : TxSeen) (rx : RxSeen) → LinkStarts credits tx rx → NewLinkStarts credits tx rx
starts credits tx rx s = new_links_start credits tx rx s.new s.receiving

pub are_ends : (credits : ℕ) (tx : TxSeen) (rx : RxSeen) → LinkStarts credits tx rx → AreEnds credits tx rx
are_ends credits tx rx s = (starts credits tx rx s).ends

below_or_last : (k n : ℕ) → k < n + 1 → (k < n) ⊎ (k ≡ n)
below_or_last k n less = grind arith

below_or_behind : (k n : ℕ) → (k < n) ⊎ (n ≤ k)
below_or_behind k n = grind arith

module _ (credits parsers groupers processors : ℕ) (links : PipelineLinks) (are : AreLinksOf credits parsers groupers processors links) where
  -- ---- the credits of the first link out

  pub parser_credits : (p : ℕ) → p < parsers → 0 < groupers → (tx_at (items_at links.parser_outs.items p) 0).credits ≡ credits
  parser_credits p less some = (starts credits _ _ (are.to_grouper p 0 no_tx no_rx less some)).sending.credits

  pub grouper_credits : (g : ℕ) → g < groupers → 0 < processors → (tx_at (items_at links.grouper_outs.items g) 0).credits ≡ credits
  grouper_credits g less some = (starts credits _ _ (are.to_processor g 0 no_tx no_rx less some)).sending.credits

  pub processor_credits : (q : ℕ) → q < processors → (tx_at (items_at links.processor_outs.items q) 0).credits ≡ credits
  processor_credits q less = (starts credits _ _ (are.from_processor q no_tx no_rx less)).sending.credits

  -- ---- the links of each node

  pub parser_links : (p : ℕ) → p < parsers → 0 < groupers → AreParserLinks groupers (items_at links.parser_outs.items p)
  parser_links p less some = record {
    count = are.parser_outs p less;
    new_outs = subst (λ (n : ℕ). All (IsNewTx n) (items_at links.parser_outs.items p)) (sym (parser_credits p less some)) outs;
  }
    where
      outs : All (IsNewTx credits) (items_at links.parser_outs.items p)
      outs k d there =
          ⊎_elim
          (λ (first : k < groupers). (starts credits _ _ (are.to_grouper p k d no_rx less first)).sending)
          (λ (last : k ≡ groupers). subst (λ (n : ℕ). IsNewTx credits (get_or (items_at links.parser_outs.items p) n d)) (sym last) (starts credits _ _ (are.to_merge p d no_rx less)).sending)
          (below_or_last k groupers (omega (arith, there, are.parser_outs p less)))

  pub grouper_links : (g : ℕ) → g < groupers → (1 ≤ parsers) × (parsers ≤ 16) → (1 ≤ processors) × (processors ≤ 16)
      → AreGrouperLinks (items_at links.grouper_ins.items g) (items_at links.grouper_outs.items g)
  grouper_links g less few few_out =
      let ins : length (items_at links.grouper_ins.items g) ≡ parsers = are.grouper_ins g less in
      let outs : length (items_at links.grouper_outs.items g) ≡ processors = are.grouper_outs g less in
      let same : credits ≡ (tx_at (items_at links.grouper_outs.items g) 0).credits = sym (grouper_credits g less (omega (arith, few_out))) in
      record {
        ins_few = (omega (arith, ins, few.0), omega (arith, ins, few.1));
        outs_few = (omega (arith, outs, few_out.0), omega (arith, outs, few_out.1));
        new_ins = subst (λ (n : ℕ). All (IsNewRx n) (items_at links.grouper_ins.items g)) same (λ p d there. (starts credits _ _ (are.to_grouper p g no_tx d (omega (arith, there, ins)) less)).receiving);
        new_outs = subst (λ (n : ℕ). All (IsNewTx n) (items_at links.grouper_outs.items g)) same (λ q d there. (starts credits _ _ (are.to_processor g q d no_rx less (omega (arith, there, outs)))).sending);
      }

  pub processor_links : (q : ℕ) → q < processors → (1 ≤ groupers) × (groupers ≤ 16) → AreProcessorLinks (items_at links.processor_ins.items q) (items_at links.processor_outs.items q)
  processor_links q less few =
      let ins : length (items_at links.processor_ins.items q) ≡ groupers = are.processor_ins q less in
      let same : credits ≡ (tx_at (items_at links.processor_outs.items q) 0).credits = sym (processor_credits q less) in
      record {
        ins_few = (omega (arith, ins, few.0), omega (arith, ins, few.1));
        one_out = are.processor_outs q less;
        new_ins = subst (λ (n : ℕ). All (IsNewRx n) (items_at links.processor_ins.items q)) same (λ g d there. (starts credits _ _ (are.to_processor g q no_tx d (omega (arith, there, ins)) less)).receiving);
        new_outs = subst (λ (n : ℕ). All (IsNewTx n) (items_at links.processor_outs.items q)) same (one_link (are.processor_outs q less));
      }
    where
      one_link : length (items_at links.processor_outs.items q) ≡ 1 → All (IsNewTx credits) (items_at links.processor_outs.items q)
      one_link one k d there =
          let first : k ≡ 0 = omega (arith, there, one) in
          subst (λ (n : ℕ). IsNewTx credits (get_or (items_at links.processor_outs.items q) n d)) (sym first) (starts credits _ _ (are.from_processor q d no_rx less)).sending

  pub merge_links : All (IsNewRx credits) (items_at links.merge_ins.items 0)
  merge_links j d there =
      ⊎_elim
      (λ (first : j < parsers). (starts credits _ _ (are.to_merge j no_tx d first)).receiving)
      (λ (behind : parsers ≤ j).
      let at : parsers + (j - parsers) ≡ j = omega (arith, behind) in
      let inside : j - parsers < processors = omega (arith, behind, there, are.merge_ins) in
      subst (λ (n : ℕ). IsNewRx credits (get_or (items_at links.merge_ins.items 0) n d)) at (starts credits _ _ (are.from_processor (j - parsers) no_tx d inside)).receiving)
      (below_or_behind j parsers)
