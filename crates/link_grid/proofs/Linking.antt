-- The four grids of a pipeline, joined node by node.
use Rattle.std.proofs.Common.{ℕ, ◌+◌, ◌<◌, ◌≡◌, List, ◌++◌, length, get_or, sym, ap, ◌∙◌, subst, arith}
use Rattle.std.proofs.lemmas.List.{get_or_append_left, get_or-append-add, length-append}
use Rattle.ds_base.specs.Items.{Items}
use Rattle.node_lists.specs.Lists.{items_at}
use Rattle.credit_link.specs.Ends.{TxSeen, RxSeen}
use Rattle.link_grid.specs.Grids.{IsGrid, LinkStarts}
use Rattle.link_grid.specs.Pipelines.{AreJoined, AreLinksOf}
use Rattle.link_grid.specs.declared.grid.LinkGrid.{LinkGrid}
use Rattle.link_grid.specs.declared.pipeline.PipelineLinks.{PipelineLinks}

in_front : {X : Type 0} (xs ys zs : List X) (i : ℕ) (d : X) → zs ≡ xs ++ ys → i < length xs → get_or zs i d ≡ get_or xs i d
in_front {X = X} xs ys zs i d joined less = ap (λ (l : List X). get_or l i d) joined ∙ get_or_append_left xs ys d i less

behind : {X : Type 0} (xs ys zs : List X) (i k : ℕ) (d : X) → zs ≡ xs ++ ys → i ≡ length xs + k → get_or zs i d ≡ get_or ys k d
behind {X = X} xs ys zs i k d joined at = ap (λ (l : List X). get_or l i d) joined ∙ ap (λ j. get_or (xs ++ ys) j d) at ∙ get_or-append-add xs ys k d

module _ (credits parsers groupers processors : ℕ) (items counts groups answers : LinkGrid) (links : PipelineLinks) (j : AreJoined items counts groups answers links)
    (i : IsGrid credits parsers groupers items.txs.items items.rxs.items) (c : IsGrid credits parsers 1 counts.txs.items counts.rxs.items)
    (g : IsGrid credits groupers processors groups.txs.items groups.rxs.items) (a : IsGrid credits processors 1 answers.txs.items answers.rxs.items) where
  from_parsers : length (items_at counts.rxs.items 0) ≡ parsers
  from_parsers = c.ins 0 (omega arith)

  pub joined_links : AreLinksOf credits parsers groupers processors links
  joined_links = record {
    parser_lists = j.parser_outs.long ∙ i.sender_count;
    grouper_lists = (ap (λ (l : Items (Items RxSeen)). length l.items) j.grouper_ins ∙ i.receiver_count, ap (λ (l : Items (Items TxSeen)). length l.items) j.grouper_outs ∙ g.sender_count);
    processor_lists = (ap (λ (l : Items (Items RxSeen)). length l.items) j.processor_ins ∙ g.receiver_count, ap (λ (l : Items (Items TxSeen)). length l.items) j.processor_outs ∙ a.sender_count);
    merge_lists = j.merge_ins.long ∙ c.receiver_count;
    parser_outs = λ p less.
        let first : length (items_at items.txs.items p) ≡ groupers = i.outs p less in
        let last : length (items_at counts.txs.items p) ≡ 1 = c.outs p less in
        ap length (j.parser_outs.joined p) ∙ length-append (items_at items.txs.items p) (items_at counts.txs.items p) ∙ omega (arith, first, last);
    grouper_ins = λ k less. ap (λ (l : Items (Items RxSeen)). length (items_at l.items k)) j.grouper_ins ∙ i.ins k less;
    grouper_outs = λ k less. ap (λ (l : Items (Items TxSeen)). length (items_at l.items k)) j.grouper_outs ∙ g.outs k less;
    processor_ins = λ q less. ap (λ (l : Items (Items RxSeen)). length (items_at l.items q)) j.processor_ins ∙ g.ins q less;
    processor_outs = λ q less. ap (λ (l : Items (Items TxSeen)). length (items_at l.items q)) j.processor_outs ∙ a.outs q less;
    merge_ins =
        let last : length (items_at answers.rxs.items 0) ≡ processors = a.ins 0 (omega arith) in
        ap length (j.merge_ins.joined 0) ∙ length-append (items_at counts.rxs.items 0) (items_at answers.rxs.items 0) ∙ omega (arith, from_parsers, last);
    to_grouper = λ p k tx rx less there.
        subst (λ (t : TxSeen). LinkStarts credits t (get_or (items_at links.grouper_ins.items k) p rx))
        (sym (in_front (items_at items.txs.items p) (items_at counts.txs.items p) (items_at links.parser_outs.items p) k tx (j.parser_outs.joined p) (omega (arith, there, i.outs p less))))
        (subst (λ (l : Items (Items RxSeen)). LinkStarts credits (get_or (items_at items.txs.items p) k tx) (get_or (items_at l.items k) p rx)) (sym j.grouper_ins) (i.links p k tx rx less there));
    to_merge = λ p tx rx less.
        subst (λ (t : TxSeen). LinkStarts credits t (get_or (items_at links.merge_ins.items 0) p rx))
        (sym (behind (items_at items.txs.items p) (items_at counts.txs.items p) (items_at links.parser_outs.items p) groupers 0 tx (j.parser_outs.joined p) (omega (arith, i.outs p less))))
        (subst (λ (r : RxSeen). LinkStarts credits (get_or (items_at counts.txs.items p) 0 tx) r)
        (sym (in_front (items_at counts.rxs.items 0) (items_at answers.rxs.items 0) (items_at links.merge_ins.items 0) p rx (j.merge_ins.joined 0) (omega (arith, less, from_parsers))))
        (c.links p 0 tx rx less (omega arith)));
    to_processor = λ k q tx rx less there.
        subst (λ (l : Items (Items TxSeen)). LinkStarts credits (get_or (items_at l.items k) q tx) (get_or (items_at links.processor_ins.items q) k rx)) (sym j.grouper_outs)
        (subst (λ (l : Items (Items RxSeen)). LinkStarts credits (get_or (items_at groups.txs.items k) q tx) (get_or (items_at l.items q) k rx)) (sym j.processor_ins) (g.links k q tx rx less there));
    from_processor = λ q tx rx less.
        subst (λ (l : Items (Items TxSeen)). LinkStarts credits (get_or (items_at l.items q) 0 tx) (get_or (items_at links.merge_ins.items 0) (parsers + q) rx)) (sym j.processor_outs)
        (subst (λ (r : RxSeen). LinkStarts credits (get_or (items_at answers.txs.items q) 0 tx) r)
        (sym (behind (items_at counts.rxs.items 0) (items_at answers.rxs.items 0) (items_at links.merge_ins.items 0) (parsers + q) q rx (j.merge_ins.joined 0) (omega (arith, from_parsers))))
        (a.links q 0 tx rx less (omega arith)));
  }
