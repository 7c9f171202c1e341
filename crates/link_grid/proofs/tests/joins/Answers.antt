-- The end of sender i to receiver j has not put its Finish.
use Rattle.std.proofs.Common.{ℕ, ◌≡◌, ◌<◌, false, List, get_or, ap, sym, ◌∙◌}
use Rattle.std.proofs.lemmas.Option.{get_or_from_slice_get}
use Rattle.ds_base.specs.Items.{Items}
use Rattle.credit_link.specs.Ends.{TxSeen, RxSeen}
use Rattle.node_lists.specs.Lists.{items_at, no_list}
use Rattle.link_grid.specs.Grids.{IsGrid}
use Rattle.link_grid.proofs.tests.joins.Goals as goal

unfinished : (txs : List (Items TxSeen)) (rxs : List (Items RxSeen)) (i j : ℕ) (row : Items TxSeen) (tx : TxSeen) (rx : RxSeen) → IsGrid 16 2 3 txs rxs → i < 2 → j < 3
    → get_or txs i no_list ≡ row → get_or row.items j tx ≡ tx → tx.finished ≡ false
unfinished txs rxs i j row tx rx grid less there is_row is_tx =
    let same : get_or (items_at txs i) j tx ≡ tx = ap (λ (l : Items TxSeen). get_or l.items j tx) is_row ∙ is_tx in
    ap (λ (l : TxSeen). l.finished) (sym same) ∙ ap (λ (l : TxSeen). l.finished) (grid.links i j tx rx less there).new.sending

pub comes_through-requires : goal.comes_through-requires
comes_through-requires c =
    unfinished c.in_ok-grid.grid.txs.items c.in_ok-grid.grid.rxs.items c.args.i c.args.j c.get_mut-row.result.now c.get_mut.result.now c.get_mut-2.result.now c.in_ok-grid.ensures c.requires.0 c.requires.1
    (get_or_from_slice_get c.in_ok-grid.grid.txs.items c.args.i c.get_mut-row.result.now no_list c.get_mut-row.ensures.value)
    (get_or_from_slice_get c.get_mut-row.result.now.items c.args.j c.get_mut.result.now c.get_mut.result.now c.get_mut.ensures.value)
