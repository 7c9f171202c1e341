-- A grid grows by one sender, link by link.
use Rattle.std.proofs.Common.{ℕ, ◌+◌, ◌<◌, ◌≡◌, List, [], ◌∷◌, ◌++◌, length, get_or, refl, sym, ap, ◌∙◌, subst, arith, ⊎_elim, ◌⊎◌}
use Rattle.std.proofs.lemmas.List.{get_or_append_left, get_or_push, length_push}
use Rattle.ds_base.specs.Items.{Items}
use Rattle.credit_link.specs.Ends.{TxSeen, RxSeen}
use Rattle.node_lists.specs.Lists.{AppendsAt, AreEmpty, items_at}
use Rattle.node_lists.proofs.Joining.{front_list, last_list}
use Rattle.link_grid.specs.Grids.{IsGrid, IsRow, LinkStarts, Receives}

below_or_last : (k n : ℕ) → k < n + 1 → (k < n) ⊎ (k ≡ n)
below_or_last k n less = grind arith

-- ---- one link more

pub no_row : (credits : ℕ) (before : List (Items RxSeen)) (row : List TxSeen) → row ≡ [] → IsRow credits 0 before before row
no_row credits before row none = record { receivers = refl; outs = ap length none; put = λ j less. absurd (omega arith); later = λ j past. refl }

pub row_more : (credits n : ℕ) (before mid after : List (Items RxSeen)) (row row' : List TxSeen) (tx : TxSeen) (rx : RxSeen) → IsRow credits n before mid row
    → AppendsAt mid after n (rx ∷ []) → LinkStarts credits tx rx → row' ≡ row ++ tx ∷ [] → IsRow credits (n + 1) before after row'
row_more credits n before mid after row row' tx rx is app starts pushed = record {
  receivers = app.long ∙ is.receivers;
  outs = ap length pushed ∙ length_push row tx ∙ ap (λ m. m + 1) is.outs;
  put = λ j less.
      ⊎_elim
      (λ (first : j < n).
      let r : Receives credits row j (items_at before j) (items_at mid j) = is.put j first in
      record {
        rx = r.rx;
        put = app.others j (omega (arith, first)) ∙ r.put;
        starts = λ d.
            subst (λ (l : TxSeen). LinkStarts credits l r.rx) (sym (ap (λ (l : List TxSeen). get_or l j d) pushed ∙ get_or_append_left row (tx ∷ []) d j (omega (arith, first, is.outs)))) (r.starts d);
      })
      (λ (last : j ≡ n).
      subst (λ (m : ℕ). Receives credits row' m (items_at before m) (items_at after m)) (sym last)
      (record {
        rx = rx;
        put = app.here ∙ ap (λ (l : List RxSeen). l ++ rx ∷ []) (is.later n (omega arith));
        starts = λ d. subst (λ (l : TxSeen). LinkStarts credits l rx) (sym (ap (λ (l : List TxSeen). get_or l n d) pushed ∙ get_or_push row tx d n is.outs)) starts;
      }))
      (below_or_last j n less);
  later = λ j past. app.others j (omega (arith, past)) ∙ is.later j (omega (arith, past));
}

-- ---- one sender more

pub no_senders : (credits receivers : ℕ) (txs : List (Items TxSeen)) (rxs : List (Items RxSeen)) → txs ≡ [] → AreEmpty receivers rxs → IsGrid credits 0 receivers txs rxs
no_senders credits receivers txs rxs none are = record {
  sender_count = ap length none;
  receiver_count = are.long;
  outs = λ i less. absurd (omega arith);
  ins = λ j less. ap length (are.none j);
  links = λ i j tx rx less there. absurd (omega arith);
}

pub sender_more : (credits n receivers : ℕ) (txs txs' : List (Items TxSeen)) (rxs rxs' : List (Items RxSeen)) (row : Items TxSeen) → IsGrid credits n receivers txs rxs
    → IsRow credits receivers rxs rxs' row.items → txs' ≡ txs ++ row ∷ [] → IsGrid credits (n + 1) receivers txs' rxs'
sender_more credits n receivers txs txs' rxs rxs' row grid is pushed = record {
  sender_count = ap length pushed ∙ length_push txs row ∙ ap (λ m. m + 1) grid.sender_count;
  receiver_count = is.receivers ∙ grid.receiver_count;
  outs = λ i less.
      ⊎_elim
      (λ (first : i < n). ap length (before i first) ∙ grid.outs i first)
      (λ (last : i ≡ n). ap length (here i last) ∙ is.outs)
      (below_or_last i n less);
  ins = λ j there.
      let r : Receives credits row.items j (items_at rxs j) (items_at rxs' j) = is.put j there in
      ap length r.put ∙ length_push (items_at rxs j) r.rx ∙ ap (λ m. m + 1) (grid.ins j there);
  links = λ i j tx rx less there.
      let r : Receives credits row.items j (items_at rxs j) (items_at rxs' j) = is.put j there in
      ⊎_elim
      (λ (first : i < n).
      subst (λ (l : RxSeen). LinkStarts credits (get_or (items_at txs' i) j tx) l)
      (sym (ap (λ (l : List RxSeen). get_or l i rx) r.put ∙ get_or_append_left (items_at rxs j) (r.rx ∷ []) rx i (omega (arith, first, grid.ins j there))))
      (subst (λ (l : List TxSeen). LinkStarts credits (get_or l j tx) (get_or (items_at rxs j) i rx)) (sym (before i first)) (grid.links i j tx rx first there)))
      (λ (last : i ≡ n).
      subst (λ (l : RxSeen). LinkStarts credits (get_or (items_at txs' i) j tx) l)
      (sym (ap (λ (l : List RxSeen). get_or l i rx) r.put ∙ get_or_push (items_at rxs j) r.rx rx i (grid.ins j there ∙ sym last)))
      (subst (λ (l : List TxSeen). LinkStarts credits (get_or l j tx) r.rx) (sym (here i last)) (r.starts tx)))
      (below_or_last i n less);
}
  where
    before : (i : ℕ) → i < n → items_at txs' i ≡ items_at txs i
    before i first = front_list txs txs' row i pushed (omega (arith, first, grid.sender_count))

    here : (i : ℕ) → i ≡ n → items_at txs' i ≡ row.items
    here i last = last_list txs txs' row i pushed (grid.sender_count ∙ sym last)
