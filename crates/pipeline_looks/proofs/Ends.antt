-- The ends of links that were shown their rings, as the laws of a pipeline see them.
use Rattle.std.proofs.Common.{ℕ, zero, suc, ◌+◌, ◌-◌, ◌<◌, ◌≤◌, ◌≡◌, List, [], ◌∷◌, length, get_or, refl, sym, ap, ◌∙◌, subst, arith, ⊎_elim, inl, inr, zero-add}
use Rattle.std.proofs.Math.Nat.{le_trans}
use Rattle.std.proofs.lemmas.List.{length-set}
use Rattle.byte_rings.specs.Rings.{Looks, IsOnRing}
use Rattle.ds_base.specs.Pipes.{PipeSeen}
use Rattle.credit_link.specs.Ends.{TxSeen, RxSeen}
use Rattle.credit_link.specs.Joined.{AreOneLink}
use Rattle.shuffle_poll.specs.Shuffles.{ShuffleSeen, Shows}
use Rattle.node_lanes.specs.Lending.{ShowsOut}
use Rattle.net_law.specs.Ends.{no_tx, no_rx, tx_at, rx_at}
use Rattle.net_law.specs.Steps.{TxLooked, RxLooked, InsLooked, OutsLooked, AreLooked}
use Rattle.net_law.proofs.Turned.{at_or_other}
use Rattle.pipeline_looks.specs.Links.{AreOnRings, OthersStay, ShowsLinks}
use Rattle.pipeline_looks.proofs.Showing.{before_or_not, beside_set}

-- ---- items of lists

-- an item that is there, whatever stands for one that is not
pub there_is : {X : Type 0} (xs : List X) (i : ℕ) (d e : X) → i < length xs → get_or xs i d ≡ get_or xs i e
there_is [] i d e less = absurd (omega (arith, less))
there_is (x ∷ xs) zero d e less = refl
there_is (x ∷ xs) (suc i) d e less = there_is xs i d e (omega (arith, less))

some_of : {X : Type 0} (xs : List X) (i : ℕ) → i < length xs → X
some_of [] i less = absurd (omega (arith, less))
some_of (x ∷ xs) i less = x

-- ---- one end

looks_same : (end : PipeSeen) → Looks end end
looks_same end = record { told = refl; bytes = refl; faults = refl; silent = refl; sure = omega arith }

pub looks_on : (a b c : PipeSeen) → Looks a b → Looks b c → Looks a c
looks_on a b c f g = record {
  told = g.told ∙ f.told;
  bytes = g.bytes ∙ f.bytes;
  faults = g.faults ∙ f.faults;
  silent = g.silent ∙ f.silent;
  sure = le_trans f.sure g.sure;
}

pub tx_same : (l : TxSeen) → TxLooked l l
tx_same l = record { same = refl; forth = looks_same l.forth; back = looks_same l.back }

rx_same : (l : RxSeen) → RxLooked l l
rx_same l = record { same = refl; forth = looks_same l.forth; back = looks_same l.back }

rx_on : (a b c : RxSeen) → RxLooked a b → RxLooked b c → RxLooked a c
rx_on a b c f g = record {
  same = g.same ∙ ap (λ (l : RxSeen). record l { forth = c.forth; back = c.back }) f.same;
  forth = looks_on a.forth b.forth c.forth f.forth g.forth;
  back = looks_on a.back b.back c.back f.back g.back;
}

-- ---- one link

-- both ends of a link that were shown its rings are sure of all that lies in them
pub are_looked : (number : ℕ) (tx tx' : TxSeen) (rx rx' : RxSeen) → AreOnRings number tx rx → Shows tx tx' rx rx' → AreLooked number tx' rx'
are_looked number tx tx' rx rx' ends shows = record {
  bytes = subst (λ (n : ℕ). IsOnRing n tx'.forth rx'.forth) (ap (λ (l : TxSeen). l.forth_name.capacity) shows.sending ∙ ends.data_places) shows.data_ring;
  credits = subst (λ (n : ℕ). IsOnRing n rx'.back tx'.back) (ap (λ (l : TxSeen). l.back_name.capacity) shows.sending ∙ ends.credit_places) shows.credit_ring;
  calm = shows.calm;
}

-- ---- all links of a node

pub outs_looked : (before after : ShuffleSeen) (link : ℕ) (rx rx' : RxSeen) → ShowsOut before after link rx rx' → OutsLooked before after
outs_looked before after link rx rx' shown =
    let here = shown.shows no_tx in
    record {
      as_many = ap (λ (ls : List TxSeen). length ls) (shown.links no_tx) ∙ length-set before.links link (tx_at after.links link);
      queues = shown.queues;
      each = λ k.
          at_or_other (λ (n : ℕ). TxLooked (tx_at before.links n) (tx_at after.links n)) link k
          (record { same = here.sending; forth = here.tx_looks.0; back = here.tx_looks.1 })
          (λ differs. subst (λ (l : TxSeen). TxLooked (tx_at before.links k) l) (sym (beside_set before.links after.links link k no_tx (shown.links no_tx) differs)) (tx_same (tx_at before.links k)));
    }

-- and of the others nothing changed
pub others_stay : (before after : ShuffleSeen) (link : ℕ) (rx rx' : RxSeen) → ShowsOut before after link rx rx' → OthersStay link before after
others_stay before after link rx rx' shown k differs = beside_set before.links after.links link k no_tx (shown.links no_tx) differs

pub outs_same : (outs : ShuffleSeen) → OutsLooked outs outs
outs_same outs = record { as_many = refl; queues = refl; each = λ k. tx_same (tx_at outs.links k) }

pub ins_same : (ins : List RxSeen) → InsLooked ins ins
ins_same ins = record { as_many = refl; each = λ j. rx_same (rx_at ins j) }

pub ins_on : (a b c : List RxSeen) → InsLooked a b → InsLooked b c → InsLooked a c
ins_on a b c f g = record { as_many = g.as_many ∙ f.as_many; each = λ j. rx_on (rx_at a j) (rx_at b j) (rx_at c j) (f.each j) (g.each j) }

-- ---- the links of many senders

module _ (S : Type 0) (outs : S → ShuffleSeen) (Lends : S → S → Type 0) (first link : ℕ) (senders senders' : List S) (ins ins' : List RxSeen) where
  pub ins_looked : ShowsLinks S outs Lends first link (length senders) senders senders' ins ins' → InsLooked ins ins'
  ins_looked shows = record { as_many = shows.as_many.1; each = each }
    where
      left : (j : ℕ) → rx_at ins' j ≡ rx_at ins j → RxLooked (rx_at ins j) (rx_at ins' j)
      left j same = subst (λ (r : RxSeen). RxLooked (rx_at ins j) r) (sym same) (rx_same (rx_at ins j))

      shown : (i : ℕ) → i < length senders → RxLooked (rx_at ins (first + i)) (rx_at ins' (first + i))
      shown i less =
          let here = (shows.shown i (some_of senders i less) no_rx less).shows no_tx in
          record { same = here.receiving; forth = here.rx_looks.0; back = here.rx_looks.1 }

      each : (j : ℕ) → RxLooked (rx_at ins j) (rx_at ins' j)
      each j =
          ⊎_elim
          (λ (below : j < first). left j (shows.other_ins j no_rx (inl below)))
          (λ (from : first ≤ j).
          ⊎_elim
          (λ (within : j < first + length senders).
          let at : first + (j - first) ≡ j = omega (arith, from) in
          subst (λ (n : ℕ). RxLooked (rx_at ins n) (rx_at ins' n)) at (shown (j - first) (omega (arith, from, within))))
          (λ (past : first + length senders ≤ j). left j (shows.other_ins j no_rx (inr past)))
          (before_or_not j (first + length senders)))
          (before_or_not j first)

  module _ (number : ℕ) (ends : (i : ℕ) (s : S) → i < length senders → AreOnRings number (tx_at (outs (get_or senders i s)).links link) (rx_at ins (first + i))) where
    pub each_looked : ShowsLinks S outs Lends first link (length senders) senders senders' ins ins' → (i : ℕ) (s : S) → i < length senders
        → AreLooked number (tx_at (outs (get_or senders' i s)).links link) (rx_at ins' (first + i))
    each_looked shows i s less =
        are_looked number (tx_at (outs (get_or senders i s)).links link) (tx_at (outs (get_or senders' i s)).links link) (rx_at ins (first + i)) (rx_at ins' (first + i))
        (ends i s less) ((shows.shown i s no_rx less).shows no_tx)

    -- the ends of each are those of one link, whatever stands for an end that is not there
    pub each_one : ((i : ℕ) (s : S) → i < length senders → link < length (outs (get_or senders i s)).links) → first + length senders ≤ length ins
        → (i : ℕ) (s : S) (d : TxSeen) (e : RxSeen) → i < length senders → AreOneLink (get_or (outs (get_or senders i s)).links link d) (get_or ins (first + i) e)
    each_one there room i s d e less =
        let links = (outs (get_or senders i s)).links in
        subst (λ (r : RxSeen). AreOneLink (get_or links link d) r) (there_is ins (first + i) no_rx e (omega (arith, less, room)))
        (subst (λ (l : TxSeen). AreOneLink l (rx_at ins (first + i))) (there_is links link no_tx d (there i s less)) (ends i s less).one)

-- the links in of the senders are the first ones
module _ (S : Type 0) (outs : S → ShuffleSeen) (Lends : S → S → Type 0) (link : ℕ) (senders senders' : List S) (ins ins' : List RxSeen) (number : ℕ) where
  pub first_looked : ((i : ℕ) (s : S) → i < length senders → AreOnRings number (tx_at (outs (get_or senders i s)).links link) (rx_at ins i))
      → ShowsLinks S outs Lends 0 link (length senders) senders senders' ins ins' → (i : ℕ) (s : S) → i < length senders
      → AreLooked number (tx_at (outs (get_or senders' i s)).links link) (rx_at ins' i)
  first_looked ends shows i s less =
      subst (λ (n : ℕ). AreLooked number (tx_at (outs (get_or senders' i s)).links link) (rx_at ins' n)) (zero-add i)
      (each_looked S outs Lends 0 link senders senders' ins ins' number
      (λ k x within. subst (λ (n : ℕ). AreOnRings number (tx_at (outs (get_or senders k x)).links link) (rx_at ins n)) (sym (zero-add k)) (ends k x within)) shows i s less)

  pub first_one : ((i : ℕ) (s : S) → i < length senders → AreOnRings number (tx_at (outs (get_or senders i s)).links link) (rx_at ins i))
      → ((i : ℕ) (s : S) → i < length senders → link < length (outs (get_or senders i s)).links) → length senders ≤ length ins
      → (i : ℕ) (s : S) (d : TxSeen) (e : RxSeen) → i < length senders → AreOneLink (get_or (outs (get_or senders i s)).links link d) (get_or ins (0 + i) e)
  first_one ends there room =
      each_one S outs Lends 0 link senders senders' ins ins' number
      (λ k x within. subst (λ (n : ℕ). AreOnRings number (tx_at (outs (get_or senders k x)).links link) (rx_at ins n)) (sym (zero-add k)) (ends k x within)) there (omega (arith, room))

-- ---- two looks at links into one node

module _ (S : Type 0) (outs : S → ShuffleSeen) (Lends : S → S → Type 0) (link first number : ℕ) (senders senders' : List S) (ins mid after : List RxSeen) where
  -- the second left the first links alone, at which the first looked
  pub front_looked : length senders ≤ first → ((j : ℕ) (d : RxSeen) → j < first → get_or after j d ≡ get_or mid j d)
      → ((i : ℕ) (s : S) → i < length senders → AreOnRings number (tx_at (outs (get_or senders i s)).links link) (rx_at ins i))
      → ShowsLinks S outs Lends 0 link (length senders) senders senders' ins mid → (i : ℕ) (s : S) → i < length senders
      → AreLooked number (tx_at (outs (get_or senders' i s)).links link) (rx_at after i)
  front_looked few same ends shows i s less =
      subst (λ (r : RxSeen). AreLooked number (tx_at (outs (get_or senders' i s)).links link) r) (sym (same i no_rx (omega (arith, few, less))))
      (first_looked S outs Lends link senders senders' ins mid number ends shows i s less)

  -- the first left those behind them alone, at which the second looked
  pub behind_looked : (count : ℕ) → count ≡ first → ((j : ℕ) (d : RxSeen) → first ≤ j → get_or mid j d ≡ get_or ins j d)
      → ((i : ℕ) (s : S) → i < length senders → AreOnRings number (tx_at (outs (get_or senders i s)).links link) (rx_at ins (first + i)))
      → ShowsLinks S outs Lends count link (length senders) senders senders' mid after → (i : ℕ) (s : S) → i < length senders
      → AreLooked number (tx_at (outs (get_or senders' i s)).links link) (rx_at after (first + i))
  behind_looked count is same ends shows i s less =
      each_looked S outs Lends first link senders senders' mid after number
      (λ k x within. subst (λ (r : RxSeen). AreOnRings number (tx_at (outs (get_or senders k x)).links link) r) (sym (same (first + k) no_rx (omega arith))) (ends k x within))
      (subst (λ (n : ℕ). ShowsLinks S outs Lends n link (length senders) senders senders' mid after) is shows) i s less
