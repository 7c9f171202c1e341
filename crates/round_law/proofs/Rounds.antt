-- A still round of a network: downwards from the top no link is blocked, and then upwards all nodes are done.
use Rattle.std.proofs.Common.{◌⊎◌, ℕ, ◌+◌, ◌<◌, ◌≤◌, ◌≡◌, length, sym, ap, subst, ◌∙◌, inl, inr, ⊎_elim, arith}
use Rattle.std.specs.Prelude.{IsTrue}
use Rattle.std.proofs.lemmas.List.{get_or_default}
use Rattle.round_law.specs.Links.{Sender, Receiver, new_sender, new_receiver, has_finish, HasSentAll, HasTakenAll}
use Rattle.round_law.specs.Waits.{Node, in_at, out_at, IsDone}
use Rattle.round_law.specs.Rows.{IdleRow, DoneRow, StandsStill, PipesStay, IsOrderly}
use Rattle.round_law.specs.Network.{Leads, IsStillRound, StillIsDone}
use Rattle.round_law.proofs.Ends.{Meets, IsClear, had_sent_all}
use Rattle.round_law.proofs.Standing.{Out, In, done_is_clear, idle_is_clear, idle_has_open, takes_finish}

module _ {N : Type 0} (IsThere : N → Type 0) (rank : N → ℕ) (credits : ℕ) (before after : N → Node) (round : IsStillRound IsThere rank credits before after) where
  still : (n : N) → IsThere n → StandsStill (before n) (after n)
  still n there = ⊎_elim (λ (row : IdleRow credits (before n) (after n)). row.still) (λ (row : DoneRow (before n) (after n)). row.still) (round.rests n there).row

  orderly : (n : N) → IsThere n → IsOrderly (after n)
  orderly n there = ⊎_elim (λ (row : IdleRow credits (before n) (after n)). row.orderly) (λ (row : DoneRow (before n) (after n)). row.orderly) (round.rests n there).row

  pipes : (n : N) → IsThere n → PipesStay (before n) (after n)
  pipes n there = (round.rests n there).pipes

  meets : (n : N) (k : ℕ) (m : N) (j : ℕ) → Leads IsThere rank credits before n k m j
      → Meets credits (out_at (before n) k) (out_at (after n) k) (in_at (before m) j) (in_at (after m) j)
  meets n k m j leads =
      let out : k < length (after n).outs = subst (λ (count : ℕ). k < count) (sym (still n leads.from).out_count) leads.out in
      let into : j < length (after m).ins = subst (λ (count : ℕ). j < count) (sym (still m leads.to).in_count) leads.into in
      record {
        joined = leads.joined;
        sends = (round.sound_after n leads.from).senders k new_sender out ((round.counted_after n leads.from).offered k new_sender out);
        last = (orderly n leads.from).offered k new_sender out;
        takes = (round.sound_after m leads.to).receivers j (new_receiver 0) into;
        granted = (orderly m leads.to).granted j (new_receiver 0) into ((round.counted_after m leads.to).given j (new_receiver 0) into);
        out = (pipes n leads.from).outs k leads.out;
        into = (pipes m leads.to).ins j leads.into;
      }

  ins_of : (m : N) → IsThere m → (j : ℕ) → j < length (after m).ins → In credits (in_at (before m) j) (in_at (after m) j)
  ins_of m there j less =
      let from = round.network.ins m there j (subst (λ (count : ℕ). j < count) (still m there).in_count less) in
      record { before = out_at (before from.0) from.1; after = out_at (after from.0) from.1; meets = meets from.0 from.1 m j from.2 }

  -- ---- downwards

  clear_below : (steps : ℕ) (m : N) → IsThere m → round.network.top ≤ rank m + steps → (j : ℕ) → j < length (after m).ins
      → IsClear (in_at (before m) j) (in_at (after m) j)
  clear_below ℕ.zero m there most = let under : rank m < round.network.top = round.network.below m there in absurd (omega arith)
  clear_below (ℕ.suc steps) m there most =
      by_row (round.rests m there).row (outs_above (λ above is_there up. clear_below steps above is_there (omega arith)))
    where
      outs_above : ((above : N) → IsThere above → rank m < rank above → (j : ℕ) → j < length (after above).ins → IsClear (in_at (before above) j) (in_at (after above) j))
          → (k : ℕ) → k < length (after m).outs → Out credits (out_at (before m) k) (out_at (after m) k)
      outs_above below k less =
          let to = round.network.outs m there k (subst (λ (count : ℕ). k < count) (still m there).out_count less) in
          let into : to.1 < length (after to.0).ins = subst (λ (count : ℕ). to.1 < count) (sym (still to.0 to.2.to).in_count) to.2.into in
          record {
            before = in_at (before to.0) to.1;
            after = in_at (after to.0) to.1;
            meets = meets m k to.0 to.1 to.2;
            clear = below to.0 to.2.to to.2.rises to.1 into;
          }

      by_row : IdleRow credits (before m) (after m) ⊎ DoneRow (before m) (after m) → ((k : ℕ) → k < length (after m).outs → Out credits (out_at (before m) k) (out_at (after m) k))
          → (j : ℕ) → j < length (after m).ins → IsClear (in_at (before m) j) (in_at (after m) j)
      by_row (inl row) outs = idle_is_clear credits (before m) (after m) (ins_of m there) row.idle outs
      by_row (inr row) outs = done_is_clear credits (before m) (after m) (ins_of m there) row.done

  clear : (m : N) → IsThere m → (j : ℕ) → j < length (after m).ins → IsClear (in_at (before m) j) (in_at (after m) j)
  clear m there = clear_below round.network.top m there (omega arith)

  outs_of : (n : N) → IsThere n → (k : ℕ) → k < length (after n).outs → Out credits (out_at (before n) k) (out_at (after n) k)
  outs_of n there k less =
      let to = round.network.outs n there k (subst (λ (count : ℕ). k < count) (still n there).out_count less) in
      let into : to.1 < length (after to.0).ins = subst (λ (count : ℕ). to.1 < count) (sym (still to.0 to.2.to).in_count) to.2.into in
      record {
        before = in_at (before to.0) to.1;
        after = in_at (after to.0) to.1;
        meets = meets n k to.0 to.1 to.2;
        clear = clear to.0 to.2.to to.1 into;
      }

  -- ---- upwards

  done_above : (steps : ℕ) (n : N) → IsThere n → rank n < steps → IsDone (after n)
  done_above ℕ.zero n there less = absurd (omega arith)
  done_above (ℕ.suc steps) n there less =
      by_row (round.rests n there).row (finished (λ from is_there up. done_above steps from is_there (omega arith)))
    where
      finished : ((from : N) → IsThere from → rank from < rank n → IsDone (after from)) → (j : ℕ) → j < length (after n).ins → IsTrue (has_finish (in_at (after n) j).given)
      finished earlier j within =
          let from = round.network.ins n there j (subst (λ (count : ℕ). j < count) (still n there).in_count within) in
          let out : from.1 < length (after from.0).outs = subst (λ (count : ℕ). from.1 < count) (sym (still from.0 from.2.from).out_count) from.2.out in
          let sent : HasSentAll (out_at (after from.0) from.1) = (earlier from.0 from.2.from from.2.rises).outs from.1 new_sender out in
          takes_finish credits (out_at (before from.0) from.1) (out_at (after from.0) from.1) (in_at (before n) j) (in_at (after n) j)
          (meets from.0 from.1 n j from.2) (clear n there j within) sent

      by_row : IdleRow credits (before n) (after n) ⊎ DoneRow (before n) (after n) → ((j : ℕ) → j < length (after n).ins → IsTrue (has_finish (in_at (after n) j).given)) → IsDone (after n)
      by_row (inl row) all = absurd (idle_has_open credits (before n) (after n) (ins_of n there) row.idle (outs_of n there) all)
      by_row (inr row) all = row.done

  done_after : (n : N) → IsThere n → IsDone (after n)
  done_after n there = done_above (ℕ.suc (rank n)) n there (omega arith)

  -- ---- and before the round

  done_before : (n : N) → IsThere n → IsDone (before n)
  done_before n there = record { ins = ins; outs = outs; wrote_all = sym (still n there).wrote_all ∙ (done_after n there).wrote_all }
    where
      ins : (j : ℕ) (d : Receiver) → j < length (before n).ins → HasTakenAll (Rattle.std.specs.Prelude.slice_index_or (before n).ins j d)
      ins j d less =
          let within : j < length (after n).ins = subst (λ (count : ℕ). j < count) (sym (still n there).in_count) less in
          let all : HasTakenAll (in_at (after n) j) = (done_after n there).ins j (new_receiver 0) within in
          let stays = (pipes n there).ins j less in
          let given : (in_at (after n) j).given ≡ (in_at (before n) j).given = (still n there).given j less in
          let granted_after = (orderly n there).granted j (new_receiver 0) within ((round.counted_after n there).given j (new_receiver 0) within) in
          let granted = (round.orderly n there).granted j (new_receiver 0) less ((round.counted n there).given j (new_receiver 0) less) in
          let count : length (in_at (after n) j).given ≡ length (in_at (before n) j).given = ap length given in
          let paid = stays.paid in
          let owed = all.owed in
          let done : HasTakenAll (in_at (before n) j) = record {
            finish = subst (λ frames. IsTrue (has_finish frames)) given all.finish;
            owed = omega arith;
          } in
          subst HasTakenAll (get_or_default (before n).ins j (new_receiver 0) d less) done

      outs : (k : ℕ) (d : Sender) → k < length (before n).outs → HasSentAll (Rattle.std.specs.Prelude.slice_index_or (before n).outs k d)
      outs k d less =
          let within : k < length (after n).outs = subst (λ (count : ℕ). k < count) (sym (still n there).out_count) less in
          let all : HasSentAll (out_at (after n) k) = (done_after n there).outs k new_sender within in
          let other = outs_of n there k within in
          let done : HasSentAll (out_at (before n) k) =
          had_sent_all credits (out_at (before n) k) (out_at (after n) k) other.before other.after other.meets
          ((round.sound n there).senders k new_sender less ((round.counted n there).offered k new_sender less)) ((round.orderly n there).offered k new_sender less) all in
          subst HasSentAll (get_or_default (before n).outs k new_sender d less) done

pub still_is_done : {N : Type 0} (IsThere : N → Type 0) (rank : N → ℕ) (credits : ℕ) (before after : N → Node) → StillIsDone IsThere rank credits before after
still_is_done IsThere rank credits before after round n there =
    (done_before IsThere rank credits before after round n there, done_after IsThere rank credits before after round n there)
