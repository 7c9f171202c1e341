-- A look at a link in or at the link out leaves all that a processor keeps as it was.
use Rattle.std.proofs.Common.{ℕ, ◌+◌, ◌*◌, ◌<◌, ◌≤◌, ◌≡◌, ◌≢◌, None, Option, List, [], ◌++◌, length, get_or, set, sym, ap, ap₂, ◌∙◌, subst, arith, ⊎_elim}
use Rattle.std.specs.List.{All, sum_by}
use Rattle.std.proofs.lemmas.List.{get_or-set_other, length-set}
use Rattle.node_frames.specs.declared.frame.Frame.{Frame}
use Rattle.credit_link.specs.Ends.{TxSeen, RxSeen, RxStands}
use Rattle.credit_link.specs.declared.turn.NodeFault.{NodeFault}
use Rattle.run_law.specs.Links.{AreLawfulGroups}
use Rattle.run_law.specs.Nodes.{ProcessorKeeps}
use Rattle.node_lanes.specs.Ends.{given_on, InsStand, InsAreQuiet, OutsStand, OutsAreQuiet}
use Rattle.node_lanes.proofs.Listed.{puts_at}
use Rattle.node_lanes.proofs.Pumped.{same_or_not, other}
use Rattle.node_lanes.proofs.Resting.{tx_of_list}
use Rattle.query_state.specs.States.{state_is, taken_on}
use Rattle.query_node.specs.Works.{WorkSeen, taken_off, put_by, PutsFew}
use Rattle.query_node.specs.Steps.{LooksIn, LooksOut}
use Rattle.query_node.specs.Nodes.{NodeHolds}
use Rattle.query_node.proofs.Works.{few_offered}
use Rattle.query_node.proofs.Taking.{taken_none}

-- ---- a link in

module _ (w after : WorkSeen) (j : ℕ) (there : j < length w.ins) (looks : LooksIn w after j) where
  long : length after.ins ≡ length w.ins
  long = looks.changes.long

  -- what a look leaves alone is as before on each link
  each_in : (P : RxSeen → Type 0) → ((d : RxSeen) → P (get_or w.ins j d) → P (get_or after.ins j d)) → All P w.ins → All P after.ins
  each_in P kept all i d less =
      let within : i < length w.ins = subst (λ (n : ℕ). i < n) long less in
      ⊎_elim
      (λ (e : i ≡ j). subst (λ (k : ℕ). P (get_or after.ins k d)) (sym e) (kept d (all j d there)))
      (λ (differs : i ≢ j). subst P (sym (other w.ins after.ins j i d (looks.changes.set d) differs)) (all i d within))
      (same_or_not i j)

  same_taken : taken_off after.ins ≡ taken_off w.ins
  same_taken = taken_none w.ins after.ins j there looks.changes (λ d. ap (λ (r : RxSeen). r.given) (looks.same d))

  in_stand : InsStand w.credits w.ins → InsStand w.credits after.ins
  in_stand stand = record {
    stand = each_in RxStands (λ d h. looks.stands d) stand.stand;
    credits = each_in (λ (r : RxSeen). r.credits ≡ w.credits) (λ d h. ap (λ (r : RxSeen). r.credits) (looks.same d) ∙ h) stand.credits;
  }

  in_quiet : InsAreQuiet w.ins → InsAreQuiet after.ins
  in_quiet quiet = record {
    quiet = each_in (λ (r : RxSeen). r.fault ≡ None) (λ d h. ap (λ (r : RxSeen). r.fault) (looks.same d) ∙ h) quiet.quiet;
    granted = each_in (λ (r : RxSeen). r.ungranted ≡ 0) (λ d h. ap (λ (r : RxSeen). r.ungranted) (looks.same d) ∙ h) quiet.granted;
  }

  abbrev looked : WorkSeen
  looked = record w { ins = after.ins }

  few_in : PutsFew w → PutsFew looked
  few_in few = subst (λ (l : List (List Frame)). length (put_by w.outs) ≤ 2 * sum_by length l + 4097) (sym same_taken) few

  holds_in : (fault : Option NodeFault) → NodeHolds w fault → NodeHolds looked fault
  holds_in fault h = record {
    stands = record {
      job_is = h.stands.job_is;
      ins_few = (subst (λ (n : ℕ). 1 ≤ n) (sym long) h.stands.ins_few.0, subst (λ (n : ℕ). n ≤ 16) (sym long) h.stands.ins_few.1);
      one_out = h.stands.one_out;
      ins = in_stand h.stands.ins;
      outs = h.stands.outs;
      keeps = λ takes parsers processors.
          subst (λ (n : ℕ). ProcessorKeeps w.job (record { parsers = parsers; groupers = n; processors = processors }) (given_on after.ins) (put_by w.outs)) (sym long)
          (subst (λ (l : List (List Frame)). ProcessorKeeps w.job (record { parsers = parsers; groupers = length w.ins; processors = processors }) (taken_on l) (put_by w.outs)) (sym same_taken)
          (h.stands.keeps (λ g less. subst (λ (l : List (List Frame)). AreLawfulGroups w.job (taken_on l g)) same_taken (takes g (subst (λ (n : ℕ). g < n) (sym long) less))) parsers processors));
      lawful = λ none g less.
          subst (λ (l : List (List Frame)). AreLawfulGroups w.job (taken_on l g)) (sym same_taken) (h.stands.lawful none g (subst (λ (n : ℕ). g < n) long less));
      offers_few = few_offered after.ins w.outs w fault h.stands.one_out (few_in h.few);
      quiet = λ none. (in_quiet (h.stands.quiet none).0, (h.stands.quiet none).1);
    };
    few = few_in h.few;
    sound = λ none.
        let s = h.sound none in
        record {
          job_is = s.job_is;
          ins_few = (subst (λ (n : ℕ). 1 ≤ n) (sym long) s.ins_few.0, subst (λ (n : ℕ). n ≤ 16) (sym long) s.ins_few.1);
          one_out = s.one_out;
          ins = in_stand s.ins;
          outs = s.outs;
          quiet = (in_quiet s.quiet.0, s.quiet.1);
          orders = s.orders ∙ sym same_taken;
          state = subst (λ (l : List (List Frame)). state_is w.job l (put_by w.outs) w.state) (sym same_taken) s.state;
        };
  }

  pub looked_in : (fault : Option NodeFault) → NodeHolds w fault → NodeHolds after fault
  looked_in fault h = subst (λ (x : WorkSeen). NodeHolds x fault) (sym looks.rest) (holds_in fault h)

-- ---- the link out

other_tx : (links links' : List TxSeen) (i k : ℕ) (d : TxSeen) → links' ≡ set links i (get_or links' i d) → k ≢ i → get_or links' k d ≡ get_or links k d
other_tx links links' i k d changed differs = ap (λ l. get_or l k d) changed ∙ get_or-set_other links i k (get_or links' i d) d differs

module _ (w after : WorkSeen) (k : ℕ) (there : k < length w.outs.links) (one : length w.outs.links ≡ 1) (looks : LooksOut w after k) where
  here : TxSeen
  here = tx_of_list w.outs.links k there

  long_out : length after.outs.links ≡ length w.outs.links
  long_out = ap length (looks.links here) ∙ length-set w.outs.links k (get_or after.outs.links k here)

  each_out : (P : TxSeen → Type 0) → ((d : TxSeen) → P (get_or w.outs.links k d) → P (get_or after.outs.links k d)) → All P w.outs.links → All P after.outs.links
  each_out P kept all i d less =
      let within : i < length w.outs.links = subst (λ (n : ℕ). i < n) long_out less in
      ⊎_elim
      (λ (e : i ≡ k). subst (λ (n : ℕ). P (get_or after.outs.links n d)) (sym e) (kept d (all k d there)))
      (λ (differs : i ≢ k). subst P (sym (other_tx w.outs.links after.outs.links k i d (looks.links d) differs)) (all i d within))
      (same_or_not i k)

  same_put : put_by after.outs ≡ put_by w.outs
  same_put =
      let zero : k ≡ 0 = omega (arith, there, one) in
      let offered : (get_or after.outs.links 0 here).offered ≡ (get_or w.outs.links 0 here).offered =
      subst (λ (n : ℕ). (get_or after.outs.links n here).offered ≡ (get_or w.outs.links n here).offered) zero (ap (λ (l : TxSeen). l.offered) (looks.same here)) in
      puts_at after.outs.links after.outs.queues 0 here (omega (arith, long_out, one))
      ∙ ap₂ (λ (x y : List Frame). x ++ y) offered (ap (λ (q : List (List Frame)). get_or q 0 []) looks.queues)
      ∙ sym (puts_at w.outs.links w.outs.queues 0 here (omega (arith, one)))

  out_stand : OutsStand w.credits w.outs → OutsStand w.credits after.outs
  out_stand stand = record {
    holds = looks.holds;
    credits = each_out (λ (l : TxSeen). l.credits ≡ w.credits) (λ d h. ap (λ (l : TxSeen). l.credits) (looks.same d) ∙ h) stand.credits;
  }

  out_quiet : OutsAreQuiet w.outs → OutsAreQuiet after.outs
  out_quiet quiet = each_out (λ (l : TxSeen). l.fault ≡ None) (λ d h. ap (λ (l : TxSeen). l.fault) (looks.same d) ∙ h) quiet

  abbrev looked_at : WorkSeen
  looked_at = record w { outs = after.outs }

  few_out : PutsFew w → PutsFew looked_at
  few_out few = subst (λ (fs : List Frame). length fs ≤ 2 * sum_by length (taken_off w.ins) + 4097) (sym same_put) few

  holds_out : (fault : Option NodeFault) → NodeHolds w fault → NodeHolds looked_at fault
  holds_out fault h = record {
    stands = record {
      job_is = h.stands.job_is;
      ins_few = h.stands.ins_few;
      one_out = long_out ∙ one;
      ins = h.stands.ins;
      outs = out_stand h.stands.outs;
      keeps = λ takes parsers processors.
          subst (λ (fs : List Frame). ProcessorKeeps w.job (record { parsers = parsers; groupers = length w.ins; processors = processors }) (given_on w.ins) fs) (sym same_put) (h.stands.keeps takes parsers processors);
      lawful = h.stands.lawful;
      offers_few = few_offered w.ins after.outs w fault (long_out ∙ one) (few_out h.few);
      quiet = λ none. ((h.stands.quiet none).0, out_quiet (h.stands.quiet none).1);
    };
    few = few_out h.few;
    sound = λ none.
        let s = h.sound none in
        record {
          job_is = s.job_is;
          ins_few = s.ins_few;
          one_out = long_out ∙ one;
          ins = s.ins;
          outs = out_stand s.outs;
          quiet = (s.quiet.0, out_quiet s.quiet.1);
          orders = s.orders;
          state = subst (λ (fs : List Frame). state_is w.job (taken_off w.ins) fs w.state) (sym same_put) s.state;
        };
  }

  pub looked_out : (fault : Option NodeFault) → NodeHolds w fault → NodeHolds after fault
  looked_out fault h = subst (λ (x : WorkSeen). NodeHolds x fault) (sym looks.rest) (holds_out fault h)
