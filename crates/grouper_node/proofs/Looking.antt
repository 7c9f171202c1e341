-- A look at a link in or at a link out leaves all that a grouper keeps as it was.
use Rattle.std.proofs.Common.{ℕ, ◌+◌, ◌*◌, ◌<◌, ◌≤◌, ◌≡◌, ◌≢◌, None, Option, List, [], ◌++◌, length, get_or, set, refl, sym, ap, ap₂, ◌∙◌, subst, arith, ⊎_elim}
use Rattle.std.specs.List.{All, sum_by}
use Rattle.std.proofs.lemmas.List.{get_or-set_other, length-set}
use Rattle.node_frames.specs.declared.frame.Frame.{Frame}
use Rattle.credit_link.specs.Ends.{TxSeen, RxSeen, RxStands}
use Rattle.credit_link.specs.declared.turn.NodeFault.{NodeFault}
use Rattle.summary_spec.specs.Declaration.{Declared}
use Rattle.run_law.specs.Links.{AreLawfulItems}
use Rattle.node_lanes.specs.Ends.{given_on, put_on, InsStand, InsAreQuiet, OutsStand, OutsAreQuiet}
use Rattle.node_lanes.proofs.Listed.{puts_at, puts_past, before_or_not}
use Rattle.node_lanes.proofs.Pumped.{same_or_not, other}
use Rattle.node_lanes.proofs.Resting.{tx_of_list}
use Rattle.grouper_state.specs.States.{taken_on}
use Rattle.net_law.specs.Groupers.{TakesLawful}
use Rattle.grouper_node.specs.Works.{WorkSeen, grouper_of, shape_with, shape_in, taken_off, puts_of, PutsFew}
use Rattle.grouper_node.specs.Steps.{LooksIn, LooksOut}
use Rattle.grouper_node.specs.Nodes.{NodeHolds}
use Rattle.grouper_node.proofs.Lists.{puts_alike}
use Rattle.grouper_node.proofs.Works.{keeps_as, state_as, few_offered}
use Rattle.grouper_node.proofs.Taking.{taken_none}

-- what came is lawful over lists that are the same
lawful_as : (w v : WorkSeen) → v.job ≡ w.job → v.me ≡ w.me → v.groupers ≡ w.groupers → length v.ins ≡ length w.ins → length v.outs.links ≡ length w.outs.links → taken_off v.ins ≡ taken_off w.ins
    → (fault : Option NodeFault) → TakesLawful (grouper_of w fault) → TakesLawful (grouper_of v fault)
lawful_as w v jobs mes gs ms ns took fault lawful p less =
    subst (λ (job : Declared). AreLawfulItems job (shape_in v) p v.me (given_on v.ins p)) (sym jobs)
    (subst (λ (me : ℕ). AreLawfulItems w.job (shape_in v) p me (given_on v.ins p)) (sym mes)
    (subst (λ (g : ℕ). AreLawfulItems w.job (shape_with (length v.ins) g (length v.outs.links)) p w.me (given_on v.ins p)) (sym gs)
    (subst (λ (m : ℕ). AreLawfulItems w.job (shape_with m w.groupers (length v.outs.links)) p w.me (given_on v.ins p)) (sym ms)
    (subst (λ (n : ℕ). AreLawfulItems w.job (shape_with (length w.ins) w.groupers n) p w.me (given_on v.ins p)) (sym ns)
    (subst (λ (l : List (List Frame)). AreLawfulItems w.job (shape_in w) p w.me (taken_on l p)) (sym took) (lawful p (subst (λ (n : ℕ). p < n) ms less)))))))

-- ---- a link in

module _ (w after : WorkSeen) (j : ℕ) (there : j < length w.ins) (looks : LooksIn w after j) where
  long : length after.ins ≡ length w.ins
  long = looks.changes.long

  -- what a look leaves alone is as before on each link
  each_in : (P : RxSeen → Type 0) → ((d : RxSeen) → P (get_or w.ins j d) → P (get_or after.ins j d)) → All P w.ins → All P after.ins
  each_in P kept all i d less =
      let within : i < length w.ins = subst (λ (n : ℕ). i < n) long less in
      ⊎_elim
      (λ (e : i ≡ j). subst (λ (k : ℕ). P (get_or after.ins k d)) (sym e) (kept d (all j d there)))
      (λ (differs : i ≢ j). subst P (sym (other w.ins after.ins j i d (looks.changes.set d) differs)) (all i d within))
      (same_or_not i j)

  same_taken : taken_off after.ins ≡ taken_off w.ins
  same_taken = taken_none w.ins after.ins j there looks.changes (λ d. ap (λ (r : RxSeen). r.given) (looks.same d))

  in_stand : InsStand w.credits w.ins → InsStand w.credits after.ins
  in_stand stand = record {
    stand = each_in RxStands (λ d h. looks.stands d) stand.stand;
    credits = each_in (λ (r : RxSeen). r.credits ≡ w.credits) (λ d h. ap (λ (r : RxSeen). r.credits) (looks.same d) ∙ h) stand.credits;
  }

  in_quiet : InsAreQuiet w.ins → InsAreQuiet after.ins
  in_quiet quiet = record {
    quiet = each_in (λ (r : RxSeen). r.fault ≡ None) (λ d h. ap (λ (r : RxSeen). r.fault) (looks.same d) ∙ h) quiet.quiet;
    granted = each_in (λ (r : RxSeen). r.ungranted ≡ 0) (λ d h. ap (λ (r : RxSeen). r.ungranted) (looks.same d) ∙ h) quiet.granted;
  }

  abbrev looked : WorkSeen
  looked = record w { ins = after.ins }

  few_in : PutsFew w → PutsFew looked
  few_in few = subst (λ (l : List (List Frame)). (k : ℕ) → k < length w.outs.links → length (put_on w.outs k) ≤ 2 * sum_by length l + 1) (sym same_taken) few

  ins_few : (1 ≤ length w.ins) × (length w.ins ≤ 16) → (1 ≤ length after.ins) × (length after.ins ≤ 16)
  ins_few few = subst (λ (n : ℕ). (1 ≤ n) × (n ≤ 16)) (sym long) few

  holds_in : (fault : Option NodeFault) → NodeHolds w fault → NodeHolds looked fault
  holds_in fault h = record {
    stands = record {
      job_is = h.stands.job_is;
      place = h.stands.place;
      ins_few = ins_few h.stands.ins_few;
      outs_few = h.stands.outs_few;
      ins = in_stand h.stands.ins;
      outs = h.stands.outs;
      keeps = λ takes.
          keeps_as w.job w.me w.groupers (length w.ins) (length w.outs.links) (length after.ins) (length w.outs.links) (taken_off w.ins) (taken_off after.ins) (puts_of w.outs) (puts_of w.outs)
          long refl same_taken refl (h.stands.keeps (lawful_as looked w refl refl refl (sym long) refl (sym same_taken) fault takes));
      lawful = λ none. lawful_as w looked refl refl refl long refl same_taken fault (h.stands.lawful none);
      offers_few = few_offered after.ins w.outs w fault (few_in h.few);
      quiet = λ none. (in_quiet (h.stands.quiet none).0, (h.stands.quiet none).1);
    };
    few = few_in h.few;
    sound = λ none.
        let s = h.sound none in
        record {
          place = s.place;
          processors = s.processors;
          ins_few = ins_few s.ins_few;
          outs_few = s.outs_few;
          ins = in_stand s.ins;
          outs = s.outs;
          quiet = (in_quiet s.quiet.0, s.quiet.1);
          orders = s.orders ∙ sym same_taken;
          state =
              state_as w.job w.me w.groupers (length w.ins) (length w.outs.links) (length after.ins) (length w.outs.links) (taken_off w.ins) (taken_off after.ins) (puts_of w.outs) (puts_of w.outs)
              long refl same_taken refl w.state s.state;
        };
  }

  pub looked_in : (fault : Option NodeFault) → NodeHolds w fault → NodeHolds after fault
  looked_in fault h = subst (λ (x : WorkSeen). NodeHolds x fault) (sym looks.rest) (holds_in fault h)

-- ---- a link out

other_tx : (links links' : List TxSeen) (i k : ℕ) (d : TxSeen) → links' ≡ set links i (get_or links' i d) → k ≢ i → get_or links' k d ≡ get_or links k d
other_tx links links' i k d changed differs = ap (λ l. get_or l k d) changed ∙ get_or-set_other links i k (get_or links' i d) d differs

module _ (w after : WorkSeen) (k : ℕ) (there : k < length w.outs.links) (looks : LooksOut w after k) where
  here : TxSeen
  here = tx_of_list w.outs.links k there

  long_out : length after.outs.links ≡ length w.outs.links
  long_out = ap length (looks.links here) ∙ length-set w.outs.links k (get_or after.outs.links k here)

  each_out : (P : TxSeen → Type 0) → ((d : TxSeen) → P (get_or w.outs.links k d) → P (get_or after.outs.links k d)) → All P w.outs.links → All P after.outs.links
  each_out P kept all i d less =
      let within : i < length w.outs.links = subst (λ (n : ℕ). i < n) long_out less in
      ⊎_elim
      (λ (e : i ≡ k). subst (λ (n : ℕ). P (get_or after.outs.links n d)) (sym e) (kept d (all k d there)))
      (λ (differs : i ≢ k). subst P (sym (other_tx w.outs.links after.outs.links k i d (looks.links d) differs)) (all i d within))
      (same_or_not i k)

  offered_on : (i : ℕ) → (get_or after.outs.links i here).offered ≡ (get_or w.outs.links i here).offered
  offered_on i =
      ⊎_elim
      (λ (e : i ≡ k). subst (λ (n : ℕ). (get_or after.outs.links n here).offered ≡ (get_or w.outs.links n here).offered) (sym e) (ap (λ (l : TxSeen). l.offered) (looks.same here)))
      (λ (differs : i ≢ k). ap (λ (l : TxSeen). l.offered) (other_tx w.outs.links after.outs.links k i here (looks.links here) differs))
      (same_or_not i k)

  same_on : (i : ℕ) → put_on after.outs i ≡ put_on w.outs i
  same_on i =
      ⊎_elim
      (λ (less : i < length w.outs.links).
      puts_at after.outs.links after.outs.queues i here (omega (arith, less, long_out))
      ∙ ap₂ (λ (x y : List Frame). x ++ y) (offered_on i) (ap (λ (q : List (List Frame)). get_or q i []) looks.queues)
      ∙ sym (puts_at w.outs.links w.outs.queues i here less))
      (λ (past : length w.outs.links ≤ i). puts_past after.outs.links after.outs.queues i (omega (arith, past, long_out)) ∙ sym (puts_past w.outs.links w.outs.queues i past))
      (before_or_not i (length w.outs.links))

  same_puts : puts_of after.outs ≡ puts_of w.outs
  same_puts = puts_alike w.outs after.outs long_out same_on

  out_stand : OutsStand w.credits w.outs → OutsStand w.credits after.outs
  out_stand stand = record {
    holds = looks.holds;
    credits = each_out (λ (l : TxSeen). l.credits ≡ w.credits) (λ d h. ap (λ (l : TxSeen). l.credits) (looks.same d) ∙ h) stand.credits;
  }

  out_quiet : OutsAreQuiet w.outs → OutsAreQuiet after.outs
  out_quiet quiet = each_out (λ (l : TxSeen). l.fault ≡ None) (λ d h. ap (λ (l : TxSeen). l.fault) (looks.same d) ∙ h) quiet

  abbrev looked_at : WorkSeen
  looked_at = record w { outs = after.outs }

  few_out : PutsFew w → PutsFew looked_at
  few_out few i less = subst (λ (fs : List Frame). length fs ≤ 2 * sum_by length (taken_off w.ins) + 1) (sym (same_on i)) (few i (omega (arith, less, long_out)))

  outs_few : (1 ≤ length w.outs.links) × (length w.outs.links ≤ 16) → (1 ≤ length after.outs.links) × (length after.outs.links ≤ 16)
  outs_few few = subst (λ (n : ℕ). (1 ≤ n) × (n ≤ 16)) (sym long_out) few

  holds_out : (fault : Option NodeFault) → NodeHolds w fault → NodeHolds looked_at fault
  holds_out fault h = record {
    stands = record {
      job_is = h.stands.job_is;
      place = h.stands.place;
      ins_few = h.stands.ins_few;
      outs_few = outs_few h.stands.outs_few;
      ins = h.stands.ins;
      outs = out_stand h.stands.outs;
      keeps = λ takes.
          keeps_as w.job w.me w.groupers (length w.ins) (length w.outs.links) (length w.ins) (length after.outs.links) (taken_off w.ins) (taken_off w.ins) (puts_of w.outs) (puts_of after.outs)
          refl long_out refl same_puts (h.stands.keeps (lawful_as looked_at w refl refl refl refl (sym long_out) refl fault takes));
      lawful = λ none. lawful_as w looked_at refl refl refl refl long_out refl fault (h.stands.lawful none);
      offers_few = few_offered w.ins after.outs w fault (few_out h.few);
      quiet = λ none. ((h.stands.quiet none).0, out_quiet (h.stands.quiet none).1);
    };
    few = few_out h.few;
    sound = λ none.
        let s = h.sound none in
        record {
          place = s.place;
          processors = s.processors ∙ sym long_out;
          ins_few = s.ins_few;
          outs_few = outs_few s.outs_few;
          ins = s.ins;
          outs = out_stand s.outs;
          quiet = (s.quiet.0, out_quiet s.quiet.1);
          orders = s.orders;
          state =
              state_as w.job w.me w.groupers (length w.ins) (length w.outs.links) (length w.ins) (length after.outs.links) (taken_off w.ins) (taken_off w.ins) (puts_of w.outs) (puts_of after.outs)
              refl long_out refl same_puts w.state s.state;
        };
  }

  pub looked_out : (fault : Option NodeFault) → NodeHolds w fault → NodeHolds after fault
  looked_out fault h = subst (λ (x : WorkSeen). NodeHolds x fault) (sym looks.rest) (holds_out fault h)
