-- A look at a link in leaves all that the merge keeps as it was.
use Rattle.std.proofs.Common.{ℕ, ◌+◌, ◌<◌, ◌≡◌, ◌≢◌, Bool, IsTrue, None, Some, Option, List, [], length, get_or, refl, sym, ap, ◌∙◌, subst, arith, ⊎_elim}
use Rattle.std.specs.List.{All}
use Rattle.node_frames.specs.declared.frame.Frame.{Frame}
use Rattle.credit_link.specs.Ends.{RxSeen, RxStands}
use Rattle.credit_link.specs.declared.turn.NodeFault.{NodeFault}
use Rattle.run_law.specs.Links.{AreLawfulCounts, AreLawfulAnswers}
use Rattle.run_law.specs.Nodes.{MergeKeeps}
use Rattle.node_lanes.specs.Ends.{InsStand, InsAreQuiet}
use Rattle.node_lanes.proofs.Pumped.{same_or_not, other}
use Rattle.net_law.specs.Merges as mn
use Rattle.net_law.specs.Merges.{MergeSeen, MergeStands, MergeRests}
use Rattle.result_merge.specs.Works.{WorkSeen, merge_of, wrote_all_by, have_ended, taken_off, taken_on, shape_by, keeps_over, rests_over}
use Rattle.result_merge.specs.Steps.{LooksIn}
use Rattle.result_merge.specs.Nodes.{NodeHolds}
use Rattle.result_merge.proofs.Taking.{taken_none}
use Rattle.result_merge.proofs.Works.{rests_by, rests_of}

module _ (w after : WorkSeen) (j : ℕ) (there : j < length w.ins) (looks : LooksIn w after j) where
  long : length after.ins ≡ length w.ins
  long = looks.changes.long

  -- what a look leaves alone is as before on each link
  each_in : (P : RxSeen → Type 0) → ((d : RxSeen) → P (get_or w.ins j d) → P (get_or after.ins j d)) → All P w.ins → All P after.ins
  each_in P kept all i d less =
      let within : i < length w.ins = subst (λ (n : ℕ). i < n) long less in
      ⊎_elim
      (λ (e : i ≡ j). subst (λ (k : ℕ). P (get_or after.ins k d)) (sym e) (kept d (all j d there)))
      (λ (differs : i ≢ j). subst P (sym (other w.ins after.ins j i d (looks.changes.set d) differs)) (all i d within))
      (same_or_not i j)

  same_taken : taken_off after.ins ≡ taken_off w.ins
  same_taken = taken_none w.ins after.ins j there looks.changes (λ d. ap (λ (r : RxSeen). r.given) (looks.same d))

  in_stand : InsStand w.credits w.ins → InsStand w.credits after.ins
  in_stand stand = record {
    stand = each_in RxStands (λ d h. looks.stands d) stand.stand;
    credits = each_in (λ (r : RxSeen). r.credits ≡ w.credits) (λ d h. ap (λ (r : RxSeen). r.credits) (looks.same d) ∙ h) stand.credits;
  }

  in_quiet : InsAreQuiet w.ins → InsAreQuiet after.ins
  in_quiet quiet = record {
    quiet = each_in (λ (r : RxSeen). r.fault ≡ None) (λ d h. ap (λ (r : RxSeen). r.fault) (looks.same d) ∙ h) quiet.quiet;
    granted = each_in (λ (r : RxSeen). r.ungranted ≡ 0) (λ d h. ap (λ (r : RxSeen). r.ungranted) (looks.same d) ∙ h) quiet.granted;
  }

  abbrev looked : WorkSeen
  looked = record w { ins = after.ins }

  lawful_in : (fault : Option NodeFault) → mn.TakesLawful (merge_of w fault) → mn.TakesLawful (merge_of looked fault)
  lawful_in fault lawful = record {
    counts = λ groupers p less.
        subst (λ (n : ℕ). AreLawfulCounts w.job (shape_by w.parsers n groupers) p (taken_on (taken_off after.ins) p)) (sym long)
        (subst (λ (taken : List (List Frame)). AreLawfulCounts w.job (shape_by w.parsers (length w.ins) groupers) p (taken_on taken p)) (sym same_taken) (lawful.counts groupers p less));
    answers = λ q less.
        subst (λ (taken : List (List Frame)). AreLawfulAnswers w.job (taken_on taken (w.parsers + q))) (sym same_taken) (lawful.answers q (omega (arith, less, long)));
  }

  lawful_out : (fault : Option NodeFault) → mn.TakesLawful (merge_of looked fault) → mn.TakesLawful (merge_of w fault)
  lawful_out fault lawful = record {
    counts = λ groupers p less.
        subst (λ (n : ℕ). AreLawfulCounts w.job (shape_by w.parsers n groupers) p (taken_on (taken_off w.ins) p)) long
        (subst (λ (taken : List (List Frame)). AreLawfulCounts w.job (shape_by w.parsers (length after.ins) groupers) p (taken_on taken p)) same_taken (lawful.counts groupers p less));
    answers = λ q less.
        subst (λ (taken : List (List Frame)). AreLawfulAnswers w.job (taken_on taken (w.parsers + q))) same_taken (lawful.answers q (omega (arith, less, long)));
  }

  keeps_in : (groupers : ℕ) → MergeKeeps w.job (shape_by w.parsers (length w.ins) groupers) (taken_on (taken_off w.ins)) (λ q. taken_on (taken_off w.ins) (w.parsers + q)) [] w.gained
      → MergeKeeps w.job (shape_by w.parsers (length after.ins) groupers) (taken_on (taken_off after.ins)) (λ q. taken_on (taken_off after.ins) (w.parsers + q)) [] w.gained
  keeps_in groupers keeps =
      subst (λ (n : ℕ). MergeKeeps w.job (shape_by w.parsers n groupers) (taken_on (taken_off after.ins)) (λ q. taken_on (taken_off after.ins) (w.parsers + q)) [] w.gained) (sym long)
      (subst (λ (taken : List (List Frame)). MergeKeeps w.job (shape_by w.parsers (length w.ins) groupers) (taken_on taken) (λ q. taken_on taken (w.parsers + q)) [] w.gained) (sym same_taken) keeps)

  rests_in : (fault : Option NodeFault) → MergeRests (merge_of w fault) → MergeRests (merge_of looked fault)
  rests_in fault rests = rests_by looked fault (subst (λ (taken : List (List Frame)). rests_over w.job w.parsers taken w.gained) (sym same_taken) (rests_of w fault rests))

  same_all : (fault : Option NodeFault) → wrote_all_by fault after.ins ≡ wrote_all_by fault w.ins
  same_all None = ap have_ended same_taken
  same_all (Some bad) = refl

  holds_in : (fault : Option NodeFault) → NodeHolds w fault → NodeHolds looked fault
  holds_in fault h = record {
    stands = record {
      job_is = h.stands.job_is;
      parsers = h.stands.parsers;
      processors = (omega (arith, long, h.stands.processors.0), omega (arith, long, h.stands.processors.1));
      ins = in_stand h.stands.ins;
      keeps = λ takes groupers. keeps_in groupers (h.stands.keeps (lawful_out fault takes) groupers);
      whole = λ takes all. rests_in fault (h.stands.whole (lawful_out fault takes) (subst IsTrue (same_all fault) all));
      lawful = λ none. lawful_in fault (h.stands.lawful none);
      quiet = λ none. in_quiet (h.stands.quiet none);
    };
    sound = λ none.
        let s = h.sound none in
        record {
          job_is = s.job_is;
          parsers = s.parsers;
          processors = (omega (arith, long, s.processors.0), omega (arith, long, s.processors.1));
          ins = in_stand s.ins;
          quiet = in_quiet s.quiet;
          lawful = lawful_in None s.lawful;
          apart = s.apart;
          orders = s.orders ∙ sym same_taken;
          state = s.state;
          keeps = subst (λ (taken : List (List Frame)). keeps_over w.job w.parsers taken w.gained) (sym same_taken) s.keeps;
        };
    rests = λ none. rests_in None (h.rests none);
  }

  pub looked_in : (fault : Option NodeFault) → NodeHolds w fault → NodeHolds after fault
  looked_in fault h = subst (λ (x : WorkSeen). NodeHolds x fault) (sym looks.rest) (holds_in fault h)

  -- of what contracts see, the links alone
  pub looked_rest : (fault : Option NodeFault) → merge_of after fault ≡ record (merge_of w fault) { ins = after.ins }
  looked_rest fault =
      ap (λ (x : WorkSeen). merge_of x fault) looks.rest
      ∙ ap (λ (all : Bool). record (merge_of w fault) { ins = after.ins; wrote_all = all }) (same_all fault)
