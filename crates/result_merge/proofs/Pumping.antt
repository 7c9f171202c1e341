-- The links in were pumped.
use Rattle.std.proofs.Common.{ℕ, ◌+◌, ◌<◌, ◌≡◌, Bool, true, false, None, List, length, refl, sym, ◌∙◌, subst, arith}
use Rattle.std.specs.List.{All}
use Rattle.node_frames.specs.declared.frame.Frame.{Frame}
use Rattle.credit_link.specs.Ends.{RxSeen}
use Rattle.credit_link.specs.declared.turn.NodeFault.{NodeFault}
use Rattle.run_law.specs.Links.{AreLawfulCounts, AreLawfulAnswers}
use Rattle.node_lanes.specs.Ends.{given_on, InsStand, InsGo}
use Rattle.node_lanes.specs.Passes.{InsKeep, InsPass, InsNoLess, InsAreCalm, InsMeet}
use Rattle.node_lanes.proofs.Listed.{front_same}
use Rattle.net_law.specs.Merges as mn
use Rattle.result_merge.specs.Works.{WorkSeen, merge_of, taken_off, taken_on, shape_by, keeps_over, IsSound}
use Rattle.result_merge.specs.Steps.{Rises, Fails, ByMoved, Pumps}
use Rattle.result_merge.proofs.Lists.{taken_same}
use Rattle.result_merge.proofs.Works.{fails_same, ins_meet}

-- what came stays lawful over the same frames
pub lawful_same : (w : WorkSeen) (ins : List RxSeen) → length ins ≡ length w.ins → taken_off ins ≡ taken_off w.ins → mn.TakesLawful (merge_of w None) → mn.TakesLawful (merge_of (record w { ins = ins }) None)
lawful_same w ins long same lawful = record {
  counts = λ groupers p less.
      subst (λ (n : ℕ). AreLawfulCounts w.job (shape_by w.parsers n groupers) p (taken_on (taken_off ins) p)) (sym long)
      (subst (λ (taken : List (List Frame)). AreLawfulCounts w.job (shape_by w.parsers (length w.ins) groupers) p (taken_on taken p)) (sym same) (lawful.counts groupers p less));
  answers = λ q less.
      subst (λ (taken : List (List Frame)). AreLawfulAnswers w.job (taken_on taken (w.parsers + q))) (sym same) (lawful.answers q (omega (arith, less, long)));
}

module _ (w : WorkSeen) (ins : List RxSeen) (h : IsSound w) (goes : InsGo w.ins ins) (stand : (credits : ℕ) → InsStand credits w.ins → InsStand credits ins)
    (given : (j : ℕ) → given_on ins j ≡ given_on w.ins j) where
  abbrev pumped : WorkSeen
  pumped = record w { ins = ins }

  same : taken_off ins ≡ taken_off w.ins
  same = taken_same w.ins ins goes.as_many given

  pumped_sound : InsKeep w.ins ins → All (λ (r : RxSeen). r.fault ≡ None) ins → IsSound pumped
  pumped_sound keeps quiet = record {
    job_is = h.job_is;
    parsers = h.parsers;
    processors = (omega (arith, goes.as_many, h.processors.0), omega (arith, goes.as_many, h.processors.1));
    ins = stand w.credits h.ins;
    quiet = record {
      quiet = quiet;
      granted = λ j d less. let there : j < length w.ins = subst (λ (n : ℕ). j < n) goes.as_many less in (keeps.each j d there).ungranted ∙ h.quiet.granted j d there;
    };
    lawful = lawful_same w ins goes.as_many same h.lawful;
    apart = h.apart;
    orders = h.orders ∙ sym same;
    state = h.state;
    keeps = subst (λ (taken : List (List Frame)). keeps_over w.job w.parsers taken w.gained) (sym same) h.keeps;
  }

  by_pass : (went : Bool) → InsPass went w.ins ins → ByMoved went (Rises w pumped) (InsPass false w.ins ins)
  by_pass true passes = λ tells. omega (arith, passes tells.ins)
  by_pass false passes = passes

  pub pumps : (went : Bool) → InsKeep w.ins ins → All (λ (r : RxSeen). r.fault ≡ None) ins → InsAreCalm w.ins ins → InsPass went w.ins ins → InsNoLess w.ins ins → Pumps went w pumped
  pumps went keeps quiet calm passes no_less = record {
    steps = record {
      sound = pumped_sound keeps quiet;
      goes = record {
        same = (refl, refl, refl);
        ins = goes;
        sink = record { told = refl; label = refl };
        gained = front_same w.gained w.gained refl;
        written = λ told start e. e;
        calm = λ none. refl;
        kept = λ bad e. e;
      };
      lent = refl;
      calm = calm;
      no_less = λ tells. omega (arith, no_less tells.ins);
    };
    rest = refl;
    passes = by_pass went passes;
  }

  pub pump_fails : (bad : NodeFault) → InsMeet w.ins ins bad → Fails w pumped bad
  pump_fails bad met = fails_same w ins w.counts w.answers w.state bad h goes (stand w.credits h.ins) same (ins_meet w pumped bad met)
