-- The links in were pumped, or the link out was polled.
use Rattle.std.proofs.Common.{ℕ, ◌<◌, ◌≤◌, ◌≡◌, Bool, true, false, None, List, length, refl, sym, ◌∙◌, subst, arith}
use Rattle.std.specs.List.{All}
use Rattle.node_frames.specs.declared.frame.Frame.{Frame}
use Rattle.credit_link.specs.Ends.{RxSeen}
use Rattle.credit_link.specs.declared.turn.NodeFault.{NodeFault}
use Rattle.shuffle_poll.specs.Shuffles.{ShuffleSeen}
use Rattle.node_lanes.specs.Ends.{given_on, put_on, InsStand, OutsStand, OutsAreQuiet, InsGo, OutsGo}
use Rattle.node_lanes.specs.Passes.{InsKeep, InsPass, InsNoLess, InsAreCalm, InsMeet, OutsPass, OutsRest, OutsNoLess, OutsAreCalm, OutsMeet}
use Rattle.node_lanes.proofs.Going.{ins_same, outs_same}
use Rattle.query_state.specs.States.{state_is}
use Rattle.query_node.specs.Works.{WorkSeen, taken_off, put_by, IsSound}
use Rattle.query_node.specs.Steps.{Rises, Fails, ByMoved, Pumps, Polls}
use Rattle.query_node.proofs.Lists.{taken_same}
use Rattle.query_node.proofs.Works.{fails_same, ins_meet, outs_meet}

-- ---- the links in

module _ (w : WorkSeen) (ins : List RxSeen) (h : IsSound w) (goes : InsGo w.ins ins) (stand : (credits : ℕ) → InsStand credits w.ins → InsStand credits ins)
    (given : (j : ℕ) → given_on ins j ≡ given_on w.ins j) where
  abbrev pumped : WorkSeen
  pumped = record w { ins = ins }

  same : taken_off ins ≡ taken_off w.ins
  same = taken_same w.ins ins goes.as_many given

  pumped_sound : InsKeep w.ins ins → All (λ (r : RxSeen). r.fault ≡ None) ins → IsSound pumped
  pumped_sound keeps quiet = record {
    job_is = h.job_is;
    ins_few = (subst (λ (n : ℕ). 1 ≤ n) (sym goes.as_many) h.ins_few.0, subst (λ (n : ℕ). n ≤ 16) (sym goes.as_many) h.ins_few.1);
    one_out = h.one_out;
    ins = stand w.credits h.ins;
    outs = h.outs;
    quiet = (
      record {
        quiet = quiet;
        granted = λ j d less. let there : j < length w.ins = subst (λ (n : ℕ). j < n) goes.as_many less in (keeps.each j d there).ungranted ∙ h.quiet.0.granted j d there;
      },
      h.quiet.1,
    );
    orders = h.orders ∙ sym same;
    state = subst (λ (taken : List (List Frame)). state_is w.job taken (put_by w.outs) w.state) (sym same) h.state;
  }

  by_pass : (went : Bool) → InsPass went w.ins ins → ByMoved went (Rises w pumped) (InsPass false w.ins ins)
  by_pass true passes = λ tells. omega (arith, passes tells.ins)
  by_pass false passes = passes

  pub pumps : (went : Bool) → InsKeep w.ins ins → All (λ (r : RxSeen). r.fault ≡ None) ins → InsAreCalm w.ins ins → InsPass went w.ins ins → InsNoLess w.ins ins → Pumps went w pumped
  pumps went keeps quiet calm passes no_less = record {
    steps = record {
      sound = pumped_sound keeps quiet;
      goes = record { same = (refl, refl); ins = goes; outs = outs_same w.outs };
      calm = (calm, λ k d less. (refl, refl));
      no_less = λ tells. omega (arith, no_less tells.ins);
    };
    outs = refl;
    passes = by_pass went passes;
  }

  pub pump_fails : (bad : NodeFault) → InsMeet w.ins ins bad → Fails w pumped bad
  pump_fails bad met = fails_same w ins w.orders w.outs w.state bad h goes (outs_same w.outs) (stand w.credits h.ins) h.outs refl same (ins_meet w pumped bad met)

-- ---- the link out

module _ (w : WorkSeen) (outs : ShuffleSeen) (h : IsSound w) (goes : OutsGo w.outs outs) (stand : (credits : ℕ) → OutsStand credits w.outs → OutsStand credits outs)
    (put : (k : ℕ) → put_on outs k ≡ put_on w.outs k) where
  abbrev polled : WorkSeen
  polled = record w { outs = outs }

  polled_sound : OutsAreQuiet outs → IsSound polled
  polled_sound quiet = record {
    job_is = h.job_is;
    ins_few = h.ins_few;
    one_out = goes.as_many ∙ h.one_out;
    ins = h.ins;
    outs = stand w.credits h.outs;
    quiet = (h.quiet.0, quiet);
    orders = h.orders;
    state = subst (λ (frames : List Frame). state_is w.job (taken_off w.ins) frames w.state) (sym (put 0)) h.state;
  }

  by_poll : (went : Bool) → OutsPass went w.outs outs → ByMoved went (Rises w polled) (OutsRest w.outs outs)
  by_poll true passes = λ tells. omega (arith, passes tells.outs)
  by_poll false passes = passes

  pub polls : (went : Bool) → OutsAreQuiet outs → OutsAreCalm w.outs outs → OutsPass went w.outs outs → OutsNoLess w.outs outs → Polls went w polled
  polls went quiet calm passes no_less = record {
    steps = record {
      sound = polled_sound quiet;
      goes = record { same = (refl, refl); ins = ins_same w.ins; outs = goes };
      calm = ((λ j d less. (refl, refl)), calm);
      no_less = λ tells. omega (arith, no_less tells.outs);
    };
    ins = refl;
    put = put 0;
    passes = by_poll went passes;
  }

  pub poll_fails : (first : ℕ) (bad : NodeFault) → first ≡ length w.ins → OutsMeet first w.outs outs bad → Fails w polled bad
  poll_fails first bad count met =
      fails_same w w.ins w.orders outs w.state bad h (ins_same w.ins) goes h.ins (stand w.credits h.outs) (put 0) refl (outs_meet first w polled bad count h.one_out met)
