-- The links in were pumped, or the links out were polled.
use Rattle.std.proofs.Common.{ℕ, ◌<◌, ◌≤◌, ◌≡◌, Bool, true, false, None, Result, Ok, Err, List, length, refl, sym, ◌∙◌, subst, arith}
use Rattle.std.specs.Prelude.{IfOk, IfErr}
use Rattle.std.specs.List.{All}
use Rattle.credit_link.specs.Ends.{RxSeen}
use Rattle.credit_link.specs.declared.turn.NodeFault.{NodeFault}
use Rattle.shuffle_poll.specs.Shuffles.{ShuffleSeen}
use Rattle.node_lanes.specs.Ends.{given_on, put_on, InsStand, OutsStand, OutsAreQuiet, InsGo, OutsGo}
use Rattle.node_lanes.specs.Passes.{InsKeep, InsPass, InsNoLess, InsAreCalm, InsMeet, OutsPass, OutsRest, OutsNoLess, OutsAreCalm, OutsMeet}
use Rattle.node_lanes.proofs.Going.{ins_same, outs_same}
use Rattle.grouper_node.specs.Works.{WorkSeen, taken_off, puts_of, IsSound}
use Rattle.grouper_node.specs.Steps.{Rises, Fails, ByMoved, Pumps, Polls}
use Rattle.grouper_node.proofs.Lists.{taken_same, puts_alike}
use Rattle.grouper_node.proofs.Works.{state_as, fails_same, ins_meet, outs_meet}

-- ---- the links in

module _ (w : WorkSeen) (ins : List RxSeen) (h : IsSound w) (goes : InsGo w.ins ins) (stand : (credits : ℕ) → InsStand credits w.ins → InsStand credits ins)
    (given : (j : ℕ) → given_on ins j ≡ given_on w.ins j) where
  abbrev pumped : WorkSeen
  pumped = record w { ins = ins }

  same : taken_off ins ≡ taken_off w.ins
  same = taken_same w.ins ins goes.as_many given

  pumped_sound : InsKeep w.ins ins → All (λ (r : RxSeen). r.fault ≡ None) ins → IsSound pumped
  pumped_sound keeps quiet = record {
    place = h.place;
    processors = h.processors;
    ins_few = (subst (λ (n : ℕ). 1 ≤ n) (sym goes.as_many) h.ins_few.0, subst (λ (n : ℕ). n ≤ 16) (sym goes.as_many) h.ins_few.1);
    outs_few = h.outs_few;
    ins = stand w.credits h.ins;
    outs = h.outs;
    quiet = (
      record {
        quiet = quiet;
        granted = λ j d less. let there : j < length w.ins = subst (λ (n : ℕ). j < n) goes.as_many less in (keeps.each j d there).ungranted ∙ h.quiet.0.granted j d there;
      },
      h.quiet.1,
    );
    orders = h.orders ∙ sym same;
    state =
        state_as w.job w.me w.groupers (length w.ins) (length w.outs.links) (length ins) (length w.outs.links) (taken_off w.ins) (taken_off ins) (puts_of w.outs) (puts_of w.outs)
        goes.as_many refl same refl w.state h.state;
  }

  by_pass : (went : Bool) → InsPass went w.ins ins → ByMoved went (Rises w pumped) (InsPass false w.ins ins)
  by_pass true passes = λ tells. omega (arith, passes tells.ins)
  by_pass false passes = passes

  pumps : (went : Bool) → InsKeep w.ins ins → All (λ (r : RxSeen). r.fault ≡ None) ins → InsAreCalm w.ins ins → InsPass went w.ins ins → InsNoLess w.ins ins → Pumps went w pumped
  pumps went keeps quiet calm passes no_less = record {
    steps = record {
      sound = pumped_sound keeps quiet;
      goes = record { same = (refl, refl, refl, refl); ins = goes; outs = outs_same w.outs };
      calm = (calm, λ k d less. (refl, refl));
      no_less = λ tells. omega (arith, no_less tells.ins);
    };
    outs = refl;
    passes = by_pass went passes;
  }

  pub pumps_by : (result : Result Bool NodeFault) → InsKeep w.ins ins → IfOk result (λ went. All (λ (r : RxSeen). r.fault ≡ None) ins) → IfOk result (λ went. InsAreCalm w.ins ins)
      → IfOk result (λ went. InsPass went w.ins ins) → IfOk result (λ went. InsNoLess w.ins ins) → IfOk result (λ went. Pumps went w pumped)
  pumps_by (Ok went) keeps quiet calm passes no_less = pumps went keeps quiet calm passes no_less
  pumps_by (Err bad) keeps quiet calm passes no_less = tt

  pub pump_fails_by : (result : Result Bool NodeFault) → IfErr result (λ bad. InsMeet w.ins ins bad) → IfErr result (λ bad. Fails w pumped bad)
  pump_fails_by (Ok went) met = tt
  pump_fails_by (Err bad) met = fails_same w ins w.orders w.outs w.state bad h goes (outs_same w.outs) (stand w.credits h.ins) h.outs (λ k. refl) same (ins_meet w pumped bad met)

-- ---- the links out

module _ (w : WorkSeen) (outs : ShuffleSeen) (h : IsSound w) (goes : OutsGo w.outs outs) (stand : (credits : ℕ) → OutsStand credits w.outs → OutsStand credits outs)
    (put : (k : ℕ) → put_on outs k ≡ put_on w.outs k) where
  abbrev polled : WorkSeen
  polled = record w { outs = outs }

  polled_sound : OutsAreQuiet outs → IsSound polled
  polled_sound quiet = record {
    place = h.place;
    processors = h.processors ∙ sym goes.as_many;
    ins_few = h.ins_few;
    outs_few = (subst (λ (n : ℕ). 1 ≤ n) (sym goes.as_many) h.outs_few.0, subst (λ (n : ℕ). n ≤ 16) (sym goes.as_many) h.outs_few.1);
    ins = h.ins;
    outs = stand w.credits h.outs;
    quiet = (h.quiet.0, quiet);
    orders = h.orders;
    state =
        state_as w.job w.me w.groupers (length w.ins) (length w.outs.links) (length w.ins) (length outs.links) (taken_off w.ins) (taken_off w.ins) (puts_of w.outs) (puts_of outs)
        refl goes.as_many refl (puts_alike w.outs outs goes.as_many put) w.state h.state;
  }

  by_poll : (went : Bool) → OutsPass went w.outs outs → ByMoved went (Rises w polled) (OutsRest w.outs outs)
  by_poll true passes = λ tells. omega (arith, passes tells.outs)
  by_poll false passes = passes

  polls : (went : Bool) → OutsAreQuiet outs → OutsAreCalm w.outs outs → OutsPass went w.outs outs → OutsNoLess w.outs outs → Polls went w polled
  polls went quiet calm passes no_less = record {
    steps = record {
      sound = polled_sound quiet;
      goes = record { same = (refl, refl, refl, refl); ins = ins_same w.ins; outs = goes };
      calm = ((λ j d less. (refl, refl)), calm);
      no_less = λ tells. omega (arith, no_less tells.outs);
    };
    ins = refl;
    state = refl;
    passes = by_poll went passes;
  }

  pub polls_by : (result : Result Bool NodeFault) → IfOk result (λ went. OutsAreQuiet outs) → IfOk result (λ went. OutsAreCalm w.outs outs)
      → IfOk result (λ went. OutsPass went w.outs outs) → IfOk result (λ went. OutsNoLess w.outs outs) → IfOk result (λ went. Polls went w polled)
  polls_by (Ok went) quiet calm passes no_less = polls went quiet calm passes no_less
  polls_by (Err bad) quiet calm passes no_less = tt

  pub poll_fails_by : (first : ℕ) (result : Result Bool NodeFault) → first ≡ length w.ins → IfErr result (λ bad. OutsMeet first w.outs outs bad) → IfErr result (λ bad. Fails w polled bad)
  poll_fails_by first (Ok went) count met = tt
  poll_fails_by first (Err bad) count met =
      fails_same w w.ins w.orders outs w.state bad h (ins_same w.ins) goes h.ins (stand w.credits h.outs) put refl (outs_meet first w polled bad count met)
