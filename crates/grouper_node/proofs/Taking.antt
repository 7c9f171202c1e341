-- A frame is taken off one link in, taken up and granted; or it is refused.
use Rattle.std.proofs.Common.{ℕ, ◌+◌, ◌-◌, ◌<◌, ◌≤◌, ◌≡◌, None, Some, Option, Result, Ok, Err, List, [], ◌∷◌, ◌++◌, length, get_or, set, inl, inr, refl, sym, ap, ◌∙◌, subst, arith, append-nil, length-append}
use Rattle.std.specs.Prelude.{IfOk, IfErr}
use Rattle.std.specs.List.{sum_by}
use Rattle.std.proofs.lemmas.List.{set-get_or, map-set, length-map}
use Rattle.std.proofs.lemmas.List.Sums.{sum_by-set}
use Rattle.node_frames.specs.declared.frame.Frame.{Frame}
use Rattle.credit_link.specs.Ends.{RxSeen}
use Rattle.credit_link.specs.Frames.{capped, bytes_of_all}
use Rattle.credit_link.specs.declared.link_bad.LinkBad.TheVariants.{Order}
use Rattle.credit_link.specs.declared.turn.NodeFault.{NodeFault}
use Rattle.credit_link.specs.declared.turn.NodeFault.TheVariants.{Malformed, Read, Write, Link, OutOfMemory}
use Rattle.credit_link.specs.Pulling.{MeetsBad}
use Rattle.round_law.specs.Links.{new_receiver}
use Rattle.round_law.specs.Rows.{taken_by}
use Rattle.round_law.specs.Views.{receiver_view}
use Rattle.run_law.specs.Links.{MayFollow, ItemRule}
use Rattle.node_lanes.specs.Ends.{given_on, receivers_of, InsStand, InsGo}
use Rattle.node_lanes.specs.Passes.{InsAreCalm}
use Rattle.node_lanes.specs.Pulling.{ChangesLink, TakesFrame, RefusesFrame, PullsAt}
use Rattle.node_lanes.proofs.Going.{ins_go_on, ins_calm_on, outs_same}
use Rattle.node_lanes.proofs.Pumped.{given_at, some_of, receivers_at}
use Rattle.node_lanes.proofs.Taken.{takes_more, changed_calm, grants_quiet}
use Rattle.grouper_state.specs.States.{state_is, taken_on, taken_more, MayTake, CanTake}
use Rattle.grouper_state.specs.declared.state.GrouperState.{GrouperState}
use Rattle.grouper_state.proofs.Stepped as stepped
use Rattle.net_law.specs.Groupers.{GrouperMeets}
use Rattle.net_law.proofs.Meeting.{last_may_stand}
use Rattle.grouper_node.specs.Works.{WorkSeen, grouper_of, shape_with, shape_in, taken_off, puts_of, IsSound}
use Rattle.grouper_node.specs.Steps.{Steps, Rises, Fails, Pulls, HasPulled, Grants, HoldsNoted, TakesUp, IsRefused, Refuses}
use Rattle.grouper_node.proofs.Lists.{get_same, taken_long}
use Rattle.grouper_node.proofs.Works.{keeps_as, state_as, fails_by, fails_same}

-- ---- what was taken

module _ (before after : List RxSeen) (j : ℕ) (there : j < length before) (changes : ChangesLink before after j) where
  here : RxSeen
  here = some_of before j there

  pub taken_one : (frame : Frame) → ((d : RxSeen) → (get_or after j d).given ≡ (get_or before j d).given ++ frame ∷ []) → taken_off after ≡ taken_more (taken_off before) j frame
  taken_one frame more =
      ap taken_off (changes.set here)
      ∙ map-set (λ (r : RxSeen). r.given) before j (get_or after j here)
      ∙ ap (λ (fs : List Frame). set (taken_off before) j fs) (more here ∙ ap (λ (fs : List Frame). fs ++ frame ∷ []) (sym (given_at before j here there)))

  pub taken_none : ((d : RxSeen) → (get_or after j d).given ≡ (get_or before j d).given) → taken_off after ≡ taken_off before
  taken_none same =
      ap taken_off (changes.set here)
      ∙ map-set (λ (r : RxSeen). r.given) before j (get_or after j here)
      ∙ ap (λ (fs : List Frame). set (taken_off before) j fs) (same here ∙ sym (given_at before j here there))
      ∙ set-get_or (taken_off before) j []

  left_alone : ((d : RxSeen) → get_or after j d ≡ get_or before j d) → after ≡ before
  left_alone same = changes.set here ∙ ap (λ (r : RxSeen). set before j r) (same here) ∙ set-get_or before j here

  -- a grant changes nothing of what came and went
  grants_alike : ((d : RxSeen) → taken_by (receiver_view (get_or after j d)) ≡ taken_by (receiver_view (get_or before j d))) → sum_by taken_by (receivers_of after) ≡ sum_by taken_by (receivers_of before)
  grants_alike same =
      let listed = ap receivers_of (changes.set here) ∙ map-set receiver_view before j (get_or after j here) in
      let all = sum_by-set taken_by (receivers_of before) j (receiver_view (get_or after j here)) (new_receiver 0) (omega (arith, there, length-map before receiver_view)) in
      omega (arith, ap (sum_by taken_by) listed, all, same here, ap taken_by (receivers_at before j (new_receiver 0) here there))

-- ---- a pull

module _ (w : WorkSeen) (ins : List RxSeen) (j : ℕ) (h : IsSound w) (there : j < length w.ins) (changes : ChangesLink w.ins ins j) (goes : InsGo w.ins ins)
    (stand : (credits : ℕ) → InsStand credits w.ins → InsStand credits ins) where
  pulls_ok : (pulled : Option Frame) → ((d : RxSeen) → PullsAt j (get_or w.ins j d) (get_or ins j d) (Ok pulled)) → Pulls pulled j w (record w { ins = ins })
  pulls_ok None pulls = (
    ap (λ (l : List RxSeen). record w { ins = l }) (left_alone w.ins ins j there changes (λ d. (pulls d).1)),
    λ d. (pulls d).0,
  )
  pulls_ok (Some frame) pulls = record { changes = changes; takes = pulls; goes = goes; stand = stand; rest = refl }

  pull_fails : (bad : NodeFault) → ((d : RxSeen) → RefusesFrame j (get_or w.ins j d) (get_or ins j d) bad) → Fails w (record w { ins = ins }) bad
  pull_fails bad refuses =
      fails_same w ins w.orders w.outs w.state bad h goes (outs_same w.outs) (stand w.credits h.ins) h.outs (λ k. refl)
      (taken_none w.ins ins j there changes (λ d. ap (λ (r : RxSeen). r.given) (refuses d).rest)) meets
    where
      after : WorkSeen
      after = record w { ins = ins }

      d0 : RxSeen
      d0 = some_of w.ins j there

      first : RefusesFrame j (get_or w.ins j d0) (get_or ins j d0) bad
      first = refuses d0

      met : MeetsBad (get_or ins j d0).given (get_or ins j d0).finished (get_or ins j d0).box first.bad
      met = first.meets (h.quiet.0.quiet j d0 there)

      meets : GrouperMeets (grouper_of w None) (grouper_of after (Some bad)) bad
      meets =
          subst (λ (f : NodeFault). GrouperMeets (grouper_of w None) (grouper_of after (Some f)) f) (sym first.named)
          (inl (
            there,
            λ d.
                inr (inl (subst (λ (r : RxSeen). MeetsBad r.given r.finished r.box first.bad) (get_same ins j d0 d (subst (λ (n : ℕ). j < n) (sym changes.long) there)) met)),
          ))

  pub pulls_by : (result : Result (Option Frame) NodeFault) → ((d : RxSeen) → PullsAt j (get_or w.ins j d) (get_or ins j d) result) → IfOk result (λ pulled. Pulls pulled j w (record w { ins = ins }))
  pulls_by (Ok pulled) pulls = pulls_ok pulled pulls
  pulls_by (Err bad) pulls = tt

  pub pull_fails_by : (result : Result (Option Frame) NodeFault) → ((d : RxSeen) → PullsAt j (get_or w.ins j d) (get_or ins j d) result) → IfErr result (λ bad. Fails w (record w { ins = ins }) bad)
  pull_fails_by (Ok pulled) pulls = tt
  pull_fails_by (Err bad) pulls = pull_fails bad pulls

-- ---- a frame that was taken up and granted

module _ (w : WorkSeen) (pulled ins : List RxSeen) (orders : List (List Frame)) (state : GrouperState) (j : ℕ) (frame : Frame) (h : IsSound w) (there : j < length w.ins)
    (changes : ChangesLink w.ins pulled j) (takes : (d : RxSeen) → TakesFrame (get_or w.ins j d) (get_or pulled j d) frame) (goes : InsGo w.ins pulled)
    (stand : (credits : ℕ) → InsStand credits w.ins → InsStand credits pulled)
    (changes' : ChangesLink pulled ins j)
    (grants : (d : RxSeen) → get_or ins j d ≡ record (get_or pulled j d) { owed = capped ((get_or pulled j d).owed + 1); ungranted = (get_or pulled j d).ungranted - 1 })
    (goes' : InsGo pulled ins) (stand' : (credits : ℕ) → InsStand credits pulled → InsStand credits ins)
    (noted : orders ≡ taken_more w.orders j frame) (stands : state_is w.job (shape_with (length pulled) w.groupers (length w.outs.links)) w.me orders (puts_of w.outs) state) where
  abbrev after : WorkSeen
  after = record w { ins = ins; orders = orders; state = state }

  there' : j < length pulled
  there' = subst (λ (n : ℕ). j < n) (sym changes.long) there

  noted_is : orders ≡ taken_off ins
  noted_is =
      noted
      ∙ ap (λ (l : List (List Frame)). taken_more l j frame) h.orders
      ∙ sym (taken_one w.ins pulled j there changes frame (λ d. (takes d).given))
      ∙ sym (taken_none pulled ins j there' changes' (λ d. ap (λ (r : RxSeen). r.given) (grants d)))

  all_go : InsGo w.ins ins
  all_go = ins_go_on w.ins pulled ins goes goes'

  calm : InsAreCalm w.ins ins
  calm =
      ins_calm_on w.ins pulled ins changes.long
      (changed_calm w.ins pulled j changes (λ d. (ap (λ (r : RxSeen). r.forth) (takes d).rest, ap (λ (r : RxSeen). r.back) (takes d).rest)))
      (changed_calm pulled ins j changes' (λ d. (ap (λ (r : RxSeen). r.forth) (grants d), ap (λ (r : RxSeen). r.back) (grants d))))

  more : sum_by taken_by (receivers_of w.ins) < sum_by taken_by (receivers_of ins)
  more =
      omega (
        arith,
        takes_more w.ins pulled j there changes frame takes,
        grants_alike pulled ins j there' changes' (λ d. ap (λ (r : RxSeen). taken_by (receiver_view r)) (grants d)),
      )

  takes_steps : Steps w after × Rises w after
  takes_steps = (
    record {
      sound = record {
        place = h.place;
        processors = h.processors;
        ins_few = (subst (λ (n : ℕ). 1 ≤ n) (sym all_go.as_many) h.ins_few.0, subst (λ (n : ℕ). n ≤ 16) (sym all_go.as_many) h.ins_few.1);
        outs_few = h.outs_few;
        ins = stand' w.credits (stand w.credits h.ins);
        outs = h.outs;
        quiet = (grants_quiet w.ins pulled ins j frame there h.quiet.0 changes takes changes' grants, h.quiet.1);
        orders = noted_is;
        state =
            state_as w.job w.me w.groupers (length pulled) (length w.outs.links) (length ins) (length w.outs.links) orders (taken_off ins) (puts_of w.outs) (puts_of w.outs)
            changes'.long refl (sym noted_is) refl state stands;
      };
      goes = record { same = (refl, refl, refl, refl); ins = all_go; outs = outs_same w.outs };
      calm = (calm, (λ k d less. (refl, refl)));
      no_less = λ tells. omega (arith, more);
    },
    λ tells. omega (arith, more),
  )

-- the work where only a pull was made
abbrev with_ins : WorkSeen → List RxSeen → WorkSeen
with_ins w ins = record w { ins = ins }

-- the same over the work as it is after each step
pub taken_up : (w p u a : WorkSeen) (j : ℕ) (frame : Frame) → IsSound w → j < length w.ins → HasPulled w p j frame → TakesUp p u j frame → Grants u a j → Steps w a × Rises w a
taken_up w p u a j frame h there pulled up granted =
    let up' : TakesUp (with_ins w p.ins) u j frame = subst (λ (x : WorkSeen). TakesUp x u j frame) pulled.rest up in
    let granted' : Grants (record (with_ins w p.ins) { orders = u.orders; state = u.state }) a j = subst (λ (x : WorkSeen). Grants x a j) up'.rest granted in
    subst (λ (x : WorkSeen). Steps w x × Rises w x) (sym granted'.rest)
    (takes_steps w p.ins a.ins u.orders u.state j frame h there pulled.changes pulled.takes pulled.goes pulled.stand
    granted'.changes granted'.grants granted'.goes granted'.stand up'.orders up'.state)

module _ (w p : WorkSeen) (j : ℕ) (frame : Frame) (h : IsSound w) (there : j < length w.ins) (pulled : HasPulled w p j frame) where
  there_now : j < length p.ins
  there_now = subst (λ (n : ℕ). j < n) (sym pulled.changes.long) there

  taken_is : taken_off p.ins ≡ taken_more (taken_off w.ins) j frame
  taken_is = taken_one w.ins p.ins j there pulled.changes frame (λ d. (pulled.takes d).given)

  last : given_on p.ins j ≡ given_on w.ins j ++ frame ∷ []
  last =
      let d : RxSeen = some_of w.ins j there in
      given_at p.ins j d there_now ∙ (pulled.takes d).given ∙ ap (λ (fs : List Frame). fs ++ frame ∷ []) (sym (given_at w.ins j d there))

  same_noted : taken_on w.orders j ≡ given_on w.ins j
  same_noted = ap (λ (l : List (List Frame)). taken_on l j) h.orders

  -- what was pulled may be taken up: the state stands for what was noted
  pub noted_by : HoldsNoted p j frame
  noted_by =
      subst (λ (x : WorkSeen). HoldsNoted x j frame) (sym pulled.rest) (record {
        groupers = omega (arith, h.place.0);
        few = omega (arith, h.ins_few.1, pulled.changes.long);
        there = (there_now, subst (λ (n : ℕ). j < n) (sym (ap length h.orders ∙ taken_long w.ins)) there);
        last = last ∙ ap (λ (fs : List Frame). fs ++ frame ∷ []) (sym same_noted);
        state =
            state_as w.job w.me w.groupers (length w.ins) (length w.outs.links) (length p.ins) (length w.outs.links) (taken_off w.ins) w.orders (puts_of w.outs) (puts_of w.outs)
            pulled.changes.long refl h.orders refl w.state h.state;
      })

  pub may_grant : (u : WorkSeen) → TakesUp p u j frame → (j < length u.ins) × ((d : RxSeen) → 0 < (get_or u.ins j d).ungranted)
  may_grant u up =
      let same : u.ins ≡ p.ins = ap (λ (x : WorkSeen). x.ins) up.rest in (
        subst (λ (n : ℕ). j < n) (sym (ap length same)) there_now,
        λ d.
            let one : (get_or u.ins j d).ungranted ≡ capped (0 + 1) =
            ap (λ (l : List RxSeen). (get_or l j d).ungranted) same ∙ (pulled.takes d).ungranted ∙ ap (λ (n : ℕ). capped (n + 1)) (h.quiet.0.granted j d there) in
            omega (arith, one),
      )

  -- ---- a frame that was refused

  longer : sum_by length (taken_off w.ins) ≤ sum_by length (taken_off p.ins)
  longer =
      let all = sum_by-set length (taken_off w.ins) j (given_on w.ins j ++ frame ∷ []) [] (omega (arith, there, taken_long w.ins)) in
      omega (arith, all, ap (sum_by length) taken_is, length-append (given_on w.ins j) (frame ∷ []))

  -- the frame may stand on the link of the one or the other number of links
  abbrev MayStand : ℕ → List Frame → Type 0
  MayStand m frames = MayFollow (ItemRule w.job (shape_with m w.groupers (length w.outs.links)) j w.me) frames frame

  may_by : MayStand (length p.ins) (taken_on w.orders j) → MayStand (length w.ins) (given_on w.ins j)
  may_by may = subst (λ (m : ℕ). MayStand m (given_on w.ins j)) pulled.changes.long (subst (λ (fs : List Frame). MayStand (length p.ins) fs) same_noted may)

  may_back : MayStand (length w.ins) (given_on w.ins j) → MayStand (length p.ins) (taken_on w.orders j)
  may_back may = subst (λ (m : ℕ). MayStand m (taken_on w.orders j)) (sym pulled.changes.long) (subst (λ (fs : List Frame). MayStand (length w.ins) fs) (sym same_noted) may)

  module _ (orders : List (List Frame)) (state : GrouperState) where
    abbrev refused : WorkSeen
    refused = record w { ins = p.ins; orders = orders; state = state }

    by_case : (bad : NodeFault) → IsRefused (with_ins w p.ins) j frame bad → Fails w refused bad
    by_case (Link link bad) why =
        fails_by w p.ins orders w.outs state (Link link bad) h pulled.goes (outs_same w.outs) (pulled.stand w.credits h.ins) h.outs (λ k. refl) longer
        (λ takes.
        let rule = ItemRule w.job (shape_with (length p.ins) w.groupers (length w.outs.links)) j w.me in
        let may : MayStand (length p.ins) (given_on w.ins j) =
        last_may_stand rule (given_on p.ins j) (given_on w.ins j) frame (takes j there_now) (record { rest = []; joined = last ∙ sym (append-nil (given_on w.ins j ++ frame ∷ [])) }) in
        absurd (why.2 (subst (λ (fs : List Frame). MayStand (length p.ins) fs) (sym same_noted) may)))
        (subst (λ (k : ℕ). GrouperMeets (grouper_of w None) (grouper_of refused (Some (Link k bad))) (Link k bad)) (sym why.0)
        (inl (
          there,
          λ d. inr (inr (record {
            frames = given_on w.ins j;
            frame = frame;
            last = sym (given_at p.ins j d there_now) ∙ last;
            named = why.1 ∙ ap (λ (fs : List Frame). Order (capped (length (bytes_of_all fs)))) same_noted;
            wrong = λ may. why.2 (may_back may);
          })),
        )))
    by_case OutOfMemory may =
        fails_by w p.ins orders w.outs state OutOfMemory h pulled.goes (outs_same w.outs) (pulled.stand w.credits h.ins) h.outs (λ k. refl) longer
        (λ takes.
        keeps_as w.job w.me w.groupers (length w.ins) (length w.outs.links) (length w.ins) (length w.outs.links) (taken_more (taken_off w.ins) j frame) (taken_off p.ins) (puts_of w.outs) (puts_of w.outs)
        refl refl taken_is refl
        (stepped.keeps_with w.job (shape_in w) w.me (taken_off w.ins) (puts_of w.outs) w.state.grouper w.state.going w.state.turn w.state.processors w.state.mark w.state.finished h.state j frame
        (record { there = there; may = may_by may })))
        tt
    by_case (Malformed capture bad) why = absurd why
    by_case (Read capture) why = absurd why
    by_case Write why = absurd why

  pub refuse_fails : (u : WorkSeen) (bad : NodeFault) → Refuses p u j frame bad → Fails w u bad
  refuse_fails u bad refuses =
      let refuses' : Refuses (with_ins w p.ins) u j frame bad = subst (λ (x : WorkSeen). Refuses x u j frame bad) pulled.rest refuses in
      subst (λ (x : WorkSeen). Fails w x bad) (sym refuses'.rest) (by_case u.orders u.state bad refuses'.why)

-- ---- the state takes a frame up

module _ (w : WorkSeen) (j : ℕ) (frame : Frame) (h : HoldsNoted w j frame) (may : MayFollow (ItemRule w.job (shape_in w) j w.me) (taken_on w.orders j) frame) where
  pub may_take : MayTake w.job (shape_in w) w.me w.orders j frame
  may_take = record { there = h.there.0; may = may }

  pub can_take : CanTake w.state frame
  can_take = record { job = w.job; shape = shape_in w; me = w.me; taken = w.orders; put = puts_of w.outs; link = j; is = h.state; takes = may_take }
