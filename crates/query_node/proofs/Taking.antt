-- A frame is taken off one link in, answered and granted; or it is refused.
use Rattle.std.proofs.Common.{ℕ, ◌+◌, ◌-◌, ◌<◌, ◌≤◌, ◌≡◌, None, Some, Option, Ok, List, [], ◌∷◌, ◌++◌, length, get_or, set, inl, inr, refl, sym, ap, ◌∙◌, subst, arith, map, append-nil, length-append}
use Rattle.std.specs.List.{AllByRecursion, sum_by}
use Rattle.std.proofs.lemmas.List.{set-get_or, map-set, length-map}
use Rattle.std.proofs.lemmas.List.Sums.{sum_by-set}
use Rattle.ds_base.specs.Copies.{Copies}
use Rattle.node_frames.specs.declared.frame.Frame.{Frame}
use Rattle.credit_link.specs.Ends.{RxSeen}
use Rattle.credit_link.specs.Frames.{capped, bytes_of_all}
use Rattle.credit_link.specs.declared.link_bad.LinkBad.TheVariants.{Order}
use Rattle.credit_link.specs.declared.turn.NodeFault.{NodeFault}
use Rattle.credit_link.specs.declared.turn.NodeFault.TheVariants.{Malformed, Read, Write, Link, OutOfMemory}
use Rattle.credit_link.specs.Pulling.{MeetsBad}
use Rattle.shuffle_poll.specs.Shuffles.{ShuffleSeen, ShuffleHolds}
use Rattle.summary_spec.specs.Declaration.{Declared}
use Rattle.round_law.specs.Links.{new_receiver}
use Rattle.round_law.specs.Rows.{taken_by, sent_by}
use Rattle.round_law.specs.Views.{receiver_view}
use Rattle.run_law.specs.Links.{MayFollow, GroupRule, AreLawfulGroups}
use Rattle.run_law.specs.Nodes.{ProcessorKeeps}
use Rattle.run_law.specs.Sent.{begun_in, whole_with}
use Rattle.run_law.specs.Shapes.{IsFront}
use Rattle.run_law.proofs.Arriving as law
use Rattle.node_lanes.specs.Ends.{given_on, receivers_of, senders_of, InsStand, InsGo}
use Rattle.node_lanes.specs.Passes.{InsAreCalm}
use Rattle.node_lanes.specs.Pulling.{ChangesLink, TakesFrame, RefusesFrame, PullsAt}
use Rattle.node_lanes.specs.Resting.{NoneHeld}
use Rattle.node_lanes.proofs.Going.{ins_go_on, ins_calm_on, outs_same}
use Rattle.node_lanes.proofs.Pumped.{given_at, some_of, receivers_at}
use Rattle.node_lanes.proofs.Taken.{takes_more, changed_calm, grants_quiet}
use Rattle.query_state.specs.States.{state_is, taken_on, taken_more, TakesOne}
use Rattle.query_state.specs.declared.state.QueryState.{QueryState}
use Rattle.query_state.proofs.Stepping as stepping
use Rattle.query_state.proofs.Stepped.{takes_one}
use Rattle.net_law.specs.Processors.{ProcessorMeets}
use Rattle.net_law.proofs.Meeting.{last_may_stand}
use Rattle.query_node.specs.Works.{WorkSeen, processor_of, taken_off, put_by, IsSound}
use Rattle.query_node.specs.Steps.{Steps, Rises, Fails, Pulls, HasPulled, Grants, HoldsNoted, TakesUp, IsRefused, Refuses}
use Rattle.query_node.proofs.Lists.{get_same, taken_long}
use Rattle.query_node.proofs.Works.{lawful_by, keeps_by, fails_by, fails_same}
use Rattle.query_node.proofs.Putting.{put_stand, put_quiet, put_goes, put_calm, put_sent}

-- ---- what was taken

module _ (before after : List RxSeen) (j : ℕ) (there : j < length before) (changes : ChangesLink before after j) where
  here : RxSeen
  here = some_of before j there

  pub taken_one : (frame : Frame) → ((d : RxSeen) → (get_or after j d).given ≡ (get_or before j d).given ++ frame ∷ []) → taken_off after ≡ taken_more (taken_off before) j frame
  taken_one frame more =
      ap taken_off (changes.set here)
      ∙ map-set (λ (r : RxSeen). r.given) before j (get_or after j here)
      ∙ ap (λ (fs : List Frame). set (taken_off before) j fs) (more here ∙ ap (λ (fs : List Frame). fs ++ frame ∷ []) (sym (given_at before j here there)))

  pub taken_none : ((d : RxSeen) → (get_or after j d).given ≡ (get_or before j d).given) → taken_off after ≡ taken_off before
  taken_none same =
      ap taken_off (changes.set here)
      ∙ map-set (λ (r : RxSeen). r.given) before j (get_or after j here)
      ∙ ap (λ (fs : List Frame). set (taken_off before) j fs) (same here ∙ sym (given_at before j here there))
      ∙ set-get_or (taken_off before) j []

  pub left_alone : ((d : RxSeen) → get_or after j d ≡ get_or before j d) → after ≡ before
  left_alone same = changes.set here ∙ ap (λ (r : RxSeen). set before j r) (same here) ∙ set-get_or before j here

  -- a grant changes nothing of what came and went
  grants_alike : ((d : RxSeen) → taken_by (receiver_view (get_or after j d)) ≡ taken_by (receiver_view (get_or before j d))) → sum_by taken_by (receivers_of after) ≡ sum_by taken_by (receivers_of before)
  grants_alike same =
      let listed : receivers_of after ≡ set (receivers_of before) j (receiver_view (get_or after j here)) = ap receivers_of (changes.set here) ∙ map-set receiver_view before j (get_or after j here) in
      let all = sum_by-set taken_by (receivers_of before) j (receiver_view (get_or after j here)) (new_receiver 0) (omega (arith, there, length-map before receiver_view)) in
      omega (arith, ap (sum_by taken_by) listed, all, same here, ap taken_by (receivers_at before j (new_receiver 0) here there))

-- ---- a pull

module _ (w : WorkSeen) (ins : List RxSeen) (j : ℕ) (h : IsSound w) (there : j < length w.ins) (changes : ChangesLink w.ins ins j) (goes : InsGo w.ins ins)
    (stand : (credits : ℕ) → InsStand credits w.ins → InsStand credits ins) where
  pub pulls_ok : (pulled : Option Frame) → ((d : RxSeen) → PullsAt j (get_or w.ins j d) (get_or ins j d) (Ok pulled)) → Pulls pulled j w (record w { ins = ins })
  pulls_ok None pulls = (
    ap (λ (l : List RxSeen). record w { ins = l }) (left_alone w.ins ins j there changes (λ d. (pulls d).1)),
    λ d. (pulls d).0,
  )
  pulls_ok (Some frame) pulls = record { changes = changes; takes = pulls; goes = goes; stand = stand; rest = refl }

  pub pull_fails : (bad : NodeFault) → ((d : RxSeen) → RefusesFrame j (get_or w.ins j d) (get_or ins j d) bad) → Fails w (record w { ins = ins }) bad
  pull_fails bad refuses =
      fails_same w ins w.orders w.outs w.state bad h goes (outs_same w.outs) (stand w.credits h.ins) h.outs refl
      (taken_none w.ins ins j there changes (λ d. ap (λ (r : RxSeen). r.given) (refuses d).rest)) meets
    where
      after : WorkSeen
      after = record w { ins = ins }

      d0 : RxSeen
      d0 = some_of w.ins j there

      first : RefusesFrame j (get_or w.ins j d0) (get_or ins j d0) bad
      first = refuses d0

      met : MeetsBad (get_or ins j d0).given (get_or ins j d0).finished (get_or ins j d0).box first.bad
      met = first.meets (h.quiet.0.quiet j d0 there)

      meets : ProcessorMeets (processor_of w None) (processor_of after (Some bad)) bad
      meets =
          subst (λ (f : NodeFault). ProcessorMeets (processor_of w None) (processor_of after (Some f)) f) (sym first.named)
          (inl (
            there,
            λ d.
                inr (inl (subst (λ (r : RxSeen). MeetsBad r.given r.finished r.box first.bad) (get_same ins j d0 d (subst (λ (n : ℕ). j < n) (sym changes.long) there)) met)),
          ))

-- ---- a frame that was answered and granted

module _ (w : WorkSeen) (pulled ins : List RxSeen) (orders : List (List Frame)) (outs : ShuffleSeen) (state : QueryState) (j : ℕ) (frame : Frame) (h : IsSound w) (there : j < length w.ins)
    (changes : ChangesLink w.ins pulled j) (takes : (d : RxSeen) → TakesFrame (get_or w.ins j d) (get_or pulled j d) frame) (goes : InsGo w.ins pulled)
    (stand : (credits : ℕ) → InsStand credits w.ins → InsStand credits pulled)
    (changes' : ChangesLink pulled ins j)
    (grants : (d : RxSeen) → get_or ins j d ≡ record (get_or pulled j d) { owed = capped ((get_or pulled j d).owed + 1); ungranted = (get_or pulled j d).ungranted - 1 })
    (goes' : InsGo pulled ins) (stand' : (credits : ℕ) → InsStand credits pulled → InsStand credits ins)
    (noted : orders ≡ taken_more w.orders j frame) (links : outs.links ≡ w.outs.links) (queues : (k : ℕ) → IsFront (get_or w.outs.queues k []) (get_or outs.queues k []))
    (holds : ShuffleHolds outs.links outs.queues) (stands : state_is w.job orders (put_by outs) state) where
  abbrev after : WorkSeen
  after = record w { ins = ins; orders = orders; outs = outs; state = state }

  there' : j < length pulled
  there' = subst (λ (n : ℕ). j < n) (sym changes.long) there

  noted_is : orders ≡ taken_off ins
  noted_is =
      noted
      ∙ ap (λ (l : List (List Frame)). taken_more l j frame) h.orders
      ∙ sym (taken_one w.ins pulled j there changes frame (λ d. (takes d).given))
      ∙ sym (taken_none pulled ins j there' changes' (λ d. ap (λ (r : RxSeen). r.given) (grants d)))

  all_go : InsGo w.ins ins
  all_go = ins_go_on w.ins pulled ins goes goes'

  calm : InsAreCalm w.ins ins
  calm =
      ins_calm_on w.ins pulled ins changes.long
      (changed_calm w.ins pulled j changes (λ d. (ap (λ (r : RxSeen). r.forth) (takes d).rest, ap (λ (r : RxSeen). r.back) (takes d).rest)))
      (changed_calm pulled ins j changes' (λ d. (ap (λ (r : RxSeen). r.forth) (grants d), ap (λ (r : RxSeen). r.back) (grants d))))

  more : sum_by taken_by (receivers_of w.ins) < sum_by taken_by (receivers_of ins)
  more =
      omega (
        arith,
        takes_more w.ins pulled j there changes frame takes,
        grants_alike pulled ins j there' changes' (λ d. ap (λ (r : RxSeen). taken_by (receiver_view r)) (grants d)),
      )

  pub takes_steps : Steps w after × Rises w after
  takes_steps =
      let sent : sum_by sent_by (senders_of w.outs) ≡ sum_by sent_by (senders_of outs) = put_sent w outs h links queues holds in (
        record {
          sound = record {
            job_is = h.job_is;
            ins_few = (subst (λ (n : ℕ). 1 ≤ n) (sym all_go.as_many) h.ins_few.0, subst (λ (n : ℕ). n ≤ 16) (sym all_go.as_many) h.ins_few.1);
            one_out = ap length links ∙ h.one_out;
            ins = stand' w.credits (stand w.credits h.ins);
            outs = put_stand w outs h links queues holds;
            quiet = (grants_quiet w.ins pulled ins j frame there h.quiet.0 changes takes changes' grants, put_quiet w outs h links queues holds);
            orders = noted_is;
            state = subst (λ (l : List (List Frame)). state_is w.job l (put_by outs) state) noted_is stands;
          };
          goes = record { same = (refl, refl); ins = all_go; outs = put_goes w outs h links queues holds };
          calm = (calm, put_calm w outs h links queues holds);
          no_less = λ tells. omega (arith, more, sent);
        },
        λ tells. omega (arith, more, sent),
      )

-- the same over the work as it is after each step
pub taken_up : (w p u a : WorkSeen) (j : ℕ) (frame : Frame) → IsSound w → j < length w.ins → HasPulled w p j frame → TakesUp p u j frame → Grants u a j → Steps w a × Rises w a
taken_up w p u a j frame h there pulled up granted =
    subst (λ (x : WorkSeen). Steps w x × Rises w x) (sym whole)
    (takes_steps w p.ins a.ins u.orders u.outs u.state j frame h there pulled.changes pulled.takes pulled.goes pulled.stand
    (subst (λ (l : List RxSeen). ChangesLink l a.ins j) same_ins granted.changes)
    (λ d. subst (λ (l : List RxSeen). get_or a.ins j d ≡ record (get_or l j d) { owed = capped ((get_or l j d).owed + 1); ungranted = (get_or l j d).ungranted - 1 }) same_ins (granted.grants d))
    (subst (λ (l : List RxSeen). InsGo l a.ins) same_ins granted.goes)
    (λ credits. subst (λ (l : List RxSeen). InsStand credits l → InsStand credits a.ins) same_ins (granted.stand credits))
    (up.orders ∙ ap (λ (l : List (List Frame)). taken_more l j frame) same_orders)
    (up.links ∙ ap (λ (s : ShuffleSeen). s.links) same_outs)
    (λ k. subst (λ (s : ShuffleSeen). IsFront (get_or s.queues k []) (get_or u.outs.queues k [])) same_outs (up.queues k))
    up.holds
    (subst (λ (job : Declared). state_is job u.orders (put_by u.outs) u.state) (ap (λ (x : WorkSeen). x.job) pulled.rest) up.state))
  where
    same_ins : u.ins ≡ p.ins
    same_ins = ap (λ (x : WorkSeen). x.ins) up.rest

    same_orders : p.orders ≡ w.orders
    same_orders = ap (λ (x : WorkSeen). x.orders) pulled.rest

    same_outs : p.outs ≡ w.outs
    same_outs = ap (λ (x : WorkSeen). x.outs) pulled.rest

    whole : a ≡ record w { ins = a.ins; orders = u.orders; outs = u.outs; state = u.state }
    whole =
        granted.rest
        ∙ ap (λ (x : WorkSeen). record x { ins = a.ins }) up.rest
        ∙ ap (λ (x : WorkSeen). record x { ins = a.ins; orders = u.orders; outs = u.outs; state = u.state }) pulled.rest

-- what was pulled may be answered: the state stands for what was noted
pub noted_by : (w p : WorkSeen) (j : ℕ) (frame : Frame) → IsSound w → NoneHeld w.outs → HasPulled w p j frame → HoldsNoted p
noted_by w p j frame h none pulled =
    subst HoldsNoted (sym pulled.rest) (record {
      one_out = h.one_out;
      holds = h.outs.holds;
      none = none;
      state = subst (λ (l : List (List Frame)). state_is w.job l (put_by w.outs) w.state) (sym h.orders) h.state;
    })

pub pulled_last : (w p : WorkSeen) (j : ℕ) (frame : Frame) → IsSound w → j < length w.ins → HasPulled w p j frame → given_on p.ins j ≡ taken_on p.orders j ++ frame ∷ []
pulled_last w p j frame h there pulled =
    let d : RxSeen = some_of w.ins j there in
    given_at p.ins j d (subst (λ (n : ℕ). j < n) (sym pulled.changes.long) there)
    ∙ (pulled.takes d).given
    ∙ ap (λ (fs : List Frame). fs ++ frame ∷ []) (sym (given_at w.ins j d there) ∙ sym (ap (λ (l : List (List Frame)). taken_on l j) (ap (λ (x : WorkSeen). x.orders) pulled.rest ∙ h.orders)))

-- ---- a frame that was refused

-- the promise stands with one frame more
module _ (job : Declared) (taken : List (List Frame)) (n j : ℕ) (frame : Frame) (put : List Frame) (long : n ≡ length taken) (there : j < n) (lawful : (g : ℕ) → g < n → AreLawfulGroups job (taken_on taken g))
    (may : MayFollow (GroupRule job) (taken_on taken j) frame) where
  one : TakesOne (taken_on taken) (taken_on (taken_more taken j frame)) j frame
  one = takes_one taken j frame (omega (arith, there, long))

  abbrev whole : List Copies
  whole = whole_with (begun_in (taken_on taken j)) frame

  numbers : (xs : List Copies) → AllByRecursion (λ (e : ℕ × Copies). e.0 < n) (map (λ (x : Copies). (j, x)) xs)
  numbers [] = tt
  numbers (x ∷ xs) = (there, numbers xs)

  pub keeps_more : (parsers processors : ℕ) → ProcessorKeeps job (record { parsers = parsers; groupers = n; processors = processors }) (taken_on taken) put
      → ProcessorKeeps job (record { parsers = parsers; groupers = n; processors = processors }) (taken_on (taken_more taken j frame)) put
  keeps_more parsers processors kept =
      law.processor_keeps_on job (record { parsers = parsers; groupers = n; processors = processors }) (taken_on taken) (taken_on (taken_more taken j frame)) (map (λ (x : Copies). (j, x)) whole) put
      (record {
        front = λ g less. stepping.front_more job n j (taken_on taken) (taken_on (taken_more taken j frame)) frame there one lawful may g;
        lawful = λ g less. stepping.lawful_more job n j (taken_on taken) (taken_on (taken_more taken j frame)) frame there one lawful may g less;
        of_groupers = numbers whole;
        groups = λ g less. sym (stepping.groups_now job n j (taken_on taken) (taken_on (taken_more taken j frame)) frame there one lawful may whole refl g less);
      })
      kept

module _ (w p u : WorkSeen) (j : ℕ) (frame : Frame) (h : IsSound w) (there : j < length w.ins) (pulled : HasPulled w p j frame) where
  same_noted : taken_on p.orders j ≡ given_on w.ins j
  same_noted = ap (λ (l : List (List Frame)). taken_on l j) (ap (λ (x : WorkSeen). x.orders) pulled.rest ∙ h.orders)

  taken_is : taken_off p.ins ≡ taken_more (taken_off w.ins) j frame
  taken_is = taken_one w.ins p.ins j there pulled.changes frame (λ d. (pulled.takes d).given)

  longer : sum_by length (taken_off w.ins) ≤ sum_by length (taken_off p.ins)
  longer =
      let all = sum_by-set length (taken_off w.ins) j (given_on w.ins j ++ frame ∷ []) [] (omega (arith, there, taken_long w.ins)) in
      omega (arith, all, ap (sum_by length) taken_is, length-append (given_on w.ins j) (frame ∷ []))

  abbrev refused : WorkSeen
  refused = record w { ins = p.ins; orders = u.orders; outs = w.outs; state = u.state }

  by_case : (bad : NodeFault) → IsRefused p j frame bad → Fails w refused bad
  by_case (Link link bad) why =
      fails_by w p.ins u.orders w.outs u.state (Link link bad) h pulled.goes (outs_same w.outs) (pulled.stand w.credits h.ins) h.outs refl longer
      (λ takes. absurd (wrong (last_may_stand (GroupRule w.job) (given_on p.ins j) (given_on w.ins j) frame (takes j (subst (λ (n : ℕ). j < n) (sym pulled.changes.long) there)) (record { rest = []; joined = last ∙ sym (append-nil (given_on w.ins j ++ frame ∷ [])) }))))
      (inl (
        subst (λ (k : ℕ). k < length w.ins) (sym why.0) there,
        λ d. inr (inr (record {
          frames = given_on w.ins j;
          frame = frame;
          last = subst (λ (k : ℕ). (get_or p.ins k d).given ≡ given_on w.ins j ++ frame ∷ []) (sym why.0) (sym (given_at p.ins j d (subst (λ (n : ℕ). j < n) (sym pulled.changes.long) there)) ∙ last);
          named = why.1 ∙ ap (λ (fs : List Frame). Order (capped (length (bytes_of_all fs)))) same_noted;
          wrong = wrong;
        })),
      ))
    where
      last : given_on p.ins j ≡ given_on w.ins j ++ frame ∷ []
      last = pulled_last w p j frame h there pulled ∙ ap (λ (fs : List Frame). fs ++ frame ∷ []) same_noted

      wrong : ¬ MayFollow (GroupRule w.job) (given_on w.ins j) frame
      wrong may = why.2 (subst (λ (fs : List Frame). MayFollow (GroupRule p.job) fs frame) (sym same_noted) (subst (λ (job : Declared). MayFollow (GroupRule job) (given_on w.ins j) frame) (sym (ap (λ (x : WorkSeen). x.job) pulled.rest)) may))
  by_case OutOfMemory may =
      fails_by w p.ins u.orders w.outs u.state OutOfMemory h pulled.goes (outs_same w.outs) (pulled.stand w.credits h.ins) h.outs refl longer
      (λ takes parsers processors.
      subst (λ (n : ℕ). ProcessorKeeps w.job (record { parsers = parsers; groupers = n; processors = processors }) (given_on p.ins) (put_by w.outs)) (sym pulled.goes.as_many)
      (subst (λ (l : List (List Frame)). ProcessorKeeps w.job (record { parsers = parsers; groupers = length w.ins; processors = processors }) (taken_on l) (put_by w.outs)) (sym taken_is)
      (keeps_more w.job (taken_off w.ins) (length w.ins) j frame (put_by w.outs) (sym (taken_long w.ins)) there (lawful_by w.job w.ins (put_by w.outs) w.state h.state)
      (subst (λ (job : Declared). MayFollow (GroupRule job) (given_on w.ins j) frame) (ap (λ (x : WorkSeen). x.job) pulled.rest) (subst (λ (fs : List Frame). MayFollow (GroupRule p.job) fs frame) same_noted may))
      parsers processors (keeps_by w.job w.ins (put_by w.outs) w.state h.state parsers processors))))
      tt
  by_case (Malformed capture bad) why = absurd why
  by_case (Read capture) why = absurd why
  by_case Write why = absurd why

  pub refuse_fails : (bad : NodeFault) → Refuses p u j frame bad → Fails w u bad
  refuse_fails bad refuses =
      subst (λ (x : WorkSeen). Fails w x bad)
      (sym (refuses.rest ∙ ap (λ (x : WorkSeen). record x { orders = u.orders; state = u.state }) pulled.rest))
      (by_case bad refuses.why)

pub noted_long : (w p : WorkSeen) (j : ℕ) (frame : Frame) → IsSound w → j < length w.ins → HasPulled w p j frame → j < length p.orders
noted_long w p j frame h there pulled =
    subst (λ (n : ℕ). j < n) (sym (ap (λ (x : WorkSeen). length x.orders) pulled.rest ∙ ap length h.orders ∙ taken_long w.ins)) there

pub may_grant : (w p u : WorkSeen) (j : ℕ) (frame : Frame) → IsSound w → j < length w.ins → HasPulled w p j frame → TakesUp p u j frame
    → (j < length u.ins) × ((d : RxSeen) → 0 < (get_or u.ins j d).ungranted)
may_grant w p u j frame h there pulled up =
    let same : u.ins ≡ p.ins = ap (λ (x : WorkSeen). x.ins) up.rest in (
      subst (λ (n : ℕ). j < n) (sym (ap length same ∙ pulled.changes.long)) there,
      λ d.
          let one : (get_or u.ins j d).ungranted ≡ capped (0 + 1) =
          ap (λ (l : List RxSeen). (get_or l j d).ungranted) same ∙ (pulled.takes d).ungranted ∙ ap (λ (n : ℕ). capped (n + 1)) (h.quiet.0.granted j d there) in
          omega (arith, one),
    )
