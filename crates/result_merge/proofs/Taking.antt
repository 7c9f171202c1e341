-- A frame is taken off one link in, taken up and granted; or it is refused.
use Rattle.std.proofs.Common.{ℕ, ◌+◌, ◌-◌, ◌<◌, ◌≤◌, ◌≡◌, ◌≢◌, None, Some, Option, Ok, List, [], ◌∷◌, ◌++◌, length, get_or, set, inl, inr, refl, sym, ap, ◌∙◌, subst, arith, append-nil, ⊎_elim}
use Rattle.std.specs.List.{sum_by}
use Rattle.std.proofs.lemmas.List.{set-get_or, map-set, length-map, get_or-set_same, get_or-set_other}
use Rattle.std.proofs.lemmas.List.Sums.{sum_by-set}
use Rattle.node_frames.specs.declared.frame.Frame.{Frame}
use Rattle.credit_link.specs.Ends.{RxSeen}
use Rattle.credit_link.specs.Frames.{capped, bytes_of_all}
use Rattle.credit_link.specs.declared.link_bad.LinkBad.TheVariants.{Order}
use Rattle.credit_link.specs.declared.turn.NodeFault.{NodeFault}
use Rattle.credit_link.specs.declared.turn.NodeFault.TheVariants.{Malformed, Read, Write, Link, OutOfMemory}
use Rattle.credit_link.specs.Pulling.{MeetsBad}
use Rattle.summary_spec.specs.Declaration.{Declared}
use Rattle.round_law.specs.Links.{new_receiver}
use Rattle.round_law.specs.Rows.{taken_by}
use Rattle.round_law.specs.Views.{receiver_view}
use Rattle.run_law.specs.Links.{MayFollow, CountsRule, AnswerRule, AreLawfulCounts, AreLawfulAnswers}
use Rattle.run_law.specs.Nodes.{MergeKeeps}
use Rattle.run_law.specs.Shapes.{IsFront}
use Rattle.run_law.proofs.Going as law
use Rattle.node_lanes.specs.Ends.{given_on, receivers_of, InsStand, InsGo}
use Rattle.node_lanes.specs.Faults.{RxMeets}
use Rattle.node_lanes.specs.Passes.{InsAreCalm}
use Rattle.node_lanes.specs.Pulling.{ChangesLink, TakesFrame, RefusesFrame, PullsAt}
use Rattle.node_lanes.proofs.Going.{ins_go_on, ins_calm_on}
use Rattle.node_lanes.proofs.Listed.{before_or_not, front_same}
use Rattle.node_lanes.proofs.Pumped.{given_at, some_of, receivers_at, same_or_not}
use Rattle.node_lanes.proofs.Taken.{takes_more, changed_calm, grants_quiet}
use Rattle.merge_state.specs.declared.state.MergeState.{MergeState}
use Rattle.net_law.specs.Merges as mn
use Rattle.net_law.specs.Merges.{MergeMeets}
use Rattle.net_law.proofs.Meeting.{last_may_stand}
use Rattle.result_merge.specs.Works.{WorkSeen, merge_of, noted, taken_off, taken_on, taken_more, shape_by, state_holds, keeps_over, IsSound}
use Rattle.result_merge.specs.Steps.{Steps, Rises, Fails, Pulls, HasPulled, Grants, HoldsNoted, MayCome, MayNotCome, TakesUp, IsRefused, Refuses}
use Rattle.result_merge.proofs.Lists.{get_same, taken_long, more_long, lawful_push}
use Rattle.result_merge.proofs.Works.{fails_by, fails_same}

-- ---- what was taken

module _ (before after : List RxSeen) (j : ℕ) (there : j < length before) (changes : ChangesLink before after j) where
  here : RxSeen
  here = some_of before j there

  pub taken_one : (frame : Frame) → ((d : RxSeen) → (get_or after j d).given ≡ (get_or before j d).given ++ frame ∷ []) → taken_off after ≡ taken_more (taken_off before) j frame
  taken_one frame more =
      ap taken_off (changes.set here)
      ∙ map-set (λ (r : RxSeen). r.given) before j (get_or after j here)
      ∙ ap (λ (fs : List Frame). set (taken_off before) j fs) (more here ∙ ap (λ (fs : List Frame). fs ++ frame ∷ []) (sym (given_at before j here there)))

  pub taken_none : ((d : RxSeen) → (get_or after j d).given ≡ (get_or before j d).given) → taken_off after ≡ taken_off before
  taken_none same =
      ap taken_off (changes.set here)
      ∙ map-set (λ (r : RxSeen). r.given) before j (get_or after j here)
      ∙ ap (λ (fs : List Frame). set (taken_off before) j fs) (same here ∙ sym (given_at before j here there))
      ∙ set-get_or (taken_off before) j []

  pub left_alone : ((d : RxSeen) → get_or after j d ≡ get_or before j d) → after ≡ before
  left_alone same = changes.set here ∙ ap (λ (r : RxSeen). set before j r) (same here) ∙ set-get_or before j here

  -- a grant changes nothing of what came and went
  grants_alike : ((d : RxSeen) → taken_by (receiver_view (get_or after j d)) ≡ taken_by (receiver_view (get_or before j d))) → sum_by taken_by (receivers_of after) ≡ sum_by taken_by (receivers_of before)
  grants_alike same =
      let listed : receivers_of after ≡ set (receivers_of before) j (receiver_view (get_or after j here)) = ap receivers_of (changes.set here) ∙ map-set receiver_view before j (get_or after j here) in
      let all = sum_by-set taken_by (receivers_of before) j (receiver_view (get_or after j here)) (new_receiver 0) (omega (arith, there, length-map before receiver_view)) in
      omega (arith, ap (sum_by taken_by) listed, all, same here, ap taken_by (receivers_at before j (new_receiver 0) here there))

-- one frame more on link j
module _ (taken : List (List Frame)) (j : ℕ) (frame : Frame) (there : j < length taken) where
  pub more_here : taken_on (taken_more taken j frame) j ≡ taken_on taken j ++ frame ∷ []
  more_here = get_or-set_same taken j (taken_on taken j ++ frame ∷ []) [] there

  pub more_other : (k : ℕ) → k ≢ j → taken_on (taken_more taken j frame) k ≡ taken_on taken k
  more_other k differs = get_or-set_other taken j k (taken_on taken j ++ frame ∷ []) [] differs

  more_front : (k : ℕ) → IsFront (taken_on taken k) (taken_on (taken_more taken j frame) k)
  more_front k =
      ⊎_elim
      (λ (e : k ≡ j). subst (λ (i : ℕ). IsFront (taken_on taken i) (taken_on (taken_more taken j frame) i)) (sym e) (record { rest = frame ∷ []; joined = more_here }))
      (λ (differs : k ≢ j). front_same (taken_on taken k) (taken_on (taken_more taken j frame) k) (more_other k differs))
      (same_or_not k j)

  module _ (job : Declared) (parsers : ℕ) where
    -- all is lawful with it
    module _ (links : ℕ) (may : MayCome job parsers links taken j frame) where
      pub counts_more : ((groupers p : ℕ) → p < parsers → AreLawfulCounts job (shape_by parsers links groupers) p (taken_on taken p))
          → (groupers p : ℕ) → p < parsers → AreLawfulCounts job (shape_by parsers links groupers) p (taken_on (taken_more taken j frame) p)
      counts_more lawful groupers p less =
          ⊎_elim
          (λ (e : p ≡ j).
          let first : j < parsers = subst (λ (n : ℕ). n < parsers) e less in
          subst (λ (i : ℕ). AreLawfulCounts job (shape_by parsers links groupers) i (taken_on (taken_more taken j frame) i)) (sym e)
          (subst (λ (fs : List Frame). AreLawfulCounts job (shape_by parsers links groupers) j fs) (sym more_here)
          (lawful_push (CountsRule job (shape_by parsers links groupers) j) (taken_on taken j) frame (lawful groupers j first) (may.counts first groupers))))
          (λ (differs : p ≢ j). subst (λ (fs : List Frame). AreLawfulCounts job (shape_by parsers links groupers) p fs) (sym (more_other p differs)) (lawful groupers p less))
          (same_or_not p j)

      pub answers_more : ((q : ℕ) → q < links - parsers → AreLawfulAnswers job (taken_on taken (parsers + q)))
          → (q : ℕ) → q < links - parsers → AreLawfulAnswers job (taken_on (taken_more taken j frame) (parsers + q))
      answers_more lawful q less =
          ⊎_elim
          (λ (e : parsers + q ≡ j).
          let past : parsers ≤ j = omega (arith, e) in
          subst (λ (i : ℕ). AreLawfulAnswers job (taken_on (taken_more taken j frame) i)) (sym e)
          (subst (λ (fs : List Frame). AreLawfulAnswers job fs) (sym more_here)
          (lawful_push (AnswerRule job) (taken_on taken j) frame (subst (λ (i : ℕ). AreLawfulAnswers job (taken_on taken i)) e (lawful q less)) (may.answers past))))
          (λ (differs : parsers + q ≢ j). subst (λ (fs : List Frame). AreLawfulAnswers job fs) (sym (more_other (parsers + q) differs)) (lawful q less))
          (same_or_not (parsers + q) j)

    -- the promise stands with it
    pub keeps_more : (written : List ℕ) → 0 < parsers → ((q : ℕ) → q < length taken - parsers → AreLawfulAnswers job (taken_on (taken_more taken j frame) (parsers + q)))
        → keeps_over job parsers taken written → keeps_over job parsers (taken_more taken j frame) written
    keeps_more written some lawful kept groupers =
        subst (λ (n : ℕ). MergeKeeps job (shape_by parsers n groupers) (taken_on (taken_more taken j frame)) (λ q. taken_on (taken_more taken j frame) (parsers + q)) [] written) (sym (more_long taken j frame))
        (law.merge_keeps_on job (shape_by parsers (length taken) groupers) (taken_on taken) (taken_on (taken_more taken j frame)) (λ q. taken_on taken (parsers + q)) (λ q. taken_on (taken_more taken j frame) (parsers + q)) [] written some
        (record { counts_front = λ p less. more_front p; front = λ q less. more_front (parsers + q); lawful = lawful })
        (kept groupers))

-- ---- a pull

module _ (w : WorkSeen) (ins : List RxSeen) (j : ℕ) (h : IsSound w) (there : j < length w.ins) (changes : ChangesLink w.ins ins j) (goes : InsGo w.ins ins)
    (stand : (credits : ℕ) → InsStand credits w.ins → InsStand credits ins) where
  pub pulls_ok : (pulled : Option Frame) → ((d : RxSeen) → PullsAt j (get_or w.ins j d) (get_or ins j d) (Ok pulled)) → Pulls pulled j w (record w { ins = ins })
  pulls_ok None pulls = (
    ap (λ (l : List RxSeen). record w { ins = l }) (left_alone w.ins ins j there changes (λ d. (pulls d).1)),
    λ d. (pulls d).0,
  )
  pulls_ok (Some frame) pulls = record { changes = changes; takes = pulls; goes = goes; stand = stand; rest = refl }

  pub pull_fails : (bad : NodeFault) → ((d : RxSeen) → RefusesFrame j (get_or w.ins j d) (get_or ins j d) bad) → Fails w (record w { ins = ins }) bad
  pull_fails bad refuses =
      fails_same w ins w.counts w.answers w.state bad h goes (stand w.credits h.ins) (taken_none w.ins ins j there changes (λ d. ap (λ (r : RxSeen). r.given) (refuses d).rest)) meets
    where
      after : WorkSeen
      after = record w { ins = ins }

      d0 : RxSeen
      d0 = some_of w.ins j there

      first : RefusesFrame j (get_or w.ins j d0) (get_or ins j d0) bad
      first = refuses d0

      met : (d : RxSeen) → MeetsBad (get_or ins j d).given (get_or ins j d).finished (get_or ins j d).box first.bad
      met d =
          subst (λ (r : RxSeen). MeetsBad r.given r.finished r.box first.bad) (get_same ins j d0 d (subst (λ (n : ℕ). j < n) (sym changes.long) there))
          (first.meets (h.quiet.quiet j d0 there))

      meets : MergeMeets (merge_of w None) (merge_of after (Some bad)) bad
      meets =
          subst (λ (f : NodeFault). MergeMeets (merge_of w None) (merge_of after (Some f)) f) (sym first.named)
          (⊎_elim
          (λ (parser : j < w.parsers). inl (parser, λ groupers d. inr (inl (met d))))
          (λ (processor : w.parsers ≤ j). inr (processor, there, λ d. inr (inl (met d))))
          (before_or_not j w.parsers))

-- ---- a frame that was taken up and granted

module _ (w : WorkSeen) (pulled ins : List RxSeen) (counts answers : List (List Frame)) (state : MergeState) (j : ℕ) (frame : Frame) (h : IsSound w) (there : j < length w.ins)
    (changes : ChangesLink w.ins pulled j) (takes : (d : RxSeen) → TakesFrame (get_or w.ins j d) (get_or pulled j d) frame) (goes : InsGo w.ins pulled)
    (stand : (credits : ℕ) → InsStand credits w.ins → InsStand credits pulled)
    (changes' : ChangesLink pulled ins j)
    (grants : (d : RxSeen) → get_or ins j d ≡ record (get_or pulled j d) { owed = capped ((get_or pulled j d).owed + 1); ungranted = (get_or pulled j d).ungranted - 1 })
    (goes' : InsGo pulled ins) (stand' : (credits : ℕ) → InsStand credits pulled → InsStand credits ins)
    (apart : length counts ≡ w.parsers) (orders : counts ++ answers ≡ taken_more (noted w) j frame) (may : MayCome w.job w.parsers (length w.ins) (noted w) j frame)
    (stands : state_holds w.job w.parsers counts answers w.gained state) where
  abbrev after : WorkSeen
  after = record w { ins = ins; counts = counts; answers = answers; state = state }

  there' : j < length pulled
  there' = subst (λ (n : ℕ). j < n) (sym changes.long) there

  within : j < length (taken_off w.ins)
  within = subst (λ (n : ℕ). j < n) (sym (taken_long w.ins)) there

  taken_is : taken_off ins ≡ taken_more (taken_off w.ins) j frame
  taken_is = taken_none pulled ins j there' changes' (λ d. ap (λ (r : RxSeen). r.given) (grants d)) ∙ taken_one w.ins pulled j there changes frame (λ d. (takes d).given)

  may_now : MayCome w.job w.parsers (length w.ins) (taken_off w.ins) j frame
  may_now = subst (λ (taken : List (List Frame)). MayCome w.job w.parsers (length w.ins) taken j frame) h.orders may

  all_go : InsGo w.ins ins
  all_go = ins_go_on w.ins pulled ins goes goes'

  calm : InsAreCalm w.ins ins
  calm =
      ins_calm_on w.ins pulled ins changes.long
      (changed_calm w.ins pulled j changes (λ d. (ap (λ (r : RxSeen). r.forth) (takes d).rest, ap (λ (r : RxSeen). r.back) (takes d).rest)))
      (changed_calm pulled ins j changes' (λ d. (ap (λ (r : RxSeen). r.forth) (grants d), ap (λ (r : RxSeen). r.back) (grants d))))

  more : sum_by taken_by (receivers_of w.ins) < sum_by taken_by (receivers_of ins)
  more =
      omega (
        arith,
        takes_more w.ins pulled j there changes frame takes,
        grants_alike pulled ins j there' changes' (λ d. ap (λ (r : RxSeen). taken_by (receiver_view r)) (grants d)),
      )

  lawful : mn.TakesLawful (merge_of after None)
  lawful = record {
    counts = λ groupers p less.
        subst (λ (n : ℕ). AreLawfulCounts w.job (shape_by w.parsers n groupers) p (taken_on (taken_off ins) p)) (sym all_go.as_many)
        (subst (λ (taken : List (List Frame)). AreLawfulCounts w.job (shape_by w.parsers (length w.ins) groupers) p (taken_on taken p)) (sym taken_is)
        (counts_more (taken_off w.ins) j frame within w.job w.parsers (length w.ins) may_now h.lawful.counts groupers p less));
    answers = λ q less.
        subst (λ (taken : List (List Frame)). AreLawfulAnswers w.job (taken_on taken (w.parsers + q))) (sym taken_is)
        (answers_more (taken_off w.ins) j frame within w.job w.parsers (length w.ins) may_now h.lawful.answers q (omega (arith, less, all_go.as_many)));
  }

  pub takes_steps : Steps w after × Rises w after
  takes_steps = (
    record {
      sound = record {
        job_is = h.job_is;
        parsers = h.parsers;
        processors = (omega (arith, all_go.as_many, h.processors.0), omega (arith, all_go.as_many, h.processors.1));
        ins = stand' w.credits (stand w.credits h.ins);
        quiet = grants_quiet w.ins pulled ins j frame there h.quiet changes takes changes' grants;
        lawful = lawful;
        apart = apart;
        orders = orders ∙ ap (λ (l : List (List Frame)). taken_more l j frame) h.orders ∙ sym taken_is;
        state = stands;
        keeps = subst (λ (taken : List (List Frame)). keeps_over w.job w.parsers taken w.gained) (sym taken_is)
            (keeps_more (taken_off w.ins) j frame within w.job w.parsers w.gained h.parsers.0
            (λ q less. answers_more (taken_off w.ins) j frame within w.job w.parsers (length w.ins) may_now h.lawful.answers q (omega (arith, less, taken_long w.ins)))
            h.keeps);
      };
      goes = record {
        same = (refl, refl, refl);
        ins = all_go;
        sink = record { told = refl; label = refl };
        gained = front_same w.gained w.gained refl;
        written = λ told start e. e;
        calm = λ none. refl;
        kept = λ bad e. e;
      };
      lent = refl;
      calm = calm;
      no_less = λ tells. omega (arith, more);
    },
    λ tells. omega (arith, more),
  )

may_before : (w p : WorkSeen) (j : ℕ) (frame : Frame) → HasPulled w p j frame → MayCome p.job p.parsers (length p.ins) (noted p) j frame → MayCome w.job w.parsers (length w.ins) (noted w) j frame
may_before w p j frame pulled may =
    subst (λ (n : ℕ). MayCome w.job w.parsers n (noted w) j frame) pulled.changes.long
    (subst (λ (x : WorkSeen). MayCome x.job x.parsers (length p.ins) (noted x) j frame) pulled.rest may)

-- the same over the work as it is after each step
pub taken_up : (w p u a : WorkSeen) (j : ℕ) (frame : Frame) → IsSound w → j < length w.ins → HasPulled w p j frame → TakesUp p u j frame → Grants u a j → Steps w a × Rises w a
taken_up w p u a j frame h there pulled up granted =
    subst (λ (x : WorkSeen). Steps w x × Rises w x) (sym whole)
    (takes_steps w p.ins a.ins u.counts u.answers u.state j frame h there pulled.changes pulled.takes pulled.goes pulled.stand
    (subst (λ (l : List RxSeen). ChangesLink l a.ins j) same_ins granted.changes)
    (λ d. subst (λ (l : List RxSeen). get_or a.ins j d ≡ record (get_or l j d) { owed = capped ((get_or l j d).owed + 1); ungranted = (get_or l j d).ungranted - 1 }) same_ins (granted.grants d))
    (subst (λ (l : List RxSeen). InsGo l a.ins) same_ins granted.goes)
    (λ credits. subst (λ (l : List RxSeen). InsStand credits l → InsStand credits a.ins) same_ins (granted.stand credits))
    (up.apart ∙ ap (λ (x : WorkSeen). x.parsers) pulled.rest)
    (up.orders ∙ ap (λ (x : WorkSeen). taken_more (noted x) j frame) pulled.rest)
    (may_before w p j frame pulled up.may)
    (subst (λ (x : WorkSeen). state_holds x.job x.parsers u.counts u.answers x.gained u.state) pulled.rest up.state))
  where
    same_ins : u.ins ≡ p.ins
    same_ins = ap (λ (x : WorkSeen). x.ins) up.rest

    whole : a ≡ record w { ins = a.ins; counts = u.counts; answers = u.answers; state = u.state }
    whole =
        granted.rest
        ∙ ap (λ (x : WorkSeen). record x { ins = a.ins }) up.rest
        ∙ ap (λ (x : WorkSeen). record x { ins = a.ins; counts = u.counts; answers = u.answers; state = u.state }) pulled.rest

-- what was pulled may be noted: the state stands for what was noted before
pub noted_by : (w p : WorkSeen) (j : ℕ) (frame : Frame) → IsSound w → HasPulled w p j frame → HoldsNoted p
noted_by w p j frame h pulled =
    subst HoldsNoted (sym pulled.rest)
    (record { some = h.parsers.0; apart = h.apart; each = ap length h.orders ∙ taken_long w.ins ∙ sym pulled.changes.long; state = h.state })

pub pulled_last : (w p : WorkSeen) (j : ℕ) (frame : Frame) → IsSound w → j < length w.ins → HasPulled w p j frame → given_on p.ins j ≡ taken_on (noted p) j ++ frame ∷ []
pulled_last w p j frame h there pulled =
    let d : RxSeen = some_of w.ins j there in
    given_at p.ins j d (subst (λ (n : ℕ). j < n) (sym pulled.changes.long) there)
    ∙ (pulled.takes d).given
    ∙ ap (λ (fs : List Frame). fs ++ frame ∷ []) (sym (given_at w.ins j d there) ∙ sym (ap (λ (x : WorkSeen). taken_on (noted x) j) pulled.rest ∙ ap (λ (l : List (List Frame)). taken_on l j) h.orders))

pub pulled_there : (w p : WorkSeen) (j : ℕ) (frame : Frame) → j < length w.ins → HasPulled w p j frame → j < length p.ins
pulled_there w p j frame there pulled = subst (λ (n : ℕ). j < n) (sym pulled.changes.long) there

pub may_grant : (w p u : WorkSeen) (j : ℕ) (frame : Frame) → IsSound w → j < length w.ins → HasPulled w p j frame → TakesUp p u j frame
    → (j < length u.ins) × ((d : RxSeen) → 0 < (get_or u.ins j d).ungranted)
may_grant w p u j frame h there pulled up =
    let same : u.ins ≡ p.ins = ap (λ (x : WorkSeen). x.ins) up.rest in (
      subst (λ (n : ℕ). j < n) (sym (ap length same ∙ pulled.changes.long)) there,
      λ d.
          let one : (get_or u.ins j d).ungranted ≡ capped (0 + 1) =
          ap (λ (l : List RxSeen). (get_or l j d).ungranted) same ∙ (pulled.takes d).ungranted ∙ ap (λ (n : ℕ). capped (n + 1)) (h.quiet.granted j d there) in
          omega (arith, one),
    )

-- ---- a frame that was refused

module _ (w p u : WorkSeen) (j : ℕ) (frame : Frame) (h : IsSound w) (there : j < length w.ins) (pulled : HasPulled w p j frame) where
  abbrev refused : WorkSeen
  refused = record w { ins = p.ins; counts = u.counts; answers = u.answers; state = u.state }

  within_taken : j < length (taken_off w.ins)
  within_taken = subst (λ (n : ℕ). j < n) (sym (taken_long w.ins)) there

  taken_now : taken_off p.ins ≡ taken_more (taken_off w.ins) j frame
  taken_now = taken_one w.ins p.ins j there pulled.changes frame (λ d. (pulled.takes d).given)

  last : given_on p.ins j ≡ given_on w.ins j ++ frame ∷ []
  last = ap (λ (taken : List (List Frame)). taken_on taken j) taken_now ∙ more_here (taken_off w.ins) j frame within_taken

  same_noted : taken_on (noted p) j ≡ given_on w.ins j
  same_noted = ap (λ (x : WorkSeen). taken_on (noted x) j) pulled.rest ∙ ap (λ (l : List (List Frame)). taken_on l j) h.orders

  met_order : (May : List Frame → Frame → Type 0) (link : ℕ) → link ≡ j → ¬ May (given_on w.ins j) frame → (d : RxSeen)
      → RxMeets May (get_or w.ins link d) (get_or p.ins link d) (Order (capped (length (bytes_of_all (taken_on (noted p) j)))))
  met_order May link at wrong d =
      inr (inr (record {
        frames = given_on w.ins j;
        frame = frame;
        last = subst (λ (k : ℕ). (get_or p.ins k d).given ≡ given_on w.ins j ++ frame ∷ []) (sym at) (sym (given_at p.ins j d (subst (λ (n : ℕ). j < n) (sym pulled.changes.long) there)) ∙ last);
        named = ap (λ (fs : List Frame). Order (capped (length (bytes_of_all fs)))) same_noted;
        wrong = wrong;
      }))

  -- it may not stand there, by what is known of the work before
  not_now : MayNotCome p.job p.parsers (length p.ins) (noted p) j frame → MayNotCome w.job w.parsers (length w.ins) (taken_off w.ins) j frame
  not_now wrong =
      subst (λ (taken : List (List Frame)). MayNotCome w.job w.parsers (length w.ins) taken j frame) h.orders
      (subst (λ (n : ℕ). MayNotCome w.job w.parsers n (noted w) j frame) pulled.changes.long
      (subst (λ (x : WorkSeen). MayNotCome x.job x.parsers (length p.ins) (noted x) j frame) pulled.rest wrong))

  front : IsFront (given_on w.ins j ++ frame ∷ []) (given_on p.ins j)
  front = record { rest = []; joined = last ∙ sym (append-nil (given_on w.ins j ++ frame ∷ [])) }

  -- so what came is not lawful
  unlawful : MayNotCome w.job w.parsers (length w.ins) (taken_off w.ins) j frame → (fault : Option NodeFault) → mn.TakesLawful (merge_of refused fault) → ⊥
  unlawful wrong fault takes =
      ⊎_elim
      (λ (parser : (j < w.parsers) × ((groupers : ℕ) → ¬ MayFollow (CountsRule w.job (shape_by w.parsers (length w.ins) groupers) j) (given_on w.ins j) frame)).
      parser.1 0 (subst (λ (n : ℕ). MayFollow (CountsRule w.job (shape_by w.parsers n 0) j) (given_on w.ins j) frame) pulled.changes.long
      (last_may_stand (CountsRule w.job (shape_by w.parsers (length p.ins) 0) j) (given_on p.ins j) (given_on w.ins j) frame (takes.counts 0 j parser.0) front)))
      (λ (processor : (w.parsers ≤ j) × ¬ MayFollow (AnswerRule w.job) (given_on w.ins j) frame).
      let place : w.parsers + (j - w.parsers) ≡ j = omega (arith, processor.0) in
      processor.1 (last_may_stand (AnswerRule w.job) (given_on p.ins j) (given_on w.ins j) frame
      (subst (λ (i : ℕ). AreLawfulAnswers w.job (given_on p.ins i)) place (takes.answers (j - w.parsers) (omega (arith, processor.0, there, pulled.changes.long)))) front))
      wrong

  by_case : (bad : NodeFault) → IsRefused p j frame bad → Fails w refused bad
  by_case (Link link bad) why =
      let wrong = not_now why.2 in
      fails_by w refused (Link link bad) h (refl, refl, refl) refl pulled.goes (pulled.stand w.credits h.ins) (record { told = refl; label = refl }) (front_same w.gained w.gained refl) (λ told start e. e)
      (λ takes. absurd (unlawful wrong (Some (Link link bad)) takes))
      (⊎_elim
      (λ (parser : (j < w.parsers) × ((groupers : ℕ) → ¬ MayFollow (CountsRule w.job (shape_by w.parsers (length w.ins) groupers) j) (given_on w.ins j) frame)).
      inl (
        subst (λ (k : ℕ). k < w.parsers) (sym why.0) parser.0,
        λ groupers d.
            subst (λ b. RxMeets (MayFollow (CountsRule w.job (shape_by w.parsers (length w.ins) groupers) link)) (get_or w.ins link d) (get_or p.ins link d) b) (sym why.1)
            (met_order (MayFollow (CountsRule w.job (shape_by w.parsers (length w.ins) groupers) link)) link why.0
            (subst (λ (k : ℕ). ¬ MayFollow (CountsRule w.job (shape_by w.parsers (length w.ins) groupers) k) (given_on w.ins j) frame) (sym why.0) (parser.1 groupers)) d),
      ))
      (λ (processor : (w.parsers ≤ j) × ¬ MayFollow (AnswerRule w.job) (given_on w.ins j) frame).
      inr (
        subst (λ (k : ℕ). w.parsers ≤ k) (sym why.0) processor.0,
        subst (λ (k : ℕ). k < length w.ins) (sym why.0) there,
        λ d.
            subst (λ b. RxMeets (MayFollow (AnswerRule w.job)) (get_or w.ins link d) (get_or p.ins link d) b) (sym why.1)
            (met_order (MayFollow (AnswerRule w.job)) link why.0 processor.1 d),
      ))
      wrong)
  by_case OutOfMemory may =
      fails_by w refused OutOfMemory h (refl, refl, refl) refl pulled.goes (pulled.stand w.credits h.ins) (record { told = refl; label = refl }) (front_same w.gained w.gained refl) (λ told start e. e)
      (λ takes.
      subst (λ (taken : List (List Frame)). keeps_over w.job w.parsers taken w.gained) (sym taken_now)
      (keeps_more (taken_off w.ins) j frame within_taken w.job w.parsers w.gained h.parsers.0
      (λ q less.
      subst (λ (taken : List (List Frame)). AreLawfulAnswers w.job (taken_on taken (w.parsers + q))) taken_now
      (takes.answers q (omega (arith, less, taken_long w.ins, pulled.changes.long))))
      h.keeps))
      tt
  by_case (Malformed capture bad) why = absurd why
  by_case (Read capture) why = absurd why
  by_case Write why = absurd why

  pub refuse_fails : (bad : NodeFault) → Refuses p u j frame bad → Fails w u bad
  refuse_fails bad refuses =
      subst (λ (x : WorkSeen). Fails w x bad)
      (sym (refuses.rest ∙ ap (λ (x : WorkSeen). record x { counts = u.counts; answers = u.answers; state = u.state }) pulled.rest))
      (by_case bad refuses.why)
