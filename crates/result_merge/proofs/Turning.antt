-- What a turn answers, from the work that it did.
use Rattle.std.proofs.Common.{ℕ, suc, ◌+◌, ◌-◌, ◌<◌, ◌≤◌, ◌≡◌, ◌&&◌, ⊎_elim, inl, Bool, true, false, None, Some, Option, List, [], ◌∷◌, length, refl, sym, ap, ◌∙◌, subst, arith}
use Rattle.node_frames.specs.declared.frame.Frame.{Frame}
use Rattle.credit_link.specs.Ends.{RxSeen}
use Rattle.credit_link.specs.Frames.{has_finish, FinishIsLast}
use Rattle.credit_link.specs.declared.turn.NodeFault.{NodeFault}
use Rattle.credit_link.specs.declared.turn.Turn.{Turn}
use Rattle.credit_link.specs.declared.turn.Turn.TheVariants.{Moved, Idle, Done}
use Rattle.round_law.specs.Links.{HasTakenAll}
use Rattle.round_law.specs.Rows.{IsOrderly, OffersFew, TurnSays, TurnTells}
use Rattle.round_law.specs.Views.{receiver_view}
use Rattle.round_law.specs.Waits.{IsDone}
use Rattle.run_law.specs.Links.{CountsRule, AnswerRule}
use Rattle.node_lanes.specs.Ends.{EndsTell, given_on, InsStand}
use Rattle.node_lanes.specs.Resting.{no_outs, HasTakenEach, SomeToTake, HasRested}
use Rattle.node_lanes.proofs.Listed.{before_or_not}
use Rattle.node_lanes.proofs.Pumped.{given_at, given_past, receivers_at, some_of}
use Rattle.node_lanes.proofs.Resting.{no_outs_rest, no_outs_stand, SameCounts, is_orderly, idle_row, done_row, pipes_stay}
use Rattle.std.proofs.lemmas.List.{length-map}
use Rattle.net_law.specs.Merges.{MergeGoes, MergeMeets, MergeRests, merge_view}
use Rattle.result_merge.specs.Works.{WorkSeen, merge_of, taken_off, have_ended, shape_by, rests_over, IsSound}
use Rattle.result_merge.specs.Nodes.{NodeHolds}
use Rattle.result_merge.specs.Steps.{Steps, Rises, Fails, Rested, IsRest, WritesDue, Turns, work_view}
use Rattle.result_merge.proofs.Lists.{taken_same, lawful_last}
use Rattle.result_merge.proofs.Stepping.{tells_on, steps_on, rises_first}
use Rattle.result_merge.proofs.Works.{rests_by, rests_of, stands_of}

-- ---- of what came the end is last

lawful_on : (w : WorkSeen) → IsSound w → (j : ℕ) → j < length w.ins → FinishIsLast (given_on w.ins j)
lawful_on w h j less =
    ⊎_elim
    (λ (parser : j < w.parsers). lawful_last (CountsRule w.job (shape_by w.parsers (length w.ins) 0) j) [] (given_on w.ins j) (h.lawful.counts 0 j parser))
    (λ (processor : w.parsers ≤ j).
    let place : w.parsers + (j - w.parsers) ≡ j = omega (arith, processor) in
    subst (λ (i : ℕ). FinishIsLast (given_on w.ins i)) place
    (lawful_last (AnswerRule w.job) [] (given_on w.ins (w.parsers + (j - w.parsers))) (h.lawful.answers (j - w.parsers) (omega (arith, less, processor)))))
    (before_or_not j w.parsers)

orderly : (w : WorkSeen) → IsSound w → EndsTell w.ins [] → IsOrderly (work_view w)
orderly w h tells =
    is_orderly w.credits 0 0 (length w.gained) (have_ended (taken_off w.ins)) w.ins no_outs h.ins (no_outs_stand w.credits) h.quiet
    (λ j d less. subst FinishIsLast (given_at w.ins j d less) (lawful_on w h j less)) tells.ins

few : (w : WorkSeen) → OffersFew (work_view w)
few w k d less = absurd (omega (arith, less))

-- ---- where nothing moved

-- the same was taken
same_taken : (a b : WorkSeen) → length b.ins ≡ length a.ins → Rested a b → taken_off b.ins ≡ taken_off a.ins
same_taken a b long r =
    taken_same a.ins b.ins long (λ j.
    ⊎_elim
    (λ (there : j < length a.ins).
    let d : RxSeen = some_of a.ins j there in
    given_at b.ins j d (omega (arith, there, long)) ∙ (r.ins_rest j d there).given ∙ sym (given_at a.ins j d there))
    (λ (past : length a.ins ≤ j). given_past b.ins j (omega (arith, past, long)) ∙ sym (given_past a.ins j past))
    (before_or_not j (length a.ins)))

-- so all that may be written is
still_rests : (a b : WorkSeen) → length b.ins ≡ length a.ins → Rested a b → MergeRests (merge_of a None) → MergeRests (merge_of b None)
still_rests a b long r rests =
    subst (λ (x : WorkSeen). MergeRests (merge_of x None)) (sym r.rest)
    (rests_by (record a { ins = b.ins }) None (subst (λ (taken : List (List Frame)). rests_over a.job a.parsers taken a.gained) (sym (same_taken a b long r)) (rests_of a None rests)))

-- Finish came on each link that took all
all_ended : (ins : List RxSeen) → HasTakenEach ins → have_ended (taken_off ins) ≡ true
all_ended [] each = refl
all_ended (r ∷ ins) each =
    let first : has_finish r.given ≡ true = (each 0 r (omega arith)).finish in
    ap (λ (b : Bool). b && have_ended (taken_off ins)) first ∙ all_ended ins (λ j d less. each (suc j) d (omega (arith, less)))

-- ---- a turn

pub writes_behind : (a b c : WorkSeen) → Steps a b → WritesDue b c → WritesDue a c
writes_behind a b c f g = record { steps = steps_on a b c f g.steps; rests = g.rests }

pub moved_turn : (a b c : WorkSeen) → Steps a b → Rises a b → WritesDue b c → Turns Moved a c
moved_turn a b c f rises g = record { steps = steps_on a b c f g.steps; rests = g.rests; by = rises_first a b c f g.steps rises }

pub rest_turn : (turn : Turn) (a b : WorkSeen) → Steps a b → Rested a b → MergeRests (merge_of a None) → IsRest turn b → Turns turn a b
rest_turn Moved a b f r rests is = absurd is
rest_turn Idle a b f r rests is = record { steps = f; rests = still_rests a b f.goes.ins.as_many r rests; by = (r, is) }
rest_turn Done a b f r rests is = record { steps = f; rests = still_rests a b f.goes.ins.as_many r rests; by = (r, is) }

module _ (a b : WorkSeen) (f : Steps a b) (r : Rested a b) where
  has_rested : HasRested a.credits a.ins b.ins no_outs no_outs
  has_rested = record {
    as_many = (f.goes.ins.as_many, refl);
    ins_rest = r.ins_rest;
    outs_rest = no_outs_rest;
    ins_stand = subst (λ (n : ℕ). InsStand n b.ins) f.goes.same.2 f.sound.ins;
    outs_stand = no_outs_stand a.credits;
    empty = λ none j d less on. r.empty j d less on;
    ended = λ none ended k less. absurd (omega (arith, less));
  }

  same_counts : SameCounts 0 0 (length a.gained) 0 0 (length b.gained) (have_ended (taken_off a.ins)) (have_ended (taken_off b.ins))
  same_counts = record {
    read = refl;
    records = refl;
    wrote = ap (λ (x : WorkSeen). length x.gained) r.rest;
    wrote_all = ap have_ended (same_taken a b f.goes.ins.as_many r);
  }

pub turn_says : (turn : Turn) (a b : WorkSeen) → Turns turn a b → EndsTell a.ins [] → TurnSays a.credits (work_view a) (work_view b) turn
turn_says Moved a b t tells = record { orderly = orderly b t.steps.sound (tells_on a b t.steps.goes tells); few = few b }
turn_says Idle a b t tells =
    idle_row a.credits a.ins b.ins no_outs no_outs (has_rested a b t.steps t.by.0) 0 0 (length a.gained) 0 0 (length b.gained) (have_ended (taken_off a.ins)) (have_ended (taken_off b.ins)) (same_counts a b t.steps t.by.0)
    (orderly b t.steps.sound (tells_on a b t.steps.goes tells)) (few b) (inl t.by.1)
turn_says Done a b t tells =
    done_row a.credits a.ins b.ins no_outs no_outs (has_rested a b t.steps t.by.0) 0 0 (length a.gained) 0 0 (length b.gained) (have_ended (taken_off a.ins)) (have_ended (taken_off b.ins)) (same_counts a b t.steps t.by.0)
    (orderly b t.steps.sound (tells_on a b t.steps.goes tells)) (few b) t.by.1 (λ k d less. absurd (omega (arith, less))) (all_ended b.ins t.by.1)

pub turn_tells : (turn : Turn) (a b : WorkSeen) → Turns turn a b → EndsTell a.ins [] → TurnTells (work_view a) (work_view b) turn
turn_tells Moved a b t tells = t.by tells
turn_tells Idle a b t tells =
    pipes_stay a.credits a.ins b.ins no_outs no_outs (has_rested a b t.steps t.by.0) 0 0 (length a.gained) 0 0 (length b.gained) (have_ended (taken_off a.ins)) (have_ended (taken_off b.ins)) tells
turn_tells Done a b t tells =
    pipes_stay a.credits a.ins b.ins no_outs no_outs (has_rested a b t.steps t.by.0) 0 0 (length a.gained) 0 0 (length b.gained) (have_ended (taken_off a.ins)) (have_ended (taken_off b.ins)) tells

-- ---- whether it is done

pub is_done : (w : WorkSeen) → HasTakenEach w.ins → IsDone (work_view w)
is_done w taken = record {
  ins = λ j x less.
      let there : j < length w.ins = omega (arith, less, length-map w.ins receiver_view) in
      let d = some_of w.ins j there in
      subst HasTakenAll (sym (receivers_at w.ins j x d there)) (taken j d there);
  outs = λ k x less. absurd (omega (arith, less));
  wrote_all = all_ended w.ins taken;
}

pub not_done : (w : WorkSeen) (fault : Option NodeFault) → SomeToTake w.ins → ¬ IsDone (merge_view (merge_of w fault))
not_done w fault some done =
    let j = some.0 in
    let d : RxSeen = some_of w.ins j some.1 in
    some.2 d (subst HasTakenAll (receivers_at w.ins j (receiver_view d) d some.1) (done.ins j (receiver_view d) (omega (arith, some.1, length-map w.ins receiver_view))))

pub done_by : (w : WorkSeen) (fault : Option NodeFault) → fault ≡ None → HasTakenEach w.ins → (fault ≡ None) × IsDone (merge_view (merge_of w fault))
done_by w fault none taken = (none, subst (λ (f : Option NodeFault). IsDone (merge_view (merge_of w f))) (sym none) (is_done w taken))

pub not_done_by : (w : WorkSeen) (fault : Option NodeFault) (all : Bool) → (all ≡ false → SomeToTake w.ins) → IsDone (merge_view (merge_of w fault)) → all ≡ true
not_done_by w fault true some done = refl
not_done_by w fault false some done = absurd (not_done w fault (some refl) done)

-- ---- the merge behind a turn

pub holds_on : (b : WorkSeen) (fault : Option NodeFault) → fault ≡ None → IsSound b → MergeRests (merge_of b None) → NodeHolds b fault
holds_on b fault none h rests =
    subst (λ (f : Option NodeFault). NodeHolds b f) (sym none) (record { stands = stands_of b h rests; sound = λ e. h; rests = λ e. rests })

pub holds_failed : (a b : WorkSeen) (bad : NodeFault) → Fails a b bad → NodeHolds b (Some bad)
holds_failed a b bad f = record { stands = f.stands; sound = λ e. absurd (let wrong : Some bad ≡ None = e in cc); rests = λ e. absurd (let wrong : Some bad ≡ None = e in cc) }

pub goes_by : (a b : WorkSeen) (fault after : Option NodeFault) → fault ≡ None → MergeGoes (merge_of a None) (merge_of b after) → MergeGoes (merge_of a fault) (merge_of b after)
goes_by a b fault after none goes = subst (λ (f : Option NodeFault). MergeGoes (merge_of a f) (merge_of b after)) (sym none) goes

pub never_again : {P : Type 0} (fault : Option NodeFault) (bad : NodeFault) → fault ≡ None → fault ≡ Some bad → P
never_again fault bad none some = absurd (let wrong : None ≡ Some bad = sym none ∙ some in cc)

pub same_bad : (a b : NodeFault) → Some a ≡ Some b → a ≡ b
same_bad a b e = cc

pub meets_by : (a b : WorkSeen) (fault : Option NodeFault) (bad : NodeFault) → fault ≡ None → Fails a b bad → MergeMeets (merge_of a fault) (merge_of b (Some bad)) bad
meets_by a b fault bad none f = subst (λ (o : Option NodeFault). MergeMeets (merge_of a o) (merge_of b (Some bad)) bad) (sym none) f.meets

-- the same of a merge that met no fault before nor after
pub goes_on : (a b : WorkSeen) (fault : Option NodeFault) → fault ≡ None → MergeGoes (merge_of a None) (merge_of b None) → MergeGoes (merge_of a fault) (merge_of b fault)
goes_on a b fault none goes = subst (λ (f : Option NodeFault). MergeGoes (merge_of a f) (merge_of b f)) (sym none) goes

pub says_by : (turn : Turn) (a b : WorkSeen) (fault : Option NodeFault) → fault ≡ None → Turns turn a b → EndsTell a.ins [] → TurnSays a.credits (merge_view (merge_of a fault)) (merge_view (merge_of b fault)) turn
says_by turn a b fault none t tells =
    subst (λ (f : Option NodeFault). TurnSays a.credits (merge_view (merge_of a f)) (merge_view (merge_of b f)) turn) (sym none) (turn_says turn a b t tells)

pub tells_by : (turn : Turn) (a b : WorkSeen) (fault : Option NodeFault) → fault ≡ None → Turns turn a b → EndsTell a.ins [] → TurnTells (merge_view (merge_of a fault)) (merge_view (merge_of b fault)) turn
tells_by turn a b fault none t tells =
    subst (λ (f : Option NodeFault). TurnTells (merge_view (merge_of a f)) (merge_view (merge_of b f)) turn) (sym none) (turn_tells turn a b t tells)
