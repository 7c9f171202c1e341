-- What a turn answers, from the work that it did.
use Rattle.std.proofs.Common.{ℕ, ◌<◌, ◌≡◌, ◌≢◌, ◌||◌, inl, inr, Bool, true, false, None, Some, Option, Result, Ok, List, [], ◌∷◌, ◌++◌, get_or, refl, sym, ap, ◌∙◌, subst, arith, zero, suc}
use Rattle.std.specs.List.{All}
use Rattle.node_frames.specs.declared.frame.Frame.{Frame}
use Rattle.credit_link.specs.Ends.{IsReady}
use Rattle.credit_link.specs.Frames.{has_finish, FinishIsLast}
use Rattle.credit_link.specs.declared.turn.NodeFault.{NodeFault}
use Rattle.credit_link.specs.declared.turn.Turn.{Turn}
use Rattle.credit_link.specs.declared.turn.Turn.TheVariants.{Moved, Idle, Done}
use Rattle.shuffle_poll.specs.Lanes.{LaneSeen, IsBlocked}
use Rattle.shuffle_poll.specs.Shuffles.{lane_of}
use Rattle.round_law.specs.Rows.{IsOrderly, TurnSays, TurnTells}
use Rattle.run_law.specs.Links.{AreLawfulBehind, ItemRule}
use Rattle.node_lanes.specs.Ends.{EndsTell, given_on}
use Rattle.node_lanes.proofs.Going.{ins_same, outs_same}
use Rattle.node_lanes.proofs.Pumped.{given_at}
use Rattle.node_lanes.proofs.Resting.{SameCounts, is_orderly, idle_row, done_row, pipes_stay}
use Rattle.grouper_state.specs.States.{IsAtRest}
use Rattle.grouper_state.proofs.Frames.{finish_push}
use Rattle.grouper_state.proofs.Stepped as stepped
use Rattle.net_law.specs.Groupers.{GrouperSeen, GrouperGoes, GrouperMeets, GrouperRests}
use Rattle.grouper_node.specs.Works.{WorkSeen, grouper_of, shape_in, taken_off, puts_of, IsSound}
use Rattle.grouper_node.specs.Nodes.{NodeHolds}
use Rattle.grouper_node.specs.Steps.{WorkGoes, Steps, Rises, Fails, Rested, IsRest, Turns, work_view}
use Rattle.grouper_node.proofs.Lists.{none_behind}
use Rattle.grouper_node.proofs.Stepping.{tells_on, steps_on, rises_first}
use Rattle.grouper_node.proofs.Works.{stands_of, lawful_by, few_by}

-- ---- of lawful frames the end is last

or_true : (b : Bool) → b || true ≡ true
or_true true = refl
or_true false = refl

lawful_last : (Own : List Frame → Frame → Type 0) (before frames : List Frame) → AreLawfulBehind Own before frames → FinishIsLast frames
lawful_last Own before [] lawful = tt
lawful_last Own before (f ∷ []) lawful = ((λ e. refl), tt)
lawful_last Own before (f ∷ g ∷ gs) lawful = (
  (λ e. absurd (
      let none : has_finish (before ++ f ∷ []) ≡ false = none_behind Own (before ++ f ∷ []) g lawful.1.0 in
      let some : has_finish (before ++ f ∷ []) ≡ true = finish_push before f ∙ ap (λ (b : Bool). has_finish before || b) e ∙ or_true (has_finish before) in
      let wrong : true ≡ false = sym some ∙ none in
      cc)),
  lawful_last Own (before ++ f ∷ []) (g ∷ gs) lawful.1,
)

orderly : (w : WorkSeen) → IsSound w → EndsTell w.ins w.outs.links → IsOrderly (work_view w)
orderly w h tells =
    is_orderly w.credits 0 0 0 true w.ins w.outs h.ins h.outs h.quiet.0
    (λ j d less. subst FinishIsLast (given_at w.ins j d less) (lawful_last (ItemRule w.job (shape_in w) j w.me) [] (given_on w.ins j) (lawful_by w h j less)))
    tells.ins

-- ---- a turn

pub moved_turn : (a b c : WorkSeen) → Steps a b → Rises a b → Steps b c → Turns Moved a c
moved_turn a b c f rises g = record { steps = steps_on a b c f g; by = rises_first a b c f g rises }

pub rest_turn : (turn : Turn) (a b : WorkSeen) → Steps a b → Rested a b → IsRest turn b → Turns turn a b
rest_turn Moved a b f r is = absurd is
rest_turn Idle a b f r is = record { steps = f; by = (r, is) }
rest_turn Done a b f r is = record { steps = f; by = (r, is) }

same_counts : SameCounts 0 0 0 0 0 0 true true
same_counts = record { read = refl; records = refl; wrote = refl; wrote_all = refl }

pub turn_says : (turn : Turn) (a b : WorkSeen) → Turns turn a b → EndsTell a.ins a.outs.links → TurnSays a.credits (work_view a) (work_view b) turn
turn_says Moved a b t tells = record { orderly = orderly b t.steps.sound (tells_on a b t.steps.goes tells); few = (stands_of b t.steps.sound).offers_few }
turn_says Idle a b t tells =
    idle_row a.credits a.ins b.ins a.outs b.outs t.by.0.rested 0 0 0 0 0 0 true true same_counts
    (orderly b t.steps.sound (tells_on a b t.steps.goes tells)) (stands_of b t.steps.sound).offers_few t.by.1
turn_says Done a b t tells =
    done_row a.credits a.ins b.ins a.outs b.outs t.by.0.rested 0 0 0 0 0 0 true true same_counts
    (orderly b t.steps.sound (tells_on a b t.steps.goes tells)) (stands_of b t.steps.sound).offers_few t.by.1.0 t.by.1.1 refl

pub turn_tells : (turn : Turn) (a b : WorkSeen) → Turns turn a b → EndsTell a.ins a.outs.links → TurnTells (work_view a) (work_view b) turn
turn_tells Moved a b t tells = t.by tells
turn_tells Idle a b t tells = pipes_stay a.credits a.ins b.ins a.outs b.outs t.by.0.rested 0 0 0 0 0 0 true true tells
turn_tells Done a b t tells = pipes_stay a.credits a.ins b.ins a.outs b.outs t.by.0.rested 0 0 0 0 0 0 true true tells

-- ---- an idle turn

blocked_by : (lane : LaneSeen) → (lane.queue ≢ [] → ¬ IsReady lane.tx) → IsBlocked lane
blocked_by lane unready = by_queue lane.queue refl
  where
    by_queue : (queue : List Frame) → lane.queue ≡ queue → IsBlocked lane
    by_queue [] e = inl e
    by_queue (f ∷ fs) e = inr (unready (λ none. let wrong : f ∷ fs ≡ [] = sym e ∙ none in cc))

none_held : (queues : List (List Frame)) → All (λ (queue : List Frame). queue ≡ []) queues → (k : ℕ) → get_or queues k [] ≡ []
none_held [] each k = refl
none_held (q ∷ queues) each zero = each 0 [] (omega arith)
none_held (q ∷ queues) each (suc k) = none_held queues (λ j d less. each (suc j) d (omega (arith, less))) k

pub turn_rests : (a b : WorkSeen) (fault : Option NodeFault) → Turns Idle a b → GrouperRests (grouper_of b fault)
turn_rests a b fault t = record {
  blocked = λ k d less.
      let rests = t.by.0.rested in
      blocked_by (lane_of b.outs k d) (rests.outs_rest k d (subst (λ (n : ℕ). k < n) rests.as_many.1 less)).unready;
  sends = λ none.
      let rests : IsAtRest b.state = t.by.0.due (none_held b.outs.queues none) in
      stepped.sends_all b.job (shape_in b) b.me (taken_off b.ins) (puts_of b.outs) b.state.grouper b.state.going b.state.turn b.state.processors b.state.mark b.state.finished t.steps.sound.state
      rests.idle rests.settled rests.marked;
}

-- ---- the grouper behind a turn

pub holds_on : (b : WorkSeen) (fault : Option NodeFault) → fault ≡ None → IsSound b → NodeHolds b fault
holds_on b fault none h =
    subst (λ (f : Option NodeFault). NodeHolds b f) (sym none) (record { stands = stands_of b h; few = few_by b h; sound = λ e. h })

pub holds_failed : (a b : WorkSeen) (bad : NodeFault) → Fails a b bad → NodeHolds b (Some bad)
holds_failed a b bad f = record { stands = f.stands; few = f.few; sound = λ e. absurd (let wrong : Some bad ≡ None = e in cc) }

pub goes_same : (s : GrouperSeen) → GrouperGoes s s
goes_same s = record { same = (refl, refl, refl, refl); ins = ins_same s.ins; outs = outs_same s.outs; kept = λ bad e. e }

pub goes_by : (a b : WorkSeen) (fault after : Option NodeFault) → fault ≡ None → WorkGoes a b → GrouperGoes (grouper_of a fault) (grouper_of b after)
goes_by a b fault after none goes = record { same = goes.same; ins = goes.ins; outs = goes.outs; kept = λ bad e. absurd (let wrong : None ≡ Some bad = sym none ∙ e in cc) }

pub never_again : {P : Type 0} (fault : Option NodeFault) (bad : NodeFault) → fault ≡ None → fault ≡ Some bad → P
never_again fault bad none some = absurd (let wrong : None ≡ Some bad = sym none ∙ some in cc)

pub same_bad : (a b : NodeFault) → Some a ≡ Some b → a ≡ b
same_bad a b e = cc

pub meets_by : (a b : WorkSeen) (fault : Option NodeFault) (bad : NodeFault) → fault ≡ None → Fails a b bad → GrouperMeets (grouper_of a fault) (grouper_of b (Some bad)) bad
meets_by a b fault bad none f = subst (λ (o : Option NodeFault). GrouperMeets (grouper_of a o) (grouper_of b (Some bad)) bad) (sym none) f.meets

abbrev said : Turn → Result Turn NodeFault
said turn = Ok turn

pub same_turn : (a b : Turn) → said a ≡ said b → a ≡ b
same_turn a b e = cc
