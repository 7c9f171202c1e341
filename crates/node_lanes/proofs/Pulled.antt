-- One link in was pulled or granted.
use Rattle.std.proofs.Common.{ℕ, ◌+◌, ◌<◌, ◌≡◌, ◌≢◌, Option, Some, None, Ok, Err, Result, List, [], ◌∷◌, ◌++◌, length, get_or, refl, sym, ap, ◌∙◌, subst, arith, length-append, ⊎_elim}
use Rattle.node_frames.specs.declared.frame.Frame.{Frame}
use Rattle.node_frames.specs.Fields.{bytes_of}
use Rattle.node_frames.specs.Table.{payload_of}
use Rattle.node_frames.proofs.Bytes.{length-bytes_of}
use Rattle.credit_link.specs.declared.link_bad.LinkBad.{LinkBad}
use Rattle.credit_link.specs.declared.turn.NodeFault.TheVariants.{Link}
use Rattle.credit_link.specs.Frames.{wire_behind}
use Rattle.credit_link.specs.Ends.{RxSeen, RxStands, rx_of, receiver_of}
use Rattle.credit_link.specs.Receiving.{ReceiverSeen, GivesFrame}
use Rattle.credit_link.specs.Pulling.{PullAnswers, MeetsBad}
use Rattle.run_law.specs.Shapes.{IsFront}
use Rattle.node_lanes.specs.Ends.{RxGoes, InsGo, InsStand}
use Rattle.node_lanes.specs.Pulling.{ChangesLink, TakesFrame, RefusesFrame, PullsAt}
use Rattle.node_lanes.proofs.Listed.{front_same}
use Rattle.node_lanes.proofs.Pumped.{same_or_not, other}

abbrev pub HasPipesOf : (before after : RxSeen) → Type 0
HasPipesOf before after = after ≡ rx_of (receiver_of after) before.forth before.back before.forth_name before.back_name

-- what was changed of the receiver alone
joined : (before after : RxSeen) (s : ReceiverSeen) → HasPipesOf before after → receiver_of after ≡ s → after ≡ rx_of s before.forth before.back before.forth_name before.back_name
joined before after s pipes same = pipes ∙ ap (λ (t : ReceiverSeen). rx_of t before.forth before.back before.forth_name before.back_name) same

takes : (before after : RxSeen) (frame : Frame) → GivesFrame (receiver_of before) (receiver_of after) frame → HasPipesOf before after → TakesFrame before after frame
takes before after frame gives pipes =
    let wire = wire_behind before.given frame in
    let whole : length before.box ≡ length (bytes_of 4 (length (payload_of wire))) + length (payload_of wire) + length after.box =
    ap length gives.opens.joined ∙ length-append (bytes_of 4 (length (payload_of wire)) ++ payload_of wire) after.box ∙ ap (λ n. n + length after.box) (length-append (bytes_of 4 (length (payload_of wire))) (payload_of wire)) in
    record {
      given = ap (λ (s : ReceiverSeen). s.given) gives.same;
      ungranted = ap (λ (s : ReceiverSeen). s.ungranted) gives.same;
      last = ap (λ (s : ReceiverSeen). s.last) gives.same;
      shorter = omega (arith, whole, length-bytes_of 4 (length (payload_of wire)));
      rest = joined before after (record (receiver_of before) { given = after.given; box = after.box; ungranted = after.ungranted; last = after.last; finished = after.finished }) pipes (same_rest (receiver_of before) (receiver_of after) frame gives);
    }
  where
    same_rest : (s t : ReceiverSeen) (f : Frame) → GivesFrame s t f → t ≡ record s { given = t.given; box = t.box; ungranted = t.ungranted; last = t.last; finished = t.finished }
    same_rest s t f g = g.same ∙ (λ i. record s {
      given = sym (ap (λ (u : ReceiverSeen). u.given) g.same) i;
      box = t.box;
      ungranted = sym (ap (λ (u : ReceiverSeen). u.ungranted) g.same) i;
      last = sym (ap (λ (u : ReceiverSeen). u.last) g.same) i;
      finished = sym (ap (λ (u : ReceiverSeen). u.finished) g.same) i;
    })

pub pulls_ok : (j : ℕ) (before after : RxSeen) (pulled : Option Frame) → PullAnswers (receiver_of before) (receiver_of after) (Ok pulled) → HasPipesOf before after → PullsAt j before after (Ok pulled)
pulls_ok j before after None answers pipes = (answers.0, joined before after (receiver_of before) pipes answers.1)
pulls_ok j before after (Some frame) answers pipes = takes before after frame answers pipes

pub pulls_err : (j : ℕ) (before after : RxSeen) (bad : LinkBad) → PullAnswers (receiver_of before) (receiver_of after) (Err bad) → HasPipesOf before after → RefusesFrame j before after (Link j bad)
pulls_err j before after bad answers pipes =
    ⊎_elim
    (λ (again : (before.fault ≡ Some bad) × (receiver_of after ≡ receiver_of before)).
    let same : after ≡ before = joined before after (receiver_of before) pipes again.1 in
    record {
      bad = bad;
      named = refl;
      rest = same ∙ ap (λ (f : Option LinkBad). record before { fault = f }) again.0;
      meets = λ none. let wrong : None ≡ Some bad = sym none ∙ again.0 in cc;
    })
    (λ (met : MeetsBad before.given before.finished before.box bad × (receiver_of after ≡ record (receiver_of before) { fault = Some bad })).
    let same : after ≡ record before { fault = Some bad } = joined before after (record (receiver_of before) { fault = Some bad }) pipes met.1 in
    record {
      bad = bad;
      named = refl;
      rest = same;
      meets = λ none. subst (λ (r : RxSeen). MeetsBad r.given r.finished r.box bad) (sym same) met.0;
    })
    answers

-- ---- all links in

goes_by : (before after : RxSeen) (given : List Frame) → IsFront before.given given → HasPipesOf before after → after.given ≡ given → after.credits ≡ before.credits → RxGoes before after
goes_by before after given front pipes same credits = record {
  credits = credits;
  names = (ap (λ (r : RxSeen). r.forth_name) pipes, ap (λ (r : RxSeen). r.back_name) pipes);
  told = (ap (λ (r : RxSeen). r.forth.told) pipes, ap (λ (r : RxSeen). r.back.told) pipes);
  given = subst (λ (fs : List Frame). IsFront before.given fs) (sym same) front;
}

pub pull_goes : (before after : RxSeen) (result : Result (Option Frame) LinkBad) → PullAnswers (receiver_of before) (receiver_of after) result → HasPipesOf before after → RxGoes before after
pull_goes before after (Ok (Some frame)) answers pipes =
    goes_by before after (before.given ++ frame ∷ []) (record { rest = frame ∷ []; joined = refl }) pipes (ap (λ (s : ReceiverSeen). s.given) answers.same) (ap (λ (s : ReceiverSeen). s.credits) answers.same)
pull_goes before after (Ok None) answers pipes = goes_by before after before.given (front_same before.given before.given refl) pipes (ap (λ (s : ReceiverSeen). s.given) answers.1) (ap (λ (s : ReceiverSeen). s.credits) answers.1)
pull_goes before after (Err bad) answers pipes =
    ⊎_elim
    (λ (again : (before.fault ≡ Some bad) × (receiver_of after ≡ receiver_of before)).
    goes_by before after before.given (front_same before.given before.given refl) pipes (ap (λ (s : ReceiverSeen). s.given) again.1) (ap (λ (s : ReceiverSeen). s.credits) again.1))
    (λ (met : MeetsBad before.given before.finished before.box bad × (receiver_of after ≡ record (receiver_of before) { fault = Some bad })).
    goes_by before after before.given (front_same before.given before.given refl) pipes (ap (λ (s : ReceiverSeen). s.given) met.1) (ap (λ (s : ReceiverSeen). s.credits) met.1))
    answers

pub grant_goes : (before after : RxSeen) (owed ungranted : ℕ) → after ≡ record before { owed = owed; ungranted = ungranted } → RxGoes before after
grant_goes before after owed ungranted same = record {
  credits = ap (λ (r : RxSeen). r.credits) same;
  names = (ap (λ (r : RxSeen). r.forth_name) same, ap (λ (r : RxSeen). r.back_name) same);
  told = (ap (λ (r : RxSeen). r.forth.told) same, ap (λ (r : RxSeen). r.back.told) same);
  given = front_same before.given after.given (ap (λ (r : RxSeen). r.given) same);
}

self_goes : (l : RxSeen) → RxGoes l l
self_goes l = record { credits = refl; names = (refl, refl); told = (refl, refl); given = front_same l.given l.given refl }

module _ (before after : List RxSeen) (j : ℕ) (changes : ChangesLink before after j) (here : (d : RxSeen) → RxGoes (get_or before j d) (get_or after j d)) where
  pub changed_goes : InsGo before after
  changed_goes = record {
    as_many = changes.long;
    each = λ i d there.
        ⊎_elim (λ (e : i ≡ j). subst (λ k. RxGoes (get_or before k d) (get_or after k d)) (sym e) (here d))
        (λ (differs : i ≢ j). subst (λ (r : RxSeen). RxGoes (get_or before i d) r) (sym (other before after j i d (changes.set d) differs)) (self_goes (get_or before i d)))
        (same_or_not i j);
  }

  pub changed_stand : ((d : RxSeen) → RxStands (get_or after j d)) → (credits : ℕ) → InsStand credits before → InsStand credits after
  changed_stand stands credits stand = record {
    stand = λ i d there.
        ⊎_elim (λ (e : i ≡ j). subst (λ k. RxStands (get_or after k d)) (sym e) (stands d))
        (λ (differs : i ≢ j). subst (λ (r : RxSeen). RxStands r) (sym (other before after j i d (changes.set d) differs)) (stand.stand i d (omega (arith, there, changes.long)))) (same_or_not i j);
    credits = λ i d there. let within : i < length before = omega (arith, there, changes.long) in (changed_goes.each i d within).credits ∙ stand.credits i d within;
  }
