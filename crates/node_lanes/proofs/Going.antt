-- How the ends go on from one step of a turn to the next.
use Rattle.std.proofs.Common.{ℕ, ◌+◌, ◌*◌, ◌<◌, ◌≤◌, ◌≡◌, IsTrue, Bool, List, [], ◌++◌, length, get_or, refl, sym, ap, ap₂, ◌∙◌, subst, arith, append_assoc, length-append, ⊎_elim, ◌⊎◌}
use Rattle.std.specs.List.{All}
use Rattle.ds_base.specs.Faults.{Rose}
use Rattle.node_frames.specs.declared.frame.Frame.{Frame}
use Rattle.credit_link.specs.declared.turn.NodeFault.{NodeFault}
use Rattle.credit_link.specs.Ends.{TxSeen, RxSeen}
use Rattle.shuffle_poll.specs.Shuffles.{ShuffleSeen}
use Rattle.round_law.specs.Links.{Sender}
use Rattle.round_law.specs.Rows.{OffersFew, taken_up, frames_beside}
use Rattle.round_law.specs.Views.{TxTells, RxTells}
use Rattle.run_law.specs.Shapes.{IsFront}
use Rattle.node_lanes.specs.Ends.{put_on, senders_of, RxGoes, TxGoes, InsGo, OutsGo}
use Rattle.node_lanes.specs.Faults.{RxFailed}
use Rattle.node_lanes.specs.Passes.{OutsAreCalm, InsAreCalm, OutsMeet, InsMeet}
use Rattle.node_lanes.specs.Resting.{node_with}
use Rattle.node_lanes.proofs.Listed.{before_or_not, front_same, front_trans, puts_at, puts_past, senders_long, senders_at}
use Rattle.node_lanes.proofs.Polled.{tx_stays}
use Rattle.node_lanes.proofs.Resting.{tx_of_list}

-- ---- one step after another

rx_goes_on : (a b c : RxSeen) → RxGoes a b → RxGoes b c → RxGoes a c
rx_goes_on a b c f g = record {
  credits = g.credits ∙ f.credits;
  names = (g.names.0 ∙ f.names.0, g.names.1 ∙ f.names.1);
  told = (g.told.0 ∙ f.told.0, g.told.1 ∙ f.told.1);
  given = front_trans a.given b.given c.given f.given g.given;
}

tx_goes_on : (a b c : TxSeen) → TxGoes a b → TxGoes b c → TxGoes a c
tx_goes_on a b c f g = record {
  credits = g.credits ∙ f.credits;
  names = (g.names.0 ∙ f.names.0, g.names.1 ∙ f.names.1);
  told = (g.told.0 ∙ f.told.0, g.told.1 ∙ f.told.1);
  offered = front_trans a.offered b.offered c.offered f.offered g.offered;
}

pub ins_same : (ins : List RxSeen) → InsGo ins ins
ins_same ins = record {
  as_many = refl;
  each = λ j d there. record { credits = refl; names = (refl, refl); told = (refl, refl); given = front_same (get_or ins j d).given (get_or ins j d).given refl };
}

pub ins_go_on : (a b c : List RxSeen) → InsGo a b → InsGo b c → InsGo a c
ins_go_on a b c f g = record {
  as_many = g.as_many ∙ f.as_many;
  each = λ j d there. rx_goes_on (get_or a j d) (get_or b j d) (get_or c j d) (f.each j d there) (g.each j d (omega (arith, there, f.as_many)));
}

pub outs_same : (outs : ShuffleSeen) → OutsGo outs outs
outs_same outs = record { as_many = refl; each = λ k d there. tx_stays (get_or outs.links k d); put = λ k. front_same (put_on outs k) (put_on outs k) refl }

pub outs_go_on : (a b c : ShuffleSeen) → OutsGo a b → OutsGo b c → OutsGo a c
outs_go_on a b c f g = record {
  as_many = g.as_many ∙ f.as_many;
  each = λ k d there. tx_goes_on (get_or a.links k d) (get_or b.links k d) (get_or c.links k d) (f.each k d there) (g.each k d (omega (arith, there, f.as_many)));
  put = λ k. front_trans (put_on a k) (put_on b k) (put_on c k) (f.put k) (g.put k);
}

-- frames were put behind those that wait
pub puts_go : (before after : ShuffleSeen) → after.links ≡ before.links → ((k : ℕ) → IsFront (get_or before.queues k []) (get_or after.queues k [])) → OutsGo before after
puts_go before after same more = record {
  as_many = ap length same;
  each = λ k d there. subst (λ (l : TxSeen). TxGoes (get_or before.links k d) l) (sym (ap (λ (l : List TxSeen). get_or l k d) same)) (tx_stays (get_or before.links k d));
  put = λ k.
      ⊎_elim
      (λ (there : k < length before.links).
      let d = tx_of_list before.links k there in
      let was : put_on before k ≡ (get_or before.links k d).offered ++ get_or before.queues k [] = puts_at before.links before.queues k d there in
      let now : put_on after k ≡ (get_or after.links k d).offered ++ get_or after.queues k [] = puts_at after.links after.queues k d (omega (arith, there, ap length same)) in
      let link : (get_or after.links k d).offered ≡ (get_or before.links k d).offered = ap (λ (l : List TxSeen). (get_or l k d).offered) same in
      let m = more k in
      record {
        rest = m.rest;
        joined = now ∙ ap₂ (λ (x y : List Frame). x ++ y) link m.joined ∙ sym (append_assoc (get_or before.links k d).offered (get_or before.queues k []) m.rest) ∙ ap (λ (x : List Frame). x ++ m.rest) (sym was);
      })
      (λ (past : length before.links ≤ k).
      front_same (put_on before k) (put_on after k) (puts_past after.links after.queues k (omega (arith, past, ap length same)) ∙ sym (puts_past before.links before.queues k past)))
      (before_or_not k (length before.links));
}

-- ---- what tells goes on telling

pub outs_tell : (before after : ShuffleSeen) → OutsGo before after → All TxTells before.links → All TxTells after.links
outs_tell before after goes tells k d there =
    let within : k < length before.links = omega (arith, there, goes.as_many) in
    let told = (goes.each k d within).told in
    let was = tells k d within in
    record { forth = subst IsTrue (sym told.0) was.forth; back = subst IsTrue (sym told.1) was.back }

pub ins_tell : (before after : List RxSeen) → InsGo before after → All RxTells before → All RxTells after
ins_tell before after goes tells j d there =
    let within : j < length before = omega (arith, there, goes.as_many) in
    let told = (goes.each j d within).told in
    let was = tells j d within in
    record { forth = subst IsTrue (sym told.0) was.forth; back = subst IsTrue (sym told.1) was.back }

-- ---- faults behind steps in which no pipe failed

pub outs_calm_on : (a b c : ShuffleSeen) → length b.links ≡ length a.links → OutsAreCalm a b → OutsAreCalm b c → OutsAreCalm a c
outs_calm_on a b c long f g k d there =
    let first = f k d there in
    let second = g k d (omega (arith, there, long)) in
    (second.0 ∙ first.0, second.1 ∙ first.1)

pub ins_calm_on : (a b c : List RxSeen) → length b ≡ length a → InsAreCalm a b → InsAreCalm b c → InsAreCalm a c
ins_calm_on a b c long f g j d there =
    let first = f j d there in
    let second = g j d (omega (arith, there, long)) in
    (second.0 ∙ first.0, second.1 ∙ first.1)

pub outs_meet_later : (first : ℕ) (start mid after : ShuffleSeen) (fault : NodeFault) → length mid.links ≡ length start.links → OutsAreCalm start mid → OutsMeet first mid after fault → OutsMeet first start after fault
outs_meet_later first start mid after fault long calm met = record {
  k = met.k;
  bad = met.bad;
  named = met.named;
  there = omega (arith, met.there, long);
  meets = λ d.
      let m = met.meets d in
      let quiet = calm met.k d (omega (arith, met.there, long)) in
      record { kept = m.kept; mid = m.mid; stands = m.stands; quiet = m.quiet; calm = (m.calm.0 ∙ quiet.0, m.calm.1 ∙ quiet.1); same = m.same; cut = m.cut; fails = m.fails };
}

pub ins_meet_later : (start mid after : List RxSeen) (fault : NodeFault) → length mid ≡ length start → InsAreCalm start mid → InsMeet mid after fault → InsMeet start after fault
ins_meet_later start mid after fault long calm met = record {
  j = met.j;
  named = met.named;
  there = omega (arith, met.there, long);
  failed = λ d. later (get_or start met.j d) (get_or mid met.j d) (get_or after met.j d) (calm met.j d (omega (arith, met.there, long))) (met.failed d);
}
  where
    later : (a b c : RxSeen) → (b.forth.faults ≡ a.forth.faults) × (b.back.faults ≡ a.back.faults) → RxFailed b c → RxFailed a c
    later a b c same failed = subst (λ n. Rose n c.forth.faults ⊎ Rose a.back.faults c.back.faults) same.0 (subst (λ n. Rose b.forth.faults c.forth.faults ⊎ Rose n c.back.faults) same.1 failed)

-- ---- frames offered

-- few are offered where few were put
pub few_by_put : (r s v : ℕ) (b : Bool) (ins : List RxSeen) (outs : ShuffleSeen)
    → ((k : ℕ) → k < length outs.links → length (put_on outs k) ≤ 2 * taken_up (node_with r s v b ins outs) + frames_beside) → OffersFew (node_with r s v b ins outs)
few_by_put r s v b ins outs few k x less =
    let there : k < length outs.links = omega (arith, less, senders_long outs.links outs.queues) in
    let d = tx_of_list outs.links k there in
    let offered : length (get_or (senders_of outs) k x).offered ≡ length (get_or outs.links k d).offered = ap (λ (y : Sender). length y.offered) (senders_at outs.links outs.queues k x d there) in
    let put : length (put_on outs k) ≡ length (get_or outs.links k d).offered + length (get_or outs.queues k []) =
    ap length (puts_at outs.links outs.queues k d there) ∙ length-append (get_or outs.links k d).offered (get_or outs.queues k []) in
    omega (arith, offered, put, few k there)
