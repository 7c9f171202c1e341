-- A lane's poll: what is ready is offered, the link is pumped, and what became ready is offered.
use Rattle.std.proofs.Common.{◌≡◌, ◌≢◌, ◌<◌, ◌≤◌, ℕ, zero, suc, ◌-◌, ◌⊎◌, inl, inr, ⊎_elim, Bool, true, false, ◌||◌, if◌then◌else◌, IsTrue, nat_lt, Option, None, Some, ◌+◌, List, [], ◌∷◌, ◌++◌, length, take, drop, replicate, refl, sym, ap, ap₂, ◌∙◌, subst, arith, append_assoc, length-append}
use Rattle.std.proofs.lemmas.List.{length-take, length-drop, nil_from_length}
use Rattle.ds_base.specs.Faults.{Rose}
use Rattle.ds_base.specs.Pipes.{PipeSeen, AnsweredZero}
use Rattle.node_frames.specs.declared.frame.Frame.{Frame}
use Rattle.std.proofs.lemmas.Bool.Decides.{nat_tests}
use Rattle.credit_link.specs.declared.link_bad.LinkBad.{LinkBad}
use Rattle.credit_link.specs.Frames.{capped, is_finish, has_finish, FinishIsLast}
use Rattle.credit_link.specs.Moves.{EndMoves}
use Rattle.credit_link.specs.Ends.{TxSeen, TxStands, IsReady}
use Rattle.credit_link.specs.Pumping.{TxPumps, TxFails, TxKeeps}
use Rattle.shuffle_poll.specs.declared.needs.Need.{Need}
use Rattle.shuffle_poll.specs.declared.needs.Need.TheVariants.{Nothing, Credit, Room}
use Rattle.shuffle_poll.specs.Lanes.{LaneSeen, put_on, IsBlocked, OffersFront}
use Rattle.shuffle_poll.specs.Polling.{LanePolls, LaneFails}

-- ---- the end of a link was not offered where a frame waits

going_by : (a b : Bool) (all : List Frame) → (IsTrue a → all ≡ []) → 0 < length all → b ≡ false → a || b ≡ false
going_by true b all last some h = absurd (omega (arith, some, ap length (last refl)))
going_by false b all last some h = h

pub going : (frames : List Frame) (frame : Frame) (more : List Frame) → FinishIsLast (frames ++ frame ∷ more) → has_finish frames ≡ false
going [] frame more last = refl
going (f ∷ frames) frame more last = going_by (is_finish f) (has_finish frames) (frames ++ frame ∷ more) last.0 (omega (arith, length-append frames (frame ∷ more))) (going frames frame more last.1)

-- ---- the first frame is offered

pub stays : (lane : LaneSeen) → IsBlocked lane → OffersFront lane lane
stays lane blocked = record { all_put = refl; fewer = omega arith; same = refl; held = omega arith; blocked = blocked; idle = λ _. refl }

pub offers : (before after : LaneSeen) (frame : Frame) → IsReady before.tx → before.queue ≡ frame ∷ drop 1 before.queue → after.queue ≡ drop 1 before.queue → after.tx.offered ≡ before.tx.offered ++ frame ∷ []
    → after.tx.held ≡ before.tx.held + 1 → 0 < length after.tx.left → after.tx ≡ record before.tx { offered = after.tx.offered; left = after.tx.left; held = after.tx.held; most_held = after.tx.most_held; finished = after.tx.finished } → OffersFront before after
offers before after frame ready front rest on held some same = record {
  all_put = ap₂ (λ (a b : List Frame). a ++ b) on rest ∙ append_assoc before.tx.offered (frame ∷ []) (drop 1 before.queue) ∙ ap (λ q. before.tx.offered ++ q) (sym front);
  fewer = omega (arith, ap length rest, length-drop 1 before.queue);
  same = same;
  held = omega (arith, held);
  blocked = inr (λ again. omega (arith, some, ap length again.1));
  idle = λ blocked. absurd (⊎_elim (λ (none : before.queue ≡ []). omega (arith, ap length (sym none ∙ front))) (λ (never : ¬ IsReady before.tx). never ready) blocked);
}

-- ---- the whole poll

pub none_or_kept : (fault : Option LinkBad) → (fault ≡ None) ⊎ ((bad : LinkBad) × (fault ≡ Some bad))
none_or_kept None = inl refl
none_or_kept (Some bad) = inr (bad, refl)

pub fails : (a b d : LaneSeen) (cut : ℕ) (bad : LinkBad) → OffersFront a b → d.queue ≡ b.queue → d.tx.fault ≡ Some bad → TxKeeps b.tx d.tx → TxStands b.tx → ((kept : LinkBad) → b.tx.fault ≡ Some kept → d.tx ≡ b.tx)
    → (b.tx.fault ≡ None → TxFails b.tx d.tx cut bad) → LaneFails a d cut bad
fails a b d cut bad first queue fault keeps stands again failed =
    let same : a.tx.fault ≡ b.tx.fault = sym (ap (λ (t : TxSeen). t.fault) first.same) in
    record {
      fault = fault;
      mid = b;
      stands = stands;
      offers = first;
      queue = queue;
      kept = keeps;
      how = ⊎_elim (λ (none : b.tx.fault ≡ None). inr (same ∙ none, failed none))
          (λ (kept : (old : LinkBad) × (b.tx.fault ≡ Some old)).
          let unmoved : d.tx ≡ b.tx = again kept.0 kept.1 in
          inl (same ∙ ap (λ (t : TxSeen). t.fault) (sym unmoved) ∙ fault, unmoved)) (none_or_kept b.tx.fault);
    }

-- the poll's facts, of what was before, after the first offer, after the pump and at the end
pub record Passing (a b c d : LaneSeen) (cut n : ℕ) : Type 0 where
  pub first : OffersFront a b
  pub pump : TxPumps b.tx c.tx cut n
  pub queue : c.queue ≡ b.queue
  pub second : OffersFront c d
  pub stands : TxStands d.tx
  pub quiet : c.tx.fault ≡ None
  pub again : (bad : LinkBad) → b.tx.fault ≡ Some bad → c.tx ≡ b.tx

-- what of it the poll's clauses cite
pub record Passed_ (a b c d : LaneSeen) (cut n : ℕ) (p : TxPumps b.tx c.tx cut n) : Type 0 where
  pub forth : EndMoves a.tx.forth d.tx.forth ((0 < cut) × (0 < length b.tx.left)) p.put
  pub back : EndMoves a.tx.back d.tx.back ((0 < cut) × (0 < b.tx.held)) p.paid
  pub left : n ≡ 0 → d.tx.left ≡ b.tx.left
  pub held : n ≡ 0 → d.tx.held ≡ b.tx.held
  pub still : n ≡ 0 → d ≡ c
  pub all_put : put_on d ≡ put_on a
  pub kept : (d.tx.credits ≡ a.tx.credits) × (d.tx.forth_name ≡ a.tx.forth_name) × (d.tx.back_name ≡ a.tx.back_name) × (d.tx.fault ≡ None)
  pub now_held : c.tx.held ≡ b.tx.held - p.paid
  pub credits : (d.tx.credits ≡ c.tx.credits)
  pub repaid : d.tx.repaid ≡ capped (a.tx.repaid + p.paid)
  pub unfaulted : a.tx.fault ≡ None

passed : (a b c d : LaneSeen) (cut n : ℕ) (w : Passing a b c d cut n) → Passed_ a b c d cut n w.pump
passed a b c d cut n w =
    let p = w.pump in
    let bf : b.tx.forth ≡ a.tx.forth = ap (λ (t : TxSeen). t.forth) w.first.same in
    let bb : b.tx.back ≡ a.tx.back = ap (λ (t : TxSeen). t.back) w.first.same in
    let df : d.tx.forth ≡ c.tx.forth = ap (λ (t : TxSeen). t.forth) w.second.same in
    let db : d.tx.back ≡ c.tx.back = ap (λ (t : TxSeen). t.back) w.second.same in
    let c_left : c.tx.left ≡ drop p.put b.tx.left = ap (λ (t : TxSeen). t.left) p.same in
    let c_held : c.tx.held ≡ b.tx.held - p.paid = ap (λ (t : TxSeen). t.held) p.same in
    let c_credits : c.tx.credits ≡ b.tx.credits = ap (λ (t : TxSeen). t.credits) p.same in
    let left_same : n ≡ 0 → c.tx.left ≡ b.tx.left = λ none. c_left ∙ ap (λ k. drop k b.tx.left) (let e : p.put ≡ 0 = omega (arith, p.total, none) in e) in
    let held_same : n ≡ 0 → c.tx.held ≡ b.tx.held = λ none. omega (arith, c_held, p.total, none) in
    let blocked : n ≡ 0 → IsBlocked c = λ none.
    ⊎_elim (λ (e : b.queue ≡ []). inl (w.queue ∙ e))
    (λ (never : ¬ IsReady b.tx). inr (λ ready. never (omega (arith, held_same none, c_credits, ready.0), sym (left_same none) ∙ ready.1))) w.first.blocked in
    let still : n ≡ 0 → d ≡ c = λ none. w.second.idle (blocked none) in
    record {
      forth = subst (λ (x : PipeSeen). EndMoves a.tx.forth x ((0 < cut) × (0 < length b.tx.left)) p.put) (sym df) (subst (λ (x : PipeSeen). EndMoves x c.tx.forth ((0 < cut) × (0 < length b.tx.left)) p.put) bf p.forth);
      back = subst (λ (x : PipeSeen). EndMoves a.tx.back x ((0 < cut) × (0 < b.tx.held)) p.paid) (sym db) (subst (λ (x : PipeSeen). EndMoves x c.tx.back ((0 < cut) × (0 < b.tx.held)) p.paid) bb p.back);
      left = λ none. ap (λ (l : LaneSeen). l.tx.left) (still none) ∙ left_same none;
      held = λ none. ap (λ (l : LaneSeen). l.tx.held) (still none) ∙ held_same none;
      still = still;
      all_put = w.second.all_put ∙ ap₂ (λ (x y : List Frame). x ++ y) (ap (λ (t : TxSeen). t.offered) p.same) w.queue ∙ w.first.all_put;
      kept = (
        ap (λ (t : TxSeen). t.credits) w.second.same ∙ c_credits ∙ ap (λ (t : TxSeen). t.credits) w.first.same,
        ap (λ (t : TxSeen). t.forth_name) w.second.same ∙ ap (λ (t : TxSeen). t.forth_name) p.same ∙ ap (λ (t : TxSeen). t.forth_name) w.first.same,
        ap (λ (t : TxSeen). t.back_name) w.second.same ∙ ap (λ (t : TxSeen). t.back_name) p.same ∙ ap (λ (t : TxSeen). t.back_name) w.first.same,
        ap (λ (t : TxSeen). t.fault) w.second.same ∙ w.quiet,
      );
      now_held = c_held;
      credits = ap (λ (t : TxSeen). t.credits) w.second.same;
      repaid = ap (λ (t : TxSeen). t.repaid) w.second.same ∙ ap (λ (t : TxSeen). t.repaid) p.same ∙ ap (λ (t : TxSeen). capped (t.repaid + p.paid)) w.first.same;
      unfaulted = sym (ap (λ (t : TxSeen). t.fault) w.first.same) ∙
          ⊎_elim (λ (none : b.tx.fault ≡ None). none)
          (λ (kept : (old : LinkBad) × (b.tx.fault ≡ Some old)).
          let wrong : None ≡ Some kept.0 = sym w.quiet ∙ ap (λ (t : TxSeen). t.fault) (w.again kept.0 kept.1) ∙ kept.1 in
          cc) (none_or_kept b.tx.fault);
    }

abbrev pub need_for : (waits lacks : Bool) → Need
need_for waits lacks = if waits then (if lacks then Credit else Room) else Nothing

needs_nothing : (waits lacks : Bool) → need_for waits lacks ≡ Nothing → waits ≡ false
needs_nothing true true h = let e = h in cc
needs_nothing true false h = let e = h in cc
needs_nothing false lacks h = refl

needs_credit : (waits lacks : Bool) → need_for waits lacks ≡ Credit → lacks ≡ true
needs_credit true true h = refl
needs_credit true false h = let e = h in cc
needs_credit false lacks h = let e = h in cc

needs_room : (waits lacks : Bool) → need_for waits lacks ≡ Room → (waits ≡ true) × (lacks ≡ false)
needs_room true true h = let e = h in cc
needs_room true false h = (refl, refl)
needs_room false lacks h = let e = h in cc

none_or_some : (n : ℕ) → (n ≡ 0) ⊎ (0 < n)
none_or_some zero = inl refl
none_or_some (suc n) = inr (omega arith)

-- an end that moved nothing was asked, or left alone
pub heard_of : (before after : PipeSeen) (cut there n : ℕ) → EndMoves before after ((0 < cut) × (0 < there)) n → n ≡ 0 → (after.silent ≡ before.silent) ⊎ Rose before.silent after.silent
heard_of before after cut there n moves none =
    ⊎_elim (λ (e : cut ≡ 0). inl (ap (λ (x : PipeSeen). x.silent) (moves.unasked (λ asked. omega (arith, asked.0, e)))))
    (λ (some : 0 < cut).
    ⊎_elim (λ (e : there ≡ 0). inl (ap (λ (x : PipeSeen). x.silent) (moves.unasked (λ asked. omega (arith, asked.1, e)))))
    (λ (more : 0 < there). inr (moves.zero (some, more) none).1) (none_or_some there)) (none_or_some cut)

nothing_of : (waits lacks : Bool) → (waits ≡ true → ⊥) → need_for waits lacks ≡ Nothing
nothing_of true lacks h = absurd (h refl)
nothing_of false lacks h = refl

below : (held credits : ℕ) → held ≤ credits → held ≢ credits → held < credits
below held credits most other = grind arith

credit_facts : (a b c d : LaneSeen) (cut n : ℕ) (w : Passing a b c d cut n) → 0 < b.tx.held → c.tx.held ≡ b.tx.held → d.tx.held ≡ d.tx.credits → (w.pump.paid ≡ 0) × (d.tx.held ≡ d.tx.credits) × (0 < cut → AnsweredZero a.tx.back d.tx.back)
credit_facts a b c d cut n w some same full =
    let f = passed a b c d cut n w in
    let none : w.pump.paid ≡ 0 = omega (arith, f.now_held, w.pump.paid_within.0, same) in
    (none, full, (λ asked. f.back.zero (asked, some) none))

room_alone : (a b c d : LaneSeen) (cut n : ℕ) (w : Passing a b c d cut n) → (0 < b.tx.held → c.tx.held ≡ b.tx.held → d.tx.held ≢ d.tx.credits) → w.pump.paid ≡ 0 → d.tx.held ≡ d.tx.credits → d.tx.back ≡ a.tx.back
room_alone a b c d cut n w other none full =
    let f = passed a b c d cut n w in
    f.back.unasked (λ asked. other asked.1 (omega (arith, f.now_held, none)) full)

room_zero : (a b c d : LaneSeen) (cut n : ℕ) (w : Passing a b c d cut n) → (0 < b.tx.held → c.tx.held ≡ b.tx.held → d.tx.held ≢ d.tx.credits) → d.queue ≢ [] → 0 < cut → (0 < n) ⊎ AnsweredZero a.tx.forth d.tx.forth
room_zero a b c d cut n w other waits asked =
    let f = passed a b c d cut n w in
    ⊎_elim (λ (e : n ≡ 0).
    let none : w.pump.paid ≡ 0 = omega (arith, w.pump.total, e) in
    let free : d.tx.held < d.tx.credits =
    ⊎_elim (λ (zero_held : b.tx.held ≡ 0). omega (arith, f.held e, zero_held, w.stands.sender.some))
    (λ (some : 0 < b.tx.held). below d.tx.held d.tx.credits w.stands.sender.within (other some (omega (arith, f.now_held, none)))) (none_or_some b.tx.held) in
    let never : ¬ IsReady d.tx = ⊎_elim (λ (q : d.queue ≡ []). absurd (waits q)) (λ (u : ¬ IsReady d.tx). u) w.second.blocked in
    let bytes : 0 < length d.tx.left = ⊎_elim (λ (q : length d.tx.left ≡ 0). absurd (never (free, nil_from_length d.tx.left q))) (λ (u : 0 < length d.tx.left). u) (none_or_some (length d.tx.left)) in
    inr (f.forth.zero (asked, omega (arith, bytes, ap length (f.left e))) (omega (arith, w.pump.total, e))))
    (λ (some : 0 < n). inl some) (none_or_some n)

pub polls : (a b c d : LaneSeen) (cut n : ℕ) (waits lacks : Bool) → Passing a b c d cut n → (lacks ≡ true → (0 < b.tx.held) × (c.tx.held ≡ b.tx.held) × (d.tx.held ≡ d.tx.credits)) → (lacks ≡ false → 0 < b.tx.held → c.tx.held ≡ b.tx.held → d.tx.held ≢ d.tx.credits)
    → (waits ≡ false → d.queue ≡ []) → (waits ≡ true → d.queue ≢ []) → LanePolls a d cut (record { moved = n; need = need_for waits lacks })
polls a b c d cut n waits lacks w lacks_is lacks_not waits_not waits_is =
    let p = w.pump in
    let f = passed a b c d cut n w in
    let long : length (take p.put b.tx.left) ≡ p.put = omega (arith, length-take p.put b.tx.left, p.put_within.0) in
    let bf : b.tx.forth ≡ a.tx.forth = ap (λ (t : TxSeen). t.forth) w.first.same in
    let bb : b.tx.back ≡ a.tx.back = ap (λ (t : TxSeen). t.back) w.first.same in
    let df : d.tx.forth ≡ c.tx.forth = ap (λ (t : TxSeen). t.forth) w.second.same in
    let db : d.tx.back ≡ c.tx.back = ap (λ (t : TxSeen). t.back) w.second.same in
    record {
      all_put = f.all_put;
      fewer = omega (arith, w.second.fewer, ap length w.queue, w.first.fewer);
      sent = take p.put b.tx.left;
      paid = p.paid;
      total = omega (arith, p.total, long);
      most = (omega (arith, long, p.put_within.1), p.paid_within.1);
      sent_bytes = λ told. ap (λ (x : PipeSeen). x.bytes) df ∙ p.put_bytes (subst (λ (x : PipeSeen). IsTrue x.told) (sym bf) told) ∙ ap (λ (x : PipeSeen). x.bytes ++ take p.put b.tx.left) bf;
      paid_bytes = λ told. ap (λ (x : PipeSeen). x.bytes) db ∙ p.paid_bytes (subst (λ (x : PipeSeen). IsTrue x.told) (sym bb) told) ∙ ap (λ (x : PipeSeen). x.bytes ++ replicate p.paid 1) bb;
      forth = record { told = f.forth.told; faults = f.forth.faults; sure = omega (arith, f.forth.sure, long); heard = λ none. heard_of a.tx.forth d.tx.forth cut (length b.tx.left) p.put f.forth (sym long ∙ none) };
      back = record { told = f.back.told; faults = f.back.faults; sure = f.back.sure; heard = heard_of a.tx.back d.tx.back cut b.tx.held p.paid f.back };
      repaid = f.repaid;
      quiet = f.unfaulted;
      kept = f.kept;
      data_alone = λ none empty.
          let same : b ≡ a = w.first.idle (inl none) in
          f.forth.unasked (λ asked. omega (arith, asked.1, ap (λ (l : LaneSeen). length l.tx.left) same, ap length empty));
      credit_alone = λ none free.
          let same : b ≡ a = w.first.idle (inl none) in
          f.back.unasked (λ asked. omega (arith, asked.1, ap (λ (l : LaneSeen). l.tx.held) same, free));
      data_asked = λ none asked some.
          let same : b ≡ a = w.first.idle (inr (λ ready. omega (arith, some, ap length ready.1))) in
          f.forth.zero (asked, omega (arith, some, ap (λ (l : LaneSeen). length l.tx.left) same)) (omega (arith, long, ap length none));
      credit_asked = λ none asked some. f.back.zero (asked, omega (arith, some, w.first.held)) none;
      data_zero = λ none some bytes. f.forth.zero (some, omega (arith, bytes, ap length (f.left none))) (omega (arith, p.total, none));
      credit_zero = λ none some held. f.back.zero (some, omega (arith, held, f.held none)) (omega (arith, p.total, none));
      unready = λ some. ⊎_elim (λ (e : d.queue ≡ []). absurd (some e)) (λ (never : ¬ IsReady d.tx). never) w.second.blocked;
      nothing = ((λ h. waits_not (needs_nothing waits lacks h)), (λ none. nothing_of waits lacks (λ some. waits_is some none)));
      credit = λ h. let l = lacks_is (needs_credit waits lacks h) in credit_facts a b c d cut n w l.0 l.1 l.2;
      room = λ h.
          let r = needs_room waits lacks h in
          (room_alone a b c d cut n w (lacks_not r.1), room_zero a b c d cut n w (lacks_not r.1) (waits_is r.0));
    }

-- whether a frame waits, by how many there are
pub waits_not : (queue : List Frame) (count : ℕ) → count ≡ length queue → nat_lt 0 count ≡ false → queue ≡ []
waits_not queue count long h = nil_from_length queue (let none : count ≡ 0 = grind (arith, nat_tests) in sym long ∙ none)

pub waits_is : (queue : List Frame) (count : ℕ) → count ≡ length queue → nat_lt 0 count ≡ true → queue ≢ []
waits_is queue count long h none = let empty : count ≡ 0 = long ∙ ap length none in let some : 0 < count = grind (arith, nat_tests) in omega arith
