-- One pump of each link in, as far as it has come.
use Rattle.std.proofs.Common.{ℕ, zero, suc, ◌+◌, ◌<◌, ◌≤◌, ◌≡◌, ◌≢◌, ◌||◌, nat_lt, Bool, true, false, None, Some, List, [], ◌∷◌, ◌++◌, length, replicate, get_or, set, refl, sym, ap, ◌∙◌, subst, arith, append-nil, length-append, ⊎_elim, ◌⊎◌, inl, inr}
use Rattle.std.specs.List.{sum_by, All}
use Rattle.std.proofs.Math.ListN.{get_or-append}
use Rattle.std.proofs.Math.Seq.{get_or-append_seam}
use Rattle.std.proofs.lemmas.Bool.Decides.{nat_tests}
use Rattle.std.proofs.lemmas.List.{nil_from_length, length-replicate, length-map, get_or-set_other}
use Rattle.std.proofs.lemmas.List.Sums.{get_or-le-sum_by, sum_by-append}
use Rattle.credit_link.specs.declared.link_bad.LinkBad.{LinkBad}
use Rattle.credit_link.specs.declared.turn.NodeFault.TheVariants.{Link}
use Rattle.credit_link.specs.Ends.{RxSeen, RxStands}
use Rattle.credit_link.specs.Pumping.{RxPumps, RxFails, RxKeeps}
use Rattle.ds_base.specs.Faults.{Rose}
use Rattle.ds_base.specs.Pipes.{PipeSeen, PipeFails}
use Rattle.credit_link.specs.Moves.{EndMoves}
use Rattle.shuffle_poll.proofs.Passes.{heard_of}
use Rattle.round_law.specs.Links.{Receiver, new_receiver}
use Rattle.round_law.specs.Rows.{taken_by}
use Rattle.round_law.specs.Views.{receiver_view, RxTells}
use Rattle.node_lanes.specs.Ends.{given_on, receivers_of, InsGo, InsStand}
use Rattle.node_lanes.specs.Faults.{RxFailed}
use Rattle.node_lanes.specs.Passes.{InRests, InsPass, InsNoLess, InsAreCalm, InsKeep, InsMeet}
use Rattle.node_lanes.proofs.Listed.{before_or_not, front_same, sum_adds}

-- ---- one link

pub keeps_self : (l : RxSeen) → RxKeeps l l
keeps_self l = record { credits = refl; given = refl; ungranted = refl; last = refl; finished = refl; names = (refl, refl); told = (refl, refl) }

-- a pump without a fault
pub record Pumps (before after : RxSeen) (cut n : ℕ) : Type 0 where
  pub pumps : RxPumps before after cut n
  pub keeps : RxKeeps before after
  pub stands : RxStands after
  pub quiet : after.fault ≡ None

-- its data pipe was asked, or left alone
heard_box : (before after : RxSeen) (cut n : ℕ) → 0 < cut → EndMoves before.forth after.forth ((0 < cut) × (length before.box < 2056)) n → n ≡ 0
    → (after.forth.silent ≡ before.forth.silent) ⊎ Rose before.forth.silent after.forth.silent
heard_box before after cut n some moves none =
    ⊎_elim (λ (room : length before.box < 2056). inr (moves.zero (some, room) none).1)
    (λ (full : 2056 ≤ length before.box). inl (ap (λ (x : PipeSeen). x.silent) (moves.unasked (λ asked. let room : length before.box < 2056 = asked.1 in omega (arith, room, full)))))
    (before_or_not (length before.box) 2056)

rests : (before after : RxSeen) (cut n : ℕ) → 0 < cut → n ≡ 0 → Pumps before after cut n → InRests before after
rests before after cut n some none w =
    let p = w.pumps in
    let no_byte : length p.came ≡ 0 = omega (arith, p.total, none) in
    let no_credit : p.went ≡ 0 = omega (arith, p.total, none) in
    let box : after.box ≡ before.box = ap (λ (l : RxSeen). l.box) p.same ∙ ap (λ (came : List ℕ). before.box ++ came) (nil_from_length p.came no_byte) ∙ append-nil before.box in
    let owed : after.owed ≡ before.owed = omega (arith, ap (λ (l : RxSeen). l.owed) p.same, no_credit) in
    record {
      stays = λ tells. record {
        got = p.came_bytes tells.forth ∙ ap (λ (came : List ℕ). before.forth.bytes ++ came) (nil_from_length p.came no_byte) ∙ append-nil before.forth.bytes;
        paid = ap length (p.went_bytes tells.back) ∙ length-append before.back.bytes (replicate p.went 1) ∙ ap (λ n. length before.back.bytes + n) (length-replicate p.went 1 ∙ no_credit) ∙ omega arith;
      };
      given = w.keeps.given;
      box = box;
      forth = record {
        sure = omega (arith, p.forth.sure, no_byte);
        heard = heard_box before after cut (length p.came) some p.forth no_byte;
        zero = λ room. p.forth.zero (some, omega (arith, room, ap length box)) no_byte;
      };
      back = record {
        sure = omega (arith, p.back.sure, no_credit);
        heard = heard_of before.back after.back cut before.owed p.went p.back no_credit;
        zero = λ owes. p.back.zero (some, omega (arith, owes, owed)) no_credit;
      };
    }

gains : (before after : RxSeen) (cut n : ℕ) → RxTells before → Pumps before after cut n → taken_by (receiver_view after) ≡ taken_by (receiver_view before) + n
gains before after cut n tells w =
    let p = w.pumps in
    let got : length after.forth.bytes ≡ length before.forth.bytes + length p.came = ap length (p.came_bytes tells.forth) ∙ length-append before.forth.bytes p.came in
    let paid : length after.back.bytes ≡ length before.back.bytes + p.went =
    ap length (p.went_bytes tells.back) ∙ length-append before.back.bytes (replicate p.went 1) ∙ ap (λ n. length before.back.bytes + n) (length-replicate p.went 1) in
    omega (arith, got, paid, ap length w.keeps.given, p.total)

failed_pipe : (before after : RxSeen) (bad : LinkBad) → RxFails before after bad → RxFailed before after
failed_pipe before after bad fails =
    ⊎_elim
    (λ (data_pipe : (after ≡ record before { fault = Some bad; forth = after.forth }) × PipeFails before.forth after.forth). inl data_pipe.1.faults)
    (λ (credit_pipe : (came : List ℕ) × (after ≡ record before { box = before.box ++ came; fault = Some bad; forth = after.forth; back = after.back }) × PipeFails before.back after.back). inr credit_pipe.2.faults)
    fails.1

-- ---- the links so far

pub record SoFar (links now : List RxSeen) (cut i : ℕ) (counts : List ℕ) (moved : Bool) : Type 0 where
  pub as_many : length now ≡ length links
  pub count : length counts ≡ i
  pub within : i ≤ length links
  pub each : (j : ℕ) (d : RxSeen) → j < i → Pumps (get_or links j d) (get_or now j d) cut (get_or counts j 0)
  pub rest : (j : ℕ) (d : RxSeen) → i ≤ j → get_or now j d ≡ get_or links j d
  pub moved_is : moved ≡ nat_lt 0 (sum_by (λ (n : ℕ). n) counts)

pub begins : (links : List RxSeen) (cut : ℕ) (counts : List ℕ) → counts ≡ [] → SoFar links links cut 0 counts false
begins links cut counts none =
    subst (λ (list : List ℕ). SoFar links links cut 0 list false) (sym none)
    (record { as_many = refl; count = refl; within = omega arith; each = λ j d less. absurd (omega (arith, less)); rest = λ j d _. refl; moved_is = refl })

pub same_or_not : (k i : ℕ) → (k ≡ i) ⊎ (k ≢ i)
same_or_not k i = grind arith

pub other : (links links' : List RxSeen) (i j : ℕ) (d : RxSeen) → links' ≡ set links i (get_or links' i d) → j ≢ i → get_or links' j d ≡ get_or links j d
other links links' i j d changed differs = ap (λ l. get_or l j d) changed ∙ get_or-set_other links i j (get_or links' i d) d differs

moved_or : (a b : ℕ) → nat_lt 0 a || nat_lt 0 b ≡ nat_lt 0 (a + b)
moved_or a b = grind (arith, nat_tests)

less_of : (j i : ℕ) → j ≢ i → j < i + 1 → j < i
less_of j i differs below = grind arith

pub goes_on : (links now next : List RxSeen) (cut i n : ℕ) (counts more : List ℕ) (moved moved' : Bool) → SoFar links now cut i counts moved → i < length links → length next ≡ length now
    → ((d : RxSeen) → next ≡ set now i (get_or next i d)) → ((d : RxSeen) → Pumps (get_or now i d) (get_or next i d) cut n) → more ≡ counts ++ n ∷ [] → moved' ≡ moved || nat_lt 0 n
    → SoFar links next cut (i + 1) more moved'
goes_on links now next cut i n counts more moved moved' far there long changed pumps on moves =
    subst (λ (list : List ℕ). SoFar links next cut (i + 1) list moved') (sym on) (record {
      as_many = long ∙ far.as_many;
      count = length-append counts (n ∷ []) ∙ ap (λ k. k + 1) far.count;
      within = omega (arith, there);
      each = λ j d less.
          ⊎_elim (λ (e : j ≡ i).
          let here : get_or (counts ++ n ∷ []) j 0 ≡ n = ap (λ k. get_or (counts ++ n ∷ []) k 0) (e ∙ sym far.count) ∙ get_or-append_seam counts n [] 0 in
          subst (λ (m : ℕ). Pumps (get_or links j d) (get_or next j d) cut m) (sym here)
          (subst (λ k. Pumps (get_or links k d) (get_or next k d) cut n) (sym e)
          (subst (λ (l : RxSeen). Pumps l (get_or next i d) cut n) (far.rest i d (omega arith)) (pumps d))))
          (λ (differs : j ≢ i).
          let before : j < i = less_of j i differs less in
          subst (λ (m : ℕ). Pumps (get_or links j d) (get_or next j d) cut m) (sym (get_or-append counts (n ∷ []) 0 j (omega (arith, before, far.count))))
          (subst (λ (l : RxSeen). Pumps (get_or links j d) l cut (get_or counts j 0)) (sym (other now next i j d (changed d) differs)) (far.each j d before)))
          (same_or_not j i);
      rest = λ j d later. other now next i j d (changed d) (λ e. omega (arith, e, later)) ∙ far.rest j d (omega (arith, later));
      moved_is = moves ∙ ap (λ b. b || nat_lt 0 n) far.moved_is ∙ moved_or (sum_by (λ (k : ℕ). k) counts) n ∙ ap (λ k. nat_lt 0 k) (sym (sum_by-append (λ (k : ℕ). k) counts (n ∷ []) ∙ omega arith));
    })

-- ---- all links

-- what each end keeps, whether it was pumped or left alone
pub record Keeps (links now : List RxSeen) : Type 0 where
  pub as_many : length now ≡ length links
  pub each : (j : ℕ) (d : RxSeen) → j < length links → RxKeeps (get_or links j d) (get_or now j d)
  pub stands : (j : ℕ) (d : RxSeen) → j < length links → RxStands (get_or links j d) → RxStands (get_or now j d)

pub keeps_far : (links now : List RxSeen) (cut i : ℕ) (counts : List ℕ) (moved : Bool) → SoFar links now cut i counts moved → Keeps links now
keeps_far links now cut i counts moved far = record {
  as_many = far.as_many;
  each = λ j d there.
      ⊎_elim (λ (earlier : j < i). (far.each j d earlier).keeps) (λ (later : i ≤ j). subst (λ (l : RxSeen). RxKeeps (get_or links j d) l) (sym (far.rest j d later)) (keeps_self (get_or links j d))) (before_or_not j i);
  stands = λ j d there stands.
      ⊎_elim (λ (earlier : j < i). (far.each j d earlier).stands) (λ (later : i ≤ j). subst (λ (l : RxSeen). RxStands l) (sym (far.rest j d later)) stands) (before_or_not j i);
}

-- one more end was pumped, with a fault
pub keeps_on : (links now next : List RxSeen) (i : ℕ) → Keeps links now → i < length links → length next ≡ length now → ((d : RxSeen) → next ≡ set now i (get_or next i d)) → ((d : RxSeen) → get_or now i d ≡ get_or links i d)
    → ((d : RxSeen) → RxKeeps (get_or now i d) (get_or next i d)) → ((d : RxSeen) → RxStands (get_or next i d)) → Keeps links next
keeps_on links now next i keeps there long changed same here stands = record {
  as_many = long ∙ keeps.as_many;
  each = λ j d within.
      ⊎_elim (λ (e : j ≡ i). subst (λ k. RxKeeps (get_or links k d) (get_or next k d)) (sym e) (subst (λ (l : RxSeen). RxKeeps l (get_or next i d)) (same d) (here d)))
      (λ (differs : j ≢ i). subst (λ (l : RxSeen). RxKeeps (get_or links j d) l) (sym (other now next i j d (changed d) differs)) (keeps.each j d within)) (same_or_not j i);
  stands = λ j d within before.
      ⊎_elim (λ (e : j ≡ i). subst (λ k. RxStands (get_or next k d)) (sym e) (stands d))
      (λ (differs : j ≢ i). subst (λ (l : RxSeen). RxStands l) (sym (other now next i j d (changed d) differs)) (keeps.stands j d within before)) (same_or_not j i);
}

pub receivers_at : (ins : List RxSeen) (j : ℕ) (r : Receiver) (d : RxSeen) → j < length ins → get_or (receivers_of ins) j r ≡ receiver_view (get_or ins j d)
receivers_at [] j r d less = absurd (omega arith)
receivers_at (x ∷ ins) zero r d less = refl
receivers_at (x ∷ ins) (suc j) r d less = receivers_at ins j r d (omega arith)

pub given_at : (ins : List RxSeen) (j : ℕ) (d : RxSeen) → j < length ins → given_on ins j ≡ (get_or ins j d).given
given_at [] j d less = absurd (omega arith)
given_at (x ∷ ins) zero d less = refl
given_at (x ∷ ins) (suc j) d less = given_at ins j d (omega arith)

pub given_past : (ins : List RxSeen) (j : ℕ) → length ins ≤ j → given_on ins j ≡ []
given_past [] j past = refl
given_past (x ∷ ins) zero past = absurd (omega arith)
given_past (x ∷ ins) (suc j) past = given_past ins j (omega arith)

pub some_of : (links : List RxSeen) (k : ℕ) → k < length links → RxSeen
some_of [] k less = absurd (omega arith)
some_of (l ∷ links) k less = l

module _ (links now : List RxSeen) (keeps : Keeps links now) where
  pub kept : InsKeep links now
  kept = record { as_many = keeps.as_many; each = keeps.each }

  pub kept_goes : InsGo links now
  kept_goes = record {
    as_many = keeps.as_many;
    each = λ j d there.
        let k = keeps.each j d there in
        record { credits = k.credits; names = k.names; told = k.told; given = front_same (get_or links j d).given (get_or now j d).given k.given };
  }

  pub kept_stand : (credits : ℕ) → InsStand credits links → InsStand credits now
  kept_stand credits stand = record {
    stand = λ j d there. let within : j < length links = omega (arith, there, keeps.as_many) in keeps.stands j d within (stand.stand j d within);
    credits = λ j d there. let within : j < length links = omega (arith, there, keeps.as_many) in (keeps.each j d within).credits ∙ stand.credits j d within;
  }

  pub kept_given : (j : ℕ) → given_on now j ≡ given_on links j
  kept_given j =
      ⊎_elim
      (λ (there : j < length links).
      let d = some_of links j there in
      given_at now j d (omega (arith, there, keeps.as_many)) ∙ (keeps.each j d there).given ∙ sym (given_at links j d there))
      (λ (past : length links ≤ j). given_past now j (omega (arith, past, keeps.as_many)) ∙ sym (given_past links j past))
      (before_or_not j (length links))

module _ (links now : List RxSeen) (cut i : ℕ) (counts : List ℕ) (moved : Bool) (far : SoFar links now cut i counts moved) (all : length links ≤ i) where
  count : length counts ≡ length links
  count = omega (arith, far.count, all, far.within)

  pub all_quiet : All (λ (r : RxSeen). r.fault ≡ None) now
  all_quiet j d there = (far.each j d (omega (arith, there, far.as_many, all))).quiet

  pub all_calm : InsAreCalm links now
  all_calm j d there = let p = (far.each j d (omega (arith, there, all))).pumps in (p.forth.faults, p.back.faults)

  gained : All RxTells links → sum_by taken_by (receivers_of now) ≡ sum_by taken_by (receivers_of links) + sum_by (λ (n : ℕ). n) counts
  gained tells =
      let long : length (receivers_of links) ≡ length links = length-map links receiver_view in
      sum_adds taken_by (λ (n : ℕ). n) (new_receiver 0) 0 (receivers_of links) (receivers_of now) counts (length-map now receiver_view ∙ far.as_many ∙ sym long) (count ∙ sym long)
      (λ j less.
      let there : j < length links = omega (arith, less, long) in
      let d = some_of links j there in
      ap taken_by (receivers_at now j (new_receiver 0) d (omega (arith, there, far.as_many)))
      ∙ gains (get_or links j d) (get_or now j d) cut (get_or counts j 0) (tells j d there) (far.each j d (omega (arith, there, all)))
      ∙ ap (λ r. taken_by r + get_or counts j 0) (sym (receivers_at links j (new_receiver 0) d there)))

  pub all_no_less : InsNoLess links now
  all_no_less tells = omega (arith, gained tells)

  passes_by : 0 < cut → (b : Bool) → b ≡ nat_lt 0 (sum_by (λ (n : ℕ). n) counts) → InsPass b links now
  passes_by some true is = λ tells.
      let more : 0 < sum_by (λ (n : ℕ). n) counts = grind (arith, nat_tests) in
      omega (arith, more, gained tells)
  passes_by some false is = λ j d there.
      let none : sum_by (λ (n : ℕ). n) counts ≡ 0 = grind (arith, nat_tests) in
      let at_most : get_or counts j 0 ≤ sum_by (λ (n : ℕ). n) counts = get_or-le-sum_by (λ (n : ℕ). n) counts j 0 (omega (arith, there, count)) in
      rests (get_or links j d) (get_or now j d) cut (get_or counts j 0) some (omega (arith, none, at_most)) (far.each j d (omega (arith, there, all)))

  pub all_passes : 0 < cut → InsPass moved links now
  all_passes some = passes_by some moved far.moved_is

-- the pump of link i failed, which had met no fault
pub failed : (links now next : List RxSeen) (i : ℕ) (bad : LinkBad) → i < length links → ((d : RxSeen) → get_or now i d ≡ get_or links i d)
    → ((d : RxSeen) → (get_or now i d).fault ≡ None → RxFails (get_or now i d) (get_or next i d) bad) → All (λ (r : RxSeen). r.fault ≡ None) links → InsMeet links next (Link i bad)
failed links now next i bad there same fails quiet =
    let e : (d : RxSeen) → RxFails (get_or links i d) (get_or next i d) bad =
    λ d. subst (λ (l : RxSeen). RxFails l (get_or next i d) bad) (same d) (fails d (ap (λ (l : RxSeen). l.fault) (same d) ∙ quiet i d there)) in
    record {
      j = i;
      named = ap (λ (b : LinkBad). Link i b) ((e (some_of links i there)).0);
      there = there;
      failed = λ d. failed_pipe (get_or links i d) (get_or next i d) bad (e d);
    }
