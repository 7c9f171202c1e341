-- A poll of all lanes, as far as it has come.
use Rattle.std.proofs.Common.{◌==◌, eq-eqb, ◌≡◌, ◌≢◌, ◌<◌, ◌≤◌, ℕ, suc, ◌+◌, ◌*◌, ◌^◌, ◌||◌, nat_lt, Bool, true, false, if◌then◌else◌, List, [], ◌∷◌, ◌++◌, length, map, get_or, set, ⊎_elim, ◌⊎◌, inl, inr, refl, sym, ap, ap₂, ◌∙◌, subst, arith, length-append}
use Rattle.std.specs.List.{sum_by}
use Rattle.std.proofs.Math.Nat.{pow-succ'}
use Rattle.std.proofs.lemmas.Bool.{eqb-true}
use Rattle.std.proofs.Math.ListN.{get_or-append}
use Rattle.std.proofs.Math.Seq.{get_or-append_seam}
use Rattle.std.proofs.lemmas.List.{get_or-set_other, map-append, length-map}
use Rattle.std.proofs.lemmas.List.Sums.{sum_by-append}
use Rattle.std.proofs.lemmas.Bool.Decides.{nat_tests}
use Rattle.node_frames.specs.declared.frame.Frame.{Frame}
use Rattle.credit_link.specs.declared.link_bad.LinkBad.{LinkBad}
use Rattle.credit_link.specs.Frames.{FinishIsLast}
use Rattle.credit_link.specs.Ends.{TxSeen, TxStands}
use Rattle.shuffle_poll.specs.declared.needs.Needs.{Needs}
use Rattle.shuffle_poll.specs.declared.needs.Need.TheVariants.{Nothing}
use Rattle.shuffle_poll.specs.declared.needs.Passed.{Passed}
use Rattle.shuffle_poll.specs.Lanes.{LaneSeen, put_on}
use Rattle.shuffle_poll.specs.Needs.{is_credit, is_room, number_of_bits}
use Rattle.shuffle_poll.specs.Polling.{LanePolls, LaneFails}
use Rattle.shuffle_poll.specs.Shuffles.{lane_at, ChangesLane, ShuffleHolds, PollsLanes, FailsAt}

-- ---- bits

next_bit : (b : Bool) (n : ℕ) → 2 * (if b then 2 ^ n else 0) ≡ (if b then 2 ^ suc n else 0)
next_bit true n = sym (pow-succ' 2 n)
next_bit false n = refl

bits_one_more : (bits : List Bool) (b : Bool) → number_of_bits (bits ++ b ∷ []) ≡ number_of_bits bits + (if b then 2 ^ length bits else 0)
bits_one_more [] true = refl
bits_one_more [] false = refl
bits_one_more (x ∷ bits) b = omega (arith, bits_one_more bits b, next_bit b (length bits))

bit_at_most : (b : Bool) → (if b then 1 else 0) ≤ 1
bit_at_most true = omega arith
bit_at_most false = omega arith

pub bits_below : (bits : List Bool) → number_of_bits bits < 2 ^ length bits
bits_below [] = omega arith
bits_below (x ∷ bits) = omega (arith, bits_below bits, bit_at_most x, next_bit true (length bits))

-- ---- so far

pub record SoFar (links links' : List TxSeen) (queues queues' : List (List Frame)) (cut i : ℕ) (needs : Needs) (answers : List Passed) : Type 0 where
  pub holds : ShuffleHolds links' queues'
  pub as_many : length links' ≡ length links
  pub count : length answers ≡ i
  pub polls : PollsLanes links links' queues queues' cut needs answers
  pub rest : (k : ℕ) (d : TxSeen) → i ≤ k → lane_at links' queues' k d ≡ lane_at links queues k d
  pub all_put : (k : ℕ) (d : TxSeen) → put_on (lane_at links' queues' k d) ≡ put_on (lane_at links queues k d)
  pub below : (needs.credit < 2 ^ i) × (needs.room < 2 ^ i)

-- ---- one lane was changed

by_test : (k i : ℕ) (b : Bool) → (b ≡ true → k ≡ i) → (k ≡ i → b ≡ true) → (k ≡ i) ⊎ (k ≢ i)
by_test k i true f g = inl (f refl)
by_test k i false f g = inr (λ e. let h : false ≡ true = g e in cc)

same_or_other : (k i : ℕ) → (k ≡ i) ⊎ (k ≢ i)
same_or_other k i = by_test k i (k == i) (eqb-true k i) (eq-eqb k i)

-- the other lanes are as they were
pub other_link : (links links' : List TxSeen) (i k : ℕ) (d : TxSeen) → links' ≡ set links i (get_or links' i d) → k ≢ i → get_or links' k d ≡ get_or links k d
other_link links links' i k d changed other = ap (λ l. get_or l k d) changed ∙ get_or-set_other links i k (get_or links' i d) d other

other_queue : (queues queues' : List (List Frame)) (i k : ℕ) → queues' ≡ set queues i (get_or queues' i []) → k ≢ i → get_or queues' k [] ≡ get_or queues k []
other_queue queues queues' i k changed other = ap (λ l. get_or l k []) changed ∙ get_or-set_other queues i k (get_or queues' i []) [] other

other_lane : (links links' : List TxSeen) (queues queues' : List (List Frame)) (i k : ℕ) (d : TxSeen) → ChangesLane links links' queues queues' i → k ≢ i → lane_at links' queues' k d ≡ lane_at links queues k d
other_lane links links' queues queues' i k d changes other =
    ap₂ (λ (t : TxSeen) (q : List Frame). record { tx = t; queue = q }) (other_link links links' i k d (changes.links_set d) other) (other_queue queues queues' i k changes.queues_set other)

pub changed_put : (links links' : List TxSeen) (queues queues' : List (List Frame)) (i : ℕ) → ChangesLane links links' queues queues' i
    → ((d : TxSeen) → put_on (lane_at links' queues' i d) ≡ put_on (lane_at links queues i d)) → (k : ℕ) (d : TxSeen) → put_on (lane_at links' queues' k d) ≡ put_on (lane_at links queues k d)
changed_put links links' queues queues' i changes put k d =
    ⊎_elim (λ (e : k ≡ i). subst (λ j. put_on (lane_at links' queues' j d) ≡ put_on (lane_at links queues j d)) (sym e) (put d))
    (λ (other : k ≢ i). ap put_on (other_lane links links' queues queues' i k d changes other)) (same_or_other k i)

-- one link stands after a change as before, and so all do
pub changed_stand : (links links' : List TxSeen) (i : ℕ) → ((k : ℕ) (d : TxSeen) → k < length links → TxStands (get_or links k d)) → ((d : TxSeen) → links' ≡ set links i (get_or links' i d))
    → ((d : TxSeen) → TxStands (get_or links' i d)) → (k : ℕ) (d : TxSeen) → k < length links → TxStands (get_or links' k d)
changed_stand links links' i stand changed here k d there =
    ⊎_elim (λ (e : k ≡ i). subst (λ j. TxStands (get_or links' j d)) (sym e) (here d))
    (λ (other : k ≢ i). subst (λ (t : TxSeen). TxStands t) (sym (other_link links links' i k d (changed d) other)) (stand k d there)) (same_or_other k i)

changed_two : (queues queues' : List (List Frame)) (i : ℕ) → ((k : ℕ) → length (get_or queues k []) ≤ 2) → queues' ≡ set queues i (get_or queues' i [])
    → length (get_or queues' i []) ≤ length (get_or queues i []) → (k : ℕ) → length (get_or queues' k []) ≤ 2
changed_two queues queues' i two changed fewer k =
    ⊎_elim (λ (e : k ≡ i). subst (λ j. length (get_or queues' j []) ≤ 2) (sym e) (omega (arith, fewer, two i)))
    (λ (other : k ≢ i). omega (arith, ap length (other_queue queues queues' i k changed other), two k)) (same_or_other k i)

pub changed_holds : (links links' : List TxSeen) (queues queues' : List (List Frame)) (i : ℕ) → ShuffleHolds links queues → ChangesLane links links' queues queues' i
    → ((d : TxSeen) → put_on (lane_at links' queues' i d) ≡ put_on (lane_at links queues i d)) → ((d : TxSeen) → TxStands (get_or links' i d))
    → length (get_or queues' i []) ≤ length (get_or queues i []) → ShuffleHolds links' queues'
changed_holds links links' queues queues' i holds changes put stands fewer =
    let long = changes.lengths in
    record {
      as_many = long.1 ∙ holds.as_many ∙ sym long.0;
      few = omega (arith, long.0, holds.few);
      stand = λ k e there. changed_stand links links' i holds.stand changes.links_set stands k e (omega (arith, there, long.0));
      two = changed_two queues queues' i holds.two changes.queues_set fewer;
      last = λ k e there. subst FinishIsLast (sym (changed_put links links' queues queues' i changes put k e)) (holds.last k e (omega (arith, there, long.0)));
    }

-- ---- the first lane, and one lane more

pub begins : (links : List TxSeen) (queues : List (List Frame)) (cut : ℕ) (answers : List Passed) → ShuffleHolds links queues → answers ≡ []
    → SoFar links links queues queues cut 0 (record { credit = 0; room = 0; moved = false }) answers
begins links queues cut answers holds none =
    subst (λ (list : List Passed). SoFar links links queues queues cut 0 (record { credit = 0; room = 0; moved = false }) list) (sym none) (record {
      holds = holds;
      as_many = refl;
      count = refl;
      polls = record { each = λ k d p there. absurd (omega (arith, there)); credit = refl; room = refl; moved = refl };
      rest = λ k d _. refl;
      all_put = λ k d. refl;
      below = (omega arith, omega arith);
    })

less_of : (k i n : ℕ) → k ≢ i → k < i + 1 → n ≡ i → k < n
less_of k i n other below is = grind arith

moved_or : (a b : ℕ) → nat_lt 0 a || nat_lt 0 b ≡ nat_lt 0 (a + b)
moved_or a b = grind (arith, nat_tests)

bits_next : (f : Passed → Bool) (answers : List Passed) (p : Passed) (i word next : ℕ) → length answers ≡ i → word ≡ number_of_bits (map f answers) → next ≡ word + (if f p then 2 ^ i else 0)
    → (next ≡ number_of_bits (map f (answers ++ p ∷ []))) × (next < 2 ^ (i + 1))
bits_next f answers p i word next long is step =
    let len : length (map f answers) ≡ i = length-map answers f ∙ long in
    let all : map f (answers ++ p ∷ []) ≡ map f answers ++ f p ∷ [] = map-append f answers (p ∷ []) in
    let same : next ≡ number_of_bits (map f (answers ++ p ∷ [])) =
    step ∙ ap (λ w. w + (if f p then 2 ^ i else 0)) is ∙ ap (λ n. number_of_bits (map f answers) + (if f p then 2 ^ n else 0)) (sym len) ∙ sym (bits_one_more (map f answers) (f p)) ∙ ap number_of_bits (sym all) in
    let below = bits_below (map f (answers ++ p ∷ [])) in
    let longer : length (map f (answers ++ p ∷ [])) ≡ i + 1 = length-map (answers ++ p ∷ []) f ∙ length-append answers (p ∷ []) ∙ ap (λ n. n + 1) long in
    (same, subst (λ n. next < 2 ^ n) longer (subst (λ w. w < 2 ^ length (map f (answers ++ p ∷ []))) (sym same) below))

pub goes_on : (links links' links'' : List TxSeen) (queues queues' queues'' : List (List Frame)) (cut i : ℕ) (needs needs' : Needs) (answers answers' : List Passed) (p : Passed)
    → SoFar links links' queues queues' cut i needs answers → ChangesLane links' links'' queues' queues'' i → ((d : TxSeen) → put_on (lane_at links'' queues'' i d) ≡ put_on (lane_at links' queues' i d))
    → ((d : TxSeen) → TxStands (get_or links'' i d)) → length (get_or queues'' i []) ≤ length (get_or queues' i [])
    → ((d : TxSeen) → LanePolls (lane_at links' queues' i d) (lane_at links'' queues'' i d) cut p) → answers' ≡ answers ++ p ∷ []
    → needs'.credit ≡ needs.credit + (if is_credit p.need then 2 ^ i else 0) → needs'.room ≡ needs.room + (if is_room p.need then 2 ^ i else 0) → needs'.moved ≡ needs.moved || nat_lt 0 p.moved
    → SoFar links links'' queues queues'' cut (i + 1) needs' answers'
goes_on links links' links'' queues queues' queues'' cut i needs needs' answers answers' p far changes put stands fewer polls on credit room moved =
    let c = bits_next (λ (q : Passed). is_credit q.need) answers p i needs.credit needs'.credit far.count far.polls.credit credit in
    let r = bits_next (λ (q : Passed). is_room q.need) answers p i needs.room needs'.room far.count far.polls.room room in
    let long = changes.lengths in
    let longer : length (answers ++ p ∷ []) ≡ i + 1 = length-append answers (p ∷ []) ∙ ap (λ n. n + 1) far.count in
    subst (λ (list : List Passed). SoFar links links'' queues queues'' cut (i + 1) needs' list) (sym on) (record {
      holds = changed_holds links' links'' queues' queues'' i far.holds changes put stands fewer;
      as_many = long.0 ∙ far.as_many;
      count = longer;
      polls = record {
        each = λ k d q there.
            ⊎_elim (λ (e : k ≡ i).
            let here : get_or (answers ++ p ∷ []) k q ≡ p = ap (λ j. get_or (answers ++ p ∷ []) j q) (e ∙ sym far.count) ∙ get_or-append_seam answers p [] q in
            let now : LanePolls (lane_at links queues i d) (lane_at links'' queues'' i d) cut p =
            subst (λ (l : LaneSeen). LanePolls l (lane_at links'' queues'' i d) cut p) (far.rest i d (omega arith)) (polls d) in
            subst (λ (a : Passed). LanePolls (lane_at links queues k d) (lane_at links'' queues'' k d) cut a) (sym here)
            (subst (λ j. LanePolls (lane_at links queues j d) (lane_at links'' queues'' j d) cut p) (sym e) now))
            (λ (other : k ≢ i).
            let before : k < length answers = less_of k i (length answers) other (omega (arith, there, longer)) far.count in
            subst (λ (a : Passed). LanePolls (lane_at links queues k d) (lane_at links'' queues'' k d) cut a) (sym (get_or-append answers (p ∷ []) q k before))
            (subst (λ (l : LaneSeen). LanePolls (lane_at links queues k d) l cut (get_or answers k q)) (sym (other_lane links' links'' queues' queues'' i k d changes other)) (far.polls.each k d q before)))
            (same_or_other k i);
        credit = c.0;
        room = r.0;
        moved = moved ∙ ap (λ b. b || nat_lt 0 p.moved) far.polls.moved ∙ moved_or (sum_by (λ (q : Passed). q.moved) answers) p.moved ∙ ap (λ n. nat_lt 0 n) (sym (sum_by-append (λ (q : Passed). q.moved) answers (p ∷ []) ∙ omega arith));
      };
      rest = λ k d later. other_lane links' links'' queues' queues'' i k d changes (λ e. omega (arith, e, later)) ∙ far.rest k d (omega (arith, later));
      all_put = λ k d. changed_put links' links'' queues' queues'' i changes put k d ∙ far.all_put k d;
      below = (c.1, r.1);
    })

-- ---- one lane failed

pub fails_at : (links links' links'' : List TxSeen) (queues queues' queues'' : List (List Frame)) (cut i : ℕ) (needs : Needs) (answers : List Passed) (bad : LinkBad)
    → SoFar links links' queues queues' cut i needs answers → ChangesLane links' links'' queues' queues'' i → i < length links
    → ((d : TxSeen) → LaneFails (lane_at links' queues' i d) (lane_at links'' queues'' i d) cut bad) → FailsAt links links'' queues queues'' cut (record { link = i; bad = bad })
fails_at links links' links'' queues queues' queues'' cut i needs answers bad far changes there fails =
    let none : Passed = record { moved = 0; need = Nothing } in
    record {
      there = there;
      before = λ k d earlier. (
        get_or answers k none,
        subst (λ (l : LaneSeen). LanePolls (lane_at links queues k d) l cut (get_or answers k none)) (sym (other_lane links' links'' queues' queues'' i k d changes (λ e. omega (arith, e, earlier)))) (far.polls.each k d none (omega (arith, far.count, earlier))),
      );
      here = λ d. subst (λ (l : LaneSeen). LaneFails l (lane_at links'' queues'' i d) cut bad) (far.rest i d (omega arith)) (fails d);
      behind = λ k d later. other_lane links' links'' queues' queues'' i k d changes (λ e. omega (arith, e, later)) ∙ far.rest k d (omega (arith, later));
    }
