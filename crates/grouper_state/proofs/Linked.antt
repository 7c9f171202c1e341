-- What was put on one link, one frame more at a time.
use Rattle.std.proofs.Common.{ℕ, Bool, true, false, List, [], ◌∷◌, ◌++◌, ◌≡◌, ◌<◌, ◌≤◌, ◌+◌, ◌-◌, ◌*◌, ◌%◌, ◌^◌, ◌⊎◌, Option, Some, None, inl, inr, refl, sym, ap, subst, ◌∙◌, ⊎_elim, arith, length, take, drop, get_or}
use Rattle.std.specs.Prelude.{slice_get, slice_index, ◌==◌, ◌||◌}
use Rattle.std.specs.List.{AllByRecursion}
use Rattle.std.proofs.lemmas.Bool.{eq-eqb}
use Rattle.std.proofs.lemmas.Bool.Decides.{nat_tests}
use Rattle.std.proofs.lemmas.List.{append-nil, take-append-drop, take_more, drop_more, take_all, length-map}
use Rattle.std.proofs.lemmas.List.Sums.{sum_by_push}
use Rattle.std.proofs.lemmas.Option.{slice_get_within, get_or_from_slice_get}
use Rattle.credit_link.specs.Frames.{is_finish}
use Rattle.ds_base.specs.Copies.{Copies}
use Rattle.ds_base.specs.Fronts.{IsIn}
use Rattle.ds_base.specs.Order.{Precedes, PrecedesAll, InStampOrder}
use Rattle.ds_base.specs.declared.stamp.Stamp.{Stamp}
use Rattle.ds_base.specs.declared.summary.Summary.{Summary}
use Rattle.node_frames.specs.declared.frame.Frame.{Frame}
use Rattle.node_frames.specs.declared.frame.Frame.TheVariants.{GroupHead, GroupMark, Finish}
use Rattle.summary_spec.specs.Declaration.{Declared}
use Rattle.window_grouper.specs.Groups.{members_in}
use Rattle.run_law.specs.Links.{MayFollow, GroupRule, IsTime, IsStampOf, IsNextStamp, IsMemberOf, IsNextMember as MayBeNext, members_of}
use Rattle.run_law.specs.Nodes.{first_member, began}
use Rattle.run_law.specs.Sent.{Begun, with_member, still_begun, made_whole, begun_after, whole_with, groups_in, of_firsts, bound_after}
use Rattle.run_law.specs.Shapes.{dealt}
use Rattle.run_law.proofs.Lists.{all_in, in_left, in_right}
use Rattle.run_law.proofs.Ordered.{lead}
use Rattle.grouper_state.specs.Outgoing.{Outgoing, whole_outgoing, one_further, begun_of, begun_on, frames_going, head_of, member_of}
use Rattle.grouper_state.specs.Puts.{LinkHas, IsLedBy, heads_put, one_if}
use Rattle.grouper_state.proofs.Dealt.{differs, dealt_own, dealt_other, in_last}
use Rattle.grouper_state.proofs.Frames.{lawful_push, bound_push, begun_push, groups_push, announced_push, finish_push, in_push, none_finish, head_permitted, member_permitted, mark_permitted, end_permitted}
use Rattle.grouper_state.proofs.Gathering.{IsSendable, IsItem}

pub members_push : (xs : List Copies) (x : Copies) → members_in (xs ++ x ∷ []) ≡ members_in xs + length x.members
members_push xs x = sum_by_push (λ (y : Copies). length y.members) xs x

led_more : (first : Stamp) (xs ys : List Copies) → ((y : Copies) → IsIn y xs → IsIn y ys) → IsLedBy first xs → IsLedBy first ys
led_more first xs ys grows led = record { group = led.group; there = grows led.group led.there; is = led.is }

-- ---- a frame more on the link

-- what the frame changes
pub record Pushes (job : Declared) (processors me q : ℕ) (frames : List Frame) (f : Frame) (done : List Copies) (going : Option Outgoing) (turn mark marks : ℕ)
    (done' : List Copies) (going' : Option Outgoing) (turn' mark' marks' : ℕ) (finished' : Bool) : Type 0 where
  pub may : MayFollow (GroupRule job) frames f
  pub groups : dealt processors me q done' ≡ dealt processors me q done ++ whole_with (begun_on q turn going) f
  pub begun : begun_after (begun_on q turn going) f ≡ begun_on q turn' going'
  pub grows : (y : Copies) → IsIn y (heads_put done going) → IsIn y (heads_put done' going')
  pub head : (first : Stamp) (n : ℕ) (key : List ℕ) → GroupHead first n key ≡ f → IsLedBy first (heads_put done' going')
  pub announced : members_in (heads_put done going) + members_of f ≤ members_in (heads_put done' going')
  pub told : (m : ℕ) → GroupMark m ≡ f → m ≤ mark'
  pub up : mark ≤ mark'
  pub last : (mark' ≡ mark) ⊎ (GroupMark mark' ≡ f)
  pub bound : finished' ≡ false → bound_after (Some mark) (of_firsts f) ≡ Some mark'
  pub ends : is_finish f ≡ finished'
  pub few : 2 * members_in done + frames_going going + marks + 1 ≤ 2 * members_in done' + frames_going going' + marks' + one_if finished'

pub pushed : (job : Declared) (processors me q : ℕ) (frames : List Frame) (f : Frame) (done : List Copies) (going : Option Outgoing) (turn mark marks : ℕ)
    (done' : List Copies) (going' : Option Outgoing) (turn' mark' marks' : ℕ) (finished' : Bool)
    → LinkHas job processors me q frames done going turn mark marks false
    → Pushes job processors me q frames f done going turn mark marks done' going' turn' mark' marks' finished'
    → LinkHas job processors me q (frames ++ f ∷ []) done' going' turn' mark' marks' finished'
pushed job processors me q frames f done going turn mark marks done' going' turn' mark' marks' finished' h p = record {
  lawful = lawful_push (GroupRule job) frames f h.lawful p.may;
  groups = groups_push frames f ∙ ap (λ b. groups_in frames ++ whole_with b f) h.begun
      ∙ ap (λ (xs : List Copies). xs ++ whole_with (begun_on q turn going) f) h.groups ∙ sym p.groups;
  begun = begun_push frames f ∙ ap (λ b. begun_after b f) h.begun ∙ p.begun;
  heads = λ first n key there.
      ⊎_elim
      (λ (early : IsIn (GroupHead first n key) frames). led_more first (heads_put done going) (heads_put done' going') p.grows (h.heads first n key early))
      (λ (e : GroupHead first n key ≡ f). p.head first n key e)
      (in_push (GroupHead first n key) frames f there);
  announced = let old = h.announced in let new = p.announced in omega (arith, old, new, announced_push frames f);
  told = λ m there.
      ⊎_elim
      (λ (early : IsIn (GroupMark m) frames). let old = h.told m early in let up = p.up in omega (arith, old, up))
      (λ (e : GroupMark m ≡ f). p.told m e)
      (in_push (GroupMark m) frames f there);
  last = λ some.
      ⊎_elim
      (λ (e : mark' ≡ mark). in_left (GroupMark mark') frames (f ∷ []) (subst (λ (m : ℕ). IsIn (GroupMark m) frames) (sym e) (h.last (omega (arith, some, e)))))
      (λ (e : GroupMark mark' ≡ f). in_right (GroupMark mark') frames (f ∷ []) (inl e))
      p.last;
  bound = λ e. bound_push of_firsts frames f ∙ ap (λ (b : Option ℕ). bound_after b (of_firsts f)) (h.bound refl) ∙ p.bound e;
  ends = finish_push frames f ∙ ap (λ (b : Bool). b || is_finish f) h.ends ∙ p.ends;
  few = let old = h.few in let new = p.few in sums (length (frames ++ f ∷ [])) (length frames) _ _ (length_one frames) old new;
}
  where
    length_one : (xs : List Frame) → length (xs ++ f ∷ []) ≡ length xs + 1
    length_one [] = refl
    length_one (x ∷ xs) = let rest = length_one xs in omega (arith, rest)

    sums : (l k a b : ℕ) → l ≡ k + 1 → k ≤ a + 0 → a + 1 ≤ b → l ≤ b
    sums l k a b e p q = omega (arith, e, p, q)

-- ---- none more on it

-- what changes on the others
pub record Stays (processors me q : ℕ) (done : List Copies) (going : Option Outgoing) (turn marks : ℕ) (done' : List Copies) (going' : Option Outgoing) (turn' marks' : ℕ) : Type 0 where
  pub groups : dealt processors me q done' ≡ dealt processors me q done
  pub begun : begun_on q turn' going' ≡ begun_on q turn going
  pub grows : (y : Copies) → IsIn y (heads_put done going) → IsIn y (heads_put done' going')
  pub announced : members_in (heads_put done going) ≤ members_in (heads_put done' going')
  pub few : 2 * members_in done + frames_going going + marks ≤ 2 * members_in done' + frames_going going' + marks'

pub stayed : (job : Declared) (processors me q : ℕ) (frames : List Frame) (done : List Copies) (going : Option Outgoing) (turn mark marks : ℕ) (finished : Bool)
    (done' : List Copies) (going' : Option Outgoing) (turn' marks' : ℕ)
    → LinkHas job processors me q frames done going turn mark marks finished → Stays processors me q done going turn marks done' going' turn' marks'
    → LinkHas job processors me q frames done' going' turn' mark marks' finished
stayed job processors me q frames done going turn mark marks finished done' going' turn' marks' h s = record {
  lawful = h.lawful;
  groups = h.groups ∙ sym s.groups;
  begun = h.begun ∙ sym s.begun;
  heads = λ first n key there. led_more first (heads_put done going) (heads_put done' going') s.grows (h.heads first n key there);
  announced = let old = h.announced in let new = s.announced in omega (arith, old, new);
  told = h.told;
  last = h.last;
  bound = h.bound;
  ends = h.ends;
  few = let old = h.few in let new = s.few in sums (length frames) _ _ (one_if finished) old new;
}
  where
    sums : (l a b o : ℕ) → l ≤ a + o → a ≤ b → l ≤ b + o
    sums l a b o p q = omega (arith, p, q)

-- ---- a group's head

module _ (done : List Copies) (x : Copies) where
  grows_head : (y : Copies) → IsIn y (done ++ []) → IsIn y (done ++ x ∷ [])
  grows_head y there = in_left y done (x ∷ []) (subst (λ (xs : List Copies). IsIn y xs) (append-nil done) there)

  same_count : members_in (done ++ []) ≡ members_in done
  same_count = ap members_in (append-nil done)

pub head_stays : (processors me q : ℕ) (done : List Copies) (x : Copies) (turn marks : ℕ) → (q ≡ turn → ⊥) → Stays processors me q done None turn marks done (Some (whole_outgoing x)) turn marks
head_stays processors me q done x turn marks other = record {
  groups = refl;
  begun = let not : (q == turn) ≡ false = differs q turn other in rw not refl;
  grows = grows_head done x;
  announced = omega (arith, same_count done x, members_push done x);
  few = omega arith;
}

pub head_pushes : (job : Declared) (processors me : ℕ) (frames : List Frame) (done : List Copies) (x : Copies) (turn mark marks : ℕ)
    → LinkHas job processors me turn frames done None turn mark marks false → IsSendable job x
    → ((y : Copies) → IsIn y done → Precedes (lead y) (lead x)) → mark ≤ began x → members_in (done ++ x ∷ []) ≤ 2 ^ 46
    → Pushes job processors me turn frames (head_of x) done None turn mark marks done (Some (whole_outgoing x)) turn mark marks false
head_pushes job processors me frames done x turn mark marks h sound after low few = record {
  may = record {
    own = (
      h.begun,
      record {
        stamp = first_stamp x.members sound.filled sound.items;
        key_length = first_key x.members sound.filled sound.items sound.one_key;
        filled = sound.filled;
        few = let old = h.announced in omega (arith, old, few, same_count done x, members_push done x);
      },
    );
    permitted = head_permitted frames (lead x) (length x.members) x.key (λ m there. let told = h.told m there in omega (arith, told, low))
        (λ before n key there.
        let led = h.heads before n key there in
        subst (λ (s : Stamp). Precedes s (lead x)) (sym led.is) (after led.group (subst (λ (xs : List Copies). IsIn led.group xs) (append-nil done) led.there)))
        (none_finish frames h.ends);
  };
  groups = sym (append-nil (dealt processors me turn done));
  begun = let own : (turn == turn) ≡ true = eq-eqb turn turn refl in rw own (ap (λ (k : ℕ). Some (begun_with k)) (less_none (length x.members)));
  grows = grows_head done x;
  head = λ first n key e. record { group = x; there = in_last done x; is = of_head first n key e };
  announced = omega (arith, same_count done x, members_push done x);
  told = λ m e. absurd (cc);
  up = omega arith;
  last = inl refl;
  bound = λ e. refl;
  ends = refl;
  few = omega arith;
}
  where
    begun_with : ℕ → Begun
    begun_with k = record { first = lead x; key = x.key; members = []; left = k }

    less_none : (n : ℕ) → n ≡ n - 0
    less_none n = omega arith

    of_head : (first : Stamp) (n : ℕ) (key : List ℕ) → GroupHead first n key ≡ head_of x → first ≡ (first_member x.members).at
    of_head first n key e = cc

    first_stamp : (ms : List Summary) → 0 < length ms → ((m : Summary) → IsIn m ms → IsItem job m) → IsStampOf job (first_member ms).at
    first_stamp [] some items = absurd (omega (arith, some))
    first_stamp (m ∷ ms) some items = (items m (inl refl)).stamp

    first_key : (ms : List Summary) → 0 < length ms → ((m : Summary) → IsIn m ms → IsItem job m) → AllByRecursion (λ (m : Summary). m.key ≡ x.key) ms → length x.key ≡ length job.key
    first_key [] some items keys = absurd (omega (arith, some))
    first_key (m ∷ ms) some items keys = ap length (sym keys.0 ∙ (items m (inl refl)).key) ∙ length-map job.key (slice_index m.vals)

-- ---- a member

own_begun : (turn : ℕ) (o : Outgoing) → begun_on turn turn (Some o) ≡ Some (begun_of o)
own_begun turn o = let own : (turn == turn) ≡ true = eq-eqb turn turn refl in rw own refl

-- the members before, the one, and those behind
record IsSplit (o : Outgoing) (m : Summary) : Type 0 where
  less : o.next < length o.group.members
  there : IsIn m o.group.members
  one_more : take (o.next + 1) o.group.members ≡ take o.next o.group.members ++ m ∷ []
  whole : o.group.members ≡ take o.next o.group.members ++ m ∷ drop (o.next + 1) o.group.members

split_at : (o : Outgoing) (m : Summary) → slice_get o.group.members o.next ≡ Some m → IsSplit o m
split_at o m at =
    let less = slice_get_within o.group.members o.next m at in
    let here : get_or o.group.members o.next m ≡ m = get_or_from_slice_get o.group.members o.next m m at in
    let whole : o.group.members ≡ take o.next o.group.members ++ m ∷ drop (o.next + 1) o.group.members =
    sym (take-append-drop o.next o.group.members)
    ∙ ap (λ (ms : List Summary). take o.next o.group.members ++ ms)
    (drop_more o.group.members o.next m less ∙ ap (λ (z : Summary). z ∷ drop (o.next + 1) o.group.members) here) in
    record {
      less = less;
      there = subst (λ (ms : List Summary). IsIn m ms) (sym whole) (in_right m (take o.next o.group.members) (m ∷ drop (o.next + 1) o.group.members) (inl refl));
      one_more = take_more o.group.members o.next m less ∙ ap (λ (z : Summary). take o.next o.group.members ++ z ∷ []) here;
      whole = whole;
    }

next_stamp : (before rest : List Summary) (m : Summary) → InStampOrder (before ++ m ∷ rest) → IsNextStamp (first_member (before ++ m ∷ rest)).at before m.at
next_stamp [] rest m h = refl
next_stamp (b ∷ bs) rest m h = (behind b.at bs h.0, all_before bs h.1)
  where
    behind : (at : Stamp) (bs : List Summary) → PrecedesAll at (bs ++ m ∷ rest) → Precedes at m.at
    behind at [] p = p.0
    behind at (c ∷ cs) p = behind at cs p.1

    all_before : (bs : List Summary) → InStampOrder (bs ++ m ∷ rest) → AllByRecursion (λ (earlier : Summary). Precedes earlier.at m.at) bs
    all_before [] p = tt
    all_before (c ∷ cs) p = (behind c.at cs p.0, all_before cs p.1)

module _ (job : Declared) (o : Outgoing) (m : Summary) (at : slice_get o.group.members o.next ≡ Some m) (sound : IsSendable job o.group) where
  split : IsSplit o m
  split = split_at o m at

  own_key : m.key ≡ o.group.key
  own_key = all_in (λ (z : Summary). z.key ≡ o.group.key) m o.group.members sound.one_key split.there

  pub is_next : IsMemberOf job (begun_of o) m.at m.vals
  is_next =
      let item = sound.items m split.there in
      record {
        stamp = item.stamp;
        next = subst (λ (ms : List Summary). IsNextStamp (first_member ms).at (take o.next o.group.members) m.at) (sym split.whole)
            (next_stamp (take o.next o.group.members) (drop (o.next + 1) o.group.members) m (subst InStampOrder split.whole sound.ordered));
        within = all_in (λ (z : Summary). z.at.time ≤ (first_member o.group.members).at.time + job.window) m o.group.members sound.within split.there;
        values = item.values;
        key = sym own_key ∙ item.key;
      }

  -- with this member the group is one further
  pub further : with_member m.at m.vals (begun_of o) ≡ begun_of (one_further o)
  further =
      ap (λ (ms : List Summary). begun_with ms (length o.group.members - o.next - 1))
      (ap (λ (key : List ℕ). take o.next o.group.members ++ record { at = m.at; key = key; vals = m.vals } ∷ []) (sym own_key) ∙ sym split.one_more)
      ∙ ap (begun_with (take (o.next + 1) o.group.members)) (one_less (length o.group.members) o.next)
    where
      begun_with : List Summary → ℕ → Begun
      begun_with ms left = record { first = (first_member o.group.members).at; key = o.group.key; members = ms; left = left }

      one_less : (n k : ℕ) → n - k - 1 ≡ n - (k + 1)
      one_less n k = omega arith

  -- of a begun link
  pub begun_next : (turn : ℕ) → begun_after (begun_on turn turn (Some o)) (member_of m) ≡ still_begun (begun_of (one_further o))
  begun_next turn = let own : (turn == turn) ≡ true = eq-eqb turn turn refl in rw own (ap still_begun further)

  pub whole_next : (turn : ℕ) → whole_with (begun_on turn turn (Some o)) (member_of m) ≡ made_whole (begun_of (one_further o))
  whole_next turn = let own : (turn == turn) ≡ true = eq-eqb turn turn refl in rw own (ap made_whole further)

  member_may : (processors me turn : ℕ) (frames : List Frame) (done : List Copies) (mark marks : ℕ) → LinkHas job processors me turn frames done (Some o) turn mark marks false
      → MayFollow (GroupRule job) frames (member_of m)
  member_may processors me turn frames done mark marks h = record {
    own = subst (λ b. MayBeNext job b m.at m.vals) (sym (h.begun ∙ own_begun turn o)) is_next;
    permitted = member_permitted frames m.at m.vals (none_finish frames h.ends);
  }

  -- a member behind which others are to come
  pub member_pushes : (processors me turn : ℕ) (frames : List Frame) (done : List Copies) (mark marks : ℕ) → LinkHas job processors me turn frames done (Some o) turn mark marks false
      → o.next + 1 < length o.group.members
      → Pushes job processors me turn frames (member_of m) done (Some o) turn mark marks done (Some (one_further o)) turn mark marks false
  member_pushes processors me turn frames done mark marks h more = record {
    may = member_may processors me turn frames done mark marks h;
    groups = sym (ap (λ (xs : List Copies). dealt processors me turn done ++ xs) (whole_next turn ∙ none_whole) ∙ append-nil (dealt processors me turn done));
    begun = begun_next turn ∙ goes_on ∙ sym (own_begun turn (one_further o));
    grows = λ y there. there;
    head = λ first n key e. absurd (cc);
    announced = omega arith;
    told = λ k e. absurd (cc);
    up = omega arith;
    last = inl refl;
    bound = λ e. refl;
    ends = refl;
    few = omega arith;
  }
    where
      some_left : (length o.group.members - (o.next + 1) == 0) ≡ false
      some_left = some (length o.group.members) (o.next + 1) more
        where
          some : (n k : ℕ) → k < n → (n - k == 0) ≡ false
          some n k less = grind (arith, nat_tests)

      none_whole : made_whole (begun_of (one_further o)) ≡ []
      none_whole = rw some_left refl

      goes_on : still_begun (begun_of (one_further o)) ≡ Some (begun_of (one_further o))
      goes_on = rw some_left refl

  -- the last member
  pub last_pushes : (processors me turn turn' : ℕ) (frames : List Frame) (done : List Copies) (mark marks : ℕ) → LinkHas job processors me turn frames done (Some o) turn mark marks false
      → o.next + 1 ≡ length o.group.members → (me + length done) % processors ≡ turn
      → Pushes job processors me turn frames (member_of m) done (Some o) turn mark marks (done ++ o.group ∷ []) None turn' mark marks false
  last_pushes processors me turn turn' frames done mark marks h all own_turn = record {
    may = member_may processors me turn frames done mark marks h;
    groups = dealt_own processors me turn done o.group own_turn ∙ sym (ap (λ (xs : List Copies). dealt processors me turn done ++ xs) (whole_next turn ∙ now_whole));
    begun = begun_next turn ∙ over;
    grows = λ y there. subst (λ (xs : List Copies). IsIn y xs) (sym (append-nil (done ++ o.group ∷ []))) there;
    head = λ first n key e. absurd (cc);
    announced = omega (arith, same);
    told = λ k e. absurd (cc);
    up = omega arith;
    last = inl refl;
    bound = λ e. refl;
    ends = refl;
    few = omega (arith, all, members_push done o.group);
  }
    where
      same : members_in ((done ++ o.group ∷ []) ++ []) ≡ members_in (done ++ o.group ∷ [])
      same = ap members_in (append-nil (done ++ o.group ∷ []))

      none_left : (length o.group.members - (o.next + 1) == 0) ≡ true
      none_left = none (length o.group.members) (o.next + 1) all
        where
          none : (n k : ℕ) → k ≡ n → (n - k == 0) ≡ true
          none n k e = grind (arith, nat_tests)

      now_whole : made_whole (begun_of (one_further o)) ≡ o.group ∷ []
      now_whole = rw none_left (ap (λ (ms : List Summary). record { key = o.group.key; members = ms } ∷ []) (take_all (o.next + 1) o.group.members (omega (arith, all))))

      over : still_begun (begun_of (one_further o)) ≡ None
      over = rw none_left refl

pub member_stays : (processors me q : ℕ) (done : List Copies) (o : Outgoing) (turn marks : ℕ) → (q ≡ turn → ⊥)
    → Stays processors me q done (Some o) turn marks done (Some (one_further o)) turn marks
member_stays processors me q done o turn marks other = record {
  groups = refl;
  begun = let not : (q == turn) ≡ false = differs q turn other in rw not refl;
  grows = λ y there. there;
  announced = omega arith;
  few = omega arith;
}

pub last_stays : (processors me q : ℕ) (done : List Copies) (o : Outgoing) (turn turn' marks : ℕ) → (q ≡ turn → ⊥) → o.next + 1 ≡ length o.group.members
    → (me + length done) % processors ≡ turn → Stays processors me q done (Some o) turn marks (done ++ o.group ∷ []) None turn' marks
last_stays processors me q done o turn turn' marks other all own_turn = record {
  groups = dealt_other processors me q done o.group (λ e. other (sym e ∙ own_turn));
  begun = let not : (q == turn) ≡ false = differs q turn other in rw not refl;
  grows = λ y there. subst (λ (xs : List Copies). IsIn y xs) (sym (append-nil (done ++ o.group ∷ []))) there;
  announced = omega (arith, ap members_in (append-nil (done ++ o.group ∷ [])));
  few = omega (arith, all, members_push done o.group);
}

-- ---- for all links

pub mark_pushes : (job : Declared) (processors me q : ℕ) (frames : List Frame) (done : List Copies) (turn mark marks next : ℕ)
    → LinkHas job processors me q frames done None turn mark marks false → IsTime next → mark ≤ next
    → Pushes job processors me q frames (GroupMark next) done None turn mark marks done None turn next (marks + 1) false
mark_pushes job processors me q frames done turn mark marks next h time up = record {
  may = record {
    own = (h.begun, time);
    permitted = mark_permitted job frames next h.lawful (λ m there. let told = h.told m there in omega (arith, told, up)) (none_finish frames h.ends);
  };
  groups = sym (append-nil (dealt processors me q done));
  begun = refl;
  grows = λ y there. there;
  head = λ first n key e. absurd (cc);
  announced = omega arith;
  told = λ m e. let same : m ≡ next = cc in omega (arith, same);
  up = up;
  last = inr refl;
  bound = λ e. refl;
  ends = refl;
  few = omega arith;
}

pub end_pushes : (job : Declared) (processors me q : ℕ) (frames : List Frame) (done : List Copies) (turn mark marks : ℕ)
    → LinkHas job processors me q frames done None turn mark marks false
    → Pushes job processors me q frames Finish done None turn mark marks done None turn mark marks true
end_pushes job processors me q frames done turn mark marks h = record {
  may = record { own = h.begun; permitted = end_permitted frames (none_finish frames h.ends) };
  groups = sym (append-nil (dealt processors me q done));
  begun = refl;
  grows = λ y there. there;
  head = λ first n key e. absurd (cc);
  announced = omega arith;
  told = λ m e. absurd (cc);
  up = omega arith;
  last = inl refl;
  bound = λ e. absurd (cc);
  ends = refl;
  few = omega arith;
}
