-- Groups that were sent have all members that they could have.
use Rattle.std.proofs.Common.{ℕ, true, false, List, [], ◌∷◌, ◌++◌, ◌≡◌, ◌⊎◌, ◌≤◌, ◌+◌, inl, inr, refl, sym, ap, subst, ◌∙◌, ⊎_elim}
use Rattle.std.specs.Prelude.{filter}
use Rattle.std.proofs.lemmas.Bool.{cases_Bool}
use Rattle.central_report.specs.Report.{accepted, groups}
use Rattle.ds_base.specs.Copies.{Copies}
use Rattle.ds_base.specs.Fronts.{IsIn}
use Rattle.ds_base.specs.Order.{Precedes, PrecedesAll, InStampOrder}
use Rattle.ds_base.specs.declared.stamp.Stamp.{Stamp}
use Rattle.ds_base.specs.declared.summary.Summary.{Summary}
use Rattle.window_grouper.specs.Groups.{covers, is_covered, groups_behind}
use Rattle.window_grouper.proofs.Covers.{covers-from}
use Rattle.run_law.specs.Laws.{shard_run, MayJoin, NoGroupGains}
use Rattle.run_law.specs.Nodes.{first_member, groups_closed}
use Rattle.run_law.specs.Shapes.{is_of_shard}
use Rattle.run_law.proofs.Coming.{kept}
use Rattle.run_law.proofs.Lists.{in_right, in_either, in_filter, of_filter, in_front, of_dealt}
use Rattle.run_law.proofs.Sharded.{accepted_ordered, closed_front}

-- where a group begins in the list, and its members
record Begins (window : ℕ) (l : List Summary) (x : Copies) : Type 0 where
  before : List Summary
  first : Summary
  rest : List Summary
  joined : l ≡ before ++ first ∷ rest
  key : x.key ≡ first.key
  members : x.members ≡ first ∷ filter (covers window first) rest

one_before : (window : ℕ) (s : Summary) (l : List Summary) (x : Copies) → Begins window l x → Begins window (s ∷ l) x
one_before window s l x b = record {
  before = s ∷ b.before;
  first = b.first;
  rest = b.rest;
  joined = ap (λ (k : List Summary). s ∷ k) b.joined;
  key = b.key;
  members = b.members;
}

begins : (window : ℕ) (fs l : List Summary) (x : Copies) → IsIn x (groups_behind window fs l) → Begins window l x
begins window fs [] x h = absurd h
begins window fs (s ∷ l) x h =
    ⊎_elim
    (λ (covered : is_covered window fs s ≡ true).
    let later : IsIn x (groups_behind window fs l) = rw covered at h in
    one_before window s l x (begins window fs l x later))
    (λ (free : is_covered window fs s ≡ false).
    let split : (x ≡ record { key = s.key; members = s ∷ filter (covers window s) l }) ⊎ IsIn x (groups_behind window (s ∷ fs) l) = rw free at h in
    ⊎_elim
    (λ (e : x ≡ record { key = s.key; members = s ∷ filter (covers window s) l }).
    let own : Begins window (s ∷ l) x = record {
      before = [];
      first = s;
      rest = l;
      joined = refl;
      key = ap (λ (y : Copies). y.key) e;
      members = ap (λ (y : Copies). y.members) e;
    } in
    own)
    (λ (later : IsIn x (groups_behind window (s ∷ fs) l)). one_before window s l x (begins window (s ∷ fs) l x later))
    split)
    (cases_Bool (is_covered window fs s))

-- what stands before an item in order precedes it
pub precedes_all_in : (at : Stamp) (ss : List Summary) (s : Summary) → PrecedesAll at ss → IsIn s ss → Precedes at s.at
precedes_all_in at [] s h there = absurd there
precedes_all_in at (x ∷ xs) s h (inl e) = subst (λ (z : Summary). Precedes at z.at) (sym e) h.0
precedes_all_in at (x ∷ xs) s h (inr l) = precedes_all_in at xs s h.1 l

before_first : (before : List Summary) (first : Summary) (rest : List Summary) (s : Summary) → InStampOrder (before ++ first ∷ rest) → IsIn s before → Precedes s.at first.at
before_first [] first rest s h there = absurd there
before_first (x ∷ xs) first rest s h (inl e) =
    subst (λ (z : Summary). Precedes z.at first.at) (sym e) (precedes_all_in x.at (xs ++ first ∷ rest) first h.0 (in_right first xs (first ∷ rest) (inl refl)))
before_first (x ∷ xs) first rest s h (inr l) = before_first xs first rest s h.1 l

all_members : (window : ℕ) (l : List Summary) (x : Copies) (s : Summary) → InStampOrder l → Begins window l x → IsIn s l → MayJoin window x s → IsIn s x.members
all_members window l x s h b there join =
    let lead : (first_member x.members).at ≡ b.first.at = ap (λ (ms : List Summary). (first_member ms).at) b.members in
    let P : List Summary → Type 0 = λ ms. IsIn s ms in
    subst P (sym b.members)
    (⊎_elim
    (λ (early : IsIn s b.before).
    absurd (join.behind (subst (λ (at : Stamp). Precedes s.at at) (sym lead) (before_first b.before b.first b.rest s (subst InStampOrder b.joined h) early))))
    (λ (late : IsIn s (b.first ∷ b.rest)). by_place b.first b.rest (b.key) lead late)
    (in_either s b.before (b.first ∷ b.rest) (subst P b.joined there)))
  where
    by_place : (first : Summary) (rest : List Summary) → x.key ≡ first.key → (first_member x.members).at ≡ first.at → IsIn s (first ∷ rest)
        → IsIn s (first ∷ filter (covers window first) rest)
    by_place first rest key lead (inl e) = inl e
    by_place first rest key lead (inr l) =
        let near : s.at.time ≤ first.at.time + window = subst (λ (at : Stamp). s.at.time ≤ at.time + window) lead join.within in
        inr (in_filter (covers window first) s rest (covers-from window first s (record { key = sym key ∙ sym join.key; near = near })) l)

pub no_group_gains : NoGroupGains
no_group_gains job files shape start lists run snap g q x s hg hq sent there join =
    let is = kept job files shape start lists run snap g hg in
    let mine : IsIn x is.sent = of_dealt shape.processors g q x is.sent (subst (λ xs. IsIn x xs) (is.in_turn q hq) sent) in
    let closed : IsIn x (groups_closed job shape (λ p. (lists.items p g).taken)) =
    in_front x is.sent (groups_closed job shape (λ p. (lists.items p g).taken)) is.closed mine in
    let own : IsIn x (shard_run job files g shape.groupers) =
    in_front x (groups_closed job shape (λ p. (lists.items p g).taken)) (shard_run job files g shape.groupers) (closed_front job files shape start lists run snap g hg) closed in
    let group : IsIn x (groups job files) = (of_filter (λ (y : Copies). is_of_shard g shape.groupers y.key) x (groups job files) own).0 in
    all_members job.window (accepted job files) x s (accepted_ordered job files shape start lists run snap)
    (begins job.window [] (accepted job files) x group) there join
