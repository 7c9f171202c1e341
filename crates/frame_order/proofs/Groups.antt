-- What the frames from a grouper permit, and what is kept of them.
use Rattle.std.proofs.Common.{ℕ, zero, suc, Bool, true, false, List, [], ◌∷◌, ◌++◌, ◌≡◌, ◌≢◌, ◌⊎◌, ◌<◌, ◌≤◌, ◌+◌, ◌-◌, ◌↔◌, Option, Some, None, inl, inr, refl, sym, ap, subst, ◌∙◌, ⊎_elim, arith}
use Rattle.std.specs.Prelude.{◌==◌}
use Rattle.std.specs.List.{AllByRecursion, list_any}
use Rattle.std.proofs.lemmas.Bool.{cases_Bool, eqb-true}
use Rattle.std.proofs.lemmas.List.Sums.{sum_by-append}
use Rattle.ds_base.specs.Order.{Precedes}
use Rattle.ds_base.specs.declared.stamp.Stamp.{Stamp}
use Rattle.ds_base.specs.declared.summary.Summary.{Summary}
use Rattle.node_frames.specs.declared.frame.Frame.{Frame}
use Rattle.node_frames.specs.declared.frame.Frame.TheVariants.{Item, Mark, CaptureEnd, GroupHead, Member, GroupMark, AnswerRow, Profile, CountsRow, Finish}
use Rattle.run_law.specs.Links.{Permits, IsNextStamp, members_of, members_announced}
use Rattle.run_law.specs.Sent.{Begun, begun_after, begun_behind, begun_in}
use Rattle.frame_order.specs.Groups.{KeepsGroups, HeadFits, GroupMarkFits, IsAfterHead, IsAfter, IsGroup, IsNextIn}
use Rattle.frame_order.specs.Said.{greatest, group_mark_of, is_profile, is_finish}
use Rattle.frame_order.specs.declared.open_group.OpenGroup.{OpenGroup}
use Rattle.frame_order.proofs.Lists.{all_map, all_both, all_more, all_fewer, greatest_same, greatest_last, all_greatest, greatest_all, any_same, any_last, all_none, none_all, like_not}

-- ---- the order of stamps

later_place : (c d e m n o : ℕ) → (c < d) ⊎ ((c ≡ d) × (m < n)) → (d < e) ⊎ ((d ≡ e) × (n < o)) → (c < e) ⊎ ((c ≡ e) × (m < o))
later_place c d e m n o (inl p) (inl q) = inl (omega (arith, p, q))
later_place c d e m n o (inl p) (inr q) = inl (omega (arith, p, q.0))
later_place c d e m n o (inr p) (inl q) = inl (omega (arith, p.0, q))
later_place c d e m n o (inr p) (inr q) = inr (p.0 ∙ q.0, omega (arith, p.1, q.1))

pub precedes_on : (a b c : Stamp) → Precedes a b → Precedes b c → Precedes a c
precedes_on a b c (inl p) (inl q) = inl (omega (arith, p, q))
precedes_on a b c (inl p) (inr q) = inl (omega (arith, p, q.0))
precedes_on a b c (inr p) (inl q) = inl (omega (arith, p.0, q))
precedes_on a b c (inr p) (inr q) = inr (p.0 ∙ q.0, later_place a.capture b.capture c.capture a.number b.number c.number p.1 q.1)

-- ---- what one frame permits

abbrev LeavesHead : Stamp → Frame → Type 0
LeavesHead first f = ((is_finish f ≡ false) × (group_mark_of f ≤ first.time)) × IsAfterHead first f

head_left : (first : Stamp) (members : ℕ) (key : List ℕ) (f : Frame) → Permits f (GroupHead first members key) → LeavesHead first f
head_left first members key (Item t) h = ((refl, omega arith), tt)
head_left first members key (Mark c mark) h = ((refl, omega arith), tt)
head_left first members key (CaptureEnd c) h = ((refl, omega arith), tt)
head_left first members key (GroupHead other n k) h = ((refl, omega arith), h)
head_left first members key (Member at vals) h = ((refl, omega arith), tt)
head_left first members key (GroupMark m) h = ((refl, h), tt)
head_left first members key (AnswerRow a) h = ((refl, omega arith), tt)
head_left first members key (Profile row) h = ((refl, omega arith), tt)
head_left first members key (CountsRow c counts) h = ((refl, omega arith), tt)
head_left first members key Finish h = absurd h

left_head : (first : Stamp) (members : ℕ) (key : List ℕ) (f : Frame) → LeavesHead first f → Permits f (GroupHead first members key)
left_head first members key (Item t) h = tt
left_head first members key (Mark c mark) h = tt
left_head first members key (CaptureEnd c) h = tt
left_head first members key (GroupHead other n k) h = h.1
left_head first members key (Member at vals) h = tt
left_head first members key (GroupMark m) h = h.0.1
left_head first members key (AnswerRow a) h = tt
left_head first members key (Profile row) h = tt
left_head first members key (CountsRow c counts) h = tt
left_head first members key Finish h = absurd (let never : true ≡ false = h.0.0 in cc)

abbrev LeavesMark : ℕ → Frame → Type 0
LeavesMark mark f = ((is_finish f ≡ false) × (is_profile f ≡ false)) × (group_mark_of f ≤ mark)

mark_left : (mark : ℕ) (f : Frame) → Permits f (GroupMark mark) → LeavesMark mark f
mark_left mark (Item t) h = ((refl, refl), omega arith)
mark_left mark (Mark c other) h = ((refl, refl), omega arith)
mark_left mark (CaptureEnd c) h = ((refl, refl), omega arith)
mark_left mark (GroupHead other n k) h = ((refl, refl), omega arith)
mark_left mark (Member at vals) h = ((refl, refl), omega arith)
mark_left mark (GroupMark m) h = ((refl, refl), h)
mark_left mark (AnswerRow a) h = ((refl, refl), omega arith)
mark_left mark (Profile row) h = absurd h
mark_left mark (CountsRow c counts) h = ((refl, refl), omega arith)
mark_left mark Finish h = absurd h

left_mark : (mark : ℕ) (f : Frame) → LeavesMark mark f → Permits f (GroupMark mark)
left_mark mark (Item t) h = tt
left_mark mark (Mark c other) h = tt
left_mark mark (CaptureEnd c) h = tt
left_mark mark (GroupHead other n k) h = tt
left_mark mark (Member at vals) h = tt
left_mark mark (GroupMark m) h = h.1
left_mark mark (AnswerRow a) h = tt
left_mark mark (Profile row) h = absurd (let never : true ≡ false = h.0.1 in cc)
left_mark mark (CountsRow c counts) h = tt
left_mark mark Finish h = absurd (let never : true ≡ false = h.0.0 in cc)

member_left : (at : Stamp) (vals : List ℕ) (f : Frame) → Permits f (Member at vals) → is_finish f ≡ false
member_left at vals (Item t) h = refl
member_left at vals (Mark c mark) h = refl
member_left at vals (CaptureEnd c) h = refl
member_left at vals (GroupHead other n k) h = refl
member_left at vals (Member other ns) h = refl
member_left at vals (GroupMark m) h = refl
member_left at vals (AnswerRow a) h = refl
member_left at vals (Profile row) h = refl
member_left at vals (CountsRow c counts) h = refl
member_left at vals Finish h = absurd h

left_member : (at : Stamp) (vals : List ℕ) (f : Frame) → is_finish f ≡ false → Permits f (Member at vals)
left_member at vals (Item t) h = tt
left_member at vals (Mark c mark) h = tt
left_member at vals (CaptureEnd c) h = tt
left_member at vals (GroupHead other n k) h = tt
left_member at vals (Member other ns) h = tt
left_member at vals (GroupMark m) h = tt
left_member at vals (AnswerRow a) h = tt
left_member at vals (Profile row) h = tt
left_member at vals (CountsRow c counts) h = tt
left_member at vals Finish h = absurd (let never : true ≡ false = h in cc)

-- ---- what all frames permit

pub head_permitted : (first : Stamp) (members : ℕ) (key : List ℕ) (frames : List Frame) → AllByRecursion (λ f. Permits f (GroupHead first members key)) frames → HeadFits frames first
head_permitted first members key frames h =
    let all = all_map (λ f. Permits f (GroupHead first members key)) (LeavesHead first) (head_left first members key) frames h in
    record {
      going = all_none is_finish frames (all_map (LeavesHead first) (λ f. is_finish f ≡ false) (λ f l. l.0.0) frames all);
      marked = all_greatest group_mark_of first.time frames (all_map (LeavesHead first) (λ f. group_mark_of f ≤ first.time) (λ f l. l.0.1) frames all);
      rising = all_map (LeavesHead first) (IsAfterHead first) (λ f l. l.1) frames all;
    }

pub head_fitting : (first : Stamp) (members : ℕ) (key : List ℕ) (frames : List Frame) → HeadFits frames first → AllByRecursion (λ f. Permits f (GroupHead first members key)) frames
head_fitting first members key frames h =
    all_map (LeavesHead first) (λ f. Permits f (GroupHead first members key)) (left_head first members key) frames
    (all_both (λ f. (is_finish f ≡ false) × (group_mark_of f ≤ first.time)) (IsAfterHead first) frames
    (all_both (λ f. is_finish f ≡ false) (λ f. group_mark_of f ≤ first.time) frames (none_all is_finish frames h.going) (greatest_all group_mark_of first.time frames h.marked))
    h.rising)

pub group_mark_permitted : (mark : ℕ) (frames : List Frame) → AllByRecursion (λ f. Permits f (GroupMark mark)) frames → GroupMarkFits frames mark
group_mark_permitted mark frames h =
    let all = all_map (λ f. Permits f (GroupMark mark)) (LeavesMark mark) (mark_left mark) frames h in
    record {
      going = all_none is_finish frames (all_map (LeavesMark mark) (λ f. is_finish f ≡ false) (λ f l. l.0.0) frames all);
      plain = all_none is_profile frames (all_map (LeavesMark mark) (λ f. is_profile f ≡ false) (λ f l. l.0.1) frames all);
      rising = all_greatest group_mark_of mark frames (all_map (LeavesMark mark) (λ f. group_mark_of f ≤ mark) (λ f l. l.1) frames all);
    }

pub group_mark_fitting : (mark : ℕ) (frames : List Frame) → GroupMarkFits frames mark → AllByRecursion (λ f. Permits f (GroupMark mark)) frames
group_mark_fitting mark frames h =
    all_map (LeavesMark mark) (λ f. Permits f (GroupMark mark)) (left_mark mark) frames
    (all_both (λ f. (is_finish f ≡ false) × (is_profile f ≡ false)) (λ f. group_mark_of f ≤ mark) frames
    (all_both (λ f. is_finish f ≡ false) (λ f. is_profile f ≡ false) frames (none_all is_finish frames h.going) (none_all is_profile frames h.plain))
    (greatest_all group_mark_of mark frames h.rising))

pub member_permitted : (at : Stamp) (vals : List ℕ) (frames : List Frame) → AllByRecursion (λ f. Permits f (Member at vals)) frames → list_any is_finish frames ≡ false
member_permitted at vals frames h = all_none is_finish frames (all_map (λ f. Permits f (Member at vals)) (λ f. is_finish f ≡ false) (member_left at vals) frames h)

pub member_fitting : (at : Stamp) (vals : List ℕ) (frames : List Frame) → list_any is_finish frames ≡ false → AllByRecursion (λ f. Permits f (Member at vals)) frames
member_fitting at vals frames h = all_map (λ f. is_finish f ≡ false) (λ f. Permits f (Member at vals)) (left_member at vals) frames (none_all is_finish frames h)

-- ---- the group that is begun

begun_more : (begun : Option Begun) (xs : List Frame) (f : Frame) → begun_behind begun (xs ++ f ∷ []) ≡ begun_after (begun_behind begun xs) f
begun_more begun [] f = refl
begun_more begun (x ∷ xs) f = begun_more (begun_after begun x) xs f

head_opens : (first last : Stamp) (members : ℕ) (key : List ℕ) (begun : Option Begun) → 1 ≤ members
    → IsGroup (record { first = first; key = key; last = last; fresh = true; left = members }) (begun_after begun (GroupHead first members key))
head_opens first last members key None some = record { some = some; left = refl; first = refl; key = refl; next = λ at. (λ e. e, λ e. e) }
head_opens first last members key (Some b) some = record { some = some; left = refl; first = refl; key = refl; next = λ at. (λ e. e, λ e. e) }

grown : (first : Stamp) (ms : List Summary) (at : Stamp) (key vals : List ℕ) (x : Stamp) → IsNextStamp first ms at
    → Precedes at x ↔ IsNextStamp first (ms ++ record { at = at; key = key; vals = vals } ∷ []) x
grown first [] at key vals x h = (λ p. (p, tt), λ a. a.0)
grown first (y ∷ ys) at key vals x h =
    let m : Summary = record { at = at; key = key; vals = vals } in (
      λ p. all_more (λ (e : Summary). Precedes e.at x) (y ∷ ys) m
          (all_map (λ (e : Summary). Precedes e.at at) (λ (e : Summary). Precedes e.at x) (λ e q. precedes_on e.at at x q p) (y ∷ ys) h) p,
      λ a. (all_fewer (λ (e : Summary). Precedes e.at x) (y ∷ ys) m a).1,
    )

positive : (n : ℕ) → n ≢ 0 → 1 ≤ n
positive zero ne = absurd (ne refl)
positive (suc n) ne = omega arith

member_joins : (g : OpenGroup) (left : ℕ) (begun : Option Begun) (at : Stamp) (vals : List ℕ) → left ≡ g.left - 1 → IsGroup g begun → IsNextIn begun at
    → IsGroup (record { first = g.first; key = g.key; last = at; fresh = false; left = left }) (begun_after begun (Member at vals))
member_joins g left None at vals e h next = absurd next
member_joins g left (Some b) at vals e h next =
    ⊎_elim
    (λ (t : (b.left - 1 == 0) ≡ true). let none : b.left - 1 ≡ 0 = eqb-true (b.left - 1) 0 t in rw t (omega (arith, none, e, h.left)))
    (λ (u : (b.left - 1 == 0) ≡ false).
    rw u
    (record {
      some = let some = positive (b.left - 1) (like_not (b.left - 1) 0 u) in omega (arith, some, e, h.left);
      left = omega (arith, e, h.left);
      first = h.first;
      key = h.key;
      next = λ x. grown b.first b.members at b.key vals x next;
    }))
    (cases_Bool (b.left - 1 == 0))

same_begun : (begun : Option Begun) (mark : ℕ) → begun_after begun (GroupMark mark) ≡ begun
same_begun None mark = refl
same_begun (Some b) mark = refl

end_begun : (begun : Option Begun) → begun_after begun Finish ≡ begun
end_begun None = refl
end_begun (Some b) = refl

-- ---- what is kept

announced_one : (f : Frame) → members_announced (f ∷ []) ≡ members_of f
announced_one f = omega arith

announced_more : (xs : List Frame) (f : Frame) → members_announced (xs ++ f ∷ []) ≡ members_announced xs + members_of f
announced_more xs f = sum_by-append members_of xs (f ∷ []) ∙ ap (λ n. members_announced xs + n) (announced_one f)

still_after : (first at : Stamp) → Precedes first at → (f : Frame) → IsAfterHead first f → IsAfterHead at f
still_after first at p (Item t) h = tt
still_after first at p (Mark c mark) h = tt
still_after first at p (CaptureEnd c) h = tt
still_after first at p (GroupHead other n k) h = precedes_on other first at h p
still_after first at p (Member z vals) h = tt
still_after first at p (GroupMark m) h = tt
still_after first at p (AnswerRow a) h = tt
still_after first at p (Profile row) h = tt
still_after first at p (CountsRow c counts) h = tt
still_after first at p Finish h = tt

-- a frame that is no head
other_frame : (head : Option Stamp) (frames : List Frame) (f : Frame) → ((at : Stamp) → IsAfterHead at f)
    → ((at : Stamp) → IsAfter head at ↔ AllByRecursion (IsAfterHead at) frames) → (at : Stamp) → IsAfter head at ↔ AllByRecursion (IsAfterHead at) (frames ++ f ∷ [])
other_frame head frames f free h at = (λ p. all_more (IsAfterHead at) frames f ((h at).0 p) (free at), λ a. (h at).1 (all_fewer (IsAfterHead at) frames f a).0)

pub keeps_head : (g : OpenGroup) (head : Option Stamp) (announced mark : ℕ) (finished : Bool) (frames after : List Frame) (first : Stamp) (members : ℕ) (key : List ℕ) (f : Frame)
    → KeepsGroups g head announced mark finished frames → after ≡ frames ++ f ∷ [] → f ≡ GroupHead first members key → 1 ≤ members → AllByRecursion (IsAfterHead first) frames
    → KeepsGroups (record { first = first; key = key; last = g.last; fresh = true; left = members }) (Some first) (announced + members) mark finished after
keeps_head g head announced mark finished frames after first members key f h e is some rising =
    let new : OpenGroup = record { first = first; key = key; last = g.last; fresh = true; left = members } in
    let there : Frame = GroupHead first members key in
    subst (KeepsGroups new (Some first) (announced + members) mark finished) (sym (e ∙ ap (λ (z : Frame). frames ++ z ∷ []) is))
    (record {
      group = subst (IsGroup new) (sym (begun_more None frames there)) (head_opens first g.last members key (begun_in frames) some);
      heads = λ at. (
        λ p. all_more (IsAfterHead at) frames there (all_map (IsAfterHead first) (IsAfterHead at) (still_after first at p) frames rising) p,
        λ a. (all_fewer (IsAfterHead at) frames there a).1,
      );
      count = omega (arith, h.count, announced_more frames there);
      last_mark = h.last_mark ∙ greatest_same group_mark_of frames there refl;
      plain = sym (any_same is_profile frames there refl) ∙ h.plain;
      finish = h.finish ∙ any_same is_finish frames there refl;
    })

pub keeps_member : (g : OpenGroup) (left : ℕ) (head : Option Stamp) (announced mark : ℕ) (finished : Bool) (frames after : List Frame) (at : Stamp) (vals : List ℕ) (f : Frame)
    → KeepsGroups g head announced mark finished frames → after ≡ frames ++ f ∷ [] → f ≡ Member at vals → left ≡ g.left - 1 → IsNextIn (begun_in frames) at
    → KeepsGroups (record { first = g.first; key = g.key; last = at; fresh = false; left = left }) head announced mark finished after
keeps_member g left head announced mark finished frames after at vals f h e is less next =
    let new : OpenGroup = record { first = g.first; key = g.key; last = at; fresh = false; left = left } in
    let there : Frame = Member at vals in
    subst (KeepsGroups new head announced mark finished) (sym (e ∙ ap (λ (z : Frame). frames ++ z ∷ []) is))
    (record {
      group = subst (IsGroup new) (sym (begun_more None frames there)) (member_joins g left (begun_in frames) at vals less h.group next);
      heads = other_frame head frames there (λ x. tt) h.heads;
      count = omega (arith, h.count, announced_more frames there);
      last_mark = h.last_mark ∙ greatest_same group_mark_of frames there refl;
      plain = sym (any_same is_profile frames there refl) ∙ h.plain;
      finish = h.finish ∙ any_same is_finish frames there refl;
    })

pub keeps_group_mark : (g : OpenGroup) (head : Option Stamp) (announced mark next : ℕ) (finished : Bool) (frames after : List Frame) (f : Frame)
    → KeepsGroups g head announced mark finished frames → after ≡ frames ++ f ∷ [] → f ≡ GroupMark next → greatest group_mark_of frames ≤ next
    → KeepsGroups g head announced next finished after
keeps_group_mark g head announced mark next finished frames after f h e is rising =
    let there : Frame = GroupMark next in
    subst (KeepsGroups g head announced next finished) (sym (e ∙ ap (λ (z : Frame). frames ++ z ∷ []) is))
    (record {
      group = subst (IsGroup g) (sym (begun_more None frames there ∙ same_begun (begun_in frames) next)) h.group;
      heads = other_frame head frames there (λ x. tt) h.heads;
      count = omega (arith, h.count, announced_more frames there);
      last_mark = greatest_last group_mark_of frames there next refl rising;
      plain = sym (any_same is_profile frames there refl) ∙ h.plain;
      finish = h.finish ∙ any_same is_finish frames there refl;
    })

pub keeps_groups_end : (g : OpenGroup) (head : Option Stamp) (announced mark : ℕ) (finished : Bool) (frames after : List Frame) (f : Frame)
    → KeepsGroups g head announced mark finished frames → after ≡ frames ++ f ∷ [] → f ≡ Finish → KeepsGroups g head announced mark true after
keeps_groups_end g head announced mark finished frames after f h e is =
    subst (KeepsGroups g head announced mark true) (sym (e ∙ ap (λ (z : Frame). frames ++ z ∷ []) is))
    (record {
      group = subst (IsGroup g) (sym (begun_more None frames Finish ∙ end_begun (begun_in frames))) h.group;
      heads = other_frame head frames Finish (λ x. tt) h.heads;
      count = omega (arith, h.count, announced_more frames Finish);
      last_mark = h.last_mark ∙ greatest_same group_mark_of frames Finish refl;
      plain = sym (any_same is_profile frames Finish refl) ∙ h.plain;
      finish = any_last is_finish frames Finish refl;
    })
