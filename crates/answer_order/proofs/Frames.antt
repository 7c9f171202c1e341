-- What the frames from a processor permit, and what is kept of them.
use Rattle.std.proofs.Common.{ℕ, Bool, true, false, List, [], ◌∷◌, ◌++◌, ◌≡◌, ◌≤◌, ◌+◌, ◌↔◌, Option, Some, inl, inr, refl, sym, ap, subst, ◌∙◌, arith}
use Rattle.std.specs.List.{AllByRecursion, list_any}
use Rattle.std.proofs.lemmas.List.Sums.{sum_by-append}
use Rattle.ds_base.specs.declared.profile_row.ProfileRow.{ProfileRow}
use Rattle.ds_base.specs.declared.verdict.Answer.{Answer}
use Rattle.node_frames.specs.declared.frame.Frame.{Frame}
use Rattle.node_frames.specs.declared.frame.Frame.TheVariants.{Item, Mark, CaptureEnd, GroupHead, Member, GroupMark, AnswerRow, Profile, CountsRow, Finish}
use Rattle.profiles.specs.Rows.{PairPrecedes}
use Rattle.run_law.specs.Links.{Permits, members_told, members_answered}
use Rattle.frame_order.specs.Groups.{GroupMarkFits}
use Rattle.frame_order.specs.Said.{greatest, group_mark_of, is_profile, is_finish}
use Rattle.answer_order.specs.Answers.{KeepsAnswers, RowFits, IsAfter, IsAfterRow}
use Rattle.answer_order.specs.declared.row_pair.RowPair.{RowPair}
use Rattle.answer_order.proofs.Lists.{all_map, all_both, all_more, all_fewer, greatest_same, greatest_last, all_greatest, greatest_all, any_same, any_last, all_none, none_all}

-- ---- the order of rows

pairs_rise : (a b c : ProfileRow) → PairPrecedes a b → PairPrecedes b c → PairPrecedes a c
pairs_rise a b c (inl p) (inl q) = inl (omega (arith, p, q))
pairs_rise a b c (inl p) (inr q) = inl (omega (arith, p, q.0))
pairs_rise a b c (inr p) (inl q) = inl (omega (arith, p.0, q))
pairs_rise a b c (inr p) (inr q) = inr (p.0 ∙ q.0, omega (arith, p.1, q.1))

-- ---- what one frame permits

-- a GroupMark, or an answer for a group that begins then
abbrev LeavesMark : ℕ → Frame → Type 0
LeavesMark mark f = ((is_finish f ≡ false) × (is_profile f ≡ false)) × (group_mark_of f ≤ mark)

mark_left : (mark : ℕ) (f : Frame) → Permits f (GroupMark mark) → LeavesMark mark f
mark_left mark (Item t) h = ((refl, refl), omega arith)
mark_left mark (Mark c other) h = ((refl, refl), omega arith)
mark_left mark (CaptureEnd c) h = ((refl, refl), omega arith)
mark_left mark (GroupHead other n k) h = ((refl, refl), omega arith)
mark_left mark (Member at vals) h = ((refl, refl), omega arith)
mark_left mark (GroupMark m) h = ((refl, refl), h)
mark_left mark (AnswerRow a) h = ((refl, refl), omega arith)
mark_left mark (Profile row) h = absurd h
mark_left mark (CountsRow c counts) h = ((refl, refl), omega arith)
mark_left mark Finish h = absurd h

left_mark : (mark : ℕ) (f : Frame) → LeavesMark mark f → Permits f (GroupMark mark)
left_mark mark (Item t) h = tt
left_mark mark (Mark c other) h = tt
left_mark mark (CaptureEnd c) h = tt
left_mark mark (GroupHead other n k) h = tt
left_mark mark (Member at vals) h = tt
left_mark mark (GroupMark m) h = h.1
left_mark mark (AnswerRow a) h = tt
left_mark mark (Profile row) h = absurd (let never : true ≡ false = h.0.1 in cc)
left_mark mark (CountsRow c counts) h = tt
left_mark mark Finish h = absurd (let never : true ≡ false = h.0.0 in cc)

answer_left : (a : Answer) (f : Frame) → Permits f (AnswerRow a) → Permits f (GroupMark a.first.time)
answer_left a (Item t) h = tt
answer_left a (Mark c other) h = tt
answer_left a (CaptureEnd c) h = tt
answer_left a (GroupHead other n k) h = tt
answer_left a (Member at vals) h = tt
answer_left a (GroupMark m) h = h
answer_left a (AnswerRow b) h = tt
answer_left a (Profile row) h = h
answer_left a (CountsRow c counts) h = tt
answer_left a Finish h = h

left_answer : (a : Answer) (f : Frame) → Permits f (GroupMark a.first.time) → Permits f (AnswerRow a)
left_answer a (Item t) h = tt
left_answer a (Mark c other) h = tt
left_answer a (CaptureEnd c) h = tt
left_answer a (GroupHead other n k) h = tt
left_answer a (Member at vals) h = tt
left_answer a (GroupMark m) h = h
left_answer a (AnswerRow b) h = tt
left_answer a (Profile row) h = h
left_answer a (CountsRow c counts) h = tt
left_answer a Finish h = h

abbrev LeavesRow : ProfileRow → Frame → Type 0
LeavesRow row f = (is_finish f ≡ false) × IsAfterRow row f

row_left : (row : ProfileRow) (f : Frame) → Permits f (Profile row) → LeavesRow row f
row_left row (Item t) h = (refl, tt)
row_left row (Mark c other) h = (refl, tt)
row_left row (CaptureEnd c) h = (refl, tt)
row_left row (GroupHead other n k) h = (refl, tt)
row_left row (Member at vals) h = (refl, tt)
row_left row (GroupMark m) h = (refl, tt)
row_left row (AnswerRow a) h = (refl, tt)
row_left row (Profile earlier) h = (refl, h)
row_left row (CountsRow c counts) h = (refl, tt)
row_left row Finish h = absurd h

left_row : (row : ProfileRow) (f : Frame) → LeavesRow row f → Permits f (Profile row)
left_row row (Item t) h = tt
left_row row (Mark c other) h = tt
left_row row (CaptureEnd c) h = tt
left_row row (GroupHead other n k) h = tt
left_row row (Member at vals) h = tt
left_row row (GroupMark m) h = tt
left_row row (AnswerRow a) h = tt
left_row row (Profile earlier) h = h.1
left_row row (CountsRow c counts) h = tt
left_row row Finish h = absurd (let never : true ≡ false = h.0 in cc)

end_left : (f : Frame) → Permits f Finish → is_finish f ≡ false
end_left (Item t) h = refl
end_left (Mark c other) h = refl
end_left (CaptureEnd c) h = refl
end_left (GroupHead other n k) h = refl
end_left (Member at vals) h = refl
end_left (GroupMark m) h = refl
end_left (AnswerRow a) h = refl
end_left (Profile row) h = refl
end_left (CountsRow c counts) h = refl
end_left Finish h = absurd h

left_end : (f : Frame) → is_finish f ≡ false → Permits f Finish
left_end (Item t) h = tt
left_end (Mark c other) h = tt
left_end (CaptureEnd c) h = tt
left_end (GroupHead other n k) h = tt
left_end (Member at vals) h = tt
left_end (GroupMark m) h = tt
left_end (AnswerRow a) h = tt
left_end (Profile row) h = tt
left_end (CountsRow c counts) h = tt
left_end Finish h = absurd (let never : true ≡ false = h in cc)

-- ---- what all frames permit

pub mark_permitted : (mark : ℕ) (frames : List Frame) → AllByRecursion (λ f. Permits f (GroupMark mark)) frames → GroupMarkFits frames mark
mark_permitted mark frames h =
    let all = all_map (λ f. Permits f (GroupMark mark)) (LeavesMark mark) (mark_left mark) frames h in
    record {
      going = all_none is_finish frames (all_map (LeavesMark mark) (λ f. is_finish f ≡ false) (λ f l. l.0.0) frames all);
      plain = all_none is_profile frames (all_map (LeavesMark mark) (λ f. is_profile f ≡ false) (λ f l. l.0.1) frames all);
      rising = all_greatest group_mark_of mark frames (all_map (LeavesMark mark) (λ f. group_mark_of f ≤ mark) (λ f l. l.1) frames all);
    }

pub mark_fitting : (mark : ℕ) (frames : List Frame) → GroupMarkFits frames mark → AllByRecursion (λ f. Permits f (GroupMark mark)) frames
mark_fitting mark frames h =
    all_map (LeavesMark mark) (λ f. Permits f (GroupMark mark)) (left_mark mark) frames
    (all_both (λ f. (is_finish f ≡ false) × (is_profile f ≡ false)) (λ f. group_mark_of f ≤ mark) frames
    (all_both (λ f. is_finish f ≡ false) (λ f. is_profile f ≡ false) frames (none_all is_finish frames h.going) (none_all is_profile frames h.plain))
    (greatest_all group_mark_of mark frames h.rising))

pub answer_permitted : (a : Answer) (frames : List Frame) → AllByRecursion (λ f. Permits f (AnswerRow a)) frames → GroupMarkFits frames a.first.time
answer_permitted a frames h =
    mark_permitted a.first.time frames (all_map (λ f. Permits f (AnswerRow a)) (λ f. Permits f (GroupMark a.first.time)) (answer_left a) frames h)

pub answer_fitting : (a : Answer) (frames : List Frame) → GroupMarkFits frames a.first.time → AllByRecursion (λ f. Permits f (AnswerRow a)) frames
answer_fitting a frames h =
    all_map (λ f. Permits f (GroupMark a.first.time)) (λ f. Permits f (AnswerRow a)) (left_answer a) frames (mark_fitting a.first.time frames h)

pub row_permitted : (row : ProfileRow) (frames : List Frame) → AllByRecursion (λ f. Permits f (Profile row)) frames → RowFits frames row
row_permitted row frames h =
    let all = all_map (λ f. Permits f (Profile row)) (LeavesRow row) (row_left row) frames h in
    record {
      going = all_none is_finish frames (all_map (LeavesRow row) (λ f. is_finish f ≡ false) (λ f l. l.0) frames all);
      rising = all_map (LeavesRow row) (IsAfterRow row) (λ f l. l.1) frames all;
    }

pub row_fitting : (row : ProfileRow) (frames : List Frame) → RowFits frames row → AllByRecursion (λ f. Permits f (Profile row)) frames
row_fitting row frames h =
    all_map (LeavesRow row) (λ f. Permits f (Profile row)) (left_row row) frames
    (all_both (λ f. is_finish f ≡ false) (IsAfterRow row) frames (none_all is_finish frames h.going) h.rising)

pub end_permitted : (frames : List Frame) → AllByRecursion (λ f. Permits f Finish) frames → list_any is_finish frames ≡ false
end_permitted frames h = all_none is_finish frames (all_map (λ f. Permits f Finish) (λ f. is_finish f ≡ false) end_left frames h)

pub end_fitting : (frames : List Frame) → list_any is_finish frames ≡ false → AllByRecursion (λ f. Permits f Finish) frames
end_fitting frames h = all_map (λ f. is_finish f ≡ false) (λ f. Permits f Finish) left_end frames (none_all is_finish frames h)

-- ---- what is kept

told_one : (f : Frame) → members_answered (f ∷ []) ≡ members_told f
told_one f = omega arith

told_more : (xs : List Frame) (f : Frame) → members_answered (xs ++ f ∷ []) ≡ members_answered xs + members_told f
told_more xs f = sum_by-append members_told xs (f ∷ []) ∙ ap (λ n. members_answered xs + n) (told_one f)

still_after : (row next : ProfileRow) → PairPrecedes row next → (f : Frame) → IsAfterRow row f → IsAfterRow next f
still_after row next p (Item t) h = tt
still_after row next p (Mark c other) h = tt
still_after row next p (CaptureEnd c) h = tt
still_after row next p (GroupHead other n k) h = tt
still_after row next p (Member at vals) h = tt
still_after row next p (GroupMark m) h = tt
still_after row next p (AnswerRow a) h = tt
still_after row next p (Profile earlier) h = pairs_rise earlier row next h p
still_after row next p (CountsRow c counts) h = tt
still_after row next p Finish h = tt

-- a frame that is no row
other_frame : (last : Option RowPair) (frames : List Frame) (f : Frame) → ((row : ProfileRow) → IsAfterRow row f)
    → ((row : ProfileRow) → IsAfter last row ↔ AllByRecursion (IsAfterRow row) frames) → (row : ProfileRow) → IsAfter last row ↔ AllByRecursion (IsAfterRow row) (frames ++ f ∷ [])
other_frame last frames f free h row = (λ p. all_more (IsAfterRow row) frames f ((h row).0 p) (free row), λ a. (h row).1 (all_fewer (IsAfterRow row) frames f a).0)

pub keeps_answer : (told mark : ℕ) (last : Option RowPair) (finished : Bool) (frames after : List Frame) (a : Answer) (f : Frame)
    → KeepsAnswers told mark last finished frames → after ≡ frames ++ f ∷ [] → f ≡ AnswerRow a → KeepsAnswers (told + a.members) mark last finished after
keeps_answer told mark last finished frames after a f h e is =
    let there : Frame = AnswerRow a in
    subst (KeepsAnswers (told + a.members) mark last finished) (sym (e ∙ ap (λ (z : Frame). frames ++ z ∷ []) is))
    (record {
      count = omega (arith, h.count, told_more frames there);
      last_mark = h.last_mark ∙ greatest_same group_mark_of frames there refl;
      rows = other_frame last frames there (λ row. tt) h.rows;
      came = h.came ∙ any_same is_profile frames there refl;
      finish = h.finish ∙ any_same is_finish frames there refl;
    })

pub keeps_mark : (told mark next : ℕ) (last : Option RowPair) (finished : Bool) (frames after : List Frame) (f : Frame)
    → KeepsAnswers told mark last finished frames → after ≡ frames ++ f ∷ [] → f ≡ GroupMark next → greatest group_mark_of frames ≤ next
    → KeepsAnswers told next last finished after
keeps_mark told mark next last finished frames after f h e is rising =
    let there : Frame = GroupMark next in
    subst (KeepsAnswers told next last finished) (sym (e ∙ ap (λ (z : Frame). frames ++ z ∷ []) is))
    (record {
      count = omega (arith, h.count, told_more frames there);
      last_mark = greatest_last group_mark_of frames there next refl rising;
      rows = other_frame last frames there (λ row. tt) h.rows;
      came = h.came ∙ any_same is_profile frames there refl;
      finish = h.finish ∙ any_same is_finish frames there refl;
    })

pub keeps_row : (told mark : ℕ) (last : Option RowPair) (finished : Bool) (frames after : List Frame) (row : ProfileRow) (f : Frame)
    → KeepsAnswers told mark last finished frames → after ≡ frames ++ f ∷ [] → f ≡ Profile row → AllByRecursion (IsAfterRow row) frames
    → KeepsAnswers told mark (Some (record { from = row.from; to = row.to })) finished after
keeps_row told mark last finished frames after row f h e is rising =
    let there : Frame = Profile row in
    let pair : RowPair = record { from = row.from; to = row.to } in
    subst (KeepsAnswers told mark (Some pair) finished) (sym (e ∙ ap (λ (z : Frame). frames ++ z ∷ []) is))
    (record {
      count = omega (arith, h.count, told_more frames there);
      last_mark = h.last_mark ∙ greatest_same group_mark_of frames there refl;
      rows = λ next. (
        λ p. all_more (IsAfterRow next) frames there (all_map (IsAfterRow row) (IsAfterRow next) (still_after row next p) frames rising) p,
        λ a. (all_fewer (IsAfterRow next) frames there a).1,
      );
      came = any_last is_profile frames there refl;
      finish = h.finish ∙ any_same is_finish frames there refl;
    })

pub keeps_end : (told mark : ℕ) (last : Option RowPair) (finished : Bool) (frames after : List Frame) (f : Frame)
    → KeepsAnswers told mark last finished frames → after ≡ frames ++ f ∷ [] → f ≡ Finish → KeepsAnswers told mark last true after
keeps_end told mark last finished frames after f h e is =
    subst (KeepsAnswers told mark last true) (sym (e ∙ ap (λ (z : Frame). frames ++ z ∷ []) is))
    (record {
      count = omega (arith, h.count, told_more frames Finish);
      last_mark = h.last_mark ∙ greatest_same group_mark_of frames Finish refl;
      rows = other_frame last frames Finish (λ row. tt) h.rows;
      came = h.came ∙ any_same is_profile frames Finish refl;
      finish = any_last is_finish frames Finish refl;
    })
