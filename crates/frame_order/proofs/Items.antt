-- What the frames from a parser permit.
use Rattle.std.proofs.Common.{ℕ, Bool, true, false, List, [], ◌∷◌, ◌++◌, ◌≡◌, ◌≢◌, ◌≤◌, ◌+◌, ◌%◌, inl, inr, refl, sym, ap, subst, ◌∙◌, ⊎_elim, arith, get_or, replicate}
use Rattle.std.specs.Prelude.{◌==◌, ◌||◌}
use Rattle.std.proofs.lemmas.List.{get_or-replicate}
use Rattle.ds_base.specs.Keys.{shard_of}
use Rattle.std.specs.List.{AllByRecursion, list_any}
use Rattle.std.proofs.lemmas.Bool.{cases_Bool, eq-eqb, eqb-true}
use Rattle.ds_base.specs.declared.summary.Summary.{Summary}
use Rattle.node_frames.specs.declared.frame.Frame.{Frame}
use Rattle.node_frames.specs.declared.frame.Frame.TheVariants.{Item, Mark, CaptureEnd, GroupHead, Member, GroupMark, AnswerRow, Profile, CountsRow, Finish}
use Rattle.summary_spec.specs.Declaration.{Declared}
use Rattle.run_law.specs.Links.{Permits, HasEnded, IsItemOf, ItemRule, MayFollow}
use Rattle.run_law.specs.Shapes.{Shape}
use Rattle.frame_order.specs.Items.{KeepsItems, ItemFits, MarkFits, EndFits}
use Rattle.frame_order.specs.Said.{greatest, next_of, mark_of, is_end_of, is_finish}
use Rattle.frame_order.proofs.Lists.{all_map, all_both, greatest_same, all_greatest, greatest_all, any_same, any_last, all_none, none_all, under_if, if_under, unlike, like_not, number_placed, flag_placed}

-- ---- what one frame permits

abbrev LeavesEnd : ℕ → Frame → Type 0
LeavesEnd c f = (is_finish f ≡ false) × (is_end_of c f ≡ false)

abbrev LeavesMark : ℕ → ℕ → Frame → Type 0
LeavesMark c mark f = LeavesEnd c f × (mark_of c f ≤ mark)

abbrev LeavesItem : Summary → Frame → Type 0
LeavesItem s f = LeavesMark s.at.capture s.at.time f × (next_of s.at.capture f ≤ s.at.number)

item_left : (s : Summary) (f : Frame) → Permits f (Item s) → LeavesItem s f
item_left s (Item t) h = (((refl, refl), omega arith), under_if (t.at.capture == s.at.capture) t.at.capture s.at.capture (t.at.number + 1) s.at.number refl (λ e. omega (arith, h e)))
item_left s (Mark c mark) h = (((refl, refl), under_if (c == s.at.capture) c s.at.capture mark s.at.time refl h), omega arith)
item_left s (CaptureEnd c) h = (((refl, unlike (c == s.at.capture) c s.at.capture refl h), omega arith), omega arith)
item_left s (GroupHead first members key) h = (((refl, refl), omega arith), omega arith)
item_left s (Member at vals) h = (((refl, refl), omega arith), omega arith)
item_left s (GroupMark mark) h = (((refl, refl), omega arith), omega arith)
item_left s (AnswerRow a) h = (((refl, refl), omega arith), omega arith)
item_left s (Profile row) h = (((refl, refl), omega arith), omega arith)
item_left s (CountsRow c counts) h = (((refl, refl), omega arith), omega arith)
item_left s Finish h = absurd h

left_item : (s : Summary) (f : Frame) → LeavesItem s f → Permits f (Item s)
left_item s (Item t) h = λ e. omega (arith, if_under t.at.capture s.at.capture (t.at.number + 1) s.at.number h.1 e)
left_item s (Mark c mark) h = λ e. if_under c s.at.capture mark s.at.time h.0.1 e
left_item s (CaptureEnd c) h = like_not c s.at.capture h.0.0.1
left_item s (GroupHead first members key) h = tt
left_item s (Member at vals) h = tt
left_item s (GroupMark mark) h = tt
left_item s (AnswerRow a) h = tt
left_item s (Profile row) h = tt
left_item s (CountsRow c counts) h = tt
left_item s Finish h = absurd (let never : true ≡ false = h.0.0.0 in cc)

mark_left : (c mark : ℕ) (f : Frame) → Permits f (Mark c mark) → LeavesMark c mark f
mark_left c mark (Item t) h = ((refl, refl), omega arith)
mark_left c mark (Mark d m) h = ((refl, refl), under_if (d == c) d c m mark refl h)
mark_left c mark (CaptureEnd d) h = ((refl, unlike (d == c) d c refl h), omega arith)
mark_left c mark (GroupHead first members key) h = ((refl, refl), omega arith)
mark_left c mark (Member at vals) h = ((refl, refl), omega arith)
mark_left c mark (GroupMark m) h = ((refl, refl), omega arith)
mark_left c mark (AnswerRow a) h = ((refl, refl), omega arith)
mark_left c mark (Profile row) h = ((refl, refl), omega arith)
mark_left c mark (CountsRow d counts) h = ((refl, refl), omega arith)
mark_left c mark Finish h = absurd h

left_mark : (c mark : ℕ) (f : Frame) → LeavesMark c mark f → Permits f (Mark c mark)
left_mark c mark (Item t) h = tt
left_mark c mark (Mark d m) h = λ e. if_under d c m mark h.1 e
left_mark c mark (CaptureEnd d) h = like_not d c h.0.1
left_mark c mark (GroupHead first members key) h = tt
left_mark c mark (Member at vals) h = tt
left_mark c mark (GroupMark m) h = tt
left_mark c mark (AnswerRow a) h = tt
left_mark c mark (Profile row) h = tt
left_mark c mark (CountsRow d counts) h = tt
left_mark c mark Finish h = absurd (let never : true ≡ false = h.0.0 in cc)

end_left : (c : ℕ) (f : Frame) → Permits f (CaptureEnd c) → LeavesEnd c f
end_left c (Item t) h = (refl, refl)
end_left c (Mark d m) h = (refl, refl)
end_left c (CaptureEnd d) h = (refl, unlike (d == c) d c refl h)
end_left c (GroupHead first members key) h = (refl, refl)
end_left c (Member at vals) h = (refl, refl)
end_left c (GroupMark m) h = (refl, refl)
end_left c (AnswerRow a) h = (refl, refl)
end_left c (Profile row) h = (refl, refl)
end_left c (CountsRow d counts) h = (refl, refl)
end_left c Finish h = absurd h

left_end : (c : ℕ) (f : Frame) → LeavesEnd c f → Permits f (CaptureEnd c)
left_end c (Item t) h = tt
left_end c (Mark d m) h = tt
left_end c (CaptureEnd d) h = like_not d c h.1
left_end c (GroupHead first members key) h = tt
left_end c (Member at vals) h = tt
left_end c (GroupMark m) h = tt
left_end c (AnswerRow a) h = tt
left_end c (Profile row) h = tt
left_end c (CountsRow d counts) h = tt
left_end c Finish h = absurd (let never : true ≡ false = h.0 in cc)

-- ---- what all frames permit

pub item_permitted : (s : Summary) (frames : List Frame) → AllByRecursion (λ f. Permits f (Item s)) frames → ItemFits frames s
item_permitted s frames h =
    let all = all_map (λ f. Permits f (Item s)) (LeavesItem s) (item_left s) frames h in
    record {
      going = all_none is_finish frames (all_map (LeavesItem s) (λ f. is_finish f ≡ false) (λ f l. l.0.0.0) frames all);
      unended = all_none (is_end_of s.at.capture) frames (all_map (LeavesItem s) (λ f. is_end_of s.at.capture f ≡ false) (λ f l. l.0.0.1) frames all);
      later = all_greatest (next_of s.at.capture) s.at.number frames (all_map (LeavesItem s) (λ f. next_of s.at.capture f ≤ s.at.number) (λ f l. l.1) frames all);
      marked = all_greatest (mark_of s.at.capture) s.at.time frames (all_map (LeavesItem s) (λ f. mark_of s.at.capture f ≤ s.at.time) (λ f l. l.0.1) frames all);
    }

fits_end : (c : ℕ) (frames : List Frame) → list_any is_finish frames ≡ false → list_any (is_end_of c) frames ≡ false → AllByRecursion (LeavesEnd c) frames
fits_end c frames going unended =
    all_both (λ f. is_finish f ≡ false) (λ f. is_end_of c f ≡ false) frames (none_all is_finish frames going) (none_all (is_end_of c) frames unended)

fits_mark : (c mark : ℕ) (frames : List Frame) → MarkFits frames c mark → AllByRecursion (LeavesMark c mark) frames
fits_mark c mark frames h =
    all_both (LeavesEnd c) (λ f. mark_of c f ≤ mark) frames (fits_end c frames h.going h.unended) (greatest_all (mark_of c) mark frames h.rising)

pub item_fitting : (s : Summary) (frames : List Frame) → ItemFits frames s → AllByRecursion (λ f. Permits f (Item s)) frames
item_fitting s frames h =
    all_map (LeavesItem s) (λ f. Permits f (Item s)) (left_item s) frames
    (all_both (LeavesMark s.at.capture s.at.time) (λ f. next_of s.at.capture f ≤ s.at.number) frames
    (fits_mark s.at.capture s.at.time frames (record { going = h.going; unended = h.unended; rising = h.marked }))
    (greatest_all (next_of s.at.capture) s.at.number frames h.later))

pub mark_permitted : (c mark : ℕ) (frames : List Frame) → AllByRecursion (λ f. Permits f (Mark c mark)) frames → MarkFits frames c mark
mark_permitted c mark frames h =
    let all = all_map (λ f. Permits f (Mark c mark)) (LeavesMark c mark) (mark_left c mark) frames h in
    record {
      going = all_none is_finish frames (all_map (LeavesMark c mark) (λ f. is_finish f ≡ false) (λ f l. l.0.0) frames all);
      unended = all_none (is_end_of c) frames (all_map (LeavesMark c mark) (λ f. is_end_of c f ≡ false) (λ f l. l.0.1) frames all);
      rising = all_greatest (mark_of c) mark frames (all_map (LeavesMark c mark) (λ f. mark_of c f ≤ mark) (λ f l. l.1) frames all);
    }

pub mark_fitting : (c mark : ℕ) (frames : List Frame) → MarkFits frames c mark → AllByRecursion (λ f. Permits f (Mark c mark)) frames
mark_fitting c mark frames h = all_map (LeavesMark c mark) (λ f. Permits f (Mark c mark)) (left_mark c mark) frames (fits_mark c mark frames h)

pub end_permitted : (c : ℕ) (frames : List Frame) → AllByRecursion (λ f. Permits f (CaptureEnd c)) frames → EndFits frames c
end_permitted c frames h =
    let all = all_map (λ f. Permits f (CaptureEnd c)) (LeavesEnd c) (end_left c) frames h in
    record {
      going = all_none is_finish frames (all_map (LeavesEnd c) (λ f. is_finish f ≡ false) (λ f l. l.0) frames all);
      unended = all_none (is_end_of c) frames (all_map (LeavesEnd c) (λ f. is_end_of c f ≡ false) (λ f l. l.1) frames all);
    }

pub end_fitting : (c : ℕ) (frames : List Frame) → EndFits frames c → AllByRecursion (λ f. Permits f (CaptureEnd c)) frames
end_fitting c frames h = all_map (LeavesEnd c) (λ f. Permits f (CaptureEnd c)) (left_end c) frames (fits_end c frames h.going h.unended)

finish_left : (f : Frame) → Permits f Finish → is_finish f ≡ false
finish_left (Item t) h = refl
finish_left (Mark d m) h = refl
finish_left (CaptureEnd d) h = refl
finish_left (GroupHead first members key) h = refl
finish_left (Member at vals) h = refl
finish_left (GroupMark m) h = refl
finish_left (AnswerRow a) h = refl
finish_left (Profile row) h = refl
finish_left (CountsRow d counts) h = refl
finish_left Finish h = absurd h

left_finish : (f : Frame) → is_finish f ≡ false → Permits f Finish
left_finish (Item t) h = tt
left_finish (Mark d m) h = tt
left_finish (CaptureEnd d) h = tt
left_finish (GroupHead first members key) h = tt
left_finish (Member at vals) h = tt
left_finish (GroupMark m) h = tt
left_finish (AnswerRow a) h = tt
left_finish (Profile row) h = tt
left_finish (CountsRow d counts) h = tt
left_finish Finish h = absurd (let never : true ≡ false = h in cc)

pub finish_permitted : (frames : List Frame) → AllByRecursion (λ f. Permits f Finish) frames → list_any is_finish frames ≡ false
finish_permitted frames h = all_none is_finish frames (all_map (λ f. Permits f Finish) (λ f. is_finish f ≡ false) finish_left frames h)

pub finish_fitting : (frames : List Frame) → list_any is_finish frames ≡ false → AllByRecursion (λ f. Permits f Finish) frames
finish_fitting frames h = all_map (λ f. is_finish f ≡ false) (λ f. Permits f Finish) left_finish frames (none_all is_finish frames h)

-- ---- the ends that came

pub end_came : (c : ℕ) (frames : List Frame) → list_any (is_end_of c) frames ≡ true → HasEnded c frames
end_came c [] h = absurd (let never : false ≡ true = h in cc)
end_came c (f ∷ fs) h = by_frame f (end_came c fs) h
  where
    by_frame : (g : Frame) → (list_any (is_end_of c) fs ≡ true → HasEnded c fs) → (is_end_of c g || list_any (is_end_of c) fs) ≡ true → HasEnded c (g ∷ fs)
    by_frame (CaptureEnd d) rest k =
        ⊎_elim
        (λ (t : (d == c) ≡ true). inl (ap (λ (n : ℕ). CaptureEnd n) (sym (eqb-true d c t))))
        (λ (u : (d == c) ≡ false). inr (rest (rw u at k)))
        (cases_Bool (d == c))
    by_frame (Item t) rest k = inr (rest k)
    by_frame (Mark d m) rest k = inr (rest k)
    by_frame (GroupHead first members key) rest k = inr (rest k)
    by_frame (Member at vals) rest k = inr (rest k)
    by_frame (GroupMark m) rest k = inr (rest k)
    by_frame (AnswerRow a) rest k = inr (rest k)
    by_frame (Profile row) rest k = inr (rest k)
    by_frame (CountsRow d counts) rest k = inr (rest k)
    by_frame Finish rest k = inr (rest k)

pub came_end : (c : ℕ) (frames : List Frame) → HasEnded c frames → list_any (is_end_of c) frames ≡ true
came_end c [] h = absurd h
came_end c (f ∷ fs) (inl e) =
    let here : is_end_of c f ≡ true = ap (is_end_of c) (sym e) ∙ eq-eqb c c refl in
    ap (λ b. b || list_any (is_end_of c) fs) here
came_end c (f ∷ fs) (inr l) = late (is_end_of c f) (list_any (is_end_of c) fs) (came_end c fs l)
  where
    late : (a b : Bool) → b ≡ true → (a || b) ≡ true
    late true b e = refl
    late false b e = e

-- ---- one frame more

pub keeps_item : (next marks : List ℕ) (ended : List Bool) (finished : Bool) (frames after : List Frame) (s : Summary) (f : Frame) (newer : List ℕ)
    → KeepsItems next marks ended finished frames → after ≡ frames ++ f ∷ [] → f ≡ Item s → greatest (next_of s.at.capture) frames ≤ s.at.number
    → get_or newer s.at.capture 0 ≡ s.at.number + 1 → ((k : ℕ) → k ≢ s.at.capture → get_or newer k 0 ≡ get_or next k 0)
    → KeepsItems newer marks ended finished after
keeps_item next marks ended finished frames after s f newer h e is le there others =
    subst (KeepsItems newer marks ended finished) (sym (e ∙ ap (λ (g : Frame). frames ++ g ∷ []) is))
    (record {
      nexts = number_placed next_of next newer frames (Item s) s.at.capture (s.at.number + 1) (λ c. refl) h.nexts there others (omega (arith, le));
      last_marks = λ c less. h.last_marks c less ∙ greatest_same (mark_of c) frames (Item s) refl;
      ends = λ c less. h.ends c less ∙ any_same (is_end_of c) frames (Item s) refl;
      finish = h.finish ∙ any_same is_finish frames (Item s) refl;
    })

pub keeps_mark : (next marks : List ℕ) (ended : List Bool) (finished : Bool) (frames after : List Frame) (at mark : ℕ) (f : Frame) (newer : List ℕ)
    → KeepsItems next marks ended finished frames → after ≡ frames ++ f ∷ [] → f ≡ Mark at mark → greatest (mark_of at) frames ≤ mark
    → get_or newer at 0 ≡ mark → ((k : ℕ) → k ≢ at → get_or newer k 0 ≡ get_or marks k 0)
    → KeepsItems next newer ended finished after
keeps_mark next marks ended finished frames after at mark f newer h e is le there others =
    subst (KeepsItems next newer ended finished) (sym (e ∙ ap (λ (g : Frame). frames ++ g ∷ []) is))
    (record {
      nexts = λ c less. h.nexts c less ∙ greatest_same (next_of c) frames (Mark at mark) refl;
      last_marks = number_placed mark_of marks newer frames (Mark at mark) at mark (λ c. refl) h.last_marks there others le;
      ends = λ c less. h.ends c less ∙ any_same (is_end_of c) frames (Mark at mark) refl;
      finish = h.finish ∙ any_same is_finish frames (Mark at mark) refl;
    })

pub keeps_end : (next marks : List ℕ) (ended : List Bool) (finished : Bool) (frames after : List Frame) (at : ℕ) (f : Frame) (newer : List Bool)
    → KeepsItems next marks ended finished frames → after ≡ frames ++ f ∷ [] → f ≡ CaptureEnd at
    → get_or newer at false ≡ true → ((k : ℕ) → k ≢ at → get_or newer k false ≡ get_or ended k false)
    → KeepsItems next marks newer finished after
keeps_end next marks ended finished frames after at f newer h e is there others =
    subst (KeepsItems next marks newer finished) (sym (e ∙ ap (λ (g : Frame). frames ++ g ∷ []) is))
    (record {
      nexts = λ c less. h.nexts c less ∙ greatest_same (next_of c) frames (CaptureEnd at) refl;
      last_marks = λ c less. h.last_marks c less ∙ greatest_same (mark_of c) frames (CaptureEnd at) refl;
      ends = flag_placed is_end_of ended newer frames (CaptureEnd at) at (λ c. refl) h.ends there others;
      finish = h.finish ∙ any_same is_finish frames (CaptureEnd at) refl;
    })

pub keeps_finish : (next marks : List ℕ) (ended : List Bool) (finished : Bool) (frames after : List Frame) (f : Frame)
    → KeepsItems next marks ended finished frames → after ≡ frames ++ f ∷ [] → f ≡ Finish → KeepsItems next marks ended true after
keeps_finish next marks ended finished frames after f h e is =
    subst (KeepsItems next marks ended true) (sym (e ∙ ap (λ (g : Frame). frames ++ g ∷ []) is))
    (record {
      nexts = λ c less. h.nexts c less ∙ greatest_same (next_of c) frames Finish refl;
      last_marks = λ c less. h.last_marks c less ∙ greatest_same (mark_of c) frames Finish refl;
      ends = λ c less. h.ends c less ∙ any_same (is_end_of c) frames Finish refl;
      finish = any_last is_finish frames Finish refl;
    })

pub keeps_none : (next marks : List ℕ) (ended : List Bool) (frames : List Frame) → next ≡ replicate 64 0 → marks ≡ replicate 64 0 → ended ≡ replicate 64 false → frames ≡ []
    → KeepsItems next marks ended false frames
keeps_none next marks ended frames a b d e =
    subst (KeepsItems next marks ended false) (sym e)
    (record {
      nexts = λ c less. ap (λ (xs : List ℕ). get_or xs c 0) a ∙ get_or-replicate 64 c 0 0 less;
      last_marks = λ c less. ap (λ (xs : List ℕ). get_or xs c 0) b ∙ get_or-replicate 64 c 0 0 less;
      ends = λ c less. ap (λ (xs : List Bool). get_or xs c false) d ∙ get_or-replicate 64 c false false less;
      finish = refl;
    })

-- ---- the rule is the same for each number of processors

item_of : (job : Declared) (a b : Shape) (parser grouper : ℕ) (s : Summary) → a.parsers ≡ b.parsers → a.groupers ≡ b.groupers
    → IsItemOf job a parser grouper s → IsItemOf job b parser grouper s
item_of job a b parser grouper s e g h = record {
  stamp = h.stamp;
  capture = (h.capture.0, subst (λ n. s.at.capture % n ≡ parser) e h.capture.1);
  values = h.values;
  key = h.key;
  shard = subst (λ n. shard_of s.key n ≡ grouper) g h.shard;
}

own_of : (job : Declared) (a b : Shape) (parser grouper : ℕ) (before : List Frame) (f : Frame) → a.parsers ≡ b.parsers → a.groupers ≡ b.groupers
    → ItemRule job a parser grouper before f → ItemRule job b parser grouper before f
own_of job a b parser grouper before (Item s) e g h = item_of job a b parser grouper s e g h
own_of job a b parser grouper before (Mark c mark) e g h = ((h.0.0, subst (λ n. c % n ≡ parser) e h.0.1), h.1)
own_of job a b parser grouper before (CaptureEnd c) e g h = (h.0, subst (λ n. c % n ≡ parser) e h.1)
own_of job a b parser grouper before Finish e g h = λ c is. h c (is.0, subst (λ n. c % n ≡ parser) (sym e) is.1)
own_of job a b parser grouper before (GroupHead first members key) e g h = absurd h
own_of job a b parser grouper before (Member at vals) e g h = absurd h
own_of job a b parser grouper before (GroupMark m) e g h = absurd h
own_of job a b parser grouper before (AnswerRow x) e g h = absurd h
own_of job a b parser grouper before (Profile row) e g h = absurd h
own_of job a b parser grouper before (CountsRow d counts) e g h = absurd h

pub follows_of : (job : Declared) (a b : Shape) (parser grouper : ℕ) (before : List Frame) (f : Frame) → a.parsers ≡ b.parsers → a.groupers ≡ b.groupers
    → MayFollow (ItemRule job a parser grouper) before f → MayFollow (ItemRule job b parser grouper) before f
follows_of job a b parser grouper before f e g h = record { own = own_of job a b parser grouper before f e g h.own; permitted = h.permitted }
