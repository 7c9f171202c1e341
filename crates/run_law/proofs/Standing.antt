-- Frames that may stand where they stand.
use Rattle.std.proofs.Common.{ℕ, Bool, true, false, List, [], ◌∷◌, ◌++◌, ◌≡◌, ◌≢◌, ◌⊎◌, ◌≤◌, Option, Some, None, inl, inr, refl, sym, ap, subst, ◌∙◌, ⊎_elim, append_assoc}
use Rattle.std.specs.Prelude.{◌==◌, if◌then◌else◌}
use Rattle.std.specs.List.{AllByRecursion}
use Rattle.std.proofs.lemmas.Bool.{cases_Bool, eqb-true}
use Rattle.std.proofs.lemmas.List.{append-nil}
use Rattle.ds_base.specs.Copies.{Copies}
use Rattle.ds_base.specs.Fronts.{IsIn}
use Rattle.ds_base.specs.declared.stamp.Stamp.{Stamp}
use Rattle.ds_base.specs.declared.summary.Summary.{Summary}
use Rattle.ds_base.specs.declared.verdict.Answer.{Answer}
use Rattle.node_frames.specs.declared.frame.Frame.{Frame}
use Rattle.node_frames.specs.declared.frame.Frame.TheVariants.{Item, Mark, CaptureEnd, GroupHead, Member, GroupMark, AnswerRow, Profile, CountsRow, Finish}
use Rattle.summary_spec.specs.Declaration.{Declared}
use Rattle.run_law.specs.Links.{Permits, MayFollow, AreLawfulBehind, AreLawful, GroupRule, IsNextStamp}
use Rattle.run_law.specs.Nodes.{first_member, began}
use Rattle.run_law.specs.Sent.{Begun, with_member, still_begun, made_whole, begun_after, whole_with, begun_behind, groups_behind, groups_in, begun_in, item_in, items_in, answer_in, answers_in, of_items, of_firsts, MayCome, IsLeftOpen}
use Rattle.run_law.specs.Shapes.{IsFront}
use Rattle.run_law.proofs.Lists.{of_flat, all_in, in_all, all_left, in_either}

-- ---- fronts of lawful frames

pub lawful_parts : (Own : List Frame → Frame → Type 0) (before xs ys : List Frame) → AreLawfulBehind Own before (xs ++ ys)
    → AreLawfulBehind Own before xs × AreLawfulBehind Own (before ++ xs) ys
lawful_parts Own before [] ys h = (tt, subst (λ b. AreLawfulBehind Own b ys) (sym (append-nil before)) h)
lawful_parts Own before (x ∷ xs) ys h =
    let rest = lawful_parts Own (before ++ x ∷ []) xs ys h.1 in
    ((h.0, rest.0), subst (λ b. AreLawfulBehind Own b ys) (append_assoc before (x ∷ []) xs) rest.1)

pub lawful_front : (Own : List Frame → Frame → Type 0) (xs ys : List Frame) → IsFront xs ys → AreLawful Own ys → AreLawful Own xs
lawful_front Own xs ys f h = (lawful_parts Own [] xs f.rest (subst (AreLawful Own) f.joined h)).0

pub lawful_rest : (Own : List Frame → Frame → Type 0) (xs ys : List Frame) (f : IsFront xs ys) → AreLawful Own ys → AreLawfulBehind Own xs f.rest
lawful_rest Own xs ys f h = (lawful_parts Own [] xs f.rest (subst (AreLawful Own) f.joined h)).1

-- what is permitted behind more is permitted behind a part of it
pub permitted_in : (Own : List Frame → Frame → Type 0) (before frames : List Frame) (f : Frame) → AreLawfulBehind Own before frames → IsIn f frames
    → AllByRecursion (λ earlier. Permits earlier f) before
permitted_in Own before [] f h there = absurd there
permitted_in Own before (x ∷ xs) f h (inl e) = subst (λ z. AllByRecursion (λ earlier. Permits earlier z) before) (sym e) h.0.permitted
permitted_in Own before (x ∷ xs) f h (inr l) =
    all_left (λ earlier. Permits earlier f) before (x ∷ []) (permitted_in Own (before ++ x ∷ []) xs f h.1 l)

-- where a frame stands, and by what rule
pub record Stands (Own : List Frame → Frame → Type 0) (all : List Frame) (f : Frame) : Type 0 where
  pub before : List Frame
  pub front : IsFront before all
  pub own : Own before f

pub stands_in : (Own : List Frame → Frame → Type 0) (before frames : List Frame) (f : Frame) → AreLawfulBehind Own before frames → IsIn f frames
    → Stands Own (before ++ frames) f
stands_in Own before [] f h there = absurd there
stands_in Own before (x ∷ xs) f h (inl e) = record {
  before = before;
  front = record { rest = x ∷ xs; joined = refl };
  own = subst (Own before) (sym e) h.0.own;
}
stands_in Own before (x ∷ xs) f h (inr l) =
    subst (λ all. Stands Own all f) (append_assoc before (x ∷ []) xs) (stands_in Own (before ++ x ∷ []) xs f h.1 l)

pub stands : (Own : List Frame → Frame → Type 0) (frames : List Frame) (f : Frame) → AreLawful Own frames → IsIn f frames → Stands Own frames f
stands Own frames f h there = stands_in Own [] frames f h there

-- ---- the end

none_behind_end : (Own : List Frame → Frame → Type 0) (before rest : List Frame) → AreLawfulBehind Own before rest → IsIn Finish before → rest ≡ []
none_behind_end Own before [] h there = refl
none_behind_end Own before (x ∷ xs) h there = absurd (all_in (λ earlier. Permits earlier x) Finish before h.0.permitted there)

-- a front that has the end is the list
pub whole_with_end : (Own : List Frame → Frame → Type 0) (xs ys : List Frame) → IsFront xs ys → AreLawful Own ys → IsIn Finish xs → xs ≡ ys
whole_with_end Own xs ys f h there =
    let none : f.rest ≡ [] = none_behind_end Own xs f.rest (lawful_rest Own xs ys f h) there in
    sym (f.joined ∙ ap (λ zs. xs ++ zs) none ∙ append-nil xs)

-- ---- summaries

mark_permits : (b : Bool) (c d mark t : ℕ) → (c == d) ≡ b → (c ≡ d → mark ≤ t) → MayCome (if c == d then Some (Some mark) else None) t
mark_permits true c d mark t e h = rw e (h (eqb-true c d e))
mark_permits false c d mark t e h = rw e tt

end_permits : (b : Bool) (c d t : ℕ) → (c == d) ≡ b → (c ≢ d) → MayCome (if c == d then Some None else None) t
end_permits true c d t e h = absurd (h (eqb-true c d e))
end_permits false c d t e h = rw e tt

permits_item : (f : Frame) (s : Summary) → Permits f (Item s) → MayCome (of_items s.at.capture f) s.at.time
permits_item (Item t) s h = tt
permits_item (Mark c mark) s h = mark_permits (c == s.at.capture) c s.at.capture mark s.at.time refl h
permits_item (CaptureEnd c) s h = end_permits (c == s.at.capture) c s.at.capture s.at.time refl h
permits_item (GroupHead first members key) s h = tt
permits_item (Member at vals) s h = tt
permits_item (GroupMark mark) s h = tt
permits_item (AnswerRow a) s h = tt
permits_item (Profile row) s h = tt
permits_item (CountsRow c counts) s h = tt
permits_item Finish s h = absurd h

-- the frame in which a summary came
pub item_frame : (s : Summary) (frames : List Frame) → IsIn s (items_in frames) → IsIn (Item s) frames
item_frame s frames h = let from = of_flat item_in s frames h in by_frame from.item from.is from.there
  where
    by_frame : (f : Frame) → IsIn s (item_in f) → IsIn f frames → IsIn (Item s) frames
    by_frame (Item t) (inl e) there = subst (λ (z : Summary). IsIn (Item z) frames) (sym e) there
    by_frame (Item t) (inr l) there = absurd l
    by_frame (Mark c mark) h there = absurd h
    by_frame (CaptureEnd c) h there = absurd h
    by_frame (GroupHead first members key) h there = absurd h
    by_frame (Member at vals) h there = absurd h
    by_frame (GroupMark mark) h there = absurd h
    by_frame (AnswerRow a) h there = absurd h
    by_frame (Profile row) h there = absurd h
    by_frame (CountsRow c counts) h there = absurd h
    by_frame Finish h there = absurd h

-- a summary that comes behind frames is left open by them
pub item_left_open : (Own : List Frame → Frame → Type 0) (before rest : List Frame) (s : Summary) → AreLawfulBehind Own before rest → IsIn s (items_in rest)
    → IsLeftOpen (of_items s.at.capture) before s.at.time
item_left_open Own before rest s h there =
    let permitted = permitted_in Own before rest (Item s) h (item_frame s rest there) in
    in_all (λ f. MayCome (of_items s.at.capture f) s.at.time) before
    (λ f l. permits_item f s (all_in (λ earlier. Permits earlier (Item s)) f before permitted l))

-- a mark that comes behind frames is left open by them
permits_mark : (f : Frame) (c mark : ℕ) → Permits f (Mark c mark) → MayCome (of_items c f) mark
permits_mark (Item t) c mark h = tt
permits_mark (Mark d earlier) c mark h = mark_permits (d == c) d c earlier mark refl h
permits_mark (CaptureEnd d) c mark h = end_permits (d == c) d c mark refl h
permits_mark (GroupHead first members key) c mark h = tt
permits_mark (Member at vals) c mark h = tt
permits_mark (GroupMark m) c mark h = tt
permits_mark (AnswerRow a) c mark h = tt
permits_mark (Profile row) c mark h = tt
permits_mark (CountsRow d counts) c mark h = tt
permits_mark Finish c mark h = absurd h

-- the frame that says a mark of the capture
said_mark : (c mark : ℕ) (f : Frame) → of_items c f ≡ Some (Some mark) → f ≡ Mark c mark
said_mark c mark (Mark d m) h =
    ⊎_elim
    (λ (t : (d == c) ≡ true).
    let said : Some (Some m) ≡ Some (Some mark) = rw t at h in
    let same : m ≡ mark = cc in
    ap (λ (k : ℕ). Mark k m) (eqb-true d c t) ∙ ap (λ (n : ℕ). Mark c n) same)
    (λ (f : (d == c) ≡ false). absurd (let none : None ≡ Some (Some mark) = rw f at h in cc))
    (cases_Bool (d == c))
said_mark c mark (CaptureEnd d) h =
    ⊎_elim
    (λ (t : (d == c) ≡ true). absurd (let none : Some None ≡ Some (Some mark) = rw t at h in cc))
    (λ (f : (d == c) ≡ false). absurd (let none : None ≡ Some (Some mark) = rw f at h in cc))
    (cases_Bool (d == c))
said_mark c mark (Item t) h = absurd (cc)
said_mark c mark (GroupHead first members key) h = absurd (cc)
said_mark c mark (Member at vals) h = absurd (cc)
said_mark c mark (GroupMark m) h = absurd (cc)
said_mark c mark (AnswerRow a) h = absurd (cc)
said_mark c mark (Profile row) h = absurd (cc)
said_mark c mark (CountsRow d counts) h = absurd (cc)
said_mark c mark Finish h = absurd (cc)

pub mark_left_open : (c : ℕ) (f : Frame) (mark : ℕ) (front : List Frame) → of_items c f ≡ Some (Some mark) → AllByRecursion (λ earlier. Permits earlier f) front
    → IsLeftOpen (of_items c) front mark
mark_left_open c f mark front is permitted =
    in_all (λ z. MayCome (of_items c z) mark) front
    (λ z l. permits_mark z c mark (subst (λ (w : Frame). Permits z w) (said_mark c mark f is) (all_in (λ earlier. Permits earlier f) z front permitted l)))

-- ---- answers

permits_answer : (f : Frame) (a : Answer) → Permits f (AnswerRow a) → MayCome (of_firsts f) a.first.time
permits_answer (Item t) a h = tt
permits_answer (Mark c mark) a h = tt
permits_answer (CaptureEnd c) a h = tt
permits_answer (GroupHead first members key) a h = tt
permits_answer (Member at vals) a h = tt
permits_answer (GroupMark mark) a h = h
permits_answer (AnswerRow b) a h = tt
permits_answer (Profile row) a h = absurd h
permits_answer (CountsRow c counts) a h = tt
permits_answer Finish a h = absurd h

pub answer_frame : (a : Answer) (frames : List Frame) → IsIn a (answers_in frames) → IsIn (AnswerRow a) frames
answer_frame a frames h = let from = of_flat answer_in a frames h in by_frame from.item from.is from.there
  where
    by_frame : (f : Frame) → IsIn a (answer_in f) → IsIn f frames → IsIn (AnswerRow a) frames
    by_frame (Item t) h there = absurd h
    by_frame (Mark c mark) h there = absurd h
    by_frame (CaptureEnd c) h there = absurd h
    by_frame (GroupHead first members key) h there = absurd h
    by_frame (Member at vals) h there = absurd h
    by_frame (GroupMark mark) h there = absurd h
    by_frame (AnswerRow b) (inl e) there = subst (λ (z : Answer). IsIn (AnswerRow z) frames) (sym e) there
    by_frame (AnswerRow b) (inr l) there = absurd l
    by_frame (Profile row) h there = absurd h
    by_frame (CountsRow c counts) h there = absurd h
    by_frame Finish h there = absurd h

pub answer_left_open : (Own : List Frame → Frame → Type 0) (before rest : List Frame) (a : Answer) → AreLawfulBehind Own before rest → IsIn a (answers_in rest)
    → IsLeftOpen of_firsts before a.first.time
answer_left_open Own before rest a h there =
    let permitted = permitted_in Own before rest (AnswerRow a) h (answer_frame a rest there) in
    in_all (λ f. MayCome (of_firsts f) a.first.time) before
    (λ f l. permits_answer f a (all_in (λ earlier. Permits earlier (AnswerRow a)) f before permitted l))

-- ---- groups

permits_head : (f : Frame) (first : Stamp) (members : ℕ) (key : List ℕ) → Permits f (GroupHead first members key) → MayCome (of_firsts f) first.time
permits_head (Item t) first members key h = tt
permits_head (Mark c mark) first members key h = tt
permits_head (CaptureEnd c) first members key h = tt
permits_head (GroupHead other n k) first members key h = tt
permits_head (Member at vals) first members key h = tt
permits_head (GroupMark mark) first members key h = h
permits_head (AnswerRow b) first members key h = tt
permits_head (Profile row) first members key h = tt
permits_head (CountsRow c counts) first members key h = tt
permits_head Finish first members key h = absurd h

-- a mark of firsts that comes behind frames is left open by them
permits_group_mark : (f : Frame) (mark : ℕ) → Permits f (GroupMark mark) → MayCome (of_firsts f) mark
permits_group_mark (Item t) mark h = tt
permits_group_mark (Mark c m) mark h = tt
permits_group_mark (CaptureEnd c) mark h = tt
permits_group_mark (GroupHead first members key) mark h = tt
permits_group_mark (Member at vals) mark h = tt
permits_group_mark (GroupMark m) mark h = h
permits_group_mark (AnswerRow a) mark h = tt
permits_group_mark (Profile row) mark h = absurd h
permits_group_mark (CountsRow c counts) mark h = tt
permits_group_mark Finish mark h = absurd h

said_group_mark : (mark : ℕ) (f : Frame) → of_firsts f ≡ Some (Some mark) → f ≡ GroupMark mark
said_group_mark mark (GroupMark m) h = let same : m ≡ mark = cc in ap (λ (n : ℕ). GroupMark n) same
said_group_mark mark (Item t) h = absurd (cc)
said_group_mark mark (Mark c m) h = absurd (cc)
said_group_mark mark (CaptureEnd c) h = absurd (cc)
said_group_mark mark (GroupHead first members key) h = absurd (cc)
said_group_mark mark (Member at vals) h = absurd (cc)
said_group_mark mark (AnswerRow a) h = absurd (cc)
said_group_mark mark (Profile row) h = absurd (cc)
said_group_mark mark (CountsRow c counts) h = absurd (cc)
said_group_mark mark Finish h = absurd (cc)

pub group_mark_left_open : (f : Frame) (mark : ℕ) (front : List Frame) → of_firsts f ≡ Some (Some mark) → AllByRecursion (λ earlier. Permits earlier f) front
    → IsLeftOpen of_firsts front mark
group_mark_left_open f mark front is permitted =
    in_all (λ z. MayCome (of_firsts z) mark) front
    (λ z l. permits_group_mark z mark (subst (λ (w : Frame). Permits z w) (said_group_mark mark f is) (all_in (λ earlier. Permits earlier f) z front permitted l)))

-- the first of these members has the stamp
abbrev IsLed : Stamp → List Summary → Type 0
IsLed first [] = Unit {0}
IsLed first (m ∷ ms) = m.at ≡ first

-- a group that is begun: its first time is left open by the frames, and its first member has that stamp
record HasBegun (frames : List Frame) (b : Begun) : Type 0 where
  left_open : IsLeftOpen of_firsts frames b.first.time
  led : IsLed b.first b.members

abbrev IfBegun : List Frame → Option Begun → Type 0
IfBegun frames None = Unit {0}
IfBegun frames (Some b) = HasBegun frames b

one_more : (says : Frame → Option (Option ℕ)) (frames : List Frame) (f : Frame) (t : ℕ) → IsLeftOpen says frames t → MayCome (says f) t → IsLeftOpen says (frames ++ f ∷ []) t
one_more says [] f t h may = (may, tt)
one_more says (x ∷ xs) f t h may = (h.0, one_more says xs f t h.1 may)

led_more : (first at : Stamp) (ms : List Summary) (m : Summary) → m.at ≡ at → IsLed first ms → IsNextStamp first ms at → IsLed first (ms ++ m ∷ [])
led_more first at [] m e h next = e ∙ next
led_more first at (x ∷ xs) m e h next = h

still : (frames : List Frame) (b : Begun) (whole : Bool) → (b.left == 0) ≡ whole → HasBegun frames b → IfBegun frames (still_begun b)
still frames b true e h = rw e tt
still frames b false e h = rw e h

grown : (job : Declared) (before : List Frame) (b : Begun) (at : Stamp) (vals : List ℕ) → HasBegun before b → IsNextStamp b.first b.members at
    → HasBegun (before ++ Member at vals ∷ []) (with_member at vals b)
grown job before b at vals h next = record {
  left_open = one_more of_firsts before (Member at vals) b.first.time h.left_open tt;
  led = led_more b.first at b.members (record { at = at; key = b.key; vals = vals }) refl h.led next;
}

-- one frame more
step : (job : Declared) (before : List Frame) (begun : Option Begun) (f : Frame) → begun ≡ begun_in before → MayFollow (GroupRule job) before f
    → IfBegun before begun → IfBegun (before ++ f ∷ []) (begun_after begun f)
step job before begun (Item s) e may h = absurd may.own
step job before begun (Mark c mark) e may h = absurd may.own
step job before begun (CaptureEnd c) e may h = absurd may.own
step job before None (GroupHead first members key) e may h = record {
  left_open = one_more of_firsts before (GroupHead first members key) first.time
      (in_all (λ f. MayCome (of_firsts f) first.time) before
      (λ f l. permits_head f first members key (all_in (λ earlier. Permits earlier (GroupHead first members key)) f before may.permitted l))) tt;
  led = tt;
}
step job before (Some b) (GroupHead first members key) e may h = absurd (let none = may.own.0 in cc)
step job before None (Member at vals) e may h = tt
step job before (Some b) (Member at vals) e may h =
    let own = rw (sym e) at may.own in
    still (before ++ Member at vals ∷ []) (with_member at vals b) ((with_member at vals b).left == 0) refl
    (grown job before b at vals h own.next)
step job before None (GroupMark mark) e may h = tt
step job before (Some b) (GroupMark mark) e may h = absurd (let none = may.own.0 in cc)
step job before begun (AnswerRow a) e may h = absurd may.own
step job before begun (Profile row) e may h = absurd may.own
step job before begun (CountsRow c counts) e may h = absurd may.own
step job before None Finish e may h = tt
step job before (Some b) Finish e may h = absurd (let none = may.own in cc)

-- the group that becomes whole with a frame is left open by the frames before
made : (before : List Frame) (b : Begun) (at : Stamp) (vals : List ℕ) (x : Copies) (whole : Bool) → ((with_member at vals b).left == 0) ≡ whole
    → HasBegun before b → IsNextStamp b.first b.members at → IsIn x (made_whole (with_member at vals b)) → IsLeftOpen of_firsts before (began x)
made before b at vals x true e h next there =
    let only : (x ≡ record { key = b.key; members = (with_member at vals b).members }) ⊎ ⊥ = rw e at there in
    let led : IsLed b.first (with_member at vals b).members = led_more b.first at b.members (record { at = at; key = b.key; vals = vals }) refl h.led next in
    ⊎_elim
    (λ (same : x ≡ record { key = b.key; members = (with_member at vals b).members }).
    subst (λ (z : Copies). IsLeftOpen of_firsts before (began z)) (sym same) (by_members b.members led))
    (λ (none : ⊥). absurd none)
    only
  where
    by_members : (ms : List Summary) → IsLed b.first (ms ++ record { at = at; key = b.key; vals = vals } ∷ [])
        → IsLeftOpen of_firsts before (first_member (ms ++ record { at = at; key = b.key; vals = vals } ∷ [])).at.time
    by_members [] led = subst (λ (s : Stamp). IsLeftOpen of_firsts before s.time) (sym led) h.left_open
    by_members (m ∷ ms) led = subst (λ (s : Stamp). IsLeftOpen of_firsts before s.time) (sym led) h.left_open
made before b at vals x false e h next there = absurd (rw e at there)

whole_left_open : (job : Declared) (before : List Frame) (begun : Option Begun) (f : Frame) (x : Copies) → begun ≡ begun_in before → MayFollow (GroupRule job) before f
    → IfBegun before begun → IsIn x (whole_with begun f) → IsLeftOpen of_firsts before (began x)
whole_left_open job before None (Item s) x e may h there = absurd there
whole_left_open job before None (Mark c mark) x e may h there = absurd there
whole_left_open job before None (CaptureEnd c) x e may h there = absurd there
whole_left_open job before None (GroupHead first members key) x e may h there = absurd there
whole_left_open job before None (Member at vals) x e may h there = absurd there
whole_left_open job before None (GroupMark mark) x e may h there = absurd there
whole_left_open job before None (AnswerRow a) x e may h there = absurd there
whole_left_open job before None (Profile row) x e may h there = absurd there
whole_left_open job before None (CountsRow c counts) x e may h there = absurd there
whole_left_open job before None Finish x e may h there = absurd there
whole_left_open job before (Some b) (Member at vals) x e may h there =
    let own = rw (sym e) at may.own in
    made before b at vals x ((with_member at vals b).left == 0) refl h own.next there
whole_left_open job before (Some b) (Item s) x e may h there = absurd there
whole_left_open job before (Some b) (Mark c mark) x e may h there = absurd there
whole_left_open job before (Some b) (CaptureEnd c) x e may h there = absurd there
whole_left_open job before (Some b) (GroupHead first members key) x e may h there = absurd there
whole_left_open job before (Some b) (GroupMark mark) x e may h there = absurd there
whole_left_open job before (Some b) (AnswerRow a) x e may h there = absurd there
whole_left_open job before (Some b) (Profile row) x e may h there = absurd there
whole_left_open job before (Some b) (CountsRow c counts) x e may h there = absurd there
whole_left_open job before (Some b) Finish x e may h there = absurd there

begun_push : (begun : Option Begun) (xs : List Frame) (f : Frame) → begun_behind begun (xs ++ f ∷ []) ≡ begun_after (begun_behind begun xs) f
begun_push begun [] f = refl
begun_push begun (x ∷ xs) f = begun_push (begun_after begun x) xs f

groups-append : (begun : Option Begun) (xs ys : List Frame) → groups_behind begun (xs ++ ys) ≡ groups_behind begun xs ++ groups_behind (begun_behind begun xs) ys
groups-append begun [] ys = refl
groups-append begun (x ∷ xs) ys =
    ap (λ gs. whole_with begun x ++ gs) (groups-append (begun_after begun x) xs ys)
    ∙ sym (append_assoc (whole_with begun x) (groups_behind (begun_after begun x) xs) (groups_behind (begun_behind (begun_after begun x) xs) ys))

-- the groups that become whole with frames are left open by a front of what stands before them
late_groups : (job : Declared) (front before ys : List Frame) (begun : Option Begun) (x : Copies) → IsFront front before → begun ≡ begun_in before
    → IfBegun before begun → AreLawfulBehind (GroupRule job) before ys → IsIn x (groups_behind begun ys) → IsLeftOpen of_firsts front (began x)
late_groups job front before [] begun x f e h lawful there = absurd there
late_groups job front before (y ∷ ys) begun x f e h lawful there =
    ⊎_elim
    (λ (here : IsIn x (whole_with begun y)).
    all_left (λ z. MayCome (of_firsts z) (began x)) front f.rest
    (subst (λ zs. IsLeftOpen of_firsts zs (began x)) f.joined (whole_left_open job before begun y x e lawful.0 h here)))
    (λ (later : IsIn x (groups_behind (begun_after begun y) ys)).
    late_groups job front (before ++ y ∷ []) ys (begun_after begun y) x
    (record { rest = f.rest ++ y ∷ []; joined = ap (λ zs. zs ++ y ∷ []) f.joined ∙ append_assoc front f.rest (y ∷ []) })
    (ap (λ b. begun_after b y) e ∙ sym (begun_push None before y))
    (step job before begun y e lawful.0 h) lawful.1 later)
    (in_either x (whole_with begun y) (groups_behind (begun_after begun y) ys) there)

begun_all : (job : Declared) (before ys : List Frame) (begun : Option Begun) → begun ≡ begun_in before → IfBegun before begun
    → AreLawfulBehind (GroupRule job) before ys → IfBegun (before ++ ys) (begun_behind begun ys)
begun_all job before [] begun e h lawful = subst (λ zs. IfBegun zs begun) (sym (append-nil before)) h
begun_all job before (y ∷ ys) begun e h lawful =
    subst (λ zs. IfBegun zs (begun_behind (begun_after begun y) ys)) (append_assoc before (y ∷ []) ys)
    (begun_all job (before ++ y ∷ []) ys (begun_after begun y) (ap (λ b. begun_after b y) e ∙ sym (begun_push None before y))
    (step job before begun y e lawful.0 h) lawful.1)

-- the groups of a front, and what is left open for the others
pub record AreCut (xs ys : List Frame) : Type 0 where
  pub later : List Copies
  pub joined : groups_in ys ≡ groups_in xs ++ later
  pub left_open : (x : Copies) → IsIn x later → IsLeftOpen of_firsts xs (began x)

pub groups_cut : (job : Declared) (xs ys : List Frame) → IsFront xs ys → AreLawful (GroupRule job) ys → AreCut xs ys
groups_cut job xs ys f h =
    let parts = lawful_parts (GroupRule job) [] xs f.rest (subst (AreLawful (GroupRule job)) f.joined h) in
    record {
      later = groups_behind (begun_in xs) f.rest;
      joined = ap groups_in f.joined ∙ groups-append None xs f.rest;
      left_open = λ x there. late_groups job xs xs f.rest (begun_in xs) x (record { rest = []; joined = sym (append-nil xs) }) refl
          (begun_all job [] xs None refl tt parts.0) parts.1 there;
    }
