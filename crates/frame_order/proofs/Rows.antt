-- What the frames from a parser to the merge permit, and what is kept of them.
use Rattle.std.proofs.Common.{ℕ, Bool, true, false, List, [], ◌∷◌, ◌++◌, ◌≡◌, ◌≢◌, ◌⊎◌, ◌%◌, inl, inr, refl, sym, ap, subst, ◌∙◌, ⊎_elim, get_or, replicate}
use Rattle.std.specs.Prelude.{◌==◌, ◌||◌}
use Rattle.std.specs.List.{AllByRecursion, list_any}
use Rattle.std.proofs.lemmas.Bool.{cases_Bool, eq-eqb, eqb-true}
use Rattle.std.proofs.lemmas.List.{get_or-replicate}
use Rattle.ds_base.specs.declared.capture.Counts.{Counts}
use Rattle.node_frames.specs.declared.frame.Frame.{Frame}
use Rattle.node_frames.specs.declared.frame.Frame.TheVariants.{Item, Mark, CaptureEnd, GroupHead, Member, GroupMark, AnswerRow, Profile, CountsRow, Finish}
use Rattle.summary_spec.specs.Declaration.{Declared}
use Rattle.run_law.specs.Links.{Permits, HasRow, CountsRule, MayFollow}
use Rattle.run_law.specs.Shapes.{Shape}
use Rattle.frame_order.specs.Rows.{KeepsRows, RowFits}
use Rattle.frame_order.specs.Said.{is_row_of, is_finish}
use Rattle.frame_order.proofs.Lists.{all_map, all_both, any_same, any_last, all_none, none_all, unlike, like_not, flag_placed}

abbrev LeavesRow : ℕ → Frame → Type 0
LeavesRow c f = (is_finish f ≡ false) × (is_row_of c f ≡ false)

row_left : (c : ℕ) (counts : Counts) (f : Frame) → Permits f (CountsRow c counts) → LeavesRow c f
row_left c counts (Item t) h = (refl, refl)
row_left c counts (Mark d m) h = (refl, refl)
row_left c counts (CaptureEnd d) h = (refl, refl)
row_left c counts (GroupHead first n key) h = (refl, refl)
row_left c counts (Member at vals) h = (refl, refl)
row_left c counts (GroupMark m) h = (refl, refl)
row_left c counts (AnswerRow a) h = (refl, refl)
row_left c counts (Profile row) h = (refl, refl)
row_left c counts (CountsRow d others) h = (refl, unlike (d == c) d c refl h)
row_left c counts Finish h = absurd h

left_row : (c : ℕ) (counts : Counts) (f : Frame) → LeavesRow c f → Permits f (CountsRow c counts)
left_row c counts (Item t) h = tt
left_row c counts (Mark d m) h = tt
left_row c counts (CaptureEnd d) h = tt
left_row c counts (GroupHead first n key) h = tt
left_row c counts (Member at vals) h = tt
left_row c counts (GroupMark m) h = tt
left_row c counts (AnswerRow a) h = tt
left_row c counts (Profile row) h = tt
left_row c counts (CountsRow d others) h = like_not d c h.1
left_row c counts Finish h = absurd (let never : true ≡ false = h.0 in cc)

pub row_permitted : (c : ℕ) (counts : Counts) (frames : List Frame) → AllByRecursion (λ f. Permits f (CountsRow c counts)) frames → RowFits frames c
row_permitted c counts frames h =
    let all = all_map (λ f. Permits f (CountsRow c counts)) (LeavesRow c) (row_left c counts) frames h in
    record {
      going = all_none is_finish frames (all_map (LeavesRow c) (λ f. is_finish f ≡ false) (λ f l. l.0) frames all);
      new = all_none (is_row_of c) frames (all_map (LeavesRow c) (λ f. is_row_of c f ≡ false) (λ f l. l.1) frames all);
    }

pub row_fitting : (c : ℕ) (counts : Counts) (frames : List Frame) → RowFits frames c → AllByRecursion (λ f. Permits f (CountsRow c counts)) frames
row_fitting c counts frames h =
    all_map (LeavesRow c) (λ f. Permits f (CountsRow c counts)) (left_row c counts) frames
    (all_both (λ f. is_finish f ≡ false) (λ f. is_row_of c f ≡ false) frames (none_all is_finish frames h.going) (none_all (is_row_of c) frames h.new))

-- ---- the rows that came

later_row : (c : ℕ) (f : Frame) (fs : List Frame) → HasRow c fs → HasRow c (f ∷ fs)
later_row c f fs h = (h.0, inr h.1)

pub row_came : (c : ℕ) (frames : List Frame) → list_any (is_row_of c) frames ≡ true → HasRow c frames
row_came c [] h = absurd (let never : false ≡ true = h in cc)
row_came c (f ∷ fs) h = by_frame f (row_came c fs) h
  where
    by_frame : (g : Frame) → (list_any (is_row_of c) fs ≡ true → HasRow c fs) → (is_row_of c g || list_any (is_row_of c) fs) ≡ true → HasRow c (g ∷ fs)
    by_frame (Item t) rest k = later_row c (Item t) fs (rest k)
    by_frame (Mark d m) rest k = later_row c (Mark d m) fs (rest k)
    by_frame (CaptureEnd d) rest k = later_row c (CaptureEnd d) fs (rest k)
    by_frame (GroupHead first n key) rest k = later_row c (GroupHead first n key) fs (rest k)
    by_frame (Member at vals) rest k = later_row c (Member at vals) fs (rest k)
    by_frame (GroupMark m) rest k = later_row c (GroupMark m) fs (rest k)
    by_frame (AnswerRow a) rest k = later_row c (AnswerRow a) fs (rest k)
    by_frame (Profile row) rest k = later_row c (Profile row) fs (rest k)
    by_frame (CountsRow d others) rest k =
        ⊎_elim
        (λ (t : (d == c) ≡ true). (others, inl (ap (λ (n : ℕ). CountsRow n others) (sym (eqb-true d c t)))))
        (λ (u : (d == c) ≡ false). later_row c (CountsRow d others) fs (rest (rw u at k)))
        (cases_Bool (d == c))
    by_frame Finish rest k = later_row c Finish fs (rest k)

pub came_row : (c : ℕ) (frames : List Frame) → HasRow c frames → list_any (is_row_of c) frames ≡ true
came_row c [] h = absurd h.1
came_row c (f ∷ fs) h =
    ⊎_elim
    (λ (e : CountsRow c h.0 ≡ f).
    let here : is_row_of c f ≡ true = ap (is_row_of c) (sym e) ∙ eq-eqb c c refl in
    ap (λ b. b || list_any (is_row_of c) fs) here)
    (λ (l : HasRow c fs). late (is_row_of c f) (list_any (is_row_of c) fs) (came_row c fs l))
    (either f fs h)
  where
    either : (g : Frame) (gs : List Frame) (k : HasRow c (g ∷ gs)) → (CountsRow c k.0 ≡ g) ⊎ HasRow c gs
    either g gs k = ⊎_elim (λ e. inl e) (λ l. inr (k.0, l)) k.1

    late : (a b : Bool) → b ≡ true → (a || b) ≡ true
    late true b e = refl
    late false b e = e

-- ---- what is kept

pub keeps_row : (rows : List Bool) (finished : Bool) (frames after : List Frame) (at : ℕ) (counts : Counts) (f : Frame) (newer : List Bool)
    → KeepsRows rows finished frames → after ≡ frames ++ f ∷ [] → f ≡ CountsRow at counts
    → get_or newer at false ≡ true → ((k : ℕ) → k ≢ at → get_or newer k false ≡ get_or rows k false) → KeepsRows newer finished after
keeps_row rows finished frames after at counts f newer h e is there others =
    subst (KeepsRows newer finished) (sym (e ∙ ap (λ (g : Frame). frames ++ g ∷ []) is))
    (record {
      came = flag_placed is_row_of rows newer frames (CountsRow at counts) at (λ c. refl) h.came there others;
      finish = h.finish ∙ any_same is_finish frames (CountsRow at counts) refl;
    })

pub keeps_rows_end : (rows : List Bool) (finished : Bool) (frames after : List Frame) (f : Frame)
    → KeepsRows rows finished frames → after ≡ frames ++ f ∷ [] → f ≡ Finish → KeepsRows rows true after
keeps_rows_end rows finished frames after f h e is =
    subst (KeepsRows rows true) (sym (e ∙ ap (λ (g : Frame). frames ++ g ∷ []) is))
    (record {
      came = λ c less. h.came c less ∙ any_same (is_row_of c) frames Finish refl;
      finish = any_last is_finish frames Finish refl;
    })

pub keeps_no_rows : (rows : List Bool) (frames : List Frame) → rows ≡ replicate 64 false → frames ≡ [] → KeepsRows rows false frames
keeps_no_rows rows frames a e =
    subst (KeepsRows rows false) (sym e)
    (record { came = λ c less. ap (λ (xs : List Bool). get_or xs c false) a ∙ get_or-replicate 64 c false false less; finish = refl })

-- ---- the rule asks for the number of parsers alone

own_rows : (job : Declared) (a b : Shape) (parser : ℕ) (before : List Frame) (f : Frame) → a.parsers ≡ b.parsers → CountsRule job a parser before f → CountsRule job b parser before f
own_rows job a b parser before (Item t) e h = absurd h
own_rows job a b parser before (Mark d m) e h = absurd h
own_rows job a b parser before (CaptureEnd d) e h = absurd h
own_rows job a b parser before (GroupHead first n key) e h = absurd h
own_rows job a b parser before (Member at vals) e h = absurd h
own_rows job a b parser before (GroupMark m) e h = absurd h
own_rows job a b parser before (AnswerRow x) e h = absurd h
own_rows job a b parser before (Profile row) e h = absurd h
own_rows job a b parser before (CountsRow d others) e h = ((h.0.0, subst (λ n. d % n ≡ parser) e h.0.1), h.1)
own_rows job a b parser before Finish e h = λ c is. h c (is.0, subst (λ n. c % n ≡ parser) (sym e) is.1)

pub follows_rows : (job : Declared) (a b : Shape) (parser : ℕ) (before : List Frame) (f : Frame) → a.parsers ≡ b.parsers
    → MayFollow (CountsRule job a parser) before f → MayFollow (CountsRule job b parser) before f
follows_rows job a b parser before f e h = record { own = own_rows job a b parser before f e h.own; permitted = h.permitted }
