-- Frames that are put behind others.
use Rattle.std.proofs.Common.{ℕ, Bool, true, false, List, [], ◌∷◌, ◌++◌, ◌≡◌, Option, Some, None, inl, inr, refl, sym, ap, subst, ◌∙◌, append_assoc, ⊎_elim}
use Rattle.std.specs.Prelude.{filter, ◌==◌, option_to_list}
use Rattle.std.specs.List.{AllByRecursion}
use Rattle.std.proofs.lemmas.List.{append-nil}
use Rattle.ds_base.specs.Fronts.{IsIn}
use Rattle.ds_base.specs.declared.summary.Summary.{Summary}
use Rattle.node_frames.specs.declared.frame.Frame.{Frame}
use Rattle.node_frames.specs.declared.frame.Frame.TheVariants.{Item, Mark, CaptureEnd, GroupHead, Member, GroupMark, AnswerRow, Profile, CountsRow, Finish}
use Rattle.run_law.specs.Links.{MayFollow, AreLawfulBehind, AreLawful}
use Rattle.run_law.specs.Sent.{item_in, items_in}
use Rattle.run_law.proofs.Lists.{in_either, flat-append}
use Rattle.parser_captures.proofs.Taking.{untold}
use Rattle.parser_captures.specs.Puts.{frames_by, frames_for}
use Rattle.run_law.specs.Shapes.{is_of_shard, summaries_of_shard, of_capture}

-- ---- lawful frames

lawful_join : (Own : List Frame → Frame → Type 0) (before xs ys : List Frame) → AreLawfulBehind Own before xs → AreLawfulBehind Own (before ++ xs) ys
    → AreLawfulBehind Own before (xs ++ ys)
lawful_join Own before [] ys h k = subst (λ b. AreLawfulBehind Own b ys) (append-nil before) k
lawful_join Own before (x ∷ xs) ys h k =
    (h.0, lawful_join Own (before ++ x ∷ []) xs ys h.1 (subst (λ b. AreLawfulBehind Own b ys) (sym (append_assoc before (x ∷ []) xs)) k))

-- one frame more
pub lawful_more : (Own : List Frame → Frame → Type 0) (xs : List Frame) (f : Frame) → AreLawful Own xs → MayFollow Own xs f → AreLawful Own (xs ++ f ∷ [])
lawful_more Own xs f h may = lawful_join Own [] xs (f ∷ []) h (may, tt)

-- ---- what is put for one record

items_by : (n g : ℕ) (s : Summary) (b : Bool) → is_of_shard g n s.key ≡ b → items_in (frames_by b s) ≡ summaries_of_shard g n (s ∷ [])
items_by n g s true e = rw e refl
items_by n g s false e = rw e refl

pub items_to : (n g : ℕ) (found : Option Summary) → items_in (frames_for n g found) ≡ summaries_of_shard g n (option_to_list found)
items_to n g None = refl
items_to n g (Some s) = items_by n g s (is_of_shard g n s.key) refl

-- ---- frames of other kinds

abbrev pub IsOther : (Frame → Bool) → Frame → Type 0
IsOther test f = test f ≡ false

abbrev pub is_item : Frame → Bool
is_item (Item s) = true
is_item _ = false

not_by : (f : Frame) (s : Summary) (b : Bool) → is_item f ≡ false → IsIn f (frames_by b s) → ⊥
not_by f s true other (inl e) = untold ⊥ (sym other ∙ ap is_item e)
not_by f s true other (inr l) = absurd l
not_by f s false other h = absurd h

pub not_put : (n g : ℕ) (f : Frame) (found : Option Summary) → is_item f ≡ false → IsIn f (frames_for n g found) → ⊥
not_put n g f None other h = h
not_put n g f (Some s) other h = not_by f s (is_of_shard g n s.key) other h

-- ---- summaries of one capture

all_kept : (d : ℕ) (ss : List Summary) → AllByRecursion (λ s. (s.at.capture == d) ≡ true) ss → of_capture d ss ≡ ss
all_kept d [] h = refl
all_kept d (s ∷ ss) h = rw h.0 (ap (λ zs. s ∷ zs) (all_kept d ss h.1))

pub of_own : (d : ℕ) (ss : List Summary) → AllByRecursion (λ s. (s.at.capture == d) ≡ true) ss → of_capture d ss ≡ ss
of_own = all_kept

pub of_other : (d : ℕ) (ss : List Summary) → AllByRecursion (λ s. (s.at.capture == d) ≡ false) ss → of_capture d ss ≡ []
of_other d [] h = refl
of_other d (s ∷ ss) h = rw h.0 (of_other d ss h.1)

-- ---- one frame more

-- a frame of another kind was put before
pub before_one : (test : Frame → Bool) (f one : Frame) (xs : List Frame) → test f ≡ true → test one ≡ false → IsIn f (xs ++ one ∷ []) → IsIn f xs
before_one test f one xs own other h =
    ⊎_elim
    (λ (l : IsIn f xs). l)
    (λ (r : IsIn f (one ∷ [])). one_of r)
    (in_either f xs (one ∷ []) h)
  where
    one_of : IsIn f (one ∷ []) → IsIn f xs
    one_of (inl e) = untold (IsIn f xs) (sym other ∙ ap test (sym e) ∙ own)
    one_of (inr l) = absurd l

-- a frame that brings no summary leaves those of each capture as they are
pub no_item_in : (one : Frame) (xs : List Frame) → item_in one ≡ [] → items_in (xs ++ one ∷ []) ≡ items_in xs
no_item_in one xs none =
    flat-append item_in xs (one ∷ []) ∙ ap (λ (ss : List Summary). items_in xs ++ (ss ++ [])) none ∙ append-nil (items_in xs)
