-- One frame more behind the frames of a link.
use Rattle.std.proofs.Common.{◌≡◌, ℕ, ◌+◌, Bool, true, false, ◌||◌, IsTrue, List, [], ◌∷◌, ◌++◌, length, refl, sym, ap, ap₂, ◌∙◌, arith, append_assoc, append-nil}
use Rattle.node_frames.specs.declared.frame.Frame.{Frame}
use Rattle.node_frames.specs.declared.frame.Frame.TheVariants.{Item, Mark, CaptureEnd, GroupHead, Member, GroupMark, AnswerRow, Profile, CountsRow, Finish}
use Rattle.node_frames.specs.Link.{wire_of, framed, carried}
use Rattle.credit_link.specs.Frames.{bytes_of_all, wire_behind, is_finish, has_finish, FinishIsLast}

-- a frame other than the end stands in one way wherever it stands
pub plain_anywhere : (frame : Frame) (n m : ℕ) (a b : List ℕ) → is_finish frame ≡ false → wire_of n a frame ≡ wire_of m b frame
plain_anywhere (Item s) n m a b h = refl
plain_anywhere (Mark capture at) n m a b h = refl
plain_anywhere (CaptureEnd capture) n m a b h = refl
plain_anywhere (GroupHead first members key) n m a b h = refl
plain_anywhere (Member at vals) n m a b h = refl
plain_anywhere (GroupMark at) n m a b h = refl
plain_anywhere (AnswerRow r) n m a b h = refl
plain_anywhere (Profile p) n m a b h = refl
plain_anywhere (CountsRow capture c) n m a b h = refl
plain_anywhere Finish n m a b h = absurd (let e : true ≡ false = h in cc)

carried_one_more : (count : ℕ) (front : List ℕ) (frames : List Frame) (frame : Frame)
    → carried count front (frames ++ frame ∷ []) ≡ carried count front frames ++ framed (wire_of (count + length frames) (front ++ carried count front frames) frame)
carried_one_more count front [] frame =
    let none : count ≡ count + 0 = omega arith in
    append-nil (framed (wire_of count front frame)) ∙ ap₂ (λ (n : ℕ) (so_far : List ℕ). framed (wire_of n so_far frame)) none (sym (append-nil front))
carried_one_more count front (f ∷ frames) frame =
    let here : List ℕ = framed (wire_of count front f) in
    let later : List ℕ = carried (count + 1) (front ++ here) frames in
    let one_on : (count + 1) + length frames ≡ count + length (f ∷ frames) = omega arith in
    ap (λ more. here ++ more) (carried_one_more (count + 1) (front ++ here) frames frame)
    ∙ sym (append_assoc here later (framed (wire_of ((count + 1) + length frames) ((front ++ here) ++ later) frame)))
    ∙ ap₂ (λ (n : ℕ) (so_far : List ℕ). (here ++ later) ++ framed (wire_of n so_far frame)) one_on (append_assoc front here later)

-- the bytes of one frame more
pub bytes_one_more : (frames : List Frame) (frame : Frame) → bytes_of_all (frames ++ frame ∷ []) ≡ bytes_of_all frames ++ framed (wire_behind frames frame)
bytes_one_more frames frame =
    let none : 0 + length frames ≡ length frames = omega arith in
    carried_one_more 0 [] frames frame ∙ ap (λ n. bytes_of_all frames ++ framed (wire_of n (bytes_of_all frames) frame)) none

or_none : (a : Bool) → a || false ≡ a
or_none true = refl
or_none false = refl

-- the end is among the frames, or is the one frame more
pub finish_one_more : (frames : List Frame) (frame : Frame) → has_finish frames ≡ false → has_finish (frames ++ frame ∷ []) ≡ is_finish frame
finish_one_more [] frame h = or_none (is_finish frame)
finish_one_more (f ∷ frames) frame h = or_first (is_finish f) (has_finish frames) (has_finish (frames ++ frame ∷ [])) (is_finish frame) h (finish_one_more frames frame)
  where
    or_first : (a b c d : Bool) → a || b ≡ false → (b ≡ false → c ≡ d) → a || c ≡ d
    or_first true b c d h e = absurd (let k : true ≡ false = h in cc)
    or_first false b c d h e = e h

stays : (a b : Bool) (frames more : List Frame) → a || b ≡ false → (b ≡ false → FinishIsLast more) → (IsTrue a → more ≡ []) × FinishIsLast more
stays true b frames more h later = absurd (let k : true ≡ false = h in cc)
stays false b frames more h later = ((λ no. let k : false ≡ true = no in cc), later h)

pub finish_stays_last : (frames : List Frame) (frame : Frame) → has_finish frames ≡ false → FinishIsLast (frames ++ frame ∷ [])
finish_stays_last [] frame h = ((λ _. refl), tt)
finish_stays_last (f ∷ frames) frame h = stays (is_finish f) (has_finish frames) frames (frames ++ frame ∷ []) h (finish_stays_last frames frame)
