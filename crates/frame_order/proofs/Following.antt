-- Frames that are lawful, and one more that may follow.
use Rattle.std.proofs.Common.{List, [], ◌∷◌, ◌++◌, ◌≡◌, sym, subst, append_assoc}
use Rattle.std.proofs.lemmas.List.{append-nil}
use Rattle.node_frames.specs.declared.frame.Frame.{Frame}
use Rattle.run_law.specs.Links.{MayFollow, AreLawfulBehind, AreLawful}

behind_more : (Own : List Frame → Frame → Type 0) (before xs : List Frame) (f : Frame) → AreLawfulBehind Own before xs → MayFollow Own (before ++ xs) f
    → AreLawfulBehind Own before (xs ++ f ∷ [])
behind_more Own before [] f h m = (subst (λ b. MayFollow Own b f) (append-nil before) m, tt)
behind_more Own before (x ∷ xs) f h m =
    (h.0, behind_more Own (before ++ x ∷ []) xs f h.1 (subst (λ b. MayFollow Own b f) (sym (append_assoc before (x ∷ []) xs)) m))

pub lawful_more : (Own : List Frame → Frame → Type 0) (before after : List Frame) (f : Frame) → after ≡ before ++ f ∷ [] → MayFollow Own before f
    → AreLawful Own before → AreLawful Own after
lawful_more Own before after f e m h = subst (AreLawful Own) (sym e) (behind_more Own [] before f h m)
