-- A stack whose topmost frame stands last.
use Rattle.std.proofs.Common.{◌≡◌, ℕ, zero, suc, ◌-◌, ◌≤◌, true, false, List, [], ◌∷◌, ◌++◌, length, take, map, reverse, slice_get, Option, Some, None, option_map, refl, ap, sym, ◌∙◌, arith}
use Rattle.std.proofs.lemmas.List.{map-append, reverse-append, take_all}
use Rattle.std.proofs.lemmas.Option.{slice_get_within}
use Rattle.query_syntax.specs.declared.stack.Frame.{Frame}
use Rattle.query_syntax.specs.Frames.{frame_of, frames}
use Rattle.query_syntax.specs.Machine as machine
use Rattle.query_syntax.specs.Tree.{Tree, Joined}
use Rattle.query_tokens.specs.declared.token.Operator.{Operator}

pub frames_push : (items : List Frame) (frame : Frame) → frames (items ++ frame ∷ []) ≡ frame_of frame ∷ frames items
frames_push items frame = ap reverse (map-append frame_of items (frame ∷ [])) ∙ reverse-append (map frame_of items) (frame_of frame ∷ [])

take_suc : (items : List Frame) (i : ℕ) (f : Frame) → slice_get items i ≡ Some f → take (suc i) items ≡ take i items ++ f ∷ []
take_suc [] i f e = absurd (never e)
  where
    never : ◌≡◌ {A = Option Frame} None (Some f) → ⊥
    never e = cc
take_suc (x ∷ items) zero f e = let same : x ≡ f = cc in ap (λ y. y ∷ []) same
take_suc (x ∷ items) (suc i) f e = ap (λ l. x ∷ l) (take_suc items i f e)

-- the topmost frame is the last item
pub topmost_some : (items : List Frame) (f : Frame) → slice_get items (length items - 1) ≡ Some f → machine.topmost (frames items) ≡ Some (frame_of f)
topmost_some items f e =
    let within = slice_get_within items (length items - 1) f e in
    let long : length items ≤ suc (length items - 1) = omega arith in
    let split = sym (take_all (suc (length items - 1)) items long) ∙ take_suc items (length items - 1) f e in
    ap (λ l. machine.topmost (frames l)) split ∙ ap machine.topmost (frames_push (take (length items - 1) items) f)

pub topmost_none : (items : List Frame) → slice_get items (length items - 1) ≡ None → machine.topmost (frames items) ≡ None
topmost_none [] e = refl
topmost_none (x ∷ items) e = absurd (at_end (length items) e)
  where
    get_last : (x : Frame) (items : List Frame) → slice_get (x ∷ items) (length items) ≡ None → ⊥
    get_last x [] e = cc
    get_last x (y ∷ items) e = get_last y items e

    at_end : (n : ℕ) → slice_get (x ∷ items) (length (x ∷ items) - 1) ≡ None → ⊥
    at_end n e = let same : length (x ∷ items) - 1 ≡ length items = omega arith in get_last x items (rw same at e)

pub topmost_is : (items : List Frame) (o : Option Frame) → o ≡ slice_get items (length items - 1) → option_map frame_of o ≡ machine.topmost (frames items)
topmost_is items None e = sym (topmost_none items (sym e))
topmost_is items (Some f) e = sym (topmost_some items f (sym e))

-- nothing binds, so nothing is reduced
pub reduce_stays : (level : ℕ) (stack : List machine.Frame) (t : Tree) → machine.binds level stack ≡ false → machine.reduce level stack t ≡ (stack, t)
reduce_stays level [] t e = refl
reduce_stays level (machine.Pending l operator ∷ stack) t e = rw e refl
reduce_stays level (machine.Opened ∷ stack) t e = refl
reduce_stays level (machine.NotOpened at ∷ stack) t e = refl

-- the topmost binds, so it is joined
pub reduce_joins : (level : ℕ) (stack below : List machine.Frame) (l t : Tree) (operator : Operator) → machine.binds level stack ≡ true → stack ≡ machine.Pending l operator ∷ below → machine.reduce level stack t ≡ machine.reduce level below (Joined operator l t)
reduce_joins level stack below l t operator e f = let g = rw f at e in rw f (rw g refl)
