-- Lists of links with the frames that wait for them, by index.
use Rattle.std.proofs.Common.{ℕ, zero, suc, ◌+◌, ◌<◌, ◌≤◌, ◌≡◌, List, [], ◌∷◌, ◌++◌, length, take, drop, get_or, refl, sym, ap, ◌∙◌, arith, append-nil, append_assoc, length-append, ⊎_elim, ◌⊎◌}
use Rattle.std.specs.List.{sum_by}
use Rattle.std.proofs.lemmas.List.{take-append-drop, take-append-le, take_all}
use Rattle.std.proofs.lemmas.List.Sums.{sum_by-cons}
use Rattle.node_frames.specs.declared.frame.Frame.{Frame}
use Rattle.credit_link.specs.Ends.{TxSeen}
use Rattle.shuffle_poll.specs.Lanes.{put_on as all_put}
use Rattle.shuffle_poll.specs.Shuffles.{ShuffleSeen, lane_at, lane_of}
use Rattle.round_law.specs.Links.{Sender}
use Rattle.round_law.specs.Views.{sender_view}
use Rattle.run_law.specs.Shapes.{IsFront}
use Rattle.node_lanes.specs.Ends.{puts_with, put_on, senders_with}

pub before_or_not : (k n : ℕ) → (k < n) ⊎ (n ≤ k)
before_or_not k n = grind arith

-- ---- fronts

pub front_same : {X : Type 0} (xs ys : List X) → ys ≡ xs → IsFront xs ys
front_same xs ys same = record { rest = []; joined = same ∙ sym (append-nil xs) }

-- of two lists that were cut from one, the longer has the shorter as its front
pub front_of : {X : Type 0} (a b c d : List X) → a ++ b ≡ c ++ d → length b ≤ length d → IsFront c a
front_of a b c d whole fewer =
    let long : length a + length b ≡ length c + length d = sym (length-append a b) ∙ ap length whole ∙ length-append c d in
    let within : length c ≤ length a = omega (arith, long, fewer) in
    let cut : take (length c) a ≡ c =
    sym (take-append-le (length c) a b within) ∙ ap (λ l. take (length c) l) whole ∙ take-append-le (length c) c d (omega arith) ∙ take_all (length c) c (omega arith) in
    record { rest = drop (length c) a; joined = sym (take-append-drop (length c) a) ∙ ap (λ l. l ++ drop (length c) a) cut }

pub front_trans : {X : Type 0} (xs ys zs : List X) → IsFront xs ys → IsFront ys zs → IsFront xs zs
front_trans xs ys zs f g = record { rest = f.rest ++ g.rest; joined = g.joined ∙ ap (λ l. l ++ g.rest) f.joined ∙ append_assoc xs f.rest g.rest }

-- ---- the frames put for a link

pub puts_at : (links : List TxSeen) (queues : List (List Frame)) (k : ℕ) (d : TxSeen) → k < length links → get_or (puts_with links queues) k [] ≡ all_put (lane_at links queues k d)
puts_at [] queues k d less = absurd (omega arith)
puts_at (l ∷ links) [] zero d less = sym (append-nil l.offered)
puts_at (l ∷ links) [] (suc k) d less = puts_at links [] k d (omega arith)
puts_at (l ∷ links) (q ∷ queues) zero d less = refl
puts_at (l ∷ links) (q ∷ queues) (suc k) d less = puts_at links queues k d (omega arith)

pub puts_past : (links : List TxSeen) (queues : List (List Frame)) (k : ℕ) → length links ≤ k → get_or (puts_with links queues) k [] ≡ []
puts_past [] queues k past = refl
puts_past (l ∷ links) [] zero past = absurd (omega arith)
puts_past (l ∷ links) [] (suc k) past = puts_past links [] k (omega arith)
puts_past (l ∷ links) (q ∷ queues) zero past = absurd (omega arith)
puts_past (l ∷ links) (q ∷ queues) (suc k) past = puts_past links queues k (omega arith)

-- what is put for each link is as before where it is by lanes
pub puts_same : (before after : ShuffleSeen) → length after.links ≡ length before.links → ((k : ℕ) (d : TxSeen) → all_put (lane_of after k d) ≡ all_put (lane_of before k d))
    → (k : ℕ) → put_on after k ≡ put_on before k
puts_same before after long same k =
    ⊎_elim
    (λ (there : k < length before.links).
    let d : TxSeen = some_of before.links k there in
    puts_at after.links after.queues k d (omega (arith, there, long)) ∙ same k d ∙ sym (puts_at before.links before.queues k d there))
    (λ (past : length before.links ≤ k). puts_past after.links after.queues k (omega (arith, past, long)) ∙ sym (puts_past before.links before.queues k past))
    (before_or_not k (length before.links))
  where
    some_of : (links : List TxSeen) (k : ℕ) → k < length links → TxSeen
    some_of [] k less = absurd (omega arith)
    some_of (l ∷ links) k less = l

-- ---- the senders

pub senders_long : (links : List TxSeen) (queues : List (List Frame)) → length (senders_with links queues) ≡ length links
senders_long [] queues = refl
senders_long (l ∷ links) [] = ap suc (senders_long links [])
senders_long (l ∷ links) (q ∷ queues) = ap suc (senders_long links queues)

pub senders_at : (links : List TxSeen) (queues : List (List Frame)) (k : ℕ) (s : Sender) (d : TxSeen) → k < length links
    → get_or (senders_with links queues) k s ≡ sender_view (length (get_or queues k [])) (get_or links k d)
senders_at [] queues k s d less = absurd (omega arith)
senders_at (l ∷ links) [] zero s d less = refl
senders_at (l ∷ links) [] (suc k) s d less = senders_at links [] k s d (omega arith)
senders_at (l ∷ links) (q ∷ queues) zero s d less = refl
senders_at (l ∷ links) (q ∷ queues) (suc k) s d less = senders_at links queues k s d (omega arith)

-- ---- sums

-- where each term rises by a term of a third list, the sum rises by its sum
pub sum_adds : {X Y : Type 0} (f : X → ℕ) (g : Y → ℕ) (d : X) (e : Y) (xs ys : List X) (rises : List Y) → length ys ≡ length xs → length rises ≡ length xs
    → ((k : ℕ) → k < length xs → f (get_or ys k d) ≡ f (get_or xs k d) + g (get_or rises k e)) → sum_by f ys ≡ sum_by f xs + sum_by g rises
sum_adds f g d e [] [] [] long count each = refl
sum_adds f g d e [] [] (r ∷ rises) long count each = absurd (omega arith)
sum_adds f g d e [] (y ∷ ys) rises long count each = absurd (omega arith)
sum_adds f g d e (x ∷ xs) [] rises long count each = absurd (omega arith)
sum_adds f g d e (x ∷ xs) (y ∷ ys) [] long count each = absurd (omega arith)
sum_adds f g d e (x ∷ xs) (y ∷ ys) (r ∷ rises) long count each =
    let first : f y ≡ f x + g r = each 0 (omega arith) in
    let rest : sum_by f ys ≡ sum_by f xs + sum_by g rises = sum_adds f g d e xs ys rises (omega arith) (omega arith) (λ k less. each (suc k) (omega arith)) in
    omega (arith, sum_by-cons f x xs, sum_by-cons f y ys, sum_by-cons g r rises)
