use Rattle.std.proofs.Common.{ℕ, List, ◌≡◌, ◌≤◌, ◌+◌, ◌-◌, ◌++◌, length, take, drop, sym, ap, ◌∙◌, arith, length-drop}
use Rattle.std.proofs.lemmas.List.{take-append-drop, drop-drop, take_at, length-take-le}

-- the bytes from place g on are those that were moved to the front, and those after them
pub moved : (bs front rest : List ℕ) (g n : ℕ) → g + n ≤ length bs → front ≡ take (g + n - g) (drop g bs)
    → drop g bs ≡ take n (front ++ rest) ++ drop (g + n) bs
moved bs front rest g n within is =
    let same : g + n - g ≡ n = omega arith in
    let taken : front ≡ take n (drop g bs) = is ∙ ap (λ k. take k (drop g bs)) same in
    let long : length front ≡ n = ap length taken ∙ length-take-le n (drop g bs) (omega (arith, length-drop g bs)) in
    sym (ap (λ xs. xs ++ drop (g + n) bs) (take_at front rest n long ∙ taken) ∙ ap (λ ys. take n (drop g bs) ++ ys) (sym (drop-drop n g bs)) ∙ take-append-drop n (drop g bs))
