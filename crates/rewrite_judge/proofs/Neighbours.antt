use Rattle.std.proofs.Common.{◌≡◌, ℕ, ◌+◌, ◌-◌, ◌<◌, ◌≤◌, true, false, List, [], ◌∷◌, Some, None, length, drop, refl, sym, ap, ◌∙◌, arith, cond, slice_get}
use Rattle.std.proofs.lemmas.List.{length-drop}
use Rattle.ds_base.proofs.Places.{drop_at}
use Rattle.ds_base.specs.declared.summary.Summary.{Summary}
use Rattle.ds_base.specs.declared.verdict.Verdict.TheVariants.{Fine, Rewrite}
use Rattle.rewrite_judge.specs.declared.rule.Rule.{Rule}
use Rattle.rewrite_judge.specs.Pairs.{crosses, pairs}
use Rattle.rewrite_judge.specs.Rewrite.{first_broken, rewrite_at, rewrite_from, rewrite_verdict}

-- the pairs from a member on: it and the next, if they cross, and then those from the next on
pairs-here : (from to : ℕ) (members : List Summary) (k : ℕ) (first second : Summary) → slice_get members k ≡ Some first → slice_get members (k + 1) ≡ Some second
    → pairs from to (drop k members) ≡ cond (crosses from to (first, second)) ((first, second) ∷ pairs from to (drop (k + 1) members)) (pairs from to (drop (k + 1) members))
pairs-here from to members k first second at next =
    let behind = drop_at members (k + 1) second next in
    ap (pairs from to) (drop_at members k first at ∙ ap (λ ms. first ∷ ms) behind)
    ∙ ap (λ ms. cond (crosses from to (first, second)) ((first, second) ∷ pairs from to ms) (pairs from to ms)) (sym behind)

pairs-few : (from to : ℕ) (members : List Summary) → length members ≤ 1 → pairs from to members ≡ []
pairs-few from to [] few = refl
pairs-few from to (only ∷ []) few = refl
pairs-few from to (first ∷ (second ∷ members)) few = absurd (omega arith)

-- the pairs before `next` were tried, `pair` in number, and break no rule
pub record Passed (from to : ℕ) (rules : List Rule) (members : List Summary) (next pair : ℕ) : Type 0 where
  pub fewer : pair < next
  pub rest : rewrite_from rules pair (pairs from to (drop (next - 1) members)) ≡ rewrite_verdict from to rules members

-- the rest from the next member on
rest-same : (from to : ℕ) (rules : List Rule) (members : List Summary) (next k pair : ℕ) (first second : Summary) → next ≡ k + 1 → slice_get members k ≡ Some first → slice_get members (k + 1) ≡ Some second
    → Passed from to rules members next pair → crosses from to (first, second) ≡ false
    → rewrite_from rules pair (pairs from to (drop (k + 1) members)) ≡ rewrite_verdict from to rules members
rest-same from to rules members next k pair first second turn at after p apart =
    let back : next - 1 ≡ k = omega arith in
    ap (λ b. rewrite_from rules pair (cond b ((first, second) ∷ pairs from to (drop (k + 1) members)) (pairs from to (drop (k + 1) members)))) (sym apart)
    ∙ ap (rewrite_from rules pair) (sym (pairs-here from to members k first second at after))
    ∙ ap (λ n. rewrite_from rules pair (pairs from to (drop n members))) (sym back)
    ∙ p.rest

rest-more : (from to : ℕ) (rules : List Rule) (members : List Summary) (next k pair : ℕ) (first second : Summary) → next ≡ k + 1 → slice_get members k ≡ Some first → slice_get members (k + 1) ≡ Some second
    → Passed from to rules members next pair → crosses from to (first, second) ≡ true
    → rewrite_at pair (first_broken rules (first, second)) (rewrite_from rules (pair + 1) (pairs from to (drop (k + 1) members))) ≡ rewrite_verdict from to rules members
rest-more from to rules members next k pair first second turn at after p one =
    let back : next - 1 ≡ k = omega arith in
    ap (λ b. rewrite_from rules pair (cond b ((first, second) ∷ pairs from to (drop (k + 1) members)) (pairs from to (drop (k + 1) members)))) (sym one)
    ∙ ap (rewrite_from rules pair) (sym (pairs-here from to members k first second at after))
    ∙ ap (λ n. rewrite_from rules pair (pairs from to (drop n members))) (sym back)
    ∙ p.rest

pub Passed-apart : (from to : ℕ) (rules : List Rule) (members : List Summary) (next k pair : ℕ) (first second : Summary) → next ≡ k + 1 → slice_get members k ≡ Some first → slice_get members next ≡ Some second
    → Passed from to rules members next pair → crosses from to (first, second) ≡ false → Passed from to rules members (next + 1) pair
Passed-apart from to rules members next k pair first second turn at after p apart =
    let f = p.fewer in
    let back : next + 1 - 1 ≡ k + 1 = omega arith in
    record {
      fewer = omega arith;
      rest = ap (λ n. rewrite_from rules pair (pairs from to (drop n members))) back
          ∙ rest-same from to rules members next k pair first second turn at (ap (slice_get members) (sym turn) ∙ after) p apart;
    }

pub Passed-kept : (from to : ℕ) (rules : List Rule) (members : List Summary) (next k pair : ℕ) (first second : Summary) → next ≡ k + 1 → slice_get members k ≡ Some first → slice_get members next ≡ Some second
    → Passed from to rules members next pair → crosses from to (first, second) ≡ true → first_broken rules (first, second) ≡ None → Passed from to rules members (next + 1) (pair + 1)
Passed-kept from to rules members next k pair first second turn at after p one none =
    let f = p.fewer in
    let back : next + 1 - 1 ≡ k + 1 = omega arith in
    record {
      fewer = omega arith;
      rest = ap (λ n. rewrite_from rules (pair + 1) (pairs from to (drop n members))) back
          ∙ ap (λ found. rewrite_at pair found (rewrite_from rules (pair + 1) (pairs from to (drop (k + 1) members)))) (sym none)
          ∙ rest-more from to rules members next k pair first second turn at (ap (slice_get members) (sym turn) ∙ after) p one;
    }

pub Passed-broken : (from to : ℕ) (rules : List Rule) (members : List Summary) (next k pair rule : ℕ) (first second : Summary) → next ≡ k + 1 → slice_get members k ≡ Some first → slice_get members next ≡ Some second
    → Passed from to rules members next pair → crosses from to (first, second) ≡ true → first_broken rules (first, second) ≡ Some rule → Rewrite pair rule ≡ rewrite_verdict from to rules members
Passed-broken from to rules members next k pair rule first second turn at after p one some =
    ap (λ found. rewrite_at pair found (rewrite_from rules (pair + 1) (pairs from to (drop (k + 1) members)))) (sym some)
    ∙ rest-more from to rules members next k pair first second turn at (ap (slice_get members) (sym turn) ∙ after) p one

pub Passed-end : (from to : ℕ) (rules : List Rule) (members : List Summary) (next pair : ℕ) → Passed from to rules members next pair → length members ≤ next → Fine ≡ rewrite_verdict from to rules members
Passed-end from to rules members next pair p end =
    let few : length (drop (next - 1) members) ≤ 1 = omega (arith, length-drop (next - 1) members) in
    ap (rewrite_from rules pair) (sym (pairs-few from to (drop (next - 1) members) few)) ∙ p.rest
