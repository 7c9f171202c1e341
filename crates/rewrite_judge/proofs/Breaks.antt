use Rattle.std.proofs.Common.{◌≡◌, ℕ, ◌+◌, ◌<◌, ◌≤◌, not, List, [], ◌∷◌, ◌++◌, Option, Some, None, length, get_or, All, refl, sym, ap, ◌∙◌, subst, arith, slice_get, ◌⊎◌, inl, inr, append_assoc}
use Rattle.std.proofs.lemmas.List.{append-nil, length-append}
use Rattle.std.proofs.lemmas.Option.{none-some, same_Some, slice_get_within, slice_get-get_or}
use Rattle.std.proofs.lemmas.Bool.{cases_lt}
use Rattle.ds_base.proofs.Places.{all_at, at_left, at_seam}
use Rattle.ds_base.specs.declared.summary.Summary.{Summary}
use Rattle.ds_base.specs.declared.verdict.Verdict.{Verdict}
use Rattle.ds_base.specs.declared.verdict.Verdict.TheVariants.{Fine, Rewrite}
use Rattle.rewrite_judge.specs.declared.rule.Rule.{Rule}
use Rattle.rewrite_judge.specs.Rule.{Keeps, keeps}
use Rattle.rewrite_judge.specs.Pairs.{pairs}
use Rattle.rewrite_judge.specs.Rewrite.{KeepsAll, IsFirstBreak, IsRewriteVerdict, first_broken, rewrite_at, rewrite_from, rewrite_verdict}
use Rattle.rewrite_judge.proofs.Places.{position-found, position-none, PlacedAt}
use Rattle.rewrite_judge.proofs.Kept.{Keeps-from_test, breaks-from_test}

-- the verdict on a list of pairs
abbrev IsVerdictOn : List Rule → List (Summary × Summary) → Verdict → Type 0
IsVerdictOn rules all Fine = All (KeepsAll rules) all
IsVerdictOn rules all (Rewrite p r) = IsFirstBreak rules all p r
IsVerdictOn rules all _ = ⊥

abbrev EachKeeps : List Rule → List (Summary × Summary) → Type 0
EachKeeps rules front = (k : ℕ) (other : Summary × Summary) → slice_get front k ≡ Some other → KeepsAll rules other

KeepsAll-from_none : (rules : List Rule) (pair : Summary × Summary) → first_broken rules pair ≡ None → KeepsAll rules pair
KeepsAll-from_none rules pair none k d lt =
    Keeps-from_test (get_or rules k d) pair (position-none (λ (rule : Rule). not (keeps rule pair)) 0 rules k (get_or rules k d) none (slice_get-get_or rules k d lt))

EachKeeps-push : (rules : List Rule) (front : List (Summary × Summary)) (pair : Summary × Summary) → EachKeeps rules front → KeepsAll rules pair → EachKeeps rules (front ++ pair ∷ [])
EachKeeps-push rules front pair each keeps_all k other at =
    let within = slice_get_within (front ++ pair ∷ []) k other at in
    let c : (k < length front) ⊎ (length front ≤ k) = cases_lt k (length front) in
    elim c [
      | inl lt ↦ each k other (sym (at_left front (pair ∷ []) k lt) ∙ at)
      | inr le ↦
          let last : length front ≡ k = omega (arith, length-append front (pair ∷ [])) in
          let same : pair ≡ other = same_Some pair other (sym (at_seam front [] pair) ∙ ap (slice_get (front ++ pair ∷ [])) last ∙ at) in
          let P : Summary × Summary → Type 0 = KeepsAll rules in
          subst P same keeps_all
    ]

IsFirstBreak-here : (rules : List Rule) (front later : List (Summary × Summary)) (pair : Summary × Summary) (r : ℕ) → EachKeeps rules front → first_broken rules pair ≡ Some r → IsFirstBreak rules (front ++ pair ∷ later) (length front) r
IsFirstBreak-here rules front later pair r each some =
    let found = position-found (λ (rule : Rule). not (keeps rule pair)) 0 rules r some in
    let same : found.0 ≡ r = omega (arith, found.1) in
    let P : ℕ → Type 0 = PlacedAt (λ (rule : Rule). not (keeps rule pair)) rules in
    let placed : PlacedAt (λ (rule : Rule). not (keeps rule pair)) rules r = subst P same found.2 in
    record {
      pair = pair;
      pair_is = at_seam front later pair;
      earlier_pairs = λ k other lt at. each k other (sym (at_left front (pair ∷ later) k lt) ∙ at);
      rule = placed.item;
      rule_is = placed.at_place;
      broken = breaks-from_test placed.item pair placed.passes;
      earlier_rules = λ k other lt at. Keeps-from_test other pair (placed.none_before k other lt at);
    }

rewrite_at-is : (rules : List Rule) (front later : List (Summary × Summary)) (pair : Summary × Summary) (found : Option ℕ) (next : Verdict) → EachKeeps rules front
    → first_broken rules pair ≡ found
    → (first_broken rules pair ≡ None → IsVerdictOn rules (front ++ pair ∷ later) next)
    → IsVerdictOn rules (front ++ pair ∷ later) (rewrite_at (length front) found next)
rewrite_at-is rules front later pair None next each e go = go e
rewrite_at-is rules front later pair (Some r) next each e go = IsFirstBreak-here rules front later pair r each e

length-push : {X : Type 0} (xs : List X) (x : X) → length (xs ++ x ∷ []) ≡ length xs + 1
length-push xs x = length-append xs (x ∷ [])

rewrite_from-is : (rules : List Rule) (front later : List (Summary × Summary)) → EachKeeps rules front → IsVerdictOn rules (front ++ later) (rewrite_from rules (length front) later)
rewrite_from-is rules front [] each = λ k d lt. each k (get_or (front ++ []) k d) (ap (λ xs. slice_get xs k) (sym (append-nil front)) ∙ slice_get-get_or (front ++ []) k d lt)
rewrite_from-is rules front (pair ∷ later) each =
    rewrite_at-is rules front later pair (first_broken rules pair) (rewrite_from rules (length front + 1) later) each refl
    (λ none.
    let P : List (Summary × Summary) → Type 0 = λ all. IsVerdictOn rules all (rewrite_from rules (length front + 1) later) in
    let Q : ℕ → Type 0 = λ n. IsVerdictOn rules ((front ++ pair ∷ []) ++ later) (rewrite_from rules n later) in
    subst P (append_assoc front (pair ∷ []) later)
    (subst Q (length-push front pair) (rewrite_from-is rules (front ++ pair ∷ []) later (EachKeeps-push rules front pair each (KeepsAll-from_none rules pair none)))))

on_members : (from to : ℕ) (rules : List Rule) (members : List Summary) (v : Verdict) → IsVerdictOn rules (pairs from to members) v → IsRewriteVerdict from to rules members v
on_members from to rules members Fine h = h
on_members from to rules members (Rewrite p r) h = h
on_members from to rules members _ h = elim h [ ]

pub rewrite_verdict-is : (from to : ℕ) (rules : List Rule) (members : List Summary) → IsRewriteVerdict from to rules members (rewrite_verdict from to rules members)
rewrite_verdict-is from to rules members =
    on_members from to rules members (rewrite_verdict from to rules members)
    (rewrite_from-is rules [] (pairs from to members) (λ k other at. absurd (none-some other at)))

-- exactly one verdict meets the definition
not_all : (rules : List Rule) (all : List (Summary × Summary)) (p r : ℕ) → (b : IsFirstBreak rules all p r) → KeepsAll rules b.pair → ⊥
not_all rules all p r b keeps_all = b.broken (all_at (λ (rule : Rule). Keeps rule b.pair) rules r b.rule keeps_all b.rule_is)

not_earlier : (rules : List Rule) (all : List (Summary × Summary)) (p r q s : ℕ) → IsFirstBreak rules all p r → IsFirstBreak rules all q s → p < q → ⊥
not_earlier rules all p r q s a b lt = not_all rules all p r a (b.earlier_pairs p a.pair lt a.pair_is)

not_earlier_rule : (rules : List Rule) (all : List (Summary × Summary)) (p r s : ℕ) → IsFirstBreak rules all p r → IsFirstBreak rules all p s → r < s → ⊥
not_earlier_rule rules all p r s a b lt =
    let same : b.pair ≡ a.pair = same_Some b.pair a.pair (sym b.pair_is ∙ a.pair_is) in
    let P : Summary × Summary → Type 0 = Keeps a.rule in
    a.broken (subst P same (b.earlier_rules r a.rule lt a.rule_is))

neither_less : (m n : ℕ) → (m < n → ⊥) → (n < m → ⊥) → m ≡ n
neither_less m n a b =
    let c : (m < n) ⊎ (n ≤ m) = cases_lt m n in
    let d : (n < m) ⊎ (m ≤ n) = cases_lt n m in
    elim c [ inl lt ↦ absurd (a lt) | inr le ↦ elim d [ inl lt ↦ absurd (b lt) | inr ge ↦ omega arith ] ]

same_break : (rules : List Rule) (all : List (Summary × Summary)) (p r q s : ℕ) → IsFirstBreak rules all p r → IsFirstBreak rules all q s → Rewrite p r ≡ Rewrite q s
same_break rules all p r q s a b =
    let pair_same : p ≡ q = neither_less p q (not_earlier rules all p r q s a b) (not_earlier rules all q s p r b a) in
    let P : ℕ → Type 0 = λ n. IsFirstBreak rules all n r in
    let moved : IsFirstBreak rules all q r = subst P pair_same a in
    let rule_same : r ≡ s = neither_less r s (not_earlier_rule rules all q r s moved b) (not_earlier_rule rules all q s r b moved) in
    ap (λ n. Rewrite n r) pair_same ∙ ap (λ n. Rewrite q n) rule_same

same_verdict : (from to : ℕ) (rules : List Rule) (members : List Summary) (v w : Verdict) → IsRewriteVerdict from to rules members v → IsRewriteVerdict from to rules members w → v ≡ w
same_verdict from to rules members Fine Fine a b = refl
same_verdict from to rules members Fine (Rewrite q s) a b =
    absurd (not_all rules (pairs from to members) q s b (all_at (KeepsAll rules) (pairs from to members) q b.pair a b.pair_is))
same_verdict from to rules members (Rewrite p r) Fine a b =
    absurd (not_all rules (pairs from to members) p r a (all_at (KeepsAll rules) (pairs from to members) p a.pair b a.pair_is))
same_verdict from to rules members (Rewrite p r) (Rewrite q s) a b = same_break rules (pairs from to members) p r q s a b
same_verdict from to rules members Fine _ a b = elim b [ ]
same_verdict from to rules members (Rewrite p r) _ a b = elim b [ ]
same_verdict from to rules members _ w a b = elim a [ ]

pub rewrite_only : (from to : ℕ) (rules : List Rule) (members : List Summary) (other : Verdict) → IsRewriteVerdict from to rules members other → other ≡ rewrite_verdict from to rules members
rewrite_only from to rules members other h =
    same_verdict from to rules members other (rewrite_verdict from to rules members) h (rewrite_verdict-is from to rules members)
