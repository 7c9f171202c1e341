-- The verdict on rewritten packets.
use Rattle.std.specs.Prelude.{ℕ, ◌≡◌, ◌+◌, ◌<◌, not, List, [], ◌∷◌, Option, Some, None, All, slice_get}
use Rattle.std.specs.List.{position_from}
use Rattle.ds_base.specs.declared.summary.Summary.{Summary}
use Rattle.ds_base.specs.declared.verdict.Verdict.{Verdict}
use Rattle.ds_base.specs.declared.verdict.Verdict.TheVariants.{Fine, Rewrite}
use Rattle.rewrite_judge.specs.declared.rule.Rule.{Rule}
use Rattle.rewrite_judge.specs.Rule.{Keeps, keeps}
use Rattle.rewrite_judge.specs.Pairs.{pairs}

-- the pair keeps each rule
abbrev pub KeepsAll : List Rule → Summary × Summary → Type 0
KeepsAll rules pair = All (λ rule. Keeps rule pair) rules

-- pair p breaks rule r; each earlier pair keeps all rules, and pair p each earlier rule
pub record IsFirstBreak (rules : List Rule) (all : List (Summary × Summary)) (p r : ℕ) : Type 0 where
  pub pair : Summary × Summary
  pub pair_is : slice_get all p ≡ Some pair
  pub earlier_pairs : (k : ℕ) (other : Summary × Summary) → k < p → slice_get all k ≡ Some other → KeepsAll rules other
  pub rule : Rule
  pub rule_is : slice_get rules r ≡ Some rule
  pub broken : ¬ Keeps rule pair
  pub earlier_rules : (k : ℕ) (other : Rule) → k < r → slice_get rules k ≡ Some other → Keeps other pair

-- Rewrite with the least pair that breaks a rule, and its first broken rule; Fine where there is none
abbrev pub IsRewriteVerdict : ℕ → ℕ → List Rule → List Summary → Verdict → Type 0
IsRewriteVerdict from to rules members Fine = All (KeepsAll rules) (pairs from to members)
IsRewriteVerdict from to rules members (Rewrite p r) = IsFirstBreak rules (pairs from to members) p r
IsRewriteVerdict from to rules members _ = ⊥

-- the number of the first rule that the pair breaks
abbrev pub first_broken : List Rule → Summary × Summary → Option ℕ
first_broken rules pair = position_from (λ rule. not (keeps rule pair)) 0 rules

-- pair n breaks a rule, or a later one may
abbrev pub rewrite_at : ℕ → Option ℕ → Verdict → Verdict
rewrite_at n None later = later
rewrite_at n (Some rule) later = Rewrite n rule

-- the verdict on pairs that are numbered from n
abbrev pub rewrite_from : List Rule → ℕ → List (Summary × Summary) → Verdict
rewrite_from rules n [] = Fine
rewrite_from rules n (pair ∷ later) = rewrite_at n (first_broken rules pair) (rewrite_from rules (n + 1) later)

-- that verdict, computed
abbrev pub rewrite_verdict : ℕ → ℕ → List Rule → List Summary → Verdict
rewrite_verdict from to rules members = rewrite_from rules 0 (pairs from to members)
