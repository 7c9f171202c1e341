-- What the judge of rewrites asks of a group, and that rules judge alike with room in memory and without.
use Rattle.std.proofs.Common.{◌≡◌, ℕ, ◌+◌, ◌<◌, List, [], ◌∷◌, length, map, refl, sym, ◌∙◌, subst, arith, All}
use Rattle.std.specs.Prelude.{not}
use Rattle.std.specs.List.{position_from}
use Rattle.std.proofs.lemmas.List.{length-map}
use Rattle.std.proofs.lemmas.List.Elements.{All-nil, All-cons, All-head, All-tail}
use Rattle.ds_base.specs.Items.{Items}
use Rattle.ds_base.specs.declared.summary.Summary.{Summary}
use Rattle.ds_base.specs.declared.verdict.Verdict.{Verdict}
use Rattle.rewrite_judge.specs.Pairs.{pairs}
use Rattle.rewrite_judge.specs.Rewrite.{IsRewriteVerdict, rewrite_from, rewrite_verdict}
use Rattle.rewrite_judge.specs.Rule.{agree, keeps}
use Rattle.rewrite_judge.specs.declared.rule.How.{How}
use Rattle.rewrite_judge.specs.declared.rule.How.TheVariants as how
use Rattle.rewrite_judge.specs.declared.rule.Rule.{Rule}
use Rattle.rewrite_judge.proofs.Breaks.{rewrite_verdict-is, rewrite_only}
use Rattle.job_table.specs.Question.{items_of, manner_of, ruling_of, Rewrites}
use Rattle.summary_spec.specs.Judge.{how_of, rule_of}
use Rattle.job_table.specs.Limits.{IsQuestion, IsRuling}

-- ---- each member has a value for each variable of the rules

-- each member has so many values
abbrev pub Valued : ℕ → List Summary → Type 0
Valued n members = All (λ member. length member.vals ≡ n) members

-- as many as there are names
by_names : (names : List (Items ℕ)) (members : List Summary) → Valued (length names) members → Valued (length (items_of names)) members
by_names names members values k d lt = values k d lt ∙ sym (length-map names (λ (list : Items ℕ). list.items))

below : (n v : ℕ) (members : List Summary) → v < n → Valued n members → All (λ member. v < length member.vals) members
below n v members less values k d lt = omega (arith, values k d lt)

each_below : (n : ℕ) (rules : List Rule) (members : List Summary) → All (IsRuling n) (map ruling_of rules) → Valued n members
    → All (λ rule. All (λ member. rule.var < length member.vals) members) rules
each_below n [] members lawful values = All-nil (λ (rule : Rule). All (λ member. rule.var < length member.vals) members)
each_below n (rule ∷ rules) members lawful values =
    All-cons (λ (rule : Rule). All (λ member. rule.var < length member.vals) members) rule rules
    (below n rule.var members (All-head (IsRuling n) (ruling_of rule) (map ruling_of rules) lawful).0 values)
    (each_below n rules members (All-tail (IsRuling n) (ruling_of rule) (map ruling_of rules) lawful) values)

pub rules_below : (names : List (Items ℕ)) (captures : List (List ℕ)) (from to : ℕ) (rules : List Rule) (members : List Summary)
    → IsQuestion (items_of names) captures (Rewrites from to (map ruling_of rules))
    → Valued (length names) members → All (λ rule. All (λ member. rule.var < length member.vals) members) rules
rules_below names captures from to rules members lawful values =
    each_below (length (items_of names)) rules members lawful.3 (by_names names members values)

-- ---- rules without room

-- the rules that a query shows, as rules again
abbrev bare : List Rule → List Rule
bare rules = map rule_of (map ruling_of rules)

agree_bare : (rule : How) (first second : ℕ) → agree (how_of (manner_of rule)) first second ≡ agree rule first second
agree_bare how.Same first second = refl
agree_bare (how.Less by) first second = refl
agree_bare (how.Table rows) first second = refl

keeps_bare : (rule : Rule) (pair : Summary × Summary) → keeps (rule_of (ruling_of rule)) pair ≡ keeps rule pair
keeps_bare rule pair = agree_bare rule.how _ _

position_bare : (pair : Summary × Summary) (n : ℕ) (rules : List Rule)
    → position_from (λ rule. not (keeps rule pair)) n (bare rules) ≡ position_from (λ rule. not (keeps rule pair)) n rules
position_bare pair n [] = refl
position_bare pair n (rule ∷ rules) = rw (keeps_bare rule pair, position_bare pair (n + 1) rules) refl

from_bare : (rules : List Rule) (n : ℕ) (all : List (Summary × Summary)) → rewrite_from (bare rules) n all ≡ rewrite_from rules n all
from_bare rules n [] = refl
from_bare rules n (pair ∷ later) = rw (position_bare pair 0 rules, from_bare rules (n + 1) later) refl

pub value_bare : (from to : ℕ) (rules : List Rule) (members : List Summary) → rewrite_verdict from to rules members ≡ rewrite_verdict from to (map rule_of (map ruling_of rules)) members
value_bare from to rules members = sym (from_bare rules 0 (pairs from to members))

pub verdict_bare : (from to : ℕ) (rules : List Rule) (members : List Summary) (v : Verdict) → v ≡ rewrite_verdict from to rules members
    → IsRewriteVerdict from to (map rule_of (map ruling_of rules)) members v
verdict_bare from to rules members v e =
    subst (IsRewriteVerdict from to (bare rules) members) (sym (e ∙ value_bare from to rules members)) (rewrite_verdict-is from to (bare rules) members)

pub only_bare : (from to : ℕ) (rules : List Rule) (members : List Summary) (v other : Verdict) → v ≡ rewrite_verdict from to rules members
    → IsRewriteVerdict from to (map rule_of (map ruling_of rules)) members other → other ≡ v
only_bare from to rules members v other e h = rewrite_only from to (bare rules) members other h ∙ sym (e ∙ value_bare from to rules members)
