-- Values that are made one after the other.
use Rattle.std.proofs.Common.{◌≡◌, ℕ, List, [], map, Some, sym, ap, ◌∙◌, slice_get}
use Rattle.std.proofs.lemmas.Option.{slice_get-map}
use Rattle.std.specs.Prelude.{unwrap_or, option_map}
use Rattle.ds_base.specs.Items.{Items}
use Rattle.job_values.specs.Parsed.{shown}
use Rattle.rewrite_judge.specs.declared.rule.Rule.{Rule}
use Rattle.job_text.specs.Parts.{name_at}
use Rattle.job_table.specs.Question.{ruling_of}

pub name_shown : (names : List (Items ℕ)) (n : ℕ) (x : Items ℕ) → slice_get names n ≡ Some x → x.items ≡ name_at (shown names) n
name_shown names n x e = sym (ap (λ o. unwrap_or o []) (slice_get-map (λ name. name.items) names n ∙ ap (λ o. option_map (λ name. name.items) o) e))

pub ruling_at : (rules : List Rule) (n : ℕ) (x : Rule) → slice_get rules n ≡ Some x → slice_get (map ruling_of rules) n ≡ Some (ruling_of x)
ruling_at rules n x e = slice_get-map ruling_of rules n ∙ ap (λ o. option_map ruling_of o) e
