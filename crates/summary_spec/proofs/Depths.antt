-- A canonical value is a few levels deep.
use Rattle.std.proofs.Common.{◌≡◌, ℕ, ◌≤◌, List, sym, subst, ap, ◌∙◌, arith}
use Rattle.std.specs.Prelude.{Some, IsUtf8}
use Rattle.std.proofs.lemmas.Str.{is_utf8-from_IsUtf8}
use Rattle.std.proofs.Math.Nat.{max-le}
use Rattle.serde_json.specs.Data.{Data, depth}
use Rattle.serde_json.specs.Read.{read, max_depth}
use Rattle.job_text.specs.Parts.{named, var_value}
use Rattle.job_text.proofs.Depths.{listed, paired, up, none, question, captures, var}
use Rattle.summary_spec.specs.Canonical.{canonical_data}
use Rattle.summary_spec.specs.Declaration.{Declared}
use Rattle.summary_spec.specs.Reads.{json}

low : (d : Declared) → depth (canonical_data d) ≤ 6
low d =
    up _ 5 (max-le (up _ 4 (more (captures d.version d.captures d.files d.offsets d.skews d.interfaces)))
    (max-le (none 5)
    (max-le (up _ 4 (listed 4 (named d.vars) (λ _. none 4) d.key))
    (max-le (none 5)
    (max-le (question d.vars d.captures d.query)
    (max-le (none 5)
    (max-le (up _ 4 (paired 4 var_value (λ name take. more (var name take)) d.vars d.takes))
    (max-le (none 5) (max-le (none 5) (max-le (none 5) (none 5)))))))))))
  where
    more : {n : ℕ} → n ≤ 2 → n ≤ 4
    more h = omega (arith, h)

-- so its text is read as it
pub read_again : (v : Data) (d : Declared) (text : List ℕ) → v ≡ canonical_data d → (depth v ≤ max_depth → read text ≡ Some v) → read text ≡ Some (canonical_data d)
read_again v d text e back = back (subst (λ w. depth w ≤ max_depth) (sym e) (few (low d))) ∙ ap Some e
  where
    few : {n : ℕ} → n ≤ 6 → n ≤ max_depth
    few h = omega (arith, h)

pub json_again : (text : List ℕ) (d : Data) → IsUtf8 text → read text ≡ Some d → json text ≡ Some d
json_again text d utf8 e = rw (is_utf8-from_IsUtf8 text utf8) e
