-- No number of a canonical value is a float.
use Rattle.std.proofs.Common.{◌≡◌, List, ℕ, false, refl, ap, ◌∙◌}
use Rattle.serde_json.specs.Data.{Data}
use Rattle.serde_json.specs.Written.{has_float, compact_text}
use Rattle.job_text.specs.Parts.{named, var_value}
use Rattle.job_text.proofs.Floats.{neither, listed, paired, captures, question, var}
use Rattle.summary_spec.specs.Canonical.{canonical_data, canonical}
use Rattle.summary_spec.specs.Declaration.{Declared}

pub no_float : (d : Declared) → has_float (canonical_data d) ≡ false
no_float d =
    neither _ _ (captures d.version d.captures d.files d.offsets d.skews d.interfaces)
    (neither _ _ (listed (named d.vars) (λ _. refl) d.key)
    (neither _ _ (question d.vars d.captures d.query)
    (neither _ _ (paired var_value var d.vars d.takes) refl)))

-- so its text is the canonical one
pub written : (v : Data) (d : Declared) (text : List ℕ) → v ≡ canonical_data d → (has_float v ≡ false → text ≡ compact_text v) → text ≡ canonical d
written v d text e w = w (ap has_float e ∙ no_float d) ∙ ap compact_text e
