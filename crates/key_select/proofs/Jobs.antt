-- What a job knows of values, one for each of its variables.
use Rattle.std.proofs.Common.{◌≡◌, ℕ, ◌<◌, ◌≤◌, ℤ, pos, negsuc, w64, SFits, to_z, of_z, List, length, get_or, sym, subst, ◌∙◌, arith, All}
use Rattle.std.proofs.lemmas.Int.{to_z-of_z}
use Rattle.std.specs.Prelude.{unsigned_abs}
use Rattle.std.proofs.lemmas.List.{length-map}
use Rattle.ds_base.specs.Times.{hour}
use Rattle.query_lang.specs.Expression.{expression_of, VariablesBelow}
use Rattle.summary_spec.specs.declared.job.Job.{Job}
use Rattle.summary_spec.specs.Job.{declared_of}

takes_count : (job : Job) → length job.takes.items ≡ length (declared_of job).vars
takes_count job = sym (length-map job.takes.items (λ list. list.items)) ∙ job.lawful.takes

pub known_key : (job : Job) (vals : List ℕ) → length vals ≡ length job.takes.items → All (λ v. v < length vals) job.key.items
known_key job vals e = subst (λ (n : ℕ). All (λ v. v < n) job.key.items) (sym (e ∙ takes_count job)) job.lawful.key_variables

pub known_filter : (job : Job) (vals : List ℕ) → length vals ≡ length job.takes.items → VariablesBelow (length vals) (expression_of job.filter)
known_filter job vals e = subst (λ (n : ℕ). VariablesBelow n (expression_of job.filter)) (sym (e ∙ takes_count job)) job.lawful.filter.variables

-- ---- one offset, one skew and one interface for each capture

captures_count : (job : Job) → length (declared_of job).captures ≡ length job.names.captures.items
captures_count job = length-map job.names.captures.items (λ list. list.items)

pub offset_there : (job : Job) (capture : ℕ) → capture < length job.names.captures.items → capture < length job.offsets.items
offset_there job capture less = rw (job.lawful.offsets ∙ captures_count job) less

pub skew_there : (job : Job) (capture : ℕ) → capture < length job.names.captures.items → capture < length job.skews.items
skew_there job capture less = rw (job.lawful.skews ∙ captures_count job) less

pub interface_there : (job : Job) (capture : ℕ) → capture < length job.names.captures.items → capture < length job.interfaces.items
interface_there job capture less = rw (job.lawful.interfaces ∙ captures_count job) less

pub offset_near : (job : Job) (capture : ℕ) → capture < length job.names.captures.items → unsigned_abs (get_or job.offsets.items capture (pos 0)) ≤ hour
offset_near job capture less = job.lawful.offset_limits capture (pos 0) (offset_there job capture less)

fits : (offset : ℤ) → unsigned_abs offset ≤ hour → SFits w64 offset
fits (pos n) near = record { sfits = omega (arith, near) }
fits (negsuc n) near = record { sfits = omega (arith, near) }

-- an offset is the same in a signed word of 64 bits
pub offset_read : (offset : ℤ) → unsigned_abs offset ≤ hour → to_z w64 (of_z w64 offset) ≡ offset
offset_read offset near = to_z-of_z w64 offset (fits offset near)

pub skew_short : (job : Job) (capture : ℕ) → capture < length job.names.captures.items → get_or job.skews.items capture 0 ≤ hour
skew_short job capture less = job.lawful.skew_limits capture 0 (skew_there job capture less)
