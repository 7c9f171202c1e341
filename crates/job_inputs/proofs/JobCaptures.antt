-- The captures of a job, and their files.
use Rattle.std.proofs.Common.{◌≡◌, ◌≤◌, ◌∙◌, length, sym, arith}
use Rattle.std.proofs.lemmas.List.{length-map}
use Rattle.summary_spec.specs.declared.job.Job.{Job}

-- a job has at most 64 captures
pub few_captures : (job : Job) → length job.names.captures.items ≤ 64
few_captures job = omega (arith, job.lawful.captures.1, length-map job.names.captures.items (λ list. list.items))

-- and a file for each
pub as_many_files : (job : Job) → length job.files.items ≡ length job.names.captures.items
as_many_files job =
    sym (length-map job.files.items (λ list. list.items)) ∙ job.lawful.files ∙ length-map job.names.captures.items (λ list. list.items)
