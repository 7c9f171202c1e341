-- What every job keeps.
use Rattle.std.specs.Prelude.{◌≡◌, ◌<◌, ◌≤◌, ◌^◌, pos, unsigned_abs, None, IfSome, length, All}
use Rattle.query_lang.specs.declared.names.Scope.TheVariants.{One}
use Rattle.job_table.specs.Limits.{IsParsed, IsQuestion}
pub use Rattle.job_table.specs.Limits.{newest_version, longest, last_interface, Counts}
use Rattle.summary_spec.specs.Declaration.{Declared}

-- no capture has an offset, and each has the job's skew
pub record IsUnclocked (d : Declared) : Type 0 where
  pub offsets : All (λ offset. offset ≡ pos 0) d.offsets
  pub skews : All (λ skew. skew ≡ d.skew) d.skews

pub record IsLawful (d : Declared) : Type 0 where
  pub version : (1 ≤ d.version) × (d.version ≤ newest_version)
  pub port : (1 ≤ d.port) × (d.port < 2 ^ 16)
  pub captures : Counts 1 64 d.captures
  pub files : length d.files ≡ length d.captures
  pub offsets : length d.offsets ≡ length d.captures
  pub offset_limits : All (λ offset. unsigned_abs offset ≤ longest) d.offsets
  pub skews : length d.skews ≡ length d.captures
  pub skew_limits : All (λ skew. skew ≤ longest) d.skews
  pub first_version : d.version ≡ 1 → IsUnclocked d
  pub interfaces : length d.interfaces ≡ length d.captures
  pub interface_limits : All (λ own. IfSome own (λ n. n ≤ last_interface)) d.interfaces
  pub early_versions : d.version < 3 → All (λ own. own ≡ None) d.interfaces
  pub vars : Counts 1 16 d.vars
  pub takes : length d.takes ≡ length d.vars
  pub alternatives : All (Counts 1 4) d.takes
  pub filter : IsParsed One d.vars d.captures d.filter_text d.filter
  pub key : Counts 1 16 d.key
  pub key_variables : All (λ v. v < length d.vars) d.key
  pub window : d.window ≤ longest
  pub skew : d.skew ≤ longest
  pub query : IsQuestion d.vars d.captures d.query
