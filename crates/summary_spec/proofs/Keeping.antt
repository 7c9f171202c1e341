-- What the parts of a job keep is what the job keeps.
use Rattle.std.proofs.Common.{◌≡◌, ℕ, ◌<◌, ◌≤◌, ◌^◌, List, [], ◌∷◌, length, sym, ap, ◌∙◌, subst, arith, ⊎_elim, All}
use Rattle.std.specs.Prelude.{pos, unsigned_abs, Option, Some, None, IfSome, unwrap_or, Ok}
use Rattle.std.proofs.lemmas.Bool.{cases_lt}
use Rattle.std.proofs.lemmas.List.{length-map}
use Rattle.std.proofs.lemmas.List.Elements.{All-map, All-nil, All-cons, All-head, All-tail}
use Rattle.ds_base.specs.Items.{Items}
use Rattle.field_table.specs.declared.field_ref.FieldRef.{FieldRef}
use Rattle.query_lang.specs.Expression.{expression_of}
use Rattle.query_lang.specs.declared.names.Scope.TheVariants.{One}
use Rattle.serde_json.specs.Data.{Data}
use Rattle.job_values.specs.Parsed.{shown}
use Rattle.job_table.specs.Question.{items_of, question_of}
use Rattle.job_table.specs.Limits.{newest_version, longest, last_interface, Counts, IsParsed, IsQuestion}
use Rattle.job_table.specs.Table.{Captured, captures, skews_or}
use Rattle.job_text.proofs.CapturedAgain.{captures_kept}
use Rattle.summary_spec.specs.Declaration.{Parts, declared}
use Rattle.summary_spec.specs.Lawful.{IsUnclocked, IsLawful}

many : {T : Type 0} (lists : List (Items T)) → length (items_of lists) ≡ length lists
many {T} lists = length-map lists (λ (list : Items T). list.items)

-- the limits of the parts of a job
pub record InLimits (p : Parts) : Type 0 where
  pub version : (1 ≤ p.version) × (p.version ≤ newest_version)
  pub port : (1 ≤ p.port) × (p.port < 2 ^ 16)
  pub captures : Counts 1 64 p.names.captures.items
  pub files : length p.files.items ≡ length p.names.captures.items
  pub offsets : length p.offsets.items ≡ length p.names.captures.items
  pub offset_limits : All (λ offset. unsigned_abs offset ≤ longest) p.offsets.items
  pub skews : length p.skews.items ≡ length p.names.captures.items
  pub skew_limits : All (λ skew. skew ≤ longest) p.skews.items
  pub first_version : p.version ≡ 1 → IsUnclocked (declared p)
  pub interfaces : length p.interfaces.items ≡ length p.names.captures.items
  pub interface_limits : All (λ own. IfSome own (λ n. n ≤ last_interface)) p.interfaces.items
  pub early_versions : p.version < 3 → All (λ own. own ≡ None) p.interfaces.items
  pub vars : Counts 1 16 p.names.vars.items
  pub takes : length p.takes.items ≡ length p.names.vars.items
  pub alternatives : All (λ take. Counts 1 4 take.items) p.takes.items
  pub filter : IsParsed One (shown p.names.vars.items) (shown p.names.captures.items) p.filter_text.items (expression_of p.filter)
  pub key : Counts 1 16 p.key.items
  pub key_variables : All (λ v. v < length p.names.vars.items) p.key.items
  pub window : p.window ≤ longest
  pub skew : p.skew ≤ longest
  pub query : IsQuestion (shown p.names.vars.items) (shown p.names.captures.items) (question_of p.query)

pub lawful : (p : Parts) → InLimits p → IsLawful (declared p)
lawful p in_limits = record {
  version = in_limits.version;
  port = in_limits.port;
  captures = rw (many p.names.captures.items) in_limits.captures;
  files = many p.files.items ∙ in_limits.files ∙ sym (many p.names.captures.items);
  offsets = in_limits.offsets ∙ sym (many p.names.captures.items);
  offset_limits = in_limits.offset_limits;
  skews = in_limits.skews ∙ sym (many p.names.captures.items);
  skew_limits = in_limits.skew_limits;
  first_version = in_limits.first_version;
  interfaces = in_limits.interfaces ∙ sym (many p.names.captures.items);
  interface_limits = in_limits.interface_limits;
  early_versions = in_limits.early_versions;
  vars = rw (many p.names.vars.items) in_limits.vars;
  takes = many p.takes.items ∙ in_limits.takes ∙ sym (many p.names.vars.items);
  alternatives = All-map (λ (fields : List FieldRef). Counts 1 4 fields) (λ (take : Items FieldRef). take.items) p.takes.items in_limits.alternatives;
  filter = in_limits.filter;
  key = in_limits.key;
  key_variables = rw (many p.names.vars.items) in_limits.key_variables;
  window = in_limits.window;
  skew = in_limits.skew;
  query = in_limits.query;
}

-- ---- the skew of each capture: its own, or that of the job

pub skews_many : (skew : ℕ) (own_skews : List (Option ℕ)) → length (skews_or skew own_skews) ≡ length own_skews
skews_many skew own_skews = length-map own_skews (λ own. unwrap_or own skew)

pub skews_most : (skew : ℕ) (own_skews : List (Option ℕ)) → skew ≤ longest → All (λ own. IfSome own (λ n. n ≤ longest)) own_skews
    → All (λ n. n ≤ longest) (skews_or skew own_skews)
skews_most skew [] most all = All-nil (λ (n : ℕ). n ≤ longest)
skews_most skew (own ∷ own_skews) most all =
    All-cons (λ (n : ℕ). n ≤ longest) (unwrap_or own skew) (skews_or skew own_skews)
    (either own (All-head (λ (own : Option ℕ). IfSome own (λ n. n ≤ longest)) own own_skews all))
    (skews_most skew own_skews most (All-tail (λ (own : Option ℕ). IfSome own (λ n. n ≤ longest)) own own_skews all))
  where
    either : (own : Option ℕ) → IfSome own (λ n. n ≤ longest) → unwrap_or own skew ≤ longest
    either (Some n) h = h
    either None h = most

skews_same : (skew : ℕ) (own_skews : List (Option ℕ)) → All (λ own. own ≡ None) own_skews → All (λ n. n ≡ skew) (skews_or skew own_skews)
skews_same skew [] all = All-nil (λ (n : ℕ). n ≡ skew)
skews_same skew (own ∷ own_skews) all =
    All-cons (λ (n : ℕ). n ≡ skew) (unwrap_or own skew) (skews_or skew own_skews)
    (ap (λ o. unwrap_or o skew) (All-head (λ (own : Option ℕ). own ≡ None) own own_skews all))
    (skews_same skew own_skews (All-tail (λ (own : Option ℕ). own ≡ None) own own_skews all))

-- captures that were read in version 1 have no offset and the job's skew
pub unclocked : (p : Parts) (d : Data) (c : Captured) → captures p.version d ≡ Ok c → p.offsets.items ≡ c.offsets → p.skews.items ≡ skews_or p.skew c.own_skews
    → p.version ≡ 1 → IsUnclocked (declared p)
unclocked p d c read offsets skews first =
    let none = (captures_kept p.version d c read).2 first in
    record {
      offsets = subst (λ os. All (λ offset. offset ≡ pos 0) os) (sym offsets) none.0;
      skews = subst (λ ss. All (λ skew. skew ≡ p.skew) ss) (sym skews) (skews_same p.skew c.own_skews none.1);
    }

-- captures that were read in version 1 or 2 have no interface
pub unnamed : (p : Parts) (d : Data) (c : Captured) → captures p.version d ≡ Ok c → p.interfaces.items ≡ c.interfaces → 1 ≤ p.version
    → p.version < 3 → All (λ own. own ≡ None) p.interfaces.items
unnamed p d c read same old early =
    let kept = captures_kept p.version d c read in
    subst (λ is. All (λ own. own ≡ None) is) (sym same)
    (⊎_elim (λ (one : p.version < 2). kept.3 (omega (arith, old, one))) (λ (two : 2 ≤ p.version). kept.4 (omega (arith, two, early))) (cases_lt p.version 2))
