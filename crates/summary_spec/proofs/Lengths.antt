-- The canonical text of a job that was read is not longer than a declaration may be.
use Rattle.std.proofs.Common.{ℕ, ◌^◌, ◌<◌, ◌≤◌, Bool, true, false, [], length, map, arith}
use Rattle.std.specs.Prelude.{codes}
use Rattle.serde_json.specs.Data.{unsigned, boolean, number, string, array}
use Rattle.serde_json.specs.View.{items_of}
use Rattle.serde_json.specs.Written.{compact_text}
use Rattle.job_table.specs.Table.{is_free}
use Rattle.job_table.specs.Words.{is_identifier}
use Rattle.job_text.specs.Parts.{both_of, named, capture_values, var_value, question_value}
use Rattle.job_text.proofs.CapturedAgain.{AllFiles}
use Rattle.job_text.proofs.Lengths.{object_short, one_more, ended, string_short, list_short, any, names_short, free_short, identifier_short, named_short, captures_short, vars_short, decimal_short, question_short}
use Rattle.job_text.proofs.NewNames.{AllNew}
use Rattle.summary_spec.specs.Canonical.{canonical}
use Rattle.summary_spec.specs.Declaration.{Declared}
use Rattle.summary_spec.specs.Lawful.{IsLawful}
use Rattle.summary_spec.specs.Reads.{most_bytes}

-- ---- the whole

flag_short : (b : Bool) → length (compact_text (boolean b)) ≤ 5
flag_short true = omega arith
flag_short false = omega arith

number_short : (n : ℕ) → n < 2 ^ 64 → length (compact_text (number (unsigned n))) ≤ 20
number_short n less = decimal_short 20 n (omega arith) (omega (arith, less)) (omega (arith, less))

pub short_enough : (d : Declared) → IsLawful d → AllNew is_identifier [] d.captures → AllFiles d.files → AllNew is_free [] d.vars → length (canonical d) ≤ most_bytes
short_enough d lawful points files names =
    let vars = names_short is_free free_short [] d.vars names in
    let captures = names_short is_identifier identifier_short [] d.captures points in
    enough (object_short 650331
    (one_more (codes "captures") (array (items_of (capture_values d.version d.captures d.files d.offsets d.skews d.interfaces))) 8 124802 525477 (omega arith)
    (omega (arith, captures_short false d.version [] d.captures d.files d.offsets d.skews d.interfaces points files lawful.offset_limits lawful.skew_limits lawful.interface_limits, lawful.captures.1))
    (one_more (codes "filter") (string d.filter_text) 6 6146 519291 (omega arith) (string_short d.filter_text 1024 lawful.filter.short)
    (one_more (codes "key") (array (items_of (map (named d.vars) d.key))) 3 3122 516147 (omega arith)
    (list_short (named d.vars) (λ _. Unit {0}) 194 16 (λ n _. named_short d.vars n vars) d.key (any d.key) lawful.key.1)
    (one_more (codes "profile") (boolean d.profile) 7 5 516096 (omega arith) (flag_short d.profile)
    (one_more (codes "query") (question_value d.vars d.captures d.query) 5 500000 16062 (omega arith)
    (question_short d.vars d.captures d.query vars captures lawful.captures.1 lawful.query)
    (one_more (codes "skew") (number (unsigned d.skew)) 4 20 16014 (omega arith) (number_short d.skew (omega (arith, lawful.skew)))
    (one_more (codes "vars") (array (items_of (both_of var_value d.vars d.takes))) 4 15794 192 (omega arith)
    (omega (arith, vars_short false [] d.vars d.takes names lawful.alternatives, lawful.vars.1))
    (one_more (codes "version") (number (unsigned d.version)) 7 1 145 (omega arith) (decimal_short 1 d.version (omega arith) (omega (arith, lawful.version.1)) (omega (arith, lawful.version.1)))
    (one_more (codes "vxlan_port") (number (unsigned d.port)) 10 20 61 (omega arith) (number_short d.port (omega (arith, lawful.port.1)))
    (one_more (codes "window") (number (unsigned d.window)) 6 20 1 (omega arith) (number_short d.window (omega (arith, lawful.window))) ended)))))))))))
  where
    enough : {n : ℕ} → n ≤ 650332 → n ≤ most_bytes
    enough h = omega (arith, h)
