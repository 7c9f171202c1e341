-- The canonical text of a job: JSON without blanks, the members of each object in byte order, with all
-- that are optional and that its version has.
use Rattle.std.specs.Prelude.{ℕ, List, codes}
use Rattle.serde_json.specs.Data.{Data, unsigned, boolean, number, string, array, object, no_members, member}
use Rattle.serde_json.specs.View.{items_of}
use Rattle.serde_json.specs.Written.{compact_text}
use Rattle.job_text.specs.Parts.{list_of, both_of, named, capture_values, var_value, question_value}
use Rattle.summary_spec.specs.Declaration.{Declared}

-- a job as a value of JSON
abbrev pub canonical_data : Declared → Data
canonical_data d = object (
    member (codes "captures") (array (items_of (capture_values d.version d.captures d.files d.offsets d.skews d.interfaces))) (
    member (codes "filter") (string d.filter_text) (
    member (codes "key") (list_of (named d.vars) d.key) (
    member (codes "profile") (boolean d.profile) (
    member (codes "query") (question_value d.vars d.captures d.query) (
    member (codes "skew") (number (unsigned d.skew)) (
    member (codes "vars") (array (items_of (both_of var_value d.vars d.takes))) (
    member (codes "version") (number (unsigned d.version)) (
    member (codes "vxlan_port") (number (unsigned d.port)) (
    member (codes "window") (number (unsigned d.window)) no_members))))))))))

abbrev pub canonical : Declared → List ℕ
canonical d = compact_text (canonical_data d)
