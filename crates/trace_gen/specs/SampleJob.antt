-- The job of every sample: which packets come back to a capture point.
use Rattle.std.specs.Prelude.{ℕ, pos, List, [], ◌∷◌, None, true, map, codes, option_to_list}
use Rattle.field_table.specs.declared.field_ref.FieldRef.{FieldRef}
use Rattle.job_values.specs.Fields.{field_of}
use Rattle.query_lang.specs.Expression.{Literal}
use Rattle.summary_spec.specs.Declaration.{Declared, Loops}
use Rattle.trace_gen.specs.Captures.{point_name, points}

-- the one alternative of a variable: the field that a text names
abbrev pub only_field : (text : List ℕ) → List FieldRef
only_field text = option_to_list (field_of text)

-- The capture points s0 to s7, each with the file of its name. The copies of a packet have its identification
-- and lie within 100 microseconds, since two sightings of a packet are less than 10 microseconds apart. It is in a
-- loop where a capture point sees it again with a lesser TTL. The delays between the points are reported.
abbrev pub sample_job : Declared
sample_job = record {
  version = 1;
  port = 4789;
  vars = codes "id" ∷ codes "ttl" ∷ [];
  captures = map point_name points;
  files = map point_name points;
  offsets = map (λ _. pos 0) points;
  skews = map (λ _. 0) points;
  interfaces = map (λ _. None) points;
  takes = only_field (codes "ipv4[-1].id") ∷ only_field (codes "ipv4[-1].ttl") ∷ [];
  filter_text = codes "1";
  filter = Literal 1;
  key = 0 ∷ [];
  window = 100000;
  skew = 0;
  profile = true;
  query = Loops 1;
}
