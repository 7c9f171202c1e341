-- What the bytes of a declaration read as: what they declare, or their first fault.
use Rattle.std.specs.Prelude.{ℕ, ◌∷◌, [], List, length, nat_le, ◌+◌, if◌then◌else◌, Option, None, Ok, codes}
use Rattle.std.specs.Str.{is_utf8}
use Rattle.serde_json.specs.Data.{Data}
use Rattle.serde_json.specs.Read.{read}
use Rattle.job_values.specs.declared.member.Member.TheVariants.{Whole}
use Rattle.job_values.specs.declared.fault.JobWhat.TheVariants.{NotJson, Limit}
use Rattle.job_values.specs.Said.{Said, ◌>>=◌, or_fault, only_if}
use Rattle.job_values.specs.Values.{object, no_stray}
use Rattle.summary_spec.specs.Declaration.{Declared}
use Rattle.job_table.specs.Table.{version, vxlan_port, captures, skews_or, vars, filter, key, window, skew, profile}
use Rattle.job_table.specs.QueryTable.{query}

-- at most so many bytes
abbrev pub most_bytes : ℕ
most_bytes = 1048576

-- the value that UTF-8 bytes are by the reading of JSON, in which the last of doubled members counts
abbrev pub json : List ℕ → Option Data
json bytes = if is_utf8 bytes then read bytes else None

-- the members of a declaration
abbrev pub members : List (List ℕ)
members =
    codes "version" ∷ codes "vxlan_port" ∷ codes "captures" ∷ codes "vars" ∷ codes "filter" ∷ codes "key"
    ∷ codes "window" ∷ codes "skew" ∷ codes "profile" ∷ codes "query" ∷ []

-- a declaration as a value of JSON
abbrev pub declaration : Data → Said Declared
declaration d = do
  ms ← object Whole 0 d
  none ← no_stray Whole 0 members ms
  version ← version d
  port ← vxlan_port d
  captured ← captures version d
  varied ← vars d
  filtered ← filter varied.0 captured.names d
  key ← key varied.0 d
  window ← window d
  skew ← skew d
  profile ← profile d
  query ← query varied.0 captured.names d
  Ok (record {
    version = version;
    port = port;
    vars = varied.0;
    captures = captured.names;
    files = captured.files;
    offsets = captured.offsets;
    skews = skews_or skew captured.own_skews;
    interfaces = captured.interfaces;
    takes = varied.1;
    filter_text = filtered.0;
    filter = filtered.1;
    key = key;
    window = window;
    skew = skew;
    profile = profile;
    query = query;
  })

-- what the bytes read as; of more than the most bytes the fault says one more
unfoldable pub reads : List ℕ → Said Declared
reads bytes = do
  given ← only_if Whole 0 (Limit (most_bytes + 1)) (nat_le (length bytes) most_bytes) bytes
  d ← or_fault Whole 0 NotJson (json given)
  declaration d
