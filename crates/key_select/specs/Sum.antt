-- The summary of a record, by what a job declares.
use Rattle.std.specs.Prelude.{ℕ, ◌==◌, Bool, false, not, List, [], ◌∷◌, if◌then◌else◌, Option, Some, None, option_map, option_and_then}
use Rattle.std.specs.Option.{option_or, option_map_or}
use Rattle.ds_base.specs.Keys.{key_of}
use Rattle.ds_base.specs.declared.summary.Summary.{Summary}
use Rattle.field_table.specs.declared.field_ref.FieldRef.{FieldRef}
use Rattle.header_stack.specs.Layer.{Layer}
use Rattle.header_stack.specs.Stack.{stack_of}
use Rattle.header_stack.specs.Value.{value_in}
use Rattle.pcap_reader.specs.Captured.{Captured}
use Rattle.query_lang.specs.Summaries.{meaning_one}
use Rattle.summary_spec.specs.Declaration.{Declared}
use Rattle.key_select.specs.Times.{record_time}

-- the value of the first of these fields that the packet has
abbrev pub first_defined : List FieldRef → List Layer → Option ℕ
first_defined [] layers = None
first_defined (f ∷ fs) layers = option_or (value_in f layers) (first_defined fs layers)

-- the value of each variable by its alternatives, where every variable has one
abbrev pub values_of : List (List FieldRef) → List Layer → Option (List ℕ)
values_of [] layers = Some []
values_of (alternatives ∷ takes) layers =
    option_and_then (λ n. option_map (λ ns. n ∷ ns) (values_of takes layers)) (first_defined alternatives layers)

-- the summary of a record of the capture with this time, whose variables have these values
abbrev pub summary_with : Declared → (capture time : ℕ) → Captured → (vals : List ℕ) → Summary
summary_with job capture time r vals = record {
  at = record { time = time; capture = capture; number = r.number };
  key = key_of job.key vals;
  vals = vals;
}

-- the meaning of the filter is a number other than 0
abbrev pub passes : Declared → Summary → Bool
passes job s = option_map_or (λ n. not (n == 0)) (meaning_one job.filter s) false

-- the summary of a record of the capture with this time: none where a variable has no value, or the filter
-- refuses it
abbrev pub sum_at : Declared → (capture time : ℕ) → Captured → Option Summary
sum_at job capture time r =
    option_and_then
    (λ vals. let s = summary_with job capture time r vals in if passes job s then Some s else None)
    (values_of job.takes (stack_of r.link job.port r.bytes))

-- the summary of a record of the capture
abbrev pub sum_of : Declared → (capture : ℕ) → Captured → Option Summary
sum_of job capture r = sum_at job capture (record_time job capture r) r
