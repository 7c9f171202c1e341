-- The job of the command `count`.
use Rattle.std.specs.Prelude.{ℕ, pos, List, [], ◌∷◌, None, false, codes}
use Rattle.ds_base.specs.Times.{hour}
use Rattle.field_table.specs.declared.field_ref.FieldRef.{FieldRef}
use Rattle.query_lang.specs.Expression.{Literal}
use Rattle.summary_spec.specs.Declaration.{Declared}
use Rattle.job_table.specs.Question.{Everything}

-- One capture `c` in this file, one variable `v` that is the field and the key, and every packet that
-- has the field: the copies within the window are gathered, and nothing is asked of them. VXLAN has its
-- port (RFC 7348 section 5), and the skew is an hour.
abbrev pub count_job : FieldRef → (window : ℕ) → (file : List ℕ) → Declared
count_job field window file = record {
  version = 1;
  port = 4789;
  vars = codes "v" ∷ [];
  captures = codes "c" ∷ [];
  files = file ∷ [];
  offsets = pos 0 ∷ [];
  skews = hour ∷ [];
  interfaces = None ∷ [];
  takes = (field ∷ []) ∷ [];
  filter_text = codes "1";
  filter = Literal 1;
  key = 0 ∷ [];
  window = window;
  skew = hour;
  profile = false;
  query = Everything;
}
