-- Two references to fields are one where their parts are.
use Rattle.std.proofs.Common.{◌≡◌, ◌≤◌, ◌<◌, length}
use Rattle.std.proofs.Math.Bridge.{le_prop}
use mathlib.Core.HLevel.{is_prop→PathP}
use Rattle.field_table.specs.declared.field_ref.FieldRef.{FieldRef}
use Rattle.field_table.specs.Table.{names_of}

pub same_ref : (f g : FieldRef) → f.kind ≡ g.kind → f.inside ≡ g.inside → f.steps ≡ g.steps → f.field ≡ g.field → f ≡ g
same_ref f g kind inside steps field =
    λ i. record {
      kind = kind i;
      inside = inside i;
      steps = steps i;
      field = field i;
      is_near = is_prop→PathP (λ j. steps j ≤ 15) (λ j. le_prop) f.is_near g.is_near i;
      is_field = is_prop→PathP (λ j. field j < length (names_of (kind j))) (λ j. le_prop) f.is_field g.is_field i;
    }
