-- The field that a text names, as a function.
use Rattle.std.specs.Prelude.{ℕ, ◌≡◌, refl, Bool, List, Option, Some, None}
use Rattle.field_table.specs.declared.field_ref.FieldRef.{FieldRef}
use Rattle.field_table.specs.declared.kind.Kind.{Kind}
use Rattle.field_table.specs.Reading.{parts_of}
use Rattle.field_table.proofs.ReadingLemmas.{parts_found}

-- the field of these parts of the text
unfoldable pub ref_of : (text : List ℕ) (parts : Option (Kind × (Bool × ℕ) × ℕ)) → parts_of text ≡ parts → Option FieldRef
ref_of text None e = None
ref_of text (Some (kind, (inside, steps), field)) e =
    let found = parts_found text kind (inside, steps) field e in
    Some (record { kind = kind; inside = inside; steps = steps; field = field; is_near = found.near; is_field = found.within })

-- the field that a text names, if it names one
unfoldable pub field_of : List ℕ → Option FieldRef
field_of text = ref_of text (parts_of text) refl
