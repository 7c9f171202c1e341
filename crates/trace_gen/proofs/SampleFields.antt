-- The fields of the job of a sample, by their texts.
use Rattle.std.proofs.Common.{◌≡◌, ◌∷◌, [], ℕ, true, codes, option_to_list, sym, ap}
use Rattle.std.specs.Fmt.{digits}
use Rattle.field_table.specs.declared.field_ref.FieldRef.{FieldRef}
use Rattle.field_table.specs.declared.kind.Kind.TheVariants.{Ipv4}
use Rattle.field_table.specs.FieldText.{field_text, text_of}
use Rattle.job_values.proofs.FieldTexts.{field_spelled}
use Rattle.trace_gen.specs.SampleJob.{only_field}

-- the field of the innermost IPv4 header with this number
parts_text : (f : FieldRef) (field : ℕ) → f.kind ≡ Ipv4 → f.inside ≡ true → f.steps ≡ 0 → f.field ≡ field → field_text f ≡ text_of Ipv4 true 0 field
unfolding field_text
parts_text f field kind inside steps is = λ i. text_of (kind i) (inside i) (steps i) (is i)

pub id_is : (f : FieldRef) → f.kind ≡ Ipv4 → f.inside ≡ true → f.steps ≡ 0 → f.field ≡ 4 → only_field (codes "ipv4[-1].id") ≡ f ∷ []
unfolding digits
id_is f kind inside steps is =
    ap option_to_list (field_spelled (codes "ipv4[-1].id") f (sym (parts_text f 4 kind inside steps is)))

pub ttl_is : (f : FieldRef) → f.kind ≡ Ipv4 → f.inside ≡ true → f.steps ≡ 0 → f.field ≡ 7 → only_field (codes "ipv4[-1].ttl") ≡ f ∷ []
unfolding digits
ttl_is f kind inside steps is =
    ap option_to_list (field_spelled (codes "ipv4[-1].ttl") f (sym (parts_text f 7 kind inside steps is)))
