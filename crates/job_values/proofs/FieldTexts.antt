-- The function of a field's text is its one reading.
use Rattle.std.proofs.Common.{◌≡◌, List, ℕ, Bool, Option, Some, None, sym, ap, ◌∙◌, subst, refl}
use Rattle.field_table.specs.declared.kind.Kind.{Kind}
use Rattle.field_table.specs.declared.field_ref.FieldRef.{FieldRef}
use Rattle.field_table.specs.FieldText.{field_text}
use Rattle.field_table.specs.Reading.{parts_of}
use Rattle.field_table.proofs.ReadingLemmas.{parts_again, parts_found}
use Rattle.field_table.proofs.SameRef.{same_ref}
use Rattle.job_values.specs.Fields.{ref_of, field_of}

some_same : {A : Type 0} {x y : A} → Some x ≡ Some y → x ≡ y
some_same e = cc

none_some : {A B : Type 0} {x : A} → None ≡ Some x → B
none_some e = cc

again : (text : List ℕ) (f : FieldRef) → text ≡ field_text f → parts_of text ≡ Some (f.kind, (f.inside, f.steps), f.field)
unfolding field_text
again text f e = ap parts_of e ∙ parts_again f.kind f.inside f.steps f.field f.is_near f.is_field

ref_spelled : (text : List ℕ) (parts : Option (Kind × (Bool × ℕ) × ℕ)) (e : parts_of text ≡ parts) (f : FieldRef) → text ≡ field_text f → ref_of text parts e ≡ Some f
unfolding ref_of
ref_spelled text None e f spelled = none_some (sym e ∙ again text f spelled)
ref_spelled text (Some (kind, (inside, steps), field)) e f spelled =
    let found = parts_found text kind (inside, steps) field e in
    let r : FieldRef = record { kind = kind; inside = inside; steps = steps; field = field; is_near = found.near; is_field = found.within } in
    let one : ◌≡◌ {A = Kind × (Bool × ℕ) × ℕ} (kind, (inside, steps), field) (f.kind, (f.inside, f.steps), f.field) = some_same (sym e ∙ again text f spelled) in
    ap Some (same_ref r f (ap (λ p. p.0) one) (ap (λ p. p.1.0) one) (ap (λ p. p.1.1) one) (ap (λ p. p.2) one))

ref_none : (text : List ℕ) (parts : Option (Kind × (Bool × ℕ) × ℕ)) (e : parts_of text ≡ parts) → ((f : FieldRef) → text ≡ field_text f → ⊥) → ref_of text parts e ≡ None
unfolding ref_of field_text
ref_none text None e never = refl
ref_none text (Some (kind, (inside, steps), field)) e never =
    let found = parts_found text kind (inside, steps) field e in
    let r : FieldRef = record { kind = kind; inside = inside; steps = steps; field = field; is_near = found.near; is_field = found.within } in
    absurd (never r found.spelled)

pub field_spelled : (text : List ℕ) (f : FieldRef) → text ≡ field_text f → field_of text ≡ Some f
unfolding field_of
field_spelled text f spelled = ref_spelled text (parts_of text) refl f spelled

pub field_none : (text : List ℕ) → ((f : FieldRef) → text ≡ field_text f → ⊥) → field_of text ≡ None
unfolding field_of
field_none text never = ref_none text (parts_of text) refl never

ref_found : (text : List ℕ) (parts : Option (Kind × (Bool × ℕ) × ℕ)) (e : parts_of text ≡ parts) (f : FieldRef) → ref_of text parts e ≡ Some f → text ≡ field_text f
unfolding ref_of field_text
ref_found text None e f found = none_some found
ref_found text (Some (kind, (inside, steps), field)) e f found =
    subst (λ g. text ≡ field_text g) (some_same found) (parts_found text kind (inside, steps) field e).spelled

pub field_found : (text : List ℕ) (f : FieldRef) → field_of text ≡ Some f → text ≡ field_text f
unfolding field_of
field_found text f found = ref_found text (parts_of text) refl f found
