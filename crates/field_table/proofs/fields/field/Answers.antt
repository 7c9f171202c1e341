use Rattle.std.proofs.Common.{◌≡◌, List, ℕ, Bool, Some, None, sym, ap, ◌∙◌}
use Rattle.std.proofs.lemmas.Option.{none-some, same_Some}
use Rattle.field_table.specs.declared.kind.Kind.{Kind}
use Rattle.field_table.specs.declared.field_ref.FieldRef.{FieldRef}
use Rattle.field_table.specs.FieldText.{field_text}
use Rattle.field_table.specs.Reading.{parts_of}
use Rattle.field_table.proofs.ReadingLemmas.{parts_again, parts_found}
use Rattle.field_table.proofs.SameRef.{same_ref}
use Rattle.field_table.proofs.fields.field.Goals as goal

-- the text of a reference has its parts
again : (text : List ℕ) (f : FieldRef) → text ≡ field_text f → parts_of text ≡ Some (f.kind, (f.inside, f.steps), f.field)
unfolding field_text
again text f e = ap parts_of e ∙ parts_again f.kind f.inside f.steps f.field f.is_near f.is_field

-- a reference whose parts a text has is the one that the text spells
same : (text : List ℕ) (r f : FieldRef) → parts_of text ≡ Some (r.kind, (r.inside, r.steps), r.field) → text ≡ field_text f → Some r ≡ Some f
same text r f read spelled =
    let one : ◌≡◌ {A = Kind × (Bool × ℕ) × ℕ} (r.kind, (r.inside, r.steps), r.field) (f.kind, (f.inside, f.steps), f.field) = same_Some _ _ (sym read ∙ again text f spelled) in
    ap Some (same_ref r f (ap (λ p. p.0) one) (ap (λ p. p.1.0) one) (ap (λ p. p.1.1) one) (ap (λ p. p.2) one))

pub returns-in_err-kind-clause-only : goal.returns-in_err-kind-clause-only
returns-in_err-kind-clause-only c f spelled =
    let none : parts_of c.args.text.now ≡ None = ap parts_of (sym c.as_bytes.ensures.value) ∙ (sym c.parts.ensures ∙ c.in_err-kind.was) in
    let some = again c.args.text.now f spelled in
    absurd (none-some _ (sym none ∙ some))

pub invariant_of-result : goal.invariant_of-result
invariant_of-result c =
    let found = parts_found c.as_bytes.result.now c.in_ok-kind.kind (c.in_ok-kind.inside, c.in_ok-kind.steps) c.in_ok-kind.field (sym c.parts.ensures ∙ c.in_ok-kind.was) in
    record { is_near = found.near; is_field = found.within }

pub returns-clause-reads : goal.returns-clause-reads
unfolding field_text
returns-clause-reads c =
    let found = parts_found c.as_bytes.result.now c.in_ok-kind.kind (c.in_ok-kind.inside, c.in_ok-kind.steps) c.in_ok-kind.field (sym c.parts.ensures ∙ c.in_ok-kind.was) in
    sym c.as_bytes.ensures.value ∙ found.spelled

pub returns-clause-only : goal.returns-clause-only
returns-clause-only c f spelled =
    same c.args.text.now _ f (ap parts_of (sym c.as_bytes.ensures.value) ∙ (sym c.parts.ensures ∙ c.in_ok-kind.was)) spelled
