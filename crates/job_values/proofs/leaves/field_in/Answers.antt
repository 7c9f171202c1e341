use Rattle.std.proofs.Common.{◌≡◌, Some, None, refl}
use Rattle.job_values.proofs.FieldTexts.{field_spelled, field_none}
use Rattle.job_values.proofs.leaves.field_in.Goals as goal

none_some : {A B : Type 0} {x : A} → None ≡ Some x → B
none_some e = cc

pub returns-in-Some : goal.returns-in-Some
returns-in-Some c = rw (field_spelled c.args.text.now c.in-Some.f c.in-Some.ensures.reads) refl

pub returns-in-None : goal.returns-in-None
returns-in-None c = rw (field_none c.args.text.now (λ f spelled. none_some (c.in-None.ensures.only f spelled)), c.fault_at.ensures) refl
