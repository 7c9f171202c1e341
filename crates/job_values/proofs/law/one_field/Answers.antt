use Rattle.job_values.proofs.FieldTexts.{field_spelled, field_found}
use Rattle.job_values.proofs.law.one_field.Goals as goal

pub returns : goal.returns
returns c = λ text f. (field_found text f, field_spelled text f)
