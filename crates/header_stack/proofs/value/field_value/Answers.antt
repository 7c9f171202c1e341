use Rattle.std.proofs.Common.{List, ℕ, ap, sym, ◌∙◌}
use Rattle.field_table.specs.Fields.{value_of}
use Rattle.header_stack.proofs.Looking.{LiesIn-among, field_value_is, value_in-none, value_in-some}
use Rattle.header_stack.proofs.value.field_value.Goals as goal

pub header-requires : goal.header-requires
header-requires c =
    LiesIn-among c.args.bytes.now c.args.stack.now c.in_ok-place.place c.requires c.in_ok-place.ensures.among

pub returns-in_err-place : goal.returns-in_err-place
returns-in_err-place c =
    let none = c.from_residual.ensures ∙ sym (value_in-none c.args.f.now c.args.bytes.now c.args.stack.now c.in_err-place.ensures.nth) in
    let w = field_value_is c.args.f.now c.args.bytes.now c.args.stack.now c.from_residual.result none in
    record { value = w.value; of_packet = w.of_packet }

pub returns : goal.returns
returns c =
    let f = c.args.f.now in
    let found = c.value.ensures
    ∙ ap (λ (bytes : List ℕ). value_of f.kind f.field bytes) c.header.ensures
    ∙ sym (value_in-some f c.args.bytes.now c.args.stack.now c.in_ok-place.place c.in_ok-place.ensures.nth) in
    let w = field_value_is f c.args.bytes.now c.args.stack.now c.value.result found in
    record { value = w.value; of_packet = w.of_packet }
