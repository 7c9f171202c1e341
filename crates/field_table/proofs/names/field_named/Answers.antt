use Rattle.std.proofs.Common.{position, sym, ap, ◌∙◌}
use Rattle.std.specs.Str.{bytes_eq}
use Rattle.field_table.proofs.ReadingLemmas.{position-map}
use Rattle.field_table.proofs.names.field_named.Goals as goal

pub returns-in_err-at : goal.returns-in_err-at
returns-in_err-at c =
    let name = c.args.name.now in
    c.from_residual.ensures ∙ (sym c.in_err-at.was ∙ (c.row_named.ensures
    ∙ (sym (position-map (λ n. bytes_eq n name) (λ row. row.0.now) c.rows.result.now) ∙ ap (λ ns. position (λ n. bytes_eq n name) ns) c.rows.ensures.names)))

pub returns : goal.returns
returns c =
    let name = c.args.name.now in
    sym c.in_ok-at.was ∙ (c.row_named.ensures
    ∙ (sym (position-map (λ n. bytes_eq n name) (λ row. row.0.now) c.rows.result.now) ∙ ap (λ ns. position (λ n. bytes_eq n name) ns) c.rows.ensures.names))
