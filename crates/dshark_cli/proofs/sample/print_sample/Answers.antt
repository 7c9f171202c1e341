use Rattle.std.proofs.Common.{List, ℕ, subst, ◌∙◌}
use Rattle.ds_base.specs.Gain.{GainsPrefix}
use Rattle.output_text.proofs.Gaining.{gains_nothing}
use Rattle.dshark_cli.proofs.sample.print_sample.Goals as goal

pub returns-in_default-clause-prefix : goal.returns-in_default-clause-prefix
returns-in_default-clause-prefix g c out = gains_nothing _ _

pub returns-clause-prefix : goal.returns-clause-prefix
returns-clause-prefix g c out =
    subst (λ (text : List ℕ). GainsPrefix (g.O.Sink.seen c.args.out.now).written (g.O.Sink.seen c.write_text.new.out).written text) (c.as_str.ensures ∙ c.in-Ok.ensures.line) (c.write_text.ensures.prefix out)
