use Rattle.std.proofs.Common.{ℕ, ◌+◌, ◌*◌, List, length, ap, sym, subst, ◌∙◌}
use Rattle.std.proofs.lemmas.List.{length_push}
use Rattle.summary_spec.specs.Job.{declared_of}
use Rattle.parser_captures.specs.Choice.{capture_in}
use Rattle.parser_captures.specs.declared.capture.OneCapture.{OneCapture}
use Rattle.parser_steps.specs.One.{IsFreshCapture}
use Rattle.parser_steps.proofs.Beginning.{fresh_more}
use Rattle.parser_steps.proofs.fresh.new_captures.Goals as goal

pub captures-preserved : goal.captures-preserved
captures-preserved c =
    let so_far = c.captures-2.invariant in
    let items : List OneCapture = c.captures-2.captures.items in
    let new : OneCapture = c.in_ok-new_capture.field-0 in
    record {
      count = ap length c.push_reserved.ensures.items ∙ length_push items new ∙ ap (λ (n : ℕ). n + 1) so_far.count;
      len = c.push_reserved.ensures.len ∙ ap (λ (n : ℕ). n + 1) so_far.len;
      cap = c.push_reserved.ensures.capacity ∙ so_far.cap;
      each = λ k d less.
          subst (λ (cs : List OneCapture). IsFreshCapture (declared_of c.args.job.now) (c.args.me + k * c.args.parsers) (capture_in cs k d)) (sym c.push_reserved.ensures.items)
          (fresh_more (declared_of c.args.job.now) c.args.me c.args.parsers c.captures-2.i items new so_far.count so_far.each c.in_ok-new_capture.ensures k d less);
    }
