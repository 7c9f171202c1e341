use Rattle.std.proofs.Common.{refl, sym, subst, ◌∙◌}
use Rattle.std.proofs.lemmas.List.{get_or_default, map-set}
use Rattle.summary_spec.specs.Job.{declared_of}
use Rattle.parser_captures.specs.declared.capture.OneCapture.{OneCapture}
use Rattle.parser_steps.specs.One.{MayStep}
use Rattle.parser_steps.proofs.Ready.{mapped_at}
use Rattle.parser_steps.proofs.over.step_in.Goals as goal

pub step_one-requires-clause-may : goal.step_one-requires-clause-may
step_one-requires-clause-may g c =
    let job = declared_of c.args.job.now in
    let x : OneCapture = c.index_mut.result.now in
    let s = c.get_mut-source.result.now in
    subst (λ (y : OneCapture). MayStep job c.args.number y (g.S.Source.seen s)) (sym c.index_mut.ensures.value)
    (subst (MayStep job c.args.number _) (mapped_at g.S.Source.seen c.args.sources.now.items c.args.i s (g.S.Source.seen s) c.requires.there.1 c.get_mut-source.ensures.value)
    (c.requires.may x (g.S.Source.seen s)))

pub returns-in-Ok-clause-ends : goal.returns-in-Ok-clause-ends
returns-in-Ok-clause-ends g c =
    let s = c.get_mut-source.result.now in
    record {
      old = c.index_mut.result.now;
      new = c.step_one.new.capture;
      before = g.S.Source.seen s;
      after = g.S.Source.seen c.step_one.new.source;
      was = λ d. get_or_default c.args.captures.now.items c.args.i d c.index_mut.result.now c.requires.there.0 ∙ sym c.index_mut.ensures.value;
      source_was = λ e. mapped_at g.S.Source.seen c.args.sources.now.items c.args.i s e c.requires.there.1 c.get_mut-source.ensures.value;
      set = refl;
      source_set = map-set g.S.Source.seen c.args.sources.now.items c.args.i c.step_one.new.source;
      stays = c.step_one.ensures.stays;
      own = c.step_one.ensures.own;
      how = c.in-Ok.ensures.ends;
    }

pub returns-in-Err-clause-ends : goal.returns-in-Err-clause-ends
returns-in-Err-clause-ends g c =
    let s = c.get_mut-source.result.now in
    record {
      old = c.index_mut.result.now;
      new = c.step_one.new.capture;
      before = g.S.Source.seen s;
      after = g.S.Source.seen c.step_one.new.source;
      was = λ d. get_or_default c.args.captures.now.items c.args.i d c.index_mut.result.now c.requires.there.0 ∙ sym c.index_mut.ensures.value;
      source_was = λ e. mapped_at g.S.Source.seen c.args.sources.now.items c.args.i s e c.requires.there.1 c.get_mut-source.ensures.value;
      set = refl;
      source_set = map-set g.S.Source.seen c.args.sources.now.items c.args.i c.step_one.new.source;
      stays = c.step_one.ensures.stays;
      own = c.step_one.ensures.own;
      how = c.in-Err.ensures.ends;
    }
