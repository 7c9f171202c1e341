-- A new merge stands.
use Rattle.std.proofs.Common.{ℕ, [], None, List, ◌-◌, replicate, sym, ap, ◌∙◌, subst}
use Rattle.summary_spec.specs.Job.{declared_of}
use Rattle.result_merge.specs.Works.{merge_of}
use Rattle.result_merge.specs.Nodes.{NodeHolds}
use Rattle.result_merge.proofs.Starting.{new_node, is_new}
use Rattle.result_merge.proofs.node.MergeNode.new.Goals as goal

pub invariant_of-result : goal.invariant_of-result
invariant_of-result g c =
    subst (λ (xs : List ℕ). NodeHolds (record { job = declared_of c.args.job.now; parsers = c.args.parsers; credits = c.args.credits; ins = c.args.ins.items; counts = c.in-Ok.counts.items; answers = c.in-Ok-new_answers.answers.items; state = c.in-Ok-new.state; sink = g.O.Sink.seen c.args.sink.now; lent = c.args.sink.ghost_name; gained = xs }) None) (sym c.new-in-Ok-new.ensures)
    (new_node (declared_of c.args.job.now) c.args.parsers c.args.credits c.args.ins.items c.in-Ok.counts.items c.in-Ok-new_answers.answers.items c.in-Ok-new.state (g.O.Sink.seen c.args.sink.now) c.args.sink.ghost_name c.args.job.now.lawful
    c.requires.parsers c.requires.processors c.requires.new_ins c.in-Ok.ensures (c.in-Ok-new_answers.ensures ∙ ap (λ (n : ℕ). replicate (n - c.args.parsers) []) c.len.ensures)
    (λ shape some e. c.in-Ok-new.ensures shape some (e ∙ sym (ap (λ (n : ℕ). n - c.args.parsers) c.len.ensures))))

pub returns-in-Ok-new-clause-fresh : goal.returns-in-Ok-new-clause-fresh
returns-in-Ok-new-clause-fresh g c =
    ap (λ (xs : List ℕ). merge_of (record { job = declared_of c.args.job.now; parsers = c.args.parsers; credits = c.args.credits; ins = c.args.ins.items; counts = c.in-Ok.counts.items; answers = c.in-Ok-new_answers.answers.items; state = c.in-Ok-new.state; sink = g.O.Sink.seen c.args.sink.now; lent = c.args.sink.ghost_name; gained = xs }) None) c.new-in-Ok-new.ensures
    ∙ is_new (declared_of c.args.job.now) c.args.parsers c.args.credits c.args.ins.items c.in-Ok.counts.items c.in-Ok-new_answers.answers.items c.in-Ok-new.state (g.O.Sink.seen c.args.sink.now) c.args.sink.ghost_name c.args.job.now.lawful
    c.requires.parsers c.requires.processors c.requires.new_ins c.in-Ok.ensures (c.in-Ok-new_answers.ensures ∙ ap (λ (n : ℕ). replicate (n - c.args.parsers) []) c.len.ensures)
    (λ shape some e. c.in-Ok-new.ensures shape some (e ∙ sym (ap (λ (n : ℕ). n - c.args.parsers) c.len.ensures)))

pub returns-in-Ok-new-clause-stands : goal.returns-in-Ok-new-clause-stands
returns-in-Ok-new-clause-stands g c = (invariant_of-result g c).stands
