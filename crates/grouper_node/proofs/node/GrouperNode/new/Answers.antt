-- A new grouper stands.
use Rattle.std.proofs.Common.{ℕ, ◌≡◌, [], replicate, length, sym, ap, ◌∙◌, subst, arith}
use Rattle.std.specs.List.{All}
use Rattle.std.proofs.lemmas.Option.{get_or_from_slice_get}
use Rattle.credit_link.specs.Ends.{TxSeen}
use Rattle.summary_spec.specs.Job.{declared_of}
use Rattle.net_law.specs.Ends.{no_tx, tx_at}
use Rattle.net_law.specs.Starts.{IsNewTx, IsNewRx}
use Rattle.grouper_node.proofs.Starting.{new_node}
use Rattle.grouper_node.proofs.node.GrouperNode.new.Goals as goal

pub invariant_of-result : goal.invariant_of-result
invariant_of-result g c =
    let job = declared_of c.args.job.now in
    let number : c.credits-credits.result ≡ (tx_at c.args.outs.items 0).credits =
    c.credits-credits.ensures.credits ∙ sym (ap (λ (t : TxSeen). t.credits) (get_or_from_slice_get c.args.outs.items 0 c.get.result.now no_tx c.get.ensures)) in
    new_node job c.args.me c.args.groupers c.len-processors.result c.credits-credits.result c.args.ins.items c.args.outs.items c.in-Ok.orders.items c.in-Ok-new.shuffle c.new_state-state.result
    c.args.job.now.lawful c.requires.place c.len-processors.ensures c.requires.ins_few c.requires.outs_few
    (subst (λ (n : ℕ). All (IsNewRx n) c.args.ins.items) (sym number) c.requires.new_ins) (subst (λ (n : ℕ). All (IsNewTx n) c.args.outs.items) (sym number) c.requires.new_outs)
    c.in-Ok-new.ensures.fresh c.in-Ok-new.ensures.holds (c.in-Ok.ensures ∙ ap (λ (n : ℕ). replicate n []) c.len-parsers.ensures)
    (c.new_state-state.ensures (length c.args.ins.items) c.args.groupers (omega (arith, c.requires.ins_few.0)))

pub returns-in-Ok-new-clause-stands : goal.returns-in-Ok-new-clause-stands
returns-in-Ok-new-clause-stands g c = (invariant_of-result g c).stands
