-- A new processor stands.
use Rattle.std.proofs.Common.{ℕ, ◌≡◌, [], replicate, sym, ap, ◌∙◌, subst}
use Rattle.std.specs.List.{All}
use Rattle.std.proofs.lemmas.Option.{get_or_from_slice_get}
use Rattle.credit_link.specs.Ends.{TxSeen}
use Rattle.summary_spec.specs.Job.{declared_of}
use Rattle.query_state.specs.States.{state_is}
use Rattle.net_law.specs.Ends.{no_tx, tx_at}
use Rattle.net_law.specs.Starts.{IsNewTx, IsNewRx}
use Rattle.query_node.proofs.Starting.{new_node}
use Rattle.query_node.proofs.node.QueryNode.new.Goals as goal

pub invariant_of-result : goal.invariant_of-result
invariant_of-result g c =
    let job = declared_of c.args.job.now in
    let number : c.credits-credits.result ≡ (tx_at c.args.outs.items 0).credits =
    c.credits-credits.ensures.credits ∙ sym (ap (λ (t : TxSeen). t.credits) (get_or_from_slice_get c.args.outs.items 0 c.get.result.now no_tx c.get.ensures)) in
    new_node job c.credits-credits.result c.args.ins.items c.args.outs.items c.in-Ok.orders.items c.in-Ok-new-2.shuffle c.in-Ok-new.state c.args.job.now.lawful c.requires.ins_few c.requires.one_out
    (subst (λ (n : ℕ). All (IsNewRx n) c.args.ins.items) (sym number) c.requires.new_ins) (subst (λ (n : ℕ). All (IsNewTx n) c.args.outs.items) (sym number) c.requires.new_out)
    c.in-Ok-new-2.ensures.fresh c.in-Ok-new-2.ensures.holds (c.in-Ok.ensures ∙ ap (λ (n : ℕ). replicate n []) c.len-count.ensures)
    (subst (λ (n : ℕ). state_is job (replicate n []) [] c.in-Ok-new.state) c.len-count.ensures (c.in-Ok-new.ensures job c.args.job.now.lawful))

pub returns-in-Ok-new-2-clause-stands : goal.returns-in-Ok-new-2-clause-stands
returns-in-Ok-new-2-clause-stands g c = (invariant_of-result g c).stands
