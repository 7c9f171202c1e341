use Rattle.std.proofs.Common.{ℕ, ◌≡◌, ◌<◌, true, false, None, length, sym, subst, arith}
use Rattle.run_law.specs.Nodes.{least_of_links}
use Rattle.query_state.specs.States.{is_mark_due, taken_on}
use Rattle.query_state.specs.declared.state.QueryState.{QueryState}
use Rattle.query_state.proofs.Stepped as stepped
use Rattle.query_state.proofs.state.QueryState.next_due.Goals as goal

pub returns-in-Some-clause-rests : goal.returns-in-Some-clause-rests
returns-in-Some-clause-rests c = λ none job taken put h.
    let rests = c.next_mark.ensures.rests none in
    let low = rests.0 in
    let value = c.in-Some.ensures.value in
    subst
    (λ (d : QueryState). (is_mark_due (least_of_links (length taken) (taken_on taken)) d.mark ≡ false) × (least_of_links (length taken) (taken_on taken) ≡ None → d.finished ≡ true))
    (sym rests.1)
    (stepped.nothing_due job taken put c.args.self.now.lanes.items c.args.self.now.marks c.args.self.now.profile c.args.self.now.mark c.args.self.now.next c.args.self.now.finished h
    (λ l is. let same : l ≡ c.in-Some.least = cc in omega (arith, same, low))
    (λ is. absurd (cc)))
