-- What is handed out is what the nodes had.
use Rattle.std.proofs.Common.{ℕ, ◌≡◌, ◌+◌, ◌*◌, ◌≤◌, true, List, All, length, get_or, map, sym, ap, ◌∙◌, subst}
use Rattle.credit_link.specs.declared.row.LinkRow.{LinkRow}
use Rattle.summary_spec.specs.Job.{declared_of}
use Rattle.run_law.specs.Laws.{accepted_between, captures_of}
use Rattle.net_law.specs.Nets.{Net, NetStands}
use Rattle.new_pipeline.specs.Rooms.{IsRoom}
use Rattle.run_rounds.specs.Runs.{AllAreDone}
use Rattle.pipeline_law.specs.RowLaws.{IsWhole}
use Rattle.pipeline_law.specs.Rows.{AreNumbered, rows_of}
use Rattle.pipeline_law.proofs.Agreeing.{held_is_within, done_rows_agree, done_rows_have_bound}
use Rattle.pipeline_law.proofs.Numbered.{rows_are_numbered}
use Rattle.link_rows.specs.Reading.{AreLinked, pipeline_of}
use Rattle.link_rows.proofs.Linked.{net_linked}
use Rattle.pipeline_nodes.specs.Nodes.{NodesSeen, net_of}
use Rattle.pipeline_core.specs.Pipelines.{PipelineSeen, AreSourcesOf}
use Rattle.pipeline_core.proofs.Ended.{same_net}
use Rattle.pipeline_core.proofs.Gathering.{own_counted, gathered_are}
use Rattle.pipeline_core.proofs.pipeline.Pipeline.close.Goals as goal

pub read_rows-rows-requires-clause-linked : goal.read_rows-rows-requires-clause-linked
read_rows-rows-requires-clause-linked g c =
    let net : Net = net_of (declared_of c.nodes.inside.job.now) c.nodes.inside.credits c.nodes.inside.parsers.items c.nodes.inside.groupers.items c.nodes.inside.processors.items c.nodes.inside.merge.merge in
    let same : net ≡ c.self.inside.nodes.net = ap (λ (s : NodesSeen). s.net) c.nodes.view_is in
    let stands : NetStands net = subst NetStands (sym same) c.self.invariant.nodes.stands in
    subst AreLinked
    (sym (same_net (declared_of c.nodes.inside.job.now) c.nodes.inside.credits c.nodes.inside.parsers.items c.nodes.inside.groupers.items c.nodes.inside.processors.items c.nodes.inside.merge.merge stands))
    (net_linked net stands)

pub gather_sources-sources-requires-clause-counted : goal.gather_sources-sources-requires-clause-counted
gather_sources-sources-requires-clause-counted g c =
    let net : Net = net_of (declared_of c.nodes.inside.job.now) c.nodes.inside.credits c.nodes.inside.parsers.items c.nodes.inside.groupers.items c.nodes.inside.processors.items c.nodes.inside.merge.merge in
    let same : net ≡ c.self.inside.nodes.net = ap (λ (s : NodesSeen). s.net) c.nodes.view_is in
    own_counted g.S.Source.seen net (subst NetStands (sym same) c.self.invariant.nodes.stands) c.self.inside.room.lists.items c.self.inside.room.gathered c.self.inside.captures
    (subst (λ (n : Net). IsRoom n.shape.parsers c.self.inside.captures c.self.inside.room.lists.items c.self.inside.room.gathered) (sym same) c.self.invariant.room)
    (c.self.invariant.all_captures ∙ ap (λ (n : Net). length n.job.captures) (sym same))

pub returns-clause-sources : goal.returns-clause-sources
returns-clause-sources g c =
    let net : Net = net_of (declared_of c.nodes.inside.job.now) c.nodes.inside.credits c.nodes.inside.parsers.items c.nodes.inside.groupers.items c.nodes.inside.processors.items c.nodes.inside.merge.merge in
    let same : net ≡ c.self.inside.nodes.net = ap (λ (s : NodesSeen). s.net) c.nodes.view_is in
    subst (λ (n : Net). AreSourcesOf n (map g.S.Source.seen c.gather_sources-sources.result.items)) (same ∙ ap (λ (s : PipelineSeen). s.net) c.self.view_is)
    (gathered_are g.S.Source.seen net (subst NetStands (sym same) c.self.invariant.nodes.stands) c.self.inside.room.lists.items c.self.inside.room.gathered c.self.inside.captures
    (subst (λ (n : Net). IsRoom n.shape.parsers c.self.inside.captures c.self.inside.room.lists.items c.self.inside.room.gathered) (sym same) c.self.invariant.room)
    (c.self.invariant.all_captures ∙ ap (λ (n : Net). length n.job.captures) (sym same)) c.gather_sources-sources.result.items c.gather_sources-sources.ensures)

pub returns-clause-rows : goal.returns-clause-rows
returns-clause-rows g c =
    let net : Net = net_of (declared_of c.nodes.inside.job.now) c.nodes.inside.credits c.nodes.inside.parsers.items c.nodes.inside.groupers.items c.nodes.inside.processors.items c.nodes.inside.merge.merge in
    let same : net ≡ c.self.inside.nodes.net = ap (λ (s : NodesSeen). s.net) c.nodes.view_is in
    c.read_rows-rows.ensures.rows
    ∙ ap rows_of
    (same_net (declared_of c.nodes.inside.job.now) c.nodes.inside.credits c.nodes.inside.parsers.items c.nodes.inside.groupers.items c.nodes.inside.processors.items c.nodes.inside.merge.merge
    (subst NetStands (sym same) c.self.invariant.nodes.stands)
    ∙ same ∙ ap (λ (s : PipelineSeen). s.net) c.self.view_is)

pub returns-clause-numbered : goal.returns-clause-numbered
returns-clause-numbered g c =
    let net : Net = c.args.self.net in
    subst (AreNumbered net) (sym (returns-clause-rows g c)) (rows_are_numbered net (subst (λ (s : PipelineSeen). NetStands s.net) c.self.view_is c.self.invariant.nodes.stands))

pub returns-clause-held : goal.returns-clause-held
returns-clause-held g c =
    let net : Net = c.args.self.net in
    subst (All (λ (row : LinkRow). row.most_held ≤ net.credits)) (sym (returns-clause-rows g c)) (held_is_within net (subst (λ (s : PipelineSeen). NetStands s.net) c.self.view_is c.self.invariant.nodes.stands))

pub returns-clause-done : goal.returns-clause-done
returns-clause-done g c done =
    subst (λ (s : PipelineSeen). AllAreDone s.net) c.self.view_is (c.done-done.ensures.done (sym c.read_rows-rows.ensures.done ∙ done))

pub returns-clause-whole : goal.returns-clause-whole
returns-clause-whole g c done =
    let net : Net = c.args.self.net in
    subst (All IsWhole) (sym (returns-clause-rows g c))
    (done_rows_agree net (subst (λ (s : PipelineSeen). NetStands s.net) c.self.view_is c.self.invariant.nodes.stands) (returns-clause-done g c done).1)

pub returns-clause-bound : goal.returns-clause-bound
returns-clause-bound g c files tells done p group d hp hg =
    let net : Net = c.args.self.net in
    subst (λ (l : List LinkRow). length (accepted_between net.job files net.shape p group) + length (captures_of net.job net.shape p) + 1 ≤ (get_or l (p * net.shape.groupers + group) d).sent) (sym (returns-clause-rows g c))
    (done_rows_have_bound net files (subst (λ (s : PipelineSeen). NetStands s.net) c.self.view_is c.self.invariant.nodes.stands) (returns-clause-done g c done) tells p group d hp hg)
