-- The sources that were dealt out are those of the parsers, or are gathered again.
use Rattle.std.proofs.Common.{ℕ, ◌≡◌, length, map, sym, ◌∙◌, subst, arith}
use Rattle.std.proofs.lemmas.List.{length-map}
use Rattle.node_lists.specs.Lists.{items_at}
use Rattle.node_lists.specs.Dealing.{AreCounted, AreDealt}
use Rattle.node_lists.proofs.Dealt.{dealt_map, dealt_same, dealt_is_one}
use Rattle.summary_spec.specs.Job.{declared_of}
use Rattle.new_pipeline.specs.Opening.{sources_of}
use Rattle.new_pipeline.specs.Rooms.{own_of}
use Rattle.new_pipeline.proofs.Gathered.{all_fresh, own_is, layer_own, taken_own, some_of}
use Rattle.new_pipeline.proofs.opening.fill.Goals as goal

pub parser_layer-requires-clause-fresh : goal.parser_layer-requires-clause-fresh
parser_layer-requires-clause-fresh g c =
    all_fresh g.S.Source.seen (length c.args.empty.room.lists.items) c.args.sources.items c.deal.new.lists.items c.deal.ensures.long c.deal.ensures.dealt c.requires.fresh

pub gather_sources-requires-clause-none : goal.gather_sources-requires-clause-none
gather_sources-requires-clause-none g c = λ p less.
    (c.in-Err.ensures.refused.taken p (some_of c.parser_layer.new.layer.items p less) less).1

pub gather_sources-requires-clause-counted : goal.gather_sources-requires-clause-counted
gather_sources-requires-clause-counted g c =
    let long : length c.parser_layer.new.sources.items ≡ length c.args.empty.room.lists.items = c.in-Err.ensures.long ∙ c.deal.ensures.long in
    subst (λ (n : ℕ). AreCounted n c.len-captures.result (own_of g.S.Source.seen c.parser_layer.new.layer.items c.parser_layer.new.sources.items)) (sym long)
    (subst (λ (n : ℕ). AreCounted (length c.args.empty.room.lists.items) n (own_of g.S.Source.seen c.parser_layer.new.layer.items c.parser_layer.new.sources.items))
    (length-map c.args.sources.items g.S.Source.seen ∙ sym c.len-captures.ensures)
    (dealt_same (length c.args.empty.room.lists.items) (map g.S.Source.seen c.args.sources.items) (λ p. map g.S.Source.seen (items_at c.deal.new.lists.items p))
    (own_of g.S.Source.seen c.parser_layer.new.layer.items c.parser_layer.new.sources.items)
    (λ p less. taken_own g.S.Source.seen c.parser_layer.new.layer.items c.deal.new.lists.items c.parser_layer.new.sources.items c.in-Err.ensures.refused p)
    (dealt_map g.S.Source.seen (length c.args.empty.room.lists.items) c.args.sources.items (items_at c.deal.new.lists.items) c.deal.ensures.dealt)).counted)

pub returns-in-Ok-clause-made : goal.returns-in-Ok-clause-made
returns-in-Ok-clause-made g c =
    layer_own (declared_of c.args.job.now) (length c.args.outs.items) (λ p. map g.S.Source.seen (items_at c.deal.new.lists.items p)) c.args.outs.items c.parser_layer.new.layer.items c.in-Ok.ensures.made

pub returns-in-Ok-clause-dealt : goal.returns-in-Ok-clause-dealt
returns-in-Ok-clause-dealt g c =
    dealt_same (length c.args.outs.items) (map g.S.Source.seen c.args.sources.items) (λ p. map g.S.Source.seen (items_at c.deal.new.lists.items p)) (sources_of c.parser_layer.new.layer.items)
    (own_is (declared_of c.args.job.now) (length c.args.outs.items) (λ p. map g.S.Source.seen (items_at c.deal.new.lists.items p)) c.args.outs.items c.parser_layer.new.layer.items c.in-Ok.ensures.made)
    (dealt_map g.S.Source.seen (length c.args.outs.items) c.args.sources.items (items_at c.deal.new.lists.items)
    (subst (λ (n : ℕ). AreDealt n c.args.sources.items (items_at c.deal.new.lists.items)) c.requires.room.lists_are.long c.deal.ensures.dealt))

pub returns-in-Err-clause-refused : goal.returns-in-Err-clause-refused
returns-in-Err-clause-refused g c =
    let long : length c.parser_layer.new.sources.items ≡ length c.args.empty.room.lists.items = c.in-Err.ensures.long ∙ c.deal.ensures.long in
    dealt_is_one (length c.args.empty.room.lists.items) (map g.S.Source.seen c.gather_sources.result.items) (map g.S.Source.seen c.args.sources.items)
    (own_of g.S.Source.seen c.parser_layer.new.layer.items c.parser_layer.new.sources.items)
    (omega (arith, c.requires.parsers.0, c.requires.room.lists_are.long))
    (subst (λ (n : ℕ). AreDealt n (map g.S.Source.seen c.gather_sources.result.items) (own_of g.S.Source.seen c.parser_layer.new.layer.items c.parser_layer.new.sources.items)) long c.gather_sources.ensures)
    (dealt_same (length c.args.empty.room.lists.items) (map g.S.Source.seen c.args.sources.items) (λ p. map g.S.Source.seen (items_at c.deal.new.lists.items p))
    (own_of g.S.Source.seen c.parser_layer.new.layer.items c.parser_layer.new.sources.items)
    (λ p less. taken_own g.S.Source.seen c.parser_layer.new.layer.items c.deal.new.lists.items c.parser_layer.new.sources.items c.in-Err.ensures.refused p)
    (dealt_map g.S.Source.seen (length c.args.empty.room.lists.items) c.args.sources.items (items_at c.deal.new.lists.items) c.deal.ensures.dealt))
