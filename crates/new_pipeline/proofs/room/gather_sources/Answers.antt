-- Each list has what was its parser's own.
use Rattle.std.proofs.Common.{ℕ, List, length, sym, ap, ◌∙◌, subst}
use Rattle.std.proofs.lemmas.List.{length-map}
use Rattle.ds_base.specs.Outside.{SourceSeen}
use Rattle.node_lists.specs.Lists.{items_at}
use Rattle.node_lists.specs.Dealing.{AreCounted, AreDealt}
use Rattle.new_pipeline.specs.Rooms.{own_of}
use Rattle.new_pipeline.proofs.Gathered.{put_back, counted_by, gathered_own}
use Rattle.new_pipeline.proofs.room.gather_sources.Goals as goal

pub gather-requires-clause-counted : goal.gather-requires-clause-counted
gather-requires-clause-counted g c =
    subst (λ (n : ℕ). AreCounted n c.args.captures (items_at c.close_parsers.new.sources.items)) (sym c.close_parsers.ensures.back.long)
    (counted_by (length c.args.room.lists.items) c.args.captures (own_of g.S.Source.seen c.args.parsers.items c.args.room.lists.items) (items_at c.close_parsers.new.sources.items)
    (λ p. sym (length-map (items_at c.close_parsers.new.sources.items p) g.S.Source.seen)
    ∙ ap (λ (l : List SourceSeen). length l) (put_back g.S.Source.seen c.args.parsers.items c.args.room.lists.items c.close_parsers.new.sources.items c.close_parsers.ensures.back c.requires.none p))
    c.requires.counted)

pub returns : goal.returns
returns g c =
    gathered_own g.S.Source.seen (length c.args.room.lists.items) c.gather.new.into.items c.close_parsers.new.sources.items (own_of g.S.Source.seen c.args.parsers.items c.args.room.lists.items)
    (put_back g.S.Source.seen c.args.parsers.items c.args.room.lists.items c.close_parsers.new.sources.items c.close_parsers.ensures.back c.requires.none)
    (subst (λ (n : ℕ). AreDealt n c.gather.new.into.items (items_at c.close_parsers.new.sources.items)) c.close_parsers.ensures.back.long c.gather.ensures.gathered)
