-- The last item of all is the last of its list.
use Rattle.std.proofs.Common.{◌≡◌, ◌/◌, ◌%◌, length, ap, ◌∙◌}
use Rattle.node_lists.specs.Lists.{items_at}
use Rattle.node_lists.proofs.Dealt.{dealt_more, one_of, place_is}
use Rattle.node_lists.proofs.dealing.+deal.Goals as goal

pub returns-clause-dealt : goal.returns-clause-dealt
returns-clause-dealt g t c =
    let place : c.len.result % c.len-2.result ≡ length c.pop.new.self.items % length c.args.lists.now.items =
    ap (λ n. n % c.len-2.result) c.len.ensures ∙ ap (λ n. length c.pop.new.self.items % n) c.len-2.ensures in
    dealt_more (length c.args.lists.now.items) c.pop.new.self.items c.args.items.now.items (items_at c.deal.new.lists.items) (items_at c.put_at.new.lists.items) c.in-Some.last
    (c.len.result % c.len-2.result) (length c.pop.new.self.items / length c.args.lists.now.items)
    (one_of c.deal.new.lists.items c.put_at.new.lists.items (length c.args.lists.now.items) (length c.pop.new.self.items) (c.len.result % c.len-2.result) c.in-Some.last c.requires.some place c.put_at.ensures.put)
    (place_is (length c.args.lists.now.items) (length c.pop.new.self.items) (c.len.result % c.len-2.result) place)
    c.in-Some.ensures.taken
    c.deal.ensures.dealt
