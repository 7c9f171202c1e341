-- The last item of all is the last of its list.
use Rattle.std.proofs.Common.{ℕ, ◌≡◌, ◌+◌, ◌-◌, ◌/◌, ◌%◌, length, sym, ap, ◌∙◌, subst, arith}
use Rattle.node_lists.specs.Lists.{items_at}
use Rattle.node_lists.specs.Dealing.{AreCounted, AreDealt}
use Rattle.node_lists.proofs.Dealt.{counted_less, dealt_more, has_last, none_counted, one_of, place_is}
use Rattle.node_lists.proofs.dealing.+gather.Goals as goal

pub returns-then-count-eq0-clause-emptied : goal.returns-then-count-eq0-clause-emptied
returns-then-count-eq0-clause-emptied g t c = none_counted (length c.args.lists.now.items) c.args.count (items_at c.args.lists.now.items) c.requires.counted (omega arith)

pub take_last-last-requires-clause-some : goal.take_last-last-requires-clause-some
take_last-last-requires-clause-some g t c =
    has_last (length c.args.lists.now.items) (c.args.count - 1) ((c.args.count - 1) % c.len.result) (items_at c.args.lists.now.items)
    (subst (λ (n : ℕ). AreCounted (length c.args.lists.now.items) n (items_at c.args.lists.now.items)) (let e : c.args.count ≡ (c.args.count - 1) + 1 = omega arith in e) c.requires.counted)
    c.requires.some (ap (λ n. (c.args.count - 1) % n) c.len.ensures)

pub gather-requires : goal.gather-requires
gather-requires g t c κs within =
    let long : length c.take_last-last.new.lists.items ≡ length c.args.lists.now.items = sym c.take_last-last.ensures.long in (
      omega arith,
      (
        within,
        (
          omega (arith, long),
          (
            subst (λ (n : ℕ). AreCounted n (c.args.count - 1) (items_at c.take_last-last.new.lists.items)) (sym long)
                (counted_less (length c.args.lists.now.items) (c.args.count - 1) (items_at c.take_last-last.new.lists.items) (items_at c.args.lists.now.items) c.take_last-last.result ((c.args.count - 1) % c.len.result)
                ((c.args.count - 1) / length c.args.lists.now.items)
                (one_of c.take_last-last.new.lists.items c.args.lists.now.items (length c.args.lists.now.items) (c.args.count - 1) ((c.args.count - 1) % c.len.result) c.take_last-last.result c.requires.some
                (ap (λ n. (c.args.count - 1) % n) c.len.ensures) c.take_last-last.ensures)
                (place_is (length c.args.lists.now.items) (c.args.count - 1) ((c.args.count - 1) % c.len.result) (ap (λ n. (c.args.count - 1) % n) c.len.ensures))
                (subst (λ (n : ℕ). AreCounted (length c.args.lists.now.items) n (items_at c.args.lists.now.items)) (let e : c.args.count ≡ (c.args.count - 1) + 1 = omega arith in e) c.requires.counted)),
            (c.requires.none, omega (arith, c.requires.room)),
          ),
        ),
      ),
    )

pub returns-clause-gathered : goal.returns-clause-gathered
returns-clause-gathered g t c =
    let long : length c.take_last-last.new.lists.items ≡ length c.args.lists.now.items = sym c.take_last-last.ensures.long in
    let place : (c.args.count - 1) % c.len.result ≡ (c.args.count - 1) % length c.args.lists.now.items = ap (λ n. (c.args.count - 1) % n) c.len.ensures in
    dealt_more (length c.args.lists.now.items) c.gather.new.into.items c.push.new.self.items (items_at c.take_last-last.new.lists.items) (items_at c.args.lists.now.items) c.take_last-last.result
    ((c.args.count - 1) % c.len.result) ((c.args.count - 1) / length c.args.lists.now.items)
    (one_of c.take_last-last.new.lists.items c.args.lists.now.items (length c.args.lists.now.items) (c.args.count - 1) ((c.args.count - 1) % c.len.result) c.take_last-last.result c.requires.some place c.take_last-last.ensures)
    (c.gather.ensures.count ∙ place_is (length c.args.lists.now.items) (c.args.count - 1) ((c.args.count - 1) % c.len.result) place)
    c.in-Ok.ensures.pushed
    (subst (λ (n : ℕ). AreDealt n c.gather.new.into.items (items_at c.take_last-last.new.lists.items)) long c.gather.ensures.gathered)
