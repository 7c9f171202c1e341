use Rattle.std.proofs.Common.{◌≡◌, Some, None}
use Rattle.window_grouper.specs.Newest.{newest_of}
use Rattle.window_grouper.proofs.Keys.{other_key}
use Rattle.window_grouper.proofs.newest.Newest.forget.Goals as goal

pub returns-then-group-number : goal.returns-then-group-number
returns-then-group-number c =
    let key = c.args.key.now in
    let found : newest_of c.args.self.now key ≡ Some c.in-Some.group = cc (c.in-Some.ensures) in
    let left : newest_of (record { groups = c.remove.new.self }) key ≡ None = c.remove.ensures.updates.1 in
    record {
      stays = λ group e apart.
          let same : group.number ≡ c.args.number = cc in
          absurd (apart same);
      gone = λ group e. absurd (cc);
      others = λ other apart. c.remove.ensures.updates.2 other (other_key key other apart);
    }
