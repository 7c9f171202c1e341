-- A GroupMark is no end, and waits alone.
use Rattle.std.proofs.Common.{◌≡◌, ◌<◌, false, List, [], ◌∷◌, ◌++◌, length, get_or, refl, sym, ap, ◌∙◌, subst, arith, append_assoc}
use Rattle.node_frames.specs.declared.frame.Frame.{Frame}
use Rattle.node_frames.specs.declared.frame.Frame.TheVariants.{GroupMark}
use Rattle.credit_link.specs.Ends.{TxSeen}
use Rattle.credit_link.specs.Frames.{is_finish, has_finish}
use Rattle.credit_link.proofs.Listed.{finish_one_more}
use Rattle.shuffle_poll.specs.Lanes.{put_on}
use Rattle.shuffle_poll.specs.Shuffles.{ShuffleSeen, lane_at}
use Rattle.shuffle_poll.proofs.tests.turns.put_group_mark.Goals as goal

one_more : (offered queue more : List Frame) (frame : Frame) → has_finish (offered ++ queue) ≡ false → is_finish frame ≡ false → more ≡ queue ++ frame ∷ [] → has_finish (offered ++ more) ≡ false
one_more offered queue more frame going plain on =
    ap (λ (q : List Frame). has_finish (offered ++ q)) on ∙ ap (λ (fs : List Frame). has_finish fs) (sym (append_assoc offered queue (frame ∷ []))) ∙ finish_one_more (offered ++ queue) frame going ∙ plain

alone : (queue more : List Frame) (frame : Frame) → queue ≡ [] → more ≡ queue ++ frame ∷ [] → length more < 2
alone queue more frame none on =
    let one : length more ≡ 1 = ap (λ (q : List Frame). length q) on ∙ ap (λ (q : List Frame). length (q ++ frame ∷ [])) none in
    omega (arith, one)

pub returns-clause-room : goal.returns-clause-room
returns-clause-room c k there =
    alone (get_or c.args.shuffle.now.queues k []) (get_or c.put_all.new.self.queues k []) (GroupMark c.args.n) (c.requires.none_waits k) (c.put_all.ensures.put k there)

pub returns-clause-unfinished : goal.returns-clause-unfinished
returns-clause-unfinished c k d there =
    let old : ShuffleSeen = c.args.shuffle.now in
    let new : ShuffleSeen = c.put_all.new.self in
    let e = c.put_all.ensures in
    let inside : k < length old.links = subst (λ (l : List TxSeen). k < length l) e.links there in
    let below : k < 17 = subst (λ n. k < n) c.requires.links inside in
    subst (λ (l : List TxSeen). has_finish (put_on (lane_at l new.queues k d)) ≡ false) (sym e.links)
    (one_more (get_or old.links k d).offered (get_or old.queues k []) (get_or new.queues k []) (GroupMark c.args.n) (c.requires.unfinished k d inside) refl (e.put k below))
