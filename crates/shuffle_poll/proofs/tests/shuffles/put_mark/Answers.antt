-- A Mark is no end.
use Rattle.std.proofs.Common.{◌≡◌, ◌≢◌, ◌<◌, ℕ, ◌⊎◌, ⊎_elim, false, List, [], ◌∷◌, ◌++◌, length, get_or, set, refl, sym, ap, ◌∙◌, subst, arith, append_assoc}
use Rattle.std.proofs.lemmas.List.{get_or-set_other, get_or-set_same, length-set}
use Rattle.node_frames.specs.declared.frame.Frame.{Frame}
use Rattle.node_frames.specs.declared.frame.Frame.TheVariants.{Mark}
use Rattle.credit_link.specs.Ends.{TxSeen}
use Rattle.credit_link.specs.Frames.{is_finish, has_finish}
use Rattle.credit_link.proofs.Listed.{finish_one_more}
use Rattle.shuffle_poll.specs.Lanes.{put_on}
use Rattle.shuffle_poll.specs.Shuffles.{ShuffleSeen, lane_at}
use Rattle.shuffle_poll.proofs.tests.shuffles.put_mark.Goals as goal

one_more : (offered queue more : List Frame) (frame : Frame) → has_finish (offered ++ queue) ≡ false → is_finish frame ≡ false → more ≡ queue ++ frame ∷ [] → has_finish (offered ++ more) ≡ false
one_more offered queue more frame going plain on =
    ap (λ (q : List Frame). has_finish (offered ++ q)) on ∙ ap (λ (fs : List Frame). has_finish fs) (sym (append_assoc offered queue (frame ∷ []))) ∙ finish_one_more (offered ++ queue) frame going ∙ plain

same_or_not : (k i : ℕ) → (k ≡ i) ⊎ (k ≢ i)
same_or_not k i = grind arith

put_goes_on : (links : List TxSeen) (queues queues' : List (List Frame)) (i : ℕ) (frame : Frame) → i < length queues → queues' ≡ set queues i (get_or queues i [] ++ frame ∷ []) → is_finish frame ≡ false
    → (k : ℕ) (d : TxSeen) → has_finish (put_on (lane_at links queues k d)) ≡ false → has_finish (put_on (lane_at links queues' k d)) ≡ false
put_goes_on links queues queues' i frame there put plain k d going =
    ⊎_elim (λ (e : k ≡ i).
    let here : get_or queues' i [] ≡ get_or queues i [] ++ frame ∷ [] = ap (λ l. get_or l i []) put ∙ get_or-set_same queues i (get_or queues i [] ++ frame ∷ []) [] there in
    let on : get_or queues' k [] ≡ get_or queues k [] ++ frame ∷ [] = subst (λ j. get_or queues' j [] ≡ get_or queues j [] ++ frame ∷ []) (sym e) here in
    one_more (get_or links k d).offered (get_or queues k []) (get_or queues' k []) frame going plain on)
    (λ (other : k ≢ i).
    let same : get_or queues' k [] ≡ get_or queues k [] = ap (λ l. get_or l k []) put ∙ get_or-set_other queues i k (get_or queues i [] ++ frame ∷ []) [] other in
    ap (λ (q : List Frame). has_finish ((get_or links k d).offered ++ q)) same ∙ going)
    (same_or_not k i)

pub returns-clause-unfinished : goal.returns-clause-unfinished
returns-clause-unfinished c k d there =
    let old : ShuffleSeen = c.args.shuffle.now in
    let new : ShuffleSeen = c.put.new.self in
    let e = c.put.ensures in
    let inside : k < length old.links = subst (λ (l : List TxSeen). k < length l) e.links there in
    let long : length new.queues ≡ length old.queues = ap (λ (l : List (List Frame)). length l) e.put ∙ length-set old.queues c.args.link (get_or old.queues c.args.link [] ++ Mark c.args.link c.args.n ∷ []) in
    let same : length new.links ≡ length old.links = ap (λ (l : List TxSeen). length l) e.links in
    let waits : c.args.link < length old.queues = omega (arith, c.requires.room.0, long, same, e.holds.as_many) in
    subst (λ (l : List TxSeen). has_finish (put_on (lane_at l new.queues k d)) ≡ false) (sym e.links)
    (put_goes_on old.links old.queues new.queues c.args.link (Mark c.args.link c.args.n) waits e.put refl k d (c.requires.unfinished k d inside))
