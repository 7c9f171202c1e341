-- Frames that are put behind those of one link, and what the other links had.
use Rattle.std.proofs.Common.{ℕ, ◌≡◌, ◌<◌, ◌+◌, List, [], ◌∷◌, ◌++◌, length, get_or, sym, ap, ◌∙◌, arith}
use Rattle.std.specs.Prelude.{slice_index_or, slice_set}
use Rattle.std.proofs.lemmas.List.{append_cancel_left, get_or-set_same, get_or-set_other}
use Rattle.ds_base.specs.declared.capture.Counts.{Counts}
use Rattle.credit_link.specs.Ends.{TxSeen}
use Rattle.node_frames.specs.declared.frame.Frame.{Frame}
use Rattle.node_frames.specs.declared.frame.Frame.TheVariants.{CaptureEnd, CountsRow}
use Rattle.shuffle_poll.specs.Shuffles.{ShuffleSeen, ShuffleHolds}
use Rattle.node_lanes.specs.Ends.{put_on}
use Rattle.node_lanes.proofs.Listed.{puts_at}
use Rattle.node_lanes.proofs.Resting.{tx_of_list}
use Rattle.parser_captures.proofs.Puts.{more_put, same_put}
use Rattle.parser_steps.specs.One.{PutsEnd}

-- no frame waits where none was put and none waited
pub still_empty : (old new : ShuffleSeen) (k : ℕ) → new.links ≡ old.links → k < length old.links → put_on new k ≡ put_on old k → slice_index_or old.queues k [] ≡ [] → slice_index_or new.queues k [] ≡ []
still_empty old new k links less same none =
    let d : TxSeen = tx_of_list old.links k less in
    let was : put_on old k ≡ (get_or old.links k d).offered ++ get_or old.queues k [] = puts_at old.links old.queues k d less in
    let now : put_on new k ≡ (get_or new.links k d).offered ++ get_or new.queues k [] = puts_at new.links new.queues k d (omega (arith, less, ap length links)) in
    let link : (get_or new.links k d).offered ≡ (get_or old.links k d).offered = ap (λ (ls : List TxSeen). (get_or ls k d).offered) links in
    append_cancel_left (get_or old.links k d).offered (get_or new.queues k []) (get_or old.queues k [])
    (ap (λ (fs : List Frame). fs ++ get_or new.queues k []) (sym link) ∙ sym now ∙ same ∙ was) ∙ none

-- the end of a capture for each grouper, and its row for the merge
pub ended_put : (number groupers : ℕ) (counts : Counts) (old mid new : ShuffleSeen) → length old.links ≡ groupers + 1 → mid.links ≡ old.links → new.links ≡ mid.links
    → ShuffleHolds mid.links mid.queues → ShuffleHolds new.links new.queues → ((g : ℕ) → g < groupers → put_on mid g ≡ put_on old g ++ CaptureEnd number ∷ [])
    → put_on mid groupers ≡ put_on old groupers → new.queues ≡ slice_set mid.queues groupers (slice_index_or mid.queues groupers [] ++ CountsRow number counts ∷ [])
    → PutsEnd number groupers counts old new
ended_put number groupers counts old mid new long links links' holds holds' ends merge put = record {
  ends = λ g less.
      same_put mid new g links' holds.as_many holds'.as_many
      (ap (λ (qs : List (List Frame)). get_or qs g []) put
      ∙ get_or-set_other mid.queues groupers g (slice_index_or mid.queues groupers [] ++ CountsRow number counts ∷ []) [] (λ e. absurd (omega (arith, less, e))))
      ∙ ends g less;
  row =
      more_put mid new groupers (CountsRow number counts ∷ []) links' holds.as_many holds'.as_many (omega (arith, long, ap length links))
      (ap (λ (qs : List (List Frame)). get_or qs groupers []) put
      ∙ get_or-set_same mid.queues groupers (slice_index_or mid.queues groupers [] ++ CountsRow number counts ∷ []) [] (omega (arith, long, ap length links, holds.as_many)))
      ∙ ap (λ (fs : List Frame). fs ++ CountsRow number counts ∷ []) merge;
}
