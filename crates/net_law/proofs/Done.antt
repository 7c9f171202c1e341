-- Where all nodes are done, the run is.
use Rattle.std.proofs.Common.{ℕ, List, [], ◌∷◌, ◌++◌, ◌≡◌, ◌<◌, ◌+◌, true, false, Bool, ◌||◌, inl, inr, length, refl, sym, ap, subst, ◌∙◌, arith}
use Rattle.std.specs.Prelude.{IsTrue}
use Rattle.ds_base.specs.Fronts.{IsIn}
use Rattle.node_frames.specs.declared.frame.Frame.{Frame}
use Rattle.node_frames.specs.declared.frame.Frame.TheVariants.{Item, Mark, CaptureEnd, GroupHead, Member, GroupMark, AnswerRow, Profile, CountsRow, Finish}
use Rattle.credit_link.specs.Ends.{RxSeen}
use Rattle.credit_link.specs.Frames.{has_finish}
use Rattle.round_law.specs.Links.{Receiver, new_receiver, HasTakenAll}
use Rattle.round_law.specs.Waits.{Node, IsDone}
use Rattle.round_law.specs.Pipeline as round
use Rattle.round_law.specs.Pipeline.{Place, node_of, EachNode}
use Rattle.round_law.specs.Pipeline.Place.{Parser, Grouper, Processor, Merge}
use Rattle.round_law.specs.Rounds.{IsQuietRound}
use Rattle.round_law.proofs.Quiet.{quiet_is_done}
use Rattle.run_law.specs.Nodes.{HasWrittenDue}
use Rattle.node_lanes.specs.Ends.{given_on, receivers_of}
use Rattle.net_law.specs.Parsers.{parser_view}
use Rattle.net_law.specs.Groupers.{grouper_view}
use Rattle.net_law.specs.Processors.{processor_view}
use Rattle.net_law.specs.Merges as mn
use Rattle.net_law.specs.Ends.{rx_at}
use Rattle.net_law.specs.Nets.{Net, grouper_at, processor_at}
use Rattle.net_law.specs.Rounds.{view, captures_of, DoneNodesAreDone, IsStill, StillIsDone}
use Rattle.net_law.proofs.Counting.{receivers_long}
use Rattle.net_law.proofs.Ends.{given_is}
use Rattle.net_law.proofs.Moments.{by_same, merge_shape, merge_takes}
use Rattle.net_law.proofs.Pairs.{grouper_in, processor_in, merge_in, counts_taken, answers_taken}
use Rattle.net_law.proofs.Sound.{node_same, groupers_long, processors_long, view_is_sound, view_is_limited, view_is_joined, sound_ends}
use Rattle.net_law.proofs.Views.{long, receiver_is}

-- ---- the end of a link

is_in : (b : Bool) (f : Frame) (frames : List Frame) → (IsTrue b → Finish ≡ f) → IsTrue (b || has_finish frames) → (IsTrue (has_finish frames) → IsIn Finish frames) → IsIn Finish (f ∷ frames)
is_in true f frames same has rest = inl (same refl)
is_in false f frames same has rest = inr (rest has)

pub finish_in : (frames : List Frame) → IsTrue (has_finish frames) → IsIn Finish frames
finish_in [] h = absurd (let k : false ≡ true = h in cc)
finish_in (Finish ∷ frames) h = inl refl
finish_in (Item s ∷ frames) h = inr (finish_in frames h)
finish_in (Mark c mark ∷ frames) h = inr (finish_in frames h)
finish_in (CaptureEnd c ∷ frames) h = inr (finish_in frames h)
finish_in (GroupHead first members key ∷ frames) h = inr (finish_in frames h)
finish_in (Member at vals ∷ frames) h = inr (finish_in frames h)
finish_in (GroupMark mark ∷ frames) h = inr (finish_in frames h)
finish_in (AnswerRow a ∷ frames) h = inr (finish_in frames h)
finish_in (Profile row ∷ frames) h = inr (finish_in frames h)
finish_in (CountsRow c counts ∷ frames) h = inr (finish_in frames h)

-- a node that is done has taken the end of each of its links
taken_all : (node : Node) (ins : List RxSeen) (j : ℕ) → IsDone node → node.ins ≡ receivers_of ins → j < length ins → IsIn Finish (given_on ins j)
taken_all node ins j done into less =
    let there : j < length node.ins = subst (λ (n : ℕ). j < n) (sym (ap (λ (rs : List Receiver). length rs) into ∙ receivers_long ins)) less in
    let all : HasTakenAll (Rattle.std.specs.Prelude.slice_index_or node.ins j (new_receiver 0)) = done.ins j (new_receiver 0) there in
    let at : Rattle.std.specs.Prelude.slice_index_or node.ins j (new_receiver 0) ≡ Rattle.round_law.specs.Views.receiver_view (rx_at ins j) =
    ap (λ (rs : List Receiver). Rattle.std.specs.Prelude.slice_index_or rs j (new_receiver 0)) into ∙ receiver_is ins j (new_receiver 0) less in
    subst (IsIn Finish) (sym (given_is ins j)) (finish_in (rx_at ins j).given (subst (λ (r : Receiver). IsTrue (has_finish r.given)) at all.finish))

pub done_nodes_are_done : DoneNodesAreDone
done_nodes_are_done net start now quiet done = record {
  items = λ p g hp hg.
      let there : g < length (view net).groupers = subst (λ (n : ℕ). g < n) (sym (groupers_long net now)) hg in
      taken_all (node_of (view net) (Grouper g)) (grouper_at net g).ins p (done (Grouper g) there) (ap (λ (n : Node). n.ins) (node_same net (Grouper g))) (grouper_in net now g p hg hp);
  counts = λ p hp. taken_all (mn.merge_view net.merge) net.merge.ins p (done Merge tt) refl (merge_in net now p (omega arith));
  groups = λ g q hg hq.
      let there : q < length (view net).processors = subst (λ (n : ℕ). q < n) (sym (processors_long net now)) hq in
      taken_all (node_of (view net) (Processor q)) (processor_at net q).ins g (done (Processor q) there) (ap (λ (n : Node). n.ins) (node_same net (Processor q))) (processor_in net now q g hq hg);
  answers = λ q hq. taken_all (mn.merge_view net.merge) net.merge.ins (net.shape.parsers + q) (done Merge tt) refl (merge_in net now (net.shape.parsers + q) (omega arith));
  written = λ ordered in_order. ap (λ (ws : List ℕ). start ++ ws) (all ordered in_order);
}
  where
    takes : mn.TakesLawful net.merge
    takes = merge_takes net net.merge now.merge (λ p hp. counts_taken net now p hp) (λ q hq. answers_taken net now q hq)

    all : HasWrittenDue net.job net.shape (given_on net.merge.ins) (λ q. given_on net.merge.ins (net.shape.parsers + q)) [] net.merge.gained
    all =
        subst (λ (n : ℕ). HasWrittenDue net.job net.shape (given_on net.merge.ins) (λ q. given_on net.merge.ins (n + q)) [] net.merge.gained) now.merge.parsers
        (by_same (λ job shape me. HasWrittenDue job shape (mn.counts_on net.merge) (mn.answers_on net.merge) [] net.merge.gained) net.merge.job net.job
        (mn.shape_with net.merge net.shape.groupers) net.shape 0 0 now.merge.job (merge_shape net net.merge now.merge) refl
        (now.merge.stands.whole takes (done Merge tt).wrote_all net.shape.groupers))

-- ---- a still round

still_round : (before after : Net) → IsStill before after → IsQuietRound (captures_of before) before.credits (view before) (view after)
still_round before after still =
    let limits = view_is_limited before still.stands in
    record {
      limits = limits.0;
      sound = view_is_sound before still.stands still.quiet;
      joined = view_is_joined before still.stands still.looked;
      limited = limits.1;
      alike = record {
        parsers = long parser_view after.parsers ∙ still.alike.counts.0 ∙ sym (long parser_view before.parsers);
        groupers = long grouper_view after.groupers ∙ still.alike.counts.1 ∙ sym (long grouper_view before.groupers);
        processors = long processor_view after.processors ∙ still.alike.counts.2 ∙ sym (long processor_view before.processors);
      };
      ends = λ place there.
          subst (λ (c : ℕ). Rattle.round_law.specs.Rows.HasSoundEnds c (node_of (view after) place)) still.alike.same.2
          (sound_ends after still.stands_after still.quiet_after place (over place there));
      rests = still.rests;
    }
  where
    over : (place : Place) → round.IsIn (view before) place → round.IsIn (view after) place
    over (Parser p) h = subst (λ (n : ℕ). p < n) (sym (long parser_view after.parsers ∙ still.alike.counts.0 ∙ sym (long parser_view before.parsers))) h
    over (Grouper g) h = subst (λ (n : ℕ). g < n) (sym (long grouper_view after.groupers ∙ still.alike.counts.1 ∙ sym (long grouper_view before.groupers))) h
    over (Processor q) h = subst (λ (n : ℕ). q < n) (sym (long processor_view after.processors ∙ still.alike.counts.2 ∙ sym (long processor_view before.processors))) h
    over Merge h = tt

back_in : (before after : Net) → IsStill before after → (place : Place) → round.IsIn (view after) place → round.IsIn (view before) place
back_in before after still (Parser p) h = subst (λ (n : ℕ). p < n) (long parser_view after.parsers ∙ still.alike.counts.0 ∙ sym (long parser_view before.parsers)) h
back_in before after still (Grouper g) h = subst (λ (n : ℕ). g < n) (long grouper_view after.groupers ∙ still.alike.counts.1 ∙ sym (long grouper_view before.groupers)) h
back_in before after still (Processor q) h = subst (λ (n : ℕ). q < n) (long processor_view after.processors ∙ still.alike.counts.2 ∙ sym (long processor_view before.processors)) h
back_in before after still Merge h = tt

pub still_is_done : StillIsDone
still_is_done before after start still =
    let done = quiet_is_done (captures_of before) before.credits (view before) (view after) (still_round before after still) in (
      done_nodes_are_done before start still.stands still.quiet (λ place there. (done place there).0),
      done_nodes_are_done after start still.stands_after still.quiet_after (λ place there. (done place (back_in before after still place there)).1),
    )
