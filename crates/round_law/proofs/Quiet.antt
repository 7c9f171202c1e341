-- A quiet round of the pipeline, and its end.
use Rattle.std.proofs.Common.{ℕ, ◌+◌, ◌<◌, ◌++◌, List, length, sym, ap, subst, ◌∙◌, ⊎_elim, arith}
use Rattle.round_law.specs.Links.{Sender, Receiver, ComesThrough, IsSettled, new_sender, new_receiver}
use Rattle.round_law.specs.Waits.{Node, in_at, out_at, IsDone}
use Rattle.round_law.specs.Rows.{StandsStill, PipesStay, SenderStays, ReceiverStays, IdleRow, DoneRow, IsOrderly, OffersFew, AreCounted}
use Rattle.round_law.specs.Pipeline.{Net, Place, parser_at, grouper_at, processor_at, node_of, IsIn, IsAlike, IsShaped, EachNode, EachLink, IsSound}
use Rattle.round_law.specs.Pipeline.Place.{Parser, Grouper, Processor, Merge}
use Rattle.round_law.specs.Measure.{IsInLimits, IsLimited, ReadsFew, ReadsNone}
use Rattle.round_law.specs.Rounds.{IsQuietRound, QuietIsDone, QuietIsSettled, AllDoneIsSettled}
use Rattle.round_law.proofs.Ends.{done_is_settled}
use Rattle.round_law.proofs.Rounds.{still_is_done}
use Rattle.round_law.proofs.Pipelines.{rank_of, is_network, still_in, alike_back, joined_comes_through}
use Rattle.round_law.proofs.Bounds.{run_has_bound}

-- ---- each node of the later pipeline

each_after : (P : Node → Type 0) (before after : Net) → IsAlike before after → ((place : Place) → IsIn before place → P (node_of after place)) → EachNode P after
each_after P before after alike each place there = each place (still_in after before (alike_back before after alike) place there)

module _ (captures credits : ℕ) (before after : Net) (round : IsQuietRound captures credits before after) where
  still : (place : Place) → IsIn before place → StandsStill (node_of before place) (node_of after place)
  still place there =
      ⊎_elim (λ (row : IdleRow credits (node_of before place) (node_of after place)). row.still) (λ (row : DoneRow (node_of before place) (node_of after place)). row.still) (round.rests place there).row

  pipes : (place : Place) → IsIn before place → PipesStay (node_of before place) (node_of after place)
  pipes place there = (round.rests place there).pipes

  orderly : (place : Place) → IsIn before place → IsOrderly (node_of after place)
  orderly place there =
      ⊎_elim (λ (row : IdleRow credits (node_of before place) (node_of after place)). row.orderly) (λ (row : DoneRow (node_of before place) (node_of after place)). row.orderly) (round.rests place there).row

  few : (place : Place) → IsIn before place → OffersFew (node_of after place)
  few place there =
      ⊎_elim (λ (row : IdleRow credits (node_of before place) (node_of after place)). row.few) (λ (row : DoneRow (node_of before place) (node_of after place)). row.few) (round.rests place there).row

  back : (place : Place) → IsIn after place → IsIn before place
  back = still_in after before (alike_back before after round.alike)

  shaped : IsShaped after
  shaped = record {
    parser_ins = λ p there. (still (Parser p) (back (Parser p) there)).in_count ∙ round.sound.shaped.parser_ins p (back (Parser p) there);
    parser_outs = λ p there. (still (Parser p) (back (Parser p) there)).out_count ∙ round.sound.shaped.parser_outs p (back (Parser p) there) ∙ ap (λ n. n + 1) (sym round.alike.groupers);
    grouper_ins = λ g there. (still (Grouper g) (back (Grouper g) there)).in_count ∙ round.sound.shaped.grouper_ins g (back (Grouper g) there) ∙ sym round.alike.parsers;
    grouper_outs = λ g there. (still (Grouper g) (back (Grouper g) there)).out_count ∙ round.sound.shaped.grouper_outs g (back (Grouper g) there) ∙ sym round.alike.processors;
    processor_ins = λ q there. (still (Processor q) (back (Processor q) there)).in_count ∙ round.sound.shaped.processor_ins q (back (Processor q) there) ∙ sym round.alike.groupers;
    processor_outs = λ q there. (still (Processor q) (back (Processor q) there)).out_count ∙ round.sound.shaped.processor_outs q (back (Processor q) there);
    merge_ins =
        (still Merge tt).in_count ∙ round.sound.shaped.merge_ins ∙ ap (λ n. n + length before.processors) (sym round.alike.parsers)
        ∙ ap (λ n. length after.parsers + n) (sym round.alike.processors);
    merge_outs = (still Merge tt).out_count ∙ round.sound.shaped.merge_outs;
  }

  sound : IsSound credits after
  sound = record {
    shaped = shaped;
    orderly = each_after IsOrderly before after round.alike orderly;
    ends = λ place there. round.ends place (back place there);
  }

  -- a link whose ends stand still
  still_through : (s t : Sender) (r u : Receiver) → SenderStays s t → ReceiverStays r u → ComesThrough s r → ComesThrough t u
  still_through s t r u out into through = (through.0, out.put ∙ through.1 ∙ ap (λ (bytes : List ℕ). bytes ++ through.0) (sym into.got))

  came : EachLink ComesThrough before
  came = joined_comes_through credits before round.joined

  comes : EachLink ComesThrough after
  comes = record {
    to_grouper = λ p g hp hg.
        let bp : p < length before.parsers = back (Parser p) hp in
        let bg : g < length before.groupers = back (Grouper g) hg in
        let outs = round.sound.shaped.parser_outs p bp in
        let ins = round.sound.shaped.grouper_ins g bg in
        still_through (out_at (parser_at before p) g) (out_at (parser_at after p) g) (in_at (grouper_at before g) p) (in_at (grouper_at after g) p)
        ((pipes (Parser p) bp).outs g (omega arith)) ((pipes (Grouper g) bg).ins p (omega arith)) (came.to_grouper p g bp bg);
    to_merge = λ p hp.
        let bp : p < length before.parsers = back (Parser p) hp in
        let outs = round.sound.shaped.parser_outs p bp in
        let ins = round.sound.shaped.merge_ins in
        subst (λ n. ComesThrough (out_at (parser_at after p) n) (in_at after.merge p)) (sym round.alike.groupers)
        (still_through (out_at (parser_at before p) (length before.groupers)) (out_at (parser_at after p) (length before.groupers)) (in_at before.merge p) (in_at after.merge p)
        ((pipes (Parser p) bp).outs (length before.groupers) (omega arith)) ((pipes Merge tt).ins p (omega arith)) (came.to_merge p bp));
    to_processor = λ g q hg hq.
        let bg : g < length before.groupers = back (Grouper g) hg in
        let bq : q < length before.processors = back (Processor q) hq in
        let outs = round.sound.shaped.grouper_outs g bg in
        let ins = round.sound.shaped.processor_ins q bq in
        still_through (out_at (grouper_at before g) q) (out_at (grouper_at after g) q) (in_at (processor_at before q) g) (in_at (processor_at after q) g)
        ((pipes (Grouper g) bg).outs q (omega arith)) ((pipes (Processor q) bq).ins g (omega arith)) (came.to_processor g q bg bq);
    from_processor = λ q hq.
        let bq : q < length before.processors = back (Processor q) hq in
        let outs = round.sound.shaped.processor_outs q bq in
        let ins = round.sound.shaped.merge_ins in
        subst (λ n. ComesThrough (out_at (processor_at after q) 0) (in_at after.merge (n + q))) (sym round.alike.parsers)
        (still_through (out_at (processor_at before q) 0) (out_at (processor_at after q) 0) (in_at before.merge (length before.parsers + q)) (in_at after.merge (length before.parsers + q))
        ((pipes (Processor q) bq).outs 0 (omega arith)) ((pipes Merge tt).ins (length before.parsers + q) (omega arith)) (came.from_processor q bq));
  }

  none_read : (b a : Node) → StandsStill b a → ReadsNone b → ReadsNone a
  none_read b a stays none = record { read = stays.read ∙ none.read; records = stays.records ∙ none.records }

  few_read : (b a : Node) → StandsStill b a → ReadsFew captures b → ReadsFew captures a
  few_read b a stays reads =
      let read = stays.read in
      let records = stays.records in
      let few_bytes = reads.read in
      let few_records = reads.records in
      record { read = omega arith; records = omega arith }

  limited : IsLimited captures after
  limited = record {
    parsers = λ p there. let is_in : p < length before.parsers = back (Parser p) there in few_read (parser_at before p) (parser_at after p) (still (Parser p) is_in) (round.limited.parsers p is_in);
    groupers = λ g there. let is_in : g < length before.groupers = back (Grouper g) there in none_read (grouper_at before g) (grouper_at after g) (still (Grouper g) is_in) (round.limited.groupers g is_in);
    processors = λ q there. let is_in : q < length before.processors = back (Processor q) there in none_read (processor_at before q) (processor_at after q) (still (Processor q) is_in) (round.limited.processors q is_in);
    merge = none_read before.merge after.merge (still Merge tt) round.limited.merge;
    few = each_after OffersFew before after round.alike few;
  }

  limits : IsInLimits captures after
  limits =
      let p = round.alike.parsers in
      let g = round.alike.groupers in
      let q = round.alike.processors in
      let few_p = round.limits.parsers in
      let few_g = round.limits.groupers in
      let few_q = round.limits.processors in
      record { few_captures = round.limits.few_captures; parsers = omega arith; groupers = omega arith; processors = omega arith }

  counted_before : EachNode AreCounted before
  counted_before = (run_has_bound captures credits before round.limits round.sound came round.limited).counted

  counted_after : EachNode AreCounted after
  counted_after = (run_has_bound captures credits after limits sound comes limited).counted

  all_done : (place : Place) → IsIn before place → IsDone (node_of before place) × IsDone (node_of after place)
  all_done =
      still_is_done (IsIn before) rank_of credits (node_of before) (node_of after)
      (record {
        network = is_network credits before round.sound.shaped round.joined;
        orderly = round.sound.orderly;
        sound = round.sound.ends;
        sound_after = round.ends;
        counted = counted_before;
        counted_after = λ place there. counted_after place (still_in before after round.alike place there);
        rests = round.rests;
      })

pub quiet_is_done : (captures credits : ℕ) (before after : Net) → QuietIsDone captures credits before after
quiet_is_done captures credits before after round = all_done captures credits before after round

-- ---- a finished pipeline

module _ (captures credits : ℕ) (net : Net) (limits : IsInLimits captures net) (sound : IsSound credits net) (through : EachLink ComesThrough net) (limited : IsLimited captures net)
    (done : EachNode IsDone net) where
  counted : EachNode AreCounted net
  counted = (run_has_bound captures credits net limits sound through limited).counted

  settled : (from : Place) (k : ℕ) (to : Place) (j : ℕ) → IsIn net from → k < length (node_of net from).outs → IsIn net to → j < length (node_of net to).ins
      → ComesThrough (out_at (node_of net from) k) (in_at (node_of net to) j) → IsSettled (out_at (node_of net from) k) (in_at (node_of net to) j)
  settled from k to j hf out ht into came =
      done_is_settled credits (out_at (node_of net from) k) (in_at (node_of net to) j)
      ((sound.ends from hf).senders k new_sender out ((counted from hf).offered k new_sender out)) ((sound.orderly from hf).offered k new_sender out)
      ((sound.ends to ht).receivers j (new_receiver 0) into) ((sound.orderly to ht).granted j (new_receiver 0) into ((counted to ht).given j (new_receiver 0) into))
      came ((done from hf).outs k new_sender out) ((done to ht).ins j (new_receiver 0) into)

  all_settled : EachLink IsSettled net
  all_settled = record {
    to_grouper = λ p g hp hg.
        let outs = sound.shaped.parser_outs p hp in
        let ins = sound.shaped.grouper_ins g hg in
        settled (Parser p) g (Grouper g) p hp (omega arith) hg (omega arith) (through.to_grouper p g hp hg);
    to_merge = λ p hp.
        let outs = sound.shaped.parser_outs p hp in
        let ins = sound.shaped.merge_ins in
        settled (Parser p) (length net.groupers) Merge p hp (omega arith) tt (omega arith) (through.to_merge p hp);
    to_processor = λ g q hg hq.
        let outs = sound.shaped.grouper_outs g hg in
        let ins = sound.shaped.processor_ins q hq in
        settled (Grouper g) q (Processor q) g hg (omega arith) hq (omega arith) (through.to_processor g q hg hq);
    from_processor = λ q hq.
        let outs = sound.shaped.processor_outs q hq in
        let ins = sound.shaped.merge_ins in
        settled (Processor q) 0 Merge (length net.parsers + q) hq (omega arith) tt (omega arith) (through.from_processor q hq);
  }

pub all_done_is_settled : (captures credits : ℕ) (net : Net) → AllDoneIsSettled captures credits net
all_done_is_settled captures credits net limits sound through limited done = all_settled captures credits net limits sound through limited done

pub quiet_is_settled : (captures credits : ℕ) (before after : Net) → QuietIsSettled captures credits before after
quiet_is_settled captures credits before after round = (
  all_settled captures credits before round.limits round.sound (came captures credits before after round) round.limited
      (λ place there. (all_done captures credits before after round place there).0),
  all_settled captures credits after (limits captures credits before after round) (sound captures credits before after round) (comes captures credits before after round)
      (limited captures credits before after round)
      (each_after IsDone before after round.alike (λ place there. (all_done captures credits before after round place there).1)),
)
