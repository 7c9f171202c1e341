-- Each moment of a pipeline is one of the laws of a run.
use Rattle.std.proofs.Common.{ℕ, List, [], ◌++◌, ◌≡◌, ◌<◌, ◌+◌, ◌%◌, true, length, sym, ap, subst, ◌∙◌, arith, refl}
use Rattle.std.specs.Prelude.{IsTrue}
use Rattle.ds_base.specs.Outside.{SourceSeen}
use Rattle.node_frames.specs.declared.frame.Frame.{Frame}
use Rattle.credit_link.specs.Ends.{RxSeen}
use Rattle.shuffle_poll.specs.Shuffles.{ShuffleSeen}
use Rattle.summary_spec.specs.Declaration.{Declared}
use Rattle.run_law.specs.Links.{AreLawfulItems, AreLawfulCounts, AreLawfulGroups, AreLawfulAnswers}
use Rattle.run_law.specs.Nodes.{ParserKeeps, GrouperKeeps, ProcessorKeeps, MergeKeeps}
use Rattle.run_law.specs.Shapes.{Shape, IsCaptureOf, IsFront}
use Rattle.run_law.specs.Snapshot.{IsInStep, IsRead, file_of}
use Rattle.node_lanes.specs.Ends.{given_on, put_on}
use Rattle.net_law.specs.Parsers as pn
use Rattle.net_law.specs.Groupers as gn
use Rattle.net_law.specs.Processors as qn
use Rattle.net_law.specs.Merges as mn
use Rattle.net_law.specs.Ends.{tx_at, rx_at}
use Rattle.net_law.specs.Nets.{Net, AreEnds, IsParserOf, IsGrouperOf, IsProcessorOf, IsMergeOf, parser_at, grouper_at, processor_at, link_of, lists_of}
use Rattle.net_law.specs.Laws.{NetIsSnapshot}
use Rattle.net_law.proofs.Ends.{given_is, sent_is, sent_is_put}
use Rattle.net_law.proofs.Parsed.{counts_by_parsers, reads_as}

-- what is true of a job, a shape and a number is true of equal ones
pub by_same : (P : Declared → Shape → ℕ → Type 0) (j k : Declared) (s t : Shape) (m n : ℕ) → j ≡ k → s ≡ t → m ≡ n → P j s m → P k t n
by_same P j k s t m n job shape number h = subst (λ (l : ℕ). P k t l) number (subst (λ (z : Shape). P k z m) shape (subst (λ (i : Declared). P i s m) job h))

-- a link
pub in_step : (number : ℕ) (outs : ShuffleSeen) (k : ℕ) (ins : List RxSeen) (j : ℕ) → AreEnds number (tx_at outs.links k) (rx_at ins j) → IsInStep (link_of outs k ins j)
in_step number outs k ins j ends = record {
  sent = sent_is_put outs k;
  taken = subst (λ (frames : List Frame). IsFront (given_on ins j) frames) (sym (sent_is outs k))
      (subst (λ (frames : List Frame). IsFront frames (tx_at outs.links k).offered) (sym (given_is ins j)) ends.front);
}

module _ (net : Net) where
  parser_shape : (p : ℕ) (s : pn.ParserSeen) → IsParserOf net p s → pn.shape_with s net.shape.processors ≡ net.shape
  parser_shape p s is =
      ap (λ (n : ℕ). record { parsers = n; groupers = pn.groupers_of s; processors = net.shape.processors }) is.parsers
      ∙ ap (λ (n : ℕ). record { parsers = net.shape.parsers; groupers = n; processors = net.shape.processors }) (parser_groupers p s is)
    where
      parser_groupers : (p : ℕ) (s : pn.ParserSeen) → IsParserOf net p s → pn.groupers_of s ≡ net.shape.groupers
      parser_groupers p s is = let outs = is.outs in omega arith

  groupers_of_parser : (p : ℕ) (s : pn.ParserSeen) → IsParserOf net p s → pn.groupers_of s ≡ net.shape.groupers
  groupers_of_parser p s is = let outs = is.outs in omega arith

  pub grouper_shape : (g : ℕ) (s : gn.GrouperSeen) → IsGrouperOf net g s → gn.shape_of s ≡ net.shape
  grouper_shape g s is =
      ap (λ (n : ℕ). record { parsers = n; groupers = s.groupers; processors = length s.outs.links }) is.ins
      ∙ ap (λ (n : ℕ). record { parsers = net.shape.parsers; groupers = n; processors = length s.outs.links }) is.groupers
      ∙ ap (λ (n : ℕ). record { parsers = net.shape.parsers; groupers = net.shape.groupers; processors = n }) is.outs

  pub processor_shape : (s : qn.ProcessorSeen) → IsProcessorOf net s → qn.shape_with s net.shape.parsers net.shape.processors ≡ net.shape
  processor_shape s is = ap (λ (n : ℕ). record { parsers = net.shape.parsers; groupers = n; processors = net.shape.processors }) is.ins

  merge_processors : (s : mn.MergeSeen) → IsMergeOf net s → mn.processors_of s ≡ net.shape.processors
  merge_processors s is = let ins = is.ins in let parsers = is.parsers in omega arith

  pub merge_shape : (s : mn.MergeSeen) → IsMergeOf net s → mn.shape_with s net.shape.groupers ≡ net.shape
  merge_shape s is =
      ap (λ (n : ℕ). record { parsers = n; groupers = net.shape.groupers; processors = mn.processors_of s }) is.parsers
      ∙ ap (λ (n : ℕ). record { parsers = net.shape.parsers; groupers = net.shape.groupers; processors = n }) (merge_processors s is)

  -- ---- the nodes' promises, by the shape of the net

  pub parser_keeps : (p : ℕ) (s : pn.ParserSeen) → IsParserOf net p s
      → ParserKeeps net.job net.shape p (pn.read_of s) (put_on s.outs) (put_on s.outs net.shape.groupers)
  parser_keeps p s is =
      subst (λ (g : ℕ). ParserKeeps net.job net.shape p (pn.read_of s) (put_on s.outs) (put_on s.outs g)) (groupers_of_parser p s is)
      (by_same (λ job shape me. ParserKeeps job shape me (pn.read_of s) (put_on s.outs) (put_on s.outs (pn.groupers_of s)))
      s.job net.job (pn.shape_with s net.shape.processors) net.shape s.me p is.job (parser_shape p s is) is.me (is.stands.keeps net.shape.processors))

  pub grouper_takes : (g : ℕ) (s : gn.GrouperSeen) → IsGrouperOf net g s
      → ((p : ℕ) → p < net.shape.parsers → AreLawfulItems net.job net.shape p g (given_on s.ins p)) → gn.TakesLawful s
  grouper_takes g s is lawful = λ p less.
      by_same (λ job shape me. AreLawfulItems job shape p me (given_on s.ins p)) net.job s.job net.shape (gn.shape_of s) g s.me
      (sym is.job) (sym (grouper_shape g s is)) (sym is.me) (lawful p (subst (λ (n : ℕ). p < n) is.ins less))

  pub grouper_keeps : (g : ℕ) (s : gn.GrouperSeen) → IsGrouperOf net g s
      → ((p : ℕ) → p < net.shape.parsers → AreLawfulItems net.job net.shape p g (given_on s.ins p))
      → GrouperKeeps net.job net.shape g (given_on s.ins) (put_on s.outs)
  grouper_keeps g s is lawful =
      by_same (λ job shape me. GrouperKeeps job shape me (given_on s.ins) (put_on s.outs)) s.job net.job (gn.shape_of s) net.shape s.me g
      is.job (grouper_shape g s is) is.me (is.stands.keeps (grouper_takes g s is lawful))

  pub processor_takes : (s : qn.ProcessorSeen) → IsProcessorOf net s
      → ((g : ℕ) → g < net.shape.groupers → AreLawfulGroups net.job (given_on s.ins g)) → qn.TakesLawful s
  processor_takes s is lawful = λ g less.
      subst (λ (job : Declared). AreLawfulGroups job (given_on s.ins g)) (sym is.job) (lawful g (subst (λ (n : ℕ). g < n) is.ins less))

  pub processor_keeps : (s : qn.ProcessorSeen) → IsProcessorOf net s
      → ((g : ℕ) → g < net.shape.groupers → AreLawfulGroups net.job (given_on s.ins g))
      → ProcessorKeeps net.job net.shape (given_on s.ins) (put_on s.outs 0)
  processor_keeps s is lawful =
      by_same (λ job shape me. ProcessorKeeps job shape (given_on s.ins) (put_on s.outs 0)) s.job net.job (qn.shape_with s net.shape.parsers net.shape.processors) net.shape 0 0
      is.job (processor_shape s is) refl (is.stands.keeps (processor_takes s is lawful) net.shape.parsers net.shape.processors)

  pub merge_takes : (s : mn.MergeSeen) → IsMergeOf net s
      → ((p : ℕ) → p < net.shape.parsers → AreLawfulCounts net.job net.shape p (given_on s.ins p))
      → ((q : ℕ) → q < net.shape.processors → AreLawfulAnswers net.job (given_on s.ins (net.shape.parsers + q))) → mn.TakesLawful s
  merge_takes s is counts answers = record {
    counts = λ groupers p less.
        subst (λ (job : Declared). AreLawfulCounts job (mn.shape_with s groupers) p (given_on s.ins p)) (sym is.job)
        (counts_by_parsers net.job net.shape (mn.shape_with s groupers) p is.parsers (given_on s.ins p) (counts p (subst (λ (n : ℕ). p < n) is.parsers less)));
    answers = λ q less.
        subst (λ (n : ℕ). AreLawfulAnswers s.job (given_on s.ins (n + q))) (sym is.parsers)
        (subst (λ (job : Declared). AreLawfulAnswers job (given_on s.ins (net.shape.parsers + q))) (sym is.job)
        (answers q (subst (λ (n : ℕ). q < n) (merge_processors s is) less)));
  }

  pub merge_keeps : (start : List ℕ) (s : mn.MergeSeen) → IsMergeOf net s
      → ((p : ℕ) → p < net.shape.parsers → AreLawfulCounts net.job net.shape p (given_on s.ins p))
      → ((q : ℕ) → q < net.shape.processors → AreLawfulAnswers net.job (given_on s.ins (net.shape.parsers + q)))
      → MergeKeeps net.job net.shape (given_on s.ins) (λ q. given_on s.ins (net.shape.parsers + q)) start (start ++ s.gained)
  merge_keeps start s is counts answers =
      let keeps = subst (λ (n : ℕ). MergeKeeps net.job net.shape (given_on s.ins) (λ q. given_on s.ins (n + q)) [] s.gained) is.parsers
      (by_same (λ job shape me. MergeKeeps job shape (mn.counts_on s) (mn.answers_on s) [] s.gained) s.job net.job (mn.shape_with s net.shape.groupers) net.shape 0 0
      is.job (merge_shape s is) refl (is.stands.keeps (merge_takes s is counts answers) net.shape.groupers)) in
      record { gained = keeps.gained; since = ap (λ (ws : List ℕ). start ++ ws) keeps.since; due = keeps.due }

  -- ---- what was read

  some_source : SourceSeen
  some_source = record { told = true; whole = []; left = []; faults = 0 }

  is_read : (p : ℕ) (s : pn.ParserSeen) (c : ℕ) (file : List ℕ) → IsParserOf net p s → IsCaptureOf (length net.job.captures) net.shape p c
      → ((d : SourceSeen) → IsTrue (pn.source_of s c d).told × ((pn.source_of s c d).whole ≡ file)) → IsRead (pn.read_of s c) file
  is_read p s c file is own source =
      let captures : c < length s.job.captures = subst (λ (job : Declared). c < length job.captures) (sym is.job) own.0 in
      let mine : c % s.parsers ≡ s.me = ap (λ (n : ℕ). c % n) is.parsers ∙ own.1 ∙ sym is.me in
      let less : pn.place_of s c < length s.reads = is.stands.captures c (captures, mine) in
      let there : pn.place_of s c < length s.sources = subst (λ (n : ℕ). pn.place_of s c < n) (sym is.stands.lengths.0) less in
      let read = is.stands.read (pn.place_of s c) some_source there in
      let told = source some_source in
      record {
        front = subst (λ (bytes : List ℕ). IsFront (pn.read_of s c).bytes bytes) told.1 (read.front told.0);
        whole = λ ended. read.whole told.0 ended ∙ told.1;
      }

pub net_is_snapshot : NetIsSnapshot
net_is_snapshot net files start now sources = record {
  read = λ c less.
      let some : 0 < net.shape.parsers = now.shape_is.parsers in
      let own : c % net.shape.parsers < net.shape.parsers = omega arith in
      is_read net (c % net.shape.parsers) (parser_at net (c % net.shape.parsers)) c (file_of files c) (now.parsers (c % net.shape.parsers) own) (less, refl) (λ d. sources c d less);
  items_step = λ p g hp hg. in_step net.credits (parser_at net p).outs g (grouper_at net g).ins p (now.links.to_grouper p g hp hg);
  counts_step = λ p hp. in_step net.credits (parser_at net p).outs net.shape.groupers net.merge.ins p (now.links.to_merge p hp);
  groups_step = λ g q hg hq. in_step net.credits (grouper_at net g).outs q (processor_at net q).ins g (now.links.to_processor g q hg hq);
  answers_step = λ q hq. in_step net.credits (processor_at net q).outs 0 net.merge.ins (net.shape.parsers + q) (now.links.from_processor q hq);
  parsers = λ p hp.
      reads_as net.job net.shape p (pn.read_of (parser_at net p)) (lists_of net start).read (put_on (parser_at net p).outs) (put_on (parser_at net p).outs net.shape.groupers)
      (λ c own. ap (λ (i : ℕ). pn.read_of (parser_at net i) c) (sym own.1)) (parser_keeps net p (parser_at net p) (now.parsers p hp));
  groupers = λ g hg lawful. grouper_keeps net g (grouper_at net g) (now.groupers g hg) lawful;
  processors = λ q hq lawful. processor_keeps net (processor_at net q) (now.processors q hq) lawful;
  merge = λ counts answers. merge_keeps net start net.merge now.merge counts answers;
}
