-- What rules and promises do not depend on.
use Rattle.std.proofs.Common.{ℕ, List, [], ◌∷◌, ◌++◌, ◌≡◌, ◌%◌, length, sym, ap, subst, ◌∙◌}
use Rattle.node_frames.specs.declared.frame.Frame.{Frame}
use Rattle.node_frames.specs.declared.frame.Frame.TheVariants.{Item, Mark, CaptureEnd, GroupHead, Member, GroupMark, AnswerRow, Profile, CountsRow, Finish}
use Rattle.summary_spec.specs.Declaration.{Declared}
use Rattle.key_select.specs.Fates.{accepted_of, counts_of}
use Rattle.key_select.specs.Wanted.{good_of, wanted_of}
use Rattle.pcap_reader.specs.Lent.{AreFirst}
use Rattle.run_law.specs.Links.{ItemRule, CountsRule, AreLawfulBehind, AreLawfulCounts}
use Rattle.run_law.specs.Nodes.{Reading, ParserKeeps, IsMarkOf, IsWhole}
use Rattle.run_law.specs.Shapes.{Shape, IsCaptureOf, summaries_of_shard}
use Rattle.run_law.proofs.Standing.{stands}

-- the rule by which a frame stands follows from another
pub lawful_as : (Own Also : List Frame → Frame → Type 0) → ((before : List Frame) (f : Frame) → Own before f → Also before f)
    → (before frames : List Frame) → AreLawfulBehind Own before frames → AreLawfulBehind Also before frames
lawful_as Own Also follows before [] h = tt
lawful_as Own Also follows before (f ∷ frames) h =
    (record { own = follows before f h.0.own; permitted = h.0.permitted }, lawful_as Own Also follows (before ++ f ∷ []) frames h.1)

-- a parser's counts are the same whatever the numbers of other nodes
counts_rule : (job : Declared) (shape other : Shape) (p : ℕ) → other.parsers ≡ shape.parsers → (before : List Frame) (f : Frame)
    → CountsRule job shape p before f → CountsRule job other p before f
counts_rule job shape other p same before (CountsRow c counts) h = ((h.0.0, subst (λ (n : ℕ). c % n ≡ p) (sym same) h.0.1), h.1)
counts_rule job shape other p same before Finish h = λ c own. h c (own.0, subst (λ (n : ℕ). c % n ≡ p) same own.1)
counts_rule job shape other p same before (Item s) h = absurd h
counts_rule job shape other p same before (Mark c mark) h = absurd h
counts_rule job shape other p same before (CaptureEnd c) h = absurd h
counts_rule job shape other p same before (GroupHead first members key) h = absurd h
counts_rule job shape other p same before (Member at vals) h = absurd h
counts_rule job shape other p same before (GroupMark mark) h = absurd h
counts_rule job shape other p same before (AnswerRow a) h = absurd h
counts_rule job shape other p same before (Profile row) h = absurd h

pub counts_by_parsers : (job : Declared) (shape other : Shape) (p : ℕ) → other.parsers ≡ shape.parsers → (frames : List Frame)
    → AreLawfulCounts job shape p frames → AreLawfulCounts job other p frames
counts_by_parsers job shape other p same frames h = lawful_as (CountsRule job shape p) (CountsRule job other p) (counts_rule job shape other p same) [] frames h

-- a parser's promise speaks of its own captures alone
pub reads_as : (job : Declared) (shape : Shape) (p : ℕ) (read other : ℕ → Reading) (items : ℕ → List Frame) (counts : List Frame)
    → ((c : ℕ) → IsCaptureOf (length job.captures) shape p c → read c ≡ other c)
    → ParserKeeps job shape p read items counts → ParserKeeps job shape p other items counts
reads_as job shape p read other items counts same keeps = record {
  lawful = keeps.lawful;
  lawful_counts = keeps.lawful_counts;
  first = λ c own. subst (λ (r : Reading). AreFirst (wanted_of job c) r.bytes r.records) (same c own) (keeps.first c own);
  summaries = λ g c less own.
      keeps.summaries g c less own ∙ ap (λ (r : Reading). summaries_of_shard g shape.groupers (accepted_of job c r.records)) (same c own);
  marks = λ g c mark less there.
      let own = (stands (ItemRule job shape p g) (items g) (Mark c mark) (keeps.lawful g less) there).own in
      subst (λ (r : Reading). IsMarkOf job c r.records mark) (same c own.0) (keeps.marks g c mark less there);
  ends = λ g c less there.
      let own = (stands (ItemRule job shape p g) (items g) (CaptureEnd c) (keeps.lawful g less) there).own in
      subst (λ (r : Reading). IsWhole job c r) (same c own) (keeps.ends g c less there);
  rows = λ c k there.
      let own = (stands (CountsRule job shape p) counts (CountsRow c k) keeps.lawful_counts there).own in
      subst (λ (r : Reading). IsWhole job c r × (k ≡ counts_of job c r.records (good_of job c r.bytes).cut)) (same c own.0) (keeps.rows c k there);
}
