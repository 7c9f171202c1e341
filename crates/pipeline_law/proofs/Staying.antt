-- What stays of a pipeline that goes on.
use Rattle.std.proofs.Common.{ℕ, ◌≡◌, ◌<◌, ◌/◌, ◌%◌, length, get_or, refl, sym, ap, ◌∙◌, subst, arith}
use Rattle.std.specs.Prelude.{IsTrue}
use Rattle.ds_base.specs.Outside.{SourceSeen, SourceStays}
use Rattle.net_law.specs.Parsers.{source_of, place_of}
use Rattle.net_law.specs.Nets.{Net, NetStands, parser_at, grouper_at, processor_at}
use Rattle.net_law.specs.Steps.{NetGoes}
use Rattle.net_law.proofs.Going.{parser_stays, parser_then, grouper_stays, grouper_then, processor_stays, processor_then, merge_stays, merge_then}
use Rattle.run_law.specs.Snapshot.{file_of}
use Rattle.pipeline_law.specs.Going.{GoesOn, FilesStay}

pub goes_by_step : (before after : Net) → NetGoes before after → GoesOn before after
goes_by_step before after goes = record {
  alike = record { same = goes.same; counts = goes.counts };
  parsers = λ p less. (goes.parsers p less).0;
  groupers = λ g less. (goes.groupers g less).0;
  processors = λ q less. (goes.processors q less).0;
  merge = goes.merge.0;
}

pub goes_nowhere : (net : Net) → GoesOn net net
goes_nowhere net = record {
  alike = record { same = (refl, refl, refl); counts = (refl, refl, refl) };
  parsers = λ p less. parser_stays (parser_at net p);
  groupers = λ g less. grouper_stays (grouper_at net g);
  processors = λ q less. processor_stays (processor_at net q);
  merge = merge_stays net.merge;
}

pub goes_then : (a b c : Net) → GoesOn a b → GoesOn b c → GoesOn a c
goes_then a b c f g =
    let shape = f.alike.same.1 in
    record {
      alike = record {
        same = (g.alike.same.0 ∙ f.alike.same.0, g.alike.same.1 ∙ f.alike.same.1, g.alike.same.2 ∙ f.alike.same.2);
        counts = (g.alike.counts.0 ∙ f.alike.counts.0, g.alike.counts.1 ∙ f.alike.counts.1, g.alike.counts.2 ∙ f.alike.counts.2);
      };
      parsers = λ p less. parser_then (parser_at a p) (parser_at b p) (parser_at c p) (f.parsers p less) (g.parsers p (subst (λ s. p < Rattle.run_law.specs.Shapes.Shape.parsers s) (sym shape) less));
      groupers = λ q less. grouper_then (grouper_at a q) (grouper_at b q) (grouper_at c q) (f.groupers q less) (g.groupers q (subst (λ s. q < Rattle.run_law.specs.Shapes.Shape.groupers s) (sym shape) less));
      processors = λ q less.
          processor_then (processor_at a q) (processor_at b q) (processor_at c q) (f.processors q less) (g.processors q (subst (λ s. q < Rattle.run_law.specs.Shapes.Shape.processors s) (sym shape) less));
      merge = merge_then a.merge b.merge c.merge f.merge g.merge;
    }

-- ---- the sources

-- a capture's source is one of its parser's
module _ (net : Net) (now : NetStands net) (c : ℕ) (less : c < length net.job.captures) where
  abbrev pub owner : ℕ
  owner = c % net.shape.parsers

  pub owned : owner < net.shape.parsers
  owned = omega (arith, now.shape_is.parsers)

  pub has_source : place_of (parser_at net owner) c < length (parser_at net owner).sources
  has_source =
      let is = now.parsers owner owned in
      let there : c < length (parser_at net owner).job.captures = subst (λ job. c < length (Rattle.summary_spec.specs.Declaration.Declared.captures job)) (sym is.job) less in
      let mine : c % (parser_at net owner).parsers ≡ (parser_at net owner).me = ap (λ n. c % n) is.parsers ∙ sym is.me in
      let place : place_of (parser_at net owner) c < length (parser_at net owner).reads = is.stands.captures c (there, mine) in
      omega (arith, place, is.stands.lengths.0)

pub files_stay : FilesStay
files_stay before after files now goes tells = record { count = tells.count ∙ ap (λ job. length (Rattle.summary_spec.specs.Declaration.Declared.captures job)) (sym goes.alike.same.0); are = are }
  where
    -- by the parser that has the capture
    at : (p c : ℕ) (d : SourceSeen) → c % before.shape.parsers ≡ p → c < length before.job.captures
        → IsTrue (source_of (parser_at after p) c d).told × ((source_of (parser_at after p) c d).whole ≡ file_of files c)
    at p c d is less =
        let own = owned before now c less in
        let here = subst (λ (n : ℕ). n < before.shape.parsers) is own in
        let step = goes.parsers p here in
        let place = subst (λ (n : ℕ). place_of (parser_at before n) c < length (parser_at before n).sources) is (has_source before now c less) in
        let stays : SourceStays (source_of (parser_at before p) c d) (get_or (parser_at after p).sources (c / (parser_at before p).parsers) d) = step.sources (place_of (parser_at before p) c) d place in
        let stays' : SourceStays (source_of (parser_at before p) c d) (source_of (parser_at after p) c d) =
        subst (λ (n : ℕ). SourceStays (source_of (parser_at before p) c d) (get_or (parser_at after p).sources (c / n) d)) (sym step.same.2) stays in
        let told = subst (λ (n : ℕ). IsTrue (source_of (parser_at before n) c d).told × ((source_of (parser_at before n) c d).whole ≡ file_of files c)) is (tells.are c d less) in
        (subst IsTrue (sym stays'.told) told.0, stays'.whole told.0 ∙ told.1)

    are : Rattle.net_law.specs.Nets.AreFiles after files
    are c d less =
        at (c % after.shape.parsers) c d (ap (λ s. c % Rattle.run_law.specs.Shapes.Shape.parsers s) (sym goes.alike.same.1))
        (subst (λ job. c < length (Rattle.summary_spec.specs.Declaration.Declared.captures job)) goes.alike.same.0 less)
