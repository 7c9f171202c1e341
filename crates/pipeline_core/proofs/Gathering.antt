-- The sources of a pipeline, by captures.
use Rattle.std.proofs.Common.{ℕ, ◌+◌, ◌*◌, ◌/◌, ◌%◌, ◌<◌, ◌≤◌, ◌≡◌, ◌↔◌, List, [], ◌++◌, length, get_or, map, refl, sym, ap, ◌∙◌, subst, arith, append-nil, ⊎_elim}
use Rattle.std.proofs.lemmas.Bool.{cases_lt}
use Rattle.std.proofs.lemmas.Nat.{div-mul-add, mod-mul-add}
use Rattle.std.proofs.lemmas.List.{length-map}
use Rattle.ds_base.specs.Items.{Items}
use Rattle.ds_base.specs.Outside.{SourceSeen}
use Rattle.summary_spec.specs.Declaration.{Declared}
use Rattle.node_lists.specs.Dealing.{AreCounted, AreDealt}
use Rattle.node_lists.specs.Lists.{items_at}
use Rattle.node_lists.proofs.Dealt.{has_place, dealt_same}
use Rattle.net_law.specs.Parsers.{ParserSeen, source_of, place_of, capture_at}
use Rattle.net_law.specs.Nets.{Net, NetStands, parser_at, no_parser}
use Rattle.new_pipeline.specs.Opening.{sources_of}
use Rattle.new_pipeline.specs.Rooms.{IsRoom, own_of}
use Rattle.new_pipeline.proofs.Gathered.{sources_at}
use Rattle.pipeline_law.proofs.Staying.{has_source}
use Rattle.pipeline_core.specs.Pipelines.{AreSourcesOf}

module _ (net : Net) (now : NetStands net) where
  sources_are : (p : ℕ) → p < net.shape.parsers → sources_of net.parsers p ≡ (parser_at net p).sources
  sources_are p less = sources_at net.parsers p (no_parser net.job) (omega (arith, less, now.parser_count))

  -- each parser has its part of the sources
  pub sources_counted : AreCounted net.shape.parsers (length net.job.captures) (sources_of net.parsers)
  sources_counted = record { within = λ p i less. subst (λ (l : List SourceSeen). (i < length l) ↔ (p + i * net.shape.parsers < length net.job.captures)) (sym (sources_are p less)) (within p i less) }
    where
      within : (p i : ℕ) → p < net.shape.parsers → (i < length (parser_at net p).sources) ↔ (p + i * net.shape.parsers < length net.job.captures)
      within p i less =
          let is = now.parsers p less in
          let own = is.stands in (
            (λ there.
                let mine = own.own i (omega (arith, there, own.lengths.0)) in
                subst (λ (job : Declared). p + i * net.shape.parsers < length job.captures) is.job
                (subst (λ (n : ℕ). p + i * n < length (parser_at net p).job.captures) is.parsers
                (subst (λ (n : ℕ). n + i * (parser_at net p).parsers < length (parser_at net p).job.captures) is.me mine.0))),
            (λ there.
                let c : ℕ = i * net.shape.parsers + p in
                let same : p + i * net.shape.parsers ≡ c = omega arith in
                let left : c % net.shape.parsers ≡ p = mod-mul-add i net.shape.parsers p less in
                let at : c / net.shape.parsers ≡ i = div-mul-add i net.shape.parsers p less in
                let source : place_of (parser_at net p) c < length (parser_at net p).sources =
                subst (λ (n : ℕ). place_of (parser_at net n) c < length (parser_at net n).sources) left (has_source net now c (omega (arith, there, same))) in
                subst (λ (n : ℕ). n < length (parser_at net p).sources) (ap (λ (n : ℕ). c / n) is.parsers ∙ at) source),
          )

  module _ (sources : List SourceSeen) (dealt : AreDealt net.shape.parsers sources (sources_of net.parsers)) where
    some : 0 < net.shape.parsers
    some = now.shape_is.parsers

    -- an item is one of so many, and a source of its parser
    there : (c : ℕ) → (c < length sources) ↔ (c < length net.job.captures)
    there c =
        let p : ℕ = c % net.shape.parsers in
        let i : ℕ = c / net.shape.parsers in
        let less : p < net.shape.parsers = omega (arith, some) in
        let whole : p + i * net.shape.parsers ≡ c = has_place c net.shape.parsers in
        let a = dealt.counted.within p i less in
        let b = sources_counted.within p i less in (
          (λ h. subst (λ (n : ℕ). n < length net.job.captures) whole (b.0 (a.1 (subst (λ (n : ℕ). n < length sources) (sym whole) h)))),
          (λ h. subst (λ (n : ℕ). n < length sources) whole (a.0 (b.1 (subst (λ (n : ℕ). n < length net.job.captures) (sym whole) h)))),
        )

    pub by_captures : AreSourcesOf net sources
    by_captures = record {
      count =
          ⊎_elim
          (λ (less : length sources < length net.job.captures). absurd (omega (arith, (there (length sources)).1 less)))
          (λ (more : length net.job.captures ≤ length sources).
          ⊎_elim
          (λ (less : length net.job.captures < length sources). absurd (omega (arith, (there (length net.job.captures)).0 less)))
          (λ (at_most : length sources ≤ length net.job.captures). let same : length sources ≡ length net.job.captures = omega (arith, more, at_most) in same)
          (cases_lt (length net.job.captures) (length sources)))
          (cases_lt (length sources) (length net.job.captures));
      each = λ c d less.
          let p : ℕ = c % net.shape.parsers in
          let i : ℕ = c / net.shape.parsers in
          let own : p < net.shape.parsers = omega (arith, some) in
          let is = now.parsers p own in
          let place : c / (parser_at net p).parsers ≡ i = ap (λ (n : ℕ). c / n) is.parsers in
          let source : i < length (sources_of net.parsers p) =
          subst (λ (l : List SourceSeen). i < length l) (sym (sources_are p own)) (subst (λ (n : ℕ). n < length (parser_at net p).sources) place (has_source net now c less)) in
          sym (ap (λ (n : ℕ). get_or sources n d) (has_place c net.shape.parsers))
          ∙ sym (dealt.same p i d own source)
          ∙ ap (λ (l : List SourceSeen). get_or l i d) (sources_are p own)
          ∙ ap (λ (n : ℕ). get_or (parser_at net p).sources n d) (sym place);
    }

-- ---- where they are gathered

module _ {S : Type 0} (seen : S → SourceSeen) (net : Net) (now : NetStands net) (lists : List (Items S)) (gathered : Items S) (captures : ℕ) (room : IsRoom net.shape.parsers captures lists gathered) (all : captures ≡ length net.job.captures) where
  own_are : (p : ℕ) → own_of seen net.parsers lists p ≡ sources_of net.parsers p
  own_are p = ap (λ (l : List S). sources_of net.parsers p ++ map seen l) (room.lists_are.none p) ∙ append-nil (sources_of net.parsers p)

  -- what gathering asks
  pub own_counted : AreCounted (length lists) captures (own_of seen net.parsers lists)
  own_counted =
      subst (λ (n : ℕ). AreCounted n captures (own_of seen net.parsers lists)) (sym room.lists_are.long)
      (subst (λ (n : ℕ). AreCounted net.shape.parsers n (own_of seen net.parsers lists)) (sym all)
      (record { within = λ p i less. subst (λ (l : List SourceSeen). (i < length l) ↔ (p + i * net.shape.parsers < length net.job.captures)) (sym (own_are p)) ((sources_counted net now).within p i less) }))

  pub gathered_are : (items : List S) → AreDealt (length lists) (map seen items) (own_of seen net.parsers lists) → AreSourcesOf net (map seen items)
  gathered_are items dealt =
      by_captures net now (map seen items)
      (dealt_same net.shape.parsers (map seen items) (own_of seen net.parsers lists) (sources_of net.parsers) (λ p less. sym (own_are p))
      (subst (λ (n : ℕ). AreDealt n (map seen items) (own_of seen net.parsers lists)) room.lists_are.long dealt))
