-- The sources of closed parsers, and of those that there are not.
use Rattle.std.proofs.Common.{All, ℕ, ◌+◌, ◌*◌, ◌<◌, ◌≤◌, ◌≡◌, ◌↔◌, List, [], ◌∷◌, ◌++◌, length, get_or, map, sym, ap, ◌∙◌, subst, arith, append-nil, ⊎_elim}
use Rattle.std.proofs.lemmas.List.{length-map, get_or-map, get_or_past}
use Rattle.ds_base.specs.Items.{Items}
use Rattle.ds_base.specs.Outside.{SourceSeen, IsFresh}
use Rattle.node_lists.specs.Lists.{items_at, no_list}
use Rattle.node_lists.specs.Dealing.{AreCounted, AreDealt}
use Rattle.node_lists.proofs.Dealt.{below_or_not, dealt_map, dealt_same}
use Rattle.net_law.specs.Parsers.{ParserSeen}
use Rattle.credit_link.specs.Ends.{TxSeen}
use Rattle.summary_spec.specs.Declaration.{Declared}
use Rattle.net_law.specs.Ends.{tx_at}
use Rattle.net_law.specs.Starts.{new_parser}
use Rattle.node_layers.specs.Layers.{HaveTaken, IsLayer, IsNewParser, PutsBack}
use Rattle.new_pipeline.specs.Opening.{sources_of}
use Rattle.new_pipeline.specs.Rooms.{own_of}

pub some_of : {X : Type 0} (l : List X) (k : ℕ) → k < length l → X
some_of [] k less = absurd (omega arith)
some_of (x ∷ l) k less = x

pub sources_at : (parsers : List ParserSeen) (p : ℕ) (d : ParserSeen) → p < length parsers → sources_of parsers p ≡ (get_or parsers p d).sources
sources_at parsers p d less = get_or-map (λ (s : ParserSeen). s.sources) parsers p d [] less

pub no_sources : (parsers : List ParserSeen) (p : ℕ) → length parsers ≤ p → sources_of parsers p ≡ []
no_sources parsers p past =
    let long : length (map (λ (s : ParserSeen). s.sources) parsers) ≡ length parsers = length-map parsers (λ (s : ParserSeen). s.sources) in
    get_or_past (map (λ (s : ParserSeen). s.sources) parsers) p [] (omega (arith, long, past))

module _ {S : Type 0} (seen : S → SourceSeen) (parsers : List ParserSeen) (before after : List (Items S)) where
  -- once the parsers are closed, each list has what was its parser's own
  pub put_back : PutsBack seen parsers before after → ((p : ℕ) → p < length parsers → items_at before p ≡ []) → (p : ℕ) → map seen (items_at after p) ≡ own_of seen parsers before p
  put_back puts none p =
      ⊎_elim
      (λ (there : p < length parsers).
      let d : ParserSeen = some_of parsers p there in
      puts.back p d there ∙ sym (sources_at parsers p d there) ∙ sym (ap (λ (l : List S). sources_of parsers p ++ map seen l) (none p there) ∙ append-nil (sources_of parsers p)))
      (λ (past : length parsers ≤ p). ap (λ (l : List S). map seen l) (puts.left p past) ∙ sym (ap (λ (l : List SourceSeen). l ++ map seen (items_at before p)) (no_sources parsers p past)))
      (below_or_not p (length parsers))

  -- where some lists were taken by parsers, what is each one's own is as it was
  pub taken_own : HaveTaken seen before after parsers → (p : ℕ) → own_of seen parsers after p ≡ map seen (items_at before p)
  taken_own taken p =
      ⊎_elim
      (λ (there : p < length parsers).
      let d : ParserSeen = some_of parsers p there in
      ap (λ (l : List S). sources_of parsers p ++ map seen l) (taken.taken p d there).1 ∙ append-nil (sources_of parsers p) ∙ sources_at parsers p d there ∙ (taken.taken p d there).0)
      (λ (past : length parsers ≤ p). ap (λ (l : List SourceSeen). l ++ map seen (items_at after p)) (no_sources parsers p past) ∙ ap (λ (l : List S). map seen l) (taken.left p past))
      (below_or_not p (length parsers))

pub counted_by : {X Y : Type 0} (count n : ℕ) (own : ℕ → List X) (own' : ℕ → List Y) → ((p : ℕ) → length (own' p) ≡ length (own p)) → AreCounted count n own → AreCounted count n own'
counted_by count n own own' same counted = record { within = λ p i less. subst (λ (m : ℕ). (i < m) ↔ (p + i * count < n)) (sym (same p)) (counted.within p i less) }

-- the lists gathered are those that each parser had
pub gathered_own : {S : Type 0} (seen : S → SourceSeen) (count : ℕ) (items : List S) (lists : List (Items S)) (own : ℕ → List SourceSeen) → ((p : ℕ) → map seen (items_at lists p) ≡ own p)
    → AreDealt count items (items_at lists) → AreDealt count (map seen items) own
gathered_own seen count items lists own same dealt = dealt_same count (map seen items) (λ p. map seen (items_at lists p)) own (λ p less. sym (same p)) (dealt_map seen count items (items_at lists) dealt)

-- ---- sources dealt out to new parsers

pub all_fresh : {S : Type 0} (seen : S → SourceSeen) (count : ℕ) (items : List S) (lists : List (Items S)) → length lists ≡ count → AreDealt count items (items_at lists) → All IsFresh (map seen items)
    → (p : ℕ) → All IsFresh (map seen (items_at lists p))
all_fresh {S = S} seen count items lists long dealt fresh p =
    ⊎_elim
    (λ (less : p < count). λ k d there.
    let m : AreDealt count (map seen items) (λ q. map seen (items_at lists q)) = dealt_map seen count items (items_at lists) dealt in
    subst IsFresh (sym (m.same p k d less there)) (fresh (p + k * count) d ((m.counted.within p k less).0 there)))
    (λ (past : count ≤ p).
    let none : items_at lists p ≡ [] = ap (λ (l : Items S). l.items) (get_or_past lists p no_list (omega (arith, long, past))) in
    λ k d there. absurd (omega (arith, subst (λ (l : List S). k < length (map seen l)) none there)))
    (below_or_not p count)

module _ (job : Declared) (count : ℕ) (own : ℕ → List SourceSeen) (outs : List (Items TxSeen)) (layer : List ParserSeen) (new : IsLayer count (IsNewParser job count own outs) layer) where
  pub own_is : (p : ℕ) → p < count → sources_of layer p ≡ own p
  own_is p less =
      let there : p < length layer = omega (arith, less, new.long) in
      let d : ParserSeen = some_of layer p there in
      sources_at layer p d there ∙ ap (λ (s : ParserSeen). s.sources) (new.each p d less).is

  pub layer_own : IsLayer count (IsNewParser job count (sources_of layer) outs) layer
  layer_own = record {
    long = new.long;
    each = λ p d less. record {
      is = (new.each p d less).is ∙ ap (λ (xs : List SourceSeen). new_parser job p count (tx_at (items_at outs p) 0).credits xs (items_at outs p)) (sym (own_is p less));
      stands = (new.each p d less).stands;
    };
  }
