-- New nodes over the lists of their numbers.
use Rattle.std.proofs.Common.{ℕ, ◌+◌, ◌*◌, ◌/◌, ◌%◌, ◌<◌, ◌≡◌, List, [], All, length, map, sym, ap, ap₂, ◌∙◌, subst, add_comm}
use Rattle.std.proofs.lemmas.List.{length-map}
use Rattle.std.proofs.lemmas.Nat.{mod-mul-add}
use Rattle.ds_base.specs.Items.{Items}
use Rattle.ds_base.specs.Outside.{SourceSeen}
use Rattle.node_lists.specs.Lists.{items_at}
use Rattle.node_lists.specs.Dealing.{AreCounted}
use Rattle.node_lists.proofs.Dealt.{has_place}
use Rattle.credit_link.specs.Ends.{TxSeen, RxSeen}
use Rattle.shuffle_poll.specs.Shuffles.{ShuffleSeen, ShuffleHolds}
use Rattle.summary_spec.specs.Declaration.{Declared}
use Rattle.net_law.specs.Ends.{tx_at}
use Rattle.net_law.specs.Groupers.{GrouperSeen}
use Rattle.net_law.specs.Processors.{ProcessorSeen}
use Rattle.net_law.specs.Starts.{IsNewTx, AreNewOuts, AreOwn, new_outs, new_parser, new_grouper, new_processor}
use Rattle.net_law.specs.Parsers.{ParserSeen, ParserStands}
use Rattle.node_layers.specs.Layers.{IsNewGrouper, IsNewParser, IsNewProcessor}

-- ---- over lists that are the same at its number

pub grouper_same : (job : Declared) (count groupers : ℕ) (mid_ins ins : List (Items RxSeen)) (mid_outs outs : List (Items TxSeen)) (g : ℕ) (node : GrouperSeen) → count ≡ groupers
    → items_at mid_ins g ≡ items_at ins g → items_at mid_outs g ≡ items_at outs g → IsNewGrouper job count mid_ins mid_outs g node → IsNewGrouper job groupers ins outs g node
grouper_same job count groupers mid_ins ins mid_outs outs g node many is_ins is_outs new = record {
  is = new.is
      ∙ ap (λ n. new_grouper job g n (tx_at (items_at mid_outs g) 0).credits (items_at mid_ins g) (items_at mid_outs g)) many
      ∙ ap₂ (λ (a : List RxSeen) (b : List TxSeen). new_grouper job g groupers (tx_at b 0).credits a b) is_ins is_outs;
  stands = new.stands;
}

pub processor_same : (job : Declared) (mid_ins ins : List (Items RxSeen)) (mid_outs outs : List (Items TxSeen)) (q : ℕ) (node : ProcessorSeen)
    → items_at mid_ins q ≡ items_at ins q → items_at mid_outs q ≡ items_at outs q → IsNewProcessor job mid_ins mid_outs q node → IsNewProcessor job ins outs q node
processor_same job mid_ins ins mid_outs outs q node is_ins is_outs new = record {
  is = new.is ∙ ap₂ (λ (a : List RxSeen) (b : List TxSeen). new_processor job (tx_at b 0).credits a b) is_ins is_outs;
  stands = new.stands;
}

-- ---- the links of a new shuffle

pub same_links : (out : ShuffleSeen) (links : List TxSeen) → out ≡ new_outs links → out.links ≡ links
same_links out links e = ap (λ (s : ShuffleSeen). s.links) e

pub is_new_outs : (out : ShuffleSeen) (links : List TxSeen) → out ≡ new_outs links → out ≡ new_outs out.links
is_new_outs out links e = e ∙ ap new_outs (sym (same_links out links e))

pub are_new_outs : (credits : ℕ) (out : ShuffleSeen) (links : List TxSeen) → out ≡ new_outs links → ShuffleHolds out.links out.queues → All (IsNewTx credits) links → AreNewOuts credits out.links
are_new_outs credits out links e holds each = record {
  holds = subst (ShuffleHolds out.links) (ap (λ (s : ShuffleSeen). s.queues) (is_new_outs out links e)) holds;
  each = subst (All (IsNewTx credits)) (sym (same_links out links e)) each;
}

-- ---- the captures of one parser

pub counted_own : {S : Type 0} (seen : S → SourceSeen) (job : Declared) (parsers p : ℕ) (own : ℕ → List S) → AreCounted parsers (length job.captures) own → p < parsers
    → AreOwn (new_parser job p parsers 0 (map seen (own p)) [])
counted_own seen job parsers p own counted less = record {
  captures = λ c (there, is_own).
      let place : p + c / parsers * parsers ≡ c = ap (λ n. n + c / parsers * parsers) (sym is_own) ∙ has_place c parsers in
      subst (λ (n : ℕ). c / parsers < n) (sym (length-map (own p) seen)) ((counted.within p (c / parsers) less).1 (subst (λ (n : ℕ). n < length job.captures) (sym place) there));
  own = λ i inside. (
    (counted.within p i less).0 (subst (λ (n : ℕ). i < n) (length-map (own p) seen) inside),
    ap (λ n. n % parsers) (add_comm p (i * parsers)) ∙ mod-mul-add i parsers p less,
  );
}

pub own_here : {S : Type 0} (seen : S → SourceSeen) (job : Declared) (count parsers p : ℕ) (own : ℕ → List S) (xs : List S) → count ≡ parsers → xs ≡ own p → AreCounted parsers (length job.captures) own → p < parsers
    → AreOwn (new_parser job p count 0 (map seen xs) [])
own_here {S = S} seen job count parsers p own xs many same counted less =
    subst (λ (n : ℕ). AreOwn (new_parser job p n 0 (map seen xs) [])) (sym many)
    (subst (λ (l : List S). AreOwn (new_parser job p parsers 0 (map seen l) [])) (sym same) (counted_own seen job parsers p own counted less))

pub parser_same : {S : Type 0} (seen : S → SourceSeen) (job : Declared) (count parsers p : ℕ) (own : ℕ → List S) (xs : List S) (outs : List (Items TxSeen)) (links : List TxSeen) (node : ParserSeen) → count ≡ parsers
    → xs ≡ own p → links ≡ items_at outs p → node ≡ new_parser job p count (tx_at links 0).credits (map seen xs) links → ParserStands node → IsNewParser job parsers (λ q. map seen (own q)) outs p node
parser_same {S = S} seen job count parsers p own xs outs links node many is_own is_outs is stands = record {
  is = is
      ∙ ap (λ n. new_parser job p n (tx_at links 0).credits (map seen xs) links) many
      ∙ ap₂ (λ (a : List S) (b : List TxSeen). new_parser job p parsers (tx_at b 0).credits (map seen a) b) is_own is_outs;
  stands = stands;
}
