-- Parsers are closed from the last one on.
use Rattle.std.proofs.Common.{ℕ, ◌+◌, ◌<◌, ◌≤◌, ◌≡◌, List, [], ◌∷◌, ◌++◌, length, get_or, map, refl, sym, ap, ◌∙◌, subst, arith, ⊎_elim, ◌⊎◌}
use Rattle.std.proofs.lemmas.List.{get_or_append_left, get_or_push, length_push}
use Rattle.ds_base.specs.Items.{Items}
use Rattle.ds_base.specs.Outside.{SourceSeen}
use Rattle.node_lists.specs.Lists.{SetsAt, items_at}
use Rattle.net_law.specs.Parsers.{ParserSeen}
use Rattle.node_layers.specs.Layers.{PutsBack}

-- the parsers from number n on were closed, and the rest are those before it
pub record Closes {S : Type 0} (seen : S → SourceSeen) (layer : List ParserSeen) (before now : List (Items S)) (rest : List ParserSeen) : Type 0 where
  pub long : length now ≡ length before
  pub fewer : length rest ≤ length layer
  pub front : (p : ℕ) (d : ParserSeen) → p < length rest → get_or rest p d ≡ get_or layer p d
  pub back : (p : ℕ) (d : ParserSeen) → length rest ≤ p → p < length layer → map seen (items_at now p) ≡ (get_or layer p d).sources
  pub unclosed : (p : ℕ) → p < length rest → items_at now p ≡ items_at before p
  pub later : (p : ℕ) → length layer ≤ p → items_at now p ≡ items_at before p

pub none_closed : {S : Type 0} (seen : S → SourceSeen) (layer : List ParserSeen) (before : List (Items S)) → Closes seen layer before before layer
none_closed seen layer before = record {
  long = refl;
  fewer = omega arith;
  front = λ p d less. refl;
  back = λ p d past less. absurd (omega arith);
  unclosed = λ p less. refl;
  later = λ p past. refl;
}

pub one_closed : {S : Type 0} (seen : S → SourceSeen) (layer : List ParserSeen) (before now after : List (Items S)) (rest rest' : List ParserSeen) (last : ParserSeen) (own : List S)
    → Closes seen layer before now rest → rest ≡ rest' ++ last ∷ [] → map seen own ≡ last.sources → SetsAt now after (length rest') own → Closes seen layer before after rest'
one_closed {S = S} seen layer before now after rest rest' last own is popped sources sets = record {
  long = sets.long ∙ is.long;
  fewer = omega (arith, count, is.fewer);
  front = λ p d less. sym (ap (λ (l : List ParserSeen). get_or l p d) popped ∙ get_or_append_left rest' (last ∷ []) d p less) ∙ is.front p d (omega (arith, count, less));
  back = λ p d past less.
      ⊎_elim
      (λ (at : p ≡ length rest').
      subst (λ (n : ℕ). map seen (items_at after n) ≡ (get_or layer n d).sources) (sym at)
      (ap (λ (l : List S). map seen l) sets.here ∙ sources ∙ ap (λ (s : ParserSeen). s.sources) (sym (here d) ∙ is.front (length rest') d (omega (arith, count)))))
      (λ (later : length rest ≤ p). ap (λ (l : List S). map seen l) (sets.others p (omega (arith, count, later))) ∙ is.back p d later less)
      (at_or_later p past);
  unclosed = λ p less. sets.others p (omega (arith, less)) ∙ is.unclosed p (omega (arith, count, less));
  later = λ p past. sets.others p (omega (arith, count, is.fewer, past)) ∙ is.later p past;
}
  where
    count : length rest ≡ length rest' + 1
    count = ap length popped ∙ length_push rest' last

    here : (d : ParserSeen) → get_or rest (length rest') d ≡ last
    here d = ap (λ (l : List ParserSeen). get_or l (length rest') d) popped ∙ get_or_push rest' last d (length rest') refl

    at_or_later : (p : ℕ) → length rest' ≤ p → (p ≡ length rest') ⊎ (length rest ≤ p)
    at_or_later p past = grind (arith, count)

pub all_closed : {S : Type 0} (seen : S → SourceSeen) (layer : List ParserSeen) (before after : List (Items S)) (rest : List ParserSeen) → Closes seen layer before after rest → rest ≡ [] → PutsBack seen layer before after
all_closed seen layer before after rest is none =
    let count : length rest ≡ 0 = ap length none in
    record { long = is.long; back = λ p d less. is.back p d (omega (arith, count)) less; left = is.later }
