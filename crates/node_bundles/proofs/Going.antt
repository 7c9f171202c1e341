-- Turns of nodes, none or one after another, item by item.
use Rattle.std.proofs.Common.{ℕ, ◌≡◌, ◌<◌, ◌≤◌, Option, None, Some, Result, Ok, Err, List, length, get_or, set, refl, sym, ap, ◌∙◌, subst, arith}
use Rattle.std.specs.Prelude.{slice_get, IfOk, IfErr, MatchResult}
use Rattle.std.proofs.lemmas.List.{length-set, get_or-set_same, get_or-set_other}
use Rattle.std.proofs.lemmas.Option.{get_or_from_slice_get}
use Rattle.credit_link.specs.declared.turn.NodeFault.{NodeFault}
use Rattle.credit_link.specs.declared.turn.Turn.{Turn}
use Rattle.credit_link.specs.declared.turn.Turn.TheVariants.{Moved, Idle, Done}
use Rattle.round_law.specs.Waits.{Node}
use Rattle.round_law.specs.Rows.{moved, TurnSays, TurnTells}
use Rattle.round_law.proofs.Counts.{still_counts}
use Rattle.net_law.proofs.Turned.{at_or_other}
use Rattle.node_bundles.specs.Going.{MetFirst, Went, Each}

no_less_on : (a b c : ℕ) → a ≤ b → b ≤ c → a ≤ c
no_less_on a b c first second = omega arith

none_some : {A : Type 0} (bad : NodeFault) → None ≡ Some bad → A
none_some bad is = absurd (cc)

abbrev of_some : Option NodeFault → NodeFault → NodeFault
of_some None other = other
of_some (Some bad) other = bad

-- ---- one node

-- no turn lowers what a node has moved
pub counts_rise : (credits : ℕ) (turn : Turn) (before after : Node) → TurnSays credits before after turn → TurnTells before after turn → moved before ≤ moved after
counts_rise credits Moved before after says tells = let up : moved before < moved after = tells in omega (arith, up)
counts_rise credits Idle before after says tells = let same : moved after ≡ moved before = still_counts before after says.still tells in omega (arith, same)
counts_rise credits Done before after says tells = let same : moved after ≡ moved before = still_counts before after says.still tells in omega (arith, same)

module _ (N : Type 0) (Stands : N → Type 0) (Goes : N → N → Type 0) (Meets : N → N → NodeFault → Type 0) (fault : N → Option NodeFault) (Tells : N → Type 0) (shown : N → Node) where
  -- one turn
  pub went_by : (credits : ℕ) (result : Result Turn NodeFault) (before after : N) → Goes before after → Stands after → Goes before before
      → IfOk result (λ turn. Tells before → TurnSays credits (shown before) (shown after) turn) → IfOk result (λ turn. Tells before → TurnTells (shown before) (shown after) turn)
      → MatchResult result (λ _. fault after ≡ None) (λ bad. fault after ≡ Some bad) → ((bad : NodeFault) → fault before ≡ Some bad → (result ≡ Err bad) × (after ≡ before))
      → (fault before ≡ None → IfErr result (λ bad. Meets before after bad)) → Went N Stands Goes Meets fault Tells shown before after
  went_by credits (Ok turn) before after goes stands unmoved says tells none again causes = record {
    goes = goes;
    stands = λ _. stands;
    same = λ bad had. (again bad had).1;
    met = λ quiet bad is. none_some bad (sym none ∙ is);
    rises = λ tell _. counts_rise credits turn (shown before) (shown after) (says tell) (tells tell);
  }
  went_by credits (Err last) before after goes stands unmoved says tells some again causes = record {
    goes = goes;
    stands = λ _. stands;
    same = λ bad had. (again bad had).1;
    met = λ quiet bad is.
        record { mid = before; goes = unmoved; quiet = quiet; last = goes; meets = subst (Meets before after) (ap (λ (o : Option NodeFault). of_some o last) (sym some ∙ is)) (causes quiet) };
    rises = λ tell none. none_some last (sym none ∙ some);
  }

  module _ (stays : (a : N) → Goes a a) where
    pub went_nowhere : (a : N) → Went N Stands Goes Meets fault Tells shown a a
    went_nowhere a = record {
      goes = stays a;
      stands = λ s. s;
      same = λ bad had. refl;
      met = λ quiet bad is. none_some bad (sym quiet ∙ is);
      rises = λ tell none. omega arith;
    }

    module _ (goes_on : (a b c : N) → Goes a b → Goes b c → Goes a c) (tells_on : (a b : N) → Goes a b → Tells a → Tells b) where
      pub went_then : (a b c : N) → Went N Stands Goes Meets fault Tells shown a b → Went N Stands Goes Meets fault Tells shown b c → Went N Stands Goes Meets fault Tells shown a c
      went_then a b c f g = record {
        goes = goes_on a b c f.goes g.goes;
        stands = λ s. g.stands (f.stands s);
        same = λ bad had. let first : b ≡ a = f.same bad had in g.same bad (ap fault first ∙ had) ∙ first;
        met = λ quiet bad is. by_mid quiet bad is (fault b) refl;
        rises = λ tell none. no_less_on (moved (shown a)) (moved (shown b)) (moved (shown c)) (f.rises tell (none_mid none (fault b) refl)) (g.rises (tells_on a b f.goes tell) none);
      }
        where
          by_mid : fault a ≡ None → (bad : NodeFault) → fault c ≡ Some bad → (x : Option NodeFault) → fault b ≡ x → MetFirst N Stands Goes Meets fault Tells shown a c bad
          by_mid quiet bad is None had =
              let m = g.met had bad is in
              record { mid = m.mid; goes = goes_on a b m.mid f.goes m.goes; quiet = m.quiet; last = m.last; meets = m.meets }
          by_mid quiet bad is (Some was) had =
              let last : c ≡ b = g.same was had in
              subst (λ (x : N). MetFirst N Stands Goes Meets fault Tells shown a x bad) (sym last) (f.met quiet bad (ap fault (sym last) ∙ is))

          none_mid : fault c ≡ None → (x : Option NodeFault) → fault b ≡ x → fault b ≡ None
          none_mid none None had = had
          none_mid none (Some was) had = none_some was (sym none ∙ ap fault (g.same was had) ∙ had)

-- ---- item by item

module _ {X : Type 0} (R : X → X → Type 0) where
  pub each_self : ((a : X) → R a a) → (xs : List X) → Each R xs xs
  each_self same xs = record { as_many = refl; each = λ i d less. same (get_or xs i d) }

  pub each_then : ((a b c : X) → R a b → R b c → R a c) → (xs ys zs : List X) → Each R xs ys → Each R ys zs → Each R xs zs
  each_then on xs ys zs f g = record {
    as_many = g.as_many ∙ f.as_many;
    each = λ i d less. on (get_or xs i d) (get_or ys i d) (get_or zs i d) (f.each i d less) (g.each i d (subst (λ (n : ℕ). i < n) (sym f.as_many) less));
  }

  pub each_set : ((a : X) → R a a) → (xs : List X) (i : ℕ) (x y : X) → slice_get xs i ≡ Some x → i < length xs → R x y → Each R xs (set xs i y)
  each_set same xs i x y is less step = record {
    as_many = length-set xs i y;
    each = λ j d there.
        at_or_other (λ (k : ℕ). R (get_or xs k d) (get_or (set xs i y) k d)) i j
        (subst (λ (z : X). R z (get_or (set xs i y) i d)) (sym (get_or_from_slice_get xs i x d is)) (subst (R x) (sym (get_or-set_same xs i y d less)) step))
        (λ other. subst (R (get_or xs j d)) (sym (get_or-set_other xs i j y d other)) (same (get_or xs j d)));
  }
