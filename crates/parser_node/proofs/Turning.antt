-- What a turn says by its answer.
use Rattle.std.proofs.Common.{ℕ, zero, suc, ◌<◌, ◌≤◌, ◌≡◌, ◌⊎◌, Bool, true, false, Option, None, List, [], ◌∷◌, length, get_or, refl, sym, ap, ◌∙◌, subst, arith, ⊎_elim, inl, inr}
use Rattle.node_frames.specs.declared.frame.Frame.{Frame}
use Rattle.credit_link.specs.declared.turn.NodeFault.{NodeFault}
use Rattle.credit_link.specs.declared.turn.Turn.{Turn}
use Rattle.credit_link.specs.declared.turn.Turn.TheVariants.{Moved, Idle, Done}
use Rattle.shuffle_poll.specs.Shuffles.{ShuffleSeen}
use Rattle.round_law.specs.Rows.{TurnSays, TurnTells, IsOrderly, moved}
use Rattle.node_lanes.specs.Ends.{OutsStand}
use Rattle.node_lanes.specs.Passes.{OutsRest}
use Rattle.node_lanes.specs.Resting.{IsSettledEach, HasRested}
use Rattle.node_lanes.proofs.Listed.{before_or_not}
use Rattle.node_lanes.proofs.Resting.{no_ins_rest, no_ins_stand, is_orderly, idle_row, done_row, pipes_stay, SameCounts, tx_of_list}
use Rattle.net_law.specs.Parsers.{ParserSeen, ParserStands, SomeWaits, HasReadAll, parser_view, parser_tells}
use Rattle.parser_steps.specs.Seen.{StepsSeen, seen_of}
use Rattle.parser_node.specs.Passing.{SameTaken, HasEnded, AllTell, HasPassed}
use Rattle.parser_node.specs.Turning.{AnswersBy, Turns}

module _ (a b : ParserSeen) (did : Bool) (passed : HasPassed did a b) (stands : ParserStands b) where
  stand : OutsStand a.credits b.outs
  stand = subst (λ (n : ℕ). OutsStand n b.outs) passed.goes.goes.same.3 stands.outs

  orderly : IsOrderly (parser_view b)
  orderly =
      is_orderly a.credits (parser_view b).read (parser_view b).records 0 true [] b.outs (no_ins_stand a.credits) stand
      (record { quiet = λ j d less. absurd (omega (arith, less)); granted = λ j d less. absurd (omega (arith, less)) }) (λ j d less. absurd (omega (arith, less))) (λ j d less. absurd (omega (arith, less)))

  still : did ≡ false → SameTaken a b × OutsRest a.outs b.outs
  still none = by_did did none passed.tells
    where
      by_did : (d : Bool) → d ≡ false → AllTell d a b → SameTaken a b × OutsRest a.outs b.outs
      by_did true wrong tells = absurd (let e : true ≡ false = wrong in cc)
      by_did false is tells = tells

  rises : did ≡ true → parser_tells a → moved (parser_view a) < moved (parser_view b)
  rises more = by_did did more passed.tells
    where
      by_did : (d : Bool) → d ≡ true → AllTell d a b → parser_tells a → moved (parser_view a) < moved (parser_view b)
      by_did true is tells = tells
      by_did false wrong tells = absurd (let e : false ≡ true = wrong in cc)

  rested : did ≡ false → HasRested a.credits [] [] a.outs b.outs
  rested none = record {
    as_many = (refl, passed.goes.goes.outs.as_many);
    ins_rest = no_ins_rest;
    outs_rest = (still none).1;
    ins_stand = no_ins_stand a.credits;
    outs_stand = stand;
    empty = λ empty j d less. absurd (omega (arith, less));
    ended = λ empty all k less.
        ⊎_elim (λ (waits : SomeWaits b.outs). absurd (omega (arith, waits.1, ap length (empty waits.0)))) (λ (ended : HasEnded b). ended.put k less) (passed.rests none);
  }

  same_counts : did ≡ false → SameCounts (parser_view a).read (parser_view a).records 0 (parser_view b).read (parser_view b).records 0 true true
  same_counts none = let same = (still none).0 in record { read = same.read; records = same.records; wrote = refl; wrote_all = refl }

  turn_says : (turn : Turn) → AnswersBy did b.outs turn → TurnSays a.credits (parser_view a) (parser_view b) turn
  turn_says Moved is = record { orderly = orderly; few = stands.offers_few }
  turn_says Idle is =
      idle_row a.credits [] [] a.outs b.outs (rested is.0) (parser_view a).read (parser_view a).records 0 (parser_view b).read (parser_view b).records 0 true true (same_counts is.0) orderly stands.offers_few
      (inr is.1)
  turn_says Done is =
      done_row a.credits [] [] a.outs b.outs (rested is.0) (parser_view a).read (parser_view a).records 0 (parser_view b).read (parser_view b).records 0 true true (same_counts is.0) orderly stands.offers_few
      (λ j d less. absurd (omega (arith, less))) is.1 refl

  turn_tells : (turn : Turn) → AnswersBy did b.outs turn → parser_tells a → TurnTells (parser_view a) (parser_view b) turn
  turn_tells Moved is tells = rises is tells
  turn_tells Idle is tells = pipes_stay a.credits [] [] a.outs b.outs (rested is.0) (parser_view a).read (parser_view a).records 0 (parser_view b).read (parser_view b).records 0 true true tells
  turn_tells Done is tells = pipes_stay a.credits [] [] a.outs b.outs (rested is.0) (parser_view a).read (parser_view a).records 0 (parser_view b).read (parser_view b).records 0 true true tells

  -- no frame waits on links that are settled
  read_all : did ≡ false → IsSettledEach b.outs → HasReadAll b
  read_all none settled =
      ⊎_elim
      (λ (waits : SomeWaits b.outs). absurd (never waits))
      (λ (ended : HasEnded b). ended.read) (passed.rests none)
    where
      never : SomeWaits b.outs → ⊥
      never waits =
          ⊎_elim
          (λ (there : waits.0 < length b.outs.links). let here = settled waits.0 (tx_of_list b.outs.links waits.0 there) there in omega (arith, waits.1, ap length here.0))
          (λ (past : length b.outs.links ≤ waits.0). omega (arith, waits.1, ap length (nothing_past b.outs.queues waits.0 (omega (arith, past, stand.holds.as_many)))))
          (before_or_not waits.0 (length b.outs.links))
        where
          nothing_past : (queues : List (List Frame)) (k : ℕ) → length queues ≤ k → get_or queues k [] ≡ []
          nothing_past [] k past = refl
          nothing_past (q ∷ queues) zero past = absurd (omega arith)
          nothing_past (q ∷ queues) (suc k) past = nothing_past queues k (omega (arith, past))

  idle_waits : (turn : Turn) → AnswersBy did b.outs turn → turn ≡ Idle → SomeWaits b.outs ⊎ HasReadAll b
  idle_waits Moved is wrong = cc
  idle_waits Idle is e = ⊎_elim (λ (waits : SomeWaits b.outs). inl waits) (λ (ended : HasEnded b). inr ended.read) (passed.rests is.0)
  idle_waits Done is wrong = cc

  done_read : (turn : Turn) → AnswersBy did b.outs turn → turn ≡ Done → HasReadAll b
  done_read Moved is wrong = cc
  done_read Idle is wrong = cc
  done_read Done is e = read_all is.0 is.1

  pub turns : (turn : Turn) → AnswersBy did b.outs turn → Turns a b turn
  turns turn is = record {
    goes = passed.goes.goes;
    says = λ tells. turn_says turn is;
    tells = turn_tells turn is;
    idle = idle_waits turn is;
    done = done_read turn is;
    works = passed.works;
  }

-- the same, of a parser as it was opened
pub turned : (x y : StepsSeen) (outs outs' : ShuffleSeen) (fault : Option NodeFault) (s : ParserSeen) (turn : Turn) → seen_of x outs fault ≡ s → fault ≡ None → Turns (seen_of x outs None) (seen_of y outs' None) turn
    → Turns s (seen_of y outs' fault) turn
turned x y outs outs' fault s turn is none h =
    subst (λ (f : Option NodeFault). Turns s (seen_of y outs' f) turn) (sym none) (subst (λ (a : ParserSeen). Turns a (seen_of y outs' None) turn) (ap (seen_of x outs) (sym none) ∙ is) h)
