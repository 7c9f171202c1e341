-- What a step asks before it begins: the chosen capture may be stepped, and the end was put on no link.
use Rattle.std.proofs.Common.{ℕ, ◌≡◌, ◌<◌, ◌≤◌, ◌+◌, ◌*◌, Bool, Some, None, false, List, [], ◌∷◌, length, map, refl, sym, ap, ◌∙◌, arith}
use Rattle.std.specs.Prelude.{slice_get, slice_index_or}
use Rattle.std.proofs.lemmas.List.{get_or_default, get_or-map, length-map}
use Rattle.std.proofs.lemmas.Option.{get_or_from_slice_get}
use Rattle.ds_base.specs.Outside.{SourceSeen}
use Rattle.credit_link.specs.Frames.{has_finish}
use Rattle.shuffle_poll.specs.Shuffles.{ShuffleSeen}
use Rattle.summary_spec.specs.Declaration.{Declared}
use Rattle.node_lanes.proofs.Listed.{puts_at}
use Rattle.parser_captures.specs.Captures.{reading_of}
use Rattle.parser_captures.specs.Choice.{IsLeast, capture_in}
use Rattle.parser_captures.specs.Puts.{IsUnfinished}
use Rattle.parser_captures.specs.declared.capture.OneCapture.{OneCapture}
use Rattle.parser_steps.specs.Seen.{StepsSeen, StepsStand, steps_of}
use Rattle.parser_steps.specs.Holds.{ParserHolds}
use Rattle.parser_steps.specs.One.{MayStep}
use Rattle.parser_steps.proofs.Bounds.{captures_few}
use Rattle.parser_steps.proofs.Chosen as chosen
use Rattle.parser_steps.proofs.Chosen.{IsChosen}

-- what is seen of the item at a place
pub mapped_at : {X : Type 0} (f : X → SourceSeen) (xs : List X) (i : ℕ) (x : X) (e : SourceSeen) → i < length xs → slice_get xs i ≡ Some x → slice_index_or (map f xs) i e ≡ f x
mapped_at f xs i x e less is = get_or-map f xs i x e less ∙ ap f (get_or_from_slice_get xs i x x is)

-- while the parser has not finished, the end was put on no link
pub open_links : (steps : StepsSeen) (outs : ShuffleSeen) → ParserHolds steps outs None → steps.finished ≡ false → IsUnfinished outs
open_links steps outs h going k d less = ap has_finish (sym (puts_at outs.links outs.queues k d less)) ∙ h.ending k less ∙ going

module _ (job : Declared) (me parsers groupers : ℕ) (captures : List OneCapture) (sources : List SourceSeen) (finished : Bool) (outs : ShuffleSeen) (i : ℕ)
    (stand : StepsStand job me parsers groupers captures sources) (holds : ParserHolds (steps_of job me parsers groupers captures sources finished) outs None) (least : IsLeast captures (length captures) i) where
  is_chosen : (d : OneCapture) (e : SourceSeen) → IsChosen job me parsers groupers captures sources finished outs i (capture_in captures i d) (slice_index_or sources i e)
  is_chosen d e = record {
    stand = stand;
    holds = holds;
    least = least;
    was = λ f. get_or_default captures i f d least.there;
    source_was = λ f. get_or_default sources i f e (let there : i < length captures = least.there in omega (arith, there, stand.as_many));
  }

  pub few_places : i < 64
  few_places =
      let steps : StepsSeen = steps_of job me parsers groupers captures sources finished in
      let few : length steps.reads ≤ 64 = captures_few steps outs None holds.stands in
      let there : i < length captures = least.there in
      omega (arith, there, few, length-map captures (reading_of job))

  pub some_groupers : 0 < groupers
  some_groupers = omega (arith, holds.stands.groupers.0, holds.links)

  pub may_step : (d : OneCapture) (e : SourceSeen) → MayStep job (me + i * parsers) (capture_in captures i d) (slice_index_or sources i e)
  may_step d e =
      let x : OneCapture = capture_in captures i d in
      let s : SourceSeen = slice_index_or sources i e in
      let b = is_chosen d e in
      let read = chosen.source_read job me parsers groupers captures sources finished outs i x s b in
      record {
        own = chosen.number_was job me parsers groupers captures sources finished outs i x s b;
        stands = chosen.stands_was job me parsers groupers captures sources finished outs i x s b;
        going = chosen.going_was job me parsers groupers captures sources finished outs i x s b;
        near = chosen.near_was job me parsers groupers captures sources finished outs i x s b;
        left = λ told. read.left told refl;
      }

  pub still_open : IsUnfinished outs
  still_open =
      let d : OneCapture = an_item captures i least.there in
      let e : SourceSeen = an_item sources i (let there : i < length captures = least.there in omega (arith, there, stand.as_many)) in
      open_links (steps_of job me parsers groupers captures sources finished) outs holds
      (chosen.unfinished job me parsers groupers captures sources finished outs i (capture_in captures i d) (slice_index_or sources i e) (is_chosen d e))
    where
      an_item : {X : Type 0} (xs : List X) (i : ℕ) → i < length xs → X
      an_item [] i less = absurd (omega arith)
      an_item (x ∷ xs) i less = x
