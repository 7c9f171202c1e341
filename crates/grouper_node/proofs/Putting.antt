-- Frames that are due are put on links on which none waits.
use Rattle.std.proofs.Common.{ℕ, zero, suc, ◌+◌, ◌<◌, ◌≤◌, ◌≡◌, true, false, None, Some, List, [], ◌∷◌, ◌++◌, length, get_or, set, refl, sym, ap, ◌∙◌, subst, arith, map}
use Rattle.std.specs.List.{All, sum_by}
use Rattle.std.proofs.lemmas.List.{get_or-set_same, get_or-map, length-set, nil_from_length}
use Rattle.std.proofs.lemmas.List.Sums.{sum_by-cons}
use Rattle.node_frames.specs.declared.frame.Frame.{Frame}
use Rattle.credit_link.specs.Ends.{TxSeen}
use Rattle.credit_link.specs.Frames.{has_finish}
use Rattle.credit_link.specs.declared.turn.NodeFault.TheVariants.{OutOfMemory}
use Rattle.shuffle_poll.specs.Lanes.{put_on as all_put}
use Rattle.shuffle_poll.specs.Shuffles.{ShuffleSeen, ShuffleHolds, lane_of}
use Rattle.summary_spec.specs.Declaration.{Declared}
use Rattle.round_law.specs.Rows.{sent_by}
use Rattle.round_law.specs.Views.{sender_view}
use Rattle.run_law.specs.Links.{AreLawful, GroupRule}
use Rattle.run_law.specs.Shapes.{Shape}
use Rattle.node_lanes.specs.Ends.{put_on, senders_of, senders_with, OutsStand, OutsAreQuiet}
use Rattle.node_lanes.specs.Resting.{NoneHeld}
use Rattle.node_lanes.proofs.Going.{ins_same, outs_same, puts_go}
use Rattle.node_lanes.proofs.Listed.{puts_at}
use Rattle.grouper_state.specs.States.{state_is, taken_on, taken_more, with_due, CanPut, IsAtRest, due_count}
use Rattle.grouper_state.specs.declared.due_frame.Due.{Due}
use Rattle.grouper_state.specs.declared.due_frame.Due.TheVariants.{To, All as ToAll}
use Rattle.grouper_state.specs.declared.state.GrouperState.{GrouperState}
use Rattle.grouper_node.specs.Works.{WorkSeen, shape_in, taken_off, puts_of, IsSound}
use Rattle.grouper_node.specs.Steps.{Steps, Fails, ShuffleGoes, IsOpenFor, PutsDue}
use Rattle.grouper_node.proofs.Lists.{puts_long, one_waits, all_wait, open_before}
use Rattle.grouper_node.proofs.Works.{state_as, fails_same}

-- ---- the queues

pub waits_none : (queues : List (List Frame)) (k : ℕ) → sum_by length queues ≡ 0 → get_or queues k [] ≡ []
waits_none [] k none = refl
waits_none (q ∷ queues) zero none = nil_from_length q (omega (arith, none, sum_by-cons length q queues))
waits_none (q ∷ queues) (suc k) none = waits_none queues k (omega (arith, none, sum_by-cons length q queues))

pub none_waits : (queues : List (List Frame)) → ((k : ℕ) → get_or queues k [] ≡ []) → sum_by length queues ≡ 0
none_waits [] none = refl
none_waits (q ∷ queues) none = omega (arith, sum_by-cons length q queues, ap length (none 0), none_waits queues (λ k. none (suc k)))

-- what waits is not counted as sent
sent_alone : (links : List TxSeen) (queues : List (List Frame)) → sum_by sent_by (senders_with links queues) ≡ sum_by sent_by (senders_with links [])
sent_alone [] queues = refl
sent_alone (l ∷ links) [] = refl
sent_alone (l ∷ links) (q ∷ queues) =
    sum_by-cons sent_by (sender_view (length q) l) (senders_with links queues)
    ∙ ap (λ (n : ℕ). sent_by (sender_view 0 l) + n) (sent_alone links queues)
    ∙ sym (sum_by-cons sent_by (sender_view 0 l) (senders_with links []))

sent_alike : (links : List TxSeen) (queues queues' : List (List Frame)) → sum_by sent_by (senders_with links queues) ≡ sum_by sent_by (senders_with links queues')
sent_alike links queues queues' = sent_alone links queues ∙ sym (sent_alone links queues')

-- ---- a frame on one link, or on all

module _ (outs outs' : ShuffleSeen) (none : NoneHeld outs) where
  pub has_room : (k : ℕ) → length (get_or outs.queues k []) < 2
  has_room k = omega (arith, ap length (none k))

  pub still_open : (k : ℕ) (d : TxSeen) → k < length outs.links → has_finish (put_on outs k) ≡ false → has_finish (all_put (lane_of outs k d)) ≡ false
  still_open k d there open_yet = ap has_finish (sym (puts_at outs.links outs.queues k d there)) ∙ open_yet

  pub shuffle_goes : outs'.links ≡ outs.links → ShuffleHolds outs'.links outs'.queues → ShuffleGoes outs outs'
  shuffle_goes links holds = record {
    links = links;
    queues = λ k. record { rest = get_or outs'.queues k []; joined = ap (λ (front : List Frame). front ++ get_or outs'.queues k []) (sym (none k)) };
    holds = holds;
  }

  module _ (f : Frame) (links : outs'.links ≡ outs.links) (holds : ShuffleHolds outs'.links outs'.queues) where
    pub one_put : (q : ℕ) → outs'.queues ≡ set outs.queues q (get_or outs.queues q [] ++ f ∷ []) → puts_of outs' ≡ taken_more (puts_of outs) q f
    one_put q queues = ap (λ (s : ShuffleSeen). puts_of s) same ∙ one_waits outs.links outs.queues q f as_many
      where
        same : outs' ≡ record { links = outs.links; queues = set outs.queues q (get_or outs.queues q [] ++ f ∷ []) }
        same = ap (λ (l : List TxSeen). record outs' { links = l }) links ∙ ap (λ (l : List (List Frame)). record { links = outs.links; queues = l }) queues

        as_many : length outs.queues ≡ length outs.links
        as_many = sym (ap length queues ∙ length-set outs.queues q (get_or outs.queues q [] ++ f ∷ [])) ∙ holds.as_many ∙ ap length links

    pub all_put_on : ((k : ℕ) → k < length outs.links → get_or outs'.queues k [] ≡ get_or outs.queues k [] ++ f ∷ []) → puts_of outs' ≡ map (λ (frames : List Frame). frames ++ f ∷ []) (puts_of outs)
    all_put_on each = ap (λ (l : List TxSeen). puts_of (record outs' { links = l })) links ∙ all_wait outs.links outs.queues outs'.queues f each

-- none of the links has its end, since the frame may stand on them
pub open_for : (job : Declared) (shape : Shape) (me : ℕ) (taken puts : List (List Frame)) (s : GrouperState) (due : Due) → length puts ≡ shape.processors
    → ((q : ℕ) (frame : Frame) → due ≡ To q frame → q < length puts) → state_is job shape me taken (with_due puts (Some due)) s → IsOpenFor puts due
open_for job shape me taken puts s (To q f) long there h =
    let less : q < length puts = there q f refl in (
      less,
      open_before (GroupRule job) (taken_on puts q) f
          (subst (λ (l : List Frame). AreLawful (GroupRule job) l) (get_or-set_same puts q (taken_on puts q ++ f ∷ []) [] less) (h.stands.keeps.lawful q (omega (arith, less, long)))),
    )
open_for job shape me taken puts s (ToAll f) long there h = λ q less.
    open_before (GroupRule job) (taken_on puts q) f
    (subst (λ (l : List Frame). AreLawful (GroupRule job) l) (get_or-map (λ (frames : List Frame). frames ++ f ∷ []) puts q [] [] less) (h.stands.keeps.lawful q (omega (arith, less, long))))

-- ---- the work with one frame more

module _ (w : WorkSeen) (h : IsSound w) where
  pub can_put : CanPut w.state
  can_put = record { job = w.job; shape = shape_in w; me = w.me; taken = taken_off w.ins; put = puts_of w.outs; is = h.state }

  pub due_open : (state : GrouperState) (due : Due) → state_is w.job (shape_in w) w.me (taken_off w.ins) (with_due (puts_of w.outs) (Some due)) state
      → ((q : ℕ) (frame : Frame) → due ≡ To q frame → q < w.state.processors) → IsOpenFor (puts_of w.outs) due
  due_open state due after there =
      open_for w.job (shape_in w) w.me (taken_off w.ins) (puts_of w.outs) state due (puts_long w.outs)
      (λ q frame is. let less = there q frame is in omega (arith, less, h.state.processors_are, puts_long w.outs)) after

  module _ (outs : ShuffleSeen) (goes : ShuffleGoes w.outs outs) where
    put_stand : OutsStand w.credits outs
    put_stand = record { holds = goes.holds; credits = subst (λ (ls : List TxSeen). All (λ (l : TxSeen). l.credits ≡ w.credits) ls) (sym goes.links) h.outs.credits }

    put_quiet : OutsAreQuiet outs
    put_quiet = subst (λ (ls : List TxSeen). All (λ (l : TxSeen). l.fault ≡ None) ls) (sym goes.links) h.quiet.1

    put_sent : sum_by sent_by (senders_of w.outs) ≡ sum_by sent_by (senders_of outs)
    put_sent = sent_alike w.outs.links w.outs.queues outs.queues ∙ ap (λ (ls : List TxSeen). sum_by sent_by (senders_with ls outs.queues)) (sym goes.links)

    put_steps : (state : GrouperState) → state_is w.job (shape_in w) w.me (taken_off w.ins) (puts_of outs) state → Steps w (record w { outs = outs; state = state })
    put_steps state stands = record {
      sound = record {
        place = h.place;
        processors = h.processors ∙ sym (ap length goes.links);
        ins_few = h.ins_few;
        outs_few = subst (λ (ls : List TxSeen). (1 ≤ length ls) × (length ls ≤ 16)) (sym goes.links) h.outs_few;
        ins = h.ins;
        outs = put_stand;
        quiet = (h.quiet.0, put_quiet);
        orders = h.orders;
        state =
            state_as w.job w.me w.groupers (length w.ins) (length w.outs.links) (length w.ins) (length outs.links) (taken_off w.ins) (taken_off w.ins) (puts_of outs) (puts_of outs)
            refl (ap length goes.links) refl refl state stands;
      };
      goes = record { same = (refl, refl, refl, refl); ins = ins_same w.ins; outs = puts_go w.outs outs goes.links goes.queues };
      calm = (
        (λ j d less. (refl, refl)),
        (λ k d less. (ap (λ (ls : List TxSeen). (get_or ls k d).forth.faults) goes.links, ap (λ (ls : List TxSeen). (get_or ls k d).back.faults) goes.links)),
      );
      no_less = λ tells. omega (arith, put_sent);
    }

  -- a frame that was due was put
  pub puts_one : (outs : ShuffleSeen) (state : GrouperState) (due : Due) → ShuffleGoes w.outs outs → puts_of outs ≡ with_due (puts_of w.outs) (Some due)
      → state_is w.job (shape_in w) w.me (taken_off w.ins) (with_due (puts_of w.outs) (Some due)) state → due_count state < due_count w.state
      → PutsDue true w (record w { outs = outs; state = state })
  puts_one outs state due goes put stands less = record {
    steps = put_steps outs goes state (subst (λ (l : List (List Frame)). state_is w.job (shape_in w) w.me (taken_off w.ins) l state) (sym put) stands);
    ins = refl;
    due = record { links = goes.links; less = less };
  }

  -- none was due
  pub puts_none : (state : GrouperState) → state_is w.job (shape_in w) w.me (taken_off w.ins) (puts_of w.outs) state → IsAtRest state → PutsDue false w (record w { state = state })
  puts_none state stands rests = record {
    steps = record {
      sound = record { place = h.place; processors = h.processors; ins_few = h.ins_few; outs_few = h.outs_few; ins = h.ins; outs = h.outs; quiet = h.quiet; orders = h.orders; state = stands };
      goes = record { same = (refl, refl, refl, refl); ins = ins_same w.ins; outs = outs_same w.outs };
      calm = ((λ j d less. (refl, refl)), (λ k d less. (refl, refl)));
      no_less = λ tells. omega arith;
    };
    ins = refl;
    due = record { outs = refl; rests = rests };
  }

  -- there was no memory to tell
  pub due_fails : (state : GrouperState) → Fails w (record w { state = state }) OutOfMemory
  due_fails state = fails_same w w.ins w.orders w.outs state OutOfMemory h (ins_same w.ins) (outs_same w.outs) h.ins h.outs (λ k. refl) refl tt
