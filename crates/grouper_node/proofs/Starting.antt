-- A new grouper.
use Rattle.std.proofs.Common.{ℕ, suc, ◌<◌, ◌≤◌, ◌≡◌, None, List, [], ◌∷◌, length, replicate, refl, sym, ap, ap₂, ◌∙◌, subst, arith, append-nil}
use Rattle.std.specs.List.{All}
use Rattle.node_frames.specs.declared.frame.Frame.{Frame}
use Rattle.credit_link.specs.Ends.{TxSeen, RxSeen}
use Rattle.shuffle_poll.specs.Shuffles.{ShuffleSeen, ShuffleHolds}
use Rattle.summary_spec.specs.Declaration.{Declared}
use Rattle.summary_spec.specs.Lawful.{IsLawful}
use Rattle.node_lanes.specs.Ends.{puts_with}
use Rattle.grouper_state.specs.States.{state_is}
use Rattle.grouper_state.specs.declared.state.GrouperState.{GrouperState}
use Rattle.net_law.specs.Ends.{no_tx, no_rx}
use Rattle.net_law.specs.Groupers.{GrouperStands}
use Rattle.net_law.specs.Starts.{IsNewTx, IsNewRx, new_outs}
use Rattle.net_law.proofs.Starts.{grouper_starts}
use Rattle.grouper_node.specs.Works.{WorkSeen, grouper_of, shape_with, taken_off, puts_of, IsSound}
use Rattle.grouper_node.specs.Nodes.{NodeHolds}
use Rattle.grouper_node.proofs.Works.{few_by, state_as}

none_taken : (credits : ℕ) (ins : List RxSeen) → All (IsNewRx credits) ins → replicate (length ins) [] ≡ taken_off ins
none_taken credits [] each = refl
none_taken credits (r ∷ ins) each =
    ap₂ (λ (z : List Frame) (zs : List (List Frame)). z ∷ zs) (sym (each 0 no_rx (omega arith)).given) (none_taken credits ins (λ j d less. each (suc j) d (omega (arith, less))))

none_put : (credits : ℕ) (links : List TxSeen) → All (IsNewTx credits) links → puts_with links (replicate (length links) []) ≡ replicate (length links) []
none_put credits [] each = refl
none_put credits (l ∷ links) each =
    ap₂ (λ (z : List Frame) (zs : List (List Frame)). z ∷ zs) (append-nil l.offered ∙ (each 0 no_tx (omega arith)).offered) (none_put credits links (λ k d less. each (suc k) d (omega (arith, less))))

module _ (job : Declared) (me groupers processors credits : ℕ) (ins : List RxSeen) (links : List TxSeen) (state : GrouperState) (job_is : IsLawful job) (place : (me < groupers) × (groupers ≤ 16))
    (many : processors ≡ length links) (few : (1 ≤ length ins) × (length ins ≤ 16)) (outs_few : (1 ≤ length links) × (length links ≤ 16))
    (new_ins : All (IsNewRx credits) ins) (new_tx : All (IsNewTx credits) links) (holds : ShuffleHolds links (replicate (length links) []))
    (begins : state_is job (shape_with (length ins) groupers processors) me (replicate (length ins) []) (replicate processors []) state) where
  abbrev begun : WorkSeen
  begun = record { job = job; me = me; groupers = groupers; processors = processors; credits = credits; ins = ins; orders = replicate (length ins) []; outs = new_outs links; state = state }

  standing : GrouperStands (grouper_of begun None)
  standing = grouper_starts job me groupers credits ins links job_is place.0 place.1 few.0 few.1 outs_few.0 outs_few.1 new_ins (record { holds = holds; each = new_tx })

  sound : IsSound begun
  sound = record {
    place = place;
    processors = many;
    ins_few = few;
    outs_few = outs_few;
    ins = standing.ins;
    outs = standing.outs;
    quiet = standing.quiet refl;
    orders = none_taken credits ins new_ins;
    state =
        state_as job me groupers (length ins) processors (length ins) (length links) (replicate (length ins) []) (taken_off ins) (replicate processors []) (puts_of (new_outs links))
        refl (sym many) (sym (none_taken credits ins new_ins)) (none_put credits links new_tx ∙ ap (λ (n : ℕ). replicate n []) (sym many)) state begins;
  }

  node_begins : NodeHolds begun None
  node_begins = record { stands = standing; few = few_by begun sound; sound = λ none. sound }

pub new_node : (job : Declared) (me groupers processors credits : ℕ) (ins : List RxSeen) (links : List TxSeen) (orders : List (List Frame)) (outs : ShuffleSeen) (state : GrouperState) → IsLawful job
    → (me < groupers) × (groupers ≤ 16) → processors ≡ length links → (1 ≤ length ins) × (length ins ≤ 16) → (1 ≤ length links) × (length links ≤ 16)
    → All (IsNewRx credits) ins → All (IsNewTx credits) links → outs ≡ new_outs links → ShuffleHolds outs.links outs.queues
    → orders ≡ replicate (length ins) [] → state_is job (shape_with (length ins) groupers processors) me (replicate (length ins) []) (replicate processors []) state
    → NodeHolds (record { job = job; me = me; groupers = groupers; processors = processors; credits = credits; ins = ins; orders = orders; outs = outs; state = state }) None
new_node job me groupers processors credits ins links orders outs state job_is place many few outs_few new_ins new_tx fresh holds none begins =
    subst (λ (l : List (List Frame)). NodeHolds (record { job = job; me = me; groupers = groupers; processors = processors; credits = credits; ins = ins; orders = l; outs = outs; state = state }) None) (sym none)
    (subst (λ (o : ShuffleSeen). NodeHolds (record { job = job; me = me; groupers = groupers; processors = processors; credits = credits; ins = ins; orders = replicate (length ins) []; outs = o; state = state }) None) (sym fresh)
    (node_begins job me groupers processors credits ins links state job_is place many few outs_few new_ins new_tx (subst (λ (o : ShuffleSeen). ShuffleHolds o.links o.queues) fresh holds) begins))
