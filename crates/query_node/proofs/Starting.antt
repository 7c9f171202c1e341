-- A new processor.
use Rattle.std.proofs.Common.{ℕ, zero, suc, ◌<◌, ◌≤◌, ◌≡◌, None, List, [], ◌∷◌, ◌++◌, length, replicate, get_or, refl, sym, ap₂, ◌∙◌, subst, arith}
use Rattle.std.specs.List.{All}
use Rattle.node_frames.specs.declared.frame.Frame.{Frame}
use Rattle.credit_link.specs.Ends.{TxSeen, RxSeen}
use Rattle.shuffle_poll.specs.Shuffles.{ShuffleSeen, ShuffleHolds}
use Rattle.summary_spec.specs.Declaration.{Declared}
use Rattle.summary_spec.specs.Lawful.{IsLawful}
use Rattle.node_lanes.proofs.Listed.{puts_at}
use Rattle.query_state.specs.States.{state_is}
use Rattle.query_state.specs.declared.state.QueryState.{QueryState}
use Rattle.net_law.specs.Ends.{no_tx, no_rx}
use Rattle.net_law.specs.Processors.{ProcessorStands}
use Rattle.net_law.specs.Starts.{IsNewTx, IsNewRx, new_outs}
use Rattle.net_law.proofs.Starts.{processor_starts}
use Rattle.query_node.specs.Works.{WorkSeen, processor_of, taken_off, put_by, IsSound}
use Rattle.query_node.specs.Nodes.{NodeHolds}
use Rattle.query_node.proofs.Works.{few_by}

same_items : {X : Type 0} (n i : ℕ) (x : X) → get_or (replicate n x) i x ≡ x
same_items zero i x = refl
same_items (suc n) zero x = refl
same_items (suc n) (suc i) x = same_items n i x

none_taken : (credits : ℕ) (ins : List RxSeen) → All (IsNewRx credits) ins → replicate (length ins) [] ≡ taken_off ins
none_taken credits [] each = refl
none_taken credits (r ∷ ins) each =
    ap₂ (λ (z : List Frame) (zs : List (List Frame)). z ∷ zs) (sym (each 0 no_rx (omega arith)).given) (none_taken credits ins (λ j d less. each (suc j) d (omega (arith, less))))

none_put : (credits : ℕ) (links : List TxSeen) → length links ≡ 1 → All (IsNewTx credits) links → put_by (new_outs links) ≡ []
none_put credits links one each =
    let there : 0 < length links = omega (arith, one) in
    puts_at links (replicate (length links) []) 0 no_tx there ∙ ap₂ (λ (x y : List Frame). x ++ y) (each 0 no_tx there).offered (same_items (length links) 0 [])

module _ (job : Declared) (credits : ℕ) (ins : List RxSeen) (links : List TxSeen) (state : QueryState) (job_is : IsLawful job) (few : (1 ≤ length ins) × (length ins ≤ 16)) (one : length links ≡ 1)
    (new_ins : All (IsNewRx credits) ins) (new_tx : All (IsNewTx credits) links) (holds : ShuffleHolds links (replicate (length links) []))
    (begins : state_is job (replicate (length ins) []) [] state) where
  abbrev begun : WorkSeen
  begun = record { job = job; credits = credits; ins = ins; orders = replicate (length ins) []; outs = new_outs links; state = state }

  standing : ProcessorStands (processor_of begun None)
  standing = processor_starts job credits ins links job_is few.0 few.1 one new_ins (record { holds = holds; each = new_tx })

  sound : IsSound begun
  sound = record {
    job_is = job_is;
    ins_few = few;
    one_out = one;
    ins = standing.ins;
    outs = standing.outs;
    quiet = standing.quiet refl;
    orders = none_taken credits ins new_ins;
    state =
        subst (λ (fs : List Frame). state_is job (taken_off ins) fs state) (sym (none_put credits links one new_tx))
        (subst (λ (l : List (List Frame)). state_is job l [] state) (none_taken credits ins new_ins) begins);
  }

  node_begins : NodeHolds begun None
  node_begins = record { stands = standing; few = few_by job ins (put_by (new_outs links)) state sound.state; sound = λ none. sound }

pub new_node : (job : Declared) (credits : ℕ) (ins : List RxSeen) (links : List TxSeen) (orders : List (List Frame)) (outs : ShuffleSeen) (state : QueryState) → IsLawful job
    → (1 ≤ length ins) × (length ins ≤ 16) → length links ≡ 1 → All (IsNewRx credits) ins → All (IsNewTx credits) links → outs ≡ new_outs links → ShuffleHolds outs.links outs.queues
    → orders ≡ replicate (length ins) [] → state_is job (replicate (length ins) []) [] state
    → NodeHolds (record { job = job; credits = credits; ins = ins; orders = orders; outs = outs; state = state }) None
new_node job credits ins links orders outs state job_is few one new_ins new_tx fresh holds none begins =
    subst (λ (l : List (List Frame)). NodeHolds (record { job = job; credits = credits; ins = ins; orders = l; outs = outs; state = state }) None) (sym none)
    (subst (λ (o : ShuffleSeen). NodeHolds (record { job = job; credits = credits; ins = ins; orders = replicate (length ins) []; outs = o; state = state }) None) (sym fresh)
    (node_begins job credits ins links state job_is few one new_ins new_tx (subst (λ (o : ShuffleSeen). ShuffleHolds o.links o.queues) fresh holds) begins))
