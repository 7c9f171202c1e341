-- A new merge.
use Rattle.std.proofs.Common.{ℕ, zero, suc, ◌+◌, ◌-◌, ◌<◌, ◌≤◌, ◌≡◌, false, None, Some, Option, List, [], ◌∷◌, ◌++◌, length, replicate, refl, sym, ap, ap₂, ◌∙◌, subst, arith, zero-add}
use Rattle.std.proofs.Math.Path.{fun_ext}
use Rattle.std.specs.Prelude.{flat_map}
use Rattle.std.specs.List.{All}
use Rattle.std.proofs.lemmas.List.{nil_from_length}
use Rattle.std.proofs.lemmas.List.Sorted.{length_permutation}
use Rattle.ds_base.specs.Outside.{SinkSeen}
use Rattle.ds_base.specs.declared.verdict.Answer.{Answer}
use Rattle.node_frames.specs.declared.frame.Frame.{Frame}
use Rattle.credit_link.specs.Ends.{RxSeen}
use Rattle.summary_spec.specs.Declaration.{Declared}
use Rattle.summary_spec.specs.Lawful.{IsLawful}
use Rattle.run_law.specs.Nodes.{HasWrittenDue, AreInOrder, answers_taken, below, least_of_links, lines_by, lines_due}
use Rattle.run_law.specs.Sent.{answers_in, of_firsts, bound_in}
use Rattle.run_law.specs.Shapes.{Shape}
use Rattle.run_law.proofs.Bounds.{none_below}
use Rattle.run_law.proofs.Starting.{none_front}
use Rattle.merge_state.specs.States.{state_is}
use Rattle.merge_state.specs.declared.state.MergeState.{MergeState}
use Rattle.net_law.specs.Ends.{no_rx}
use Rattle.net_law.specs.Merges.{MergeStands}
use Rattle.net_law.specs.Starts.{IsNewRx, new_merge}
use Rattle.net_law.proofs.Starts.{merge_starts}
use Rattle.result_merge.specs.Works.{WorkSeen, merge_of, taken_off, taken_on, have_ended, shape_by, state_holds, rests_over, IsSound}
use Rattle.result_merge.specs.Nodes.{NodeHolds}
use Rattle.result_merge.proofs.Lists.{taken_long}
use Rattle.result_merge.proofs.Works.{rests_by}

-- ---- nothing may be written of links on which nothing came

none_here : (n k : ℕ) → taken_on (replicate n []) k ≡ []
none_here zero k = refl
none_here (suc n) zero = refl
none_here (suc n) (suc k) = none_here n k

no_answers : (taken : ℕ → List Frame) → ((k : ℕ) → taken k ≡ []) → (ks : List ℕ) → flat_map (λ q. answers_in (taken q)) ks ≡ []
no_answers taken none [] = refl
no_answers taken none (k ∷ ks) = ap₂ (λ xs ys. xs ++ ys) (ap answers_in (none k)) (no_answers taken none ks)

never : (mark : ℕ) (bound : Option ℕ) → bound ≡ Some mark → bound ≡ None → ⊥
never mark bound some none = let wrong : Some mark ≡ None = sym some ∙ none in cc

module _ (job : Declared) (shape : Shape) (counts taken : ℕ → List Frame) (some : 0 < shape.processors) (none : (k : ℕ) → taken k ≡ []) where
  none_ordered : (ordered : List Answer) → AreInOrder (answers_taken shape taken) ordered → ordered ≡ []
  none_ordered ordered h =
      nil_from_length ordered (length_permutation (answers_taken shape taken) ordered h.same ∙ ap length (no_answers taken none (below shape.processors)))

  -- some processor has not finished
  no_end : least_of_links shape.processors taken ≡ None → ⊥
  no_end over =
      never 0 (bound_in of_firsts (taken 0)) (ap (bound_in of_firsts) (none 0)) (none_below shape.processors 0 (λ k. bound_in of_firsts (taken k)) some over)

  by_mark : (bound : Option ℕ) → (bound ≡ None → ⊥) → lines_by job shape bound counts taken [] ≡ []
  by_mark None going = absurd (going refl)
  by_mark (Some mark) going = refl

  start_rests : HasWrittenDue job shape counts taken [] []
  start_rests ordered h =
      sym (by_mark (least_of_links shape.processors taken) no_end)
      ∙ ap (λ (xs : List Answer). lines_by job shape (least_of_links shape.processors taken) counts taken xs) (sym (none_ordered ordered h))

-- ---- the links

none_taken : (credits : ℕ) (ins : List RxSeen) → All (IsNewRx credits) ins → replicate (length ins) [] ≡ taken_off ins
none_taken credits [] each = refl
none_taken credits (r ∷ ins) each =
    ap₂ (λ (z : List Frame) (zs : List (List Frame)). z ∷ zs) (sym (each 0 no_rx (omega arith)).given) (none_taken credits ins (λ j d less. each (suc j) d (omega (arith, less))))

many : {X : Type 0} (a b : ℕ) (x : X) → replicate a x ++ replicate b x ≡ replicate (a + b) x
many zero b x = ap (λ (n : ℕ). replicate n x) (sym (zero-add b))
many (suc a) b x = ap (λ xs. x ∷ xs) (many a b x) ∙ ap (λ (n : ℕ). replicate n x) (let same : suc (a + b) ≡ suc a + b = omega arith in same)

long_many : {X : Type 0} (n : ℕ) (x : X) → length (replicate n x) ≡ n
long_many zero x = refl
long_many (suc n) x = ap suc (long_many n x)

not_ended : (n : ℕ) → 0 < n → have_ended (replicate n []) ≡ false
not_ended zero some = absurd (omega (arith, some))
not_ended (suc n) some = refl

module _ (job : Declared) (parsers credits : ℕ) (ins : List RxSeen) (counts answers : List (List Frame)) (state : MergeState) (sink : SinkSeen) (lent : ℕ) (job_is : IsLawful job) (few : (1 ≤ parsers) × (parsers ≤ 16))
    (links : (parsers < length ins) × (length ins ≤ parsers + 16)) (new_ins : All (IsNewRx credits) ins) (no_counts : counts ≡ replicate parsers []) (no_answers_yet : answers ≡ replicate (length ins - parsers) [])
    (begins : (shape : Shape) → 0 < shape.parsers → shape.processors ≡ length ins - parsers → state_is job shape (λ parser. []) (λ processor. []) [] state) where
  abbrev begun : WorkSeen
  begun = record { job = job; parsers = parsers; credits = credits; ins = ins; counts = counts; answers = answers; state = state; sink = sink; lent = lent; gained = [] }

  all_none : taken_off ins ≡ replicate (length ins) []
  all_none = sym (none_taken credits ins new_ins)

  wrote_none : have_ended (taken_off ins) ≡ false
  wrote_none = ap have_ended all_none ∙ not_ended (length ins) (omega (arith, links.0))

  -- as contracts see it
  pub is_new : merge_of begun None ≡ new_merge job parsers credits ins sink
  is_new = ap (λ all. record (new_merge job parsers credits ins sink) { wrote_all = all }) wrote_none

  standing : MergeStands (merge_of begun None)
  standing = subst MergeStands (sym is_new) (merge_starts job parsers credits ins sink job_is few.0 few.1 links.0 links.1 new_ins)

  none_on : (k : ℕ) → taken_on (taken_off ins) k ≡ []
  none_on k = ap (λ (l : List (List Frame)). taken_on l k) all_none ∙ none_here (length ins) k

  rests : rests_over job parsers (taken_off ins) []
  rests groupers =
      start_rests job (shape_by parsers (length (taken_off ins)) groupers) (taken_on (taken_off ins)) (λ q. taken_on (taken_off ins) (parsers + q)) (omega (arith, links.0, taken_long ins)) (λ k. none_on (parsers + k))

  holds : state_holds job parsers counts answers [] state
  holds =
      subst (λ (f : ℕ → List Frame). state_is job (record { parsers = parsers; groupers = 0; processors = length answers }) f (taken_on answers) [] state) (fun_ext (λ k. sym (ap (λ (l : List (List Frame)). taken_on l k) no_counts ∙ none_here parsers k)))
      (subst (λ (f : ℕ → List Frame). state_is job (record { parsers = parsers; groupers = 0; processors = length answers }) (λ parser. []) f [] state)
      (fun_ext (λ k. sym (ap (λ (l : List (List Frame)). taken_on l k) no_answers_yet ∙ none_here (length ins - parsers) k)))
      (begins (record { parsers = parsers; groupers = 0; processors = length answers }) few.0 (ap length no_answers_yet ∙ long_many (length ins - parsers) [])))

  sound : IsSound begun
  sound = record {
    job_is = job_is;
    parsers = few;
    processors = links;
    ins = standing.ins;
    quiet = standing.quiet refl;
    lawful = standing.lawful refl;
    apart = ap length no_counts ∙ long_many parsers [];
    orders =
        ap₂ (λ (xs ys : List (List Frame)). xs ++ ys) no_counts no_answers_yet
        ∙ many parsers (length ins - parsers) []
        ∙ ap (λ (n : ℕ). replicate n []) (omega (arith, links.0))
        ∙ none_taken credits ins new_ins;
    state = holds;
    keeps = λ groupers. record { gained = []; since = refl; due = λ ordered h. none_front (lines_due job (shape_by parsers (length (taken_off ins)) groupers) (taken_on (taken_off ins)) (λ q. taken_on (taken_off ins) (parsers + q)) ordered) };
  }

  pub new_node : NodeHolds begun None
  new_node = record { stands = standing; sound = λ none. sound; rests = λ none. rests_by begun None rests }
