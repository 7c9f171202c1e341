-- On one link more nothing was offered.
use Rattle.std.proofs.Common.{◌≡◌, ◌<◌, ◌≤◌, ◌+◌, ℕ, List, [], ◌∷◌, ◌++◌, length, get_or, ⊎_elim, ap, ◌∙◌, arith}
use Rattle.std.proofs.lemmas.List.{get_or_append_left, get_or_push, length_push}
use Rattle.credit_link.specs.Ends.{TxSeen}
use Rattle.shuffle_poll.proofs.Putting.{before_or_not}
use Rattle.shuffle_poll.proofs.tests.shuffles.add_link.Goals as goal

one_more : (links links' : List TxSeen) (tx : TxSeen) → links' ≡ links ++ tx ∷ [] → tx.offered ≡ [] → ((k : ℕ) (d : TxSeen) → k < length links → (get_or links k d).offered ≡ [])
    → (k : ℕ) (d : TxSeen) → k < length links' → (get_or links' k d).offered ≡ []
one_more links links' tx pushed none before k d there =
    ⊎_elim (λ (inside : k < length links). ap (λ (l : List TxSeen). (get_or l k d).offered) pushed ∙ ap (λ (t : TxSeen). t.offered) (get_or_append_left links (tx ∷ []) d k inside) ∙ before k d inside)
    (λ (behind : length links ≤ k).
    let long : length links' ≡ length links + 1 = ap (λ (l : List TxSeen). length l) pushed ∙ length_push links tx in
    let last : length links ≡ k = omega (arith, behind, there, long) in
    ap (λ (l : List TxSeen). (get_or l k d).offered) pushed ∙ ap (λ (t : TxSeen). t.offered) (get_or_push links tx d k last) ∙ none)
    (before_or_not k (length links))

pub returns-clause-none_offered : goal.returns-clause-none_offered
returns-clause-none_offered c k d there =
    one_more c.args.links.now.items c.push.new.self.items c.in_ok-tx.tx c.in-Ok.ensures.pushed (ap (λ (t : TxSeen). t.offered) c.in_ok-tx.ensures.fresh.sending) c.requires k d there
