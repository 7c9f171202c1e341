-- A new parser.
use Rattle.std.proofs.Common.{ℕ, ◌+◌, ◌≡◌, None, List, length, get_or, sym, ap, ◌∙◌, subst, arith}
use Rattle.ds_base.specs.Outside.{SourceSeen}
use Rattle.credit_link.specs.Ends.{TxSeen}
use Rattle.shuffle_poll.specs.Shuffles.{ShuffleSeen}
use Rattle.summary_spec.specs.Declaration.{Declared}
use Rattle.net_law.specs.Ends.{no_tx}
use Rattle.net_law.specs.Starts.{AreNewOuts, new_outs, new_parser}
use Rattle.parser_steps.specs.Seen.{StepsSeen, seen_of, new_steps}
use Rattle.parser_steps.specs.Holds.{ParserHolds}

module _ (job : Declared) (me parsers groupers : ℕ) (sources : List SourceSeen) (steps : StepsSeen) (outs : ShuffleSeen) (made : steps ≡ new_steps job me parsers groupers sources) (fresh : outs ≡ new_outs outs.links)
    (long : length outs.links ≡ groupers + 1) where
  pub new_holds : ((credits : ℕ) (links : List TxSeen) → length links ≡ groupers + 1 → AreNewOuts credits links → ParserHolds steps (new_outs links) None) → (credits : ℕ) × AreNewOuts credits outs.links
      → ParserHolds steps outs None
  new_holds holds are = subst (λ (o : ShuffleSeen). ParserHolds steps o None) (sym fresh) (holds are.0 outs.links long are.1)

  pub new_is : (credits : ℕ) → AreNewOuts credits outs.links → seen_of steps outs None ≡ new_parser job me parsers credits sources outs.links
  new_is credits are =
      let first : (get_or outs.links 0 no_tx).credits ≡ credits = (are.each 0 no_tx (omega (arith, long))).credits in
      ap (λ (s : StepsSeen). seen_of s outs None) made
      ∙ ap (λ (o : ShuffleSeen). record (seen_of (new_steps job me parsers groupers sources) outs None) { outs = o }) fresh
      ∙ ap (λ (n : ℕ). record (new_parser job me parsers credits sources outs.links) { credits = n }) first
