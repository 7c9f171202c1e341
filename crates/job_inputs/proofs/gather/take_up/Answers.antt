use Rattle.std.proofs.Common.{ℕ, List, ◌∷◌, ◌++◌, [], ◌≡◌, ◌∙◌, ap, sym, append_assoc}
use Rattle.std.proofs.lemmas.List.{append-nil}
use Rattle.std.specs.Prelude.{option_to_list}
use Rattle.ds_base.specs.declared.summary.Summary.{Summary}
use Rattle.key_select.specs.Fates.{accepted_after, accepted_of}
use Rattle.key_select.specs.declared.tally.Tally.{Tally}
use Rattle.key_select.specs.Tally.{Tallies}
use Rattle.key_select.proofs.Tallying.{accepted_parts}
use Rattle.pcap_reader.specs.Captured.{Captured}
use Rattle.pcap_reader.specs.Lent.{captured}
use Rattle.summary_spec.specs.Declaration.{Declared}
use Rattle.summary_spec.specs.Job.{declared_of}
use Rattle.job_inputs.specs.Gathering.{Collects}
use Rattle.job_inputs.proofs.gather.take_up.Goals as goal

-- a record more was taken up, and what is accepted of it went to the end of the list
collected : (job : Declared) (capture : ℕ) (tally : Tally) (start list longer more : List Summary) (taken : List Captured) (r : Captured)
    → list ≡ start ++ accepted_of job capture taken → Tallies job capture tally (taken ++ r ∷ []) → more ≡ accepted_after job capture taken (r ∷ [])
    → longer ≡ list ++ more → Collects job capture tally start longer (taken ++ r ∷ [])
collected job capture tally start list longer more taken r earlier tallies is put = record {
  tallies = tallies;
  accepted =
      put ∙ ap (λ ss. list ++ ss) is ∙ ap (λ ss. ss ++ accepted_after job capture taken (r ∷ [])) earlier
      ∙ append_assoc start (accepted_of job capture taken) (accepted_after job capture taken (r ∷ []))
      ∙ ap (λ ss. start ++ ss) (sym (accepted_parts job capture taken (r ∷ [])));
}

pub returns-in_default-clause-collects : goal.returns-in_default-clause-collects
returns-in_default-clause-collects c capture start taken h =
    let list = c.args.accepted.now.items in
    collected (declared_of c.args.job.now) capture _ start list _ [] taken (captured c.args.r.now) h.accepted
    (c.take_up.ensures.tallies capture taken h.tallies)
    (ap option_to_list (sym c.in_default.is) ∙ c.take_up.ensures.accepted capture taken h.tallies)
    (sym (append-nil list))

pub returns-clause-collects : goal.returns-clause-collects
returns-clause-collects c capture start taken h =
    collected (declared_of c.args.job.now) capture _ start c.args.accepted.now.items _ (c.in-Some.summary ∷ []) taken (captured c.args.r.now) h.accepted
    (c.take_up.ensures.tallies capture taken h.tallies)
    (ap option_to_list (sym c.in-Some.is) ∙ c.take_up.ensures.accepted capture taken h.tallies)
    c.in-Ok.ensures.pushed
