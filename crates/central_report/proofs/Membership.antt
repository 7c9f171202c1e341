-- What is in the list of accepted summaries is accepted of a capture, and the other way round.
use Rattle.std.proofs.Common.{ℕ, zero, suc, Bool, true, false, cond, List, [], ◌∷◌, ◌++◌, ◌≡◌, ◌⊎◌, ◌+◌, ◌∙◌, Some, inl, inr, refl, sym, ap, subst, ⊎_elim, arith}
use Rattle.std.specs.Prelude.{slice_get}
use Rattle.ds_base.specs.Fronts.{IsIn, upto, PrecedesEach, InOrder}
use Rattle.ds_base.specs.Order.{PrecedesAll, InStampOrder}
use Rattle.ds_base.specs.declared.stamp.Stamp.{Stamp}
use Rattle.ds_base.specs.declared.summary.Summary.{Summary}
use Rattle.ds_base.proofs.Fronts.{same_front}
use Rattle.key_select.specs.Fates.{accepted_of}
use Rattle.key_select.specs.Wanted.{good_of}
use Rattle.summary_spec.specs.Declaration.{Declared}
use Rattle.window_grouper.specs.Sorted.{by_stamp, insert_by_stamp, is_before}
use Rattle.window_grouper.proofs.Insertion.{one_order}
use Rattle.central_report.specs.Laws.{IsAcceptedIn, IsAllAccepted, AcceptedIsAll}
use Rattle.central_report.specs.Report.{accepted_from, accepted}
use Rattle.central_report.proofs.Accepted.{accepted_reportable}

-- ---- joined lists

in_left : (s : Summary) (xs ys : List Summary) → IsIn s xs → IsIn s (xs ++ ys)
in_left s [] ys h = absurd h
in_left s (x ∷ xs) ys (inl e) = inl e
in_left s (x ∷ xs) ys (inr l) = inr (in_left s xs ys l)

in_right : (s : Summary) (xs ys : List Summary) → IsIn s ys → IsIn s (xs ++ ys)
in_right s [] ys h = h
in_right s (x ∷ xs) ys h = inr (in_right s xs ys h)

in_either : (s : Summary) (xs ys : List Summary) → IsIn s (xs ++ ys) → IsIn s xs ⊎ IsIn s ys
in_either s [] ys h = inr h
in_either s (x ∷ xs) ys (inl e) = inl (inl e)
in_either s (x ∷ xs) ys (inr l) = ⊎_elim (λ (m : IsIn s xs). inl (inr m)) (λ (m : IsIn s ys). inr m) (in_either s xs ys l)

-- ---- the list in the order of its stamps

in_placed : (b : Bool) (z s x : Summary) (xs ys : List Summary) → (IsIn z (s ∷ xs) → IsIn z ys) → IsIn z (s ∷ x ∷ xs) → IsIn z (cond b (s ∷ x ∷ xs) (x ∷ ys))
in_placed true z s x xs ys later h = h
in_placed false z s x xs ys later (inl e) = inr (later (inl e))
in_placed false z s x xs ys later (inr (inl e)) = inl e
in_placed false z s x xs ys later (inr (inr l)) = inr (later (inr l))

of_placed : (b : Bool) (z s x : Summary) (xs ys : List Summary) → (IsIn z ys → IsIn z (s ∷ xs)) → IsIn z (cond b (s ∷ x ∷ xs) (x ∷ ys)) → IsIn z (s ∷ x ∷ xs)
of_placed true z s x xs ys earlier h = h
of_placed false z s x xs ys earlier (inl e) = inr (inl e)
of_placed false z s x xs ys earlier (inr l) = ⊎_elim (λ (e : z ≡ s). inl e) (λ (m : IsIn z xs). inr (inr m)) (earlier l)

in_inserted : (z s : Summary) (ss : List Summary) → IsIn z (s ∷ ss) → IsIn z (insert_by_stamp s ss)
in_inserted z s [] h = h
in_inserted z s (x ∷ xs) h = in_placed (is_before s.at x.at) z s x xs (insert_by_stamp s xs) (in_inserted z s xs) h

of_inserted : (z s : Summary) (ss : List Summary) → IsIn z (insert_by_stamp s ss) → IsIn z (s ∷ ss)
of_inserted z s [] h = h
of_inserted z s (x ∷ xs) h = of_placed (is_before s.at x.at) z s x xs (insert_by_stamp s xs) (of_inserted z s xs) h

in_sorted : (z : Summary) (ss : List Summary) → IsIn z ss → IsIn z (by_stamp ss)
in_sorted z [] h = h
in_sorted z (s ∷ ss) (inl e) = in_inserted z s (by_stamp ss) (inl e)
in_sorted z (s ∷ ss) (inr l) = in_inserted z s (by_stamp ss) (inr (in_sorted z ss l))

of_sorted : (z : Summary) (ss : List Summary) → IsIn z (by_stamp ss) → IsIn z ss
of_sorted z [] h = h
of_sorted z (s ∷ ss) h = ⊎_elim (λ (e : z ≡ s). inl e) (λ (l : IsIn z (by_stamp ss)). inr (of_sorted z ss l)) (of_inserted z s (by_stamp ss) h)

-- ---- of which capture

-- the summary is accepted of one of these files, of which the first is that of this capture
record IsFrom (job : Declared) (capture : ℕ) (files : List (List ℕ)) (s : Summary) : Type 0 where
  at : ℕ
  bytes : List ℕ
  file : slice_get files at ≡ Some bytes
  accepted : IsIn s (accepted_of job (capture + at) (good_of job (capture + at) bytes).records)

-- whichever number the capture is given by
renumbered : (job : Declared) (a b : ℕ) (bytes : List ℕ) (s : Summary) → a ≡ b → IsIn s (accepted_of job a (good_of job a bytes).records)
    → IsIn s (accepted_of job b (good_of job b bytes).records)
renumbered job a b bytes s e h = subst (λ (n : ℕ). IsIn s (accepted_of job n (good_of job n bytes).records)) e h

every_from : (job : Declared) (capture : ℕ) (files : List (List ℕ)) (at : ℕ) (bytes : List ℕ) (s : Summary) → slice_get files at ≡ Some bytes
    → IsIn s (accepted_of job (capture + at) (good_of job (capture + at) bytes).records) → IsIn s (accepted_from job capture files)
every_from job capture [] at bytes s here h = cc
every_from job capture (file ∷ files) zero bytes s here h =
    let same : bytes ≡ file = cc in
    let mine = subst (λ (xs : List ℕ). IsIn s (accepted_of job (capture + 0) (good_of job (capture + 0) xs).records)) same h in
    in_left s (accepted_of job capture (good_of job capture file).records) (accepted_from job (capture + 1) files)
    (renumbered job (capture + 0) capture file s (omega arith) mine)
every_from job capture (file ∷ files) (suc at) bytes s here h =
    in_right s (accepted_of job capture (good_of job capture file).records) (accepted_from job (capture + 1) files)
    (every_from job (capture + 1) files at bytes s here (renumbered job (capture + suc at) (capture + 1 + at) bytes s (omega arith) h))

only_from : (job : Declared) (capture : ℕ) (files : List (List ℕ)) (s : Summary) → IsIn s (accepted_from job capture files) → IsFrom job capture files s
only_from job capture [] s h = absurd h
only_from job capture (file ∷ files) s h =
    ⊎_elim
    (λ (mine : IsIn s (accepted_of job capture (good_of job capture file).records)).
    let from : IsFrom job capture (file ∷ files) s = record {
      at = 0;
      bytes = file;
      file = refl;
      accepted = renumbered job capture (capture + 0) file s (omega arith) mine;
    } in
    from)
    (λ (later : IsIn s (accepted_from job (capture + 1) files)).
    let rest = only_from job (capture + 1) files s later in
    let from : IsFrom job capture (file ∷ files) s = record {
      at = suc rest.at;
      bytes = rest.bytes;
      file = rest.file;
      accepted = renumbered job (capture + 1 + rest.at) (capture + suc rest.at) rest.bytes s (omega arith) rest.accepted;
    } in
    from)
    (in_either s (accepted_of job capture (good_of job capture file).records) (accepted_from job (capture + 1) files) h)

in_list : (job : Declared) (files : List (List ℕ)) (s : Summary) → IsAcceptedIn job files s → IsIn s (accepted job files)
in_list job files s h =
    in_sorted s (accepted_from job 0 files)
    (every_from job 0 files h.capture h.bytes s h.file (renumbered job h.capture (0 + h.capture) h.bytes s (omega arith) h.accepted))

of_list : (job : Declared) (files : List (List ℕ)) (s : Summary) → IsIn s (accepted job files) → IsAcceptedIn job files s
of_list job files s h =
    let from = only_from job 0 files s (of_sorted s (accepted_from job 0 files) h) in
    record {
      capture = from.at;
      bytes = from.bytes;
      file = from.file;
      accepted = renumbered job (0 + from.at) from.at from.bytes s (omega arith) from.accepted;
    }

-- ---- no other list

precedes_each : (at : Stamp) (ss : List Summary) → PrecedesAll at ss → PrecedesEach (λ (s : Summary). s.at) at ss
precedes_each at [] h = tt
precedes_each at (s ∷ ss) h = (h.0, precedes_each at ss h.1)

in_order : (ss : List Summary) → InStampOrder ss → InOrder (λ (s : Summary). s.at) ss
in_order [] h = tt
in_order (s ∷ ss) h = (precedes_each s.at ss h.0, in_order ss h.1)

-- the front of what always passes is the list
all_upto : (ss : List Summary) → upto (λ s. true) ss ≡ ss
all_upto [] = refl
all_upto (s ∷ ss) = ap (λ xs. s ∷ xs) (all_upto ss)

same_list : (xs ys : List Summary) → InStampOrder xs → InStampOrder ys → ((s : Summary) → IsIn s xs → IsIn s ys) → ((s : Summary) → IsIn s ys → IsIn s xs) → xs ≡ ys
same_list xs ys hx hy there back =
    sym (all_upto xs)
    ∙ same_front (λ (s : Summary). s.at) (λ s. true) xs ys (in_order xs hx) (in_order ys hy) (λ a b before pass. refl) (λ s pass. (there s, back s))
    ∙ all_upto ys

all_accepted : (job : Declared) (files : List (List ℕ)) → InStampOrder (accepted job files) → IsAllAccepted job files (accepted job files)
all_accepted job files ordered = record { ordered = ordered; every = in_list job files; only = of_list job files }

pub accepted_is_all : AcceptedIsAll
accepted_is_all job files lawful some =
    let ordered : InStampOrder (accepted job files) = (one_order (accepted_from job 0 files) (accepted_reportable job files lawful some).differ).0.ordered in (
      all_accepted job files ordered,
      λ list h. same_list list (accepted job files) h.ordered ordered
          (λ s there. in_list job files s (h.only s there)) (λ s there. h.every s (of_list job files s there)),
    )
