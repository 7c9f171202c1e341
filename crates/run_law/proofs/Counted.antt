-- The lines of the captures.
use Rattle.std.proofs.Common.{ℕ, zero, suc, true, false, List, [], ◌∷◌, ◌++◌, ◌≡◌, ◌<◌, ◌≤◌, ◌+◌, Option, Some, None, inl, inr, refl, sym, ap, subst, ◌∙◌, ⊎_elim, arith, map, length, append_assoc, length-append, get_or}
use Rattle.std.specs.Prelude.{◌==◌}
use Rattle.std.specs.List.{range_with_len}
use Rattle.std.proofs.lemmas.Bool.{cases_Bool, eqb-true, eq-eqb}
use Rattle.std.proofs.lemmas.List.{append-nil}
use Rattle.answer_text.specs.Lines.{capture_text, end_text}
use Rattle.central_report.specs.Report.{accepted_from, counts_from, capture_texts}
use Rattle.ds_base.specs.Fronts.{IsIn}
use Rattle.ds_base.specs.Items.{Items}
use Rattle.ds_base.specs.declared.capture.Counts.{Counts}
use Rattle.key_select.specs.Fates.{accepted_of, counts_of}
use Rattle.node_frames.specs.declared.frame.Frame.{Frame}
use Rattle.node_frames.specs.declared.frame.Frame.TheVariants.{Item, Mark, CaptureEnd, GroupHead, Member, GroupMark, AnswerRow, Profile, CountsRow, Finish}
use Rattle.key_select.specs.Wanted.{good_of}
use Rattle.summary_spec.specs.Declaration.{Declared}
use Rattle.run_law.specs.Nodes.{capture_lines}
use Rattle.run_law.specs.Sent.{counts_in}
use Rattle.run_law.specs.Shapes.{IsFront}

-- the row of a capture, where it came, stands among the frames
pub counts_frame : (c : ℕ) (k : Counts) (frames : List Frame) → counts_in c frames ≡ Some k → IsIn (CountsRow c k) frames
counts_frame c k [] h = absurd (cc)
counts_frame c k (CountsRow d l ∷ fs) h =
    ⊎_elim
    (λ (t : (d == c) ≡ true).
    let here : Some l ≡ Some k = rw t at h in
    let same : l ≡ k = cc in
    inl (ap (λ (n : ℕ). CountsRow n k) (sym (eqb-true d c t)) ∙ ap (λ (z : Counts). CountsRow d z) (sym same)))
    (λ (f : (d == c) ≡ false).
    let later : counts_in c fs ≡ Some k = rw f at h in
    inr (counts_frame c k fs later))
    (cases_Bool (d == c))
counts_frame c k (Item s ∷ fs) h = inr (counts_frame c k fs h)
counts_frame c k (Mark d m ∷ fs) h = inr (counts_frame c k fs h)
counts_frame c k (CaptureEnd d ∷ fs) h = inr (counts_frame c k fs h)
counts_frame c k (GroupHead first members key ∷ fs) h = inr (counts_frame c k fs h)
counts_frame c k (Member at vals ∷ fs) h = inr (counts_frame c k fs h)
counts_frame c k (GroupMark m ∷ fs) h = inr (counts_frame c k fs h)
counts_frame c k (AnswerRow a ∷ fs) h = inr (counts_frame c k fs h)
counts_frame c k (Profile row ∷ fs) h = inr (counts_frame c k fs h)
counts_frame c k (Finish ∷ fs) h = inr (counts_frame c k fs h)

-- a capture whose row came has counts
pub row_counts : (c : ℕ) (k : Counts) (frames : List Frame) → IsIn (CountsRow c k) frames → counts_in c frames ≡ None → ⊥
row_counts c k [] there h = there
row_counts c k (CountsRow d l ∷ fs) (inl e) h =
    let same : c ≡ d = cc in
    let t : (d == c) ≡ true = eq-eqb d c (sym same) in
    let here : Some l ≡ None = rw t at h in
    cc
row_counts c k (CountsRow d l ∷ fs) (inr there) h =
    ⊎_elim
    (λ (t : (d == c) ≡ true).
    let here : Some l ≡ None = rw t at h in
    cc)
    (λ (f : (d == c) ≡ false).
    let later : counts_in c fs ≡ None = rw f at h in
    row_counts c k fs there later)
    (cases_Bool (d == c))
row_counts c k (Item s ∷ fs) (inl e) h = cc
row_counts c k (Item s ∷ fs) (inr there) h = row_counts c k fs there h
row_counts c k (Mark d m ∷ fs) (inl e) h = cc
row_counts c k (Mark d m ∷ fs) (inr there) h = row_counts c k fs there h
row_counts c k (CaptureEnd d ∷ fs) (inl e) h = cc
row_counts c k (CaptureEnd d ∷ fs) (inr there) h = row_counts c k fs there h
row_counts c k (GroupHead first members key ∷ fs) (inl e) h = cc
row_counts c k (GroupHead first members key ∷ fs) (inr there) h = row_counts c k fs there h
row_counts c k (Member at vals ∷ fs) (inl e) h = cc
row_counts c k (Member at vals ∷ fs) (inr there) h = row_counts c k fs there h
row_counts c k (GroupMark m ∷ fs) (inl e) h = cc
row_counts c k (GroupMark m ∷ fs) (inr there) h = row_counts c k fs there h
row_counts c k (AnswerRow a ∷ fs) (inl e) h = cc
row_counts c k (AnswerRow a ∷ fs) (inr there) h = row_counts c k fs there h
row_counts c k (Profile row ∷ fs) (inl e) h = cc
row_counts c k (Profile row ∷ fs) (inr there) h = row_counts c k fs there h
row_counts c k (Finish ∷ fs) (inl e) h = cc
row_counts c k (Finish ∷ fs) (inr there) h = row_counts c k fs there h

-- the counts of a file that is given with its capture, or none yet
abbrev IsGiven : Declared → (c : ℕ) → Option Counts → (bytes : List ℕ) → Type 0
IsGiven job c None bytes = Unit {0}
IsGiven job c (Some k) bytes = k ≡ counts_of job c (good_of job c bytes).records (good_of job c bytes).cut

-- the counts of the files from this capture on
abbrev pub AreGiven : Declared → (c : ℕ) → List (Option Counts) → (files : List (List ℕ)) → Type 0
AreGiven job c [] [] = Unit {0}
AreGiven job c [] (file ∷ files) = ⊥
AreGiven job c (k ∷ ks) [] = ⊥
AreGiven job c (k ∷ ks) (file ∷ files) = IsGiven job c k file × AreGiven job (c + 1) ks files

-- what all lines of the captures and the last one are
abbrev pub all_lines : List (Items ℕ) → (capture groups summaries : ℕ) → List Counts → (accepted : ℕ) → List ℕ
all_lines names c groups summaries counts more = capture_texts names c counts ++ end_text groups (summaries + more)

one_file : (job : Declared) (names : List (Items ℕ)) (c groups summaries : ℕ) (bytes : List ℕ) (files : List (List ℕ)) (rest : List ℕ)
    → all_lines names (c + 1) groups (summaries + length (accepted_of job c (good_of job c bytes).records)) (counts_from job (c + 1) files) (length (accepted_from job (c + 1) files)) ≡ rest
    → all_lines names c groups summaries (counts_from job c (bytes ∷ files)) (length (accepted_from job c (bytes ∷ files)))
    ≡ capture_text names c (counts_of job c (good_of job c bytes).records (good_of job c bytes).cut) ++ rest
one_file job names c groups summaries bytes files rest e =
    let first : List ℕ = capture_text names c (counts_of job c (good_of job c bytes).records (good_of job c bytes).cut) in
    let later : List ℕ = capture_texts names (c + 1) (counts_from job (c + 1) files) in
    let one : ℕ = length (accepted_of job c (good_of job c bytes).records) in
    let more : ℕ = length (accepted_from job (c + 1) files) in
    let sums : summaries + length (accepted_from job c (bytes ∷ files)) ≡ summaries + one + more =
    omega (arith, length-append (accepted_of job c (good_of job c bytes).records) (accepted_from job (c + 1) files)) in
    append_assoc first later (end_text groups (summaries + length (accepted_from job c (bytes ∷ files))))
    ∙ ap (λ (n : ℕ). first ++ (later ++ end_text groups n)) sums
    ∙ ap (λ (t : List ℕ). first ++ t) e

pub lines_front : (job : Declared) (names : List (Items ℕ)) (c groups summaries : ℕ) (ks : List (Option Counts)) (files : List (List ℕ)) → AreGiven job c ks files
    → IsFront (capture_lines names c groups summaries ks) (all_lines names c groups summaries (counts_from job c files) (length (accepted_from job c files)))
lines_front job names c groups summaries [] [] h =
    record { rest = []; joined = ap (λ (n : ℕ). end_text groups n) (omega arith) ∙ sym (append-nil (end_text groups summaries)) }
lines_front job names c groups summaries [] (file ∷ files) h = absurd h
lines_front job names c groups summaries (k ∷ ks) [] h = absurd h
lines_front job names c groups summaries (None ∷ ks) (file ∷ files) h =
    record { rest = all_lines names c groups summaries (counts_from job c (file ∷ files)) (length (accepted_from job c (file ∷ files))); joined = refl }
lines_front job names c groups summaries (Some k ∷ ks) (file ∷ files) h =
    let rest = lines_front job names (c + 1) groups (summaries + k.accepted) ks files h.1 in
    let first : List ℕ = capture_text names c k in
    let taken : k.accepted ≡ length (accepted_of job c (good_of job c file).records) = ap (λ (z : Counts). z.accepted) h.0 in
    record {
      rest = rest.rest;
      joined = one_file job names c groups summaries file files
          (capture_lines names (c + 1) groups (summaries + k.accepted) ks ++ rest.rest)
          (ap (λ (n : ℕ). all_lines names (c + 1) groups (summaries + n) (counts_from job (c + 1) files) (length (accepted_from job (c + 1) files))) (sym taken) ∙ rest.joined)
          ∙ ap (λ (z : Counts). capture_text names c z ++ (capture_lines names (c + 1) groups (summaries + k.accepted) ks ++ rest.rest)) (sym h.0)
          ∙ sym (append_assoc first (capture_lines names (c + 1) groups (summaries + k.accepted) ks) rest.rest);
    }

-- each capture has its counts
abbrev pub AreThere : List (Option Counts) → Type 0
AreThere [] = Unit {0}
AreThere (None ∷ ks) = ⊥
AreThere (Some k ∷ ks) = AreThere ks

pub lines_all : (job : Declared) (names : List (Items ℕ)) (c groups summaries : ℕ) (ks : List (Option Counts)) (files : List (List ℕ)) → AreGiven job c ks files → AreThere ks
    → capture_lines names c groups summaries ks ≡ all_lines names c groups summaries (counts_from job c files) (length (accepted_from job c files))
lines_all job names c groups summaries [] [] h there = ap (λ (n : ℕ). end_text groups n) (omega arith)
lines_all job names c groups summaries [] (file ∷ files) h there = absurd h
lines_all job names c groups summaries (k ∷ ks) [] h there = absurd h
lines_all job names c groups summaries (None ∷ ks) (file ∷ files) h there = absurd there
lines_all job names c groups summaries (Some k ∷ ks) (file ∷ files) h there =
    let rest = lines_all job names (c + 1) groups (summaries + k.accepted) ks files h.1 there in
    let taken : k.accepted ≡ length (accepted_of job c (good_of job c file).records) = ap (λ (z : Counts). z.accepted) h.0 in
    ap (λ (z : Counts). capture_text names c z ++ capture_lines names (c + 1) groups (summaries + k.accepted) ks) h.0
    ∙ sym (one_file job names c groups summaries file files (capture_lines names (c + 1) groups (summaries + k.accepted) ks)
    (ap (λ (n : ℕ). all_lines names (c + 1) groups (summaries + n) (counts_from job (c + 1) files) (length (accepted_from job (c + 1) files))) (sym taken) ∙ sym rest))

-- ---- the counts of all captures, by their numbers

pub given_from : (job : Declared) (find : ℕ → Option Counts) (a : ℕ) (files : List (List ℕ))
    → ((c : ℕ) (k : Counts) → c < length files → find (a + c) ≡ Some k → k ≡ counts_of job (a + c) (good_of job (a + c) (get_or files c [])).records (good_of job (a + c) (get_or files c [])).cut)
    → AreGiven job a (map find (range_with_len a (length files))) files
given_from job find a [] h = tt
given_from job find a (file ∷ files) h = (
  by_found (find a) refl,
  given_from job find (a + 1) files (λ c k less e. moved c k less e),
)
  where
    by_found : (o : Option Counts) → find a ≡ o → IsGiven job a (find a) file
    by_found None e = rw e tt
    by_found (Some k) e =
        let here : a + 0 ≡ a = omega arith in
        let own = h 0 k (omega arith) (ap find here ∙ e) in
        rw e (subst (λ (n : ℕ). k ≡ counts_of job n (good_of job n file).records (good_of job n file).cut) here own)

    moved : (c : ℕ) (k : Counts) → c < length files → find (a + 1 + c) ≡ Some k
        → k ≡ counts_of job (a + 1 + c) (good_of job (a + 1 + c) (get_or files c [])).records (good_of job (a + 1 + c) (get_or files c [])).cut
    moved c k less e =
        let place : a + suc c ≡ a + 1 + c = omega arith in
        subst (λ (n : ℕ). k ≡ counts_of job n (good_of job n (get_or files c [])).records (good_of job n (get_or files c [])).cut) place
        (h (suc c) k (omega arith) (ap find place ∙ e))

pub there_from : (find : ℕ → Option Counts) (a n : ℕ) → ((c : ℕ) → a ≤ c → c < a + n → find c ≡ None → ⊥) → AreThere (map find (range_with_len a n))
there_from find a zero h = tt
there_from find a (suc n) h = by_found (find a) refl (there_from find (a + 1) n (λ c low high. h c (omega arith) (omega arith)))
  where
    by_found : (o : Option Counts) → find a ≡ o → AreThere (map find (range_with_len (a + 1) n)) → AreThere (find a ∷ map find (range_with_len (a + 1) n))
    by_found None e rest = absurd (h a (omega arith) (omega arith) e)
    by_found (Some k) e rest = rw e rest
