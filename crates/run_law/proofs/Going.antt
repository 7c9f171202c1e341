-- What the merge promises stands as more frames are taken.
use Rattle.std.proofs.Common.{ℕ, true, false, List, [], ◌∷◌, ◌++◌, ◌≡◌, ◌<◌, ◌≤◌, ◌+◌, ◌%◌, Option, Some, None, inl, inr, refl, sym, ap, subst, ◌∙◌, ⊎_elim, arith, map, length}
use Rattle.std.specs.Prelude.{flat_map, ◌==◌}
use Rattle.std.proofs.lemmas.Bool.{cases_Bool, both_ways}
use Rattle.std.proofs.lemmas.List.Sorted.{IsPermutation-sym}
use Rattle.answer_text.specs.Lines.{capture_text}
use Rattle.central_report.specs.Report.{names_of, row_texts}
use Rattle.ds_base.specs.Fronts.{IsIn, upto, onward, Falls}
use Rattle.ds_base.specs.Items.{Items}
use Rattle.ds_base.specs.Order.{Precedes}
use Rattle.ds_base.specs.declared.capture.Counts.{Counts}
use Rattle.ds_base.specs.declared.profile_row.ProfileRow.{ProfileRow}
use Rattle.ds_base.specs.declared.stamp.Stamp.{Stamp}
use Rattle.ds_base.specs.declared.verdict.Answer.{Answer}
use Rattle.ds_base.proofs.Fronts.{same_front}
use Rattle.node_frames.specs.declared.frame.Frame.{Frame}
use Rattle.node_frames.specs.declared.frame.Frame.TheVariants.{Item, Mark, CaptureEnd, GroupHead, Member, GroupMark, AnswerRow, Profile, CountsRow, Finish}
use Rattle.summary_spec.specs.Declaration.{Declared}
use Rattle.watermarks.specs.Least.{under}
use Rattle.watermarks.proofs.Lesser.{under_earlier}
use Rattle.run_law.specs.Laws.{MergeTakesMore, MergeKeepsOn}
use Rattle.run_law.specs.Links.{AreLawfulBehind, AnswerRule}
use Rattle.run_law.specs.Nodes.{below, answer_texts, answers_taken, least_of_links, AreInOrder, rows_added, rows_taken, capture_lines, counts_taken, lines_by, lines_due, MergeKeeps}
use Rattle.run_law.specs.Sent.{answer_in, answers_in, rows_in, counts_in, of_firsts, bound_in}
use Rattle.run_law.specs.Shapes.{Shape, IsFront}
use Rattle.run_law.proofs.Bounds.{not_under, under_below}
use Rattle.run_law.proofs.Lists.{in_left, in_either, in_flat, of_flat, flat-append, of_below, in_permutation, front_self, front_trans, upto_front}
use Rattle.run_law.proofs.More.{bound-append, bound_rises, least_rises, none_rises, upto_parts}
use Rattle.run_law.proofs.Parts.{IsPart, part_front, part_perm, part_trans, part_flat}
use Rattle.run_law.proofs.Sorted.{in_turn, same_in_turn, part_in_turn}
use Rattle.run_law.proofs.Standing.{answer_left_open, group_mark_left_open, lawful_rest, whole_with_end}
use Rattle.run_law.proofs.Starting.{none_front}
use Rattle.run_law.proofs.Written.{ended_links, upto_always, texts_front, front_more, front_behind}

-- ---- the rows of captures

counts_stay : (c : ℕ) (k : Counts) (xs ys : List Frame) → counts_in c xs ≡ Some k → counts_in c (xs ++ ys) ≡ Some k
counts_stay c k [] ys h = absurd (cc)
counts_stay c k (CountsRow d l ∷ fs) ys h =
    ⊎_elim
    (λ (t : (d == c) ≡ true). let here : Some l ≡ Some k = rw t at h in rw t here)
    (λ (f : (d == c) ≡ false). let later : counts_in c fs ≡ Some k = rw f at h in rw f (counts_stay c k fs ys later))
    (cases_Bool (d == c))
counts_stay c k (Item s ∷ fs) ys h = counts_stay c k fs ys h
counts_stay c k (Mark d m ∷ fs) ys h = counts_stay c k fs ys h
counts_stay c k (CaptureEnd d ∷ fs) ys h = counts_stay c k fs ys h
counts_stay c k (GroupHead first members key ∷ fs) ys h = counts_stay c k fs ys h
counts_stay c k (Member at vals ∷ fs) ys h = counts_stay c k fs ys h
counts_stay c k (GroupMark m ∷ fs) ys h = counts_stay c k fs ys h
counts_stay c k (AnswerRow a ∷ fs) ys h = counts_stay c k fs ys h
counts_stay c k (Profile row ∷ fs) ys h = counts_stay c k fs ys h
counts_stay c k (Finish ∷ fs) ys h = counts_stay c k fs ys h

-- each row that came is there
abbrev AreMore : List (Option Counts) → List (Option Counts) → Type 0
AreMore [] [] = Unit {0}
AreMore [] (l ∷ ls) = ⊥
AreMore (k ∷ ks) [] = ⊥
AreMore (None ∷ ks) (l ∷ ls) = AreMore ks ls
AreMore (Some k ∷ ks) (l ∷ ls) = (l ≡ Some k) × AreMore ks ls

more_counts_of : (f h : ℕ → Option Counts) (cs : List ℕ) → ((c : ℕ) (k : Counts) → f c ≡ Some k → h c ≡ Some k) → AreMore (map f cs) (map h cs)
more_counts_of f h [] stay = tt
more_counts_of f h (c ∷ cs) stay = by_found (f c) refl (more_counts_of f h cs stay)
  where
    by_found : (o : Option Counts) → f c ≡ o → AreMore (map f cs) (map h cs) → AreMore (f c ∷ map f cs) (h c ∷ map h cs)
    by_found None e rest = rw e rest
    by_found (Some k) e rest = rw e (stay c k e, rest)

lines_more : (names : List (Items ℕ)) (c groups summaries : ℕ) (ks ls : List (Option Counts)) → AreMore ks ls
    → IsFront (capture_lines names c groups summaries ks) (capture_lines names c groups summaries ls)
lines_more names c groups summaries [] [] h = front_self (capture_lines names c groups summaries [])
lines_more names c groups summaries [] (l ∷ ls) h = absurd h
lines_more names c groups summaries (k ∷ ks) [] h = absurd h
lines_more names c groups summaries (None ∷ ks) (l ∷ ls) h = none_front (capture_lines names c groups summaries (l ∷ ls))
lines_more names c groups summaries (Some k ∷ ks) (l ∷ ls) h =
    subst (λ (o : Option Counts). IsFront (capture_lines names c groups summaries (Some k ∷ ks)) (capture_lines names c groups summaries (o ∷ ls))) (sym h.0)
    (front_behind (capture_text names c k) (capture_lines names (c + 1) groups (summaries + k.accepted) ks) (capture_lines names (c + 1) groups (summaries + k.accepted) ls)
    (lines_more names (c + 1) groups (summaries + k.accepted) ks ls h.1))

-- ---- the same by each item

flat_same : {X : Type 0} (f h : ℕ → List X) (ks : List ℕ) → ((k : ℕ) → IsIn k ks → f k ≡ h k) → flat_map f ks ≡ flat_map h ks
flat_same f h [] same = refl
flat_same {X} f h (k ∷ ks) same =
    ap (λ (xs : List X). xs ++ flat_map f ks) (same k (inl refl)) ∙ ap (λ (xs : List X). h k ++ xs) (flat_same f h ks (λ j l. same j (inr l)))

map_same : {X : Type 0} (f h : ℕ → X) (ks : List ℕ) → ((k : ℕ) → IsIn k ks → f k ≡ h k) → map f ks ≡ map h ks
map_same f h [] same = refl
map_same {X} f h (k ∷ ks) same =
    ap (λ (x : X). x ∷ map f ks) (same k (inl refl)) ∙ ap (λ (xs : List X). h k ∷ xs) (map_same f h ks (λ j l. same j (inr l)))

module _ (job : Declared) (shape : Shape) (counts more_counts taken more : ℕ → List Frame) (some : 0 < shape.parsers)
    (takes : MergeTakesMore job shape counts more_counts taken more) where
  rest_lawful : (q : ℕ) → (hq : q < shape.processors) → AreLawfulBehind (AnswerRule job) (taken q) (takes.front q hq).rest
  rest_lawful q hq = lawful_rest (AnswerRule job) (taken q) (more q) (takes.front q hq) (takes.lawful q hq)

  rises : (t : ℕ) → under (least_of_links shape.processors taken) t ≡ true → under (least_of_links shape.processors more) t ≡ true
  rises t pass =
      least_rises (λ q. bound_in of_firsts (taken q)) (λ q. bound_in of_firsts (more q)) (below shape.processors) t
      (λ q l h.
      let hq : q < shape.processors = of_below shape.processors q l in
      let f = takes.front q hq in
      subst (λ fs. under (bound_in of_firsts fs) t ≡ true) (sym f.joined)
      (subst (λ (b : Option ℕ). under b t ≡ true) (sym (bound-append of_firsts (Some 0) (taken q) f.rest))
      (bound_rises (AnswerRule job) of_firsts (taken q) f.rest (bound_in of_firsts (taken q)) t refl (rest_lawful q hq) group_mark_left_open h)))
      pass

  abbrev old_answers : List Answer
  old_answers = answers_taken shape taken

  abbrev new_answers : List Answer
  new_answers = answers_taken shape more

  answers_more : (q : ℕ) → (hq : q < shape.processors) → answers_in (more q) ≡ answers_in (taken q) ++ answers_in (takes.front q hq).rest
  answers_more q hq = ap answers_in (takes.front q hq).joined ∙ flat-append answer_in (taken q) (takes.front q hq).rest

  old_part : IsPart (answers_taken shape taken) (answers_taken shape more)
  old_part =
      part_flat (λ q. answers_in (taken q)) (λ q. answers_in (more q)) (below shape.processors)
      (λ q l. let hq = of_below shape.processors q l in
      part_front (answers_in (taken q)) (answers_in (more q)) (record { rest = answers_in (takes.front q hq).rest; joined = answers_more q hq }))

  abbrev old_ordered : List Answer
  old_ordered = in_turn (λ (a : Answer). a.first) (answers_taken shape taken)

  module _ (ordered : List Answer) (h : AreInOrder (answers_taken shape more) ordered) where
    old_in_order : AreInOrder (answers_taken shape taken) old_ordered
    old_in_order = record {
      rises = part_in_turn (λ (a : Answer). a.first) (answers_taken shape taken) ordered
          (part_trans (answers_taken shape taken) (answers_taken shape more) ordered old_part (part_perm (answers_taken shape more) ordered h.same)) h.rises;
      same = same_in_turn (λ (a : Answer). a.first) (answers_taken shape taken);
    }

    same_upto : upto (λ a. under (least_of_links shape.processors taken) a.first.time) old_ordered ≡ upto (λ a. under (least_of_links shape.processors taken) a.first.time) ordered
    same_upto =
        same_front (λ (a : Answer). a.first) (λ a. under (least_of_links shape.processors taken) a.first.time) old_ordered ordered
        old_in_order.rises h.rises falls (λ a pass. (to a, back a pass))
      where
        no_later : (a b : Stamp) → Precedes a b → a.time ≤ b.time
        no_later a b k = grind arith

        falls : Falls (λ (a : Answer). a.first) (λ a. under (least_of_links shape.processors taken) a.first.time)
        falls a b before pass = under_earlier (least_of_links shape.processors taken) a.first.time b.first.time (no_later a.first b.first before) pass

        to : (a : Answer) → IsIn a old_ordered → IsIn a ordered
        to a there =
            in_permutation a (answers_taken shape more) ordered h.same
            (in_permutation a (answers_taken shape taken ++ old_part.others) (answers_taken shape more) old_part.same
            (in_left a (answers_taken shape taken) old_part.others
            (in_permutation a old_ordered (answers_taken shape taken) (IsPermutation-sym (answers_taken shape taken) old_ordered old_in_order.same) there)))

        back : (a : Answer) → under (least_of_links shape.processors taken) a.first.time ≡ true → IsIn a ordered → IsIn a old_ordered
        back a pass there =
            let from = of_flat (λ q. answers_in (more q)) a (below shape.processors)
            (in_permutation a ordered (answers_taken shape more) (IsPermutation-sym (answers_taken shape more) ordered h.same) there) in
            let q : ℕ = from.item in
            let hq = of_below shape.processors q from.there in
            in_permutation a (answers_taken shape taken) old_ordered old_in_order.same
            (⊎_elim
            (λ (early : IsIn a (answers_in (taken q))). in_flat (λ j. answers_in (taken j)) q a (below shape.processors) from.there early)
            (λ (late : IsIn a (answers_in (takes.front q hq).rest)).
            absurd (both_ways (under (least_of_links shape.processors taken) a.first.time)
            (under_below shape.processors q (λ j. bound_in of_firsts (taken j)) a.first.time hq
            (not_under of_firsts (taken q) a.first.time (answer_left_open (AnswerRule job) (taken q) (takes.front q hq).rest a (rest_lawful q hq) late))) pass))
            (in_either a (answers_in (taken q)) (answers_in (takes.front q hq).rest) (subst (λ ys. IsIn a ys) (answers_more q hq) from.is)))

    -- the answers below a mark are among the lines by any later bound
    front_by : (m : ℕ) (new : Option ℕ) → ((t : ℕ) → under (Some m) t ≡ true → under new t ≡ true)
        → IsFront (answer_texts job (upto (λ a. under (Some m) a.first.time) ordered)) (lines_by job shape new more_counts more ordered)
    front_by m (Some n) up =
        texts_front job (upto (λ a. under (Some m) a.first.time) ordered) (upto (λ a. under (Some n) a.first.time) ordered)
        (record {
          rest = upto (λ a. under (Some n) a.first.time) (onward (λ a. under (Some m) a.first.time) ordered);
          joined = upto_parts (λ a. under (Some m) a.first.time) (λ a. under (Some n) a.first.time) ordered (λ a pass. up a.first.time pass);
        })
    front_by m None up =
        front_more (answer_texts job (upto (λ a. under (Some m) a.first.time) ordered))
        (answer_texts job ordered ++ row_texts (names_of job) (rows_taken shape more))
        (capture_lines (names_of job) 0 (length ordered) 0 (counts_taken job shape more_counts))
        (front_more (answer_texts job (upto (λ a. under (Some m) a.first.time) ordered)) (answer_texts job ordered) (row_texts (names_of job) (rows_taken shape more))
        (texts_front job (upto (λ a. under (Some m) a.first.time) ordered) ordered (upto_front (λ a. under (Some m) a.first.time) ordered)))

    -- once all have finished nothing more comes but rows of captures
    all_same : least_of_links shape.processors taken ≡ None → (q : ℕ) → q < shape.processors → taken q ≡ more q
    all_same none q hq = whole_with_end (AnswerRule job) (taken q) (more q) (takes.front q hq) (takes.lawful q hq) (ended_links shape.processors taken q hq none)

    by_old : (old : Option ℕ) → least_of_links shape.processors taken ≡ old
        → IsFront (lines_by job shape old counts taken old_ordered) (lines_due job shape more_counts more ordered)
    by_old (Some m) e =
        let same : upto (λ a. under (Some m) a.first.time) old_ordered ≡ upto (λ a. under (Some m) a.first.time) ordered =
        subst (λ (b : Option ℕ). upto (λ a. under b a.first.time) old_ordered ≡ upto (λ a. under b a.first.time) ordered) e same_upto in
        subst (λ xs. IsFront (answer_texts job xs) (lines_due job shape more_counts more ordered)) (sym same)
        (front_by m (least_of_links shape.processors more) (λ t pass. rises t (subst (λ (b : Option ℕ). under b t ≡ true) (sym e) pass)))
    by_old None e =
        let same : old_ordered ≡ ordered =
        sym (upto_always (λ a. under None a.first.time) old_ordered (λ a. refl))
        ∙ subst (λ (b : Option ℕ). upto (λ a. under b a.first.time) old_ordered ≡ upto (λ a. under b a.first.time) ordered) e same_upto
        ∙ upto_always (λ a. under None a.first.time) ordered (λ a. refl) in
        let rows : rows_taken shape taken ≡ rows_taken shape more =
        ap rows_added (map_same (λ q. rows_in (taken q)) (λ q. rows_in (more q)) (below shape.processors) (λ q l. ap rows_in (all_same e q (of_below shape.processors q l)))) in
        let none : least_of_links shape.processors more ≡ None = none_rises (least_of_links shape.processors taken) (least_of_links shape.processors more) rises e in
        let captures : IsFront (capture_lines (names_of job) 0 (length ordered) 0 (counts_taken job shape counts)) (capture_lines (names_of job) 0 (length ordered) 0 (counts_taken job shape more_counts)) =
        lines_more (names_of job) 0 (length ordered) 0 (counts_taken job shape counts) (counts_taken job shape more_counts)
        (more_counts_of (λ c. counts_in c (counts (c % shape.parsers))) (λ c. counts_in c (more_counts (c % shape.parsers))) (below (length job.captures))
        (λ c k found.
        let hp : c % shape.parsers < shape.parsers = omega arith in
        let f = takes.counts_front (c % shape.parsers) hp in
        ap (counts_in c) f.joined ∙ counts_stay c k (counts (c % shape.parsers)) f.rest found)) in
        subst (λ (b : Option ℕ). IsFront (lines_by job shape None counts taken old_ordered) (lines_by job shape b more_counts more ordered)) (sym none)
        (subst (λ (xs : List Answer). IsFront (lines_by job shape None counts taken xs) (lines_by job shape None more_counts more ordered)) (sym same)
        (subst (λ (rs : List ProfileRow). IsFront
        (answer_texts job ordered ++ row_texts (names_of job) rs ++ capture_lines (names_of job) 0 (length ordered) 0 (counts_taken job shape counts))
        (lines_by job shape None more_counts more ordered)) (sym rows)
        (front_behind (answer_texts job ordered ++ row_texts (names_of job) (rows_taken shape more))
        (capture_lines (names_of job) 0 (length ordered) 0 (counts_taken job shape counts))
        (capture_lines (names_of job) 0 (length ordered) 0 (counts_taken job shape more_counts)) captures)))

  pub keeps_on : (start written : List ℕ) → MergeKeeps job shape counts taken start written → MergeKeeps job shape more_counts more start written
  keeps_on start written kept = record {
    gained = kept.gained;
    since = kept.since;
    due = λ ordered h. front_trans kept.gained (lines_due job shape counts taken old_ordered) (lines_due job shape more_counts more ordered)
        (kept.due old_ordered (old_in_order ordered h)) (by_old ordered h (least_of_links shape.processors taken) refl);
  }

pub merge_keeps_on : MergeKeepsOn
merge_keeps_on job shape counts more_counts taken more start written some takes kept =
    keeps_on job shape counts more_counts taken more some takes start written kept
