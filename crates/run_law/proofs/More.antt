-- What a grouper promises stands as more frames are taken.
use Rattle.std.proofs.Common.{ℕ, Bool, true, false, List, [], ◌∷◌, ◌++◌, ◌≡◌, ◌<◌, ◌≤◌, ◌+◌, ◌%◌, Option, Some, None, inl, inr, refl, sym, ap, subst, ◌∙◌, ⊎_elim, arith, map, length}
use Rattle.std.specs.Prelude.{flat_map, ◌↔◌}
use Rattle.std.specs.List.{AllByRecursion}
use Rattle.std.proofs.lemmas.Bool.{cases_Bool, both_ways, ltb-true, lt-ltb, cases_lt}
use Rattle.std.proofs.lemmas.Bool.Decides.{nat_tests}
use Rattle.std.proofs.lemmas.List.Sorted.{IsPermutation-sym}
use Rattle.ds_base.specs.Copies.{Copies}
use Rattle.ds_base.specs.Fronts.{IsIn, upto, onward}
use Rattle.ds_base.specs.Order.{InStampOrder}
use Rattle.ds_base.specs.declared.summary.Summary.{Summary}
use Rattle.ds_base.proofs.Fronts.{parted}
use Rattle.node_frames.specs.declared.frame.Frame.{Frame}
use Rattle.summary_spec.specs.Declaration.{Declared}
use Rattle.watermarks.specs.Least.{lesser, least_mark, under}
use Rattle.watermarks.proofs.Lesser.{under_earlier}
use Rattle.window_grouper.specs.Closed.{is_closed, ends_by}
use Rattle.window_grouper.specs.Groups.{groups_of}
use Rattle.window_grouper.specs.Sorted.{by_stamp}
use Rattle.window_grouper.proofs.Insertion.{same-by_stamp}
use Rattle.window_grouper.proofs.Members.{all_grouped}
use Rattle.run_law.specs.Laws.{GrouperKeepsOn, TakesMore}
use Rattle.run_law.specs.Links.{Permits, AreLawfulBehind, ItemRule, AreLawfulItems}
use Rattle.run_law.specs.Nodes.{below, summaries_taken, least_of_captures, groups_closed, began, GrouperKeeps}
use Rattle.run_law.specs.Sent.{Saying, item_in, items_in, of_items, IsLeftOpen, bound_after, bound_behind, bound_in}
use Rattle.run_law.specs.Shapes.{Shape, dealt}
use Rattle.run_law.proofs.Bounds.{not_under, under_below, mark_from}
use Rattle.run_law.proofs.Lists.{in_left, in_either, in_front, in_flat, of_flat, flat-append, of_below, in_permutation, front_trans, dealt_parts}
use Rattle.run_law.proofs.Ordered.{groups_ordered, not_closed}
use Rattle.run_law.proofs.Sharded.{closed_same, held_in_order, item_of}
use Rattle.run_law.proofs.Standing.{item_left_open, mark_left_open, lawful_front, lawful_rest}

-- ---- bounds that do not fall

pub bound-append : (says : Frame → Saying) (b : Option ℕ) (xs ys : List Frame) → bound_behind says b (xs ++ ys) ≡ bound_behind says (bound_behind says b xs) ys
bound-append says b [] ys = refl
bound-append says b (x ∷ xs) ys = bound-append says (bound_after b (says x)) xs ys

-- the bound after one frame more, whose mark, if it has one, is not below the bound
after_rises : (b : Option ℕ) (saying : Saying) (t : ℕ) → ((mark : ℕ) → saying ≡ Some (Some mark) → under b mark ≡ false) → under b t ≡ true
    → under (bound_after b saying) t ≡ true
after_rises None saying t h pass = refl
after_rises (Some m) None t h pass = pass
after_rises (Some m) (Some None) t h pass = refl
after_rises (Some m) (Some (Some v)) t h pass = let late : under (Some m) v ≡ false = h v refl in grind (arith, nat_tests)

-- along frames each of whose marks is left open by those before it
pub bound_rises : (Own : List Frame → Frame → Type 0) (says : Frame → Saying) (before rest : List Frame) (b : Option ℕ) (t : ℕ) → b ≡ bound_in says before
    → AreLawfulBehind Own before rest
    → ((f : Frame) (mark : ℕ) (front : List Frame) → says f ≡ Some (Some mark) → AllByRecursion (λ earlier. Permits earlier f) front → IsLeftOpen says front mark)
    → under b t ≡ true → under (bound_behind says b rest) t ≡ true
bound_rises Own says before [] b t e lawful opens pass = pass
bound_rises Own says before (f ∷ fs) b t e lawful opens pass =
    let late : (mark : ℕ) → says f ≡ Some (Some mark) → under b mark ≡ false =
    λ mark is. ap (λ (o : Option ℕ). under o mark) e ∙ not_under says before mark (opens f mark before is lawful.0.permitted) in
    let next : bound_after b (says f) ≡ bound_in says (before ++ f ∷ []) =
    ap (λ (o : Option ℕ). bound_after o (says f)) e ∙ sym (bound-append says (Some 0) before (f ∷ [])) in
    bound_rises Own says (before ++ f ∷ []) fs (bound_after b (says f)) t next lawful.1 opens (after_rises b (says f) t late pass)

under_both : (a b a' b' : Option ℕ) (t : ℕ) → (under a t ≡ true → under a' t ≡ true) → (under b t ≡ true → under b' t ≡ true)
    → under (lesser a b) t ≡ true → under (lesser a' b') t ≡ true
under_both a b a' b' t f g h =
    let parts = under_parts a b t h in
    under_joined a' b' t (f parts.0) (g parts.1)
  where
    under_parts : (a b : Option ℕ) (t : ℕ) → under (lesser a b) t ≡ true → (under a t ≡ true) × (under b t ≡ true)
    under_parts None b t h = (refl, h)
    under_parts (Some m) None t h = (h, refl)
    under_parts (Some m) (Some n) t h = (grind (arith, nat_tests), grind (arith, nat_tests))

    under_joined : (a b : Option ℕ) (t : ℕ) → under a t ≡ true → under b t ≡ true → under (lesser a b) t ≡ true
    under_joined None b t h k = k
    under_joined (Some m) None t h k = h
    under_joined (Some m) (Some n) t h k = grind (arith, nat_tests)

pub least_rises : (f h : ℕ → Option ℕ) (ks : List ℕ) (t : ℕ) → ((k : ℕ) → IsIn k ks → under (f k) t ≡ true → under (h k) t ≡ true)
    → under (least_mark (map f ks)) t ≡ true → under (least_mark (map h ks)) t ≡ true
least_rises f h [] t each pass = refl
least_rises f h (k ∷ ks) t each pass =
    under_both (f k) (least_mark (map f ks)) (h k) (least_mark (map h ks)) t (each k (inl refl)) (least_rises f h ks t (λ j l. each j (inr l))) pass

-- a bound that does not fall: what it says of marks
pub mark_rises : (old new : Option ℕ) (m : ℕ) → ((t : ℕ) → under old t ≡ true → under new t ≡ true) → new ≡ Some m → (l : ℕ) × (old ≡ Some l) × (l ≤ m)
mark_rises None new m rises e = absurd (let up : under new m ≡ true = rises m refl in let no : under (Some m) m ≡ true = subst (λ (b : Option ℕ). under b m ≡ true) e up in
    (let less = ltb-true m m no in omega (arith, less)))
mark_rises (Some l) new m rises e =
    ⊎_elim
    (λ (less : m < l).
    absurd (let up : under new m ≡ true = rises m (lt-ltb m l less) in
    let no : under (Some m) m ≡ true = subst (λ (b : Option ℕ). under b m ≡ true) e up in
    (let below = ltb-true m m no in omega (arith, below))))
    (λ (le : l ≤ m). (l, refl, le))
    (cases_lt m l)

pub none_rises : (old new : Option ℕ) → ((t : ℕ) → under old t ≡ true → under new t ≡ true) → old ≡ None → new ≡ None
none_rises old None rises e = refl
none_rises old (Some m) rises e =
    absurd (let l = mark_rises old (Some m) m rises refl in let is = l.1 in cc)

-- ---- fronts by two tests

pub upto_parts : {X : Type 0} (p q : X → Bool) (xs : List X) → ((x : X) → p x ≡ true → q x ≡ true) → upto q xs ≡ upto p xs ++ upto q (onward p xs)
upto_parts p q [] more = refl
upto_parts {X} p q (x ∷ xs) more =
    ⊎_elim
    (λ (t : p x ≡ true).
    let also : q x ≡ true = more x t in
    rw (t, also) (ap (λ (ys : List X). x ∷ ys) (upto_parts p q xs more)))
    (λ (f : p x ≡ false). rw f refl)
    (cases_Bool (p x))

in_upto : {X : Type 0} (p : X → Bool) (x : X) (xs : List X) → IsIn x (upto p xs) → IsIn x xs
in_upto p x xs h = in_front x (upto p xs) xs (record { rest = onward p xs; joined = sym (parted p xs).joined }) h

-- ---- the grouper

module _ (job : Declared) (shape : Shape) (g : ℕ) (taken more : ℕ → List Frame) (some : 0 < shape.parsers) (takes : TakesMore job shape g taken more) where
  rest_lawful : (p : ℕ) → (hp : p < shape.parsers) → AreLawfulBehind (ItemRule job shape p g) (taken p) (takes.front p hp).rest
  rest_lawful p hp = lawful_rest (ItemRule job shape p g) (taken p) (more p) (takes.front p hp) (takes.lawful p hp)

  old_lawful : (p : ℕ) → p < shape.parsers → AreLawfulItems job shape p g (taken p)
  old_lawful p hp = lawful_front (ItemRule job shape p g) (taken p) (more p) (takes.front p hp) (takes.lawful p hp)

  abbrev old_bound : Option ℕ
  old_bound = least_of_captures job shape taken

  abbrev new_bound : Option ℕ
  new_bound = least_of_captures job shape more

  -- the least mark does not fall
  rises : (t : ℕ) → under (least_of_captures job shape taken) t ≡ true → under (least_of_captures job shape more) t ≡ true
  rises t pass =
      least_rises (λ c. bound_in (of_items c) (taken (c % shape.parsers))) (λ c. bound_in (of_items c) (more (c % shape.parsers)))
      (below (length job.captures)) t
      (λ c l h.
      let p : ℕ = c % shape.parsers in
      let hp : p < shape.parsers = omega arith in
      let f = takes.front p hp in
      subst (λ fs. under (bound_in (of_items c) fs) t ≡ true) (sym f.joined)
      (subst (λ (b : Option ℕ). under b t ≡ true) (sym (bound-append (of_items c) (Some 0) (taken p) f.rest))
      (bound_rises (ItemRule job shape p g) (of_items c) (taken p) f.rest (bound_in (of_items c) (taken p)) t refl (rest_lawful p hp) (mark_left_open c) h)))
      pass

  abbrev came : (ℕ → List Frame) → List Summary
  came frames = flat_map (λ p. items_in (frames p)) (below shape.parsers)

  -- below the old bound nothing came
  same_below : (s : Summary) → under (least_of_captures job shape taken) s.at.time ≡ true → IsIn s (summaries_taken shape more) ↔ IsIn s (summaries_taken shape taken)
  same_below s pass = (back, to)
    where
      in_old : (p : ℕ) → (hp : p < shape.parsers) → IsIn s (items_in (more p)) → IsIn s (items_in (taken p))
      in_old p hp h =
          let f = takes.front p hp in
          ⊎_elim
          (λ (early : IsIn s (items_in (taken p))). early)
          (λ (late : IsIn s (items_in f.rest)).
          let own = (item_of job shape p g (more p) s (takes.lawful p hp) h).capture in
          let o = item_left_open (ItemRule job shape p g) (taken p) f.rest s (rest_lawful p hp) late in
          let c : ℕ = s.at.capture in
          absurd (both_ways (under (least_of_captures job shape taken) s.at.time)
          (under_below (length job.captures) c (λ d. bound_in (of_items d) (taken (d % shape.parsers))) s.at.time own.0
          (not_under (of_items c) (taken (c % shape.parsers)) s.at.time (subst (λ (k : ℕ). IsLeftOpen (of_items c) (taken k) s.at.time) (sym own.1) o))) pass))
          (in_either s (items_in (taken p)) (items_in f.rest) (subst (λ ss. IsIn s ss) (ap items_in f.joined ∙ flat-append item_in (taken p) f.rest) h))

      back : IsIn s (by_stamp (came more)) → IsIn s (by_stamp (came taken))
      back h =
          let from = of_flat (λ p. items_in (more p)) s (below shape.parsers)
          (in_permutation s (by_stamp (came more)) (came more) (IsPermutation-sym (came more) (by_stamp (came more)) (same-by_stamp (came more))) h) in
          let hp = of_below shape.parsers from.item from.there in
          in_permutation s (came taken) (by_stamp (came taken)) (same-by_stamp (came taken))
          (in_flat (λ p. items_in (taken p)) from.item s (below shape.parsers) from.there (in_old from.item hp from.is))

      to : IsIn s (by_stamp (came taken)) → IsIn s (by_stamp (came more))
      to h =
          let from = of_flat (λ p. items_in (taken p)) s (below shape.parsers)
          (in_permutation s (by_stamp (came taken)) (came taken) (IsPermutation-sym (came taken) (by_stamp (came taken)) (same-by_stamp (came taken))) h) in
          let hp = of_below shape.parsers from.item from.there in
          let f = takes.front from.item hp in
          in_permutation s (came more) (by_stamp (came more)) (same-by_stamp (came more))
          (in_flat (λ p. items_in (more p)) from.item s (below shape.parsers) from.there
          (subst (λ ss. IsIn s ss) (sym (ap items_in f.joined ∙ flat-append item_in (taken from.item) f.rest))
          (in_left s (items_in (taken from.item)) (items_in f.rest) from.is)))

  new_order : InStampOrder (summaries_taken shape more)
  new_order = held_in_order job shape g more takes.lawful

  old_order : InStampOrder (summaries_taken shape taken)
  old_order = held_in_order job shape g taken old_lawful

  abbrev by_old : Copies → Bool
  by_old = is_closed (under (least_of_captures job shape taken)) job.window

  abbrev by_new : Copies → Bool
  by_new = is_closed (under (least_of_captures job shape more)) job.window

  abbrev new_groups : List Copies
  new_groups = groups_of job.window (summaries_taken shape more)

  -- the groups that were closed
  old_closed : upto by_old new_groups ≡ groups_closed job shape taken
  old_closed = closed_same (least_of_captures job shape taken) job.window (summaries_taken shape more) (summaries_taken shape taken) new_order old_order same_below

  closed_by_more : (x : Copies) → by_old x ≡ true → by_new x ≡ true
  closed_by_more x h = by_members x.members h
    where
      by_members : (ms : List Summary) → ends_by (under (least_of_captures job shape taken)) job.window ms ≡ true
          → ends_by (under (least_of_captures job shape more)) job.window ms ≡ true
      by_members [] h = refl
      by_members (m ∷ ms) h = rises (m.at.time + job.window) h

  new_closed : groups_closed job shape more ≡ groups_closed job shape taken ++ upto by_new (onward by_old new_groups)
  new_closed = upto_parts by_old by_new new_groups closed_by_more ∙ ap (λ (xs : List Copies). xs ++ upto by_new (onward by_old new_groups)) old_closed

  -- groups that are closed only now begin late
  late : (x : Copies) → IsIn x (upto by_new (onward by_old new_groups)) → under (least_of_captures job shape taken) (began x + job.window) ≡ false
  late x h =
      not_closed (under (least_of_captures job shape taken)) job.window new_groups (λ t u up k. under_earlier (least_of_captures job shape taken) t u up k)
      (all_grouped job.window (summaries_taken shape more) new_order).0 (groups_ordered job.window (summaries_taken shape more) new_order)
      x (in_upto by_new x (onward by_old new_groups) h)

  pub keeps_on : (put : ℕ → List Frame) → GrouperKeeps job shape g taken put → GrouperKeeps job shape g more put
  keeps_on put kept = record {
    lawful = kept.lawful;
    sent = kept.sent;
    closed = front_trans kept.sent (groups_closed job shape taken) (groups_closed job shape more) kept.closed
        (record { rest = upto by_new (onward by_old new_groups); joined = new_closed });
    in_turn = kept.in_turn;
    marks = λ q mark least hq there e.
        let l = mark_rises (least_of_captures job shape taken) (least_of_captures job shape more) least rises e in
        let old = kept.marks q mark l.0 hq there l.1 in
        let le = l.2 in
        omega (arith, old, le);
    whole = λ q mark x hq there goes less.
        ⊎_elim
        (λ (early : IsIn x (dealt shape.processors g q (groups_closed job shape taken))). kept.whole q mark x hq there early less)
        (λ (now : IsIn x (upto by_new (onward by_old new_groups))).
        let m = mark_from (least_of_captures job shape taken) (began x + job.window) (late x now) in
        let low = kept.marks q mark m.mark hq there m.is in
        absurd (omega (arith, low, m.low, less)))
        (dealt_parts shape.processors g q x (groups_closed job shape taken) (upto by_new (onward by_old new_groups))
        (subst (λ xs. IsIn x (dealt shape.processors g q xs)) new_closed goes));
    finish = λ q hq there.
        let old = kept.finish q hq there in
        let none = none_rises (least_of_captures job shape taken) (least_of_captures job shape more) rises old.0 in (
          none,
          old.1 ∙ sym old_closed
              ∙ ap (λ (b : Option ℕ). upto (is_closed (under b) job.window) new_groups) (old.0 ∙ sym none),
        );
  }

pub grouper_keeps_on : GrouperKeepsOn
grouper_keeps_on job shape g taken more put some takes kept = keeps_on job shape g taken more some takes put kept
