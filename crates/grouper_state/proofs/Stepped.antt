-- A state stands for what was taken and put, one frame more at a time.
use Rattle.std.proofs.Common.{ℕ, zero, suc, Bool, true, false, List, [], ◌∷◌, ◌++◌, ◌≡◌, ◌<◌, ◌≤◌, ◌+◌, ◌-◌, ◌*◌, ◌%◌, Option, Some, None, refl, sym, ap, subst, ◌∙◌, ⊎_elim, arith, length, set, get_or}
use Rattle.std.specs.Prelude.{sum_by, replicate, ◌==◌}
use Rattle.std.proofs.lemmas.Bool.{cases_lt, both_ways, eq-eqb, eqb-true}
use Rattle.std.proofs.lemmas.Bool.Decides.{nat_tests}
use Rattle.std.proofs.lemmas.List.{get_or-map, get_or-set_same, get_or-set_other, length-set, length-map, length_push, length-replicate}
use Rattle.std.proofs.lemmas.List.Sums.{sum_by-set, sum_by-cons}
use Rattle.std.proofs.lemmas.Nat.{mod_below}
use Rattle.ds_base.specs.Copies.{Copies}
use Rattle.ds_base.specs.Fronts.{upto}
use Rattle.ds_base.specs.declared.summary.Summary.{Summary}
use Rattle.node_frames.specs.declared.frame.Frame.{Frame}
use Rattle.node_frames.specs.declared.frame.Frame.TheVariants.{Item, Mark, CaptureEnd, GroupMark, Finish}
use Rattle.summary_spec.specs.Declaration.{Declared}
use Rattle.summary_spec.specs.Lawful.{IsLawful}
use Rattle.watermarks.specs.Least.{least_mark}
use Rattle.watermarks.specs.Raised.{raised_to}
use Rattle.window_grouper.specs.Closed.{is_closed}
use Rattle.window_grouper.specs.Groups.{members_in}
use Rattle.window_grouper.specs.Grouping.{Grouping, MayCome, StandsFor, is_past, marked, out_mark, with_group, with_summary}
use Rattle.window_grouper.specs.Sorted.{DiffersFromAll}
use Rattle.run_law.specs.Nodes.{GrouperKeeps, GrouperSendsAll, least_of_captures}
use Rattle.run_law.specs.Shapes.{Shape}
use Rattle.grouper_state.specs.Outgoing.{Outgoing, IsNextMember, whole_outgoing, one_further, still_going, members_left, turn_after, head_of, member_of}
use Rattle.grouper_state.specs.Puts.{StateStands, heads_put, is_mark_due, mark_of, one_if}
use Rattle.grouper_state.specs.States.{StateIs, MayTake, taken_on, taken_more, put_all}
use Rattle.grouper_state.proofs.Gathering as gathering
use Rattle.grouper_state.proofs.Gathering.{TakesOne, IsSendable}
use Rattle.grouper_state.proofs.Stepping as stepping
use Rattle.grouper_state.proofs.Stepping.{PutsOne, PutsAll}

-- ---- one link of several

takes_one : (taken : List (List Frame)) (p : ℕ) (f : Frame) → p < length taken → TakesOne (taken_on taken) (taken_on (taken_more taken p f)) p f
takes_one taken p f less = record {
  here = get_or-set_same taken p (taken_on taken p ++ f ∷ []) [] less;
  others = λ k other. get_or-set_other taken p k (taken_on taken p ++ f ∷ []) [] other;
}

puts_one : (put : List (List Frame)) (q : ℕ) (f : Frame) → q < length put → PutsOne (taken_on put) (taken_on (taken_more put q f)) q f
puts_one put q f less = record {
  here = get_or-set_same put q (taken_on put q ++ f ∷ []) [] less;
  others = λ k other. get_or-set_other put q k (taken_on put q ++ f ∷ []) [] other;
}

puts_all : (put : List (List Frame)) (n : ℕ) (f : Frame) → length put ≡ n → PutsAll n (taken_on put) (taken_on (put_all f put)) f
puts_all put n f long q hq = get_or-map (λ (frames : List Frame). frames ++ f ∷ []) put q [] [] (omega (arith, hq, long))

one_more : (taken : List (List Frame)) (p : ℕ) (f : Frame) → p < length taken → sum_by length (taken_more taken p f) ≡ sum_by length taken + 1
one_more taken p f less =
    let all = sum_by-set length taken p (taken_on taken p ++ f ∷ []) [] less in
    omega (arith, all, length_push (taken_on taken p) f)

-- ---- a frame was taken

module _ (job : Declared) (shape : Shape) (me : ℕ) (taken put : List (List Frame)) (g : Grouping) (o : Outgoing) (turn processors mark : ℕ) (finished : Bool) (p : ℕ)
    (h : StateIs job shape me taken put g o turn processors mark finished) where
  there : (f : Frame) → MayTake job shape me taken p f → p < length taken
  there f takes = let less = takes.there in let long = h.links_in in omega (arith, less, long)

  with_stands : (f : Frame) → MayTake job shape me taken p f → (g' : Grouping)
      → StateStands job shape me (taken_on (taken_more taken p f)) (taken_on put) (sum_by length taken + 1) g' (still_going o) turn mark finished
      → StateIs job shape me (taken_more taken p f) put g' o turn processors mark finished
  with_stands f takes g' stands = record {
    job_is = h.job_is;
    links_in = length-set taken p (taken_on taken p ++ f ∷ []) ∙ h.links_in;
    links_out = h.links_out;
    processors_are = h.processors_are;
    some_in = h.some_in;
    some_out = h.some_out;
    stands =
        subst (λ (count : ℕ). StateStands job shape me (taken_on (taken_more taken p f)) (taken_on put) count g' (still_going o) turn mark finished)
        (sym (one_more taken p f (there f takes))) stands;
  }

  pub item_may_come : (s : Summary) → MayTake job shape me taken p (Item s) → MayCome g.marks s.at
  item_may_come s takes =
      gathering.item_may_come job shape me (taken_on taken) (taken_on taken) p takes.there g (heads_put h.stands.done (still_going o)) h.stands.added h.stands.gathers s takes.may

  pub item_apart : (s : Summary) → MayTake job shape me taken p (Item s) → DiffersFromAll s.at g.waiting
  item_apart s takes =
      gathering.item_apart job shape me (taken_on taken) (taken_on taken) p takes.there g (heads_put h.stands.done (still_going o)) h.stands.added h.stands.gathers s takes.may

  pub item_taken : (s : Summary) → MayTake job shape me taken p (Item s) → (g' : Grouping) → g' ≡ with_summary s g
      → StateIs job shape me (taken_more taken p (Item s)) put g' o turn processors mark finished
  item_taken s takes g' is =
      subst (λ (k : Grouping). StateIs job shape me (taken_more taken p (Item s)) put k o turn processors mark finished) (sym is)
      (with_stands (Item s) takes (with_summary s g)
      (stepping.takes_item job shape me (taken_on taken) (taken_on (taken_more taken p (Item s))) (taken_on put) (sum_by length taken) g (still_going o) turn mark finished
      p takes.there h.stands s (takes_one taken p (Item s) (there (Item s) takes)) takes.may))

  pub mark_there : (c m : ℕ) → MayTake job shape me taken p (Mark c m) → c < length g.marks
  mark_there c m takes = let own = takes.may.own.0.0 in let many = h.stands.gathers.marks_many in omega (arith, own, many)

  pub mark_taken : (c m : ℕ) → MayTake job shape me taken p (Mark c m) → (g' : Grouping) → g' ≡ marked (set g.marks c (raised_to m (get_or g.marks c None))) g
      → ((window : ℕ) (added : List Summary) (given : List Copies) → StandsFor g window added given → StandsFor g' window added given)
      → StateIs job shape me (taken_more taken p (Mark c m)) put g' o turn processors mark finished
  mark_taken c m takes g' is stands =
      subst (λ (k : Grouping). StateIs job shape me (taken_more taken p (Mark c m)) put k o turn processors mark finished) (sym is)
      (with_stands (Mark c m) takes (marked (set g.marks c (raised_to m (get_or g.marks c None))) g)
      (stepping.takes_mark job shape me (taken_on taken) (taken_on (taken_more taken p (Mark c m))) (taken_on put) (sum_by length taken) g (still_going o) turn mark finished
      p takes.there h.stands c m (takes_one taken p (Mark c m) (there (Mark c m) takes)) takes.may
      (λ window added given was. subst (λ (k : Grouping). StandsFor k window added given) is (stands window added given was))))

  pub end_there : (c : ℕ) → MayTake job shape me taken p (CaptureEnd c) → c < length g.marks
  end_there c takes = let own = takes.may.own.0 in let many = h.stands.gathers.marks_many in omega (arith, own, many)

  pub end_taken : (c : ℕ) → MayTake job shape me taken p (CaptureEnd c) → (g' : Grouping) → g' ≡ marked (set g.marks c None) g
      → ((window : ℕ) (added : List Summary) (given : List Copies) → StandsFor g window added given → StandsFor g' window added given)
      → StateIs job shape me (taken_more taken p (CaptureEnd c)) put g' o turn processors mark finished
  end_taken c takes g' is stands =
      subst (λ (k : Grouping). StateIs job shape me (taken_more taken p (CaptureEnd c)) put k o turn processors mark finished) (sym is)
      (with_stands (CaptureEnd c) takes (marked (set g.marks c None) g)
      (stepping.takes_end job shape me (taken_on taken) (taken_on (taken_more taken p (CaptureEnd c))) (taken_on put) (sum_by length taken) g (still_going o) turn mark finished
      p takes.there h.stands c (takes_one taken p (CaptureEnd c) (there (CaptureEnd c) takes)) takes.may
      (λ window added given was. subst (λ (k : Grouping). StandsFor k window added given) is (stands window added given was))))

  pub finish_taken : MayTake job shape me taken p Finish → StateIs job shape me (taken_more taken p Finish) put g o turn processors mark finished
  finish_taken takes =
      with_stands Finish takes g
      (stepping.takes_finish job shape me (taken_on taken) (taken_on (taken_more taken p Finish)) (taken_on put) (sum_by length taken) g (still_going o) turn mark finished
      p takes.there h.stands (takes_one taken p Finish (there Finish takes)) takes.may)

-- ---- a frame was put

-- where a group is being sent, or one may be, the end was not put
unfinished : (finished : Bool) → (finished ≡ true → ⊥) → finished ≡ false
unfinished true never = absurd (never refl)
unfinished false never = refl

pub idle_when : (o : Outgoing) → (o.next == length o.group.members) ≡ true → still_going o ≡ None
idle_when o e = rw e refl

pub going_when : (o : Outgoing) → o.next < length o.group.members → still_going o ≡ Some o
going_when o less =
    let not : (o.next == length o.group.members) ≡ false = differs_less o.next (length o.group.members) less in rw not refl
  where
    differs_less : (k n : ℕ) → k < n → (k == n) ≡ false
    differs_less k n less = grind (arith, nat_tests)

not_last : (k n : ℕ) → k ≤ n → (k == n) ≡ false → k < n
not_last k n le other =
    ⊎_elim
    (λ (less : k < n). less)
    (λ (ge : n ≤ k). absurd (both_ways (k == n) other (eq-eqb k n (omega (arith, le, ge)))))
    (cases_lt k n)

module _ (job : Declared) (shape : Shape) (me : ℕ) (taken put : List (List Frame)) (g : Grouping) (o : Outgoing) (turn processors mark : ℕ) (finished : Bool)
    (h : StateIs job shape me taken put g o turn processors mark finished) where
  pub turn_within : turn < shape.processors
  turn_within = subst (λ (k : ℕ). k < shape.processors) h.stands.turn_is (mod_below (me + length h.stands.done) shape.processors h.some_out)

  -- with what is put on one link
  with_one : (f : Frame) (g' : Grouping) (o' : Outgoing) (turn' mark' : ℕ)
      → StateStands job shape me (taken_on taken) (taken_on (taken_more put turn f)) (sum_by length taken) g' (still_going o') turn' mark' finished
      → StateIs job shape me taken (taken_more put turn f) g' o' turn' processors mark' finished
  with_one f g' o' turn' mark' stands = record {
    job_is = h.job_is;
    links_in = h.links_in;
    links_out = length-set put turn (taken_on put turn ++ f ∷ []) ∙ h.links_out;
    processors_are = h.processors_are;
    some_in = h.some_in;
    some_out = h.some_out;
    stands = stands;
  }

  -- with what is put on all
  with_all : (f : Frame) (mark' : ℕ) (finished' : Bool)
      → StateStands job shape me (taken_on taken) (taken_on (put_all f put)) (sum_by length taken) g (still_going o) turn mark' finished'
      → StateIs job shape me taken (put_all f put) g o turn processors mark' finished'
  with_all f mark' finished' stands = record {
    job_is = h.job_is;
    links_in = h.links_in;
    links_out = length-map put (λ (frames : List Frame). frames ++ f ∷ []) ∙ h.links_out;
    processors_are = h.processors_are;
    some_in = h.some_in;
    some_out = h.some_out;
    stands = stands;
  }

  one_there : (f : Frame) → PutsOne (taken_on put) (taken_on (taken_more put turn f)) turn f
  one_there f = puts_one put turn f (let within = turn_within in let long = h.links_out in omega (arith, within, long))

  -- the next member
  pub member_put : (f : Frame) → IsNextMember o f → o.next < length o.group.members
      → StateIs job shape me taken (taken_more put turn f) g (one_further o) (turn_after processors turn (o.next + 1 == length o.group.members)) processors mark finished
  member_put f next less =
      subst (λ (z : Frame). StateIs job shape me taken (taken_more put turn z) g (one_further o) (turn_after processors turn (o.next + 1 == length o.group.members)) processors mark finished) (sym next.is)
      (by_last (o.next + 1 == length o.group.members) refl)
    where
      going : still_going o ≡ Some o
      going = going_when o less

      open_yet : finished ≡ false
      open_yet = unfinished finished (λ e. let none = h.stands.over e in let is = going in (let bad : Some o ≡ None = sym is ∙ none in cc))

      was : StateStands job shape me (taken_on taken) (taken_on put) (sum_by length taken) g (Some o) turn mark false
      was =
          subst (λ (b : Bool). StateStands job shape me (taken_on taken) (taken_on put) (sum_by length taken) g (Some o) turn mark b) open_yet
          (subst (λ (w : Option Outgoing). StateStands job shape me (taken_on taken) (taken_on put) (sum_by length taken) g w turn mark finished) going h.stands)

      more : (f : Frame) → PutsOne (taken_on put) (taken_on (taken_more put turn f)) turn f
      more f = one_there f

      by_last : (b : Bool) → (o.next + 1 == length o.group.members) ≡ b
          → StateIs job shape me taken (taken_more put turn (member_of next.member)) g (one_further o) (turn_after processors turn b) processors mark finished
      by_last true e =
          let over : still_going (one_further o) ≡ None = idle_when (one_further o) e in
          with_one (member_of next.member) g (one_further o) ((turn + 1) % processors) mark
          (subst (λ (n : ℕ). StateStands job shape me (taken_on taken) (taken_on (taken_more put turn (member_of next.member))) (sum_by length taken) g (still_going (one_further o)) ((turn + 1) % n) mark finished) (sym h.processors_are)
          (subst (λ (w : Option Outgoing). StateStands job shape me (taken_on taken) (taken_on (taken_more put turn (member_of next.member))) (sum_by length taken) g w ((turn + 1) % shape.processors) mark finished) (sym over)
          (subst (λ (k : Bool). StateStands job shape me (taken_on taken) (taken_on (taken_more put turn (member_of next.member))) (sum_by length taken) g None ((turn + 1) % shape.processors) mark k) (sym open_yet)
          (stepping.puts_last job shape me (taken_on taken) (taken_on put) (taken_on (taken_more put turn (member_of next.member))) (sum_by length taken) g o turn mark turn_within next.member next.there
          (more (member_of next.member)) was (eqb-true (o.next + 1) (length o.group.members) e)))))
      by_last false e =
          let others : o.next + 1 < length o.group.members = not_last (o.next + 1) (length o.group.members) (omega (arith, less)) e in
          let on : still_going (one_further o) ≡ Some (one_further o) = going_when (one_further o) others in
          with_one (member_of next.member) g (one_further o) turn mark
          (subst (λ (w : Option Outgoing). StateStands job shape me (taken_on taken) (taken_on (taken_more put turn (member_of next.member))) (sum_by length taken) g w turn mark finished) (sym on)
          (subst (λ (k : Bool). StateStands job shape me (taken_on taken) (taken_on (taken_more put turn (member_of next.member))) (sum_by length taken) g (Some (one_further o)) turn mark k) (sym open_yet)
          (stepping.puts_member job shape me (taken_on taken) (taken_on put) (taken_on (taken_more put turn (member_of next.member))) (sum_by length taken) g o turn mark turn_within next.member next.there
          (more (member_of next.member)) was others)))

  -- where no group is being sent
  module _ (idle : still_going o ≡ None) where
    was_idle : (b : Bool) → finished ≡ b → StateStands job shape me (taken_on taken) (taken_on put) (sum_by length taken) g None turn mark b
    was_idle b e =
        subst (λ (k : Bool). StateStands job shape me (taken_on taken) (taken_on put) (sum_by length taken) g None turn mark k) e
        (subst (λ (w : Option Outgoing). StateStands job shape me (taken_on taken) (taken_on put) (sum_by length taken) g w turn mark finished) idle h.stands)

    pub mark_put : (l : ℕ) → least_mark g.marks ≡ Some l → upto (is_closed (is_past g.marks) g.window) g.held ≡ [] → mark < l - g.window
        → StateIs job shape me taken (put_all (GroupMark (l - g.window)) put) g o turn processors (l - g.window) finished
    mark_put l is settled up =
        with_all (GroupMark (l - g.window)) (l - g.window) finished
        (subst (λ (w : Option Outgoing). StateStands job shape me (taken_on taken) (taken_on (put_all (GroupMark (l - g.window)) put)) (sum_by length taken) g w turn (l - g.window) finished) (sym idle)
        (subst (λ (k : Bool). StateStands job shape me (taken_on taken) (taken_on (put_all (GroupMark (l - g.window)) put)) (sum_by length taken) g None turn (l - g.window) k) (sym open_yet)
        (stepping.puts_mark job shape me (taken_on taken) (taken_on put) (taken_on (put_all (GroupMark (l - g.window)) put)) (sum_by length taken) g turn mark h.some_in h.some_out
        (was_idle false open_yet) l is settled up (puts_all put shape.processors (GroupMark (l - g.window)) h.links_out))))
      where
        open_yet : finished ≡ false
        open_yet = stepping.not_over job shape me (taken_on taken) (taken_on put) (sum_by length taken) g turn mark finished h.some_out (was_idle finished refl) l
            (sym (gathering.least_is job shape me (taken_on taken) g (heads_put h.stands.done (still_going o)) h.stands.added h.stands.gathers) ∙ is) finished refl

    pub end_put : finished ≡ false → least_mark g.marks ≡ None → g.held ≡ [] → StateIs job shape me taken (put_all Finish put) g o turn processors mark true
    end_put open_yet none empty =
        with_all Finish mark true
        (subst (λ (w : Option Outgoing). StateStands job shape me (taken_on taken) (taken_on (put_all Finish put)) (sum_by length taken) g w turn mark true) (sym idle)
        (stepping.puts_end job shape me (taken_on taken) (taken_on put) (taken_on (put_all Finish put)) (sum_by length taken) g turn mark h.some_in h.some_out
        (was_idle false open_yet) none empty (puts_all put shape.processors Finish h.links_out)))

out_from : (o : Option ℕ) (w m : ℕ) → out_mark o w ≡ Some m → (l : ℕ) × (o ≡ Some l) × (l - w ≡ m)
out_from None w m e = absurd (cc)
out_from (Some l) w m e = (l, refl, cc)

-- the same by what the calls say
module _ (job : Declared) (shape : Shape) (me : ℕ) (taken put : List (List Frame)) (g : Grouping) (o : Outgoing) (turn processors mark : ℕ) (finished : Bool)
    (h : StateIs job shape me taken put g o turn processors mark finished) where
  pub member_at : (f : Frame) → IsNextMember o f → o.next < length o.group.members → (o' : Outgoing) → o' ≡ one_further o → (over : Bool) → over ≡ (o'.next == length o'.group.members)
      → (turn' : ℕ) → turn' ≡ turn_after processors turn over → StateIs job shape me taken (taken_more put turn f) g o' turn' processors mark finished
  member_at f next less o' is over said turn' moved =
      subst (λ (t : ℕ). StateIs job shape me taken (taken_more put turn f) g o' t processors mark finished) (sym (moved ∙ ap (turn_after processors turn) said))
      (subst (λ (k : Outgoing). StateIs job shape me taken (taken_more put turn f) g k (turn_after processors turn (k.next == length k.group.members)) processors mark finished) (sym is)
      (member_put job shape me taken put g o turn processors mark finished h f next less))

  pub mark_at : still_going o ≡ None → (m : ℕ) → out_mark (least_mark g.marks) g.window ≡ Some m → upto (is_closed (is_past g.marks) g.window) g.held ≡ [] → mark < m
      → StateIs job shape me taken (put_all (GroupMark m) put) g o turn processors m finished
  mark_at idle m is settled up =
      let from = out_from (least_mark g.marks) g.window m is in
      let same = from.2 in
      subst (λ (k : ℕ). StateIs job shape me taken (put_all (GroupMark k) put) g o turn processors k finished) same
      (mark_put job shape me taken put g o turn processors mark finished h idle from.0 from.1 settled (omega (arith, up, same)))

-- the head of the group that the grouper gave out
module _ (job : Declared) (shape : Shape) (me : ℕ) (taken put : List (List Frame)) (g g' : Grouping) (x : Copies) (o : Outgoing) (turn processors mark : ℕ) (finished : Bool)
    (is : g ≡ with_group x g') (closed : is_closed (is_past g.marks) g.window x ≡ true) (idle : still_going o ≡ None)
    (h : StateIs job shape me taken put g o turn processors mark finished) where
  closed_now : is_closed (is_past g'.marks) g'.window x ≡ true
  closed_now = subst (λ (k : Grouping). is_closed (is_past k.marks) k.window x ≡ true) is closed

  given_stands : StateStands job shape me (taken_on taken) (taken_on put) (sum_by length taken) (with_group x g') None turn mark finished
  given_stands =
      subst (λ (w : Option Outgoing). StateStands job shape me (taken_on taken) (taken_on put) (sum_by length taken) (with_group x g') w turn mark finished) idle
      (subst (λ (k : Grouping). StateStands job shape me (taken_on taken) (taken_on put) (sum_by length taken) k (still_going o) turn mark finished) is h.stands)

  within : turn < shape.processors
  within = turn_within job shape me taken put g o turn processors mark finished h

  pub given_filled : 0 < length x.members
  given_filled =
      (stepping.head_sendable job shape me (taken_on taken) (taken_on put) (sum_by length taken) g' x turn mark finished within closed_now given_stands).filled

  head_put : StateIs job shape me taken (taken_more put turn (head_of x)) g' (whole_outgoing x) turn processors mark finished
  head_put = record {
    job_is = h.job_is;
    links_in = h.links_in;
    links_out = length-set put turn (taken_on put turn ++ head_of x ∷ []) ∙ h.links_out;
    processors_are = h.processors_are;
    some_in = h.some_in;
    some_out = h.some_out;
    stands =
        subst (λ (w : Option Outgoing). StateStands job shape me (taken_on taken) (taken_on (taken_more put turn (head_of x))) (sum_by length taken) g' w turn mark finished) (sym (going_when (whole_outgoing x) given_filled))
        (subst (λ (b : Bool). StateStands job shape me (taken_on taken) (taken_on (taken_more put turn (head_of x))) (sum_by length taken) g' (Some (whole_outgoing x)) turn mark b) (sym open_yet)
        (stepping.puts_head job shape me (taken_on taken) (taken_on put) (taken_on (taken_more put turn (head_of x))) (sum_by length taken) g' x turn mark within h.job_is closed_now
        (subst (λ (b : Bool). StateStands job shape me (taken_on taken) (taken_on put) (sum_by length taken) (with_group x g') None turn mark b) open_yet given_stands)
        (puts_one put turn (head_of x) (let less = within in let long = h.links_out in omega (arith, less, long)))));
  }
    where
      open_yet : finished ≡ false
      open_yet =
          unfinished finished
          (stepping.none_closed_later job shape me (taken_on taken) (taken_on put) (sum_by length taken) g' x turn mark finished within closed_now given_stands)

  -- the same by what the calls say
  pub head_at : (o' : Outgoing) → o' ≡ whole_outgoing x → (f : Frame) → f ≡ head_of o'.group → StateIs job shape me taken (taken_more put turn f) g' o' turn processors mark finished
  head_at o' begun f head =
      subst (λ (k : Outgoing). StateIs job shape me taken (taken_more put turn f) g' k turn processors mark finished) (sym begun)
      (subst (λ (z : Frame). StateIs job shape me taken (taken_more put turn z) g' (whole_outgoing x) turn processors mark finished) (sym (head ∙ ap (λ (k : Outgoing). head_of k.group) begun)) head_put)

-- ---- nothing was taken, and nothing put

abbrev nothing : List Frame
nothing = []

pub starts : (job : Declared) (shape : Shape) (me turn processors : ℕ) (g : Grouping) (o : Outgoing) → IsLawful job → 0 < shape.parsers → 0 < processors → processors ≡ shape.processors
    → StandsFor g job.window [] [] → g.marks ≡ replicate (length job.captures) (Some 0) → still_going o ≡ None → me % processors ≡ turn
    → StateIs job shape me (replicate shape.parsers []) (replicate shape.processors []) g o turn processors 0 false
starts job shape me turn processors g o lawful some_in some_out same stands marks_are idle own = record {
  job_is = lawful;
  links_in = length-replicate shape.parsers nothing;
  links_out = length-replicate shape.processors nothing;
  processors_are = same;
  some_in = some_in;
  some_out = omega (arith, some_out, same);
  stands =
      subst (λ (count : ℕ). StateStands job shape me (taken_on (replicate shape.parsers nothing)) (taken_on (replicate shape.processors nothing)) count g (still_going o) turn 0 false) (sym (none_taken shape.parsers))
      (subst (λ (w : Option Outgoing). StateStands job shape me (taken_on (replicate shape.parsers nothing)) (taken_on (replicate shape.processors nothing)) 0 g w turn 0 false) (sym idle)
      (stepping.starts job shape me (taken_on (replicate shape.parsers nothing)) (taken_on (replicate shape.processors nothing)) turn g
      (none_at shape.parsers) (none_at shape.processors) stands marks_are (ap (λ (n : ℕ). me % n) (sym same) ∙ own)));
}
  where
    none_taken : (n : ℕ) → sum_by length (replicate n nothing) ≡ 0
    none_taken zero = refl
    none_taken (suc n) = let first = sum_by-cons length nothing (replicate n nothing) in let rest = none_taken n in omega (arith, first, rest)

    none_at : (n k : ℕ) → taken_on (replicate n nothing) k ≡ nothing
    none_at zero k = refl
    none_at (suc n) zero = refl
    none_at (suc n) (suc k) = none_at n k

-- ---- how much is due

pub less_head : (x : Copies) (held : List Copies) (waiting left a b : ℕ) → 0 < length x.members
    → 2 * (members_in held + waiting) + (length x.members - 0) + a + b < 2 * (members_in (x ∷ held) + waiting) + left + a + b
less_head x held waiting left a b some =
    let all = sum_by-cons (λ (y : Copies). length y.members) x held in
    omega (arith, some, all)

-- a group that was held is being sent
pub less_given : (g g' : Grouping) (x : Copies) (o o' : Outgoing) (mark rest : ℕ) → g ≡ with_group x g' → o' ≡ whole_outgoing x → 0 < length x.members
    → 2 * (members_in g'.held + length g'.waiting) + members_left o' + one_if (is_mark_due (mark_of g') mark) + rest
    < 2 * (members_in g.held + length g.waiting) + members_left o + one_if (is_mark_due (mark_of g) mark) + rest
less_given g g' x o o' mark rest is begun some =
    subst (λ (k : Grouping). 2 * (members_in g'.held + length g'.waiting) + members_left o' + one_if (is_mark_due (mark_of g') mark) + rest
    < 2 * (members_in k.held + length k.waiting) + members_left o + one_if (is_mark_due (mark_of k) mark) + rest) (sym is)
    (subst (λ (k : Outgoing). 2 * (members_in g'.held + length g'.waiting) + members_left k + one_if (is_mark_due (mark_of g') mark) + rest
    < 2 * (members_in (x ∷ g'.held) + length g'.waiting) + members_left o + one_if (is_mark_due (mark_of g') mark) + rest) (sym begun)
    (less_head x g'.held (length g'.waiting) (members_left o) (one_if (is_mark_due (mark_of g') mark)) rest some))

-- ---- what the state stands for

module _ (job : Declared) (shape : Shape) (me : ℕ) (taken put : List (List Frame)) (g : Grouping) (o : Outgoing) (turn processors mark : ℕ) (finished : Bool)
    (h : StateIs job shape me taken put g o turn processors mark finished) where
  pub keeps_with : (p : ℕ) (f : Frame) → MayTake job shape me taken p f → GrouperKeeps job shape me (taken_on (taken_more taken p f)) (taken_on put)
  keeps_with p f takes =
      gathering.keeps_more job shape me (taken_on taken) (taken_on (taken_more taken p f)) p f takes.there
      (takes_one taken p f (let less = takes.there in let long = h.links_in in omega (arith, less, long))) h.stands.gathers.lawful takes.may (taken_on put) h.stands.keeps

  pub sends_all : still_going o ≡ None → upto (is_closed (is_past g.marks) g.window) g.held ≡ [] → is_mark_due (mark_of g) mark ≡ false
      → GrouperSendsAll job shape me (taken_on taken) (taken_on put)
  sends_all idle settled not_due =
      stepping.rested job shape me (taken_on taken) (taken_on put) (sum_by length taken) g turn mark finished h.some_out
      (subst (λ (w : Option Outgoing). StateStands job shape me (taken_on taken) (taken_on put) (sum_by length taken) g w turn mark finished) idle h.stands) settled not_due

  pub least_same : least_mark g.marks ≡ least_of_captures job shape (taken_on taken)
  least_same = gathering.least_is job shape me (taken_on taken) g (heads_put h.stands.done (still_going o)) h.stands.added h.stands.gathers
