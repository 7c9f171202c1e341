-- A parser of which one capture went on: what it promises, from what became of that capture and what was put.
use Rattle.std.proofs.Common.{ℕ, ◌≡◌, ◌≢◌, ◌<◌, ◌≤◌, ◌+◌, ◌-◌, ◌*◌, ◌/◌, ◌%◌, Bool, cond, Option, Some, None, true, false, List, length, get_or, set, refl, sym, ap, subst, ◌∙◌, arith, ⊎_elim}
use Rattle.std.specs.Prelude.{All, is_some, ◌==◌, slice_index_or, slice_set}
use Rattle.std.proofs.lemmas.Bool.{eq-eqb}
use Rattle.std.proofs.lemmas.List.{length-set, get_or-set_same, get_or-set_other, get_or_past, get_or_default}
use Rattle.ds_base.specs.Outside.{SourceSeen, SourceStays}
use Rattle.credit_link.specs.Ends.{TxSeen}
use Rattle.credit_link.specs.Frames.{has_finish}
use Rattle.credit_link.specs.declared.turn.NodeFault.{NodeFault}
use Rattle.node_frames.specs.declared.frame.Frame.{Frame}
use Rattle.node_frames.specs.declared.frame.Frame.TheVariants.{CaptureEnd, CountsRow}
use Rattle.shuffle_poll.specs.Shuffles.{ShuffleSeen, ShuffleHolds}
use Rattle.key_select.specs.Late.{greatest_time, mark_of}
use Rattle.summary_spec.specs.Declaration.{Declared}
use Rattle.ds_base.specs.Fronts.{IsIn}
use Rattle.run_law.specs.Links.{HasEnded, HasRow}
use Rattle.run_law.specs.Nodes.{Reading, ParserKeeps, ParserMarks, but_last}
use Rattle.run_law.specs.Shapes.{Shape, IsCaptureOf, IsFront}
use Rattle.run_law.specs.Snapshot.{unread}
use Rattle.run_law.proofs.Lists.{in_front}
use Rattle.node_lanes.specs.Ends.{put_on, OutsGo, TxGoes}
use Rattle.node_lanes.proofs.Listed.{before_or_not, front_same, puts_past}
use Rattle.node_lanes.proofs.Polled.{tx_stays}
use Rattle.net_law.specs.Ends.{no_tx}
use Rattle.net_law.specs.Parsers.{ParserSeen, ParserStands, ParserGoes, ReadingGoes, IsOwn, IsReadOf, IsBehind, IsEven, shape_with, groupers_of, read_of, behind_of}
use Rattle.net_law.proofs.Parsed.{reads_as}
use Rattle.parser_captures.proofs.Keeping.{same_or_not, differ_eqb}
use Rattle.parser_captures.proofs.Marking.{AreEven}
use Rattle.parser_captures.proofs.Taking.{untold}
use Rattle.parser_steps.specs.Seen.{StepsSeen, seen_of, most_put}
use Rattle.parser_steps.specs.Holds.{ParserHolds, IsTold}
use Rattle.parser_steps.proofs.Bounds.{AreShort, offers, captures_few, captures_within, reads_few}
use Rattle.parser_steps.proofs.Moved.{read_later}
use Rattle.parser_steps.proofs.Places.{at_place, other_place}

-- the shape as a parser knows it, with any number of processors
abbrev pub shape_of : StepsSeen → (processors : ℕ) → Shape
shape_of steps processors = record { parsers = steps.parsers; groupers = steps.groupers; processors = processors }

-- one capture and its source were changed
abbrev pub changed : StepsSeen → (i : ℕ) → SourceSeen → Reading → (behind held : ℕ) → StepsSeen
changed steps i source reading behind held = record steps {
  sources = slice_set steps.sources i source;
  reads = slice_set steps.reads i reading;
  behind = slice_set steps.behind i behind;
  held = slice_set steps.held i held;
}

-- a value at one number, and another function's elsewhere
abbrev pub at_one : {X : Type 0} → (c : ℕ) → X → (ℕ → X) → ℕ → X
at_one c x f d = cond (d == c) x (f d)

pub one_here : {X : Type 0} (c : ℕ) (x : X) (f : ℕ → X) → at_one c x f c ≡ x
one_here c x f = ap (λ (b : Bool). cond b x (f c)) (eq-eqb c c refl)

pub one_there : {X : Type 0} (c : ℕ) (x : X) (f : ℕ → X) (d : ℕ) → d ≢ c → at_one c x f d ≡ f d
one_there c x f d differ = ap (λ (b : Bool). cond b x (f d)) (differ_eqb d c differ)

-- ---- the promises over plain functions

pub marks_as : (job : Declared) (shape : Shape) (p : ℕ) (behind after : ℕ → ℕ) (read other : ℕ → Reading) (items : ℕ → List Frame)
    → ((c : ℕ) → IsCaptureOf (length job.captures) shape p c → (behind c ≡ after c) × (read c ≡ other c))
    → ParserMarks job shape p behind read items → ParserMarks job shape p after other items
marks_as job shape p behind after read other items same marks = record {
  within = λ c own. let s = same c own in subst (λ (r : Reading). after c ≤ length r.records) s.1 (subst (λ (n : ℕ). n ≤ length (read c).records) s.0 (marks.within c own));
  few = λ c own. subst (λ (n : ℕ). n ≤ 32) (same c own).0 (marks.few c own);
  last = λ g c less own goes.
      let s = same c own in
      marks.last g c less own goes
      ∙ ap (λ (n : ℕ). Some (mark_of job c (but_last n (read c).records))) s.0
      ∙ ap (λ (r : Reading). Some (mark_of job c (but_last (after c) r.records))) s.1;
}

even_as : (job : Declared) (shape : Shape) (p : ℕ) (read other : ℕ → Reading)
    → ((c : ℕ) → IsCaptureOf (length job.captures) shape p c → read c ≡ other c) → AreEven job shape p read → AreEven job shape p other
even_as job shape p read other same even c d own_c own_d open' =
    subst (λ (r : Reading). IsBehind (greatest_time job c (but_last 1 r.records)) (greatest_time job d (other d).records)) (same c own_c)
    (subst (λ (r : Reading). IsBehind (greatest_time job c (but_last 1 (read c).records)) (greatest_time job d r.records)) (same d own_d)
    (even c d own_c own_d (ap (λ (r : Reading). r.ended) (same d own_d) ∙ open')))

-- ---- the links

-- frames were put, and no byte moved
pub outs_go : (outs outs' : ShuffleSeen) → outs'.links ≡ outs.links → ((k : ℕ) → k < length outs.links → IsFront (put_on outs k) (put_on outs' k)) → OutsGo outs outs'
outs_go outs outs' links front = record {
  as_many = ap length links;
  each = λ k d there. subst (λ (l : TxSeen). TxGoes (slice_index_or outs.links k d) l) (sym (ap (λ (ls : List TxSeen). slice_index_or ls k d) links)) (tx_stays (slice_index_or outs.links k d));
  put = λ k.
      ⊎_elim (λ (there : k < length outs.links). front k there)
      (λ (past : length outs.links ≤ k).
      front_same (put_on outs k) (put_on outs' k) (puts_past outs'.links outs'.queues k (omega (arith, past, ap length links)) ∙ sym (puts_past outs.links outs.queues k past)))
      (before_or_not k (length outs.links));
}

-- ---- one capture went on

-- what became of the capture at place i, and what was put, so that the promises stay
pub record Goes (steps : StepsSeen) (outs outs' : ShuffleSeen) (fault : Option NodeFault) (i : ℕ) (source : SourceSeen) (reading : Reading) (behind held : ℕ) : Type 0 where
  pub there : i < length steps.reads
  pub links : outs'.links ≡ outs.links
  pub holds : ShuffleHolds outs'.links outs'.queues
  pub front : (k : ℕ) → k < length outs.links → IsFront (put_on outs k) (put_on outs' k)
  pub open' : (k : ℕ) → k < length outs.links → has_finish (put_on outs' k) ≡ false
  pub going : steps.finished ≡ false
  pub keeps : (n : ℕ)
      → ParserKeeps steps.job (shape_of steps n) steps.me (at_one (steps.me + i * steps.parsers) reading (read_of (seen_of steps outs None))) (put_on outs') (put_on outs' steps.groupers)
  pub marks : (n : ℕ)
      → ParserMarks steps.job (shape_of steps n) steps.me (at_one (steps.me + i * steps.parsers) behind (behind_of (seen_of steps outs None)))
      (at_one (steps.me + i * steps.parsers) reading (read_of (seen_of steps outs None))) (put_on outs')
  pub even : AreEven steps.job (shape_of steps 0) steps.me (at_one (steps.me + i * steps.parsers) reading (read_of (seen_of steps outs None)))
  pub read : IsReadOf fault source reading
  pub held_most : held ≤ 16781311
  pub short : AreShort (slice_set steps.reads i reading)
  pub near : behind < 32
  pub few : (k : ℕ) → k < length outs.links → length (put_on outs' k) ≤ most_put (changed steps i source reading behind held)
  pub told : fault ≡ None → reading.ended ≡ true
      → ((g : ℕ) → g < steps.groupers → HasEnded (steps.me + i * steps.parsers) (put_on outs' g)) × HasRow (steps.me + i * steps.parsers) (put_on outs' steps.groupers)
  pub quiet : fault ≡ None → source.faults ≡ 0
  pub stays : SourceStays (slice_index_or steps.sources i source) source
  pub reads_on : ReadingGoes (slice_index_or steps.reads i unread) reading

module _ (steps : StepsSeen) (outs outs' : ShuffleSeen) (fault : Option NodeFault) (i : ℕ) (source : SourceSeen) (reading : Reading) (behind held : ℕ)
    (h : ParserHolds steps outs None) (m : Goes steps outs outs' fault i source reading behind held) where
  abbrev c : ℕ
  c = steps.me + i * steps.parsers

  abbrev old : ParserSeen
  old = seen_of steps outs None

  abbrev new : ParserSeen
  new = seen_of (changed steps i source reading behind held) outs' fault

  place : steps.me < steps.parsers
  place = h.stands.place.0

  long : length (slice_set steps.reads i reading) ≡ length steps.reads
  long = length-set steps.reads i reading

  -- by its number or that of another
  at_capture : {X : Type 0} (xs : List X) (x d : X) (e : ℕ) → i < length xs → e % steps.parsers ≡ steps.me
      → at_one c x (λ (k : ℕ). get_or xs (k / steps.parsers) d) e ≡ get_or (set xs i x) (e / steps.parsers) d
  at_capture xs x d e there own =
      ⊎_elim
      (λ (is : e ≡ c).
      subst (λ (k : ℕ). at_one c x (λ (k : ℕ). get_or xs (k / steps.parsers) d) k ≡ get_or (set xs i x) (k / steps.parsers) d) (sym is)
      (one_here c x (λ (k : ℕ). get_or xs (k / steps.parsers) d)
      ∙ sym (ap (λ (k : ℕ). get_or (set xs i x) k d) (at_place steps.me steps.parsers i place) ∙ get_or-set_same xs i x d there)))
      (λ (differ : e ≢ c).
      one_there c x (λ (k : ℕ). get_or xs (k / steps.parsers) d) e differ ∙ sym (get_or-set_other xs i (e / steps.parsers) x d (other_place steps.me steps.parsers i e own differ)))
      (same_or_not e c)

  reads_at : (e : ℕ) → e % steps.parsers ≡ steps.me → at_one c reading (read_of old) e ≡ read_of new e
  reads_at e own = at_capture steps.reads reading unread e m.there own

  behind_at : (e : ℕ) → e % steps.parsers ≡ steps.me → at_one c behind (behind_of old) e ≡ behind_of new e
  behind_at e own = at_capture steps.behind behind 0 e (omega (arith, m.there, h.stands.lengths.1)) own

  groupers_is : length outs'.links - 1 ≡ steps.groupers
  groupers_is = omega (arith, ap length m.links, h.links)

  keeps_new : (n : ℕ) → ParserKeeps steps.job (shape_with new n) steps.me (read_of new) (put_on outs') (put_on outs' (groupers_of new))
  keeps_new n =
      subst (λ (g : ℕ). ParserKeeps steps.job (record { parsers = steps.parsers; groupers = g; processors = n }) steps.me (read_of new) (put_on outs') (put_on outs' g)) (sym groupers_is)
      (reads_as steps.job (shape_of steps n) steps.me (at_one c reading (read_of old)) (read_of new) (put_on outs') (put_on outs' steps.groupers) (λ e own. reads_at e own.1) (m.keeps n))

  marks_new : (n : ℕ) → ParserMarks steps.job (shape_with new n) steps.me (behind_of new) (read_of new) (put_on outs')
  marks_new n =
      subst (λ (g : ℕ). ParserMarks steps.job (record { parsers = steps.parsers; groupers = g; processors = n }) steps.me (behind_of new) (read_of new) (put_on outs')) (sym groupers_is)
      (marks_as steps.job (shape_of steps n) steps.me (at_one c behind (behind_of old)) (behind_of new) (at_one c reading (read_of old)) (read_of new) (put_on outs')
      (λ e own. (behind_at e own.1, reads_at e own.1)) (m.marks n))

  even_new : IsEven new
  even_new = even_as steps.job (shape_of steps 0) steps.me (at_one c reading (read_of old)) (read_of new) (λ e own. reads_at e own.1) m.even

  -- the others are as they were
  read_new : (j : ℕ) (d : SourceSeen) → j < length steps.sources → IsReadOf fault (slice_index_or (slice_set steps.sources i source) j d) (slice_index_or (slice_set steps.reads i reading) j unread)
  read_new j d there =
      ⊎_elim
      (λ (is : j ≡ i).
      subst (λ (k : ℕ). IsReadOf fault (slice_index_or (slice_set steps.sources i source) k d) (slice_index_or (slice_set steps.reads i reading) k unread)) (sym is)
      (subst (λ (s : SourceSeen). IsReadOf fault s (slice_index_or (slice_set steps.reads i reading) i unread)) (sym (get_or-set_same steps.sources i source d (omega (arith, m.there, h.stands.lengths.0))))
      (subst (λ (r : Reading). IsReadOf fault source r) (sym (get_or-set_same steps.reads i reading unread m.there)) m.read)))
      (λ (differ : j ≢ i).
      subst (λ (s : SourceSeen). IsReadOf fault s (slice_index_or (slice_set steps.reads i reading) j unread)) (sym (get_or-set_other steps.sources i j source d differ))
      (subst (λ (r : Reading). IsReadOf fault (slice_index_or steps.sources j d) r) (sym (get_or-set_other steps.reads i j reading unread differ))
      (read_later None fault (slice_index_or steps.sources j d) (slice_index_or steps.reads j unread) (λ none. refl) (h.stands.read j d there))))
      (same_or_not j i)

  -- a number of each
  number_new : (P : ℕ → Type 0) (ns : List ℕ) (n j : ℕ) → P n → P (slice_index_or ns j 0) → P (slice_index_or (slice_set ns i n) j 0)
  number_new P ns n j here there =
      ⊎_elim
      (λ (is : j ≡ i).
      ⊎_elim (λ (less : i < length ns). subst P (sym (ap (λ (k : ℕ). get_or (set ns i n) k 0) is ∙ get_or-set_same ns i n 0 less)) here)
      (λ (past : length ns ≤ i).
      subst P (get_or_past ns j 0 (omega (arith, is, past)) ∙ sym (get_or_past (set ns i n) j 0 (omega (arith, is, past, length-set ns i n)))) there)
      (before_or_not i (length ns)))
      (λ (differ : j ≢ i). subst P (sym (get_or-set_other ns i j n 0 differ)) there)
      (same_or_not j i)

  quiet_new : fault ≡ None → All (λ (s : SourceSeen). s.faults ≡ 0) (slice_set steps.sources i source)
  quiet_new none j d less =
      let there : j < length steps.sources = omega (arith, less, length-set steps.sources i source) in
      ⊎_elim
      (λ (is : j ≡ i).
      subst (λ (k : ℕ). (slice_index_or (slice_set steps.sources i source) k d).faults ≡ 0) (sym is)
      (ap (λ (s : SourceSeen). s.faults) (get_or-set_same steps.sources i source d (omega (arith, m.there, h.stands.lengths.0))) ∙ m.quiet none))
      (λ (differ : j ≢ i). ap (λ (s : SourceSeen). s.faults) (get_or-set_other steps.sources i j source d differ) ∙ (h.stands.quiet refl).0 j d there)
      (same_or_not j i)

  few_new : (k : ℕ) → k < length outs'.links → length (put_on outs' k) ≤ most_put (changed steps i source reading behind held)
  few_new k there = m.few k (omega (arith, there, ap length m.links))

  stands_new : ParserStands new
  stands_new =
      let bounds = reads_few (slice_set steps.reads i reading) (length steps.job.captures) m.short
      (let within : length steps.reads ≤ length steps.job.captures = captures_within steps outs None h.stands in omega (arith, within, long)) in
      record {
        job_is = h.stands.job_is;
        place = h.stands.place;
        groupers = (omega (arith, h.stands.groupers.0, ap length m.links), omega (arith, h.stands.groupers.1, ap length m.links));
        captures = λ d own. omega (arith, h.stands.captures d own, long);
        own = λ j less. h.stands.own j (omega (arith, less, long));
        lengths = (
          length-set steps.sources i source ∙ h.stands.lengths.0 ∙ sym long,
          length-set steps.behind i behind ∙ h.stands.lengths.1 ∙ sym long,
          length-set steps.held i held ∙ h.stands.lengths.2 ∙ sym long,
        );
        outs = record {
          holds = m.holds;
          credits = subst (λ (ls : List TxSeen). All (λ (l : TxSeen). l.credits ≡ (slice_index_or ls 0 no_tx).credits) ls) (sym m.links) h.stands.outs.credits;
        };
        keeps = keeps_new;
        marks = marks_new;
        even = even_new;
        read = λ j d less. read_new j d (omega (arith, less, length-set steps.sources i source));
        held = λ j. number_new (λ (n : ℕ). n ≤ 16781311) steps.held held j m.held_most (h.stands.held j);
        reads_few = record { read = bounds.0; records = bounds.1 };
        offers_few = offers (changed steps i source reading behind held) outs' fault
            (let few : length steps.reads ≤ 64 = captures_few steps outs None h.stands in omega (arith, few, long)) few_new;
        quiet = λ none. (quiet_new none, subst (λ (ls : List TxSeen). All (λ (l : TxSeen). l.fault ≡ None) ls) (sym m.links) (h.stands.quiet refl).1);
      }

  -- what was told before was put before
  told_new : fault ≡ None → (d : ℕ) → IsOwn new d → (read_of new d).ended ≡ true → IsTold new d
  told_new none d own ended =
      let is_groupers : length outs'.links ≡ length outs.links = ap length m.links in
      ⊎_elim
      (λ (is : d ≡ c).
      let t = m.told none (subst (λ (r : Reading). r.ended ≡ true) (one_here c reading (read_of old)) (subst (λ (k : ℕ). (at_one c reading (read_of old) k).ended ≡ true) is
      (ap (λ (r : Reading). r.ended) (reads_at d own.1) ∙ ended))) in
      record {
        ends = λ g less. subst (λ (k : ℕ). HasEnded k (put_on outs' g)) (sym is) (t.0 g (omega (arith, less, groupers_is)));
        row = subst (λ (k : ℕ). HasRow k (put_on outs' (groupers_of new))) (sym is) (subst (λ (g : ℕ). HasRow c (put_on outs' g)) (sym groupers_is) t.1);
      })
      (λ (differ : d ≢ c).
      let t = h.told refl d own (ap (λ (r : Reading). r.ended) (sym (one_there c reading (read_of old) d differ) ∙ reads_at d own.1) ∙ ended) in
      record {
        ends = λ g less. in_front (CaptureEnd d) (put_on outs g) (put_on outs' g) (m.front g (omega (arith, less, is_groupers))) (t.ends g (omega (arith, less, is_groupers)));
        row = (
          t.row.0,
          subst (λ (n : ℕ). IsIn (CountsRow d t.row.0) (put_on outs' (n - 1))) (sym is_groupers)
              (in_front (CountsRow d t.row.0) (put_on outs (groupers_of old)) (put_on outs' (groupers_of old)) (m.front (groupers_of old) (omega (arith, h.links))) t.row.1),
        );
      })
      (same_or_not d c)

  pub holds_on : ParserHolds (changed steps i source reading behind held) outs' fault
  holds_on = record {
    stands = stands_new;
    links = ap length m.links ∙ h.links;
    near = λ j. number_new (λ (n : ℕ). n < 32) steps.behind behind j m.near (h.near j);
    few = few_new;
    told = told_new;
    ending = λ k there. m.open' k (omega (arith, there, ap length m.links)) ∙ sym m.going;
    all = λ finished. untold _ (sym m.going ∙ finished);
  }

  -- and it goes on
  source_goes : (j : ℕ) (d : SourceSeen) → j < length steps.sources → SourceStays (slice_index_or steps.sources j d) (slice_index_or (slice_set steps.sources i source) j d)
  source_goes j d there =
      ⊎_elim
      (λ (is : j ≡ i).
      subst (λ (k : ℕ). SourceStays (slice_index_or steps.sources k d) (slice_index_or (slice_set steps.sources i source) k d)) (sym is)
      (subst (λ (s : SourceSeen). SourceStays (slice_index_or steps.sources i d) s) (sym (get_or-set_same steps.sources i source d (omega (arith, m.there, h.stands.lengths.0))))
      (subst (λ (s : SourceSeen). SourceStays s source) (get_or_default steps.sources i source d (omega (arith, m.there, h.stands.lengths.0))) m.stays)))
      (λ (differ : j ≢ i).
      subst (λ (s : SourceSeen). SourceStays (slice_index_or steps.sources j d) s) (sym (get_or-set_other steps.sources i j source d differ))
      (record { told = refl; whole = λ told. refl }))
      (same_or_not j i)

  reading_goes : (j : ℕ) → j < length steps.reads → ReadingGoes (slice_index_or steps.reads j unread) (slice_index_or (slice_set steps.reads i reading) j unread)
  reading_goes j there =
      ⊎_elim
      (λ (is : j ≡ i).
      subst (λ (k : ℕ). ReadingGoes (slice_index_or steps.reads k unread) (slice_index_or (slice_set steps.reads i reading) k unread)) (sym is)
      (subst (λ (r : Reading). ReadingGoes (slice_index_or steps.reads i unread) r) (sym (get_or-set_same steps.reads i reading unread m.there)) m.reads_on))
      (λ (differ : j ≢ i).
      subst (λ (r : Reading). ReadingGoes (slice_index_or steps.reads j unread) r) (sym (get_or-set_other steps.reads i j reading unread differ))
      (let r : Reading = slice_index_or steps.reads j unread in record { bytes = front_same r.bytes r.bytes refl; records = front_same r.records r.records refl; ended = λ e. refl }))
      (same_or_not j i)

  pub goes_on : ParserGoes old new
  goes_on = record {
    same = (refl, refl, refl, ap (λ (ls : List TxSeen). (slice_index_or ls 0 no_tx).credits) m.links);
    as_many = (length-set steps.sources i source, long);
    sources = source_goes;
    reads = reading_goes;
    outs = outs_go outs outs' m.links m.front;
    kept = λ bad e. untold _ (ap (λ (o : Option NodeFault). is_some o) e);
  }
