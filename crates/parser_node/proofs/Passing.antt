-- Passes one after another: what a step and a poll behind it come to, and what all of them do.
use Rattle.std.proofs.Common.{ℕ, zero, suc, ◌+◌, ◌*◌, ◌/◌, ◌%◌, ◌<◌, ◌≤◌, ◌≡◌, ◌⊎◌, Bool, true, false, ◌||◌, IsTrue, None, List, [], ◌∷◌, if◌then◌else◌, length, get_or, refl, sym, ap, ◌∙◌, subst, arith, ⊎_elim, inl, inr}
use Rattle.std.specs.List.{sum_by, All}
use Rattle.std.proofs.Math.Nat.{mul-le-mul_left}
use Rattle.std.proofs.lemmas.List.{nil_from_length}
use Rattle.std.proofs.lemmas.List.Sums.{sum_by-cons}
use Rattle.ds_base.specs.Outside.{SourceSeen}
use Rattle.ds_base.specs.Faults.{Rose}
use Rattle.node_frames.specs.declared.frame.Frame.{Frame}
use Rattle.credit_link.specs.Ends.{TxSeen}
use Rattle.credit_link.specs.Frames.{has_finish}
use Rattle.credit_link.specs.declared.turn.NodeFault.{NodeFault}
use Rattle.credit_link.specs.declared.turn.NodeFault.TheVariants.{Malformed, Read, Write, Link, OutOfMemory}
use Rattle.shuffle_poll.specs.Shuffles.{ShuffleSeen}
use Rattle.round_law.specs.Rows.{sent_by, moved}
use Rattle.round_law.specs.Views.{sender_view}
use Rattle.round_law.proofs.Sums.{sum_within}
use Rattle.run_law.specs.Nodes.{Reading}
use Rattle.run_law.specs.Snapshot.{unread}
use Rattle.node_lanes.specs.Ends.{put_on, senders_with, senders_of, OutsStand, OutsGo}
use Rattle.node_lanes.specs.Passes.{OutsAreCalm, OutsMeet}
use Rattle.node_lanes.proofs.Going.{outs_calm_on, outs_tell}
use Rattle.node_lanes.proofs.Resting.{rest_again}
use Rattle.net_law.specs.Parsers.{ParserSeen, ParserGoes, ParserMeets, ParserStands, IsOwn, SomeWaits, place_of, capture_at, source_of, parser_view, parser_tells}
use Rattle.net_law.proofs.Going.{parser_then}
use Rattle.parser_node.specs.Passing.{Polls, SameTaken, HasEnded, StepTakes, GoesCalm, RestsBy, PassTells, OnePass, AllTell, ManyPasses, HasPassed, MeetsFault, taken_in, ended_in}

-- ---- frames that wait

pub none_by_count : (queues : List (List Frame)) → sum_by length queues ≡ 0 → (k : ℕ) → get_or queues k [] ≡ []
none_by_count [] none k = refl
none_by_count (q ∷ queues) none zero = nil_from_length q (omega (arith, none, sum_by-cons length q queues))
none_by_count (q ∷ queues) none (suc k) = none_by_count queues (omega (arith, none, sum_by-cons length q queues)) k

pub some_by_count : (queues : List (List Frame)) → 0 < sum_by length queues → (k : ℕ) × (0 < length (get_or queues k []))
some_by_count [] some = absurd (omega (arith, some))
some_by_count ([] ∷ queues) some = let rest = some_by_count queues (omega (arith, some, sum_by-cons length [] queues)) in (suc rest.0, rest.1)
some_by_count ((f ∷ fs) ∷ queues) some = (0, omega arith)

-- ---- what was sent, whatever waits

abbrev sent_over : TxSeen → ℕ
sent_over l = length l.forth.bytes + length l.back.bytes

sent_total : (links : List TxSeen) (queues : List (List Frame)) → sum_by sent_by (senders_with links queues) ≡ sum_by sent_over links
sent_total [] queues = refl
sent_total (l ∷ links) [] =
    let rest = sent_total links [] in
    omega (arith, rest, sum_by-cons sent_by (sender_view 0 l) (senders_with links []), sum_by-cons sent_over l links)
sent_total (l ∷ links) (q ∷ queues) =
    let rest = sent_total links queues in
    omega (arith, rest, sum_by-cons sent_by (sender_view (length q) l) (senders_with links queues), sum_by-cons sent_over l links)

sent_same : (before after : ShuffleSeen) → after.links ≡ before.links → sum_by sent_by (senders_of after) ≡ sum_by sent_by (senders_of before)
sent_same before after same = sent_total after.links after.queues ∙ ap (sum_by sent_over) same ∙ sym (sent_total before.links before.queues)

-- ---- captures that ended

once_few : (b : Bool) → (if b then 1 else 0) ≤ 1
once_few true = omega arith
once_few false = omega arith

reads_few : (s : ParserSeen) → ParserStands s → length s.reads ≤ 64
reads_few s stands =
    ⊎_elim (λ (none : length s.reads ≡ 0). omega (arith, none))
    (λ (some : (i : ℕ) × (length s.reads ≡ i + 1)).
    let last = stands.own some.0 (omega (arith, some.1)) in
    let within : capture_at s some.0 < length s.job.captures = last.0 in
    let grows : some.0 * 1 ≤ some.0 * s.parsers = mul-le-mul_left some.0 (omega (arith, stands.place.0)) in
    let few : length s.job.captures ≤ 64 = stands.job_is.captures.1 in
    omega (arith, within, grows, few, some.1))
    (by_last (length s.reads))
  where
    by_last : (n : ℕ) → (n ≡ 0) ⊎ ((i : ℕ) × (n ≡ i + 1))
    by_last zero = inl refl
    by_last (suc i) = inr (i, omega arith)

ended_few : (s : ParserSeen) → ParserStands s → ended_in s ≤ 64
ended_few s stands =
    let all : ended_in s ≤ length s.reads * 1 = sum_within (λ (r : Reading). if r.ended then 1 else 0) unread 1 (length s.reads) s.reads refl (λ k less. once_few (get_or s.reads k unread).ended) in
    omega (arith, all, reads_few s stands)

-- ---- going on

tells_on : (a b : ParserSeen) → OutsGo a.outs b.outs → parser_tells a → parser_tells b
tells_on a b goes tells = record { ins = λ j d less. absurd (omega (arith, less)); outs = outs_tell a.outs b.outs goes tells.outs }

calm_on : (a b c : ParserSeen) → GoesCalm a b → GoesCalm b c → GoesCalm a c
calm_on a b c f g = record {
  goes = parser_then a b c f.goes g.goes;
  calm = outs_calm_on a.outs b.outs c.outs f.goes.outs.as_many f.calm g.calm;
  no_less = λ tells. omega (arith, f.no_less tells, g.no_less (tells_on a b f.goes.outs tells));
}

same_on : (a b c : ParserSeen) → SameTaken a b → SameTaken b c → SameTaken a c
same_on a b c f g = record { read = g.read ∙ f.read; records = g.records ∙ f.records }

-- the same was read where the readings are the same
pub same_reads : (a b : ParserSeen) → b.reads ≡ a.reads → SameTaken a b
same_reads a b same = record { read = ap (sum_by (λ (r : Reading). length r.bytes)) same; records = ap (sum_by (λ (r : Reading). length r.records)) same }

-- ---- a step and a poll behind it

module _ (a b c : ParserSeen) (took ended did waits : Bool) (steps : StepTakes took ended a b) (goes : ParserGoes a b) (links : b.outs.links ≡ a.outs.links)
    (polls : Polls took did b.outs c.outs) (polled : ParserGoes b c) (reads : c.reads ≡ b.reads) (put : (k : ℕ) → put_on c.outs k ≡ put_on b.outs k) (rests : RestsBy waits c) where
  taken_more : taken_in a ≤ taken_in b
  taken_more = by_took took refl
    where
      by_took : (t : Bool) → took ≡ t → taken_in a ≤ taken_in b
      by_took true is = omega (arith, steps.taken is)
      by_took false is = let same = steps.same is in omega (arith, same.read, same.records)

  moved_by_step : moved (parser_view b) + taken_in a ≡ moved (parser_view a) + taken_in b
  moved_by_step = omega (arith, sent_same a.outs b.outs links)

  moved_by_poll : moved (parser_view c) + sum_by sent_by (senders_of b.outs) ≡ moved (parser_view b) + sum_by sent_by (senders_of c.outs)
  moved_by_poll = let same = same_reads b c reads in omega (arith, same.read, same.records)

  pass_goes : GoesCalm a c
  pass_goes = record {
    goes = parser_then a b c goes polled;
    calm = outs_calm_on a.outs b.outs c.outs goes.outs.as_many
        (λ k d less. (ap (λ (l : List TxSeen). (get_or l k d).forth.faults) links, ap (λ (l : List TxSeen). (get_or l k d).back.faults) links)) polls.calm;
    no_less = λ tells. omega (arith, taken_more, moved_by_step, moved_by_poll, polls.no_less (tells_on a b goes.outs tells).outs);
  }

  pass_tells : PassTells (took || did) a c
  pass_tells = by_both took did refl refl
    where
      by_both : (t d : Bool) → took ≡ t → did ≡ d → PassTells (t || d) a c
      by_both true d yes_took is = λ tells. omega (arith, steps.taken yes_took, moved_by_step, moved_by_poll, polls.no_less (tells_on a b goes.outs tells).outs)
      by_both false true no_step more = λ tells. omega (arith, taken_more, moved_by_step, moved_by_poll, polls.more more (tells_on a b goes.outs tells).outs)
      by_both false false no_step none = (same_on a b c (steps.same no_step) (same_reads b c reads), record { put = b.outs; links = links; still = polls.still none no_step })

  pass_rests : RestsBy (ended || waits) c
  pass_rests = by_ended ended refl waits rests
    where
      ended_still : HasEnded b → HasEnded c
      ended_still h = record {
        read = subst (λ (rs : List Reading). All (λ (r : Reading). r.ended ≡ true) rs) (sym reads) h.read;
        put = λ k less. subst (λ (fs : List Frame). IsTrue (has_finish fs)) (sym (put k)) (h.put k (omega (arith, less, polled.outs.as_many)));
      }

      by_ended : (e : Bool) → ended ≡ e → (w : Bool) → RestsBy w c → RestsBy (e || w) c
      by_ended true is w h = inr (ended_still (steps.ended is))
      by_ended false is w h = h

  pass_counts : (ended || waits) ≡ false → taken_in a + ended_in a + 1 ≤ taken_in c + ended_in c
  pass_counts none =
      let same = same_reads b c reads in
      let as_many : ended_in c ≡ ended_in b = ap (sum_by (λ (r : Reading). if r.ended then 1 else 0)) reads in
      omega (arith, steps.counts (first_false ended waits none), same.read, same.records, as_many)
    where
      first_false : (x y : Bool) → (x || y) ≡ false → x ≡ false
      first_false true y e = e
      first_false false y e = refl

  pub pass_by : OnePass (took || did) (ended || waits) a c
  pass_by = record { goes = pass_goes; tells = pass_tells; rests_by = pass_rests; counts = pass_counts }

-- ---- many passes

-- the first poll
pub passes_begin : (a b : ParserSeen) (did waits : Bool) → Polls false did a.outs b.outs → ParserGoes a b → b.reads ≡ a.reads → RestsBy waits b → ManyPasses did waits 0 a b
passes_begin a b did waits polls goes reads rests = record {
  goes = record { goes = goes; calm = polls.calm; no_less = λ tells. let same = same_reads a b reads in omega (arith, same.read, same.records, polls.no_less tells.outs) };
  tells = by_did did refl;
  rests_by = rests;
  counts = λ none.
      let same = same_reads a b reads in
      let as_many : ended_in b ≡ ended_in a = ap (sum_by (λ (r : Reading). if r.ended then 1 else 0)) reads in
      omega (arith, same.read, same.records, as_many);
}
  where
    by_did : (d : Bool) → did ≡ d → AllTell d a b
    by_did true is = λ tells. let same = same_reads a b reads in omega (arith, same.read, same.records, polls.more is tells.outs)
    by_did false is = (same_reads a b reads, polls.still is refl)

pub passes_go_on : (number : ℕ) (a b c : ParserSeen) (did again rests : Bool) (count : ℕ) → OutsStand number c.outs → ManyPasses did false count a b → OnePass again rests b c
    → ManyPasses (did || again) rests (count + 1) a c
passes_go_on number a b c did again rests count stand f g = record {
  goes = calm_on a b c f.goes g.goes;
  tells = by_both did again f.tells g.tells;
  rests_by = g.rests_by;
  counts = λ none. omega (arith, f.counts refl, g.counts none);
}
  where
    by_both : (d e : Bool) → AllTell d a b → PassTells e b c → AllTell (d || e) a c
    by_both true e first second = λ tells. omega (arith, first tells, g.goes.no_less (tells_on a b f.goes.goes.outs tells))
    by_both false true first second = λ tells. omega (arith, f.goes.no_less tells, second (tells_on a b f.goes.goes.outs tells))
    by_both false false first second =
        let p = second.1 in (
          same_on a b c first.0 second.0,
          rest_again number a.outs b.outs p.put c.outs first.1 p.links f.goes.goes.outs.as_many p.still (g.goes.goes.outs.as_many ∙ ap length (sym p.links)) stand,
        )

-- a frame waits, or all has ended
pub passes_rest : (a b : ParserSeen) (did : Bool) (count : ℕ) → ManyPasses did true count a b → HasPassed did a b
passes_rest a b did count f = record {
  goes = f.goes;
  tells = f.tells;
  rests = λ none. f.rests_by;
  works = λ none going.
      ⊎_elim (λ (waits : SomeWaits b.outs). absurd (omega (arith, waits.1, ap length (none waits.0)))) (λ (ended : HasEnded b). absurd (going ended.read)) f.rests_by;
}

-- after more passes than there are captures
pub passes_end : (a b : ParserSeen) (did rests : Bool) → ParserStands b → ManyPasses did rests 1024 a b → HasPassed did a b
passes_end a b did true stands f = passes_rest a b did 1024 f
passes_end a b did false stands f = record {
  goes = f.goes;
  tells = f.tells;
  rests = λ none. absurd (never did none f.tells);
  works = λ none going. omega (arith, f.counts refl, ended_few b stands);
}
  where
    never : (d : Bool) → d ≡ false → AllTell d a b → ⊥
    never true wrong tells = cc
    never false is tells = let same = tells.0 in omega (arith, same.read, same.records, f.counts refl, ended_few b stands)

-- ---- faults

-- a capture of the parser as it was
own_before : (a b : ParserSeen) (capture : ℕ) → ParserGoes a b → IsOwn b capture → IsOwn a capture
own_before a b capture goes own =
    let same = goes.same in (
      subst (λ job. capture < length job.captures) same.0 own.0,
      subst (λ (n : ℕ). capture % n ≡ a.me) same.2 (own.1 ∙ same.1),
    )

module _ (a b c : ParserSeen) (goes : ParserGoes a b) (calm : OutsAreCalm a.outs b.outs) (was : ParserStands a) (none : a.fault ≡ None) (now : ParserStands b) (still : b.fault ≡ None) where
  -- no source has failed yet
  sources_calm : (i : ℕ) (d : SourceSeen) → i < length a.sources → (get_or b.sources i d).faults ≡ (get_or a.sources i d).faults
  sources_calm i d less =
      let first : (get_or a.sources i d).faults ≡ 0 = (was.quiet none).0 i d less in
      let second : (get_or b.sources i d).faults ≡ 0 = (now.quiet still).0 i d (omega (arith, less, goes.as_many.0)) in
      second ∙ sym first

  meets_later : (bad : NodeFault) → ParserMeets b c bad → ParserMeets a c bad
  meets_later (Malformed capture bad) h = (own_before a b capture goes h.0, h.1)
  meets_later (Read capture) h =
      let own = own_before a b capture goes h.0 in (
        own,
        λ d.
            let place : place_of b capture ≡ place_of a capture = ap (λ (n : ℕ). capture / n) goes.same.2 in
            let within : place_of a capture < length a.sources = omega (arith, was.captures capture own, was.lengths.0) in
            let first : (source_of b capture d).faults ≡ (source_of a capture d).faults = ap (λ (i : ℕ). (get_or b.sources i d).faults) place ∙ sources_calm (place_of a capture) d within in
            subst (λ (n : ℕ). Rose n (source_of c capture d).faults) first (h.1 d),
      )
  meets_later Write h = absurd h
  meets_later (Link link bad) h =
      let there : link < length a.outs.links = omega (arith, h.0, goes.outs.as_many) in (
        there,
        λ d.
            let m = h.1 d in
            let quiet = calm link d there in
            record { kept = m.kept; mid = m.mid; stands = m.stands; quiet = m.quiet; calm = (m.calm.0 ∙ quiet.0, m.calm.1 ∙ quiet.1); same = m.same; cut = m.cut; fails = m.fails },
      )
  meets_later OutOfMemory h = tt

  pub fault_later : (bad : NodeFault) → MeetsFault b c bad → MeetsFault a c bad
  fault_later bad h = record { goes = parser_then a b c goes h.goes; meets = meets_later bad h.meets }

-- a poll met a fault
pub poll_meets : (a b : ParserSeen) (bad : NodeFault) → OutsMeet 0 a.outs b.outs bad → ParserMeets a b bad
poll_meets a b bad met =
    let zero_first : 0 + met.k ≡ met.k = omega arith in
    subst (λ (f : NodeFault). ParserMeets a b f) (sym (met.named ∙ ap (λ (k : ℕ). Link k met.bad) zero_first)) (met.there, met.meets)
