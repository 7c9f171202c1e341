-- The promises of the top call, by how the command ended that the words ask for.
use Rattle.std.proofs.Common.{ℕ, List, ◌≡◌, ◌∙◌, Option, Some, None, refl, sym, ap, subst, inl, inr}
use Rattle.std.specs.Prelude.{◌⊎◌, IsTrue, IsSomeAnd}
use Rattle.command_words.specs.Words.{Asked, Accepts, IsPlace}
use Rattle.ds_base.specs.Faults.{IsQuiet}
use Rattle.ds_base.specs.Gain.{GainsPrefix}
use Rattle.ds_base.specs.Outside.{SinkSeen}
use Rattle.job_values.specs.declared.fault.JobFault.{JobFault}
use Rattle.run_faults.specs.declared.fault.RunFault.{RunFault}
use Rattle.run_faults.specs.declared.fault.RunFault.TheVariants.{Usage, BadJob, Malformed, ReadFault, WriteFault, OutOfMemory}
use Rattle.output_text.proofs.Gaining.{gains_nothing}
use Rattle.job_inputs.specs.Jobs.{IsBadJob}
use Rattle.dshark_cli.specs.Promises.{Asks, IfAsked, AsksSound, AsksBadJob, WaitsBefore, Promises}
use Rattle.dshark_cli.specs.Rooms.{Room, room_of, job_of, captures_of, files_of, IsSound, LeavesFolder, HasWaited, HasWritten}
use Rattle.dshark_cli.specs.Run.{Run, EndsOk, EndsBy, Ends}
use Rattle.dshark_cli.specs.Words.{Give, due}
use Rattle.dshark_cli.proofs.Asking.{only_none, only_some}
use Rattle.dshark_cli.proofs.Rooms.{quiet_not_rose, one_fault, not_bad_job, not_malformed, all_there_and_read, files_there, bad_and_unread, bad_and_malformed, bad_and_ready, has_no_job, has_no_capture, has_no_file}

-- ---- by the words

-- what holds of the only command that is asked holds of whatever is
if_asked : (run : Run) (asked : Asked) (P : Room → Type 0) → ((other : Asked) → Accepts run.words other → other ≡ asked) → P (room_of asked)
    → IfAsked run P
if_asked run asked P only holds other asks =
    let Q : Asked → Type 0 = λ a. P (room_of a) in
    subst Q (sym (only other asks)) holds

of_asked : (run : Run) (asked : Asked) (P : Room → Type 0) → ((other : Asked) → Accepts run.words other → other ≡ asked) → Asks run P
    → P (room_of asked)
of_asked run asked P only (other, asks, holds) =
    let Q : Asked → Type 0 = λ a. P (room_of a) in
    subst Q (only other asks) holds

-- ---- by how it ended

waited_by : (room : Room) (run : Run) (fault : RunFault) → EndsBy room run.before run.after run.old run.new fault → WaitsBefore fault
    → IsTrue run.old.told → HasWaited room.writes run.old run.new
waited_by room run (Usage place) h waits out = absurd waits
waited_by room run (BadJob fault) h waits out = h.3 out
waited_by room run (Malformed capture at what) h waits out = h.4 out
waited_by room run (ReadFault file) h waits out = h.2 out
waited_by room run WriteFault h waits out = absurd waits
waited_by room run OutOfMemory h waits out = h.1 out

leaves_by : (room : Room) (run : Run) (ended : Option RunFault) → Ends room run ended → LeavesFolder room.opens run.before run.after
leaves_by room run None h none = h.leaves none
leaves_by room run (Some (Usage place)) h none = absurd h
leaves_by room run (Some (BadJob fault)) h none = absurd (has_no_job room.opens h.0 none)
leaves_by room run (Some (Malformed capture at what)) h none = absurd (has_no_capture room.opens capture h.0 none)
leaves_by room run (Some (ReadFault file)) h none = absurd (has_no_file room.opens file h.0 none)
leaves_by room run (Some WriteFault) h none = h.2 none
leaves_by room run (Some OutOfMemory) h none = h.0 none

-- a refused job ends it with its fault or for want of memory, where nothing of the folder failed
refused_ends : (room : Room) (run : Run) (fault : JobFault) (ended : Option RunFault) → Ends room run ended
    → IsSomeAnd (job_of room.opens) (λ name. IsBadJob run.before name fault) → IsTrue run.before.told → IsQuiet run.before.faults run.after.faults
    → (ended ≡ Some (BadJob fault)) ⊎ (ended ≡ Some OutOfMemory)
refused_ends room run fault None h bad told quiet = absurd (not_bad_job (job_of room.opens) run.before fault (h.sound told).0 bad)
refused_ends room run fault (Some (Usage place)) h bad told quiet = absurd h
refused_ends room run fault (Some (BadJob other)) h bad told quiet =
    inl (ap (λ (f : JobFault). Some (BadJob f)) (one_fault (job_of room.opens) run.before other fault (h.2 told) bad))
refused_ends room run fault (Some (Malformed capture at what)) h bad told quiet =
    absurd (bad_and_malformed room.opens room.blames run.before fault capture at what bad (h.2 told))
refused_ends room run fault (Some (ReadFault file)) h bad told quiet =
    absurd (bad_and_unread room.opens run.before run.after fault file bad quiet (h.1 told))
refused_ends room run fault (Some WriteFault) h bad told quiet = absurd (bad_and_ready room.writes room.opens run.before fault bad (h.3 told))
refused_ends room run fault (Some OutOfMemory) h bad told quiet = inr refl

-- what is sound ends Ok or for want of memory, where nothing failed
sound_ends : (room : Room) (run : Run) (ended : Option RunFault) → Ends room run ended → IsSound room.opens run.before → IsTrue run.before.told
    → IsQuiet run.before.faults run.after.faults → IsQuiet run.old.faults run.new.faults → (ended ≡ None) ⊎ (ended ≡ Some OutOfMemory)
sound_ends room run None h sound told quiet silent = inl refl
sound_ends room run (Some (Usage place)) h sound told quiet silent = absurd h
sound_ends room run (Some (BadJob fault)) h sound told quiet silent = absurd (not_bad_job (job_of room.opens) run.before fault sound.0 (h.2 told))
sound_ends room run (Some (Malformed capture at what)) h sound told quiet silent =
    absurd (not_malformed room.blames run.before (captures_of room.opens run.before) capture at what sound.1 (h.2 told))
sound_ends room run (Some (ReadFault file)) h sound told quiet silent =
    absurd (all_there_and_read run.before run.after (files_of room.opens run.before) file (files_there room.opens run.before sound) quiet (h.1 told))
sound_ends room run (Some WriteFault) h sound told quiet silent = absurd (quiet_not_rose run.old.faults run.new.faults silent h.0)
sound_ends room run (Some OutOfMemory) h sound told quiet silent = inr refl

-- ---- all promises

-- of a command that the words ask for
pub promised : (run : Run) (asked : Asked) (ended : Option RunFault) → Accepts run.words asked
    → ((other : Asked) → Accepts run.words other → other ≡ asked)
    → (IsTrue run.before.told → IsTrue run.old.told → GainsPrefix run.old.written run.new.written ((room_of asked).due run.before))
    → Ends (room_of asked) run ended → Promises run ended
promised run asked ended asks only prefix h =
    let room : Room = room_of asked in
    let E : Option RunFault → Type 0 = Ends room run in
    let by : (fault : RunFault) → ended ≡ Some fault → EndsBy room run.before run.after run.old run.new fault = λ fault is. subst E is h in
    let well : ended ≡ None → EndsOk room run.before run.after run.old run.new = λ is. subst E is h in
    record {
      one = λ a b x y. only a x ∙ sym (only b y);
      ok_is_quiet = λ is. ((well is).folder_quiet, (well is).out_quiet);
      ok_is_whole = λ is told out. (asked, asks, ((well is).sound told, (well is).whole told out));
      ok_is_sound = λ is told. (asked, asks, (well is).sound told);
      always_a_prefix = λ told out other given.
          let P : Option Asked → Type 0 = λ a. GainsPrefix run.old.written run.new.written (due a run.before) in
          subst P (sym (only_some run.words asked asks only other given)) (prefix told out);
      usage = λ place is. absurd (by (Usage place) is);
      refused = λ place at. absurd (at.none asked asks);
      untouched = λ place at. absurd (at.none asked asks);
      bad_job = λ fault is. let e = by (BadJob fault) is in ((asked, asks, e.0), e.1, λ told. (asked, asks, e.2 told));
      job_refused = λ fault told bad quiet.
          refused_ends room run fault ended h (of_asked run asked (λ (r : Room). IsSomeAnd (job_of r.opens) (λ name. IsBadJob run.before name fault)) only bad) told quiet;
      malformed = λ capture at what is. let e = by (Malformed capture at what) is in ((asked, asks, e.0), (asked, asks, e.1), λ told. (asked, asks, e.2 told));
      written = λ capture at what is told out.
          if_asked run asked (λ (r : Room). HasWritten r.writes (r.due run.before) run.old run.new) only ((by (Malformed capture at what) is).3 told out);
      unread = λ file is. let e = by (ReadFault file) is in ((asked, asks, e.0), λ told. (asked, asks, e.1 told));
      waited = λ fault is waits out.
          if_asked run asked (λ (r : Room). HasWaited r.writes run.old run.new) only (waited_by room run fault (by fault is) waits out);
      unwritten = λ is. (by WriteFault is).0;
      ready = λ is. let e = by WriteFault is in ((asked, asks, e.1), λ told. (asked, asks, e.3 told));
      opens_nothing = if_asked run asked (λ (r : Room). LeavesFolder r.opens run.before run.after) only (leaves_by room run ended h);
      complete = λ told sound quiet silent.
          sound_ends room run ended h (of_asked run asked (λ (r : Room). IsSound r.opens run.before) only sound) told quiet silent;
    }

-- of words that are refused
pub promised_refusal : (run : Run) (place : ℕ) → IsPlace run.words place → ((other : ℕ) → IsPlace run.words other → other ≡ place)
    → run.after ≡ run.before → run.new ≡ run.old → Promises run (Some (Usage place))
promised_refusal run place at only folder out = record {
  one = λ a b x y. absurd (at.none a x);
  ok_is_quiet = λ is. absurd (let no : Some (Usage place) ≡ None = is in cc);
  ok_is_whole = λ is. absurd (let no : Some (Usage place) ≡ None = is in cc);
  ok_is_sound = λ is. absurd (let no : Some (Usage place) ≡ None = is in cc);
  always_a_prefix = λ told tells asked given.
      let P : Option Asked → Type 0 = λ a. GainsPrefix run.old.written run.new.written (due a run.before) in
      let Q : List ℕ → Type 0 = λ new. GainsPrefix run.old.written new (due None run.before) in
      subst P (sym (only_none run.words at.none asked given))
      (subst Q (ap (λ (s : SinkSeen). s.written) (sym out)) (gains_nothing run.old.written (due None run.before)));
  usage = λ other is. let same : place ≡ other = (let e : Some (Usage place) ≡ Some (Usage other) = is in cc) in subst (IsPlace run.words) same at;
  refused = λ other h. ap (λ (n : ℕ). Some (Usage n)) (sym (only other h));
  untouched = λ other h. (folder, out);
  bad_job = λ fault is. absurd (let no : Some (Usage place) ≡ Some (BadJob fault) = is in cc);
  job_refused = λ fault told asks quiet. absurd (at.none asks.0 asks.1);
  malformed = λ capture byte what is. absurd (let no : Some (Usage place) ≡ Some (Malformed capture byte what) = is in cc);
  written = λ capture byte what is. absurd (let no : Some (Usage place) ≡ Some (Malformed capture byte what) = is in cc);
  unread = λ file is. absurd (let no : Some (Usage place) ≡ Some (ReadFault file) = is in cc);
  waited = λ fault is waits tells asked asks. absurd (at.none asked asks);
  unwritten = λ is. absurd (let no : Some (Usage place) ≡ Some WriteFault = is in cc);
  ready = λ is. absurd (let no : Some (Usage place) ≡ Some WriteFault = is in cc);
  opens_nothing = λ asked asks. absurd (at.none asked asks);
  complete = λ told asks quiet silent. absurd (at.none asks.0 asks.1);
}
