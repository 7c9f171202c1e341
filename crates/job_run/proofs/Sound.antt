-- Where all is done, no capture is malformed.
use Rattle.std.proofs.Common.{ℕ, suc, List, [], ◌∷◌, ◌≡◌, ◌<◌, ◌%◌, None, length, refl, subst, arith}
use Rattle.ds_base.specs.Fronts.{IsIn}
use Rattle.node_frames.specs.declared.frame.Frame.TheVariants.{CaptureEnd, Finish}
use Rattle.pcap_reader.specs.Good.{good}
use Rattle.key_select.specs.Wanted.{good_of}
use Rattle.summary_spec.specs.Declaration.{Declared}
use Rattle.run_law.specs.Links.{ItemRule}
use Rattle.run_law.specs.Nodes.{IsWhole, ParserKeeps}
use Rattle.run_law.specs.Shapes.{Shape, IsShape}
use Rattle.run_law.specs.Snapshot.{Lists, Snapshot, AreDone, file_of}
use Rattle.run_law.proofs.Lists.{in_front}
use Rattle.run_law.proofs.Standing.{Stands, stands}
use Rattle.job_run.specs.Ends.{AreSound}

-- its end was put, and so the ends of all captures before it
pub sound_at_end : (job : Declared) (files : List (List ℕ)) (shape : Shape) (start : List ℕ) (lists : Lists) → IsShape shape
    → Snapshot job files shape start lists → AreDone job shape start lists
    → (c : ℕ) → c < length job.captures → (good None (file_of files c)).bad ≡ None
sound_at_end job files shape start lists is snap done c less =
    let p : ℕ = c % shape.parsers in
    let own : p < shape.parsers = (let some = is.parsers in omega arith) in
    let keeps : ParserKeeps job shape p lists.read (λ g. (lists.items p g).put) (lists.counts p).put = snap.parsers p own in
    let step = snap.items_step p 0 own is.groupers in
    let finish : IsIn Finish (lists.items p 0).put =
    in_front Finish (lists.items p 0).sent (lists.items p 0).put step.sent (in_front Finish (lists.items p 0).taken (lists.items p 0).sent step.taken (done.items p 0 own is.groupers)) in
    let end : Stands (ItemRule job shape p 0) (lists.items p 0).put Finish = stands (ItemRule job shape p 0) (lists.items p 0).put Finish (keeps.lawful 0 is.groupers) finish in
    let whole : IsWhole job c (lists.read c) =
    keeps.ends 0 c is.groupers (in_front (CaptureEnd c) end.before (lists.items p 0).put end.front (end.own c (less, refl))) in
    subst (λ (bytes : List ℕ). (good_of job c bytes).bad ≡ None) ((snap.read c less).whole whole.ended) whole.sound

-- one by one
pub all_sound : (files : List (List ℕ)) → ((c : ℕ) → c < length files → (good None (file_of files c)).bad ≡ None) → AreSound files
all_sound [] each = tt
all_sound (file ∷ files) each = (each 0 (omega arith), all_sound files (λ c less. each (suc c) (omega (arith, less))))
