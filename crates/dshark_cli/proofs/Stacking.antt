-- How `stack` ends, by how its lines were written.
use Rattle.std.proofs.Common.{ℕ, List, [], ◌∷◌, ◌≡◌, ◌<◌, refl, arith}
use Rattle.ds_base.specs.declared.capture.PcapFault.{PcapFault}
use Rattle.ds_base.specs.Outside.{SinkSeen, FolderSeen}
use Rattle.command_words.specs.Words.Asked.{AskedStack}
use Rattle.input_files.specs.Files.{IsMalformed}
use Rattle.input_files.specs.declared.fault.CaptureFault.TheVariants.{Malformed, Unread, OutOfMemory}
use Rattle.job_inputs.specs.Captures.{IsFirstMalformed}
use Rattle.stack_lines.specs.Printing.{PrintsFile, StopsFile}
use Rattle.stack_lines.specs.declared.fault.StackFault.{StackFault}
use Rattle.stack_lines.specs.declared.fault.StackFault.TheVariants.{Capture, Unwritten}
use Rattle.stack_lines.specs.declared.line.Asking.{Asking}
use Rattle.dshark_cli.specs.Faults.{of_stack}
use Rattle.dshark_cli.specs.Rooms.{room_of}
use Rattle.dshark_cli.specs.Run.{EndsOk, EndsBy}
use Rattle.job_inputs.proofs.Missing.{has_file}
use Rattle.dshark_cli.proofs.Missing.{unread_first}

-- the only capture is the first malformed one
first_of_one : (folder : FolderSeen) (name : List ℕ) (at : ℕ) (what : PcapFault) → IsMalformed folder name at what
    → IsFirstMalformed folder (name ∷ []) 0 at what
first_of_one folder name at what bad =
    (name, refl, bad, (λ k other less is. absurd (let below : k < 0 = less in omega (arith, below))), (has_file folder name bad.0 bad.1, tt))

pub stack_ok : (asking : Asking) (name : List ℕ) (before after : FolderSeen) (old new : SinkSeen) → PrintsFile asking name before after old new
    → EndsOk (room_of (AskedStack asking.port asking.field name)) before after old new
stack_ok asking name before after old new h = record {
  folder_quiet = h.folder_quiet;
  out_quiet = h.out_quiet;
  leaves = λ none. absurd (let no : 1 ≡ 0 = none in cc);
  sound = λ told. (tt, (h.sound told, tt));
  whole = h.whole;
}

pub stack_stops : (asking : Asking) (name : List ℕ) (before after : FolderSeen) (old new : SinkSeen) (fault : StackFault)
    → StopsFile asking name before after old new fault
    → EndsBy (room_of (AskedStack asking.port asking.field name)) before after old new (of_stack fault)
stack_stops asking name before after old new (Capture (Malformed at what)) h =
    (omega arith, h.0, (λ told. first_of_one before name at what (h.1 told)), h.2, λ out. tt)
stack_stops asking name before after old new (Capture Unread) h = (omega arith, (λ told. unread_first before after name [] 0 refl (h told)), λ out. tt)
stack_stops asking name before after old new (Capture OutOfMemory) h = ((λ none. absurd (let no : 1 ≡ 0 = none in cc)), λ out. tt)
stack_stops asking name before after old new Unwritten h = (h, tt, (λ none. absurd (let no : 1 ≡ 0 = none in cc)), λ told. tt)
