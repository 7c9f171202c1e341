-- What each command opens, when it writes, which malformed capture it names, and what it owes: one value a
-- command, and all that the top call promises is said over these values. Whoever adds a command adds its value,
-- and an arm to `Opens` only where it opens its files in a way that no command has yet.
use Rattle.std.specs.Prelude.{ℕ, ◌≡◌, ◌<◌, ◌≤◌, ◌+◌, ◌++◌, List, [], ◌∷◌, Option, Some, None, IfSome, IsTrue, length, option_to_list, slice_get, codes}
use Rattle.ds_base.specs.Outside.{FolderSeen, SinkSeen, file_named}
use Rattle.ds_base.specs.declared.capture.PcapFault.{PcapFault}
use Rattle.command_words.specs.Words.{Asked}
use Rattle.command_words.specs.Words.Asked.{AskedCount, AskedStack, AskedCheck, AskedCentral, AskedRun, AskedSample, AskedHelp, AskedVersion}
use Rattle.command_words.specs.declared.help.TheConstants.{HELP, VERSION_LINE}
use Rattle.summary_spec.specs.CountJob.{count_job}
use Rattle.job_inputs.specs.Captures.{IsFirstMalformed, AreThere}
use Rattle.input_files.specs.Files.{IsMalformed}
use Rattle.job_inputs.specs.Jobs.{HasJob}
use Rattle.dshark_cli.specs.Said.{said_in, files_said, names_said, canonical_said}
use Rattle.job_inputs.specs.Reports.{report_in, AreAllSound}
use Rattle.dshark_cli.specs.Reports.{report_said}
use Rattle.stack_lines.specs.Printing.{lines_in}
use Rattle.new_pipeline.specs.Shapes.{IsWithin}
use Rattle.dshark_cli.specs.Shapes.{shape_of}
use Rattle.sample_run.specs.SampleLine.{sample_line}

-- ---- what a command opens

-- The files that a command opens, each kind by the file that the words give: no file; a capture; a job; a job
-- and then the captures that it declares.
pub data Opens : Type 0 where
  NoFile : Opens
  ACapture : List ℕ → Opens
  AJob : List ℕ → Opens
  AJobAndItsCaptures : List ℕ → Opens

-- the name of the job that is opened, where one is
abbrev pub job_of : Opens → Option (List ℕ)
job_of NoFile = None
job_of (ACapture file) = None
job_of (AJob job) = Some job
job_of (AJobAndItsCaptures job) = Some job

-- the names of the captures' files that are opened, in the order of the captures' numbers
abbrev pub captures_of : Opens → FolderSeen → List (List ℕ)
captures_of NoFile folder = []
captures_of (ACapture file) folder = file ∷ []
captures_of (AJob job) folder = []
captures_of (AJobAndItsCaptures job) folder = files_said (said_in folder job)

-- how many captures are opened at most, whatever the folder has
abbrev pub most_captures : Opens → ℕ
most_captures NoFile = 0
most_captures (ACapture file) = 1
most_captures (AJob job) = 0
most_captures (AJobAndItsCaptures job) = 64

-- the names of all files that are opened, in the order of the files' numbers: the job's, then the captures'
abbrev pub files_of : Opens → FolderSeen → List (List ℕ)
files_of opens folder = option_to_list (job_of opens) ++ captures_of opens folder

-- how many files are opened at most, whatever the folder has
abbrev pub most_files : Opens → ℕ
most_files opens = length (option_to_list (job_of opens)) + most_captures opens

-- the job, where one is opened, is there and not refused
abbrev pub AcceptsJob : Opens → FolderSeen → Type 0
AcceptsJob opens folder = IfSome (job_of opens) (HasJob folder)

-- what is opened is there, the job is not refused, and no capture is malformed
abbrev pub IsSound : Opens → FolderSeen → Type 0
IsSound opens folder = AcceptsJob opens folder × AreAllSound folder (captures_of opens folder)

-- a command that opens no file leaves the folder alone
abbrev pub LeavesFolder : Opens → FolderSeen → FolderSeen → Type 0
LeavesFolder opens before after = most_files opens ≡ 0 → after ≡ before

-- this is the name of the capture: `c` where the words give its file, and else the one that the job gives it
abbrev pub NamesCapture : Opens → FolderSeen → (name : List ℕ) → (capture : ℕ) → Type 0
NamesCapture (ACapture file) folder name capture = name ≡ codes "c"
NamesCapture (AJobAndItsCaptures job) folder name capture = IsTrue folder.told → slice_get (names_said (said_in folder job)) capture ≡ Some name
NamesCapture _ folder name capture = Unit {0}

-- ---- when a command writes

-- Once all files were read and found sound; or in step with the reading, so that all that is due before a
-- malformed place was written when it is found; or as soon as it can be known, while other files are read.
pub data Writes : Type 0 where
  AtTheEnd : Writes
  InStep : Writes
  AsItComes : Writes

-- what is known of the folder when the first byte is written
abbrev pub IsReady : Writes → Opens → FolderSeen → Type 0
IsReady AtTheEnd opens folder = IsSound opens folder
IsReady InStep opens folder = AcceptsJob opens folder
IsReady AsItComes opens folder = AcceptsJob opens folder × AreThere folder (captures_of opens folder)

-- no read has failed where a write fails, so that a failed write hides no failed read
abbrev pub HasReadAll : Writes → FolderSeen → FolderSeen → Type 0
HasReadAll AtTheEnd before after = after.faults ≡ before.faults
HasReadAll _ before after = Unit {0}

-- what was written where a fault other than a failed write is answered: nothing
abbrev pub HasWaited : Writes → SinkSeen → SinkSeen → Type 0
HasWaited AtTheEnd old new = new.written ≡ old.written
HasWaited _ old new = Unit {0}

-- what was written before a malformed capture is answered: all that is due
abbrev pub HasWritten : Writes → (due : List ℕ) → SinkSeen → SinkSeen → Type 0
HasWritten InStep due old new = new.written ≡ old.written ++ due
HasWritten _ due old new = Unit {0}

-- ---- which malformed capture a command names

-- the first of them that is malformed; or any that is, as where captures are read side by side
pub data Blames : Type 0 where
  TheFirst : Blames
  AnyOne : Blames

-- the capture that is named, with its first malformed place
abbrev pub IsBlamed : Blames → FolderSeen → (names : List (List ℕ)) → (capture at : ℕ) → PcapFault → Type 0
IsBlamed TheFirst folder names capture at what = IsFirstMalformed folder names capture at what
IsBlamed AnyOne folder names capture at what = (name : List ℕ) × (slice_get names capture ≡ Some name) × IsMalformed folder name at what

-- no read has failed where a malformed capture is named, if captures are read one by one
abbrev pub HasReadSo : Blames → FolderSeen → FolderSeen → Type 0
HasReadSo TheFirst before after = after.faults ≡ before.faults
HasReadSo AnyOne before after = Unit {0}

-- ---- the commands

pub record Room : Type 0 where
  -- the files that it opens, in order; it may answer `BadJob` where one is a job, and `Malformed` where some are captures
  pub opens : Opens
  -- when it writes
  pub writes : Writes
  -- which capture `Malformed` names
  pub blames : Blames
  -- the text that it owes: nothing where the folder lacks a file, or the job is refused
  pub due : FolderSeen → List ℕ

abbrev pub room_of : Asked → Room
room_of (AskedCount field window file) = record {
  opens = ACapture file;
  writes = AtTheEnd;
  blames = TheFirst;
  due = λ folder. report_in folder (count_job field window file);
}
room_of (AskedStack port field file) = record {
  opens = ACapture file;
  writes = InStep;
  blames = TheFirst;
  due = λ folder. lines_in folder (record { port = port; field = field }) file;
}
room_of (AskedCheck job) = record {
  opens = AJob job;
  writes = AtTheEnd;
  blames = TheFirst;
  due = λ folder. canonical_said (said_in folder job);
}
room_of (AskedCentral job) = record {
  opens = AJobAndItsCaptures job;
  writes = AtTheEnd;
  blames = TheFirst;
  due = λ folder. report_said folder (said_in folder job);
}
room_of (AskedRun job sizes) = record {
  opens = AJobAndItsCaptures job;
  writes = AsItComes;
  blames = AnyOne;
  due = λ folder. report_said folder (said_in folder job);
}
room_of (AskedSample number sizes) = record {
  opens = NoFile;
  writes = AtTheEnd;
  blames = TheFirst;
  due = λ folder. sample_line number;
}
room_of AskedHelp = record { opens = NoFile; writes = AtTheEnd; blames = TheFirst; due = λ folder. HELP.now }
room_of AskedVersion = record { opens = NoFile; writes = AtTheEnd; blames = TheFirst; due = λ folder. VERSION_LINE.now }

-- a window is at most an hour in nanoseconds, and a pipeline has 1 to 16 nodes of each kind and 1 to 1,024 credits a link
abbrev pub IsInLimits : Asked → Type 0
IsInLimits (AskedCount field window file) = window ≤ 3600000000000
IsInLimits (AskedRun job sizes) = IsWithin (shape_of sizes)
IsInLimits (AskedSample number sizes) = IsWithin (shape_of sizes)
IsInLimits _ = Unit {0}
