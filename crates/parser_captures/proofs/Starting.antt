-- A step that went on after its reader alone had gone on.
use Rattle.std.specs.Prelude.{Result, Ok, Err, MatchResult}
use Rattle.ds_base.specs.Outside.{SourceSeen}
use Rattle.input_files.specs.Reading.{Reading}
use Rattle.summary_spec.specs.Declaration.{Declared}
use Rattle.parser_captures.specs.Captures.{Advances, StopsBy, StaysAs}
use Rattle.parser_captures.specs.declared.capture.CaptureStop.{CaptureStop}
use Rattle.parser_captures.specs.declared.capture.CaptureStop.TheVariants.{Malformed, Unread, OutOfMemory}
use Rattle.parser_captures.specs.declared.capture.OneCapture.{OneCapture}
use Rattle.parser_captures.specs.declared.capture.Step.{Step}
use Rattle.parser_captures.specs.declared.capture.Step.TheVariants.{Took, Bytes, End}

stays : (job : Declared) (old new : OneCapture) (r : Reading) → StaysAs job (record old { reading = r }) new → StaysAs job old new
stays job old new r h = record { stands = h.stands; bytes = h.bytes; records = h.records; behind = h.behind }

pub from_reader : (job : Declared) (old new : OneCapture) (r : Reading) (before after : SourceSeen) (result : Result Step CaptureStop)
    → MatchResult result (Advances job (record old { reading = r }) new before after) (StopsBy job (record old { reading = r }) new before after)
    → MatchResult result (Advances job old new before after) (StopsBy job old new before after)
from_reader job old new r before after (Ok (Took found)) h = (h.0, record { stands = h.1.stands; taken = h.1.taken; reading = h.1.reading; accepted = h.1.accepted; lawful = h.1.lawful; early = h.1.early; behind = h.1.behind })
from_reader job old new r before after (Ok Bytes) h = (h.0, record { stands = h.1.stands; piece = h.1.piece; some = h.1.some; reading = h.1.reading; behind = h.1.behind; left = h.1.left })
from_reader job old new r before after (Ok (End counts)) h = (h.0, record { stands = h.1.stands; reading = h.1.reading; whole = h.1.whole; fared = h.1.fared; behind = h.1.behind; left = h.1.left; all = h.1.all })
from_reader job old new r before after (Err (Malformed bad)) h = (h.0, stays job old new r h.1, h.2, h.3, h.4)
from_reader job old new r before after (Err Unread) h = (h.0, stays job old new r h.1, h.2, h.3)
from_reader job old new r before after (Err OutOfMemory) h = (h.0, stays job old new r h.1, h.2)
