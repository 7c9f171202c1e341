-- What the receiver of a link keeps, whatever its pipes are.
use Rattle.std.specs.Prelude.{ℕ, ◌≡◌, ◌<◌, ◌≤◌, ◌+◌, ◌-◌, ◌^◌, replicate, Bool, false, ◌||◌, IsTrue, Option, Some, None, List, [], ◌∷◌, ◌++◌, length}
use Rattle.sha2.specs.Hashers.{Holds256}
use Rattle.sha2.specs.declared.Sha256.{Sha256}
use Rattle.node_frames.specs.declared.frame.Frame.{Frame}
use Rattle.node_frames.specs.Link.{Opens}
use Rattle.ds_base.specs.Pipes.{PipeSeen, PipeFails}
use Rattle.credit_link.specs.declared.link_bad.LinkBad.{LinkBad}
use Rattle.credit_link.specs.declared.link_bad.LinkBad.TheVariants.{Failed}
use Rattle.credit_link.specs.Moves.{EndMoves}
use Rattle.credit_link.specs.Frames.{capped, IsCounted, bytes_of_all, wire_behind, is_finish, has_finish}

-- `given` are the frames that were pulled, and `box` the bytes received behind them; `ungranted` of these
-- frames were not granted yet, `owed` credits were granted and have not gone out, and `paid` went out; `last`
-- is the offset of the frame that was pulled last
pub record ReceiverSeen : Type 0 where
  pub credits : ℕ
  pub given : List Frame
  pub box : List ℕ
  pub owed : ℕ
  pub paid : ℕ
  pub ungranted : ℕ
  pub last : ℕ
  pub finished : Bool
  pub fault : Option LinkBad

abbrev pub new_receiver : (credits : ℕ) → ReceiverSeen
new_receiver credits =
    record { credits = credits; given = []; box = []; owed = 0; paid = 0; ungranted = 0; last = 0; finished = false; fault = None }

-- what is true of every receiver
pub record ReceiverStands (s : ReceiverSeen) : Type 0 where
  pub some : 0 < s.credits
  pub box : length s.box ≤ 2056
  pub fits : (s.paid < 2 ^ 64) × (s.owed < 2 ^ 64) × (s.ungranted < 2 ^ 64)
  pub counts : IsCounted s.given → s.paid + s.owed + s.ungranted ≡ length s.given
  pub ended : s.finished ≡ has_finish s.given
  pub last : (frames : List Frame) (frame : Frame) → s.given ≡ frames ++ frame ∷ [] → s.last ≡ capped (length (bytes_of_all frames))

-- the box is the part of the buffer from `start` to `end`; the digest is that of all bytes of the frames given
pub record Counters (given : List Frame) (bytes : List ℕ) (start end taken at : ℕ) (over : Bool) (digest : Sha256) (finished : Bool) (fault : Option LinkBad) : Type 0 where
  pub whole : length bytes ≡ 2056
  pub within : (start ≤ end) × (end ≤ 2056)
  pub taken_is : taken ≡ capped (length given)
  pub over_is : over ≡ false → IsCounted given
  pub over_not : IsTrue over → 2 ^ 64 ≤ length given
  pub at_is : at ≡ capped (length (bytes_of_all given))
  pub digested : fault ≡ None → finished ≡ false → Holds256 digest (bytes_of_all given)

-- the next frame was pulled
pub record GivesFrame (before after : ReceiverSeen) (frame : Frame) : Type 0 where
  pub opens : Opens (wire_behind before.given frame) before.box after.box
  pub once : IsTrue (is_finish frame) → before.finished ≡ false
  pub same : after ≡ record before { given = before.given ++ frame ∷ []; box = after.box; ungranted = capped (before.ungranted + 1); last = capped (length (bytes_of_all before.given)); finished = before.finished || is_finish frame }

-- n bytes came into the box, which holds 2,056 at most
pub record Fills (before after : ReceiverSeen) (forth forth' : PipeSeen) (cut n : ℕ) : Type 0 where
  pub came : List ℕ
  pub count : length came ≡ n
  pub most : n ≤ cut
  pub same : after ≡ record before { box = before.box ++ came }
  pub bytes : IsTrue forth.told → forth'.bytes ≡ forth.bytes ++ came
  pub moves : EndMoves forth forth' ((0 < cut) × (length before.box < 2056)) n

-- n of the credits owed went out
pub record Pays (before after : ReceiverSeen) (back back' : PipeSeen) (cut n : ℕ) : Type 0 where
  pub within : n ≤ before.owed
  pub most : n ≤ cut
  pub same : after ≡ record before { owed = before.owed - n; paid = capped (before.paid + n) }
  pub bytes : IsTrue back.told → back'.bytes ≡ back.bytes ++ replicate n 1
  pub moves : EndMoves back back' ((0 < cut) × (0 < before.owed)) n

-- a call of a pipe failed
pub record Fails (before after : ReceiverSeen) (end end' : PipeSeen) (bad : LinkBad) : Type 0 where
  pub failed : bad ≡ Failed
  pub same : after ≡ record before { fault = Some bad }
  pub pipe : PipeFails end end'
