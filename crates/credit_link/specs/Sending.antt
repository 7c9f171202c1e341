-- What the sender of a link keeps, whatever its pipes are.
use Rattle.std.specs.Prelude.{ℕ, ◌≡◌, ◌≢◌, ◌<◌, ◌≤◌, ◌+◌, ◌-◌, ◌^◌, ◌⊎◌, Bool, false, Option, Some, None, List, [], length, take, replicate, slice_index}
use Rattle.sha2.specs.Hashers.{Holds256}
use Rattle.sha2.specs.declared.Sha256.{Sha256}
use Rattle.node_frames.specs.declared.frame.Frame.{Frame}
use Rattle.node_frames.specs.Buffer.{Buffer}
use Rattle.node_frames.specs.Link.{SpellsAll}
use Rattle.credit_link.specs.declared.link_bad.LinkBad.{LinkBad}
use Rattle.credit_link.specs.declared.link_bad.LinkBad.TheVariants.{Credit}
use Rattle.credit_link.specs.Frames.{capped, IsCounted, bytes_of_all, has_finish, FinishIsLast}

-- `left` are the bytes of the frames offered that have not gone into the data pipe, `held` the frames that
-- no credit came back for, and `repaid` the credits that came back
pub record SenderSeen : Type 0 where
  pub credits : ℕ
  pub offered : List Frame
  pub left : List ℕ
  pub held : ℕ
  pub repaid : ℕ
  pub most_held : ℕ
  pub finished : Bool
  pub fault : Option LinkBad

-- a sender that was offered nothing
abbrev pub new_sender : (credits : ℕ) → SenderSeen
new_sender credits = record { credits = credits; offered = []; left = []; held = 0; repaid = 0; most_held = 0; finished = false; fault = None }

-- what is true of every sender
pub record SenderStands (s : SenderSeen) : Type 0 where
  pub some : 0 < s.credits
  pub within : s.held ≤ s.credits
  pub most : s.held ≤ s.most_held
  pub most_within : s.most_held ≤ s.credits
  pub repaid_fits : s.repaid < 2 ^ 64
  pub counts : IsCounted s.offered → s.held + s.repaid ≡ length s.offered
  pub spelled : IsCounted s.offered → SpellsAll s.offered (bytes_of_all s.offered) []
  pub ended : s.finished ≡ has_finish s.offered
  pub last : FinishIsLast s.offered

-- the send buffer holds the bytes left behind the first `gone`, and has room for a frame once it is empty;
-- the digest is that of all bytes so far
pub record Buffers (offered : List Frame) (out : Buffer) (gone sent : ℕ) (digest : Sha256) (finished : Bool) : Type 0 where
  pub gone_within : gone ≤ length out.bytes
  pub room : 1028 ≤ length out.bytes + out.spare
  pub short : length out.bytes ≤ 1028
  pub sent_is : sent ≡ capped (length offered)
  pub digested : finished ≡ false → Holds256 digest (bytes_of_all offered)

-- so many bytes of the credit pipe, each of them 1, are so many credits that came back
pub record CreditsTaken (before after : SenderSeen) (coins : List ℕ) : Type 0 where
  pub ones : coins ≡ replicate (length coins) 1
  pub within : length coins ≤ before.held
  pub same : after ≡ record before { held = before.held - length coins; repaid = capped (before.repaid + length coins) }

-- behind `taken` credits stands a byte that is none: it is not 1, or no frame is held any more
pub record NoCredit (before after : SenderSeen) (coins : List ℕ) (bad : LinkBad) : Type 0 where
  pub taken : ℕ
  pub within : (taken < length coins) × (taken ≤ before.held)
  pub ones : take taken coins ≡ replicate taken 1
  pub wrong : (slice_index coins taken ≢ 1) ⊎ (taken ≡ before.held)
  pub named : bad ≡ Credit (capped (before.repaid + taken)) (slice_index coins taken)
  pub same : after ≡ record before { held = before.held - taken; repaid = capped (before.repaid + taken); fault = Some bad }
