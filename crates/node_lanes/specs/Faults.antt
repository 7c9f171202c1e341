-- Why an end of a link of a node goes no further.
use Rattle.std.specs.Prelude.{ℕ, ◌≡◌, ◌⊎◌, List, [], ◌∷◌, ◌++◌, Some, None, length}
use Rattle.ds_base.specs.Faults.{Rose}
use Rattle.node_frames.specs.declared.frame.Frame.{Frame}
use Rattle.credit_link.specs.declared.link_bad.LinkBad.{LinkBad}
use Rattle.credit_link.specs.declared.link_bad.LinkBad.TheVariants.{Failed, Order}
use Rattle.credit_link.specs.Ends.{TxSeen, RxSeen, TxStands}
use Rattle.credit_link.specs.Frames.{capped, bytes_of_all}
use Rattle.credit_link.specs.Pulling.{MeetsBad}
use Rattle.credit_link.specs.Pumping.{TxFails, TxKeeps}

-- a sending end met a fault in a pump, and no pipe of it failed before that
pub record TxMeets (before after : TxSeen) (bad : LinkBad) : Type 0 where
  pub kept : after.fault ≡ Some bad
  pub mid : TxSeen
  pub stands : TxStands mid
  pub quiet : mid.fault ≡ None
  pub calm : (mid.forth.faults ≡ before.forth.faults) × (mid.back.faults ≡ before.back.faults)
  pub same : TxKeeps mid after
  pub cut : ℕ
  pub fails : TxFails mid after cut bad

-- a pipe of a receiving end failed
abbrev pub RxFailed : (before after : RxSeen) → Type 0
RxFailed before after = Rose before.forth.faults after.forth.faults ⊎ Rose before.back.faults after.back.faults

-- the frame that was taken last may not stand behind those before it
pub record MeetsOrder (MayStand : List Frame → Frame → Type 0) (given : List Frame) (bad : LinkBad) : Type 0 where
  pub frames : List Frame
  pub frame : Frame
  pub last : given ≡ frames ++ frame ∷ []
  pub named : bad ≡ Order (capped (length (bytes_of_all frames)))
  pub wrong : ¬ MayStand frames frame

-- a receiving end met a fault: a pipe failed, what stands next is no frame or no end of this link, or the frame taken
-- last may not stand there
abbrev pub RxMeets : (MayStand : List Frame → Frame → Type 0) (before after : RxSeen) → LinkBad → Type 0
RxMeets MayStand before after bad =
    ((bad ≡ Failed) × RxFailed before after)
    ⊎ (MeetsBad after.given after.finished after.box bad ⊎ MeetsOrder MayStand after.given bad)
