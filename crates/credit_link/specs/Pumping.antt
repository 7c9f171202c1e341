-- What one call of a link's end does to its two pipes.
use Rattle.std.specs.Prelude.{ℕ, ◌≡◌, ◌≢◌, ◌≤◌, ◌<◌, ◌+◌, ◌-◌, ◌++◌, ◌⊎◌, IsTrue, Some, List, ◌∷◌, length, take, drop, replicate}
use Rattle.ds_base.specs.Pipes.{PipeFails}
use Rattle.credit_link.specs.declared.link_bad.LinkBad.{LinkBad}
use Rattle.credit_link.specs.declared.link_bad.LinkBad.TheVariants.{Failed, Credit}
use Rattle.credit_link.specs.Frames.{capped}
use Rattle.credit_link.specs.Moves.{EndMoves}
use Rattle.credit_link.specs.Ends.{TxSeen, RxSeen}

-- n of the bytes left go into the data pipe
pub record PutsOut (before after : TxSeen) (cut n : ℕ) : Type 0 where
  pub same : after ≡ record before { left = drop n before.left; forth = after.forth }
  pub within : n ≤ length before.left
  pub most : n ≤ cut
  pub bytes : IsTrue before.forth.told → after.forth.bytes ≡ before.forth.bytes ++ take n before.left
  pub moves : EndMoves before.forth after.forth ((0 < cut) × (0 < length before.left)) n

-- n credits come back over the credit pipe
pub record TakesBack (before after : TxSeen) (cut n : ℕ) : Type 0 where
  pub same : after ≡ record before { held = before.held - n; repaid = capped (before.repaid + n); back = after.back }
  pub within : n ≤ before.held
  pub most : n ≤ cut
  pub bytes : IsTrue before.back.told → after.back.bytes ≡ before.back.bytes ++ replicate n 1
  pub moves : EndMoves before.back after.back ((0 < cut) × (0 < before.held)) n

-- behind some credits came a byte that is none: it is not 1, or no frame was held any more
pub record TakesNoCredit (before after : TxSeen) (bad : LinkBad) : Type 0 where
  pub taken : ℕ
  pub got : ℕ
  pub rest : List ℕ
  pub named : bad ≡ Credit (capped (before.repaid + taken)) got
  pub wrong : (got ≢ 1) ⊎ (taken ≡ before.held)
  pub within : taken ≤ before.held
  pub same : after ≡ record before { held = before.held - taken; repaid = capped (before.repaid + taken); fault = Some bad; back = after.back }
  pub bytes : IsTrue before.back.told → after.back.bytes ≡ before.back.bytes ++ (replicate taken 1 ++ got ∷ rest)
  pub told : after.back.told ≡ before.back.told

-- the credit pipe failed, or brought a byte that is no credit
abbrev pub FailsBack : (before after : TxSeen) → LinkBad → Type 0
FailsBack before after bad =
    ((bad ≡ Failed) × (after ≡ record before { fault = Some bad; back = after.back }) × PipeFails before.back after.back) ⊎ TakesNoCredit before after bad

-- a pump moved n bytes: so many of the bytes left went out, and so many credits came back
pub record TxPumps (before after : TxSeen) (cut n : ℕ) : Type 0 where
  pub put : ℕ
  pub paid : ℕ
  pub total : n ≡ put + paid
  pub same : after ≡ record before { left = drop put before.left; held = before.held - paid; repaid = capped (before.repaid + paid); forth = after.forth; back = after.back }
  pub put_within : (put ≤ length before.left) × (put ≤ cut)
  pub paid_within : (paid ≤ before.held) × (paid ≤ cut)
  pub put_bytes : IsTrue before.forth.told → after.forth.bytes ≡ before.forth.bytes ++ take put before.left
  pub paid_bytes : IsTrue before.back.told → after.back.bytes ≡ before.back.bytes ++ replicate paid 1
  pub forth : EndMoves before.forth after.forth ((0 < cut) × (0 < length before.left)) put
  pub back : EndMoves before.back after.back ((0 < cut) × (0 < before.held)) paid

-- a pump met a fault: the data pipe failed; or n bytes went out and then the credit pipe did
abbrev pub TxFails : (before after : TxSeen) (cut : ℕ) → LinkBad → Type 0
TxFails before after cut bad =
    ((bad ≡ Failed) × (after ≡ record before { fault = Some bad; forth = after.forth }) × PipeFails before.forth after.forth)
    ⊎ ((mid : TxSeen) × (n : ℕ) × PutsOut before mid cut n × FailsBack mid after bad)

-- what no pump changes, whatever it answers
pub record TxKeeps (before after : TxSeen) : Type 0 where
  pub credits : after.credits ≡ before.credits
  pub offered : after.offered ≡ before.offered
  pub most_held : after.most_held ≡ before.most_held
  pub finished : after.finished ≡ before.finished
  pub names : (after.forth_name ≡ before.forth_name) × (after.back_name ≡ before.back_name)
  pub told : (after.forth.told ≡ before.forth.told) × (after.back.told ≡ before.back.told)

-- a pump moved n bytes: so many bytes came into the box, and so many of the credits owed went out
pub record RxPumps (before after : RxSeen) (cut n : ℕ) : Type 0 where
  pub came : List ℕ
  pub went : ℕ
  pub total : n ≡ length came + went
  pub same : after ≡ record before { box = before.box ++ came; owed = before.owed - went; paid = capped (before.paid + went); forth = after.forth; back = after.back }
  pub came_within : length came ≤ cut
  pub went_within : (went ≤ before.owed) × (went ≤ cut)
  pub came_bytes : IsTrue before.forth.told → after.forth.bytes ≡ before.forth.bytes ++ came
  pub went_bytes : IsTrue before.back.told → after.back.bytes ≡ before.back.bytes ++ replicate went 1
  pub forth : EndMoves before.forth after.forth ((0 < cut) × (length before.box < 2056)) (length came)
  pub back : EndMoves before.back after.back ((0 < cut) × (0 < before.owed)) went

-- a pump met a fault: one of the pipes failed, the credit pipe after the data pipe was read
abbrev pub RxFails : (before after : RxSeen) → LinkBad → Type 0
RxFails before after bad =
    (bad ≡ Failed)
    × (((after ≡ record before { fault = Some bad; forth = after.forth }) × PipeFails before.forth after.forth)
    ⊎ ((came : List ℕ) × (after ≡ record before { box = before.box ++ came; fault = Some bad; forth = after.forth; back = after.back }) × PipeFails before.back after.back))

-- what no pump changes, whatever it answers
pub record RxKeeps (before after : RxSeen) : Type 0 where
  pub credits : after.credits ≡ before.credits
  pub given : after.given ≡ before.given
  pub ungranted : after.ungranted ≡ before.ungranted
  pub last : after.last ≡ before.last
  pub finished : after.finished ≡ before.finished
  pub names : (after.forth_name ≡ before.forth_name) × (after.back_name ≡ before.back_name)
  pub told : (after.forth.told ≡ before.forth.told) × (after.back.told ≡ before.back.told)
