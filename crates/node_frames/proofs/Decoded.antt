-- What a call answers that reads bytes by the table.
use Rattle.std.proofs.Common.{◌≡◌, ℕ, List, Option, Some, None, Result, Ok, Err, IfOk, OnErr, ap, sym, ◌∙◌}
use Rattle.node_frames.specs.declared.wire.Wire.{Wire}
use Rattle.node_frames.specs.declared.wire.FrameFault.{FrameFault}
use Rattle.node_frames.specs.Table.{Spells, wire_in}
use Rattle.node_frames.proofs.Bytes.{AreBytes}
use Rattle.node_frames.proofs.Frames.{wire_sound, wire_complete}

pub answer_spells : (bytes : List ℕ) (answer : Result Wire FrameFault) → AreBytes bytes → IfOk answer (λ w. wire_in bytes ≡ Some w) → IfOk answer (λ w. Spells w bytes)
answer_spells bytes (Ok w) are read = wire_sound bytes w are read
answer_spells bytes (Err fault) are read = tt

pub answer_refuses : (bytes : List ℕ) (answer : Result Wire FrameFault) → OnErr answer (wire_in bytes ≡ None) → OnErr answer ((w : Wire) → Spells w bytes → ⊥)
answer_refuses bytes (Ok w) read = tt
answer_refuses bytes (Err fault) read = λ w spells.
    let none : Option Wire = None in
    let some : Option Wire = Some w in
    let nothing_is : none ≡ some = sym read ∙ wire_complete w bytes spells in
    cc

pub answer_only : (bytes : List ℕ) (answer : Result Wire FrameFault) → IfOk answer (λ w. wire_in bytes ≡ Some w) → OnErr answer (wire_in bytes ≡ None)
    → (w : Wire) → Spells w bytes → answer ≡ Ok w
answer_only bytes (Ok v) read none w spells =
    let left : Option Wire = Some v in
    let right : Option Wire = Some w in
    let same : left ≡ right = sym read ∙ wire_complete w bytes spells in
    let one : v ≡ w = cc in
    ap Ok one
answer_only bytes (Err fault) read none w spells = absurd (answer_refuses bytes (Err fault) none w spells)
