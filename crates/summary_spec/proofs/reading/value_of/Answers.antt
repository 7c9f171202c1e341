use Rattle.std.proofs.Common.{◌≡◌, List, ℕ, Bool, true, false, None, refl}
use Rattle.std.specs.Prelude.{IsUtf8, IsTrue}
use Rattle.std.specs.Str.{is_utf8}
use Rattle.std.proofs.lemmas.Str.{IsUtf8-from_is_utf8, is_utf8-from_IsUtf8}
use Rattle.serde_json.specs.Read.{read}
use Rattle.summary_spec.specs.Reads.{json}
use Rattle.summary_spec.proofs.reading.value_of.Goals as goal

json_none : (bytes : List ℕ) (t : Bool) → is_utf8 bytes ≡ t → (IsUtf8 bytes → read bytes ≡ None) → json bytes ≡ None
json_none bytes true e h = rw (e, h (IsUtf8-from_is_utf8 bytes e)) refl
json_none bytes false e h = rw e refl

never : IsTrue false → ⊥
never e = cc

pub returns-in-Ok : goal.returns-in-Ok
returns-in-Ok c =
    rw (is_utf8-from_IsUtf8 c.args.bytes.now c.in-Ok.ensures.ok.0, c.in-Ok.ensures.ok.1) refl

pub returns-else-is_memory : goal.returns-else-is_memory
returns-else-is_memory c =
    rw (json_none c.args.bytes.now (is_utf8 c.args.bytes.now) refl (c.in-Err.ensures.err (λ memory. never (c.if-is_memory.ensures.1 memory))), c.fault_at.ensures) refl
