use Rattle.std.proofs.Common.{ℕ, List, ◌≡◌, ◌≤◌, ◌∙◌, sym, subst}
use Rattle.command_words.specs.CommandLine.{Have}
use Rattle.command_words.specs.CommandTable.{plain_kinds}
use Rattle.command_words.specs.Words.{Asked, Accepts, command_of}
use Rattle.command_words.specs.Words.Asked.{AskedCount, AskedStack, AskedCheck, AskedCentral, AskedRun, AskedSample, AskedHelp, AskedVersion}
use Rattle.command_words.specs.declared.command.Sizes.{Sizes}
use Rattle.command_words.proofs.Limits.{AreWithin, run_within, sample_within}
use Rattle.new_pipeline.specs.Shapes.{IsWithin}
use Rattle.dshark_cli.specs.Rooms.{IsInLimits}
use Rattle.dshark_cli.specs.Shapes.{shape_of}

-- the sizes are in their limits
shape_within : (sizes : Sizes) → AreWithin sizes → IsWithin (shape_of sizes)
shape_within sizes h = record { parsers = h.parsers; groupers = h.groupers; processors = h.processors; credits = h.credits }

-- what the words ask is in its limits
pub in_limits : (words : List (List ℕ)) (asked : Asked) → Accepts words asked → IsInLimits asked
in_limits words (AskedCount field window file) h =
    let P : List (List ℕ) → Type 0 = λ plain. Have (plain_kinds (command_of (AskedCount field window file))) plain in
    let number = (subst P h.means.1 h.line.plain).1.0 in
    let same : window ≡ number.0 = h.means.2.value ∙ sym number.1.value in
    subst (λ (n : ℕ). n ≤ 3600000000000) (sym same) number.3
in_limits words (AskedStack port field file) h = tt
in_limits words (AskedCheck job) h = tt
in_limits words (AskedCentral job) h = tt
in_limits words (AskedRun job sizes) h = shape_within sizes (run_within words job sizes h)
in_limits words (AskedSample number sizes) h = shape_within sizes (sample_within words number sizes h)
in_limits words AskedHelp h = tt
in_limits words AskedVersion h = tt
