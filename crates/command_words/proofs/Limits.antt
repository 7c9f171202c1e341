-- The sizes that the words ask for are in their limits.
use Rattle.std.proofs.Common.{ℕ, List, [], ◌∷◌, ◌≡◌, ◌≤◌, ◌∙◌, sym, arith}
use Rattle.command_words.specs.declared.command.Sizes.{Sizes}
use Rattle.command_words.specs.declared.kind.WordKind.TheVariants.{Number}
use Rattle.command_words.specs.declared.table.Name.TheVariants.{Run}
use Rattle.command_words.specs.CommandTable.{option_kind}
use Rattle.command_words.specs.CommandLine.{AtMostOne}
use Rattle.command_words.specs.Words.{Accepts, NumberOr, HasSizes}
use Rattle.command_words.specs.Words.Asked.{AskedRun, AskedSample}

-- the numbers of nodes are 1 to 16, and the credits 1 to 1024
pub record AreWithin (sizes : Sizes) : Type 0 where
  pub parsers : (1 ≤ sizes.parsers) × (sizes.parsers ≤ 16)
  pub groupers : (1 ≤ sizes.groupers) × (sizes.groupers ≤ 16)
  pub processors : (1 ≤ sizes.processors) × (sizes.processors ≤ 16)
  pub credits : (1 ≤ sizes.credits) × (sizes.credits ≤ 1024)

number_within : (most usual n : ℕ) (vs : List (List ℕ)) → 1 ≤ usual → usual ≤ most → AtMostOne (Number 1 most) vs → NumberOr usual vs n
    → (1 ≤ n) × (n ≤ most)
number_within most usual n [] low high h e = (omega (arith, low, e), omega (arith, high, e))
number_within most usual n (v ∷ []) low high h e =
    let same : n ≡ h.0 = e.value ∙ sym h.1.value in
    (omega (arith, same, h.2), omega (arith, same, h.3))
number_within most usual n (v ∷ w ∷ vs) low high h e = absurd h

sizes_within : (values : ℕ → List (List ℕ)) (sizes : Sizes) → ((k : ℕ) → AtMostOne (option_kind Run k) (values k)) → HasSizes values sizes
    → AreWithin sizes
sizes_within values sizes o h = record {
  parsers = number_within 16 2 sizes.parsers (values 0) (omega arith) (omega arith) (o 0) h.parsers;
  groupers = number_within 16 2 sizes.groupers (values 1) (omega arith) (omega arith) (o 1) h.groupers;
  processors = number_within 16 2 sizes.processors (values 2) (omega arith) (omega arith) (o 2) h.processors;
  credits = number_within 1024 16 sizes.credits (values 3) (omega arith) (omega arith) (o 3) h.credits;
}

pub run_within : (words : List (List ℕ)) (job : List ℕ) (sizes : Sizes) → Accepts words (AskedRun job sizes) → AreWithin sizes
run_within words job sizes h = sizes_within _ sizes h.line.options h.means.1

pub sample_within : (words : List (List ℕ)) (number : ℕ) (sizes : Sizes) → Accepts words (AskedSample number sizes) → AreWithin sizes
sample_within words number sizes h = sizes_within _ sizes h.line.options h.means.1
