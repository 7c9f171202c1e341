-- The kinds of field that frames are made of: how a value is spelled, which values there are, and what
-- the bytes of a frame read as.
use Rattle.std.specs.Prelude.{ℕ, zero, suc, ◌≡◌, ◌≤◌, ◌<◌, ◌^◌, ◌==◌, nat_lt, Bool, true, false, if◌then◌else◌, List, [], ◌∷◌, ◌++◌, length, take, drop, slice_index, All, Option, Some, None}
use Rattle.std.specs.List.{flat_map}
use Rattle.byteorder.specs.Endian.{big_bytes, big_number}
use Rattle.ds_base.specs.declared.stamp.Stamp.{Stamp}
use Rattle.ds_base.specs.declared.verdict.Verdict.{Verdict}
use Rattle.ds_base.specs.declared.verdict.Verdict.TheVariants.{Fine, Loop, Dropped, Path, Rewrite, Value, Undefined}

-- a value read from the front of bytes, with the bytes after it; or none
abbrev pub Read : Type 0 → Type 0
Read A = Option (A × List ℕ)

-- one value, and then what is read of the bytes after it
infixl 10 ◌>>=◌
abbrev pub ◌>>=◌ : {A B : Type 0} → Read A → (A → List ℕ → Read B) → Read B
None >>= next = None
Some (a, rest) >>= next = next a rest

-- a field: the spelling of a value, the values that there are, and the value that bytes begin with
pub record Field (A : Type 0) : Type 1 where
  pub spelling : A → List ℕ
  pub IsFit : A → Type 0
  pub read : List ℕ → Read A

-- ---- the kinds

-- the `width` bytes of a number, the highest first
unfoldable pub bytes_of : (width n : ℕ) → List ℕ
bytes_of width n = big_bytes width n

-- the number that bytes begin with
unfoldable pub number_in : (width : ℕ) → List ℕ → Read ℕ
number_in width bytes = if nat_lt (length bytes) width then None else Some (big_number width bytes, drop width bytes)

-- a number of `width` bytes
abbrev pub number : ℕ → Field ℕ
number width = record {
  spelling = bytes_of width;
  IsFit = λ n. n < 256 ^ width;
  read = number_in width;
}

-- so many bytes as they stand
abbrev pub plain : ℕ → Field (List ℕ)
plain width = record {
  spelling = λ bytes. bytes;
  IsFit = λ bytes. (length bytes ≡ width) × ((i : ℕ) → slice_index bytes i < 256);
  read = λ bytes. if nat_lt (length bytes) width then None else Some (take width bytes, drop width bytes);
}

-- one field and then another
infixr 8 ◌&◌
abbrev pub ◌&◌ : {A B : Type 0} → Field A → Field B → Field (A × B)
first & second = record {
  spelling = λ (a, b). first.spelling a ++ second.spelling b;
  IsFit = λ (a, b). first.IsFit a × second.IsFit b;
  read = λ bytes. first.read bytes >>= λ a rest. second.read rest >>= λ b after. Some ((a, b), after);
}

-- the same field, its values in another form
abbrev pub formed : {A B : Type 0} → (A → B) → (B → A) → Field A → Field B
formed to from field = record {
  spelling = λ b. field.spelling (from b);
  IsFit = λ b. field.IsFit (from b);
  read = λ bytes. field.read bytes >>= λ a rest. Some (to a, rest);
}

-- a stamp: its time, its capture, its record's number
abbrev pub stamp : Field Stamp
stamp = formed
    (λ (time, (capture, n)). record { time = time; capture = capture; number = n })
    (λ s. (s.time, (s.capture, s.number)))
    (number 8 & number 4 & number 8)

-- so many values of a field, one after another
unfoldable pub read_many : {A : Type 0} → Field A → ℕ → List ℕ → Read (List A)
read_many field zero bytes = Some ([], bytes)
read_many field (suc more) bytes =
    field.read bytes >>= λ a rest. read_many field more rest >>= λ others after. Some (a ∷ others, after)

abbrev pub many : {A : Type 0} → ℕ → Field A → Field (List A)
many {A = A} count field = record {
  spelling = flat_map field.spelling;
  IsFit = λ values. (length values ≡ count) × All field.IsFit values;
  read = read_many field count;
}

-- a list of at most 16 numbers of 16 bytes: how many there are, in one byte, and then these
abbrev pub read_counted : ℕ → List ℕ → Read (List ℕ)
read_counted count rest = if nat_lt 16 count then None else read_many (number 16) count rest

abbrev pub numbers : Field (List ℕ)
numbers = record {
  spelling = λ ns. bytes_of 1 (length ns) ++ flat_map (bytes_of 16) ns;
  IsFit = λ ns. (length ns ≤ 16) × All (λ n. n < 256 ^ 16) ns;
  read = λ bytes. (number 1).read bytes >>= read_counted;
}

-- a truth value: 0 or 1 in one byte
abbrev pub truth_of : ℕ → List ℕ → Read Bool
truth_of n rest = if n == 0 then Some (false, rest) else if n == 1 then Some (true, rest) else None

abbrev pub truth : Field Bool
truth = record {
  spelling = λ b. (if b then 1 else 0) ∷ [];
  IsFit = λ b. Unit {0};
  read = λ bytes. (number 1).read bytes >>= truth_of;
}

-- ---- a verdict: its number, and then what it says

abbrev pub loop_said : Field (ℕ × (ℕ × ℕ))
loop_said = number 4 & number 16 & number 16

abbrev pub rewrite_said : Field (ℕ × ℕ)
rewrite_said = number 8 & number 4

abbrev pub verdict_spelling : Verdict → List ℕ
verdict_spelling Fine = 0 ∷ []
verdict_spelling (Loop capture high low) = 1 ∷ loop_said.spelling (capture, (high, low))
verdict_spelling (Dropped capture) = 2 ∷ (number 4).spelling capture
verdict_spelling (Path at) = 3 ∷ (number 8).spelling at
verdict_spelling (Rewrite pair rule) = 4 ∷ rewrite_said.spelling (pair, rule)
verdict_spelling (Value n) = 5 ∷ (number 16).spelling n
verdict_spelling Undefined = 6 ∷ []

abbrev pub IsFitVerdict : Verdict → Type 0
IsFitVerdict Fine = Unit {0}
IsFitVerdict (Loop capture high low) = loop_said.IsFit (capture, (high, low))
IsFitVerdict (Dropped capture) = (number 4).IsFit capture
IsFitVerdict (Path at) = (number 8).IsFit at
IsFitVerdict (Rewrite pair rule) = rewrite_said.IsFit (pair, rule)
IsFitVerdict (Value n) = (number 16).IsFit n
IsFitVerdict Undefined = Unit {0}

abbrev pub verdict_of : ℕ → List ℕ → Read Verdict
verdict_of first rest =
    if first == 0 then Some (Fine, rest)
    else if first == 1 then loop_said.read rest >>= (λ (capture, (high, low)) after. Some (Loop capture high low, after))
    else if first == 2 then (number 4).read rest >>= (λ capture after. Some (Dropped capture, after))
    else if first == 3 then (number 8).read rest >>= (λ at after. Some (Path at, after))
    else if first == 4 then rewrite_said.read rest >>= (λ (pair, rule) after. Some (Rewrite pair rule, after))
    else if first == 5 then (number 16).read rest >>= (λ n after. Some (Value n, after))
    else if first == 6 then Some (Undefined, rest)
    else None

abbrev pub verdict : Field Verdict
verdict = record {
  spelling = verdict_spelling;
  IsFit = IsFitVerdict;
  read = λ bytes. (number 1).read bytes >>= verdict_of;
}
