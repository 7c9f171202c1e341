-- What is said of a part of a declaration: a value, or the first fault.
use Rattle.std.specs.Prelude.{ℕ, ◌≡◌, Bool, ◌&&◌, nat_le, if◌then◌else◌, Option, Some, None, Result, Ok, Err}
use Rattle.job_values.specs.declared.fault.JobFault.{JobFault}
use Rattle.job_values.specs.declared.fault.JobWhat.{JobWhat}
use Rattle.job_values.specs.declared.fault.JobWhat.TheVariants.{Limit}
use Rattle.job_values.specs.declared.fault.ReadJobFault.{ReadJobFault}
use Rattle.job_values.specs.declared.fault.ReadJobFault.TheVariants.{Bad, OutOfMemory}
use Rattle.job_values.specs.declared.member.Member.{Member}

abbrev pub Said : Type 0 → Type 0
Said A = Result A JobFault

abbrev pub fault_at : Member → ℕ → JobWhat → JobFault
fault_at member index what = record { member = member; index = index; what = what }

-- one thing, and then another that may rest on it; the first fault ends it
infixl 10 ◌>>=◌
abbrev pub ◌>>=◌ : {A B : Type 0} → Said A → (A → Said B) → Said B
Ok a >>= k = k a
Err f >>= k = Err f

-- a value, or this fault where there is none
abbrev pub or_fault : {A : Type 0} → Member → ℕ → JobWhat → Option A → Said A
or_fault member index what (Some a) = Ok a
or_fault member index what None = Err (fault_at member index what)

-- this value where the test holds, and else this fault
abbrev pub only_if : {A : Type 0} → Member → ℕ → JobWhat → Bool → A → Said A
only_if member index what test a = if test then Ok a else Err (fault_at member index what)

-- a value whose number, length or count is from `least` to `most`
abbrev pub within : {A : Type 0} → Member → ℕ → ℕ → ℕ → ℕ → A → Said A
within member index least most n a = only_if member index (Limit n) (nat_le least n && nat_le n most) a

-- What a call answers, where `said` is said and it shows its value by `shows`: the same, or that there
-- was no memory.
abbrev pub Answers : {A B : Type 0} → (A → B) → Said B → Result A ReadJobFault → Type 0
Answers shows said (Ok a) = said ≡ Ok (shows a)
Answers shows said (Err (Bad f)) = said ≡ Err f
Answers shows said (Err OutOfMemory) = Unit {0}
