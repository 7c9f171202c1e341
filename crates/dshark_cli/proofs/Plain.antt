-- How commands end that have no capture of a job's, and the rows of what the words ask.
use Rattle.std.proofs.Common.{ℕ, List, [], ◌++◌, ◌≡◌, Result, Ok, Err, Option, None, Some, MatchResult, refl, sym, subst}
use Rattle.std.specs.Prelude.{IsTrue, OnOk, codes}
use Rattle.command_words.specs.Words.{Asked, Accepts}
use Rattle.ds_base.specs.Faults.{Rose}
use Rattle.ds_base.specs.Outside.{FolderSeen, SinkSeen}
use Rattle.link_rows.specs.Rows.{RowsSeen}
use Rattle.run_faults.specs.declared.fault.RunFault.{RunFault}
use Rattle.run_faults.specs.declared.fault.RunFault.TheVariants.{WriteFault}
use Rattle.run_faults.specs.declared.fault.Stop.{Stop}
use Rattle.dshark_cli.specs.Links.{RowsSay, SaysLinks, SaysRows}
use Rattle.dshark_cli.specs.Rooms.{Room, NoFile, AtTheEnd, TheFirst}
use Rattle.dshark_cli.specs.Run.{Run, EndsOk, EndsBy}
use Rattle.dshark_cli.specs.Words.{Give}
use Rattle.dshark_cli.proofs.Asking.{only_none, only_some}

-- what holds of how a command ended holds of it with the name of its capture
pub named_same : {T : Type 0} (P : Type 0) (Q : RunFault → Type 0) (ended : Result T RunFault) (result : Result T Stop)
    → MatchResult result (λ done. ended ≡ Ok done) (λ stop. (ended ≡ Err stop.fault) × (stop.name ≡ codes "c"))
    → MatchResult ended (λ _. P) Q → MatchResult result (λ _. P) (λ stop. Q stop.fault)
named_same {T} P Q ended (Ok done) is h = subst (λ (r : Result T RunFault). MatchResult r (λ _. P) Q) is h
named_same {T} P Q ended (Err stop) is h = subst (λ (r : Result T RunFault). MatchResult r (λ _. P) Q) is.0 h

-- ---- a text

-- a command that opens no file and writes a text
abbrev pub text_room : List ℕ → Room
text_room text = record { opens = NoFile; writes = AtTheEnd; blames = TheFirst; due = λ folder. text }

pub text_ends : {T : Type 0} (text : List ℕ) (folder : FolderSeen) (old new : SinkSeen) (ended : Result T RunFault)
    → MatchResult ended (λ _. new.faults ≡ old.faults) (λ fault. (fault ≡ WriteFault) × Rose old.faults new.faults)
    → (IsTrue old.told → OnOk ended (new.written ≡ old.written ++ text))
    → MatchResult ended (λ _. EndsOk (text_room text) folder folder old new) (EndsBy (text_room text) folder folder old new)
text_ends text folder old new (Ok done) quiet whole =
    record { folder_quiet = refl; out_quiet = quiet; leaves = λ none. refl; sound = λ told. (tt, tt); whole = λ told out. whole out }
text_ends text folder old new (Err fault) h whole =
    subst (EndsBy (text_room text) folder folder old new) (sym h.0) (h.1, refl, (λ none. refl), λ told. (tt, tt))

-- ---- the rows

pub no_rows_refused : (run : Run) (ended : Option RunFault) (rows : RowsSeen) → ((asked : Asked) → Accepts run.words asked → ⊥) → rows.rows ≡ [] → SaysRows run ended rows
no_rows_refused run ended rows none is asked given = subst (SaysLinks run ended rows) (sym (only_none run.words none asked given)) is

pub rows_asked : (run : Run) (asked : Asked) (ended : Option RunFault) (rows : RowsSeen) → Accepts run.words asked → ((other : Asked) → Accepts run.words other → other ≡ asked)
    → RowsSay asked run.before ended rows → SaysRows run ended rows
rows_asked run asked ended rows accepts only says other given = subst (SaysLinks run ended rows) (sym (only_some run.words asked accepts only other given)) says
