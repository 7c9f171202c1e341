-- What was read after a piece more.
use Rattle.std.proofs.Common.{ℕ, List, ◌≡◌, ◌≤◌, ◌∙◌, ◌++◌, length, take, arith, Option, Result, Ok, Err, IfOk, IfErr, sym, ap, subst, append_assoc}
use Rattle.std.specs.Prelude.{IsTrue}
use Rattle.std.proofs.lemmas.List.{take-append-le, take_all}
use Rattle.ds_base.specs.Outside.{SourceSeen, SourceStays}
use Rattle.ds_base.specs.declared.capture.Bad.{Bad}
use Rattle.ds_base.specs.declared.capture.Tail.{Tail}
use Rattle.pcap_reader.specs.Captured.{Captured}
use Rattle.pcap_reader.specs.Reader.{StandsFor}
use Rattle.input_files.specs.Reading.{Reading, HasRead}

pub more_read : (old new : Reading) (before after : SourceSeen) (piece : List ℕ) → SourceStays before after
    → (IsTrue before.told → before.left ≡ piece ++ after.left)
    → ((wanted : Option ℕ) (fed : List ℕ) (given : List Captured) → StandsFor wanted old.reader fed given → StandsFor wanted new.reader (fed ++ piece) given)
    → (wanted : Option ℕ) (bytes : List ℕ) (given : List Captured) → HasRead wanted old before bytes given → HasRead wanted new after (bytes ++ piece) given
more_read old new before after piece stays left feeds wanted bytes given h = record {
  stands = feeds wanted bytes given h.stands;
  front = λ told.
      let telling : IsTrue before.told = subst IsTrue stays.told told in
      stays.whole telling ∙ h.front telling ∙ ap (λ (xs : List ℕ). bytes ++ xs) (left telling) ∙ sym (append_assoc bytes piece after.left);
}

-- an answer that holds of what a reader stands for, of a reading of it
pub whole_of : (r : Result Tail Bad) (P Q : Tail → Type 0) → ((t : Tail) → P t → Q t) → IfOk r P → IfOk r Q
whole_of (Ok t) P Q f h = f t h
whole_of (Err b) P Q f h = tt

pub short_of : (r : Result Tail Bad) (P Q : Bad → Type 0) → ((b : Bad) → P b → Q b) → IfErr r P → IfErr r Q
short_of (Ok t) P Q f h = tt
short_of (Err b) P Q f h = f b h

-- the front of a buffer whose front was written
pub front_same : (n len : ℕ) (xs ys zs : List ℕ) → zs ≡ take len (xs ++ ys) → length xs ≡ len → n ≤ len → take n zs ≡ take n xs
front_same n len xs ys zs is size within =
    ap (take n) (is ∙ take-append-le len xs ys (omega (arith, size)) ∙ take_all len xs (omega (arith, size)))
