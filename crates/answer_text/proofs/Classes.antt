-- The classes of a line, one after the other.
use Rattle.std.proofs.Common.{ℕ, List, ◌∷◌, ◌++◌, ◌≡◌, ◌==◌, ◌+◌, Bool, true, false, drop, Some, refl, append_assoc}
use Rattle.std.specs.List.{slice_get, flat_map}
use Rattle.answer_text.specs.Pieces.{behind, joined}
use Rattle.answer_text.specs.Lines.{class_text, class_texts, separator_of}
use Rattle.ds_base.proofs.Places.{drop_at}

-- what is still to be put, after nothing or after other classes
abbrev pub texts_behind : Bool → List (List ℕ) → List ℕ
texts_behind true texts = joined texts
texts_behind false texts = flat_map behind texts

-- the class there is empty: nothing is put
pub no_class : (classes : List ℕ) (class number : ℕ) → slice_get classes class ≡ Some number → number ≡ 0
    → class_texts class (drop class classes) ≡ class_texts (class + 1) (drop (class + 1) classes)
no_class classes class number at none = rw (drop_at classes class number at, none) refl

-- the class there has delays: it is the next to be put
pub some_class : (classes : List ℕ) (class number : ℕ) → slice_get classes class ≡ Some number → (number == 0) ≡ false
    → class_texts class (drop class classes) ≡ class_text class number ∷ class_texts (class + 1) (drop (class + 1) classes)
some_class classes class number at some = rw (drop_at classes class number at, some) refl

-- what is left once it was put
pub one_class : (is_first : Bool) (text : List ℕ) (texts : List (List ℕ)) (before : List ℕ)
    → (before ++ (separator_of is_first ++ text)) ++ texts_behind false texts ≡ before ++ texts_behind is_first (text ∷ texts)
one_class true text texts before = append_assoc before text (flat_map behind texts)
one_class false text texts before = append_assoc before (behind text) (flat_map behind texts)
