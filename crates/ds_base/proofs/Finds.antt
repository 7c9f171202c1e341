use Rattle.std.proofs.Common.{ℕ, List, [], ◌∷◌, ◌≡◌, true, false, Some, map, drop, zero, suc, refl}
use Rattle.std.specs.List.{slice_get}
use Rattle.std.specs.Str.{bytes_eq}
use Rattle.ds_base.specs.Outside.{file_named}
use Rattle.ds_base.specs.Files.{named_bytes}
use Rattle.ds_base.specs.declared.fakes.NamedFile.{NamedFile}

-- what is found from place i on, where the file there has the name
pub found_here : (files : List NamedFile) (name : List ℕ) (i : ℕ) (file : NamedFile)
    → slice_get files i ≡ Some file → bytes_eq (named_bytes file).name name ≡ true
    → file_named (map named_bytes (drop i files)) name ≡ Some (named_bytes file).bytes
found_here [] name i file at same = cc
found_here (f ∷ files) name zero file at same =
    let e : f ≡ file = cc in rw (e, same) refl
found_here (f ∷ files) name (suc i) file at same = found_here files name i file at same

-- what is found from place i on, where the file there has another name
pub found_later : (files : List NamedFile) (name : List ℕ) (i : ℕ) (file : NamedFile)
    → slice_get files i ≡ Some file → bytes_eq (named_bytes file).name name ≡ false
    → file_named (map named_bytes (drop i files)) name ≡ file_named (map named_bytes (drop (suc i) files)) name
found_later [] name i file at other = cc
found_later (f ∷ files) name zero file at other =
    let e : f ≡ file = cc in rw (e, other) refl
found_later (f ∷ files) name (suc i) file at other = found_later files name i file at other
