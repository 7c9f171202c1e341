-- Numbers read one after another: those read so far, and what is left to read.
use Rattle.std.proofs.Common.{◌≡◌, ℕ, suc, List, [], ◌∷◌, ◌++◌, Some, None, refl, sym, ap, ◌∙◌, append_assoc, append-nil}
use Rattle.std.proofs.Common.{◌≤◌, Bool, if◌then◌else◌, le-ltb}
use Rattle.node_frames.specs.Fields.{Read, ◌>>=◌, number, read_many, read_counted}

abbrev pub joined : List ℕ → Read (List ℕ) → Read (List ℕ)
joined front None = None
joined front (Some (ns, rest)) = Some (front ++ ns, rest)

-- reading `count` numbers comes to those read so far and then to the `left` numbers that the rest begins with
abbrev pub Reads : (width count : ℕ) (bytes front : List ℕ) (left : ℕ) (rest : List ℕ) → Type 0
Reads width count bytes front left rest = read_many (number width) count bytes ≡ joined front (read_many (number width) left rest)

joined_none : (r : Read (List ℕ)) → joined [] r ≡ r
joined_none None = refl
joined_none (Some (ns, rest)) = refl

pub reads_first : (width count : ℕ) (bytes : List ℕ) → Reads width count bytes [] count bytes
reads_first width count bytes = sym (joined_none (read_many (number width) count bytes))

joined_one : (front : List ℕ) (n : ℕ) (r : Read (List ℕ)) → joined front (r >>= λ others after. Some (n ∷ others, after)) ≡ joined (front ++ n ∷ []) r
joined_one front n None = refl
joined_one front n (Some (ns, rest)) = ap (λ (l : List ℕ). Some (l, rest)) (sym (append_assoc front (n ∷ []) ns))

-- one number more
pub reads_next : (width count : ℕ) (bytes front : List ℕ) (left next : ℕ) (rest : List ℕ) (n : ℕ) (after : List ℕ) → left ≡ suc next
    → (number width).read rest ≡ Some (n, after) → Reads width count bytes front left rest → Reads width count bytes (front ++ n ∷ []) next after
unfolding read_many
reads_next width count bytes front left next rest n after e read so =
    so ∙ ap (λ k. joined front (read_many (number width) k rest)) e
    ∙ ap (λ r. joined front (r >>= λ a rest. read_many (number width) next rest >>= λ others after. Some (a ∷ others, after))) read
    ∙ joined_one front n (read_many (number width) next after)

-- none where the next number is not there
pub reads_none : (width count : ℕ) (bytes front : List ℕ) (left next : ℕ) (rest : List ℕ) → left ≡ suc next
    → (number width).read rest ≡ None → Reads width count bytes front left rest → read_many (number width) count bytes ≡ None
unfolding read_many
reads_none width count bytes front left next rest e read so =
    so ∙ ap (λ k. joined front (read_many (number width) k rest)) e
    ∙ ap (λ r. joined front (r >>= λ a rest. read_many (number width) next rest >>= λ others after. Some (a ∷ others, after))) read

-- all of them
pub reads_all : (width count : ℕ) (bytes front : List ℕ) (left : ℕ) (rest : List ℕ) → left ≡ 0 → Reads width count bytes front left rest
    → read_many (number width) count bytes ≡ Some (front, rest)
unfolding read_many
reads_all width count bytes front left rest e so =
    so ∙ ap (λ k. joined front (read_many (number width) k rest)) e ∙ ap (λ (l : List ℕ). Some (l, rest)) (append-nil front)

-- the steps of a loop that reads

pub counted : (count : ℕ) (bytes : List ℕ) → count ≤ 16 → read_counted count bytes ≡ read_many (number 16) count bytes
counted count bytes few = ap (λ (t : Bool). if t then None else read_many (number 16) count bytes) (le-ltb 16 count few)
