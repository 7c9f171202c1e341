-- The text of a field reads as its parts, and no other text does.
use Rattle.std.proofs.Common.{◌≡◌, ℕ, zero, suc, ◌+◌, ◌-◌, ◌/◌, ◌%◌, ◌<◌, ◌≤◌, Bool, true, false, cond, List, [], ◌∷◌, ◌++◌, length, take, drop, get_or, Option, Some, None, map, position, refl, sym, subst, ap, ◌∙◌, arith, lit<, eqb-true, eq-eqb, lt-ltb, add-one, below_more, length-append, option_and_then}
use Rattle.std.proofs.Math.Seq.{drop-cons, drop-append-add, take-append_seam}
use Rattle.std.proofs.lemmas.Bool.{and_parts, leb-true}
use Rattle.std.proofs.lemmas.Fmt.{decimal_digit, decimal_step}
use Rattle.std.proofs.lemmas.List.{length-map, take-append-drop}
use Rattle.std.proofs.lemmas.List.Quantifiers.{position-Some}
use Rattle.std.proofs.lemmas.Option.{cond_some, same_Some, option_and_then_some, unwrap_or-slice_get}
use Rattle.std.proofs.lemmas.Slice.Eq.{bytes_eq-Decides}
use Rattle.std.specs.Fmt.{decimal, digits}
use Rattle.std.specs.List.{find, list_all, position_or_len}
use Rattle.std.specs.Prelude.{◌==◌, ◌&&◌, nat_lt, nat_le, not}
use Rattle.std.specs.Str.{bytes_eq}
use Rattle.field_table.specs.declared.kind.Kind.{Kind}
use Rattle.field_table.specs.declared.kind.Kind.TheVariants.{Eth, Tag, Ipv4, Ipv6, Ext, Frag, Tcp, Udp, Icmp, Icmp6, Gre, Vxlan}
use Rattle.field_table.specs.FieldText.{kind_text, index_text, name_of, text_of}
use Rattle.field_table.specs.Reading.{split_at, kinds, kind_of, number_of_name, is_digit, small_number, from_inside, from_outside, index_of, behind_point, parts_of}
use Rattle.field_table.specs.Table.{names_of}

place-map : {A B : Type 0} (p : B → Bool) (f : A → B) (xs : List A) → position_or_len p (map f xs) ≡ position_or_len (λ x. p (f x)) xs
place-map p f [] = refl
place-map p f (x ∷ xs) = ap (λ n. cond (not (p (f x))) (1 + n) 0) (place-map p f xs)

pub position-map : {A B : Type 0} (p : B → Bool) (f : A → B) (xs : List A) → position p (map f xs) ≡ position (λ x. p (f x)) xs
position-map p f xs = rw (place-map p f xs, length-map xs f) refl

-- either side of a choice
cond_cases : {A P : Type 0} (test : Bool) (x y z : A) → cond test x y ≡ z → (test ≡ true → x ≡ z → P) → (test ≡ false → y ≡ z → P) → P
cond_cases true x y z e on off = on refl e
cond_cases false x y z e on off = off refl e

-- What is read is spelled so.

split_parts : (mark : ℕ) (bytes : List ℕ) (parts : List ℕ × List ℕ) → split_at mark bytes ≡ Some parts → bytes ≡ parts.0 ++ (mark ∷ parts.1)
split_parts mark bytes parts e =
    option_and_then_some (λ at. Some (take at bytes, drop (at + 1) bytes)) (position (λ b. b == mark) bytes) parts e (λ at found cut.
    let facts = position-Some (λ b. b == mark) bytes at 0 found in
    let here : get_or bytes at 0 ≡ mark = eqb-true (get_or bytes at 0) mark facts.1 in
    let within : at < length bytes = facts.0 in
    let rest : drop at bytes ≡ mark ∷ drop (at + 1) bytes = drop-cons bytes at 0 within ∙ (ap (λ b. b ∷ drop (suc at) bytes) here ∙ ap (λ n. mark ∷ drop n bytes) (sym (add-one at))) in
    let same : (take at bytes, drop (at + 1) bytes) ≡ parts = same_Some _ _ cut in
    sym (take-append-drop at bytes) ∙ (ap (λ bs. take at bytes ++ bs) rest ∙ ap (λ p. p.0 ++ (mark ∷ p.1)) same))

kind_found : (word : List ℕ) (ks : List Kind) (kind : Kind) → find (λ k. bytes_eq (kind_text k) word) ks ≡ Some kind → word ≡ kind_text kind
kind_found word [] kind e = cc
kind_found word (k ∷ ks) kind e =
    cond_cases (bytes_eq (kind_text k) word) (Some k) (find (λ q. bytes_eq (kind_text q) word) ks) (Some kind) e
    (λ yes same. sym ((bytes_eq-Decides (kind_text k) word).0 yes) ∙ ap kind_text (same_Some _ _ same))
    (λ no rest. kind_found word ks kind rest)

name_found : (kind : Kind) (name : List ℕ) (field : ℕ) → number_of_name kind name ≡ Some field → (name ≡ name_of kind field) × (field < length (names_of kind))
name_found kind name field e =
    let facts = position-Some (λ n. bytes_eq n name) (names_of kind) field [] e in
    (sym (unwrap_or-slice_get (names_of kind) field [] ∙ (bytes_eq-Decides (get_or (names_of kind) field []) name).0 facts.1), facts.0)

point_found : (bytes name : List ℕ) → behind_point bytes ≡ Some name → bytes ≡ 46 ∷ name
point_found [] name e = cc
point_found (b ∷ bytes) name e =
    let parts = cond_some (b == 46) bytes name e in
    let point : b ≡ 46 = eqb-true b 46 parts.0 in
    let rest : bytes ≡ name = parts.1 in
    cc

small_found : (bytes : List ℕ) (n : ℕ) → small_number bytes ≡ Some n → (bytes ≡ decimal n) × (n < 20)
small_found [] n e = cc
small_found (d ∷ []) n e =
    let parts = cond_some (is_digit d) (d - 48) n e in
    let digit = and_parts (nat_le 48 d) (nat_le d 57) parts.0 in
    let low : 48 ≤ d = leb-true 48 d digit.0 in
    let high : d ≤ 57 = leb-true d 57 digit.1 in
    let number : d - 48 ≡ n = parts.1 in
    let small : n < 10 = omega arith in
    let glyph : d ≡ 48 + n = omega arith in
    (ap (λ b. b ∷ []) glyph ∙ sym (decimal_digit n small), omega arith)
small_found (t ∷ d ∷ []) n e =
    let parts = cond_some (t == 49 && is_digit d) (10 + (d - 48)) n e in
    let tests = and_parts (t == 49) (is_digit d) parts.0 in
    let digit = and_parts (nat_le 48 d) (nat_le d 57) tests.1 in
    let one : t ≡ 49 = eqb-true t 49 tests.0 in
    let low : 48 ≤ d = leb-true 48 d digit.0 in
    let high : d ≤ 57 = leb-true d 57 digit.1 in
    let number : 10 + (d - 48) ≡ n = parts.1 in
    let tens : n / 10 ≡ 1 = omega arith in
    let units : 48 + n % 10 ≡ d = omega arith in
    let text : decimal n ≡ 49 ∷ d ∷ [] = decimal_step n (omega arith) (omega arith) ∙ (ap (λ q. decimal q ++ ((48 + n % 10) ∷ [])) tens ∙ (ap (λ q. q ++ ((48 + n % 10) ∷ [])) (decimal_digit 1 (lit< tt)) ∙ ap (λ u. 49 ∷ u ∷ []) units)) in
    (ap (λ b. b ∷ d ∷ []) one ∙ sym text, omega arith)
small_found (t ∷ d ∷ c ∷ more) n e = cc

inside_found : (b : ℕ) (bytes : List ℕ) (n : ℕ) (way : Bool × ℕ) → b ≡ 45 → small_number bytes ≡ Some n → from_inside n ≡ Some way → (b ∷ bytes ≡ index_text way.0 way.1) × (way.1 ≤ 15)
inside_found b bytes n way minus found ranged =
    let parts = cond_some (nat_le 1 n && nat_le n 16) (true, n - 1) way ranged in
    let range = and_parts (nat_le 1 n) (nat_le n 16) parts.0 in
    let low : 1 ≤ n = leb-true 1 n range.0 in
    let high : n ≤ 16 = leb-true n 16 range.1 in
    let same : (true, n - 1) ≡ way = parts.1 in
    let text : b ∷ bytes ≡ index_text true (n - 1) = ap (λ c. c ∷ bytes) minus ∙ (ap (λ bs. 45 ∷ bs) (small_found bytes n found).0 ∙ ap (λ m. 45 ∷ decimal m) (omega arith)) in
    let steps : n - 1 ≡ way.1 = ap (λ w. w.1) same in
    (text ∙ ap (λ w. index_text w.0 w.1) same, omega arith)

outside_found : (bytes : List ℕ) (n : ℕ) (way : Bool × ℕ) → small_number bytes ≡ Some n → from_outside n ≡ Some way → (bytes ≡ index_text way.0 way.1) × (way.1 ≤ 15)
outside_found bytes n way found ranged =
    let parts = cond_some (nat_le n 15) (false, n) way ranged in
    let high : n ≤ 15 = leb-true n 15 parts.0 in
    let same : (false, n) ≡ way = parts.1 in
    let steps : n ≡ way.1 = ap (λ w. w.1) same in
    ((small_found bytes n found).0 ∙ ap (λ w. index_text w.0 w.1) same, omega arith)

index_found : (bytes : List ℕ) (way : Bool × ℕ) → index_of bytes ≡ Some way → (bytes ≡ index_text way.0 way.1) × (way.1 ≤ 15)
unfolding index_of
index_found [] way e = cc
index_found (b ∷ bytes) way e =
    cond_cases (b == 45) (option_and_then from_inside (small_number bytes)) (option_and_then from_outside (small_number (b ∷ bytes))) (Some way) e
    (λ minus read. option_and_then_some from_inside (small_number bytes) way read (λ n found ranged. inside_found b bytes n way (eqb-true b 45 minus) found ranged))
    (λ plain read. option_and_then_some from_outside (small_number (b ∷ bytes)) way read (λ n found ranged. outside_found (b ∷ bytes) n way found ranged))

-- What is spelled so is read.

-- a test of every number below one
abbrev all_below : (ℕ → Bool) → ℕ → Bool
all_below p zero = true
all_below p (suc n) = p n && all_below p n

below_at : (p : ℕ → Bool) (n k : ℕ) → all_below p n ≡ true → k < n → p k ≡ true
below_at p zero k h lt = absurd (omega arith)
below_at p (suc n) k h lt =
    let parts = and_parts (p n) (all_below p n) h in
    below_more (λ j. p j ≡ true) n (λ j below. below_at p n j parts.1 below) parts.0 k (omega arith)

place_front : (mark : ℕ) (front back : List ℕ) → list_all (λ b. not (b == mark)) front ≡ true → position_or_len (λ b. b == mark) (front ++ (mark ∷ back)) ≡ length front
place_front mark [] back h = ap (λ b. cond (not b) (1 + position_or_len (λ c. c == mark) back) 0) (eq-eqb mark mark refl)
place_front mark (b ∷ front) back h =
    let parts = and_parts (not (b == mark)) (list_all (λ c. not (c == mark)) front) h in
    ap (λ t. cond t (1 + position_or_len (λ c. c == mark) (front ++ (mark ∷ back))) 0) parts.0 ∙ omega (arith, place_front mark front back parts.1)

-- a list without a mark in front of one is cut there
split_front : (mark : ℕ) (front back : List ℕ) → list_all (λ b. not (b == mark)) front ≡ true → split_at mark (front ++ (mark ∷ back)) ≡ Some (front, back)
split_front mark front back h =
    let whole = front ++ (mark ∷ back) in
    let within : length front < length whole = simp length-append (omega arith) in
    let test : nat_lt (length front) (length whole) ≡ true = lt-ltb (length front) (length whole) within in
    let found : position (λ b. b == mark) whole ≡ Some (length front) =
    ap (λ n. cond (nat_lt n (length whole)) (Some n) None) (place_front mark front back h) ∙ ap (λ b. cond b (Some (length front)) None) test in
    ap (option_and_then (λ at. Some (take at whole, drop (at + 1) whole))) found
    ∙ (ap (λ t. Some (t, drop (length front + 1) whole)) (take-append_seam front (mark ∷ back))
    ∙ ap (λ d. Some (front, d)) (drop-append-add front (mark ∷ back) 1))

-- the kinds' words: each names its kind, and none has an opening bracket
kind_again : (kind : Kind) → kind_of (kind_text kind) ≡ Some kind
kind_again Eth = refl
kind_again Tag = refl
kind_again Ipv4 = refl
kind_again Ipv6 = refl
kind_again Ext = refl
kind_again Frag = refl
kind_again Tcp = refl
kind_again Udp = refl
kind_again Icmp = refl
kind_again Icmp6 = refl
kind_again Gre = refl
kind_again Vxlan = refl

kind_plain : (kind : Kind) → list_all (λ b. not (b == 91)) (kind_text kind) ≡ true
kind_plain Eth = refl
kind_plain Tag = refl
kind_plain Ipv4 = refl
kind_plain Ipv6 = refl
kind_plain Ext = refl
kind_plain Frag = refl
kind_plain Tcp = refl
kind_plain Udp = refl
kind_plain Icmp = refl
kind_plain Icmp6 = refl
kind_plain Gre = refl
kind_plain Vxlan = refl

-- whether an option is some number
abbrev is_number : ℕ → Option ℕ → Bool
is_number n None = false
is_number n (Some m) = m == n

number_is : (n : ℕ) (o : Option ℕ) → is_number n o ≡ true → o ≡ Some n
number_is n None h = cc
number_is n (Some m) h = ap Some (eqb-true m n h)

-- the table of names, by computation: each names its field
names_again : (kind : Kind) → all_below (λ field. is_number field (number_of_name kind (name_of kind field))) (length (names_of kind)) ≡ true
names_again Eth = refl
names_again Tag = refl
names_again Ipv4 = refl
names_again Ipv6 = refl
names_again Ext = refl
names_again Frag = refl
names_again Tcp = refl
names_again Udp = refl
names_again Icmp = refl
names_again Icmp6 = refl
names_again Gre = refl
names_again Vxlan = refl

name_again : (kind : Kind) (field : ℕ) → field < length (names_of kind) → number_of_name kind (name_of kind field) ≡ Some field
name_again kind field lt =
    number_is field (number_of_name kind (name_of kind field))
    (below_at (λ f. is_number f (number_of_name kind (name_of kind f))) (length (names_of kind)) field (names_again kind) lt)

-- whether an option is these steps in this direction
abbrev is_way : Bool → ℕ → Option (Bool × ℕ) → Bool
is_way inside steps None = false
is_way true steps (Some way) = way.0 && way.1 == steps
is_way false steps (Some way) = not way.0 && way.1 == steps

not_true : (b : Bool) → not b ≡ true → b ≡ false
not_true true h = cc
not_true false h = refl

way_is : (inside : Bool) (steps : ℕ) (o : Option (Bool × ℕ)) → is_way inside steps o ≡ true → o ≡ Some (inside, steps)
way_is true steps None h = cc
way_is false steps None h = cc
way_is true steps (Some way) h =
    let parts = and_parts way.0 (way.1 == steps) h in
    let same : way.1 ≡ steps = eqb-true way.1 steps parts.1 in
    ap (λ b. Some (b, way.1)) parts.0 ∙ ap (λ n. Some (true, n)) same
way_is false steps (Some way) h =
    let parts = and_parts (not way.0) (way.1 == steps) h in
    let same : way.1 ≡ steps = eqb-true way.1 steps parts.1 in
    ap (λ b. Some (b, way.1)) (not_true way.0 parts.0) ∙ ap (λ n. Some (false, n)) same

-- the indices, by computation: each reads as itself, and none has a closing bracket
indices_again : (inside : Bool) → all_below (λ steps. is_way inside steps (index_of (index_text inside steps)) && list_all (λ b. not (b == 93)) (index_text inside steps)) 16 ≡ true
unfolding index_of digits
indices_again true = refl
indices_again false = refl

index_again : (inside : Bool) (steps : ℕ) → steps ≤ 15 → (index_of (index_text inside steps) ≡ Some (inside, steps)) × (list_all (λ b. not (b == 93)) (index_text inside steps) ≡ true)
index_again inside steps near =
    let both = below_at (λ n. is_way inside n (index_of (index_text inside n)) && list_all (λ b. not (b == 93)) (index_text inside n)) 16 steps (indices_again inside) (omega arith) in
    let parts = and_parts (is_way inside steps (index_of (index_text inside steps))) (list_all (λ b. not (b == 93)) (index_text inside steps)) both in
    (way_is inside steps (index_of (index_text inside steps)) parts.0, parts.1)

-- the text of a field reads as its parts
pub parts_again : (kind : Kind) (inside : Bool) (steps field : ℕ) → steps ≤ 15 → field < length (names_of kind) → parts_of (text_of kind inside steps field) ≡ Some (kind, (inside, steps), field)
unfolding parts_of
parts_again kind inside steps field near within =
    let name = name_of kind field in
    let index = index_text inside steps in
    let index_facts = index_again inside steps near in
    let front : split_at 91 (text_of kind inside steps field) ≡ Some (kind_text kind, index ++ (93 ∷ 46 ∷ name)) = split_front 91 (kind_text kind) (index ++ (93 ∷ 46 ∷ name)) (kind_plain kind) in
    let back : split_at 93 (index ++ (93 ∷ 46 ∷ name)) ≡ Some (index, 46 ∷ name) = split_front 93 index (46 ∷ name) index_facts.1 in
    rw (front, back, kind_again kind, index_facts.0, name_again kind field within) refl

-- what reads as parts is their text
pub record IsText (text : List ℕ) (kind : Kind) (way : Bool × ℕ) (field : ℕ) : Type 0 where
  pub spelled : text ≡ text_of kind way.0 way.1 field
  pub near : way.1 ≤ 15
  pub within : field < length (names_of kind)

joined : (text : List ℕ) (front index : List ℕ × List ℕ) (kind : Kind) (way : Bool × ℕ) (name : List ℕ) (field : ℕ) → split_at 91 text ≡ Some front → split_at 93 front.1 ≡ Some index → kind_of front.0 ≡ Some kind → index_of index.0 ≡ Some way → behind_point index.1 ≡ Some name → number_of_name kind name ≡ Some field → IsText text kind way field
joined text front index kind way name field cut closed kind_is way_read pointed named =
    let way_facts = index_found index.0 way way_read in
    let name_facts = name_found kind name field named in
    let behind : index.1 ≡ 46 ∷ name_of kind field = point_found index.1 name pointed ∙ ap (λ n. 46 ∷ n) name_facts.0 in
    let inner : front.1 ≡ index_text way.0 way.1 ++ (93 ∷ 46 ∷ name_of kind field) =
    split_parts 93 front.1 index closed ∙ (ap (λ i. i ++ (93 ∷ index.1)) way_facts.0 ∙ ap (λ b. index_text way.0 way.1 ++ (93 ∷ b)) behind) in
    let whole : text ≡ text_of kind way.0 way.1 field =
    split_parts 91 text front cut ∙ (ap (λ k. k ++ (91 ∷ front.1)) (kind_found front.0 kinds kind kind_is) ∙ ap (λ r. kind_text kind ++ (91 ∷ r)) inner) in
    record { spelled = whole; near = way_facts.1; within = name_facts.1 }

pub parts_found : (text : List ℕ) (kind : Kind) (way : Bool × ℕ) (field : ℕ) → parts_of text ≡ Some (kind, way, field) → IsText text kind way field
unfolding parts_of
parts_found text kind way field e =
    option_and_then_some _ (split_at 91 text) _ e (λ front cut rest.
    option_and_then_some _ (split_at 93 front.1) _ rest (λ index closed rest.
    option_and_then_some _ (kind_of front.0) _ rest (λ k kind_is rest.
    option_and_then_some _ (index_of index.0) _ rest (λ w way_read rest.
    option_and_then_some _ (behind_point index.1) _ rest (λ name pointed rest.
    option_and_then_some _ (number_of_name k name) _ rest (λ f named same.
    subst (λ t. IsText text t.0 t.1 t.2) (same_Some _ _ same) (joined text front index k w name f cut closed kind_is way_read pointed named)))))))
