-- Each kind of field is exact.
use Rattle.std.proofs.Common.{◌≡◌, ℕ, zero, suc, ◌^◌, ◌<◌, ◌≤◌, ◌==◌, ◌⊎◌, Bool, true, false, if◌then◌else◌, nat_lt, List, [], ◌∷◌, ◌++◌, length, take, drop, Option, Some, None, All, refl, sym, ap, ap₂, ◌∙◌, subst, arith, inl, inr, append_assoc, drop_at, take_at, length-append, ltb-false, le-ltb, eqb-true}
use Rattle.std.proofs.lemmas.List.{take-append-drop}
use Rattle.std.proofs.lemmas.List.Elements.{All-cons, All-nil}
use Rattle.std.specs.List.{flat_map}
use Rattle.byteorder.specs.Endian.{big_number}
use Rattle.node_frames.specs.Fields.{Field, Read, ◌>>=◌, ◌&◌, number, number_in, plain, stamp, bytes_of, many, read_many, numbers, read_counted, truth, truth_of}
use Rattle.node_frames.proofs.Bytes.{AreBytes, front_bytes, length-take_fits, number_front, number_back, number_below, length-bytes_of}
use Rattle.node_frames.proofs.Exact.{Begins, IsExact, steps, goes_on, rest_bytes, pair_same, exact_both, exact_formed}

-- ---- a choice

pub chosen : {A : Type 0} (test : Bool) (x y out : Option A) → (if test then x else y) ≡ out → ((test ≡ true) × (x ≡ out)) ⊎ ((test ≡ false) × (y ≡ out))
chosen true x y out e = inl (refl, e)
chosen false x y out e = inr (refl, e)

-- ---- so many bytes, taken off the front

pub record Cut {A : Type 0} (width : ℕ) (bytes : List ℕ) (v a : A) (rest : List ℕ) : Type 0 where
  pub long : width ≤ length bytes
  pub value : v ≡ a
  pub after : drop width bytes ≡ rest

cut : {A : Type 0} (width : ℕ) (bytes : List ℕ) (v a : A) (rest : List ℕ)
    → (let read : Read A = if nat_lt (length bytes) width then None else Some (v, drop width bytes) in read) ≡ Some (a, rest) → Cut width bytes v a rest
cut {A} width bytes v a rest e =
    let none : Read A = None in
    let some : Read A = Some (v, drop width bytes) in
    elim (chosen (nat_lt (length bytes) width) none some (Some (a, rest)) e) [
      | inl short ↦ absurd (let nothing_is : none ≡ Some (a, rest) = short.1 in cc)
      | inr whole ↦
          let same = pair_same v a (drop width bytes) rest whole.1 in
          record { long = ltb-false (length bytes) width whole.0; value = same.0; after = same.1 }
    ]

uncut : {A : Type 0} (width : ℕ) (bytes : List ℕ) (v : A) → width ≤ length bytes
    → (let read : Read A = if nat_lt (length bytes) width then None else Some (v, drop width bytes) in read) ≡ Some (v, drop width bytes)
uncut {A} width bytes v le =
    let none : Read A = None in
    let some : Read A = Some (v, drop width bytes) in
    ap (λ (t : Bool). if t then none else some) (le-ltb (length bytes) width le)

-- ---- a number

pub exact_number : (width : ℕ) → IsExact (number width)
unfolding number_in
exact_number width = record {
  sound = λ bytes a rest are e.
      let here = cut width bytes (big_number width bytes) a rest e in
      record {
        fit = subst (λ n. n < 256 ^ width) here.value (number_below width bytes are);
        spelled = number_front width bytes are here.long ∙ ap (λ n. bytes_of width n ++ drop width bytes) here.value ∙ ap (λ more. bytes_of width a ++ more) here.after;
      };
  complete = λ a rest fit.
      let front : length (bytes_of width a) ≡ width = length-bytes_of width a in
      let long : width ≤ length (bytes_of width a ++ rest) = omega (arith, length-append (bytes_of width a) rest, front) in
      uncut width (bytes_of width a ++ rest) (big_number width (bytes_of width a ++ rest)) long
      ∙ ap₂ (λ (n : ℕ) (more : List ℕ). Some (n, more)) (number_back width a rest fit) (drop_at (bytes_of width a) rest width front);
}

-- ---- bytes as they stand

pub exact_plain : (width : ℕ) → IsExact (plain width)
exact_plain width = record {
  sound = λ bytes a rest are e.
      let here = cut width bytes (take width bytes) a rest e in
      record {
        fit = subst (λ front. (length front ≡ width) × AreBytes front) here.value (length-take_fits width bytes here.long, front_bytes width bytes are);
        spelled = sym (take-append-drop width bytes) ∙ ap (λ front. front ++ drop width bytes) here.value ∙ ap (λ more. a ++ more) here.after;
      };
  complete = λ a rest fit.
      let long : width ≤ length (a ++ rest) = omega (arith, length-append a rest, fit.0) in
      uncut width (a ++ rest) (take width (a ++ rest)) long
      ∙ ap₂ (λ (front more : List ℕ). Some (front, more)) (take_at a rest width fit.0) (drop_at a rest width fit.0);
}

-- ---- a stamp

pub exact_stamp : IsExact stamp
exact_stamp = exact_formed
    (λ (time, (capture, n)). record { time = time; capture = capture; number = n })
    (λ s. (s.time, (s.capture, s.number)))
    (number 8 & number 4 & number 8) (λ a. refl) (λ s. refl)
    (exact_both (number 8) (number 4 & number 8) (exact_number 8) (exact_both (number 4) (number 8) (exact_number 4) (exact_number 8)))

-- ---- so many values of a field

pub exact_many : {A : Type 0} (field : Field A) → IsExact field → (count : ℕ) → IsExact (many count field)
unfolding read_many
exact_many {A} field exact zero = record {
  sound = λ bytes values rest are e.
      let none : List A = [] in
      let same = pair_same none values bytes rest e in
      subst (λ vs. Begins (many 0 field) bytes vs rest) same.0 (record { fit = (refl, All-nil field.IsFit); spelled = same.1 });
  complete = λ values rest fit. elim values as (λ vs. (length vs ≡ 0) → read_many field 0 (flat_map field.spelling vs ++ rest) ≡ Some (vs, rest)) [
    | [] ↦ λ h. refl
    | v ∷ vs ↦ λ h. absurd (omega arith)
  ] fit.0;
}
exact_many {A} field exact (suc more) =
    let others = exact_many field exact more in
    record {
      sound = λ bytes values rest are e.
          let s = steps (field.read bytes) (λ a rest. read_many field more rest >>= λ others after. Some (a ∷ others, after)) values rest e in
          let one = exact.sound bytes s.value s.rest are s.read in
          let t = steps (read_many field more s.rest) (λ others after. Some (s.value ∷ others, after)) values rest s.goes_on in
          let two = others.sound s.rest t.value t.rest (rest_bytes field bytes s.value s.rest are one) t.read in
          let same = pair_same (s.value ∷ t.value) values t.rest rest t.goes_on in
          let long : length (s.value ∷ t.value) ≡ suc more = omega (arith, two.fit.0) in
          subst (λ vs. Begins (many (suc more) field) bytes vs rest) same.0
          (subst (λ after. Begins (many (suc more) field) bytes (s.value ∷ t.value) after) same.1 (record {
            fit = (long, All-cons field.IsFit s.value t.value one.fit two.fit.1);
            spelled = one.spelled ∙ ap (λ after. field.spelling s.value ++ after) two.spelled ∙ sym (append_assoc (field.spelling s.value) (flat_map field.spelling t.value) t.rest);
          }));
      complete = λ values rest fit. elim values as (λ vs. (length vs ≡ suc more) × All field.IsFit vs → read_many field (suc more) (flat_map field.spelling vs ++ rest) ≡ Some (vs, rest)) [
        | [] ↦ λ h. absurd (omega (arith, h.0))
        | v ∷ vs ↦ λ h.
            let few : length vs ≡ more = omega (arith, h.0) in
            let first : field.IsFit v = h.1 0 v (omega arith) in
            let later : All field.IsFit vs = λ k d lt. h.1 (suc k) d (omega arith) in
            ap (λ bytes. read_many field (suc more) bytes) (append_assoc (field.spelling v) (flat_map field.spelling vs) rest)
            ∙ goes_on (field.read (field.spelling v ++ (flat_map field.spelling vs ++ rest))) (λ a rest. read_many field more rest >>= λ others after. Some (a ∷ others, after)) v (flat_map field.spelling vs ++ rest)
            (exact.complete v (flat_map field.spelling vs ++ rest) first)
            ∙ goes_on (read_many field more (flat_map field.spelling vs ++ rest)) (λ others after. Some (v ∷ others, after)) vs rest (others.complete vs rest (few, later))
      ] fit;
    }

-- ---- a list of numbers

pub exact_numbers : IsExact numbers
exact_numbers = record {
  sound = λ bytes ns rest are e.
      let s = steps ((number 1).read bytes) read_counted ns rest e in
      let one = (exact_number 1).sound bytes s.value s.rest are s.read in
      elim (chosen (nat_lt 16 s.value) None (read_many (number 16) s.value s.rest) (Some (ns, rest)) s.goes_on) [
        | inl many_more ↦ absurd (let none : Read (List ℕ) = None in let nothing_is : none ≡ Some (ns, rest) = many_more.1 in cc)
        | inr few ↦
            let two = (exact_many (number 16) (exact_number 16) s.value).sound s.rest ns rest (rest_bytes (number 1) bytes s.value s.rest are one) few.1 in
            let most : length ns ≤ 16 = omega (arith, ltb-false 16 s.value few.0, two.fit.0) in
            record {
              fit = (most, two.fit.1);
              spelled = one.spelled ∙ ap (λ after. bytes_of 1 s.value ++ after) two.spelled
                  ∙ ap (λ n. bytes_of 1 n ++ (flat_map (bytes_of 16) ns ++ rest)) (sym two.fit.0)
                  ∙ sym (append_assoc (bytes_of 1 (length ns)) (flat_map (bytes_of 16) ns) rest);
            }
      ];
  complete = λ ns rest fit.
      let small : length ns < 256 ^ 1 = omega (arith, fit.0) in
      ap (λ bytes. (number 1).read bytes >>= read_counted) (append_assoc (bytes_of 1 (length ns)) (flat_map (bytes_of 16) ns) rest)
      ∙ goes_on ((number 1).read (bytes_of 1 (length ns) ++ (flat_map (bytes_of 16) ns ++ rest))) read_counted (length ns) (flat_map (bytes_of 16) ns ++ rest)
      ((exact_number 1).complete (length ns) (flat_map (bytes_of 16) ns ++ rest) small)
      ∙ ap (λ (t : Bool). if t then None else read_many (number 16) (length ns) (flat_map (bytes_of 16) ns ++ rest)) (le-ltb 16 (length ns) fit.0)
      ∙ (exact_many (number 16) (exact_number 16) (length ns)).complete ns rest (refl, fit.1);
}

-- ---- one byte

pub first_read : (b : ℕ) (rest : List ℕ) → (number 1).read (b ∷ rest) ≡ Some (b, rest)
unfolding number_in
first_read b rest =
    let long : 1 ≤ length (b ∷ rest) = omega arith in
    let value : big_number 1 (b ∷ rest) ≡ b = omega arith in
    uncut 1 (b ∷ rest) (big_number 1 (b ∷ rest)) long ∙ ap (λ (n : ℕ). Some (n, rest)) value

pub first_is : (bytes : List ℕ) (b : ℕ) (rest : List ℕ) → (number 1).read bytes ≡ Some (b, rest) → bytes ≡ b ∷ rest
unfolding number_in
first_is [] b rest e = let none : Read ℕ = None in let nothing_is : none ≡ Some (b, rest) = e in absurd (cc)
first_is (x ∷ bytes) b rest e =
    let same = pair_same x b bytes rest (sym (first_read x bytes) ∙ e) in
    ap₂ (λ (y : ℕ) (ys : List ℕ). y ∷ ys) same.0 same.1

-- ---- a truth value

truth_is : (n : ℕ) (rest : List ℕ) (b : Bool) (after : List ℕ) → truth_of n rest ≡ Some (b, after) → n ∷ rest ≡ truth.spelling b ++ after
truth_is n rest b after e =
    elim (chosen (n == 0) (Some (false, rest)) (if n == 1 then Some (true, rest) else None) (Some (b, after)) e) [
      | inl zeroth ↦
          let zeroed : n ≡ 0 = eqb-true n 0 zeroth.0 in
          let same = pair_same false b rest after zeroth.1 in
          ap (λ m. m ∷ rest) zeroed ∙ ap (λ more. 0 ∷ more) same.1 ∙ ap (λ (t : Bool). (if t then 1 else 0) ∷ after) same.0
      | inr others ↦
          elim (chosen (n == 1) (Some (true, rest)) None (Some (b, after)) others.1) [
            | inl first ↦
                let one : n ≡ 1 = eqb-true n 1 first.0 in
                let same = pair_same true b rest after first.1 in
                ap (λ m. m ∷ rest) one ∙ ap (λ more. 1 ∷ more) same.1 ∙ ap (λ (t : Bool). (if t then 1 else 0) ∷ after) same.0
            | inr none ↦ let nothing : Read Bool = None in let nothing_is : nothing ≡ Some (b, after) = none.1 in absurd (cc)
          ]
    ]

pub exact_truth : IsExact truth
exact_truth = record {
  sound = λ bytes b rest are e.
      let s = steps ((number 1).read bytes) truth_of b rest e in
      record { fit = tt; spelled = first_is bytes s.value s.rest s.read ∙ truth_is s.value s.rest b rest s.goes_on };
  complete = λ b rest fit. elim b as (λ (t : Bool). truth.read (truth.spelling t ++ rest) ≡ Some (t, rest)) [
    | true ↦ goes_on ((number 1).read (1 ∷ rest)) truth_of 1 rest (first_read 1 rest)
    | false ↦ goes_on ((number 1).read (0 ∷ rest)) truth_of 0 rest (first_read 0 rest)
  ];
}
