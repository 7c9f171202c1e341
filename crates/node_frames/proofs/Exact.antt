-- A field is exact where bytes read as a value just where they begin with its spelling. Fields that are
-- made of exact ones are exact.
use Rattle.std.proofs.Common.{◌≡◌, ℕ, List, ◌++◌, Option, Some, None, refl, sym, ap, ◌∙◌, subst, append_assoc}
use Rattle.node_frames.specs.Fields.{Field, Read, ◌>>=◌, ◌&◌, formed}
use Rattle.node_frames.proofs.Bytes.{AreBytes, back_bytes}

-- bytes begin with the spelling of a value that there is
pub record Begins {A : Type 0} (field : Field A) (bytes : List ℕ) (a : A) (rest : List ℕ) : Type 0 where
  pub fit : field.IsFit a
  pub spelled : bytes ≡ field.spelling a ++ rest

pub record IsExact {A : Type 0} (field : Field A) : Type 0 where
  pub sound : (bytes : List ℕ) (a : A) (rest : List ℕ) → AreBytes bytes → field.read bytes ≡ Some (a, rest) → Begins field bytes a rest
  pub complete : (a : A) (rest : List ℕ) → field.IsFit a → field.read (field.spelling a ++ rest) ≡ Some (a, rest)

-- what was read in two steps
pub record Steps {A B : Type 0} (first : Read A) (next : A → List ℕ → Read B) (b : B) (after : List ℕ) : Type 0 where
  pub value : A
  pub rest : List ℕ
  pub read : first ≡ Some (value, rest)
  pub goes_on : next value rest ≡ Some (b, after)

pub steps : {A B : Type 0} (first : Read A) (next : A → List ℕ → Read B) (b : B) (after : List ℕ) → (first >>= next) ≡ Some (b, after) → Steps first next b after
steps None next b after e = absurd (cc)
steps (Some (a, rest)) next b after e = record { value = a; rest = rest; read = refl; goes_on = e }

pub goes_on : {A B : Type 0} (first : Read A) (next : A → List ℕ → Read B) (a : A) (rest : List ℕ) → first ≡ Some (a, rest) → (first >>= next) ≡ next a rest
goes_on first next a rest e = ap (λ r. r >>= next) e

-- the bytes after a value are bytes
pub rest_bytes : {A : Type 0} (field : Field A) (bytes : List ℕ) (a : A) (rest : List ℕ) → AreBytes bytes → Begins field bytes a rest → AreBytes rest
rest_bytes field bytes a rest are begins = back_bytes (field.spelling a) rest (subst AreBytes begins.spelled are)

-- a pair or none
abbrev Read_of : Type 0 → Type 0 → Type 0
Read_of A B = Option (A × B)

pub pair_same : {A B : Type 0} (a c : A) (b d : B) → (let l : Read_of A B = Some (a, b) in let r : Read_of A B = Some (c, d) in l ≡ r) → (a ≡ c) × (b ≡ d)
pair_same {A} {B} a c b d e =
    let l : A × B = (a, b) in
    let r : A × B = (c, d) in
    let same : l ≡ r = cc in
    (ap (λ (p : A × B). p.0) same, ap (λ (p : A × B). p.1) same)

pub exact_both : {A B : Type 0} (first : Field A) (second : Field B) → IsExact first → IsExact second → IsExact (first & second)
exact_both {A} {B} first second exact_first exact_second = record {
  sound = λ bytes p rest are e.
      let s = steps (first.read bytes) (λ a rest. second.read rest >>= λ b after. Some ((a, b), after)) p rest e in
      let one = exact_first.sound bytes s.value s.rest are s.read in
      let t = steps (second.read s.rest) (λ b after. Some ((s.value, b), after)) p rest s.goes_on in
      let two = exact_second.sound s.rest t.value t.rest (rest_bytes first bytes s.value s.rest are one) t.read in
      let same = pair_same (s.value, t.value) p t.rest rest t.goes_on in
      subst (λ (q : A × B). Begins (first & second) bytes q rest) same.0
      (subst (λ after. Begins (first & second) bytes (s.value, t.value) after) same.1 (record {
        fit = (one.fit, two.fit);
        spelled = one.spelled ∙ ap (λ more. first.spelling s.value ++ more) two.spelled ∙ sym (append_assoc (first.spelling s.value) (second.spelling t.value) t.rest);
      }));
  complete = λ (a, b) rest fit.
      ap (λ bytes. first.read bytes >>= λ a rest. second.read rest >>= λ b after. Some ((a, b), after)) (append_assoc (first.spelling a) (second.spelling b) rest)
      ∙ goes_on (first.read (first.spelling a ++ (second.spelling b ++ rest))) (λ a rest. second.read rest >>= λ b after. Some ((a, b), after)) a (second.spelling b ++ rest)
      (exact_first.complete a (second.spelling b ++ rest) fit.0)
      ∙ goes_on (second.read (second.spelling b ++ rest)) (λ b after. Some ((a, b), after)) b rest (exact_second.complete b rest fit.1);
}

pub exact_formed : {A B : Type 0} (to : A → B) (from : B → A) (field : Field A) → ((a : A) → from (to a) ≡ a) → ((b : B) → to (from b) ≡ b) → IsExact field → IsExact (formed to from field)
exact_formed {A} {B} to from field back forth exact = record {
  sound = λ bytes b rest are e.
      let s = steps (field.read bytes) (λ a rest. Some (to a, rest)) b rest e in
      let one = exact.sound bytes s.value s.rest are s.read in
      let same = pair_same (to s.value) b s.rest rest s.goes_on in
      let value : from b ≡ s.value = ap from (sym same.0) ∙ back s.value in
      record {
        fit = subst field.IsFit (sym value) one.fit;
        spelled = one.spelled ∙ ap (λ v. field.spelling v ++ s.rest) (sym value) ∙ ap (λ more. field.spelling (from b) ++ more) same.1;
      };
  complete = λ b rest fit.
      goes_on (field.read (field.spelling (from b) ++ rest)) (λ a rest. Some (to a, rest)) (from b) rest (exact.complete (from b) rest fit)
      ∙ ap (λ v. Some (v, rest)) (forth b);
}
