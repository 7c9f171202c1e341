-- The whole records at the front of bytes, one step at a time.
use Rattle.std.proofs.Common.{◌≡◌, ◌<◌, ℕ, zero, suc, ◌+◌, List, [], ◌∷◌, ◌++◌, drop, true, false, refl, ap, ◌∙◌, arith}
use Rattle.pcap_reader.specs.declared.format.Format.{Format}
use Rattle.pcap_reader.specs.Records.{record_length, begins_record, first_record, whole_records, behind_records}
use Rattle.pcap_reader.proofs.Fronts.{first_append, behind_append, begins_append}

pub whole_step : (f : Format) (left number : ℕ) (xs : List ℕ) → begins_record f xs ≡ true
    → whole_records f (suc left) number xs ≡ first_record f number xs ∷ whole_records f left (suc number) (drop (record_length f xs) xs)
unfolding whole_records
whole_step f left number xs h = rw h refl

pub whole_stop : (f : Format) (left number : ℕ) (xs : List ℕ) → begins_record f xs ≡ false → whole_records f (suc left) number xs ≡ []
unfolding whole_records
whole_stop f left number xs h = rw h refl

pub whole_none : (f : Format) (number : ℕ) (xs : List ℕ) → whole_records f zero number xs ≡ []
unfolding whole_records
whole_none f number xs = refl

pub behind_step : (f : Format) (left : ℕ) (xs : List ℕ) → begins_record f xs ≡ true
    → behind_records f (suc left) xs ≡ behind_records f left (drop (record_length f xs) xs)
unfolding behind_records
behind_step f left xs h = rw h refl

pub behind_stop : (f : Format) (left : ℕ) (xs : List ℕ) → begins_record f xs ≡ false → behind_records f (suc left) xs ≡ xs
unfolding behind_records
behind_stop f left xs h = rw h refl

pub behind_none : (f : Format) (xs : List ℕ) → behind_records f zero xs ≡ xs
unfolding behind_records
behind_none f xs = refl

-- the first of the records that are still lawful, whatever bytes follow
pub whole_more : (f : Format) (left next number : ℕ) (xs ys : List ℕ) → begins_record f xs ≡ true → left ≡ suc next
    → whole_records f left number (xs ++ ys) ≡ first_record f number xs ∷ whole_records f next (number + 1) (drop (record_length f xs) xs ++ ys)
whole_more f left next number xs ys h e =
    let n : suc number ≡ number + 1 = omega arith in
    ap (λ m. whole_records f m number (xs ++ ys)) e
    ∙ whole_step f next number (xs ++ ys) (begins_append f xs ys h)
    ∙ ap (λ r. r ∷ whole_records f next (suc number) (drop (record_length f (xs ++ ys)) (xs ++ ys))) (first_append f number xs ys h)
    ∙ ap (λ zs. first_record f number xs ∷ whole_records f next (suc number) zs) (behind_append f xs ys h)
    ∙ ap (λ m. first_record f number xs ∷ whole_records f next m (drop (record_length f xs) xs ++ ys)) n

pub behind_more : (f : Format) (left next : ℕ) (xs ys : List ℕ) → begins_record f xs ≡ true → left ≡ suc next
    → behind_records f left (xs ++ ys) ≡ behind_records f next (drop (record_length f xs) xs ++ ys)
behind_more f left next xs ys h e =
    ap (λ m. behind_records f m (xs ++ ys)) e
    ∙ behind_step f next (xs ++ ys) (begins_append f xs ys h)
    ∙ ap (behind_records f next) (behind_append f xs ys h)

-- where no further record stands
pub whole_end : (f : Format) (left number : ℕ) (xs : List ℕ) → (0 < left → begins_record f xs ≡ false) → whole_records f left number xs ≡ []
whole_end f zero number xs h = whole_none f number xs
whole_end f (suc left) number xs h = whole_stop f left number xs (h (omega arith))

pub behind_end : (f : Format) (left : ℕ) (xs : List ℕ) → (0 < left → begins_record f xs ≡ false) → behind_records f left xs ≡ xs
behind_end f zero xs h = behind_none f xs
behind_end f (suc left) xs h = behind_stop f left xs (h (omega arith))
