-- How the reader of a libpcap file goes on to stand for what was fed and given.
use Rattle.std.proofs.Common.{◌≡◌, ◌≤◌, ◌<◌, ℕ, suc, ◌+◌, ◌-◌, List, [], ◌∷◌, ◌++◌, length, take, drop, true, false, Option, Some, None, Ok, Err, MatchOption, refl, sym, ap, subst, ◌∙◌, arith, append_assoc, length-append, length-drop}
use Rattle.std.specs.Prelude.{is_none, nat_lt, ◌&&◌}
use Rattle.std.proofs.lemmas.List.{append-nil, nil_from_length, take-append-le, drop-append-le, length_push, take_all}
use Rattle.ds_base.specs.declared.capture.Bad.{Bad}
use Rattle.pcap_reader.specs.declared.format.Format.{Format}
use Rattle.pcap_reader.specs.Captured.{Captured}
use Rattle.pcap_reader.specs.Format.{header_of, is_short_header, short_header}
use Rattle.pcap_reader.specs.Records.{most_records, record_length, begins_record, first_record, whole_records, behind_records, record_fault, IsLast}
use Rattle.pcap_reader.specs.Libpcap.{file_format, libpcap_records, libpcap_rest, libpcap_bad, libpcap_cut, records_under, rest_under, bad_under}
use Rattle.pcap_reader.specs.LibpcapReader.{Reader, IsUnopened, IsOpened, IsAt, StandsFor, WaitsAt, IsWaiting, bytes_fed, bytes_held}
use Rattle.pcap_reader.specs.LibpcapSteps.{AreFirst, GivesNext, GivesNone, GivesBad, IsNowOpen}
use Rattle.pcap_reader.proofs.Runs.{whole_more, behind_more, whole_end, behind_end}
use Rattle.pcap_reader.proofs.Fronts.{shown_number, Fits, begins_fits, last_append, fault_append, header_append}

-- a file with a lawful header
pub records_of_format : (f : Format) (bytes : List ℕ) → file_format bytes ≡ Ok f → libpcap_records bytes ≡ whole_records f most_records 0 (drop 24 bytes)
unfolding libpcap_records
records_of_format f bytes h = ap (λ r. records_under r bytes) h

pub rest_of_format : (f : Format) (bytes : List ℕ) → file_format bytes ≡ Ok f → libpcap_rest bytes ≡ behind_records f most_records (drop 24 bytes)
unfolding libpcap_rest
rest_of_format f bytes h = ap (λ r. rest_under r bytes) h

pub bad_of_format : (f : Format) (bytes : List ℕ) → file_format bytes ≡ Ok f
    → libpcap_bad bytes ≡ record_fault f (length (libpcap_records bytes)) (length bytes - length (libpcap_rest bytes)) (libpcap_rest bytes)
unfolding libpcap_bad
bad_of_format f bytes h = ap (λ r. bad_under r bytes) h

-- a file with a malformed one
pub records_of_fault : (b : Bad) (bytes : List ℕ) → file_format bytes ≡ Err b → libpcap_records bytes ≡ []
unfolding libpcap_records
records_of_fault b bytes h = ap (λ r. records_under r bytes) h

pub bad_of_fault : (b : Bad) (bytes : List ℕ) → file_format bytes ≡ Err b → libpcap_bad bytes ≡ Some b
unfolding libpcap_bad
bad_of_fault b bytes h = ap (λ r. bad_under r bytes) h

-- the header stays when bytes follow
pub format_append : (xs ys : List ℕ) → 24 ≤ length xs → file_format (xs ++ ys) ≡ file_format xs
format_append xs ys h = ap header_of (take-append-le 24 xs ys h)

-- The header was read, and the reader stands after it.
pub opened : (f : Format) (old new : Reader) (fed : List ℕ) (given : List Captured)
    → IsUnopened old fed → length given ≡ old.count → 24 ≤ length old.rest → header_of (take 24 old.rest) ≡ Ok f
    → new.count ≡ old.count → new.rest ≡ drop 24 old.rest → IsOpened f new fed given
opened f old new fed given u n long h count rest =
    let none : given ≡ [] = nil_from_length given (omega (arith, n, u.count)) in
    let zero_count : new.count ≡ 0 = count ∙ u.count in
    let fits : 24 ≤ length fed = subst (λ (xs : List ℕ). 24 ≤ length xs) u.rest long in
    let format : file_format fed ≡ Ok f = ap (λ (xs : List ℕ). header_of (take 24 xs)) (sym u.rest) ∙ h in
    let same : drop 24 fed ≡ new.rest = ap (drop 24) (sym u.rest) ∙ sym rest in
    let at_zero : most_records - new.count ≡ most_records = omega (arith, zero_count) in
    let behind : (more : List ℕ) → drop 24 (fed ++ more) ≡ new.rest ++ more =
    λ more. drop-append-le 24 fed more fits ∙ ap (λ (xs : List ℕ). xs ++ more) same in
    record {
      header = λ more. format_append fed more fits ∙ format;
      records = λ more. records_of_format f (fed ++ more) (format_append fed more fits ∙ format)
          ∙ ap (whole_records f most_records 0) (behind more)
          ∙ ap (λ (m : ℕ). whole_records f m 0 (new.rest ++ more)) (sym at_zero)
          ∙ ap (λ (m : ℕ). whole_records f (most_records - new.count) m (new.rest ++ more)) (sym zero_count)
          ∙ ap (λ (rs : List Captured). rs ++ whole_records f (most_records - new.count) new.count (new.rest ++ more)) (sym none);
      rest = λ more. rest_of_format f (fed ++ more) (format_append fed more fits ∙ format)
          ∙ ap (behind_records f most_records) (behind more)
          ∙ ap (λ (m : ℕ). behind_records f m (new.rest ++ more)) (sym at_zero);
      few = omega (arith, zero_count);
    }

-- The next record was given.
pub given_more : (f : Format) (old new : Reader) (fed : List ℕ) (given : List Captured)
    → IsOpened f old fed given → old.count < most_records → begins_record f old.rest ≡ true
    → new.count ≡ old.count + 1 → new.rest ≡ drop (record_length f old.rest) old.rest
    → IsOpened f new fed (given ++ first_record f old.count old.rest ∷ [])
given_more f old new fed given o few h count rest =
    let left : most_records - old.count ≡ suc (most_records - new.count) = omega (arith, few, count) in
    record {
      header = o.header;
      records = λ more. o.records more
          ∙ ap (λ (rs : List Captured). given ++ rs) (whole_more f (most_records - old.count) (most_records - new.count) old.count old.rest more h left)
          ∙ ap (λ (m : ℕ). given ++ first_record f old.count old.rest ∷ whole_records f (most_records - new.count) m (drop (record_length f old.rest) old.rest ++ more)) (sym count)
          ∙ ap (λ (xs : List ℕ). given ++ first_record f old.count old.rest ∷ whole_records f (most_records - new.count) new.count (xs ++ more)) (sym rest)
          ∙ sym (append_assoc given (first_record f old.count old.rest ∷ []) (whole_records f (most_records - new.count) new.count (new.rest ++ more)));
      rest = λ more. o.rest more
          ∙ behind_more f (most_records - old.count) (most_records - new.count) old.rest more h left
          ∙ ap (λ (xs : List ℕ). behind_records f (most_records - new.count) (xs ++ more)) (sym rest);
      few = omega (arith, few, count);
    }

pub record IsAll (f : Format) (reader : Reader) (fed : List ℕ) (given : List Captured) (rest : List ℕ) : Type 0 where
  pub records : libpcap_records fed ≡ given
  pub rest_is : libpcap_rest fed ≡ rest
  pub bad : libpcap_bad fed ≡ record_fault f reader.count reader.place rest

-- All records were given, and none stands at the front of the rest and the bytes that follow.
pub all_with : (f : Format) (reader : Reader) (fed more : List ℕ) (given : List Captured)
    → IsOpened f reader fed given → length fed ≡ bytes_fed reader → length given ≡ reader.count → IsLast f reader.count (reader.rest ++ more)
    → IsAll f reader (fed ++ more) given (reader.rest ++ more)
all_with f reader fed more given o long number last =
    let rest : List ℕ = reader.rest ++ more in
    let end : 0 < most_records - reader.count → begins_record f rest ≡ false = λ few. last (omega (arith, few)) in
    let records : libpcap_records (fed ++ more) ≡ given =
    o.records more
    ∙ ap (λ (rs : List Captured). given ++ rs) (whole_end f (most_records - reader.count) reader.count rest end)
    ∙ append-nil given in
    let behind : libpcap_rest (fed ++ more) ≡ rest = o.rest more ∙ behind_end f (most_records - reader.count) rest end in
    let place : length (fed ++ more) - length rest ≡ reader.place = omega (arith, long, length-append fed more, length-append reader.rest more) in
    let count : length (libpcap_records (fed ++ more)) ≡ reader.count = ap length records ∙ number in
    record {
      records = records;
      rest_is = behind;
      bad = bad_of_format f (fed ++ more) (o.header more)
          ∙ ap (λ (n : ℕ). record_fault f n (length (fed ++ more) - length (libpcap_rest (fed ++ more))) (libpcap_rest (fed ++ more))) count
          ∙ ap (λ (xs : List ℕ). record_fault f reader.count (length (fed ++ more) - length xs) xs) behind
          ∙ ap (λ (n : ℕ). record_fault f reader.count n rest) place;
    }

-- All records were given.
pub all_given : (f : Format) (reader : Reader) (fed : List ℕ) (given : List Captured)
    → IsOpened f reader fed given → length fed ≡ bytes_fed reader → length given ≡ reader.count → IsLast f reader.count reader.rest
    → IsAll f reader fed given reader.rest
all_given f reader fed given o long number last =
    let L : List ℕ → Type 0 = λ xs. IsLast f reader.count xs in
    let A : List ℕ → Type 0 = λ xs. IsAll f reader xs given (reader.rest ++ []) in
    let B : List ℕ → Type 0 = λ xs. IsAll f reader fed given xs in
    subst B (append-nil reader.rest) (subst A (append-nil fed)
    (all_with f reader fed [] given o long number (subst L (sym (append-nil reader.rest)) last)))

-- where only the spent bytes differ
same_at : (o : Option Format) (old new : Reader) (fed : List ℕ) (given : List Captured)
    → new.count ≡ old.count → new.place ≡ old.place → new.rest ≡ old.rest → IsAt o old fed given → IsAt o new fed given
same_at None old new fed given count place rest u = record {
  rest = rest ∙ u.rest;
  place = place ∙ u.place;
  count = count ∙ u.count;
}
same_at (Some f) old new fed given count place rest o = record {
  header = o.header;
  records = λ more. o.records more
      ∙ ap (λ (n : ℕ). given ++ whole_records f (most_records - n) n (old.rest ++ more)) (sym count)
      ∙ ap (λ (xs : List ℕ). given ++ whole_records f (most_records - new.count) new.count (xs ++ more)) (sym rest);
  rest = λ more. o.rest more
      ∙ ap (λ (n : ℕ). behind_records f (most_records - n) (old.rest ++ more)) (sym count)
      ∙ ap (λ (xs : List ℕ). behind_records f (most_records - new.count) (xs ++ more)) (sym rest);
  few = omega (arith, o.few, count);
}

pub record IsSame (old new : Reader) : Type 0 where
  pub format : new.format ≡ old.format
  pub count : new.count ≡ old.count
  pub place : new.place ≡ old.place
  pub rest : new.rest ≡ old.rest

pub same_fed : (old new : Reader) → IsSame old new → bytes_fed new ≡ bytes_fed old
same_fed old new e = omega (arith, e.place, ap length e.rest)

pub same_stands : (old new : Reader) → IsSame old new → (fed : List ℕ) (given : List Captured) → StandsFor old fed given → StandsFor new fed given
same_stands old new e fed given s = record {
  fed_length = s.fed_length ∙ sym (same_fed old new e);
  given_length = s.given_length ∙ sym e.count;
  position = subst (λ (o : Option Format). IsAt o new fed given) (sym e.format) (same_at old.format old new fed given e.count e.place e.rest s.position);
}

at_opened : (f : Format) (reader : Reader) (fed : List ℕ) (given : List Captured) → reader.format ≡ Some f → StandsFor reader fed given → IsOpened f reader fed given
at_opened f reader fed given e s = let P : Option Format → Type 0 = λ o. IsAt o reader fed given in subst P e s.position

pub at_unopened : (reader : Reader) (fed : List ℕ) (given : List Captured) → reader.format ≡ None → StandsFor reader fed given → IsUnopened reader fed
at_unopened reader fed given e s = let P : Option Format → Type 0 = λ o. IsAt o reader fed given in subst P e s.position

-- the file header was read
pub now_open : (f : Format) (old new : Reader) → old.format ≡ None → 24 ≤ length old.rest → header_of (take 24 old.rest) ≡ Ok f
    → new.format ≡ Some f → new.count ≡ old.count → new.place ≡ old.place + 24 → new.rest ≡ drop 24 old.rest
    → (fed : List ℕ) (given : List Captured) → StandsFor old fed given → StandsFor new fed given
now_open f old new closed long h format count place rest fed given s =
    let fits : length new.rest ≡ length old.rest - 24 = ap length rest ∙ length-drop 24 old.rest in
    let same : bytes_fed new ≡ bytes_fed old = omega (arith, fits, place, long) in
    let P : Option Format → Type 0 = λ o. IsAt o new fed given in
    record {
      fed_length = s.fed_length ∙ sym same;
      given_length = s.given_length ∙ sym count;
      position = subst P (sym format) (opened f old new fed given (at_unopened old fed given closed s) s.given_length long h count rest);
    }

-- the next record was given
pub gives_next : (f : Format) (old new : Reader) → old.format ≡ Some f → new.format ≡ Some f
    → old.count < most_records → begins_record f old.rest ≡ true → new.count ≡ old.count + 1
    → new.place ≡ old.place + record_length f old.rest → new.rest ≡ drop (record_length f old.rest) old.rest
    → bytes_held new ≤ bytes_held old → GivesNext old (first_record f old.count old.rest) new
gives_next f old new was format few h count place rest held =
    let p : Fits f old.rest = begins_fits f old.rest h in
    let fits : length new.rest ≡ length old.rest - record_length f old.rest = ap length rest ∙ length-drop (record_length f old.rest) old.rest in
    let same : bytes_fed new ≡ bytes_fed old = omega (arith, fits, place, p.whole) in
    let r : Captured = first_record f old.count old.rest in
    let goes : (fed : List ℕ) (given : List Captured) → StandsFor old fed given → IsOpened f new fed (given ++ r ∷ []) =
    λ fed given s. given_more f old new fed given (at_opened f old fed given was s) few h count rest in
    record {
      stands = λ fed given s.
          let P : Option Format → Type 0 = λ o. IsAt o new fed (given ++ r ∷ []) in
          record {
            fed_length = s.fed_length ∙ sym same;
            given_length = length_push given r ∙ ap (λ (n : ℕ). n + 1) s.given_length ∙ sym count;
            position = subst P (sym format) (goes fed given s);
          };
      number = shown_number f old.count (take (record_length f old.rest) old.rest);
      given = count;
      fed = same;
      left = omega (arith, fits, p.whole);
      held = held;
    }

-- no whole record is left, and no malformed place
pub gives_none : (f : Format) (old new : Reader) → old.format ≡ Some f → IsSame old new → IsLast f old.count old.rest
    → record_fault f old.count old.place old.rest ≡ None → new.spent ≡ [] → bytes_held new ≤ 262159 → GivesNone old new
gives_none f old new was e last fault dropped short =
    let all : (fed : List ℕ) (given : List Captured) → StandsFor old fed given → IsAll f old fed given old.rest =
    λ fed given s. all_given f old fed given (at_opened f old fed given was s) s.fed_length s.given_length last in
    let W : Option Format → Type 0 = λ o. WaitsAt o new in
    record {
      stands = same_stands old new e;
      all = λ fed given s. (all fed given s).records;
      bad = λ fed given s.
          let M : Option Bad → Type 0 = λ o. MatchOption o (Unit {0}) (λ b. is_short_header b.what ≡ true) in
          subst M (sym ((all fed given s).bad ∙ fault)) tt;
      waiting = record {
        waits = subst W (sym (e.format ∙ was)) (
          (λ few. ap (begins_record f) e.rest ∙ last (omega (arith, few, e.count))),
          ap (λ (n : ℕ). record_fault f n new.place new.rest) e.count
              ∙ ap (λ (n : ℕ). record_fault f old.count n new.rest) e.place
              ∙ ap (λ (xs : List ℕ). record_fault f old.count old.place xs) e.rest
              ∙ fault,
        );
      };
      given = e.count;
      fed = same_fed old new e;
      held = omega (arith, ap length e.rest, ap length dropped);
      short = short;
    }

-- the malformed place is next
pub gives_bad : (f : Format) (reader : Reader) (b : Bad) → reader.format ≡ Some f → IsLast f reader.count reader.rest
    → record_fault f reader.count reader.place reader.rest ≡ Some b → is_short_header b.what ≡ false → GivesBad reader b reader
gives_bad f reader b was last fault long =
    let all : (fed : List ℕ) (given : List Captured) → StandsFor reader fed given → (more : List ℕ) → IsAll f reader (fed ++ more) given (reader.rest ++ more) =
    λ fed given s more. all_with f reader fed more given (at_opened f reader fed given was s) s.fed_length s.given_length
    (last_append f reader.count reader.place reader.rest more b fault) in
    record {
      stands = λ fed given s. s;
      all = λ fed given s more. (all fed given s more).records;
      bad = λ fed given s more. (all fed given s more).bad ∙ fault_append f reader.count reader.place reader.rest more b fault;
      long = long;
      given = refl;
      fed = refl;
      held = omega arith;
    }

-- what an unread header with a fault says of the file
pub unread : (reader : Reader) (b : Bad) (fed : List ℕ) (given : List Captured) → reader.format ≡ None
    → header_of (take 24 reader.rest) ≡ Err b → StandsFor reader fed given → (libpcap_records fed ≡ given) × (libpcap_bad fed ≡ Some b)
unread reader b fed given closed h s =
    let u : IsUnopened reader fed = at_unopened reader fed given closed s in
    let format : file_format fed ≡ Err b = ap (λ (xs : List ℕ). header_of (take 24 xs)) (sym u.rest) ∙ h in
    let none : given ≡ [] = nil_from_length given (s.given_length ∙ u.count) in
    (records_of_fault b fed format ∙ sym none, bad_of_fault b fed format)

pub short_gives_none : (old new : Reader) → old.format ≡ None → IsSame old new → WaitsAt None old → new.spent ≡ [] → bytes_held new ≤ 262159 → GivesNone old new
short_gives_none old new closed e waits dropped short =
    let b : Bad = short_header (take 24 old.rest) in
    let W : Option Format → Type 0 = λ o. WaitsAt o new in
    record {
      stands = same_stands old new e;
      all = λ fed given s. (unread old b fed given closed (waits.1) s).0;
      bad = λ fed given s.
          let M : Option Bad → Type 0 = λ o. MatchOption o (Unit {0}) (λ b. is_short_header b.what ≡ true) in
          subst M (sym ((unread old b fed given closed (waits.1) s).1)) refl;
      waiting = record {
        waits = subst W (sym (e.format ∙ closed)) (
          omega (arith, ap length e.rest, waits.0),
          subst (λ (xs : List ℕ). header_of (take 24 xs) ≡ Err (short_header (take 24 xs))) (sym e.rest) (waits.1),
        );
      };
      given = e.count;
      fed = same_fed old new e;
      held = omega (arith, ap length e.rest, ap length dropped);
      short = short;
    }

pub unread_gives_bad : (reader : Reader) (b : Bad) → reader.format ≡ None → header_of (take 24 reader.rest) ≡ Err b
    → is_short_header b.what ≡ false → GivesBad reader b reader
unread_gives_bad reader b closed h long =
    let fault : (fed : List ℕ) (given : List Captured) → StandsFor reader fed given → (more : List ℕ) → file_format (fed ++ more) ≡ Err b =
    λ fed given s more. header_append fed more b
    (ap (λ (xs : List ℕ). header_of (take 24 xs)) (sym ((at_unopened reader fed given closed s).rest)) ∙ h) long in
    record {
      stands = λ fed given s. s;
      all = λ fed given s more. records_of_fault b (fed ++ more) (fault fed given s more)
          ∙ sym (nil_from_length given (s.given_length ∙ (at_unopened reader fed given closed s).count));
      bad = λ fed given s more. bad_of_fault b (fed ++ more) (fault fed given s more);
      long = long;
      given = refl;
      fed = refl;
      held = omega arith;
    }

-- the same after a look at the file header
pub next_after : (f : Format) (old mid new : Reader) (r : Captured) → IsNowOpen old f mid → GivesNext mid r new → GivesNext old r new
next_after f old mid new r o g = record {
  stands = λ fed given s. g.stands fed given (o.stands fed given s);
  number = g.number ∙ o.given;
  given = g.given ∙ ap (λ (n : ℕ). n + 1) o.given;
  fed = g.fed ∙ o.fed;
  left = omega (arith, g.left, o.left);
  held = omega (arith, g.held, o.held);
}

pub none_after : (f : Format) (old mid new : Reader) → IsNowOpen old f mid → GivesNone mid new → GivesNone old new
none_after f old mid new o g = record {
  stands = λ fed given s. g.stands fed given (o.stands fed given s);
  all = λ fed given s. g.all fed given (o.stands fed given s);
  bad = λ fed given s. g.bad fed given (o.stands fed given s);
  waiting = g.waiting;
  given = g.given ∙ o.given;
  fed = g.fed ∙ o.fed;
  held = omega (arith, g.held, o.held);
  short = g.short;
}

pub bad_after : (f : Format) (old mid : Reader) (b : Bad) → IsNowOpen old f mid → GivesBad mid b mid → GivesBad old b mid
bad_after f old mid b o g = record {
  stands = λ fed given s. g.stands fed given (o.stands fed given s);
  all = λ fed given s. g.all fed given (o.stands fed given s);
  bad = λ fed given s. g.bad fed given (o.stands fed given s);
  long = g.long;
  given = g.given ∙ o.given;
  fed = g.fed ∙ o.fed;
  held = omega (arith, g.held, o.held);
}

-- the end of a file that was read
pub record IsTail (reader : Reader) (fed : List ℕ) : Type 0 where
  pub bad : libpcap_bad fed ≡ None
  pub records : length (libpcap_records fed) ≡ reader.count
  pub cut : libpcap_cut fed ≡ nat_lt 0 (length reader.rest)

pub tail : (f : Format) (reader : Reader) (fed : List ℕ) (given : List Captured) → reader.format ≡ Some f → IsWaiting reader
    → StandsFor reader fed given → IsTail reader fed
unfolding libpcap_cut
tail f reader fed given was w s =
    let W : Option Format → Type 0 = λ o. WaitsAt o reader in
    let waits : WaitsAt (Some f) reader = subst W was w.waits in
    let all : IsAll f reader fed given reader.rest = all_given f reader fed given (at_opened f reader fed given was s) s.fed_length s.given_length (waits.0) in
    let bad : libpcap_bad fed ≡ None = all.bad ∙ waits.1 in
    record {
      bad = bad;
      records = ap length all.records ∙ s.given_length;
      cut = ap (λ (o : Option Bad). is_none o && nat_lt 0 (length (libpcap_rest fed))) bad ∙ ap (λ (xs : List ℕ). nat_lt 0 (length xs)) all.rest_is;
    }

-- the end of a file that is too short for its header
pub short_tail : (reader : Reader) (fed : List ℕ) (given : List Captured) → reader.format ≡ None → IsWaiting reader
    → StandsFor reader fed given → libpcap_bad fed ≡ Some (short_header reader.rest)
short_tail reader fed given closed w s =
    let W : Option Format → Type 0 = λ o. WaitsAt o reader in
    let waits : WaitsAt None reader = subst W closed w.waits in
    (unread reader (short_header (take 24 reader.rest)) fed given closed (waits.1) s).1
    ∙ ap (λ (xs : List ℕ). Some (short_header xs)) (take_all 24 reader.rest (omega (arith, waits.0)))

-- ---- laws

first_at : (format : Option Format) (reader : Reader) (fed : List ℕ) (given : List Captured) → length given ≡ reader.count
    → IsAt format reader fed given → AreFirst fed given
first_at None reader fed given few at more =
    let none : given ≡ [] = nil_from_length given (few ∙ at.count) in
    (libpcap_records (fed ++ more), ap (λ (rs : List Captured). rs ++ libpcap_records (fed ++ more)) (sym none))
first_at (Some f) reader fed given few at more = (whole_records f (most_records - reader.count) reader.count (reader.rest ++ more), at.records more)

-- the records that a reader has given are the first of the file, whatever bytes follow
pub stands_first : (reader : Reader) (fed : List ℕ) (given : List Captured) → StandsFor reader fed given → AreFirst fed given
stands_first reader fed given s = first_at reader.format reader fed given s.given_length s.position

-- these are all records of these bytes, and no place of them is malformed, but that the header may be cut
abbrev pub HasAll : (fed : List ℕ) → (given : List Captured) → Type 0
HasAll fed given = (libpcap_records fed ≡ given) × MatchOption (libpcap_bad fed) (Unit {0}) (λ b. is_short_header b.what ≡ true)

all_at : (format : Option Format) (reader : Reader) (fed : List ℕ) (given : List Captured) → reader.format ≡ format → WaitsAt format reader
    → StandsFor reader fed given → HasAll fed given
all_at None reader fed given closed waits s =
    let e = unread reader (short_header (take 24 reader.rest)) fed given closed waits.1 s in
    let M : Option Bad → Type 0 = λ o. MatchOption o (Unit {0}) (λ b. is_short_header b.what ≡ true) in
    (e.0, subst M (sym e.1) refl)
all_at (Some f) reader fed given was waits s =
    let all : IsAll f reader fed given reader.rest = all_given f reader fed given (at_opened f reader fed given was s) s.fed_length s.given_length waits.0 in
    let M : Option Bad → Type 0 = λ o. MatchOption o (Unit {0}) (λ b. is_short_header b.what ≡ true) in
    (all.records, subst M (sym (all.bad ∙ waits.1)) tt)

-- a reader that waits has given all records of the bytes fed
pub waiting_has_all : (reader : Reader) (fed : List ℕ) (given : List Captured) → IsWaiting reader → StandsFor reader fed given → HasAll fed given
waiting_has_all reader fed given w s = all_at reader.format reader fed given refl w.waits s
