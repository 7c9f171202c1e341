-- The records of the packets that are wanted.
use Rattle.std.proofs.Common.{◌≡◌, ◌≤◌, ℕ, suc, ◌+◌, List, [], ◌∷◌, ◌++◌, length, Bool, true, false, Option, None, refl, sym, ap, ◌∙◌, arith, cond, map}
use Rattle.std.proofs.lemmas.List.{append-nil}
use Rattle.pcapng_reader.specs.Packet.{Packet}
use Rattle.pcap_reader.specs.Captured.{Captured, as_packet, as_record}
use Rattle.pcap_reader.specs.Good.{is_wanted, wanted_packets, numbered, records_of}
use Rattle.pcap_reader.specs.Numbering.{NumberedFrom}

kept_append : (b : Bool) (p : Packet) (ps qs : List Packet) → cond b (p ∷ (ps ++ qs)) (ps ++ qs) ≡ cond b (p ∷ ps) ps ++ qs
kept_append true p ps qs = refl
kept_append false p ps qs = refl

wanted_append : (wanted : Option ℕ) (ps qs : List Packet) → wanted_packets wanted (ps ++ qs) ≡ wanted_packets wanted ps ++ wanted_packets wanted qs
wanted_append wanted [] qs = refl
wanted_append wanted (p ∷ ps) qs =
    ap (λ (rest : List Packet). cond (is_wanted wanted p.interface) (p ∷ rest) rest) (wanted_append wanted ps qs)
    ∙ kept_append (is_wanted wanted p.interface) p (wanted_packets wanted ps) (wanted_packets wanted qs)

pub numbered_append : (n : ℕ) (ps qs : List Packet) → numbered n (ps ++ qs) ≡ numbered n ps ++ numbered (n + length ps) qs
numbered_append n [] qs = ap (λ (m : ℕ). numbered m qs) (omega arith)
numbered_append n (p ∷ ps) qs =
    ap (λ (rs : List Captured). as_record n p ∷ rs) (numbered_append (suc n) ps qs)
    ∙ ap (λ (m : ℕ). as_record n p ∷ (numbered (suc n) ps ++ numbered m qs)) (omega arith)

pub length-numbered : (n : ℕ) (ps : List Packet) → length (numbered n ps) ≡ length ps
length-numbered n [] = refl
length-numbered n (p ∷ ps) = ap suc (length-numbered (suc n) ps)

pub are_numbered : (n : ℕ) (ps : List Packet) → NumberedFrom n (numbered n ps)
are_numbered n [] = tt
are_numbered n (p ∷ ps) = (refl, are_numbered (suc n) ps)

-- packets that come behind
pub records_append : (wanted : Option ℕ) (ps qs : List Packet)
    → records_of wanted (ps ++ qs) ≡ records_of wanted ps ++ numbered (length (records_of wanted ps)) (wanted_packets wanted qs)
records_append wanted ps qs =
    let kept : List Packet = wanted_packets wanted ps in
    let more : List Packet = wanted_packets wanted qs in
    ap (numbered 0) (wanted_append wanted ps qs)
    ∙ numbered_append 0 kept more
    ∙ ap (λ (m : ℕ). numbered 0 kept ++ numbered m more) (omega (arith, length-numbered 0 kept))

only : (wanted : Option ℕ) (p : Packet) (b : Bool) → is_wanted wanted p.interface ≡ b → wanted_packets wanted (p ∷ []) ≡ cond b (p ∷ []) []
only wanted p b e = ap (λ (c : Bool). cond c (p ∷ []) []) e

-- a packet that is wanted
pub one_wanted : (wanted : Option ℕ) (ps : List Packet) (p : Packet) → is_wanted wanted p.interface ≡ true
    → records_of wanted (ps ++ p ∷ []) ≡ records_of wanted ps ++ as_record (length (records_of wanted ps)) p ∷ []
one_wanted wanted ps p e =
    records_append wanted ps (p ∷ [])
    ∙ ap (λ (qs : List Packet). records_of wanted ps ++ numbered (length (records_of wanted ps)) qs) (only wanted p true e)

-- one that is not
pub one_other : (wanted : Option ℕ) (ps : List Packet) (p : Packet) → is_wanted wanted p.interface ≡ false
    → records_of wanted (ps ++ p ∷ []) ≡ records_of wanted ps
one_other wanted ps p e =
    records_append wanted ps (p ∷ [])
    ∙ ap (λ (qs : List Packet). records_of wanted ps ++ numbered (length (records_of wanted ps)) qs) (only wanted p false e)
    ∙ append-nil (records_of wanted ps)

-- there are no more records than packets
fewer : (b : Bool) (p : Packet) (ps : List Packet) (n : ℕ) → length ps ≤ n → length (cond b (p ∷ ps) ps) ≤ suc n
fewer true p ps n h = omega (arith, h)
fewer false p ps n h = omega (arith, h)

pub wanted_few : (wanted : Option ℕ) (ps : List Packet) → length (wanted_packets wanted ps) ≤ length ps
wanted_few wanted [] = omega arith
wanted_few wanted (p ∷ ps) = fewer (is_wanted wanted p.interface) p (wanted_packets wanted ps) (length ps) (wanted_few wanted ps)

pub records_few : (wanted : Option ℕ) (ps : List Packet) → length (records_of wanted ps) ≤ length ps
records_few wanted ps = omega (arith, length-numbered 0 (wanted_packets wanted ps), wanted_few wanted ps)

-- all records of a libpcap file keep their numbers
all_wanted : (rs : List Captured) → wanted_packets None (map as_packet rs) ≡ map as_packet rs
all_wanted [] = refl
all_wanted (r ∷ rs) = ap (λ (ps : List Packet). as_packet r ∷ ps) (all_wanted rs)

same_number : (n : ℕ) (r : Captured) → r.number ≡ n → as_record n (as_packet r) ≡ r
same_number n r e = ap (λ (m : ℕ). record { number = m; time = r.time; link = r.link; orig = r.orig; bytes = r.bytes }) (sym e)

same_records : (n : ℕ) (rs : List Captured) → NumberedFrom n rs → numbered n (map as_packet rs) ≡ rs
same_records n [] h = refl
same_records n (r ∷ rs) h =
    ap (λ (q : Captured). q ∷ numbered (suc n) (map as_packet rs)) (same_number n r h.0)
    ∙ ap (λ (qs : List Captured). r ∷ qs) (same_records (suc n) rs h.1)

pub all_records : (rs : List Captured) → NumberedFrom 0 rs → records_of None (map as_packet rs) ≡ rs
all_records rs h = ap (numbered 0) (all_wanted rs) ∙ same_records 0 rs h
