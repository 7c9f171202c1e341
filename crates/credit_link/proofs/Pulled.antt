-- A frame is pulled: what is true of a receiver stays true.
use Rattle.std.proofs.Common.{Option, ◌≡◌, ◌<◌, ◌≤◌, ℕ, ◌+◌, ◌^◌, min, Bool, true, false, ◌||◌, IsTrue, None, List, [], ◌∷◌, ◌++◌, length, take, drop, refl, sym, ap, ap₂, ◌∙◌, subst, arith, append_assoc, length-append}
use Rattle.std.proofs.lemmas.List.{length-take, length-drop, take-append-drop, drop-drop}
use Rattle.std.proofs.Common.{◌-◌, ◌==◌, ◌⊎◌, inl, inr, ⊎_elim, eq-eqb, take_at}
use Rattle.std.proofs.lemmas.Bool.{eqb-true}
use Rattle.sha2.specs.Sha256.{sha256}
use Rattle.sha2.specs.Hashers.{Holds256}
use Rattle.sha2.specs.declared.Sha256.{Sha256}
use Rattle.byteorder.specs.Endian.{big_from}
use Rattle.node_frames.specs.declared.frame.Frame.{Frame}
use Rattle.node_frames.specs.declared.frame.Frame.TheVariants.{Item, Mark, CaptureEnd, GroupHead, Member, GroupMark, AnswerRow, Profile, CountsRow, Finish}
use Rattle.node_frames.specs.declared.wire.Wire.{Wire}
use Rattle.node_frames.specs.declared.wire.Seal.{Seal}
use Rattle.node_frames.specs.declared.wire.Wire.TheVariants.{Plain}
use Rattle.node_frames.specs.Fields.{bytes_of}
use Rattle.node_frames.specs.Table.{Spells, payload_of}
use Rattle.node_frames.specs.Link.{Opens, framed, wire_of}
use Rattle.node_frames.proofs.Bytes.{AreBytes, number_front, length-bytes_of}
use Rattle.credit_link.specs.declared.link_bad.LinkBad.{LinkBad}
use Rattle.credit_link.specs.Ahead.{length_word, HasWhole, payload_ahead}
use Rattle.credit_link.proofs.Listed.{bytes_one_more}
use Rattle.credit_link.specs.Frames.{capped, IsCounted, bytes_of_all, wire_behind, is_finish, has_finish}
use Rattle.credit_link.specs.Receiving.{ReceiverSeen, ReceiverStands, Counters, GivesFrame, new_receiver}

no_last : (frames : List Frame) (frame : Frame) → [] ≡ frames ++ frame ∷ [] → ⊥
no_last frames frame e = omega (arith, length-append frames (frame ∷ []), ap length e)

new_stands : (credits : ℕ) → 0 < credits → ReceiverStands (new_receiver credits)
new_stands credits some = record {
  some = some;
  box = omega arith;
  fits = (omega arith, omega arith, omega arith);
  counts = λ _. refl;
  ended = refl;
  last = λ frames frame e. absurd (no_last frames frame e);
}

pub empty_stands : (credits : ℕ) (given : List Frame) → 0 < credits → given ≡ [] → ReceiverStands (record (new_receiver credits) { given = given })
empty_stands credits given some none =
    let P : List Frame → Type 0 = λ frames. ReceiverStands (record (new_receiver credits) { given = frames }) in
    subst P (sym none) (new_stands credits some)

-- the last of two equal lists is the same, and so are the items before it
cons_same : (x y : Frame) (xs ys : List Frame) → x ∷ xs ≡ y ∷ ys → (x ≡ y) × (xs ≡ ys)
cons_same x y xs ys e = ((let h = e in cc), (let h = e in cc))

front_same : (frames others : List Frame) (f g : Frame) → frames ++ f ∷ [] ≡ others ++ g ∷ [] → frames ≡ others
front_same [] [] f g e = refl
front_same [] (o ∷ others) f g e = absurd (no_last others g (cons_same f o [] (others ++ g ∷ []) e).1)
front_same (x ∷ frames) [] f g e = absurd (no_last frames f (sym (cons_same x g (frames ++ f ∷ []) [] e).1))
front_same (x ∷ frames) (o ∷ others) f g e =
    let both = cons_same x o (frames ++ f ∷ []) (others ++ g ∷ []) e in
    ap₂ (λ (y : Frame) (ys : List Frame). y ∷ ys) both.0 (front_same frames others f g both.1)

finish_joined : (frames : List Frame) (frame : Frame) → has_finish (frames ++ frame ∷ []) ≡ has_finish frames || is_finish frame
finish_joined [] frame = or_none (is_finish frame)
  where
    or_none : (a : Bool) → a || false ≡ a
    or_none true = refl
    or_none false = refl
finish_joined (f ∷ frames) frame = ap (λ b. is_finish f || b) (finish_joined frames frame) ∙ or_grouped (is_finish f) (has_finish frames) (is_finish frame)
  where
    or_grouped : (a b c : Bool) → a || (b || c) ≡ (a || b) || c
    or_grouped true b c = refl
    or_grouped false b c = refl

pub pulled_stands : (s : ReceiverSeen) (frame : Frame) (given : List Frame) (box : List ℕ) (ungranted last : ℕ) (finished : Bool) → ReceiverStands s → given ≡ s.given ++ frame ∷ []
    → length box ≤ 2056 → ungranted ≡ capped (s.ungranted + 1) → last ≡ capped (length (bytes_of_all s.given)) → finished ≡ s.finished || is_finish frame
    → ReceiverStands (record s { given = given; box = box; ungranted = ungranted; last = last; finished = finished })
pulled_stands s frame given box ungranted last finished old on short more at ends =
    let len : length given ≡ length s.given + 1 = ap length on ∙ length-append s.given (frame ∷ []) in
    record {
      some = old.some;
      box = short;
      fits = (old.fits.0, old.fits.1, omega (arith, more));
      counts = λ counted.
          let before = old.counts (omega (arith, len, counted)) in
          omega (arith, before, len, more, counted);
      ended = ends ∙ ap (λ b. b || is_finish frame) old.ended ∙ sym (finish_joined s.given frame) ∙ ap has_finish (sym on);
      last = λ frames f e. at ∙ ap (λ fs. capped (length (bytes_of_all fs))) (front_same s.given frames frame f (sym on ∙ e));
    }

-- ---- the frame that is there

-- a frame that is spelled plainly is not the end, and stands plainly wherever it stands
pub plain_wire : (frame : Frame) (bytes : List ℕ) → Spells (Plain frame) bytes → (is_finish frame ≡ false) × ((n : ℕ) (front : List ℕ) → wire_of n front frame ≡ Plain frame)
plain_wire (Item s) bytes h = (refl, (λ n front. refl))
plain_wire (Mark capture at) bytes h = (refl, (λ n front. refl))
plain_wire (CaptureEnd capture) bytes h = (refl, (λ n front. refl))
plain_wire (GroupHead first members key) bytes h = (refl, (λ n front. refl))
plain_wire (Member at vals) bytes h = (refl, (λ n front. refl))
plain_wire (GroupMark at) bytes h = (refl, (λ n front. refl))
plain_wire (AnswerRow r) bytes h = (refl, (λ n front. refl))
plain_wire (Profile p) bytes h = (refl, (λ n front. refl))
plain_wire (CountsRow capture c) bytes h = (refl, (λ n front. refl))
plain_wire Finish bytes h = absurd h.fit

-- a frame that is there opens the bytes received, and its bytes are the first of these
pub record Ahead (wire : Wire) (box : List ℕ) (len : ℕ) : Type 0 where
  pub opens : Opens wire box (drop (4 + len) box)
  pub long : length (framed wire) ≡ 4 + len
  pub front : take (4 + len) box ≡ framed wire

pub ahead : (wire : Wire) (box : List ℕ) (len : ℕ) → AreBytes box → HasWhole box len → Spells wire (payload_ahead box len) → Ahead wire box len
unfolding length_word
ahead wire box len are there spells =
    let four : 4 ≤ length box = omega (arith, there.whole) in
    let number : box ≡ bytes_of 4 (big_from 0 4 box) ++ drop 4 box = number_front 4 box are four in
    let word : len ≡ big_from 0 4 box = there.word in
    let same : payload_ahead box len ≡ payload_of wire = spells.same in
    let size : length (payload_of wire) ≡ len = ap length (sym same) ∙ omega (arith, length-take len (drop 4 box), length-drop 4 box, there.whole) in
    let behind : drop len (drop 4 box) ≡ drop (4 + len) box = drop-drop len 4 box in
    let split : drop 4 box ≡ payload_of wire ++ drop (4 + len) box = sym (take-append-drop len (drop 4 box)) ∙ ap₂ (λ (a b : List ℕ). a ++ b) same behind in
    let joined : box ≡ framed wire ++ drop (4 + len) box =
    number ∙ ap₂ (λ (n : ℕ) (more : List ℕ). bytes_of 4 n ++ more) (sym word ∙ sym size) split ∙ sym (append_assoc (bytes_of 4 (length (payload_of wire))) (payload_of wire) (drop (4 + len) box)) in
    let long : length (framed wire) ≡ 4 + len = length-append (bytes_of 4 (length (payload_of wire))) (payload_of wire) ∙ omega (arith, length-bytes_of 4 (length (payload_of wire)), size) in
    record {
      opens = record { spells = record { fit = spells.fit; same = refl }; short = omega (arith, size, there.lawful.1); joined = joined };
      long = long;
      front = ap (take (4 + len)) joined ∙ take_at (framed wire) (drop (4 + len) box) (4 + len) long;
    }

not_over : (over : Bool) (n : ℕ) → (over ≡ true → 2 ^ 64 ≤ n) → n < 2 ^ 64 → over ≡ false
not_over true n much few = absurd (omega (arith, much refl, few))
not_over false n much few = refl

-- what is found of the frames given, where a u64 counts them
pub found_of : (given : List Frame) (bytes : List ℕ) (start end taken at : ℕ) (over : Bool) (digest : Sha256) (finished : Bool) (fault : Option LinkBad) (sum : List ℕ)
    → Counters given bytes start end taken at over digest finished fault → sum ≡ sha256 (bytes_of_all given) → IsCounted given
    → (over ≡ false) × (let found : Seal = record { frames = taken; digest = record { bytes = sum } } in let due : Seal = record { frames = length given; digest = record { bytes = sha256 (bytes_of_all given) } } in found ≡ due)
found_of given bytes start end taken at over digest finished fault sum counters is counted =
    let exact : taken ≡ length given = omega (arith, counters.taken_is, counted) in
    (not_over over (length given) counters.over_not counted, ap₂ (λ (n : ℕ) (b : List ℕ). record { frames = n; digest = record { bytes = b } }) exact is)

or_is_false : (a b : Bool) → a || b ≡ false → (a ≡ false) × (b ≡ false)
or_is_false true b h = absurd (let k : true ≡ false = h in cc)
or_is_false false b h = (refl, h)

or_is_true : (a b : Bool) → a || b ≡ true → (a ≡ true) ⊎ (b ≡ true)
or_is_true true b h = inl refl
or_is_true false b h = inr h

counted_on : (n taken m : ℕ) → n < 2 ^ 64 → taken ≡ min n (2 ^ 64 - 1) → (taken ≡ 2 ^ 64 - 1 → ⊥) → m ≡ n + 1 → m < 2 ^ 64
counted_on n taken m few is not_end more = grind arith

pub counters_on : (given given' : List Frame) (frame : Frame) (bytes : List ℕ) (start end taken taken' at at' len : ℕ) (over over' : Bool) (digest digest' : Sha256) (finished finished' : Bool) (fault : Option LinkBad)
    → Counters given bytes start end taken at over digest finished fault → given' ≡ given ++ frame ∷ [] → HasWhole (drop start (take end bytes)) len
    → length (framed (wire_behind given frame)) ≡ 4 + len → taken' ≡ min (taken + 1) (2 ^ 64 - 1) → at' ≡ min (at + (4 + len)) (2 ^ 64 - 1) → over' ≡ over || (taken == 2 ^ 64 - 1)
    → (fault ≡ None → finished' ≡ false → Holds256 digest' (bytes_of_all (given ++ frame ∷ [])))
    → Counters given' bytes (start + (4 + len)) end taken' at' over' digest' finished' fault
counters_on given given' frame bytes start end taken taken' at at' len over over' digest digest' finished finished' fault old on there long counted place past digested =
    let more : length given' ≡ length given + 1 = ap length on ∙ length-append given (frame ∷ []) in
    let bytes_more : length (bytes_of_all given') ≡ length (bytes_of_all given) + (4 + len) =
    ap (λ fs. length (bytes_of_all fs)) on ∙ ap length (bytes_one_more given frame) ∙ length-append (bytes_of_all given) (framed (wire_behind given frame)) ∙ ap (λ n. length (bytes_of_all given) + n) long in
    record {
      whole = old.whole;
      within = (omega (arith, there.whole, length-drop start (take end bytes), length-take end bytes, old.within.0, old.within.1), old.within.1);
      taken_is = omega (arith, counted, old.taken_is, more);
      over_is = λ counts_on.
          let both = or_is_false over (taken == 2 ^ 64 - 1) (sym past ∙ counts_on) in
          let few : length given < 2 ^ 64 = old.over_is both.0 in
          let before_end : taken ≡ 2 ^ 64 - 1 → ⊥ = λ e. let yes_it_is : (taken == 2 ^ 64 - 1) ≡ true = eq-eqb taken (2 ^ 64 - 1) e in let it_is_not = both.1 in cc in
          counted_on (length given) taken (length given') few old.taken_is before_end more;
      over_not = λ over_now.
          ⊎_elim (λ o. omega (arith, old.over_not o, more)) (λ at_end. omega (arith, eqb-true taken (2 ^ 64 - 1) at_end, old.taken_is, more))
          (or_is_true over (taken == 2 ^ 64 - 1) (sym past ∙ over_now));
      at_is = omega (arith, place, old.at_is, bytes_more);
      digested = λ none going. subst (λ (fs : List Frame). Holds256 digest' (bytes_of_all fs)) (sym on) (digested none going);
    }

pub gives : (s : ReceiverSeen) (frame : Frame) (given : List Frame) (box : List ℕ) (ungranted last : ℕ) (finished : Bool) → Opens (wire_behind s.given frame) s.box box
    → (IsTrue (is_finish frame) → s.finished ≡ false) → given ≡ s.given ++ frame ∷ [] → ungranted ≡ capped (s.ungranted + 1) → last ≡ capped (length (bytes_of_all s.given))
    → finished ≡ s.finished || is_finish frame → GivesFrame s (record s { given = given; box = box; ungranted = ungranted; last = last; finished = finished }) frame
gives s frame given box ungranted last finished opens once on more at ends =
    let P : List Frame → Type 0 = λ g. GivesFrame s (record s { given = g; box = box; ungranted = ungranted; last = last; finished = finished }) frame in
    let Q : ℕ → Type 0 = λ u. GivesFrame s (record s { given = s.given ++ frame ∷ []; box = box; ungranted = u; last = last; finished = finished }) frame in
    let R : ℕ → Type 0 = λ l. GivesFrame s (record s { given = s.given ++ frame ∷ []; box = box; ungranted = capped (s.ungranted + 1); last = l; finished = finished }) frame in
    let S : Bool → Type 0 = λ f. GivesFrame s (record s { given = s.given ++ frame ∷ []; box = box; ungranted = capped (s.ungranted + 1); last = capped (length (bytes_of_all s.given)); finished = f }) frame in
    subst P (sym on) (subst Q (sym more) (subst R (sym at) (subst S (sym ends) (record { opens = opens; once = once; same = refl }))))

pub or_plain : (a b : Bool) → b ≡ false → a ≡ a || b
or_plain true b h = refl
or_plain false b h = sym h
