-- How a reader goes on to stand for what was fed and given.
use Rattle.std.proofs.Common.{◌≡◌, ◌≤◌, ◌<◌, ℕ, ◌+◌, ◌-◌, List, [], ◌∷◌, ◌++◌, length, take, drop, true, Option, Some, None, MatchOption, refl, sym, ap, subst, ◌∙◌, arith, inl, inr, length-append, length-drop}
use Rattle.std.specs.Prelude.{is_none, nat_lt, ◌&&◌, option_map, option_to_list}
use Rattle.std.proofs.lemmas.Bool.{cases_lt}
use Rattle.std.proofs.lemmas.List.{append-nil, drop_at, length-take-le}
use Rattle.ds_base.specs.declared.capture.Bad.{Bad}
use Rattle.ds_base.specs.declared.capture.PcapFault.TheVariants.{ShortHeader}
use Rattle.pcapng_reader.specs.declared.packet.Found.{Found}
use Rattle.pcapng_reader.specs.declared.packet.Passed.{Passed}
use Rattle.pcapng_reader.specs.Packet.{Packet}
use Rattle.pcapng_reader.specs.Packets.{packet_of}
use Rattle.pcapng_reader.specs.State.{State, Block, bad_at, start}
use Rattle.pcapng_reader.specs.Steps.{step}
use Rattle.pcapng_reader.specs.Good.{Walk, after_packets, most_blocks, walk, whole_walk, bad_or_short, short_file, ng_bad, ng_cut}
use Rattle.pcapng_reader.specs.Reader.{Reader, StandsFor, IsWaiting, bytes_fed, bytes_left, bytes_held, packets_given, is_short_header, GivesNext, GivesNone, GivesBad, packet_in, IsWithin, IsPassed, IsAtEnd, IsFaulty, IsAlong, last_block, IsFound}
use Rattle.pcapng_reader.proofs.Fronts.{below, above}
use Rattle.pcapng_reader.proofs.Walking.{walk_block, walk_fault, walk_wait, walk_many, walk_end, after_twice}

-- ---- one block

length_found : (f : Found → Packet) (o : Option Found) → length (option_to_list (option_map f o)) ≡ length (option_to_list o)
length_found f None = refl
length_found f (Some found) = refl

pub pass_fed : (old new : Reader) (passed : Passed) → IsPassed old passed new → bytes_fed new ≡ bytes_fed old
pass_fed old new passed p = omega (arith, p.place, ap length p.rest, length-drop passed.len old.rest, p.there)

pub pass_left : (old new : Reader) (passed : Passed) → IsPassed old passed new → bytes_left new < bytes_left old
pass_left old new passed p = omega (arith, p.least, ap length p.rest, length-drop passed.len old.rest, p.there)

pub pass_held : (old new : Reader) (passed : Passed) → IsPassed old passed new → bytes_held new ≡ bytes_held old
pass_held old new passed p =
    omega (arith, ap length p.rest, length-drop passed.len old.rest, p.there, ap length p.spent, length-append old.spent (take passed.len old.rest), length-take-le passed.len old.rest p.there)

pub pass_stands : (old new : Reader) (passed : Passed) → IsPassed old passed new → (fed : List ℕ) (given : List Packet) → StandsFor old fed given
    → StandsFor new fed (given ++ option_to_list (packet_in passed (take passed.len old.rest)))
pass_stands old new passed p fed given s =
    let slice : List ℕ = take passed.len old.rest in
    let packets : List Packet = option_to_list (packet_in passed slice) in
    let block : Block = record { len = passed.len; after = new.state; packet = packet_in passed slice } in
    record {
      fed_length = s.fed_length ∙ sym (pass_fed old new passed p);
      given_length = length-append given packets ∙ ap (λ (n : ℕ). n + length packets) s.given_length
          ∙ ap (λ (n : ℕ). packets_given old + n) (length_found (λ f. packet_of f slice) passed.found) ∙ sym p.packets;
      walked = λ more. s.walked more
          ∙ ap (after_packets given) (walk_block (most_blocks - old.blocks) (most_blocks - new.blocks) old.state block old.rest more
          (omega (arith, p.few, p.blocks)) p.stepped p.there)
          ∙ after_twice given packets (walk (most_blocks - new.blocks) new.state (drop passed.len old.rest ++ more))
          ∙ ap (λ (xs : List ℕ). after_packets (given ++ packets) (walk (most_blocks - new.blocks) new.state (xs ++ more))) (sym p.rest);
      few = omega (arith, p.few, p.blocks);
    }

-- ---- blocks without packets

pub along_none : (reader : Reader) → IsAlong reader reader
along_none reader = record {
  stands = λ fed given s. s;
  given = refl;
  fed = refl;
  left = omega arith;
  held = omega arith;
}

pub along_pass : (old mid new : Reader) (passed : Passed) → IsAlong old mid → IsPassed mid passed new → passed.found ≡ None → IsAlong old new
along_pass old mid new passed a p e =
    let none : option_to_list (packet_in passed (take passed.len mid.rest)) ≡ [] = ap (λ (o : Option Found). option_to_list (option_map (λ f. packet_of f (take passed.len mid.rest)) o)) e in
    record {
      stands = λ fed given s.
          let S : List Packet → Type 0 = λ ps. StandsFor new fed ps in
          subst S (ap (λ (ps : List Packet). given ++ ps) none ∙ append-nil given) (pass_stands mid new passed p fed given (a.stands fed given s));
      given = omega (arith, p.packets, ap (λ (o : Option Found). length (option_to_list o)) e, a.given);
      fed = pass_fed mid new passed p ∙ a.fed;
      left = omega (arith, pass_left mid new passed p, a.left);
      held = omega (arith, pass_held mid new passed p, a.held);
    }

-- ---- the next packet

last_of_append : (xs ys zs : List ℕ) (n : ℕ) → zs ≡ xs ++ ys → length ys ≡ n → drop (length zs - n) zs ≡ ys
last_of_append xs ys zs n e h =
    let at : length xs ≡ length zs - n = omega (arith, ap length e, length-append xs ys, h) in
    ap (drop (length zs - n)) e ∙ drop_at xs ys (length zs - n) at

pub found_pass : (old mid new : Reader) (passed : Passed) (packet : Found) → IsAlong old mid → IsPassed mid passed new → passed.found ≡ Some packet
    → IsFound old (record { len = passed.len; packet = packet }) new
found_pass old mid new passed packet a p e =
    let slice : List ℕ = take passed.len mid.rest in
    let is_slice : last_block passed.len new ≡ slice = last_of_append mid.spent slice new.spent passed.len p.spent (length-take-le passed.len mid.rest p.there) in
    let one : option_to_list (packet_in passed slice) ≡ packet_of packet slice ∷ [] = ap (λ (o : Option Found). option_to_list (option_map (λ f. packet_of f slice) o)) e in
    let W : Option Found → Type 0 = λ o. MatchOption o (Unit {0}) (IsWithin mid.state.packets passed.len) in
    let within : IsWithin mid.state.packets passed.len packet = subst W e p.within in
    let N : List ℕ → Type 0 = λ xs. GivesNext old (packet_of packet xs) new in
    record {
      next = subst N (sym is_slice) (record {
        stands = λ fed given s.
            let S : List Packet → Type 0 = λ ps. StandsFor new fed ps in
            subst S (ap (λ (ps : List Packet). given ++ ps) one) (pass_stands mid new passed p fed given (a.stands fed given s));
        number = within.number_is ∙ a.given;
        given = omega (arith, p.packets, ap (λ (o : Option Found). length (option_to_list o)) e, a.given);
        fed = pass_fed mid new passed p ∙ a.fed;
        left = omega (arith, pass_left mid new passed p, a.left);
        held = omega (arith, pass_held mid new passed p, a.held);
      });
      there = omega (arith, ap length p.spent, length-append mid.spent slice, length-take-le passed.len mid.rest p.there);
      within = record { there = within.there; few = within.few; time = within.time; number_is = within.number_is ∙ a.given };
      number = omega (arith, p.number, a.given);
    }

-- ---- the end of what was fed

end_walk : (r : Reader) → IsWaiting r → r.blocks ≤ most_blocks → walk (most_blocks - r.blocks) r.state r.rest ≡ record { packets = []; bad = None; rest = r.rest }
end_walk r w few =
    elim (cases_lt r.blocks most_blocks) [
      | inl more ↦ walk_wait (most_blocks - r.blocks) (most_blocks - r.blocks - 1) r.state r.rest (omega (arith, more)) (w.waits more)
      | inr many ↦ walk_end (most_blocks - r.blocks) r.state r.rest (omega (arith, many)) (w.ends many)
    ]

pub whole_end : (r : Reader) (fed : List ℕ) (given : List Packet) → IsWaiting r → StandsFor r fed given
    → whole_walk fed ≡ record { packets = given; bad = None; rest = r.rest }
whole_end r fed given w s =
    ap whole_walk (sym (append-nil fed)) ∙ s.walked []
    ∙ ap (λ (xs : List ℕ). after_packets given (walk (most_blocks - r.blocks) r.state xs)) (append-nil r.rest)
    ∙ ap (after_packets given) (end_walk r w s.few)
    ∙ ap (λ (ps : List Packet). record { packets = ps; bad = None; rest = r.rest }) (append-nil given)

pub end_bad : (r : Reader) (fed : List ℕ) (given : List Packet) → IsWaiting r → StandsFor r fed given → ng_bad fed ≡ short_file fed
end_bad r fed given w s = ap (λ (walk : Walk). bad_or_short walk.bad fed) (whole_end r fed given w s)

pub short_or_none : (fed : List ℕ) → MatchOption (short_file fed) (Unit {0}) (λ b. is_short_header b.what ≡ true)
short_or_none fed =
    elim (cases_lt (length fed) 28) [
      | inl few ↦ rw (below (length fed) 28 few) refl
      | inr long ↦ rw (above (length fed) 28 long) tt
    ]

pub none_end : (old mid new : Reader) → IsAlong old mid → IsAtEnd mid → new.state ≡ mid.state → new.blocks ≡ mid.blocks → new.rest ≡ mid.rest → new.spent ≡ []
    → GivesNone old new
none_end old mid new a e state blocks rest spent =
    let all : (fed : List ℕ) (given : List Packet) → StandsFor old fed given → whole_walk fed ≡ record { packets = given; bad = None; rest = mid.rest } =
    λ fed given s. whole_end mid fed given e.waiting (a.stands fed given s) in
    let fed_same : bytes_fed new ≡ bytes_fed old = omega (arith, ap (λ (s : State). s.place) state, ap length rest, a.fed) in
    let given_same : packets_given new ≡ packets_given old = ap (λ (s : State). s.packets) state ∙ a.given in
    record {
      stands = λ fed given s.
          let m : StandsFor mid fed given = a.stands fed given s in
          record {
            fed_length = s.fed_length ∙ sym fed_same;
            given_length = s.given_length ∙ sym given_same;
            walked = λ more. m.walked more
                ∙ ap (λ (n : ℕ). after_packets given (walk (most_blocks - n) mid.state (mid.rest ++ more))) (sym blocks)
                ∙ ap (λ (t : State). after_packets given (walk (most_blocks - new.blocks) t (mid.rest ++ more))) (sym state)
                ∙ ap (λ (xs : List ℕ). after_packets given (walk (most_blocks - new.blocks) new.state (xs ++ more))) (sym rest);
            few = omega (arith, m.few, blocks);
          };
      all = λ fed given s. ap (λ (w : Walk). w.packets) (all fed given s);
      bad = λ fed given s.
          let M : Option Bad → Type 0 = λ o. MatchOption o (Unit {0}) (λ b. is_short_header b.what ≡ true) in
          subst M (sym (end_bad mid fed given e.waiting (a.stands fed given s))) (short_or_none fed);
      waiting = record {
        waits = λ few. ap (λ (t : State). step t new.rest) state ∙ ap (step mid.state) rest ∙ e.waiting.waits (omega (arith, few, blocks));
        ends = λ many. rest ∙ e.waiting.ends (omega (arith, many, blocks));
      };
      given = given_same;
      fed = fed_same;
      kept = omega (arith, ap length spent, ap length rest, a.held);
      held = omega (arith, ap length spent, ap length rest, e.short);
    }

-- ---- what is malformed

fault_walk : (r : Reader) (b : Bad) (more : List ℕ) → IsFaulty r b → r.blocks ≤ most_blocks
    → walk (most_blocks - r.blocks) r.state (r.rest ++ more) ≡ record { packets = []; bad = Some b; rest = r.rest ++ more }
fault_walk r b more f few =
    elim (cases_lt r.blocks most_blocks) [
      | inl left ↦ walk_fault (most_blocks - r.blocks) (most_blocks - r.blocks - 1) r.state b r.rest more (omega (arith, left)) (f.block left)
      | inr many ↦
          walk_many (most_blocks - r.blocks) r.state r.rest more (omega (arith, many)) ((f.many many).0)
          ∙ ap (λ (c : Bad). record { packets = []; bad = Some c; rest = r.rest ++ more }) (sym ((f.many many).1))
    ]

pub whole_fault : (r : Reader) (b : Bad) (fed : List ℕ) (given : List Packet) (more : List ℕ) → IsFaulty r b → StandsFor r fed given
    → whole_walk (fed ++ more) ≡ record { packets = given; bad = Some b; rest = r.rest ++ more }
whole_fault r b fed given more f s =
    s.walked more ∙ ap (after_packets given) (fault_walk r b more f s.few)
    ∙ ap (λ (ps : List Packet). record { packets = ps; bad = Some b; rest = r.rest ++ more }) (append-nil given)

pub gives_bad : (old mid : Reader) (b : Bad) → IsAlong old mid → IsFaulty mid b → GivesBad old b mid
gives_bad old mid b a f = record {
  stands = a.stands;
  all = λ fed given s more. ap (λ (w : Walk). w.packets) (whole_fault mid b fed given more f (a.stands fed given s));
  bad = λ fed given s more. ap (λ (w : Walk). bad_or_short w.bad (fed ++ more)) (whole_fault mid b fed given more f (a.stands fed given s));
  long = f.long;
  given = a.given;
  fed = a.fed;
  held = a.held;
}

-- ---- the ends

pub starts : (spent : List ℕ) → StandsFor (record { state = start; blocks = 0; rest = []; spent = spent }) [] []
unfolding whole_walk
starts spent = record {
  fed_length = refl;
  given_length = refl;
  walked = λ more. refl;
  few = omega arith;
}

pub start_waits : (spent : List ℕ) → IsWaiting (record { state = start; blocks = 0; rest = []; spent = spent })
unfolding step
start_waits spent = record {
  waits = λ few. refl;
  ends = λ many. refl;
}

-- a file of so many bytes
pub short_when : (fed : List ℕ) (n : ℕ) → length fed ≡ n → n < 28 → short_file fed ≡ Some (bad_at n (ShortHeader n))
short_when fed n e few = rw (below (length fed) 28 (omega (arith, e, few)), e) refl

pub long_when : (fed : List ℕ) (n : ℕ) → length fed ≡ n → 28 ≤ n → short_file fed ≡ None
long_when fed n e long = rw (above (length fed) 28 (omega (arith, e, long))) refl

pub end_cut : (r : Reader) (fed : List ℕ) (given : List Packet) → IsWaiting r → StandsFor r fed given → ng_bad fed ≡ None
    → ng_cut fed ≡ nat_lt 0 (length r.rest)
end_cut r fed given w s none =
    ap (λ (o : Option Bad). is_none o && nat_lt 0 (length (whole_walk fed).rest)) none
    ∙ ap (λ (walk : Walk). nat_lt 0 (length walk.rest)) (whole_end r fed given w s)

pub length_last : (xs : List ℕ) (n : ℕ) → n ≤ length xs → length (drop (length xs - n) xs) ≡ n
length_last xs n h = omega (arith, length-drop (length xs - n) xs, h)
