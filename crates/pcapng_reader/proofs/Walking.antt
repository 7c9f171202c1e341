-- The blocks of a file, one after the other.
use Rattle.std.proofs.Common.{◌≡◌, ◌≤◌, ◌<◌, ℕ, zero, suc, List, [], ◌++◌, length, drop, true, refl, sym, ap, ◌∙◌, arith, append_assoc, length-append, Option, Some, None, Result, Ok, Err}
use Rattle.std.specs.Prelude.{nat_lt, option_to_list}
use Rattle.std.proofs.lemmas.Bool.Decides.{nat_tests}
use Rattle.std.proofs.lemmas.List.{drop-append-le}
use Rattle.ds_base.specs.declared.capture.Bad.{Bad}
use Rattle.ds_base.specs.declared.capture.PcapFault.TheVariants.{TooMany}
use Rattle.pcapng_reader.specs.Packet.{Packet}
use Rattle.pcapng_reader.specs.State.{State, Block, bad_at}
use Rattle.pcapng_reader.specs.Steps.{step}
use Rattle.pcapng_reader.specs.Good.{Walk, after_packets, walk_by, walk}
use Rattle.pcapng_reader.proofs.Fronts.{step_block, step_fault}

walk_step : (most : ℕ) (state : State) (bytes : List ℕ)
    → walk (suc most) state bytes ≡ walk_by (step state bytes) bytes (λ block. walk most block.after (drop block.len bytes))
unfolding walk
walk_step most state bytes = refl

walk_zero : (state : State) (bytes : List ℕ) → 0 < length bytes → walk zero state bytes ≡ record { packets = []; bad = Some (bad_at state.place TooMany); rest = bytes }
unfolding walk
walk_zero state bytes some =
    let test : nat_lt 0 (length bytes) ≡ true = grind (arith, nat_tests) in
    rw test refl

walk_nothing : (state : State) → walk zero state [] ≡ record { packets = []; bad = None; rest = [] }
unfolding walk
walk_nothing state = refl

-- a block more
pub walk_block : (most next : ℕ) (state : State) (block : Block) (xs ys : List ℕ) → most ≡ suc next → step state xs ≡ Ok (Some block) → block.len ≤ length xs
    → walk most state (xs ++ ys) ≡ after_packets (option_to_list block.packet) (walk next block.after (drop block.len xs ++ ys))
walk_block most next state block xs ys e h fits =
    ap (λ (n : ℕ). walk n state (xs ++ ys)) e
    ∙ walk_step next state (xs ++ ys)
    ∙ ap (λ (r : Result (Option Block) Bad). walk_by r (xs ++ ys) (λ block. walk next block.after (drop block.len (xs ++ ys)))) (step_block state block xs ys h)
    ∙ ap (λ (zs : List ℕ). after_packets (option_to_list block.packet) (walk next block.after zs)) (drop-append-le block.len xs ys fits)

-- what is malformed in the next
pub walk_fault : (most next : ℕ) (state : State) (b : Bad) (xs ys : List ℕ) → most ≡ suc next → step state xs ≡ Err b
    → walk most state (xs ++ ys) ≡ record { packets = []; bad = Some b; rest = xs ++ ys }
walk_fault most next state b xs ys e h =
    ap (λ (n : ℕ). walk n state (xs ++ ys)) e
    ∙ walk_step next state (xs ++ ys)
    ∙ ap (λ (r : Result (Option Block) Bad). walk_by r (xs ++ ys) (λ block. walk next block.after (drop block.len (xs ++ ys)))) (step_fault state b xs ys h)

-- no further whole block
pub walk_wait : (most next : ℕ) (state : State) (xs : List ℕ) → most ≡ suc next → step state xs ≡ Ok None
    → walk most state xs ≡ record { packets = []; bad = None; rest = xs }
walk_wait most next state xs e h =
    ap (λ (n : ℕ). walk n state xs) e
    ∙ walk_step next state xs
    ∙ ap (λ (r : Result (Option Block) Bad). walk_by r xs (λ block. walk next block.after (drop block.len xs))) h

-- as many blocks as there can be
pub walk_many : (most : ℕ) (state : State) (xs ys : List ℕ) → most ≡ 0 → 0 < length xs
    → walk most state (xs ++ ys) ≡ record { packets = []; bad = Some (bad_at state.place TooMany); rest = xs ++ ys }
walk_many most state xs ys e some =
    ap (λ (n : ℕ). walk n state (xs ++ ys)) e ∙ walk_zero state (xs ++ ys) (omega (arith, some, length-append xs ys))

pub walk_end : (most : ℕ) (state : State) (xs : List ℕ) → most ≡ 0 → xs ≡ [] → walk most state xs ≡ record { packets = []; bad = None; rest = xs }
walk_end most state xs e none =
    ap (λ (n : ℕ). walk n state xs) e ∙ ap (walk zero state) none ∙ walk_nothing state
    ∙ ap (λ (ys : List ℕ). record { packets = []; bad = None; rest = ys }) (sym none)

pub after_twice : (given packets : List Packet) (w : Walk) → after_packets given (after_packets packets w) ≡ after_packets (given ++ packets) w
after_twice given packets w = ap (λ (ps : List Packet). record { packets = ps; bad = w.bad; rest = w.rest }) (sym (append_assoc given packets w.packets))
