-- One sighting more of a packet, and one packet more.
use Rattle.std.proofs.Common.{◌≡◌, ℕ, suc, ◌+◌, ◌*◌, ◌-◌, ◌%◌, List, [], ◌∷◌, ◌++◌, map, refl, sym, ap, ◌∙◌, add-one, append_assoc, arith}
use Rattle.std.proofs.lemmas.List.FromFn.{map-range_with_len_more}
use Rattle.std.specs.List.{range_with_len}
use Rattle.trace_gen.specs.declared.sighting.Sighting.{Sighting}
use Rattle.trace_gen.specs.Captures.{packet_count, all_seen}
use Rattle.trace_gen.specs.Draws.{following, number_of, state_after, draw}
use Rattle.trace_gen.specs.Sightings.{sighting_count, sighting_at, point_at, time_at, walk, state_behind, state_of, sightings}

-- a draw more
one_more : (k start : ℕ) → following (state_after k start) ≡ state_after (suc k) start
unfolding state_after
one_more k start = refl

none_drawn : (start : ℕ) → state_after 0 start ≡ start
unfolding state_after
none_drawn start = refl

drawn_from : (k n start state number : ℕ) → state ≡ state_after (suc k) start → number ≡ number_of n state → number ≡ draw k n start
drawn_from k n start state number e d = d ∙ ap (number_of n) e

next : (k start before state : ℕ) → before ≡ state_after k start → state ≡ following before → state ≡ state_after (suc k) start
next k start before state e f = f ∙ ap following e ∙ one_more k start

-- the two draws before the first sighting
pub after_one : (start state : ℕ) → state ≡ following start → state ≡ state_after 1 start
after_one start state e = next 0 start start state (sym (none_drawn start)) e

pub after_two : (start first second : ℕ) → first ≡ following start → second ≡ following first → second ≡ state_after (2 + 2 * 0) start
after_two start first second e f = next 1 start first second (after_one start first e) f

pub first_point : (start state number : ℕ) → state ≡ following start → number ≡ number_of 8 state → number ≡ point_at start 0
unfolding point_at
first_point start state number e d = drawn_from 0 8 start state number (after_one start state e) d

pub first_time : (id start time : ℕ) → time ≡ 1000000 * (id + 1) → time ≡ time_at id start 0
unfolding time_at
first_time id start time e = e

pub how_often : (start first second number count : ℕ) → first ≡ following start → second ≡ following first → number ≡ number_of 3 second
    → count ≡ 2 + number → count ≡ sighting_count start
how_often start first second number count e f d c = c ∙ ap (λ n. 2 + n) (drawn_from 1 3 start second number (after_two start first second e f) d)

-- the two draws behind a sighting
pub after_both : (k start state first second : ℕ) → state ≡ state_after (2 + 2 * k) start → first ≡ following state → second ≡ following first
    → second ≡ state_after (2 + 2 * (k + 1)) start
after_both k start state first second e f g =
    let n : suc (suc (2 + 2 * k)) ≡ 2 + 2 * (k + 1) = omega arith in
    next (suc (2 + 2 * k)) start first second (next (2 + 2 * k) start state first e f) g ∙ ap (λ j. state_after j start) n

point_step : (start k : ℕ) → point_at start (suc k) ≡ (point_at start k + 1 + draw (2 + 2 * k) 3 start) % 8
unfolding point_at
point_step start k = refl

pub next_point : (k start state first number point : ℕ) → state ≡ state_after (2 + 2 * k) start → first ≡ following state
    → number ≡ number_of 3 first → point ≡ point_at start k → (point + 1 + number) % 8 ≡ point_at start (k + 1)
next_point k start state first number point e f d here =
    ap (λ p. (p + 1 + number) % 8) here
    ∙ ap (λ n. (point_at start k + 1 + n) % 8) (drawn_from (2 + 2 * k) 3 start first number (next (2 + 2 * k) start state first e f) d)
    ∙ sym (point_step start k) ∙ ap (point_at start) (sym (add-one k))

time_step : (id start k : ℕ) → time_at id start (suc k) ≡ time_at id start k + 1000 + draw (3 + 2 * k) 9000 start
unfolding time_at
time_step id start k = refl

pub next_time : (id k start state first second number time later : ℕ) → state ≡ state_after (2 + 2 * k) start → first ≡ following state
    → second ≡ following first → number ≡ number_of 9000 second → time ≡ time_at id start k → later ≡ time + (1000 + number)
    → later ≡ time_at id start (k + 1)
next_time id k start state first second number time later e f g d now then =
    let three : suc (suc (2 + 2 * k)) ≡ suc (3 + 2 * k) = omega arith in
    let state : second ≡ state_after (suc (3 + 2 * k)) start =
    next (suc (2 + 2 * k)) start first second (next (2 + 2 * k) start state first e f) g ∙ ap (λ j. state_after j start) three in
    let drawn : number ≡ draw (3 + 2 * k) 9000 start = drawn_from (3 + 2 * k) 9000 start second number state d in
    let sum : later ≡ time_at id start k + 1000 + draw (3 + 2 * k) 9000 start = omega (arith, now, then, drawn) in
    sum ∙ sym (time_step id start k) ∙ ap (time_at id start) (sym (add-one k))

-- a sighting is put behind others
same_sighting : (id start k point time ttl : ℕ) → point ≡ point_at start k → time ≡ time_at id start k → ttl ≡ 64 - k
    → record { capture = point; time = time; id = id; ttl = ttl } ≡ sighting_at id start k
same_sighting id start k point time ttl here now left =
    ap (λ p. record { capture = p; time = time; id = id; ttl = ttl }) here
    ∙ ap (λ t. record { capture = point_at start k; time = t; id = id; ttl = ttl }) now
    ∙ ap (λ t. record { capture = point_at start k; time = time_at id start k; id = id; ttl = t }) left

pub one_seen : (id start k point time ttl : ℕ) (before seen after : List Sighting)
    → seen ≡ before ++ map (sighting_at id start) (range_with_len 0 k)
    → after ≡ seen ++ record { capture = point; time = time; id = id; ttl = ttl } ∷ []
    → point ≡ point_at start k → time ≡ time_at id start k → ttl ≡ 64 - k
    → after ≡ before ++ map (sighting_at id start) (range_with_len 0 (k + 1))
one_seen id start k point time ttl before seen after so_far put here now left =
    put ∙ ap (λ t. t ++ record { capture = point; time = time; id = id; ttl = ttl } ∷ []) so_far
    ∙ append_assoc before (map (sighting_at id start) (range_with_len 0 k)) (record { capture = point; time = time; id = id; ttl = ttl } ∷ [])
    ∙ ap (λ s. before ++ (map (sighting_at id start) (range_with_len 0 k) ++ s ∷ [])) (same_sighting id start k point time ttl here now left)
    ∙ ap (λ t. before ++ t) (sym (map-range_with_len_more (sighting_at id start) 0 k k (omega arith)))

-- the end of a walk
pub all_walked : (id start k : ℕ) (before seen : List Sighting) → seen ≡ before ++ map (sighting_at id start) (range_with_len 0 k)
    → k ≡ sighting_count start → seen ≡ before ++ walk id start
all_walked id start k before seen walked e = walked ∙ ap (λ n. before ++ map (sighting_at id start) (range_with_len 0 n)) e

pub walked_behind : (start k state : ℕ) → state ≡ state_after (2 + 2 * k) start → k ≡ sighting_count start → state ≡ state_behind start
walked_behind start k state drawn e = drawn ∙ ap (λ n. state_after (2 + 2 * n) start) e

-- packets
pub none_seen : (number : ℕ) → [] ≡ sightings number 0
unfolding sightings
none_seen number = refl

pub first_state : (number state : ℕ) → state ≡ number → state ≡ state_of number 0
unfolding state_of
first_state number state e = e

state_step : (number id : ℕ) → state_behind (state_of number id) ≡ state_of number (suc id)
unfolding state_of
state_step number id = refl

pub next_state : (number id before state : ℕ) → before ≡ state_of number id → state ≡ state_behind before → state ≡ state_of number (id + 1)
next_state number id before state e f = f ∙ ap state_behind e ∙ state_step number id ∙ ap (state_of number) (sym (add-one id))

seen_step : (number id : ℕ) → sightings number id ++ walk id (state_of number id) ≡ sightings number (suc id)
unfolding sightings
seen_step number id = refl

pub one_packet : (number id before : ℕ) (seen after : List Sighting) → before ≡ state_of number id → seen ≡ sightings number id
    → after ≡ seen ++ walk id before → after ≡ sightings number (id + 1)
one_packet number id before seen after e so_far put =
    put ∙ ap (λ t. t ++ walk id before) so_far ∙ ap (λ s. sightings number id ++ walk id s) e ∙ seen_step number id
    ∙ ap (sightings number) (sym (add-one id))

pub all_packets : (number id : ℕ) (seen : List Sighting) → seen ≡ sightings number id → id ≡ 20000 → seen ≡ all_seen number
unfolding packet_count
all_packets number id seen so_far e = so_far ∙ ap (sightings number) e
