-- How late a sighting is at most.
use Rattle.std.proofs.Common.{◌==◌, ◌<◌, ◌≤◌, ℕ, zero, suc, ◌+◌, ◌*◌, ◌/◌, ◌^◌, All, not, length, length-append, refl, subst, sym, arith}
use Rattle.pcap_reader.specs.Records.{most_records}
use Rattle.std.proofs.lemmas.List.Elements.{All-append, All-filter, All-nil}
use Rattle.std.proofs.lemmas.List.Filters.{length-filter_both}
use Rattle.std.proofs.lemmas.List.FromFn.{length-map-range_with_len, get_or-map-range_with_len}
use Rattle.std.proofs.lemmas.Nat.{mod_below}
use Rattle.trace_gen.specs.declared.sighting.Sighting.{Sighting}
use Rattle.trace_gen.specs.Captures.{packet_count, all_seen, seen_at}
use Rattle.trace_gen.specs.Draws.{number_of, state_after, draw}
use Rattle.trace_gen.specs.Sightings.{sighting_count, sighting_at, point_at, time_at, walk, state_of, sightings}

number_below : (n state : ℕ) → 0 < n → number_of n state < n
unfolding number_of
number_below n state some = mod_below (state / 2 ^ 33) n some

pub draw_below : (k n start : ℕ) → 0 < n → draw k n start < n
draw_below k n start some = number_below n (state_after (suc k) start) some

pub few_sightings : (start : ℕ) → sighting_count start ≤ 4
few_sightings start = omega (arith, draw_below 1 3 start (omega arith))

pub time_most : (id start k : ℕ) → time_at id start k ≤ 1000000 * (id + 1) + 10000 * k
unfolding time_at
time_most id start zero = omega arith
time_most id start (suc k) = omega (arith, time_most id start k, draw_below (3 + 2 * k) 9000 start (omega arith))

-- before the year's second minute, so to say: in 35 bits
abbrev pub IsSoon : Sighting → Type 0
IsSoon s = s.time < 2 ^ 35

pub seen_soon : (id start k : ℕ) → id < 20000 → k < 4 → IsSoon (sighting_at id start k)
seen_soon id start k early few = omega (arith, time_most id start k, early, few)

-- what holds of each sighting of a sample holds of all that is seen
walk_all : (P : Sighting → Type 0) (id start : ℕ) → ((k : ℕ) → k < 4 → P (sighting_at id start k)) → All P (walk id start)
walk_all P id start holds k d less =
    let within : k < sighting_count start = omega (arith, less, length-map-range_with_len (sighting_at id start) 0 (sighting_count start)) in
    subst P (sym (get_or-map-range_with_len (sighting_at id start) 0 (sighting_count start) k k d within (omega arith)))
    (holds k (omega (arith, within, few_sightings start)))

packets_all : (P : Sighting → Type 0) → ((id start k : ℕ) → id < 20000 → k < 4 → P (sighting_at id start k))
    → (number packets : ℕ) → packets ≤ 20000 → All P (sightings number packets)
unfolding sightings
packets_all P holds number zero few = All-nil P
packets_all P holds number (suc id) few =
    All-append P (sightings number id) (walk id (state_of number id)) (packets_all P holds number id (omega (arith, few)))
    (walk_all P id (state_of number id) (λ k less. holds id (state_of number id) k (omega (arith, few)) less))

count_is : packet_count ≤ 20000
unfolding packet_count
count_is = omega arith

pub all_soon : (number : ℕ) → All IsSoon (all_seen number)
all_soon number = packets_all IsSoon seen_soon number packet_count count_is

point_below : (start k : ℕ) → point_at start k < 8
unfolding point_at
point_below start zero = draw_below 0 8 start (omega arith)
point_below start (suc k) = mod_below (point_at start k + 1 + draw (2 + 2 * k) 3 start) 8 (omega arith)

-- every sighting is at one of the eight capture points
abbrev pub IsAtPoint : Sighting → Type 0
IsAtPoint s = s.capture < 8

pub all_at_points : (number : ℕ) → All IsAtPoint (all_seen number)
all_at_points number = packets_all IsAtPoint (λ id start k early few. point_below start k) number packet_count count_is

pub seen_at_soon : (number point : ℕ) → All IsSoon (seen_at point (all_seen number))
seen_at_soon number point = All-filter (λ s. s.capture == point) IsSoon (all_seen number) (all_soon number)

-- how much is seen at most
packets_few : (number packets : ℕ) → length (sightings number packets) ≤ 4 * packets
unfolding sightings
packets_few number zero = omega arith
packets_few number (suc id) =
    omega (
      arith,
      packets_few number id,
      length-append (sightings number id) (walk id (state_of number id)),
      length-map-range_with_len (sighting_at id (state_of number id)) 0 (sighting_count (state_of number id)),
      few_sightings (state_of number id),
    )

pub all_few : (number : ℕ) → length (all_seen number) ≤ 80000
all_few number = omega (arith, packets_few number packet_count, count_is)

pub seen_few : (number point : ℕ) → length (seen_at point (all_seen number)) ≤ most_records
seen_few number point =
    omega (arith, all_few number, length-filter_both (λ s. s.capture == point) (λ s. not (s.capture == point)) (λ _. refl) (all_seen number))
