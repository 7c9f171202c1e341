-- How few frames, bytes and records there are.
use Rattle.std.proofs.Common.{ℕ, ◌≡◌, ◌<◌, ◌≤◌, ◌+◌, ◌*◌, Bool, List, [], Option, true, false, length, arith}
use Rattle.std.specs.Prelude.{All, slice_index_or, slice_set, if◌then◌else◌}
use Rattle.std.specs.List.{sum_by}
use Rattle.std.proofs.lemmas.List.Sums.{sum_by-le, sum_by-set}
use Rattle.std.proofs.lemmas.Nat.{mul-le}
use Rattle.credit_link.specs.declared.turn.NodeFault.{NodeFault}
use Rattle.shuffle_poll.specs.Shuffles.{ShuffleSeen}
use Rattle.round_law.specs.Measure.{capture_bytes, piece_bytes, capture_records}
use Rattle.round_law.specs.Rows.{OffersFew, frames_beside}
use Rattle.run_law.specs.Nodes.{Reading}
use Rattle.run_law.specs.Snapshot.{unread}
use Rattle.node_lanes.specs.Ends.{put_on}
use Rattle.node_lanes.proofs.Going.{few_by_put}
use Rattle.net_law.specs.Parsers.{ParserStands, parser_view}
use Rattle.parser_steps.specs.Seen.{StepsSeen, seen_of, most_put, records_read, captures_ended, bytes_read}
use Rattle.parser_steps.proofs.Places.{places_few}

abbrev pub one_if : Bool → ℕ
one_if b = if b then 1 else 0

one_most : (b : Bool) → one_if b ≤ 1
one_most true = omega arith
one_most false = omega arith

ended_most : (rs : List Reading) → sum_by (λ (r : Reading). if r.ended then 1 else 0) rs ≤ length rs * 1
ended_most rs = sum_by-le (λ (r : Reading). if r.ended then 1 else 0) 1 rs (λ i d less. one_most (slice_index_or rs i d).ended)

-- the frames of a link, against what was taken up
few_beside : (frames records ended finish : ℕ) → frames ≤ 2 * records + ended + finish → ended ≤ 64 → finish ≤ 1 → frames ≤ 2 * (records + 0) + frames_beside
unfolding frames_beside
few_beside frames records ended finish a b c = omega (arith, a, b, c)

pub offers : (steps : StepsSeen) (outs : ShuffleSeen) (fault : Option NodeFault) → length steps.reads ≤ 64
    → ((k : ℕ) → k < length outs.links → length (put_on outs k) ≤ most_put steps) → OffersFew (parser_view (seen_of steps outs fault))
offers steps outs fault few most =
    few_by_put (bytes_read steps) (records_read steps) 0 true [] outs
    (λ k there.
    few_beside (length (put_on outs k)) (records_read steps) (captures_ended steps) (if steps.finished then 1 else 0) (most k there)
    (let e : captures_ended steps ≤ length steps.reads * 1 = ended_most steps.reads in omega (arith, e, few))
    (one_most steps.finished))

-- a parser has at most 64 captures, and no more than there are
pub captures_within : (steps : StepsSeen) (outs : ShuffleSeen) (fault : Option NodeFault) → ParserStands (seen_of steps outs fault) → length steps.reads ≤ length steps.job.captures
captures_within steps outs fault h =
    places_few steps.me steps.parsers (length steps.reads) (length steps.job.captures) (omega (arith, h.place.0)) (λ i less. (h.own i less).0)

pub captures_few : (steps : StepsSeen) (outs : ShuffleSeen) (fault : Option NodeFault) → ParserStands (seen_of steps outs fault) → length steps.reads ≤ 64
captures_few steps outs fault h =
    let within : length steps.reads ≤ length steps.job.captures = captures_within steps outs fault h in
    omega (arith, within, h.job_is.captures.1)

-- ---- bytes and records of all captures

-- each of these has at most so many
abbrev pub AreShort : List Reading → Type 0
AreShort rs = All (λ (r : Reading). (length r.bytes ≤ capture_bytes + piece_bytes) × (length r.records ≤ capture_records)) rs

pub reads_few : (rs : List Reading) (many : ℕ) → AreShort rs → length rs ≤ many
    → (sum_by (λ (r : Reading). length r.bytes) rs ≤ many * (capture_bytes + piece_bytes)) × (sum_by (λ (r : Reading). length r.records) rs ≤ many * capture_records)
reads_few rs many short few =
    let bytes : sum_by (λ (r : Reading). length r.bytes) rs ≤ length rs * (capture_bytes + piece_bytes) =
    sum_by-le (λ (r : Reading). length r.bytes) (capture_bytes + piece_bytes) rs (λ i d less. (short i d less).0) in
    let records : sum_by (λ (r : Reading). length r.records) rs ≤ length rs * capture_records =
    sum_by-le (λ (r : Reading). length r.records) capture_records rs (λ i d less. (short i d less).1) in
    let more_bytes : length rs * (capture_bytes + piece_bytes) ≤ many * (capture_bytes + piece_bytes) = mul-le (length rs) (capture_bytes + piece_bytes) many (capture_bytes + piece_bytes) few (omega arith) in
    let more_records : length rs * capture_records ≤ many * capture_records = mul-le (length rs) capture_records many capture_records few (omega arith) in (
      le_trans (sum_by (λ (r : Reading). length r.bytes) rs) (length rs * (capture_bytes + piece_bytes)) (many * (capture_bytes + piece_bytes)) bytes more_bytes,
      le_trans (sum_by (λ (r : Reading). length r.records) rs) (length rs * capture_records) (many * capture_records) records more_records,
    )
  where
    le_trans : (a b c : ℕ) → a ≤ b → b ≤ c → a ≤ c
    le_trans a b c p q = omega (arith, p, q)

-- a sum where one term was changed
pub sum_changes : (f : Reading → ℕ) (rs : List Reading) (i more : ℕ) (r : Reading) → i < length rs → f r ≡ f (slice_index_or rs i unread) + more → sum_by f (slice_set rs i r) ≡ sum_by f rs + more
sum_changes f rs i more r there e =
    let s : sum_by f (slice_set rs i r) + f (slice_index_or rs i unread) ≡ sum_by f rs + f r = sum_by-set f rs i r unread there in
    omega (arith, s, e)
