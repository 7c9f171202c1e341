-- A parser before its first step.
use Rattle.std.proofs.Common.{ℕ, zero, suc, ◌≡◌, ◌<◌, ◌≤◌, ◌+◌, ◌*◌, ◌/◌, Bool, None, false, List, [], ◌∷◌, ◌++◌, length, map, replicate, take, refl, sym, ap, ap₂, subst, ◌∙◌, arith, ⊎_elim}
use Rattle.std.specs.Prelude.{All, slice_index_or}
use Rattle.std.proofs.lemmas.List.{get_or_append_left, get_or_push}
use Rattle.ds_base.specs.Outside.{SourceSeen, IsFresh}
use Rattle.credit_link.specs.Ends.{TxSeen}
use Rattle.credit_link.specs.Frames.{has_finish}
use Rattle.node_frames.specs.declared.frame.Frame.{Frame}
use Rattle.key_select.specs.Tally.{capture_of, records_taken}
use Rattle.key_select.specs.Wanted.{good_of}
use Rattle.pcap_reader.specs.Reader.{bytes_held}
use Rattle.pcap_reader.specs.Captured.{Captured}
use Rattle.summary_spec.specs.Declaration.{Declared}
use Rattle.summary_spec.specs.Lawful.{IsLawful}
use Rattle.run_law.specs.Nodes.{Reading}
use Rattle.run_law.specs.Snapshot.{unread}
use Rattle.node_lanes.specs.Ends.{put_on}
use Rattle.node_lanes.proofs.Listed.{puts_at}
use Rattle.net_law.specs.Ends.{no_tx}
use Rattle.net_law.specs.Starts.{AreOwn, AreNewOuts, new_parser, new_outs}
use Rattle.net_law.proofs.Starts.{parser_starts}
use Rattle.parser_captures.specs.Captures.{reading_of}
use Rattle.parser_captures.specs.Choice.{capture_in}
use Rattle.parser_captures.specs.declared.capture.OneCapture.{OneCapture}
use Rattle.parser_captures.proofs.Keeping.{same_or_not}
use Rattle.parser_captures.proofs.Taking.{untold}
use Rattle.parser_steps.specs.Holds.{ParserHolds}
use Rattle.parser_steps.specs.One.{IsFreshCapture}
use Rattle.parser_steps.specs.Seen.{StepsSeen, StepsStand, steps_of, new_steps, most_put}

-- ---- captures one by one

-- one more capture of which nothing was read
pub fresh_more : (job : Declared) (me parsers n : ℕ) (cs : List OneCapture) (new : OneCapture) → length cs ≡ n
    → ((k : ℕ) (d : OneCapture) → k < n → IsFreshCapture job (me + k * parsers) (capture_in cs k d)) → IsFreshCapture job (me + n * parsers) new
    → (k : ℕ) (d : OneCapture) → k < n + 1 → IsFreshCapture job (me + k * parsers) (capture_in (cs ++ new ∷ []) k d)
fresh_more job me parsers n cs new long each here k d less =
    ⊎_elim
    (λ (is : k ≡ n).
    subst (λ (j : ℕ). IsFreshCapture job (me + j * parsers) (capture_in (cs ++ new ∷ []) j d)) (sym is)
    (subst (IsFreshCapture job (me + n * parsers)) (sym (get_or_push cs new d n long)) here))
    (λ differ.
    let before : k < n = omega (arith, less, differ) in
    subst (IsFreshCapture job (me + k * parsers)) (sym (get_or_append_left cs (new ∷ []) d k (omega (arith, before, long)))) (each k d before))
    (same_or_not k n)

-- nothing was read of a capture from which no record and no byte was taken
pub is_unread : (job : Declared) (c : OneCapture) → c.bytes.items ≡ [] → records_taken c.tally ≡ 0 → c.ended ≡ false → reading_of job c ≡ unread
is_unread job c bytes none open' =
    ap (λ (xs : List ℕ). of_parts xs c.ended (take (records_taken c.tally) (good_of job (capture_of c.tally) c.bytes.items).records)) bytes
    ∙ ap (λ (e : Bool). of_parts [] e (take (records_taken c.tally) (good_of job (capture_of c.tally) c.bytes.items).records)) open'
    ∙ ap (λ (n : ℕ). of_parts [] false (take n (good_of job (capture_of c.tally) c.bytes.items).records)) none
  where
    of_parts : List ℕ → Bool → List Captured → Reading
    of_parts bytes ended records = record { bytes = bytes; ended = ended; records = records }

-- ---- all of them

map_same : {X Y : Type 0} (f : X → Y) (y : Y) (xs : List X) (n : ℕ) → length xs ≡ n → ((k : ℕ) (d : X) → k < length xs → f (slice_index_or xs k d) ≡ y) → map f xs ≡ replicate n y
map_same f y [] zero long each = refl
map_same f y [] (suc n) long each = absurd (omega (arith, long))
map_same f y (x ∷ xs) zero long each = absurd (omega (arith, long))
map_same f y (x ∷ xs) (suc n) long each = ap₂ (λ z zs. z ∷ zs) (each 0 x (omega arith)) (map_same f y xs n (omega (arith, long)) (λ k d less. each (suc k) d (omega (arith, less))))

module _ (job : Declared) (me parsers groupers : ℕ) (captures : List OneCapture) (sources : List SourceSeen) (count : length captures ≡ length sources)
    (fresh : (k : ℕ) (d : OneCapture) → k < length sources → IsFreshCapture job (me + k * parsers) (capture_in captures k d)) where
  at : (k : ℕ) (d : OneCapture) → k < length captures → IsFreshCapture job (me + k * parsers) (capture_in captures k d)
  at k d less = fresh k d (omega (arith, less, count))

  pub are_new : steps_of job me parsers groupers captures sources false ≡ new_steps job me parsers groupers sources
  are_new =
      ap (λ (rs : List Reading). with_lists rs (map (λ (c : OneCapture). c.behind) captures) (map (λ (c : OneCapture). bytes_held c.reading.reader) captures))
      (map_same (reading_of job) unread captures (length sources) count (λ k d less. (at k d less).unread.reading))
      ∙ ap (λ (ns : List ℕ). with_lists (replicate (length sources) unread) ns (map (λ (c : OneCapture). bytes_held c.reading.reader) captures))
      (map_same (λ (c : OneCapture). c.behind) 0 captures (length sources) count (λ k d less. (at k d less).unread.behind))
      ∙ ap (λ (ns : List ℕ). with_lists (replicate (length sources) unread) (replicate (length sources) 0) ns)
      (map_same (λ (c : OneCapture). bytes_held c.reading.reader) 0 captures (length sources) count (λ k d less. (at k d less).unread.held))
    where
      with_lists : List Reading → List ℕ → List ℕ → StepsSeen
      with_lists rs behind held =
          record { job = job; me = me; parsers = parsers; groupers = groupers; sources = sources; reads = rs; behind = behind; held = held; finished = false }

  pub new_stand : me < parsers → parsers ≤ 16 → groupers ≤ 16 → StepsStand job me parsers groupers captures sources
  new_stand place few_parsers few = record {
    place = (place, few_parsers);
    few = few;
    are = record {
      stand = λ k d less. (at k d less).stands;
      own = λ k d less. (at k d less).own;
      brief = λ k d less. let none : records_taken (capture_in captures k d).tally ≡ 0 = (at k d less).none in omega (arith, none);
    };
    as_many = sym count;
  }

-- ---- with new links

equal_items : {X : Type 0} (n i : ℕ) (x : X) → slice_index_or (replicate n x) i x ≡ x
equal_items zero i x = refl
equal_items (suc n) zero x = refl
equal_items (suc n) (suc i) x = equal_items n i x

module _ (job : Declared) (me parsers groupers : ℕ) (sources : List SourceSeen) (lawful : IsLawful job) (place : (me < parsers) × (parsers ≤ 16)) (few : (1 ≤ groupers) × (groupers ≤ 16))
    (fresh : All IsFresh sources) (own : AreOwn (new_parser job me parsers 0 sources [])) (credits : ℕ) (links : List TxSeen) (long : length links ≡ groupers + 1) (new : AreNewOuts credits links) where
  abbrev first : ℕ
  first = (slice_index_or links 0 no_tx).credits

  of_first : AreNewOuts first links
  of_first = subst (λ (n : ℕ). AreNewOuts n links) (sym (new.each 0 no_tx (omega (arith, long))).credits) new

  none_put : (k : ℕ) → k < length links → put_on (new_outs links) k ≡ []
  none_put k less =
      puts_at links (replicate (length links) []) k no_tx less
      ∙ ap (λ (fs : List Frame). fs ++ slice_index_or (replicate (length links) []) k []) (new.each k no_tx less).offered
      ∙ equal_items (length links) k []

  pub new_holds : ParserHolds (new_steps job me parsers groupers sources) (new_outs links) None
  new_holds = record {
    stands = parser_starts job me parsers first sources links lawful place.0 place.1 (omega (arith, few.0, long)) (omega (arith, few.1, long)) fresh
        (record { captures = own.captures; own = own.own }) of_first;
    links = long;
    near = λ i. subst (λ (n : ℕ). n < 32) (sym (equal_items (length sources) i 0)) (omega arith);
    few = λ k less. subst (λ (fs : List Frame). length fs ≤ most_put (new_steps job me parsers groupers sources)) (sym (none_put k less)) (omega arith);
    told = λ none c mine ended. untold _ (ap (λ (r : Reading). r.ended) (sym (equal_items (length sources) (c / parsers) unread)) ∙ ended);
    ending = λ k less. ap has_finish (none_put k less);
    all = λ e. untold _ e;
  }
