-- Rows that go behind those that were there.
use Rattle.std.proofs.Common.{ℕ, List, [], ◌∷◌, ◌++◌, ◌≡◌, ◌<◌, ◌≤◌, ◌+◌, ◌*◌, Some, length, map, sym, ap, ◌∙◌, subst, arith, append_assoc, append-nil}
use Rattle.std.specs.Prelude.{slice_get}
use Rattle.std.specs.List.{flat_map}
use Rattle.std.proofs.lemmas.List.{length-append, get_or-map}
use Rattle.std.proofs.lemmas.List.FromFn.{length-map-range_with_len, map-range_with_len_more}
use Rattle.std.proofs.lemmas.Nat.{row_fits}
use Rattle.std.proofs.lemmas.Option.{get_or_from_slice_get, slice_get_within}
use Rattle.ds_base.specs.Items.{Items}
use Rattle.credit_link.specs.declared.row.LinkRow.{LinkRow}
use Rattle.run_law.specs.Nodes.{below}
use Rattle.pipeline_law.specs.Rows.{ends_at}
use Rattle.pipeline_law.proofs.Listed.{flat_long, flat_more}
use Rattle.link_rows.specs.Reading.{PutsBehind}

-- the ends of the node at a place
pub end_is : {N X : Type 0} (ends : N → List X) (nodes : List N) (i : ℕ) (node : N) → slice_get nodes i ≡ Some node → ends_at ends nodes i ≡ ends node
end_is ends nodes i node at = get_or-map ends nodes i node [] (slice_get_within nodes i node at) ∙ ap ends (get_or_from_slice_get nodes i node node at)

pub put_none : (a : Items LinkRow) → PutsBehind a a []
put_none a = record { rows = sym (append-nil a.items); room = omega arith }

pub put_more : (a b c : Items LinkRow) (xs ys : List LinkRow) → PutsBehind a b xs → PutsBehind b c ys → PutsBehind a c (xs ++ ys)
put_more a b c xs ys f g = record {
  rows = g.rows ∙ ap (λ l. l ++ ys) f.rows ∙ append_assoc a.items xs ys;
  room = omega (arith, f.room, g.room);
}

-- ---- one number more

pub put_row : (a b c : Items LinkRow) (f : ℕ → LinkRow) (n : ℕ) (row : LinkRow) → PutsBehind a b (map f (below n)) → PutsBehind b c (row ∷ []) → row ≡ f n → PutsBehind a c (map f (below (n + 1)))
put_row a b c f n row before one is =
    subst (PutsBehind a c) (sym (map-range_with_len_more f 0 n n (omega arith)))
    (put_more a b c (map f (below n)) (f n ∷ []) before (subst (λ (r : LinkRow). PutsBehind b c (r ∷ [])) is one))

pub put_list : (a b c : Items LinkRow) (f : ℕ → List LinkRow) (n : ℕ) (list : List LinkRow) → PutsBehind a b (flat_map f (below n)) → PutsBehind b c list → list ≡ f n → PutsBehind a c (flat_map f (below (n + 1)))
put_list a b c f n list before one is =
    subst (PutsBehind a c) (sym (flat_more f n)) (put_more a b c (flat_map f (below n)) (f n) before (subst (PutsBehind b c) is one))

-- ---- the room that is left

pub row_room : (a b : Items LinkRow) (f : ℕ → LinkRow) (i n : ℕ) → PutsBehind a b (map f (below i)) → n ≤ a.spare → i < n → 0 < b.spare
row_room a b f i n put room less = omega (arith, put.room, ap length put.rows, length-append a.items (map f (below i)), length-map-range_with_len f 0 i, room, less)

pub list_room : (a b : Items LinkRow) (f : ℕ → List LinkRow) (m i n : ℕ) → ((j : ℕ) → length (f j) ≡ m) → PutsBehind a b (flat_map f (below i)) → n * m ≤ a.spare → i < n → m ≤ b.spare
list_room a b f m i n each put room less =
    omega (arith, put.room, ap length put.rows, length-append a.items (flat_map f (below i)), flat_long f m 0 i each, room, row_fits i m n m less (omega arith))

pub rest_room : (a b : Items LinkRow) (more : List LinkRow) (k : ℕ) → PutsBehind a b more → length more ≡ k → a.spare ≤ b.spare + k
rest_room a b more k put long = omega (arith, put.room, ap length put.rows, length-append a.items more, long)
