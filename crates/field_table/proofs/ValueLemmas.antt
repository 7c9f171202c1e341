-- Where a field lies, and what that says of its value.
use Rattle.std.proofs.Common.{◌≡◌, ℕ, zero, suc, ◌+◌, ◌-◌, ◌*◌, ◌/◌, ◌%◌, ◌^◌, ◌<◌, ◌≤◌, Bool, true, false, List, [], ◌∷◌, length, Some, None, IsTrue, slice_get, refl, ap, lit<, arith, ltb-true, leb-true}
use Rattle.std.specs.List.{list_all}
use Rattle.std.specs.Prelude.{◌==◌, nat_lt, nat_le, ◌&&◌}
use Rattle.std.proofs.lemmas.Nat.{mod_below}
use Rattle.std.proofs.lemmas.Option.{cond_some}
use Rattle.std.proofs.lemmas.Bool.{and_parts}
use Rattle.std.proofs.lemmas.Bool.Decides.{nat_tests}
use Rattle.field_table.specs.declared.kind.Kind.{Kind}
use Rattle.field_table.specs.declared.kind.Kind.TheVariants.{Eth, Tag, Ipv4, Ipv6, Ext, Frag, Tcp, Udp, Icmp, Icmp6, Gre, Vxlan}
use Rattle.field_table.specs.declared.layout.Layout.{Layout}
use Rattle.field_table.specs.declared.layout.Start.{Start}
use Rattle.field_table.specs.declared.layout.Start.TheVariants.{At, Checksum, Key, Sequence}
use Rattle.field_table.specs.Bits.{number_of_bits}
use Rattle.field_table.specs.Fields.{first_bit, number_at, value_of}
use Rattle.field_table.proofs.Narrow.{bits_before, is_narrow}
use Rattle.field_table.specs.Table.{layouts_of}

-- what a test of all elements says of one
all_at : {X : Type 0} (p : X → Bool) (xs : List X) (i : ℕ) (x : X) → IsTrue (list_all p xs) → slice_get xs i ≡ Some x → IsTrue (p x)
all_at p [] i x h e = cc
all_at p (y ∷ ys) zero x h e = let first : p y ≡ true = (and_parts (p y) (list_all p ys) h).0 in cc
all_at p (y ∷ ys) (suc i) x h e = all_at p ys i x (and_parts (p y) (list_all p ys) h).1 e

-- the whole table is narrow, by computation
table_narrow : (kind : Kind) → IsTrue (list_all is_narrow (layouts_of kind))
table_narrow Eth = refl
table_narrow Tag = refl
table_narrow Ipv4 = refl
table_narrow Ipv6 = refl
table_narrow Ext = refl
table_narrow Frag = refl
table_narrow Tcp = refl
table_narrow Udp = refl
table_narrow Icmp = refl
table_narrow Icmp6 = refl
table_narrow Gre = refl
table_narrow Vxlan = refl

-- a field of the table has bits, and its bytes fit a number of 128 bits
pub row_fits : (kind : Kind) (field : ℕ) (layout : Layout) → slice_get (layouts_of kind) field ≡ Some layout → (0 < layout.bits) × (bits_before layout.start + layout.bits ≤ 128)
row_fits kind field layout e =
    let narrow = all_at is_narrow (layouts_of kind) field layout (table_narrow kind) e in
    let parts = and_parts (nat_lt 0 layout.bits) (nat_le (bits_before layout.start + layout.bits) 128) narrow in
    (ltb-true 0 layout.bits parts.0, leb-true (bits_before layout.start + layout.bits) 128 parts.1)

pub one_bit : (bytes : List ℕ) (first : ℕ) → number_of_bits bytes first 1 < 2
unfolding number_of_bits
one_bit bytes first = mod_below _ 2 (lit< tt)

pub no_bit : (bytes : List ℕ) (first : ℕ) → length bytes ≡ 0 → number_of_bits bytes first 1 ≡ 0
unfolding number_of_bits
no_bit [] first e =
    let none : 0 - (first + 1) ≡ 0 = omega arith in ap (λ k. 0 / 2 ^ k % 2) none
no_bit (b ∷ bytes) first e = cc

pub before_first : (start : Start) (bytes : List ℕ) (first : ℕ) → first_bit start bytes ≡ Some first → first % 8 ≡ bits_before start
unfolding first_bit
before_first (At at) bytes first e = cc
before_first Checksum bytes first e =
    let at : 32 ≡ first = (cond_some (number_of_bits bytes 0 1 == 1) 32 first e).1 in omega arith
before_first Key bytes first e =
    let at : 32 + 32 * number_of_bits bytes 0 1 ≡ first = (cond_some (number_of_bits bytes 2 1 == 1) _ first e).1 in omega arith
before_first Sequence bytes first e =
    let at : 32 + 32 * number_of_bits bytes 0 1 + 32 * number_of_bits bytes 2 1 ≡ first = (cond_some (number_of_bits bytes 3 1 == 1) _ first e).1 in omega arith

pub value_none : (kind : Kind) (field : ℕ) (bytes : List ℕ) (layout : Layout) → slice_get (layouts_of kind) field ≡ Some layout → first_bit layout.start bytes ≡ None → value_of kind field bytes ≡ None
unfolding value_of number_at
value_none kind field bytes layout row first = rw (row, first) refl

pub value_short : (kind : Kind) (field : ℕ) (bytes : List ℕ) (layout : Layout) (at : ℕ) → slice_get (layouts_of kind) field ≡ Some layout → first_bit layout.start bytes ≡ Some at → 8 * length bytes < at + layout.bits → value_of kind field bytes ≡ None
unfolding value_of number_at
value_short kind field bytes layout at row first short =
    let test : nat_le (at + layout.bits) (8 * length bytes) ≡ false = grind (arith, nat_tests) in
    rw (row, first, test) refl

pub value_inside : (kind : Kind) (field : ℕ) (bytes : List ℕ) (layout : Layout) (at : ℕ) → slice_get (layouts_of kind) field ≡ Some layout → first_bit layout.start bytes ≡ Some at → at + layout.bits ≤ 8 * length bytes → value_of kind field bytes ≡ Some (number_of_bits bytes at layout.bits)
unfolding value_of number_at
value_inside kind field bytes layout at row first inside =
    let test : nat_le (at + layout.bits) (8 * length bytes) ≡ true = grind (arith, nat_tests) in
    rw (row, first, test) refl
