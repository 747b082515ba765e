-- What the order of an id and a detail says, and details joined bit by bit: each figure is at most that of the whole.
use Rattle.std.specs.Prelude.{◌+◌, ◌*◌, ◌-◌, ◌/◌, ◌%◌, ◌^◌, ◌≤◌, ◌<◌, ◌≡◌}
use Rattle.integers.specs.Basics.{ℕ, refl, ◌∙◌, ap, Bool, true, false, cond, List, eqb}
use Rattle.integers.specs.Basics.{ℕ_discrete, arith, eq-eqb, ne_eqb}
use native.Mathlib.Nat.{div-div-eq-div-mul}
use lib.Bits.{bit_or, or_comm, or_shr, or_mod}
use Rattle.words.proofs.Bits.{or_left}
use Rattle.ledger.specs.declared.order.Order.{Order}
use Rattle.ledger.specs.Orders.{remaining}
use Rattle.ledger.specs.Roster.{Numbered}
use Rattle.ledger.specs.Records.{packed, packed_side, packed_account, packed_instrument, Packable, detail, detail_packed, detail_filled}
use Rattle.ledger.specs.Records.{detail_remaining, Within, order_of, id_at, detail_at, order_at}
use Rattle.ledger.proofs.Packing.{packed_again, detail_back}

-- ---- the order of an id and a detail
module _ (id w : ℕ) where
  pub id_of : (order_of id w).id ≡ id
  unfolding order_of
  id_of = refl

  pub remaining_of : remaining (order_of id w) ≡ detail_remaining w
  unfolding remaining order_of
  remaining_of = omega arith

  pub packed_of : packed (order_of id w).side (order_of id w).account (order_of id w).instrument ≡ detail_packed w
  unfolding order_of
  packed_of = packed_again w

  -- its account and its instrument are numbers that can be packed
  pub packable_of : Packable (order_of id w).account (order_of id w).instrument
  unfolding order_of
  packable_of = ((omega arith, omega arith), (omega arith, omega arith))

pub remaining_below : (w : ℕ) → w < 2 ^ 64 → detail_remaining w < 134217728
remaining_below w h = omega arith

-- ---- what remains where the account is a, else 0, by a product with 1 or 0
module _ (w a : ℕ) (on : Numbered 16 a) (r : ℕ) where
  abbrev part : ℕ
  part = r * (((w / 64 + (16 - a)) % 16 + 1) / 16)

  pub part_is : part ≡ cond (eqb (packed_account w) a) r 0
  part_is = by (ℕ_discrete (packed_account w) a)
    where
      by : Dec (packed_account w ≡ a) → part ≡ cond (eqb (packed_account w) a) r 0
      by (yes own) =
          let once : ((w / 64 + (16 - a)) % 16 + 1) / 16 ≡ 1 = omega arith in
          rw (eq-eqb (packed_account w) a own, once) (omega arith)
      by (no other) =
          let none : ((w / 64 + (16 - a)) % 16 + 1) / 16 ≡ 0 = omega (arith, other) in
          rw (ne_eqb (packed_account w) a other, none) (omega arith)

  pub part_small : part ≤ r
  part_small = rw part_is (by (eqb (packed_account w) a))
    where
      by : (t : Bool) → cond t r 0 ≤ r
      by true = omega arith
      by false = omega arith

-- the bits below what remains
pub below_remaining : (w : ℕ) → w % 137438953472 ≡ w % 1024 + detail_filled w * 1024
below_remaining w = omega (arith, div-div-eq-div-mul w 1024 134217728)

-- the order that a word says, at another total t and with f filled, and the word that says it
abbrev at : ℕ → ℕ → ℕ → ℕ → Order
at id w t f =
    record { id = id; account = packed_account w; instrument = packed_instrument w; side = packed_side w; total = t; filled = f }

pub moved : (id w v f t : ℕ) → f ≤ t → f < 134217728 → t - f < 134217728 → v ≡ w % 1024 + f * 1024 + (t - f) * 137438953472
    → order_of id v ≡ at id w t f
unfolding order_of detail remaining
moved id w v f t part filled rest is =
    rw (is, ← packed_again w)
    (detail_back (at id w t f) (record { packable = packable_of id w; part = part; filled = filled; remaining = rest }))

-- ---- a record
module _ (s : List ℕ) (p : ℕ) where
  pub order_of_lem : order_at s p ≡ order_of (id_at s p) (detail_at s p)
  unfolding order_at
  order_of_lem = refl

  pub id_at_lem : (order_at s p).id ≡ id_at s p
  id_at_lem = ap (λ (o : Order). o.id) order_of_lem ∙ id_of (id_at s p) (detail_at s p)

-- ---- details joined
module _ (all w : ℕ) where
  pub joined_before : (o : Order) → Within all o → Within (bit_or all w) o
  joined_before o h =
      record {
        account = rw (or_shr all w 6, or_mod (all / 64) (w / 64) 4) (omega (arith, h.account, or_left (all / 64 % 16) (w / 64 % 16)));
        instrument = rw (or_mod all w 5) (omega (arith, h.instrument, or_left (all % 32) (w % 32)));
        filled =
            rw (or_shr all w 10, or_mod (all / 1024) (w / 1024) 27)
            (omega (arith, h.filled, or_left (detail_filled all) (detail_filled w)));
        remaining = rw (or_shr all w 37) (omega (arith, h.remaining, or_left (detail_remaining all) (detail_remaining w)));
      }

-- an order is within its own detail
within_own : (id w : ℕ) → Within w (order_of id w)
unfolding remaining order_of
within_own id w = record { account = omega arith; instrument = omega arith; filled = omega arith; remaining = omega arith }

pub joined_here : (all id w : ℕ) → Within (bit_or all w) (order_of id w)
joined_here all id w = rw (or_comm all w) (joined_before w all (order_of id w) (within_own id w))

pub within_total : (all : ℕ) (o : Order) → Within all o → o.total ≤ detail_filled all + detail_remaining all
unfolding remaining
within_total all o h = omega (arith, h.filled, h.remaining)
