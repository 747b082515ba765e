-- Laws of an order's detail: what goes in is read back, and every number is the detail of what is read from it.
use Rattle.std.specs.Prelude.{◌+◌, ◌*◌, ◌-◌, ◌/◌, ◌%◌, ◌^◌, ◌<◌, ◌≡◌}
use Rattle.integers.specs.Basics.{ℕ, by_cases, ℕ_discrete, arith, eq-eqb, ne_eqb}
use native.Mathlib.Nat.{div-div-eq-div-mul}
use Rattle.ledger.specs.declared.order.Order.{Order}
use Rattle.ledger.specs.declared.order.Side.{Side}
use Rattle.ledger.specs.declared.order.Side.TheVariants.{Buy, Sell}
use Rattle.ledger.specs.Orders.{remaining}
use Rattle.ledger.specs.Records.{packed, Packable, packed_side, packed_account, packed_instrument, detail, detail_filled, detail_remaining}
use Rattle.ledger.specs.Records.{Storable, order_of}

-- ---- side, account and instrument
pub packed_again : (w : ℕ) → packed (packed_side w) (packed_account w) (packed_instrument w) ≡ w % 1024
unfolding packed_side packed
packed_again w =
    by_cases (ℕ_discrete (w / 32 % 2) 0) (λ buy. rw (eq-eqb (w / 32 % 2) 0 buy) (omega (arith, div-div-eq-div-mul w 64 16)))
    (λ sell. rw (ne_eqb (w / 32 % 2) 0 sell) (omega (arith, sell, div-div-eq-div-mul w 64 16)))

pub packed_below : (a i : ℕ) → Packable a i → (s : Side) → packed s a i < 1024
unfolding packed
packed_below a i fits Buy = omega arith
packed_below a i fits Sell = omega arith

-- they are read back, whatever stands in the bits above
module _ (a i : ℕ) (fits : Packable a i) (x : ℕ) where
  account_back : (s : Side) → packed_account (packed s a i + x * 1024) ≡ a
  unfolding packed
  account_back Buy = omega arith
  account_back Sell = omega arith

  instrument_back : (s : Side) → packed_instrument (packed s a i + x * 1024) ≡ i
  unfolding packed
  instrument_back Buy = omega arith
  instrument_back Sell = omega arith

  side_back : (s : Side) → packed_side (packed s a i + x * 1024) ≡ s
  unfolding packed_side packed
  side_back Buy = simp (eq-eqb (((a - 1) * 64 + (i - 1) + x * 1024) / 32 % 2) 0 (omega arith))
  side_back Sell = simp (ne_eqb (((a - 1) * 64 + 32 + (i - 1) + x * 1024) / 32 % 2) 0 (λ e. omega arith))

-- ---- the detail
-- every number is the detail of the order that it says
pub detail_again : (id w : ℕ) → detail (order_of id w) ≡ w
unfolding detail order_of remaining
detail_again id w = omega (arith, packed_again w)

-- a word says an order that can be stored
pub word_storable : (id w : ℕ) → w < 2 ^ 64 → Storable (order_of id w)
unfolding order_of remaining
word_storable id w h =
    record {
      packable = ((omega arith, omega arith), (omega arith, omega arith));
      part = omega arith;
      filled = omega arith;
      remaining = omega arith;
    }

-- the detail of an order that can be stored is a word, and says the order
module _ (o : Order) (fits : Storable o) where
  abbrev low : ℕ
  low = packed o.side o.account o.instrument

  above : ℕ
  above = o.filled + remaining o * 134217728

  low_below : low < 1024
  low_below = packed_below o.account o.instrument fits.packable o.side

  pub detail_below : detail o < 2 ^ 64
  unfolding detail
  detail_below = omega (arith, low_below, fits.filled, fits.remaining)

  numbers_back : (detail_filled (detail o) ≡ o.filled) × (detail_filled (detail o) + detail_remaining (detail o) ≡ o.total)
  unfolding detail remaining
  numbers_back = omega (arith, low_below, fits.filled, fits.part)

  pub detail_back : order_of o.id (detail o) ≡ o
  unfolding order_of detail above
  detail_back =
      let parted : detail o ≡ low + above * 1024 = omega arith in
      let a = o.account in
      let i = o.instrument in
      rw (
        numbers_back.1,
        numbers_back.0,
        parted,
        account_back a i fits.packable above o.side,
        instrument_back a i fits.packable above o.side,
        side_back a i fits.packable above o.side,
      )
