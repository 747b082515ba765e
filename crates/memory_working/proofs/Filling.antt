-- What is filled moves the balance of the order's account and instrument, and the numbers that the code adds fit.
use Rattle.std.specs.Prelude.{◌+◌, ◌*◌, ◌≤◌, ◌≡◌, ◌+ℤ◌}
use Rattle.integers.specs.Basics.{ℕ, refl, ◌∙◌, sym, ap, List, ℤ, pos, neg_ℤ, nat_abs, w64, SFits, to_z, of_z}
use Rattle.integers.specs.Basics.{to_z-of_z, arith}
use Rattle.integers.specs.Magnitude.{sized, magnitude_sum, magnitude_negation}
use Rattle.ledger.specs.declared.order.Side.{Side}
use Rattle.ledger.specs.declared.order.Side.TheVariants.{Buy, Sell}
use Rattle.ledger.specs.declared.order.Order.{Order}
use Rattle.ledger.specs.Records.{order_of, packed_side, packed_account, packed_instrument}
use Rattle.ledger.specs.Roster.{Numbered}
use Rattle.ledger.specs.Positions.{toward, way_of}
use Rattle.ledger.specs.Fillings.{fill_moves}
use Rattle.ledger.specs.Derivatives.{one}
use Rattle.ledger.proofs.Amounts.{fill_here}
use Rattle.book.specs.declared.OrderChange.{OrderChange}
use Rattle.book.specs.declared.Event.TheVariants.{Change}
use Rattle.book.specs.Market.{market_of_kind}
use Rattle.book.specs.Books.{order_after, filled_in}
use Rattle.book.proofs.OrderChanges.{after_filled}
use Rattle.memory_layout.specs.View.{market_of, roster_of, balances_of}
use Rattle.memory_layout.specs.FieldStores.{store_balance}
use Rattle.memory_soundness.proofs.Bounded.{balance_small}
use Rattle.memory_working.specs.Working.{Ready, records_changed, worked}
use Rattle.memory_working.proofs.Changing.{change_facts, after_in, changed_memory}

-- the balance after a fill fits a word
moved_fits : (s : Side) (b n z : ℤ) → nat_abs b ≤ 1000000000 → nat_abs n ≤ 1000000 → z ≡ b +ℤ toward (way_of s) n → SFits w64 z
moved_fits Buy b n z h l e = omega (sized, ap nat_abs e, magnitude_sum b n)
moved_fits Sell b n z h l e = omega (sized, ap nat_abs e, magnitude_negation n, magnitude_sum b (neg_ℤ n))

-- one contract counts for 1
pub fill_one : (m : List ℕ) (o : Order) (n : ℕ) → fill_moves (market_of m).unit o.account o.instrument o n ≡ toward (way_of o.side)
    (pos n)
unfolding market_of_kind one
fill_one m o n =
    let e : 1 * n ≡ n = omega arith in
    rw e at (fill_here one o.account o.instrument o n refl refl)

module _ {m : List ℕ} {id w p : ℕ} {c : OrderChange} (ready : Ready m (Change id c) p w) where
  abbrev o : Order
  o = order_of id w

  pub filled_small : filled_in c ≤ 1000000
  filled_small = omega (arith, after_in ready, after_filled c o)

  -- n contracts were filled before, and n' are after it
  pub more_filled : {n n' : ℕ} {after : Order} → n ≡ o.filled → after ≡ order_after c o → n' ≡ after.filled → n' ≡ n + filled_in c
  more_filled before made now = rw (now, made, before) (after_filled c o)

  -- the order's account and instrument, as its detail has them
  module _ {a i : ℕ} (account : a ≡ packed_account w) (instrument : i ≡ packed_instrument w) where
    pub both_on_roster : Numbered (roster_of m).accounts a × Numbered (roster_of m).instruments i
    unfolding order_of
    both_on_roster =
        let fits = (change_facts ready).0 in
        (rw account fits.account, rw instrument fits.instrument)

    -- s is the balance that was read
    module _ {s : ℤ} (fits_s : SFits w64 s) (read : s ≡ balances_of m a i) where
      same_balance : to_z w64 (of_z w64 s) ≡ balances_of m a i
      same_balance = to_z-of_z w64 s fits_s ∙ read

      pub read_small : nat_abs (to_z w64 (of_z w64 s)) ≤ 1000000000
      read_small = rw same_balance (balance_small m ready.held a i)

      pub change_worked : {side : Side} {n z : ℤ} {l x : List ℕ} → l ≡ records_changed m id c o → side ≡ packed_side w
          → n ≡ pos (filled_in c) → z ≡ to_z w64 (of_z w64 s) +ℤ toward (way_of side) n
          → x ≡ store_balance l a i (to_z w64 (of_z w64 z)) → x ≡ worked m (Change id c)
      unfolding order_of
      change_worked {side} {n} {z} stored on more after put =
          let small : nat_abs n ≤ 1000000 = rw more filled_small in
          let fits_z = moved_fits side (to_z w64 (of_z w64 s)) n z read_small small after in
          let moved : to_z w64 (of_z w64 z) ≡ balances_of m a i +ℤ fill_moves (market_of m).unit a i o (filled_in c) =
          to_z-of_z w64 z fits_z ∙ after ∙ rw (same_balance, more, on, account, instrument, fill_one m o (filled_in c)) refl in
          put ∙ rw (stored, moved, account, instrument) (sym (changed_memory ready))
