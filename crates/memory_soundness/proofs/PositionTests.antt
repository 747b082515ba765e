-- S + B and −S + V of an account and instrument by the gathered cells, as the code asks them of a balance that may be any word.
use Rattle.std.specs.Prelude.{◌+◌, ◌≤◌, ◌≡◌, ◌&&◌, ◌+ℤ◌, ◌-ℤ◌}
use Rattle.integers.specs.Basics.{ℕ, ap, true, List, ℤ, pos, neg_ℤ, nat_abs, le_z, get_or, arith, signed}
use Rattle.integers.specs.Basics.{magnitude_parts, negation_parts, sum_parts, difference_parts}
use Rattle.std.specs.Ordering.{int_cmp, is_le}
use Rattle.ledger.specs.declared.order.Side.{Side}
use Rattle.ledger.specs.declared.order.Side.TheVariants.{Buy, Sell}
use Rattle.ledger.specs.Roster.{Numbered}
use Rattle.ledger.specs.Positions.{Way, long, short, toward, side_to, open_on, of_instrument}
use Rattle.ledger.specs.Derivatives.{one}
use Rattle.positions.specs.Gathered.{cell}
use Rattle.limits.proofs.Answers.{and_true}
use Rattle.limits.proofs.Compared.{le_test}
use Rattle.memory_layout.proofs.MarketRead.{market_unit}
use Rattle.memory_layout.specs.Rosters.{every}
use Rattle.memory_layout.specs.View.{market_of, roster_of, balances_of, open_orders}
use Rattle.memory_soundness.specs.Soundness.{orders_sound, position_sound, instrument_sound, account_sound, positions_sound}
use Rattle.memory_layout.specs.Readable.{Readable}
use Rattle.memory_layout.specs.Stores.{Records}
use Rattle.memory_layout.proofs.FieldsRead.{balance_in}
use Rattle.memory_soundness.specs.Cells.{row, SmallBalances, SmallSums}
use Rattle.memory_soundness.proofs.Asked.{same_test}
use Rattle.memory_soundness.proofs.OrdersTested.{orders_few}
use Rattle.memory_layout.proofs.Every.{every_in}

-- ---- positions
-- the two tests of the code, beside any s
long_same : (largest : ℕ) (s : ℤ) (b : ℕ) → le_z s (pos largest -ℤ pos b) ≡ le_z (s +ℤ pos b) (pos largest)
long_same largest s b =
    let parts = difference_parts (pos largest) (pos b) in
    same_test (le_z s (pos largest -ℤ pos b)) (le_z (s +ℤ pos b) (pos largest))
    (λ e. omega (signed, parts, sum_parts s (pos b)))
    (λ e. omega (signed, parts, sum_parts s (pos b)))

short_same : (largest : ℕ) (s : ℤ) (v : ℕ) → le_z (pos v -ℤ pos largest) s ≡ le_z (neg_ℤ s +ℤ pos v) (pos largest)
short_same largest s v =
    let parts = difference_parts (pos v) (pos largest) in
    same_test (le_z (pos v -ℤ pos largest) s) (le_z (neg_ℤ s +ℤ pos v) (pos largest))
    (λ e. omega (signed, parts, sum_parts (neg_ℤ s) (pos v), negation_parts s))
    (λ e. omega (signed, parts, sum_parts (neg_ℤ s) (pos v), negation_parts s))

-- ---- small balances
-- beside any s of size 536,870,912 or less
small_within : (largest : ℕ) (w : Way) (s x : ℤ) → 1000000000 ≤ largest → nat_abs s ≤ 536870912 → nat_abs x ≤ 256000000 →
    le_z (toward w s +ℤ x) (pos largest) ≡ true
small_within largest long s x wide h l = omega (signed, magnitude_parts s, magnitude_parts x, sum_parts s x)
small_within largest short s x wide h l =
    omega (signed, magnitude_parts s, magnitude_parts x, negation_parts s, sum_parts (neg_ℤ s) x)

-- B and V of account a are at most 256,000,000
abbrev pub FewOpen : List ℕ → ℕ → Type 0
FewOpen m a = (s : Side) (i : ℕ) → Numbered 32 i → nat_abs (open_on one (open_orders m) s a i) ≤ 256000000

-- the row of account a, all of it small
pub row_small : (m : List ℕ) (a : ℕ) → Readable m → FewOpen m a → Numbered (roster_of m).accounts a →
    SmallBalances m (market_of m).largest a → every (roster_of m).instruments (instrument_sound m a) ≡ true
unfolding instrument_sound position_sound of_instrument
row_small m a readable few h small =
    every_in (instrument_sound m a) (roster_of m).instruments
    (λ i l. and_true (position_sound m a i long) (position_sound m a i short) (within i l long) (within i l short))
  where
    within : (i : ℕ) → Numbered (roster_of m).instruments i → (w : Way) → position_sound m a i w ≡ true
    within i l w =
        let balance = rw (balance_in m a h readable i l) at (small.small i (omega arith) (omega (arith, readable.instruments))) in
        rw (market_unit m)
        (small_within (market_of m).largest w (balances_of m a i) (open_on one (open_orders m) (side_to w) a i) small.wide balance
        (few (side_to w) i (l.0, omega (arith, readable.instruments))))

-- ---- by the cells
module _ (m cells : List ℕ) (a i : ℕ) (readable : Readable m) (gathered : SmallSums cells (open_orders m))
    (h : Numbered (roster_of m).accounts a) (l : Numbered (roster_of m).instruments i) where
  pub cell_small : (s : Side) → get_or cells (row a + cell s i) 0 ≤ 256000000
  cell_small s = gathered.small s a i (h.0, omega (arith, readable.accounts)) (l.0, omega (arith, readable.instruments))

  position_cell : (w : Way) → position_sound m a i w ≡ le_z
      (toward w (balances_of m a i) +ℤ pos (get_or cells (row a + cell (side_to w) i) 0)) (pos (market_of m).largest)
  unfolding position_sound of_instrument
  position_cell w =
      rw (
        market_unit m,
        (gathered.sums.accounts a (h.0, omega (arith, readable.accounts))).sums (side_to w) i
            (l.0, omega (arith, readable.instruments)),
      )

  -- s is the balance, b and v what the two cells hold, most the market's largest figure
  pub instrument_tested : (s b v most : ℤ) → s ≡ balances_of m a i → b ≡ pos (get_or cells (row a + cell Buy i) 0) →
      v ≡ pos (get_or cells (row a + cell Sell i) 0) → most ≡ pos (market_of m).largest →
      (is_le (int_cmp s (most +ℤ neg_ℤ b)) && is_le (int_cmp (v +ℤ neg_ℤ most) s)) ≡ instrument_sound m a i
  unfolding instrument_sound
  instrument_tested s b v most read buys sells figure =
      let x = get_or cells (row a + cell Buy i) 0 in
      let y = get_or cells (row a + cell Sell i) 0 in
      rw (
        le_test s (most +ℤ neg_ℤ b),
        le_test (v +ℤ neg_ℤ most) s,
        position_cell long,
        position_cell short,
        ← read,
        buys,
        sells,
        figure,
        ← long_same (market_of m).largest s x,
        ← short_same
            (market_of m).largest s y,
      )

-- B and V are small where the cells are
pub cells_few : (m cells : List ℕ) (a : ℕ) → SmallSums cells (open_orders m) → Numbered 16 a → FewOpen m a
cells_few m cells a gathered h s i l =
    omega (arith, ap nat_abs ((gathered.sums.accounts a h).sums s i l), gathered.small s a i h l)

-- ---- where balances are small, positions are sound
pub small_account : (m cells : List ℕ) (a : ℕ) → Readable m → SmallSums cells (open_orders m) → Numbered (roster_of m).accounts a →
    SmallBalances m (market_of m).largest a → account_sound m a ≡ true
unfolding account_sound
small_account m cells a readable gathered on small =
    row_small m a readable (cells_few m cells a gathered (on.0, omega (arith, on.1, readable.accounts))) on small

pub small_positions : (m : List ℕ) → Readable m → Records m → orders_sound m ≡ true →
    ((a : ℕ) → Numbered (roster_of m).accounts a → SmallBalances m (market_of m).largest a) → positions_sound m ≡ true
unfolding positions_sound account_sound
small_positions m readable held sound small =
    every_in _ _ (λ a on. row_small m a readable (λ s i l. orders_few m held.count sound s a i) on (small a on))
