-- What a memory that holds a sound desk gives to the functions over its parts: the records are there, and no number is too large.
use Rattle.std.specs.Prelude.{◌≤◌, ◌<◌}
use Rattle.integers.specs.Basics.{ℕ, ap, List, neg_ℤ, nat_abs, arith, signed, magnitude_parts, negation_parts}
use Rattle.integers.specs.Basics.{sum_parts}
use Rattle.words.specs.Words.{word_at}
use Rattle.ledger.specs.declared.order.Order.{Order}
use Rattle.ledger.specs.declared.order.Side.{Side}
use Rattle.ledger.specs.declared.order.Side.TheVariants.{Buy, Sell}
use Rattle.ledger.specs.Orders.{remaining}
use Rattle.ledger.specs.Roster.{Numbered}
use Rattle.ledger.specs.Positions.{long, short, open_on, of_instrument}
use Rattle.ledger.specs.Records.{Storable, order_at, orders_from, roster_in}
use Rattle.positions.specs.Bounds.{InstrumentBounds, GatherBounds, BalanceBounds, RosterBounds, GroupBounds}
use Rattle.ledger.specs.Derivatives.{one}
use Rattle.positions.proofs.Counting.{small_orders}
use Rattle.ledger.proofs.Sums.{open_nonneg}
use Rattle.memory_layout.proofs.MarketRead.{market_most}
use Rattle.memory_layout.specs.Layout.{count_word}
use Rattle.memory_layout.specs.View.{market_of, roster_part, roster_of, balances_part, balances_of, records_of, open_orders, book_of, trading_of}
use Rattle.memory_layout.specs.Readable.{Readable}
use Rattle.memory_layout.proofs.RosterRead.{roster_long, instruments_same, contract_same, weight_same}
use Rattle.memory_layout.proofs.FieldsRead.{balances_long, balance_in}
use Rattle.memory_soundness.specs.SoundMemory.{SoundMemory}
use Rattle.memory_soundness.proofs.Records.{remaining_small}
use Rattle.memory_soundness.proofs.SoundDesk.{all_fit, sound_count}

module _ (m : List ℕ) (h : SoundMemory m) where
  pub sound_readable : Readable m
  sound_readable =
      let f = h.book.roster in
      record {
        long = h.long;
        accounts = f.accounts.1;
        groups = f.groups.1;
        contracts = f.contracts.1;
        instruments =
            f.instruments.1;
      }

  -- ---- the roster
  pub roster_bounds : RosterBounds (roster_part m) (roster_in (roster_part m))
  roster_bounds =
      let f = h.book.roster in
      record {
        long = omega (arith, roster_long m h.long);
        instruments = omega (arith, instruments_same m, f.instruments.1);
        contract =
            λ i l. let on = rw (instruments_same m) at l in let k = rw (contract_same m i on) at (f.contract_of i on) in
            (k.0, omega (arith, k.1, f.contracts.1));
        weight = λ i l. let on = rw (instruments_same m) at l in rw (weight_same m i on) at (f.weight i on);
      }

  -- ---- the open orders
  pub order_small : (p : ℕ) → p < word_at m count_word → remaining (order_at (records_of m) p) ≤ 1000000
  order_small p l =
      remaining_small (roster_of m) (trading_of m) (order_at (records_of m) p) (all_fit m h p l)

  -- a record can hold an order in range
  pub storable : (o : Order) → Numbered (roster_of m).accounts o.account → Numbered (roster_of m).instruments o.instrument
      → o.filled ≤ o.total → o.total ≤ 1000000 → Storable o
  unfolding remaining
  storable o a i part small =
      let bounds = sound_readable in
      record {
        packable = ((a.0, omega arith), (i.0, omega arith));
        part = part;
        filled = omega arith;
        remaining = omega arith;
      }

  -- B and V
  pub open_small : (s : Side) (a i : ℕ) → nat_abs (open_on one (orders_from (records_of m) 0 (word_at m count_word)) s a i) ≤ 256000000
  open_small s a i =
      omega (arith, sound_count m h, small_orders (records_of m) (word_at m count_word) 1000000 order_small s a i)

  pub unfilled_small : (s : Side) (a i : ℕ) → nat_abs (open_on one (open_orders m) s a i) ≤ 256000000
  unfolding open_orders
  unfilled_small s a i = open_small s a i

  -- ---- the balances
  pub balance_small : (a i : ℕ) → nat_abs (balances_of m a i) ≤ 1000000000
  unfolding book_of of_instrument
  balance_small a i =
      let unit = (market_of m).unit in
      let z = balances_of m a i in
      let bought = open_on unit (open_orders m) Buy a i in
      let sold = open_on unit (open_orders m) Sell a i in
      omega (
        signed,
        market_most m,
        h.book.bounded a i long,
        h.book.bounded a i short,
        open_nonneg unit Buy a i (open_orders m),
        open_nonneg unit Sell a i (open_orders m),
        sum_parts z bought,
        sum_parts (neg_ℤ z) sold,
        negation_parts z,
        magnitude_parts z,
      )

  module _ (a : ℕ) (on : Numbered (roster_of m).accounts a) where
    pub instrument_bounds : (i : ℕ) → Numbered (roster_of m).instruments i
        → InstrumentBounds (open_orders m) (balances_part m a) a i
    instrument_bounds i l =
        record {
          balances_long = omega (arith, balances_long m a on sound_readable, sound_readable.instruments);
          small = λ s. omega (arith, unfilled_small s a i, ap nat_abs (balance_in m a on sound_readable i l), balance_small a i);
        }

    pub gather_bounds : GatherBounds (open_orders m) a
    gather_bounds =
        record {
          account = (on.0, omega (arith, on.1, sound_readable.accounts));
          unfilled = λ s i. omega (arith, unfilled_small s a i);
        }

    balance_bounds : BalanceBounds (balances_part m a) (roster_in (roster_part m)).instruments
    balance_bounds =
        record {
          long = omega (arith, balances_long m a on sound_readable);
          balance = λ i l. omega (arith, ap nat_abs (balance_in m a on sound_readable i (rw (instruments_same m) at l)), balance_small a i);
        }

    pub group_bounds : GroupBounds (open_orders m) (balances_part m a) (roster_part m) a
    group_bounds = record { orders_small = gather_bounds; balances_small = balance_bounds; roster_small = roster_bounds }
