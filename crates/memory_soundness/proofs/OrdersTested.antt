-- The orders' conditions by what the passes over them tell.
use Rattle.std.specs.Prelude.{◌≤◌, ◌<◌, ◌≡◌, ◌&&◌}
use Rattle.integers.specs.Basics.{ℕ, ap, Bool, true, List, nat_abs, arith}
use Rattle.std.specs.Bool.{Decides, one_answer}
use Rattle.words.specs.Words.{word_at}
use Rattle.ledger.specs.declared.order.Side.{Side}
use Rattle.ledger.specs.Derivatives.{one}
use Rattle.ledger.specs.Orders.{remaining}
use Rattle.ledger.specs.Positions.{open_on}
use Rattle.ledger.specs.Records.{order_at}
use Rattle.positions.proofs.Counting.{small_orders}
use Rattle.limits.proofs.Answers.{both_true, and_true}
use Rattle.memory_layout.specs.Layout.{count_word}
use Rattle.memory_layout.specs.View.{roster_of, trading_of, records_of, open_orders}
use Rattle.memory_soundness.specs.Soundness.{ascend, orders_sound}
use Rattle.memory_soundness.specs.Cells.{AllSums, SmallSums}
use Rattle.memory_soundness.specs.Each.{Each, InOrder, TotalFits, Marked}
use Rattle.memory_soundness.proofs.Records.{Fit, remaining_small}
use Rattle.memory_soundness.proofs.OrderFacts.{records_out, records_in_lem}

module _ (m : List ℕ) where
  -- what the pass tells, that every total is in range, and that every order is marked
  abbrev pub OrdersFit : Type 0
  OrdersFit = InOrder m × Each m TotalFits × Each m (Marked m)

  out : (ascend 0 (open_orders m) && orders_sound m) ≡ true → OrdersFit
  unfolding orders_sound
  out e =
      let both = both_true (ascend 0 (open_orders m)) (orders_sound m) e in
      let fit : (p : ℕ) → p < word_at m count_word → Fit (roster_of m) (trading_of m) (order_at (records_of m) p) =
      λ p l. records_out (records_of m) (roster_of m) (trading_of m) 0 (word_at m count_word) both.1 p (omega arith) (omega arith) in (
        (both.0, λ p l. (fit p l).remains),
        (λ p l. (fit p l).total.1),
        (λ p l. let f = fit p l in record { account = f.account; instrument = f.instrument; marked = f.marked }),
      )

  into : OrdersFit → (ascend 0 (open_orders m) && orders_sound m) ≡ true
  unfolding orders_sound remaining
  into h =
      and_true (ascend 0 (open_orders m)) (orders_sound m) h.0.0
      (records_in_lem (records_of m) (roster_of m) (trading_of m) 0 (word_at m count_word)
      (λ q a b. let l : q < word_at m count_word = omega arith in let k = h.2 q l in
      record {
        account = k.account;
        instrument = k.instrument;
        total = (omega (arith, h.0.1 q l), h.1 q l);
        remains = h.0.1 q l;
        marked = k.marked;
      }))

  -- what the answers of the passes make together
  pub orders_told : (t : Bool) → Decides t OrdersFit → t ≡ (ascend 0 (open_orders m) && orders_sound m)
  orders_told t h = one_answer t (ascend 0 (open_orders m) && orders_sound m) h (out, into)

  -- B and V are small, and so are the cells that hold them
  pub orders_few : word_at m count_word ≤ 256 → orders_sound m ≡ true → (s : Side) (a i : ℕ) →
      nat_abs (open_on one (open_orders m) s a i) ≤ 256000000
  unfolding open_orders orders_sound
  orders_few few e s a i =
      omega (
        arith,
        few,
        small_orders (records_of m) (word_at m count_word) 1000000 (λ p k. remaining_small (roster_of m) (trading_of m) _
            (records_out (records_of m) (roster_of m) (trading_of m) 0 (word_at m count_word) e p (omega arith) (omega arith))) s a i,
      )

  pub gathered_small : (cells : List ℕ) → word_at m count_word ≤ 256 → orders_sound m ≡ true → AllSums cells (open_orders m) →
      SmallSums cells (open_orders m)
  gathered_small cells few e sums =
      record {
        sums = sums;
        small = λ s a i h l. omega (arith, orders_few few e s a i, ap nat_abs ((sums.accounts a h).sums s i l));
      }
