-- The positions' condition as facts of every account and instrument, on the roster or not, and back.
use Rattle.std.specs.Prelude.{◌≡◌, ◌&&◌, ◌≤ℤ◌}
use Rattle.integers.specs.Basics.{ℕ, ◌∙◌, sym, true, false, true≢false, List, ListMemᴰ, ℤ, pos, signed}
use Rattle.ledger.specs.declared.order.Order.{Order}
use Rattle.ledger.specs.Roster.{Numbered}
use Rattle.ledger.specs.Positions.{Way, long, short, side_to, of_instrument}
use Rattle.ledger.proofs.Ways.{by_test, zero_toward}
use Rattle.ledger.proofs.Sums.{open_nowhere}
use Rattle.limits.proofs.Answers.{both_true, and_true}
use Rattle.book.specs.Decoding.{between}
use Rattle.book.specs.Sound.{OrderFits}
use Rattle.book.proofs.Tables.{between_numbered}
use Rattle.memory_layout.specs.View.{market_of, roster_of, balances_of, open_orders}
use Rattle.memory_soundness.specs.Soundness.{position_sound, instrument_sound, account_sound, positions_sound}
use Rattle.memory_layout.proofs.RosterLaws.{numbered_between}
use Rattle.memory_layout.proofs.Every.{every_out, every_in}

-- the position of account a and instrument i on a side
abbrev pub position_of : List ℕ → ℕ → ℕ → Way → ℤ
position_of m a i w = of_instrument (market_of m).unit (open_orders m) a (balances_of m a) i w

module _ (m : List ℕ) where
  on_roster_lem : positions_sound m ≡ true → (a i : ℕ) → Numbered (roster_of m).accounts a → Numbered (roster_of m).instruments i
      → (w : Way)
      → position_of m a i w ≤ℤ pos (market_of m).largest
  unfolding positions_sound account_sound instrument_sound position_sound
  on_roster_lem e a i h l w =
      by w
      (both_true (position_sound m a i long) (position_sound m a i short)
      (every_out (instrument_sound m a) (roster_of m).instruments (every_out (account_sound m) (roster_of m).accounts e a h) i l))
    where
      by : (w : Way) → (position_sound m a i long ≡ true) × (position_sound m a i short ≡ true) → position_of m a i w ≤ℤ pos
          (market_of m).largest
      by long both = let h = both.0 in omega signed
      by short both = let h = both.1 in omega signed

  -- elsewhere there is no balance and no order
  off_roster : ((o : Order) → ListMemᴰ o (open_orders m) → OrderFits (roster_of m) o) → (a i : ℕ)
      → (between 1 (roster_of m).accounts a && between 1 (roster_of m).instruments i) ≡ false → (w : Way) → position_of m a i w ≡ pos 0
  unfolding of_instrument balances_of
  off_roster fits a i e w =
      rw (
        e,
        zero_toward w,
        open_nowhere (market_of m).unit (side_to w) a i (open_orders m)
            (λ o k s. true≢false (sym (rw (s.1, s.2) at (here o (fits o k))) ∙ e)),
      )
    where
      here : (o : Order) → OrderFits (roster_of m) o
          → (between 1 (roster_of m).accounts o.account && between 1 (roster_of m).instruments o.instrument) ≡ true
      here o f =
          and_true (between 1 (roster_of m).accounts o.account) (between 1 (roster_of m).instruments o.instrument)
          (numbered_between (roster_of m).accounts o.account f.account)
          (numbered_between (roster_of m).instruments o.instrument f.instrument)

  pub positions_out : positions_sound m ≡ true → ((o : Order) → ListMemᴰ o (open_orders m) → OrderFits (roster_of m) o)
      → (a i : ℕ) (w : Way)
      → position_of m a i w ≤ℤ pos (market_of m).largest
  positions_out e fits a i w =
      by_test (between 1 (roster_of m).accounts a && between 1 (roster_of m).instruments i)
      (λ d. let both = both_true (between 1 (roster_of m).accounts a) (between 1 (roster_of m).instruments i) d in
      on_roster_lem e a i (between_numbered (roster_of m).accounts a both.0) (between_numbered (roster_of m).instruments i both.1) w)
      (λ d. rw (off_roster fits a i d w) (omega signed))

  pub positions_in : ((a i : ℕ) (w : Way) → position_of m a i w ≤ℤ pos (market_of m).largest) → positions_sound m ≡ true
  unfolding positions_sound account_sound instrument_sound position_sound
  positions_in h =
      every_in (account_sound m) (roster_of m).accounts
      (λ a _. every_in (instrument_sound m a) (roster_of m).instruments
      (λ i _. and_true (position_sound m a i long) (position_sound m a i short) (let k = h a i long in omega signed)
      (let k = h a i short in omega signed)))
