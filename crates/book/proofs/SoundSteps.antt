-- The empty book is sound, and every accepted event keeps a sound book sound. So question 5 is never answered no after an
-- accepted opening.
use Rattle.std.specs.Prelude.{◌≡◌, ◌≢◌, ◌≤ℤ◌}
use Rattle.integers.specs.Basics.{ℕ, ◌∙◌, sym, by_cases, true≢false, ListMemᴰ, ListMemᴰ_not_nil, ℤ, pos, neg_ℤ, ℕ_discrete}
use Rattle.integers.specs.Basics.{arith, not-true, signed, negation_parts}
use Rattle.ledger.specs.declared.order.Order.{Order}
use Rattle.ledger.specs.Roster.{Roster}
use Rattle.ledger.specs.Positions.{Way, long, short, instrument, toward, side_to, of_instrument, potential, position}
use Rattle.ledger.proofs.Sums.{open_none}
use Rattle.ledger.proofs.Changes.{idle}
use Rattle.ledger.proofs.Ways.{zero_toward}
use Rattle.ledger.proofs.Linear.{linear}
use Rattle.limits.proofs.LineLaws.{none_some}
use Rattle.book.specs.declared.LimitLine.{LimitLine}
use Rattle.book.specs.declared.Setting.TheVariants.{Limit, Balance}
use Rattle.book.specs.declared.Event.{Event}
use Rattle.book.specs.declared.Event.TheVariants.{Set, New, Change, Junk}
use Rattle.book.specs.Market.{Market}
use Rattle.book.specs.Books.{empty_book, set_line, book_after}
use Rattle.book.specs.States.{State, begun, work}
use Rattle.book.specs.Positions.{potential_of}
use Rattle.book.specs.Table.{figures_fit, not_yet_trading, answer}
use Rattle.book.specs.Sound.{RosterFits, LinesFit, nothing, Sound}
use Rattle.book.proofs.Accepted.{Passed, Accepted, accepted}
use Rattle.book.proofs.Tables.{at_each, between_ℤ_both}
use Rattle.book.proofs.Settings.{by_limit, by_balance}
use Rattle.book.proofs.Potentials.{balance_own}
use Rattle.book.proofs.Decoded.{HasId}
use Rattle.book.proofs.Within.{SetsNoBalance, kept_within}
use Rattle.book.proofs.SoundLines.{set_fits, limit_fits}
use Rattle.book.proofs.SoundOrders.{fits_after, count_after, ids_after, marked_after}

-- ---- the empty book
pub sound_empty : (mk : Market) (r : Roster) → RosterFits r → Sound (begun mk r)
unfolding empty_book of_instrument
sound_empty mk r fits =
    record {
      roster = fits;
      lines = λ a. record { own = λ i l e. none_some l e; default = λ c l e. none_some l e; of_group = λ g l e. none_some l e };
      count = omega arith;
      fits = λ o m. absurd (ListMemᴰ_not_nil m);
      ids = nothing;
      bounded =
          λ a i w. omega (linear, zero_toward w, open_none mk.unit (side_to w) a i);
      marked = λ o m. absurd (ListMemᴰ_not_nil m);
    }

-- ---- an accepted event
toward_fits : (w : Way) (z : ℤ) (largest : ℕ) → neg_ℤ (pos largest) ≤ℤ z → z ≤ℤ pos largest → toward w z ≤ℤ pos largest
toward_fits long z largest low high = high
toward_fits short z largest low high = omega (signed, negation_parts z, negation_parts (pos largest))

module _ (k : State) (sound : Sound k) where
  limit_fits_after : (a c : ℕ) (l : LimitLine) → Passed k (Set (Limit c l))
      → LinesFit k.market.largest ((work k (Set (Limit c l))).book.lines_of a)
  unfolding book_after figures_fit
  limit_fits_after a c l ok =
      at_each c (set_line l (k.book.lines_of c)) k.book.lines_of (LinesFit k.market.largest) a
      (λ _. set_fits k.market.largest l (k.book.lines_of c) ok.figures (sound.lines c)) (λ _. sound.lines a)

  pub lines_after : (e : Event) → Passed k e → (a : ℕ) → LinesFit k.market.largest ((work k e).book.lines_of a)
  unfolding book_after figures_fit
  lines_after (Set x) ok a =
      by_limit (λ s. Passed k (Set s) → LinesFit k.market.largest ((work k (Set s)).book.lines_of a)) x (limit_fits_after a)
      (λ none _. rw none (sound.lines a)) ok
  lines_after (New s c i id n) ok a = sound.lines a
  lines_after (Change id c) ok a = sound.lines a
  lines_after Junk ok a = sound.lines a

  -- where a BALANCE is accepted, the account is not marked and has no open order, so the positions that it leaves are in range
  balance_bounded : (a i : ℕ) (z : ℤ) → Passed k (Set (Balance a i z)) → (j : ℕ) (w : Way)
      → potential_of (work k (Set (Balance a i z))) a (instrument j) w ≤ℤ pos k.market.largest
  unfolding figures_fit not_yet_trading position potential
  balance_bounded a i z ok j w =
      let largest = k.market.largest in
      let free : (o : Order) → ListMemᴰ o k.book.orders → o.account ≢ a =
      (λ o m own. true≢false (sym (sound.marked o m) ∙ (rw (← own) at (not-true (k.beside.trading a) ok.idle)))) in
      rw (balance_own k a (instrument j) w i z free)
      (at_each i z (k.book.balance_of a) (λ x. toward w x ≤ℤ pos k.market.largest) j
      (λ _. let h = between_ℤ_both (neg_ℤ (pos largest)) (pos largest) z ok.figures in
      toward_fits w z largest h.0 h.1)
      (λ _. rw (idle k.market.unit k.roster a k.book.orders (k.book.balance_of a) (instrument j) w free)
      at (sound.bounded a j w)))

  pub bounded_after : (e : Event) → Accepted k e → (a i : ℕ) (w : Way)
      → potential_of (work k e) a (instrument i) w ≤ℤ pos k.market.largest
  unfolding potential
  bounded_after e acc a i w = by e acc
    where
      keep : (e : Event) → Accepted k e → SetsNoBalance a e → potential_of (work k e) a (instrument i) w ≤ℤ pos k.market.largest
      keep e acc free =
          kept_within k a (instrument i) w (pos k.market.largest) e acc free
          (limit_fits k.roster (k.book.lines_of a) k.market.largest (sound.lines a) i w) (sound.bounded a i w)

      by : (e : Event) → Accepted k e → potential_of (work k e) a (instrument i) w ≤ℤ pos k.market.largest
      by (Set x) acc =
          by_balance (λ s. Accepted k (Set s) → potential_of (work k (Set s)) a (instrument i) w ≤ℤ pos k.market.largest) x
          (λ c j z ok. by_cases (ℕ_discrete a c) (λ own. rw own (balance_bounded c j z ok.passed i w))
          (λ other. keep (Set (Balance c j z)) ok (λ e. other cc)))
          (λ none ok. keep (Set x) ok (λ e. none_some a (rw none at e))) acc
      by (New s c j id n) acc = keep (New s c j id n) acc (none_some a)
      by (Change id c) acc = keep (Change id c) acc (none_some a)
      by Junk acc = keep Junk acc (none_some a)

  pub sound_step : (e : Event) → HasId e → answer k e ≡ 0 → Sound (work k e)
  unfolding potential
  sound_step e id-0 zero =
      let acc = accepted k e zero in
      record {
        roster = sound.roster;
        lines = lines_after e acc.passed;
        count = count_after k sound e acc.passed;
        fits = fits_after k sound e acc.passed;
        ids = ids_after k sound e id-0 acc.passed;
        bounded = λ a i w. bounded_after e acc a i w;
        marked = marked_after k sound e acc.passed;
      }
