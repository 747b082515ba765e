-- Document 01's listing judged by demand 3: its fifth event is refused exactly as it says, and its fourth is kept to the end.
use Rattle.std.specs.Prelude.{◌≤◌}
use Rattle.integers.specs.Basics.{ℕ, refl, inl, inr, List, [], pos, nat_abs, get_or, take, drop, arith}
use Rattle.ledger.specs.declared.order.Side.TheVariants.{Buy, Sell}
use Rattle.ledger.specs.Roster.{Numbered}
use Rattle.ledger.specs.Positions.{instrument, group, long}
use Rattle.ledger.specs.Fillings.{none, fill}
use Rattle.book.specs.Sound.{RosterFits}
use Rattle.book.specs.Rosters.{roster_of_tables}
use Rattle.book.specs.Listing.{listing_tables, listing_events}
use Rattle.book.proofs.Listing.{listing_roster}
use Rattle.book.proofs.PlainPromise.{Refused, Past, both_ways, Within, promised}
use Rattle.book.proofs.LongerDay.{order, weighs_more, weighs_less}
use Rattle.book.proofs.Rosters.{at_each_number}
use Rattle.book.proofs.Computed.{computes}

pub listing_fits : RosterFits listing_roster
unfolding roster_of_tables listing_tables
listing_fits =
    record {
      accounts = omega arith;
      groups = omega arith;
      contracts = omega arith;
      instruments = omega arith;
      group_of = at_each_number 0 (Numbered 1) listing_tables.group_of (omega arith, tt);
      contract_of = at_each_number 0 (Numbered 1) listing_tables.contract_of (omega arith, (omega arith, tt));
      weight = at_each_number (pos 0) (λ z. nat_abs z ≤ 1000000) listing_tables.weights (omega arith, (omega arith, tt));
    }

abbrev event : ℕ → List ℕ
event place = get_or listing_events place []

-- ---- the fifth event, a put sold, is refused by 23: all 62 of order 7 and the 1 of N put the group at 605,000
fifth_refused : Past listing_roster (take 4 listing_events) (event 4) (order 8 2 Sell 1)
    × Refused listing_roster (take 4 listing_events) (event 4)
unfolding computes
fifth_refused =
    both_ways listing_roster (take 4 listing_events) (event 4) listing_fits (order 8 2 Sell 1) (refl, refl) (inr (inr (inl refl))) (
      group 1,
      long,
      (refl, weighs_less, refl),
      (fill {o = order 7 1 Buy 62} 62 (omega arith) (fill {o = order 8 2 Sell 1} 1 (omega arith) none), record { lt = tt }),
    )

-- ---- the fourth, buy 62 of instrument 1, is accepted: to the end of the listing both positions that it moves are within their limits
fourth_kept : Within listing_roster (take 3 listing_events) (event 3) (drop 4 listing_events) 1 (instrument 1) long (pos 100)
    × Within listing_roster (take 3 listing_events) (event 3) (drop 4 listing_events) 1 (group 1) long (pos 600000)
unfolding computes
fourth_kept = (
  promised listing_roster (take 3 listing_events) (event 3) listing_fits (order 7 1 Buy 62) (refl, refl) refl (instrument 1) long
      (refl, refl)
      (drop 4 listing_events) refl,
  promised listing_roster (take 3 listing_events) (event 3) listing_fits (order 7 1 Buy 62) (refl, refl) refl (group 1) long
      (refl, weighs_more, refl) (drop 4 listing_events) refl,
)
