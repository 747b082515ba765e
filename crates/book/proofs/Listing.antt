-- Document 01's listing from its bytes: the answers, and the positions at the end.
use Rattle.std.specs.Prelude.{◌≡◌, ◌∷◌, ◌++◌}
use Rattle.integers.specs.Basics.{ℕ, refl, List, [], pos, negsuc, get_or, set, take, arith}
use Rattle.ledger.specs.Roster.{Roster}
use Rattle.ledger.specs.Positions.{group, long}
use Rattle.ledger.specs.Fillings.{none, fill}
use Rattle.ledger.specs.declared.order.Order.{Order}
use Rattle.ledger.specs.declared.order.Side.TheVariants.{Buy, Sell}
use Rattle.book.specs.declared.Event.TheVariants.{New, Junk}
use Rattle.book.specs.Market.{derivatives}
use Rattle.book.specs.Decoding.{decode}
use Rattle.book.specs.States.{State, begun, work}
use Rattle.book.specs.Positions.{potential_of, instrument_in, group_in}
use Rattle.book.specs.Rosters.{roster_of_tables}
use Rattle.book.specs.Listing.{listing_tables, listing_events}
use Rattle.book.specs.Demand3.{limit_of, SomeFillingPasses}
use Rattle.book.specs.Days.{answers_to, end_of, decoded}
use Rattle.book.proofs.Computed.{computes}

abbrev pub listing_roster : Roster
listing_roster = roster_of_tables listing_tables

abbrev pub listing_end : State
listing_end = end_of (begun derivatives listing_roster) (decoded listing_events)

-- the answers, from 1 on; then S, PCI and PVI of each instrument, and PCC and PVC
pub listing : (answers_to (begun derivatives listing_roster) (decoded listing_events) ≡ 0 ∷ 0 ∷ 0 ∷ 0 ∷ 23 ∷ 0 ∷ 0 ∷ 0 ∷ [])
    × (instrument_in listing_end 1 1 ≡ pos 10 ∷ pos 10 ∷ negsuc 9 ∷ [])
    × (instrument_in listing_end 1 2 ≡ pos 0 ∷ pos 4 ∷ pos 0 ∷ [])
    × (group_in listing_end 1 1 ≡ pos 100000 ∷ negsuc 79999 ∷ [])
unfolding computes
listing = (refl, refl, refl, refl)

-- ---- the fifth event, N, is refused by 23, and a filling shows why: all 62 of order 7 and the 1 of N put the group's
-- position at 605,000 ten-thousandths, past its limit of 600,000
abbrev before : State
before = end_of (begun derivatives listing_roster) (decoded (take 4 listing_events))

abbrev with_sell : State
with_sell = work before (decode (get_or listing_events 4 []))

-- order 7 and N, open
abbrev buy_7 : Order
buy_7 = record { id = 7; account = 1; instrument = 1; side = Buy; total = 62; filled = 0 }

abbrev sell_8 : Order
sell_8 = record { id = 8; account = 1; instrument = 2; side = Sell; total = 1; filled = 0 }

shown : SomeFillingPasses with_sell 1 (group 1) long
unfolding computes
shown = (fill {o = buy_7} 62 (omega arith) (fill {o = sell_8} 1 (omega arith) none), record { lt = tt })

-- without N no filling passes it: the potential position reaches the limit
reached : potential_of before 1 (group 1) long ≡ limit_of before 1 (group 1) long
unfolding computes
reached = refl

-- ---- what is no event: one byte less or more, an id that is 0, a field that the kind does not name
abbrev fourth : List ℕ
fourth = get_or listing_events 3 []

junk : (decode (take 47 fourth) ≡ Junk)
    × (decode (fourth ++ (0 ∷ [])) ≡ Junk)
    × (decode (set fourth 8 0) ≡ Junk)
    × (decode (set fourth 6 1) ≡ Junk)
    × (decode (set fourth 1 3) ≡ Junk)
    × (decode fourth ≡ New Buy 1 1 7 (pos 62))
unfolding computes
junk = (refl, refl, refl, refl, refl, refl)
