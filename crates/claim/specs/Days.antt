-- Instances of the three demands, over bytes, in every memory that is long enough: document 01's listing, and a longer day with puts.
use Rattle.std.specs.Prelude.{◌≤◌, ◌≡◌, ◌∷◌, ◌++◌}
use Rattle.integers.specs.Basics.{ℕ, List, [], map, ℤ, pos, negsuc, neg_ℤ, length, take, drop, replicate}
use Rattle.words.specs.Bytes.{Bytes}
use Rattle.ledger.specs.declared.order.Order.{Order}
use Rattle.ledger.specs.declared.order.Side.{Side}
use Rattle.ledger.specs.declared.order.Side.TheVariants.{Buy, Sell}
use Rattle.ledger.specs.Positions.{instrument, group, long, short}
use Rattle.book.specs.EventBytes.{new_bytes, buy, sell}
use Rattle.book.specs.Rosters.{roster_bytes}
use Rattle.book.specs.Listing.{listing_tables, listing_events}
use Rattle.book.specs.LongerDay.{longer_tables, morning, too_long_event, too_short_event, put_sold, put_bought, raised_too_far, afternoon, evening}
use Rattle.book.specs.LongerDay.{put_sold_to_the_limit, put_bought_to_the_limit, raised_to_the_limit, noon, late, own_line_set, elsewhere, second_account}
use Rattle.book.specs.Written.{written_all}
use Rattle.memory_opening.specs.Questions.{opening_answer}
use Rattle.memory_opening.specs.Opening.{after_opening}
use Rattle.memory_reading.specs.Reading.{instrument_answer, group_answer, instrument_report, group_report, reported}
use Rattle.desk.specs.Step.{answer_to}
use Rattle.desk.specs.Days.{answers_over, memory_over}
use Rattle.desk.specs.Run.{events_for, answered}
use Rattle.claim.specs.RunList.{concatenated}
use Rattle.book.specs.Edges.{starred_edges}
use Rattle.claim.specs.Edges.{edge_roster}
use Rattle.claim.specs.Examples.{memory_at, OrderRefused, OrderAccepted, LimitSetAgain}

abbrev pub order_of : (account id item : ℕ) → Side → (total filled : ℕ) → Order
order_of account id item side total filled =
    record { id = id; account = account; instrument = item; side = side; total = total; filled = filled }

-- an order of account 1 of which nothing is filled
abbrev pub order : (id item : ℕ) → Side → ℕ → Order
order id item side total = order_of 1 id item side total 0

-- ---- document 01's listing
unfoldable pub listing_roster : List ℕ
listing_roster = roster_bytes listing_tables

pub record ListingDay (m : List ℕ) : Type 0 where
  pub opens : opening_answer m listing_roster ≡ 0
  pub answers :
      answers_over (after_opening m listing_roster) (map (λ e. e.bytes) (written_all listing_events))
      ≡ 0 ∷ 0 ∷ 0 ∷ 0 ∷ 23 ∷ 0 ∷ 0 ∷ 0 ∷ []
  -- the same in one run, with room for eight answers or more
  pub run :
      (room : List ℕ)
      → 8 ≤ length room
      → (answered (after_opening m listing_roster) (concatenated (written_all listing_events)) room ≡ 0 ∷ 0 ∷ 0 ∷ 0 ∷ 23 ∷ 0 ∷ 0 ∷ 0
      ∷ drop 8 room)
      × (memory_over (after_opening m listing_roster) (events_for (concatenated (written_all listing_events)) room)
      ≡ memory_at m listing_roster listing_events)
  -- event 4, buy 62 of instrument 1: accepted, and through all that follows neither position is past its limit
  pub buy_of_instrument :
      OrderAccepted m listing_roster (take 3 listing_events) (buy 1 7 62) (order 7 1 Buy 62) (instrument 1) long (pos 100)
      (drop 4 listing_events)
  pub buy_of_group :
      OrderAccepted m listing_roster (take 3 listing_events) (buy 1 7 62) (order 7 1 Buy 62) (group 1) long (pos 600000)
      (drop 4 listing_events)
  -- event 5, a put sold
  pub put_sold_lem : OrderRefused m listing_roster (take 4 listing_events) (sell 2 8 1) (order 8 2 Sell 1) 23
  -- the I and G lines; `before` is what the output held
  pub first :
      (before : List ℤ)
      → (let end = memory_at m listing_roster listing_events in
      reported (instrument_answer end 1 1) (instrument_report end 1 1) before ≡ pos 10 ∷ pos 10 ∷ negsuc 9 ∷ [])
  pub second :
      (before : List ℤ)
      → (let end = memory_at m listing_roster listing_events in
      reported (instrument_answer end 1 2) (instrument_report end 1 2) before ≡ pos 0 ∷ pos 4 ∷ pos 0 ∷ [])
  pub of_group :
      (before : List ℤ)
      → (let end = memory_at m listing_roster listing_events in
      reported (group_answer end 1 1) (group_report end 1 1) before ≡ pos 100000 ∷ negsuc 79999 ∷ [])

-- ---- the longer day (crates/book/specs/LongerDay.antt)
unfoldable pub longer_roster : List ℕ
longer_roster = roster_bytes longer_tables

pub record LongerDay (m : List ℕ) : Type 0 where
  pub opens : opening_answer m longer_roster ≡ 0
  pub answers :
      answers_over (after_opening m longer_roster)
      (map (λ e. e.bytes) (written_all (morning ++ (put_sold_to_the_limit ∷ (afternoon ++ evening)))))
      ≡ 0 ∷ 0 ∷ 0 ∷ 0 ∷ 0 ∷ 0 ∷ 0 ∷ 23 ∷ 0 ∷ 0 ∷ 10 ∷ 9 ∷ 9 ∷ 0 ∷ 0 ∷ 0 ∷ 0 ∷ 0 ∷ 0 ∷ 6 ∷ 0 ∷ 0 ∷ 0 ∷ 0 ∷ 0 ∷ []
  -- refused by each question of a position limit
  pub too_long : OrderRefused m longer_roster morning too_long_event (order 8 1 Buy 53) 21
  pub too_short : OrderRefused m longer_roster morning too_short_event (order 8 1 Sell 99) 22
  pub put_sold_lem : OrderRefused m longer_roster morning put_sold (order 8 2 Sell 25) 23
  pub put_bought_lem : OrderRefused m longer_roster morning put_bought (order 8 2 Buy 77) 24
  pub raised_too_far_lem : OrderRefused m longer_roster morning raised_too_far (order 7 1 Buy 63) 23
  -- accepted: of the instrument and of the group, through the afternoon
  pub sold_of_instrument :
      OrderAccepted m longer_roster morning put_sold_to_the_limit (order 8 2 Sell 24) (instrument 2) short (pos 100) afternoon
  pub sold_of_group : OrderAccepted m longer_roster morning put_sold_to_the_limit (order 8 2 Sell 24) (group 1) long (pos 600000) afternoon
  pub bought_of_instrument :
      OrderAccepted m longer_roster morning put_bought_to_the_limit (order 8 2 Buy 76) (instrument 2) long (pos 100) afternoon
  pub bought_of_group : OrderAccepted m longer_roster morning put_bought_to_the_limit (order 8 2 Buy 76) (group 1) short
      (pos 400000) afternoon
  pub raised_of_instrument :
      OrderAccepted m longer_roster morning raised_to_the_limit (order 7 1 Buy 62) (instrument 1) long (pos 100) afternoon
  pub raised_of_group : OrderAccepted m longer_roster morning raised_to_the_limit (order 7 1 Buy 62) (group 1) long (pos 600000) afternoon
  -- after N itself
  pub sold_at_once : OrderAccepted m longer_roster morning put_sold_to_the_limit (order 8 2 Sell 24) (group 1) long (pos 600000) []
  -- filled by a part, an order passes a limit too
  pub too_long_in_part : OrderRefused m longer_roster morning (buy 1 8 60) (order 8 1 Buy 60) 21
  -- after a fill, junk and a refused event: an order filled in part, raised
  pub filled_and_raised_too_far : OrderRefused m longer_roster noon raised_too_far (order_of 1 7 1 Buy 63 12) 23
  pub filled_and_raised : OrderAccepted m longer_roster noon raised_to_the_limit (order_of 1 7 1 Buy 62 12) (group 1) long
      (pos 600000) afternoon
  -- after all of the day
  pub in_the_evening : OrderAccepted m longer_roster late (buy 1 9 70) (order 9 1 Buy 70) (group 1) long (pos 1000000) []
  -- under a line of its own
  pub under_own_line : OrderAccepted m longer_roster own_line_set (buy 1 7 50) (order 7 1 Buy 50) (instrument 1) long (pos 100) elsewhere
  -- another account, in another group
  pub second_sells : OrderRefused m longer_roster second_account (new_bytes 2 2 3 11 26) (order_of 2 11 3 Sell 26 0) 24
  pub second_buys :
      OrderAccepted m longer_roster second_account (new_bytes 1 2 3 11 25) (order_of 2 11 3 Buy 25 0) (group 2) long (pos 250000) afternoon
  -- the evening's LIMIT sets the group's limit again, and after it nothing is claimed
  pub set_again :
      LimitSetAgain m longer_roster morning put_sold_to_the_limit (order 8 2 Sell 24) (group 1) long (pos 600000) (afternoon ++ evening)

-- in every memory that is long enough
abbrev pub InEveryMemory : (List ℕ → Type 0) → Type 0
InEveryMemory Holds = (m : List ℕ) → Bytes m → 65536 ≤ length m → Holds m

-- in one memory: with nothing left to assume
unfoldable pub zero_memory : List ℕ
zero_memory = replicate 65536 0

-- document 01's starred edges (crates/book/specs/Edges.antt), nine of them: the events before N are accepted, N gets this answer, and S,
-- PCI and PVI are read and are these after it
abbrev pub edge_memory : List (List ℕ) → List ℕ
edge_memory = memory_over (after_opening zero_memory edge_roster)

pub record EdgesHold : Type 0 where
  pub opens : opening_answer zero_memory edge_roster ≡ 0
  pub accepted :
      map (λ c. answers_over (after_opening zero_memory edge_roster) c.events) starred_edges
      ≡ map (λ n. replicate n 0) (6 ∷ 6 ∷ 6 ∷ 4 ∷ 3 ∷ 3 ∷ 3 ∷ 3 ∷ 3 ∷ [])
  pub answered : map (λ c. answer_to (edge_memory c.events) c.order) starred_edges ≡ 20 ∷ 22 ∷ 0 ∷ 0 ∷ 0 ∷ 0 ∷ 21 ∷ 23 ∷ 0 ∷ []
  pub readable :
      map (λ c. instrument_answer (edge_memory (c.events ++ (c.order ∷ []))) 1 c.instrument) starred_edges ≡ replicate 9 0
  pub reported :
      map (λ c. instrument_report (edge_memory (c.events ++ (c.order ∷ []))) 1 c.instrument) starred_edges
      ≡ (neg_ℤ (pos 10000) ∷ neg_ℤ (pos 5000) ∷ pos 15000 ∷ [])
      ∷ (neg_ℤ (pos 10000) ∷ neg_ℤ (pos 5000) ∷ pos 15000 ∷ [])
      ∷ (neg_ℤ (pos 10000) ∷ neg_ℤ (pos 5000) ∷ pos 25000 ∷ [])
      ∷ (pos 100000 ∷ pos 150000 ∷ pos 100000 ∷ [])
      ∷ (neg_ℤ (pos 5000) ∷ neg_ℤ (pos 4000) ∷ pos 5000 ∷ [])
      ∷ (neg_ℤ (pos 2) ∷ pos 0 ∷ pos 2 ∷ [])
      ∷ (neg_ℤ (pos 2) ∷ neg_ℤ (pos 2) ∷ pos 2 ∷ [])
      ∷ (pos 0 ∷ pos 0 ∷ pos 0 ∷ [])
      ∷ (pos 0 ∷ pos 0 ∷ pos 1 ∷ [])
      ∷ []

-- both days, and the edges
abbrev pub Drawn : Type 0
Drawn = ListingDay zero_memory × LongerDay zero_memory × EdgesHold
