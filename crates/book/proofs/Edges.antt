-- Document 01's starred edges, computed as one table; and examples of each question's edge. Each is a day of events, in bytes.
use Rattle.std.specs.Prelude.{◌≡◌, ◌∷◌, ◌++◌}
use Rattle.integers.specs.Basics.{ℕ, zero, suc, refl, true, cond, List, [], map, ℤ, pos, neg_ℤ, eqb}
use Rattle.ledger.specs.declared.order.Order.{Order}
use Rattle.ledger.specs.declared.order.Side.TheVariants.{Buy, Sell}
use Rattle.ledger.specs.Roster.{Roster}
use Rattle.book.specs.declared.LimitLine.TheVariants.{Default, OfGroup}
use Rattle.book.specs.declared.Setting.TheVariants.{Limit, Balance}
use Rattle.book.specs.declared.Event.{Event}
use Rattle.book.specs.declared.Event.TheVariants.{Set, New}
use Rattle.book.specs.Market.{derivatives}
use Rattle.book.specs.Decoding.{decode}
use Rattle.book.specs.Books.{with_orders, new_order}
use Rattle.book.specs.States.{State, begun, work}
use Rattle.book.specs.Table.{answer}
use Rattle.book.specs.Positions.{instrument_in}
use Rattle.book.specs.Days.{answers_to, end_of, decoded}
use Rattle.book.specs.EventBytes.{line, group_line, balance, buy, limit_bytes, balance_bytes, block_bytes, replace_bytes, cancel_bytes}
use Rattle.book.specs.EventBytes.{fill_bytes}
use Rattle.book.specs.Rosters.{roster_of_tables}
use Rattle.book.specs.Edges.{edge_tables, starred_edges, outcome, expected}
use Rattle.book.proofs.Computed.{computes}

-- one account, group and contract; instruments 1, 2 and 3 of weight 10000, −5000 and 0
abbrev roster : Roster
roster = roster_of_tables edge_tables

abbrev minus : ℕ → ℤ
minus n = neg_ℤ (pos n)

-- each starred edge comes to what its case says
pub edges : map (outcome roster) starred_edges ≡ map expected starred_edges
unfolding computes
edges = refl

-- nine of them, with these answers
pub starred_answers : map (λ c. c.answer) starred_edges ≡ 20 ∷ 22 ∷ 0 ∷ 0 ∷ 0 ∷ 0 ∷ 21 ∷ 23 ∷ 0 ∷ []
unfolding computes
starred_answers = refl

-- and these S, PCI and PVI at the end
pub starred_positions : map (λ c. c.positions) starred_edges
    ≡ (minus 10000 ∷ minus 5000 ∷ pos 15000 ∷ [])
    ∷ (minus 10000 ∷ minus 5000 ∷ pos 15000 ∷ [])
    ∷ (minus 10000 ∷ minus 5000 ∷ pos 25000 ∷ [])
    ∷ (pos 100000 ∷ pos 150000 ∷ pos 100000 ∷ [])
    ∷ (minus 5000 ∷ minus 4000 ∷ pos 5000 ∷ [])
    ∷ (minus 2 ∷ pos 0 ∷ pos 2 ∷ [])
    ∷ (minus 2 ∷ minus 2 ∷ pos 2 ∷ [])
    ∷ (pos 0 ∷ pos 0 ∷ pos 0 ∷ [])
    ∷ (pos 0 ∷ pos 0 ∷ pos 1 ∷ [])
    ∷ []
unfolding computes
starred_positions = refl

-- their events, N the last, as document 01 has them: limits that are not named bind nothing
abbrev line_set : (tci tvi lci lvi : ℕ) → Event
line_set tci tvi lci lvi = Set (Limit 1 (Default 1 (record { tci = pos tci; tvi = pos tvi; lci = pos lci; lvi = pos lvi })))

abbrev group_set : (lcc lvc : ℕ) → Event
group_set lcc lvc = Set (Limit 1 (OfGroup 1 (pos lcc) (pos lvc)))

abbrev any_line : Event
any_line = line_set 1000000 1000000 1000000000 1000000000

abbrev any_group : Event
any_group = group_set 1000000000 1000000000

abbrev table_five : (tvi lvi : ℕ) → List Event
table_five tvi lvi =
    any_line
    ∷ any_group
    ∷ Set (Balance 1 1 (minus 10000))
    ∷ New Buy 1 1 1 (pos 5000)
    ∷ New Sell 1 1 2 (pos 5000)
    ∷ line_set 10000 tvi 1000000 lvi
    ∷ New Sell 1 1 3 (pos 10000)
    ∷ []

pub starred_events : map (λ c. decoded (c.events ++ (c.order ∷ []))) starred_edges
    ≡ table_five 2500 21000
    ∷ table_five 10000 21000
    ∷ table_five 10000 25000
    ∷ (any_line ∷ any_group ∷ Set (Balance 1 1 (pos 100000)) ∷ New Buy 1 1 1 (pos 50000) ∷ New Sell 1 1 2 (pos 200000) ∷ [])
    ∷ (any_line ∷ any_group ∷ Set (Balance 1 1 (minus 5000)) ∷ New Buy 1 1 1 (pos 1000) ∷ [])
    ∷ (line_set 1000000 1000000 0 1000000000 ∷ any_group ∷ Set (Balance 1 1 (minus 2)) ∷ New Buy 1 1 1 (pos 2) ∷ [])
    ∷ (line_set 1000000 1000000 0 1000000000 ∷ any_group ∷ Set (Balance 1 1 (minus 2)) ∷ New Buy 1 1 1 (pos 3) ∷ [])
    ∷ (any_line ∷ any_group ∷ group_set 0 1000000 ∷ New Sell 1 2 1 (pos 1) ∷ [])
    ∷ (any_line ∷ any_group ∷ group_set 0 0 ∷ New Sell 1 3 1 (pos 1) ∷ [])
    ∷ []
unfolding computes
starred_events = refl

-- ---- the other examples
-- the state at the end of a day
abbrev end_state : List (List ℕ) → State
end_state es = end_of (begun derivatives roster) (decoded es)

-- the answer to N after events that are accepted; 1000 where one is not
abbrev accepted : List ℕ → ℕ → ℕ
accepted [] n = n
accepted (m ∷ ms) n = cond (eqb m 0) (accepted ms n) 1000

abbrev judged : List (List ℕ) → List ℕ → ℕ
judged es n =
    accepted (answers_to (begun derivatives roster) (decoded es)) (answer (end_state es) (decode n))

-- limits that bind nothing; the default line; a group's line of 10 and 10, and an order of id 7, to buy 6
abbrev wide : List ℕ
wide = line 1000000 1000000 1000000000 1000000000

abbrev own : ℕ → List ℕ
own n = limit_bytes 1 1 1 (pos n) (pos n) (pos n) (pos n)

abbrev with_buy : List (List ℕ) → List (List ℕ)
with_buy es = wide ∷ group_line 10 10 ∷ buy 1 7 6 ∷ es

-- ---- a replace is counted once, at its new total; one that does not raise passes whatever is blocked or past its limit
abbrev small : List (List ℕ)
small = line 100 100 10 10 ∷ group_line 10 10 ∷ buy 1 7 6 ∷ []

pub replaces : (judged small (replace_bytes 7 10) ≡ 0)
    × (judged small (replace_bytes 7 11) ≡ 21)
    × (instrument_in (end_state (with_buy (fill_bytes 7 2 ∷ replace_bytes 7 10 ∷ []))) 1 1 ≡ pos 2 ∷ pos 10 ∷ minus 2 ∷ [])
    × (judged (with_buy (block_bytes 1 1 0 1 ∷ line 1 1 0 0 ∷ [])) (replace_bytes 7 5) ≡ 0)
    × (judged (with_buy (block_bytes 1 1 0 1 ∷ line 1 1 0 0 ∷ [])) (replace_bytes 7 6) ≡ 0)
    × (judged (with_buy (block_bytes 1 1 0 1 ∷ [])) (replace_bytes 7 7) ≡ 14)
    × (judged (with_buy (fill_bytes 7 2 ∷ [])) (replace_bytes 7 2) ≡ 12)
    × (judged (with_buy (fill_bytes 7 2 ∷ [])) (replace_bytes 7 3) ≡ 0)
unfolding computes
replaces = (refl, refl, refl, refl, refl, refl, refl, refl)

-- ---- an order that is filled or cancelled closes: its id is not open, and may be used again
pub closing : (judged (with_buy (fill_bytes 7 6 ∷ [])) (fill_bytes 7 1) ≡ 11)
    × (judged (with_buy (fill_bytes 7 6 ∷ [])) (buy 1 7 1) ≡ 0)
    × (judged (with_buy (fill_bytes 7 5 ∷ [])) (buy 1 7 1) ≡ 13)
    × (judged (with_buy (cancel_bytes 7 ∷ [])) (cancel_bytes 7) ≡ 11)
    × (judged (with_buy []) (fill_bytes 7 7) ≡ 12)
unfolding computes
closing = (refl, refl, refl, refl, refl)

-- ---- a balance is set until the account's first NEW is accepted, and not after; no other kind marks the account
pub trading_marks : (judged (wide ∷ group_line 10 10 ∷ balance (pos 3) ∷ block_bytes 1 1 0 0 ∷ []) (balance (pos 4)) ≡ 0)
    × (judged (with_buy (cancel_bytes 7 ∷ [])) (balance_bytes 1 2 (pos 4)) ≡ 10)
    × (judged [] (balance (pos 1000000000)) ≡ 0)
    × (judged [] (balance (minus 1000000001)) ≡ 9)
unfolding computes
trading_marks = (refl, refl, refl, refl)

-- ---- blocks: of an account, of an instrument for all, of a group for an account; lifted they are gone
pub blocks : (judged (wide ∷ group_line 10 10 ∷ block_bytes 1 1 0 1 ∷ []) (buy 1 1 1) ≡ 14)
    × (judged (wide ∷ group_line 10 10 ∷ block_bytes 2 0 1 1 ∷ []) (buy 1 1 1) ≡ 15)
    × (judged (wide ∷ group_line 10 10 ∷ block_bytes 2 0 1 1 ∷ []) (buy 2 1 1) ≡ 0)
    × (judged (wide ∷ group_line 10 10 ∷ block_bytes 3 1 1 1 ∷ []) (buy 2 1 1) ≡ 16)
    × (judged (wide ∷ group_line 10 10 ∷ block_bytes 3 1 1 1 ∷ block_bytes 3 1 1 0 ∷ []) (buy 2 1 1) ≡ 0)
    × (judged [] (block_bytes 1 1 0 2) ≡ 9)
unfolding computes
blocks = (refl, refl, refl, refl, refl, refl)

-- ---- limits run to the largest balance and no further; zeros are a line, −1 throughout is none, a mixture neither
pub limit_figures : (judged [] (line 0 0 0 1000000000) ≡ 0)
    × (judged [] (line 0 0 0 1000000001) ≡ 9)
    × (judged [] (limit_bytes 3 1 1 (minus 1) (minus 1) (pos 0) (pos 0)) ≡ 0)
    × (judged [] (limit_bytes 3 1 1 (minus 1) (pos 0) (pos 0) (pos 0)) ≡ 9)
    × (judged (line 0 0 0 0 ∷ group_line 0 0 ∷ []) (buy 1 1 1) ≡ 19)
    × (judged (group_line 10 10 ∷ []) (buy 1 1 1) ≡ 17)
    × (judged (wide ∷ []) (buy 1 1 1) ≡ 17)
    × (judged (wide ∷ limit_bytes 1 1 1 (pos 9) (pos 9) (pos 0) (pos 9) ∷ group_line 10 10 ∷ []) (buy 1 1 1) ≡ 21)
    × (judged (wide ∷ group_line 10 10 ∷ own 0 ∷ limit_bytes 1 1 1 (minus 1) (minus 1) (minus 1) (minus 1) ∷ []) (buy 1 1 5) ≡ 0)
unfolding computes
limit_figures = (refl, refl, refl, refl, refl, refl, refl, refl, refl)

-- ---- the open orders ascend by id; 256 at the most
abbrev ids : List Order → List ℕ
ids [] = []
ids (o ∷ os) = o.id ∷ ids os

-- n orders open, of one buy by 1 each
abbrev open_buys : ℕ → List Order
open_buys zero = []
open_buys (suc n) = new_order Buy 1 3 (suc n) (pos 1) ∷ open_buys n

abbrev crowded : ℕ → State
crowded n =
    record {
      market = derivatives;
      roster = roster;
      book = with_orders (end_state (wide ∷ group_line 10 10 ∷ [])).book (open_buys n);
      beside = record { trading = λ a. true };
    }

pub open_orders_lem : (ids (end_state (wide ∷ group_line 10 10 ∷ buy 1 8 1 ∷ buy 1 7 1 ∷ buy 1 9 1 ∷ [])).book.orders ≡ 7 ∷ 8 ∷ 9 ∷ [])
    × (answer (crowded 255) (decode (buy 3 300 1)) ≡ 0)
    × (answer (crowded 256) (decode (buy 3 300 1)) ≡ 18)
    × (answer (work (crowded 256) (decode (cancel_bytes 200))) (decode (buy 3 300 1)) ≡ 0)
unfolding computes
open_orders_lem = (refl, refl, refl, refl)
