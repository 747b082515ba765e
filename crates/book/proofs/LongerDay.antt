-- The longer day, in bytes, at the plain desk: its answers, and its orders judged by demand 3.
use Rattle.std.specs.Prelude.{◌≤◌, ◌≡◌, ◌≢◌, ◌∷◌, ◌++◌}
use Rattle.integers.specs.Basics.{ℕ, refl, inl, inr, List, [], pos, negsuc, nat_abs, length, arith}
use Rattle.ledger.specs.declared.order.Order.{Order}
use Rattle.ledger.specs.declared.order.Side.{Side}
use Rattle.ledger.specs.declared.order.Side.TheVariants.{Buy, Sell}
use Rattle.ledger.specs.Roster.{Roster, Numbered}
use Rattle.ledger.specs.Positions.{instrument, group, long, short}
use Rattle.ledger.specs.Fillings.{none, fill, Filling}
use Rattle.ledger.specs.Orders.{remaining}
use Rattle.book.specs.Market.{derivatives}
use Rattle.book.specs.States.{State, begun}
use Rattle.book.specs.Sound.{RosterFits, Sound}
use Rattle.book.specs.EventLists.{memory_after}
use Rattle.book.specs.Written.{written, written_all}
use Rattle.book.specs.Rosters.{roster_of_tables}
use Rattle.book.specs.LongerDay.{longer_tables, morning, too_long_event, too_short_event, put_sold, put_bought, raised_too_far, afternoon, evening}
use Rattle.book.specs.LongerDay.{put_sold_to_the_limit, put_bought_to_the_limit, raised_to_the_limit}
use Rattle.book.proofs.Plain.{plain, plain_sound}
use Rattle.book.proofs.PlainPromise.{state_of, Refused, Past, both_ways}
use Rattle.book.proofs.Rosters.{at_each_number}
use Rattle.book.proofs.Computed.{computes}

abbrev pub longer_roster : Roster
longer_roster = roster_of_tables longer_tables

pub longer_fits : RosterFits longer_roster
unfolding computes
longer_fits =
    record {
      accounts = omega arith;
      groups = omega arith;
      contracts = omega arith;
      instruments = omega arith;
      group_of = at_each_number 0 (Numbered 2) longer_tables.group_of (omega arith, (omega arith, tt));
      contract_of = at_each_number 0 (Numbered 2) longer_tables.contract_of (omega arith, (omega arith, (omega arith, tt)));
      weight = at_each_number (pos 0) (λ z. nat_abs z ≤ 1000000) longer_tables.weights (omega arith, (omega arith, (omega arith, tt)));
    }

-- ---- the answers
abbrev opened : State
opened = begun derivatives longer_roster

abbrev answers_to : List (List ℕ) → State → List ℕ
answers_to [] m = []
answers_to (e ∷ es) m = plain.answer_to m (written e) ∷ answers_to es (plain.next m (written e))

-- the answers after the morning
abbrev answers_then : List (List ℕ) → List ℕ
answers_then es = answers_to es (memory_after plain opened (written_all morning))

answers : (answers_to morning opened ≡ 0 ∷ 0 ∷ 0 ∷ 0 ∷ [])
    × (answers_then (too_long_event ∷ too_short_event ∷ put_sold ∷ put_bought ∷ raised_too_far ∷ []) ≡ 21 ∷ 22 ∷ 23 ∷ 24 ∷ 23 ∷ [])
    × (answers_then (put_sold_to_the_limit ∷ (afternoon ++ evening))
    ≡ 0 ∷ 0 ∷ 0 ∷ 23 ∷ 0 ∷ 0 ∷ 10 ∷ 9 ∷ 9 ∷ 0 ∷ 0 ∷ 0 ∷ 0 ∷ 0 ∷ 0 ∷ 6 ∷ 0 ∷ 0
    ∷ 0 ∷ 0 ∷ 0 ∷ [])
    × (answers_then (put_bought_to_the_limit ∷ (afternoon ++ evening))
    ≡ 0 ∷ 0 ∷ 0 ∷ 23 ∷ 0 ∷ 0 ∷ 10 ∷ 9 ∷ 9 ∷ 0 ∷ 0 ∷ 0 ∷ 0 ∷ 0 ∷ 0 ∷ 6 ∷ 0 ∷ 0
    ∷ 0 ∷ 0 ∷ 0 ∷ [])
    × (answers_then (raised_to_the_limit ∷ (afternoon ++ evening))
    ≡ 0 ∷ 0 ∷ 11 ∷ 23 ∷ 0 ∷ 0 ∷ 10 ∷ 9 ∷ 9 ∷ 0 ∷ 0 ∷ 0 ∷ 0 ∷ 0 ∷ 0 ∷ 6 ∷ 11 ∷ 0
    ∷ 0 ∷ 0 ∷ 0 ∷ [])
unfolding computes
answers = (refl, refl, refl, refl, refl)

-- the book after the morning and a put sold is sound, with two orders open
sound : (length (state_of longer_roster (written_all (morning ++ (put_sold_to_the_limit ∷ [])))).book.orders ≡ 2)
    × Sound (state_of longer_roster (written_all (morning ++ (put_sold_to_the_limit ∷ []))))
unfolding computes
sound = (refl, plain_sound derivatives longer_roster longer_fits (written_all (morning ++ (put_sold_to_the_limit ∷ []))))

-- ---- the orders, of account 1, and the positions that they move
abbrev pub order : ℕ → ℕ → Side → ℕ → Order
order id i s n = record { id = id; account = 1; instrument = i; side = s; total = n; filled = 0 }

pub weighs_more : pos 10000 ≢ pos 0
weighs_more e = let z : ◌≡◌ {A = ℕ} 10000 0 = cc in omega arith

pub weighs_less : negsuc 4999 ≢ pos 0
weighs_less e = cc

-- ---- refused, each both ways: from the answer a filling past a limit, and from such a filling the answer
abbrev Exactly : List ℕ → Order → Type 0
Exactly n o = Past longer_roster morning n o × Refused longer_roster morning n

-- order 7 filled by m, and the order of N by n
abbrev beside_7 : (o : Order) (m n : ℕ) → m ≤ remaining (order 7 1 Buy 50) → n ≤ remaining o → Filling (order 7 1 Buy 50 ∷ o ∷ [])
beside_7 o m n h l = fill {o = order 7 1 Buy 50} m h (fill {o = o} n l none)

-- 21: all 50 of order 7 and the 53 of N put instrument 1 at 101, past 100
too_long : Exactly too_long_event (order 8 1 Buy 53)
unfolding computes
too_long =
    both_ways longer_roster morning too_long_event longer_fits (order 8 1 Buy 53) (refl, refl) (inl refl)
    (instrument 1, long, (refl, refl), (beside_7 (order 8 1 Buy 53) 50 53 (omega arith) (omega arith), record { lt = tt }))

-- 22: nothing of order 7 and the 99 of N put it at −101
too_short : Exactly too_short_event (order 8 1 Sell 99)
unfolding computes
too_short =
    both_ways longer_roster morning too_short_event longer_fits (order 8 1 Sell 99) (refl, refl) (inr (inl refl))
    (instrument 1, short, (refl, refl), (beside_7 (order 8 1 Sell 99) 0 99 (omega arith) (omega arith), record { lt = tt }))

-- 23: all of both put group 1 at 605,000 ten-thousandths, past 600,000
put_sold_lem : Exactly put_sold (order 8 2 Sell 25)
unfolding computes
put_sold_lem =
    both_ways longer_roster morning put_sold longer_fits (order 8 2 Sell 25) (refl, refl) (inr (inr (inl refl)))
    (group 1, long, (refl, weighs_less, refl), (beside_7 (order 8 2 Sell 25) 50 25 (omega arith) (omega arith), record { lt = tt }))

-- 24: nothing of order 7 and the 77 of N put it at −405,000, past 400,000 short
put_bought_lem : Exactly put_bought (order 8 2 Buy 77)
unfolding computes
put_bought_lem =
    both_ways longer_roster morning put_bought longer_fits (order 8 2 Buy 77) (refl, refl) (inr (inr (inr refl)))
    (group 1, short, (refl, weighs_less, refl), (beside_7 (order 8 2 Buy 77) 0 77 (omega arith) (omega arith), record { lt = tt }))

-- 23: order 7 raised, once: all 63 of it put the group at 610,000
raised_too_far_lem : Exactly raised_too_far (order 7 1 Buy 63)
unfolding computes
raised_too_far_lem =
    both_ways longer_roster morning raised_too_far longer_fits (order 7 1 Buy 63) (refl, refl) (inr (inr (inl refl)))
    (group 1, long, (refl, weighs_more, refl), (fill {o = order 7 1 Buy 63} 63 (omega arith) none, record { lt = tt }))
