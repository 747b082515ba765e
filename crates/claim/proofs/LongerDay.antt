-- The longer day as an instance of the demands: computed of the plain book, each conclusion drawn by a demand.
use Rattle.std.specs.Prelude.{◌≤◌, ◌≡◌, ◌∷◌, ◌++◌}
use Rattle.integers.specs.Basics.{ℕ, refl, inl, inr, List, [], pos, length, arith}
use Rattle.words.specs.Bytes.{Bytes}
use Rattle.ledger.specs.declared.order.Order.{Order}
use Rattle.ledger.specs.declared.order.Side.TheVariants.{Buy, Sell}
use Rattle.ledger.specs.Positions.{instrument, group, long, short}
use Rattle.ledger.specs.Fillings.{none, fill}
use Rattle.book.specs.declared.LimitLine.TheVariants.{OfGroup}
use Rattle.book.specs.EventBytes.{group_line, block_bytes, buy}
use Rattle.book.specs.Market.{derivatives}
use Rattle.book.specs.States.{begun}
use Rattle.book.specs.EventLists.{RawEvent}
use Rattle.book.specs.LongerDay.{morning, put_sold_to_the_limit, afternoon, evening}
use Rattle.book.specs.Written.{written, written_all}
use Rattle.book.proofs.LongerDay.{weighs_more, weighs_less}
use Rattle.memory_opening.specs.Questions.{roster_from, opening_answer}
use Rattle.memory_opening.specs.Opening.{after_opening}
use Rattle.claim.specs.Examples.{LimitSetAgain}
use Rattle.claim.specs.Days.{order_of, order, longer_roster, LongerDay, InEveryMemory}
use Rattle.claim.proofs.Plainly.{plainly, answers_plainly}
use Rattle.claim.proofs.DaysOpened.{opened, opens_long}
use Rattle.claim.proofs.Examples.{refused, accepted, limit_set_again}

longer_opens : (m : List ℕ) → 65536 ≤ length m → opening_answer m longer_roster ≡ 0
unfolding opened
longer_opens m enough = opens_long m longer_roster enough refl

module _ (m : List ℕ) (bytes : Bytes m) (opens : opening_answer m longer_roster ≡ 0) where
  abbrev seven : Order
  seven = order 7 1 Buy 50

  abbrev day : List RawEvent
  day = written_all (morning ++ (put_sold_to_the_limit ∷ (afternoon ++ evening)))

  -- after the group's line of 100 100 is accepted, all 70 of order 9 put the group at 920,000
  set_again : LimitSetAgain m longer_roster morning put_sold_to_the_limit (order 8 2 Sell 24) (group 1) long (pos 600000)
      (afternoon ++ evening)
  unfolding opened
  set_again =
      limit_set_again m longer_roster bytes opens morning put_sold_to_the_limit (order 8 2 Sell 24) (group 1) long (pos 600000)
      (afternoon ++ evening)
      (written_all (afternoon ++ (block_bytes 1 1 0 0 ∷ []))) (written (group_line 100 100)) (written_all (buy 1 9 70 ∷ [])) 1
      (OfGroup 1 (pos 100) (pos 100))
      refl refl refl refl
      (fill {o = order 9 1 Buy 70} 70 (omega arith) none, record { lt = tt })

  -- the answer, what N enters and the limit that it is judged by are computed of the plain book; the rest is drawn by the demands
  all_of_it : LongerDay m
  unfolding opened
  all_of_it =
      record {
        opens = opens;
        answers =
            answers_plainly (after_opening m longer_roster) (begun derivatives (roster_from longer_roster))
            (plainly m longer_roster bytes opens) day;
        -- 21: all 50 of order 7 and the 53 of N put instrument 1 at 101, past 100
        too_long =
            refused bytes opens (refl, refl, refl) refl (inl refl) (instrument 1) long (refl, refl)
            (fill {o = seven} 50 (omega arith) (fill {o = order 8 1 Buy 53} 53 (omega arith) none)) (record { lt = tt });
        -- 22: nothing of order 7 and the 99 of N put it at −101
        too_short =
            refused bytes opens (refl, refl, refl) refl (inr (inl refl)) (instrument 1) short (refl, refl)
            (fill {o = seven} 0 (omega arith) (fill {o = order 8 1 Sell 99} 99 (omega arith) none)) (record { lt = tt });
        -- 23: all of both put group 1 at 605,000 ten-thousandths, past 600,000
        put_sold_lem =
            refused bytes opens (refl, refl, refl) refl (inr (inr (inl refl))) (group 1) long (refl, weighs_less, refl)
            (fill {o = seven} 50 (omega arith) (fill {o = order 8 2 Sell 25} 25 (omega arith) none)) (record { lt = tt });
        -- 24: nothing of order 7 and the 77 of N put it at −405,000, past 400,000 short
        put_bought_lem =
            refused bytes opens (refl, refl, refl) refl (inr (inr (inr refl))) (group 1) short (refl, weighs_less, refl)
            (fill {o = seven} 0 (omega arith) (fill {o = order 8 2 Buy 77} 77 (omega arith) none)) (record { lt = tt });
        -- 23: order 7 raised, and counted once: all 63 of it put the group at 610,000
        raised_too_far_lem =
            refused bytes opens (refl, refl, refl) refl (inr (inr (inl refl))) (group 1) long (refl, weighs_more, refl)
            (fill {o = order 7 1 Buy 63} 63 (omega arith) none) (record { lt = tt });
        sold_of_instrument = accepted bytes opens (refl, refl, refl) refl (refl, refl) refl refl;
        sold_of_group = accepted bytes opens (refl, refl, refl) refl (refl, weighs_less, refl) refl refl;
        bought_of_instrument = accepted bytes opens (refl, refl, refl) refl (refl, refl) refl refl;
        bought_of_group = accepted bytes opens (refl, refl, refl) refl (refl, weighs_less, refl) refl refl;
        raised_of_instrument = accepted bytes opens (refl, refl, refl) refl (refl, refl) refl refl;
        raised_of_group = accepted bytes opens (refl, refl, refl) refl (refl, weighs_more, refl) refl refl;
        sold_at_once = accepted bytes opens (refl, refl, refl) refl (refl, weighs_less, refl) refl refl;
        -- 49 of the 50 and 55 of the 60 put instrument 1 at 102
        too_long_in_part =
            refused bytes opens (refl, refl, refl) refl (inl refl) (instrument 1) long (refl, refl)
            (fill {o = seven} 49 (omega arith) (fill {o = order 8 1 Buy 60} 55 (omega arith) none)) (record { lt = tt });
        -- the 51 that remain put the group at 610,000
        filled_and_raised_too_far =
            refused bytes opens (refl, refl, refl) refl (inr (inr (inl refl))) (group 1) long (refl, weighs_more, refl)
            (fill {o = order_of 1 7 1 Buy 63 12} 51 (omega arith) none) (record { lt = tt });
        filled_and_raised = accepted bytes opens (refl, refl, refl) refl (refl, weighs_more, refl) refl refl;
        in_the_evening = accepted bytes opens (refl, refl, refl) refl (refl, weighs_more, refl) refl refl;
        under_own_line = accepted bytes opens (refl, refl, refl) refl (refl, refl) refl refl;
        -- all 26 put group 2 of account 2 at −260,000, past 250,000 short
        second_sells =
            refused bytes opens (refl, refl, refl) refl (inr (inr (inr refl))) (group 2) short (refl, weighs_more, refl)
            (fill {o = order_of 2 11 3 Sell 26 0} 26 (omega arith) none) (record { lt = tt });
        second_buys = accepted bytes opens (refl, refl, refl) refl (refl, weighs_more, refl) refl refl;
        set_again = set_again;
      }

pub longer_day : InEveryMemory LongerDay
longer_day m bytes enough = all_of_it m bytes (longer_opens m enough)
