-- The manual's example B, dollar options with puts (tables 8 to 14), as a day of events. A buy of a put is judged by the
-- group's short limit.
use Rattle.std.specs.Prelude.{◌-◌, ◌≡◌, ◌∷◌}
use Rattle.integers.specs.Basics.{ℕ, refl, List, [], ℤ, pos, neg_ℤ, get_or}
use Rattle.ledger.specs.declared.order.Side.TheVariants.{Buy, Sell}
use Rattle.ledger.specs.Roster.{Roster}
use Rattle.book.specs.declared.Figures.{Figures}
use Rattle.book.specs.declared.LimitLine.TheVariants.{Default, OfGroup}
use Rattle.book.specs.declared.Setting.TheVariants.{Limit, Balance}
use Rattle.book.specs.declared.Event.{Event}
use Rattle.book.specs.declared.Event.TheVariants.{Set, New}
use Rattle.book.specs.Positions.{group_in}
use Rattle.book.specs.Days.{answers_to, end_of}
use Rattle.book.specs.Market.{derivatives}
use Rattle.book.specs.States.{State, begun}
use Rattle.book.proofs.Computed.{computes}

abbrev minus : ℕ → ℤ
minus n = neg_ℤ (pos n)

-- puts 1 to 5, K8DB K8D0 K8D5 K8D8 K8D9; calls 6 to 13, K880 K881 K882 K883 K885 K886 K887 K888
abbrev roster : Roster
roster =
    record {
      accounts = 1;
      groups = 1;
      contracts = 1;
      instruments = 13;
      group_of = λ c. 1;
      contract_of = λ i. 1;
      weight =
          λ i. get_or (minus 2200 ∷ minus 9500 ∷ minus 7600 ∷ minus 4000 ∷ minus 5900 ∷ pos 500 ∷ pos 500 ∷ pos 500 ∷ pos 500 ∷ pos 2400
          ∷ pos 500 ∷ pos 1200 ∷ pos 6000 ∷ []) (i - 1) (pos 0);
    }

abbrev opened : State
opened = begun derivatives roster

abbrev line : Figures
line = record { tci = pos 1000; tvi = pos 1000; lci = pos 2000; lvi = pos 0 }

-- balances of 2,000 in K8D8, K8D0, K8D9 and K8DB; sells of 2,000 in K8D8 and in K8D0, by two orders each
abbrev morning : List Event
morning =
    Set (Limit 1 (Default 1 line))
    ∷ Set (Limit 1 (OfGroup 1 (pos 5000) (pos 5000)))
    ∷ Set (Balance 1 4 (pos 2000))
    ∷ Set (Balance 1 2 (pos 2000))
    ∷ Set (Balance 1 5 (pos 2000))
    ∷ Set (Balance 1 1 (pos 2000))
    ∷ New Sell 1 4 1 (pos 1000)
    ∷ New Sell 1 4 2 (pos 1000)
    ∷ New Sell 1 2 3 (pos 1000)
    ∷ New Sell 1 2 4 (pos 1000)
    ∷ []

morning_accepted : (answers_to opened morning ≡ 0 ∷ 0 ∷ 0 ∷ 0 ∷ 0 ∷ 0 ∷ 0 ∷ 0 ∷ 0 ∷ 0 ∷ [])
    × (group_in (end_of opened morning) 1 1 ≡ minus 16200000 ∷ pos 43200000 ∷ [])
unfolding computes
morning_accepted = (refl, refl)

-- tables 12 to 14: a buy of 1,000 K8D5, a put, fails the group's short limit; a sell of 1,000 K888 its own; a buy of 1,000
-- K885 passes
abbrev call_bought : Event
call_bought = New Buy 1 10 7 (pos 1000)

tables : (answers_to (end_of opened morning) (New Buy 1 3 5 (pos 1000) ∷ New Sell 1 13 6 (pos 1000) ∷ call_bought ∷ []) ≡ 24 ∷ 22 ∷ 0 ∷ [])
    × (group_in (end_of (end_of opened morning) (call_bought ∷ [])) 1 1 ≡ minus 13800000 ∷ pos 43200000 ∷ [])
unfolding computes
tables = (refl, refl)
