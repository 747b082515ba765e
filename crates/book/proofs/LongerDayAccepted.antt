-- The longer day's accepted orders: what demand 3 promises after each later list, until a LIMIT sets the limit again.
use Rattle.std.specs.Prelude.{◌≡◌, ◌∷◌, ◌++◌}
use Rattle.integers.specs.Basics.{ℕ, refl, inl, true, List, [], ℤ, pos, negsuc, arith}
use Rattle.ledger.specs.declared.order.Side.{Side}
use Rattle.ledger.specs.declared.order.Side.TheVariants.{Buy, Sell}
use Rattle.ledger.specs.Positions.{Scope, Way, instrument, group, long, short}
use Rattle.ledger.specs.Fillings.{Filling, none, fill}
use Rattle.ledger.specs.Moves.{Moves}
use Rattle.book.specs.Market.{derivatives}
use Rattle.book.specs.States.{State, begun}
use Rattle.book.specs.Demand3.{limit_of, position_of, position_after, NotSetAgain}
use Rattle.book.specs.EventBytes.{block_bytes, group_line, buy}
use Rattle.book.specs.Written.{written, written_all}
use Rattle.book.specs.LongerDay.{morning, put_sold_to_the_limit, put_bought_to_the_limit, raised_to_the_limit, afternoon, evening}
use Rattle.book.proofs.Demand3InFull.{memory_with, state_with, none_later}
use Rattle.book.proofs.Plain.{plain}
use Rattle.book.proofs.PlainPromise.{state_of, Meets, answer_to, state_then, Within, none_again, promised}
use Rattle.book.proofs.LongerDay.{longer_roster, longer_fits, order, weighs_more, weighs_less}
use Rattle.book.proofs.Computed.{computes}

abbrev opened : State
opened = begun derivatives longer_roster

-- account 1's position right after N, and after the afternoon
abbrev Stays : List ℕ → Scope → Way → ℤ → Type 0
Stays n p w figure =
    Within longer_roster morning n [] 1 p w figure × Within longer_roster morning n afternoon 1 p w figure

module _ (n : List ℕ) (i id : ℕ) (s : Side) (total : ℕ) (p : Scope) (w : Way) where
  both : Meets longer_roster morning n (order id i s total) → answer_to longer_roster morning n ≡ 0
      → Moves (state_of longer_roster (written_all morning)).roster (order id i s total) p w
      → none_again longer_roster morning n 1 p afternoon ≡ true
      → Stays n p w (limit_of (state_of longer_roster (written_all morning)) 1 p w)
  both j zero moves test = (
    promised longer_roster morning n longer_fits (order id i s total) j zero p w moves [] refl,
    promised longer_roster morning n longer_fits (order id i s total) j zero p w moves afternoon test,
  )

-- a put sold, to the group's limit: it moves instrument 2 short and group 1 long
put_sold_lem : Stays put_sold_to_the_limit (instrument 2) short (pos 100) × Stays put_sold_to_the_limit (group 1) long (pos 600000)
unfolding computes
put_sold_lem = (
  both put_sold_to_the_limit 2 8 Sell 24 (instrument 2) short (refl, refl) refl (refl, refl) refl,
  both put_sold_to_the_limit 2 8 Sell 24 (group 1) long (refl, refl) refl (refl, weighs_less, refl) refl,
)

-- a put bought, to the group's short limit: it moves instrument 2 long and group 1 short
put_bought_lem : Stays put_bought_to_the_limit (instrument 2) long (pos 100) × Stays put_bought_to_the_limit (group 1) short (pos 400000)
unfolding computes
put_bought_lem = (
  both put_bought_to_the_limit 2 8 Buy 76 (instrument 2) long (refl, refl) refl (refl, refl) refl,
  both put_bought_to_the_limit 2 8 Buy 76 (group 1) short (refl, refl) refl (refl, weighs_less, refl) refl,
)

-- order 7, a buy, raised to the group's limit: it moves instrument 1 and group 1 long
raised : Stays raised_to_the_limit (instrument 1) long (pos 100) × Stays raised_to_the_limit (group 1) long (pos 600000)
unfolding computes
raised = (
  both raised_to_the_limit 1 7 Buy 62 (instrument 1) long (refl, refl) refl (refl, refl) refl,
  both raised_to_the_limit 1 7 Buy 62 (group 1) long (refl, refl) refl (refl, weighs_more, refl) refl,
)

-- ---- the positions as they stand: N's instrument and group, right after it and after the afternoon
abbrev standing : List ℕ → ℕ → Way → Way → List ℤ
standing n i w v =
    position_of (state_then longer_roster morning n []) 1 (instrument i) w
    ∷ position_of (state_then longer_roster morning n []) 1 (group 1) v
    ∷ position_of (state_then longer_roster morning n afternoon) 1 (instrument i) w
    ∷ position_of (state_then longer_roster morning n afternoon) 1 (group 1) v
    ∷ []

positions : (standing put_sold_to_the_limit 2 short long ≡ pos 0 ∷ negsuc 19999 ∷ pos 24 ∷ pos 220000 ∷ [])
    × (standing put_bought_to_the_limit 2 long short ≡ pos 0 ∷ pos 20000 ∷ pos 24 ∷ pos 20000 ∷ [])
    × (standing raised_to_the_limit 1 long long ≡ negsuc 1 ∷ negsuc 19999 ∷ pos 10 ∷ pos 100000 ∷ [])
unfolding computes
positions = (refl, refl, refl)

-- ---- the evening's LIMIT sets the group's limit again, so that nothing is claimed from there on
set_again : NotSetAgain plain
    (memory_with plain opened opened (written_all morning) (written put_sold_to_the_limit))
    (state_with plain opened opened (written_all morning) (written put_sold_to_the_limit)) 1 (group 1)
    (written_all (afternoon ++ evening)) → ⊥
unfolding computes
set_again out =
    (none_later plain opened opened (written_all morning) (written put_sold_to_the_limit) 1 (group 1)
    (written_all (afternoon ++ evening))).0 out
    (written_all (afternoon ++ (block_bytes 1 1 0 0 ∷ []))) (written (group_line 100 100)) (written (buy 1 9 70) ∷ []) refl refl (inl refl)

-- and by then the limit is another, and order 9 may fill past the one that N was judged by: to 920,000
abbrev at_night : State
at_night = state_then longer_roster morning put_sold_to_the_limit (afternoon ++ evening)

by_then : (limit_of at_night 1 (group 1) long ≡ pos 1000000)
    × ((f : Filling at_night.book.orders) × (position_after at_night 1 (group 1) long f ≡ pos 920000))
unfolding computes
by_then = (refl, (fill {o = order 9 1 Buy 70} 70 (omega arith) none, refl))

-- of instrument 2 it is: no LIMIT set its line
still_within : Within longer_roster morning put_sold_to_the_limit (afternoon ++ evening) 1 (instrument 2) short (pos 100)
unfolding computes
still_within =
    promised longer_roster morning put_sold_to_the_limit longer_fits (order 8 2 Sell 24) (refl, refl) refl (instrument 2) short (refl, refl)
    (afternoon ++ evening) refl
