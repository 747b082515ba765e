-- Reading positions: S, PCI and PVI of an account and instrument, or PCC and PVC of an account and group.
use Rattle.std.specs.Prelude.{◌∷◌}
use Rattle.integers.specs.Basics.{ℕ, cond, List, [], ℤ, eqb}
use Rattle.ledger.specs.Positions.{Scope, Way, long, short, instrument, group, potential}
use Rattle.limits.specs.Questions.{Question, first_no}
use Rattle.book.specs.Decoding.{between}
use Rattle.book.specs.Table.{q, is_listed}
use Rattle.book.specs.declared.Item.{Item}
use Rattle.memory_layout.specs.View.{market_of, roster_of, balances_of, open_orders}
use Rattle.memory_soundness.specs.Soundness.{sound_desk}

-- refused by 5, 7 and 8 in that order; `items` is how many instruments or groups there are
unfoldable pub reading_questions : List ℕ → ℕ → ℕ → ℕ → List Question
reading_questions m items a n =
    q 5 (sound_desk m) ∷ q 7 (between 1 (roster_of m).accounts a) ∷ q 8 (between 1 items n) ∷ []

unfoldable pub instrument_answer : List ℕ → ℕ → ℕ → ℕ
instrument_answer m a i = first_no (reading_questions m (roster_of m).instruments a i)

unfoldable pub group_answer : List ℕ → ℕ → ℕ → ℕ
group_answer m a g = first_no (reading_questions m (roster_of m).groups a g)

-- the answer to a reading of an item
unfoldable pub item_answer : List ℕ → ℕ → Item → ℕ
item_answer m a item =
    first_no (q 5 (sound_desk m) ∷ q 7 (between 1 (roster_of m).accounts a) ∷ q 8 (is_listed (roster_of m) item) ∷ [])

-- the potential position that the desk's open orders and balances give
unfoldable pub position_in : List ℕ → ℕ → Scope → Way → ℤ
position_in m a p w = potential (market_of m).unit (roster_of m) (open_orders m) a (balances_of m a) p w

-- S, PCI, PVI
unfoldable pub instrument_report : List ℕ → ℕ → ℕ → List ℤ
instrument_report m a i =
    balances_of m a i ∷ position_in m a (instrument i) long ∷ position_in m a (instrument i) short ∷ []

-- PCC, PVC
unfoldable pub group_report : List ℕ → ℕ → ℕ → List ℤ
group_report m a g = position_in m a (group g) long ∷ position_in m a (group g) short ∷ []

-- what the output holds: the report, or on a refusal what it held
unfoldable pub reported : ℕ → List ℤ → List ℤ → List ℤ
reported answer report before = cond (eqb answer 0) report before
