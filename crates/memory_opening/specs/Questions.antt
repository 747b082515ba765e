-- Document 01, "Roster": what its bytes say, and the questions of an opening, 1 to 4.
use Rattle.std.specs.Prelude.{◌+◌, ◌*◌, ◌&&◌, ◌∷◌}
use Rattle.integers.specs.Basics.{ℕ, Bool, List, [], eqb, length}
use Rattle.words.specs.Fields.{u8_at, u16_at, i32_at}
use Rattle.ledger.specs.Roster.{Roster}
use Rattle.limits.specs.Questions.{Question, first_no}
use Rattle.book.specs.Table.{q}
use Rattle.memory_layout.specs.Rosters.{listed, sizes_fit, names_fit, weights_fit, long_enough}

-- sizes first, then one byte per contract, its group, then per instrument one byte, its contract, and a weight
unfoldable pub roster_from : List ℕ → Roster
roster_from s =
    let contracts = u16_at s 4 in
    let instruments = u16_at s 6 in
    listed (u16_at s 0) (u16_at s 2) contracts instruments
    (λ c. u8_at s (7 + c))
    (λ i. u8_at s (7 + contracts + i))
    (λ i. i32_at s (4 + contracts + instruments + 4 * i))

-- 8 + contracts + 5 times instruments
unfoldable pub roster_length : Roster → ℕ
roster_length r = 8 + r.contracts + 5 * r.instruments

-- 2: are the sizes within their limits and the length exact?
unfoldable pub lengths_fit : List ℕ → Bool
lengths_fit s = sizes_fit (roster_from s) && eqb (length s) (roster_length (roster_from s))

-- the questions of an opening, over any memory and any bytes
unfoldable pub opening_questions : List ℕ → List ℕ → List Question
opening_questions m s =
    q 1 (long_enough m)
    ∷ q 2 (lengths_fit s)
    ∷ q 3 (names_fit (roster_from s))
    ∷ q 4 (weights_fit (roster_from s))
    ∷ []

unfoldable pub opening_answer : List ℕ → List ℕ → ℕ
opening_answer m s = first_no (opening_questions m s)
