-- By demand 2 a roster that passes questions 2 to 4 opens a memory that is long enough; and what the days compute with.
use Rattle.std.specs.Prelude.{◌≤◌, ◌≡◌}
use Rattle.integers.specs.Basics.{ℕ, true, List, length, le-leb}
use Rattle.limits.specs.Questions.{all_pass}
use Rattle.memory_layout.specs.Rosters.{long_enough}
use Rattle.memory_opening.specs.Questions.{opening_questions, opening_answer}
use Rattle.claim.proofs.Rosters.{roster_questions, reads}
use Rattle.claim.specs.Days.{listing_roster, longer_roster}
use Rattle.claim.proofs.Demands.{demand_2}

pub opens_long : (m s : List ℕ) → 65536 ≤ length m → all_pass (roster_questions s) ≡ true → opening_answer m s ≡ 0
unfolding opening_questions all_pass long_enough
opens_long m s enough rest = (demand_2.roster_accepted m s).1 (rw (le-leb 65536 (length m) enough) rest)

-- all that the two rosters compute with, beside what the events do
unfoldable pub opened : Unit {0}
unfolding reads listing_roster longer_roster
opened = tt
