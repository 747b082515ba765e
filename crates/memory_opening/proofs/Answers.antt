-- What the prover unfolds of the questions of an opening, as one name: for question 2, and for an opening.
use Rattle.limits.specs.Questions.{first_no}
use Rattle.memory_layout.specs.Rosters.{listed, sizes_fit, long_enough}
use Rattle.memory_layout.specs.Opening.{begun_memory}
use Rattle.memory_opening.specs.Questions.{roster_from, roster_length, lengths_fit, opening_questions, opening_answer}
use Rattle.memory_opening.specs.Opening.{opened, after_opening}

unfoldable pub lengths_parts : Unit {0}
unfolding lengths_fit sizes_fit roster_length roster_from listed
lengths_parts = tt

unfoldable pub opening_parts : Unit {0}
unfolding opening_answer opening_questions first_no long_enough after_opening opened begun_memory
opening_parts = tt
