-- Document 01's starred edges over bytes: the table of cases (crates/book/specs/Edges.antt), of a memory opened with its roster.
use Rattle.std.specs.Prelude.{◌≤◌, ◌≡◌, ◌∷◌, ◌++◌}
use Rattle.integers.specs.Basics.{ℕ, List, [], length}
use Rattle.words.specs.Bytes.{Bytes}
use Rattle.book.specs.Rosters.{roster_bytes}
use Rattle.book.specs.Edges.{Case, edge_tables, starred_edges, all_accepted}
use Rattle.memory_opening.specs.Questions.{opening_answer}
use Rattle.memory_opening.specs.Opening.{after_opening}
use Rattle.memory_reading.specs.Reading.{instrument_answer, instrument_report}
use Rattle.desk.specs.Step.{answer_to}
use Rattle.desk.specs.Days.{answers_over, memory_over}

-- of a memory m, opened with the bytes of a roster
pub record CaseHolds (m roster : List ℕ) (c : Case) : Type 0 where
  pub opens : opening_answer m roster ≡ 0
  pub accepted : answers_over (after_opening m roster) c.events ≡ all_accepted c.events
  pub answered : answer_to (memory_over (after_opening m roster) c.events) c.order ≡ c.answer
  pub readable : instrument_answer (memory_over (after_opening m roster) (c.events ++ (c.order ∷ []))) 1 c.instrument ≡ 0
  pub reported : instrument_report (memory_over (after_opening m roster) (c.events ++ (c.order ∷ []))) 1 c.instrument ≡ c.positions

abbrev pub AllHold : (m roster : List ℕ) → List Case → Type 0
AllHold m roster [] = Unit
AllHold m roster (c ∷ cs) = CaseHolds m roster c × AllHold m roster cs

unfoldable pub edge_roster : List ℕ
edge_roster = roster_bytes edge_tables

-- one theorem: in every memory that is long enough
abbrev pub StarredEdges : Type 0
StarredEdges = (m : List ℕ) → Bytes m → 65536 ≤ length m → AllHold m edge_roster starred_edges
