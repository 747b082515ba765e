-- Document 01's starred edges, computed of the plain book in `book`, hold of a memory, by the demands.
use Rattle.std.specs.Prelude.{◌≤◌, ◌≡◌, ◌∷◌, ◌++◌}
use Rattle.integers.specs.Basics.{ℕ, refl, ◌∙◌, ap, List, [], map, length}
use Rattle.words.specs.Bytes.{Bytes}
use Rattle.book.specs.Market.{derivatives}
use Rattle.book.specs.States.{begun}
use Rattle.book.specs.Positions.{instrument_in}
use Rattle.book.specs.Rosters.{roster_of_tables}
use Rattle.book.specs.Edges.{Case, edge_tables, starred_edges, outcome, expected}
use Rattle.book.proofs.Edges.{edges}
use Rattle.memory_opening.specs.Questions.{roster_from, opening_answer}
use Rattle.memory_opening.specs.Opening.{after_opening}
use Rattle.claim.specs.Edges.{CaseHolds, AllHold, edge_roster, StarredEdges}
use Rattle.claim.proofs.Demands.{demand_3}
use Rattle.claim.proofs.Plainly.{plainly}
use Rattle.claim.proofs.Carried.{bytes_apart, raws, answers_carried, memory_carried, state_carried, answer_carried}
use Rattle.claim.proofs.Rosters.{roster_read, reads}
use Rattle.claim.proofs.DaysOpened.{opens_long}

-- of a memory opened with the roster
module _ (m s : List ℕ) (bytes : Bytes m) (opens : opening_answer m s ≡ 0) where
  case_carried : (c : Case) → outcome (roster_from s) c ≡ expected c → CaseHolds m s c
  case_carried c h =
      let k = begun derivatives (roster_from s) in
      let start = after_opening m s in
      let plain = plainly m s bytes opens in
      let all = c.events ++ (c.order ∷ []) in
      let are = ap (λ x. x.bytes) h in
      let apart = bytes_apart c.events c.order are in
      let there = memory_carried start k plain all are in
      let kept = ap (λ x. instrument_in x 1 c.instrument) (state_carried start k plain all are) in
      let read = (demand_3 m s bytes opens (raws all are)).3 1 c.instrument (ap (λ x. x.account) h) (ap (λ x. x.instrument) h) in
      record {
        opens = opens;
        accepted = answers_carried start k plain c.events apart.0 ∙ ap (λ x. x.answers) h;
        answered = answer_carried start k plain c.events apart.0 c.order apart.1 ∙ ap (λ x. x.answer) h;
        readable = rw there read.0;
        reported = rw there (read.1 ∙ kept ∙ ap (λ x. x.positions) h);
      }

  all_carried : (cs : List Case) → map (outcome (roster_from s)) cs ≡ map expected cs → AllHold m s cs
  all_carried [] h = tt
  all_carried (c ∷ cs) h = (case_carried c cc, all_carried cs cc)

edge_roster_lem : (roster_from edge_roster ≡ roster_of_tables edge_tables)
    × ((m : List ℕ) → 65536 ≤ length m → opening_answer m edge_roster ≡ 0)
unfolding reads edge_roster
edge_roster_lem = (roster_read edge_roster, λ m long. opens_long m edge_roster long refl)

pub starred_edges_lem : StarredEdges
starred_edges_lem m bytes long =
    all_carried m edge_roster bytes (edge_roster_lem.1 m long) starred_edges (rw edge_roster_lem.0 edges)
