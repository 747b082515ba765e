-- The days and the starred edges in one memory, 65,536 zeros: nothing is left to assume.
use Rattle.std.specs.Prelude.{◌≤◌, ◌<◌, ◌≡◌, ◌∷◌, ◌++◌}
use Rattle.integers.specs.Basics.{ℕ, zero, suc, refl, ◌∙◌, sym, ap, subst, List, [], map, length, get_or, replicate}
use Rattle.integers.specs.Basics.{arith}
use Rattle.words.specs.Bytes.{Bytes}
use Rattle.book.specs.Edges.{Case, starred_edges, all_accepted}
use Rattle.book.proofs.Computed.{computes}
use Rattle.book.proofs.Edges.{starred_answers, starred_positions}
use Rattle.memory_opening.specs.Opening.{after_opening}
use Rattle.memory_reading.specs.Reading.{instrument_answer, instrument_report}
use Rattle.desk.specs.Step.{answer_to}
use Rattle.desk.specs.Days.{answers_over, memory_over}
use Rattle.claim.specs.Edges.{AllHold, edge_roster}
use Rattle.claim.proofs.Edges.{starred_edges_lem}
use Rattle.claim.specs.Days.{zero_memory, EdgesHold, Drawn}
use Rattle.claim.proofs.ListingDay.{listing_day}
use Rattle.claim.proofs.LongerDay.{longer_day}

abbrev of_zeros : ℕ → List ℕ
of_zeros n = replicate n 0

as_long : (n : ℕ) → length (of_zeros n) ≡ n
as_long zero = refl
as_long (suc n) = ap suc (as_long n)

each_a_byte : (n i : ℕ) → get_or (of_zeros n) i 0 < 256
each_a_byte zero i = omega arith
each_a_byte (suc n) zero = omega arith
each_a_byte (suc n) (suc i) = each_a_byte n i

are_bytes_lem : Bytes zero_memory
unfolding zero_memory
are_bytes_lem = each_a_byte 65536

long_enough_lem : 65536 ≤ length zero_memory
unfolding zero_memory
long_enough_lem = subst (λ n. 65536 ≤ n) (sym (as_long 65536)) (omega arith)

-- ---- the cases, each as it holds
module _ (m roster : List ℕ) where
  abbrev over : List (List ℕ) → List ℕ
  over = memory_over (after_opening m roster)

  each_accepted : (cs : List Case) → AllHold m roster cs
      → map (λ c. answers_over (after_opening m roster) c.events) cs ≡ map (λ c. all_accepted c.events) cs
  each_accepted [] h = refl
  each_accepted (c ∷ cs) h = rw (h.0.accepted, each_accepted cs h.1)

  each_answered : (cs : List Case) → AllHold m roster cs → map (λ c. answer_to (over c.events) c.order) cs ≡ map (λ c. c.answer) cs
  each_answered [] h = refl
  each_answered (c ∷ cs) h = rw (h.0.answered, each_answered cs h.1)

  each_readable : (cs : List Case) → AllHold m roster cs
      → map (λ c. instrument_answer (over (c.events ++ (c.order ∷ []))) 1 c.instrument) cs ≡ replicate (length cs) 0
  each_readable [] h = refl
  each_readable (c ∷ cs) h = rw (h.0.readable, each_readable cs h.1)

  each_reported : (cs : List Case) → AllHold m roster cs
      → map (λ c. instrument_report (over (c.events ++ (c.order ∷ []))) 1 c.instrument) cs ≡ map (λ c. c.positions) cs
  each_reported [] h = refl
  each_reported (c ∷ cs) h = rw (h.0.reported, each_reported cs h.1)

many_accepted : map (λ c. all_accepted c.events) starred_edges ≡ map (λ n. replicate n 0) (6 ∷ 6 ∷ 6 ∷ 4 ∷ 3 ∷ 3 ∷ 3 ∷ 3 ∷ 3 ∷ [])
unfolding computes
many_accepted = refl

edges_hold : EdgesHold
unfolding starred_edges
edges_hold =
    let all = starred_edges_lem zero_memory are_bytes_lem long_enough_lem in
    record {
      opens = all.0.opens;
      accepted = each_accepted zero_memory edge_roster starred_edges all ∙ many_accepted;
      answered = each_answered zero_memory edge_roster starred_edges all ∙ starred_answers;
      readable = each_readable zero_memory edge_roster starred_edges all;
      reported = each_reported zero_memory edge_roster starred_edges all ∙ starred_positions;
    }

pub drawn : Drawn
drawn = (listing_day zero_memory are_bytes_lem long_enough_lem, longer_day zero_memory are_bytes_lem long_enough_lem, edges_hold)
