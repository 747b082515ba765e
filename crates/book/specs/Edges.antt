-- Document 01's starred edges as one table of cases, in bytes, and what the plain book gives of a case.
use Rattle.std.specs.Prelude.{◌∷◌, ◌++◌}
use Rattle.integers.specs.Basics.{ℕ, Bool, true, List, [], ℤ, pos, negsuc, neg_ℤ}
use Rattle.ledger.specs.Roster.{Roster}
use Rattle.book.specs.Market.{derivatives}
use Rattle.book.specs.Decoding.{between, decode}
use Rattle.book.specs.Table.{answer}
use Rattle.book.specs.States.{begun}
use Rattle.book.specs.Positions.{instrument_in}
use Rattle.book.specs.Days.{answers_to, end_of, decoded, all_bytes}
use Rattle.book.specs.EventBytes.{line, group_line, balance, buy, sell}
use Rattle.book.specs.Rosters.{Tables}

-- events that are accepted, then N, its answer, and the positions of account 1 and an instrument after it
pub record Case : Type 0 where
  pub events : List (List ℕ)
  pub order : List ℕ
  pub answer : ℕ
  pub instrument : ℕ
  pub positions : List ℤ

-- one account, group and contract; instruments 1, 2 and 3 of weight 10000, −5000 and 0
unfoldable pub edge_tables : Tables
edge_tables =
    record {
      accounts = 1;
      groups = 1;
      group_of = 1 ∷ [];
      contract_of = 1 ∷ 1 ∷ 1 ∷ [];
      weights = pos 10000 ∷ negsuc 4999 ∷ pos 0 ∷ [];
    }

abbrev minus : ℕ → ℤ
minus n = neg_ℤ (pos n)

-- wide limits; S −10,000, B 5,000, V 5,000 with these TVI and LVI; S with this LCI
abbrev wide : List (List ℕ)
wide = line 1000000 1000000 1000000000 1000000000 ∷ group_line 1000000000 1000000000 ∷ []

abbrev table_five : (tvi lvi : ℕ) → List (List ℕ)
table_five tvi lvi = wide ++ (balance (minus 10000) ∷ buy 1 1 5000 ∷ sell 1 2 5000 ∷ line 10000 tvi 1000000 lvi ∷ [])

abbrev with_long_limit : ℤ → ℕ → List (List ℕ)
with_long_limit s lci = line 1000000 1000000 lci 1000000000 ∷ group_line 1000000000 1000000000 ∷ balance s ∷ []

abbrev case : List (List ℕ) → List ℕ → ℕ → ℕ → ℤ → ℤ → ℤ → Case
case es n answer i s pci pvi =
    record { events = es; order = n; answer = answer; instrument = i; positions = s ∷ pci ∷ pvi ∷ [] }

unfoldable pub starred_edges : List Case
starred_edges =
    case (table_five 2500 21000) (sell 1 3 10000) 20 1 (minus 10000) (minus 5000) (pos 15000)
    ∷ case (table_five 10000 21000) (sell 1 3 10000) 22 1 (minus 10000) (minus 5000) (pos 15000)
    ∷ case (table_five 10000 25000) (sell 1 3 10000) 0 1 (minus 10000) (minus 5000) (pos 25000)
    ∷ case (wide ++ (balance (pos 100000) ∷ buy 1 1 50000 ∷ [])) (sell 1 2 200000) 0 1 (pos 100000) (pos 150000) (pos 100000)
    ∷ case (wide ++ (balance (minus 5000) ∷ [])) (buy 1 1 1000) 0 1 (minus 5000) (minus 4000) (pos 5000)
    ∷ case (with_long_limit (minus 2) 0) (buy 1 1 2) 0 1 (minus 2) (pos 0) (pos 2)
    ∷ case (with_long_limit (minus 2) 0) (buy 1 1 3) 21 1 (minus 2) (minus 2) (pos 2)
    ∷ case (wide ++ (group_line 0 1000000 ∷ [])) (sell 2 1 1) 23 2 (pos 0) (pos 0) (pos 0)
    ∷ case (wide ++ (group_line 0 0 ∷ [])) (sell 3 1 1) 0 3 (pos 0) (pos 0) (pos 1)
    ∷ []

-- ---- what a case comes to: are its events bytes, and account 1 and the instrument on the roster, the answers to the events and to N,
-- the positions at the end
pub record CaseOutcome : Type 0 where
  pub bytes : Bool
  pub account : Bool
  pub instrument : Bool
  pub answers : List ℕ
  pub answer : ℕ
  pub positions : List ℤ

-- at the plain book of roster r
abbrev pub outcome : Roster → Case → CaseOutcome
outcome r c =
    let k = begun derivatives r in
    let all = c.events ++ (c.order ∷ []) in
    record {
      bytes = all_bytes all;
      account = between 1 r.accounts 1;
      instrument = between 1 r.instruments c.instrument;
      answers = answers_to k (decoded c.events);
      answer = answer (end_of k (decoded c.events)) (decode c.order);
      positions = instrument_in (end_of k (decoded all)) 1 c.instrument;
    }

abbrev pub all_accepted : List (List ℕ) → List ℕ
all_accepted [] = []
all_accepted (e ∷ es) = 0 ∷ all_accepted es

-- as the case says
abbrev pub expected : Case → CaseOutcome
expected c =
    record {
      bytes = true;
      account = true;
      instrument = true;
      answers = all_accepted c.events;
      answer = c.answer;
      positions = c.positions;
    }
