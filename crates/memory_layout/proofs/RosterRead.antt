-- The part with the roster says what the roster of the view says, of every number on it: so what is read there is the view's.
use Rattle.std.specs.Prelude.{◌≤◌, ◌≡◌}
use Rattle.integers.specs.Basics.{ℕ, refl, List, length, arith}
use Rattle.words.proofs.Parts.{length_part}
use Rattle.ledger.specs.Roster.{Numbered}
use Rattle.ledger.specs.Records.{roster_in}
use Rattle.memory_layout.specs.Layout.{roster_word}
use Rattle.memory_layout.specs.Rosters.{listed}
use Rattle.memory_layout.specs.View.{roster_part, roster_of}
use Rattle.memory_layout.proofs.RosterLaws.{numbered_between}

pub roster_long : (m : List ℕ) → 65536 ≤ length m → length (roster_part m) ≡ 608
roster_long m h = length_part m roster_word 76 (omega arith)

module _ (m : List ℕ) where
  pub instruments_same : (roster_in (roster_part m)).instruments ≡ (roster_of m).instruments
  unfolding roster_of listed
  instruments_same = refl

  pub group_same : (c : ℕ) → Numbered (roster_of m).contracts c → (roster_of m).group_of c ≡ (roster_in (roster_part m)).group_of c
  unfolding roster_of listed
  group_same c h = rw (numbered_between (roster_in (roster_part m)).contracts c h)

  pub contract_same : (i : ℕ) → Numbered (roster_of m).instruments i
      → (roster_of m).contract_of i ≡ (roster_in (roster_part m)).contract_of i
  unfolding roster_of listed
  contract_same i h = rw (numbered_between (roster_in (roster_part m)).instruments i h)

  pub weight_same : (i : ℕ) → Numbered (roster_of m).instruments i → (roster_of m).weight i ≡ (roster_in (roster_part m)).weight i
  unfolding roster_of listed
  weight_same i h = rw (numbered_between (roster_in (roster_part m)).instruments i h)

-- what the readers of the roster read
pub ruleset roster_read = (roster_long, group_same, contract_same)
