-- A desk's memory as an opening writes it: every word 0 but the kind of desk and the roster.
use Rattle.std.specs.Prelude.{◌+◌, ◌∷◌}
use Rattle.integers.specs.Basics.{ℕ, zero, suc, List, [], ℤ}
use Rattle.words.specs.Words.{put_word, put_signed, put_words}
use Rattle.ledger.specs.Roster.{Roster}
use Rattle.memory_layout.specs.Layout.{memory_words, kind_word, roster_word}

-- words 0 to n − 1 made 0
unfoldable pub cleared : List ℕ → ℕ → List ℕ
cleared m zero = m
cleared m (suc n) = put_word (cleared m n) n 0

-- the kind of desk: derivatives
abbrev pub store_kind : List ℕ → List ℕ
store_kind m = put_word m kind_word 1

-- numbers 1 to n written, each by `put` at its own place
unfoldable pub written : (List ℕ → ℕ → List ℕ) → List ℕ → ℕ → List ℕ
written put m zero = m
written put m (suc n) = put (written put m n) (suc n)

-- the group of a contract, the contract and the weight of an instrument
abbrev pub store_group_of : List ℕ → ℕ → ℕ → List ℕ
store_group_of m contract group = put_word m (roster_word + 3 + contract) group

abbrev pub store_contract_of : List ℕ → ℕ → ℕ → List ℕ
store_contract_of m instrument contract = put_word m (roster_word + 11 + instrument) contract

abbrev pub store_weight_of : List ℕ → ℕ → ℤ → List ℕ
store_weight_of m instrument weight = put_signed m (roster_word + 43 + instrument) weight

-- the roster: its sizes, then of numbers 1 to n the groups of contracts, the contracts of instruments, their weights
unfoldable pub with_sizes : List ℕ → ℕ → ℕ → ℕ → ℕ → List ℕ
with_sizes m accounts groups contracts instruments = put_words m roster_word (accounts ∷ groups ∷ contracts ∷ instruments ∷ [])

abbrev pub groups_written : (ℕ → ℕ) → List ℕ → ℕ → List ℕ
groups_written group_of m n = written (λ l c. store_group_of l c (group_of c)) m n

abbrev pub contracts_written : (ℕ → ℕ) → List ℕ → ℕ → List ℕ
contracts_written contract_of m n = written (λ l i. store_contract_of l i (contract_of i)) m n

abbrev pub weights_written : (ℕ → ℤ) → List ℕ → ℕ → List ℕ
weights_written weight m n = written (λ l i. store_weight_of l i (weight i)) m n

unfoldable pub with_roster : List ℕ → Roster → List ℕ
with_roster m r =
    let sized = with_sizes m r.accounts r.groups r.contracts r.instruments in
    let grouped = groups_written r.group_of sized r.contracts in
    let named = contracts_written r.contract_of grouped r.instruments in
    weights_written r.weight named r.instruments

-- the memory of a desk that has just begun with a roster
unfoldable pub begun_memory : List ℕ → Roster → List ℕ
begun_memory m r = with_roster (store_kind (cleared m memory_words)) r
