-- The tables of a roster say what the roster says: word n of each is that of number n. And how long each is.
use Rattle.std.specs.Prelude.{◌≤◌, ◌≡◌}
use Rattle.integers.specs.Basics.{ℕ, ap, List, length, arith}
use Rattle.integers.specs.TwosComplement.{signed_of}
use Rattle.words.specs.Words.{word_at, signed_at}
use Rattle.words.proofs.Parts.{word_part, length_part}
use Rattle.ledger.specs.Records.{group_table, contract_table, weight_table, roster_in, roster_bytes}

module _ (s : List ℕ) where
  pub group_entry_lem : (c : ℕ) → c ≤ 8 → word_at (group_table s) c ≡ (roster_in s).group_of c
  unfolding roster_in
  group_entry_lem c few = word_part s 3 9 c (omega arith)

  pub contract_entry_lem : (i : ℕ) → i ≤ 32 → word_at (contract_table s) i ≡ (roster_in s).contract_of i
  unfolding roster_in
  contract_entry_lem i few = word_part s 11 33 i (omega arith)

  pub weight_entry : (i : ℕ) → i ≤ 32 → signed_at (weight_table s) i ≡ (roster_in s).weight i
  unfolding roster_in signed_at
  weight_entry i few = ap (signed_of 64) (word_part s 43 33 i (omega arith))

  pub tables_long : roster_bytes ≤ length s
      → (length (group_table s) ≡ 72) × (length (contract_table s) ≡ 264) × (length (weight_table s) ≡ 264)
  tables_long h = (length_part s 3 9 (omega arith), length_part s 11 33 (omega arith), length_part s 43 33 (omega arith))
