-- The roster that a memory holds: what acceptance asks of the part with it, and what its sizes say.
use Rattle.std.specs.Prelude.{◌≤◌, ◌≡◌, ◌&&◌}
use Rattle.integers.specs.Basics.{ℕ, true, List, nat_abs, leb, length, arith}
use Rattle.words.specs.Words.{word_at, signed_at}
use Rattle.ledger.specs.Roster.{Numbered}
use Rattle.ledger.specs.Records.{group_table, contract_table, weight_table}
use Rattle.ledger.proofs.RosterTables.{group_entry_lem, contract_entry_lem, weight_entry}
use Rattle.limits.proofs.Answers.{both_true}
use Rattle.book.specs.Decoding.{between}
use Rattle.book.proofs.Tables.{between_numbered}
use Rattle.memory_layout.specs.Rosters.{every, sizes_fit, names_fit, weights_fit}
use Rattle.memory_layout.specs.View.{roster_part, roster_of}
use Rattle.memory_soundness.specs.Soundness.{roster_sound}
use Rattle.memory_layout.specs.Readable.{Readable}
use Rattle.memory_layout.proofs.RosterRead.{group_same, contract_same, weight_same}
use Rattle.memory_layout.proofs.Every.{every_same}

module _ (m : List ℕ) where
  -- ---- what the sizes say
  pub sizes_numbered : sizes_fit (roster_of m) ≡ true → Numbered 16 (roster_of m).accounts × Numbered 4 (roster_of m).groups
      × Numbered 8 (roster_of m).contracts × Numbered 32 (roster_of m).instruments
  unfolding sizes_fit
  sizes_numbered e =
      let r = roster_of m in
      let x = both_true (between 1 16 r.accounts && between 1 4 r.groups && between 1 8 r.contracts)
      (between 1 32 r.instruments) e in
      let y = both_true (between 1 16 r.accounts && between 1 4 r.groups) (between 1 8 r.contracts) x.0 in
      let z = both_true (between 1 16 r.accounts) (between 1 4 r.groups) y.0 in (
        between_numbered 16 r.accounts z.0,
        between_numbered 4 r.groups z.1,
        between_numbered 8 r.contracts y.1,
        between_numbered 32 r.instruments x.1,
      )

  -- ---- acceptance, asked of the tables of the part with the roster
  pub names_tests : sizes_fit (roster_of m) ≡ true → names_fit (roster_of m) ≡ (every (roster_of m).contracts
      (λ c. between 1 (roster_of m).groups (word_at (group_table (roster_part m)) c)) && every (roster_of m).instruments
      (λ i. between 1 (roster_of m).contracts (word_at (contract_table (roster_part m)) i)))
  unfolding names_fit
  names_tests e =
      let n = sizes_numbered e in
      rw (
        every_same (λ c. between 1 (roster_of m).groups ((roster_of m).group_of c))
            (λ c. between 1 (roster_of m).groups (word_at (group_table (roster_part m)) c)) (roster_of m).contracts
            (λ c h. rw (group_same m c h, group_entry_lem (roster_part m) c (omega (arith, h, n.2.1)))),
        every_same (λ i. between 1 (roster_of m).contracts ((roster_of m).contract_of i))
            (λ i. between 1 (roster_of m).contracts (word_at (contract_table (roster_part m)) i)) (roster_of m).instruments
            (λ i h. rw (contract_same m i h, contract_entry_lem (roster_part m) i (omega (arith, h, n.3.1)))),
      )

  pub weights_tests : sizes_fit (roster_of m) ≡ true → weights_fit (roster_of m) ≡ every (roster_of m).instruments
      (λ i. leb (nat_abs (signed_at (weight_table (roster_part m)) i)) 1000000)
  unfolding weights_fit
  weights_tests e =
      every_same _ _ (roster_of m).instruments
      (λ i h. rw (weight_same m i h, weight_entry (roster_part m) i (omega (arith, h, (sizes_numbered e).3.1))))

  pub sound_sizes : roster_sound m ≡ true → sizes_fit (roster_of m) ≡ true
  unfolding roster_sound
  sound_sizes e =
      (both_true (sizes_fit (roster_of m)) (names_fit (roster_of m))
      (both_true (sizes_fit (roster_of m) && names_fit (roster_of m)) (weights_fit (roster_of m)) e).0).0

  pub readable : 65536 ≤ length m → sizes_fit (roster_of m) ≡ true → Readable m
  readable h e =
      let n = sizes_numbered e in
      record { long = h; accounts = n.0.1; groups = n.1.1; contracts = n.2.1; instruments = n.3.1 }
