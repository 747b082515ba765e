-- The roster's condition as facts, and back.
use Rattle.std.specs.Prelude.{◌≡◌, ◌&&◌}
use Rattle.integers.specs.Basics.{ℕ, true, List, nat_abs, leb, leb-true, le-leb}
use Rattle.limits.proofs.Answers.{both_true}
use Rattle.book.specs.Decoding.{between}
use Rattle.book.specs.Sound.{RosterFits}
use Rattle.book.proofs.Tables.{between_numbered}
use Rattle.memory_layout.specs.Rosters.{every, sizes_fit, names_fit, weights_fit}
use Rattle.memory_layout.specs.View.{roster_of}
use Rattle.memory_soundness.specs.Soundness.{roster_sound}
use Rattle.memory_layout.proofs.RosterLaws.{numbered_between}
use Rattle.memory_layout.proofs.Every.{every_out, every_in}
use Rattle.memory_soundness.proofs.RosterLaws.{sound_sizes, sizes_numbered}

module _ (m : List ℕ) where
  pub roster_out : roster_sound m ≡ true → RosterFits (roster_of m)
  unfolding roster_sound names_fit weights_fit
  roster_out e =
      let r = roster_of m in
      let n = sizes_numbered m (sound_sizes m e) in
      let whole = both_true (sizes_fit r && names_fit r) (weights_fit r) e in
      let names = both_true (every r.contracts (λ c. between 1 r.groups (r.group_of c)))
      (every r.instruments (λ i. between 1 r.contracts (r.contract_of i))) (both_true (sizes_fit r) (names_fit r) whole.0).1 in
      record {
        accounts = n.0;
        groups = n.1;
        contracts = n.2;
        instruments = n.3;
        group_of =
            λ c h. between_numbered r.groups (r.group_of c)
            (every_out (λ k. between 1 r.groups (r.group_of k)) r.contracts names.0 c h);
        contract_of =
            λ i h. between_numbered r.contracts (r.contract_of i)
            (every_out (λ k. between 1 r.contracts (r.contract_of k)) r.instruments names.1 i h);
        weight =
            λ i h. leb-true (nat_abs (r.weight i)) 1000000
            (every_out (λ k. leb (nat_abs (r.weight k)) 1000000) r.instruments whole.1 i h);
      }

  pub roster_in_lem : RosterFits (roster_of m) → roster_sound m ≡ true
  unfolding roster_sound sizes_fit names_fit weights_fit
  roster_in_lem f =
      let r = roster_of m in
      rw (
        numbered_between 16 r.accounts f.accounts,
        numbered_between 4 r.groups f.groups,
        numbered_between 8 r.contracts f.contracts,
        numbered_between 32 r.instruments f.instruments,
        every_in (λ c. between 1 r.groups (r.group_of c)) r.contracts
            (λ c h. numbered_between r.groups (r.group_of c) (f.group_of c h)),
        every_in (λ i. between 1 r.contracts (r.contract_of i)) r.instruments
            (λ i h. numbered_between r.contracts (r.contract_of i) (f.contract_of i h)),
      )
      (every_in (λ i. leb (nat_abs (r.weight i)) 1000000) r.instruments (λ i h. le-leb (nat_abs (r.weight i)) 1000000 (f.weight i h)))
