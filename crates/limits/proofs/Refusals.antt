-- Questions 21 to 24 by fillings: an order is refused by one of them exactly when some filling of the open orders passes a
-- limit on a side to which the order's own fills move the position.
use Rattle.std.specs.Prelude.{◌≡◌, ◌≢◌, ◌⊎◌, ◌↔◌, ◌||◌, ◌++◌, ◌≤ℤ◌, ◌<ℤ◌}
use Rattle.integers.specs.Basics.{ℕ, refl, inl, inr, ⊎_elim, Bool, true, false, not, cond, List, ℤ}
use Rattle.integers.specs.Basics.{arith, signed}
use Rattle.ledger.specs.declared.order.Order.{Order}
use Rattle.ledger.specs.Roster.{Roster, group_of_instrument}
use Rattle.ledger.specs.Positions.{Way, long, short, Scope, instrument, group, potential, position}
use Rattle.ledger.specs.Fillings.{Filling, balance_after}
use Rattle.ledger.specs.Moves.{Moves}
use Rattle.ledger.proofs.Ways.{by_test}
use Rattle.ledger.proofs.Reached.{past_iff}
use Rattle.limits.specs.Lines.{Lines, limit}
use Rattle.limits.specs.Questions.{Question, first_no, all_pass}
use Rattle.limits.specs.Asked.{moves_instrument, moves_group, within, position_questions}
use Rattle.limits.proofs.Answers.{passed, zero_pass, asked_true, asked_false, append_first, append_passed, append_refused}
use Rattle.limits.proofs.Asking.{moves_instrument_lem, moves_group_lem}

-- one of the four numbers, exactly where one of the four tests fails
abbrev pub PositionNumber : ℕ → Type 0
PositionNumber n = (n ≡ 21) ⊎ ((n ≡ 22) ⊎ ((n ≡ 23) ⊎ (n ≡ 24)))

position_number : (n : ℕ) → PositionNumber n → n ≢ 0
position_number n (inl e) = λ z. omega arith
position_number n (inr (inl e)) = λ z. omega arith
position_number n (inr (inr (inl e))) = λ z. omega arith
position_number n (inr (inr (inr e))) = λ z. omega arith

four : Bool → Bool → Bool → Bool → ℕ
four x y z t = cond x (cond y (cond z (cond t 0 24) 23) 22) 21

both_ways : (t : Way → Bool) → t long ≡ true → t short ≡ true → (w : Way) → t w ≡ true
both_ways t l s long = l
both_ways t l s short = s

one_fails : (x y z t : Bool) → PositionNumber (four x y z t) → (x ≡ false) ⊎ ((y ≡ false) ⊎ ((z ≡ false) ⊎ (t ≡ false)))
unfolding four
one_fails false y z t h = inl refl
one_fails true false z t h = inr (inl refl)
one_fails true true false t h = inr (inr (inl refl))
one_fails true true true false h = inr (inr (inr refl))
one_fails true true true true h =
    absurd (⊎_elim (λ e. omega arith) (⊎_elim (λ e. omega arith) (⊎_elim (λ e. omega arith) (λ e. omega arith))) h)

fails_one : (x y z t : Bool) → (x ≡ true → y ≡ true → z ≡ true → t ≡ true → ⊥) → PositionNumber (four x y z t)
unfolding four
fails_one false y z t h = inl refl
fails_one true false z t h = inr (inl refl)
fails_one true true false t h = inr (inr (inl refl))
fails_one true true true false h = inr (inr (inr refl))
fails_one true true true true h = absurd (h refl refl refl refl)

module _ (unit : Order → ℕ) (r : Roster) (ls : Lines) (orders : List Order) (S : ℕ → ℤ) (o : Order) where
  -- a limit is passed, on a side to which the order moves the position
  abbrev Past : Scope → Way → Type 0
  Past p w = limit r ls p w <ℤ potential unit r orders o.account S p w

  -- some filling of the orders passes a limit on a side to which the order's own fills move the position
  abbrev pub SomePasses : Type 0
  SomePasses =
      (p : Scope) × (w : Way) × Moves r o p w × ((f : Filling orders)
      × (limit r ls p w <ℤ position r (balance_after unit o.account S f) p w))

  -- the test of one question, of a scope that the order moves where `moves`
  abbrev passes : Bool → Scope → Way → Bool
  passes moves p w = not moves || within unit r ls orders S o p w

  abbrev own_scope : Scope
  own_scope = instrument o.instrument

  abbrev own_group : Scope
  own_group = group (group_of_instrument r o.instrument)

  within_le : (p : Scope) (w : Way) → within unit r ls orders S o p w ≡ true → potential unit r orders o.account S p w ≤ℤ limit r ls p w
  unfolding within
  within_le p w e = omega signed

  no_past : (moves : Bool) (p : Scope) (w : Way) → (moves ≡ true → Moves r o p w) → passes moves p w ≡ false → Moves r o p w × Past p w
  unfolding within
  no_past moves p w m e =
      let h = asked_false moves (within unit r ls orders S o p w) e in
      (m h.0, omega (signed, h.1))

  -- the tests of the four questions
  abbrev instrument_passes : Way → Bool
  instrument_passes w = passes (moves_instrument o w) own_scope w

  abbrev group_passes : Way → Bool
  group_passes w = passes (moves_group r o w) own_group w

  questions_four : first_no (position_questions unit r ls orders S o) ≡ four (instrument_passes long) (instrument_passes short)
      (group_passes long) (group_passes short)
  unfolding first_no position_questions four
  questions_four = refl

  -- where all four pass, every position that the order moves is within its limit
  all_within : ((w : Way) → instrument_passes w ≡ true) → ((w : Way) → group_passes w ≡ true) → (p : Scope) (w : Way) → Moves r o p w
      → potential unit r orders o.account S p w ≤ℤ limit r ls p w
  all_within yi yg (instrument i) w m =
      rw (← m.0) (within_le own_scope w (asked_true (moves_instrument o w) (within unit r ls orders S o own_scope w) (yi w)
      ((moves_instrument_lem r o w).1 (refl, m.1))))
  all_within yi yg (group g) w m =
      rw (← m.0) (within_le own_group w (asked_true (moves_group r o w) (within unit r ls orders S o own_group w) (yg w)
      ((moves_group_lem r o w).1 (refl, m.1, m.2))))

  pub accepted_within : first_no (position_questions unit r ls orders S o) ≡ 0 → (p : Scope) (w : Way) → Moves r o p w
      → potential unit r orders o.account S p w ≤ℤ limit r ls p w
  unfolding position_questions
  accepted_within e =
      let qs = position_questions unit r ls orders S o in
      let yes = passed qs (zero_pass qs (omega arith) e) in
      all_within (both_ways instrument_passes (yes 21) (yes 22)) (both_ways group_passes (yes 23) (yes 24))

  pub refused_iff : PositionNumber (first_no (position_questions unit r ls orders S o)) ↔ SomePasses
  refused_iff = (
    λ n. ⊎_elim (instrument_no long) (⊎_elim (instrument_no short) (⊎_elim (group_no long) (group_no short)))
        (one_fails (instrument_passes long) (instrument_passes short) (group_passes long) (group_passes short) (rw questions_four at n)),
    λ h. rw questions_four
        (fails_one (instrument_passes long) (instrument_passes short) (group_passes long) (group_passes short)
        (λ il is gl gs.
        let past = (past_iff unit r orders o.account S h.0 h.1 (limit r ls h.0 h.1)).1 h.3 in
        let le = all_within (both_ways _ il is) (both_ways _ gl gs) h.0 h.1 h.2 in
        omega signed)),
  )
    where
      some_past : (p : Scope) (w : Way) → Moves r o p w × Past p w → SomePasses
      some_past p w h = (p, w, h.0, (past_iff unit r orders o.account S p w (limit r ls p w)).0 h.1)

      instrument_no : (w : Way) → instrument_passes w ≡ false → SomePasses
      instrument_no w e = some_past own_scope w (no_past (moves_instrument o w) own_scope w (moves_instrument_lem r o w).0 e)

      group_no : (w : Way) → group_passes w ≡ false → SomePasses
      group_no w e = some_past own_group w (no_past (moves_group r o w) own_group w (moves_group_lem r o w).0 e)

  -- so it is whatever else is asked behind them
  pub refused_before : (ys : List Question) → (PositionNumber (first_no ys) → ⊥)
      → PositionNumber (first_no (position_questions unit r ls orders S o ++ ys)) ↔ SomePasses
  refused_before ys others =
      let qs = position_questions unit r ls orders S o in (
        λ n. by_test (all_pass qs) (λ t. absurd (others (rw (append_passed qs ys t) at n)))
            (λ t. refused_iff.0 (rw (append_first qs ys, t) at n)),
        λ h. let n = refused_iff.1 h in rw (append_refused qs ys (position_number (first_no qs) n)) n,
      )
