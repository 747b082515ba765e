-- Sums over the instruments of a group: order, strictness, sides.
use Rattle.std.specs.Prelude.{◌<◌, ◌≡◌, ◌≢◌, ◌+ℤ◌, ◌≤ℤ◌, ◌<ℤ◌}
use Rattle.integers.specs.Basics.{ℕ, zero, suc, refl, ◌∙◌, sym, cond, ℤ, pos, neg_ℤ, eqb, arith, eq-eqb}
use Rattle.integers.specs.Basics.{signed, difference_parts}
use Rattle.integers.specs.Sum.{sum_to, below, sum_to_mono, sum_to_same, sum_to_change, sum_over_negated}
use Rattle.ledger.specs.Roster.{Roster, group_of_instrument, Numbered}
use Rattle.ledger.specs.Positions.{Way, long, short, toward, sum_group}
use Rattle.ledger.proofs.Ways.{by_number}
use Rattle.ledger.proofs.Linear.{linear}

-- a sum grows where no term falls and one grows
sum_to_strict : (f g : ℕ → ℤ) (n j : ℕ) → j < n → ((i : ℕ) → i < n → f i ≤ℤ g i) → f j <ℤ g j → sum_to f n <ℤ sum_to g n
sum_to_strict f g n j b mono grows =
    omega (
      linear,
      sum_to_mono raised g n at_most,
      sum_to_change f raised n j b (λ i _. elsewhere i),
      here,
      difference_parts (raised j) (f j),
    )
  where
    raised : ℕ → ℤ
    raised i = cond (eqb i j) (f i +ℤ pos 1) (f i)

    here : raised j ≡ f j +ℤ pos 1
    here = by_number j j (λ t. cond t (f j +ℤ pos 1) (f j) ≡ f j +ℤ pos 1) (λ e. refl) (λ h. absurd (h refl))

    elsewhere : (i : ℕ) → i ≢ j → f i ≡ raised i
    elsewhere i apart = by_number i j (λ t. f i ≡ cond t (f i +ℤ pos 1) (f i)) (λ e. absurd (apart e)) (λ h. refl)

    at_most : (i : ℕ) → i < n → raised i ≤ℤ g i
    at_most i l =
        by_number i j (λ t. cond t (f i +ℤ pos 1) (f i) ≤ℤ g i) (λ e. let k : f i <ℤ g i = rw e grows in
        omega linear) (λ h. mono i l)

-- the term of instrument j + 1 in the sum over group g
abbrev pub group_term : Roster → ℕ → (ℕ → ℤ) → ℕ → ℤ
group_term r g f j = cond (eqb (group_of_instrument r (suc j)) g) (f (suc j)) (pos 0)

module _ (r : Roster) (g : ℕ) where
  -- instrument i is of the group
  abbrev pub Of : ℕ → Type 0
  Of i = Numbered r.instruments i × (group_of_instrument r i ≡ g)

  term_mono : (f h : ℕ → ℤ) → ((i : ℕ) → Of i → f i ≤ℤ h i) → (j : ℕ) → j < r.instruments → group_term r g f j ≤ℤ group_term r g h j
  term_mono f h le j l =
      by_number (group_of_instrument r (suc j)) g (λ t. cond t (f (suc j)) (pos 0) ≤ℤ cond t (h (suc j)) (pos 0))
      (λ e. le (suc j) (omega arith, e)) (λ _. omega signed)

  pub group_mono : (f h : ℕ → ℤ) → ((i : ℕ) → Of i → f i ≤ℤ h i) → sum_group r g f ≤ℤ sum_group r g h
  unfolding sum_group
  group_mono f h le = sum_to_mono (group_term r g f) (group_term r g h) r.instruments (term_mono f h le)

  pub group_same : (f h : ℕ → ℤ) → ((i : ℕ) → Of i → f i ≡ h i) → sum_group r g f ≡ sum_group r g h
  group_same f h same =
      let x = group_mono f h (λ i b. let e = same i b in omega signed) in
      let y = group_mono h f (λ i b. let e = same i b in omega signed) in
      omega signed

  pub group_strict : (f h : ℕ → ℤ) (k : ℕ) → Of k → ((i : ℕ) → Of i → f i ≤ℤ h i) → f k <ℤ h k → sum_group r g f <ℤ sum_group r g h
  unfolding sum_group
  group_strict f h zero b le lt = absurd (omega arith)
  group_strict f h (suc k) b le lt =
      sum_to_strict (group_term r g f) (group_term r g h) r.instruments k (omega arith) (term_mono f h le)
      (by_number (group_of_instrument r (suc k)) g (λ t. cond t (f (suc k)) (pos 0) <ℤ cond t (h (suc k)) (pos 0)) (λ _. lt)
      (λ apart. absurd (apart b.1)))

  -- where the term of instrument k alone moves, by d, so does the sum
  pub group_change : (f h : ℕ → ℤ) (k : ℕ) (d : ℤ) → Of k → ((i : ℕ) → i ≢ k → f i ≡ h i) → h k ≡ f k +ℤ d
      → sum_group r g h ≡ sum_group r g f +ℤ d
  unfolding sum_group
  group_change f h zero d of same e = absurd (omega arith)
  group_change f h (suc j) d of same e =
      let here = eq-eqb (group_of_instrument r (suc j)) g of.1 in
      let x : group_term r g f j ≡ f (suc j) = rw here in
      let y : group_term r g h j ≡ h (suc j) = rw here in
      let change = sum_to_change (group_term r g f) (group_term r g h) r.instruments j (omega arith)
      (λ i _ apart. rw (same (suc i) (λ q. apart (omega arith)))) in
      omega (linear, difference_parts (group_term r g h j) (group_term r g f j))

  -- the short side of a sum is the sum of the short sides
  pub group_toward : (w : Way) (f : ℕ → ℤ) → toward w (sum_group r g f) ≡ sum_group r g (λ i. toward w (f i))
  unfolding sum_group
  group_toward long f = refl
  group_toward short f =
      sym (sum_over_negated (group_term r g f) (below r.instruments))
      ∙ sum_to_same (λ j. neg_ℤ (group_term r g f j)) (group_term r g (λ i. neg_ℤ (f i))) r.instruments
      (λ j l. by_number (group_of_instrument r (suc j)) g (λ t. neg_ℤ (cond t (f (suc j)) (pos 0)) ≡ cond t (neg_ℤ (f (suc j))) (pos 0))
      (λ _. refl) (λ _. refl))
