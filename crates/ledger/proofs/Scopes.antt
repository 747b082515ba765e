-- What a scope makes of an amount for each instrument: an instrument's own amount, or the sum over a group of
-- |K| times the amounts. Potential positions and positions are both such figures, of amounts taken on the way in which
-- each instrument moves the scope. So every law of scopes and ways is a law of `weighted_at`, stated once.
use Rattle.std.specs.Prelude.{◌≡◌, ◌≢◌, ◌+ℤ◌, ◌*ℤ◌, ◌≤ℤ◌, ◌<ℤ◌}
use Rattle.integers.specs.Basics.{ℕ, suc, refl, ◌∙◌, sym, ap, by_cases, List, ℤ, pos, negsuc, neg_ℤ, nat_abs}
use Rattle.integers.specs.Basics.{signed, magnitude_parts}
use lib.IntN.{neg_ℤ-neg_ℤ, ℤ_discrete}
use Rattle.integers.specs.Parts.{scaled_parts, differs}
use Rattle.integers.specs.Ring.{neg_ℤ_*ℤ, *ℤ_neg_ℤ, *ℤ_+ℤ}
use Rattle.integers.specs.Product.{times_≤, product_<}
use Rattle.ledger.specs.declared.order.Order.{Order}
use Rattle.ledger.specs.Roster.{Roster, Numbered, group_of_instrument}
use Rattle.ledger.specs.Positions.{Way, long, short, Scope, instrument, group, toward, way_by, of_instrument, group_part, sum_group}
use Rattle.ledger.specs.Positions.{potential, position}
use Rattle.ledger.proofs.Groups.{Of, group_mono, group_same, group_strict, group_toward, group_change}

-- ---- the one fact behind groups: a weight K is |K| times, the way that the sign of K says
pub weight_toward : (w : Way) (K x : ℤ) → toward w (K *ℤ x) ≡ pos (nat_abs K) *ℤ toward (way_by K w) x
weight_toward long (pos k) x = refl
weight_toward short (pos k) x = sym (*ℤ_neg_ℤ (pos k) x)
weight_toward long (negsuc k) x = neg_ℤ_*ℤ (pos (suc k)) x ∙ sym (*ℤ_neg_ℤ (pos (suc k)) x)
weight_toward short (negsuc k) x = ap neg_ℤ (neg_ℤ_*ℤ (pos (suc k)) x) ∙ neg_ℤ-neg_ℤ (pos (suc k) *ℤ x)

pub weight_part : (w : Way) (K : ℤ) (p : Way → ℤ) → group_part w K p ≡ pos (nat_abs K) *ℤ p (way_by K w)
unfolding group_part
weight_part w (pos k) p = refl
weight_part w (negsuc k) p = refl

pub part_same : (w : Way) (K : ℤ) (p q : Way → ℤ) → ((v : Way) → p v ≡ q v) → group_part w K p ≡ group_part w K q
part_same w K p q same =
    weight_part w K p ∙ ap (λ (z : ℤ). pos (nat_abs K) *ℤ z) (same (way_by K w)) ∙ sym (weight_part w K q)

pub weight_way : (K : ℤ) (w : Way) → way_by K (way_by K w) ≡ w
weight_way (pos k) w = refl
weight_way (negsuc k) long = refl
weight_way (negsuc k) short = refl

-- ---- places
-- the way on which instrument i moves scope p on side w
abbrev pub way_to : Roster → Scope → Way → ℕ → Way
way_to r (instrument j) w i = w
way_to r (group g) w i = way_by (r.weight i) w

-- instrument i counts at scope p
abbrev pub Bears : Roster → Scope → ℕ → Type 0
Bears r (instrument j) i = i ≡ j
Bears r (group g) i = Of r g i × (r.weight i ≢ pos 0)

unfoldable pub weighted_at : Roster → Scope → (ℕ → ℤ) → ℤ
weighted_at r (instrument i) f = f i
weighted_at r (group g) f = sum_group r g (λ i. pos (nat_abs (r.weight i)) *ℤ f i)

pub potential_weighted : (unit : Order → ℕ) (r : Roster) (orders : List Order) (a : ℕ) (S : ℕ → ℤ) (p : Scope) (w : Way)
    → potential unit r orders a S p w ≡ weighted_at r p (λ i. of_instrument unit orders a S i (way_to r p w i))
unfolding potential weighted_at
potential_weighted unit r orders a S (instrument j) w = refl
potential_weighted unit r orders a S (group g) w =
    group_same r g _ _ (λ i _. weight_part w (r.weight i) (of_instrument unit orders a S i))

pub position_weighted : (r : Roster) (S : ℕ → ℤ) (p : Scope) (w : Way)
    → position r S p w ≡ weighted_at r p (λ i. toward (way_to r p w i) (S i))
unfolding position weighted_at
position_weighted r S (instrument j) w = refl
position_weighted r S (group g) w =
    group_toward r g w _ ∙ group_same r g _ _ (λ i _. weight_toward w (r.weight i) (S i))

weighed_≤ : (K x y : ℤ) → (K ≢ pos 0 → x ≤ℤ y) → (pos (nat_abs K) *ℤ x) ≤ℤ (pos (nat_abs K) *ℤ y)
weighed_≤ K x y h =
    by_cases (ℤ_discrete K (pos 0)) (λ e. rw e (omega (signed, scaled_parts 0 x, scaled_parts 0 y))) (λ n. times_≤ (nat_abs K) x y (h n))

module _ (r : Roster) (f h : ℕ → ℤ) where
  pub weighted_mono : (p : Scope) → ((i : ℕ) → Bears r p i → f i ≤ℤ h i) → weighted_at r p f ≤ℤ weighted_at r p h
  unfolding weighted_at
  weighted_mono (instrument j) le = le j refl
  weighted_mono (group g) le = group_mono r g _ _ (λ i b. weighed_≤ (r.weight i) (f i) (h i) (λ n. le i (b, n)))

  pub figure_strict : (p : Scope) (k : ℕ) → Bears r p k → ((i : ℕ) → Bears r p i → f i ≤ℤ h i) → f k <ℤ h k
      → weighted_at r p f <ℤ weighted_at r p h
  unfolding weighted_at
  figure_strict (instrument j) k b le lt = rw (← b) lt
  figure_strict (group g) k b le lt =
      group_strict r g _ _ k b.0 (λ i c. weighed_≤ (r.weight i) (f i) (h i) (λ n. le i (c, n)))
      (product_< (pos (nat_abs (r.weight k))) (f k) (h k) (omega (signed, magnitude_parts (r.weight k), differs b.1)) lt)

pub weighted_same : (r : Roster) (f h : ℕ → ℤ) (p : Scope) → ((i : ℕ) → Bears r p i → f i ≡ h i) → weighted_at r p f ≡ weighted_at r p h
weighted_same r f h p same =
    let x = weighted_mono r f h p (λ i b. let e = same i b in omega signed) in
    let y = weighted_mono r h f p (λ i b. let e = same i b in omega signed) in
    omega signed

-- ---- potential positions follow those of the instruments that bear on the scope, on the ways that count
module _ (unit : Order → ℕ) (r : Roster) (a : ℕ) (orders orders' : List Order) (S S' : ℕ → ℤ) where
  pub potential_≤ : (p : Scope) (w : Way) → ((i : ℕ) → Bears r p i
      → of_instrument unit orders a S i (way_to r p w i) ≤ℤ of_instrument unit orders' a S' i (way_to r p w i))
      → potential unit r orders a S p w ≤ℤ potential unit r orders' a S' p w
  potential_≤ p w le = rw (potential_weighted unit r orders a S p w, potential_weighted unit r orders' a S' p w) (weighted_mono r _ _ p le)

  pub potential_same : (p : Scope) (w : Way)
      → ((i : ℕ) → Bears r p i → of_instrument unit orders a S i (way_to r p w i) ≡ of_instrument unit orders' a S' i (way_to r p w i))
      → potential unit r orders a S p w ≡ potential unit r orders' a S' p w
  potential_same p w same =
      rw (potential_weighted unit r orders a S p w, potential_weighted unit r orders' a S' p w) (weighted_same r _ _ p same)

  -- where one instrument's moves by d, and no other's, its group's moves by |K| times d
  pub group_moved : (w : Way) (i : ℕ) → Numbered r.instruments i
      → ((j : ℕ) → j ≢ i → (v : Way) → of_instrument unit orders a S j v ≡ of_instrument unit orders' a S' j v)
      → (d : ℤ)
      → of_instrument unit orders' a S' i (way_by (r.weight i) w) ≡ of_instrument unit orders a S i (way_by (r.weight i) w) +ℤ d
      → potential unit r orders' a S' (group (group_of_instrument r i)) w
      ≡ potential unit r orders a S (group (group_of_instrument r i)) w +ℤ pos (nat_abs (r.weight i)) *ℤ d
  unfolding weighted_at
  group_moved w i numbered same d moved =
      let g = group_of_instrument r i in
      let K = pos (nat_abs (r.weight i)) in
      rw (potential_weighted unit r orders a S (group g) w, potential_weighted unit r orders' a S' (group g) w)
      (group_change r g _ _ i (K *ℤ d) (numbered, refl) (λ j apart. rw (same j apart (way_by (r.weight j) w)))
      (ap (λ (z : ℤ). K *ℤ z) moved ∙ *ℤ_+ℤ K (of_instrument unit orders a S i (way_by (r.weight i) w)) d))
