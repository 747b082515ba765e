-- What is known of the parts of something that was read.
use Rattle.std.specs.Prelude.{◌+◌, ◌≡◌, ◌⊎◌, ◌&&◌}
use Rattle.integers.specs.Basics.{ℕ, refl, inl, inr, ⊎_elim, Bool, true, false, cond, List, length, arith}
use mathlib.Core.Bool.{and-eq-true_iff}
use Rattle.grammar.specs.Bytes.{bytes}
use Rattle.grammar.specs.Reader.{Reading, nothing, up_to, next, with, literal_at, past_blanks}

pub not_read : {A P : Type 0} {v : A} {n : ℕ} → nothing ≡ up_to v n → P
not_read e = absurd (let z : ◌≡◌ {A = ℕ} 0 1 = cc in omega arith)

pub read_same : {A : Type 0} {v w : A} {m n : ℕ} → up_to v m ≡ up_to w n → (v ≡ w) × (m ≡ n)
read_same e = (cc, cc)

-- the two ways in which a reading comes out
pub by_reading : {A P : Type 0} (r : Reading A) → (r ≡ nothing → P) → ((v : A) (n : ℕ) → r ≡ up_to v n → P) → P
by_reading nothing none found = none refl
by_reading (up_to v n) none found = found v n refl

-- an end tag alone, as the reader of an element with no children has it
abbrev pub end_at : List ℕ → List ℕ → ℕ → Reading (Unit {0})
end_at s l p = cond (literal_at s l p) (up_to tt (p + length l)) nothing

module _ {A : Type 0} where
  pub read_if : (t : Bool) (r : Reading A) {v : A} {n : ℕ} → cond t r nothing ≡ up_to v n → (t ≡ true) × (r ≡ up_to v n)
  read_if true r e = (refl, e)
  read_if false r e = not_read e

  -- up to a place m that is known, under two tests
  pub read_both : (t u : Bool) (v : A) (m : ℕ) {w : A} {n : ℕ} → cond (t && u) (up_to v m) nothing ≡ up_to w n
      → (t ≡ true) × (u ≡ true) × (v ≡ w) × (m ≡ n)
  read_both t u v m e =
      let r = read_if (t && u) (up_to v m) e in
      let both = (and-eq-true_iff t u).0 r.0 in
      let same = read_same r.1 in
      (both.0, both.1, same.0, same.1)

  pub read_or : (t : Bool) (r q : Reading A) {v : A} {n : ℕ} → cond t r q ≡ up_to v n
      → ((t ≡ true) × (r ≡ up_to v n)) ⊎ ((t ≡ false) × (q ≡ up_to v n))
  read_or true r q e = inl (refl, e)
  read_or false r q e = inr (refl, e)

  -- what an element holds
  pub read_enclosed : (s : List ℕ) (v : A) (f : ℕ → Reading A) (p : ℕ) {w : A} {n : ℕ}
      → cond (literal_at s (bytes "/>") p) (up_to v (p + 2))
      (cond (literal_at s (bytes ">") p) (f (past_blanks s (p + 1))) nothing) ≡ up_to w n
      → ((literal_at s (bytes "/>") p ≡ true) × (v ≡ w) × (p + 2 ≡ n))
      ⊎ ((literal_at s (bytes ">") p ≡ true) × (f (past_blanks s (p + 1)) ≡ up_to w n))
  read_enclosed s v f p e =
      ⊎_elim (λ r. let same = read_same r.1 in inl (r.0, same.0, same.1)) (λ r. inr (read_if _ _ r.1))
      (read_or (literal_at s (bytes "/>") p) _ _ e)

pub read_next : {A B : Type 0} (r : Reading A) (f : A → ℕ → Reading B) {w : B} {n : ℕ} → next r f ≡ up_to w n
    → (v : A) × (m : ℕ) × (r ≡ up_to v m) × (f v m ≡ up_to w n)
read_next nothing f e = not_read e
read_next (up_to v m) f e = (v, m, refl, e)

pub read_with : {A B : Type 0} (g : A → B) (r : Reading A) {w : B} {n : ℕ} → with g r ≡ up_to w n
    → (v : A) × (r ≡ up_to v n) × (g v ≡ w)
read_with g nothing e = not_read e
read_with g (up_to v m) e = let same = read_same e in (v, rw same.1, same.0)
