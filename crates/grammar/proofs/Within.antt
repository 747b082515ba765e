-- What is read from a place of a file on ends in the file, behind that place.
use Prim.Native.String.{String}
use Rattle.std.specs.Prelude.{◌+◌, ◌≤◌, ◌<◌, ◌≡◌, ◌&&◌, ◌∷◌}
use Rattle.integers.specs.Basics.{ℕ, zero, suc, refl, Bool, ⊎_elim, true, cond, List, [], Option, length}
use Rattle.integers.specs.Basics.{drop, leb, ltb, arith, ltb-true}
use lib.ListN.{length-drop}
use Rattle.grammar.specs.Bytes.{bytes, is_digit, is_plain}
use Rattle.grammar.specs.Grammar.{Attribute, number, text, together, Element, leaf, holding, Numbers, Values, Value}
use Rattle.grammar.specs.Reader.{Reading, nothing, up_to, next, span, literal_at, past_blanks, opened, opening_at, digits_at, plain_at}
use Rattle.grammar.specs.Reader.{number_at, text_at, numbers_at, or_none, attributes_at, opening, closing, tag_at, childless_at, many_at}
use Rattle.grammar.specs.Reader.{children_at, element_at}
use Rattle.grammar.proofs.Spans.{past_within, past_least, span_within}
use Rattle.grammar.proofs.Starts.{starts_within}
use Rattle.grammar.proofs.Readings.{not_read, read_if, read_or, read_both, read_enclosed, read_next, read_with, read_same, end_at}

module _ (s : List ℕ) where
  -- a place behind p, and one not before it
  abbrev pub Behind : ℕ → ℕ → Type 0
  Behind p n = (p < n) × (n ≤ length s)

  abbrev pub From : ℕ → ℕ → Type 0
  From p n = (p ≤ n) × (n ≤ length s)

  pub literal_within : (l : List ℕ) (p : ℕ) → p ≤ length s → literal_at s l p ≡ true → p + length l ≤ length s
  literal_within l p h e = omega (arith, starts_within l (drop p s) e, length-drop p s)

  -- what f reads from a place of the file on ends behind that place
  abbrev pub Onward : {A : Type 0} → (ℕ → Reading A) → Type 0
  Onward {A} f = (q : ℕ) (v : A) (k : ℕ) → q ≤ length s → f q ≡ up_to v k → Behind q k

  -- ---- attributes
  pub opening_within : (l : List ℕ) (p : ℕ) {n : ℕ} → p ≤ length s → opening_at s l p ≡ up_to tt n → Behind p n
  unfolding opening_at
  opening_within l p h e =
      let q = past_blanks s p in
      let r = read_both (ltb p q) _ _ _ e in
      let further = ltb-true p q r.0 in
      let there = literal_within l q (past_within s p h) r.1 in
      (omega arith, omega arith)

  closed_within : (f : ℕ → Bool) (m p : ℕ) → p ≤ length s → literal_at s (bytes "\"") (p + span f m (drop p s)) ≡ true
      → Behind p (p + span f m (drop p s) + 1)
  closed_within f m p h e =
      let k = span f m (drop p s) in
      let inside = span_within f m (drop p s) in
      let long = length-drop p s in
      let quote = literal_within (bytes "\"") (p + k) (omega arith) e in
      (omega arith, omega arith)

  pub digits_within : (p : ℕ) {v n : ℕ} → p ≤ length s → digits_at s p ≡ up_to v n → Behind p n
  unfolding digits_at
  digits_within p h e =
      let k = span is_digit 11 (drop p s) in
      let r = read_both (leb 1 k && leb k 10) (literal_at s (bytes "\"") (p + k)) _ _ e in
      let b = closed_within is_digit 11 p h r.1 in
      (omega arith, omega arith)

  pub plain_within : (p : ℕ) {n : ℕ} → p ≤ length s → plain_at s p ≡ up_to tt n → Behind p n
  unfolding plain_at
  plain_within p h e =
      let r = read_both (leb (span is_plain 101 (drop p s)) 100) _ _ _ e in
      let b = closed_within is_plain 101 p h r.1 in
      (omega arith, omega arith)

  quoted_within : {A : Type 0} (f : ℕ → Reading A) → Onward f → (l : List ℕ) (p : ℕ) {v : A} {n : ℕ} → p ≤ length s
      → next (opening_at s l p) (λ t q. f q) ≡ up_to v n → Behind p n
  quoted_within f each l p {v} {n} h e =
      let r = read_next _ _ e in
      let a = opening_within l p h r.2 in
      let b = each r.1 v n a.1 r.3 in
      (omega arith, b.1)

  pub number_within : (l : List ℕ) (p : ℕ) {v n : ℕ} → p ≤ length s → number_at s l p ≡ up_to v n → Behind p n
  unfolding number_at
  number_within l p h e = quoted_within (digits_at s) (λ q v k. digits_within q) l p h e

  pub text_within : (l : List ℕ) (p : ℕ) {n : ℕ} → p ≤ length s → text_at s l p ≡ up_to tt n → Behind p n
  unfolding text_at
  text_within l p h e = quoted_within (plain_at s) (λ q v k. plain_within q) l p h e

  pub numbers_within : (ns : List String) (p : ℕ) {v : Numbers ns} {n : ℕ} → p ≤ length s → numbers_at s ns p ≡ up_to v n → From p n
  unfolding numbers_at
  numbers_within [] p h e = let same = read_same e in (omega arith, omega arith)
  numbers_within (m ∷ ns) p h e =
      let r = read_next _ _ e in
      let i = read_with _ _ r.3 in
      let a = number_within (opened m) p h r.2 in
      let b = numbers_within ns r.1 a.1 i.1 in
      (omega arith, b.1)

  or_none_within : {A : Type 0} (r : Reading A) (p : ℕ) {v : Option A} {n : ℕ} → p ≤ length s
      → ((w : A) (k : ℕ) → r ≡ up_to w k → From p k) → or_none p r ≡ up_to v n → From p n
  or_none_within nothing p h there e = let same = read_same e in (omega arith, omega arith)
  or_none_within (up_to x m) p h there e = let same = read_same e in let a = there x m refl in (omega arith, omega arith)

  pub attributes_within : (l : List Attribute) (p : ℕ) {v : Values l} {n : ℕ} → p ≤ length s → attributes_at s l p ≡ up_to v n → From p n
  unfolding attributes_at
  attributes_within [] p h e = let same = read_same e in (omega arith, omega arith)
  attributes_within (number m ∷ l) p h e =
      let r = read_next _ _ e in
      let i = read_with _ _ r.3 in
      let a = number_within (opened m) p h r.2 in
      let b = attributes_within l r.1 a.1 i.1 in
      (omega arith, b.1)
  attributes_within (text m ∷ l) p h e =
      let r = read_next _ _ e in
      let a = text_within (opened m) p h r.2 in
      let b = attributes_within l r.1 a.1 r.3 in
      (omega arith, b.1)
  attributes_within (together ns ∷ l) p h e =
      let r = read_next (or_none p (numbers_at s ns p)) _ e in
      let i = read_with _ _ r.3 in
      let a = or_none_within (numbers_at s ns p) p h (λ w k. numbers_within ns p h) r.2 in
      let b = attributes_within l r.1 a.1 i.1 in
      (omega arith, b.1)

  -- ---- elements
  pub tag_within : (name : String) (l : List Attribute) (p : ℕ) {v : Values l} {n : ℕ} → p ≤ length s → tag_at s name l p ≡ up_to v n
      → Behind p n
  unfolding tag_at
  tag_within name l p h e =
      let r = read_if _ _ e in
      let a = literal_within (opening name) p h r.0 in
      let b = attributes_within l (p + length (opening name)) a r.1 in
      (omega arith, b.1)

  enclosed_within : {A : Type 0} (v : A) (f : ℕ → Reading A) (p : ℕ) {w : A} {n : ℕ} → Onward f → p ≤ length s
      → cond (literal_at s (bytes "/>") p) (up_to v (p + 2))
      (cond (literal_at s (bytes ">") p) (f (past_blanks s (p + 1))) nothing) ≡ up_to w n
      → Behind p n
  enclosed_within v f p {w} {n} onward h e =
      ⊎_elim (λ r. let a = literal_within (bytes "/>") p h r.0 in (omega arith, omega arith))
      (λ r.
      let a = literal_within (bytes ">") p h r.0 in
      let q = past_blanks s (p + 1) in
      let b = onward q w n (past_within s (p + 1) a) r.1 in
      (omega (arith, past_least s (p + 1)), b.1))
      (read_enclosed s v f p e)

  end_within : (l : List ℕ) → 1 ≤ length l → Onward (end_at s l)
  end_within l long q v k h e =
      let r = read_if _ _ e in
      let same = read_same r.1 in
      let a = literal_within l q h r.0 in
      (omega arith, omega arith)

  pub childless_within : (name : String) (p : ℕ) {n : ℕ} → p ≤ length s → childless_at s name p ≡ up_to tt n → Behind p n
  unfolding childless_at
  childless_within name p h e = enclosed_within tt (end_at s (closing name)) p (end_within (closing name) (omega arith)) h e

  module _ {A : Type 0} (r : ℕ → Reading A) (each : Onward r) where
    pub many_within : (close : List ℕ) → 1 ≤ length close → (m p : ℕ) {vs : List A} {n : ℕ} → p ≤ length s
        → many_at s r close m p ≡ up_to vs n → Behind p n
    unfolding many_at
    many_within close long zero p h e = not_read e
    many_within close long (suc m) p h e =
        ⊎_elim (λ i. let same = read_same i.1 in let a = literal_within close p h i.0 in (omega arith, omega arith))
        (λ i.
        let one = read_next (r p) _ i.1 in
        let more = read_with _ _ one.3 in
        let a = each p one.0 one.1 h one.2 in
        let b = many_within close long m (past_blanks s one.1) {vs = more.0} (past_within s one.1 a.1) more.1 in
        (omega (arith, past_least s one.1), b.1))
        (read_or (literal_at s close p) _ _ e)

    pub children_within : (name : String) (p : ℕ) {vs : List A} {n : ℕ} → p ≤ length s → children_at s r name p ≡ up_to vs n → Behind p n
    unfolding children_at
    children_within name p h e =
        enclosed_within [] (many_at s r (closing name) (suc (length s))) p
        (λ q v k. many_within (closing name) (omega arith) (suc (length s)) q) h e

  pub element_within : (e : Element) (p : ℕ) {v : Value e} {n : ℕ} → p ≤ length s → element_at s e p ≡ up_to v n → Behind p n
  unfolding element_at
  element_within (leaf name l) p h e =
      let r = read_next _ _ e in
      let i = read_with _ _ r.3 in
      let a = tag_within name l p h r.2 in
      let b = childless_within name r.1 a.1 i.1 in
      (omega arith, b.1)
  element_within (holding name l c) p h e =
      let r = read_next _ _ e in
      let i = read_with _ _ r.3 in
      let a = tag_within name l p h r.2 in
      let b = children_within (element_at s c) (λ q v k. element_within c q) name r.1 a.1 i.1 in
      (omega arith, b.1)
