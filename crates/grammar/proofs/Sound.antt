-- What the reader finds is written there.
use Prim.Native.String.{String}
use Rattle.std.specs.Prelude.{◌+◌, ◌<◌, ◌≡◌, ◌&&◌, ◌∷◌, ◌++◌}
use Rattle.integers.specs.Basics.{ℕ, zero, suc, refl, ◌∙◌, sym, ap, subst, ⊎_elim, inl, inr, cond, List, []}
use Rattle.integers.specs.Basics.{Option, leb, ltb, length, drop, arith, leb-true, ltb-true}
use mathlib.Core.Bool.{and-eq-true_iff}
use Rattle.grammar.specs.Bytes.{bytes, is_blank, is_digit, is_plain, value_of, Then, Literal}
use Rattle.grammar.specs.Grammar.{Attribute, number, text, together, Element, leaf, holding, Numbers, Values, Value, Blanks, Digits}
use Rattle.grammar.specs.Grammar.{Plain, Quoted, NumbersOf, Attributes, Enclosed, Many, Tag, Written}
use Rattle.grammar.specs.Reader.{Reading, nothing, up_to, span, literal_at, past_blanks, opened, opening_at, digits_at, plain_at, number_at}
use Rattle.grammar.specs.Reader.{text_at, numbers_at, or_none, attributes_at, opening, closing, tag_at, childless_at, many_at, children_at}
use Rattle.grammar.specs.Reader.{element_at}
use Rattle.grammar.proofs.Readings.{not_read, read_if, read_or, read_both, read_enclosed, read_next, read_with, read_same, end_at}
use Rattle.grammar.proofs.Standing.{Stands, stands_as, stands_then, then_assoc, then_bytes, stands_nothing, stands_literal}
use Rattle.grammar.proofs.Standing.{stands_span, stands_blank}

module _ (s : List ℕ) where
  -- ---- attributes
  stands_blanks : (p : ℕ) → p < past_blanks s p → Stands s p (past_blanks s p) Blanks
  unfolding past_blanks
  stands_blanks p h =
      stands_as (λ x a. let long = a.2 in record { blank = a.1; some_there = omega arith }) (stands_span s p is_blank (length s))

  pub opening_sound : (l : List ℕ) (p : ℕ) {n : ℕ} → opening_at s l p ≡ up_to tt n → Stands s p n (Then Blanks (λ x. x ≡ l))
  unfolding opening_at
  opening_sound l p e =
      let q = past_blanks s p in
      let r = read_both (ltb p q) _ _ _ e in
      rw (← r.3) (stands_then (stands_blanks p (ltb-true p q r.0)) (stands_literal s q l r.1))

  pub digits_sound : (p : ℕ) {v n : ℕ} → digits_at s p ≡ up_to v n → Stands s p n (Then (Digits v) (Literal "\""))
  unfolding digits_at
  digits_sound p e =
      let k = span is_digit 11 (drop p s) in
      let r = read_both (leb 1 k && leb k 10) (literal_at s (bytes "\"") (p + k)) _ _ e in
      let fits = (and-eq-true_iff (leb 1 k) (leb k 10)).0 r.0 in
      let one = leb-true 1 k fits.0 in
      let ten = leb-true k 10 fits.1 in
      rw (← r.3) (stands_then
      (stands_as (λ x a. let long = a.2 in
      record { digits = a.1; one_at_least = omega arith; ten_at_most = omega arith; says = sym r.2 ∙ ap value_of (sym a.0) })
      (stands_span s p is_digit 11)) (stands_literal s (p + k) (bytes "\"") r.1))

  pub plain_sound : (p : ℕ) {n : ℕ} → plain_at s p ≡ up_to tt n → Stands s p n (Then Plain (Literal "\""))
  unfolding plain_at
  plain_sound p e =
      let k = span is_plain 101 (drop p s) in
      let r = read_both (leb k 100) _ _ _ e in
      let most = leb-true k 100 r.0 in
      rw (← r.3) (stands_then
      (stands_as (λ x a. let long = a.2 in record { plain = a.1; hundred_at_most = omega arith }) (stands_span s p is_plain 101))
      (stands_literal s (p + k) (bytes "\"") r.1))

  quoted : (name : String) (P : List ℕ → Type 0) (p : ℕ) {q n : ℕ} → opening_at s (opened name) p ≡ up_to tt q
      → Stands s q n (Then P (Literal "\"")) → Stands s p n (Quoted name P)
  quoted name P p e a =
      let rest = Then P (Literal "\"") in
      stands_as (λ x t. let (b, y, f, h, i) = then_assoc Blanks (λ z. z ≡ opened name) rest x t in
      (b, y, f, h, then_bytes (bytes name) (bytes "=\"") rest y i))
      (stands_then (opening_sound (opened name) p e) a)

  pub number_sound : (name : String) (p : ℕ) {v n : ℕ} → number_at s (opened name) p ≡ up_to v n → Stands s p n (Quoted name (Digits v))
  unfolding number_at
  number_sound name p {v} e = let r = read_next _ _ e in quoted name (Digits v) p r.2 (digits_sound r.1 r.3)

  pub text_sound : (name : String) (p : ℕ) {n : ℕ} → text_at s (opened name) p ≡ up_to tt n → Stands s p n (Quoted name Plain)
  unfolding text_at
  text_sound name p e = let r = read_next _ _ e in quoted name Plain p r.2 (plain_sound r.1 r.3)

  pub numbers_sound : (ns : List String) (p : ℕ) {v : Numbers ns} {n : ℕ} → numbers_at s ns p ≡ up_to v n → Stands s p n (NumbersOf ns v)
  unfolding numbers_at
  numbers_sound [] p e = let same = read_same e in rw (← same.1) (stands_nothing s p)
  numbers_sound (m ∷ ns) p {n} e =
      let r = read_next _ _ e in
      let i = read_with _ _ r.3 in
      subst (λ v. Stands s p n (NumbersOf (m ∷ ns) v)) i.2
      (stands_then (number_sound m p r.2) (numbers_sound ns r.1 i.1))

  or_none_sound : (ns : List String) (l : List Attribute) (p : ℕ) {q n : ℕ} (r : Reading (Numbers ns))
      → ((x : Numbers ns) (k : ℕ) → r ≡ up_to x k → Stands s p k (NumbersOf ns x))
      → (x : Option (Numbers ns)) (v : Values l) → or_none p r ≡ up_to x q → Stands s q n (Attributes l v)
      → Stands s p n (Attributes (together ns ∷ l) (x, v))
  or_none_sound ns l p {n} nothing each x v e a =
      let same = read_same e in
      subst (λ y. Stands s p n (Attributes (together ns ∷ l) (y, v))) same.0 (rw same.1 a)
  or_none_sound ns l p {n} (up_to y k) each x v e a =
      let same = read_same e in
      subst (λ z. Stands s p n (Attributes (together ns ∷ l) (z, v))) same.0 (stands_then (each y k refl) (rw same.1 a))

  pub attributes_sound : (l : List Attribute) (p : ℕ) {v : Values l} {n : ℕ} → attributes_at s l p ≡ up_to v n
      → Stands s p n (Attributes l v)
  unfolding attributes_at
  attributes_sound [] p e = let same = read_same e in rw (← same.1) (stands_nothing s p)
  attributes_sound (number m ∷ l) p {n} e =
      let r = read_next _ _ e in
      let i = read_with _ _ r.3 in
      subst (λ v. Stands s p n (Attributes (number m ∷ l) v)) i.2
      (stands_then {Q = Attributes l i.0} (number_sound m p r.2) (attributes_sound l r.1 i.1))
  attributes_sound (text m ∷ l) p {v} e =
      let r = read_next _ _ e in
      stands_then {Q = Attributes l v} (text_sound m p r.2) (attributes_sound l r.1 r.3)
  attributes_sound (together ns ∷ l) p {n} e =
      let r = read_next (or_none p (numbers_at s ns p)) _ e in
      let i = read_with _ _ r.3 in
      subst (λ v. Stands s p n (Attributes (together ns ∷ l) v)) i.2
      (or_none_sound ns l p (numbers_at s ns p) (λ x k. numbers_sound ns p) r.0 i.0 r.2 (attributes_sound l r.1 i.1))

  -- ---- elements
  pub tag_sound : (name : String) (l : List Attribute) (p : ℕ) {v : Values l} {n : ℕ} → tag_at s name l p ≡ up_to v n
      → Stands s p n (Tag name l v)
  unfolding tag_at
  tag_sound name l p {v} e =
      let r = read_if _ _ e in
      stands_as (then_bytes (bytes "<") (bytes name) (Attributes l v))
      (stands_then (stands_literal s p (opening name) r.0) (attributes_sound l (p + length (opening name)) r.1))

  -- a P, and an end behind it
  abbrev Ended : (List ℕ → Type 0) → List ℕ → ℕ → ℕ → Type 0
  Ended P close p n = (q : ℕ) × Stands s p q P × Stands s q n (λ x. x ≡ close)

  enclosed_sound : {A : Type 0} (name : String) (P : A → List ℕ → Type 0) (v : A) → P v [] → (f : ℕ → Reading A)
      → ((q : ℕ) (w : A) (k : ℕ) → f q ≡ up_to w k → Ended (P w) (closing name) q k) → (p : ℕ) {w : A} {n : ℕ}
      → cond (literal_at s (bytes "/>") p) (up_to v (p + 2))
      (cond (literal_at s (bytes ">") p) (f (past_blanks s (p + 1))) nothing) ≡ up_to w n
      → Stands s p n (Enclosed name (P w))
  enclosed_sound name P v empty f each p {w} {n} e =
      ⊎_elim (λ r. subst (λ u. Stands s p n (Enclosed name (P u))) r.1 (rw (← r.2) (stands_as (λ x is. inl (is, empty))
      (stands_literal s p (bytes "/>") r.0))))
      (λ r.
      let within = each (past_blanks s (p + 1)) w n r.1 in
      stands_as (λ x t. inr t)
      (stands_then (stands_literal s p (bytes ">") r.0) (stands_then (stands_blank s (p + 1)) (stands_then within.1
      (stands_as (λ x is. (bytes "</", bytes name ++ bytes ">", is, refl, (bytes name, bytes ">", refl, refl, refl))) within.2)))))
      (read_enclosed s v f p e)

  pub childless_sound : (name : String) (p : ℕ) {n : ℕ} → childless_at s name p ≡ up_to tt n → Stands s p n (Enclosed name (λ x. x ≡ []))
  unfolding childless_at
  childless_sound name p e =
      enclosed_sound name (λ u x. x ≡ []) tt refl (end_at s (closing name))
      (λ q w k i.
      let r = read_if _ _ i in
      let same = read_same r.1 in
      (q, stands_nothing s q, rw (← same.1) (stands_literal s q (closing name) r.0)))
      p e

  module _ {A : Type 0} (r : ℕ → Reading A) (P : A → List ℕ → Type 0)
      (each : (q : ℕ) (v : A) (k : ℕ) → r q ≡ up_to v k → Stands s q k (P v)) where
    pub many_sound : (close : List ℕ) (m p : ℕ) {vs : List A} {n : ℕ} → many_at s r close m p ≡ up_to vs n → Ended (Many P vs) close p n
    unfolding many_at
    many_sound close zero p e = not_read e
    many_sound close (suc m) p {vs} {n} e =
        ⊎_elim (λ i.
        let same = read_same i.1 in
        subst (λ us. Ended (Many P us) close p n) same.0 (p, stands_nothing s p, rw (← same.1) (stands_literal s p close i.0)))
        (λ i.
        let one = read_next (r p) _ i.1 in
        let more = read_with _ _ one.3 in
        let rest = many_sound close m (past_blanks s one.1) {vs = more.0} more.1 in
        subst (λ us. Ended (Many P us) close p n) more.2
        (rest.0, stands_then (each p one.0 one.1 one.2) (stands_then (stands_blank s one.1) rest.1), rest.2))
        (read_or (literal_at s close p) _ _ e)

    pub children_sound : (name : String) (p : ℕ) {vs : List A} {n : ℕ} → children_at s r name p ≡ up_to vs n
        → Stands s p n (Enclosed name (Many P vs))
    unfolding children_at
    children_sound name p e =
        enclosed_sound name (Many P) [] refl (many_at s r (closing name) (suc (length s)))
        (λ q w k. many_sound (closing name) (suc (length s)) q) p e

  pub element_stands : (e : Element) (p : ℕ) {v : Value e} {n : ℕ} → element_at s e p ≡ up_to v n → Stands s p n (Written e v)
  unfolding element_at
  element_stands (leaf name l) p {n} e =
      let r = read_next _ _ e in
      let i = read_with _ _ r.3 in
      subst (λ v. Stands s p n (Written (leaf name l) v)) i.2
      (stands_then (tag_sound name l p r.2) (childless_sound name r.1 i.1))
  element_stands (holding name l c) p {n} e =
      let r = read_next _ _ e in
      let i = read_with _ _ r.3 in
      subst (λ v. Stands s p n (Written (holding name l c) v)) i.2
      (stands_then (tag_sound name l p r.2)
      (children_sound (element_at s c) (Written c) (λ q v k. element_stands c q) name r.1 i.1))

pub element_sound : (s : List ℕ) (e : Element) (p : ℕ) {v : Value e} {n : ℕ} → element_at s e p ≡ up_to v n
    → (x : List ℕ) × (drop p s ≡ x ++ drop n s) × Written e v x
element_sound s e p h = let a = element_stands s e p h in (a.piece, a.there, a.is)
