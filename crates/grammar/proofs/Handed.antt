-- A start tag by what code found of its pieces: each is read, and what follows is read from the place behind it, in the same bytes.
use Prim.Native.String.{String}
use Rattle.std.specs.Prelude.{◌≡◌, ◌∷◌}
use Rattle.integers.specs.Basics.{ℕ, refl, sym, ap, List, [], Option, None, Some}
use Rattle.grammar.specs.Grammar.{Attribute, number, text, together, Numbers, Values}
use Rattle.grammar.specs.Place.{Place, place}
use Rattle.grammar.specs.Reader.{Reading, nothing, up_to, with, opened, opening, number_at, text_at, numbers_at, attributes_at}
use Rattle.grammar.specs.Reader.{tag_at}
use Rattle.grammar.specs.Found.{place_of, found, found_or_none, past_literal}
use Rattle.grammar.proofs.Starts.{literal_stands}

-- what was read, by what code hands on
module _ {A : Type 0} (s : List ℕ) where
  pub found_some : (r : Reading A) {x : A × Place} → found s r ≡ Some x → (r ≡ up_to x.0 x.1.at) × (x.1.bytes ≡ s)
  found_some nothing {x} e = absurd (let none : None ≡ Some x = e in cc)
  found_some (up_to w n) {x} e =
      let same : (w, place s n) ≡ x = cc in
      (ap (λ (y : A × Place). up_to y.0 y.1.at) same, sym (ap (λ (y : A × Place). y.1.bytes) same))

  pub found_up : {r : Reading A} {v : A} {q : Place} → r ≡ up_to v q.at → q.bytes ≡ s → found s r ≡ Some (v, q)
  found_up e same = rw (e, ← same)

pub place_some : (s : List ℕ) (r : Reading (Unit {0})) {c : Place} → place_of s r ≡ Some c → (r ≡ up_to tt c.at) × (c.bytes ≡ s)
place_some s nothing {c} e = absurd (let none : None ≡ Some c = e in cc)
place_some s (up_to w n) {c} e =
    let same : place s n ≡ c = cc in
    (ap (λ (y : Place). up_to tt y.at) same, sym (ap (λ (y : Place). y.bytes) same))

module _ {T : Type 0} (s : List ℕ) (p : ℕ) where
  pub tag_from : (name : String) (l : List Attribute) (g : Values l → T) {c : Place} → Some c ≡ past_literal s (opening name) p
      → found s (with g (tag_at s name l p)) ≡ found c.bytes (with g (attributes_at c.bytes l c.at))
  unfolding tag_at
  tag_from name l g {c} e =
      let (there, here) = literal_stands s (opening name) p (sym e) in
      rw (there, ← here)

  pub number_from : (n : String) (l : List Attribute) (g : Values (number n ∷ l) → T) {v : ℕ} {c : Place}
      → Some (v, c) ≡ found s (number_at s (opened n) p)
      → found s (with g (attributes_at s (number n ∷ l) p)) ≡ found c.bytes (with (λ vs. g (v, vs)) (attributes_at c.bytes l c.at))
  unfolding attributes_at
  number_from n l g {v} {c} e =
      let (reads, same) = found_some s (number_at s (opened n) p) (sym e) in
      rw (reads, same) (by (attributes_at s l c.at))
    where
      by : (r : Reading (Values l)) → found s (with g (with (λ vs. (v, vs)) r)) ≡ found s (with (λ vs. g (v, vs)) r)
      by nothing = refl
      by (up_to vs m) = refl

  pub text_from : (n : String) (l : List Attribute) (g : Values l → T) {c : Place} → Some c ≡ place_of s (text_at s (opened n) p)
      → found s (with g (attributes_at s (text n ∷ l) p)) ≡ found c.bytes (with g (attributes_at c.bytes l c.at))
  unfolding attributes_at
  text_from n l g {c} e =
      let (reads, same) = place_some s (text_at s (opened n) p) (sym e) in
      rw (reads, same)

  pub together_from : (ns : List String) (l : List Attribute) (g : Values (together ns ∷ l) → T) {x : Option (Numbers ns) × Place}
      → x ≡ found_or_none (place s p) (found s (numbers_at s ns p))
      → found s (with g (attributes_at s (together ns ∷ l) p))
      ≡ found x.1.bytes (with (λ vs. g (x.0, vs)) (attributes_at x.1.bytes l x.1.at))
  unfolding attributes_at
  together_from ns l g {x} e = by (numbers_at s ns p) refl
    where
      with_with : (v : Option (Numbers ns)) (r : Reading (Values l))
          → found s (with g (with (λ vs. (v, vs)) r)) ≡ found s (with (λ vs. g (v, vs)) r)
      with_with v nothing = refl
      with_with v (up_to vs m) = refl

      by : (r : Reading (Numbers ns)) → numbers_at s ns p ≡ r
          → found s (with g (attributes_at s (together ns ∷ l) p))
          ≡ found x.1.bytes (with (λ vs. g (x.0, vs)) (attributes_at x.1.bytes l x.1.at))
      by nothing is =
          let here : x ≡ (None, place s p) = rw is at e in
          rw (is, here) (with_with None (attributes_at s l p))
      by (up_to v n) is =
          let here : x ≡ (Some v, place s n) = rw is at e in
          rw (is, here) (with_with (Some v) (attributes_at s l n))

  pub no_more : (g : Unit {0} → T) → found s (with g (attributes_at s [] p)) ≡ Some (g tt, place s p)
  unfolding attributes_at
  no_more g = refl
