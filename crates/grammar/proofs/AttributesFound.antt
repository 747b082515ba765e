-- Attributes that are written are found.
use Prim.Native.String.{String}
use Rattle.std.specs.Prelude.{◌+◌, ◌≤◌, ◌≡◌, ◌&&◌, ◌∷◌, ◌++◌}
use Rattle.integers.specs.Basics.{ℕ, refl, ◌∙◌, Bool, true, false, List, [], None, Some, length, take, drop}
use Rattle.integers.specs.Basics.{arith, le-leb, lt-ltb, le-ltb, false≢true}
use mathlib.Core.Bool.{and-eq-true_iff}
use mathlib.Core.List.{append_assoc}
use lib.Seq.{take-append_seam}
use Rattle.grammar.specs.Bytes.{bytes, is_blank, is_digit, is_plain, Each}
use Rattle.grammar.specs.Grammar.{Attribute, number, text, together, Numbers, Values, Blanks, Digits, Plain, Quoted, NumbersOf}
use Rattle.grammar.specs.Grammar.{Attributes}
use Rattle.grammar.specs.Reader.{Reading, nothing, next, span, literal_at, past_blanks, opened, opening_at, digits_at, plain_at, number_at}
use Rattle.grammar.specs.Reader.{text_at, numbers_at, attributes_at}
use Rattle.grammar.specs.Readable.{apart, begins_solid, names_solid, told, attributes_readable}
use Rattle.grammar.proofs.Places.{behind}
use Rattle.grammar.proofs.Spans.{Stops, all_nil, span_append, solid_stops, past_append}
use Rattle.grammar.proofs.Starts.{apart_append, apart_starts}
use Rattle.grammar.proofs.Leaving.{Leaves, leaves_next, leaves_with, cut, literal_there, past_there}

module _ (s : List ℕ) where
  -- ---- a name, behind blanks
  pub opening_complete : (l b y : List ℕ) (p : ℕ) → begins_solid l ≡ true → Blanks b → drop p s ≡ b ++ (l ++ y)
      → Leaves s (opening_at s l p) tt y
  unfolding opening_at
  opening_complete l b y p solid blanks e =
      let stops = solid_stops l y solid in
      let past = past_append s p b (l ++ y) e blanks.blank stops in
      let some_there = blanks.some_there in
      let there = past_there s p b (l ++ y) e blanks.blank stops in
      let q = past_blanks s p in
      record {
        place = q + length l;
        reads = rw (lt-ltb p q (omega arith), literal_there s q l y there);
        left = behind s q l y there;
      }

  -- another name, or no blank
  opening_other : (l m b y : List ℕ) (p : ℕ) → begins_solid m ≡ true → apart l m ≡ true → Blanks b → drop p s ≡ b ++ (m ++ y)
      → opening_at s l p ≡ nothing
  unfolding opening_at
  opening_other l m b y p solid other blanks e =
      let stops = solid_stops m y solid in
      let past = past_append s p b (m ++ y) e blanks.blank stops in
      let some_there = blanks.some_there in
      rw (lt-ltb p (past_blanks s p) (omega arith), past_there s p b (m ++ y) e blanks.blank stops)
      (rw (apart_starts l (m ++ y) (apart_append l m y other)))

  opening_none : (l : List ℕ) (p : ℕ) → Stops is_blank (drop p s) → opening_at s l p ≡ nothing
  unfolding opening_at
  opening_none l p stops =
      let past = past_append s p [] (drop p s) refl (all_nil is_blank) stops in
      rw (le-ltb p (past_blanks s p) (omega arith))

  -- ---- a value, and the quote behind it
  closed : (f : ℕ → Bool) (m p : ℕ) (x y : List ℕ) → f 34 ≡ false → Each f x → length x ≤ m → drop p s ≡ x ++ (bytes "\"" ++ y)
      → (span f m (drop p s) ≡ length x) × (literal_at s (bytes "\"") (p + length x) ≡ true) × (drop (p + length x + 1) s ≡ y)
  closed f m p x y quote each most e =
      let there = behind s p x (bytes "\"" ++ y) e in (
        rw e (span_append f m x (34 ∷ y) each quote most),
        literal_there s (p + length x) (bytes "\"") y there,
        behind s (p + length x) (bytes "\"") y there,
      )

  pub digits_complete : (p : ℕ) {v : ℕ} (x y : List ℕ) → Digits v x → drop p s ≡ x ++ (bytes "\"" ++ y) → Leaves s (digits_at s p) v y
  unfolding digits_at is_digit
  digits_complete p {v} x y d e =
      let one = d.one_at_least in
      let ten = d.ten_at_most in
      let c = closed is_digit 11 p x y refl d.digits (omega arith) e in
      let taken : take (length x) (drop p s) ≡ x = rw e (take-append_seam x (34 ∷ y)) in
      record {
        place = p + length x + 1;
        reads = rw (c.0, le-leb 1 (length x) one, le-leb (length x) 10 ten, c.1, taken, d.says);
        left = c.2;
      }

  pub plain_complete : (p : ℕ) (x y : List ℕ) → Plain x → drop p s ≡ x ++ (bytes "\"" ++ y) → Leaves s (plain_at s p) tt y
  unfolding plain_at is_plain
  plain_complete p x y d e =
      let most = d.hundred_at_most in
      let c = closed is_plain 101 p x y refl d.plain (omega arith) e in
      record { place = p + length x + 1; reads = rw (c.0, le-leb (length x) 100 most, c.1); left = c.2 }

  -- ---- an attribute: the blanks and the value that it has
  record Parts (name : String) (P : List ℕ → Type 0) (x : List ℕ) : Type 0 where
    blanks : List ℕ
    value : List ℕ
    are_blanks : Blanks blanks
    is : P value
    whole : (y : List ℕ) → x ++ y ≡ blanks ++ (opened name ++ (value ++ (bytes "\"" ++ y)))

  parts : (name : String) (P : List ℕ → Type 0) (x : List ℕ) → Quoted name P x → Parts name P x
  parts name P x (b, x₁, e, h, (n, x₂, f, i, (q, x₃, g, j, (v, c, k, is, l)))) =
      record { blanks = b; value = v; are_blanks = h; is = is; whole = λ y. rw (e, f, i, g, j, k, l) (simp append_assoc) }

  quoted_complete : {A : Type 0} (f : ℕ → Reading A) (v : A) (P : List ℕ → Type 0)
      → ((q : ℕ) (x y : List ℕ) → P x → drop q s ≡ x ++ (bytes "\"" ++ y) → Leaves s (f q) v y)
      → (name : String) (p : ℕ) (x y : List ℕ) → begins_solid (opened name) ≡ true → Quoted name P x → drop p s ≡ x ++ y
      → Leaves s (next (opening_at s (opened name) p) (λ t q. f q)) v y
  quoted_complete f v P each name p x y solid w e =
      let t = parts name P x w in
      let rest = t.value ++ (bytes "\"" ++ y) in
      leaves_next (λ u q. f q) (opening_complete (opened name) t.blanks rest p solid t.are_blanks (e ∙ t.whole y))
      (λ q. each q t.value y t.is)

  pub number_complete : (name : String) (p : ℕ) {v : ℕ} (x y : List ℕ) → begins_solid (opened name) ≡ true → Quoted name (Digits v) x
      → drop p s ≡ x ++ y → Leaves s (number_at s (opened name) p) v y
  unfolding number_at
  number_complete name p {v} = quoted_complete (digits_at s) v (Digits v) (λ q. digits_complete q) name p

  pub text_complete : (name : String) (p : ℕ) (x y : List ℕ) → begins_solid (opened name) ≡ true → Quoted name Plain x
      → drop p s ≡ x ++ y → Leaves s (text_at s (opened name) p) tt y
  unfolding text_at
  text_complete = quoted_complete (plain_at s) tt Plain plain_complete

  pub numbers_complete : (ns : List String) (p : ℕ) (v : Numbers ns) (x y : List ℕ) → names_solid ns ≡ true → NumbersOf ns v x
      → drop p s ≡ x ++ y → Leaves s (numbers_at s ns p) v y
  unfolding numbers_at names_solid
  numbers_complete [] p v x y solid w e = record { place = p; reads = refl; left = rw w at e }
  numbers_complete (n ∷ ns) p (a, v) x y solid (x₁, x₂, f, h, i) e =
      let both = (and-eq-true_iff (begins_solid (opened n)) (names_solid ns)).0 solid in
      leaves_next _ (number_complete n p x₁ (x₂ ++ y) both.0 h (cut x₁ x₂ y e f))
      (λ q g. leaves_with (λ u. (a, u)) (numbers_complete ns q v x₂ y both.1 i g))

  -- ---- attributes
  -- numbers are missing where their first name is, which is where another attribute comes, or none
  no_name : (n : String) (ns : List String) (p : ℕ) → opening_at s (opened n) p ≡ nothing → numbers_at s (n ∷ ns) p ≡ nothing
  unfolding numbers_at number_at
  no_name n ns p e = rw e

  other_name : (n m : String) (p : ℕ) (P : List ℕ → Type 0) (x y : List ℕ) → begins_solid (opened m) ≡ true
      → apart (opened n) (opened m) ≡ true → Quoted m P x → drop p s ≡ x ++ y → opening_at s (opened n) p ≡ nothing
  other_name n m p P x y solid other w e =
      let t = parts m P x w in
      opening_other (opened n) (opened m) t.blanks (t.value ++ (bytes "\"" ++ y)) p solid other t.are_blanks (e ∙ t.whole y)

  missing : (ns : List String) (l : List Attribute) (p : ℕ) (v : Values l) (x y : List ℕ) → told ns l ≡ true → attributes_readable l ≡ true
      → Attributes l v x → drop p s ≡ x ++ y → Stops is_blank y → numbers_at s ns p ≡ nothing
  unfolding told attributes_readable
  missing [] l p v x y tells ok w e stops = absurd (false≢true tells)
  missing (n ∷ ns) [] p v x y tells ok w e stops =
      let there : drop p s ≡ y = rw w at e in
      no_name n ns p (opening_none (opened n) p (rw there stops))
  missing (n ∷ ns) (number m ∷ l) p (a, v) x y tells ok (x₁, x₂, f, h, i) e stops =
      let solid = ((and-eq-true_iff (begins_solid (opened m)) (attributes_readable l)).0 ok).0 in
      no_name n ns p (other_name n m p (Digits a) x₁ (x₂ ++ y) solid tells h (cut x₁ x₂ y e f))
  missing (n ∷ ns) (text m ∷ l) p v x y tells ok (x₁, x₂, f, h, i) e stops =
      let solid = ((and-eq-true_iff (begins_solid (opened m)) (attributes_readable l)).0 ok).0 in
      no_name n ns p (other_name n m p Plain x₁ (x₂ ++ y) solid tells h (cut x₁ x₂ y e f))
  missing (n ∷ ns) (together ms ∷ l) p v x y tells ok w e stops = absurd (false≢true tells)

  pub attributes_complete : (l : List Attribute) (p : ℕ) (v : Values l) (x y : List ℕ) → attributes_readable l ≡ true → Attributes l v x
      → drop p s ≡ x ++ y → Stops is_blank y → Leaves s (attributes_at s l p) v y
  unfolding attributes_at attributes_readable
  attributes_complete [] p v x y ok w e stops = record { place = p; reads = refl; left = rw w at e }
  attributes_complete (number n ∷ l) p (a, v) x y ok (x₁, x₂, f, h, i) e stops =
      let both = (and-eq-true_iff (begins_solid (opened n)) (attributes_readable l)).0 ok in
      leaves_next _ (number_complete n p x₁ (x₂ ++ y) both.0 h (cut x₁ x₂ y e f))
      (λ q g. leaves_with (λ u. (a, u)) (attributes_complete l q v x₂ y both.1 i g stops))
  attributes_complete (text n ∷ l) p v x y ok (x₁, x₂, f, h, i) e stops =
      let both = (and-eq-true_iff (begins_solid (opened n)) (attributes_readable l)).0 ok in
      leaves_next _ (text_complete n p x₁ (x₂ ++ y) both.0 h (cut x₁ x₂ y e f))
      (λ q g. attributes_complete l q v x₂ y both.1 i g stops)
  attributes_complete (together ns ∷ l) p (None, v) x y ok w e stops =
      let All_three = (and-eq-true_iff (names_solid ns) (told ns l && attributes_readable l)).0 ok in
      let both = (and-eq-true_iff (told ns l) (attributes_readable l)).0 All_three.1 in
      rw (missing ns l p v x y both.0 both.1 w e stops)
      (leaves_with (λ u. (None, u)) (attributes_complete l p v x y both.1 w e stops))
  attributes_complete (together ns ∷ l) p (Some a, v) x y ok (x₁, x₂, f, h, i) e stops =
      let All_three = (and-eq-true_iff (names_solid ns) (told ns l && attributes_readable l)).0 ok in
      let both = (and-eq-true_iff (told ns l) (attributes_readable l)).0 All_three.1 in
      let t = numbers_complete ns p a x₁ (x₂ ++ y) All_three.0 h (cut x₁ x₂ y e f) in
      rw t.reads
      (leaves_with (λ u. (Some a, u)) (attributes_complete l t.place v x₂ y both.1 i t.left stops))
