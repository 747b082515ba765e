-- How an element is read, by places in a file: what is written from place p on. Code is proved equal to it, and it is proved to find
-- exactly what the grammar has.
use Prim.Native.String.{String}
use Rattle.std.specs.Prelude.{◌+◌, ◌&&◌, ◌∷◌, ◌++◌}
use Rattle.integers.specs.Basics.{ℕ, zero, suc, Bool, true, false, cond, List, [], Option, None, Some}
use Rattle.integers.specs.Basics.{leb, ltb, eqb, length, take, drop}
use Rattle.grammar.specs.Bytes.{bytes, is_blank, is_digit, is_plain, value_of}
use Rattle.grammar.specs.Grammar.{Attribute, number, text, together, Element, leaf, holding, Numbers, Values, Value}

-- what is read from a place on: nothing, or what ends before place n
pub data Reading (A : Type 0) : Type 0 where
  nothing : Reading A
  up_to : A → ℕ → Reading A

-- and what is read behind it
abbrev pub next : {A B : Type 0} → Reading A → (A → ℕ → Reading B) → Reading B
next nothing f = nothing
next (up_to v n) f = f v n

abbrev pub with : {A B : Type 0} → (A → B) → Reading A → Reading B
with f nothing = nothing
with f (up_to v n) = up_to (f v) n

-- ---- bytes
unfoldable pub starts : List ℕ → List ℕ → Bool
starts [] s = true
starts (b ∷ l) [] = false
starts (b ∷ l) (c ∷ s) = eqb b c && starts l s

-- how many bytes in a row are of a class, n at most
unfoldable pub span : (ℕ → Bool) → ℕ → List ℕ → ℕ
span f zero s = 0
span f (suc n) [] = 0
span f (suc n) (b ∷ s) = cond (f b) (suc (span f n s)) 0

abbrev pub literal_at : List ℕ → List ℕ → ℕ → Bool
literal_at s l p = starts l (drop p s)

unfoldable pub past_blanks : List ℕ → ℕ → ℕ
past_blanks s p = p + span is_blank (length s) (drop p s)

-- ---- attributes
-- a name with what stands between it and its value
abbrev pub opened : String → List ℕ
opened name = bytes name ++ bytes "=\""

unfoldable pub opening_at : List ℕ → List ℕ → ℕ → Reading (Unit {0})
opening_at s l p =
    let q = past_blanks s p in
    cond (ltb p q && literal_at s l q) (up_to tt (q + length l)) nothing

-- k bytes and the quote behind them
abbrev closed_at : {A : Type 0} → List ℕ → Bool → ℕ → A → Reading A
closed_at s fits n v = cond (fits && literal_at s (bytes "\"") n) (up_to v (n + 1)) nothing

unfoldable pub digits_at : List ℕ → ℕ → Reading ℕ
digits_at s p =
    let k = span is_digit 11 (drop p s) in
    closed_at s (leb 1 k && leb k 10) (p + k) (value_of (take k (drop p s)))

unfoldable pub plain_at : List ℕ → ℕ → Reading (Unit {0})
plain_at s p =
    let k = span is_plain 101 (drop p s) in
    closed_at s (leb k 100) (p + k) tt

unfoldable pub number_at : List ℕ → List ℕ → ℕ → Reading ℕ
number_at s l p = next (opening_at s l p) (λ t q. digits_at s q)

unfoldable pub text_at : List ℕ → List ℕ → ℕ → Reading (Unit {0})
text_at s l p = next (opening_at s l p) (λ t q. plain_at s q)

unfoldable pub numbers_at : List ℕ → (ns : List String) → ℕ → Reading (Numbers ns)
numbers_at s [] p = up_to tt p
numbers_at s (n ∷ ns) p = next (number_at s (opened n) p) (λ x q. with (λ v. (x, v)) (numbers_at s ns q))

-- numbers of which all are there or none
abbrev pub or_none : {A : Type 0} → ℕ → Reading A → Reading (Option A)
or_none p nothing = up_to None p
or_none p (up_to v n) = up_to (Some v) n

unfoldable pub attributes_at : List ℕ → (l : List Attribute) → ℕ → Reading (Values l)
attributes_at s [] p = up_to tt p
attributes_at s (number n ∷ l) p = next (number_at s (opened n) p) (λ x q. with (λ v. (x, v)) (attributes_at s l q))
attributes_at s (text n ∷ l) p = next (text_at s (opened n) p) (λ t q. attributes_at s l q)
attributes_at s (together ns ∷ l) p = next (or_none p (numbers_at s ns p)) (λ x q. with (λ v. (x, v)) (attributes_at s l q))

-- ---- elements
abbrev pub opening : String → List ℕ
opening name = bytes "<" ++ bytes name

abbrev pub closing : String → List ℕ
closing name = bytes "</" ++ (bytes name ++ bytes ">")

unfoldable pub tag_at : List ℕ → String → (l : List Attribute) → ℕ → Reading (Values l)
tag_at s name l p = cond (literal_at s (opening name) p) (attributes_at s l (p + length (opening name))) nothing

-- what an element holds, read by f from behind ">" and blanks on; nothing where it closes with "/>"
abbrev enclosed_at : {A : Type 0} → List ℕ → A → (ℕ → Reading A) → ℕ → Reading A
enclosed_at s v f p =
    cond (literal_at s (bytes "/>") p) (up_to v (p + 2)) (cond (literal_at s (bytes ">") p) (f (past_blanks s (p + 1))) nothing)

unfoldable pub childless_at : List ℕ → String → ℕ → Reading (Unit {0})
childless_at s name p =
    enclosed_at s tt (λ q. cond (literal_at s (closing name) q) (up_to tt (q + length (closing name))) nothing) p

-- children up to the end tag, n of them at most
unfoldable pub many_at : {A : Type 0} → List ℕ → (ℕ → Reading A) → List ℕ → ℕ → ℕ → Reading (List A)
many_at s r close zero p = nothing
many_at s r close (suc n) p =
    cond (literal_at s close p) (up_to [] (p + length close))
    (next (r p) (λ v q. with (λ vs. v ∷ vs) (many_at s r close n (past_blanks s q))))

-- they are no more than the bytes
unfoldable pub children_at : {A : Type 0} → List ℕ → (ℕ → Reading A) → String → ℕ → Reading (List A)
children_at s r name p = enclosed_at s [] (many_at s r (closing name) (suc (length s))) p

unfoldable pub element_at : List ℕ → (e : Element) → ℕ → Reading (Value e)
element_at s (leaf name l) p = next (tag_at s name l p) (λ v q. with (λ t. v) (childless_at s name q))
element_at s (holding name l c) p = next (tag_at s name l p) (λ v q. with (λ vs. (v, vs)) (children_at s (element_at s c) name q))
