-- A layout of nested elements as data, and its meaning: which bytes are which element. Nothing here says how a file is read.
use Prim.Native.String.{String}
use Rattle.std.specs.Prelude.{◌≤◌, ◌≡◌, ◌⊎◌, ◌∷◌}
use Rattle.integers.specs.Basics.{ℕ, List, [], Option, None, Some, length}
use Rattle.grammar.specs.Bytes.{bytes, is_blank, is_digit, is_plain, value_of, Then, Literal, Each}

-- an attribute, by its name: a number, a text, or numbers of which all are there or none
pub data Attribute : Type 0 where
  number : String → Attribute
  text : String → Attribute
  together : List String → Attribute

-- an element, by its name and its attributes in order: one that has no children, or one whose children are all of one sort
pub data Element : Type 0 where
  leaf : String → List Attribute → Element
  holding : String → List Attribute → Element → Element

-- ---- what is kept of an element: its numbers and its children; texts are not
abbrev pub Numbers : List String → Type 0
Numbers [] = Unit {0}
Numbers (n ∷ ns) = ℕ × Numbers ns

abbrev pub Values : List Attribute → Type 0
Values [] = Unit {0}
Values (number n ∷ l) = ℕ × Values l
Values (text n ∷ l) = Values l
Values (together ns ∷ l) = Option (Numbers ns) × Values l

abbrev pub Value : Element → Type 0
Value (leaf n l) = Values l
Value (holding n l c) = Values l × List (Value c)

-- ---- an attribute: a blank or more, its name, and its value in quotes
pub record Blanks (s : List ℕ) : Type 0 where
  pub blank : Each is_blank s
  pub some_there : 1 ≤ length s

-- "every number is 1 to 10 digits"
pub record Digits (v : ℕ) (s : List ℕ) : Type 0 where
  pub digits : Each is_digit s
  pub one_at_least : 1 ≤ length s
  pub ten_at_most : length s ≤ 10
  pub says : v ≡ value_of s

-- "up to 100 bytes without quote, ampersand or angle bracket"
pub record Plain (s : List ℕ) : Type 0 where
  pub plain : Each is_plain s
  pub hundred_at_most : length s ≤ 100

abbrev pub Quoted : String → (List ℕ → Type 0) → List ℕ → Type 0
Quoted name P = Then Blanks (Then (Literal name) (Then (Literal "=\"") (Then P (Literal "\""))))

abbrev pub NumbersOf : (ns : List String) → Numbers ns → List ℕ → Type 0
NumbersOf [] v s = s ≡ []
NumbersOf (n ∷ ns) (x, v) s = Then (Quoted n (Digits x)) (NumbersOf ns v) s

abbrev pub Attributes : (l : List Attribute) → Values l → List ℕ → Type 0
Attributes [] v s = s ≡ []
Attributes (number n ∷ l) (x, v) s = Then (Quoted n (Digits x)) (Attributes l v) s
Attributes (text n ∷ l) v s = Then (Quoted n Plain) (Attributes l v) s
Attributes (together ns ∷ l) (None, v) s = Attributes l v s
Attributes (together ns ∷ l) (Some x, v) s = Then (NumbersOf ns x) (Attributes l v) s

-- ---- an element: its start tag, its children with blanks around them, its end tag; one that holds nothing may close with "/>"
abbrev pub Enclosed : String → (List ℕ → Type 0) → List ℕ → Type 0
Enclosed name P s =
    ((s ≡ bytes "/>") × P [])
    ⊎ Then (Literal ">") (Then (Each is_blank) (Then P (Then (Literal "</") (Then (Literal name) (Literal ">"))))) s

abbrev pub Many : {A : Type 0} → (A → List ℕ → Type 0) → List A → List ℕ → Type 0
Many P [] s = s ≡ []
Many P (v ∷ vs) s = Then (P v) (Then (Each is_blank) (Many P vs)) s

abbrev pub Tag : String → (l : List Attribute) → Values l → List ℕ → Type 0
Tag name l v = Then (Literal "<") (Then (Literal name) (Attributes l v))

-- THESE BYTES ARE THIS ELEMENT
abbrev pub Written : (e : Element) → Value e → List ℕ → Type 0
Written (leaf n l) v s = Then (Tag n l v) (Enclosed n (λ x. x ≡ [])) s
Written (holding n l c) (v, vs) s = Then (Tag n l v) (Enclosed n (Many (Written c) vs)) s
