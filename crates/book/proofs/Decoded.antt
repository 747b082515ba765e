-- What bytes decode to, by kind; a decoded NEW has an id that is not 0.
use Rattle.std.specs.Prelude.{◌≤◌, ◌≡◌, ◌≢◌, ◌&&◌}
use Rattle.integers.specs.Basics.{ℕ, refl, ◌∙◌, sym, Bool, true, false, cond, true≢false, List, ℤ, eqb, length, arith}
use mathlib.Core.Bool.{and-false}
use Rattle.ledger.specs.declared.order.Side.{Side}
use Rattle.ledger.proofs.Ways.{by_test}
use Rattle.limits.proofs.Answers.{both_true}
use Rattle.book.specs.declared.Setting.{Setting}
use Rattle.book.specs.declared.OrderChange.{OrderChange}
use Rattle.book.specs.declared.Event.{Event}
use Rattle.book.specs.declared.Event.TheVariants.{Set, New, Change, Junk}
use Rattle.book.specs.declared.NamedFields.{NamedFields}
use Rattle.book.specs.Decoding.{kind_of, level_field, id_field, is_setting, by_kind, new_names, named, fields_fit, is_kind, well_formed}
use Rattle.book.specs.Decoding.{event_of, decode}

-- the id of a NEW is not 0
abbrev pub HasId : Event → Type 0
HasId (Set x) = Unit
HasId (New s a i id n) = 1 ≤ id
HasId (Change id c) = Unit
HasId Junk = Unit

-- bytes that fit have an id where one is named
named_id : (n : NamedFields) (e : List ℕ) → n.id ≡ true → fields_fit n e ≡ true → 1 ≤ id_field e
unfolding fields_fit
named_id n e named fit =
    let apart : id_field e ≢ 0 = λ zero. true≢false (sym fit ∙ simp (named, zero, and-false)) in
    omega arith

-- what holds of each kind by itself, of settings as one, holds of the kind that a number names
kind_by_kind : {A B : Type 0} (Q : A → B → Type 0) (k : ℕ) (a b c d e : A) (s t u v w : B) → Q a s → Q b t → Q c u → Q d v → Q e w
    → Q (by_kind k a b c d e) (by_kind k s t u v w)
kind_by_kind Q k a b c d e s t u v w h₁ h₂ h₃ h₄ h₅ = by (is_setting k) (eqb k 4) (eqb k 5) (eqb k 6)
  where
    by : (set four five six : Bool) → Q (cond set a (cond four b (cond five c (cond six d e))))
        (cond set s (cond four t (cond five u (cond six v w))))
    by true four five six = h₁
    by false true five six = h₂
    by false false true six = h₃
    by false false false true = h₄
    by false false false false = h₅

-- what holds of every setting, of a NEW with the id that the bytes name, which is not 0, of every change, and of junk, holds of what
-- bytes decode to
pub decoded_each : (P : Event → Type 0) (e : List ℕ) → ((x : Setting) → P (Set x))
    → ((s : Side) (a i : ℕ) (n : ℤ) → 1 ≤ id_field e → P (New s a i (id_field e) n)) → ((id : ℕ) (c : OrderChange) → P (Change id c))
    → P Junk
    → P (decode e)
unfolding decode well_formed event_of named
decoded_each P e set new change junk =
    by_test (well_formed e) (λ w. rw w (each (both_true (eqb (length e) 48 && is_kind (kind_of e)) _ w).1)) (λ w. rw w junk)
  where
    each : fields_fit (named (kind_of e) (level_field e)) e ≡ true → P (event_of e)
    each =
        kind_by_kind {A = NamedFields} (λ n x. fields_fit n e ≡ true → P x) (kind_of e) _ _ _ _ _ _ _ _ _ _
        (λ _. set _) (λ fit. new _ _ _ _ (named_id new_names e refl fit)) (λ _. change _ _) (λ _. change _ _) (λ _. change _ _)

pub decoded_id : (e : List ℕ) → HasId (decode e)
decoded_id e = decoded_each HasId e (λ x. tt) (λ s a i n has. has) (λ id c. tt) tt
