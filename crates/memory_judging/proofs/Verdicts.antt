-- What the judge says of an event: the answer's number is the table's first no, and an accepted event names the order that it hands on.
use Rattle.std.specs.Prelude.{◌≡◌, Result, Ok, Err, IfOk}
use Rattle.integers.specs.Basics.{ℕ, ◌∙◌, sym, subst, List}
use Rattle.limits.specs.declared.answer.Refusal.{Refusal}
use Rattle.limits.specs.Answers.{refusal_number, number_of}
use Rattle.book.specs.declared.Event.{Event}
use Rattle.memory_layout.specs.declared.orders.Named.{Named}
use Rattle.memory_layout.specs.Judged.{judged, NamedAt}

abbrev pub Says : List ℕ → Event → Result Named Refusal → Type 0
Says m e v = (number_of v ≡ judged m e) × IfOk v (λ named. NamedAt m e named.place named.detail.0)

-- a refusal names nothing
pub refused : (m : List ℕ) (e : Event) (v : Result Named Refusal) (r : Refusal) → v ≡ Err r → judged m e ≡ refusal_number r → Says m e v
refused m e v r is n = subst (λ (x : Result Named Refusal). Says m e x) (sym is) (sym n, tt)

-- the event that was told apart
module _ (m : List ℕ) (e f : Event) (same : e ≡ f) (v : Result Named Refusal) where
  pub says_same : Says m f v → Says m e v
  says_same s = subst (λ (x : Event). Says m x v) (sym same) s

  -- it names no order
  pub says_plain : number_of v ≡ judged m f → ((p w : ℕ) → NamedAt m f p w) → Says m e v
  says_plain n unnamed = says_same (by v n)
    where
      by : (x : Result Named Refusal) → number_of x ≡ judged m f → Says m f x
      by (Ok named) told = (told, unnamed named.place named.detail.0)
      by (Err r) told = (told, tt)
