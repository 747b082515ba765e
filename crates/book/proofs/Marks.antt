-- Trading marks: a NEW sets one, no other kind does, and none fades.
use Rattle.std.specs.Prelude.{◌≡◌, ◌⊎◌}
use Rattle.integers.specs.Basics.{ℕ, refl, inl, inr, Bool, true, ℤ}
use Rattle.ledger.specs.declared.order.Side.{Side}
use Rattle.book.specs.declared.Event.{Event}
use Rattle.book.specs.declared.Event.TheVariants.{Set, New, Change, Junk}
use Rattle.book.specs.States.{mark}
use Rattle.book.proofs.Tables.{at_here, at_each}

pub new_marks : (trading : ℕ → Bool) (s : Side) (a i id : ℕ) (n : ℤ) → mark trading (New s a i id n) a ≡ true
unfolding mark
new_marks trading s a i id n = at_here a true trading a refl

abbrev pub IsNewOf : ℕ → Event → Type 0
IsNewOf a (Set x) = ⊥
IsNewOf a (New s c i id n) = a ≡ c
IsNewOf a (Change id c) = ⊥
IsNewOf a Junk = ⊥

pub only_new_marks : (trading : ℕ → Bool) (e : Event) (a : ℕ) → mark trading e a ≡ true → (trading a ≡ true) ⊎ IsNewOf a e
unfolding mark
only_new_marks trading (Set x) a h = inl h
only_new_marks trading (New s c i id n) a h =
    at_each c true trading (λ t. t ≡ true → (trading a ≡ true) ⊎ (a ≡ c)) a (λ own _. inr own) (λ _ was. inl was) h
only_new_marks trading (Change id c) a h = inl h
only_new_marks trading Junk a h = inl h

-- and a mark stays
pub marks_stay : (trading : ℕ → Bool) (e : Event) (a : ℕ) → trading a ≡ true → mark trading e a ≡ true
unfolding mark
marks_stay trading (Set x) a h = h
marks_stay trading (New s c i id n) a h = at_each c true trading (λ t. t ≡ true) a (λ _. refl) (λ _. h)
marks_stay trading (Change id c) a h = h
marks_stay trading Junk a h = h
