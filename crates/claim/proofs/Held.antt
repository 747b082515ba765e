-- What is kept from an opening holds the opening's roster and the derivatives market: the claim names them, and the demand of the gate
-- takes them from what is kept.
use Rattle.std.specs.Prelude.{◌≡◌, ◌⊎◌, ◌↔◌}
use Rattle.integers.specs.Basics.{ℕ, refl, ◌∙◌, sym, subst, inl, inr, ⊎_elim, List}
use Rattle.ledger.specs.Derivatives.{one}
use Rattle.ledger.specs.Positions.{Scope}
use Rattle.ledger.specs.Roster.{Roster}
use Rattle.book.specs.declared.LimitLine.{LimitLine}
use Rattle.book.specs.declared.Event.{Event}
use Rattle.book.specs.declared.Setting.TheVariants.{Limit}
use Rattle.book.specs.declared.Event.TheVariants.{Set}
use Rattle.book.specs.Market.{derivatives}
use Rattle.book.specs.Books.{book_after}
use Rattle.book.specs.States.{State, begun}
use Rattle.book.specs.EventLists.{RawEvent, as_event, keep, state_after}
use Rattle.book.specs.SetAgain.{name_of, line_over, SetsAgain}
use Rattle.book.specs.Demand3.{NotSetAgain}
use Rattle.book.proofs.StateLaws.{market_kept, market_after, roster_kept, roster_after}
use Rattle.book.proofs.SetAgainLaws.{set_by_that_limit}
use Rattle.book.proofs.NotSetAgainLaws.{not_set_again_iff}
use Rattle.memory_opening.specs.Questions.{roster_from}
use Rattle.memory_opening.specs.Opening.{after_opening}
use Rattle.claim.specs.GateDemands.{gate, kept_after}
use Rattle.claim.specs.Examples.{NoneOnTheLine}

module _ (r : Roster) where
  abbrev pub Held : State → Type 0
  Held k = (k.market ≡ derivatives) × (k.roster ≡ r)

  pub held_kept : (k : State) (e : Event) (n : ℕ) → Held k → Held (keep k e n)
  held_kept k e n held = (market_kept k e n ∙ held.0, roster_kept k e n ∙ held.1)

  pub held_after : (m : List ℕ) (k : State) (es : List RawEvent) → Held k → Held (state_after gate m k es)
  held_after m k es held = (market_after gate m k es ∙ held.0, roster_after gate m k es ∙ held.1)

  -- the market and the roster by name
  abbrev pub named : State → State
  named k = record { market = derivatives; roster = r; book = k.book; beside = k.beside }

  pub by_name : (k : State) → Held k → k ≡ named k
  by_name k held = rw (← held.0, ← held.1) refl

  -- what sets a limit again is a LIMIT on the line that the position is under before it or after it
  abbrev OnTheLine : State → Event → ℕ → Scope → Type 0
  OnTheLine k e a p =
      (c : ℕ)
      × (l : LimitLine)
      × (e ≡ Set (Limit c l))
      × ((name_of c l ≡ line_over r k.book a p) ⊎ (name_of c l ≡ line_over r (book_after one k.book e) a p))

  sets_on_the_line : (k : State) → Held k → (e : Event) (a : ℕ) (p : Scope) → SetsAgain k e a p ↔ OnTheLine k e a p
  unfolding derivatives
  sets_on_the_line k held e a p = (
    λ h. ⊎_elim
        (λ x. let s = (set_by_that_limit e _).0 x in (s.0, s.1, s.2, inl (sym s.3)))
        (λ x. let s = (set_by_that_limit e _).0 x in (s.0, s.1, s.2, inr (sym s.3)))
        (subst (λ (x : State). SetsAgain x e a p) (by_name k held) h),
    λ h. subst (λ (x : State). SetsAgain x e a p) (sym (by_name k held))
        (⊎_elim
        (λ under. inl ((set_by_that_limit e _).1 (h.0, h.1, h.2, sym under)))
        (λ under. inr ((set_by_that_limit e _).1 (h.0, h.1, h.2, sym under)))
        h.3),
  )

  -- so no accepted LIMIT of a list is on that line
  pub none_on_the_line : (m : List ℕ) (k : State) → Held k → (a : ℕ) (p : Scope) (es : List RawEvent)
      → NotSetAgain gate m k a p es ↔ NoneOnTheLine r m k a p es
  none_on_the_line m k held a p es =
      let same = not_set_again_iff gate a p m k es in (
        λ out before e behind c l cut limits zero under. same.0 out before e behind cut zero ((sets before e).1 (c, l, limits, under)),
        λ none. same.1 (λ before e behind cut zero again.
            let x = (sets before e).0 again in
            none before e behind x.0 x.1 cut x.2 zero x.3),
      )
    where
      sets : (before : List RawEvent) (e : RawEvent)
          → SetsAgain (state_after gate m k before) (as_event e) a p ↔ OnTheLine (state_after gate m k before) (as_event e) a p
      sets before e = sets_on_the_line (state_after gate m k before) (held_after m k before held) (as_event e) a p

pub held_from_opening : (m s : List ℕ) (events : List RawEvent) → Held (roster_from s) (kept_after m s events)
held_from_opening m s events = held_after (roster_from s) (after_opening m s) (begun derivatives (roster_from s)) events (refl, refl)
