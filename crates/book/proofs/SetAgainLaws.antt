-- "Set again" is document 01's sentence, line by line.
use Rattle.std.specs.Prelude.{◌≡◌, ◌⊎◌, ◌↔◌}
use Rattle.integers.specs.Basics.{ℕ, refl, ◌∙◌, sym, ap, inl, inr, ⊎_elim, true, false, Some, ℤ}
use mathlib.Core.Logic.Iff
use Rattle.ledger.specs.Positions.{instrument, group}
use Rattle.ledger.proofs.Ways.{by_test}
use Rattle.limits.specs.Lines.{is_set}
use Rattle.limits.proofs.LineLaws.{none_some}
use Rattle.book.specs.declared.Figures.{Figures}
use Rattle.book.specs.declared.LimitLine.{LimitLine}
use Rattle.book.specs.declared.LimitLine.TheVariants.{Own, Default, OfGroup}
use Rattle.book.specs.declared.Setting.TheVariants.{Limit}
use Rattle.book.specs.declared.Event.{Event}
use Rattle.book.specs.declared.Event.TheVariants.{Set, New, Change, Junk}
use Rattle.book.specs.Books.{set_line}
use Rattle.book.specs.States.{State, work}
use Rattle.book.specs.SetAgain.{LineName, name_of, own_line, default_line, group_line, line_set, SetsAgain}
use Rattle.book.proofs.Settings.{by_limit}
use Rattle.book.proofs.LimitsStay.{under_own, under_default, group_set_again, lines_own}

-- ---- "by an accepted LIMIT": no other event sets a line, and a LIMIT sets the one that it names
abbrev pub IsLimitOn : LineName → Event → Type 0
IsLimitOn n e = (a : ℕ) × (l : LimitLine) × (e ≡ Set (Limit a l)) × (n ≡ name_of a l)

pub set_by_that_limit : (e : Event) (n : LineName) → (line_set e ≡ Some n) ↔ IsLimitOn n e
unfolding line_set
set_by_that_limit e n = (there e, λ h. rw (h.2, h.3))
  where
    there : (e : Event) → line_set e ≡ Some n → IsLimitOn n e
    there (Set x) h =
        by_limit (λ s. line_set (Set s) ≡ Some n → IsLimitOn n (Set s)) x (λ a l h. (a, l, refl, cc))
        (λ none h. none_some n (rw none at h)) h
    there (New s a i id q) h = none_some n h
    there (Change id c) h = none_some n h
    there Junk h = none_some n h

-- an instrument's own line, a contract's default line, a group's line: each by a LIMIT of the account on it
pub own_line_set_lem : (e : Event) (a i : ℕ) → (line_set e ≡ Some (own_line a i)) ↔ ((f : Figures) × (e ≡ Set (Limit a (Own i f))))
unfolding line_set
own_line_set_lem e a i = (λ h. let that = (set_by_that_limit e (own_line a i)).0 h in by that.0 that.1 that.3 that.2, λ h. rw h.1)
  where
    by : (c : ℕ) (l : LimitLine) → own_line a i ≡ name_of c l → e ≡ Set (Limit c l) → (f : Figures) × (e ≡ Set (Limit a (Own i f)))
    by c (Own j f) n h = (f, cc)
    by c (Default d f) n h = cc
    by c (OfGroup g x y) n h = cc

pub default_line_set : (e : Event) (a c : ℕ) → (line_set e ≡ Some (default_line a c)) ↔ ((f : Figures) × (e ≡ Set (Limit a (Default c f))))
unfolding line_set
default_line_set e a c =
    (λ h. let that = (set_by_that_limit e (default_line a c)).0 h in by that.0 that.1 that.3 that.2, λ h. rw h.1)
  where
    by : (d : ℕ) (l : LimitLine) → default_line a c ≡ name_of d l → e ≡ Set (Limit d l) → (f : Figures) × (e ≡ Set (Limit a (Default c f)))
    by d (Own j f) n h = cc
    by d (Default k f) n h = (f, cc)
    by d (OfGroup g x y) n h = cc

pub group_line_set : (e : Event) (a g : ℕ) → (line_set e ≡ Some (group_line a g))
    ↔ ((x : ℤ) × (y : ℤ) × (e ≡ Set (Limit a (OfGroup g x y))))
unfolding line_set
group_line_set e a g =
    (λ h. let that = (set_by_that_limit e (group_line a g)).0 h in by that.0 that.1 that.3 that.2, λ h. rw h.2)
  where
    by : (c : ℕ) (l : LimitLine) → group_line a g ≡ name_of c l → e ≡ Set (Limit c l)
        → (x : ℤ) × (y : ℤ) × (e ≡ Set (Limit a (OfGroup g x y)))
    by c (Own j f) n h = cc
    by c (Default d f) n h = cc
    by c (OfGroup k x y) n h = (x, y, cc)

-- an event that sets a default line leaves every own line
default_keeps_own : (k : State) (e : Event) (a c i : ℕ) → line_set e ≡ Some (default_line a c)
    → ((work k e).book.lines_of a).own_of i ≡ (k.book.lines_of a).own_of i
unfolding set_line
default_keeps_own k e a c i h =
    let that = (default_line_set e a c).0 h in
    rw (that.1, lines_own k a (Default c that.0))

module _ (k : State) (e : Event) (a : ℕ) where
  -- an instrument's limit is set again by a LIMIT on its own line where that is set before or after it, or on its contract's default
  -- line where its own is not set
  pub instrument_set_again : (i : ℕ) → SetsAgain k e a (instrument i)
      ↔ (((line_set e ≡ Some (own_line a i)) × ((is_set ((k.book.lines_of a).own_of i) ≡ true)
      ⊎ (is_set (((work k e).book.lines_of a).own_of i) ≡ true)))
      ⊎ ((line_set e ≡ Some (default_line a (k.roster.contract_of i))) × (is_set ((k.book.lines_of a).own_of i) ≡ false)))
  instrument_set_again i =
      let r = k.roster in
      let b = k.book in
      let b' = (work k e).book in (
        ⊎_elim
            (λ h. by_test (is_set ((b.lines_of a).own_of i)) (λ set. inl (h ∙ ap Some (under_own r b a i set), inl set))
            (λ unset. inr (h ∙ ap Some (under_default r b a i unset), unset)))
            (λ h. by_test (is_set ((b'.lines_of a).own_of i)) (λ set. inl (h ∙ ap Some (under_own r b' a i set), inr set))
            (λ unset.
            let d = h ∙ ap Some (under_default r b' a i unset) in
            inr (d, ap is_set (sym (default_keeps_own k e a (r.contract_of i) i d)) ∙ unset))),
        ⊎_elim
            (λ h. ⊎_elim (λ set. inl (h.0 ∙ ap Some (sym (under_own r b a i set))))
            (λ set. inr (h.0 ∙ ap Some (sym (under_own r b' a i set)))) h.1)
            (λ h. inl (h.0 ∙ ap Some (sym (under_default r b a i h.1)))),
      )

  -- ---- the same with the events written out
  pub group_again : (g : ℕ) → SetsAgain k e a (group g) ↔ ((x : ℤ) × (y : ℤ) × (e ≡ Set (Limit a (OfGroup g x y))))
  group_again g = Iff.trans (group_set_again k e a g) (group_line_set e a g)

  pub instrument_again : (i : ℕ) → SetsAgain k e a (instrument i)
      ↔ ((((f : Figures) × (e ≡ Set (Limit a (Own i f))))
      × ((is_set ((k.book.lines_of a).own_of i) ≡ true) ⊎ (is_set (((work k e).book.lines_of a).own_of i) ≡ true))) ⊎
      (((f : Figures) × (e ≡ Set (Limit a (Default (k.roster.contract_of i) f)))) × (is_set ((k.book.lines_of a).own_of i) ≡ false)))
  instrument_again i =
      let own = own_line_set_lem e a i in
      let default = default_line_set e a (k.roster.contract_of i) in
      let law = instrument_set_again i in (
        λ h. ⊎_elim (λ x. inl (own.0 x.0, x.1)) (λ x. inr (default.0 x.0, x.1)) (law.0 h),
        λ h. law.1 (⊎_elim (λ x. inl (own.1 x.0, x.1)) (λ x. inr (default.1 x.0, x.1)) h),
      )
