-- "Set again", by lines; and a limit stays as it is unless it is set again.
use Rattle.std.specs.Prelude.{◌≡◌, ◌↔◌}
use Rattle.integers.specs.Basics.{ℕ, refl, ◌∙◌, sym, ap, inl, inr, ⊎_elim, by_cases, true, false, Some, ℕ_discrete}
use Rattle.ledger.specs.Roster.{Roster}
use Rattle.ledger.specs.Positions.{Way, Scope, instrument, group}
use Rattle.ledger.proofs.Ways.{by_test}
use Rattle.limits.specs.Lines.{Lines, is_set, line_in_force, limit}
use Rattle.limits.proofs.LineLaws.{unset_none, set_some}
use Rattle.book.specs.declared.Figures.{Figures}
use Rattle.book.specs.declared.LimitLine.{LimitLine}
use Rattle.book.specs.declared.LimitLine.TheVariants.{Own, Default, OfGroup}
use Rattle.book.specs.declared.Setting.TheVariants.{Limit}
use Rattle.book.specs.declared.Event.{Event}
use Rattle.book.specs.declared.Event.TheVariants.{Set, New, Change, Junk}
use Rattle.book.specs.Books.{Book, line_of, group_line_of, set_line, book_after}
use Rattle.book.specs.States.{State, work}
use Rattle.book.specs.SetAgain.{own_line, default_line, group_line, line_set, line_over, SetsAgain}
use Rattle.book.specs.Demand3.{limit_of}
use Rattle.book.proofs.Tables.{at_here, at_elsewhere}
use Rattle.book.proofs.Settings.{by_limit}

-- ---- the line that a position is under
module _ (r : Roster) (b : Book) (a : ℕ) where
  pub under_default : (i : ℕ) → is_set ((b.lines_of a).own_of i) ≡ false → line_over r b a (instrument i) ≡ default_line a (r.contract_of i)
  unfolding line_over
  under_default i e = rw e

  pub under_own : (i : ℕ) → is_set ((b.lines_of a).own_of i) ≡ true → line_over r b a (instrument i) ≡ own_line a i
  unfolding line_over
  under_own i e = rw e

  pub under_group : (g : ℕ) → line_over r b a (group g) ≡ group_line a g
  unfolding line_over
  under_group g = refl

-- a group's limit is set again by a LIMIT on the group's line
pub group_set_again : (k : State) (e : Event) (a g : ℕ) → SetsAgain k e a (group g) ↔ (line_set e ≡ Some (group_line a g))
group_set_again k e a g = (
  ⊎_elim (λ h. h ∙ ap Some (under_group k.roster _ a g)) (λ h. h ∙ ap Some (under_group k.roster _ a g)),
  λ h. inl (h ∙ ap Some (sym (under_group k.roster _ a g))),
)

-- ---- the lines after a LIMIT of the account
module _ (k : State) (a : ℕ) where
  pub lines_own : (l : LimitLine) → (work k (Set (Limit a l))).book.lines_of a ≡ set_line l (k.book.lines_of a)
  unfolding book_after
  lines_own l = at_here a (set_line l (k.book.lines_of a)) k.book.lines_of a refl

-- ---- a limit stays unless it is set again
module _ (k : State) (a : ℕ) (w : Way) where
  abbrev r : Roster
  r = k.roster

  abbrev ls : Lines
  ls = k.book.lines_of a

  -- the own line of instrument i: not set before nor after, so that another line is in force
  own_line_stays : (i : ℕ) (f : Figures) → ¬ SetsAgain k (Set (Limit a (Own i f))) a (instrument i)
      → limit r (set_line (Own i f) ls) (instrument i) w ≡ limit r ls (instrument i) w
  unfolding limit set_line line_in_force line_set
  own_line_stays i f out =
      by_test (is_set (ls.own_of i)) (λ set. absurd (out (inl (rw (under_own r k.book a i set)))))
      (λ not_set. by_test (is_set (line_of f))
      (λ set. absurd (out (inr (rw (under_own r (work k (Set (Limit a (Own i f)))).book a i (ap is_set after_own ∙ set))))))
      (λ unset. rw (at_here i (line_of f) ls.own_of i refl, unset_none (line_of f) unset, unset_none (ls.own_of i) not_set)))
    where
      after_own : ((work k (Set (Limit a (Own i f)))).book.lines_of a).own_of i ≡ line_of f
      after_own = ap (λ (x : Lines). x.own_of i) (lines_own k a (Own i f)) ∙ at_here i (line_of f) ls.own_of i refl

  -- the default line of the instrument's contract: under an own line it is not in force
  default_line_stays : (i : ℕ) (f : Figures) → ¬ SetsAgain k (Set (Limit a (Default (r.contract_of i) f))) a (instrument i)
      → limit r (set_line (Default (r.contract_of i) f) ls) (instrument i) w ≡ limit r ls (instrument i) w
  unfolding limit set_line line_in_force line_set
  default_line_stays i f out =
      by_test (is_set (ls.own_of i)) (λ set. rw (set_some (ls.own_of i) set).1)
      (λ unset. absurd (out (inl (rw (under_default r k.book a i unset)))))

  own_stays : (l : LimitLine) (p : Scope) → ¬ SetsAgain k (Set (Limit a l)) a p
      → limit r (set_line l ls) p w ≡ limit r ls p w
  unfolding limit set_line line_in_force line_set
  own_stays (Own i f) (instrument j) out =
      by_cases (ℕ_discrete i j)
      (λ e. rw e (own_line_stays j f (rw e at out)))
      (λ apart. rw (at_elsewhere i (line_of f) ls.own_of j (λ e. apart (sym e))))
  own_stays (Own i f) (group g) out = refl
  own_stays (Default c f) (instrument j) out =
      by_cases (ℕ_discrete c (r.contract_of j))
      (λ e. rw e (default_line_stays j f (rw e at out)))
      (λ apart. rw (at_elsewhere c (line_of f) ls.default_of (r.contract_of j) (λ e. apart (sym e))))
  own_stays (Default c f) (group g) out = refl
  own_stays (OfGroup g x y) (instrument j) out = refl
  own_stays (OfGroup g x y) (group h) out =
      by_cases (ℕ_discrete h g) (λ e. absurd (out (inl (rw (under_group r k.book a h, e)))))
      (λ apart. rw (at_elsewhere g (group_line_of x y) ls.line_of_group h apart))

  line_stays : (c : ℕ) (l : LimitLine) (p : Scope) → ¬ SetsAgain k (Set (Limit c l)) a p
      → limit_of (work k (Set (Limit c l))) a p w ≡ limit_of k a p w
  unfolding book_after
  line_stays c l p out =
      by_cases (ℕ_discrete c a) (λ e. rw e (ap (λ (x : Lines). limit r x p w) (lines_own k a l) ∙ own_stays l p (rw e at out)))
      (λ other. rw (at_elsewhere c (set_line l (k.book.lines_of c)) k.book.lines_of a (λ e. other (sym e))))

  pub limit_stays : (e : Event) (p : Scope) → ¬ SetsAgain k e a p
      → limit_of (work k e) a p w ≡ limit_of k a p w
  unfolding book_after
  limit_stays (Set x) p out =
      by_limit (λ s. ¬ SetsAgain k (Set s) a p → limit_of (work k (Set s)) a p w ≡ limit_of k a p w) x (λ c l. line_stays c l p)
      (λ none _. rw none) out
  limit_stays (New s c i id n) p out = refl
  limit_stays (Change id c) p out = refl
  limit_stays Junk p out = refl
