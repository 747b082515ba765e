-- LIMITs that set a limit again, and LIMITs that do not, computed.
use Rattle.std.specs.Prelude.{◌≡◌}
use Rattle.integers.specs.Basics.{ℕ, refl, inl, inr, ⊎_elim, false, [], None, Some, ℤ, pos, negsuc, arith}
use Rattle.ledger.specs.Roster.{Roster}
use Rattle.ledger.specs.Positions.{Scope, instrument, group}
use Rattle.limits.specs.declared.lines.Line.{Line}
use Rattle.book.specs.declared.Figures.{Figures}
use Rattle.book.specs.declared.LimitLine.TheVariants.{Own, Default, OfGroup}
use Rattle.book.specs.declared.Setting.{Setting}
use Rattle.book.specs.declared.Setting.TheVariants.{Limit, Balance}
use Rattle.book.specs.declared.Event.TheVariants.{Set}
use Rattle.book.specs.Market.{derivatives}
use Rattle.book.specs.Books.{Book, at, unsets, line_of, group_line_of, set_line, book_after}
use Rattle.book.specs.SetAgain.{line_set, line_over, SetsAgain}

-- account 1, one contract; instrument 1 has no line of its own, instrument 2 has
abbrev roster : Roster
roster =
    record { accounts = 2; groups = 1; contracts = 1; instruments = 2; group_of = λ c. 1; contract_of = λ i. 1; weight = λ i. pos 10000 }

abbrev figures : ℤ → Figures
figures z = record { tci = z; tvi = z; lci = z; lvi = z }

abbrev line : Line
line = record { tci = 9; tvi = 9; lci = 9; lvi = 9 }

abbrev book : Book
book =
    record {
      balance_of = λ a i. pos 0;
      lines_of =
          λ a. record {
            own_of = at 2 (Some line) (λ i. None);
            default_of = λ c. Some line;
            line_of_group =
                λ g. Some (record { lcc = 9; lvc = 9 });
          };
      blocks = record { account = λ a. false; instrument = λ i. false; group = λ a g. false };
      orders = [];
    }

abbrev Again : Setting → Scope → Type 0
Again x p =
    SetsAgain (record { market = derivatives; roster = roster; book = book; beside = record { trading = λ a. false } }) (Set x) 1 p

-- the own line is unset while it is not set: nothing in force changes
unset_twice : ¬ Again (Limit 1 (Own 1 (figures (negsuc 0)))) (instrument 1)
unfolding line_set line_over book_after set_line line_of unsets
unset_twice = ⊎_elim (λ e. cc) (λ e. cc)

-- the default line under an own line that is set
default_under_own : ¬ Again (Limit 1 (Default 1 (figures (pos 5)))) (instrument 2)
unfolding line_set line_over book_after set_line line_of unsets
default_under_own = ⊎_elim (λ e. cc) (λ e. cc)

-- the same line of another account
another_account : ¬ Again (Limit 2 (Default 1 (figures (pos 5)))) (instrument 1)
unfolding line_set line_over book_after set_line line_of unsets
another_account = ⊎_elim (λ e. let z : ◌≡◌ {A = ℕ} 1 2 = cc in omega arith) (λ e. let z : ◌≡◌ {A = ℕ} 1 2 = cc in omega arith)

-- an instrument's line, for the group; the group's line, for an instrument
instrument_for_group : ¬ Again (Limit 1 (Own 2 (figures (pos 5)))) (group 1)
unfolding line_set line_over book_after set_line line_of unsets
instrument_for_group = ⊎_elim (λ e. cc) (λ e. cc)

group_for_instrument : ¬ Again (Limit 1 (OfGroup 1 (pos 5) (pos 5))) (instrument 2)
unfolding line_set line_over book_after set_line line_of unsets
group_for_instrument = ⊎_elim (λ e. cc) (λ e. cc)

-- no other kind of event
by_balance : ¬ Again (Balance 1 1 (pos 5)) (instrument 1)
unfolding line_set line_over book_after
by_balance = ⊎_elim (λ e. cc) (λ e. cc)

-- the default line in force, with the figures that it has: set again
default_in_force : Again (Limit 1 (Default 1 (figures (pos 9)))) (instrument 1)
unfolding line_set line_over book_after set_line line_of unsets
default_in_force = inl refl

-- an own line is set where the default was in force: after it the own line is
own_comes : Again (Limit 1 (Own 1 (figures (pos 0)))) (instrument 1)
unfolding line_set line_over book_after set_line line_of unsets
own_comes = inr refl

-- an own line is unset: before it the own line was in force
own_goes : Again (Limit 1 (Own 2 (figures (negsuc 0)))) (instrument 2)
unfolding line_set line_over book_after set_line line_of unsets
own_goes = inl refl

-- the group's line, −1 included
group_unset : Again (Limit 1 (OfGroup 1 (negsuc 0) (negsuc 0))) (group 1)
unfolding line_set line_over book_after set_line group_line_of
group_unset = inl refl

-- the own line of another instrument, and of another account
another_own_line : ¬ Again (Limit 1 (Own 1 (figures (pos 5)))) (instrument 2)
unfolding line_set line_over book_after set_line line_of unsets
another_own_line = ⊎_elim (λ e. let z : ◌≡◌ {A = ℕ} 1 2 = cc in omega arith) (λ e. let z : ◌≡◌ {A = ℕ} 1 2 = cc in omega arith)

own_line_of_another : ¬ Again (Limit 2 (Own 2 (figures (pos 5)))) (instrument 2)
unfolding line_set line_over book_after set_line line_of unsets
own_line_of_another = ⊎_elim (λ e. let z : ◌≡◌ {A = ℕ} 1 2 = cc in omega arith) (λ e. let z : ◌≡◌ {A = ℕ} 1 2 = cc in omega arith)
