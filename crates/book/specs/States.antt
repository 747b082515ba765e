-- What a desk holds: its market, its roster, the plain book, and what stands beside the book; and what an accepted event does to it.
use Rattle.integers.specs.Basics.{ℕ, Bool, true, false}
use Rattle.ledger.specs.Roster.{Roster}
use Rattle.book.specs.declared.Event.{Event}
use Rattle.book.specs.declared.Event.TheVariants.{Set, New, Change, Junk}
use Rattle.book.specs.Market.{Market}
use Rattle.book.specs.Books.{Book, empty_book, at, book_after}

-- beside the book: which accounts are marked as trading
pub record Beside : Type 0 where
  pub trading : ℕ → Bool

pub record State : Type 0 where
  pub market : Market
  pub roster : Roster
  pub book : Book
  pub beside : Beside

-- "Only an accepted NEW sets that mark"
unfoldable pub mark : (ℕ → Bool) → Event → ℕ → Bool
mark trading (Set x) = trading
mark trading (New s a i id n) = at a true trading
mark trading (Change id c) = trading
mark trading Junk = trading

-- what a desk of a market holds when it is opened with a roster: the book begins empty, and no account is marked
abbrev pub begun : Market → Roster → State
begun mk r = record { market = mk; roster = r; book = empty_book; beside = record { trading = λ a. false } }

-- an accepted event is worked: market and roster stay
abbrev pub work : State → Event → State
work k e =
    record {
      market = k.market;
      roster = k.roster;
      book = book_after k.market.unit k.book e;
      beside = record { trading = mark k.beside.trading e };
    }
