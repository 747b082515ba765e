-- What an accepted setting sets is on the roster: the account, and the instrument, contract or group.
use Rattle.integers.specs.Basics.{ℕ, ℤ}
use Rattle.ledger.specs.Roster.{Roster, Numbered}
use Rattle.book.specs.declared.LimitLine.{LimitLine}
use Rattle.book.specs.declared.LimitLine.TheVariants.{Own, Default, OfGroup}
use Rattle.book.specs.declared.Blocked.{Blocked}
use Rattle.book.specs.declared.Blocked.TheVariants.{Account, Instrument, GroupFor}
use Rattle.book.specs.declared.Setting.TheVariants.{Limit, Balance, Block}
use Rattle.book.specs.declared.Event.TheVariants.{Set}
use Rattle.book.specs.States.{State}
use Rattle.book.specs.Table.{account_known, item_known}
use Rattle.book.proofs.Accepted.{Passed}
use Rattle.book.proofs.Tables.{between_numbered}

abbrev pub LineOnRoster : Roster → LimitLine → Type 0
LineOnRoster r (Own i f) = Numbered r.instruments i
LineOnRoster r (Default c f) = Numbered r.contracts c
LineOnRoster r (OfGroup g x y) = Numbered r.groups g

abbrev pub BlockOnRoster : Roster → Blocked → Type 0
BlockOnRoster r (Account a) = Numbered r.accounts a
BlockOnRoster r (Instrument i) = Numbered r.instruments i
BlockOnRoster r (GroupFor a g) = Numbered r.accounts a × Numbered r.groups g

module _ (k : State) where
  abbrev r : Roster
  r = k.roster

  pub limit_on_roster : (a : ℕ) (l : LimitLine) → Passed k (Set (Limit a l)) → Numbered r.accounts a × LineOnRoster r l
  unfolding account_known item_known
  limit_on_roster a (Own i f) ok = (between_numbered _ a ok.account, between_numbered _ i ok.item)
  limit_on_roster a (Default c f) ok = (between_numbered _ a ok.account, between_numbered _ c ok.item)
  limit_on_roster a (OfGroup g x y) ok = (between_numbered _ a ok.account, between_numbered _ g ok.item)

  pub balance_on_roster : (a i : ℕ) (z : ℤ) → Passed k (Set (Balance a i z)) → Numbered r.accounts a × Numbered r.instruments i
  unfolding account_known item_known
  balance_on_roster a i z ok = (between_numbered _ a ok.account, between_numbered _ i ok.item)

  pub block_on_roster : (what : Blocked) (z : ℤ) → Passed k (Set (Block what z)) → BlockOnRoster r what
  unfolding account_known item_known
  block_on_roster (Account a) z ok = between_numbered _ a ok.account
  block_on_roster (Instrument i) z ok = between_numbered _ i ok.item
  block_on_roster (GroupFor a g) z ok = (between_numbered _ a ok.account, between_numbered _ g ok.item)
