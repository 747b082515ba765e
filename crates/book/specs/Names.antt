-- What an event names, in document 01's words: an account, an item, an order that is to be new, an open order and its change.
use Rattle.integers.specs.Basics.{ℕ, Option, None, Some}
use Rattle.ledger.specs.declared.order.Order.{Order}
use Rattle.book.specs.declared.OrderChange.{OrderChange}
use Rattle.book.specs.declared.Setting.{Setting}
use Rattle.book.specs.declared.Event.{Event}
use Rattle.book.specs.declared.Event.TheVariants.{Set, New, Change, Junk}
use Rattle.book.specs.declared.Item.{Item}
use Rattle.book.specs.declared.Item.TheVariants as item
use Rattle.book.specs.Settings.{setting_account, setting_item, IsBalance, as_balance}
use Rattle.book.specs.Books.{new_order}

-- the named account
abbrev pub named_account : Event → Option ℕ
named_account (Set x) = setting_account x
named_account (New s a i id n) = Some a
named_account (Change id c) = None
named_account Junk = None

-- the named item
abbrev pub named_item : Event → Option Item
named_item (Set x) = setting_item x
named_item (New s a i id n) = Some (item.Instrument i)
named_item (Change id c) = None
named_item Junk = None

-- the account whose balance a BALANCE sets
abbrev balance_owner : {x : Setting} → Option (IsBalance x) → Option ℕ
balance_owner None = None
balance_owner (Some s) = Some s.account

abbrev pub balance_account : Event → Option ℕ
balance_account (Set x) = balance_owner (as_balance x)
balance_account (New s a i id n) = None
balance_account (Change id c) = None
balance_account Junk = None

-- the order of a NEW
abbrev pub new_order_of : Event → Option Order
new_order_of (Set x) = None
new_order_of (New s a i id n) = Some (new_order s a i id n)
new_order_of (Change id c) = None
new_order_of Junk = None

-- the id and the change of a REPLACE, a CANCEL or a FILL
pub record NamedChange : Type 0 where
  pub id : ℕ
  pub change : OrderChange

abbrev pub change_of : Event → Option NamedChange
change_of (Set x) = None
change_of (New s a i id n) = None
change_of (Change id c) = Some (record { id = id; change = c })
change_of Junk = None
