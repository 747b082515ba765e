-- A setting, in document 01's words: what a LIMIT, a BALANCE and a BLOCK name, and which of the three it is. Whatever does not ask that
-- takes a setting as it is.
use Rattle.std.specs.Prelude.{◌≡◌}
use Rattle.integers.specs.Basics.{ℕ, refl, Option, None, Some, ℤ}
use Rattle.book.specs.declared.Item.{Item}
use Rattle.book.specs.declared.Item.TheVariants as item
use Rattle.book.specs.declared.LimitLine.{LimitLine}
use Rattle.book.specs.declared.LimitLine.TheVariants.{Own, Default, OfGroup}
use Rattle.book.specs.declared.Blocked.{Blocked}
use Rattle.book.specs.declared.Blocked.TheVariants.{Account, Instrument, GroupFor}
use Rattle.book.specs.declared.Setting.{Setting}
use Rattle.book.specs.declared.Setting.TheVariants.{Limit, Balance, Block}

-- the named account: a BLOCK names one where it blocks an account, or a group for one
abbrev pub blocked_account : Blocked → Option ℕ
blocked_account (Account a) = Some a
blocked_account (Instrument i) = None
blocked_account (GroupFor a g) = Some a

abbrev pub setting_account : Setting → Option ℕ
setting_account (Limit a l) = Some a
setting_account (Balance a i z) = Some a
setting_account (Block what z) = blocked_account what

-- the named item
abbrev pub limited_item : LimitLine → Item
limited_item (Own i f) = item.Instrument i
limited_item (Default c f) = item.Contract c
limited_item (OfGroup g x y) = item.Group g

abbrev pub blocked_item : Blocked → Option Item
blocked_item (Account a) = None
blocked_item (Instrument i) = Some (item.Instrument i)
blocked_item (GroupFor a g) = Some (item.Group g)

abbrev pub setting_item : Setting → Option Item
setting_item (Limit a l) = Some (limited_item l)
setting_item (Balance a i z) = Some (item.Instrument i)
setting_item (Block what z) = blocked_item what

-- ---- the setting as a LIMIT, a BALANCE or a BLOCK, where it is one
pub record IsLimit (x : Setting) : Type 0 where
  pub account : ℕ
  pub line : LimitLine
  pub is : x ≡ Limit account line

abbrev pub as_limit : (x : Setting) → Option (IsLimit x)
as_limit (Limit a l) = Some (record { account = a; line = l; is = refl })
as_limit (Balance a i z) = None
as_limit (Block what z) = None

pub record IsBalance (x : Setting) : Type 0 where
  pub account : ℕ
  pub instrument : ℕ
  pub balance : ℤ
  pub is : x ≡ Balance account instrument balance

abbrev pub as_balance : (x : Setting) → Option (IsBalance x)
as_balance (Limit a l) = None
as_balance (Balance a i z) = Some (record { account = a; instrument = i; balance = z; is = refl })
as_balance (Block what z) = None

pub record IsBlock (x : Setting) : Type 0 where
  pub what : Blocked
  pub on : ℤ
  pub is : x ≡ Block what on

abbrev pub as_block : (x : Setting) → Option (IsBlock x)
as_block (Limit a l) = None
as_block (Balance a i z) = None
as_block (Block what z) = Some (record { what = what; on = z; is = refl })
