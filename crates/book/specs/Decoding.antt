-- Document 01, "Events": 48 bytes decoded (question 6); any other bytes are junk.
use Rattle.std.specs.Prelude.{◌+◌, ◌*◌, ◌&&◌, ◌||◌}
use Rattle.integers.specs.Basics.{ℕ, Bool, true, false, not, cond, List, ℤ, leb, ltb, eqb, length}
use Rattle.words.specs.Fields.{u8_at, u16_at, u64_at, i64_at}
use Rattle.ledger.specs.Records.{side_of}
use Rattle.limits.specs.Asked.{is_zero}
use Rattle.book.specs.declared.Figures.{Figures}
use Rattle.book.specs.declared.NamedFields.{NamedFields}
use Rattle.book.specs.declared.Setting.{Setting}
use Rattle.book.specs.declared.Setting.TheVariants.{Limit, Balance, Block}
use Rattle.book.specs.declared.Event.{Event}
use Rattle.book.specs.declared.LimitLine.{LimitLine}
use Rattle.book.specs.declared.Blocked.{Blocked}
use Rattle.book.specs.declared.LimitLine.TheVariants.{Own, Default, OfGroup}
use Rattle.book.specs.declared.Blocked.TheVariants.{Account, Instrument, GroupFor}
use Rattle.book.specs.declared.OrderChange.TheVariants.{Replace, Cancel, Fill}
use Rattle.book.specs.declared.Event.TheVariants.{Set, New, Change, Junk}

-- the fields, in the order of the bytes: kind, side, account, item, level, zero, order id, four figures
abbrev pub kind_of : List ℕ → ℕ
kind_of e = u8_at e 0

abbrev pub side_field : List ℕ → ℕ
side_field e = u8_at e 1

abbrev pub account_field : List ℕ → ℕ
account_field e = u16_at e 2

abbrev pub item_field : List ℕ → ℕ
item_field e = u16_at e 4

abbrev pub level_field : List ℕ → ℕ
level_field e = u8_at e 6

abbrev pub zero_field : List ℕ → ℕ
zero_field e = u8_at e 7

abbrev pub id_field : List ℕ → ℕ
id_field e = u64_at e 8

-- figure one is figure_field e 0
abbrev pub figure_field : List ℕ → ℕ → ℤ
figure_field e j = i64_at e (16 + j * 8)

-- kinds 1, 2 and 3 set something: LIMIT, BALANCE and BLOCK
abbrev pub is_setting : ℕ → Bool
is_setting k = eqb k 1 || eqb k 2 || eqb k 3

abbrev pub by_setting : {A : Type 0} → ℕ → A → A → A → A
by_setting k limit balance block = cond (eqb k 1) limit (cond (eqb k 2) balance block)

abbrev pub by_kind : {A : Type 0} → ℕ → A → A → A → A → A → A
by_kind k set new replace cancel fill =
    cond (is_setting k) set (cond (eqb k 4) new (cond (eqb k 5) replace (cond (eqb k 6) cancel fill)))

abbrev pub by_level : {A : Type 0} → ℕ → A → A → A → A
by_level l one two three = cond (eqb l 1) one (cond (eqb l 2) two three)

abbrev pub between : ℕ → ℕ → ℕ → Bool
between low high n = leb low n && leb n high

-- LIMIT: account, item, level, figures
abbrev pub limit_names : ℕ → NamedFields
limit_names n = record { side = false; account = true; item = true; level = true; id = false; figures = n }

-- BALANCE: account, instrument as item, figure one
abbrev pub balance_names : NamedFields
balance_names = record { side = false; account = true; item = true; level = false; id = false; figures = 1 }

-- BLOCK: level, figure one, and by the level account, item or both
abbrev pub block_names : Bool → Bool → NamedFields
block_names account item =
    record { side = false; account = account; item = item; level = true; id = false; figures = 1 }

-- NEW: side, account, instrument as item, id, quantity as figure one
abbrev pub new_names : NamedFields
new_names = record { side = true; account = true; item = true; level = false; id = true; figures = 1 }

-- REPLACE and FILL: id, figure one; CANCEL: id
abbrev pub order_names : ℕ → NamedFields
order_names n = record { side = false; account = false; item = false; level = false; id = true; figures = n }

abbrev pub setting_names : ℕ → ℕ → NamedFields
setting_names kind level =
    by_setting kind
    (by_level level (limit_names 4) (limit_names 4) (limit_names 2))
    balance_names
    (by_level level (block_names true false) (block_names false true) (block_names true true))

unfoldable pub named : ℕ → ℕ → NamedFields
named kind level =
    by_kind kind
    (setting_names kind level)
    new_names
    (order_names 1)
    (order_names 0)
    (order_names 1)

-- is a named side and level one of the listed values, a named id non-zero, every unnamed field zero?
unfoldable pub fields_fit : NamedFields → List ℕ → Bool
fields_fit n e =
    cond n.side (between 1 2 (side_field e)) (eqb (side_field e) 0)
    && (n.account || eqb (account_field e) 0)
    && (n.item || eqb (item_field e) 0)
    && cond n.level (between 1 3 (level_field e)) (eqb (level_field e) 0)
    && eqb (zero_field e) 0
    && cond n.id (not (eqb (id_field e) 0)) (eqb (id_field e) 0)
    && (ltb 0 n.figures || is_zero (figure_field e 0))
    && (ltb 1 n.figures || is_zero (figure_field e 1))
    && (ltb 2 n.figures || is_zero (figure_field e 2))
    && (ltb 3 n.figures || is_zero (figure_field e 3))

-- is it a kind of event?
abbrev pub is_kind : ℕ → Bool
is_kind k = between 1 7 k

-- 6: is the event 48 bytes, the kind 1 to 7, and does each field fit what the kind and level name?
unfoldable pub well_formed : List ℕ → Bool
well_formed e = eqb (length e) 48 && is_kind (kind_of e) && fields_fit (named (kind_of e) (level_field e)) e

abbrev pub figures_of : List ℕ → Figures
figures_of e =
    record { tci = figure_field e 0; tvi = figure_field e 1; lci = figure_field e 2; lvi = figure_field e 3 }

-- what a LIMIT sets, and what a BLOCK blocks, by the level
abbrev pub line_field : List ℕ → LimitLine
line_field e =
    by_level (level_field e)
    (Own (item_field e) (figures_of e))
    (Default (item_field e) (figures_of e))
    (OfGroup (item_field e) (figure_field e 0) (figure_field e 1))

abbrev pub blocked_field : List ℕ → Blocked
blocked_field e =
    by_level (level_field e)
    (Account (account_field e))
    (Instrument (item_field e))
    (GroupFor (account_field e) (item_field e))

-- what well-formed bytes of a LIMIT, a BALANCE or a BLOCK set
abbrev pub setting_of : List ℕ → Setting
setting_of e =
    by_setting (kind_of e)
    (Limit (account_field e) (line_field e))
    (Balance (account_field e) (item_field e) (figure_field e 0))
    (Block (blocked_field e) (figure_field e 0))

-- the event that well-formed bytes name
unfoldable pub event_of : List ℕ → Event
event_of e =
    by_kind (kind_of e)
    (Set (setting_of e))
    (New (side_of (side_field e)) (account_field e) (item_field e) (id_field e) (figure_field e 0))
    (Change (id_field e) (Replace (figure_field e 0)))
    (Change (id_field e) Cancel)
    (Change (id_field e) (Fill (figure_field e 0)))

unfoldable pub decode : List ℕ → Event
decode e = cond (well_formed e) (event_of e) Junk
