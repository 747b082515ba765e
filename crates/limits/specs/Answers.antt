-- The numbers of the answers, as documents 01 and 02 have them: the refusal by question n is answered n, an acceptance 0.
use Rattle.std.specs.Prelude.{Result, Ok, Err}
use Rattle.integers.specs.Basics.{ℕ}
use Rattle.limits.specs.declared.answer.Refusal.{Refusal}
use Rattle.limits.specs.declared.answer.Refusal.TheVariants.{MemoryTooShort, WrongSizes, UnknownName, WeightOutOfRange}
use Rattle.limits.specs.declared.answer.Refusal.TheVariants.{NoSoundDesk, NoEvent, UnknownAccount, UnknownItem, FigureOutOfRange}
use Rattle.limits.specs.declared.answer.Refusal.TheVariants.{AlreadyTrading, OrderNotFound, QuantityOutOfRange, DuplicateOrder}
use Rattle.limits.specs.declared.answer.Refusal.TheVariants.{AccountBlocked, InstrumentBlocked, GroupBlocked, NoLimitsConfigured}
use Rattle.limits.specs.declared.answer.Refusal.TheVariants.{NoPlaceFree, BuyTooLarge, SellTooLarge, InstrumentTooLong}
use Rattle.limits.specs.declared.answer.Refusal.TheVariants.{InstrumentTooShort, GroupTooLong, GroupTooShort, NoFileOfLimits}
use Rattle.limits.specs.declared.answer.Refusal.TheVariants.{WrongCountOrPlace}

abbrev pub refusal_number : Refusal → ℕ
refusal_number MemoryTooShort = 1
refusal_number WrongSizes = 2
refusal_number UnknownName = 3
refusal_number WeightOutOfRange = 4
refusal_number NoSoundDesk = 5
refusal_number NoEvent = 6
refusal_number UnknownAccount = 7
refusal_number UnknownItem = 8
refusal_number FigureOutOfRange = 9
refusal_number AlreadyTrading = 10
refusal_number OrderNotFound = 11
refusal_number QuantityOutOfRange = 12
refusal_number DuplicateOrder = 13
refusal_number AccountBlocked = 14
refusal_number InstrumentBlocked = 15
refusal_number GroupBlocked = 16
refusal_number NoLimitsConfigured = 17
refusal_number NoPlaceFree = 18
refusal_number BuyTooLarge = 19
refusal_number SellTooLarge = 20
refusal_number InstrumentTooLong = 21
refusal_number InstrumentTooShort = 22
refusal_number GroupTooLong = 23
refusal_number GroupTooShort = 24
refusal_number NoFileOfLimits = 25
refusal_number WrongCountOrPlace = 26

-- of an acceptance, whatever it hands on, or a refusal
abbrev pub number_of : {A : Type 0} → Result A Refusal → ℕ
number_of (Ok x) = 0
number_of (Err r) = refusal_number r
