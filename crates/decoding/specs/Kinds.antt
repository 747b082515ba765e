-- The kinds of event by their numbers.
use Rattle.integers.specs.Basics.{ℕ}
use Rattle.decoding.specs.declared.Kind.{Kind}
use Rattle.decoding.specs.declared.Kind.TheVariants.{Limit, Balance, Block, New, Replace, Cancel, Fill}

abbrev pub kind_number : Kind → ℕ
kind_number Limit = 1
kind_number Balance = 2
kind_number Block = 3
kind_number New = 4
kind_number Replace = 5
kind_number Cancel = 6
kind_number Fill = 7
