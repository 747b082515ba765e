-- A yes covers the largest account and instrument that the details' bits allow: each order within the details has its account and
-- instrument
-- on the roster, and its account's mark is among those that are set.
use Rattle.std.proofs.Common.{rules, tests}
use Rattle.integers.specs.Basics.{◌∙◌, sym, arith}
use Rattle.memory_layout.specs.View.{trading_of}
use Rattle.memory_layout.proofs.All.{every_of_all}
use Rattle.memory_layout.proofs.Every.{every_out}
use Rattle.memory_soundness.proofs.orders.all_trade.Goals as goal
use Rattle.memory_soundness.proofs.orders.all_trade.Goals.{then-most-accounts, else-most-accounts}

pub returns-then-instrument-instruments : goal.returns-then-instrument-instruments
returns-then-instrument-instruments c e o fits within =
    let marks = every_of_all (trading_of c.args.m.now) c.account-most.result c.all.ensures.ran (search rules) (λ x b q k. search
    (rules, tests)) in
    let set = every_out _ _ (sym marks ∙ e) o.account (fits.0.0, omega (arith, within.account)) in
    elim c.if-most-accounts.branch [
      | then-most-accounts w ↦ search rules
      | else-most-accounts w ↦ search rules
    ]
