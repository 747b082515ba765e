-- What was read of the file is the answer: none of the layout, a wrong count or place, or the first no to an entry.
use Rattle.std.specs.Prelude.{◌≡◌, Err}
use Rattle.integers.specs.Basics.{rules, not-true, not-false, Some, None}
use Rattle.limits.specs.declared.answer.Refusal.TheVariants.{NoFileOfLimits}
use Rattle.memory_loading.proofs.LoadedFiles.{loaded_nothing, loaded_miscounted, loaded_counted}
use Rattle.memory_loading.proofs.load.Goals as goal

pub returns-in_err-progress : goal.returns-in_err-progress
returns-in_err-progress c =
    let k : c.from_residual.result ≡ Err NoFileOfLimits = search rules in
    let none : c.read_file.result ≡ None = search rules in
    rw k (loaded_nothing _ _ _ _ c.read_file.ensures none)

pub returns-then-not-progress : goal.returns-then-not-progress
returns-then-not-progress c =
    let some : c.read_file.result ≡ Some c.in_ok-progress.progress = search rules in
    loaded_miscounted _ _ _ _ c.read_file.ensures some (not-true _ c.if-not-progress.true)

pub returns : goal.returns
returns c =
    let some : c.read_file.result ≡ Some c.in_ok-progress.progress = search rules in
    loaded_counted _ _ _ _ c.read_file.ensures some (not-false _ c.if-not-progress.false)
