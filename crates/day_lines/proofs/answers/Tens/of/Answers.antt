-- A tenth of a 64-bit number is below 10^19, so it has at most 19 digits.
use Rattle.std.proofs.Common.{◌/◌, length-take, arith}
use Rattle.std.proofs.lemmas.Fmt.{length-decimal-le}
use Rattle.day_lines.proofs.answers.Tens.of.Goals as goal

pub invariant_of-result-2 : goal.invariant_of-result-2
invariant_of-result-2 c =
    let most = length-decimal-le 19 (c.args.place / 10) (omega arith) (omega arith) (omega arith) in
    let same = rw c.put_digits-count.ensures.digits at (length-take c.put_digits-count.result c.put_digits-count.new.text) in
    record { few = omega arith }
