-- Each turn passes the two records of a pair, and the record that is then left over is the last.
use Rattle.std.proofs.Common.{rules}
use Rattle.std.specs.Prelude.{◌*◌, ◌+◌, ◌/◌, ◌≡◌}
use Rattle.integers.specs.Basics.{[], length, arith}
use Rattle.memory_layout.proofs.OpenRecords.{length_records}
use Rattle.memory_soundness.specs.Each.{OutOfOrder}
use Rattle.memory_soundness.proofs.Passing.{first_in_pair, second_in_pair, order_left, none_left, passed_none, passed_next, passed_all}
use Rattle.memory_soundness.proofs.orders.pass_over.Goals as goal
use Rattle.memory_soundness.proofs.orders.pass_over.Goals.{in-Some+in_ok-passed-2, in_default}

pub returns-in_err-with_record : goal.returns-in_err-with_record
returns-in_err-with_record c =
    let m = c.args.m.now in
    let long = length_records m _ c.records.ensures.orders in
    let here = first_in_pair m _ c.records.ensures.orders _ c.as_chunks.ensures.front c.loop-first.first-index (omega arith) in
    let out : OutOfOrder m =
    passed_none m _ _ _ c.loop-first.invariant _ here (omega (arith, long)) c.in_err-with_record.ensures in
    search rules

pub returns-in_err-passed : goal.returns-in_err-passed
returns-in_err-passed c =
    let m = c.args.m.now in
    let long = length_records m _ c.records.ensures.orders in
    let pair = first_in_pair m _ c.records.ensures.orders _ c.as_chunks.ensures.front c.loop-first.first-index (omega arith) in
    let here = second_in_pair m _ c.records.ensures.orders _ c.as_chunks.ensures.front c.loop-first.first-index (omega arith) in
    let half = passed_next m _ _ _ c.loop-first.invariant _ pair _ _ c.in_ok-with_record.ensures in
    let out : OutOfOrder m = passed_none m _ _ _ half _ here (omega (arith, long)) c.in_err-passed.ensures in
    search rules

pub loop-first-preserved : goal.loop-first-preserved
loop-first-preserved c =
    let m = c.args.m.now in
    let p = c.loop-first.first-index * 2 in
    let e : p + 1 + 1 ≡ (c.loop-first.first-index + 1) * 2 = omega arith in
    let pair = first_in_pair m _ c.records.ensures.orders _ c.as_chunks.ensures.front c.loop-first.first-index (omega arith) in
    let here = second_in_pair m _ c.records.ensures.orders _ c.as_chunks.ensures.front c.loop-first.first-index (omega arith) in
    let half = passed_next m _ _ _ c.loop-first.invariant _ pair _ _ c.in_ok-with_record.ensures in
    rw (← e) (passed_next m _ _ _ half _ here _ _ c.in_ok-passed.ensures)

pub returns-in_err-passed-2 : goal.returns-in_err-passed-2
returns-in_err-passed-2 c =
    let m = c.args.m.now in
    let end : c.loop-first.first-index ≡ length c.records.result.now / 2 = omega arith in
    let item = c.in-Some.ensures.item.3 in
    let left = order_left m _ c.records.ensures.orders _ c.as_chunks.ensures.back c.as_chunks.ensures.back_len _ end _ (item.1 []) item.0 in
    let out : OutOfOrder m =
    passed_none m _ _ _ c.loop-first.invariant _ left.0 (omega (arith, left.1)) c.in_err-passed-2.ensures in
    search rules

pub returns : goal.returns
returns c =
    let m = c.args.m.now in
    let end : c.loop-first.first-index ≡ length c.records.result.now / 2 = omega arith in
    elim c.match-first.branch [
      | in-Some+in_ok-passed-2 w ↦
          let item = w.in-Some.ensures.item.3 in
          let left =
          order_left m _ c.records.ensures.orders _ c.as_chunks.ensures.back c.as_chunks.ensures.back_len _ end _ (item.1 []) item.0 in
          rw w.passed-is (passed_all m _ _ _ (passed_next m _ _ _ c.loop-first.invariant _ left.0 _ _ w.in_ok-passed-2.ensures) left.1)
      | in_default w ↦
          let last = none_left m _ c.records.ensures.orders _ c.as_chunks.ensures.back c.as_chunks.ensures.back_len _ end
          w.in_default.ensures.item.3 in
          rw w.passed-is (passed_all m _ _ _ c.loop-first.invariant last)
    ]
