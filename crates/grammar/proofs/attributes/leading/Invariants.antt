-- The digits so far are counted, and say the value.
use Rattle.std.specs.Prelude.{◌^◌, ◌<◌, ◌≤◌, ◌≡◌, take}
use Rattle.std.specs.List.{prefix_len}
use Rattle.grammar.specs.Bytes.{is_digit, value_of}
use Rattle.grammar.proofs.attributes.leading.Given as goal

abbrev pub invariant-loop-b : goal.invariant-loop-b
invariant-loop-b l =
    record {
      counted : l.count ≡ l.b-index;
      digits : l.count ≤ prefix_len is_digit l.window;
      says : l.value ≡ value_of (take l.count l.window);
      below : l.value < 10 ^ l.count;
    }
