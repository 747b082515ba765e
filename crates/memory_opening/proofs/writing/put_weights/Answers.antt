-- A turn writes the weight of its instrument, which 64 bits hold as 32 did.
use Rattle.std.specs.Prelude.{◌≡◌}
use Rattle.integers.specs.Basics.{◌∙◌, sym, ap, ℤ, w32, w64, SFits, to_z, of_z, to_z-of_z, arith}
use Rattle.memory_layout.specs.Opening.{store_weight_of}
use Rattle.memory_layout.proofs.Written.{written_none, written_turn}
use Rattle.memory_opening.proofs.writing.put_weights.Goals as goal

-- a weight read, v, as the number x of 32 bits and y of 64
widened : {v x y : ℤ} → x ≡ v → SFits w32 x → y ≡ to_z w32 (of_z w32 x) → SFits w64 y → to_z w64 (of_z w64 y) ≡ v
widened {v} {x} {y} read small wide fits = to_z-of_z w64 y fits ∙ wide ∙ to_z-of_z w32 x small ∙ read

pub loop-i-init : goal.loop-i-init
loop-i-init c = (omega arith, sym (written_none _ _))

pub loop-i-preserved : goal.loop-i-preserved
loop-i-preserved c =
    let kept =
    widened c.weight_of.ensures (record { sfits = c.weight_of.type_inv }) c.from.ensures (record { sfits = c.from.type_inv }) in (
      omega arith,
      written_turn _ _ c.loop-i.invariant.1 (omega arith) (c.set_weight_of.ensures ∙ ap (store_weight_of _ _) kept) (omega arith),
    )

pub returns-2 : goal.returns-2
returns-2 c =
    let kept = widened c.weight_of.ensures (record { sfits = c.weight_of.type_inv }) c.from.ensures (record { sfits = c.from.type_inv }) in
    written_turn _ _ c.loop-i.invariant.1 (omega arith) (c.set_weight_of.ensures ∙ ap (store_weight_of _ _) kept) (omega arith)
