-- BLOCK: whether the figure blocks, as the code tests its bits, and what is blocked, by another name.
use Rattle.std.specs.Prelude.{◌≡◌}
use Rattle.integers.specs.Basics.{ℕ, ◌∙◌, sym, ap, not, List, ℤ, pos, eqb, w64, SFits, to_z, of_z, to_z-of_z}
use Rattle.ledger.proofs.Ways.{by_number}
use Rattle.limits.specs.Asked.{is_zero}
use Rattle.limits.proofs.Asking.{is_zero_false}
use Rattle.book.specs.declared.Blocked.{Blocked}
use Rattle.book.specs.declared.Setting.TheVariants.{Block}
use Rattle.book.specs.declared.Event.TheVariants.{Set}
use Rattle.memory_working.specs.Working.{AcceptedEvent, block_stored, worked}

zero_bits : (z : ℤ) → SFits w64 z → eqb (of_z w64 z) 0 ≡ is_zero z
zero_bits z fits =
    by_number (of_z w64 z) 0 (λ t. t ≡ is_zero z)
    (λ e. let zero : z ≡ pos 0 = sym (to_z-of_z w64 z fits) ∙ ap (to_z w64) e in rw zero)
    (λ other. sym (is_zero_false z (λ e. other (ap (of_z w64) e))))

pub ready_block : {m : List ℕ} {what w : Blocked} {z : ℤ} → what ≡ w → AcceptedEvent m (Set (Block what z))
    → AcceptedEvent m (Set (Block w z))
ready_block same ready = rw same at ready

pub worked_block : (m : List ℕ) (z : ℤ) {what w : Blocked} {x : List ℕ} → SFits w64 z → what ≡ w
    → x ≡ block_stored m w (not (eqb (of_z w64 z) 0)) → x ≡ worked m (Set (Block what z))
unfolding worked
worked_block m z fits same stored = rw (same, ← zero_bits z fits) stored
