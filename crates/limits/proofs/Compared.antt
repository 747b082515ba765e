-- What `<=` and `>` of two signed numbers test.
use Rattle.std.specs.Prelude.{◌≡◌}
use Rattle.std.specs.Ordering.{int_cmp, is_le, is_gt}
use Rattle.std.proofs.lemmas.Cmp.{int_ranked, by_ranked}
use Rattle.integers.specs.Basics.{refl, sym, ◌∙◌, true, false, not, not-true, not-false, ℤ, le_z, arith, signed}
use Rattle.integers.specs.Parts.{parts_le_z_true, parts_le_z_false}

pub le_test : (x y : ℤ) → is_le (int_cmp x y) ≡ le_z x y
le_test x y =
    by_ranked _ _ _ (int_cmp x y) (int_ranked x y _ refl) (λ e h. rw e (sym (parts_le_z_true x y (omega signed))))
    (λ e h. rw e (sym (parts_le_z_true x y (omega signed))))
    (λ e h. rw e (sym (parts_le_z_false x y (omega signed))))

pub gt_test : (x y : ℤ) → is_gt (int_cmp x y) ≡ not (le_z x y)
gt_test x y =
    by_ranked _ _ _ (int_cmp x y) (int_ranked x y _ refl) (λ e h. rw (e, parts_le_z_true x y (omega signed)))
    (λ e h. rw (e, parts_le_z_true x y (omega signed)))
    (λ e h. rw (e, parts_le_z_false x y (omega signed)))

pub past : (x y : ℤ) → is_gt (int_cmp x y) ≡ true → le_z x y ≡ false
past x y e = not-true (le_z x y) (sym (gt_test x y) ∙ e)

pub not_past : (x y : ℤ) → is_gt (int_cmp x y) ≡ false → le_z x y ≡ true
not_past x y e = not-false (le_z x y) (sym (gt_test x y) ∙ e)
