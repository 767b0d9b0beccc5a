-- Lists of two and of three items, item by item.
-- Used by the proofs of `cell_fold`, `chunk_copies`, `array_text` and `chunk_store`.
use Rattle.std.proofs.Common.{◌≡◌, ℕ, ◌*◌, List, [], ◌∷◌, length, get_or, refl, sym, ap, ◌∙◌, arith}
use Rattle.lists.specs.Numbers.{product}

pub two_items : {X : Type 0} (xs : List X) (d : X) → length xs ≡ 2 → xs ≡ get_or xs 0 d ∷ get_or xs 1 d ∷ []
two_items [] d h = absurd (omega arith)
two_items (x ∷ []) d h = absurd (omega arith)
two_items (x ∷ y ∷ []) d h = refl
two_items (x ∷ y ∷ z ∷ xs) d h = absurd (omega arith)

pub product-two : (ns : List ℕ) → length ns ≡ 2 → get_or ns 0 0 * get_or ns 1 0 ≡ product ns
product-two ns h = let one : get_or ns 0 0 * get_or ns 1 0 ≡ get_or ns 0 0 * (get_or ns 1 0 * 1) = omega arith in one ∙ sym (ap product (two_items ns 0 h))

pub three_items : {X : Type 0} (xs : List X) (d : X) → length xs ≡ 3 → xs ≡ get_or xs 0 d ∷ get_or xs 1 d ∷ get_or xs 2 d ∷ []
three_items [] d h = absurd (omega arith)
three_items (x ∷ []) d h = absurd (omega arith)
three_items (x ∷ y ∷ []) d h = absurd (omega arith)
three_items (x ∷ y ∷ z ∷ []) d h = refl
three_items (x ∷ y ∷ z ∷ w ∷ xs) d h = absurd (omega arith)
