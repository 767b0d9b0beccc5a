-- Lines of fields with a space between each two. Used by the line of a solution.
use Rattle.std.proofs.Common.{rules, ◌≡◌, ℕ, Bool, false, zero, suc, ◌+◌, ◌<◌, ◌==◌, List, [], ◌∷◌, ◌++◌, length, take, get_or, pos, if◌then◌else◌, refl, sym, ap, ◌∙◌, add-one, append_assoc, arith, codes}
use Rattle.std.specs.List.{join_with_byte}
use Rattle.query_model.specs.Text.{field_of, fields_of}
use Rattle.query_model.specs.declared.parts.Variable.{Variable}
use Rattle.domains.specs.Points.{Point}

-- the first i fields of a line
abbrev pub joined : ℕ → List Variable → Point → List ℕ
joined i vs p = join_with_byte 32 (fields_of (take i vs) p)

-- adding a field to a text adds it to the text's last part
more_after : (text rest next line : List ℕ) → (rest ++ (32 ∷ [])) ++ next ≡ line → ((text ++ (32 ∷ rest)) ++ (32 ∷ [])) ++ next ≡ text ++ (32 ∷ line)
more_after text rest next line h =
    ap (λ l. l ++ next) (append_assoc text (32 ∷ rest) (32 ∷ [])) ∙ append_assoc text ((32 ∷ rest) ++ (32 ∷ [])) next ∙ ap (λ l. text ++ (32 ∷ l)) h

-- one more field, by cases
more_suc : (vs : List Variable) (p : Point) (d : Variable) (i : ℕ) → length p ≡ length vs → suc i < length vs
    → (joined (suc i) vs p ++ (32 ∷ [])) ++ field_of (get_or vs (suc i) d) (get_or p (suc i) (pos 0)) ≡ joined (suc (suc i)) vs p
more_suc [] p d i same h = absurd (omega arith)
more_suc (v ∷ []) p d i same h = absurd (omega arith)
more_suc (v ∷ w ∷ vs) [] d i same h = absurd (omega arith)
more_suc (v ∷ w ∷ vs) (x ∷ []) d i same h = absurd (omega arith)
more_suc (v ∷ w ∷ vs) (x ∷ y ∷ p) d zero same h = append_assoc (field_of v x) (32 ∷ []) (field_of w y)
more_suc (v ∷ w ∷ vs) (x ∷ y ∷ p) d (suc i) same h =
    more_after (field_of v x) (joined (suc i) (w ∷ vs) (y ∷ p)) (field_of (get_or (w ∷ vs) (suc i) d) (get_or (y ∷ p) (suc i) (pos 0))) (joined (suc (suc i)) (w ∷ vs) (y ∷ p))
    (more_suc (w ∷ vs) (y ∷ p) d i (omega arith) (omega arith))

more_first : (vs : List Variable) (p : Point) (d : Variable) → length p ≡ length vs → 0 < length vs → field_of (get_or vs 0 d) (get_or p 0 (pos 0)) ≡ joined 1 vs p
more_first [] p d same h = absurd (omega arith)
more_first (v ∷ vs) [] d same h = absurd (omega arith)
more_first (v ∷ vs) (x ∷ p) d same h = refl

suc-eqb_zero : (i : ℕ) → (suc i == 0) ≡ false
suc-eqb_zero i = search rules

-- a space if there are fields, and then one more field
pub line-more : (vs : List Variable) (p : Point) (d : Variable) (i : ℕ) → length p ≡ length vs → i < length vs
    → (if i == 0 then joined i vs p else joined i vs p ++ codes " ") ++ field_of (get_or vs i d) (get_or p i (pos 0)) ≡ joined (i + 1) vs p
line-more vs p d zero same h = more_first vs p d same h
line-more vs p d (suc i) same h =
    let field = field_of (get_or vs (suc i) d) (get_or p (suc i) (pos 0)) in
    ap (λ (b : Bool). (if b then joined (suc i) vs p else joined (suc i) vs p ++ codes " ") ++ field) (suc-eqb_zero i) ∙ more_suc vs p d i same h ∙ ap (λ k. joined k vs p) (sym (add-one (suc i)))
