-- What `info` prints, in parts. Used by `print_info` and the functions that make its lines.
use Rattle.std.proofs.Common.{◌≡◌, ℕ, suc, ◌+◌, ◌-◌, ◌<◌, arith, List, [], ◌∷◌, ◌++◌, append_assoc, append-nil, Option, Result, Ok, Err, sym, ap, ◌∙◌, subst}
use Rattle.std.specs.List.{range_with_len, flat_map}
use Rattle.std.proofs.lemmas.Grind.{flat_map-append}
use Rattle.lists.specs.Appending.{appended, AppendsPrefix}
use Rattle.source_io.specs.Written.{Writes}
use Rattle.lists.proofs.Appending.{appended-appended, prefix_after, prefix_within}
use Rattle.lists.proofs.Ranges.{range_with_len-add}
use Rattle.layouts.specs.declared.numbers.LayoutNumbers.{LayoutNumbers}
use Rattle.cells.specs.declared.record.Record.{Record}
use Rattle.report.specs.InfoText.{shape_lines, level_lines, cells_line, info_text}

-- ---- text in parts

-- three words, each with a number after it
pub three_named : (old one two three a x b y d z : List ℕ) → one ≡ old ++ a ++ x → two ≡ one ++ b ++ y → three ≡ two ++ d ++ z → three ≡ old ++ (a ++ x ++ b ++ y ++ d ++ z)
three_named old one two three a x b y d z first second third =
    let extend = λ (line text more : List ℕ) (e : line ≡ old ++ text). ap (λ l. l ++ more) e ∙ append_assoc old text more in
    let so_far = first ∙ append_assoc old a x in
    let then = second ∙ extend (one ++ b) (a ++ x ++ b) y (extend one (a ++ x) b so_far) in
    third ∙ extend (two ++ d) (a ++ x ++ b ++ y ++ d) z (extend two (a ++ x ++ b ++ y) d then)

-- the text that was written first, and then the rest
pub writes_after : {T E : Type 0} (r : Result T E) (old mid new : Option (List ℕ)) (xs ys : List ℕ) → mid ≡ appended old xs → Writes r ys mid new → Writes r (xs ++ ys) old new
writes_after (Ok x) old mid new xs ys first rest = rest ∙ ap (λ m. appended m ys) first ∙ appended-appended old xs ys
writes_after (Err x) old mid new xs ys first rest = prefix_after old mid new xs ys first rest

-- the pieces of some numbers, one after the other, and then the piece of the next number
one_more : (f : ℕ → List ℕ) (n : ℕ) → flat_map f (range_with_len 0 n) ++ f n ≡ flat_map f (range_with_len 0 (n + 1))
one_more f n =
    let same : 0 + n ≡ n = omega arith in
    ap (λ l. flat_map f (range_with_len 0 n) ++ l) (sym (append-nil (f n))) ∙ sym (flat_map-append f (range_with_len 0 n) (n ∷ []))
    ∙ ap (λ k. flat_map f (range_with_len 0 n ++ range_with_len k 1)) (sym same) ∙ ap (flat_map f) (sym (range_with_len-add 0 n 1))

pub pieces_next : (f : ℕ → List ℕ) (old mid new : Option (List ℕ)) (n : ℕ) → mid ≡ appended old (flat_map f (range_with_len 0 n)) → new ≡ appended mid (f n) → new ≡ appended old (flat_map f (range_with_len 0 (n + 1)))
pieces_next f old mid new n before next =
    next ∙ ap (λ m. appended m (f n)) before ∙ appended-appended old (flat_map f (range_with_len 0 n)) (f n) ∙ ap (appended old) (one_more f n)

-- all pieces: the pieces before one of them, this piece, and the pieces after it
in_parts : (f : ℕ → List ℕ) (n all : ℕ) → n < all → flat_map f (range_with_len 0 all) ≡ flat_map f (range_with_len 0 n) ++ (f n ++ flat_map f (range_with_len (n + 1) (all - (n + 1))))
in_parts f n all below =
    let same : 0 + n ≡ n = omega arith in
    let parts : all ≡ n + suc (all - (n + 1)) = omega arith in
    ap (λ k. flat_map f (range_with_len 0 k)) parts ∙ ap (flat_map f) (range_with_len-add 0 n (suc (all - (n + 1))))
    ∙ ap (λ k. flat_map f (range_with_len 0 n ++ range_with_len k (suc (all - (n + 1))))) same
    ∙ flat_map-append f (range_with_len 0 n) (n ∷ range_with_len (n + 1) (all - (n + 1)))

-- a prefix of the next piece is a prefix of all
pub pieces_cut : (f : ℕ → List ℕ) (old mid new : Option (List ℕ)) (n all : ℕ) → n < all → mid ≡ appended old (flat_map f (range_with_len 0 n)) → AppendsPrefix mid (f n) new → AppendsPrefix old (flat_map f (range_with_len 0 all)) new
pieces_cut f old mid new n all below before cut =
    let rest = flat_map f (range_with_len (n + 1) (all - (n + 1))) in
    subst (λ text. AppendsPrefix old text new) (sym (in_parts f n all below))
    (prefix_after old mid new (flat_map f (range_with_len 0 n)) (f n ++ rest) before (prefix_within mid new (f n) rest cut))

-- ---- the text of an array file

pub info_text-parts : (l : LayoutNumbers) (r : Record) → info_text l r ≡ shape_lines l ++ (level_lines l ++ cells_line l r)
info_text-parts l r = append_assoc (shape_lines l) (level_lines l) (cells_line l r)
