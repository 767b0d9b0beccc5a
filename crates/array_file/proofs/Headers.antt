-- Headers and the layouts that they state.
-- Used by the proofs of `Files`, `header_has_96_bytes`, `read_layout`, `read_layout_is_written_the_same` and others.
use Rattle.std.proofs.Common.{◌≡◌, ℕ, ◌<◌, ◌≤◌, ◌≢◌, ◌==◌, nat_le, nat_eq, true, false, List, [], ◌∷◌, ◌++◌, length, drop, map, slice_index, Some, None, option_map, refl, sym, ap, ◌∙◌, arith, length-drop}
use Rattle.std.specs.List.{All, flat_map, range_with_len, starts_with}
use Rattle.std.proofs.lemmas.Bool.{le-leb, lt-leb, eq-eqb, eqb-true, ne_eqb}
use Rattle.std.proofs.lemmas.Bool.Decides.{Decides-eqb}
use Rattle.std.proofs.lemmas.List.{append-nil, drop_all}
use Rattle.std.proofs.lemmas.List.Elements.{All-drop, recursion_from_All}
use Rattle.std.proofs.lemmas.Slice.Eq.{starts_is}
use borrow.Rule.Slice.PartMut.{put_mid, post_of}
use Rattle.byteorder.specs.Endian.{little_bytes}
use Rattle.layouts.specs.declared.numbers.LayoutNumbers.{LayoutNumbers}
use Rattle.lists.specs.Rules.{Rule, first_broken}
use Rattle.layouts.specs.Rules.{IsLayout, layout_rules}
use Rattle.layouts.specs.declared.refusal.LayoutRefusal.{LayoutRefusal}
use Rattle.array_file.specs.declared.refusal.FileRefusal.{FileRefusal}
use Rattle.array_file.specs.declared.refusal.FileRefusal.TheVariants.{Short, Magic, Version, Layout, WrongLength}
use Rattle.array_file.specs.Header.{magic_word, header_number, header_numbers, layout_in, stored_layout, layout_numbers, header_of, file_size, file_rules, layout_refusal}
use Rattle.lists.proofs.Rules.{all_kept, first_broken-broken, first_broken-kept, first_broken-map}
use Rattle.array_file.proofs.Rules.{one-kept, one-broken}
use Rattle.array_file.proofs.Numbers.{length-written, numbers_at-written, bytes-numbers_at}
use Rattle.array_file.proofs.Layouts.{spelled, spelled_is, words}

-- ---- what is written

length-spelled : (l : LayoutNumbers) → length (header_of (spelled l)) ≡ 96
unfolding header_of
length-spelled l = let e = length-written (layout_numbers (spelled l)) in omega (arith, e)

-- the header of a layout has 96 bytes
pub length-header : (l : LayoutNumbers) → IsLayout l → length (header_of l) ≡ 96
length-header l h = ap (λ (parts : LayoutNumbers). length (header_of parts)) (spelled_is l h) ∙ length-spelled l

-- its numbers are those of the layout
header_numbers-spelled : (l : LayoutNumbers) → IsLayout l → header_numbers (header_of (spelled l)) ≡ layout_numbers (spelled l)
unfolding header_of header_numbers
header_numbers-spelled l h = numbers_at-written (layout_numbers (spelled l)) (words l h)

stored_layout-spelled : (l : LayoutNumbers) → IsLayout l → stored_layout (header_of (spelled l)) ≡ spelled l
unfolding stored_layout
stored_layout-spelled l h = ap layout_in (header_numbers-spelled l h)

-- it states that layout
pub stored_layout-header : (l : LayoutNumbers) → IsLayout l → stored_layout (header_of l) ≡ l
stored_layout-header l h =
    ap (λ (parts : LayoutNumbers). stored_layout (header_of parts)) (spelled_is l h) ∙ stored_layout-spelled l h ∙ sym (spelled_is l h)

-- after the magic word and the numbers were put into 96 bytes
pub put_header : (l : LayoutNumbers) (into prefix numbers back : List ℕ) → length into ≡ 96 → prefix ≡ magic_word → numbers ≡ layout_numbers l
    → back ≡ flat_map (little_bytes 4) numbers → put_mid 12 84 (prefix ++ post_of 0 12 into) back ≡ header_of l
unfolding header_of
put_header l into prefix numbers back long is_prefix is_numbers is_back =
    let none = drop_all 84 (drop 12 into) (omega (arith, length-drop 12 into)) in
    ap (λ (f : List ℕ). put_mid 12 84 (f ++ post_of 0 12 into) back) is_prefix
    ∙ ap (λ (rest : List ℕ). magic_word ++ (back ++ rest)) none
    ∙ ap (λ (b : List ℕ). magic_word ++ b) (append-nil back ∙ is_back ∙ ap (flat_map (little_bytes 4)) is_numbers)

-- ---- what is read

-- numbers of a header state the layout of the header
pub layout_in-numbers : (header numbers : List ℕ) → numbers ≡ header_numbers header → layout_in numbers ≡ stored_layout header
unfolding stored_layout
layout_in-numbers header numbers e = ap layout_in e

-- a header that is not refused begins with the magic word, and its version is 1
begins : (header : List ℕ) (size : ℕ) → layout_refusal header size ≡ None → header ≡ magic_word ++ drop 12 header
unfolding layout_refusal
begins header size e =
    let kept = all_kept (file_rules header size) e in
    (starts_is Decides-eqb header magic_word (starts_with nat_eq header magic_word) refl).0 kept.1.0

version_is : (header : List ℕ) (size : ℕ) → layout_refusal header size ≡ None → header_number header 0 ≡ 1
unfolding layout_refusal header_numbers
version_is header size e = let kept = all_kept (file_rules header size) e in eqb-true (header_number header 0) 1 kept.1.1.0

-- so its numbers are those of the layout that it states
numbers-stored : (header : List ℕ) (size : ℕ) → layout_refusal header size ≡ None → layout_numbers (stored_layout header) ≡ header_numbers header
unfolding stored_layout header_numbers
numbers-stored header size e = ap (λ (v : ℕ). v ∷ map (header_number header) (range_with_len 1 20)) (sym (version_is header size e))

-- and it is the header of that layout
pub header-stored : (header : List ℕ) (size : ℕ) → length header ≡ 96 → All (λ b. b < 256) header → layout_refusal header size ≡ None → header_of (stored_layout header) ≡ header
unfolding header_of header_numbers
header-stored header size long bytes e =
    let rest = bytes-numbers_at 21 (drop 12 header) (omega (arith, length-drop 12 header)) (recursion_from_All (λ b. b < 256) (drop 12 header) (All-drop (λ b. b < 256) 12 header bytes)) in
    ap (λ (numbers : List ℕ). magic_word ++ flat_map (little_bytes 4) numbers) (numbers-stored header size e)
    ∙ ap (λ (l : List ℕ). magic_word ++ l) rest
    ∙ sym (begins header size e)

-- ---- which rule is the first that is broken

-- the version of a header
abbrev version : List ℕ → ℕ
version header = slice_index (header_numbers header) 0

-- the rule of the length
abbrev length_rule : List ℕ → ℕ → Rule FileRefusal
length_rule header size = (size == file_size (stored_layout header), WrongLength (file_size (stored_layout header)) size)

-- rules of a layout, as those of a file
abbrev in_file : List (Rule LayoutRefusal) → List (Rule FileRefusal)
in_file rules = map (λ r. (r.0, Layout r.1)) rules

-- the rules after the version's, after the magic word's, and after the rule of the header's length
abbrev later_rules : List ℕ → ℕ → List (Rule FileRefusal)
later_rules header size = in_file (layout_rules (stored_layout header)) ++ length_rule header size ∷ []

abbrev version_rules : List ℕ → ℕ → List (Rule FileRefusal)
version_rules header size = (version header == 1, Version (version header)) ∷ later_rules header size

abbrev magic_rules : List ℕ → ℕ → List (Rule FileRefusal)
magic_rules header size = (starts_with nat_eq header magic_word, Magic) ∷ version_rules header size

pub layout_refusal-short : (header : List ℕ) (size : ℕ) → size < 96 → layout_refusal header size ≡ Some (Short size)
unfolding layout_refusal
layout_refusal-short header size short = one-broken (nat_le 96 size) (Short size) (magic_rules header size) (lt-leb 96 size short)

pub layout_refusal-magic : (header : List ℕ) (size : ℕ) → 96 ≤ size → starts_with nat_eq header magic_word ≡ false → layout_refusal header size ≡ Some Magic
unfolding layout_refusal
layout_refusal-magic header size long magic =
    one-kept (nat_le 96 size) (Short size) (magic_rules header size) (le-leb 96 size long)
    ∙ one-broken (starts_with nat_eq header magic_word) Magic (version_rules header size) magic

-- after the size and the magic word
version_first : (header : List ℕ) (size : ℕ) → 96 ≤ size → starts_with nat_eq header magic_word ≡ true
    → layout_refusal header size ≡ first_broken (version_rules header size)
unfolding layout_refusal
version_first header size long magic =
    one-kept (nat_le 96 size) (Short size) (magic_rules header size) (le-leb 96 size long)
    ∙ one-kept (starts_with nat_eq header magic_word) Magic (version_rules header size) magic

pub layout_refusal-version : (header : List ℕ) (size : ℕ) → 96 ≤ size → starts_with nat_eq header magic_word ≡ true → version header ≢ 1
    → layout_refusal header size ≡ Some (Version (version header))
layout_refusal-version header size long magic other =
    version_first header size long magic
    ∙ one-broken (version header == 1) (Version (version header)) (later_rules header size) (ne_eqb (version header) 1 other)

-- after the version
layout_first : (header : List ℕ) (size : ℕ) → 96 ≤ size → starts_with nat_eq header magic_word ≡ true → version header ≡ 1
    → layout_refusal header size ≡ first_broken (later_rules header size)
layout_first header size long magic one =
    version_first header size long magic
    ∙ one-kept (version header == 1) (Version (version header)) (later_rules header size) (eq-eqb (version header) 1 one)

pub layout_refusal-layout : (header : List ℕ) (size : ℕ) (refusal : LayoutRefusal) → 96 ≤ size → starts_with nat_eq header magic_word ≡ true → version header ≡ 1
    → first_broken (layout_rules (stored_layout header)) ≡ Some refusal → layout_refusal header size ≡ Some (Layout refusal)
layout_refusal-layout header size refusal long magic one broken =
    layout_first header size long magic one
    ∙ first_broken-broken (in_file (layout_rules (stored_layout header))) (length_rule header size ∷ []) (Layout refusal) (first_broken-map Layout (layout_rules (stored_layout header)) ∙ ap (option_map Layout) broken)

-- after the layout
length_first : (header : List ℕ) (size : ℕ) → 96 ≤ size → starts_with nat_eq header magic_word ≡ true → version header ≡ 1
    → first_broken (layout_rules (stored_layout header)) ≡ None → layout_refusal header size ≡ first_broken (length_rule header size ∷ [])
length_first header size long magic one kept =
    layout_first header size long magic one
    ∙ first_broken-kept (in_file (layout_rules (stored_layout header))) (length_rule header size ∷ []) (first_broken-map Layout (layout_rules (stored_layout header)) ∙ ap (option_map Layout) kept)

pub layout_refusal-length : (header : List ℕ) (size : ℕ) → 96 ≤ size → starts_with nat_eq header magic_word ≡ true → version header ≡ 1
    → first_broken (layout_rules (stored_layout header)) ≡ None → size ≢ file_size (stored_layout header)
    → layout_refusal header size ≡ Some (WrongLength (file_size (stored_layout header)) size)
layout_refusal-length header size long magic one kept other =
    let stated = file_size (stored_layout header) in
    length_first header size long magic one kept
    ∙ one-broken (size == stated) (WrongLength stated size) [] (ne_eqb size stated other)

pub layout_refusal-none : (header : List ℕ) (size : ℕ) → 96 ≤ size → starts_with nat_eq header magic_word ≡ true → version header ≡ 1
    → first_broken (layout_rules (stored_layout header)) ≡ None → size ≡ file_size (stored_layout header) → layout_refusal header size ≡ None
layout_refusal-none header size long magic one kept whole =
    let stated = file_size (stored_layout header) in
    length_first header size long magic one kept
    ∙ one-kept (size == stated) (WrongLength stated size) [] (eq-eqb size stated whole)

-- ---- what is written is accepted

starts-header : (l : LayoutNumbers) → starts_with nat_eq (header_of l) magic_word ≡ true
unfolding header_of
starts-header l = refl

version-header : (l : LayoutNumbers) → IsLayout l → version (header_of l) ≡ 1
version-header l h =
    ap (λ (parts : LayoutNumbers). version (header_of parts)) (spelled_is l h)
    ∙ ap (λ (numbers : List ℕ). slice_index numbers 0) (header_numbers-spelled l h)

pub layout_refusal-header : (l : LayoutNumbers) → IsLayout l → layout_refusal (header_of l) (file_size l) ≡ None
layout_refusal-header l h =
    let same = stored_layout-header l h in
    layout_refusal-none (header_of l) (file_size l) (omega arith) (starts-header l) (version-header l h)
    (ap (λ (parts : LayoutNumbers). first_broken (layout_rules parts)) same ∙ h.rules)
    (ap file_size (sym same))
