-- Reads one after the other, in pieces.
-- Used by the proofs of `add_chunks`, `add_records`, `read_piece`, `read_pieces` and others.
use Rattle.std.proofs.Common.{ℕ, ◌+◌, ◌≤◌, List, [], ◌∷◌, ◌++◌, Option, Some, None, sym, ap, ◌∙◌, subst, append_assoc, append-nil, arith}
use Rattle.source_io.specs.Asked.{Asks, Rising}
use Rattle.chunk_store.specs.Pieces.{Pieces, AsksPieces}

-- ---- lists of reads

-- within wider offsets
pub pieces_wider : (a b c d : ℕ) (rs : List (ℕ × ℕ)) → a ≤ b → c ≤ d → Pieces b c rs → Pieces a d rs
pieces_wider a b c d [] low high h = tt
pieces_wider a b c d (r ∷ rs) low high h = (omega arith, h.1, h.2, omega arith, pieces_wider (r.0 + 1) (r.0 + 1) c d rs (omega arith) high h.4)

-- pieces after others
pub pieces_after : (a b c : ℕ) (rs more : List (ℕ × ℕ)) → a ≤ b → b ≤ c → Pieces a b rs → Pieces b c more → Pieces a c (rs ++ more)
pieces_after a b c [] more low high h later = pieces_wider a b c c more low (omega arith) later
pieces_after a b c (r ∷ rs) more low high h later =
    (h.0, h.1, h.2, omega arith, pieces_after (r.0 + 1) b c rs more (omega arith) high h.4 later)

-- reads within at most 4,096 bytes are pieces
pieces_of_rising : (a b : ℕ) (rs : List (ℕ × ℕ)) → b ≤ a + 4096 → Rising a b rs → Pieces a b rs
pieces_of_rising a b [] short h = tt
pieces_of_rising a b (r ∷ rs) short h = (h.0, h.1, omega arith, h.2, pieces_of_rising (r.0 + 1) b rs (omega arith) h.3)

-- pieces rise
rising_of_pieces : (a b : ℕ) (rs : List (ℕ × ℕ)) → Pieces a b rs → Rising a b rs
rising_of_pieces a b [] h = tt
rising_of_pieces a b (r ∷ rs) h = (h.0, h.1, h.3, rising_of_pieces (r.0 + 1) b rs h.4)

-- ---- records of reads, if they are told

pub asks_none : (old : Option (List (ℕ × ℕ))) (a b : ℕ) → AsksPieces old old a b
asks_none None a b = λ i. None
asks_none (Some old) a b = ([], ap Some (sym (append-nil old)), tt)

pub asks_wider : (old new : Option (List (ℕ × ℕ))) (a b c d : ℕ) → a ≤ b → c ≤ d → AsksPieces old new b c → AsksPieces old new a d
asks_wider None new a b c d low high h = h
asks_wider (Some old) new a b c d low high h = (h.0, h.1, pieces_wider a b c d h.0 low high h.2)

pub asks_after : (old mid new : Option (List (ℕ × ℕ))) (a b c : ℕ) → a ≤ b → b ≤ c → AsksPieces old mid a b → AsksPieces mid new b c → AsksPieces old new a c
asks_after None mid new a b c low high h later = subst (λ m. AsksPieces m new b c) h later
asks_after (Some old) mid new a b c low high h later =
    let more : AsksPieces (Some (old ++ h.0)) new b c = subst (λ m. AsksPieces m new b c) h.1 later in
    (h.0 ++ more.0, more.1 ∙ ap Some (append_assoc old h.0 more.0), pieces_after a b c h.0 more.0 low high h.2 more.2)

pub asks_piece : (old new : Option (List (ℕ × ℕ))) (a b : ℕ) → b ≤ a + 4096 → Asks old new a b → AsksPieces old new a b
asks_piece None new a b short h = h
asks_piece (Some old) new a b short h = (h.0, h.1, pieces_of_rising a b h.0 short h.2)

pub asks_of_pieces : (old new : Option (List (ℕ × ℕ))) (a b : ℕ) → AsksPieces old new a b → Asks old new a b
asks_of_pieces None new a b h = h
asks_of_pieces (Some old) new a b h = (h.0, h.1, rising_of_pieces a b h.0 h.2)
