-- What the words of a command line ask for.
-- Used by `read_words` and by the top call of `search_run`.
use Rattle.std.specs.Prelude.{⊤, Bool, false, List, [], ◌∷◌, map, Option, None, if◌then◌else◌, codes, string_bytes, String}
use Rattle.std.specs.Global.{Global}
use Rattle.std.specs.List.{list_any}
use Rattle.std.specs.Str.{bytes_eq}
use Rattle.clap.specs.Words.{Text}
use Rattle.command_words.specs.Solo.{solo_in}
use Rattle.command_words.specs.Verify.{verify_in}
use Rattle.command_words.specs.Pack.{pack_in}
use Rattle.command_words.specs.Info.{info_in}
use Rattle.command_words.specs.Search.{HasLimits, search_in}
pub use Rattle.command_words.specs.Asked.{Command, solo, verify, pack, info, search}

-- there is a command of this name
abbrev pub is_command_name : Text → Bool
is_command_name name =
    list_any (bytes_eq name) (codes "solo" ∷ codes "verify" ∷ codes "pack" ∷ codes "info" ∷ codes "search" ∷ [])

-- the command of a name and the words after it
abbrev pub command_named : Text → List Text → Option Command
command_named name words =
    if bytes_eq name (codes "solo") then solo_in words
    else if bytes_eq name (codes "verify") then verify_in words
    else if bytes_eq name (codes "pack") then pack_in words
    else if bytes_eq name (codes "info") then info_in words
    else if bytes_eq name (codes "search") then search_in words
    else None

-- the command that the words name, if they are read
abbrev pub command_in : List Text → Option Command
command_in [] = None
command_in (name ∷ words) = command_named name words

-- the first word is the name of a command
abbrev pub names_command : List Text → Bool
names_command [] = false
names_command (name ∷ words) = is_command_name name

-- the bytes of the words that the program got
abbrev pub bytes_of_words : List (String Global) → List Text
bytes_of_words words = map string_bytes words

-- the numbers of a command are within their limits
abbrev pub IsWithinLimits : Command → Type 0
IsWithinLimits (search array query solvers validators frames strips summary) = HasLimits solvers validators frames strips
IsWithinLimits other = ⊤
